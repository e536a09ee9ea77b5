-- From settings with inputs of their own to clocks in which what is given is held.
use Rattle.std.proofs.Common.{◌≡◌, ℕ, zero, suc, List, [], ◌∷◌, Option, map, refl, sym, ◌∙◌, ap, subst, arith}
use Rattle.std.specs.Prelude.{Contains}
use Rattle.std.specs.List.{AllZip}
use Rattle.mp_base.specs.declared.value.Trit.{Trit}
use Rattle.mp_base.specs.declared.pad.Pad.{Pad}
use Rattle.mp_base.specs.declared.pad.Pads.{Pads}
use Rattle.switch_net.specs.declared.network.Network.{Network}
use Rattle.mp_base.specs.PadBits.{pad_bits}
use Rattle.nor_net.specs.declared.net.Phase.{Phase}
use Rattle.nor_net.specs.Elements.{Spot, Given, Nor, Latched, Joined, Low, Nets}
use Rattle.nor_net.specs.Settled as nor
use Rattle.nor_net.specs.Clock.{RunsBy, IsLooseTrace, settings_until_outputs, settings_after_outputs}
use Rattle.drawing.specs.Draws.{Point, OfNet}
use Rattle.drawn_nets.specs.Law.{IsKind, SolutionsAreDrawn}
use Rattle.drawn_nets.specs.Circuits.{DrawsCircuit, AreGiven, CircuitsAreDrawn}
use Rattle.drawn_nets.proofs.NetTrace.{NetRunsTo, IsNetTrace}
use Rattle.drawn_nets.proofs.Labelled as labelled

same_bits : (f g : Spot → Trit) (nets : List Spot) (bits : List Trit) → AllZip (λ net bit. f net ≡ bit) nets bits
    → AllZip (λ net bit. g net ≡ bit) nets bits
    → (k : Spot) → Contains nets k → f k ≡ g k
same_bits f g [] bits a b k c = absurd (omega (arith, c.1))
same_bits f g (n ∷ ns) [] a b k c = absurd a
same_bits f g (n ∷ ns) (x ∷ xs) a b k (zero, lt, e) = ap f (sym e) ∙ a.0 ∙ sym b.0 ∙ ap g e
same_bits f g (n ∷ ns) (x ∷ xs) a b k (suc i, lt, e) = same_bits f g ns xs a.1 b.1 k (i, omega (arith, lt), e)

same_given : (f g : Spot → Trit) (pads : List Pad) (words : List ℕ) (ins : List (List Spot))
    → AreGiven f pads words ins → AreGiven g pads words ins
    → (nets : List Spot) → Contains ins nets → (k : Spot) → Contains nets k → f k ≡ g k
same_given f g pads words [] a b nets c k d = absurd (omega (arith, c.1))
same_given f g [] [] (i ∷ is) a b nets c k d = absurd a
same_given f g [] (w ∷ ws) (i ∷ is) a b nets c k d = absurd a
same_given f g (p ∷ ps) [] (i ∷ is) a b nets c k d = absurd a
same_given f g (p ∷ ps) (w ∷ ws) (i ∷ is) a b nets (zero, lt, e) k d =
    same_bits f g i (pad_bits p w) a.0 b.0 k (subst (λ xs. Contains xs k) (sym e) d)
same_given f g (p ∷ ps) (w ∷ ws) (i ∷ is) a b nets (suc n, lt, e) k d =
    same_given f g ps ws is a.1 b.1 nets (n, omega (arith, lt), e) k d

module _ (network : Network) (pads : Pads) (net : Nets) (ins outs : List (List Spot)) (node : Point → ℕ)
    (d : DrawsCircuit network pads net ins outs node) where
  -- a solution with other inputs that are the same at the pads
  other_inputs : (p : Option Phase) (f g before u : Spot → Trit) → ((k : Spot) → IsKind net k Given → f k ≡ g k)
      → nor.IsSolution (record { nets = net; phase = p; given = f; before = before }) u
      → nor.IsSolution (record { nets = net; phase = p; given = g; before = before }) u
  other_inputs p f g before u same sol n Given h = sol n Given h ∙ same n h
  other_inputs p f g before u same sol n (Nor inputs) h = sol n (Nor inputs) h
  other_inputs p f g before u same sol n (Latched q m) h = sol n (Latched q m) h
  other_inputs p f g before u same sol n (Joined m) h = sol n (Joined m) h
  other_inputs p f g before u same sol n Low h = sol n Low h

  agree : (words : List ℕ) (f g : Spot → Trit) → AreGiven f pads.inputs words ins → AreGiven g pads.inputs words ins
      → (k : Spot) → IsKind net k Given → f k ≡ g k
  agree words f g a b k h = let w = d.all_inputs k h in same_given f g pads.inputs words ins a b w.0 w.1 k w.2

  runs : (words : List ℕ) (g : Spot → Trit) → AreGiven g pads.inputs words ins
      → (ps : List (Option Phase)) (before after : Spot → Trit)
      → NetRunsTo net pads.inputs ins words ps before after → RunsBy nor.IsSolution net g ps before after
  runs words g given [] before after r = r
  runs words g given (p ∷ ps) before after r = (
    r.0,
    other_inputs p r.1.inputs g before r.0 (agree words r.1.inputs g r.1.given given) r.1.settled,
    runs words g given ps r.0 after r.2,
  )

  trace : (before after : Spot → Trit) (inputs : List (List ℕ)) (shown : List (List (List Trit)))
      → IsNetTrace net pads.inputs ins outs before inputs shown after
      → (givens showns : List (Spot → Trit)) × IsLooseTrace net before givens showns after
      × AllZip (λ words given. AreGiven given pads.inputs words ins) inputs givens
      × (shown ≡ map (λ v. map (λ nets. map v nets) outs) showns)
  trace before after [] [] t = ([], [], t, tt, refl)
  trace before after [] (o ∷ os) t = absurd t
  trace before after (w ∷ ws) [] t = absurd t
  trace before after (w ∷ ws) (o ∷ os) t =
      let c = t.1 in
      let g : Spot → Trit = c.until.1.inputs in
      let given = c.until.1.given in
      let rest = trace t.0 after ws os t.2 in (
        g ∷ rest.0,
        c.values ∷ rest.1,
        (
          t.0,
          record {
            until = runs w g given settings_until_outputs before c.values c.until;
            rest = runs w g given settings_after_outputs c.values t.0 c.rest;
          },
          rest.2,
        ),
        (given, rest.3),
        (λ i. c.shows i ∷ rest.4 i),
      )

pub circuits_hold : SolutionsAreDrawn → CircuitsAreDrawn
circuits_hold law network pads net ins outs node d before after inputs shown fit t =
    trace network pads net ins outs node d (λ k. before (node (OfNet k))) (λ k. after (node (OfNet k))) inputs shown
    (labelled.trace network pads net ins outs node d law before after inputs shown fit t)
