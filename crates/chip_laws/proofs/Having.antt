-- A circuit that draws a net has its pads.
use Rattle.std.proofs.Common.{◌≡◌, ◌⊎◌, inl, inr, ◌∙◌, ℕ, zero, suc, ◌<◌, List, [], ◌∷◌, length, get_or, refl, sym, ap}
use Rattle.std.proofs.Common.{subst, arith, Some}
use Rattle.std.specs.Prelude.{All, Contains, slice_get, flat_map, codes}
use Rattle.std.specs.List.{AllZip}
use Rattle.std.proofs.lemmas.List.Elements.{Contains-append_cases}
use Rattle.std.proofs.lemmas.Option.{same_Some}
use Rattle.mp_base.specs.declared.pad.Pad.{Pad}
use Rattle.mp_base.specs.declared.pad.Pads.{Pads}
use Rattle.mp_base.proofs.Entries.{contains_from_get, all_at}
use Rattle.switch_net.specs.declared.network.Tag.{Tag}
use Rattle.switch_net.specs.declared.network.Network.{Network}
use Rattle.switch_net.specs.Breaks.{MeetsDriver, IsMissing}
use Rattle.switch_net.specs.Clock.{IsLabelled}
use Rattle.switch_net.specs.Pads.{bit_labels, driver_labels, chip_labels}
use Rattle.nor_net.specs.declared.net.Phase.TheVariants.{A, B, C}
use Rattle.nor_net.specs.Elements.{Spot, Given, Nets}
use Rattle.drawn_nets.specs.Law.{IsKind}
use Rattle.drawing.specs.Draws.{Point, OfNet, Ground, Power, OfPhase, IsOwn, HasOwnNode}
use Rattle.drawn_nets.specs.Circuits.{IsPadAt, DrawsCircuit}
use Rattle.chip_laws.specs.Laws.{AreRowsApart, CircuitsHavePads}

-- the bit of a pad that has a name, and its net
record Bit (pads : List Pad) (rows : List (List Spot)) (name : List ℕ) (n : Spot) : Type 0 where
  a : ℕ
  k : ℕ
  pad : Pad
  row : List Spot
  is_pad : slice_get pads a ≡ Some pad
  is_row : slice_get rows a ≡ Some row
  is_name : slice_get (bit_labels pad) k ≡ Some name
  is_net : slice_get row k ≡ Some n

-- the name of a driver by its place in the drawing
abbrev Named : Pads → List (List Spot) → List ℕ → Point → Type 0
Named pads ins name Ground = codes "gnd" ≡ name
Named pads ins name Power = codes "vdd" ≡ name
Named pads ins name (OfPhase A) = codes "phia" ≡ name
Named pads ins name (OfPhase B) = codes "phib" ≡ name
Named pads ins name (OfPhase C) = codes "phic" ≡ name
Named pads ins name (OfNet n) = Bit pads.inputs ins name n

one_name : (pads : Pads) (ins : List (List Spot)) → AreRowsApart ins → (p q : List ℕ) (at : Point)
    → Named pads ins p at → Named pads ins q at → p ≡ q
one_name pads ins apart p q Ground x y = sym x ∙ y
one_name pads ins apart p q Power x y = sym x ∙ y
one_name pads ins apart p q (OfPhase A) x y = sym x ∙ y
one_name pads ins apart p q (OfPhase B) x y = sym x ∙ y
one_name pads ins apart p q (OfPhase C) x y = sym x ∙ y
one_name pads ins apart p q (OfNet n) x y =
    let s = apart x.a y.a x.k y.k n x.row y.row x.is_row y.is_row x.is_net y.is_net in
    let pad : x.pad ≡ y.pad = same_Some x.pad y.pad (sym x.is_pad ∙ ap (λ a. slice_get pads.inputs a) s.0 ∙ y.is_pad) in
    same_Some p q (sym x.is_name ∙ ap (λ z. slice_get (bit_labels z) x.k) pad
    ∙ ap (λ k. slice_get (bit_labels y.pad) k) s.1 ∙ y.is_name)

module _ (network : Network) (node : Point → ℕ) where
  in_row : (labels : List (List ℕ)) (nets : List Spot) (name : List ℕ)
      → AllZip (λ label net. IsLabelled network label (node (OfNet net))) labels nets
      → (k : ℕ) → k < length labels → get_or labels k name ≡ name
      → (n : Spot) × (slice_get labels k ≡ Some name) × (slice_get nets k ≡ Some n)
      × IsLabelled network name (node (OfNet n))
  in_row [] nets name z k lt e = absurd (omega (arith, lt))
  in_row (l ∷ ls) [] name z k lt e = absurd z
  in_row (l ∷ ls) (n ∷ ns) name z zero lt e = (
    n,
    ap Some e,
    refl,
    subst (λ x. IsLabelled network x (node (OfNet n))) e z.0,
  )
  in_row (l ∷ ls) (n ∷ ns) name z (suc k) lt e = in_row ls ns name z.1 k (omega (arith, lt)) e

  next_bit : (p : Pad) (ps : List Pad) (r : List Spot) (rs : List (List Spot)) (name : List ℕ) (n : Spot)
      → Bit ps rs name n → Bit (p ∷ ps) (r ∷ rs) name n
  next_bit p ps r rs name n b = record {
    a = suc b.a;
    k = b.k;
    pad = b.pad;
    row = b.row;
    is_pad = b.is_pad;
    is_row = b.is_row;
    is_name = b.is_name;
    is_net = b.is_net;
  }

  in_pads : (pads : List Pad) (rows : List (List Spot)) (name : List ℕ) → AllZip (IsPadAt network node) pads rows
      → Contains (flat_map bit_labels pads) name
      → (n : Spot) × Bit pads rows name n × IsLabelled network name (node (OfNet n))
  in_pads [] rows name z c = absurd (let l = c.1 in omega (arith, l))
  in_pads (p ∷ ps) [] name z c = absurd z
  in_pads (p ∷ ps) (r ∷ rs) name z c = by_side (Contains-append_cases (bit_labels p) (flat_map bit_labels ps) name c)
      (λ there. in_pads ps rs name z.1 there)
    where
      by_side : Contains (bit_labels p) name ⊎ Contains (flat_map bit_labels ps) name
          → (Contains (flat_map bit_labels ps) name → (n : Spot) × Bit ps rs name n
          × IsLabelled network name (node (OfNet n)))
          → (n : Spot) × Bit (p ∷ ps) (r ∷ rs) name n × IsLabelled network name (node (OfNet n))
      by_side (inl here) rest =
          let w = in_row (bit_labels p) r name z.0 here.0 here.1 here.2 in (
            w.0,
            record {
              a = 0;
              k = here.0;
              pad = p;
              row = r;
              is_pad = refl;
              is_row = refl;
              is_name = w.1;
              is_net =
                  w.2;
            },
            w.3,
          )
      by_side (inr there) rest = let w = rest there in (w.0, next_bit p ps r rs name w.0 w.1, w.2)

  module _ (pads : Pads) (net : Nets) (ins outs : List (List Spot))
      (draws : DrawsCircuit network pads net ins outs node) where
    -- where a driver stands in the drawing
    record Stands (name : List ℕ) : Type 0 where
      at : Point
      own : HasOwnNode net at
      on : IsLabelled network name (node at)
      named : Named pads ins name at

    input_own : (n : Spot) → IsKind net n Given → HasOwnNode net (OfNet n)
    input_own n e = subst IsOwn (sym e) tt

    of_input : (name : List ℕ) → Contains (flat_map bit_labels pads.inputs) name → Stands name
    of_input name c =
        let w = in_pads pads.inputs ins name draws.inputs c in
        let b = w.1 in
        let row = all_at (λ nets. All (λ k. IsKind net k Given) nets) ins b.a b.row draws.are_inputs b.is_row in
        record {
          at = OfNet w.0;
          own = input_own w.0 (all_at (λ k. IsKind net k Given) b.row b.k w.0 row b.is_net);
          on = w.2;
          named = w.1;
        }

    stands : (name : List ℕ) (k : ℕ) → k < length (driver_labels pads.inputs)
        → get_or (driver_labels pads.inputs) k name ≡ name → Stands name
    stands name zero lt e = record {
      at = Power;
      own = tt;
      on =
          subst (λ x. IsLabelled network x (node Power)) e draws.power;
      named = e;
    }
    stands name (suc zero) lt e = record {
      at = Ground;
      own = tt;
      on =
          subst (λ x. IsLabelled network x (node Ground)) e draws.ground;
      named = e;
    }
    stands name (suc (suc zero)) lt e = record {
      at = OfPhase A;
      own = tt;
      on =
          subst (λ x. IsLabelled network x (node (OfPhase A))) e draws.phia;
      named = e;
    }
    stands name (suc (suc (suc zero))) lt e = record {
      at = OfPhase B;
      own = tt;
      on =
          subst (λ x. IsLabelled network x (node (OfPhase B))) e draws.phib;
      named = e;
    }
    stands name (suc (suc (suc (suc zero)))) lt e = record {
      at = OfPhase C;
      own = tt;
      on =
          subst (λ x. IsLabelled network x (node (OfPhase C))) e draws.phic;
      named = e;
    }
    stands name (suc (suc (suc (suc (suc k))))) lt e = of_input name (k, omega (arith, lt), e)

    -- the node of a driver's tag
    on_node : (tag : Tag) → Contains network.tags tag → (s : Stands tag.name) → tag.node ≡ node s.at
    on_node tag c s = let t = s.on in network.one_node_each tag t.0 c t.1 (sym t.2) ∙ t.3

    no_meeting : AreRowsApart ins → (i : ℕ) → ¬ MeetsDriver (driver_labels pads.inputs) network.tags i
    no_meeting apart i m =
        let tag = m.0 in
        let d = m.1 in
        let s : Stands tag.name = stands tag.name d.driver.0 d.driver.1 d.driver.2 in
        let t : Stands d.earlier.name = stands d.earlier.name d.another.0 d.another.1 d.another.2 in
        let here : tag.node ≡ node s.at = on_node tag (contains_from_get network.tags i tag d.at) s in
        let there : d.earlier.node ≡ node t.at =
        on_node d.earlier (contains_from_get network.tags d.j d.earlier d.there) t in
        let same : t.at ≡ s.at = draws.draws.apart t.at s.at t.own s.own (sym there ∙ d.node ∙ here) in
        d.names (one_name pads ins apart d.earlier.name tag.name s.at
        (subst (Named pads ins d.earlier.name) same t.named) s.named)

    is_labelled : (name : List ℕ) → Contains (chip_labels pads) name → (n : ℕ) × IsLabelled network name n
    is_labelled name c = by_side (Contains-append_cases (driver_labels pads.inputs)
        (flat_map bit_labels pads.outputs) name c)
      where
        by_side : Contains (driver_labels pads.inputs) name ⊎ Contains (flat_map bit_labels pads.outputs) name
            → (n : ℕ) × IsLabelled network name n
        by_side (inl h) = let s = stands name h.0 h.1 h.2 in (node s.at, s.on)
        by_side (inr h) = let w = in_pads pads.outputs outs name draws.outputs h in (node (OfNet w.0), w.2)

    none_missing : (i : ℕ) (name : List ℕ) → ¬ IsMissing network (chip_labels pads) i name
    none_missing i name m =
        let (_, (tag, among, is_name, _)) = is_labelled name (contains_from_get (chip_labels pads) i name m.at) in
        m.none tag among is_name

pub circuits_have_pads : CircuitsHavePads
circuits_have_pads network pads net ins outs node draws apart = record {
  apart = no_meeting network node pads net ins outs draws apart;
  labelled = none_missing network node pads net ins outs draws;
}
