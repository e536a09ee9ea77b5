-- From the labels of a circuit to the law of drawing, and from settings to clocks.
use Rattle.std.proofs.Common.{get_or, ◌≡◌, ℕ, suc, ◌<◌, List, [], ◌∷◌, Option, Some, None, length, map, refl, sym, ◌∙◌}
use Rattle.std.proofs.Common.{ap, subst, arith}
use Rattle.std.specs.Prelude.{Contains, All, codes}
use Rattle.std.specs.List.{AllZip}
use Rattle.std.proofs.lemmas.List.{get_or_default}
use Rattle.std.proofs.lemmas.List.Elements.{
  All-nil,
  All-cons,
  All-append,
  All-contains,
  Contains-append_left,
  Contains-append_right,
}
use Rattle.mp_base.specs.declared.value.Trit.{Trit}
use Rattle.mp_base.specs.declared.value.Trit.TheVariants.{Zero, One, X}
use Rattle.mp_base.specs.declared.pad.Pad.{Pad}
use Rattle.mp_base.specs.declared.pad.Pads.{Pads}
use Rattle.switch_net.specs.declared.network.Network.{Network}
use Rattle.switch_net.specs.Pads.{bit_labels}
use Rattle.mp_base.specs.PadBits.{pad_bits, Fit}
use Rattle.switch_net.specs.Clock.{
  Phases,
  Drive,
  drive,
  bit_drives,
  input_drives,
  drives,
  IsLabelled,
  AreDrivers,
  SettlesTo,
  RunsTo,
  HasValue,
  Shows,
  IsClock,
  IsCircuitTrace,
}
use Rattle.switch_net.proofs.Labels.{labels_of_bits, one_node}
use Rattle.nor_net.specs.declared.net.Phase.{Phase}
use Rattle.nor_net.specs.declared.net.Phase.TheVariants.{A, B, C}
use Rattle.nor_net.specs.Elements.{Spot, Given, Nets}
use Rattle.nor_net.specs.Clock.{settings_until_outputs, settings_after_outputs}
use Rattle.drawing.specs.Draws.{Point, OfNet, Ground, Power, OfPhase, HasOwnNode}
use Rattle.drawn_nets.specs.Law.{IsKind, IsDriven, SolutionsAreDrawn}
use Rattle.drawn_nets.specs.Circuits.{IsPadAt, DrawsCircuit, AreGiven}
use Rattle.drawn_nets.proofs.NetTrace.{NetSettlesTo, NetRunsTo, IsNetClock, IsNetTrace}
use Rattle.drawn_nets.proofs.Near.{own_gate, own_latch, same_net, not_ground, not_power, own_input}

-- ---- phases

abbrev pub level : Option Phase → Phase → Trit
level None p = Zero
level (Some A) A = One
level (Some A) B = Zero
level (Some A) C = Zero
level (Some B) A = Zero
level (Some B) B = One
level (Some B) C = Zero
level (Some C) A = Zero
level (Some C) B = Zero
level (Some C) C = One

abbrev pub phases_at : Option Phase → Phases
phases_at o = record { phia = level o A; phib = level o B; phic = level o C }

level_on : (o : Option Phase) (p : Phase) → o ≡ Some p → level o p ≡ One
level_on None p e = absurd (cc)
level_on (Some A) A e = refl
level_on (Some A) B e = absurd (cc)
level_on (Some A) C e = absurd (cc)
level_on (Some B) A e = absurd (cc)
level_on (Some B) B e = refl
level_on (Some B) C e = absurd (cc)
level_on (Some C) A e = absurd (cc)
level_on (Some C) B e = absurd (cc)
level_on (Some C) C e = refl

level_off : (o : Option Phase) (p : Phase) → (o ≡ Some p → ⊥) → level o p ≡ Zero
level_off None p n = refl
level_off (Some A) A n = absurd (n refl)
level_off (Some A) B n = refl
level_off (Some A) C n = refl
level_off (Some B) A n = refl
level_off (Some B) B n = absurd (n refl)
level_off (Some B) C n = refl
level_off (Some C) A n = refl
level_off (Some C) B n = refl
level_off (Some C) C n = absurd (n refl)

-- ---- labels and bits

abbrev value_or : Option Trit → Trit
value_or (Some t) = t
value_or None = X

module _ (network : Network) (pads : Pads) (net : Nets) (ins outs : List (List Spot)) (node : Point → ℕ)
    (d : DrawsCircuit network pads net ins outs node) where
  -- what drives a node
  data Origin (n : ℕ) : Type 0 where
    at_ground : n ≡ node Ground → Origin n
    at_power : n ≡ node Power → Origin n
    at_phase : (p : Phase) → n ≡ node (OfPhase p) → Origin n
    at_input : (k : Spot) → IsKind net k Given → n ≡ node (OfNet k) → Origin n

  abbrev HasOrigin : Drive → Type 0
  HasOrigin x = (n : ℕ) → IsLabelled network x.name n → Origin n

  bit_origins : (labels : List (List ℕ)) (bits : List Trit) (nets : List Spot)
      → AllZip (λ label k. IsLabelled network label (node (OfNet k))) labels nets
      → All (λ k. IsKind net k Given) nets → All HasOrigin (bit_drives labels bits)
  bit_origins [] bits nets z a = All-nil HasOrigin
  bit_origins (l ∷ ls) [] nets z a = All-nil HasOrigin
  bit_origins (l ∷ ls) (b ∷ bs) [] z a = absurd z
  bit_origins (l ∷ ls) (b ∷ bs) (k ∷ ks) z a =
      All-cons HasOrigin (drive l b) (bit_drives ls bs)
      (λ n at. at_input k (a 0 k (omega arith)) (one_node network l n (node (OfNet k)) at z.0))
      (bit_origins ls bs ks z.1 (λ j x lt. a (suc j) x (omega arith)))

  input_origins : (ps : List Pad) (words : List ℕ) (is : List (List Spot)) → AllZip (IsPadAt network node) ps is
      → All (λ nets. All (λ k. IsKind net k Given) nets) is → All HasOrigin (input_drives ps words)
  input_origins [] words is z a = All-nil HasOrigin
  input_origins (p ∷ ps) [] is z a = All-nil HasOrigin
  input_origins (p ∷ ps) (w ∷ ws) [] z a = absurd z
  input_origins (p ∷ ps) (w ∷ ws) (i ∷ is) z a =
      All-append HasOrigin (bit_drives (bit_labels p) (pad_bits p w)) (input_drives ps ws)
      (bit_origins (bit_labels p) (pad_bits p w) i z.0 (a 0 i (omega arith)))
      (input_origins ps ws is z.1 (λ j x lt. a (suc j) x (omega arith)))

  module _ (o : Option Phase) (words : List ℕ) (fit : Fit pads.inputs words) (driver : ℕ → Option Trit)
      (are : AreDrivers network (drives (phases_at o) pads.inputs words) driver) where
    abbrev all : List Drive
    all = drives (phases_at o) pads.inputs words

    abbrev rest : List Drive
    rest = input_drives pads.inputs words

    origins : All HasOrigin all
    origins =
        let e = drive (codes "phic") (level o C) ∷ rest in
        let c = drive (codes "phib") (level o B) ∷ e in
        let b = drive (codes "phia") (level o A) ∷ c in
        let a = drive (codes "gnd") Zero ∷ b in
        All-cons HasOrigin (drive (codes "vdd") One) a
        (λ n at. at_power (one_node network (codes "vdd") n (node Power) at d.power))
        (All-cons HasOrigin (drive (codes "gnd") Zero) b
        (λ n at. at_ground (one_node network (codes "gnd") n (node Ground) at d.ground))
        (All-cons HasOrigin (drive (codes "phia") (level o A)) c
        (λ n at. at_phase A (one_node network (codes "phia") n (node (OfPhase A)) at d.phia))
        (All-cons HasOrigin (drive (codes "phib") (level o B)) e
        (λ n at. at_phase B (one_node network (codes "phib") n (node (OfPhase B)) at d.phib))
        (All-cons HasOrigin (drive (codes "phic") (level o C)) rest
        (λ n at. at_phase C (one_node network (codes "phic") n (node (OfPhase C)) at d.phic))
        (input_origins pads.inputs words ins d.inputs d.are_inputs)))))

    origin : (n : ℕ) (b : Trit) → driver n ≡ Some b → Origin n
    origin n b e =
        let h = are.only n b e in
        All-contains HasOrigin all h.0 origins h.1 n h.2

    -- a net that is no input is driven by nothing
    undriven : (k : Spot) → HasOwnNode net (OfNet k) → (IsKind net k Given → ⊥) → driver (node (OfNet k)) ≡ None
    undriven k own no_input = by_driver (driver (node (OfNet k))) refl
      where
        never : Origin (node (OfNet k)) → ⊥
        never (at_ground e) = not_ground net network.channels node d.is_fed d.draws k own e
        never (at_power e) = not_power net network.channels node d.is_fed d.draws k own e
        never (at_phase p e) = let same : OfNet k ≡ OfPhase p = d.draws.apart (OfNet k) (OfPhase p) own tt e in cc
        never (at_input j h e) =
            no_input (subst (λ x. IsKind net x Given) (sym
            (same_net net network.channels node d.is_fed d.draws k j own
            (own_input net network.channels node d.is_fed d.draws j h) e)) h)

        by_driver : (x : Option Trit) → driver (node (OfNet k)) ≡ x → driver (node (OfNet k)) ≡ None
        by_driver None e = e
        by_driver (Some b) e = absurd (never (origin (node (OfNet k)) b e))

    -- the nets of the bits of pads are driven to them
    abbrev AreBits : List Spot → List Trit → Type 0
    AreBits nets bits = AllZip (λ k bit. driver (node (OfNet k)) ≡ Some bit) nets bits

    abbrev AreDriven : List Pad → List ℕ → List (List Spot) → Type 0
    AreDriven (p ∷ ps) (w ∷ ws) (nets ∷ is) = AreBits nets (pad_bits p w) × AreDriven ps ws is
    AreDriven [] [] [] = Unit {0}
    AreDriven _ _ _ = ⊥

    abbrev Drives : List Drive → Type 0
    Drives ds = All (λ (x : Drive). (n : ℕ) → IsLabelled network x.name n → driver n ≡ Some x.value) ds

    bits_driven : (labels : List (List ℕ)) (bits : List Trit) (nets : List Spot) → length labels ≡ length bits
        → AllZip (λ label k. IsLabelled network label (node (OfNet k))) labels nets
        → Drives (bit_drives labels bits) → AreBits nets bits
    bits_driven [] [] [] e z a = tt
    bits_driven [] [] (k ∷ ks) e z a = absurd z
    bits_driven [] (b ∷ bs) nets e z a = absurd (omega arith)
    bits_driven (l ∷ ls) [] nets e z a = absurd (omega arith)
    bits_driven (l ∷ ls) (b ∷ bs) [] e z a = absurd z
    bits_driven (l ∷ ls) (b ∷ bs) (k ∷ ks) e z a = (
      a 0 (drive l b) (omega arith) (node (OfNet k)) z.0,
      bits_driven ls bs ks (omega arith) z.1 (λ j x lt. a (suc j) x (omega arith)),
    )

    inputs_driven : (ps : List Pad) (ws : List ℕ) (is : List (List Spot)) → Fit ps ws
        → AllZip (IsPadAt network node) ps is → ((x : Drive) → Contains (input_drives ps ws) x → (n : ℕ)
        → IsLabelled network x.name n → driver n ≡ Some x.value) → AreDriven ps ws is
    inputs_driven [] [] [] f z a = tt
    inputs_driven [] [] (i ∷ is) f z a = absurd z
    inputs_driven [] (w ∷ ws) is f z a = absurd f
    inputs_driven (p ∷ ps) [] is f z a = absurd f
    inputs_driven (p ∷ ps) (w ∷ ws) [] f z a = absurd z
    inputs_driven (p ∷ ps) (w ∷ ws) (i ∷ is) f z a = (
      bits_driven (bit_labels p) (pad_bits p w) i (labels_of_bits p.name p.width w) z.0
          (λ j x lt. a _ (Contains-append_left (bit_drives (bit_labels p) (pad_bits p w)) (input_drives ps ws) _
          (at_place (bit_drives (bit_labels p) (pad_bits p w)) j x lt))),
      inputs_driven ps ws is f.1 z.1 (λ x c. a x (Contains-append_right (bit_drives (bit_labels p) (pad_bits p w))
          (input_drives ps ws) x c)),
    )
      where
        at_place : (ds : List Drive) (j : ℕ) (x : Drive) → j < length ds → Contains ds (get_or ds j x)
        at_place ds j x lt = (j, lt, get_or_default ds j (get_or ds j x) x lt)

    pads_driven : AreDriven pads.inputs words ins
    pads_driven = inputs_driven pads.inputs words ins fit d.inputs
        (λ x c n at. are.each x n (suc (suc (suc (suc (suc c.0)))), omega (arith, c.1), c.2) at)

    abbrev inputs : Spot → Trit
    inputs k = value_or (driver (node (OfNet k)))

    bits_given : (nets : List Spot) (bits : List Trit) → AreBits nets bits → AllZip (λ k bit. inputs k ≡ bit) nets bits
    bits_given [] [] z = tt
    bits_given [] (b ∷ bs) z = absurd z
    bits_given (k ∷ ks) [] z = absurd z
    bits_given (k ∷ ks) (b ∷ bs) z = (ap value_or z.0, bits_given ks bs z.1)

    are_given : (ps : List Pad) (ws : List ℕ) (is : List (List Spot)) → AreDriven ps ws is → AreGiven inputs ps ws is
    are_given [] [] [] z = tt
    are_given [] [] (i ∷ is) z = absurd z
    are_given [] (w ∷ ws) is z = absurd z
    are_given (p ∷ ps) [] is z = absurd z
    are_given (p ∷ ps) (w ∷ ws) [] z = absurd z
    are_given (p ∷ ps) (w ∷ ws) (i ∷ is) z = (bits_given i (pad_bits p w) z.0, are_given ps ws is z.1)

    abbrev IsForced : Spot → Type 0
    IsForced k = driver (node (OfNet k)) ≡ Some (inputs k)

    bits_forced : (nets : List Spot) (bits : List Trit) → AreBits nets bits → All IsForced nets
    bits_forced [] bits z = All-nil IsForced
    bits_forced (k ∷ ks) [] z = absurd z
    bits_forced (k ∷ ks) (b ∷ bs) z = All-cons IsForced k ks (z.0 ∙ ap (λ t. Some (value_or t)) (sym z.0))
        (bits_forced ks bs z.1)

    forced : (ps : List Pad) (ws : List ℕ) (is : List (List Spot)) → AreDriven ps ws is
        → All (λ nets. All IsForced nets) is
    forced ps ws [] z = All-nil (λ nets. All IsForced nets)
    forced [] [] (i ∷ is) z = absurd z
    forced [] (w ∷ ws) (i ∷ is) z = absurd z
    forced (p ∷ ps) [] (i ∷ is) z = absurd z
    forced (p ∷ ps) (w ∷ ws) (i ∷ is) z = All-cons (λ nets. All IsForced nets) i is
        (bits_forced i (pad_bits p w) z.0) (forced ps ws is z.1)

    input_forced : (k : Spot) → IsKind net k Given → IsForced k
    input_forced k h =
        let w = d.all_inputs k h in
        All-contains IsForced w.0 k (All-contains (λ nets. All IsForced nets) ins w.0
        (forced pads.inputs words ins pads_driven) w.1) w.2

    phase_driven : (p : Phase) → driver (node (OfPhase p)) ≡ Some (level o p)
    phase_driven A = are.each (drive (codes "phia") (level o A)) (node (OfPhase A)) (2, omega arith, refl) d.phia
    phase_driven B = are.each (drive (codes "phib") (level o B)) (node (OfPhase B)) (3, omega arith, refl) d.phib
    phase_driven C = are.each (drive (codes "phic") (level o C)) (node (OfPhase C)) (4, omega arith, refl) d.phic

    is_driven : (before : Spot → Trit) → IsDriven (record {
      nets = net;
      phase = o;
      given = inputs;
      before =
          before;
    }) node driver
    is_driven before = record {
      ground = are.each (drive (codes "gnd") Zero) (node Ground) (1, omega arith, refl) d.ground;
      power = are.each (drive (codes "vdd") One) (node Power) (0, omega arith, refl) d.power;
      phase_on = λ p e. phase_driven p ∙ ap (λ t. Some t) (level_on o p e);
      phase_off = λ p n. phase_driven p ∙ ap (λ t. Some t) (level_off o p n);
      input = λ k h. input_forced k h;
      gate = λ k is h. undriven k (own_gate net network.channels node d.is_fed d.draws k is h) (λ i. absurd (cc));
      latch = λ k p s h. undriven k (own_latch net network.channels node d.is_fed d.draws k p s h) (λ i. absurd (cc));
    }

  -- ---- settings and clocks

  module _ (law : SolutionsAreDrawn) where
    settles : (o : Option Phase) (words : List ℕ) (before after : ℕ → Trit) → Fit pads.inputs words
        → SettlesTo network (drives (phases_at o) pads.inputs words) before after
        → NetSettlesTo net pads.inputs ins words o (λ k. before (node (OfNet k))) (λ k. after (node (OfNet k)))
    settles o words before after fit s = record {
      inputs = inputs o words fit s.driver s.drivers;
      given = are_given o words fit s.driver s.drivers pads.inputs words ins
          (pads_driven o words fit s.driver s.drivers);
      settled = law (record {
        nets = net;
        phase = o;
        given = inputs o words fit s.driver s.drivers;
        before =
            λ k. before (node (OfNet k));
      })
          (record { channels = network.channels; driver = s.driver; before = before }) node after d.is_fed d.draws
          (is_driven o words fit s.driver s.drivers (λ k. before (node (OfNet k))))
          (λ k p x h. refl) s.settled.solution;
    }

    runs : (ps : List (Option Phase)) (words : List ℕ) (before after : ℕ → Trit) → Fit pads.inputs words
        → RunsTo network pads.inputs words (map phases_at ps) before after
        → NetRunsTo net pads.inputs ins words ps (λ k. before (node (OfNet k))) (λ k. after (node (OfNet k)))
    runs [] words before after fit r = λ k. r (node (OfNet k))
    runs (p ∷ ps) words before after fit r = (
      (λ k. r.0 (node (OfNet k))),
      settles p words before r.0 fit r.1,
      runs ps words r.0 after fit r.2,
    )

    module _ (values : ℕ → Trit) where
      abbrev at : Spot → Trit
      at k = values (node (OfNet k))

      bits_shown : (labels : List (List ℕ)) (bits : List Trit) (nets : List Spot)
          → AllZip (HasValue network values) labels bits
          → AllZip (λ label k. IsLabelled network label (node (OfNet k))) labels nets → bits ≡ map at nets
      bits_shown [] [] [] h z = refl
      bits_shown [] [] (k ∷ ks) h z = absurd z
      bits_shown [] (b ∷ bs) nets h z = absurd h
      bits_shown (l ∷ ls) [] nets h z = absurd h
      bits_shown (l ∷ ls) (b ∷ bs) [] h z = absurd z
      bits_shown (l ∷ ls) (b ∷ bs) (k ∷ ks) h z =
          let e : values (node (OfNet k)) ≡ b = ap values (one_node network l (node (OfNet k)) h.0.0 z.0 h.0.1)
          ∙ h.0.2 in
          let t : bs ≡ map at ks = bits_shown ls bs ks h.1 z.1 in
          λ i. sym e i ∷ t i

      pads_shown : (ps : List Pad) (shown : List (List Trit)) (os : List (List Spot))
          → AllZip (Shows network values) ps shown → AllZip (IsPadAt network node) ps os
          → shown ≡ map (λ nets. map at nets) os
      pads_shown [] [] [] h z = refl
      pads_shown [] [] (o ∷ os) h z = absurd z
      pads_shown [] (b ∷ bs) os h z = absurd h
      pads_shown (p ∷ ps) [] os h z = absurd h
      pads_shown (p ∷ ps) (b ∷ bs) [] h z = absurd z
      pads_shown (p ∷ ps) (b ∷ bs) (o ∷ os) h z =
          let e : b ≡ map at o = bits_shown (bit_labels p) b o h.0 z.0 in
          let t : bs ≡ map (λ nets. map at nets) os = pads_shown ps bs os h.1 z.1 in
          λ i. e i ∷ t i

    clock : (words : List ℕ) (before after : ℕ → Trit) (shown : List (List Trit)) → Fit pads.inputs words
        → IsClock network pads words before shown after
        → IsNetClock net pads.inputs ins outs words (λ k. before (node (OfNet k))) shown (λ k. after (node (OfNet k)))
    clock words before after shown fit c = record {
      values = λ k. c.values (node (OfNet k));
      until = runs settings_until_outputs words before c.values fit c.until;
      shows = pads_shown c.values pads.outputs shown outs c.shows d.outputs;
      rest = runs settings_after_outputs words c.values after fit c.rest;
    }

    pub trace : (before after : ℕ → Trit) (inputs : List (List ℕ)) (shown : List (List (List Trit)))
        → All (Fit pads.inputs) inputs
        → IsCircuitTrace network pads before inputs shown after
        → IsNetTrace net pads.inputs ins outs (λ k. before (node (OfNet k))) inputs shown (λ k. after (node (OfNet k)))
    trace before after [] [] fit t = λ k. t (node (OfNet k))
    trace before after [] (o ∷ os) fit t = absurd t
    trace before after (w ∷ ws) [] fit t = absurd t
    trace before after (w ∷ ws) (o ∷ os) fit t = (
      (λ k. t.0 (node (OfNet k))),
      clock w before t.0 o (fit 0 w (omega arith)) t.1,
      trace t.0 after ws os (λ j x lt. fit (suc j) x (omega arith)) t.2,
    )
