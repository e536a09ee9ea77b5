-- What the pins of a slice are.
use Rattle.std.proofs.Common.{◌≡◌, inl, inr, ℕ, ◌<◌, Option, Some, None, List, ◌++◌, length, refl, sym}
use Rattle.std.proofs.Common.{subst, arith}
use Rattle.std.specs.Prelude.{slice_get}
use Rattle.std.specs.List.{range_with_len}
use Rattle.std.proofs.lemmas.Option.{slice_get_within}
use Rattle.mp_base.proofs.Members.{Member, member_map, map_member, range_members, range_has, member_append}
use Rattle.mp_base.proofs.Members.{append_left, append_right, member_flat, flat_member}
use Rattle.slice_form.specs.Path.{Path, Carry, Cast, Lift, Programmed}
use Rattle.slice_form.specs.Slices.{cast_column, lift_column}
use Rattle.band_lists.specs.declared.pins.Pin.{Pin}
use Rattle.band_lists.specs.declared.pins.At.TheVariants.{Column}
use Rattle.band_lists.specs.Pins.{pin, net_pins, phase_pin, phase_pins}
use Rattle.band_lists.proofs.NetPins.{IsNetPin, net_pin_is, net_pin_in}
use Rattle.slice_layout.specs.Pins.{cast_pin, lift_pin, chain_pin, program_pin, cast_pins, lift_pins, chain_pins}
use Rattle.slice_layout.specs.Pins.{program_pins, slice_pins}

abbrev pub cast_place : ℕ → Cast → Pin
cast_place i c = record { segment = c.slice; at = Column (cast_column i) }

abbrev pub lift_place : Path → ℕ → Lift → Pin
lift_place p i l = record { segment = l.start; at = Column (lift_column p i) }

-- The pin is one of a part, of a cast, a lift, an end of a chain, a program, or of a phase.
pub data IsSlicePin (p : Path) (q : Pin) : Type 0 where
  of_net : IsNetPin p.slice q → IsSlicePin p q
  of_cast : (i : ℕ) (c : Cast) → slice_get p.casts i ≡ Some c → cast_place i c ≡ q → IsSlicePin p q
  of_lift : (i : ℕ) (l : Lift) → slice_get p.lifts i ≡ Some l → lift_place p i l ≡ q → IsSlicePin p q
  of_end : (i : ℕ) (c : Carry) → slice_get p.chains i ≡ Some c → pin c.to c.to ≡ q → IsSlicePin p q
  of_start : (i : ℕ) (c : Carry) → slice_get p.chains i ≡ Some c → pin c.start c.to ≡ q → IsSlicePin p q
  of_program : (i : ℕ) (g : Programmed) → slice_get p.programs i ≡ Some g → pin g.net g.net ≡ q → IsSlicePin p q
  of_phase : (j : ℕ) → j < 3 → phase_pin (length p.slice) 1 j ≡ q → IsSlicePin p q

module _ (p : Path) where
  abbrev nets : List Pin
  nets = net_pins p.slice

  abbrev phases : List Pin
  phases = phase_pins (length p.slice) 1

  -- ---- each pin is one of these
  cast_is : (q : Pin) → Member (cast_pins p) q → IsSlicePin p q
  cast_is q m =
      let w = member_flat (λ i. cast_pin i (slice_get p.casts i)) (range_with_len 0 (length p.casts)) q m in
      go w.0 (slice_get p.casts w.0) refl w.2
    where
      go : (i : ℕ) (c : Option Cast) → slice_get p.casts i ≡ c → Member (cast_pin i c) q → IsSlicePin p q
      go i None h m = absurd m
      go i (Some c) h (inl e) = of_cast i c h e
      go i (Some c) h (inr z) = absurd z

  lift_is : (q : Pin) → Member (lift_pins p) q → IsSlicePin p q
  lift_is q m =
      let w = member_flat (λ i. lift_pin p i (slice_get p.lifts i)) (range_with_len 0 (length p.lifts)) q m in
      go w.0 (slice_get p.lifts w.0) refl w.2
    where
      go : (i : ℕ) (l : Option Lift) → slice_get p.lifts i ≡ l → Member (lift_pin p i l) q → IsSlicePin p q
      go i None h m = absurd m
      go i (Some l) h (inl e) = of_lift i l h e
      go i (Some l) h (inr z) = absurd z

  chain_is : (q : Pin) → Member (chain_pins p) q → IsSlicePin p q
  chain_is q m =
      let w = member_flat (λ i. chain_pin (slice_get p.chains i)) (range_with_len 0 (length p.chains)) q m in
      go w.0 (slice_get p.chains w.0) refl w.2
    where
      go : (i : ℕ) (c : Option Carry) → slice_get p.chains i ≡ c → Member (chain_pin c) q → IsSlicePin p q
      go i None h m = absurd m
      go i (Some c) h (inl e) = of_end i c h e
      go i (Some c) h (inr (inl e)) = of_start i c h e
      go i (Some c) h (inr (inr z)) = absurd z

  program_is : (q : Pin) → Member (program_pins p) q → IsSlicePin p q
  program_is q m =
      let w = member_flat (λ i. program_pin (slice_get p.programs i)) (range_with_len 0 (length p.programs)) q m in
      go w.0 (slice_get p.programs w.0) refl w.2
    where
      go : (i : ℕ) (g : Option Programmed) → slice_get p.programs i ≡ g → Member (program_pin g) q → IsSlicePin p q
      go i None h m = absurd m
      go i (Some g) h (inl e) = of_program i g h e
      go i (Some g) h (inr z) = absurd z

  pub slice_pin_is : (q : Pin) → Member (slice_pins p) q → IsSlicePin p q
  slice_pin_is q m = elim (member_append (nets ++ cast_pins p ++ lift_pins p ++ chain_pins p
      ++ program_pins p) phases q m) [
        | inl a ↦ elim (member_append (nets ++ cast_pins p ++ lift_pins p ++ chain_pins p) (program_pins p) q a) [
          | inl b ↦ elim (member_append (nets ++ cast_pins p ++ lift_pins p) (chain_pins p) q b) [
            | inl d ↦ elim (member_append (nets ++ cast_pins p) (lift_pins p) q d) [
              | inl f ↦ elim (member_append nets (cast_pins p) q f) [
                | inl g ↦ of_net (net_pin_is p.slice q g)
                | inr g ↦ cast_is q g
              ]
              | inr f ↦ lift_is q f
            ]
            | inr d ↦ chain_is q d
          ]
          | inr b ↦ program_is q b
        ]
        | inr a ↦ (
            let w = member_map (phase_pin (length p.slice) 1) (range_with_len 0 3) q a in
            of_phase w.0 (let r = (range_members 0 3 w.0 w.1).1 in omega arith) w.2)
      ]

  -- ---- each of these is a pin
  cast_in : (i : ℕ) (c : Cast) → slice_get p.casts i ≡ Some c → Member (cast_pins p) (cast_place i c)
  cast_in i c h =
      flat_member (λ i. cast_pin i (slice_get p.casts i)) (range_with_len 0 (length p.casts)) i (cast_place i c)
      (range_has 0 (length p.casts) i (omega arith) (let w = slice_get_within p.casts i c h in omega arith))
      (subst (λ z. Member (cast_pin i z) (cast_place i c)) (sym h) (inl refl))

  lift_in : (i : ℕ) (l : Lift) → slice_get p.lifts i ≡ Some l → Member (lift_pins p) (lift_place p i l)
  lift_in i l h =
      flat_member (λ i. lift_pin p i (slice_get p.lifts i)) (range_with_len 0 (length p.lifts)) i (lift_place p i l)
      (range_has 0 (length p.lifts) i (omega arith) (let w = slice_get_within p.lifts i l h in omega arith))
      (subst (λ z. Member (lift_pin p i z) (lift_place p i l)) (sym h) (inl refl))

  chain_in : (i : ℕ) (c : Carry) (q : Pin) → slice_get p.chains i ≡ Some c → Member (chain_pin (Some c)) q
      → Member (chain_pins p) q
  chain_in i c q h m =
      flat_member (λ i. chain_pin (slice_get p.chains i)) (range_with_len 0 (length p.chains)) i q
      (range_has 0 (length p.chains) i (omega arith) (let w = slice_get_within p.chains i c h in omega arith))
      (subst (λ z. Member (chain_pin z) q) (sym h) m)

  program_in : (i : ℕ) (g : Programmed) → slice_get p.programs i ≡ Some g → Member (program_pins p) (pin g.net g.net)
  program_in i g h =
      flat_member (λ i. program_pin (slice_get p.programs i)) (range_with_len 0 (length p.programs)) i
      (pin g.net g.net)
      (range_has 0 (length p.programs) i (omega arith) (let w = slice_get_within p.programs i g h in omega arith))
      (subst (λ z. Member (program_pin z) (pin g.net g.net)) (sym h) (inl refl))

  -- in the lists one by one
  in_program : (q : Pin) → Member (nets ++ cast_pins p ++ lift_pins p ++ chain_pins p ++ program_pins p) q
      → Member (slice_pins p) q
  in_program q m = append_left (nets ++ cast_pins p ++ lift_pins p ++ chain_pins p ++ program_pins p) phases q m

  in_chain : (q : Pin) → Member (nets ++ cast_pins p ++ lift_pins p ++ chain_pins p) q → Member (slice_pins p) q
  in_chain q m =
      in_program q (append_left (nets ++ cast_pins p ++ lift_pins p ++ chain_pins p) (program_pins p) q m)

  in_lift : (q : Pin) → Member (nets ++ cast_pins p ++ lift_pins p) q → Member (slice_pins p) q
  in_lift q m = in_chain q (append_left (nets ++ cast_pins p ++ lift_pins p) (chain_pins p) q m)

  in_cast : (q : Pin) → Member (nets ++ cast_pins p) q → Member (slice_pins p) q
  in_cast q m = in_lift q (append_left (nets ++ cast_pins p) (lift_pins p) q m)

  pub slice_pin_in : (q : Pin) → IsSlicePin p q → Member (slice_pins p) q
  slice_pin_in q (of_net h) = in_cast q (append_left nets (cast_pins p) q (net_pin_in p.slice q h))
  slice_pin_in q (of_cast i c h e) =
      in_cast q (append_right nets (cast_pins p) q (subst (Member (cast_pins p)) e (cast_in i c h)))
  slice_pin_in q (of_lift i l h e) =
      in_lift q (append_right (nets ++ cast_pins p) (lift_pins p) q
      (subst (Member (lift_pins p)) e (lift_in i l h)))
  slice_pin_in q (of_end i c h e) =
      in_chain q (append_right (nets ++ cast_pins p ++ lift_pins p) (chain_pins p) q
      (chain_in i c q h (inl e)))
  slice_pin_in q (of_start i c h e) =
      in_chain q (append_right (nets ++ cast_pins p ++ lift_pins p) (chain_pins p) q
      (chain_in i c q h (inr (inl e))))
  slice_pin_in q (of_program i g h e) =
      in_program q (append_right (nets ++ cast_pins p ++ lift_pins p ++ chain_pins p) (program_pins p) q
      (subst (Member (program_pins p)) e (program_in i g h)))
  slice_pin_in q (of_phase j lt e) =
      append_right (nets ++ cast_pins p ++ lift_pins p ++ chain_pins p ++ program_pins p) phases q
      (subst (Member phases) e
      (map_member (phase_pin (length p.slice) 1) (range_with_len 0 3) j
      (range_has 0 3 j (omega arith) (omega arith))))
