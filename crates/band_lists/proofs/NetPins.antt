-- What the pins of nets and of stubs are.
use Rattle.std.proofs.Common.{◌≡◌, inl, inr, ℕ, ◌<◌, ◌+◌, Option, Some, None, Bool, true, false, cond, List, []}
use Rattle.std.proofs.Common.{◌∷◌, length, map, get_or, refl, sym, ◌∙◌, ap, subst, arith}
use Rattle.std.specs.Prelude.{slice_get}
use Rattle.std.specs.List.{range_with_len}
use Rattle.std.proofs.lemmas.Option.{slice_get_within}
use Rattle.mp_base.proofs.Members.{Member, member_map, map_member, range_members, range_has, member_flat, flat_member}
use Rattle.nor_net.specs.declared.net.Phase.{Phase}
use Rattle.nor_net.specs.declared.net.NetId.{NetId}
use Rattle.nor_net.specs.declared.net.Part.{Part}
use Rattle.nor_net.specs.declared.net.Part.TheVariants.{Input, Gate, Latch}
use Rattle.array_form.specs.Homes.{reads, phase_number}
use Rattle.array_form.specs.Place.{is_input}
use Rattle.array_form.proofs.Listing.{has_member, same_from, same_to}
use Rattle.array_form.proofs.Homes.{has_of}
use Rattle.band_lists.specs.declared.pins.Pin.{Pin}
use Rattle.band_lists.specs.Pins.{pin, part_pins, net_pins}
use Rattle.band_lists.specs.Pins.{stub_pin, stub_pins}

-- The pin is in the column of a net: on the net's own segment, on one that it reads, or on that of its phase.
pub data IsNetPin (parts : List Part) (p : Pin) : Type 0 where
  own : (n : ℕ) (q : Part) → slice_get parts n ≡ Some q → is_input q ≡ false → pin n n ≡ p → IsNetPin parts p
  read : (n i : ℕ) (q : Part) → slice_get parts n ≡ Some q → reads i (Some q) ≡ true → pin i n ≡ p → IsNetPin parts p
  beat : (n : ℕ) (ph : Phase) (d : NetId) → slice_get parts n ≡ Some (Latch ph (Some d))
      → pin (length parts + phase_number ph) n ≡ p → IsNetPin parts p

module _ (parts : List Part) where
  part_pin : (n : ℕ) (q : Option Part) (p : Pin) → slice_get parts n ≡ q → Member (part_pins (length parts) n q) p
      → IsNetPin parts p
  part_pin n None p h m = absurd m
  part_pin n (Some Input) p h m = absurd m
  part_pin n (Some (Gate ins)) p h (inl e) = own n (Gate ins) h refl e
  part_pin n (Some (Gate ins)) p h (inr m) =
      let w = member_map (λ (i : NetId). pin i.0 n) ins p m in
      read n w.0.0 (Gate ins) h (has_of w.0.0 (map (λ j. j.0) ins) (map_member (λ (j : NetId). j.0) ins w.0 w.1)) w.2
  part_pin n (Some (Latch ph None)) p h (inl e) = own n (Latch ph None) h refl e
  part_pin n (Some (Latch ph None)) p h (inr m) = absurd m
  part_pin n (Some (Latch ph (Some d))) p h (inl e) = own n (Latch ph (Some d)) h refl e
  part_pin n (Some (Latch ph (Some d))) p h (inr (inl e)) = read n d.0 (Latch ph (Some d)) h (same_to d.0 d.0 refl) e
  part_pin n (Some (Latch ph (Some d))) p h (inr (inr (inl e))) = beat n ph d h e
  part_pin n (Some (Latch ph (Some d))) p h (inr (inr (inr m))) = absurd m

  pub net_pin_is : (p : Pin) → Member (net_pins parts) p → IsNetPin parts p
  net_pin_is p m =
      let w = member_flat (λ n. part_pins (length parts) n (slice_get parts n))
      (range_with_len 0 (length parts)) p m in
      part_pin w.0 (slice_get parts w.0) p refl w.2

  there : (n : ℕ) (q : Part) (p : Pin) → slice_get parts n ≡ Some q → Member (part_pins (length parts) n (Some q)) p
      → Member (net_pins parts) p
  there n q p h m =
      flat_member (λ n. part_pins (length parts) n (slice_get parts n)) (range_with_len 0 (length parts)) n p
      (range_has 0 (length parts) n (omega arith) (let w = slice_get_within parts n q h in omega arith))
      (subst (λ z. Member (part_pins (length parts) n z) p) (sym h) m)

  own_there : (n : ℕ) (q : Part) (p : Pin) → slice_get parts n ≡ Some q → is_input q ≡ false → pin n n ≡ p
      → Member (net_pins parts) p
  own_there n Input p h e s = absurd (cc e)
  own_there n (Gate ins) p h e s = there n (Gate ins) p h (inl s)
  own_there n (Latch ph None) p h e s = there n (Latch ph None) p h (inl s)
  own_there n (Latch ph (Some d)) p h e s = there n (Latch ph (Some d)) p h (inl s)

  read_there : (n i : ℕ) (q : Part) (p : Pin) → slice_get parts n ≡ Some q → reads i (Some q) ≡ true → pin i n ≡ p
      → Member (net_pins parts) p
  read_there n i Input p h e s = absurd (cc e)
  read_there n i (Gate ins) p h e s =
      let w = member_map (λ (j : NetId). j.0) ins i (has_member i (map (λ j. j.0) ins) e) in
      there n (Gate ins) p h (inr (subst (Member (map (λ (j : NetId). pin j.0 n) ins)) (ap (λ z. pin z n) w.2 ∙ s)
      (map_member (λ (j : NetId). pin j.0 n) ins w.0 w.1)))
  read_there n i (Latch ph None) p h e s = absurd (cc e)
  read_there n i (Latch ph (Some d)) p h e s =
      there n (Latch ph (Some d)) p h (inr (inl (ap (λ z. pin z n) (same_from d.0 i e) ∙ s)))

  pub net_pin_in : (p : Pin) → IsNetPin parts p → Member (net_pins parts) p
  net_pin_in p (own n q h e s) = own_there n q p h e s
  net_pin_in p (read n i q h e s) = read_there n i q p h e s
  net_pin_in p (beat n ph d h s) = there n (Latch ph (Some d)) p h (inr (inr (inl s)))

-- the pins of stubs
pub stub_pin_is : (stubs : List Bool) (p : Pin) → Member (stub_pins stubs) p
    → (n : ℕ) × (n < length stubs) × (get_or stubs n false ≡ true) × (pin n n ≡ p)
stub_pin_is stubs p m =
    go w.0 (let r = (range_members 0 (length stubs) w.0 w.1).1 in omega arith) (get_or stubs w.0 false) refl w.2
  where
    w : (n : ℕ) × Member (range_with_len 0 (length stubs)) n × Member (stub_pin stubs n) p
    w = member_flat (stub_pin stubs) (range_with_len 0 (length stubs)) p m

    go : (n : ℕ) → n < length stubs → (t : Bool) → get_or stubs n false ≡ t → Member (cond t (pin n n ∷ []) []) p
        → (n : ℕ) × (n < length stubs) × (get_or stubs n false ≡ true) × (pin n n ≡ p)
    go n lt true e (inl s) = (n, lt, e, s)
    go n lt true e (inr k) = absurd k
    go n lt false e k = absurd k

pub stub_pin_in : (stubs : List Bool) (n : ℕ) → n < length stubs → get_or stubs n false ≡ true
    → Member (stub_pins stubs) (pin n n)
stub_pin_in stubs n lt e =
    flat_member (stub_pin stubs) (range_with_len 0 (length stubs)) n (pin n n)
    (range_has 0 (length stubs) n (omega arith) (omega arith))
    (subst (λ t. Member (cond t (pin n n ∷ []) []) (pin n n)) (sym e) (inl refl))
