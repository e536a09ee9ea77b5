-- A net that no pin is on is a pad's bit that nothing uses; and which nets have columns of their own.
use Rattle.std.proofs.Common.{◌≡◌, inl, inr, ℕ, ◌+◌, ◌<◌, ◌==◌, Option, Some, None, Bool, true}
use Rattle.std.proofs.Common.{false, not, ◌&&◌, List, ◌++◌, length, map, get_or, refl, sym, ◌∙◌, ap}
use Rattle.std.proofs.Common.{subst}
use Rattle.std.proofs.Common.{arith}
use Rattle.std.specs.Prelude.{◌||◌, slice_get}
use Rattle.std.specs.List.{list_any, range_with_len}
use Rattle.std.proofs.lemmas.Bool.{and_parts, or_left, or_right, or_cases, not-true}
use Rattle.std.proofs.lemmas.Option.{slice_get_within, slice_get_cases}
use Rattle.mp_base.proofs.Members.{Member, any_of, append_left, append_right}
use Rattle.mp_base.proofs.Ranges.{map_same}
use Rattle.mp_base.proofs.Tests.{same_bools, false_true}
use Rattle.std.proofs.lemmas.Map.Keys.{any_passes_from_place}
use Rattle.nor_net.specs.declared.net.Part.{Part}
use Rattle.nor_net.specs.declared.net.Part.TheVariants.{Input, Gate, Latch}
use Rattle.array_form.specs.Homes.{reads, phase_number}
use Rattle.array_form.specs.Place as place
use Rattle.array_form.proofs.Listing.{same_from, same_to}
use Rattle.array_form.proofs.Room.{any_member}
use Rattle.slice_form.specs.Path.{Path, Carry, Cast, Lift, Programmed}
use Rattle.slice_form.specs.Slices.{any_below, is_unread, slice_stub, slice_homed}
use Rattle.array_form.specs.Place.{part_is, is_input}
use Rattle.band_lists.specs.declared.pins.Pin.{Pin}
use Rattle.band_lists.specs.Homed.{is_unpinned}
use Rattle.band_lists.specs.Pins.{pin, stub_pins}
use Rattle.band_lists.proofs.NetPins.{own, read, beat, stub_pin_in}
use Rattle.slice_form.proofs.Below.{below_any, below_member}
use Rattle.slice_layout.specs.Pins.{slice_pins}
use Rattle.slice_layout.proofs.Ends.{HasEnds, is_word, is_end, is_cast, is_program}
use Rattle.slice_layout.proofs.SlicePins.{IsSlicePin, of_net, of_cast, of_lift, of_end, of_start, of_program, of_phase}
use Rattle.slice_layout.proofs.SlicePins.{slice_pin_is, slice_pin_in, cast_place, lift_place}

not_true : (t : Bool) → (t ≡ true → ⊥) → not t ≡ true
not_true true h = absurd (h refl)
not_true false h = refl

module _ (p : Path) (ends : HasEnds p) where
  abbrev pins : List Pin
  pins = slice_pins p

  abbrev has_pin : ℕ → Bool
  has_pin n = list_any (λ (q : Pin). q.segment == n) pins

  pinned_by : (n : ℕ) (q : Pin) → IsSlicePin p q → q.segment ≡ n → has_pin n ≡ true
  pinned_by n q h e = any_of (λ (q : Pin). q.segment == n) pins q (slice_pin_in p q h) (same_to q.segment n e)

  pub pin_of : (n : ℕ) → has_pin n ≡ true → (q : Pin) × IsSlicePin p q × (q.segment ≡ n)
  pin_of n e =
      let w = any_member (λ (q : Pin). q.segment == n) pins e in
      (w.1, slice_pin_is p w.1 w.4, same_from w.1.segment n w.3)

  lifted : ℕ → Bool
  lifted n = list_any (λ (l : Lift). l.start == n) p.lifts

  carried : ℕ → Bool
  carried n = list_any (λ (c : Carry). c.start == n) p.chains

  -- ---- a net without a pin is a stub
  bare_input : (n : ℕ) (q : Option Part) → slice_get p.slice n ≡ q → n < length p.slice → (has_pin n ≡ true → ⊥)
      → q ≡ Some Input
  bare_input n None h lt bare =
      elim (slice_get_cases p.slice n).1 [ inl w ↦ absurd (cc (sym h ∙ w.2)) | inr w ↦ absurd (omega (arith, w.0)) ]
  bare_input n (Some Input) h lt bare = refl
  bare_input n (Some (Gate ins)) h lt bare =
      absurd (bare (pinned_by n (pin n n) (of_net (own n (Gate ins) h refl refl)) refl))
  bare_input n (Some (Latch ph d)) h lt bare =
      absurd (bare (pinned_by n (pin n n) (of_net (own n (Latch ph d) h refl refl)) refl))

  reader : (n j : ℕ) (q : Option Part) → slice_get p.slice j ≡ q → reads n q ≡ true → has_pin n ≡ true
  reader n j None h e = absurd (cc e)
  reader n j (Some q) h e = pinned_by n (pin n j) (of_net (read j n q h e refl)) refl

  bare_unread : (n : ℕ) → (has_pin n ≡ true → ⊥) → is_unread p.slice n ≡ true
  bare_unread n bare = not_true (any_below (λ j. reads n (slice_get p.slice j)) (length p.slice))
      (λ e. let w = below_member (λ j. reads n (slice_get p.slice j)) (length p.slice) e in
      bare (reader n w.0 (slice_get p.slice w.0) refl w.2))

  bare_lift : (n : ℕ) → (has_pin n ≡ true → ⊥) → lifted n ≡ true → ⊥
  unfolding lifted
  bare_lift n bare e =
      let w = any_member (λ (l : Lift). l.start == n) p.lifts e in
      bare (pinned_by n (lift_place p w.0 w.1) (of_lift w.0 w.1 w.2 refl) (same_from w.1.start n w.3))

  bare_start : (n : ℕ) → (has_pin n ≡ true → ⊥) → carried n ≡ true → ⊥
  unfolding carried
  bare_start n bare e =
      let w = any_member (λ (c : Carry). c.start == n) p.chains e in
      bare (pinned_by n (pin w.1.start w.1.to) (of_start w.0 w.1 w.2 refl) (same_from w.1.start n w.3))

  bare_end : (n : ℕ) → (has_pin n ≡ true → ⊥) → is_end p n ≡ true → ⊥
  bare_end n bare e =
      let w = any_member (λ (c : Carry). c.to == n) p.chains e in
      bare (pinned_by n (pin w.1.to w.1.to) (of_end w.0 w.1 w.2 refl) (same_from w.1.to n w.3))

  bare_cast : (n : ℕ) → (has_pin n ≡ true → ⊥) → is_cast p n ≡ true → ⊥
  bare_cast n bare e =
      let w = any_member (λ (c : Cast). c.slice == n) p.casts e in
      bare (pinned_by n (cast_place w.0 w.1) (of_cast w.0 w.1 w.2 refl) (same_from w.1.slice n w.3))

  bare_program : (n : ℕ) → (has_pin n ≡ true → ⊥) → is_program p n ≡ true → ⊥
  bare_program n bare e =
      let w = any_member (λ (g : Programmed). g.net == n) p.programs e in
      bare (pinned_by n (pin w.1.net w.1.net) (of_program w.0 w.1 w.2 refl) (same_from w.1.net n w.3))

  stub_of : (a b d f : Bool) → a ≡ true → b ≡ true → d ≡ true → f ≡ true → (a && (b && (d && f))) ≡ true
  stub_of true true true true h i j k = refl
  stub_of true true true false h i j k = absurd (cc k)
  stub_of true true false f h i j k = absurd (cc j)
  stub_of true false d f h i j k = absurd (cc i)
  stub_of false b d f h i j k = absurd (cc h)

  bare_stub : (n : ℕ) → n < length p.slice → (has_pin n ≡ true → ⊥) → slice_stub p n ≡ true
  unfolding lifted carried
  bare_stub n lt bare =
      let h = bare_input n (slice_get p.slice n) refl lt bare in
      stub_of (is_word p n) (is_unread p.slice n) (not (list_any (λ (l : Lift). l.start == n) p.lifts))
      (not (list_any (λ (c : Carry). c.start == n) p.chains))
      (elim (ends.given n h) [
        | inl w ↦ w
        | inr a ↦ elim a [
          | inl w ↦ absurd (bare_end n bare w)
          | inr b ↦ elim b [ inl w ↦ absurd (bare_cast n bare w) | inr w ↦ absurd (bare_program n bare w) ]
        ]
      ])
      (bare_unread n bare) (not_true (list_any (λ (l : Lift). l.start == n) p.lifts) (bare_lift n bare))
      (not_true (list_any (λ (c : Carry). c.start == n) p.chains) (bare_start n bare))

  -- ---- and a stub has no pin
  record IsUnused (n : ℕ) : Type 0 where
    word : is_word p n ≡ true
    unread : is_unread p.slice n ≡ true
    unlifted : list_any (λ (l : Lift). l.start == n) p.lifts ≡ false
    uncarried : list_any (λ (c : Carry). c.start == n) p.chains ≡ false

  unused : (n : ℕ) → slice_stub p n ≡ true → IsUnused n
  unused n e =
      let a = and_parts (is_word p n) (is_unread p.slice n && (not
      (list_any (λ (l : Lift). l.start == n) p.lifts) && not
      (list_any (λ (c : Carry). c.start == n) p.chains))) e in
      let b = and_parts (is_unread p.slice n) (not (list_any (λ (l : Lift). l.start == n) p.lifts) && not
      (list_any (λ (c : Carry). c.start == n) p.chains)) a.1 in
      let d = and_parts (not (list_any (λ (l : Lift). l.start == n) p.lifts)) (not
      (list_any (λ (c : Carry). c.start == n) p.chains)) b.1 in
      record {
        word = a.0;
        unread = b.0;
        unlifted = not-true (list_any (λ (l : Lift). l.start == n) p.lifts) d.0;
        uncarried = not-true (list_any (λ (c : Carry). c.start == n) p.chains) d.1;
      }

  input_differs : (q : Part) → place.is_input q ≡ false → Some q ≡ Some Input → ⊥
  input_differs Input e r = absurd (cc e)
  input_differs (Gate ins) e r = cc r
  input_differs (Latch ph d) e r = cc r

  unpinned : (n : ℕ) → IsUnused n → (q : Pin) → q.segment ≡ n → IsSlicePin p q → ⊥
  unpinned n u q s (of_net (own m x g e r)) =
      input_differs x e (sym g ∙ (ap (slice_get p.slice) (ap (λ z. z.segment) r ∙ s) ∙ ends.words n u.word))
  unpinned n u q s (of_net (read m i x g e r)) =
      let lt = slice_get_within p.slice m x g in
      false_true (sym (not-true (any_below (λ j. reads n (slice_get p.slice j)) (length p.slice)) u.unread)
      ∙ below_any (λ j. reads n (slice_get p.slice j)) (length p.slice) m lt
      (ap (reads n) g ∙ subst (λ z. reads z (Some x) ≡ true) (ap (λ z. z.segment) r ∙ s) e))
  unpinned n u q s (of_net (beat m ph d g r)) =
      let lt = slice_get_within p.slice n Input (ends.words n u.word) in
      let e : length p.slice + phase_number ph ≡ n = ap (λ z. z.segment) r ∙ s in absurd (omega arith)
  unpinned n u q s (of_cast i c h r) =
      (ends.alone n u.word).1 (any_passes_from_place (λ (c : Cast). c.slice == n) p.casts i c h
      (same_to c.slice n (ap (λ z. z.segment) r ∙ s)))
  unpinned n u q s (of_lift i l h r) =
      false_true (sym u.unlifted ∙ any_passes_from_place (λ (l : Lift). l.start == n) p.lifts i l h
      (same_to l.start n (ap (λ z. z.segment) r ∙ s)))
  unpinned n u q s (of_end i c h r) =
      (ends.alone n u.word).0 (any_passes_from_place (λ (c : Carry). c.to == n) p.chains i c h
      (same_to c.to n (ap (λ z. z.segment) r ∙ s)))
  unpinned n u q s (of_start i c h r) =
      false_true (sym u.uncarried ∙ any_passes_from_place (λ (c : Carry). c.start == n) p.chains i c h
      (same_to c.start n (ap (λ z. z.segment) r ∙ s)))
  unpinned n u q s (of_program i g h r) =
      (ends.alone n u.word).2 (any_passes_from_place (λ (g : Programmed). g.net == n) p.programs i g h
      (same_to g.net n (ap (λ z. z.segment) r ∙ s)))
  unpinned n u q s (of_phase j lt r) =
      let l = slice_get_within p.slice n Input (ends.words n u.word) in
      let e : length p.slice + j ≡ n = ap (λ z. z.segment) r ∙ s in absurd (omega arith)

  pub stub_same : (n : ℕ) → n < length p.slice → not (has_pin n) ≡ slice_stub p n
  stub_same n lt = same_bools (not (has_pin n)) (slice_stub p n)
      (λ e. bare_stub n lt (λ t. false_true (sym (not-true (has_pin n) e) ∙ t)))
      (λ e. not_true (has_pin n) (λ t. let w = pin_of n t in unpinned n (unused n e) w.0 w.2 w.1))

  pub stubs_same : (flags : List Bool) → ((k : ℕ) → k < length p.slice + 3 → get_or flags k false ≡ has_pin k)
      → map (is_unpinned flags) (range_with_len 0 (length p.slice))
      ≡ map (slice_stub p) (range_with_len 0 (length p.slice))
  stubs_same flags h = map_same (is_unpinned flags) (slice_stub p) 0 (length p.slice)
      (λ n lo hi. ap not (h n (omega arith)) ∙ stub_same n (omega arith))

  -- ---- columns of their own
  pub homed_part : (n : ℕ) (q : Part) → slice_get p.slice n ≡ Some q → place.is_input q
      ≡ false → slice_homed p n ≡ true
  homed_part n q h e =
      or_left (part_is (λ z. not (is_input z)) (slice_get p.slice n))
      (is_end p n || (is_program p n || slice_stub p n)) (ap (part_is (λ z. not (is_input z))) h ∙ go q e)
    where
      go : (q : Part) → place.is_input q ≡ false → not (is_input q) ≡ true
      go Input e = absurd (cc e)
      go (Gate ins) e = refl
      go (Latch ph d) e = refl

  pub homed_to : (n : ℕ) → is_end p n ≡ true → slice_homed p n ≡ true
  homed_to n e =
      or_right (part_is (λ z. not (is_input z)) (slice_get p.slice n))
      (is_end p n || (is_program p n || slice_stub p n))
      (or_left (is_end p n) (is_program p n || slice_stub p n) e)

  pub homed_program : (n : ℕ) → is_program p n ≡ true → slice_homed p n ≡ true
  homed_program n e =
      or_right (part_is (λ z. not (is_input z)) (slice_get p.slice n))
      (is_end p n || (is_program p n || slice_stub p n))
      (or_right (is_end p n) (is_program p n || slice_stub p n)
      (or_left (is_program p n) (slice_stub p n) e))

  pub homed_stub : (n : ℕ) → slice_stub p n ≡ true → slice_homed p n ≡ true
  homed_stub n e =
      or_right (part_is (λ z. not (is_input z)) (slice_get p.slice n))
      (is_end p n || (is_program p n || slice_stub p n))
      (or_right (is_end p n) (is_program p n || slice_stub p n)
      (or_right (is_program p n) (slice_stub p n) e))

  module _ (stubs : List Bool) (stubs_are : (n : ℕ) → n < length p.slice → get_or stubs n false ≡ slice_stub p n)
      (stubs_long : length stubs ≡ length p.slice) where
    abbrev all_pins : List Pin
    all_pins = slice_pins p ++ stub_pins stubs

    -- each such net has a pin there
    pub homed_own : (n : ℕ) (q : Option Part) → slice_get p.slice n ≡ q → n < length p.slice → slice_homed p n ≡ true
        → Member all_pins (pin n n)
    homed_own n None h lt e =
        elim (slice_get_cases p.slice n).1 [ inl w ↦ absurd (cc (sym h ∙ w.2)) | inr w ↦ absurd (omega (arith, w.0)) ]
    homed_own n (Some (Gate ins)) h lt e =
        append_left (slice_pins p) (stub_pins stubs) (pin n n)
        (slice_pin_in p (pin n n) (of_net (own n (Gate ins) h refl refl)))
    homed_own n (Some (Latch ph d)) h lt e =
        append_left (slice_pins p) (stub_pins stubs) (pin n n)
        (slice_pin_in p (pin n n) (of_net (own n (Latch ph d) h refl refl)))
    homed_own n (Some Input) h lt e =
        elim (or_cases (is_end p n) (is_program p n || slice_stub p n)
        (sym (ap (λ z. part_is (λ z. not (is_input z)) z || (is_end p n ||
        (is_program p n || slice_stub p n))) h) ∙ e)) [
          | inl t ↦ (
              let w = any_member (λ (c : Carry). c.to == n) p.chains t in
              append_left (slice_pins p) (stub_pins stubs) (pin n n)
              (slice_pin_in p (pin n n) (of_end w.0 w.1 w.2 (ap (λ z. pin z z) (same_from w.1.to n w.3)))))
          | inr t ↦ elim (or_cases (is_program p n) (slice_stub p n) t) [
            | inl g ↦ (
                let w = any_member (λ (g : Programmed). g.net == n) p.programs g in
                append_left (slice_pins p) (stub_pins stubs) (pin n n)
                (slice_pin_in p (pin n n) (of_program w.0 w.1 w.2 (ap (λ z. pin z z) (same_from w.1.net n w.3)))))
            | inr g ↦ (
                append_right (slice_pins p) (stub_pins stubs) (pin n n)
                (stub_pin_in stubs n (let l = stubs_long in omega arith) (stubs_are n lt ∙ g)))
          ]
        ]
