-- The inputs that no pin is on are the stubs, and the columns that nets are given are those of the closed form.
use Rattle.std.proofs.Common.{◌≡◌, inl, inr, ℕ, ◌+◌, ◌<◌, ◌==◌, Option, Some, None, Bool, true, false, not}
use Rattle.std.proofs.Common.{◌&&◌, List, length, map, get_or, refl, sym, ◌∙◌, ap, subst, arith}
use Rattle.std.specs.Prelude.{◌||◌, slice_get}
use Rattle.std.specs.List.{list_any, range_with_len}
use Rattle.std.proofs.lemmas.Option.{slice_get_cases, slice_get_within}
use Rattle.std.proofs.lemmas.Bool.{or_left, or_right, or_cases}
use Rattle.mp_base.proofs.Ranges.{map_same}
use Rattle.mp_base.proofs.Members.{any_of}
use Rattle.mp_base.proofs.Tests.{same_bools}
use Rattle.nor_net.specs.declared.net.Part.{Part}
use Rattle.nor_net.specs.declared.net.Part.TheVariants.{Input, Gate, Latch}
use Rattle.nor_net.proofs.Parts.{part_member}
use Rattle.array_form.specs.declared.band.Tap.{Tap}
use Rattle.array_form.specs.declared.band.Band.{Band}
use Rattle.array_form.specs.Homes.{reads, phase_number}
use Rattle.array_form.specs.Place.{is_input, part_is, is_read, is_tapped, is_stub, columns_in}
use Rattle.array_form.proofs.Listing.{same_from, same_to}
use Rattle.array_form.proofs.Room.{any_member}
use Rattle.band_lists.specs.declared.pins.Pin.{Pin}
use Rattle.band_lists.specs.Homed.{is_unpinned}
use Rattle.band_lists.specs.Pins.{pin}
use Rattle.band_lists.proofs.NetPins.{own, read, beat}
use Rattle.weinberger.specs.Pins.{tap_pin, band_pins}
use Rattle.weinberger.proofs.BandPins.{IsBandPin, of_net, of_tap, of_phase, band_pin_is, band_pin_in}

module _ (band : Band) (parts : List Part) where
  abbrev pub has_pin : ℕ → Bool
  has_pin n = list_any (λ (p : Pin). p.segment == n) (band_pins band parts)

  pinned_by : (n : ℕ) (p : Pin) → IsBandPin band parts p → p.segment ≡ n → has_pin n ≡ true
  pinned_by n p h e =
      any_of (λ (p : Pin). p.segment == n) (band_pins band parts) p (band_pin_in band parts p h)
      (same_to p.segment n e)

  -- an input has a pin where something reads it or taps it
  pin_reads : (n : ℕ) → slice_get parts n ≡ Some Input → (p : Pin) → p.segment ≡ n → IsBandPin band parts p
      → (is_read parts n || is_tapped band.taps n) ≡ true
  pin_reads n h p s (of_net (own m q g e r)) =
      absurd (input_differs q e (sym g ∙ (ap (slice_get parts) (ap (λ z. z.segment) r ∙ s) ∙ h)))
    where
      input_differs : (q : Part) → is_input q ≡ false → Some q ≡ Some Input → ⊥
      input_differs Input e r = absurd (cc e)
      input_differs (Gate ins) e r = cc r
      input_differs (Latch ph d) e r = cc r
  pin_reads n h p s (of_net (read m i q g e r)) =
      or_left (is_read parts n) (is_tapped band.taps n)
      (any_of (λ q. reads n (Some q)) parts q (part_member parts m q g)
      (subst (λ z. reads z (Some q) ≡ true) (ap (λ z. z.segment) r ∙ s) e))
  pin_reads n h p s (of_net (beat m ph d g r)) =
      let lt = slice_get_within parts n Input h in
      let e : length parts + phase_number ph ≡ n = ap (λ z. z.segment) r ∙ s in
      absurd (omega arith)
  pin_reads n h p s (of_tap t m r) =
      or_right (is_read parts n) (is_tapped band.taps n)
      (any_of (λ (t : Tap). t.net.0 == n) band.taps t m (same_to t.net.0 n (ap (λ z. z.segment) r ∙ s)))
  pin_reads n h p s (of_phase j lt r) =
      let l = slice_get_within parts n Input h in
      let e : length parts + j ≡ n = ap (λ z. z.segment) r ∙ s in
      absurd (omega arith)

  reads_pin : (n : ℕ) → (is_read parts n || is_tapped band.taps n) ≡ true → has_pin n ≡ true
  reads_pin n e = elim (or_cases (is_read parts n) (is_tapped band.taps n) e) [
    | inl r ↦ (
        let w = any_member (λ q. reads n (Some q)) parts r in
        pinned_by n (pin n w.0) (of_net (read w.0 n w.1 w.2 w.3 refl)) refl)
    | inr t ↦ (
        let w = any_member (λ (t : Tap). t.net.0 == n) band.taps t in
        pinned_by n (tap_pin w.1) (of_tap w.1 w.4 refl) (same_from w.1.net.0 n w.3))
  ]

  input_same : (n : ℕ) → slice_get parts n ≡ Some Input → has_pin n ≡ (is_read parts n || is_tapped band.taps n)
  input_same n h =
      same_bools (has_pin n) (is_read parts n || is_tapped band.taps n)
      (λ e. let w = any_member (λ (p : Pin). p.segment == n) (band_pins band parts) e in
      pin_reads n h w.1 (same_from w.1.segment n w.3) (band_pin_is band parts w.1 w.4))
      (reads_pin n)

  -- a gate and a latch have a pin, so what has none is an input
  pub stub_same : (n : ℕ) → n < length parts → not (has_pin n) ≡ is_stub band parts n
  stub_same n lt = go (slice_get parts n) refl
    where
      is : (q : Option Part) → slice_get parts n ≡ q → is_stub band parts n
          ≡ (part_is is_input q && not (is_read parts n || is_tapped band.taps n))
      is q h = ap (λ z. part_is is_input z && not (is_read parts n || is_tapped band.taps n)) h

      go : (q : Option Part) → slice_get parts n ≡ q → not (has_pin n) ≡ is_stub band parts n
      go None h =
          elim (slice_get_cases parts n).1 [ inl w ↦ absurd (cc (sym h ∙ w.2)) | inr w ↦ absurd (omega (arith, w.0)) ]
      go (Some Input) h = ap not (input_same n h) ∙ sym (is (Some Input) h)
      go (Some (Gate ins)) h =
          ap not (pinned_by n (pin n n) (of_net (own n (Gate ins) h refl refl)) refl) ∙ sym (is (Some (Gate ins)) h)
      go (Some (Latch ph d)) h =
          ap not (pinned_by n (pin n n) (of_net (own n (Latch ph d) h refl refl)) refl)
          ∙ sym (is (Some (Latch ph d)) h)

  pub stubs_same : (flags : List Bool) → ((k : ℕ) → k < length parts + 3 → get_or flags k false ≡ has_pin k)
      → map (is_unpinned flags) (range_with_len 0 (length parts))
      ≡ map (columns_in band parts).stub (range_with_len 0 (length parts))
  stubs_same flags h = map_same (is_unpinned flags) (columns_in band parts).stub 0 (length parts)
      (λ n lo hi. ap not (h n (omega arith)) ∙ stub_same n (omega arith))
