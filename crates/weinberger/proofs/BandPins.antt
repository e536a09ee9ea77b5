-- What the pins of a band are.
use Rattle.std.proofs.Common.{◌≡◌, inl, inr, ℕ, ◌<◌, List, ◌++◌, length, subst, arith}
use Rattle.std.specs.List.{range_with_len}
use Rattle.mp_base.proofs.Members.{Member, member_map, map_member, range_members, range_has, member_append}
use Rattle.mp_base.proofs.Members.{append_left, append_right}
use Rattle.nor_net.specs.declared.net.Part.{Part}
use Rattle.array_form.specs.declared.band.Tap.{Tap}
use Rattle.array_form.specs.declared.band.Band.{Band}
use Rattle.band_lists.specs.declared.pins.Pin.{Pin}
use Rattle.band_lists.specs.Pins.{net_pins, phase_pin, phase_pins}
use Rattle.band_lists.proofs.NetPins.{IsNetPin, net_pin_is, net_pin_in}
use Rattle.weinberger.specs.Pins.{tap_pin, tap_pins, band_pins}

-- The pin is one of a net, of a tap, or of a phase.
pub data IsBandPin (band : Band) (parts : List Part) (p : Pin) : Type 0 where
  of_net : IsNetPin parts p → IsBandPin band parts p
  of_tap : (t : Tap) → Member band.taps t → tap_pin t ≡ p → IsBandPin band parts p
  of_phase : (j : ℕ) → j < 3 → phase_pin (length parts) band.first_column j ≡ p → IsBandPin band parts p

module _ (band : Band) (parts : List Part) where
  pub band_pin_is : (p : Pin) → Member (band_pins band parts) p → IsBandPin band parts p
  band_pin_is p m =
      elim (member_append (net_pins parts ++ tap_pins band.taps) (phase_pins (length parts) band.first_column) p m) [
        | inl k ↦ elim (member_append (net_pins parts) (tap_pins band.taps) p k) [
          | inl h ↦ of_net (net_pin_is parts p h)
          | inr h ↦ (let w = member_map tap_pin band.taps p h in of_tap w.0 w.1 w.2)
        ]
        | inr k ↦ (
            let w = member_map (phase_pin (length parts) band.first_column) (range_with_len 0 3) p k in
            of_phase w.0 (let r = (range_members 0 3 w.0 w.1).1 in omega arith) w.2)
      ]

  pub band_pin_in : (p : Pin) → IsBandPin band parts p → Member (band_pins band parts) p
  band_pin_in p (of_net h) =
      append_left (net_pins parts ++ tap_pins band.taps) (phase_pins (length parts) band.first_column) p
      (append_left (net_pins parts) (tap_pins band.taps) p (net_pin_in parts p h))
  band_pin_in p (of_tap t m e) =
      append_left (net_pins parts ++ tap_pins band.taps) (phase_pins (length parts) band.first_column) p
      (append_right (net_pins parts) (tap_pins band.taps) p
      (subst (Member (tap_pins band.taps)) e (map_member tap_pin band.taps t m)))
  band_pin_in p (of_phase j lt e) =
      append_right (net_pins parts ++ tap_pins band.taps) (phase_pins (length parts) band.first_column) p
      (subst (Member (phase_pins (length parts) band.first_column)) e
      (map_member (phase_pin (length parts) band.first_column) (range_with_len 0 3) j
      (range_has 0 3 j (omega arith) (omega arith))))
