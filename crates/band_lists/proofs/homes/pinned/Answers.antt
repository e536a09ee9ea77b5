use Rattle.std.proofs.Common.{ℕ, ◌<◌, ◌==◌, ◌∙◌, Bool, true, false, List, length, get_or, refl, sym, subst}
use Rattle.std.proofs.lemmas.Bool.{or_right}
use Rattle.std.proofs.lemmas.List.{length-set}
use Rattle.array_form.proofs.Listing.{same_to}
use Rattle.band_lists.specs.declared.pins.Pin.{Pin}
use Rattle.band_lists.specs.declared.pins.At.TheVariants.{Home}
use Rattle.band_lists.proofs.Flags.{flags_more, not_same}
use Rattle.band_lists.proofs.homes.pinned.Goals as goal

pub loop-pin-preserved : goal.loop-pin-preserved
loop-pin-preserved c =
    let pins : List Pin = c.args.pins.now in
    let i : ℕ = c.loop-pin.pin-index in
    let none : Pin = record { segment = 0; at = Home 0 } in
    let flags : List Bool = c.loop-pin.flags.items in
    let v = c.loop-pin.invariant in
    let k : ℕ = (get_or pins i none).segment in
    let here : ℕ → Pin → Bool = λ n p. p.segment == n in
    let inside : k < length flags = subst (λ z. k < z) (sym v.long) (c.requires i none c.loop-pin-test.true) in
    record {
      long = length-set flags k true ∙ v.long;
      flags = λ j lt. flags_more here pins i none c.loop-pin-test.true flags true (λ n e. not_same k n e)
          (sym (or_right (get_or flags k false) (k == k) (same_to k k refl))) inside
          (λ m b. v.flags m (subst (λ z. m < z) v.long b)) j (subst (λ z. j < z) (sym v.long) lt);
    }
