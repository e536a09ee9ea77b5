use Rattle.std.proofs.Common.{ℕ, ◌≡◌, ◌<◌, ◌==◌, ◌∙◌, ◌&&◌, Bool, false, List, length, get_or, refl, sym, ap, subst}
use Rattle.std.specs.Prelude.{◌||◌}
use Rattle.std.proofs.lemmas.List.{length-set, get_or_default}
use Rattle.array_form.proofs.Listing.{same_to}
use Rattle.band_lists.specs.declared.pins.Pin.{Pin}
use Rattle.band_lists.specs.declared.pins.At.TheVariants.{Home}
use Rattle.band_lists.specs.Pins.{is_own}
use Rattle.band_lists.proofs.Flags.{flags_more, not_same}
use Rattle.band_lists.proofs.homes.owned.Goals as goal

pub loop-pin-preserved : goal.loop-pin-preserved
loop-pin-preserved c =
    let pins : List Pin = c.args.pins.now in
    let i : ℕ = c.loop-pin.pin-index in
    let none : Pin = record { segment = 0; at = Home 0 } in
    let flags : List Bool = c.loop-pin.flags.items in
    let v = c.loop-pin.invariant in
    let p : Pin = get_or pins i none in
    let k : ℕ = p.segment in
    let here : ℕ → Pin → Bool = λ n p. p.segment == n && is_own p in
    let inside : k < length flags = subst (λ z. k < z) (sym v.long) (c.requires i none c.loop-pin-test.true) in
    let is : c.also_owned.result ≡ (get_or flags k false || here k p) =
    c.also_owned.ensures
    ∙ (ap (λ t. t || is_own p) (c.index.ensures ∙ get_or_default flags k _ false inside)
    ∙ ap (λ t. get_or flags k false || (t && is_own p)) (sym (same_to k k refl))) in
    record {
      long = length-set flags k c.also_owned.result ∙ v.long;
      flags = λ j lt. flags_more here pins i none c.loop-pin-test.true flags c.also_owned.result
          (λ n e. ap (λ t. t && is_own p) (not_same k n e)) is inside
          (λ m b. v.flags m (subst (λ z. m < z) v.long b)) j (subst (λ z. j < z) (sym v.long) lt);
    }
