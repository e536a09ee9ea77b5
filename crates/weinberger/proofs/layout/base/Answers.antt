use Rattle.std.proofs.Common.{◌≡◌, ◌+◌, ◌∙◌, ap, map, take, get_or, arith, List, ℕ}
use Rattle.std.specs.Prelude.{max}
use Rattle.std.proofs.lemmas.List.{map_more}
use Rattle.array_form.specs.declared.band.Tap.{Tap}
use Rattle.array_form.specs.Homes.{greatest}
use Rattle.array_form.proofs.Greatest.{greatest_push}
use Rattle.weinberger.proofs.layout.base.Goals as goal

pub loop-tap-preserved : goal.loop-tap-preserved
loop-tap-preserved c =
    let taps : List Tap = c.args.taps.now in
    let i : ℕ = c.loop-tap.tap-index in
    let none : Tap = record { net = record { 0 = 0 }; column = 0 } in
    let after : Tap → ℕ = λ t. t.column + 1 in
    let e : greatest (map after (take (i + 1) taps)) ≡ max (greatest (map after (take i taps)))
    ((get_or taps i none).column + 1) =
    ap greatest (map_more after taps i none c.loop-tap-test.true)
    ∙ greatest_push (map after (take i taps)) (after (get_or taps i none)) in
    let s = c.requires.taps i none c.loop-tap-test.true in
    record { value = omega arith; small = omega arith }
