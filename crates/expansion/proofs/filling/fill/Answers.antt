use Rattle.std.proofs.Common.{◌<◌, ◌+◌, ℕ, length, length-append, take, ap, arith, rules, ◌∙◌, None}
use Rattle.std.proofs.lemmas.List.Folds.{length-flat_map-take}
use Rattle.mp_rules.specs.declared.limits.TheConstants.{EXPR_LIMIT}
use Rattle.expansion.specs.declared.item.Item.TheVariants.{Copied}
use Rattle.expansion.specs.Filling.{filled, filled_item, Stops}
use Rattle.expansion.proofs.Stops.{stops_weaker}
use Rattle.expansion.proofs.filling.fill.Goals as goal

pub returns-in_err-fill_item : goal.returns-in_err-fill_item
returns-in_err-fill_item c =
    let f = filled_item c.args.at c.args.words.now in
    let xs = c.args.template.now in
    let i : ℕ = c.loop-item.item-index in
    let test : i < length xs = c.loop-item-test.true in
    let part = length-flat_map-take f xs i (Copied 0 None) test in
    let so_far = ap length c.loop-item.invariant
    ∙ length-append c.args.items.now (filled c.args.at c.args.words.now (take i xs)) in
    let h : Stops (EXPR_LIMIT < length c.args.items.now + length (filled c.args.at c.args.words.now xs))
    c.in_err-fill_item.field-0.0 =
    stops_weaker (λ over. omega (arith, over, part, so_far)) c.in_err-fill_item.field-0.0 c.in_err-fill_item.ensures in
    search (rules, h)
