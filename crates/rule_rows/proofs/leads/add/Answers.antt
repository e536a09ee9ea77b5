-- The column in rows of both.
use Rattle.std.proofs.Common.{rules, ◌∙◌, ◌++◌, ◌∷◌, [], ap}
use Rattle.rule_rows.proofs.Columns.{added_column, same_column}
use Rattle.rule_rows.proofs.leads.add.Goals as goal

pub returns-in_ok-push : goal.returns-in_ok-push
returns-in_ok-push c =
    added_column c.args.column c.args.from.now c.args.to.now c.args.rects.now c.push.new.self c.in-Some.x
    c.later-bottom.result c.sooner-top.result _ _ _ _ c.in-Some.is (search rules) c.later-bottom.ensures
    c.sooner-top.ensures
    (same_column c.args.rects.now c.push.new.self c.in-Some.x c.later-bottom.result c.sooner-top.result _ _ _
    (c.in_ok-push.ensures.ok ∙ ap (λ r. c.args.rects.now ++ r ∷ []) c.square_column.ensures) (search rules)
    (search rules) (search rules)) (search rules) (search rules) (search rules) (search rules)
