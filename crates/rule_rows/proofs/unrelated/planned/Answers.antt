-- The field, and two layers of the drawing.
use Rattle.std.proofs.Common.{◌≡◌, ◌∙◌, ◌++◌, ◌∷◌, [], ap, subst}
use Rattle.lam_geom.specs.declared.layer.Layer.TheVariants.{ND, NP, NB}
use Rattle.lam_geom.specs.Squares.{covered}
use Rattle.rule_rows.specs.declared.side.Side.TheVariants.{Right}
use Rattle.rule_rows.specs.Copies.{AreSpread}
use Rattle.rule_rows.specs.Nears.{field_on}
use Rattle.rule_rows.proofs.Bounds.{are_bounded}
use Rattle.rule_rows.proofs.Planning.{plan_of}
use Rattle.rule_rows.proofs.unrelated.planned.Goals as goal

pub spread-requires-clause-bounded : goal.spread-requires-clause-bounded
spread-requires-clause-bounded c = are_bounded c.args.shapes.now c.requires.near

pub spread-requires-2-clause-bounded : goal.spread-requires-2-clause-bounded
spread-requires-2-clause-bounded c = are_bounded c.args.shapes.now c.requires.near

pub returns : goal.returns
returns c =
    let shapes = c.args.shapes.now in
    let d1 = c.spread.new.drawing in
    let d2 = c.spread-2.new.drawing in
    let one : c.push.new.self ≡ field_on ND ∷ [] =
    c.in_ok-push.ensures.ok ∙ ap (λ r. c.new-plan.result ++ r ∷ []) c.field.ensures
    ∙ ap (λ s. s ++ field_on ND ∷ []) c.new-plan.ensures in
    let two : c.push-2.new.self ≡ field_on ND ∷ field_on NP ∷ [] = c.in_ok-push-2.ensures.ok
    ∙ ap (λ r. c.push.new.self ++ r ∷ []) c.field-2.ensures ∙ ap (λ s. s ++ field_on NP ∷ []) one in
    plan_of shapes d1 d2 c.requires.near
    (subst (λ d. AreSpread (covered shapes NP) NB (record { side = Right; near = 0; far = 0 }) d d1) two
    c.in_ok-spread.ensures)
    c.in_ok-spread-2.ensures
