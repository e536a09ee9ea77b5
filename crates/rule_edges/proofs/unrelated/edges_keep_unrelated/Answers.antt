-- Along rows and columns.
use Rattle.std.proofs.Common.{refl, true, ◌≡◌}
use Rattle.std.specs.Prelude.{ℤ}
use Rattle.std.proofs.lemmas.Result.{IfOk-weaker}
use Rattle.lam_geom.specs.Rules.{IsUnrelated}
use Rattle.lam_geom.specs.Squares.{covered}
use Rattle.rule_edges.specs.Edges.{AreParted}
use Rattle.rule_edges.specs.declared.along.Along.TheVariants.{Columns}
use Rattle.rule_edges.proofs.Partings.{none_unrelated}
use Rattle.rule_edges.proofs.unrelated.edges_keep_unrelated.Goals as goal

pub returns : goal.returns
returns c =
    let shapes = c.args.shapes.now in
    IfOk-weaker c.are_parted-2.result (λ k. k ≡ true → AreParted Columns shapes)
    (λ k. k ≡ true → (x y : ℤ) → ¬ IsUnrelated (covered shapes) x y)
    (λ k h e. none_unrelated shapes c.requires (c.if-not-is_on_grid.ensures refl) (c.if-not-is_on_grid-2.ensures refl)
    (c.in_ok-are_parted.ensures c.if-not-branch.false) (h e)) c.are_parted-2.ensures
