-- Along rows and columns.
use Rattle.std.proofs.Common.{arith, refl, true, ◌≡◌}
use Rattle.std.specs.Prelude.{ℤ}
use Rattle.std.proofs.lemmas.Result.{IfOk-weaker}
use Rattle.lam_geom.specs.Rules.{IsTight}
use Rattle.lam_geom.specs.Squares.{covered}
use Rattle.rule_edges.specs.Edges.{AreSpaced}
use Rattle.rule_edges.specs.declared.along.Along.TheVariants.{Columns}
use Rattle.rule_edges.proofs.Spaces.{none_tight}
use Rattle.rule_edges.proofs.spacing.edges_keep_spacing.Goals as goal

pub returns : goal.returns
returns c =
    let l = c.args.layer in
    let shapes = c.args.shapes.now in
    IfOk-weaker c.are_spaced-2.result (λ k. k ≡ true → AreSpaced l c.args.size Columns shapes)
    (λ k. k ≡ true → (x y : ℤ) → ¬ IsTight (covered shapes l) c.args.size x y)
    (λ k h e. none_tight shapes c.requires l c.args.size (omega arith) (c.if-not-is_on_grid.ensures refl)
    (c.in_ok-are_spaced.ensures c.if-not-branch.false) (h e)) c.are_spaced-2.ensures
