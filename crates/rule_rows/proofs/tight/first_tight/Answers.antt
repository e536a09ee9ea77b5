-- A gap's first square is its least.
use Rattle.std.proofs.Common.{◌⊎◌}
use Rattle.lam_geom.specs.Squares.{covered}
use Rattle.lam_geom.specs.Rules.{IsTight}
use Rattle.lam_geom.specs.Rules.Way.{right, up}
use Rattle.rule_rows.specs.Gaps.{BeginsGap}
use Rattle.rule_rows.proofs.Bounds.{are_bounded}
use Rattle.rule_rows.proofs.Deep.{covered_or_not}
use Rattle.rule_rows.proofs.Leasts.{first_carried, first_of_either}
use Rattle.rule_rows.proofs.Opening.{begins_tight, tight_begins}
use Rattle.rule_rows.proofs.tight.first_tight.Goals as goal

pub first_gap-requires-clause-bounded : goal.first_gap-requires-clause-bounded
first_gap-requires-clause-bounded c = are_bounded c.args.shapes.now c.requires.near

pub first_gap-requires-2-clause-bounded : goal.first_gap-requires-2-clause-bounded
first_gap-requires-2-clause-bounded c = are_bounded c.args.shapes.now c.requires.near

pub returns : goal.returns
returns c =
    let on = covered c.args.shapes.now c.args.layer in
    let n = c.args.size in
    first_carried (λ x y. BeginsGap on right n x y ⊎ BeginsGap on up n x y) (IsTight on n) c.earlier.result
    (begins_tight on (covered_or_not c.args.shapes.now c.args.layer) n c.requires.some)
    (tight_begins on n)
    (first_of_either (BeginsGap on right n) (BeginsGap on up n) c.in_ok-across.across c.in_ok-up.up
    c.earlier.result c.earlier.ensures c.in_ok-across.ensures c.in_ok-up.ensures)
