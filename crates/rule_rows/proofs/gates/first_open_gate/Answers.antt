-- The earliest of four ways.
use Rattle.std.proofs.Common.{◌⊎◌}
use Rattle.lam_geom.specs.Squares.{covered}
use Rattle.lam_geom.specs.Rules.{IsOpenGate}
use Rattle.lam_geom.specs.Rules.Way.{right, left, up, down}
use Rattle.rule_rows.specs.Gates.{IsOpenToward}
use Rattle.rule_rows.proofs.Bounds.{are_bounded}
use Rattle.rule_rows.proofs.Leasts.{first_same, first_of_either}
use Rattle.rule_rows.proofs.Opens.{gate_of_ways, ways_of_gate}
use Rattle.rule_rows.proofs.gates.first_open_gate.Goals as goal

pub first_open-requires : goal.first_open-requires
first_open-requires c = record { bounded = are_bounded c.args.shapes.now c.requires.near }

pub first_open-requires-2 : goal.first_open-requires-2
first_open-requires-2 c = record { bounded = are_bounded c.args.shapes.now c.requires.near }

pub first_open-requires-3 : goal.first_open-requires-3
first_open-requires-3 c = record { bounded = are_bounded c.args.shapes.now c.requires.near }

pub first_open-requires-4 : goal.first_open-requires-4
first_open-requires-4 c = record { bounded = are_bounded c.args.shapes.now c.requires.near }

pub returns : goal.returns
returns c =
    let covers = covered c.args.shapes.now in
    let r = IsOpenToward covers right in
    let l = IsOpenToward covers left in
    let u = IsOpenToward covers up in
    let d = IsOpenToward covers down in
    first_same (λ x y. (r x y ⊎ l x y) ⊎ (u x y ⊎ d x y)) (IsOpenGate covers) c.earlier-3.result
    (gate_of_ways covers) (ways_of_gate covers)
    (first_of_either (λ x y. r x y ⊎ l x y) (λ x y. u x y ⊎ d x y) c.earlier.result c.earlier-2.result
    c.earlier-3.result c.earlier-3.ensures
    (first_of_either r l c.in_ok-right.right c.in_ok-left.left c.earlier.result c.earlier.ensures
    c.in_ok-right.ensures c.in_ok-left.ensures)
    (first_of_either u d c.in_ok-up.up c.in_ok-down.down c.earlier-2.result c.earlier-2.ensures c.in_ok-up.ensures
    c.in_ok-down.ensures))
