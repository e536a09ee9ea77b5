-- The earlier of rows and columns.
use Rattle.std.proofs.Common.{◌⊎◌, subst}
use Rattle.lam_geom.specs.Squares.{covered}
use Rattle.lam_geom.specs.Rules.{IsUnrelated}
use Rattle.rule_rows.specs.Gates.{IsTurned}
use Rattle.rule_rows.specs.Nears.{IsAloneIn, IsLeading}
use Rattle.rule_rows.proofs.Alones.{turned_plan, unrelated_of_alone, alone_of_unrelated}
use Rattle.rule_rows.proofs.Bounds.{are_bounded}
use Rattle.rule_rows.proofs.Leasts.{first_same, first_of_either}
use Rattle.rule_rows.proofs.unrelated.first_unrelated.Goals as goal

pub leading-requires : goal.leading-requires
leading-requires c = rw c.as_slice.ensures c.in_ok-rows.ensures.plan

pub first_alone-requires-clause-bounded : goal.first_alone-requires-clause-bounded
first_alone-requires-clause-bounded c = are_bounded c.args.shapes.now c.requires.near

pub first_alone-requires-clause-only : goal.first_alone-requires-clause-only
first_alone-requires-clause-only c = c.in_ok-across.ensures.only

pub leading-requires-2 : goal.leading-requires-2
leading-requires-2 c =
    rw c.as_slice-3.ensures (turned_plan c.in_ok-rows.rows c.in_ok-columns.columns c.in_ok-rows.ensures.plan
    (subst (λ d. IsTurned d c.in_ok-columns.columns) c.as_slice-2.ensures c.in_ok-columns.ensures))

pub first_alone-requires-2-clause-bounded : goal.first_alone-requires-2-clause-bounded
first_alone-requires-2-clause-bounded c = are_bounded c.args.shapes.now c.requires.near

pub first_alone-requires-2-clause-only : goal.first_alone-requires-2-clause-only
first_alone-requires-2-clause-only c =
    let u = subst (λ d. IsTurned d c.in_ok-along.along) c.as_slice-4.ensures c.in_ok-along.ensures in
    λ l x y h. c.in_ok-found.ensures.only l y x ((u.each l x y).0 h)

pub returns : goal.returns
returns c =
    let shapes = c.args.shapes.now in
    let rows = c.in_ok-rows.rows in
    let across = c.in_ok-across.across in
    let columns = c.in_ok-columns.columns in
    let found = c.in_ok-found.found in
    let along = c.in_ok-along.along in
    let a = subst (λ d. IsLeading d across) c.as_slice.ensures c.in_ok-across.ensures in
    let t = subst (λ d. IsTurned d columns) c.as_slice-2.ensures c.in_ok-columns.ensures in
    let b = subst (λ d. IsLeading d found) c.as_slice-3.ensures c.in_ok-found.ensures in
    let u = subst (λ d. IsTurned d along) c.as_slice-4.ensures c.in_ok-along.ensures in
    first_same (λ x y. IsAloneIn shapes across x y ⊎ IsAloneIn shapes along x y) (IsUnrelated (covered shapes))
    c.earlier.result
    (unrelated_of_alone shapes rows across columns found along c.in_ok-rows.ensures a t b u)
    (alone_of_unrelated shapes rows across columns found along c.in_ok-rows.ensures a t b u)
    (first_of_either (IsAloneIn shapes across) (IsAloneIn shapes along) c.in_ok-in_rows.in_rows
    c.in_ok-in_columns.in_columns c.earlier.result c.earlier.ensures c.in_ok-in_rows.ensures
    c.in_ok-in_columns.ensures)
