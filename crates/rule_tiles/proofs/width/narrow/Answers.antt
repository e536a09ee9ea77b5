-- Three differences.
use Rattle.std.proofs.Common.{sym, subst, arith, ◌∙◌, ◌-◌}
use Rattle.std.specs.Prelude.{All}
use Rattle.std.proofs.lemmas.Int.{ints}
use Rattle.std.proofs.lemmas.Result.{IfOk-weaker}
use Rattle.lam_geom.specs.Rules.{IsNarrow}
use Rattle.rule_tiles.specs.Areas.{reached, held, IsOnField, IsAreaOf, Lacks}
use Rattle.rule_tiles.proofs.Gaps.{area_near, area_on_field, field_on_field}
use Rattle.rule_tiles.proofs.Narrow.{near_edge, far_edge, narrow_area}
use Rattle.rule_tiles.proofs.width.narrow.Goals as goal

pub difference-requires-clause-from : goal.difference-requires-clause-from
difference-requires-clause-from c =
    subst (All IsOnField) (sym (c.as_slice.ensures ∙ c.in_ok-far.ensures))
    (field_on_field far_edge (omega (arith, ints)) (omega (arith, ints)))

pub difference-requires-clause-taken : goal.difference-requires-clause-taken
difference-requires-clause-taken c = area_near c.args.area.now c.requires.near

pub difference-requires-2-clause-from : goal.difference-requires-2-clause-from
difference-requires-2-clause-from c =
    subst (All IsOnField) (sym (c.as_slice-2.ensures ∙ c.in_ok-near.ensures))
    (field_on_field near_edge (omega (arith, ints)) (omega (arith, ints)))

pub difference-requires-2-clause-taken : goal.difference-requires-2-clause-taken
difference-requires-2-clause-taken c =
    subst (All IsOnField) (sym c.as_slice-3.ensures)
    (area_on_field _ c.in_ok-holes.holes c.as_slice.result.now c.in_ok-holes.ensures (λ x y h. h.0)
    (subst (All IsOnField) (sym (c.as_slice.ensures ∙ c.in_ok-far.ensures))
    (field_on_field far_edge (omega (arith, ints)) (omega (arith, ints)))))

pub difference-requires-3-clause-from : goal.difference-requires-3-clause-from
difference-requires-3-clause-from c = area_near c.args.area.now c.requires.near

pub difference-requires-3-clause-taken : goal.difference-requires-3-clause-taken
difference-requires-3-clause-taken c =
    subst (All IsOnField) (sym c.as_slice-4.ensures)
    (area_on_field _ c.in_ok-corners.corners c.as_slice-2.result.now c.in_ok-corners.ensures (λ x y h. h.0)
    (subst (All IsOnField) (sym (c.as_slice-2.ensures ∙ c.in_ok-near.ensures))
    (field_on_field near_edge (omega (arith, ints)) (omega (arith, ints)))))

pub returns : goal.returns
returns c =
    let own = c.args.area.now in
    let size = c.args.size in
    let n = size - 1 in
    let some = c.requires.some in
    let holes = c.in_ok-holes.holes in
    let corners = c.in_ok-corners.corners in
    let h = subst (λ s. IsAreaOf (Lacks (held s) (held own)) holes) (c.as_slice.ensures ∙ c.in_ok-far.ensures)
    c.in_ok-holes.ensures in
    let k = subst (λ s. IsAreaOf (Lacks (held s) (reached n 0 holes)) corners)
    (c.as_slice-2.ensures ∙ c.in_ok-near.ensures)
    (subst (λ s. IsAreaOf (Lacks (held c.as_slice-2.result.now) (reached n 0 s)) corners) c.as_slice-3.ensures
    c.in_ok-corners.ensures) in
    IfOk-weaker c.difference-3.result (IsAreaOf (Lacks (held own) (reached 0 n c.as_slice-4.result.now)))
    (IsAreaOf (IsNarrow (held own) size))
    (λ a is. narrow_area own holes corners a size n (omega arith) (omega arith) c.requires.near h k
    (subst (λ s. IsAreaOf (Lacks (held own) (reached 0 n s)) a) c.as_slice-4.ensures is)) c.difference-3.ensures
