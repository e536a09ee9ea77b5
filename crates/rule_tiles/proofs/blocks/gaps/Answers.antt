-- Blocks that what lacks has no square of.
use Rattle.std.proofs.Common.{sym, subst, ◌∙◌, ap, ◌++◌, map}
use Rattle.std.specs.Prelude.{All}
use Rattle.lam_geom.specs.declared.layer.Layer.TheVariants.{ND}
use Rattle.rule_tiles.specs.Areas.{grown, held, IsOnField, IsAreaOf, Lacks}
use Rattle.rule_tiles.specs.Cuts.{block_of}
use Rattle.rule_tiles.proofs.Gaps.{area_near, area_on_field, blocks_on_field, gaps_are}
use Rattle.rule_tiles.proofs.blocks.gaps.Goals as goal

pub difference-requires-clause-from : goal.difference-requires-clause-from
difference-requires-clause-from c =
    subst (All IsOnField) (sym (c.as_slice.ensures ∙ c.in_ok-blocks.ensures))
    (blocks_on_field c.args.corners.now c.requires.corners)

pub difference-requires-clause-taken : goal.difference-requires-clause-taken
difference-requires-clause-taken c =
    subst (All IsOnField) (sym c.as_slice-2.ensures) (area_near c.in_ok-own.own c.in_ok-own.ensures.near)

pub add-requires : goal.add-requires
add-requires c =
    subst (All IsOnField) (sym c.as_slice-3.ensures)
    (area_on_field _ c.in_ok-lacks.lacks c.as_slice.result.now c.in_ok-lacks.ensures (λ x y h. h.0)
    (subst (All IsOnField) (sym (c.as_slice.ensures ∙ c.in_ok-blocks.ensures))
    (blocks_on_field c.args.corners.now c.requires.corners)))

pub returns : goal.returns
returns c =
    let lacks = c.in_ok-lacks.lacks in
    let own = c.in_ok-own.own in
    let corners = c.args.corners.now in
    let open_ = c.as_slice-4.result.now in
    let area : IsAreaOf (Lacks (held (map (block_of 2000) corners)) (held own)) lacks =
    subst (λ s. IsAreaOf (Lacks (held s) (held own)) lacks) (c.as_slice.ensures ∙ c.in_ok-blocks.ensures)
    (subst (λ s. IsAreaOf (Lacks (held c.as_slice.result.now) (held s)) lacks) c.as_slice-2.ensures
    c.in_ok-lacks.ensures) in
    let is = c.as_slice-4.ensures ∙ c.in_ok-add.ensures
    ∙ ap (λ s. s ++ map (grown ND 1999 0) c.as_slice-3.result.now) c.new-open.ensures
    ∙ ap (map (grown ND 1999 0)) c.as_slice-3.ensures in
    gaps_are c.args.shapes.now c.args.layer own lacks open_ corners c.in_ok-swept.swept.tiles
    c.in_ok-own.ensures.same area is c.in_ok-swept.ensures.tiles c.in_ok-swept.swept.found c.in_ok-swept.ensures.found
