-- The first tile whose block lacks a layer.
use Rattle.std.proofs.Common.{◌≡◌, sym, subst, ◌∙◌, ap, map, length}
use Rattle.std.specs.Prelude.{All}
use Rattle.std.proofs.lemmas.List.{length-map}
use Rattle.rule_tiles.specs.Cuts.{IsNearCorner, corner_of}
use Rattle.rule_tiles.proofs.Flags.{first_bare}
use Rattle.rule_tiles.proofs.Gaps.{near_tiles, near_corners}
use Rattle.rule_tiles.proofs.cuts.first_bare_cut.Goals as goal

pub corners-requires : goal.corners-requires
corners-requires c =
    let told = c.in_ok-cuts.ensures in
    rw c.as_slice.ensures (near_tiles c.args.shapes.now c.in_ok-cuts.cuts.tiles c.requires told.tiles told.whole)

pub bare_flags-requires-clause-corners : goal.bare_flags-requires-clause-corners
bare_flags-requires-clause-corners c =
    let told = c.in_ok-cuts.ensures in
    let tiles = c.in_ok-cuts.cuts.tiles in
    subst (All IsNearCorner)
    (sym (c.as_slice-2.ensures ∙ c.in_ok-corners.ensures ∙ ap (map corner_of) c.as_slice.ensures))
    (near_corners tiles (near_tiles c.args.shapes.now tiles c.requires told.tiles told.whole))

pub bare_flags-requires-clause-long : goal.bare_flags-requires-clause-long
bare_flags-requires-clause-long c =
    let tiles = c.in_ok-cuts.cuts.tiles in
    ap length c.as_slice-3.ensures ∙ c.in_ok-cuts.ensures.odd.long ∙ sym (length-map tiles corner_of)
    ∙ ap length (sym (c.as_slice-2.ensures ∙ c.in_ok-corners.ensures ∙ ap (map corner_of) c.as_slice.ensures))

pub first_flagged-requires : goal.first_flagged-requires
first_flagged-requires c =
    let tiles = c.in_ok-cuts.cuts.tiles in
    ap length c.as_slice-5.ensures ∙ c.in_ok-bare.ensures.long
    ∙ ap length (c.as_slice-2.ensures ∙ c.in_ok-corners.ensures ∙ ap (map corner_of) c.as_slice.ensures)
    ∙ length-map tiles corner_of ∙ ap length (sym c.as_slice-4.ensures)

pub returns : goal.returns
returns c =
    let told = c.in_ok-cuts.ensures in
    let tiles = c.in_ok-cuts.cuts.tiles in
    let corners : c.as_slice-2.result.now ≡ map corner_of tiles =
    c.as_slice-2.ensures ∙ c.in_ok-corners.ensures ∙ ap (map corner_of) c.as_slice.ensures in
    first_bare c.args.shapes.now tiles told.tiles told.whole c.rectangles_are_joined.ensures c.in_ok-cuts.cuts.odd
    told.odd c.in_ok-bare.bare (rw (corners, c.as_slice-3.ensures) at c.in_ok-bare.ensures)
    (length-map tiles corner_of) c.first_flagged.result
    (rw (c.as_slice-4.ensures, c.as_slice-5.ensures) at c.first_flagged.ensures)
