-- Cut by cut.
use Rattle.std.proofs.Common.{arith, refl, get_or, pos, true, false, ◌∙◌}
use Rattle.std.proofs.lemmas.Option.{slice_get-get_or}
use Rattle.lam_geom.specs.declared.place.Point.{Point}
use Rattle.rule_tiles.proofs.Backing.{held_more}
use Rattle.rule_tiles.proofs.Flags.{within_any}
use Rattle.rule_tiles.proofs.backed.are_all_held.Goals as goal

abbrev no_point : Point
no_point = record { x = pos 0; y = pos 0 }

pub loop-index-preserved : goal.loop-index-preserved
loop-index-preserved c =
    let corners = c.args.corners.now in
    let n = c.loop-index.index in
    held_more c.args.tiles.now corners c.args.odd.now n (get_or corners n no_point)
    (slice_get-get_or corners n no_point (omega arith))
    (λ even. c.if-not-is_settled.ensures refl (within_any c.args.odd.now n false true (omega arith) ∙ even))
    c.loop-index.invariant

pub returns : goal.returns
returns c = λ e i p m. c.loop-index.invariant i p (omega arith)
