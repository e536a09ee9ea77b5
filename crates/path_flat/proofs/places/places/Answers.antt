use Rattle.std.proofs.Common.{get_or, arith}
use Rattle.path_form.specs.declared.path.Piece.{Piece}
use Rattle.path_flat.proofs.Ranks.{net_more, piece_more}
use Rattle.path_flat.proofs.places.places.Goals as goal

pub loop-net-preserved : goal.loop-net-preserved
loop-net-preserved c =
    let d : Piece = record { band = 0; first = 0; last = 0 } in
    let p = get_or c.args.order.now c.loop-piece.piece-index d in
    let below = c.loop-net-test.true in
    let above = c.loop-net.auto.net in
    record {
      places = net_more c.loop-piece.places c.loop-net.places c.push.new.self p.band p.first c.loop-net.net above
          c.loop-net.invariant.places c.in_ok-push.ensures.ok;
      empty = λ l. absurd (omega (arith, below, above, l));
    }

pub loop-piece-preserved : goal.loop-piece-preserved
loop-piece-preserved c =
    let d : Piece = record { band = 0; first = 0; last = 0 } in
    piece_more c.args.order.now c.loop-piece.piece-index d c.loop-piece.places c.loop-net.places c.loop-net.net
    c.loop-piece-test.true c.loop-piece.invariant c.loop-net.invariant.places
    (let a = c.loop-net-test.false in
    let b = c.loop-net.auto.net in
    let e = c.loop-net.auto.net-end in
    let f = c.loop-net.invariant.empty in
    grind (arith, a, b, e, f))
