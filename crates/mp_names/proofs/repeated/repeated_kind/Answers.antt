use Rattle.mp_names.proofs.Supplies.{nothing_watched, watched_other, watched_first, watched_again, all_watched}
use Rattle.mp_names.proofs.repeated.repeated_kind.Goals as goal
use Rattle.mp_names.proofs.repeated.repeated_kind.Goals.{then-is_same+then-seen, then-is_same+else-seen, else-is_same}

pub loop-def-init : goal.loop-def-init
loop-def-init c = nothing_watched c.args.kind

pub loop-def-preserved : goal.loop-def-preserved
loop-def-preserved c = elim c.if-is_same.branch [
  | then-is_same+then-seen w ↦
      rw (w.found-is, w.seen-is, w.earlier-found.ensures)
      (watched_again c.args.defs.now c.loop-def.def-index c.def-item.result c.args.kind
      c.loop-def.found c.loop-def.seen c.loop-def-test.true c.def-item.is
      (c.is_same.ensures.0 w.if-is_same.true) w.if-seen.true c.loop-def.invariant)
  | then-is_same+else-seen w ↦
      rw (w.found-is, w.seen-is) (watched_first c.args.defs.now c.loop-def.def-index c.def-item.result c.args.kind
      c.loop-def.found c.loop-def.seen c.loop-def-test.true c.def-item.is
      (c.is_same.ensures.0 w.if-is_same.true) w.if-seen.false c.loop-def.invariant)
  | else-is_same w ↦
      rw (w.found-is, w.seen-is) (watched_other c.args.defs.now c.loop-def.def-index c.def-item.result c.args.kind
      c.loop-def.found c.loop-def.seen c.loop-def-test.true c.def-item.is
      (λ same. let yes = c.is_same.ensures.1 same in let not_same = w.if-is_same.false in cc) c.loop-def.invariant)
]

pub returns : goal.returns
returns c =
    all_watched c.args.defs.now c.loop-def.def-index c.args.kind c.loop-def.found c.loop-def.seen c.loop-def-test.false
    c.loop-def.invariant
