use Rattle.std.proofs.Common.{◌≡◌, ◌<◌, ◌≤◌, List, ◌∙◌, subst, arith, get_or}
use Rattle.mp_program.specs.declared.program.Def.{Def}
use Rattle.mp_base.specs.Entries.{IsAt}
use Rattle.mp_base.proofs.Entries.{entry}
use Rattle.mp_order.proofs.Judging.{driven_more}
use Rattle.mp_order.proofs.judge.falls.Goals as goal

pub loop-d-preserved : goal.loop-d-preserved
loop-d-preserved c =
    let A : List Def → Type 0 = λ xs. IsAt xs c.loop-d.d c.def-item.result in
    let at : IsAt c.args.program.now.defs c.loop-d.d c.def-item.result =
    subst A c.as_slice-def-items.ensures
    (entry c.as_slice-def-items.result.now c.loop-d.d c.loop-d-test.true c.def-item.is) in
    driven_more c.args.program.now
    (λ e. (get_or c.args.demands.now e 0 ≤ get_or c.args.ranks.now e 0)
    × (get_or c.args.loose.now e 0 ≡ 0 → get_or c.args.demands.now e 0 < get_or c.args.ranks.now e 0))
    c.loop-d.d c.def-item.result at c.loop-d.invariant
    (λ driven. let h = c.falls_at.ensures c.if-not-falls_at.false driven in (
      omega (arith, h.0, c.read_wide.ensures, c.read.ensures),
      λ zero. omega
          (arith, h.1 (c.read-in-loop-d.ensures ∙ zero), c.read_wide.ensures, c.read.ensures),
    ))
