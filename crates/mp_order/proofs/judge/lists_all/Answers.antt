use Rattle.std.proofs.Common.{◌≡◌, ◌+◌, ◌<◌, ℕ, List, sym, ◌∙◌, subst, length, get_or}
use Rattle.mp_program.specs.declared.program.Def.{Def}
use Rattle.mp_base.specs.Entries.{IsAt}
use Rattle.mp_base.proofs.Entries.{entry}
use Rattle.mp_order.proofs.Judging.{driven_more}
use Rattle.mp_order.proofs.judge.lists_all.Goals as goal

pub loop-d-preserved : goal.loop-d-preserved
loop-d-preserved c =
    let A : List Def → Type 0 = λ xs. IsAt xs c.loop-d.d c.def-item.result in
    let at : IsAt c.args.program.now.defs c.loop-d.d c.def-item.result =
    subst A c.as_slice-def-items.ensures
    (entry c.as_slice-def-items.result.now c.loop-d.d c.loop-d-test.true c.def-item.is) in
    driven_more c.args.program.now
    (λ e. (k : ℕ) × (k < length c.args.order.now) × (get_or c.args.order.now k 0 ≡ e)
    × (get_or c.args.ranks.now e 0 ≡ k + 1))
    c.loop-d.d c.def-item.result at c.loop-d.invariant
    (λ driven. let (k, kl, here, rank) = c.stands.ensures c.if-not-stands.false driven in
    (k, kl, here, sym c.read.ensures ∙ rank))
