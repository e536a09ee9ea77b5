use Rattle.std.proofs.Common.{◌≡◌, inl, inr, length, ℕ, List, subst, ap, arith}
use Rattle.std.specs.Prelude.{Contains}
use Rattle.mp_program.specs.declared.program.Process.{Process}
use Rattle.mp_base.specs.Entries.{IsAt}
use Rattle.mp_base.proofs.Entries.{entry}
use Rattle.mp_order.specs.Tables.{Lifted}
use Rattle.mp_order.proofs.Tables.{lifted_as}
use Rattle.mp_order.proofs.Marks.{RootBelow, roots_more, roots_done}
use Rattle.mp_order.proofs.demands.mark_roots.Goals as goal

pub loop-process-init : goal.loop-process-init
loop-process-init c =
    let P : List ℕ → Type 0 = λ xs. Lifted (λ f k. Contains xs f × (k ≡ 1)) c.args.marks.now c.lift_all.new.numbers in
    lifted_as (λ f k. Contains c.args.program.now.always f × (k ≡ 1))
    (λ f k. RootBelow c.args.program.now 0 f × (k ≡ 1)) c.args.marks.now c.lift_all.new.numbers
    (subst P c.as_slice.ensures c.lift_all.ensures)
    (λ f k (h, e). (inl h, e))
    (λ f k (h, e). (first f h, e))
  where
    first : (f : ℕ) → RootBelow c.args.program.now 0 f → Contains c.args.program.now.always f
    first f (inl h) = h
    first f (inr (j, q, lt, at, h)) = absurd (omega (arith, lt))

pub loop-process-preserved : goal.loop-process-preserved
loop-process-preserved c =
    let A : List Process → Type 0 = λ xs. IsAt xs c.loop-process.process-index c.process-item.result in
    let at : IsAt c.args.program.now.processes c.loop-process.process-index c.process-item.result =
    subst A c.as_slice-process-items.ensures
    (entry c.as_slice-process-items.result.now c.loop-process.process-index c.loop-process-test.true c.process-item.is)
    in
    let P : List ℕ
    → Type 0 = λ xs. Lifted
    (λ f k. Contains xs f × (k ≡ 1)) c.loop-process.marks c.lift_all-in-loop-process.new.numbers in
    roots_more c.args.program.now c.loop-process.process-index c.process-item.result c.args.marks.now
    c.loop-process.marks c.lift_all-in-loop-process.new.numbers at
    c.loop-process.invariant (subst P c.as_slice-in-loop-process.ensures c.lift_all-in-loop-process.ensures)

pub returns : goal.returns
returns c =
    let e : length c.as_slice-process-items.result.now ≡ length c.args.program.now.processes =
    ap (length {A = Process}) c.as_slice-process-items.ensures in
    roots_done c.args.program.now c.loop-process.process-index c.args.marks.now c.loop-process.marks
    (omega (arith, e, c.loop-process-test.false)) c.loop-process.invariant
