use Rattle.std.proofs.Common.{◌≡◌, ◌⊎◌, inl, inr, ◌+◌, List, ℕ, Option, Some, length, arith, sym, ap, subst}
use Rattle.mp_base.specs.declared.refusal.Place.{Place}
use Rattle.mp_program.specs.declared.program.Process.{Process}
use Rattle.mp_base.specs.Entries.{IsAt}
use Rattle.mp_base.proofs.Entries.{entry}
use Rattle.mp_rules.specs.Breaking.{IsEarliest}
use Rattle.mp_transfers.specs.Tables.{IsAmong}
use Rattle.mp_transfers.proofs.Earliest.{Upto, upto_then, upto_skip, upto_all}
use Rattle.mp_rules.proofs.EarliestPlaces.{earliest_same}
use Rattle.mp_transfers.proofs.Broken.{stack_broken}
use Rattle.mp_transfers.proofs.transfers.missing_stack.Goals.{then-is_stackless, else-is_stackless}
use Rattle.mp_transfers.proofs.transfers.missing_stack.Goals as goal

pub loop-process-preserved : goal.loop-process-preserved
loop-process-preserved c =
    let i : ℕ = c.loop-process.process-index in
    let q : Process = c.process-item.result in
    let P : List Process → Type 0 = λ xs. IsAt xs i q in
    let at : IsAt c.args.program.now.processes i q =
    subst P c.as_slice-process-items.ensures
    (entry c.as_slice-process-items.result.now i (omega arith) c.process-item.is) in
    let R : Option Place
    → Type 0 = Upto (λ at. ⊥) c.args.program.now.processes
    (λ k (q : Process) at. (q.depth ≡ 0) × IsAmong c.in_ok-firsts.firsts q.forms at) (i + 1) in
    elim c.if-is_stackless.branch [
      | then-is_stackless w ↦
          let Q : List ℕ
          → Type 0 = λ xs. IsEarliest
          (λ at. (c.loop-process.found ≡ Some at) ⊎ IsAmong c.in_ok-firsts.firsts xs at) w.least-found.result in
          subst R (sym w.found-is) (upto_then c.loop-process.invariant q at w.least-found.result
          (earliest_same (λ at. (c.loop-process.found ≡ Some at) ⊎ IsAmong c.in_ok-firsts.firsts q.forms at)
          (λ at. (c.loop-process.found ≡ Some at) ⊎ ((q.depth ≡ 0) × IsAmong c.in_ok-firsts.firsts q.forms at))
          w.least-found.result (subst Q w.as_slice.ensures w.least-found.ensures)
          (λ at there. elim there [ inl e ↦ inl e | inr among ↦ inr (w.if-is_stackless.true, among) ])
          (λ at there. elim there [ inl e ↦ inl e | inr both ↦ inr both.1 ])))
      | else-is_stackless w ↦
          subst R (sym w.found-is) (upto_skip c.loop-process.invariant q at (λ at both. w.if-is_stackless.false both.0))
    ]

pub returns : goal.returns
returns c =
    stack_broken c.args.program.now c.in_ok-firsts.firsts c.loop-process.found c.sound.ensures c.in_ok-firsts.ensures
    (upto_all c.loop-process.invariant (omega (arith, ap length c.as_slice-process-items.ensures)))
