use Rattle.std.proofs.Common.{◌≡◌, ◌≤◌, ◌∙◌, List, [], ◌∷◌, ℕ, zero, suc, refl, length, map, take, subst, sym, ap}
use Rattle.std.proofs.Common.{arith}
use Rattle.std.specs.Prelude.{All}
use Rattle.task_schedule.specs.declared.scheduling.Entry.{Entry}
use Rattle.task_schedule.specs.Schedule.{IsSchedule}
use Rattle.task_schedule.specs.Turns.{AreEntries, AreExprTurns}
use Rattle.task_schedule.proofs.Turns.{turns_small}
use Rattle.task_schedule.proofs.Moments.{is_schedule}
use Rattle.task_schedule.proofs.scheduling.schedule.Goals as goal

pub sorted_entries-requires-clause-small : goal.sorted_entries-requires-clause-small
sorted_entries-requires-clause-small c =
    subst (All (λ t. t ≤ length c.args.rtl.now.order)) (sym c.as_slice-2.ensures)
    (turns_small c.args.rtl.now c.requires c.in_ok-cells.cells c.in_ok-turns.turns c.in_ok-cells.ensures
    (subst (λ (cs : List ℕ). AreExprTurns c.args.rtl.now cs (length c.args.rtl.now.exprs) c.in_ok-turns.turns)
    c.as_slice.ensures
    c.in_ok-turns.ensures))

take_all : (xs : List Entry) (n : ℕ) → length xs ≤ n → take n xs ≡ xs
take_all [] zero l = refl
take_all [] (suc n) l = refl
take_all (x ∷ xs) zero l = absurd (omega arith)
take_all (x ∷ xs) (suc n) l = ap (λ ys. x ∷ ys) (take_all xs n (omega arith))

pub returns : goal.returns
returns c =
    let e = c.in_ok-entries.ensures.permuted in
    let turns = subst (λ (cs : List ℕ). AreExprTurns c.args.rtl.now cs
    (length c.args.rtl.now.exprs) c.in_ok-turns.turns) c.as_slice.ensures
    c.in_ok-turns.ensures in
    let are = subst (λ (ts : List ℕ). AreEntries c.args.rtl.now ts (length c.args.rtl.now.exprs)
    (length c.args.rtl.now.order) e.0)
    c.as_slice-2.ensures e.1 in
    let whole = is_schedule c.args.rtl.now c.requires c.in_ok-cells.cells c.in_ok-turns.turns c.in_ok-cells.ensures
    turns e.0
    c.in_ok-entries.entries.items are e.2 c.in_ok-entries.ensures.rising in
    let n = ap length c.deref-entry-items.ensures.value in
    subst (IsSchedule c.args.rtl.now)
    (sym (c.loop-entry.invariant ∙ (ap (λ (ys : List Entry).
    map (λ (e : Entry). e.task) (take c.loop-entry.entry-index ys)) c.deref-entry-items.ensures.value
    ∙ ap (map (λ (e : Entry). e.task)) (take_all c.in_ok-entries.entries.items c.loop-entry.entry-index
    (omega (arith, n)))))) whole
