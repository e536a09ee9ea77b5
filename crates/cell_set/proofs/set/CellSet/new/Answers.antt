use Rattle.std.proofs.Common.{◌≡◌, ℕ, ◌+◌, ◌/◌, replicate, rules, arith}
use Rattle.std.proofs.lemmas.List.{length-replicate}
use Rattle.cell_set.specs.Sets.{has, room_of}
use Rattle.cell_set.proofs.Cells.{untested, blank_unmarked}
use Rattle.cell_set.proofs.set.CellSet.new.Goals as goal

-- src/set.rt
pub returns-clause-empty : goal.returns-clause-empty
unfolding has
returns-clause-empty c =
    let n : ℕ = c.args.cells / 63 + 1 in
    let e : c.in_ok-words.words.items ≡ replicate n 0 = search rules in
    λ d. rw e (untested (replicate n 0) _ (blank_unmarked n _))

-- src/set.rt
pub returns-clause-room : goal.returns-clause-room
unfolding room_of
returns-clause-room c =
    let n : ℕ = c.args.cells / 63 + 1 in
    let e : c.in_ok-words.words.items ≡ replicate n 0 = search rules in
    let l = length-replicate {A = ℕ} n 0 in
    rw (e, l) (omega arith)
