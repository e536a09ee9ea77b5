use Rattle.std.proofs.Common.{◌≡◌, ℕ, ◌<◌, ◌≤◌, ◌∷◌, get_or}
use Rattle.program_clock.proofs.seat.push_front.Given as goal

abbrev pub invariant-loop-i : goal.invariant-loop-i
invariant-loop-i l = record {
  done : (k : ℕ) → k < l.i → get_or l.stack k 0 ≡ get_or (l.place ∷ l.initial.stack) k 0;
  rest : (k : ℕ) → l.i ≤ k → get_or l.stack k 0 ≡ get_or l.initial.stack k 0;
  carried : l.carried ≡ get_or (l.place ∷ l.initial.stack) l.i 0;
}
