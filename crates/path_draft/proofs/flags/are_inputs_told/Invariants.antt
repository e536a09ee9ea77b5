use Rattle.std.proofs.Common.{◌≡◌, ◌<◌, ℕ, true}
use Rattle.path_draft.specs.Testing.{flag_at, is_input_at}
use Rattle.path_draft.proofs.flags.are_inputs_told.Given as goal

abbrev pub invariant-loop-id : goal.invariant-loop-id
invariant-loop-id l = (n : ℕ) → n < l.id → is_input_at l.net n ≡ true → flag_at l.flags n ≡ true
