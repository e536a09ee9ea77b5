use Rattle.std.proofs.Common.{◌≡◌, map}
use Rattle.std.specs.Prelude.{slice_index}
use Rattle.mp_written.specs.Expansion.{moved_form}
use Rattle.expansion.proofs.forms.moved_forms.Given as goal

abbrev pub invariant-loop-form : goal.invariant-loop-form
invariant-loop-form l = l.list ≡ map (moved_form (slice_index l.starts)) l.yielded
