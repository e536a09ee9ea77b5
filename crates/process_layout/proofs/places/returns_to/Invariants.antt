use Rattle.std.proofs.Common.{◌≡◌, ◌-◌, ◌≤◌, false}
use Rattle.std.specs.Prelude.{slice_index_or}
use Rattle.process_layout.specs.Laying.{returns_to}
use Rattle.process_layout.proofs.places.returns_to.Given as goal

abbrev pub invariant-loop-place : goal.invariant-loop-place
invariant-loop-place l = record {
  found : l.places ≡ returns_to (λ f. slice_index_or l.calling f false) l.forms (l.place - 1);
  within : l.place - 1 ≤ l.count - 1;
}
