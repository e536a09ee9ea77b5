use Rattle.std.proofs.Common.{◌≡◌, ℕ, length, take}
use Rattle.path_form.specs.declared.path.Lift.{Lift}
use Rattle.path_sources.specs.Sources.{lift_source, or_source, source_at, told}
use Rattle.path_sources.proofs.sources.tell_lifts.Given as goal

abbrev pub invariant-loop-lift : goal.invariant-loop-lift
invariant-loop-lift l = record {
  size : length l.sources ≡ length l.initial.sources;
  told : (n : ℕ) → source_at l.sources n
      ≡ or_source (source_at l.initial.sources n) (told (λ (l : Lift). l.control) lift_source n
      (take l.lift-index l.lifts));
}
