use Rattle.std.proofs.Common.{◌≡◌, ℕ, length, take}
use Rattle.path_form.specs.declared.path.Cast.{Cast}
use Rattle.path_sources.specs.Sources.{cast_source, or_source, source_at, told}
use Rattle.path_sources.proofs.sources.tell_casts.Given as goal

abbrev pub invariant-loop-cast : goal.invariant-loop-cast
invariant-loop-cast l = record {
  size : length l.sources ≡ length l.initial.sources;
  told : (n : ℕ) → source_at l.sources n
      ≡ or_source (source_at l.initial.sources n) (told (λ (c : Cast). c.slice) cast_source n
      (take l.cast-index l.casts));
}
