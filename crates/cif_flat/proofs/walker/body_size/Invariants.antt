use Rattle.std.proofs.Common.{take, drop, All, true}
use Rattle.std.specs.Prelude.{slice_range}
use Rattle.cif_form.specs.Expansion.{IsInside}
use Rattle.cif_flat.specs.Sound.{AreClosed}
use Rattle.cif_flat.proofs.walker.body_size.Given as goal

abbrev pub invariant-loop-size : goal.invariant-loop-size
invariant-loop-size l = record {
  closed : AreClosed true (drop l.size (slice_range l.items l.first l.end));
  inside : All (λ i. IsInside i.command) (take l.size (slice_range l.items l.first l.end));
}
