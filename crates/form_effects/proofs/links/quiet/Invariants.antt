use Rattle.std.proofs.Common.{◌≡◌, ◌<◌, ℕ, [], Some, length, slice_index_or}
use Rattle.std.specs.Prelude.{slice_get}
use Rattle.mp_program.specs.declared.program.Def.{Def}
use Rattle.form_effects.specs.Linked.{AreQuiet}
use Rattle.form_effects.proofs.links.quiet.Given as goal

pub record AreQuietSoFar (l : goal.Live-loop-def) : Type 0 where
  pub size : length l.list ≡ l.def-index
  pub quiet : (d : ℕ) (x : Def) → d < l.def-index → slice_get l.program.defs d ≡ Some x
      → AreQuiet l.program x.name (slice_index_or l.list d [])

abbrev pub invariant-loop-def : goal.invariant-loop-def
invariant-loop-def l = AreQuietSoFar l
