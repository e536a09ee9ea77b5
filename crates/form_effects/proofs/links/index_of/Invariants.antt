use Rattle.std.proofs.Common.{◌≡◌, ◌+◌, drop}
use Rattle.mp_program.specs.Names.{index_of}
use Rattle.form_effects.proofs.links.index_of.Given as goal

abbrev pub invariant-loop-i : goal.invariant-loop-i
invariant-loop-i l = index_of l.defs l.name ≡ l.i + index_of (drop l.i l.defs) l.name
