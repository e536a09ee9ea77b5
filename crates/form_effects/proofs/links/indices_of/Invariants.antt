use Rattle.std.proofs.Common.{◌≡◌, take}
use Rattle.form_effects.specs.Linked.{is_kind, indices_where}
use Rattle.form_effects.proofs.links.indices_of.Given as goal

abbrev pub invariant-loop-i : goal.invariant-loop-i
invariant-loop-i l = l.list.items ≡ indices_where (is_kind l.kind) (take l.i l.defs)
