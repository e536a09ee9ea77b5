use Rattle.std.proofs.Common.{◌≡◌, ◌++◌, map, take}
use Rattle.path_form.specs.declared.path.Cast.{Cast}
use Rattle.path_draft.proofs.ends.add_casts.Given as goal

abbrev pub invariant-loop-cast : goal.invariant-loop-cast
invariant-loop-cast l = l.ends ≡ l.initial.ends ++ map (λ (c : Cast). c.slice) (take l.cast-index l.casts)
