use Rattle.std.proofs.Common.{◌≡◌, ◌++◌, map, take}
use Rattle.path_form.specs.declared.path.Lift.{Lift}
use Rattle.path_draft.proofs.ends.add_lifts.Given as goal

abbrev pub invariant-loop-lift : goal.invariant-loop-lift
invariant-loop-lift l = l.ends ≡ l.initial.ends ++ map (λ (l : Lift). l.control) (take l.lift-index l.lifts)
