use Rattle.std.proofs.Common.{map, take}
use Rattle.command_line.specs.App as spec
use Rattle.command_line.proofs.app.form.Given as goal

abbrev pub invariant-loop-id : goal.invariant-loop-id
invariant-loop-id l = spec.IsForm (spec.form l.name (map (λ id. id.now) (take l.id-index l.ids))) l.form
