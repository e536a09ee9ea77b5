use Rattle.std.proofs.Common.{◌≡◌, length}
use Rattle.expansion.specs.Templates.{AreMade}
use Rattle.expansion.proofs.templates.templates.Given as goal

abbrev pub invariant-loop-body : goal.invariant-loop-body
invariant-loop-body l = record {
  size : length l.slots ≡ l.body-index;
  number : l.function ≡ l.body-index;
  made : AreMade l.program l.slots;
}
