-- What an answer says of a program.
use Rattle.std.specs.Prelude.{Some}
use Rattle.mp_base.specs.declared.refusal.Place.{Place}
use Rattle.mp_program.specs.declared.program.Program.{Program}
use Rattle.mp_program.specs.Reads.{IsOrder}
use Rattle.mp_rules.specs.Breaking.{IsEarliest}
use Rattle.mp_rules.specs.Rules.{E33}
use Rattle.mp_order.specs.declared.evaluation.Evaluation.{Evaluation}
use Rattle.mp_order.specs.declared.evaluation.Evaluation.TheVariants.{Order, Closed}

-- an order of evaluation, where no definition reads itself through a chain, or the earliest place where one does
abbrev pub IsEvaluation : Program → Evaluation → Type 0
IsEvaluation p (Order order) = IsOrder p order × ((at : Place) → ¬ E33 p at)
IsEvaluation p (Closed at) = IsEarliest (E33 p) (Some at)
