use Rattle.silicon.proofs.Completeness as all
use Rattle.silicon.proofs.laws.completeness.Goals as goal

pub returns-clause-owed : goal.returns-clause-owed
returns-clause-owed c = λ lent left command status before after old new run told kept still.
    let (fault, first) = c.a_first_fault.ensures lent command old in (
      fault,
      first,
      all.owed c.one_first_fault.ensures lent left command before after old new fault first still status run told kept,
    )

pub returns-clause-usage : goal.returns-clause-usage
returns-clause-usage c = all.no_form

pub returns-clause-untold : goal.returns-clause-untold
returns-clause-untold c = λ lent left words status before after run untold still. (
  all.no_read_fault lent left words status before after run untold still,
  all.no_write_fault lent left words status before after run still,
)

pub returns-clause-faults : goal.returns-clause-faults
returns-clause-faults c = all.greater

pub returns-clause-quiet : goal.returns-clause-quiet
returns-clause-quiet c = λ lent left command status before after old new run told kept none no_more.
    let (fault, first) = c.a_first_fault.ensures lent command old in (
      fault,
      first,
      all.owed c.one_first_fault.ensures lent left command before after old new fault first
          (all.none_rose before after none no_more) status run told kept,
    )

pub returns-clause-still : goal.returns-clause-still
returns-clause-still c = all.none_rose
