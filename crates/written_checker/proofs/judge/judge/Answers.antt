use Rattle.std.proofs.Common.{subst, Option}
use Rattle.mp_base.specs.declared.refusal.Place.{Place}
use Rattle.mp_rules.specs.Breaking.{IsEarliest}
use Rattle.written_rules.specs.Breaking.{Breaks}
use Rattle.written_checker.proofs.Keeping.{keeps_more, refuses_first}
use Rattle.written_checker.proofs.judge.judge.Goals as goal

pub returns-in-None-clause-ok : goal.returns-in-None-clause-ok
returns-in-None-clause-ok c =
    keeps_more c.args.program.now c.args.number c.args.found c.requires.below c.in-None.is c.requires.earliest

pub returns-in-Some-clause-err : goal.returns-in-Some-clause-err
returns-in-Some-clause-err c =
    refuses_first c.args.program.now c.args.number c.in-Some.at c.refusal.result c.refusal.ensures c.requires.below
    (let P : Option Place → Type 0 = λ o. IsEarliest (Breaks c.args.program.now c.args.number) o in
    subst P c.in-Some.is c.requires.earliest)
