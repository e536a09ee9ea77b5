use Rattle.std.proofs.Common.{ℕ, List, subst, arith}
use Rattle.std.proofs.lemmas.List.{take_all}
use Rattle.clock_run.proofs.Naming.{Number, Gained, names_more}
use Rattle.clock_run.proofs.numbers.names_of.Goals as goal

pub loop-name-preserved : goal.loop-name-preserved
loop-name-preserved c =
    let P : List ℕ → Type 0 = λ key. Gained c.loop-name.numbers c.set.new.numbers key 0 in
    names_more c.args.names.now c.loop-name.name-index c.loop-name.numbers c.set.new.numbers c.name-item.result 0
    (omega arith)
    c.name-item.is c.loop-name.invariant
    (subst P c.bytes.ensures c.in_ok-set.ensures)

pub returns : goal.returns
returns c = subst (λ (xs : List (List ℕ)). Number xs c.loop-name.numbers)
    (take_all c.loop-name.name-index c.args.names.now (omega arith)) c.loop-name.invariant
