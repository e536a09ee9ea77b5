use Rattle.std.proofs.Common.{ℕ, List, subst, arith}
use Rattle.std.proofs.lemmas.List.{take_all}
use Rattle.switch_net.specs.declared.network.Tag.{Tag}
use Rattle.clock_run.specs.Numbers.{NumberNodes}
use Rattle.clock_run.proofs.Naming.{Gained, tags_more}
use Rattle.clock_run.proofs.numbers.nodes_of.Goals as goal

pub loop-tag-preserved : goal.loop-tag-preserved
loop-tag-preserved c =
    let t = c.tag-item.result in
    let P : List ℕ → Type 0 = λ key. Gained c.loop-tag.numbers c.set.new.numbers key t.node in
    tags_more c.args.tags.now c.loop-tag.tag-index c.loop-tag.numbers c.set.new.numbers t
    (omega arith) c.tag-item.is c.loop-tag.invariant
    (subst P c.bytes.ensures c.in_ok-set.ensures)

pub returns : goal.returns
returns c =
    subst (λ (xs : List Tag). NumberNodes xs c.loop-tag.numbers)
    (take_all c.loop-tag.tag-index c.args.tags.now (omega arith))
    c.loop-tag.invariant
