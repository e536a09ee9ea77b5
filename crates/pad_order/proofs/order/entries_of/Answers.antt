use Rattle.std.proofs.Common.{◌++◌, ◌∙◌, ap, sym, arith}
use Rattle.std.proofs.lemmas.List.{append-nil, drop_all}
use Rattle.pad_order.specs.Entries.{entries_from}
use Rattle.pad_order.proofs.Entries.{one_more}
use Rattle.pad_order.proofs.order.entries_of.Goals as goal

pub loop-index-preserved : goal.loop-index-preserved
loop-index-preserved c =
    let i = c.loop-index.index in
    let d = c.index-ports-index.result in
    let pushed = c.in_ok-push.ensures.ok in
    one_more c.loop-index.entries c.push.new.self i c.args.ports.now d c.loop-index-test.true c.loop-index.invariant
    pushed

pub returns : goal.returns
returns c =
    let t = c.loop-index-test.false in
    let i = c.loop-index.index in
    sym (append-nil c.loop-index.entries)
    ∙ ap (λ l. c.loop-index.entries ++ entries_from i l) (sym (drop_all i c.args.ports.now (omega (arith, t))))
    ∙ c.loop-index.invariant
