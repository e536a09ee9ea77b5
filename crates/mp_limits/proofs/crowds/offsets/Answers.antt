use Rattle.std.proofs.Common.{rules, tests}
use Rattle.std.specs.Prelude.{not}
use Rattle.std.proofs.lemmas.Iterator.{YieldsList-from_slice, YieldsList-from_map, items_from_collect}
use Rattle.std.proofs.lemmas.Iterator.Consumers.{YieldsList-from_filter, YieldsList-from_chain}
use Rattle.mp_program.specs.declared.program.Def.{Def}
use Rattle.mp_program.specs.declared.program.Process.{Process}
use Rattle.mp_program.specs.Names.{is_supply}
use Rattle.mp_limits.proofs.crowds.offsets.Goals as goal

pub returns : goal.returns
returns c =
    let p = c.args.program.now in
    items_from_collect _ c.collect.ensures.ran (YieldsList-from_chain
    (YieldsList-from_map _ (λ (d : Def). (d.place).offset)
    (YieldsList-from_filter _ (λ (d : Def). not (is_supply d.what)) (YieldsList-from_slice p.defs cc)
    c.filter.ensures.closure (λ x r q k. search (rules, tests))) (cc) (λ x r q k. search rules))
    (YieldsList-from_map _ (λ (q : Process). (q.place).offset) (YieldsList-from_slice p.processes cc) (cc)
    (λ x r q k. search rules)) (cc) (cc))
