use Rattle.std.proofs.Common.{◌≡◌, rules, ◌∙◌, ap}
use Rattle.name_meanings.specs.Named.{with_def}
use Rattle.name_meanings.specs.Keys.{known_in}
use Rattle.name_meanings.proofs.Noting.{def_noted}
use Rattle.name_meanings.proofs.table.names_of_defs.Goals as goal

pub loop-index-preserved : goal.loop-index-preserved
loop-index-preserved c =
    let index : c.in-Ok.index ≡ c.loop-index.index = search rules in
    def_noted c.args.defs.now c.loop-index.index c.index-defs-index.result c.loop-index.names c.insert.new.self
    c.bytes-name.result c.with_def-named.result
    c.loop-index-test.true c.index-defs-index.is c.bytes-name.ensures
    (c.with_def-named.ensures ∙ ap (λ n. with_def n c.in-Ok.index c.index-defs-index.result) c.known.ensures
    ∙ ap (λ k. with_def (known_in c.loop-index.names c.bytes-name.result.now) k c.index-defs-index.result) index)
    c.in_ok-insert.ensures.updates c.loop-index.invariant
