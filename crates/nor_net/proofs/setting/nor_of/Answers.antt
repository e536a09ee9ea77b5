use Rattle.std.proofs.Common.{get_or, sym, ◌∙◌, map}
use Rattle.std.proofs.lemmas.List.Elements.{Contains-get_or}
use Rattle.nor_net.specs.Passing.{at}
use Rattle.nor_net.proofs.Values.{any_one, nor_zero}
use Rattle.nor_net.proofs.setting.nor_of.Goals as goal

pub returns-in-One : goal.returns-in-One
returns-in-One c =
    sym (nor_zero (map (at c.args.values.now) c.args.inputs.now)
    (any_one (at c.args.values.now) c.args.inputs.now (get_or c.args.inputs.now c.loop-id.id-index (record { 0 = 0 }))
    (Contains-get_or c.args.inputs.now c.loop-id.id-index (record { 0 = 0 }) c.loop-id-test.true)
    (sym c.value_at.ensures ∙ c.in-One.is)))
