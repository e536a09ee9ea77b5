use Rattle.std.proofs.Common.{◌++◌, take, ◌∙◌, ap}
use Rattle.std.specs.List.{flat_map}
use Rattle.program_maker.specs.Texts.{registers, definition}
use Rattle.program_maker.proofs.Rows.{definitions_more}
use Rattle.program_maker.proofs.source.push_definitions.Goals as goal

pub loop-i-preserved : goal.loop-i-preserved
loop-i-preserved c = c.in_ok-push_definition.ensures
    ∙ ap (λ t. t ++ definition c.register.result.now) c.loop-i.invariant
    ∙ ap (λ r. (c.args.text.now.items ++ flat_map definition (take c.loop-i.i registers)) ++ definition r)
    c.register.ensures
    ∙ definitions_more c.args.text.now.items c.loop-i.i c.loop-i-test.true
