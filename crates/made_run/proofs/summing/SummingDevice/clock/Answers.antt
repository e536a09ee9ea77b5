use Rattle.std.proofs.Common.{◌≡◌, ◌∙◌, length, sym, ap, subst}
use Rattle.mp_base.specs.declared.pad.Pads.{Pads}
use Rattle.made_run.specs.Summing.{Summed}
use Rattle.made_run.proofs.Numbers.{many_words}
use Rattle.made_run.proofs.summing.SummingDevice.clock.Goals as goal

pub first_number-number-requires-clause-as_many : goal.first_number-number-requires-clause-as_many
first_number-number-requires-clause-as_many c =
    many_words c.self.inside.circuit.pads.outputs c.clock.new.outputs c.clock.ensures.narrow
    ∙ ap (λ (ps : Pads). length ps.outputs) (sym (c.pads.ensures ∙ c.clock.ensures.pads))

pub returns-clause-as_many : goal.returns-clause-as_many
returns-clause-as_many c =
    subst (λ (s : Summed). length c.clock.new.outputs ≡ length ((s.circuit).pads).outputs) c.self.view_is
    (many_words c.self.inside.circuit.pads.outputs c.clock.new.outputs c.clock.ensures.narrow)
