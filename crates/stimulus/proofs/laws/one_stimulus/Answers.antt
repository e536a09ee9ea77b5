use Rattle.std.proofs.Common.{◌∙◌, sym, ap}
use Rattle.stimulus.specs.declared.reading.Reading.{Reading}
use Rattle.stimulus.specs.Rules.{inputs_of, outputs_of}
use Rattle.stimulus.proofs.Once.{same_readings}
use Rattle.stimulus.proofs.laws.one_stimulus.Goals as goal

pub returns-clause-inputs : goal.returns-clause-inputs
returns-clause-inputs c = λ text known s t h k. h.inputs
    ∙ ap (λ (r : Reading). inputs_of known r) (same_readings text known s t h k) ∙ sym k.inputs

pub returns-clause-outputs : goal.returns-clause-outputs
returns-clause-outputs c = λ text known s t h k. h.outputs
    ∙ ap (λ (r : Reading). outputs_of known r) (same_readings text known s t h k) ∙ sym k.outputs

pub returns-clause-clocks : goal.returns-clause-clocks
returns-clause-clocks c =
    λ text known s t h k. h.clocks ∙ ap (λ (r : Reading). r.clocks) (same_readings text known s t h k) ∙ sym k.clocks
