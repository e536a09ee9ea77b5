use Rattle.std.proofs.Common.{◌<◌, ◌^◌}
use Rattle.std.proofs.lemmas.Slice.Zip.{AllZip-long}
use Rattle.mp_base.specs.declared.pad.Pad.{Pad}
use Rattle.mp_base.specs.declared.value.TritWord.{TritWord}
use Rattle.mp_base.specs.PadBits.{bit_count}
use Rattle.clock_run.proofs.device.CircuitDevice.clock.Goals as goal

pub returns-clause-as_many : goal.returns-clause-as_many
returns-clause-as_many c =
    AllZip-long (λ (pad : Pad) (word : TritWord). word.known < 2 ^ bit_count pad.width)
    c.args.self.now.pads.outputs c.clock.new.outputs c.clock.ensures.narrow
