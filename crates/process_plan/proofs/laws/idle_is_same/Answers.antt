use Rattle.process_plan.proofs.Sameness.{idle_sound, idle_same}
use Rattle.process_plan.proofs.laws.idle_is_same.Goals as goal

pub one_trace-requires : goal.one_trace-requires
one_trace-requires c = idle_sound c.lawful.ensures c.args.rtl.now c.requires.idle

pub returns : goal.returns
returns c = idle_same c.lawful.ensures c.args.rtl.now c.requires.idle c.one_trace.ensures
