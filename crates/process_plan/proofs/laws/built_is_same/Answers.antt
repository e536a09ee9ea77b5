use Rattle.process_plan.proofs.Sameness.{built_sound, built_same}
use Rattle.process_plan.proofs.laws.built_is_same.Goals as goal

pub values-requires : goal.values-requires
values-requires c = built_sound c.lawful.ensures c.args.rtl.now c.requires.built

pub one_trace-requires : goal.one_trace-requires
one_trace-requires c = built_sound c.lawful.ensures c.args.rtl.now c.requires.built

pub returns : goal.returns
returns c = built_same c.lawful.ensures c.args.rtl.now c.requires.built c.values.ensures c.one_trace.ensures
