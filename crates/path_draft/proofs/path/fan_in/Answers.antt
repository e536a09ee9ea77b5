use Rattle.std.proofs.Common.{arith}
use Rattle.nor_net.specs.declared.net.Part.TheVariants.{Gate}
use Rattle.path_draft.proofs.Counts.{gates_within}
use Rattle.path_draft.proofs.path.fan_in.Goals as goal

pub overflow_cast-result : goal.overflow_cast-result
overflow_cast-result c =
    let within = gates_within c.args.net.now (c.args.id).0 (Gate c.gate_inputs.result.now) c.gate_inputs.ensures in
    let few = c.len-count.ensures.shape.few_inputs in
    omega (arith, within, few)
