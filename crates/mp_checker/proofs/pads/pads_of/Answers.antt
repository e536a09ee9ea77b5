use Rattle.std.proofs.Common.{◌≡◌, ◌∙◌, ap, arith, take}
use Rattle.std.proofs.lemmas.List.{take_all}
use Rattle.mp_program.specs.Names.{is_input, is_output}
use Rattle.mp_checker.proofs.Padded.{faces, pad_names}
use Rattle.mp_checker.proofs.pads.pads_of.Goals as goal

pub invariant_of-result : goal.invariant_of-result
invariant_of-result c =
    let p = c.args.program.now in
    let all : take c.loop-def.def-index c.as_slice-defs.result.now ≡ p.defs =
    take_all c.loop-def.def-index c.as_slice-defs.result.now (omega arith) ∙ c.as_slice-defs.ensures in
    record {
      named = pad_names p c.requires.own c.requires.kept c.loop-def.inputs c.loop-def.outputs
          (c.loop-def.invariant.inputs ∙ ap (faces is_input p.width) all)
          (c.loop-def.invariant.outputs ∙ ap (faces is_output p.width) all);
    }
