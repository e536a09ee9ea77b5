use Rattle.std.proofs.Common.{◌<◌, ◌+◌, length, refl, ap, sym, ◌∙◌, subst, get_or, rules, arith}
use Rattle.std.proofs.lemmas.List.{length-set}
use Rattle.mp_program.proofs.Lengths.{length-outputs_of}
use Rattle.mp_program.specs.Names.{is_output}
use Rattle.mp_program.specs.Step.{outputs_of}
use Rattle.program_clock.proofs.Making.{MadeTo, made_more, made_all}
use Rattle.program_clock.proofs.Placing.{nth_of}
use Rattle.program_clock.proofs.Showing.{shown_at, length_indices}
use Rattle.program_clock.proofs.step.show.Goals as goal

pub bounds-env-target : goal.bounds-env-target
bounds-env-target c =
    let one = nth_of is_output c.args.program.now.defs c.args.links.now.outputs.items c.loop-pad.pad
    c.index-target.result.now c.requires.linked.outputs (omega arith) c.index-target.ensures in
    omega (arith, one.inside, c.requires.size)

pub offset_bounds-env-target : goal.offset_bounds-env-target
offset_bounds-env-target c =
    let one = nth_of is_output c.args.program.now.defs c.args.links.now.outputs.items c.loop-pad.pad
    c.index-target.result.now c.requires.linked.outputs (omega arith) c.index-target.ensures in
    let inside : c.index-target.result.now < length c.args.env.now = omega (arith, one.inside, c.requires.size) in
    search rules

pub put-requires : goal.put-requires
put-requires c =
    let many = length_indices c.args.program.now.defs c.args.env.now c.args.links.now.outputs.items c.requires.size
    c.requires.linked.outputs in
    omega (arith, many, c.requires.pads, c.loop-pad.invariant.size)

pub loop-pad-preserved : goal.loop-pad-preserved
loop-pad-preserved c =
    let p = c.args.program.now in
    let env = c.args.env.now in
    let list = c.args.links.now.outputs.items in
    let place = c.index-target.result.now in
    let many = length_indices p.defs env list c.requires.size c.requires.linked.outputs in
    let inside : c.loop-pad.pad < length c.loop-pad.outputs =
    omega (arith, many, c.requires.pads, c.loop-pad.invariant.size) in
    record {
      size = ap length c.put.ensures ∙ length-set c.loop-pad.outputs c.loop-pad.pad (get_or env place 0)
          ∙ c.loop-pad.invariant.size;
      made = subst (λ ys. MadeTo ys (outputs_of p.defs env) c.args.outputs.now 0 (c.loop-pad.pad + 1))
          (sym c.put.ensures)
          (made_more c.loop-pad.outputs (outputs_of p.defs env) c.args.outputs.now 0 c.loop-pad.pad (get_or env place 0)
          inside
          (shown_at p.defs env list c.loop-pad.pad place (get_or env place 0) c.requires.size c.requires.linked.outputs
          (omega arith) c.index-target.ensures refl)
          c.loop-pad.invariant.made);
    }

pub returns : goal.returns
returns c =
    let p = c.args.program.now in
    let env = c.args.env.now in
    let many = length_indices p.defs env c.args.links.now.outputs.items c.requires.size c.requires.linked.outputs in
    let long = length-outputs_of p.defs env c.requires.size in
    made_all c.loop-pad.outputs (outputs_of p.defs env) c.args.outputs.now 0 c.loop-pad.pad
    (omega (arith, c.loop-pad.invariant.size, c.requires.pads, long))
    (omega (arith, many, c.loop-pad.invariant.size, c.requires.pads))
    c.loop-pad.invariant.made
