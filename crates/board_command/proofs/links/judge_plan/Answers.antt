use Rattle.std.proofs.Common.{map, arith}
use Rattle.std.specs.Prelude.{string_bytes}
use Rattle.mp_program.specs.Pads.{ArePadsOf}
use Rattle.source_files.proofs.ProgramPads.{few_inputs, few_outputs, keeps_40}
use Rattle.board_command.proofs.Judging.{judged_plan}
use Rattle.board_command.proofs.links.judge_plan.Goals as goal

pub read_plan-requires-clause-inputs : goal.read_plan-requires-clause-inputs
read_plan-requires-clause-inputs g c =
    let p = c.args.checked.now.program in
    let few = few_inputs p c.pads-pads.result.now c.pads-pads.ensures.padded
    (c.few_namings.ensures p (keeps_40 p c.unbroken.ensures)) in
    omega (arith, few)

pub read_plan-requires-clause-outputs : goal.read_plan-requires-clause-outputs
read_plan-requires-clause-outputs g c =
    let p = c.args.checked.now.program in
    let few = few_outputs p c.pads-pads.result.now c.pads-pads.ensures.padded
    (c.few_namings.ensures p (keeps_40 p c.unbroken.ensures)) in
    omega (arith, few)

pub returns-then-parts-clause-judged : goal.returns-then-parts-clause-judged
returns-then-parts-clause-judged g c = tt

pub returns-then-parts-clause-planned : goal.returns-then-parts-clause-planned
returns-then-parts-clause-planned g c = tt

pub returns-then-parts-clause-padded : goal.returns-then-parts-clause-padded
returns-then-parts-clause-padded g c = rw c.pads-pads.ensures.same at c.pads-pads.ensures.padded

pub returns-clause-judged : goal.returns-clause-judged
returns-clause-judged g c = rw c.pads-pads.ensures.same at c.read_plan.ensures.judged

pub returns-clause-planned : goal.returns-clause-planned
returns-clause-planned g c =
    let checked = c.args.checked.now in
    let same = c.pads-pads.ensures.same in
    let padded : ArePadsOf checked.program checked.pads = rw same at c.pads-pads.ensures.padded in
    let few = few_inputs checked.program checked.pads padded
    (c.few_namings.ensures checked.program (keeps_40 checked.program c.unbroken.ensures)) in
    judged_plan (map (λ p. string_bytes p.name) c.args.parts.now) (map string_bytes c.args.words.now)
    c.args.clocks checked.program checked.pads c.read_plan.result padded (omega (arith, few))
    (rw same at c.read_plan.ensures.plan) (rw same at c.read_plan.ensures.whole)

pub returns-clause-padded : goal.returns-clause-padded
returns-clause-padded g c = rw c.pads-pads.ensures.same at c.pads-pads.ensures.padded
