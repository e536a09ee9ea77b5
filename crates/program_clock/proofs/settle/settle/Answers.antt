use Rattle.std.proofs.Common.{ap, ◌∙◌, arith, ◌++◌}
use Rattle.std.specs.Prelude.{unwrap_or}
use Rattle.std.specs.List.{flat_map}
use Rattle.std.proofs.lemmas.List.{length-set}
use Rattle.std.proofs.lemmas.Option.{slice_get_within}
use Rattle.mp_base.specs.Merge.{merged}
use Rattle.mp_program.specs.Effects.{effects_of, written}
use Rattle.program_clock.specs.Remembered.{state_of}
use Rattle.program_clock.proofs.Settling.{Agreement, settled_more, given_kept, settled_all}
use Rattle.program_clock.proofs.settle.settle.Goals as goal

pub written_to-found-requires-clause-inside : goal.written_to-found-requires-clause-inside
written_to-found-requires-clause-inside c =
    let x = c.requires.ordered.driven c.loop-target.target-index c.loop-target-test.true in
    slice_get_within c.args.program.now.defs _ x.0 x.1

pub bounds-env-target : goal.bounds-env-target
bounds-env-target c =
    let x = c.requires.ordered.driven c.loop-target.target-index c.loop-target-test.true in
    let inside = slice_get_within c.args.program.now.defs _ x.0 x.1 in
    omega (arith, inside, c.loop-target.invariant.size)

pub loop-target-preserved : goal.loop-target-preserved
loop-target-preserved c =
    let p = c.args.program.now in
    let st = state_of c.args.memory.now in
    let k = c.loop-target.target-index in
    let lt = c.loop-target-test.true in
    let env = c.loop-target.env in
    let x = c.requires.ordered.driven k lt in
    let found = c.unwrap_or.ensures ∙ ap (λ o. unwrap_or o 0) (c.written_to-found.ensures x.0 x.1)
    ∙ ap (λ ps. unwrap_or (merged (written (x.0).name (flat_map (effects_of p env) (p.always ++ ps)))) 0)
    c.requires.placed in
    let agree : Agreement p st = λ a b d y. c.driven_by_reads.ensures st a b d y c.requires.state in
    record {
      size = simp length-set c.loop-target.invariant.size;
      given = given_kept p st c.args.inputs.now c.args.order.now c.requires.ordered agree env k c.unwrap_or.result lt
          c.loop-target.invariant.given;
      settled =
          settled_more p st c.args.inputs.now c.args.order.now c.requires.ordered agree env k c.unwrap_or.result x.0 lt
          x.1 c.loop-target.invariant.size
          (simp length-set c.loop-target.invariant.size) found c.loop-target.invariant.settled;
    }

pub returns : goal.returns
returns c =
    settled_all c.args.program.now (state_of c.args.memory.now) c.args.inputs.now c.args.order.now c.requires.ordered
    (λ a b d y. c.driven_by_reads.ensures (state_of c.args.memory.now) a b d y c.requires.state) c.loop-target.env
    c.loop-target.target-index
    c.loop-target-test.false c.loop-target.invariant.size c.loop-target.invariant.given c.loop-target.invariant.settled
