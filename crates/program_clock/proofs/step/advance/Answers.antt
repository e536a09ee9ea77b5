use Rattle.std.proofs.Common.{◌<◌, ◌++◌, length, rules, arith}
use Rattle.std.specs.List.{flat_map}
use Rattle.mp_program.specs.Names.{is_stored}
use Rattle.mp_program.specs.Effects.{effects_of}
use Rattle.program_clock.proofs.Advancing.{advanced_more, advanced_all}
use Rattle.program_clock.proofs.Placing.{nth_of}
use Rattle.program_clock.proofs.step.advance.Goals as goal

pub written_to-written-requires-clause-inside : goal.written_to-written-requires-clause-inside
written_to-written-requires-clause-inside c =
    (nth_of is_stored c.args.program.now.defs c.args.links.now.stored.items c.loop-k.k c.index-target.result.now
    c.requires.linked.stored (omega arith) c.index-target.ensures).inside

pub bounds-stored-target : goal.bounds-stored-target
bounds-stored-target c =
    let one = nth_of is_stored c.args.program.now.defs c.args.links.now.stored.items c.loop-k.k
    c.index-target.result.now c.requires.linked.stored (omega arith) c.index-target.ensures in
    omega (arith, one.inside, c.loop-k.invariant.size)

pub offset_bounds-stored-target : goal.offset_bounds-stored-target
offset_bounds-stored-target c =
    let one = nth_of is_stored c.args.program.now.defs c.args.links.now.stored.items c.loop-k.k
    c.index-target.result.now c.requires.linked.stored (omega arith) c.index-target.ensures in
    let inside : c.index-target.result.now < length c.loop-k.stored =
    omega (arith, one.inside, c.loop-k.invariant.size) in
    search rules

pub bounds-stored-target-in-loop-k : goal.bounds-stored-target-in-loop-k
bounds-stored-target-in-loop-k c =
    let one = nth_of is_stored c.args.program.now.defs c.args.links.now.stored.items c.loop-k.k
    c.index-target.result.now c.requires.linked.stored (omega arith) c.index-target.ensures in
    omega (arith, one.inside, c.loop-k.invariant.size)

pub offset_bounds-stored-target-in-loop-k : goal.offset_bounds-stored-target-in-loop-k
offset_bounds-stored-target-in-loop-k c =
    let one = nth_of is_stored c.args.program.now.defs c.args.links.now.stored.items c.loop-k.k
    c.index-target.result.now c.requires.linked.stored (omega arith) c.index-target.ensures in
    let inside : c.index-target.result.now < length c.loop-k.stored =
    omega (arith, one.inside, c.loop-k.invariant.size) in
    search rules

pub loop-k-preserved : goal.loop-k-preserved
loop-k-preserved c =
    let p = c.args.program.now in
    advanced_more (flat_map (effects_of p c.args.env.now) (p.always ++ c.args.places.now)) p.defs c.args.stored.now
    c.loop-k.stored c.args.links.now.stored.items c.loop-k.k c.index-target.result.now c.written_to-written.result
    c.unwrap_or.result c.requires.linked.stored
    (omega arith) c.index-target.ensures c.written_to-written.ensures c.unwrap_or.ensures c.loop-k.invariant

pub returns : goal.returns
returns c =
    let p = c.args.program.now in
    advanced_all (flat_map (effects_of p c.args.env.now) (p.always ++ c.args.places.now)) p.defs c.args.stored.now
    c.loop-k.stored c.args.links.now.stored.items c.loop-k.k c.requires.bare c.requires.linked.stored
    (omega arith) c.loop-k.invariant
