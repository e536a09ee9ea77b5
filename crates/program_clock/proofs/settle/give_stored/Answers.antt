use Rattle.std.proofs.Common.{◌<◌, length, ap, rules, arith}
use Rattle.std.specs.Prelude.{slice_index}
use Rattle.mp_program.specs.Names.{is_stored}
use Rattle.program_clock.proofs.KindValues.{stored_value, has_stored}
use Rattle.program_clock.proofs.Placing.{place_of, nth_of, written_more}
use Rattle.program_clock.proofs.settle.give_stored.Goals as goal

pub bounds-stored-target : goal.bounds-stored-target
bounds-stored-target c =
    let one = nth_of is_stored c.args.program.now.defs c.args.links.now.stored.items c.loop-k.k
    c.index-target.result.now c.requires.linked.stored (omega arith) c.index-target.ensures in
    omega (arith, one.inside, c.requires.stored)

pub offset_bounds-stored-target : goal.offset_bounds-stored-target
offset_bounds-stored-target c =
    let one = nth_of is_stored c.args.program.now.defs c.args.links.now.stored.items c.loop-k.k
    c.index-target.result.now c.requires.linked.stored (omega arith) c.index-target.ensures in
    let inside : c.index-target.result.now < length c.args.stored.now = omega (arith, one.inside, c.requires.stored) in
    search rules

pub bounds-env-target : goal.bounds-env-target
bounds-env-target c =
    let one = nth_of is_stored c.args.program.now.defs c.args.links.now.stored.items c.loop-k.k
    c.index-target.result.now c.requires.linked.stored (omega arith) c.index-target.ensures in
    omega (arith, one.inside, c.loop-k.invariant.size)

pub offset_bounds-env-target : goal.offset_bounds-env-target
offset_bounds-env-target c =
    let one = nth_of is_stored c.args.program.now.defs c.args.links.now.stored.items c.loop-k.k
    c.index-target.result.now c.requires.linked.stored (omega arith) c.index-target.ensures in
    let inside : c.index-target.result.now < length c.loop-k.env =
    omega (arith, one.inside, c.loop-k.invariant.size) in
    search rules

pub loop-k-preserved : goal.loop-k-preserved
loop-k-preserved c =
    let p = c.args.program.now in
    let list = c.args.links.now.stored.items in
    let place = c.index-target.result.now in
    written_more is_stored p.defs c.args.env.now (stored_value p.defs c.args.stored.now) list c.loop-k.env c.loop-k.k
    place
    (slice_index c.args.stored.now place) c.requires.linked.stored
    (omega arith) c.index-target.ensures
    (ap (slice_index c.args.stored.now)
    (place_of is_stored p.defs list c.loop-k.k place c.requires.linked.stored (omega arith) c.index-target.ensures))
    c.loop-k.invariant

pub returns-clause-given : goal.returns-clause-given
returns-clause-given c =
    has_stored c.args.program.now.defs c.args.links.now.stored.items c.args.stored.now c.args.env.now c.loop-k.env
    c.loop-k.k c.requires.linked.stored (omega arith) c.loop-k.invariant
