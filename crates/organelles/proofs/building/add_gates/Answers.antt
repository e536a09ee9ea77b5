use Rattle.std.proofs.Common.{◌<◌, ◌+◌, length, take, get_or, ap, sym, ◌∙◌, subst, arith}
use Rattle.std.proofs.lemmas.List.{length-take}
use Rattle.nor_net.specs.Shape.{gate_inputs}
use Rattle.organelles.specs.Tables.{place}
use Rattle.organelles.proofs.Tabling.{placed, length_before, inputs_before, ordered_at}
use Rattle.organelles.proofs.building.add_gates.Goals as goal

pub add_gate-requires-clause-left : goal.add_gate-requires-clause-left
add_gate-requires-clause-left c =
    let o = ordered_at 3 c.args.gates.now c.loop-pair.pair-index (0, 0) c.requires.ordered c.loop-pair-test.true in
    let h = placed c.args.a c.args.b c.args.end.0 (length c.args.net.now)
    (get_or c.args.gates.now c.loop-pair.pair-index (0, 0)).0 c.loop-pair.pair-index c.requires.a_in
    c.requires.b_in c.requires.end_in o.0 in
    let n = ap length c.loop-pair.invariant
    ∙ length_before c.args.a c.args.b c.args.end.0
    (length c.args.net.now) c.args.net.now c.args.gates.now c.loop-pair.pair-index
    (omega (arith, c.loop-pair-test.true)) in
    let g = subst (λ m. place c.args.a c.args.b c.args.end.0 m
    (get_or c.args.gates.now c.loop-pair.pair-index (0, 0)).0 < length c.args.net.now + c.loop-pair.pair-index)
    (sym c.len-first.ensures.len) h in
    omega (arith, n, g)

pub add_gate-requires-clause-right : goal.add_gate-requires-clause-right
add_gate-requires-clause-right c =
    let o = ordered_at 3 c.args.gates.now c.loop-pair.pair-index (0, 0) c.requires.ordered c.loop-pair-test.true in
    let h = placed c.args.a c.args.b c.args.end.0 (length c.args.net.now)
    (get_or c.args.gates.now c.loop-pair.pair-index (0, 0)).1 c.loop-pair.pair-index c.requires.a_in
    c.requires.b_in c.requires.end_in o.1 in
    let n = ap length c.loop-pair.invariant
    ∙ length_before c.args.a c.args.b c.args.end.0
    (length c.args.net.now) c.args.net.now c.args.gates.now c.loop-pair.pair-index
    (omega (arith, c.loop-pair-test.true)) in
    let g = subst (λ m. place c.args.a c.args.b c.args.end.0 m
    (get_or c.args.gates.now c.loop-pair.pair-index (0, 0)).1 < length c.args.net.now + c.loop-pair.pair-index)
    (sym c.len-first.ensures.len) h in
    omega (arith, n, g)

pub add_gate-requires-clause-inputs_room : goal.add_gate-requires-clause-inputs_room
add_gate-requires-clause-inputs_room c =
    let n = ap gate_inputs c.loop-pair.invariant in
    let i = inputs_before c.args.a c.args.b c.args.end.0 (length c.args.net.now) c.args.net.now
    (take c.loop-pair.pair-index c.args.gates.now) in
    let t = length-take c.loop-pair.pair-index c.args.gates.now in
    omega (arith, n, i, t, c.loop-pair-test.true, c.requires.inputs_room)
