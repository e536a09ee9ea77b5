use Rattle.std.proofs.Common.{◌+◌, ◌*◌, ◌∷◌, ◌++◌, [], List, take, length, length-take, get_or, sym, subst, arith}
use Rattle.nor_net.specs.declared.net.NetId.{NetId}
use Rattle.rtl_form.specs.declared.rtl.Transfer.{Transfer}
use Rattle.datapath_steps.specs.Continuing.{AreTerms}
use Rattle.datapath_steps.proofs.Continuing.{reached_on, terms_more}
use Rattle.datapath_steps.proofs.transfers.add_terms.Goals as goal

pub add_term-requires-clause-made : goal.add_term-requires-clause-made
add_term-requires-clause-made c = c.loop-transfer.invariant.continues.made

pub add_term-requires-clause-room : goal.add_term-requires-clause-room
add_term-requires-clause-room c =
    let b = c.loop-transfer.invariant.continues.bounded.nets in
    let t = length-take c.loop-transfer.transfer-index c.args.transfers.now in
    omega (arith, b, t, c.loop-transfer-test.true, c.requires.room)

pub add_term-requires-clause-inputs_room : goal.add_term-requires-clause-inputs_room
add_term-requires-clause-inputs_room c =
    let b = c.loop-transfer.invariant.continues.bounded.inputs in
    let t = length-take c.loop-transfer.transfer-index c.args.transfers.now in
    omega (arith, b, t, c.loop-transfer-test.true, c.requires.inputs_room)

pub add_term-requires-clause-reached : goal.add_term-requires-clause-reached
add_term-requires-clause-reached c =
    let n = length (take c.loop-transfer.transfer-index c.args.transfers.now) in
    let d : Transfer = record { guard = 0; target = 0; value = 0 } in
    reached_on (4 * n) (4 * n) (4 * n) n (get_or c.args.transfers.now c.loop-transfer.transfer-index d)
    c.args.making.now c.loop-transfer.making c.loop-transfer.invariant.continues
    (c.requires.reached c.loop-transfer.transfer-index d c.loop-transfer-test.true)

pub loop-transfer-preserved : goal.loop-transfer-preserved
loop-transfer-preserved c =
    let i = c.loop-transfer.transfer-index in
    subst (λ (ns : List NetId). AreTerms (take (i + 1) c.args.transfers.now) c.args.making.now c.add_term.new.making
    (record { nets = ns; guards = c.push-in-loop-transfer.new.self })) (sym c.in_ok-push.ensures.ok)
    (subst (λ (gs : List NetId). AreTerms (take (i + 1) c.args.transfers.now) c.args.making.now c.add_term.new.making
    (record { nets = c.loop-transfer.nets ++ c.in_ok-term.term.net ∷ []; guards = gs }))
    (sym c.in_ok-push-2.ensures.ok)
    (terms_more c.args.transfers.now i (record { guard = 0; target = 0; value = 0 }) c.args.making.now
    c.loop-transfer.making c.add_term.new.making
    (record { nets = c.loop-transfer.nets; guards = c.loop-transfer.guards })
    c.in_ok-term.term c.loop-transfer-test.true c.loop-transfer.invariant c.in_ok-term.ensures))
