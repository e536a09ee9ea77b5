use Rattle.std.proofs.Common.{◌∙◌, ◌∷◌, [], ◌<◌, List, ap, arith, length, length-append, subst, sym}
use Rattle.std.specs.Prelude.{All, IfOk}
use Rattle.nor_net.specs.declared.net.NetId.{NetId}
use Rattle.nor_net.specs.declared.net.Part.TheVariants.{Gate}
use Rattle.nor_net.specs.Shape.{IsAdded}
use Rattle.bit_gates.proofs.Groups.{last_below}
use Rattle.bit_gates.proofs.cells.add_gate_on.Goals as goal

pub gate-requires-clause-inputs_room : goal.gate-requires-clause-inputs_room
gate-requires-clause-inputs_room c =
    let size = ap length (c.as_slice.ensures ∙ c.in_ok-push.ensures.ok)
    ∙ length-append c.args.inputs (c.args.last ∷ []) in
    let r = c.requires.inputs_room in
    omega (arith, size, r)

pub gate-requires-clause-inputs : goal.gate-requires-clause-inputs
gate-requires-clause-inputs c =
    subst (All (λ (j : NetId). j.0 < length c.args.net.now)) (sym (c.as_slice.ensures ∙ c.in_ok-push.ensures.ok))
    (last_below (length c.args.net.now) c.args.inputs c.args.last c.requires.inputs c.requires.last)

pub returns : goal.returns
returns c =
    subst (λ (ids : List NetId). IfOk c.gate.result (IsAdded c.args.net.now (Gate ids) c.gate.new.self))
    (c.as_slice.ensures ∙ c.in_ok-push.ensures.ok) c.gate.ensures.ok
