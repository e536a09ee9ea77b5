use Rattle.std.proofs.Common.{◌∷◌, [], arith, length, refl}
use Rattle.std.proofs.lemmas.Result.{IfOk-weaker}
use Rattle.nor_net.specs.declared.net.Part.TheVariants.{Gate}
use Rattle.bit_gates.specs.declared.rails.Rails.{Rails}
use Rattle.bit_gates.specs.Adding.{IsExclusive, IsPair}
use Rattle.bit_gates.proofs.Adding.{added_counted}
use Rattle.bit_gates.proofs.Groups.{exclusive_made, inputs_left, is_below, nets_left, two_below, was_below}
use Rattle.bit_gates.proofs.gates.add_exclusive.Goals as goal

pub gate-requires-clause-inputs : goal.gate-requires-clause-inputs
gate-requires-clause-inputs c =
    two_below (length c.args.net.now) c.args.a.bit c.args.b.bit c.requires.a_in.bit_below c.requires.b_in.bit_below

pub gate-requires-2-clause-room : goal.gate-requires-2-clause-room
gate-requires-2-clause-room c =
    let more = nets_left c.args.net.now c.gate.new.self (Gate (c.args.a.bit ∷ c.args.b.bit ∷ [])) c.in_ok-none.none
    c.in_ok-none.ensures.ok 4 3 refl c.requires.room in
    omega (arith, more)

pub gate-requires-2-clause-inputs_room : goal.gate-requires-2-clause-inputs_room
gate-requires-2-clause-inputs_room c =
    inputs_left c.args.net.now c.gate.new.self (Gate (c.args.a.bit ∷ c.args.b.bit ∷ [])) c.in_ok-none.none
    c.in_ok-none.ensures.ok 7 2 (omega arith) c.requires.inputs_room

pub gate-requires-2-clause-inputs : goal.gate-requires-2-clause-inputs
gate-requires-2-clause-inputs c =
    let kept = was_below c.args.net.now c.gate.new.self (Gate (c.args.a.bit ∷ c.args.b.bit ∷ [])) c.in_ok-none.none
    c.in_ok-none.ensures.ok in
    two_below (length c.gate.new.self) c.args.a.negation c.args.b.negation
    (kept c.args.a.negation c.requires.a_in.negation_below) (kept c.args.b.negation c.requires.b_in.negation_below)

pub add_pair-requires-clause-room : goal.add_pair-requires-clause-room
add_pair-requires-clause-room c =
    nets_left c.gate.new.self c.gate-2.new.self (Gate (c.args.a.negation ∷ c.args.b.negation ∷ [])) c.in_ok-both.both
    c.in_ok-both.ensures.ok 3 2 refl
    (nets_left c.args.net.now c.gate.new.self (Gate (c.args.a.bit ∷ c.args.b.bit ∷ [])) c.in_ok-none.none
    c.in_ok-none.ensures.ok 4 3 refl c.requires.room)

pub add_pair-requires-clause-inputs_room : goal.add_pair-requires-clause-inputs_room
add_pair-requires-clause-inputs_room c =
    let first = (added_counted c.args.net.now c.gate.new.self (Gate (c.args.a.bit ∷ c.args.b.bit ∷ []))
    c.in_ok-none.none c.in_ok-none.ensures.ok).input_count in
    let second = (added_counted c.gate.new.self c.gate-2.new.self
    (Gate (c.args.a.negation ∷ c.args.b.negation ∷ [])) c.in_ok-both.both c.in_ok-both.ensures.ok).input_count in
    let r = c.requires.inputs_room in
    omega (arith, first, second, r)

pub add_pair-requires-clause-inputs : goal.add_pair-requires-clause-inputs
add_pair-requires-clause-inputs c =
    let q = Gate (c.args.a.negation ∷ c.args.b.negation ∷ []) in
    two_below (length c.gate-2.new.self) c.in_ok-none.none c.in_ok-both.both
    (was_below c.gate.new.self c.gate-2.new.self q c.in_ok-both.both c.in_ok-both.ensures.ok c.in_ok-none.none
    (is_below c.args.net.now c.gate.new.self (Gate (c.args.a.bit ∷ c.args.b.bit ∷ [])) c.in_ok-none.none
    c.in_ok-none.ensures.ok))
    (is_below c.gate.new.self c.gate-2.new.self q c.in_ok-both.both c.in_ok-both.ensures.ok)

pub returns : goal.returns
returns c =
    IfOk-weaker c.add_pair.result
    (IsPair (c.in_ok-none.none ∷ c.in_ok-both.both ∷ []) c.gate-2.new.self c.add_pair.new.net)
    (IsExclusive c.args.a c.args.b c.args.net.now c.add_pair.new.net)
    (λ (rails : Rails) pair. exclusive_made c.args.a c.args.b c.args.net.now c.gate.new.self c.gate-2.new.self
    c.add_pair.new.net c.in_ok-none.none c.in_ok-both.both rails c.in_ok-none.ensures.ok c.in_ok-both.ensures.ok pair)
    c.add_pair.ensures
