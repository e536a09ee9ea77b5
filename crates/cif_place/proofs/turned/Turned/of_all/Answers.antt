use Rattle.std.proofs.Common.{◌≡◌, ◌+◌, ◌*◌, ◌^◌, [], ◌∷◌, sym, ap, subst, arith, map}
use Rattle.std.proofs.lemmas.List.{take_all}
use Rattle.cif_list.specs.Turning.{wide_turn}
use Rattle.cif_place.specs.Placing.{scale_of}
use Rattle.cif_place.specs.Turning.{IsShortTurn, IsTurned, IsHeldTurned, joined}
use Rattle.cif_place.proofs.Held.{one_more, short_at}
use Rattle.cif_place.proofs.Turns.{joined_turned, held_joined, held_more}
use Rattle.cif_place.proofs.turned.Turned.of_all.Goals as goal

pub of-requires-clause-short : goal.of-requires-clause-short
of-requires-clause-short c =
    subst IsShortTurn (sym c.turn-in-loop-turn.ensures)
    (short_at c.args.turns.now c.loop-turn.turn-index _ c.loop-turn-test.true c.requires.short)

pub loop-turn-preserved : goal.loop-turn-preserved
loop-turn-preserved c =
    let s = scale_of c.args.ratio in
    let k = c.loop-turn.turn-index in
    let n : 2 ^ 40 + 2 ^ 40 * k ≡ 2 ^ 40 * (k + 1) = omega arith in
    let m = one_more c.args.turns.now k _ c.loop-turn-test.true in
    record {
      turned =
          subst (λ ts. IsTurned s ts c.and-all.result) (sym m)
          (subst (IsTurned s _) (sym c.and-all.ensures)
          (joined_turned s _ _ c.loop-turn.all c.of.result c.loop-turn.invariant.turned
          (subst (λ t. IsTurned s (t ∷ []) c.of.result) c.turn-in-loop-turn.ensures c.of.ensures.turned)));
      held =
          subst (IsHeldTurned (2 ^ 40 * (k + 1))) (sym c.and-all.ensures)
          (subst (λ b. IsHeldTurned b (joined c.loop-turn.all c.of.result)) n
          (held_joined (2 ^ 40 * k) (2 ^ 40) c.loop-turn.all c.of.result c.loop-turn.invariant.held c.of.ensures.held));
    }

pub and-all-requires-clause-these : goal.and-all-requires-clause-these
and-all-requires-clause-these c =
    held_more (2 ^ 40 * c.loop-turn.turn-index) (2 ^ 104) c.loop-turn.all (omega arith) c.loop-turn.invariant.held

pub returns-clause-turned : goal.returns-clause-turned
returns-clause-turned c =
    subst (λ ts. IsTurned (scale_of c.args.ratio) ts c.loop-turn.all)
    (ap (map wide_turn) (take_all c.loop-turn.turn-index c.args.turns.now c.loop-turn-test.false))
    c.loop-turn.invariant.turned
