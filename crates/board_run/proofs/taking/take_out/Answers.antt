use Rattle.std.proofs.Common.{◌∙◌, ◌+◌, arith, ap, length, map, refl, sym}
use Rattle.board_run.proofs.Left.{all_left, apart_take, left_none, turn_left, turn_taken, turn_within}
use Rattle.board_run.proofs.taking.take_out.Goals as goal

pub loop-i-init : goal.loop-i-init
loop-i-init g c = record {
  left = sym (left_none 0 c.args.parts.now.items);
  many = c.args.taken.now.ok.0 ∙ ap length c.requires.none;
  room = refl;
  taken = ap (map _) c.requires.none;
}

pub place_left-place-requires : goal.place_left-place-requires
place_left-place-requires g c = record { apart = apart_take c.loop-i.i c.args.swaps.now c.requires.apart }

pub remove-part-requires : goal.remove-part-requires
remove-part-requires g c =
    let h =
    turn_within c.args.swaps.now c.requires.apart c.loop-i.i c.place_left-place.result _ c.args.parts.now.items
    c.loop-i.parts.items c.loop-i-test.true c.requires.fresh c.loop-i.invariant.left c.place_left-place.ensures in
    omega (arith, h, c.loop-i.parts.ok.0)

pub loop-i-preserved : goal.loop-i-preserved
loop-i-preserved g c =
    let h = c.loop-i.invariant in
    record {
      left =
          c.remove-part.ensures.items
          ∙ turn_left c.args.swaps.now c.requires.apart c.loop-i.i c.place_left-place.result _ c.args.parts.now.items
          c.loop-i.parts.items c.loop-i-test.true c.requires.fresh h.left c.place_left-place.ensures;
      many = c.push_reserved.ensures.len ∙ ap (λ n. n + 1) h.many;
      room = c.push_reserved.ensures.capacity ∙ h.room;
      taken =
          turn_taken c.args.swaps.now c.requires.apart c.loop-i.i c.place_left-place.result _ c.args.parts.now.items
          c.loop-i.parts.items c.loop-i-test.true c.requires.fresh h.left c.place_left-place.ensures _ _
          c.loop-i.taken.items c.push_reserved.new.self.items _ c.remove-part.result c.push_reserved.ensures.items
          c.remove-part.ensures.value refl h.taken;
    }

pub returns-clause-names : goal.returns-clause-names
returns-clause-names g c =
    all_left _ c.args.swaps.now c.loop-i.i c.args.parts.now.items c.loop-i.parts.items
    (omega (arith, c.loop-i-test.false)) c.loop-i.invariant.left

pub returns-clause-faces : goal.returns-clause-faces
returns-clause-faces g c =
    all_left _ c.args.swaps.now c.loop-i.i c.args.parts.now.items c.loop-i.parts.items
    (omega (arith, c.loop-i-test.false)) c.loop-i.invariant.left
