use Rattle.std.proofs.Common.{ℕ, ◌≡◌, ◌++◌, ◌∙◌, ap, subst, length, map, get_or, arith, to_z, of_z, w64}
use Rattle.std.proofs.lemmas.Int.{ints}
use Rattle.std.specs.Prelude.{flat_map}
use Rattle.std.specs.List.{range_with_len}
use Rattle.std.proofs.lemmas.List.{get_or_default}
use Rattle.pad_frame.specs.declared.frames.PadWish.{PadWish}
use Rattle.pad_frame.specs.Frames.{no_wish, piece, piece_of, spot_of}
use Rattle.pad_frame.proofs.Drawing.{piece_more, spot_more}
use Rattle.pad_frame.proofs.Framing.{frames_hold}
use Rattle.pad_frame.proofs.frames.frame.Goals as goal

pub loop-pad-preserved : goal.loop-pad-preserved
loop-pad-preserved c =
    let t = c.loop-pad-test.true in
    let ws = c.args.wishes.now in
    let k : ℕ = c.loop-pad.pad in
    let is : c.index-wishes-pad.result ≡ get_or ws k no_wish =
    c.index-wishes-pad.is ∙ get_or_default ws k _ no_wish (omega (arith, t)) in
    let s = c.in_ok-spot.ensures in
    let low = c.requires.low k no_wish (omega (arith, t)) in
    let low0 = low.0 in
    let low1 = low.1 in
    let row_is : c.index-wishes-pad.result.row ≡ (get_or ws k no_wish).row = ap (λ (w : PadWish). w.row) is in
    let row : to_z w64 (of_z w64 c.index-wishes-pad.result.row) ≡ (get_or ws k no_wish).row = omega (arith, ints) in (
      piece_more ws k c.loop-pad.shape c.push_pad.new.shape c.loop-pad.invariant.0
          (c.in_ok-push_pad.ensures
          ∙ ap (λ z. c.loop-pad.shape ++ piece (length ws) k z) row),
      spot_more ws k c.loop-pad.spots c.push.new.self c.in_ok-spot.field-0 c.loop-pad.invariant.1
          c.in_ok-push.ensures.ok (s.0 ∙ ap (λ (w : PadWish). w.name) is) s.1 s.2,
    )

pub returns : goal.returns
returns c =
    let t = c.loop-pad-test.false in
    let e = c.loop-pad.auto.pad-end in
    let ws = c.args.wishes.now in
    let same : c.loop-pad.pad ≡ length ws = omega (arith, t, e) in
    frames_hold c.rectangles_are_joined.ensures ws c.requires _
    (subst (λ n. c.loop-pad.shape ≡ flat_map (piece_of ws) (range_with_len 0 n)) same c.loop-pad.invariant.0)
    (subst (λ n. c.loop-pad.spots ≡ map (spot_of ws) (range_with_len 0 n)) same c.loop-pad.invariant.1)
