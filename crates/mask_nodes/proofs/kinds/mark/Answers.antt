use Rattle.std.proofs.Common.{◌≡◌, ◌≢◌, ℕ, List, ◌+◌, get_or, set, true, ap, sym, subst, rules, refl}
use Rattle.std.proofs.lemmas.Option.{slice_get-get_or}
use Rattle.mask_pieces.specs.declared.piece.Piece.{Piece}
use Rattle.mask_pieces.specs.Pieces.{no_piece}
use Rattle.mask_nodes.proofs.Ending.{AreMarks, marks_none, marks_more, marks_kept}
use Rattle.mask_nodes.proofs.kinds.mark.Goals as goal
use Rattle.mask_nodes.proofs.kinds.mark.Goals.{then-eq, else-eq}

pub loop-i-init : goal.loop-i-init
loop-i-init c =
    marks_none c.args.pieces.now c.args.channels.now c.args.part c.args.count c.in_ok-marks.marks.items
    (c.in_ok-marks.ensures.items_if_clones_equal (λ y e. e))

pub loop-i-preserved : goal.loop-i-preserved
loop-i-preserved c =
    let i : ℕ = c.loop-i.i in
    let ps : List Piece = c.args.pieces.now in
    let cs : List ℕ = c.args.channels.now in
    let p : Piece = get_or ps i no_piece in
    let at = slice_get-get_or ps i no_piece c.loop-i-test.true in
    elim c.if-eq.branch [
      | then-eq w ↦
          let e : p.part ≡ c.args.part = search rules in
          let items : c.if-eq.marks.items ≡ set c.loop-i.marks.items (get_or cs i 0) true =
          ap (λ v. v.items) w.marks-is in
          subst (AreMarks ps cs c.args.part c.args.count (i + 1)) (sym items)
          (marks_more ps cs c.args.part c.args.count i
          (get_or cs i 0) p c.loop-i.marks.items c.loop-i.invariant at e refl (c.requires.within i p at e))
      | else-eq w ↦
          let e : p.part ≢ c.args.part = search rules in
          subst (AreMarks ps cs c.args.part c.args.count (i + 1)) (sym (ap (λ v. v.items) w.marks-is))
          (marks_kept ps cs c.args.part c.args.count i p c.loop-i.marks.items c.loop-i.invariant at e)
    ]
