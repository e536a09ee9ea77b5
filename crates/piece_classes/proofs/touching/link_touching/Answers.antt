use Rattle.std.proofs.Common.{◌≡◌, ◌≢◌, ℕ, ◌+◌, List, [], ◌∷◌, ◌++◌, get_or, sym, ◌∙◌, subst, refl}
use Rattle.std.proofs.lemmas.Option.{slice_get-get_or}
use Rattle.mp_base.proofs.Tests.{same_bool}
use Rattle.union_find.specs.declared.pair.Pair.{Pair}
use Rattle.piece_classes.specs.Linking.{Gains, IsTouchLink}
use Rattle.mask_pieces.specs.Pieces.{conducts_at}
use Rattle.piece_classes.proofs.Gaining.{gains_one, gains_then, touch_added, touch_left, beq_false}
use Rattle.piece_classes.proofs.touching.link_touching.Goals as goal
use Rattle.piece_classes.proofs.touching.link_touching.Goals.{then-conducts+in_ok-push, else-conducts}

pub loop-pair-preserved : goal.loop-pair-preserved
loop-pair-preserved c =
    let touching : List Pair = c.args.touching.now in
    let numbers : List ℕ = c.args.numbers.now in
    let pieces = c.args.pieces.now in
    let i : ℕ = c.loop-pair.pair-index in
    let none : Pair = record { a = 0; b = 0 } in
    let p : Pair = get_or touching i none in
    let at = slice_get-get_or touching i none c.loop-pair-test.true in
    let l : Pair = record { a = get_or numbers p.a 0; b = get_or numbers p.b 0 } in
    let old = c.args.links.now in
    let mid = c.loop-pair.links in
    elim c.if-conducts.branch [
      | then-conducts+in_ok-push w ↦
          let alike : conducts_at pieces l.a ≡ conducts_at pieces l.b =
          sym c.conducts.ensures ∙ same_bool c.conducts.result c.conducts-in-loop-pair.result w.if-conducts.true
          ∙ c.conducts-in-loop-pair.ensures in
          let new : c.if-conducts.links ≡ mid ++ l ∷ [] = w.links-is ∙ w.in_ok-push.ensures.ok in
          subst (λ xs. Gains old xs (IsTouchLink touching numbers pieces (i + 1))) (sym new)
          (gains_then old mid (mid ++ l ∷ []) (IsTouchLink touching numbers pieces i) (λ x. l ≡ x)
          (IsTouchLink touching numbers pieces (i + 1)) c.loop-pair.invariant (gains_one mid l)
          (touch_added touching numbers pieces i p at l refl refl alike))
      | else-conducts w ↦
          let unlike : conducts_at pieces l.a ≢ conducts_at pieces l.b =
          λ e. beq_false c.conducts.result c.conducts-in-loop-pair.result w.if-conducts.false
          (c.conducts.ensures ∙ e ∙ sym c.conducts-in-loop-pair.ensures) in
          subst (λ xs. Gains old xs (IsTouchLink touching numbers pieces (i + 1))) (sym w.links-is)
          (touch_left touching numbers pieces i p at l refl refl unlike old mid c.loop-pair.invariant)
    ]
