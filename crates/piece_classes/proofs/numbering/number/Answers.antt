use Rattle.std.proofs.Common.{◌≡◌, ◌≢◌, ℕ, ◌+◌, List, [], ◌∷◌, ◌++◌, get_or, sym, ◌∙◌, ap, subst₂, arith}
use Rattle.std.proofs.lemmas.List.{get_or_default}
use Rattle.mp_base.proofs.Tests.{same_bool}
use Rattle.std.proofs.lemmas.Bool.{not-true, not-false}
use Rattle.piece_classes.proofs.Gaining.{beq_false}
use Rattle.piece_classes.specs.Numbers.{Conducts}
use Rattle.piece_classes.proofs.Numbered.{IsNumbered, numbered_other, numbered_root, numbered_same}
use Rattle.piece_classes.proofs.numbering.number.Goals as goal
use Rattle.piece_classes.proofs.numbering.number.Goals.{then-conducts-conducting}
use Rattle.piece_classes.proofs.numbering.number.Goals.{else-conducts-conducting+then-least-i+in_ok-number}
use Rattle.piece_classes.proofs.numbering.number.Goals.{else-conducts-conducting+else-least-i}

pub loop-i-preserved : goal.loop-i-preserved
loop-i-preserved c =
    let pieces = c.args.pieces.now in
    let least : List ℕ = c.args.least.now in
    let i : ℕ = c.loop-i.i in
    let roots : List ℕ = c.loop-i.classes.roots in
    let numbers : List ℕ = c.loop-i.classes.numbers in
    let new = c.in_ok-push.ensures.ok in
    let cls = c.if-conducts-conducting.classes in
    elim c.if-conducts-conducting.branch [
      | then-conducts-conducting w ↦
          let other : c.conducts.result ≢ c.args.conducting =
          beq_false c.conducts.result c.args.conducting (not-true _ w.if-conducts-conducting.true) in
          subst₂ (IsNumbered (Conducts pieces c.args.conducting) least (i + 1)) (sym (ap (λ x. x.roots) w.classes-is))
          (sym (new ∙ ap (λ x. x.numbers ++ c.if-conducts-conducting.number ∷ []) w.classes-is))
          (numbered_other
          (Conducts pieces c.args.conducting) least i roots numbers c.loop-i.invariant c.if-conducts-conducting.number
          (λ h. other (c.conducts.ensures ∙ h)))
      | else-conducts-conducting+then-least-i+in_ok-number w ↦
          let same : c.conducts.result ≡ c.args.conducting =
          same_bool c.conducts.result c.args.conducting (not-false _ w.if-conducts-conducting.false) in
          let e : get_or least i 0 ≡ i = w.if-least-i.true in
          subst₂ (IsNumbered (Conducts pieces c.args.conducting) least (i + 1))
          (sym (ap (λ x. x.roots) (w.classes-is ∙ w.in_ok-number.ensures.1)))
          (sym (new
          ∙ ap (λ x. x.numbers ++ c.if-conducts-conducting.number ∷ []) (w.classes-is ∙ w.in_ok-number.ensures.1)))
          (numbered_root (Conducts pieces c.args.conducting) least i roots numbers c.loop-i.invariant
          (get_or least i 0) c.if-conducts-conducting.number (sym c.conducts.ensures ∙ same) e e
          (w.number-is ∙ w.in_ok-number.ensures.0))
      | else-conducts-conducting+else-least-i w ↦
          let l = c.loop-i-test.true in
          let many = c.requires.as_many in
          let below = c.requires.below i (omega arith) in
          let n = w.if-least-i.false in
          let length_ = c.loop-i.invariant.are_numbers.as_many in
          let at : c.if-conducts-conducting.number ≡ get_or numbers (get_or least i 0) 0 =
          w.number-is ∙ w.at.ensures ∙ get_or_default numbers (get_or least i 0) _ 0 (omega arith) in
          subst₂ (IsNumbered (Conducts pieces c.args.conducting) least (i + 1)) (sym (ap (λ x. x.roots) w.classes-is))
          (sym (new ∙ ap (λ x. x.numbers ++ c.if-conducts-conducting.number ∷ []) w.classes-is))
          (numbered_same
          (Conducts pieces c.args.conducting) least i roots numbers c.loop-i.invariant c.if-conducts-conducting.number
          (c.requires.stay i (omega arith)) (omega arith) (c.requires.still i (omega arith)) at)
    ]
