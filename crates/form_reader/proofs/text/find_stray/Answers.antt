use Rattle.std.proofs.Common.{◌≡◌, ℕ, ◌+◌, ◌≤◌, List, ◌∙◌, ap, sym, subst, arith, inl, inr}
use Rattle.std.specs.Prelude.{slice_index}
use Rattle.std.proofs.lemmas.Bool.{cases_lt, both_ways}
use Rattle.form_reader.specs.Text.{comment_step}
use Rattle.form_reader.specs.Rules.{E1}
use Rattle.form_reader.proofs.Scan.{own_place, offset_of}
use Rattle.form_reader.proofs.Clean.{comment_more}
use Rattle.form_reader.proofs.text.find_stray.Goals as goal
use Rattle.form_reader.proofs.text.find_stray.Goals.{else-not-comment-via-then-not-comment+else-not-is_known}
use Rattle.form_reader.proofs.text.find_stray.Goals.{else-not-comment-via-else-not-comment}

none_more : (text : List ℕ) (i : ℕ) → ((o : ℕ) → E1 text o → i ≤ o) → (E1 text i → ⊥) → (o : ℕ) → E1 text o → i + 1 ≤ o
none_more text i before here o e1 =
    elim (cases_lt i o) [
      | inl later ↦ omega (arith, later)
      | inr now ↦ let same : o ≡ i = omega (arith, now, before o e1) in absurd (here (subst (E1 text) same e1))
    ]

pub loop-i-preserved : goal.loop-i-preserved
loop-i-preserved c =
    let xs = c.args.bytes.now in
    record {
      state = comment_more xs c.loop-i.i c.loop-i-test.true
          ∙ ap (λ z. comment_step z (slice_index xs c.loop-i.i)) c.loop-i.invariant.state
          ∙ sym c.comment_behind-comment.ensures;
      none = none_more xs c.loop-i.i c.loop-i.invariant.none (λ e1. elim c.else-not-comment.branch [
        | else-not-comment-via-then-not-comment+else-not-is_known w ↦
            both_ways _ e1.1 (sym w.is_known.ensures ∙ w.if-not-is_known.false)
        | else-not-comment-via-else-not-comment w ↦
            both_ways _ e1.0.1 (c.loop-i.invariant.state ∙ w.if-not-comment.false)
      ]);
      offset = offset_of xs c.behind-place.result _ c.behind-place.ensures ∙ ap (λ z. z + 1) c.loop-i.invariant.offset;
      place = own_place xs c.behind-place.result _ c.behind-place.ensures;
    }
