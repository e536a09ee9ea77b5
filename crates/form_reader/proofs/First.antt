-- A text has at most one first broken rule.
use Rattle.std.proofs.Common.{◌≡◌, ◌≢◌, ◌⊎◌, ℕ, List, cond, refl, sym, ◌∙◌, ap, inl, inr, arith}
use Rattle.std.specs.Prelude.{slice_index, ◌==◌, ◌||◌}
use Rattle.std.proofs.lemmas.Bool.{cond-true, cond-false, or_parts}
use Rattle.mp_base.specs.Token.{is_token}
use Rattle.form_reader.specs.Text.{is_blank, is_mark}
use Rattle.form_reader.specs.Rules.{Breaks, ComesBefore, IsFirst}
use Rattle.form_reader.proofs.Gaps.{other_byte, run_first}

-- the rule other than E2 that a byte may break
abbrev rule_of : ℕ → ℕ
rule_of b = cond (b == 40) 5 (cond (b == 41) 3 (cond (is_token b) 4 1))

by_byte : (text : List ℕ) (k o : ℕ) → k ≢ 2 → Breaks text k o → k ≡ rule_of (slice_index text o)
by_byte text k o other (inl (is, (_, unknown))) =
    let b = slice_index text o in
    let parts = or_parts (is_blank b || is_mark b) (is_token b) unknown in
    let marks = or_parts (b == 40 || b == 41) (b == 59) (or_parts (is_blank b) (is_mark b) parts.0).1 in
    let brackets = or_parts (b == 40) (b == 41) marks.0 in
    is ∙ sym
    (cond-false (b == 40) 5 _ brackets.0 ∙ cond-false (b == 41) 3 _ brackets.1 ∙ cond-false (is_token b) 4 1 parts.1)
by_byte text k o other (inr (inl e2)) = absurd (other e2.0)
by_byte text k o other (inr (inr (inl (is, (_, closing, _))))) = is ∙ ap rule_of (sym closing)
by_byte text k o other (inr (inr (inr (inl (is, (end, (_, run, _, _), _)))))) =
    let b = slice_index text o in
    let token = run_first text o end run in
    is ∙ sym
    (cond-false (b == 40) 5 _ (other_byte b 40 refl token) ∙ cond-false (b == 41) 3 _ (other_byte b 41 refl token)
    ∙ cond-true (is_token b) 4 1 token)
by_byte text k o other (inr (inr (inr (inr (is, (_, opening, _)))))) = is ∙ ap rule_of (sym opening)

-- two rules, each of which comes before the other
meet : (k o l q : ℕ) → ComesBefore k o l q → ComesBefore l q k o → (o ≡ q) × (((k ≡ 2) × (l ≡ 2)) ⊎ (k ≢ 2 × l ≢ 2))
meet k o l q (inl (a, inl b)) (inl (c, d)) = absurd (c b)
meet k o l q (inl (a, inl b)) (inr (c, d, e)) = absurd (a d)
meet k o l q (inl (a, inr b)) (inl (c, inl d)) = absurd (a d)
meet k o l q (inl (a, inr b)) (inl (c, inr d)) = (omega (arith, b, d), inr (a, c))
meet k o l q (inl (a, inr b)) (inr (c, d, e)) = absurd (a d)
meet k o l q (inr (a, b, c)) (inl (d, e)) = absurd (d b)
meet k o l q (inr (a, b, c)) (inr (d, e, f)) = (omega (arith, c, f), inl (a, b))

pub one_first : (text : List ℕ) (k o l q : ℕ) → IsFirst text k o → IsFirst text l q → (k ≡ l) × (o ≡ q)
one_first text k o l q a b =
    let m = meet k o l q (a.first l q b.broken) (b.first k o a.broken) in
    let same : o ≡ q = m.0 in (
      elim (m.1) [
        | inl two ↦ two.0 ∙ sym two.1
        | inr other ↦ by_byte text k o other.0 a.broken ∙ ap (λ z. rule_of (slice_index text z)) same
            ∙ sym (by_byte text l q other.1 b.broken)
      ],
      same,
    )
