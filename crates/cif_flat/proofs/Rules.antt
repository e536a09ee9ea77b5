-- The first rule that is broken.
use Rattle.std.proofs.Common.{ℕ, ◌<◌, ◌≤◌, arith}
use Rattle.cif_form.specs.Walk.{Visit, DrawRule, draw_rule_number, Breaks, BreaksFirst, BreaksNone}
use Rattle.cif_form.specs.Walk.DrawRule.{F1, F2, F3, F4, F5, F6, F7, F8, F9, F10}
use Rattle.cif_form.proofs.WalkExamples.{each_rule}

module _ (v : Visit) where
  -- none is broken
  pub none : ¬ Breaks v F1 → ¬ Breaks v F2 → ¬ Breaks v F3 → ¬ Breaks v F4 → ¬ Breaks v F5 → ¬ Breaks v F6
      → ¬ Breaks v F7 → ¬ Breaks v F8 → ¬ Breaks v F9 → ¬ Breaks v F10
      → BreaksNone v
  none a b c d e f g h i j = each_rule (λ q. ¬ Breaks v q) a b c d e f g h i j

  abbrev Below : ℕ → Type 0
  Below n = (q : DrawRule) → draw_rule_number q < n → ¬ Breaks v q

  -- those below ten are not
  below : (n : ℕ) → n ≤ 10 → (1 < n → ¬ Breaks v F1) → (2 < n → ¬ Breaks v F2) → (3 < n → ¬ Breaks v F3)
      → (4 < n → ¬ Breaks v F4) → (5 < n → ¬ Breaks v F5)
      → (6 < n → ¬ Breaks v F6) → (7 < n → ¬ Breaks v F7) → (8 < n → ¬ Breaks v F8) → (9 < n → ¬ Breaks v F9) → Below n
  below n m a b c d e f g h i =
      each_rule (λ q. draw_rule_number q < n → ¬ Breaks v q) a b c d e f g h i (λ k. absurd (omega arith))

  pub first1 : Breaks v F1 → BreaksFirst v F1
  first1 x = (
    x,
    below 1 (omega arith) (λ k. absurd (omega arith)) (λ k. absurd (omega arith)) (λ k. absurd (omega arith))
        (λ k. absurd (omega arith)) (λ k. absurd (omega arith))
        (λ k. absurd (omega arith)) (λ k. absurd (omega arith)) (λ k. absurd (omega arith)) (λ k. absurd (omega arith)),
  )

  pub first2 : Breaks v F2 → ¬ Breaks v F1 → BreaksFirst v F2
  first2 x a = (
    x,
    below 2 (omega arith) (λ k. a) (λ k. absurd (omega arith)) (λ k. absurd (omega arith)) (λ k. absurd (omega arith))
        (λ k. absurd (omega arith))
        (λ k. absurd (omega arith)) (λ k. absurd (omega arith)) (λ k. absurd (omega arith)) (λ k. absurd (omega arith)),
  )

  pub first3 : Breaks v F3 → ¬ Breaks v F1 → ¬ Breaks v F2 → BreaksFirst v F3
  first3 x a b = (
    x,
    below 3 (omega arith) (λ k. a) (λ k. b) (λ k. absurd (omega arith)) (λ k. absurd (omega arith))
        (λ k. absurd (omega arith))
        (λ k. absurd (omega arith)) (λ k. absurd (omega arith)) (λ k. absurd (omega arith)) (λ k. absurd (omega arith)),
  )

  pub first4 : Breaks v F4 → ¬ Breaks v F1 → ¬ Breaks v F2 → ¬ Breaks v F3 → BreaksFirst v F4
  first4 x a b c = (
    x,
    below 4 (omega arith) (λ k. a) (λ k. b) (λ k. c) (λ k. absurd (omega arith)) (λ k. absurd (omega arith))
        (λ k. absurd (omega arith)) (λ k. absurd (omega arith)) (λ k. absurd (omega arith)) (λ k. absurd (omega arith)),
  )

  pub first5 : Breaks v F5 → ¬ Breaks v F1 → ¬ Breaks v F2 → ¬ Breaks v F3 → ¬ Breaks v F4 → BreaksFirst v F5
  first5 x a b c d = (
    x,
    below 5 (omega arith) (λ k. a) (λ k. b) (λ k. c) (λ k. d) (λ k. absurd (omega arith))
        (λ k. absurd (omega arith)) (λ k. absurd (omega arith)) (λ k. absurd (omega arith)) (λ k. absurd (omega arith)),
  )

  pub first6 : Breaks v F6 → ¬ Breaks v F1 → ¬ Breaks v F2 → ¬ Breaks v F3 → ¬ Breaks v F4 → ¬ Breaks v F5
      → BreaksFirst v F6
  first6 x a b c d e = (
    x,
    below 6 (omega arith) (λ k. a) (λ k. b) (λ k. c) (λ k. d) (λ k. e)
        (λ k. absurd (omega arith)) (λ k. absurd (omega arith)) (λ k. absurd (omega arith)) (λ k. absurd (omega arith)),
  )

  pub first7 : Breaks v F7 → ¬ Breaks v F1 → ¬ Breaks v F2 → ¬ Breaks v F3 → ¬ Breaks v F4 → ¬ Breaks v F5
      → ¬ Breaks v F6 → BreaksFirst v F7
  first7 x a b c d e f = (
    x,
    below 7 (omega arith) (λ k. a) (λ k. b) (λ k. c) (λ k. d) (λ k. e) (λ k. f) (λ k. absurd (omega arith))
        (λ k. absurd (omega arith)) (λ k. absurd (omega arith)),
  )

  pub first8 : Breaks v F8 → ¬ Breaks v F1 → ¬ Breaks v F2 → ¬ Breaks v F3 → ¬ Breaks v F4 → ¬ Breaks v F5
      → ¬ Breaks v F6 → ¬ Breaks v F7 → BreaksFirst v F8
  first8 x a b c d e f g = (
    x,
    below 8 (omega arith) (λ k. a) (λ k. b) (λ k. c) (λ k. d) (λ k. e) (λ k. f) (λ k. g)
        (λ k. absurd (omega arith)) (λ k. absurd (omega arith)),
  )

  pub first9 : Breaks v F9 → ¬ Breaks v F1 → ¬ Breaks v F2 → ¬ Breaks v F3 → ¬ Breaks v F4 → ¬ Breaks v F5
      → ¬ Breaks v F6 → ¬ Breaks v F7 → ¬ Breaks v F8 → BreaksFirst v F9
  first9 x a b c d e f g h = (
    x,
    below 9 (omega arith) (λ k. a) (λ k. b) (λ k. c) (λ k. d) (λ k. e) (λ k. f) (λ k. g) (λ k. h)
        (λ k. absurd (omega arith)),
  )

  pub first10 : Breaks v F10 → ¬ Breaks v F1 → ¬ Breaks v F2 → ¬ Breaks v F3 → ¬ Breaks v F4 → ¬ Breaks v F5
      → ¬ Breaks v F6 → ¬ Breaks v F7 → ¬ Breaks v F8 → ¬ Breaks v F9 → BreaksFirst v F10
  first10 x a b c d e f g h i =
      (x, below 10 (omega arith) (λ k. a) (λ k. b) (λ k. c) (λ k. d) (λ k. e) (λ k. f) (λ k. g) (λ k. h) (λ k. i))
