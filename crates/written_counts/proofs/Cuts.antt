-- Sums and products up to a cap.
use Rattle.std.proofs.Common.{◌≡◌, inl, inr, ℕ, zero, suc, ◌+◌, ◌*◌, sym, ◌∙◌, ap, arith}
use Rattle.std.specs.Prelude.{min}
use Rattle.std.proofs.lemmas.Bool.{cases_lt}

-- a part of a sum may be cut before
pub cut_sum : (cap a b : ℕ) → min cap (a + min cap b) ≡ min cap (a + b)
cut_sum cap a b = grind arith

pub cut_first : (cap a b : ℕ) → min cap (min cap a + b) ≡ min cap (a + b)
cut_first cap a b = grind arith

-- so may a factor
pub cut_factor : (cap a p b : ℕ) → min cap (a + min cap p * b) ≡ min cap (a + p * b)
cut_factor cap a p zero =
    let x : min cap p * 0 ≡ 0 = grind arith in let y : p * 0 ≡ 0 = grind arith in
    ap (λ n. min cap (a + n)) (x ∙ sym y)
cut_factor cap a p (suc b) = elim (cases_lt cap p) [
  | inr within ↦ (let e : min cap p ≡ p = grind arith in ap (λ n. min cap (a + n * suc b)) e)
  | inl over ↦
      (let e : min cap p ≡ cap = grind arith in
      let x : cap * suc b ≡ cap * b + cap = grind arith in
      let y : p * suc b ≡ p * b + p = grind arith in
      ap (λ n. min cap (a + n * suc b)) e ∙ (let g : min cap (a + cap * suc b) ≡ min cap (a + p * suc b) = omega
      (arith, x, y, over) in g))
]

-- and a factor of a factor
pub cut_inner : (cap a k t b : ℕ) → min cap (a + (k * min cap t) * b) ≡ min cap (a + (k * t) * b)
cut_inner cap a k t b =
    let x : (k * min cap t) * b ≡ min cap t * (k * b) = grind arith in
    let y : (k * t) * b ≡ t * (k * b) = grind arith in
    ap (λ n. min cap (a + n)) x ∙ cut_factor cap a t (k * b) ∙ ap (λ n. min cap (a + n)) (sym y)
