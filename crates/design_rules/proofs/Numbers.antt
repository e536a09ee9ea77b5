-- The rules by their numbers.
use Rattle.std.proofs.Common.{ℕ, ◌≡◌, ◌+◌, ◌<◌, ◌≤◌, inl, inr, refl, subst, arith, Option, Some, None}
use Rattle.std.specs.Prelude.{ℤ}
use Rattle.std.proofs.lemmas.Bool.{cases_eq}
use Rattle.lam_geom.specs.declared.layer.Layer.{Layer}
use Rattle.lam_geom.specs.declared.layer.Layer.TheVariants.{ND, NP, NM}
use Rattle.lam_geom.specs.declared.place.Point.{Point}
use Rattle.lam_geom.specs.Rules.{IsNarrow, IsTight, IsUnrelated, IsOpenGate, IsOddCut, IsBareCut}
use Rattle.lam_geom.specs.Rules.{BreaksRule, IsClean, IsFirstBreach}
use Rattle.rule_rows.specs.Firsts.{IsFirstOf}
use Rattle.rule_tiles.specs.First.{IsFirst}

-- the first as the one crate says it, and as the other does
pub from_rows : (P : ℤ → ℤ → Type 0) (o : Option Point) → IsFirstOf P o → IsFirst P o
from_rows P None h = h
from_rows P (Some p) h = (h.here, h.least)

-- kinds of the same squares have the same first one
pub first_same : (P Q : ℤ → ℤ → Type 0) → ((x y : ℤ) → P x y → Q x y) → ((x y : ℤ) → Q x y → P x y)
    → (o : Option Point) → IsFirst P o → IsFirst Q o
first_same P Q f g None h = λ x y q. h x y (g x y q)
first_same P Q f g (Some p) h = (f p.x p.y h.0, λ x y b q. h.1 x y b (g x y q))

module _ (covers : Layer → ℤ → ℤ → Type 0) where
  -- a broken rule is one of the ten
  by_number : {P : Type 0} (k : ℕ) (x y : ℤ) → BreaksRule covers k x y
      → (k ≡ 1 → IsNarrow (covers ND) 1000 x y → P)
      → (k ≡ 2 → IsNarrow (covers NP) 1000 x y → P)
      → (k ≡ 3 → IsNarrow (covers NM) 1500 x y → P)
      → (k ≡ 4 → IsTight (covers ND) 1500 x y → P)
      → (k ≡ 5 → IsTight (covers NP) 1000 x y → P)
      → (k ≡ 6 → IsTight (covers NM) 1500 x y → P)
      → (k ≡ 7 → IsUnrelated covers x y → P)
      → (k ≡ 8 → IsOpenGate covers x y → P)
      → (k ≡ 9 → IsOddCut covers x y → P)
      → (k ≡ 10 → IsBareCut covers x y → P)
      → P
  by_number k x y h f1 f2 f3 f4 f5 f6 f7 f8 f9 f10 =
      elim h [
        | inl h ↦ f1 h.0 h.1
        | inr h ↦ elim h [
          | inl h ↦ f2 h.0 h.1
          | inr h ↦ elim h [
            | inl h ↦ f3 h.0 h.1
            | inr h ↦ elim h [
              | inl h ↦ f4 h.0 h.1
              | inr h ↦ elim h [
                | inl h ↦ f5 h.0 h.1
                | inr h ↦ elim h [
                  | inl h ↦ f6 h.0 h.1
                  | inr h ↦ elim h [
                    | inl h ↦ f7 h.0 h.1
                    | inr h ↦ elim h [
                      | inl h ↦ f8 h.0 h.1
                      | inr h ↦ elim h [
                        | inl h ↦ f9 h.0 h.1
                        | inr h ↦ f10 h.0 h.1
                      ]
                    ]
                  ]
                ]
              ]
            ]
          ]
        ]
      ]

  pub among_ten : (k : ℕ) (x y : ℤ) → BreaksRule covers k x y → (1 ≤ k) × (k ≤ 10)
  among_ten k x y h = by_number k x y h
      (λ e s. (omega (arith, e), omega (arith, e)))
      (λ e s. (omega (arith, e), omega (arith, e)))
      (λ e s. (omega (arith, e), omega (arith, e)))
      (λ e s. (omega (arith, e), omega (arith, e)))
      (λ e s. (omega (arith, e), omega (arith, e)))
      (λ e s. (omega (arith, e), omega (arith, e)))
      (λ e s. (omega (arith, e), omega (arith, e)))
      (λ e s. (omega (arith, e), omega (arith, e)))
      (λ e s. (omega (arith, e), omega (arith, e)))
      (λ e s. (omega (arith, e), omega (arith, e)))

  breaks_4 : (x y : ℤ) → IsTight (covers ND) 1500 x y → BreaksRule covers 4 x y
  breaks_4 x y s = inr (inr (inr (inl (refl, s))))

  broken_4 : (x y : ℤ) → BreaksRule covers 4 x y → IsTight (covers ND) 1500 x y
  broken_4 x y h = grind arith

  pub first_4 : (o : Option Point) → IsFirst (IsTight (covers ND) 1500) o → IsFirst (BreaksRule covers 4) o
  first_4 = first_same (IsTight (covers ND) 1500) (BreaksRule covers 4) breaks_4 broken_4

  breaks_5 : (x y : ℤ) → IsTight (covers NP) 1000 x y → BreaksRule covers 5 x y
  breaks_5 x y s = inr (inr (inr (inr (inl (refl, s)))))

  broken_5 : (x y : ℤ) → BreaksRule covers 5 x y → IsTight (covers NP) 1000 x y
  broken_5 x y h = grind arith

  pub first_5 : (o : Option Point) → IsFirst (IsTight (covers NP) 1000) o → IsFirst (BreaksRule covers 5) o
  first_5 = first_same (IsTight (covers NP) 1000) (BreaksRule covers 5) breaks_5 broken_5

  breaks_6 : (x y : ℤ) → IsTight (covers NM) 1500 x y → BreaksRule covers 6 x y
  breaks_6 x y s = inr (inr (inr (inr (inr (inl (refl, s))))))

  broken_6 : (x y : ℤ) → BreaksRule covers 6 x y → IsTight (covers NM) 1500 x y
  broken_6 x y h = grind arith

  pub first_6 : (o : Option Point) → IsFirst (IsTight (covers NM) 1500) o → IsFirst (BreaksRule covers 6) o
  first_6 = first_same (IsTight (covers NM) 1500) (BreaksRule covers 6) breaks_6 broken_6

  breaks_7 : (x y : ℤ) → IsUnrelated covers x y → BreaksRule covers 7 x y
  breaks_7 x y s = inr (inr (inr (inr (inr (inr (inl (refl, s)))))))

  broken_7 : (x y : ℤ) → BreaksRule covers 7 x y → IsUnrelated covers x y
  broken_7 x y h = grind arith

  pub first_7 : (o : Option Point) → IsFirst (IsUnrelated covers) o → IsFirst (BreaksRule covers 7) o
  first_7 = first_same (IsUnrelated covers) (BreaksRule covers 7) breaks_7 broken_7

  breaks_8 : (x y : ℤ) → IsOpenGate covers x y → BreaksRule covers 8 x y
  breaks_8 x y s = inr (inr (inr (inr (inr (inr (inr (inl (refl, s))))))))

  broken_8 : (x y : ℤ) → BreaksRule covers 8 x y → IsOpenGate covers x y
  broken_8 x y h = grind arith

  pub first_8 : (o : Option Point) → IsFirst (IsOpenGate covers) o → IsFirst (BreaksRule covers 8) o
  first_8 = first_same (IsOpenGate covers) (BreaksRule covers 8) breaks_8 broken_8

  breaks_10 : (x y : ℤ) → IsBareCut covers x y → BreaksRule covers 10 x y
  breaks_10 x y s = inr (inr (inr (inr (inr (inr (inr (inr (inr (refl, s)))))))))

  broken_10 : (x y : ℤ) → BreaksRule covers 10 x y → IsBareCut covers x y
  broken_10 x y h = grind arith

  pub first_10 : (o : Option Point) → IsFirst (IsBareCut covers) o → IsFirst (BreaksRule covers 10) o
  first_10 = first_same (IsBareCut covers) (BreaksRule covers 10) breaks_10 broken_10

  -- rules below this number aren't broken
  abbrev pub NoneBelow : ℕ → Type 0
  NoneBelow n = (j : ℕ) (x y : ℤ) → j < n → ¬ BreaksRule covers j x y

  pub none_below_one : NoneBelow 1
  none_below_one j x y l h = let g = among_ten j x y h in let g0 = g.0 in omega arith

  pub none_below_more : (n : ℕ) → NoneBelow n → ((x y : ℤ) → ¬ BreaksRule covers n x y) → NoneBelow (n + 1)
  none_below_more n below none j x y l h = elim (cases_eq j n) [
    | inl e ↦ none x y (subst (λ k. BreaksRule covers k x y) e h)
    | inr o ↦ below j x y (omega arith) h
  ]

  pub all_clean : (n : ℕ) → 11 ≤ n → NoneBelow n → IsClean covers
  all_clean n m below k x y h = let g = among_ten k x y h in let g1 = g.1 in below k x y (omega arith) h

  pub first_breach : (n : ℕ) (place : Point) → NoneBelow n → IsFirst (BreaksRule covers n) (Some place)
      → IsFirstBreach covers n place.x place.y
  first_breach n place below first = record { breaks = first.0; rule = below; least = first.1 }
