-- Paths of a relation on numbers, and whether there is one.
use Rattle.std.proofs.Common.{◌≡◌, ◌⊎◌, inl, inr, ℕ, zero, suc, ◌<◌, subst, arith}
use Rattle.std.proofs.lemmas.Bool.{cases_lt}

-- a path from a to b that passes numbers below k alone
abbrev pub Path : (ℕ → ℕ → Type 0) → ℕ → ℕ → ℕ → Type 0
Path R zero a b = R a b
Path R (suc k) a b = Path R k a b ⊎ (Path R k a k × Path R k k b)

pub path_decided : (R : ℕ → ℕ → Type 0) → ((a b : ℕ) → R a b ⊎ (R a b → ⊥)) → (k a b : ℕ) → Path R k a b
    ⊎ (Path R k a b → ⊥)
path_decided R known zero a b = known a b
path_decided R known (suc k) a b = by (path_decided R known k a b) (path_decided R known k a k)
    (path_decided R known k k b)
  where
    by : {A B C : Type 0} → A ⊎ (A → ⊥) → B ⊎ (B → ⊥) → C ⊎ (C → ⊥) → (A ⊎ (B × C)) ⊎ (A ⊎ (B × C) → ⊥)
    by (inl p) to from = inl (inl p)
    by (inr none) (inl p) (inl q) = inl (inr (p, q))
    by (inr none) (inl p) (inr absent) = inr (λ t. elim t [ inl q ↦ none q | inr q ↦ absent q.1 ])
    by (inr none) (inr absent) from = inr (λ t. elim t [ inl q ↦ none q | inr q ↦ absent q.0 ])

-- fewer numbers may be passed
pub path_more : (R : ℕ → ℕ → Type 0) (k a b : ℕ) → R a b → Path R k a b
path_more R zero a b r = r
path_more R (suc k) a b r = inl (path_more R k a b r)

-- two paths that meet below k are one
pub path_joined : (R : ℕ → ℕ → Type 0) (k j a b : ℕ) → j < k → Path R k a j → Path R k j b → Path R k a b
path_joined R zero j a b lt p q = absurd (omega (arith, lt))
path_joined R (suc k) j a b lt p q = elim (cases_lt j k) [
  | inl below ↦ four (λ c d s t. path_joined R k j c d below s t) p q
  | inr from ↦ (let same : j ≡ k = omega (arith, lt, from) in inr
      (to (subst (λ i. Path R (suc k) a i) same p), off (subst (λ i. Path R (suc k) i b) same q)))
]
  where
    four : ((c d : ℕ) → Path R k c j → Path R k j d → Path R k c d) → Path R (suc k) a j → Path R (suc k) j b
        → Path R (suc k) a b
    four meet (inl s) (inl t) = inl (meet a b s t)
    four meet (inl s) (inr t) = inr (meet a k s t.0, t.1)
    four meet (inr s) (inl t) = inr (s.0, meet k b s.1 t)
    four meet (inr s) (inr t) = inr (s.0, t.1)

    to : Path R (suc k) a k → Path R k a k
    to (inl s) = s
    to (inr s) = s.0

    off : Path R (suc k) k b → Path R k k b
    off (inl s) = s
    off (inr s) = s.1
