-- A table's value of a whole word is that of the word alone.
use Rattle.std.proofs.Common.{◌≡◌, ◌∙◌, ℕ, zero, suc, List, [], ◌∷◌, ◌++◌, refl, sym, ap, arith, length}
use Rattle.std.proofs.Common.{take, drop, append_assoc}
use Rattle.std.specs.List.{AllByRecursion}
use Rattle.mp_written.specs.declared.program.ExprKind.{ExprKind}
use Rattle.mp_written.specs.declared.program.Expr.{Expr}
use Rattle.mp_written.specs.Laying.{arity}
use Rattle.expansion_laws.proofs.Laid.{joined}
use Rattle.expansion_laws.proofs.ClosedClaims.{IsClosed}

module _ {V : Type 0} (g : ExprKind → List V → V) where
  abbrev pub vals_of : List Expr → List V
  vals_of [] = []
  vals_of (x ∷ xs) = g x.kind (take (arity x.kind) (vals_of xs)) ∷ drop (arity x.kind) (vals_of xs)

  -- a word with its value, of which P holds
  pub record Has (P : V → List Expr → Type 0) (xs : List Expr) : Type 0 where
    pub value : V
    pub told : (rest : List Expr) → vals_of (xs ++ rest) ≡ value ∷ vals_of rest
    pub so : P value xs

  abbrev pub values : (P : V → List Expr → Type 0) (vs : List (List Expr)) → AllByRecursion (Has P) vs → List V
  values P [] h = []
  values P (v ∷ vs) h = (h.0).value ∷ values P vs h.1

  length-values : (P : V → List Expr → Type 0) (vs : List (List Expr)) (h : AllByRecursion (Has P) vs)
      → length (values P vs h) ≡ length vs
  length-values P [] h = refl
  length-values P (v ∷ vs) h = let rest = length-values P vs h.1 in omega (arith, rest)

  pub told_joined : (P : V → List Expr → Type 0) (vs : List (List Expr)) (h : AllByRecursion (Has P) vs) (rest : List Expr)
      → vals_of (joined vs ++ rest) ≡ values P vs h ++ vals_of rest
  told_joined P [] h rest = refl
  told_joined P (v ∷ vs) h rest =
      ap vals_of (append_assoc v (joined vs) rest) ∙ (h.0).told (joined vs ++ rest)
      ∙ ap (λ ys. (h.0).value ∷ ys) (told_joined P vs h.1 rest)

  take_front : (xs ys : List V) (k : ℕ) → k ≡ length xs → take k (xs ++ ys) ≡ xs
  take_front [] ys zero e = refl
  take_front [] ys (suc k) e = absurd (omega (arith, e))
  take_front (x ∷ xs) ys zero e = absurd (omega (arith, e))
  take_front (x ∷ xs) ys (suc k) e = ap (λ zs. x ∷ zs) (take_front xs ys k (omega (arith, e)))

  drop_front : (xs ys : List V) (k : ℕ) → k ≡ length xs → drop k (xs ++ ys) ≡ ys
  drop_front [] ys zero e = refl
  drop_front [] ys (suc k) e = absurd (omega (arith, e))
  drop_front (x ∷ xs) ys zero e = absurd (omega (arith, e))
  drop_front (x ∷ xs) ys (suc k) e = drop_front xs ys k (omega (arith, e))

  -- P of operands gives P of what they stand in
  abbrev pub Passes : (ExprKind → Type 0) → (V → List Expr → Type 0) → Type 0
  Passes K P = (x : Expr) (vs : List (List Expr)) (h : AllByRecursion (Has P) vs) → K x.kind
      → P (g x.kind (values P vs h)) (x ∷ joined vs)

  pub has_closed : (K : ExprKind → Type 0) (P : V → List Expr → Type 0) → Passes K P → IsClosed K (Has P)
  has_closed K P passes = record { leaf = leaf_has; node = node_has }
    where
      node_has : (x : Expr) (vs : List (List Expr)) → arity x.kind ≡ length vs → K x.kind → AllByRecursion (Has P) vs
          → Has P (x ∷ joined vs)
      node_has x vs many k h = record {
        value = g x.kind (values P vs h);
        told = λ rest.
            (let n : arity x.kind ≡ length (values P vs h) = many ∙ sym (length-values P vs h) in
            let all = told_joined P vs h rest in
            ap (λ ys. g x.kind (take (arity x.kind) ys) ∷ drop (arity x.kind) ys) all
            ∙ ap (λ ys. g x.kind ys ∷ drop (arity x.kind) (values P vs h ++ vals_of rest))
            (take_front (values P vs h) (vals_of rest) (arity x.kind) n)
            ∙ ap (λ ys. g x.kind (values P vs h) ∷ ys) (drop_front (values P vs h) (vals_of rest) (arity x.kind) n));
        so = passes x vs h k;
      }

      leaf_has : (x : Expr) → arity x.kind ≡ 0 → K x.kind → Has P (x ∷ [])
      leaf_has x none k = record {
        value = g x.kind [];
        told = λ rest. ap (λ n. g x.kind (take n (vals_of rest)) ∷ drop n (vals_of rest)) none;
        so = passes x [] tt k;
      }
