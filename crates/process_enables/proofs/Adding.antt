-- Expressions that are added.
use Rattle.std.proofs.Common.{
  ◌≡◌,
  inl,
  inr,
  ℕ,
  ◌+◌,
  ◌<◌,
  List,
  [],
  ◌∷◌,
  ◌++◌,
  false,
  refl,
  sym,
  ap,
  subst,
  arith,
  length,
}
use Rattle.std.proofs.lemmas.List.{length-append}
use Rattle.std.proofs.lemmas.List.Sums.{sum_by-cons, sum_by-append}
use Rattle.mp_base.specs.declared.op.Op.TheVariants.{And, Not}
use Rattle.mp_base.proofs.Contents.{only_one}
use Rattle.mp_base.specs.Entries.{IsAt}
use Rattle.mp_base.proofs.Entries.{get_middle, get_kept, push_cases, within}
use Rattle.rtl_form.specs.declared.rtl.Cell.{Cell}
use Rattle.rtl_form.specs.declared.rtl.RtlExpr.{RtlExpr}
use Rattle.rtl_form.specs.declared.rtl.RtlExpr.TheVariants.{Apply}
use Rattle.rtl_form.specs.Cost.{expr_cost}
use Rattle.process_plan.specs.Bill.{exprs_cost}
use Rattle.process_plan.specs.Fits.{ExprsFit, ExprFitsIn, HasSortIn}
use Rattle.process_plan.proofs.Members.{cases_of}
use Rattle.process_plan.proofs.Sorts.{has_sort_kept, fits_kept}
use Rattle.process_layout.specs.Steps.{Keeps}
use Rattle.process_layout.proofs.Keeping.{keeps_same, keeps_more}
use Rattle.process_enables.specs.Adding.{IsPut}
use Rattle.process_enables.specs.Forms.{Narrows}

module _ (old : List RtlExpr) (x : RtlExpr) (new : List RtlExpr) (i : ℕ) (put : IsPut old x new i) where
  pub put_at : IsAt new i x
  put_at = subst (λ xs. IsAt xs i x) (sym put.added)
      (subst (λ n. IsAt (old ++ x ∷ []) n x) (sym put.index) (get_middle old x []))

  pub put_keeps : Keeps old new
  put_keeps = subst (λ ys. Keeps old ys) (sym put.added) (get_kept old (x ∷ []))

  pub put_cost : exprs_cost new ≡ exprs_cost old + expr_cost x
  put_cost =
      let a : exprs_cost new ≡ exprs_cost (old ++ x ∷ []) = ap exprs_cost put.added in
      let b = sum_by-append expr_cost old (x ∷ []) in
      let c = sum_by-cons expr_cost x [] in
      omega (arith, a, b, c)

  pub put_size : length new ≡ length old + 1
  put_size =
      let a : length new ≡ length (old ++ x ∷ []) = ap length put.added in
      let b = length-append old (x ∷ []) in
      omega (arith, a, b)

  -- what fits where it is added keeps all fit
  pub put_fits : (w : ℕ) (xs : List Cell) → ExprFitsIn w xs old (length old) x → ExprsFit w xs old → ExprsFit w xs new
  put_fits w xs fit all = subst (λ ys. ExprsFit w xs ys) (sym put.added) (λ e y at. elim (push_cases old x e y at) as
      (λ _. ExprFitsIn w xs (old ++ x ∷ []) e y) [
        | inl (lt, before) ↦ fits_kept w xs xs old (old ++ x ∷ []) e y (keeps_same xs) (get_kept old (x ∷ [])) (all e y
            before)
        | inr (here, is) ↦ fits_kept w xs xs old (old ++ x ∷ []) e y (keeps_same xs) (get_kept old (x ∷ []))
            (subst (λ z. ExprFitsIn w xs old e z) is (subst (λ n. ExprFitsIn w xs old n x) (sym here) fit))
      ])

-- what fits is kept where expressions are added
pub bit_kept : (xs : List Cell) (exprs more : List RtlExpr) (e : ℕ) → Keeps exprs more → HasSortIn xs exprs e false
    → HasSortIn xs more e false
bit_kept xs exprs more e kept has = has_sort_kept xs xs exprs more e false (keeps_same xs) kept has

-- an AND of two bits, and the negation of a bit
pub and_fits : (w : ℕ) (xs : List Cell) (exprs : List RtlExpr) (a b : ℕ) → HasSortIn xs exprs a false
    → HasSortIn xs exprs b false → ExprFitsIn w xs exprs (length exprs) (Apply And 0 (a ∷ b ∷ []))
and_fits w xs exprs a b (x, at_a, is_a) (y, at_b, is_b) = (
  refl,
  tt,
  λ e c. elim (cases_of e a (b ∷ []) c) as
      (λ _. (e < length exprs) × HasSortIn xs exprs e false) [
        | inl is ↦ subst (λ n. (n < length exprs) × HasSortIn xs exprs n false) is
            (within exprs a at_a, (x, at_a, is_a))
        | inr later ↦ subst (λ n. (n < length exprs) × HasSortIn xs exprs n false) (only_one b e later)
            (within exprs b at_b, (y, at_b, is_b))
      ],
)

pub not_fits : (w : ℕ) (xs : List Cell) (exprs : List RtlExpr) (a : ℕ) → HasSortIn xs exprs a false
    → ExprFitsIn w xs exprs (length exprs) (Apply Not 0 (a ∷ []))
not_fits w xs exprs a (x, at_a, is_a) = (
  refl,
  tt,
  λ e c.
      subst (λ n. (n < length exprs) × HasSortIn xs exprs n false) (only_one a e c)
      (within exprs a at_a, (x, at_a, is_a)),
)

-- the negation of a guard, and then what is 1 where another expression is too
pub narrows_is : (rest guard : ℕ) (exprs mid more : List RtlExpr) (n m : ℕ)
    → IsPut exprs (Apply Not 0 (guard ∷ [])) mid n
    → IsPut mid (Apply And 0 (rest ∷ n ∷ [])) more m → Narrows rest guard exprs more m
narrows_is rest guard exprs mid more n m one two =
    let negated = put_at exprs (Apply Not 0 (guard ∷ [])) mid n one in
    let first = put_keeps exprs (Apply Not 0 (guard ∷ [])) mid n one in
    let second = put_keeps mid (Apply And 0 (rest ∷ n ∷ [])) more m two in
    record {
      exprs_kept = keeps_more exprs mid more first second;
      made = (
        n,
        second n (Apply Not 0 (guard ∷ [])) negated,
        put_at mid (Apply And 0 (rest ∷ n ∷ [])) more m two,
      );
      cost =
          let a = put_cost exprs (Apply Not 0 (guard ∷ [])) mid n one in
          let b = put_cost mid (Apply And 0 (rest ∷ n ∷ [])) more m two in
          omega (arith, a, b);
      fits = λ w xs bit_rest bit_guard all.
          put_fits mid (Apply And 0 (rest ∷ n ∷ [])) more m two w xs
          (and_fits w xs mid rest n (bit_kept xs exprs mid rest first bit_rest) (
            Apply Not 0 (guard ∷ []),
            negated,
            refl,
          ))
          (put_fits exprs (Apply Not 0 (guard ∷ [])) mid n one w xs (not_fits w xs exprs guard bit_guard) all);
    }
