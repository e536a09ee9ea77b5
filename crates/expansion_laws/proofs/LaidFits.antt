-- Expressions that are laid out fit a program's type: operands in range and behind, operators with as many as they take.
use Rattle.std.proofs.Common.{◌≡◌, ◌∙◌, ℕ, suc, ◌+◌, ◌≤◌, List, [], ◌∷◌, ◌++◌, refl, sym, ap, subst, arith, length}
use Rattle.std.proofs.Common.{take, length-take-le}
use Rattle.std.specs.Prelude.{◌&&◌, ◌||◌, Bool, true, false, nat_lt, ◌==◌, not, if◌then◌else◌}
use Rattle.std.specs.List.{list_any, AllByRecursion}
use Rattle.std.proofs.lemmas.Bool.{and_from, eq-eqb, lt-ltb}
use Rattle.mp_base.specs.Apply.{takes}
use Rattle.mp_base.proofs.Induction.{by_test}
use Rattle.mp_program.specs.Fits.{expr_fits, exprs_fit, all_behind}
use Rattle.mp_program.specs.Tree.{is_distinct}
use Rattle.mp_written.specs.declared.program.ExprKind.{ExprKind}
use Rattle.mp_written.specs.declared.program.ExprKind.TheVariants.{Number, Named, True, False, Apply, Use}
use Rattle.mp_written.specs.declared.program.Expr.{Expr}
use Rattle.mp_written.specs.Laying.{laid, laid_kind, arity}
use Rattle.expansion_laws.proofs.Laid.{Within, within_take, tops_within, Enough, length-tops, IsWhole, leaf_whole, node_whole}
use Rattle.expansion_laws.proofs.Laid.{joined, occurs}
use Rattle.expansion_laws.proofs.ClosedClaims.{FitsKind, IsClosed}

-- ---- what is left of lawful expressions is whole, and each of it fits

pub record IsWord (xs : List Expr) : Type 0 where
  pub whole : IsWhole xs
  pub fit : AllByRecursion (λ (x : Expr). FitsKind x.kind) xs

pub both : (xs ys : List Expr) → AllByRecursion (λ (x : Expr). FitsKind x.kind) xs
    → AllByRecursion (λ (x : Expr). FitsKind x.kind) ys → AllByRecursion (λ (x : Expr). FitsKind x.kind) (xs ++ ys)
both [] ys h k = k
both (x ∷ xs) ys h k = (h.0, both xs ys h.1 k)

pub wholes : (vs : List (List Expr)) → AllByRecursion IsWord vs → AllByRecursion IsWhole vs
wholes [] h = tt
wholes (v ∷ vs) h = ((h.0).whole, wholes vs h.1)

pub fits_joined : (vs : List (List Expr)) → AllByRecursion IsWord vs
    → AllByRecursion (λ (x : Expr). FitsKind x.kind) (joined vs)
fits_joined [] h = tt
fits_joined (v ∷ vs) h = both v (joined vs) (h.0).fit (fits_joined vs h.1)

pub words_closed : IsClosed FitsKind IsWord
words_closed = record {
  leaf = λ x none fit. record { whole = leaf_whole x none; fit = (fit, tt) };
  node = λ x vs many fit all. record { whole = node_whole x vs many (wholes vs all); fit = (fit, fits_joined vs all) };
}

-- ---- operands behind and in range

behind_all : (i n : ℕ) (ts : List ℕ) → Within (i + 1) n ts → all_behind i n ts ≡ true
behind_all i n [] h = refl
behind_all i n (t ∷ ts) h =
    let (low, high) = h.0 in
    and_from (nat_lt i t && nat_lt t n) (all_behind i n ts)
    (and_from (nat_lt i t) (nat_lt t n) (lt-ltb i t (omega (arith, low))) (lt-ltb t n high)) (behind_all i n ts h.1)

kind_fits : (n i : ℕ) (k : ExprKind) (ts : List ℕ) → FitsKind k → Within (i + 1) n ts → arity k ≤ length ts
    → expr_fits n i (laid_kind k ts) ≡ true
kind_fits n i (Number v) ts fit h le = refl
kind_fits n i (Named x) ts fit h le = fit
kind_fits n i True ts fit h le = refl
kind_fits n i False ts fit h le = refl
kind_fits n i (Apply op k os) ts fit h le =
    and_from (takes op (length (take (length os) ts))) (all_behind i n (take (length os) ts))
    (ap (takes op) (length-take-le (length os) ts le) ∙ fit)
    (behind_all i n (take (length os) ts) (within_take (i + 1) n (length os) ts h))
kind_fits n i (Use at x os) ts fit h le = absurd fit

pub laid_fits : (n at : ℕ) (xs : List Expr) → at + length xs ≡ n → Enough xs
    → AllByRecursion (λ (x : Expr). FitsKind x.kind) xs → exprs_fit n at (laid at xs).exprs ≡ true
laid_fits n at [] e enough fit = refl
laid_fits n at (x ∷ xs) e enough fit =
    let below = laid (at + 1) xs in
    let rest = laid_fits n (at + 1) xs (omega (arith, e)) enough.1 fit.1 in
    let next : at + 1 ≡ suc at = omega arith in
    let far : at + 1 + length xs ≡ n = omega (arith, e) in
    let inside : Within (at + 1) n below.tops = subst (λ m. Within (at + 1) m below.tops) far (tops_within (at + 1) xs) in
    let many = length-tops 0 (at + 1) xs in
    let le = enough.0 in
    and_from (expr_fits n at (laid_kind x.kind below.tops)) (exprs_fit n (suc at) below.exprs)
    (kind_fits n at x.kind below.tops fit.0 inside (omega (arith, many, le)))
    (subst (λ j. exprs_fit n j below.exprs ≡ true) next rest)

-- ---- no number twice

nowhere : (x : ℕ) (xs : List ℕ) → occurs x xs ≡ 0 → list_any (λ y. y == x) xs ≡ false
nowhere x [] h = refl
nowhere x (y ∷ ys) h = by_test (y == x)
    (λ yes. (let bad : 1 + occurs x ys ≡ 0 = sym (ap (λ b. (if b then 1 else 0) + occurs x ys) yes) ∙ h in
    absurd (omega (arith, bad))))
    (λ no. (let less : 0 + occurs x ys ≡ 0 = sym (ap (λ b. (if b then 1 else 0) + occurs x ys) no) ∙ h in
    or_neither (y == x) (list_any (λ z. z == x) ys) no (nowhere x ys (omega (arith, less)))))
  where
    or_neither : (a b : Bool) → a ≡ false → b ≡ false → (a || b) ≡ false
    or_neither false b p q = q
    or_neither true b p q = p

once_here : (x : ℕ) (xs : List ℕ) → occurs x (x ∷ xs) ≡ 1 + occurs x xs
once_here x xs = ap (λ b. (if b then 1 else 0) + occurs x xs) (eq-eqb x x refl)

pub distinct_from : (xs : List ℕ) → ((n : ℕ) → occurs n xs ≤ 1) → is_distinct xs ≡ true
distinct_from [] h = refl
distinct_from (x ∷ xs) h =
    let here = h x in
    let e = once_here x xs in
    and_from (not (list_any (λ y. y == x) xs)) (is_distinct xs)
    (ap not (nowhere x xs (omega (arith, here, e))))
    (distinct_from xs (λ n. (let more = h n in less n more)))
  where
    less : (n : ℕ) → occurs n (x ∷ xs) ≤ 1 → occurs n xs ≤ 1
    less n more = omega (arith, more)
