-- Expressions that are laid out are nested no deeper than there are operators among them, and one more.
use Rattle.std.proofs.Common.{◌≡◌, ℕ, zero, suc, ◌+◌, ◌-◌, ◌≤◌, List, [], ◌∷◌, refl, ap, subst, arith, length, true}
use Rattle.std.proofs.Common.{take, drop, get_or}
use Rattle.std.specs.Prelude.{slice_index_or, nat_le}
use Rattle.std.specs.List.{AllByRecursion}
use Rattle.std.proofs.lemmas.Bool.{and_from, le-leb}
use Rattle.mp_base.specs.Table.{table}
use Rattle.mp_program.specs.Tree.{operands, tallest, expr_heights, are_low, height_limit}
use Rattle.mp_program.specs.declared.program.Expr as plain
use Rattle.mp_written.specs.declared.program.ExprKind.{ExprKind}
use Rattle.mp_written.specs.declared.program.ExprKind.TheVariants.{Number, Named, True, False, Apply, Use}
use Rattle.mp_written.specs.declared.program.Expr.{Expr}
use Rattle.mp_written.specs.Laying.{laid, laid_kind, arity}
use Rattle.expansion_laws.proofs.Laid.{Within, tops_within, within_drop}

abbrev pub is_operator : ExprKind → ℕ
is_operator (Apply op k os) = 1
is_operator _ = 0

-- how many operators there are
abbrev pub operators : List Expr → ℕ
operators [] = 0
operators (x ∷ xs) = is_operator x.kind + operators xs

abbrev height_of : plain.Expr → (ℕ → ℕ) → ℕ
height_of x h = suc (tallest h (operands x.kind))

-- the heights of expressions from an index on
abbrev pub heights : ℕ → List plain.Expr → List ℕ
heights at es = table 0 height_of at es

-- those at these indices are at most so high
abbrev LowAt : ℕ → ℕ → List ℕ → List ℕ → Type 0
LowAt most at hs ts = AllByRecursion (λ t. get_or hs (t - at) 0 ≤ most) ts

low_take : (most at k : ℕ) (hs ts : List ℕ) → LowAt most at hs ts → LowAt most at hs (take k ts)
low_take most at zero hs ts h = tt
low_take most at (suc k) hs [] h = tt
low_take most at (suc k) hs (t ∷ ts) h = (h.0, low_take most at k hs ts h.1)

low_drop : (most at k : ℕ) (hs ts : List ℕ) → LowAt most at hs ts → LowAt most at hs (drop k ts)
low_drop most at zero hs ts h = h
low_drop most at (suc k) hs [] h = h
low_drop most at (suc k) hs (t ∷ ts) h = low_drop most at k hs ts h.1

tallest_low : (most at : ℕ) (hs ts : List ℕ) → LowAt most at hs ts → tallest (λ t. get_or hs (t - at) 0) ts ≤ most
tallest_low most at hs [] h = omega arith
tallest_low most at hs (t ∷ ts) h = let rest = tallest_low most at hs ts h.1 in let here = h.0 in omega (arith, rest, here)

-- one more in front
shifted : (most more at b h : ℕ) (hs ts : List ℕ) → most ≤ more → Within (at + 1) b ts → LowAt most (suc at) hs ts
    → LowAt more at (h ∷ hs) ts
shifted most more at b h hs [] le inside low = tt
shifted most more at b h hs (t ∷ ts) le inside low =
    let (above, _) = inside.0 in
    let e : t - at ≡ suc (t - suc at) = omega (arith, above) in
    let here = low.0 in
    let same : get_or (h ∷ hs) (t - at) 0 ≡ get_or hs (t - suc at) 0 = ap (λ k. get_or (h ∷ hs) k 0) e in
    (omega (arith, here, same, le), shifted most more at b h hs ts le inside.1 low.1)

-- how high one is, by its operands
own_height : (k : ExprKind) (ts : List ℕ) (h : ℕ → ℕ) (most : ℕ) → tallest h (take (arity k) ts) ≤ 1 + most
    → suc (tallest h (operands (laid_kind k ts))) ≤ 1 + (is_operator k + most)
own_height (Number n) ts h most le = omega arith
own_height (Named x) ts h most le = omega arith
own_height True ts h most le = omega arith
own_height False ts h most le = omega arith
own_height (Apply op k os) ts h most le = omega (arith, le)
own_height (Use at x os) ts h most le = omega arith

wider : (most more : ℕ) (hs : List ℕ) → most ≤ more → AllByRecursion (λ h. h ≤ most) hs → AllByRecursion (λ h. h ≤ more) hs
wider most more [] le low = tt
wider most more (h ∷ hs) le low = let here = low.0 in (omega (arith, here, le), wider most more hs le low.1)

pub record AreLow (at : ℕ) (xs : List Expr) : Type 0 where
  pub tops : LowAt (1 + operators xs) at (heights at (laid at xs).exprs) (laid at xs).tops
  pub all : AllByRecursion (λ h. h ≤ 1 + operators xs) (heights at (laid at xs).exprs)

pub laid_low : (at : ℕ) (xs : List Expr) → AreLow at xs
laid_low at [] = record { tops = tt; all = tt }
laid_low at (x ∷ xs) =
    let below = laid (at + 1) xs in
    let next : at + 1 ≡ suc at = omega arith in
    let hs = heights (suc at) below.exprs in
    let rest = laid_low (at + 1) xs in
    let low : LowAt (1 + operators xs) (suc at) hs below.tops =
    subst (λ j. LowAt (1 + operators xs) j (heights j below.exprs) below.tops) next rest.tops in
    let each : AllByRecursion (λ h. h ≤ 1 + operators xs) hs =
    subst (λ j. AllByRecursion (λ h. h ≤ 1 + operators xs) (heights j below.exprs)) next rest.all in
    let find : ℕ → ℕ = λ k. slice_index_or hs (k - suc at) 0 in
    let under = tallest_low (1 + operators xs) (suc at) hs (take (arity x.kind) below.tops)
    (low_take (1 + operators xs) (suc at) (arity x.kind) hs below.tops low) in
    let own = own_height x.kind below.tops find (operators xs) under in
    let top = suc (tallest find (operands (laid_kind x.kind below.tops))) in
    let here : at - at ≡ 0 = omega arith in
    let first : get_or (top ∷ hs) (at - at) 0 ≡ top = ap (λ k. get_or (top ∷ hs) k 0) here in
    record {
      tops = (
        omega (arith, own, first),
        shifted (1 + operators xs) (1 + operators (x ∷ xs)) at (at + 1 + length xs) top hs (drop (arity x.kind) below.tops)
            (omega arith) (within_drop (at + 1) (at + 1 + length xs) (arity x.kind) below.tops (tops_within (at + 1) xs))
            (low_drop (1 + operators xs) (suc at) (arity x.kind) hs below.tops low),
      );
      all = (own, wider (1 + operators xs) (1 + operators (x ∷ xs)) hs (omega arith) each);
    }

-- low enough for a program's type
pub are_low_laid : (xs : List Expr) → 1 + operators xs ≤ height_limit → are_low (expr_heights (laid 0 xs).exprs) ≡ true
are_low_laid xs few = all_low (heights 0 (laid 0 xs).exprs) (laid_low 0 xs).all
  where
    all_low : (hs : List ℕ) → AllByRecursion (λ h. h ≤ 1 + operators xs) hs → are_low hs ≡ true
    all_low [] low = refl
    all_low (h ∷ hs) low =
        let here = low.0 in
        and_from (nat_le h height_limit) (are_low hs) (le-leb h height_limit (omega (arith, here, few)))
        (all_low hs low.1)
