-- Each pad has a cell of its own, which costs something.
use Rattle.std.proofs.Common.{◌≡◌, ℕ, zero, suc, ◌+◌, ◌<◌, ◌≤◌, List, [], ◌∷◌, length, cond, eqb, ltb}
use Rattle.std.proofs.Common.{Option, Some, None, get_or, refl, sym, ◌∙◌, ap, arith}
use Rattle.std.specs.Prelude.{sum_by}
use Rattle.std.proofs.lemmas.Bool.Decides.{nat_tests}
use Rattle.std.proofs.lemmas.List.Sums.{get_or-le-sum_by, sum_by-cons, sum_by-le-sum_by}
use Rattle.rtl_form.specs.declared.rtl.Cell as cells
use Rattle.rtl_form.specs.declared.rtl.CellKind.{CellKind}
use Rattle.rtl_form.specs.declared.rtl.CellKind.TheVariants.{Input, Output, Inner, Stored}
use Rattle.rtl_form.specs.declared.rtl.Rtl.{Rtl}
use Rattle.rtl_form.specs.Cost.{cell_cost, cost}
use Rattle.mp_base.specs.Entries.{IsAt}
use Rattle.mp_base.proofs.Entries.{value, within}
use Rattle.rtl_form.specs.Sound.{IsSound}

-- the number of the input pad of a cell, and of its output pad
abbrev input_of : CellKind → Option ℕ
input_of (Input k) = Some k
input_of _ = None

abbrev output_of : CellKind → Option ℕ
output_of (Output k) = Some k
output_of _ = None

-- 1 for a number below n, and for n
abbrev below : ℕ → Option ℕ → ℕ
below n None = 0
below n (Some k) = cond (ltb k n) 1 0

abbrev is : ℕ → Option ℕ → ℕ
is n None = 0
is n (Some k) = cond (eqb k n) 1 0

below_none : (o : Option ℕ) → below 0 o ≡ 0
below_none None = refl
below_none (Some k) = grind (arith, nat_tests)

below_more : (n : ℕ) (o : Option ℕ) → below (suc n) o ≡ below n o + is n o
below_more n None = refl
below_more n (Some k) = grind (arith, nat_tests)

is_one : (n : ℕ) (o : Option ℕ) → o ≡ Some n → is n o ≡ 1
is_one n o e = ap (is n) e ∙ grind (arith, nat_tests)

sum_both : {X : Type 0} (f g h : X → ℕ) → ((x : X) → f x ≡ g x + h x) → (xs : List X)
    → sum_by f xs ≡ sum_by g xs + sum_by h xs
sum_both f g h e [] = refl
sum_both f g h e (x ∷ xs) =
    let a = sum_by-cons f x xs in let b = sum_by-cons g x xs in let c = sum_by-cons h x xs in
    let d = e x in let i = sum_both f g h e xs in omega (arith, a, b, c, d, i)

-- as many elements as numbers below n, where each of these is that of an element
numbers_counted : {X : Type 0} (number : X → Option ℕ) (xs : List X) (n : ℕ)
    → ((k : ℕ) → k < n → (i : ℕ) × (x : X) × IsAt xs i x × (number x ≡ Some k))
    → n ≤ sum_by (λ x. below n (number x)) xs
numbers_counted number xs zero all = omega arith
numbers_counted number xs (suc n) all =
    let i = numbers_counted number xs n (λ k l. all k (omega (arith, l))) in
    let (place, x, at, numbered) = all n (omega arith) in
    let here : 1 ≤ is n (number (get_or xs place x)) =
    (let e = is_one n (number (get_or xs place x)) (ap number (sym (value xs place at)) ∙ numbered) in
    omega (arith, e)) in
    let s = sum_both (λ x. below (suc n) (number x)) (λ x. below n (number x)) (λ x. is n (number x))
    (λ x. below_more n (number x)) xs in
    let m = get_or-le-sum_by (λ x. is n (number x)) xs place x (within xs place at) in
    omega (arith, i, here, s, m)

-- a cell of a pad costs at least its pad
kind_costs : (ins outs : ℕ) (kind : CellKind) → below ins (input_of kind) + below outs (output_of kind) ≤ cell_cost kind
kind_costs ins outs (Input k) = grind (arith, nat_tests)
kind_costs ins outs (Output k) = grind (arith, nat_tests)
kind_costs ins outs Inner = omega arith
kind_costs ins outs Stored = omega arith

-- transfers cost at least as much as they have pads
pub pads_cost : (r : Rtl) → IsSound r → length (r.pads).inputs + length (r.pads).outputs ≤ cost r
pads_cost r sound =
    let ins = length (r.pads).inputs in let outs = length (r.pads).outputs in
    let i = numbers_counted (λ (x : cells.Cell). input_of x.kind) r.cells ins (λ k l.
    let (c, (x, at, kind), only) = sound.input_cells k l in (c, x, at, ap input_of kind)) in
    let o = numbers_counted (λ (x : cells.Cell). output_of x.kind) r.cells outs (λ k l.
    let (c, (x, at, kind), only) = sound.output_cells k l in (c, x, at, ap output_of kind)) in
    let s = sum_both
    (λ (x : cells.Cell). below ins (input_of x.kind) + below outs (output_of x.kind))
    (λ (x : cells.Cell). below ins (input_of x.kind)) (λ (x : cells.Cell). below outs (output_of x.kind))
    (λ x. refl) r.cells in
    let m = sum_by-le-sum_by (λ (x : cells.Cell). below ins (input_of x.kind) + below outs (output_of x.kind))
    (λ (x : cells.Cell). cell_cost x.kind) r.cells (λ x. kind_costs ins outs x.kind) in
    omega (arith, i, o, s, m)
