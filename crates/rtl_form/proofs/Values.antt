-- The equation of an expression's value, and the cells that it depends on.
use Rattle.std.proofs.Common.{◌≡◌, ◌∙◌, ℕ, ◌<◌, List, [], ◌∷◌, cond, refl, sym, ap, length, arith}
use Rattle.std.specs.Prelude.{Contains, ◌==◌, ◌&&◌, slice_index}
use Rattle.std.proofs.lemmas.Bool.{eqb-true}
use Rattle.mp_base.specs.Apply.{apply}
use Rattle.mp_base.proofs.Contents.{contains_head, contains_behind}
use Rattle.mp_base.proofs.Induction.{by_test, upward}
use Rattle.rtl_form.specs.declared.rtl.Transfer.{Transfer}
use Rattle.rtl_form.specs.declared.rtl.RtlExpr.{RtlExpr}
use Rattle.rtl_form.specs.declared.rtl.RtlExpr.TheVariants.{Number, Truth, Cell, Apply}
use Rattle.rtl_form.specs.declared.rtl.Rtl.{Rtl}
use Rattle.mp_base.specs.Entries.{IsAt}
use Rattle.mp_base.proofs.Entries.{some_entry, within}
use Rattle.rtl_form.specs.Values.{expr_value, value_of}
use Rattle.rtl_form.specs.Written.{written}
use Rattle.rtl_form.specs.Sound.{IsSound, ExprFits, ReadsCell, itself, inside}
use Rattle.rtl_form.proofs.Growing.{grown_at}
use Rattle.rtl_form.proofs.Members.{map_same}

expr_before : (r : Rtl) (env : List ℕ) (e : ℕ) (x : RtlExpr) (g h : ℕ → ℕ) → ((k : ℕ) → k < e → g k ≡ h k)
    → ExprFits r e x
    → expr_value r.width env x g ≡ expr_value r.width env x h
expr_before r env e (Number n) g h same fit = refl
expr_before r env e (Truth b) g h same fit = refl
expr_before r env e (Cell c) g h same fit = refl
expr_before r env e (Apply op k args) g h same (takes, index, fit) =
    ap (apply r.width op k) (map_same args g h (λ a c. same a (fit a c).0))

-- the equation of a value
pub value_is : (r : Rtl) → IsSound r → (env : List ℕ) (e : ℕ) (x : RtlExpr) → IsAt r.exprs e x
    → value_of r env e ≡ expr_value r.width env x (value_of r env)
value_is r sound env e x at =
    grown_at 0 (λ (y : RtlExpr) v. expr_value r.width env y v) r.exprs e x at
    (λ g h same. expr_before r env e x g h same (sound.exprs e x at))

-- a value depends on the cells that the expression reads alone
abbrev AgreesAt : Rtl → List ℕ → List ℕ → ℕ → Type 0
AgreesAt r env env2 e = e < length r.exprs
    → ((c : ℕ) → ReadsCell r.exprs c e → slice_index env c ≡ slice_index env2 c) → value_of r env e ≡ value_of r env2 e

expr_agrees : (r : Rtl) (env env2 : List ℕ) (e : ℕ) (x : RtlExpr) → IsAt r.exprs e x → ExprFits r e x
    → ((j : ℕ) → j < e → AgreesAt r env env2 j)
    → ((c : ℕ) → ReadsCell r.exprs c e → slice_index env c ≡ slice_index env2 c)
    → expr_value r.width env x (value_of r env) ≡ expr_value r.width env2 x (value_of r env2)
expr_agrees r env env2 e (Number n) at fit below same = refl
expr_agrees r env env2 e (Truth b) at fit below same = refl
expr_agrees r env env2 e (Cell c) at fit below same = same c (itself e at)
expr_agrees r env env2 e (Apply op k args) at (takes, index, fit) below same =
    ap (apply r.width op k) (map_same args (value_of r env) (value_of r env2) (λ a ca.
    let lt = (fit a ca).0 in
    below a lt (let l = within r.exprs e at in omega (arith, lt, l))
    (λ c reads. same c (inside e a op k args at ca reads))))

pub value_agrees : (r : Rtl) → IsSound r → (env env2 : List ℕ) (e : ℕ) → AgreesAt r env env2 e
value_agrees r sound env env2 = upward (AgreesAt r env env2) (λ e below lt same.
    let (x, at) = some_entry r.exprs e lt in
    value_is r sound env e x at ∙ expr_agrees r env env2 e x at (sound.exprs e x at) below same
    ∙ sym (value_is r sound env2 e x at))

-- what is written to a cell depends on the guards and values of its transfers alone
pub written_agrees : (v w : ℕ → ℕ) (c : ℕ) (ts : List Transfer)
    → ((t : Transfer) → Contains ts t → t.target ≡ c → (v t.guard ≡ w t.guard) × (v t.value ≡ w t.value))
    → written v c ts ≡ written w c ts
written_agrees v w c [] same = refl
written_agrees v w c (t ∷ ts) same =
    let rest = written_agrees v w c ts (λ u cu. same u (contains_behind u t ts cu)) in
    by_test (t.target == c)
    (λ e.
    let now = same t (contains_head t ts) (eqb-true t.target c e) in
    ap (λ n. cond ((t.target == c) && (n == 1)) (v t.value ∷ written v c ts) (written v c ts)) now.0
    ∙ ap (λ n. cond ((t.target == c) && (w t.guard == 1)) (n ∷ written v c ts) (written v c ts)) now.1
    ∙ ap (λ xs. cond ((t.target == c) && (w t.guard == 1)) (w t.value ∷ xs) xs) rest)
    (λ e. ap (λ b. cond (b && (v t.guard == 1)) (v t.value ∷ written v c ts) (written v c ts)) e ∙ rest
    ∙ sym (ap (λ b. cond (b && (w t.guard == 1)) (w t.value ∷ written w c ts) (written w c ts)) e))
