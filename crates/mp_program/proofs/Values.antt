-- The equation of an expression's value, and what it depends on.
use Rattle.std.proofs.Common.{◌≡◌, ℕ, ◌<◌, List, [], ◌∷◌, Bool, true, false, refl, sym, ◌∙◌, ap, length}
use Rattle.std.specs.Prelude.{map, slice_index, slice_get, Some}
use Rattle.std.specs.List.{list_any}
use Rattle.std.proofs.lemmas.Slice.Eq.{bytes_eq-Decides}
use Rattle.std.proofs.lemmas.Bool.{or_left, or_right}
use Rattle.mp_base.specs.Apply.{apply}
use Rattle.mp_base.proofs.Induction.{downward}
use Rattle.mp_base.proofs.Entries.{some_entry, read_of}
use Rattle.mp_program.specs.declared.program.ExprKind.{ExprKind}
use Rattle.mp_program.specs.declared.program.ExprKind.TheVariants.{Number, Named, True, False, Apply}
use Rattle.mp_program.specs.declared.program.Expr.{Expr}
use Rattle.mp_program.specs.declared.program.Program.{Program}
use Rattle.mp_program.specs.Sound.{IsSound, ArgsFit, AllBetween}
use Rattle.mp_program.specs.Names.{index_of, is_same}
use Rattle.mp_program.specs.Values.{kind_value, value_of}
use Rattle.mp_program.specs.Reads.{kind_mentions, mentions}
use Rattle.mp_program.proofs.Tables.{table_at}
use Rattle.mp_program.proofs.Walks.{map-behind, list_any-behind}

kind_value-behind : (p : Program) (env : List ℕ) (i n : ℕ) (k : ExprKind) (g h : ℕ → ℕ) → ((j : ℕ) → i < j → g j ≡ h j)
    → ArgsFit i n k → kind_value p env k g ≡ kind_value p env k h
kind_value-behind p env i n (Number m) g h same fit = refl
kind_value-behind p env i n (Named x) g h same fit = refl
kind_value-behind p env i n True g h same fit = refl
kind_value-behind p env i n False g h same fit = refl
kind_value-behind p env i n (Apply op k args) g h same fit =
    ap (apply p.width op k) (map-behind i n args g h same fit.1)

-- the equation of a value
pub value_is : (p : Program) (env : List ℕ) (e : ℕ) (x : Expr) → IsSound p → slice_get p.exprs e ≡ Some x
    → value_of p env e ≡ kind_value p env x.kind (value_of p env)
value_is p env e x sound at = let (lt, is) = read_of p.exprs e x at in
    table_at 0 (λ (y : Expr) v. kind_value p env y.kind v) p.exprs e x lt is
    (λ g h same. kind_value-behind p env e (length p.exprs) x.kind g h same (sound.exprs e x at))

kind_mentions-behind : (name : List ℕ) (i n : ℕ) (k : ExprKind) (g h : ℕ → Bool) → ((j : ℕ) → i < j → g j ≡ h j)
    → ArgsFit i n k → kind_mentions name k g ≡ kind_mentions name k h
kind_mentions-behind name i n (Number m) g h same fit = refl
kind_mentions-behind name i n (Named x) g h same fit = refl
kind_mentions-behind name i n True g h same fit = refl
kind_mentions-behind name i n False g h same fit = refl
kind_mentions-behind name i n (Apply op k args) g h same fit = list_any-behind i n args g h same fit.1

pub mentions_is : (p : Program) (name : List ℕ) (e : ℕ) (x : Expr) → IsSound p → slice_get p.exprs e ≡ Some x
    → mentions p name e ≡ kind_mentions name x.kind (mentions p name)
mentions_is p name e x sound at = let (lt, is) = read_of p.exprs e x at in
    table_at false (λ (y : Expr) v. kind_mentions name y.kind v) p.exprs e x lt is
    (λ g h same. kind_mentions-behind name e (length p.exprs) x.kind g h same (sound.exprs e x at))

pub is_same-itself : (x : List ℕ) → is_same x x ≡ true
is_same-itself x = (bytes_eq-Decides x x).1 refl

-- two lists of values that agree at a name
abbrev pub Agrees : Program → List ℕ → List ℕ → List ℕ → Type 0
Agrees p env env' n = slice_index env (index_of p.defs n) ≡ slice_index env' (index_of p.defs n)

-- a value depends on the names that stand in the expression alone
abbrev AgreesAt : Program → List ℕ → List ℕ → ℕ → Type 0
AgreesAt p env env' e = ((n : List ℕ) → mentions p n e ≡ true → Agrees p env env' n)
    → value_of p env e ≡ value_of p env' e

args_agree : (p : Program) (env env' : List ℕ) (i : ℕ) (args : List ℕ)
    → ((j : ℕ) → i < j → j < length p.exprs → AgreesAt p env env' j)
    → ((n : List ℕ) → list_any (mentions p n) args ≡ true → Agrees p env env' n) → AllBetween i (length p.exprs) args
    → map (value_of p env) args ≡ map (value_of p env') args
args_agree p env env' i [] below same fit = refl
args_agree p env env' i (a ∷ more) below same ((behind, within), rest) =
    ap (λ y. y ∷ map (value_of p env) more) (below a behind within (λ n h. same n (or_left _ _ h)))
    ∙ ap (λ ys. value_of p env' a ∷ ys)
    (args_agree p env env' i more below (λ n h. same n (or_right (mentions p n a) _ h)) rest)

kind_agrees : (p : Program) (env env' : List ℕ) (i : ℕ) (k : ExprKind)
    → ((j : ℕ) → i < j → j < length p.exprs → AgreesAt p env env' j)
    → ((n : List ℕ) → kind_mentions n k (mentions p n) ≡ true → Agrees p env env' n) → ArgsFit i (length p.exprs) k
    → kind_value p env k (value_of p env) ≡ kind_value p env' k (value_of p env')
kind_agrees p env env' i (Number m) below same fit = refl
kind_agrees p env env' i (Named x) below same fit = same x (is_same-itself x)
kind_agrees p env env' i True below same fit = refl
kind_agrees p env env' i False below same fit = refl
kind_agrees p env env' i (Apply op k args) below same fit =
    ap (apply p.width op k) (args_agree p env env' i args below same fit.1)

pub value_agrees : (p : Program) (env env' : List ℕ) → IsSound p → (e : ℕ) → e < length p.exprs
    → ((n : List ℕ) → mentions p n e ≡ true → Agrees p env env' n) → value_of p env e ≡ value_of p env' e
value_agrees p env env' sound =
    downward (AgreesAt p env env') (length p.exprs) (λ i lt below same.
    let x = some_entry p.exprs i lt in
    value_is p env i x.0 sound x.1
    ∙ kind_agrees p env env' i (x.0).kind below (λ n h. same n (mentions_is p n i x.0 sound x.1 ∙ h))
    (sound.exprs i x.0 x.1)
    ∙ sym (value_is p env' i x.0 sound x.1))
