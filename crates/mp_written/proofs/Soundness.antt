-- What a program's type says of its expressions and functions, from the test to each index.
use Rattle.std.proofs.Common.{◌≡◌, ◌∙◌, ℕ, zero, suc, ◌+◌, ◌<◌, List, [], ◌∷◌, Bool, true, subst, length, arith}
use Rattle.std.specs.Prelude.{◌&&◌, ◌||◌, ◌==◌, not, nat_lt, nat_le, Option, Some, None}
use Rattle.std.specs.List.{list_all, filter_map, cons_option, AllByRecursion}
use Rattle.std.proofs.Common.{refl}
use Rattle.std.proofs.lemmas.Bool.{ltb-true, leb-true, and_parts}
use Rattle.std.proofs.lemmas.Option.{none-some, same_Some}
use Rattle.mp_base.specs.Apply.{takes}
use Rattle.mp_base.specs.Entries.{IsAt}
use Rattle.mp_base.proofs.Entries.{each_at}
use Rattle.mp_program.specs.Fits.{is_symbol, all_behind, forms_fit, process_fits}
use Rattle.mp_program.specs.Sound.{AllBetween}
use Rattle.mp_written.specs.declared.program.ExprKind.{ExprKind}
use Rattle.mp_written.specs.declared.program.ExprKind.TheVariants.{Number, Named, True, False, Apply, Use}
use Rattle.mp_written.specs.declared.program.What.{What}
use Rattle.mp_written.specs.declared.program.What.TheVariants as whats
use Rattle.mp_written.specs.declared.program.Arg.{Arg}
use Rattle.mp_written.specs.declared.program.Def.{Def}
use Rattle.mp_written.specs.declared.program.Expr.{Expr}
use Rattle.mp_written.specs.declared.program.Program.{Program}
use Rattle.mp_written.specs.Kinds.{is_supply}
use Rattle.mp_written.specs.Functions.{Function, function_of}
use Rattle.mp_written.specs.Fits.{expr_fits, exprs_fit, what_fits, def_fits}
use Rattle.mp_written.specs.Tree.{operands}
use Rattle.mp_written.specs.Sound.{FitsAsWritten, FunctionFits, IsSound}

pub all_by : {X : Type 0} (P : X → Type 0) (test : X → Bool) → ((x : X) → test x ≡ true → P x) → (xs : List X)
    → list_all test xs ≡ true → AllByRecursion P xs
all_by P test step [] h = tt
all_by P test step (x ∷ xs) h = let here = and_parts (test x) (list_all test xs) h in
    (step x here.0, all_by P test step xs here.1)

between : (i n : ℕ) (ks : List ℕ) → all_behind i n ks ≡ true → AllBetween i n ks
between i n ks h =
    all_by (λ k. (i < k) × (k < n)) (λ k. nat_lt i k && nat_lt k n)
    (λ k t. let here = and_parts (nat_lt i k) (nat_lt k n) t in (ltb-true i k here.0, ltb-true k n here.1)) ks h

-- ---- the tests of the type, one by one

pub record IsFit (w : Program) : Type 0 where
  pub width : (nat_le 1 w.width && nat_le w.width 64) ≡ true
  pub name : is_symbol w.name ≡ true
  pub defs : list_all (def_fits (length w.exprs)) w.defs ≡ true
  pub exprs : exprs_fit (length w.exprs) 0 w.exprs ≡ true
  pub forms : forms_fit (length w.exprs) (length w.forms) 0 w.forms ≡ true
  pub always : list_all (λ f. nat_lt f (length w.forms)) w.always ≡ true
  pub processes : list_all (process_fits (length w.forms)) w.processes ≡ true

pub fit : (w : Program) → IsFit w
fit w =
    let e = length w.exprs in
    let n = length w.forms in
    let width = nat_le 1 w.width && nat_le w.width 64 in
    let defs = list_all (def_fits e) w.defs in
    let exprs = exprs_fit e 0 w.exprs in
    let forms = forms_fit e n 0 w.forms in
    let always = list_all (λ f. nat_lt f n) w.always in
    let processes = list_all (process_fits n) w.processes in
    let named = width && is_symbol w.name in
    let six = and_parts (named && defs && exprs && forms && always) processes w.fits in
    let five = and_parts (named && defs && exprs && forms) always six.0 in
    let four = and_parts (named && defs && exprs) forms five.0 in
    let three = and_parts (named && defs) exprs four.0 in
    let two = and_parts named defs three.0 in
    let one = and_parts width (is_symbol w.name) two.0 in
    record {
      width = one.0;
      name = one.1;
      defs = two.1;
      exprs = three.1;
      forms = four.1;
      always = five.1;
      processes = six.1;
    }

-- ---- expressions

operands_fit : (n i : ℕ) (k : ExprKind) → expr_fits n i k ≡ true → AllBetween i n (operands k)
operands_fit n i (Number v) h = tt
operands_fit n i (Named x) h = tt
operands_fit n i True h = tt
operands_fit n i False h = tt
operands_fit n i (Apply op index args) h = between i n args (and_parts (takes op (length args)) (all_behind i n args) h).1
operands_fit n i (Use at x args) h =
    between i n args (and_parts (is_symbol x && nat_le 1 (length args)) (all_behind i n args) h).1

kind_fits : (n i : ℕ) (k : ExprKind) → expr_fits n i k ≡ true → FitsAsWritten k
kind_fits n i (Number v) h = tt
kind_fits n i (Named x) h = h
kind_fits n i True h = tt
kind_fits n i False h = tt
kind_fits n i (Apply op index args) h = (and_parts (takes op (length args)) (all_behind i n args) h).0
kind_fits n i (Use at x args) h =
    let front = (and_parts (is_symbol x && nat_le 1 (length args)) (all_behind i n args) h).0 in
    let two = and_parts (is_symbol x) (nat_le 1 (length args)) front in
    (two.0, leb-true 1 (length args) two.1)

-- the test of the expression at an index
pub fits_at : (n from : ℕ) (xs : List Expr) → exprs_fit n from xs ≡ true → (i : ℕ) (x : Expr) → IsAt xs i x
    → expr_fits n (from + i) x.kind ≡ true
fits_at n from [] h i x at = absurd (none-some x at)
fits_at n from (y ∷ ys) h zero x at =
    let two = and_parts (expr_fits n from y.kind) (exprs_fit n (suc from) ys) h in
    let e : from ≡ from + zero = omega arith in
    subst (λ j. expr_fits n j x.kind ≡ true) e
    (subst (λ (z : Expr). expr_fits n from z.kind ≡ true) (same_Some y x at) two.0)
fits_at n from (y ∷ ys) h (suc i) x at =
    let two = and_parts (expr_fits n from y.kind) (exprs_fit n (suc from) ys) h in
    let e : suc from + i ≡ from + suc i = omega arith in
    subst (λ j. expr_fits n j x.kind ≡ true) e (fits_at n (suc from) ys two.1 i x at)

-- ---- functions

function_fits : (n : ℕ) (d : Def) (what : What) (f : Function) → d.what ≡ what → def_fits n d ≡ true
    → function_of d what ≡ Some f → FunctionFits n f
function_fits n d (whats.Function args body) f is h made =
    let named = (is_supply d.what && (length d.name == 0)) || (not (is_supply d.what) && is_symbol d.name) in
    let two = and_parts named (what_fits n d.what) h in
    let name : is_symbol d.name ≡ true = subst
    (λ y. ((is_supply y && (length d.name == 0)) || (not (is_supply y) && is_symbol d.name)) ≡ true) is two.0 in
    let what : what_fits n (whats.Function args body) ≡ true = subst (λ y. what_fits n y ≡ true) is two.1 in
    let many = and_parts (nat_le 1 (length args) && list_all (λ (a : Arg). is_symbol a.name) args) (nat_lt body n) what in
    let some = and_parts (nat_le 1 (length args)) (list_all (λ (a : Arg). is_symbol a.name) args) many.0 in
    subst (FunctionFits n) (same_Some _ f made) (record {
      name = name;
      some = leb-true 1 (length args) some.0;
      args = all_by (λ (a : Arg). is_symbol a.name ≡ true) (λ (a : Arg). is_symbol a.name) (λ a t. t) args some.1;
      body = ltb-true body n many.1;
    })
function_fits n d whats.Power f is h made = absurd (none-some f made)
function_fits n d whats.Ground f is h made = absurd (none-some f made)
function_fits n d whats.Phia f is h made = absurd (none-some f made)
function_fits n d whats.Phib f is h made = absurd (none-some f made)
function_fits n d whats.Phic f is h made = absurd (none-some f made)
function_fits n d (whats.Constant c) f is h made = absurd (none-some f made)
function_fits n d whats.Register f is h made = absurd (none-some f made)
function_fits n d whats.Flag f is h made = absurd (none-some f made)
function_fits n d (whats.Port way) f is h made = absurd (none-some f made)
function_fits n d (whats.Signal way) f is h made = absurd (none-some f made)

-- an item of a list of which h makes y
abbrev pub MadeOf : {X Y : Type 0} → (X → Option Y) → List X → Y → Type 0
MadeOf {X} h xs y = (j : ℕ) × (x : X) × IsAt xs j x × (h x ≡ Some y)

-- an item of what is kept comes from an item
pub kept_from : {X Y : Type 0} (h : X → Option Y) (xs : List X) (k : ℕ) (y : Y) → IsAt (filter_map h xs) k y
    → MadeOf h xs y
kept_from h [] k y at = absurd (none-some y at)
kept_from {X} {Y} h (x ∷ xs) k y at = by_first (h x) k refl at (λ i there. kept_from h xs i y there)
  where
    later : MadeOf h xs y → MadeOf h (x ∷ xs) y
    later (j, z, is, kept) = (suc j, z, is, kept)

    by_first : (o : Option Y) (i : ℕ) → h x ≡ o → IsAt (cons_option o (filter_map h xs)) i y
        → ((n : ℕ) → IsAt (filter_map h xs) n y → MadeOf h xs y) → MadeOf h (x ∷ xs) y
    by_first None i e there rest = later (rest i there)
    by_first (Some z) zero e there rest = (0, x, refl, e ∙ there)
    by_first (Some z) (suc i) e there rest = later (rest i there)

-- each program is sound
pub sound : (w : Program) → IsSound w
sound w =
    let n = length w.exprs in
    let f = fit w in
    let at : (i : ℕ) (x : Expr) → IsAt w.exprs i x → expr_fits n i x.kind ≡ true = λ i x is.
    (let e : 0 + i ≡ i = omega arith in
    subst (λ j. expr_fits n j x.kind ≡ true) e (fits_at n 0 w.exprs f.exprs i x is)) in
    record {
      behind = λ i x is. operands_fit n i x.kind (at i x is);
      exprs = λ i x is. kind_fits n i x.kind (at i x is);
      defs = λ k g is.
          (let (j, d, there, made) = kept_from (λ (y : Def). function_of y y.what) w.defs k g is in
          function_fits n d d.what g refl
          (each_at (λ y. def_fits n y ≡ true) w.defs j d
          (all_by (λ y. def_fits n y ≡ true) (def_fits n) (λ y t. t) w.defs f.defs) there) made);
    }
