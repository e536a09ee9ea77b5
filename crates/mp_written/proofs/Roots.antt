-- An expression stands in one body, guard or value at most.
use Rattle.std.proofs.Common.{◌≡◌, ◌∙◌, ◌⊎◌, inl, inr, ℕ, zero, suc, ◌<◌, List, [], ◌∷◌, ◌++◌, true, false, refl, sym, ap, subst}
use Rattle.std.proofs.Common.{arith, length, map}
use Rattle.std.specs.Prelude.{◌||◌, ◌==◌, not, Contains, Option, Some, None}
use Rattle.std.specs.List.{list_any, flat_map, filter_map, cons_option, range_with_len}
use Rattle.std.proofs.lemmas.Bool.{and_parts, and_from, eq-eqb, eqb-true, not-true, or_parts}
use Rattle.std.proofs.lemmas.List.Folds.{list_any-append}
use Rattle.std.proofs.lemmas.Option.{none-some, same_Some}
use Rattle.mp_base.specs.Entries.{IsAt}
use Rattle.mp_base.proofs.Contents.{contains_behind, contains_flat, contains_map, contains_one, contains_from_filter}
use Rattle.mp_base.proofs.Contents.{any_contained, holds_of_contained, nothing_in}
use Rattle.mp_base.proofs.Entries.{contains_from_get, any_found}
use Rattle.mp_base.proofs.Induction.{upward}
use Rattle.mp_program.specs.Tree.{is_distinct}
use Rattle.mp_written.specs.declared.program.What.{What}
use Rattle.mp_written.specs.declared.program.What.TheVariants as whats
use Rattle.mp_written.specs.declared.program.Def.{Def}
use Rattle.mp_written.specs.declared.program.Expr.{Expr}
use Rattle.mp_written.specs.declared.program.Program.{Program}
use Rattle.mp_written.specs.Functions.{Function, function_of, functions}
use Rattle.mp_written.specs.Tree.{operands, body_in}
use Rattle.mp_written.specs.Sound.{AreBehind, Under, itself, deeper, InBody}
use Rattle.mp_written.specs.Expansion.{form_exprs, tops}
use Rattle.mp_written.proofs.Soundness.{sound}
use Rattle.mp_written.proofs.Trees.{tree_fit}

-- ---- lists without repetition

distinct_end : (xs ys : List ℕ) → is_distinct (xs ++ ys) ≡ true → is_distinct ys ≡ true
distinct_end [] ys h = h
distinct_end (x ∷ xs) ys h =
    distinct_end xs ys (and_parts (not (list_any (λ y. y == x) (xs ++ ys))) (is_distinct (xs ++ ys)) h).1

distinct_begin : (xs ys : List ℕ) → is_distinct (xs ++ ys) ≡ true → is_distinct xs ≡ true
distinct_begin [] ys h = refl
distinct_begin (x ∷ xs) ys h =
    let two = and_parts (not (list_any (λ y. y == x) (xs ++ ys))) (is_distinct (xs ++ ys)) h in
    let none : (list_any (λ y. y == x) xs || list_any (λ y. y == x) ys) ≡ false =
    sym (list_any-append (λ y. y == x) xs ys) ∙ not-true _ two.0 in
    and_from (not (list_any (λ y. y == x) xs)) (is_distinct xs)
    (ap not (or_parts (list_any (λ y. y == x) xs) (list_any (λ y. y == x) ys) none).0) (distinct_begin xs ys two.1)

contains_right : (zs ys : List ℕ) (u : ℕ) → Contains ys u → Contains (zs ++ ys) u
contains_right [] ys u e = e
contains_right (z ∷ zs) ys u e = contains_behind u z (zs ++ ys) (contains_right zs ys u e)

contains_left : (zs ys : List ℕ) (u : ℕ) → Contains zs u → Contains (zs ++ ys) u
contains_left [] ys u e = absurd (nothing_in u e)
contains_left (z ∷ zs) ys u (zero, lt, is) = (zero, omega arith, is)
contains_left (z ∷ zs) ys u (suc i, lt, is) = contains_behind u z (zs ++ ys) (contains_left zs ys u (i, omega (arith, lt), is))

distinct_front : (xs ys : List ℕ) → is_distinct (xs ++ ys) ≡ true → (v : ℕ) → Contains xs v → Contains ys v → ⊥
distinct_front [] ys h v c d = nothing_in v c
distinct_front (x ∷ xs) ys h v (zero, lt, is) d =
    let two = and_parts (not (list_any (λ y. y == x) (xs ++ ys))) (is_distinct (xs ++ ys)) h in
    let none : list_any (λ y. y == x) (xs ++ ys) ≡ false = not-true _ two.0 in
    let some : list_any (λ y. y == x) (xs ++ ys) ≡ true =
    any_contained (λ y. y == x) (xs ++ ys) v (contains_right xs ys v d) (eq-eqb v x (sym is)) in
    let bad : true ≡ false = sym some ∙ none in cc
distinct_front (x ∷ xs) ys h v (suc i, lt, is) d =
    distinct_front xs ys (and_parts (not (list_any (λ y. y == x) (xs ++ ys))) (is_distinct (xs ++ ys)) h).1 v
    (i, omega (arith, lt), is) d

-- a number stands in one part only
one_part : {X : Type 0} (g : X → List ℕ) (xs : List X) → is_distinct (flat_map g xs) ≡ true → (i j : ℕ) (x y : X) (v : ℕ)
    → IsAt xs i x → IsAt xs j y → Contains (g x) v → Contains (g y) v → i ≡ j
one_part g [] h i j x y v ix jy cx cy = absurd (none-some x ix)
one_part g (z ∷ zs) h zero zero x y v ix jy cx cy = refl
one_part g (z ∷ zs) h zero (suc j) x y v ix jy cx cy =
    absurd (distinct_front (g z) (flat_map g zs) h v (subst (λ u. Contains (g u) v) (sym (same_Some z x ix)) cx)
    (contains_flat g zs y v (contains_from_get zs j y jy) cy))
one_part g (z ∷ zs) h (suc i) zero x y v ix jy cx cy =
    absurd (distinct_front (g z) (flat_map g zs) h v (subst (λ u. Contains (g u) v) (sym (same_Some z y jy)) cy)
    (contains_flat g zs x v (contains_from_get zs i x ix) cx))
one_part g (z ∷ zs) h (suc i) (suc j) x y v ix jy cx cy =
    ap suc (one_part g zs (distinct_end (g z) (flat_map g zs) h) i j x y v ix jy cx cy)

-- ---- what is above an expression

-- it stands in no expression
abbrev pub IsRoot : List Expr → ℕ → Type 0
IsRoot exprs d = (b : ℕ) (y : Expr) → IsAt exprs b y → Contains (operands y.kind) d → ⊥

-- expression b, which is y, has e directly in it, and stands in d
pub record Above (exprs : List Expr) (d e : ℕ) : Type 0 where
  pub parent : ℕ
  pub expr : Expr
  pub under : Under exprs d parent
  pub at : IsAt exprs parent expr
  pub in_it : Contains (operands expr.kind) e

pub above : (exprs : List Expr) (d e : ℕ) → Under exprs d e → (d ≡ e) ⊎ Above exprs d e
above exprs d e itself = inl refl
above exprs d e (deeper {e = b} y at c under) = elim (above exprs b e under) [
  | inl same ↦
      inr (record { parent = d; expr = y; under = itself; at = at; in_it = subst (Contains (operands y.kind)) same c })
  | inr a ↦ inr (record { parent = a.parent; expr = a.expr; under = deeper y at c a.under; at = a.at; in_it = a.in_it })
]

-- what stands in an expression that stands in d stands in d
pub under_also : (exprs : List Expr) (d e f : ℕ) (x : Expr) → Under exprs d e → IsAt exprs e x → Contains (operands x.kind) f
    → Under exprs d f
under_also exprs d e f x itself at c = deeper x at c itself
under_also exprs d e f x (deeper {e = b} y there cb under) at c =
    deeper y there cb (under_also exprs b e f x under at c)

-- two roots of one expression are one
module _ (exprs : List Expr) (sound : AreBehind exprs)
    (apart : is_distinct (flat_map (λ (x : Expr). operands x.kind) exprs) ≡ true) where
  abbrev OneRoot : ℕ → Type 0
  OneRoot e = (d g : ℕ) → IsRoot exprs d → IsRoot exprs g → Under exprs d e → Under exprs g e → d ≡ g

  step : (e : ℕ) → ((j : ℕ) → j < e → OneRoot j) → OneRoot e
  step e below d g root other ud ug = elim (above exprs d e ud) [
    | inl same ↦ elim (above exprs g e ug) [
      | inl too ↦ same ∙ sym too
      | inr a ↦ absurd (root a.parent a.expr a.at (subst (Contains (operands (a.expr).kind)) (sym same) a.in_it))
    ]
    | inr a ↦ elim (above exprs g e ug) [
      | inl same ↦ absurd (other a.parent a.expr a.at (subst (Contains (operands (a.expr).kind)) (sym same) a.in_it))
      | inr b ↦
          (let one = one_part (λ (x : Expr). operands x.kind) exprs apart a.parent b.parent a.expr b.expr e a.at b.at
          a.in_it b.in_it in
          let lt = (holds_of_contained (λ k. (a.parent < k) × (k < length exprs)) (operands (a.expr).kind) e
          (sound a.parent a.expr a.at) a.in_it).0 in
          below a.parent lt d g root other a.under (subst (λ k. Under exprs g k) (sym one) b.under))
    ]
  ]

  pub one_root : (e : ℕ) → OneRoot e
  one_root e = upward OneRoot step e

-- ---- the roots of a program: bodies, and guards and values

body_of : (d : Def) (k : What) → body_in k ≡ map (λ (f : Function). f.body) (cons_option (function_of d k) [])
body_of d whats.Power = refl
body_of d whats.Ground = refl
body_of d whats.Phia = refl
body_of d whats.Phib = refl
body_of d whats.Phic = refl
body_of d (whats.Constant c) = refl
body_of d whats.Register = refl
body_of d whats.Flag = refl
body_of d (whats.Port way) = refl
body_of d (whats.Signal way) = refl
body_of d (whats.Function args body) = refl

more_bodies : (o : Option Function) (fs : List Function)
    → map (λ (f : Function). f.body) (cons_option o []) ++ map (λ (f : Function). f.body) fs
    ≡ map (λ (f : Function). f.body) (cons_option o fs)
more_bodies None fs = refl
more_bodies (Some f) fs = refl

all_bodies : (ds : List Def) → flat_map (λ (d : Def). body_in d.what) ds
    ≡ map (λ (f : Function). f.body) (filter_map (λ (d : Def). function_of d d.what) ds)
all_bodies [] = refl
all_bodies (d ∷ ds) =
    let fs = filter_map (λ (y : Def). function_of y y.what) ds in
    ap (λ ys. ys ++ flat_map (λ (y : Def). body_in y.what) ds) (body_of d d.what)
    ∙ ap (λ ys. map (λ (f : Function). f.body) (cons_option (function_of d d.what) []) ++ ys) (all_bodies ds)
    ∙ more_bodies (function_of d d.what) fs

module _ (w : Program) where
  abbrev bodies : List ℕ
  bodies = flat_map (λ (d : Def). body_in d.what) w.defs

  abbrev within : List ℕ
  within = flat_map (λ (x : Expr). operands x.kind) w.exprs

  abbrev guards : List ℕ
  guards = form_exprs w.forms

  all_apart : is_distinct (bodies ++ (within ++ guards)) ≡ true
  all_apart = (tree_fit w).exprs

  operands_apart : is_distinct within ≡ true
  operands_apart = distinct_begin within guards (distinct_end bodies (within ++ guards) all_apart)

  in_bodies : (k : ℕ) (f : Function) → IsAt (functions w) k f → Contains bodies f.body
  in_bodies k f at = subst (λ ys. Contains ys f.body) (sym (all_bodies w.defs))
      (contains_map (λ (g : Function). g.body) (functions w) f (contains_from_get (functions w) k f at))

  in_operands : (b : ℕ) (y : Expr) (d : ℕ) → IsAt w.exprs b y → Contains (operands y.kind) d → Contains within d
  in_operands b y d at c = contains_flat (λ (x : Expr). operands x.kind) w.exprs y d (contains_from_get w.exprs b y at) c

  -- an expression stands in one other at most
  pub one_parent : (a b : ℕ) (x y : Expr) (e : ℕ) → IsAt w.exprs a x → IsAt w.exprs b y → Contains (operands x.kind) e
      → Contains (operands y.kind) e → a ≡ b
  one_parent a b x y e ax by cx cy =
      one_part (λ (z : Expr). operands z.kind) w.exprs operands_apart a b x y e ax by cx cy

  pub body_root : (k : ℕ) (f : Function) → IsAt (functions w) k f → IsRoot w.exprs f.body
  body_root k f here b y at c = distinct_front bodies (within ++ guards) all_apart f.body (in_bodies k f here)
      (contains_left within guards f.body (in_operands b y f.body at c))

  pub guard_root : (t : ℕ) → Contains guards t → IsRoot w.exprs t
  guard_root t here b y at c = distinct_front within guards (distinct_end bodies (within ++ guards) all_apart) t
      (in_operands b y t at c) here

  -- a body is that of one function
  one_function : (k l : ℕ) (f g : Function) → IsAt (functions w) k f → IsAt (functions w) l g → f.body ≡ g.body → k ≡ l
  one_function k l f g kf lg same =
      one_part (λ (h : Function). h.body ∷ []) (functions w)
      (ap is_distinct (singles (functions w) ∙ sym (all_bodies w.defs)) ∙ distinct_begin bodies (within ++ guards) all_apart)
      k l f g f.body kf lg (contains_one f.body) (subst (Contains (g.body ∷ [])) (sym same) (contains_one g.body))
    where
      singles : (fs : List Function) → flat_map (λ (h : Function). h.body ∷ []) fs ≡ map (λ (h : Function). h.body) fs
      singles [] = refl
      singles (h ∷ hs) = ap (λ ys. h.body ∷ ys) (singles hs)

  pub one_body : (k l : ℕ) (f g : Function) (e : ℕ) → InBody w k f e → InBody w l g e → k ≡ l
  one_body k l f g e (kf, under) (lg, too) =
      one_function k l f g kf lg
      (one_root w.exprs (sound w).behind operands_apart e f.body g.body (body_root k f kf) (body_root l g lg) under too)

  -- guards and values stand in no body
  pub in_no_body : (t : ℕ) → Contains guards t → (k : ℕ) (f : Function) (e : ℕ) → Under w.exprs t e → ¬ InBody w k f e
  in_no_body t here k f e under (kf, too) =
      let same = one_root w.exprs (sound w).behind operands_apart e t f.body (guard_root t here) (body_root k f kf) under too in
      distinct_front bodies (within ++ guards) all_apart f.body (in_bodies k f kf)
      (contains_right within guards f.body (subst (Contains guards) same here))

  pub is_guard : (t : ℕ) → Contains (tops w) t → Contains guards t
  is_guard t c =
      let test = (contains_from_filter (λ e. list_any (λ v. v == e) guards) (range_with_len 0 (length w.exprs)) t c).1 in
      let (k, v, at, same) = any_found (λ u. u == t) guards test in
      subst (Contains guards) (eqb-true v t same) (contains_from_get guards k v at)
