-- A made program weighs less than it may.
use Rattle.std.proofs.Common.{◌≡◌, ℕ, suc, ◌+◌, ◌*◌, ◌≤◌, List, [], ◌∷◌, Bool, true, false, cond, refl, sym, ◌∙◌, ap}
use Rattle.std.proofs.Common.{subst, length, map, arith, zero-mul, mul-suc, rules}
use Rattle.std.proofs.lemmas.List.{length-map}
use Rattle.std.specs.Prelude.{count_by, nat_le}
use Rattle.std.specs.List.{list_all, sum_by}
use Rattle.std.proofs.lemmas.Bool.{and_parts, leb-true}
use Rattle.std.proofs.lemmas.List.Recursion.{is_sum_by}
use Rattle.mp_base.specs.declared.refusal.Place.{Place}
use Rattle.mp_program.specs.declared.program.Def.{Def}
use Rattle.mp_program.specs.declared.program.Expr.{Expr}
use Rattle.mp_program.specs.declared.program.Form.{Form}
use Rattle.mp_program.specs.declared.program.Program.{Program}
use Rattle.mp_program.specs.Names.{is_same}
use Rattle.mp_program.specs.Weight.{is_set_of, sets_of, def_weight, op_weight, names_constant, expr_weight, form_weight}
use Rattle.mp_program.specs.Weight.{process_weight, weight}
use Rattle.made_program.specs.Made.{Row, IsMade, targets, defs_of, exprs_from, forms_from}
use Rattle.made_program.proofs.Tests.{drawn_cases, all_exprs, all_forms}

-- ---- sums

abbrev total : {X : Type 0} → (X → ℕ) → List X → ℕ
total f [] = 0
total f (x ∷ xs) = f x + total f xs

total_is : {X : Type 0} (f : X → ℕ) (xs : List X) → total f xs ≡ sum_by f xs
total_is f xs = is_sum_by (total f) f refl (λ x xs. refl) xs

total_same : {X : Type 0} (f g : X → ℕ) (xs : List X) → ((x : X) → f x ≡ g x) → total f xs ≡ total g xs
total_same f g [] same = refl
total_same f g (x ∷ xs) same = ap (λ n. n + total f xs) (same x) ∙ ap (λ n. g x + n) (total_same f g xs same)

total_within : {X : Type 0} (f : X → ℕ) (c : ℕ) (xs : List X) → list_all (λ x. nat_le (f x) c) xs ≡ true
    → total f xs ≤ c * length xs
total_within f c [] all = search rules
total_within f c (x ∷ xs) all =
    let p = and_parts (nat_le (f x) c) (list_all (λ x. nat_le (f x) c) xs) all in
    let here : f x ≤ c = leb-true (f x) c p.0 in
    let rest : total f xs ≤ c * length xs = total_within f c xs p.1 in
    let e : c * suc (length xs) ≡ c * length xs + c = mul-suc c (length xs) in
    omega (arith, here, rest, e)

within : {X : Type 0} (f : X → ℕ) (c : ℕ) (xs : List X) → list_all (λ x. nat_le (f x) c) xs ≡ true
    → sum_by f xs ≤ c * length xs
within f c xs all = subst (λ n. n ≤ c * length xs) (total_is f xs) (total_within f c xs all)

-- ---- parts of a made program

pub length-exprs : (at : ℕ → Place) (e node : ℕ) (rows : List Row)
    → length (exprs_from at e node rows) ≡ 3 * length rows
length-exprs at e node [] = refl
length-exprs at e node (row ∷ rows) =
    let rest = length-exprs at (e + 3) (node + 9) rows in
    omega (arith, rest)

pub row_count : (p : Program) (m : IsMade p) → length m.rows ≡ 13
row_count p m = sym (length-map m.rows (λ (row : Row). row.target)) ∙ ap length m.targets_are

pub expr_count : (p : Program) (m : IsMade p) → length p.exprs ≡ 39
expr_count p m = ap length m.exprs ∙ length-exprs m.at 0 144 m.rows ∙ ap (λ n. 3 * n) (row_count p m)

named_light : (b : Bool) → nat_le (cond b 1 0) 14 ≡ true
named_light true = refl
named_light false = refl

exprs_light : (p : Program) (m : IsMade p) → sum_by (λ (x : Expr). expr_weight p x.kind) p.exprs ≤ 546
exprs_light p m =
    let all = all_exprs p m (λ k. nat_le (expr_weight p k) 14)
    (λ op args h. drawn_cases (λ o. nat_le (op_weight o (length args)) 14 ≡ true) refl refl refl refl refl op h)
    (λ x h. named_light (names_constant p.defs x)) in
    let le = within (λ (x : Expr). expr_weight p x.kind) 14 p.exprs all in
    subst (λ n. sum_by (λ (x : Expr). expr_weight p x.kind) p.exprs ≤ 14 * n) (expr_count p m) le

forms_light : (p : Program) (m : IsMade p) → sum_by (λ (y : Form). form_weight y.kind) p.forms ≤ 0
forms_light p m =
    let all = all_forms p m (λ k. nat_le (form_weight k) 0) (λ x. true) (λ x place v h. refl) refl in
    subst (λ n. sum_by (λ (y : Form). form_weight y.kind) p.forms ≤ n) (zero-mul (length p.forms))
    (within (λ (y : Form). form_weight y.kind) 0 p.forms all)

-- how many of these are the same as a name
abbrev occurrences : List (List ℕ) → List ℕ → ℕ
occurrences [] x = 0
occurrences (t ∷ ts) x = cond (is_same t x) 1 0 + occurrences ts x

sets_from : (at : ℕ → Place) (e node : ℕ) (rows : List Row) (x : List ℕ)
    → total (λ (y : Form). cond (is_set_of x y.kind) 1 0) (forms_from at e node rows)
    ≡ occurrences (map (λ (row : Row). row.target) rows) x
sets_from at e node [] x = refl
sets_from at e node (row ∷ rows) x = ap (λ n. cond (is_same row.target x) 1 0 + n)
    (sets_from at (e + 3) (node + 9) rows x)

sets_are : (p : Program) (m : IsMade p) (x : List ℕ) → sets_of p x ≡ occurrences targets x
sets_are p m x = ap (count_by (λ (y : Form). is_set_of x y.kind)) m.forms
    ∙ sym (total_is (λ (y : Form). cond (is_set_of x y.kind) 1 0) (forms_from m.at 0 144 m.rows))
    ∙ sets_from m.at 0 144 m.rows x ∙ ap (λ ts. occurrences ts x) m.targets_are

defs_light : (p : Program) (m : IsMade p) → sum_by (λ (d : Def). def_weight d.what (sets_of p d.name)) p.defs ≡ 182
defs_light p m = ap (sum_by (λ (d : Def). def_weight d.what (sets_of p d.name))) m.defs
    ∙ sym (total_is (λ (d : Def). def_weight d.what (sets_of p d.name)) (defs_of m.at))
    ∙ total_same (λ (d : Def). def_weight d.what (sets_of p d.name))
    (λ (d : Def). def_weight d.what (occurrences targets d.name)) (defs_of m.at)
    (λ d. ap (def_weight d.what) (sets_are p m d.name))

pub is_light : (p : Program) (m : IsMade p) → weight p ≤ 728
is_light p m =
    let d = defs_light p m in
    let e = exprs_light p m in
    let f = forms_light p m in
    let q : sum_by (process_weight p) p.processes ≡ 0 = ap (sum_by (process_weight p)) m.processes in
    omega (arith, d, e, f, q)
