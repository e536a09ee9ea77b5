-- What a program's type says of its operands, guards and values.
use Rattle.std.proofs.Common.{◌≡◌, ℕ, suc, ◌<◌, List, [], ◌∷◌, ◌++◌, true, length, map}
use Rattle.std.specs.Prelude.{◌&&◌, ◌==◌, not, nat_lt}
use Rattle.std.specs.List.{list_all, list_any, flat_map, AllByRecursion}
use Rattle.std.proofs.lemmas.Bool.{and_parts, ltb-true}
use Rattle.mp_program.specs.Fits.{is_symbol, all_behind, form_fits, forms_fit}
use Rattle.mp_program.specs.Tree.{exprs_in, is_distinct}
use Rattle.mp_program.specs.declared.program.Branch.{Branch}
use Rattle.mp_program.specs.declared.program.FormKind.{FormKind}
use Rattle.mp_program.specs.declared.program.FormKind.TheVariants.{Set, Cond, Par, Go, Call, Return}
use Rattle.mp_program.specs.declared.program.Form.{Form}
use Rattle.mp_written.specs.declared.program.Def.{Def}
use Rattle.mp_written.specs.declared.program.Expr.{Expr}
use Rattle.mp_written.specs.declared.program.Program.{Program}
use Rattle.mp_written.specs.Tree.{operands, body_in}
use Rattle.mp_written.specs.Sound.{AreBehind}
use Rattle.mp_written.specs.Expansion.{form_exprs}
use Rattle.mp_written.proofs.Soundness.{sound, fit}
use Rattle.mp_written.proofs.Trees.{tree_fit}

pub behind : (w : Program) → AreBehind w.exprs
behind w = (sound w).behind

-- ---- guards and values are expressions

abbrev AreBelow : ℕ → List ℕ → Type 0
AreBelow n vs = AllByRecursion (λ v. v < n) vs

both_below : (n : ℕ) (us vs : List ℕ) → AreBelow n us → AreBelow n vs → AreBelow n (us ++ vs)
both_below n [] vs h k = k
both_below n (u ∷ us) vs h k = (h.0, both_below n us vs h.1 k)

guards_below : (n i m : ℕ) (bs : List Branch)
    → list_all (λ (b : Branch). nat_lt b.guard n && all_behind i m b.body) bs ≡ true
    → AreBelow n (map (λ (b : Branch). b.guard) bs)
guards_below n i m [] h = tt
guards_below n i m (b ∷ bs) h =
    let two = and_parts (nat_lt b.guard n && all_behind i m b.body)
    (list_all (λ (c : Branch). nat_lt c.guard n && all_behind i m c.body) bs) h in
    (ltb-true b.guard n (and_parts (nat_lt b.guard n) (all_behind i m b.body) two.0).0, guards_below n i m bs two.1)

kind_below : (n m i : ℕ) (k : FormKind) → form_fits n m i k ≡ true → AreBelow n (exprs_in k)
kind_below n m i (Set x at v) h = (ltb-true v n (and_parts (is_symbol x) (nat_lt v n) h).1, tt)
kind_below n m i (Cond bs) h = guards_below n i m bs h
kind_below n m i (Par fs) h = tt
kind_below n m i (Go l) h = tt
kind_below n m i (Call l) h = tt
kind_below n m i Return h = tt

forms_below : (n m i : ℕ) (ys : List Form) → forms_fit n m i ys ≡ true → AreBelow n (form_exprs ys)
forms_below n m i [] h = tt
forms_below n m i (y ∷ ys) h =
    let two = and_parts (form_fits n m i y.kind) (forms_fit n m (suc i) ys) h in
    both_below n (exprs_in y.kind) (form_exprs ys) (kind_below n m i y.kind two.0) (forms_below n m (suc i) ys two.1)

pub inside : (w : Program) → AllByRecursion (λ v. v < length w.exprs) (form_exprs w.forms)
inside w = forms_below (length w.exprs) (length w.forms) 0 w.forms (fit w).forms

-- ---- each stands in one place

distinct_end : (xs ys : List ℕ) → is_distinct (xs ++ ys) ≡ true → is_distinct ys ≡ true
distinct_end [] ys h = h
distinct_end (x ∷ xs) ys h =
    distinct_end xs ys (and_parts (not (list_any (λ y. y == x) (xs ++ ys))) (is_distinct (xs ++ ys)) h).1

pub distinct : (w : Program) → is_distinct (form_exprs w.forms) ≡ true
distinct w =
    let bodies = flat_map (λ (d : Def). body_in d.what) w.defs in
    let places = flat_map (λ (x : Expr). operands x.kind) w.exprs in
    distinct_end places (form_exprs w.forms) (distinct_end bodies (places ++ form_exprs w.forms) (tree_fit w).exprs)
