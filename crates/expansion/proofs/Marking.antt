-- Flags at the indices of guards and values.
use Rattle.std.proofs.Common.{◌≡◌, ◌∙◌, ℕ, zero, suc, ◌+◌, ◌<◌, List, [], ◌∷◌, ◌++◌, Bool, true, false, refl, sym, ap}
use Rattle.std.proofs.Common.{subst}
use Rattle.std.proofs.Common.{arith, length, map, take}
use Rattle.std.specs.Prelude.{slice_index_or, slice_set, replicate, ◌||◌, ◌==◌}
use Rattle.std.specs.List.{AllByRecursion}
use Rattle.std.proofs.lemmas.Bool.{eq-eqb, eqb-true}
use Rattle.std.proofs.lemmas.Grind.{flat_map-append}
use Rattle.std.proofs.lemmas.Option.{none-some, same_Some}
use Rattle.std.proofs.lemmas.List.{map-append, take_more}
use Rattle.mp_base.specs.Entries.{IsAt}
use Rattle.mp_base.proofs.Entries.{read_of}
use Rattle.mp_base.proofs.Induction.{by_test}
use Rattle.mp_program.specs.Tree.{exprs_in}
use Rattle.mp_program.specs.declared.program.Branch.{Branch}
use Rattle.mp_program.specs.declared.program.Form.{Form}
use Rattle.mp_written.specs.Expansion.{form_exprs}
use Rattle.expansion.proofs.Fills.{append_end}
use Rattle.expansion.specs.Walking.{AreFlags, Marks, is_in}

or_assoc : (a b c : Bool) → ((a || b) || c) ≡ (a || (b || c))
or_assoc true b c = refl
or_assoc false b c = refl

or_false : (b : Bool) → (b || false) ≡ b
or_false true = refl
or_false false = refl

or_true : (b : Bool) → (b || true) ≡ true
or_true true = refl
or_true false = refl

in_append : (vs us : List ℕ) (e : ℕ) → is_in (vs ++ us) e ≡ (is_in vs e || is_in us e)
in_append [] us e = refl
in_append (v ∷ vs) us e =
    ap (λ b. v == e || b) (in_append vs us e) ∙ sym (or_assoc (v == e) (is_in vs e) (is_in us e))

pub marks_none : (flags : List Bool) → Marks [] flags flags
marks_none flags = record { size = refl; each = λ e lt. sym (or_false (slice_index_or flags e false)) }

set_size : (flags : List Bool) (v : ℕ) → length (slice_set flags v true) ≡ length flags
set_size [] v = refl
set_size (b ∷ flags) zero = refl
set_size (b ∷ flags) (suc v) = let rest = set_size flags v in omega (arith, rest)

set_same : (flags : List Bool) (v : ℕ) → v < length flags → slice_index_or (slice_set flags v true) v false ≡ true
set_same [] v lt = absurd (omega (arith, lt))
set_same (b ∷ flags) zero lt = refl
set_same (b ∷ flags) (suc v) lt = set_same flags v (omega (arith, lt))

set_other : (flags : List Bool) (v e : ℕ) → (v ≡ e → ⊥)
    → slice_index_or (slice_set flags v true) e false ≡ slice_index_or flags e false
set_other [] v e other = refl
set_other (b ∷ flags) zero zero other = absurd (other refl)
set_other (b ∷ flags) zero (suc e) other = refl
set_other (b ∷ flags) (suc v) zero other = refl
set_other (b ∷ flags) (suc v) (suc e) other = set_other flags v e (λ same. other (ap suc same))

set_at : (flags : List Bool) (v e : ℕ) → e < length flags
    → slice_index_or (slice_set flags v true) e false ≡ (slice_index_or flags e false || (v == e))
set_at flags v e lt = by_test (v == e)
    (λ yes. (let same = eqb-true v e yes in
    ap (λ i. slice_index_or (slice_set flags i true) e false) same ∙ set_same flags e lt
    ∙ sym (ap (λ b. slice_index_or flags e false || b) yes ∙ or_true (slice_index_or flags e false))))
    (λ other. set_other flags v e (λ same. (let yes = eq-eqb v e same in
    let bad : true ≡ false = sym yes ∙ other in cc))
    ∙ sym (ap (λ b. slice_index_or flags e false || b) other ∙ or_false (slice_index_or flags e false)))

pub marks_one : (flags : List Bool) (v : ℕ) → Marks (v ∷ []) flags (slice_set flags v true)
marks_one flags v = record {
  size = set_size flags v;
  each = λ e lt.
      (set_at flags v e lt ∙ ap (λ b. slice_index_or flags e false || b) (sym (or_false (v == e))));
}

pub marks_more : (vs us : List ℕ) (old mid new : List Bool) → Marks vs old mid → Marks us mid new → Marks
    (vs ++ us) old new
marks_more vs us old mid new before now = record {
  size = now.size ∙ before.size;
  each = λ e lt.
      (let size = before.size in
      now.each e (omega (arith, lt, size)) ∙ ap (λ b. b || is_in us e) (before.each e lt)
      ∙ or_assoc (slice_index_or old e false) (is_in vs e) (is_in us e)
      ∙ ap (λ b. slice_index_or old e false || b) (sym (in_append vs us e)));
}

-- ---- flags of all expressions

none_set : (n e : ℕ) → slice_index_or (replicate n false) e false ≡ false
none_set zero e = refl
none_set (suc n) zero = refl
none_set (suc n) (suc e) = none_set n e

none_size : (n : ℕ) → length (replicate n false) ≡ n
none_size zero = refl
none_size (suc n) = let rest = none_size n in omega (arith, rest)

pub flags_none : (n : ℕ) → AreFlags n [] (replicate n false)
flags_none n = record { size = none_size n; each = λ e lt. none_set n e }

pub flags_more : (n : ℕ) (vs us : List ℕ) (old new : List Bool) → AreFlags n vs old → Marks us old new
    → AreFlags n (vs ++ us) new
flags_more n vs us old new are marks = record {
  size = marks.size ∙ are.size;
  each = λ e lt.
      (let size = are.size in
      marks.each e (omega (arith, lt, size)) ∙ ap (λ b. b || is_in us e) (are.each e lt) ∙ sym (in_append vs us e));
}

-- ---- forms

form_exprs_append : (xs ys : List Form) → form_exprs (xs ++ ys) ≡ form_exprs xs ++ form_exprs ys
form_exprs_append xs ys = flat_map-append (λ (y : Form). exprs_in y.kind) xs ys

pub form_exprs_more : (xs : List Form) (y : Form) → form_exprs (xs ++ y ∷ []) ≡ form_exprs xs ++ exprs_in y.kind
form_exprs_more xs y = form_exprs_append xs (y ∷ []) ∙ ap (λ ys. form_exprs xs ++ ys) (append_end (exprs_in y.kind))

-- the guards and values of a form are in range where those of all are
pub one_form : (n : ℕ) (ys : List Form) (i : ℕ) (y : Form) → AllByRecursion (λ v. v < n) (form_exprs ys) → IsAt ys i y
    → AllByRecursion (λ v. v < n) (exprs_in y.kind)
one_form n [] i y all at = absurd (none-some y at)
one_form n (z ∷ zs) zero y all at =
    subst (λ (u : Form). AllByRecursion (λ v. v < n) (exprs_in u.kind)) (same_Some z y at)
    (all_front (exprs_in z.kind) (form_exprs zs) all)
  where
    all_front : (us vs : List ℕ) → AllByRecursion (λ v. v < n) (us ++ vs) → AllByRecursion (λ v. v < n) us
    all_front [] vs h = tt
    all_front (u ∷ us) vs h = (h.0, all_front us vs h.1)
one_form n (z ∷ zs) (suc i) y all at = one_form n zs i y (all_rest (exprs_in z.kind) (form_exprs zs) all) at
  where
    all_rest : (us vs : List ℕ) → AllByRecursion (λ v. v < n) (us ++ vs) → AllByRecursion (λ v. v < n) vs
    all_rest [] vs h = h
    all_rest (u ∷ us) vs h = all_rest us vs h.1

-- ---- one of a list more

taken : {X : Type 0} (xs : List X) (i : ℕ) (x : X) → IsAt xs i x → take (i + 1) xs ≡ take i xs ++ x ∷ []
taken xs i x at =
    let (lt, is) = read_of xs i x at in take_more xs i x lt ∙ ap (λ y. take i xs ++ y ∷ []) (sym is)

pub guard_inside : (n : ℕ) (bs : List Branch) (i : ℕ) (b : Branch)
    → AllByRecursion (λ v. v < n) (map (λ (c : Branch). c.guard) bs) → IsAt bs i b → b.guard < n
guard_inside n [] i b all at = absurd (none-some b at)
guard_inside n (c ∷ bs) zero b all at = subst (λ (d : Branch). d.guard < n) (same_Some c b at) all.0
guard_inside n (c ∷ bs) (suc i) b all at = guard_inside n bs i b all.1 at

pub guards_more : (bs : List Branch) (i : ℕ) (b : Branch) (old mid new : List Bool) → IsAt bs i b
    → Marks (map (λ (c : Branch). c.guard) (take i bs)) old mid → new ≡ slice_set mid b.guard true
    → Marks (map (λ (c : Branch). c.guard) (take (i + 1) bs)) old new
guards_more bs i b old mid new at marks is =
    let guard : Branch → ℕ = λ c. c.guard in
    let longer : map guard (take (i + 1) bs) ≡ map guard (take i bs) ++ b.guard ∷ [] =
    ap (map guard) (taken bs i b at) ∙ map-append guard (take i bs) (b ∷ []) in
    subst (λ vs. Marks vs old new) (sym longer)
    (marks_more (map guard (take i bs)) (b.guard ∷ []) old mid new marks
    (subst (Marks (b.guard ∷ []) mid) (sym is) (marks_one mid b.guard)))

pub forms_more : (n : ℕ) (ys : List Form) (i : ℕ) (y : Form) (old new : List Bool) → IsAt ys i y
    → AreFlags n (form_exprs (take i ys)) old → Marks (exprs_in y.kind) old new
    → AreFlags n (form_exprs (take (i + 1) ys)) new
forms_more n ys i y old new at are marks =
    let longer = ap form_exprs (taken ys i y at) ∙ form_exprs_more (take i ys) y in
    subst (λ vs. AreFlags n vs new) (sym longer) (flags_more n (form_exprs (take i ys))
    (exprs_in y.kind) old new are marks)
