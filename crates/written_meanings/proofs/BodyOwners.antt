-- Owners of bodies, and of what stands in an expression that has one.
use Rattle.std.proofs.Common.{◌≡◌, ◌∙◌, ◌⊎◌, inl, inr, ℕ, ◌<◌, ◌≤◌, ◌+◌, List, [], ◌∷◌, ◌++◌, Bool, true, false, refl}
use Rattle.std.proofs.Common.{sym, ap}
use Rattle.std.proofs.Common.{subst, arith, length, map, Option, Some, None, get_or, take}
use Rattle.std.specs.Prelude.{slice_get, slice_set, Contains, ◌==◌}
use Rattle.std.specs.List.{list_any}
use Rattle.std.proofs.lemmas.Bool.{eq-eqb, eqb-true}
use Rattle.std.proofs.lemmas.Option.{same_Some}
use Rattle.std.proofs.lemmas.Option.{get_or_from_slice_get}
use Rattle.std.proofs.lemmas.List.{length-set, length-map, take_more}
use Rattle.std.proofs.lemmas.List.Elements.{Contains-append_left, Contains-append_right, Contains-append_cases}
use Rattle.mp_base.specs.Entries.{IsAt}
use Rattle.mp_base.proofs.Contents.{holds_of_contained, any_contained, is_only_one, contains_one}
use Rattle.mp_base.proofs.Induction.{by_test}
use Rattle.mp_base.proofs.Entries.{within, one_entry, contains_from_get, any_found, get_set_same, get_set_other}
use Rattle.mp_base.proofs.Entries.{some_entry, map_get}
use Rattle.mp_written.specs.declared.program.Expr.{Expr}
use Rattle.mp_written.specs.declared.program.Program.{Program}
use Rattle.mp_written.specs.Functions.{Function, functions}
use Rattle.mp_written.specs.Tree.{operands}
use Rattle.mp_written.specs.Sound.{Under, itself}
use Rattle.mp_written.proofs.Roots.{above, under_also, body_root, one_parent}
use Rattle.mp_written.proofs.Soundness.{sound}
use Rattle.written_meanings.specs.declared.functions.Body.{Body}
use Rattle.written_meanings.specs.Meanings.{IsOwner, body_of}
use Rattle.written_meanings.specs.Owners.{StandsInFirst, AreOwners, IsPassedOn}

no : {b : Bool} → b ≡ false → b ≡ true → ⊥
no {b} f t = cc

up_to : (k n : ℕ) → k < n + 1 → (k < n) ⊎ (k ≡ n)
up_to k n lt = grind (arith, lt)

-- a number stands in a list or not
either : {A : Type 0} (xs : List ℕ) (e : ℕ) → (Contains xs e → A) → ((Contains xs e → ⊥) → A) → A
either xs e inside outside = by_test (list_any (λ x. x == e) xs)
    (λ t. let (k, x, at, same) = any_found (λ x. x == e) xs t in
    inside (subst (Contains xs) (eqb-true x e same) (contains_from_get xs k x at)))
    (λ f. outside (λ c. no f (any_contained (λ x. x == e) xs e c (eq-eqb e e refl))))

-- one expression more gets the owner
pub passed_more : (o : Option ℕ) (xs : List ℕ) (i x : ℕ) (old now : List (Option ℕ)) → i < length xs → x ≡ get_or xs i 0
    → x < length now → IsPassedOn o (take i xs) old now → IsPassedOn o (take (i + 1) xs) old (slice_set now x o)
passed_more o xs i x old now lt is small are = record {
  size = length-set now x o ∙ are.size;
  passed = λ e c. by_test (e == x)
      (λ t. (let same = eqb-true e x t in
      ap (slice_get (slice_set now x o)) same ∙ get_set_same now x o small))
      (λ f. get_set_other now x o e (λ s. no f (eq-eqb e x s))
      ∙ are.passed e (elim (Contains-append_cases (take i xs) (x ∷ []) e (subst (λ ys. Contains ys e) more c)) [
        | inl before ↦ before
        | inr one ↦ absurd (no f (eq-eqb e x (is_only_one x e one)))
      ]));
  kept = λ e none.
      get_set_other now x o e
      (λ s. none (subst (λ ys. Contains ys e) (sym more)
      (Contains-append_right (take i xs) (x ∷ []) e (subst (Contains (x ∷ [])) (sym s) (contains_one x)))))
      ∙ are.kept e (λ c. none (subst (λ ys. Contains ys e) (sym more) (Contains-append_left (take i xs) (x ∷ []) e c)));
}
  where
    more : take (i + 1) xs ≡ take i xs ++ x ∷ []
    more = take_more xs i 0 lt ∙ ap (λ y. take i xs ++ y ∷ []) (sym is)

-- the body at an index
pub body_at : (w : Program) (bodies : List Body) (n : ℕ) (b : Body) → bodies ≡ map body_of (functions w)
    → n < length bodies
    → (f : Function) × IsAt (functions w) n f × (get_or bodies n b ≡ body_of f)
body_at w bodies n b are lt =
    let size = ap length are ∙ length-map (functions w) body_of in
    let (f, at) = some_entry (functions w) n (omega (arith, lt, size)) in (
      f,
      at,
      get_or_from_slice_get bodies n (body_of f) b
          (ap (λ bs. slice_get bs n) are ∙ map_get body_of (functions w) n f at),
    )

-- operands are in range
pub operand_in : (w : Program) (e : ℕ) (y : Expr) (k d : ℕ) → IsAt w.exprs e y → k < length (operands y.kind)
    → get_or (operands y.kind) k d < length w.exprs
operand_in w e y k d at lt =
    let (v, is) = some_entry (operands y.kind) k lt in
    subst (λ z. z < length w.exprs) (sym (get_or_from_slice_get (operands y.kind) k v d is))
    (holds_of_contained (λ j. (e < j) × (j < length w.exprs)) (operands y.kind) v ((sound w).behind e y at)
    (contains_from_get (operands y.kind) k v is)).1

module _ (w : Program) where
  abbrev fs : List Function
  fs = functions w

  -- expression e is the body of this one of the first n functions, or of none
  abbrev pub IsBodyOf : ℕ → ℕ → Option ℕ → Type 0
  IsBodyOf n e (Some k) = (k < n) × ((f : Function) × IsAt fs k f × (f.body ≡ e))
  IsBodyOf n e None = (k : ℕ) (f : Function) → k < n → IsAt fs k f → f.body ≡ e → ⊥

  pub record AreBodies (n : ℕ) (owners : List (Option ℕ)) : Type 0 where
    pub size : length owners ≡ length w.exprs
    pub each : (e : ℕ) (o : Option ℕ) → IsAt owners e o → IsBodyOf n e o

  -- one body more
  still : (n e : ℕ) (o : Option ℕ) (g : Function) → IsAt fs n g → (g.body ≡ e → ⊥) → IsBodyOf n e o
      → IsBodyOf (n + 1) e o
  still n e None g at other none = λ k f lt here same. elim (up_to k n lt) [
    | inl less ↦ none k f less here same
    | inr equal ↦
        other (ap (λ (h : Function). h.body) (one_entry fs n g f at (subst (λ i. IsAt fs i f) equal here)) ∙ same)
  ]
  still n e (Some k) g at other (lt, some) = (omega (arith, lt), some)

  pub body_more : (n : ℕ) (g : Function) (old : List (Option ℕ)) → IsAt fs n g → AreBodies n old
      → AreBodies (n + 1) (slice_set old g.body (Some n))
  body_more n g old at are = record {
    size = length-set old g.body (Some n) ∙ are.size;
    each = λ e o here. by_test (g.body == e)
        (λ t. same e o (eqb-true g.body e t) here)
        (λ f. other e o (λ is. no f (eq-eqb g.body e is)) here);
  }
    where
      same : (e : ℕ) (o : Option ℕ) → g.body ≡ e → IsAt (slice_set old g.body (Some n)) e o → IsBodyOf (n + 1) e o
      same e o is here =
          let size = are.size in
          let fits = ((sound w).defs n g at).body in
          let set = get_set_same old g.body (Some n) (omega (arith, size, fits)) in
          subst (IsBodyOf (n + 1) e)
          (same_Some (Some n) o (sym set ∙ ap (slice_get (slice_set old g.body (Some n))) is ∙ here))
          (omega arith, (g, at, is))

      other : (e : ℕ) (o : Option ℕ) → (g.body ≡ e → ⊥) → IsAt (slice_set old g.body (Some n)) e o
          → IsBodyOf (n + 1) e o
      other e o is here = still n e o g at is
          (are.each e o (sym (get_set_other old g.body (Some n) e (λ s. is (sym s))) ∙ here))

  pub no_body_yet : (owners : List (Option ℕ)) → length owners ≡ length w.exprs
      → ((e : ℕ) (o : Option ℕ) → IsAt owners e o → o ≡ None) → AreBodies 0 owners
  no_body_yet owners size none = record {
    size = size;
    each = λ e o here. subst (IsBodyOf 0 e) (sym (none e o here)) (λ k f lt at same. omega (arith, lt));
  }

  -- an expression that stands in none
  root_owner : (n e : ℕ) (o : Option ℕ) → length fs ≤ n → IsBodyOf n e o → StandsInFirst w 0 e → IsOwner w e o
  root_owner n e None le none root = λ k f (at, under). elim (above w.exprs f.body e under) [
    | inl same ↦ none k f (let lt = within fs k at in omega (arith, lt, le)) at same
    | inr a ↦ (let lt = root a.parent a.expr a.at a.in_it in omega (arith, lt))
  ]
  root_owner n e (Some k) le (lt, (f, at, same)) root = (f, (at, subst (Under w.exprs f.body) same itself))

  pub bodies_own : (n : ℕ) (owners : List (Option ℕ)) → length fs ≤ n → AreBodies n owners → AreOwners w 0 owners
  bodies_own n owners le are = record {
    size = are.size;
    each = λ e o here root. root_owner n e o le (are.each e o here) root;
  }

  -- what stands in an expression has its owner
  inner_owner : (e d : ℕ) (y : Expr) (o : Option ℕ) → IsAt w.exprs e y → Contains (operands y.kind) d → IsOwner w e o
      → IsOwner w d o
  inner_owner e d y None at c none = λ k f (here, under). elim (above w.exprs f.body d under) [
    | inl same ↦ body_root w k f here e y at (subst (Contains (operands y.kind)) (sym same) c)
    | inr a ↦ none k f (
      here,
      subst (Under w.exprs f.body) (one_parent w a.parent e a.expr y d a.at at a.in_it c)
          a.under,
    )
  ]
  inner_owner e d y (Some k) at c (f, (here, under)) = (f, (here, under_also w.exprs f.body e d y under at c))

  -- owners once those in expression e have its own
  pub passed_on : (e : ℕ) (y : Expr) (o : Option ℕ) (old new : List (Option ℕ)) → IsAt w.exprs e y → IsAt old e o
      → AreOwners w e old → IsPassedOn o (operands y.kind) old new → AreOwners w (e + 1) new
  passed_on e y o old new at here are passed = record {
    size = passed.size ∙ are.size;
    each = λ d p there first. either (operands y.kind) d
        (λ c. subst (IsOwner w d) (same_Some o p (sym (passed.passed d c) ∙ there)) (inner_owner e d y o at c own))
        (λ c. are.each d p (sym (passed.kept d c) ∙ there) (λ b z is has. before d c first b z is has));
  }
    where
      own : IsOwner w e o
      own = are.each e o here (λ b z is has.
          (holds_of_contained (λ k. (b < k) × (k < length w.exprs)) (operands z.kind) e
          ((sound w).behind b z is) has).0)

      before : (d : ℕ) → (Contains (operands y.kind) d → ⊥) → StandsInFirst w (e + 1) d → (b : ℕ) (z : Expr)
          → IsAt w.exprs b z → Contains (operands z.kind) d → b < e
      before d c first b z is has = elim (up_to b e (first b z is has)) [
        | inl less ↦ less
        | inr equal ↦
            absurd (c (subst (λ (x : Expr). Contains (operands x.kind) d)
            (one_entry w.exprs e z y (subst (λ i. IsAt w.exprs i z) equal is) at) has))
      ]
