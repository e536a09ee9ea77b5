-- In the expansion each expression stands in one place: as an operand, or as a guard or value of a form.
use Rattle.std.proofs.Common.{◌≡◌, ◌∙◌, ℕ, zero, suc, ◌+◌, ◌<◌, ◌≤◌, List, [], ◌∷◌, ◌++◌, refl, sym, ap, subst, arith, length}
use Rattle.std.proofs.Common.{length-append, Bool, true, false}
use Rattle.std.specs.Prelude.{map, filter, nat_lt, ◌==◌, if◌then◌else◌, ◌||◌, ⊤}
use Rattle.std.specs.List.{flat_map, list_any, range_with_len, AllByRecursion}
use Rattle.std.proofs.lemmas.Bool.{eqb-true, eq-eqb, ltb-true, lt-ltb, cases_lt, and_parts, not-true}
use Rattle.mp_program.specs.Tree.{is_distinct}
use Rattle.std.proofs.Common.{inl, inr, not}
use Rattle.mp_base.proofs.Induction.{by_test}
use Rattle.mp_program.specs.declared.program.Branch.{Branch}
use Rattle.mp_program.specs.declared.program.FormKind.{FormKind}
use Rattle.mp_program.specs.declared.program.FormKind.TheVariants.{Set, Cond, Par, Go, Call, Return}
use Rattle.mp_program.specs.declared.program.Form.{Form}
use Rattle.mp_program.specs.Tree.{exprs_in}
use Rattle.mp_written.specs.declared.program.Expr.{Expr}
use Rattle.mp_written.specs.Expansion.{moved, moved_branch, moved_form, form_exprs}
use Rattle.expansion_laws.proofs.Laid.{occurs, begins}

-- ---- the guards and values of moved forms

same_map : {X Y : Type 0} (f g : X → Y) (xs : List X) → ((x : X) → f x ≡ g x) → map f xs ≡ map g xs
same_map f g [] same = refl
same_map f g (x ∷ xs) same = ap (λ y. y ∷ map f xs) (same x) ∙ ap (λ ys. g x ∷ ys) (same_map f g xs same)

pub guards_moved : (go : ℕ → ℕ) (bs : List Branch)
    → map (λ (b : Branch). b.guard) (map (moved_branch go) bs) ≡ map go (map (λ (b : Branch). b.guard) bs)
guards_moved go [] = refl
guards_moved go (b ∷ bs) = ap (λ ys. go b.guard ∷ ys) (guards_moved go bs)

in_moved : (go : ℕ → ℕ) (k : FormKind) → exprs_in (moved go k) ≡ map go (exprs_in k)
in_moved go (Set x at v) = refl
in_moved go (Cond bs) = guards_moved go bs
in_moved go (Par fs) = refl
in_moved go (Go l) = refl
in_moved go (Call l) = refl
in_moved go Return = refl

map_append : (f : ℕ → ℕ) (xs ys : List ℕ) → map f (xs ++ ys) ≡ map f xs ++ map f ys
map_append f [] ys = refl
map_append f (x ∷ xs) ys = ap (λ zs. f x ∷ zs) (map_append f xs ys)

pub stand_moved : (go : ℕ → ℕ) (forms : List Form)
    → flat_map (λ (y : Form). exprs_in y.kind) (map (moved_form go) forms) ≡ map go (form_exprs forms)
stand_moved go [] = refl
stand_moved go (y ∷ ys) =
    ap (λ zs. zs ++ flat_map (λ (z : Form). exprs_in z.kind) (map (moved_form go) ys)) (in_moved go y.kind)
    ∙ ap (λ zs. map go (exprs_in y.kind) ++ zs) (stand_moved go ys)
    ∙ sym (map_append go (exprs_in y.kind) (form_exprs ys))

-- ---- what stands in forms, in ascending order

abbrev pub is_in : List ℕ → ℕ → Bool
is_in vs e = list_any (λ v. v == e) vs

-- how often f gives n on a list
abbrev pub hits : ℕ → (ℕ → ℕ) → List ℕ → ℕ
hits n f xs = occurs n (map f xs)

one_hit : (n : ℕ) (f : ℕ → ℕ) (x : ℕ) → ℕ
one_hit n f x = if f x == n then 1 else 0

-- a number that doesn't stand in the others adds itself once, where it is in range
abbrev picked : List ℕ → ℕ → ℕ → List ℕ
picked vs a k = filter (is_in vs) (range_with_len a k)

filter_yes : (t : ℕ → Bool) (x : ℕ) (xs : List ℕ) → t x ≡ true → filter t (x ∷ xs) ≡ x ∷ filter t xs
filter_yes t x xs h = ap (λ b. if b then x ∷ filter t xs else filter t xs) h

filter_no : (t : ℕ → Bool) (x : ℕ) (xs : List ℕ) → t x ≡ false → filter t (x ∷ xs) ≡ filter t xs
filter_no t x xs h = ap (λ b. if b then x ∷ filter t xs else filter t xs) h

skip : (v : ℕ) (vs : List ℕ) (a k : ℕ) → v < a → picked (v ∷ vs) a k ≡ picked vs a k
skip v vs a zero lt = refl
skip v vs a (suc k) lt =
    let rest = skip v vs (a + 1) k (omega (arith, lt)) in
    by_test (v == a) (λ same. (let e = eqb-true v a same in absurd (omega (arith, e, lt))))
    (λ other. (let t : (v == a || is_in vs a) ≡ is_in vs a = ap (λ b. b || is_in vs a) other in
    by_test (is_in vs a)
    (λ yes. filter_yes (is_in (v ∷ vs)) a (range_with_len (a + 1) k) (t ∙ yes) ∙ ap (λ ys. a ∷ ys) rest
    ∙ sym (filter_yes (is_in vs) a (range_with_len (a + 1) k) yes))
    (λ no. filter_no (is_in (v ∷ vs)) a (range_with_len (a + 1) k) (t ∙ no) ∙ rest
    ∙ sym (filter_no (is_in vs) a (range_with_len (a + 1) k) no))))

above_or_same : (a v : ℕ) → a ≤ v → (v == a) ≡ false → a + 1 ≤ v
above_or_same a v low other = elim (cases_lt a v) [
  | inl lt ↦ omega (arith, lt)
  | inr le ↦ (let e : v ≡ a = omega (arith, le, low) in
      let same = eq-eqb v a e in let bad : true ≡ false = sym same ∙ other in absurd (cc))
]

pick_here : (n : ℕ) (f : ℕ → ℕ) (v : ℕ) (vs : List ℕ) (a k : ℕ) → is_in vs v ≡ false → (v == a) ≡ true
    → hits n f (picked (v ∷ vs) a (suc k)) ≡ (if f v == n then 1 else 0) + hits n f (picked vs a (suc k))
pick_here n f v vs a k new same =
    let e = eqb-true v a same in
    let t : (v == a || is_in vs a) ≡ true = ap (λ b. b || is_in vs a) same in
    let none : is_in vs a ≡ false = subst (λ j. is_in vs j ≡ false) e new in
    let left : picked (v ∷ vs) a (suc k) ≡ a ∷ picked vs (a + 1) k =
    filter_yes (is_in (v ∷ vs)) a (range_with_len (a + 1) k) t
    ∙ ap (λ ys. a ∷ ys) (skip v vs (a + 1) k (omega (arith, e))) in
    let right : picked vs a (suc k) ≡ picked vs (a + 1) k = filter_no (is_in vs) a (range_with_len (a + 1) k) none in
    ap (λ ys. hits n f ys) left ∙ ap (λ j. (if f j == n then 1 else 0) + hits n f (picked vs (a + 1) k)) (sym e)
    ∙ ap (λ ys. (if f v == n then 1 else 0) + hits n f ys) (sym right)

pick_there : (n : ℕ) (f : ℕ → ℕ) (v : ℕ) (vs : List ℕ) (a k : ℕ) → (v == a) ≡ false
    → hits n f (picked (v ∷ vs) (a + 1) k) ≡ (if f v == n then 1 else 0) + hits n f (picked vs (a + 1) k)
    → hits n f (picked (v ∷ vs) a (suc k)) ≡ (if f v == n then 1 else 0) + hits n f (picked vs a (suc k))
pick_there n f v vs a k other rest =
    let t : (v == a || is_in vs a) ≡ is_in vs a = ap (λ b. b || is_in vs a) other in
    by_test (is_in vs a)
    (λ yes. (let left = ap (λ ys. hits n f ys) (filter_yes (is_in (v ∷ vs)) a (range_with_len (a + 1) k) (t ∙ yes)) in
    let right = ap (λ ys. hits n f ys) (filter_yes (is_in vs) a (range_with_len (a + 1) k) yes) in
    omega (arith, rest, left, right)))
    (λ no. (let left = ap (λ ys. hits n f ys) (filter_no (is_in (v ∷ vs)) a (range_with_len (a + 1) k) (t ∙ no)) in
    let right = ap (λ ys. hits n f ys) (filter_no (is_in vs) a (range_with_len (a + 1) k) no) in
    omega (arith, rest, left, right)))

pick_more : (n : ℕ) (f : ℕ → ℕ) (v : ℕ) (vs : List ℕ) (a k : ℕ) → a ≤ v → v < a + k → is_in vs v ≡ false
    → hits n f (picked (v ∷ vs) a k) ≡ (if f v == n then 1 else 0) + hits n f (picked vs a k)
pick_more n f v vs a zero low high new = absurd (omega (arith, low, high))
pick_more n f v vs a (suc k) low high new = by_test (v == a) (λ same. pick_here n f v vs a k new same)
    (λ other. (let above = above_or_same a v low other in
    pick_there n f v vs a k other (pick_more n f v vs (a + 1) k above (omega (arith, high)) new)))

none_picked : (a k : ℕ) → picked [] a k ≡ []
none_picked a zero = refl
none_picked a (suc k) = none_picked (a + 1) k

-- what stands in forms, and the same in ascending order, are as often n by f
pub same_hits : (n : ℕ) (f : ℕ → ℕ) (size : ℕ) (vs : List ℕ) → AllByRecursion (λ v. v < size) vs
    → is_distinct vs ≡ true → hits n f (picked vs 0 size) ≡ hits n f vs
same_hits n f size [] inside distinct = ap (λ ys. hits n f ys) (none_picked 0 size)
same_hits n f size (v ∷ vs) inside distinct =
    let two = and_parts (not (list_any (λ y. y == v) vs)) (is_distinct vs) distinct in
    let rest = same_hits n f size vs inside.1 two.1 in
    let less = inside.0 in
    let more = pick_more n f v vs 0 size (omega arith) (omega (arith, less)) (not-true _ two.0) in
    omega (arith, rest, more)

-- ---- where they begin

abbrev pub Rising : ℕ → List ℕ → Type 0
Rising low [] = ⊤
Rising low (x ∷ xs) = (low ≤ x) × Rising (suc x) xs

lower : (a b : ℕ) (xs : List ℕ) → a ≤ b → Rising b xs → Rising a xs
lower a b [] le h = tt
lower a b (x ∷ xs) le h = let l = h.0 in (omega (arith, l, le), h.1)

pub rising_range : (t : ℕ → Bool) (a k : ℕ) → Rising a (filter t (range_with_len a k))
rising_range t a zero = tt
rising_range t a (suc k) =
    let rest = rising_range t (a + 1) k in
    let next : a + 1 ≡ suc a = omega arith in
    by_test (t a)
    (λ yes. subst (Rising a) (sym (filter_yes t a (range_with_len (a + 1) k) yes))
    (omega arith, subst (λ j. Rising j (filter t (range_with_len (a + 1) k))) next rest))
    (λ no. subst (Rising a) (sym (filter_no t a (range_with_len (a + 1) k) no))
    (lower a (a + 1) (filter t (range_with_len (a + 1) k)) (omega arith) rest))

abbrev pub below : List ℕ → ℕ → List ℕ
below ts v = filter (λ e. nat_lt e v) ts

none_below : (v low : ℕ) (ts : List ℕ) → v ≤ low → Rising low ts → below ts v ≡ []
none_below v low [] le h = refl
none_below v low (t ∷ ts) le h =
    let l = h.0 in
    by_test (nat_lt t v) (λ yes. (let lt = ltb-true t v yes in absurd (omega (arith, lt, le, l))))
    (λ no. filter_no (λ e. nat_lt e v) t ts no ∙ none_below v (suc t) ts (omega (arith, le, l)) h.1)

same_on : (f g : ℕ → ℕ) (low : ℕ) (ts : List ℕ) → Rising low ts → ((v : ℕ) → low ≤ v → f v ≡ g v) → map f ts ≡ map g ts
same_on f g low [] h same = refl
same_on f g low (t ∷ ts) h same =
    let l = h.0 in
    ap (λ y. y ∷ map f ts) (same t l)
    ∙ ap (λ ys. g t ∷ ys) (same_on f g (suc t) ts h.1 (λ v le. same v (omega (arith, le, l))))

pub begins_at : (p : ℕ → List Expr) (at low : ℕ) (ts : List ℕ) → Rising low ts
    → begins at (map p ts) ≡ map (λ v. at + length (flat_map p (below ts v))) ts
begins_at p at low [] h = refl
begins_at p at low (t ∷ ts) h =
    let first : at ≡ at + length (flat_map p (below (t ∷ ts) t)) =
    (let e : at ≡ at + 0 = omega arith in
    e ∙ ap (λ ys. at + length (flat_map p ys)) (sym (none_below t t (t ∷ ts) (omega arith) (omega arith, h.1)))) in
    let rest = begins_at p (at + length (p t)) (suc t) ts h.1 in
    let step = same_on (λ v. at + length (p t) + length (flat_map p (below ts v)))
    (λ v. at + length (flat_map p (below (t ∷ ts) v))) (suc t) ts h.1 (λ v le. one_more v le) in
    ap (λ y. y ∷ begins (at + length (p t)) (map p ts)) first
    ∙ ap (λ ys. (at + length (flat_map p (below (t ∷ ts) t))) ∷ ys) (rest ∙ step)
  where
    one_more : (v : ℕ) → suc t ≤ v
        → at + length (p t) + length (flat_map p (below ts v)) ≡ at + length (flat_map p (below (t ∷ ts) v))
    one_more v le =
        let yes : nat_lt t v ≡ true = lt-ltb t v (omega (arith, le)) in
        let front = ap (λ ys. length (flat_map p ys)) (filter_yes (λ e. nat_lt e v) t ts yes) in
        let split = length-append (p t) (flat_map p (below ts v)) in
        omega (arith, front, split)
