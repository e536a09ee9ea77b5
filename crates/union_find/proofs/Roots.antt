-- The root of a place is the only map that keeps its value along the table and fixes what the table fixes.
use Rattle.std.proofs.Common.{max, min, zero-add, suc-add, ◌-◌, ◌≡◌, ℕ, ◌+◌, ◌<◌, ◌≤◌, inl, inr, List, get_or, set}
use Rattle.std.proofs.Common.{length, refl, sym, ◌∙◌, ap, subst, suc, zero, arith}
use Rattle.std.proofs.lemmas.Bool.{cases_eq}
use Rattle.std.proofs.lemmas.List.{get_or-set_same, get_or-set_other}
use Rattle.std.proofs.lemmas.Bool.Decides.{nat_tests}
use Rattle.union_find.specs.Roots.{IsBelow, climb, root, moved}

fixed_climb : (p : List ℕ) (i f : ℕ) → get_or p i 0 ≡ i → climb f p i ≡ i
fixed_climb p i zero h = refl
fixed_climb p i (suc f) h = subst (λ j. climb f p j ≡ i) (sym h) (fixed_climb p i f h)

-- enough steps lead to what the table fixes
climb_fixed : (p : List ℕ) → IsBelow p → (f i : ℕ) → i ≤ f → get_or p (climb f p i) 0 ≡ climb f p i
climb_fixed p b zero i h = let k = b i in omega arith
climb_fixed p b (suc f) i h = let k = b i in elim (cases_eq (get_or p i 0) i) [
  | inl e ↦ let w = fixed_climb p i (suc f) e in subst (λ j. get_or p j 0 ≡ j) (sym w) e
  | inr n ↦ climb_fixed p b f (get_or p i 0) (omega arith)
]

pub root_fixed : (p : List ℕ) → IsBelow p → (i : ℕ) → get_or p (root p i) 0 ≡ root p i
unfolding root
root_fixed p b i = climb_fixed p b i i (omega arith)

climb_climbs : (p : List ℕ) (R : ℕ → ℕ) → ((k : ℕ) → R (get_or p k 0) ≡ R k) → (f i : ℕ) → R (climb f p i) ≡ R i
climb_climbs p R h zero i = refl
climb_climbs p R h (suc f) i = climb_climbs p R h f (get_or p i 0) ∙ h i

-- the map is the root
pub only_root : (p : List ℕ) → IsBelow p → (R : ℕ → ℕ) → ((k : ℕ) → R (get_or p k 0) ≡ R k)
    → ((k : ℕ) → get_or p k 0 ≡ k → R k ≡ k) → (i : ℕ) → root p i ≡ R i
unfolding root
only_root p b R h fix i = sym (fix (climb i p i) (climb_fixed p b i i (omega arith))) ∙ climb_climbs p R h i i

climb_add : (p : List ℕ) (f g i : ℕ) → climb g p (climb f p i) ≡ climb (f + g) p i
climb_add p zero g i = rw zero-add refl
climb_add p (suc f) g i = climb_add p f g (get_or p i 0) ∙ ap (λ n. climb n p i) (sym (suc-add f g))

-- steps past the end change nothing
climb_more : (p : List ℕ) → IsBelow p → (f i : ℕ) → i ≤ f → climb f p i ≡ climb i p i
climb_more p b f i h =
    let e : i + (f - i) ≡ f = omega arith in
    subst (λ n. climb n p i ≡ climb i p i) e
    (sym (climb_add p i (f - i) i) ∙ fixed_climb p (climb i p i) (f - i) (climb_fixed p b i i (omega arith)))

pub root_along : (p : List ℕ) → IsBelow p → (i : ℕ) → root p (get_or p i 0) ≡ root p i
unfolding root
root_along p b i = let k = b i in sym (climb_more p b i (get_or p i 0) k) ∙ climb_more p b (suc i) i (omega arith)

climb_below : (p : List ℕ) → IsBelow p → (f i : ℕ) → climb f p i ≤ i
climb_below p b zero i = omega arith
climb_below p b (suc f) i = let k = b i in let w = climb_below p b f (get_or p i 0) in omega arith

pub root_below : (p : List ℕ) → IsBelow p → (i : ℕ) → root p i ≤ i
unfolding root
root_below p b i = climb_below p b i i

pub root_at : (p : List ℕ) (i : ℕ) → get_or p i 0 ≡ i → root p i ≡ i
unfolding root
root_at p i h = fixed_climb p i i h

-- a lower entry at one place keeps the table
pub set_below : (p : List ℕ) → IsBelow p → (i v : ℕ) → i < length p → v ≤ i → IsBelow (set p i v)
set_below p b i v h g k = elim (cases_eq k i) [
  | inl e ↦ rw e (rw (get_or-set_same p i v 0 h) g)
  | inr n ↦ rw (get_or-set_other p i k v 0 n) (b k)
]

-- a place that is moved up keeps all roots
pub root_halved : (p : List ℕ) → IsBelow p → (x : ℕ) → x < length p
    → (i : ℕ) → root (set p x (get_or p (get_or p x 0) 0)) i ≡ root p i
root_halved p b x h i =
    let v : ℕ = get_or p (get_or p x 0) 0 in
    let k = b x in let m = b (get_or p x 0) in
    only_root (set p x v) (set_below p b x v h (omega arith)) (root p)
    (λ j. elim (cases_eq j x) [
      | inl e ↦ rw e (rw (get_or-set_same p x v 0 h) (root_along p b (get_or p x 0) ∙ root_along p b x))
      | inr n ↦ rw (get_or-set_other p x j v 0 n) (root_along p b j)
    ])
    (λ j f. elim (cases_eq j x) [
      | inl e ↦ let w : v ≡ x = sym (get_or-set_same p x v 0 h) ∙ subst (λ n. get_or (set p x v) n 0 ≡ n) e f in
          let u : get_or p x 0 ≡ x = omega arith in
          rw e (root_at p x u)
      | inr n ↦ root_at p j (sym (get_or-set_other p x j v 0 n) ∙ f)
    ])
    i

pub moved_same : (a b : ℕ) → moved a b a ≡ b
moved_same a b = grind (arith, nat_tests)

pub moved_kept : (a b c : ℕ) → (c ≡ a → ⊥) → moved a b c ≡ c
moved_kept a b c n = grind (arith, nat_tests)

pub moved_self : (a b : ℕ) → moved a b b ≡ b
moved_self a b = grind (arith, nat_tests)

pub moved_none : (a c : ℕ) → moved a a c ≡ c
moved_none a c = grind (arith, nat_tests)

pub moved_pair : (r s : ℕ) → moved (max r s) (min r s) r ≡ moved (max r s) (min r s) s
moved_pair r s = grind (arith, nat_tests)

-- a root that is put below another takes all of its class along
pub root_linked : (p : List ℕ) → IsBelow p → (a b : ℕ) → a < length p → b < a → get_or p a 0 ≡ a → get_or p b 0 ≡ b
    → (i : ℕ) → root (set p a b) i ≡ moved a b (root p i)
root_linked p be a b h l fa fb i =
    let ra : root p a ≡ a = root_at p a fa in
    let rb : root p b ≡ b = root_at p b fb in
    only_root (set p a b) (set_below p be a b h (omega arith)) (λ k. moved a b (root p k))
    (λ j. elim (cases_eq j a) [
      | inl e ↦ rw e (rw (get_or-set_same p a b 0 h) (rw (ra, rb) (moved_self a b ∙ sym (moved_same a b))))
      | inr n ↦ rw (get_or-set_other p a j b 0 n) (ap (moved a b) (root_along p be j))
    ])
    (λ j f. elim (cases_eq j a) [
      | inl e ↦ let w : b ≡ a = sym (get_or-set_same p a b 0 h) ∙ subst (λ n. get_or (set p a b) n 0 ≡ n) e f in
          absurd (omega arith)
      | inr n ↦ let w : root p j ≡ j = root_at p j (sym (get_or-set_other p a j b 0 n) ∙ f) in
          rw w (moved_kept a b j n)
    ])
    i

-- two roots made one, and the table's other entries as before
pub root_joined : (old p : List ℕ) → IsBelow p → ((k : ℕ) → root p k ≡ root old k) → (a b : ℕ) → a < length p → b < a
    → get_or p a 0 ≡ a → get_or p b 0 ≡ b → (r s : ℕ) → max r s ≡ a → min r s ≡ b
    → (i : ℕ) → root (set p a b) i ≡ moved (max r s) (min r s) (root old i)
root_joined old p be same a b h l fa fb r s u v i = rw (u, v, ← same i) (root_linked p be a b h l fa fb i)
