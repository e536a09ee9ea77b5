-- The cost of what has no nets yet, as it falls.
use Rattle.std.proofs.Common.{◌≡◌, ℕ, zero, suc, ◌+◌, ◌≤◌, inl, inr, List, [], ◌∷◌, Option, Some, None, Bool, true}
use Rattle.std.proofs.Common.{false, length, refl, sym, ◌∙◌, ap, arith, cond, eqb}
use Rattle.std.specs.Prelude.{slice_get, slice_set}
use Rattle.std.specs.List.{sum_by, filter}
use Rattle.std.proofs.lemmas.Option.{none-some, same_Some, slice_get_within}
use Rattle.std.proofs.lemmas.List.Sums.{sum_by-cons}
use Rattle.mp_base.proofs.Entries.{get_set_same, get_set_other}
use Rattle.std.proofs.lemmas.Bool.{cases_eq}
use Rattle.rtl_form.specs.declared.rtl.Cell as cells
use Rattle.rtl_form.specs.declared.rtl.Transfer.{Transfer}
use Rattle.bit_gates.specs.declared.rails.Rails.{Rails}
use Rattle.bit_gates.specs.Cells.{transfers_to}
use Rattle.control_nor.specs.Progress.{driven_count, left_by, wait_of, waits}

module _ {X : Type 0} (f : X → ℕ) where
  -- one that gets nets costs nothing more
  pub left_some : (os : List (Option Rails)) (xs : List X) (k : ℕ) (x : X) (rails : Rails)
      → slice_get os k ≡ Some None
      → slice_get xs k ≡ Some x → f x + left_by f (slice_set os k (Some rails)) xs ≡ left_by f os xs
  left_some [] xs k x rails e h = absurd (none-some None e)
  left_some (o ∷ os) [] k x rails e h = absurd (none-some x h)
  left_some (None ∷ os) (y ∷ xs) zero x rails e h = ap (λ z. f z + left_by f os xs) (sym (same_Some y x h))
  left_some (Some q ∷ os) (y ∷ xs) zero x rails e h = absurd (none-some q (sym (same_Some (Some q) None e)))
  left_some (None ∷ os) (y ∷ xs) (suc k) x rails e h = let i = left_some os xs k x rails e h in omega (arith, i)
  left_some (Some q ∷ os) (y ∷ xs) (suc k) x rails e h = left_some os xs k x rails e h

  pub left_least : (os : List (Option Rails)) (xs : List X) (k : ℕ) (x : X) → slice_get os k ≡ Some None
      → slice_get xs k ≡ Some x → f x ≤ left_by f os xs
  left_least [] xs k x e h = absurd (none-some None e)
  left_least (o ∷ os) [] k x e h = absurd (none-some x h)
  left_least (None ∷ os) (y ∷ xs) zero x e h = let i = ap f (same_Some y x h) in omega (arith, i)
  left_least (Some q ∷ os) (y ∷ xs) zero x e h = absurd (none-some q (sym (same_Some (Some q) None e)))
  left_least (None ∷ os) (y ∷ xs) (suc k) x e h = let i = left_least os xs k x e h in omega (arith, i)
  left_least (Some q ∷ os) (y ∷ xs) (suc k) x e h = left_least os xs k x e h

-- to set what is there changes nothing
pub set_there : {X : Type 0} (xs : List X) (k : ℕ) (x : X) → slice_get xs k ≡ Some x → slice_set xs k x ≡ xs
set_there [] k x e = refl
set_there (y ∷ xs) zero x e = ap (λ z. z ∷ xs) (sym (same_Some y x e))
set_there (y ∷ xs) (suc k) x e = ap (λ zs. y ∷ zs) (set_there xs k x e)

-- ---- transfers

abbrev pub one_if : Bool → ℕ
one_if b = cond b 1 0

-- where f is g but for those that pass, the sums differ by how many pass
pub sum_split : {X : Type 0} (f g : X → ℕ) (p : X → Bool) → ((x : X) → f x ≡ g x + one_if (p x)) → (xs : List X)
    → sum_by f xs ≡ sum_by g xs + length (filter p xs)
sum_split f g p h [] = refl
sum_split f g p h (x ∷ xs) =
    let i = sum_split f g p h xs in
    let here = h x in
    let a = sum_by-cons f x xs in
    let c = sum_by-cons g x xs in
    let d : length (cond (p x) (x ∷ filter p xs) (filter p xs))
    ≡ one_if (p x) + length (filter p xs) = by_length (p x) in
    omega (arith, i, here, a, c, d)
  where
    by_length : (b : Bool) → length (cond b (x ∷ filter p xs) (filter p xs)) ≡ one_if b + length (filter p xs)
    by_length true = omega arith
    by_length false = omega arith

-- the transfers to a driven bit wait until it has nets
module _ (xs : List cells.Cell) (os : List (Option Rails)) (c : ℕ) (x : cells.Cell) (rails : Rails)
    (waiting : slice_get os c ≡ Some None) (is : slice_get xs c ≡ Some x) (driven : driven_count x ≡ 1) where
  one_wait : (t : Transfer) → waits xs os t ≡ waits xs (slice_set os c (Some rails)) t + one_if (eqb t.target c)
  one_wait t = elim (cases_eq t.target c) [ inl e ↦ here e | inr ne ↦ there ne ]
    where
      here : t.target ≡ c → waits xs os t ≡ waits xs (slice_set os c (Some rails)) t + one_if (eqb t.target c)
      here e =
          let test : one_if (eqb t.target c) ≡ 1 = ap one_if (Rattle.std.proofs.lemmas.Bool.eq-eqb t.target c e) in
          let was : waits xs os t ≡ 1 = ap (λ n. wait_of (slice_get os n) (slice_get xs n)) e
          ∙ (ap (λ o. wait_of o (slice_get xs c)) waiting ∙ (ap (λ o. wait_of (Some None) o) is ∙ driven)) in
          let now : waits xs (slice_set os c (Some rails)) t ≡ 0 =
          ap (λ n. wait_of (slice_get (slice_set os c (Some rails)) n) (slice_get xs n)) e
          ∙ (ap (λ o. wait_of o (slice_get xs c)) (get_set_same os c (Some rails)
          (slice_get_within os c None waiting))
          ∙ ap (λ o. wait_of (Some (Some rails)) o) is) in
          omega (arith, test, was, now)

      there : (t.target ≡ c → ⊥) → waits xs os t ≡ waits xs (slice_set os c (Some rails)) t + one_if (eqb t.target c)
      there ne =
          let test : one_if (eqb t.target c) ≡ 0 = ap one_if (Rattle.std.proofs.lemmas.Bool.ne_eqb t.target c ne) in
          let same : waits xs (slice_set os c (Some rails)) t ≡ waits xs os t =
          ap (λ o. wait_of o (slice_get xs t.target)) (get_set_other os c (Some rails) t.target ne) in
          omega (arith, test, same)

  pub waits_fall : (ts : List Transfer)
      → sum_by (waits xs os) ts ≡ sum_by (waits xs (slice_set os c (Some rails))) ts + length (transfers_to ts c)
  waits_fall ts = sum_split (waits xs os) (waits xs (slice_set os c (Some rails))) (λ t. eqb t.target c) one_wait ts
