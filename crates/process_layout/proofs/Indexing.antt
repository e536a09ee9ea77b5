-- Indices of roles, with one more.
use Rattle.std.proofs.Common.{
  ◌≡◌,
  ◌⊎◌,
  inl,
  inr,
  ◌∙◌,
  ℕ,
  zero,
  suc,
  List,
  [],
  ◌∷◌,
  ◌++◌,
  Bool,
  true,
  false,
  cond,
  Option,
  Some,
  None,
  sym,
  ap,
  subst,
  length,
}
use Rattle.std.specs.Prelude.{◌&&◌}
use Rattle.std.specs.Cmp.{unsigned_tied, tied_then}
use Rattle.std.specs.Ordering.{is_eq, nat_cmp}
use Rattle.std.proofs.lemmas.Bool.Decides.{eqb_tells}
use Rattle.mp_base.specs.Entries.{IsAt}
use Rattle.process_plan.specs.declared.role.Role.{Role}
use Rattle.process_plan.specs.declared.role.Role.TheVariants.{Value, Placed, Stacked}
use Rattle.std.specs.BTreeMap.{BTreeMap, get}
use Rattle.std.proofs.lemmas.Option.{same_Some, none-some}
use Rattle.mp_base.proofs.Entries.{get_middle, get_kept}
use Rattle.process_layout.specs.declared.index.RoleIndex.{RoleIndex}
use Rattle.process_layout.specs.Index.{IsCellFor, IsIndexOf, pair_cmp, triple_cmp}
use Rattle.process_layout.proofs.Listing.{at_cases}

-- a test that tells whether something holds
abbrev pub Tells : Bool → Type 0 → Type 0
Tells b P = ((b ≡ true) × P) ⊎ ((b ≡ false) × (P → ⊥))

pub both_tell : (a b : Bool) (P Q : Type 0) → Tells a P → Tells b Q → Tells (a && b) (P × Q)
both_tell a b P Q (inl (holds, p)) (inl (too, q)) = inl (ap (λ x. x && b) holds ∙ too, (p, q))
both_tell a b P Q (inl (holds, p)) (inr (fails, not_q)) = inr (ap (λ x. x && b) holds ∙ fails, λ pq. not_q pq.1)
both_tell a b P Q (inr (fails, not_p)) q = inr (ap (λ x. x && b) fails, λ pq. not_p pq.0)

number_tells : (x y : ℕ) → Tells (is_eq (nat_cmp x y)) (x ≡ y)
number_tells x y = subst (λ b. Tells b (x ≡ y)) (sym (unsigned_tied x y)) (eqb_tells x y)

pair_tells : (x y : ℕ × ℕ) → Tells (is_eq (pair_cmp x y)) ((x.0 ≡ y.0) × (x.1 ≡ y.1))
pair_tells x y = subst (λ b. Tells b ((x.0 ≡ y.0) × (x.1 ≡ y.1))) (tied_then (nat_cmp x.0 y.0) (nat_cmp x.1 y.1))
    (both_tell (is_eq (nat_cmp x.0 y.0)) (is_eq (nat_cmp x.1 y.1)) (x.0 ≡ y.0) (x.1 ≡ y.1)
    (number_tells x.0 y.0) (number_tells x.1 y.1))

-- a role that another role isn't has the cell that it had
pub still_cell : (roles : List Role) (r s : Role) (o : Option ℕ) → (r ≡ s → ⊥) → IsCellFor roles s o
    → IsCellFor (roles ++ r ∷ []) s o
still_cell roles r s (Some c) other at = get_kept roles (r ∷ []) c s at
still_cell roles r s None other none = λ c at. elim (at_cases roles (r ∷ []) c s at) [
  | inl before ↦ none c before
  | inr (zero, e, last) ↦ other (same_Some r s last)
  | inr (suc j, e, past) ↦ none-some s past
]

-- and the other is in the next cell
pub next_cell : (roles : List Role) (r s : Role) (c : ℕ) → r ≡ s → length roles ≡ c → IsCellFor (roles ++ r ∷ []) s
    (Some c)
next_cell roles r s c same size =
    subst (λ n. IsAt (roles ++ r ∷ []) n s) size (subst (λ t. IsAt (roles ++ r ∷ []) (length roles) t) same
    (get_middle roles r []))

-- whether or not these roles are one
pub either_cell : (roles : List Role) (r s : Role) (c : ℕ) (b : Bool) (o : Option ℕ) → Tells b (r ≡ s)
    → length roles ≡ c → IsCellFor roles s o → IsCellFor (roles ++ r ∷ []) s (cond b (Some c) o)
either_cell roles r s c true o (inl (holds, same)) size cell = next_cell roles r s c same size
either_cell roles r s c false o (inr (fails, other)) size cell = still_cell roles r s o other cell
either_cell roles r s c true o (inr (fails, other)) size cell = absurd (cc)
either_cell roles r s c false o (inl (holds, same)) size cell = absurd (cc)

-- ---- roles are one where their parts are

abbrev first_part : Role → ℕ
first_part (Value d) = d
first_part (Placed k j) = k
first_part (Stacked k l j) = k

abbrev second_part : Role → ℕ
second_part (Value d) = 0
second_part (Placed k j) = j
second_part (Stacked k l j) = l

abbrev third_part : Role → ℕ
third_part (Value d) = 0
third_part (Placed k j) = 0
third_part (Stacked k l j) = j

-- a test that tells one thing tells another that holds where it does
tells_too : (b : Bool) (P Q : Type 0) → (P → Q) → (Q → P) → Tells b P → Tells b Q
tells_too b P Q there back (inl (holds, h)) = inl (holds, there h)
tells_too b P Q there back (inr (fails, h)) = inr (fails, λ q. h (back q))

value_tells : (r : Role) (d q : ℕ) → r ≡ Value d → Tells (is_eq (nat_cmp d q)) (r ≡ Value q)
value_tells r d q is = tells_too (is_eq (nat_cmp d q)) (d ≡ q) (r ≡ Value q) (λ e. is ∙ ap Value e)
    (λ e. ap first_part (sym is ∙ e)) (number_tells d q)

place_tells : (r : Role) (k j m n : ℕ) → r ≡ Placed k j → Tells (is_eq (pair_cmp (k, j) (m, n))) (r ≡ Placed m n)
place_tells r k j m n is = tells_too (is_eq (pair_cmp (k, j) (m, n))) ((k ≡ m) × (j ≡ n)) (r ≡ Placed m n)
    (λ e. is ∙ ap (λ x. Placed x j) e.0 ∙ ap (Placed m) e.1)
    (λ e. (ap first_part (sym is ∙ e), ap second_part (sym is ∙ e))) (pair_tells (k, j) (m, n))

entry_tells : (r : Role) (k l j m n o : ℕ) → r ≡ Stacked k l j
    → Tells (is_eq (triple_cmp (k, l, j) (m, n, o))) (r ≡ Stacked m n o)
entry_tells r k l j m n o is =
    tells_too (is_eq (triple_cmp (k, l, j) (m, n, o))) (((k ≡ m) × (l ≡ n)) × (j ≡ o)) (r ≡ Stacked m n o)
    (λ ((first, second), third).
    is ∙ ap (λ x. Stacked x l j) first ∙ ap (λ x. Stacked m x j) second ∙ ap (Stacked m n) third)
    (λ e. ((ap first_part (sym is ∙ e), ap second_part (sym is ∙ e)), ap third_part (sym is ∙ e)))
    (subst (λ b. Tells b (((k ≡ m) × (l ≡ n)) × (j ≡ o))) (tied_then (pair_cmp (k, l) (m, n)) (nat_cmp j o))
    (both_tell (is_eq (pair_cmp (k, l) (m, n))) (is_eq (nat_cmp j o)) ((k ≡ m) × (l ≡ n)) (j ≡ o)
    (pair_tells (k, l) (m, n)) (number_tells j o)))

-- ---- an index with one more role

module _ (all : List Role) (index : RoleIndex) (is : IsIndexOf all index) (r : Role) (c : ℕ) (size : length all ≡ c)
    (values : BTreeMap ℕ ℕ) (places : BTreeMap (ℕ × ℕ) ℕ) (entries : BTreeMap (ℕ × ℕ × ℕ) ℕ) where
  kept_values : ((d : ℕ) → r ≡ Value d → ⊥) → values ≡ index.values → (d : ℕ)
      → IsCellFor (all ++ r ∷ []) (Value d) (get nat_cmp values d)
  kept_values other same d = subst (λ m. IsCellFor (all ++ r ∷ []) (Value d) (get nat_cmp m d)) (sym same)
      (still_cell all r (Value d) (get nat_cmp index.values d) (other d) (is.values d))

  kept_places : ((k j : ℕ) → r ≡ Placed k j → ⊥) → places ≡ index.places → (k j : ℕ)
      → IsCellFor (all ++ r ∷ []) (Placed k j) (get pair_cmp places (k, j))
  kept_places other same k j =
      subst (λ m. IsCellFor (all ++ r ∷ []) (Placed k j) (get pair_cmp m (k, j))) (sym same)
      (still_cell all r (Placed k j) (get pair_cmp index.places (k, j)) (other k j) (is.places k j))

  kept_entries : ((k l j : ℕ) → r ≡ Stacked k l j → ⊥) → entries ≡ index.entries → (k l j : ℕ)
      → IsCellFor (all ++ r ∷ []) (Stacked k l j) (get triple_cmp entries (k, l, j))
  kept_entries other same k l j =
      subst (λ m. IsCellFor (all ++ r ∷ []) (Stacked k l j) (get triple_cmp m (k, l, j))) (sym same)
      (still_cell all r (Stacked k l j) (get triple_cmp index.entries (k, l, j)) (other k l j) (is.entries k l j))

  pub more_values : (d : ℕ) → r ≡ Value d
      → ((q : ℕ) → get nat_cmp values q ≡ cond (is_eq (nat_cmp d q)) (Some c) (get nat_cmp index.values q))
      → places ≡ index.places → entries ≡ index.entries
      → IsIndexOf (all ++ r ∷ []) (record { values = values; places = places; entries = entries })
  more_values d role now others rest = record {
    values = λ q. subst (IsCellFor (all ++ r ∷ []) (Value q)) (sym (now q))
        (either_cell all r (Value q) c (is_eq (nat_cmp d q)) (get nat_cmp index.values q) (value_tells r d q role) size
        (is.values q));
    places = kept_places (λ k j e. let clash = sym role ∙ e in absurd (cc)) others;
    entries = kept_entries (λ k l j e. let clash = sym role ∙ e in absurd (cc)) rest;
  }

  pub more_places : (k j : ℕ) → r ≡ Placed k j
      → ((q : ℕ × ℕ) → get pair_cmp places q ≡ cond (is_eq (pair_cmp (k, j) q)) (Some c) (get pair_cmp index.places q))
      → values ≡ index.values → entries ≡ index.entries
      → IsIndexOf (all ++ r ∷ []) (record { values = values; places = places; entries = entries })
  more_places k j role now others rest = record {
    values = kept_values (λ d e. let clash = sym role ∙ e in absurd (cc)) others;
    places = λ m n. subst (IsCellFor (all ++ r ∷ []) (Placed m n)) (sym (now (m, n)))
        (either_cell all r (Placed m n) c (is_eq (pair_cmp (k, j) (m, n))) (get pair_cmp index.places (m, n))
        (place_tells r k j m n role) size (is.places m n));
    entries = kept_entries (λ m l n e. let clash = sym role ∙ e in absurd (cc)) rest;
  }

  pub more_entries : (k l j : ℕ) → r ≡ Stacked k l j
      → ((q : ℕ × ℕ × ℕ)
      → get triple_cmp entries q ≡ cond (is_eq (triple_cmp (k, l, j) q)) (Some c) (get triple_cmp index.entries q))
      → values ≡ index.values → places ≡ index.places
      → IsIndexOf (all ++ r ∷ []) (record { values = values; places = places; entries = entries })
  more_entries k l j role now others rest = record {
    values = kept_values (λ d e. let clash = sym role ∙ e in absurd (cc)) others;
    places = kept_places (λ m n e. let clash = sym role ∙ e in absurd (cc)) rest;
    entries = λ m n o. subst (IsCellFor (all ++ r ∷ []) (Stacked m n o)) (sym (now (m, n, o)))
        (either_cell all r (Stacked m n o) c (is_eq (triple_cmp (k, l, j) (m, n, o)))
        (get triple_cmp index.entries (m, n, o)) (entry_tells r k l j m n o role) size (is.entries m n o));
  }
