-- The lists of a band have exactly its ties and lines.
use Rattle.std.proofs.Common.{◌≡◌, inl, inr, ℕ, ◌==◌, Option, Some, None, Bool, true}
use Rattle.std.proofs.Common.{false, cond, List, [], ◌∷◌, length, map, refl, sym, ◌∙◌, ap, subst}
use Rattle.std.proofs.Common.{arith}
use Rattle.std.specs.Prelude.{slice_get, not, ◌≢◌}
use Rattle.std.specs.List.{range_with_len}
use Rattle.std.proofs.lemmas.Bool.{cases_Bool, cases_eq}
use Rattle.std.proofs.lemmas.Option.{slice_get_within}
use Rattle.mp_base.proofs.Tests.{false_true}
use Rattle.mp_base.proofs.Members.{Member, member_contains, contains_member, member_map, map_member, member_filter}
use Rattle.mp_base.proofs.Members.{filter_member, range_has, member_flat, flat_member}
use Rattle.fabric.specs.declared.thing.Side.TheVariants.{L}
use Rattle.nor_net.specs.declared.net.NetId.{NetId}
use Rattle.nor_net.specs.declared.net.Part.{Part}
use Rattle.nor_net.specs.declared.net.Part.TheVariants.{Input, Gate, Latch}
use Rattle.array_form.specs.Named.{Tie, tap, tran}
use Rattle.array_form.specs.Wires.{Wire, row, left, right, place, NetTie, gate_own, gate_ground}
use Rattle.array_form.specs.Wires.{gate_pull, gate_input, latch_own, latch_data, latch_phase, stub_own}
use Rattle.array_form.specs.Band.{has, distinct, inputs_of, net_ties, band_ties}

pub same_from : (x a : ℕ) → (x == a) ≡ true → x ≡ a
same_from x a e = grind arith

pub same_to : (x a : ℕ) → x ≡ a → (x == a) ≡ true
same_to x a e = grind arith

pub has_member : (a : ℕ) (xs : List ℕ) → has a xs ≡ true → Member xs a
has_member a [] e = absurd (false_true e)
has_member a (x ∷ xs) e = elim (cases_Bool (x == a)) [
  | inl q ↦ inl (same_from x a q)
  | inr q ↦ inr (has_member a xs (sym (ap (λ t. cond t true (has a xs)) q) ∙ e))
]

-- a number differs from another where the test says so
pub differs_from : (x a : ℕ) → not (a == x) ≡ true → a ≢ x
differs_from x a e = grind arith

pub differs_to : (x a : ℕ) → a ≢ x → not (a == x) ≡ true
differs_to x a e = grind arith

pub distinct_from : (xs : List ℕ) (a : ℕ) → Member (distinct xs) a → Member xs a
distinct_from [] a m = absurd m
distinct_from (x ∷ xs) a (inl e) = inl e
distinct_from (x ∷ xs) a (inr m) = inr (distinct_from xs a (member_filter (λ y. not (y == x)) (distinct xs) a m).0)

pub distinct_has : (xs : List ℕ) (a : ℕ) → Member xs a → Member (distinct xs) a
distinct_has [] a m = absurd m
distinct_has (x ∷ xs) a (inl e) = inl e
distinct_has (x ∷ xs) a (inr m) = elim (cases_eq a x) [
  | inl e ↦ inl (sym e)
  | inr e ↦ inr (filter_member (λ y. not (y == x)) (distinct xs) a (distinct_has xs a m) (differs_to x a e))
]

module _ (X : Type 0) (b : ℕ) (stub : ℕ → Bool) (parts : List Part) where
  -- the ties of one net
  of_part : (n : ℕ) (q : Option Part) → slice_get parts n ≡ q → (t : Tie (Wire X))
      → Member (net_ties X b n (stub n) q) t → NetTie X b parts stub t
  of_part n None h t m = absurd m
  of_part n (Some Input) h t m = elim (cases_Bool (stub n)) [
    | inl e ↦ elim (subst (λ z. Member (cond z (tap L (left (place b n)) (row (place b n)) ∷ []) []) t) e m)
        [ inl q ↦ subst (NetTie X b parts stub) q (stub_own n h e) | inr q ↦ absurd q ]
    | inr e ↦ absurd (subst (λ z. Member (cond z (tap L (left (place b n)) (row (place b n)) ∷ []) []) t) e m)
  ]
  of_part n (Some (Gate ins)) h t (inl q) = subst (NetTie X b parts stub) q (gate_own n ins h)
  of_part n (Some (Gate ins)) h t (inr (inl q)) = subst (NetTie X b parts stub) q (gate_ground n ins h)
  of_part n (Some (Gate ins)) h t (inr (inr (inl q))) = subst (NetTie X b parts stub) q (gate_pull n ins h)
  of_part n (Some (Gate ins)) h t (inr (inr (inr m))) =
      let k = member_map (λ i. tran (row (place b i)) (left (place b n)) (right (place b n))) (inputs_of ins) t m in
      let c = distinct_from (map (λ i. i.0) ins) k.0 k.1 in
      let j = member_map (λ (i : NetId). i.0) ins k.0 c in
      subst (NetTie X b parts stub)
      (ap (λ z. tran (row (place b z)) (left (place b n)) (right (place b n))) j.2 ∙ k.2)
      (gate_input n ins j.0 h (member_contains ins j.0 j.1))
  of_part n (Some (Latch ph None)) h t m = absurd m
  of_part n (Some (Latch ph (Some d))) h t (inl q) = subst (NetTie X b parts stub) q (latch_own n ph d h)
  of_part n (Some (Latch ph (Some d))) h t (inr (inl q)) = subst (NetTie X b parts stub) q (latch_data n ph d h)
  of_part n (Some (Latch ph (Some d))) h t (inr (inr (inl q))) =
      subst (NetTie X b parts stub) q (latch_phase n ph d h)
  of_part n (Some (Latch ph (Some d))) h t (inr (inr (inr m))) = absurd m

  pub listed_tie : (t : Tie (Wire X)) → Member (band_ties X b stub parts) t → NetTie X b parts stub t
  listed_tie t m =
      let k = member_flat (λ n. net_ties X b n (stub n) (slice_get parts n)) (range_with_len 0 (length parts)) t m in
      of_part k.0 (slice_get parts k.0) refl t k.2

  here : (n : ℕ) (q : Part) (t : Tie (Wire X)) → slice_get parts n ≡ Some q
      → Member (net_ties X b n (stub n) (Some q)) t → Member (band_ties X b stub parts) t
  here n q t h m =
      flat_member (λ k. net_ties X b k (stub k) (slice_get parts k)) (range_with_len 0 (length parts)) n t
      (range_has 0 (length parts) n (omega arith) (let w = slice_get_within parts n q h in omega arith))
      (subst (λ z. Member (net_ties X b n (stub n) z) t) (sym h) m)

  stub_member : (n : ℕ) (z : Bool) → z ≡ true
      → Member {A = Tie (Wire X)} (cond z (tap L (left (place b n)) (row (place b n)) ∷ []) [])
      (tap L (left (place b n)) (row (place b n)))
  stub_member n true s = inl refl
  stub_member n false s = absurd (false_true s)

  pub tie_listed : (t : Tie (Wire X)) → NetTie X b parts stub t → Member (band_ties X b stub parts) t
  tie_listed t (gate_own n ins h) = here n (Gate ins) t h (inl refl)
  tie_listed t (gate_ground n ins h) = here n (Gate ins) t h (inr (inl refl))
  tie_listed t (gate_pull n ins h) = here n (Gate ins) t h (inr (inr (inl refl)))
  tie_listed t (gate_input n ins i h c) =
      here n (Gate ins) t h
      (inr (inr (inr
      (map_member (λ k. tran (row (place b k)) (left (place b n)) (right (place b n))) (inputs_of ins) i.0
      (distinct_has (map (λ j. j.0) ins) i.0 (map_member (λ (j : NetId). j.0) ins i (contains_member ins i c)))))))
  tie_listed t (latch_own n ph d h) = here n (Latch ph (Some d)) t h (inl refl)
  tie_listed t (latch_data n ph d h) = here n (Latch ph (Some d)) t h (inr (inl refl))
  tie_listed t (latch_phase n ph d h) = here n (Latch ph (Some d)) t h (inr (inr (inl refl)))
  tie_listed t (stub_own n h s) = here n Input t h (stub_member n (stub n) s)
