-- Sets of nodes by the places of all nodes.
use Rattle.std.proofs.Common.{◌≡◌, ◌<◌, ◌≤◌, ◌+◌, ◌++◌, ◌∷◌, [], ℕ, List, length, get_or, take, refl, sym, ◌∙◌, ap, inl}
use Rattle.std.proofs.Common.{inr, ◌⊎◌, arith}
use Rattle.std.specs.Prelude.{Contains, ◌≢◌}
use Rattle.std.proofs.Math.ListN.{set}
use Rattle.std.proofs.lemmas.Bool.{cases_eq, cases_lt}
use Rattle.std.proofs.lemmas.List.{length-take, length-set, get_or-take, get_or_default, get_or-set_same}
use Rattle.std.proofs.lemmas.List.{get_or-set_other, take-set-le, take_more_set}
use Rattle.node_set.specs.Nodes.{IsPlaced}

module _ (count : ℕ) (order place : List ℕ) (h : IsPlaced count order place) (n : ℕ) where
  pub contains_from : n < length order → get_or place n 0 < count → Contains (take count order) n
  contains_from in' lt =
      let within : get_or place n 0 < length order = h.places n in' in
      let fits : count ≤ length order = h.counted in (
        get_or place n 0,
        omega (arith, length-take count order),
        get_or-take count order (get_or place n 0) n lt ∙ get_or_default order (get_or place n 0) n 0 within
            ∙ h.at_place n in',
      )

  pub place_from : Contains (take count order) n → get_or place n 0 < count
  place_from c =
      let fits : count ≤ length order = h.counted in
      let lt : c.0 < count = omega (arith, length-take count order, c.1) in
      let within : c.0 < length order = omega arith in
      let at : get_or order c.0 0 ≡ n =
      get_or_default order c.0 0 n within ∙ sym (get_or-take count order c.0 n lt) ∙ c.2 in
      let p : get_or place n 0 ≡ c.0 = ap (λ m. get_or place m 0) (sym at) ∙ h.place_at c.0 within in
      omega arith

  pub absent_past : n < length order → (Contains (take count order) n → ⊥) → count ≤ get_or place n 0
  absent_past in' absent = by_place (cases_lt (get_or place n 0) count)
    where
      by_place : (get_or place n 0 < count) ⊎ (count ≤ get_or place n 0) → count ≤ get_or place n 0
      by_place (inl lt) = absurd (absent (contains_from in' lt))
      by_place (inr le) = le

-- what stands at k after two writes
twice_at : (xs : List ℕ) (i j a b k : ℕ) → i < length xs → j < length xs
    → ((k ≡ j) × (get_or (set (set xs i a) j b) k 0 ≡ b))
    ⊎ ((k ≢ j) × (k ≡ i) × (get_or (set (set xs i a) j b) k 0 ≡ a))
    ⊎ ((k ≢ j) × (k ≢ i) × (get_or (set (set xs i a) j b) k 0 ≡ get_or xs k 0))
twice_at xs i j a b k in_i in_j = by_last (cases_eq k j)
  where
    by_first : k ≢ j → (k ≡ i) ⊎ (k ≢ i)
        → ((k ≢ j) × (k ≡ i) × (get_or (set (set xs i a) j b) k 0 ≡ a))
        ⊎ ((k ≢ j) × (k ≢ i) × (get_or (set (set xs i a) j b) k 0 ≡ get_or xs k 0))
    by_first ne (inl e) =
        inl (
          ne,
          e,
          get_or-set_other (set xs i a) j k b 0 ne ∙ ap (λ m. get_or (set xs i a) m 0) e
              ∙ get_or-set_same xs i a 0 in_i,
        )
    by_first ne (inr f) = inr (ne, f, get_or-set_other (set xs i a) j k b 0 ne ∙ get_or-set_other xs i k a 0 f)

    by_last : (k ≡ j) ⊎ (k ≢ j) → ((k ≡ j) × (get_or (set (set xs i a) j b) k 0 ≡ b))
        ⊎ ((k ≢ j) × (k ≡ i) × (get_or (set (set xs i a) j b) k 0 ≡ a))
        ⊎ ((k ≢ j) × (k ≢ i) × (get_or (set (set xs i a) j b) k 0 ≡ get_or xs k 0))
    by_last (inl e) =
        inl (
          e,
          ap (λ m. get_or (set (set xs i a) j b) m 0) e
              ∙ get_or-set_same (set xs i a) j b 0 (omega (arith, length-set xs i a)),
        )
    by_last (inr ne) = elim (by_first ne (cases_eq k i)) [ inl p ↦ inr (inl p) | inr q ↦ inr (inr q) ]

module _ (count : ℕ) (order place : List ℕ) (h : IsPlaced count order place) (n from other : ℕ)
    (in_n : n < length order) (is_from : from ≡ get_or place n 0) (is_other : other ≡ get_or order count 0)
    (past : count ≤ from) where
  in_from : from < length order
  in_from = let p = h.places n in_n in omega arith

  in_count : count < length order
  in_count = let p = in_from in omega arith

  in_other : other < length order
  in_other = let p = h.nodes count in_count in omega arith

  n_at : get_or order from 0 ≡ n
  n_at = ap (λ k. get_or order k 0) is_from ∙ h.at_place n in_n

  other_at : get_or place other 0 ≡ count
  other_at = ap (λ k. get_or place k 0) is_other ∙ h.place_at count in_count

  abbrev order' : List ℕ
  order' = set (set order from other) count n

  abbrev place' : List ℕ
  place' = set (set place other from) n count

  at_order : (k : ℕ)
      → ((k ≡ count) × (get_or order' k 0 ≡ n)) ⊎ ((k ≢ count) × (k ≡ from) × (get_or order' k 0 ≡ other))
      ⊎ ((k ≢ count) × (k ≢ from) × (get_or order' k 0 ≡ get_or order k 0))
  at_order k = twice_at order from count other n k in_from in_count

  at_place' : (m : ℕ)
      → ((m ≡ n) × (get_or place' m 0 ≡ count)) ⊎ ((m ≢ n) × (m ≡ other) × (get_or place' m 0 ≡ from))
      ⊎ ((m ≢ n) × (m ≢ other) × (get_or place' m 0 ≡ get_or place m 0))
  at_place' m = let s = h.sized in let p = in_other in twice_at place other n from count m (omega arith) (omega arith)

  length_order : length order' ≡ length order
  length_order = length-set (set order from other) count n ∙ length-set order from other

  length_place : length place' ≡ length place
  length_place = length-set (set place other from) n count ∙ length-set place other from

  nodes_kept : (k : ℕ) → k < length order' → get_or order' k 0 < length order'
  nodes_kept k lt = by_case (at_order k)
    where
      in' : k < length order
      in' = let l = length_order in omega arith

      by_case : ((k ≡ count) × (get_or order' k 0 ≡ n)) ⊎ ((k ≢ count) × (k ≡ from) × (get_or order' k 0 ≡ other))
          ⊎ ((k ≢ count) × (k ≢ from) × (get_or order' k 0 ≡ get_or order k 0)) → get_or order' k 0 < length order'
      by_case (inl p) = let e = p.1 in let l = length_order in omega arith
      by_case (inr (inl p)) = let e = p.2 in let l = length_order in let q = in_other in omega arith
      by_case (inr (inr p)) = let e = p.2 in let l = length_order in let q = h.nodes k in' in omega arith

  places_kept : (m : ℕ) → m < length order' → get_or place' m 0 < length order'
  places_kept m lt = by_case (at_place' m)
    where
      in' : m < length order
      in' = let l = length_order in omega arith

      by_case : ((m ≡ n) × (get_or place' m 0 ≡ count)) ⊎ ((m ≢ n) × (m ≡ other) × (get_or place' m 0 ≡ from))
          ⊎ ((m ≢ n) × (m ≢ other) × (get_or place' m 0 ≡ get_or place m 0)) → get_or place' m 0 < length order'
      by_case (inl p) = let e = p.1 in let l = length_order in let q = in_count in omega arith
      by_case (inr (inl p)) = let e = p.2 in let l = length_order in let q = in_from in omega arith
      by_case (inr (inr p)) = let e = p.2 in let l = length_order in let q = h.places m in' in omega arith

  placed_at : (k : ℕ) → k < length order → get_or place' (get_or order' k 0) 0 ≡ k
  placed_at k in' = by_case (at_order k)
    where
      moved : k ≢ count → k ≡ from
          → ((other ≡ n) × (get_or place' other 0 ≡ count))
          ⊎ ((other ≢ n) × (other ≡ other) × (get_or place' other 0 ≡ from))
          ⊎ ((other ≢ n) × (other ≢ other) × (get_or place' other 0 ≡ get_or place other 0)) → get_or place' other 0 ≡ k
      moved ne e (inl p) =
          let same : get_or place other 0 ≡ get_or place n 0 = ap (λ m. get_or place m 0) p.0 in
          let q = other_at in
          absurd (ne (omega arith))
      moved ne e (inr (inl p)) = p.2 ∙ sym e
      moved ne e (inr (inr p)) = absurd (p.1 refl)

      still : k ≢ count → k ≢ from → (m : ℕ) → m ≡ get_or order k 0
          → ((m ≡ n) × (get_or place' m 0 ≡ count)) ⊎ ((m ≢ n) × (m ≡ other) × (get_or place' m 0 ≡ from))
          ⊎ ((m ≢ n) × (m ≢ other) × (get_or place' m 0 ≡ get_or place m 0)) → get_or place' m 0 ≡ k
      still ne nf m is (inl p) =
          let at : get_or place (get_or order k 0) 0 ≡ k = h.place_at k in' in
          let same : get_or place (get_or order k 0) 0 ≡ get_or place n 0 = ap (λ m. get_or place m 0) (sym is ∙ p.0) in
          absurd (nf (omega arith))
      still ne nf m is (inr (inl p)) =
          let at : get_or place (get_or order k 0) 0 ≡ k = h.place_at k in' in
          let same : get_or place (get_or order k 0) 0 ≡ get_or place other 0 =
          ap (λ m. get_or place m 0) (sym is ∙ p.1) in
          let q = other_at in
          absurd (ne (omega arith))
      still ne nf m is (inr (inr p)) = p.2 ∙ ap (λ m. get_or place m 0) is ∙ h.place_at k in'

      by_case : ((k ≡ count) × (get_or order' k 0 ≡ n)) ⊎ ((k ≢ count) × (k ≡ from) × (get_or order' k 0 ≡ other))
          ⊎ ((k ≢ count) × (k ≢ from) × (get_or order' k 0 ≡ get_or order k 0))
          → get_or place' (get_or order' k 0) 0 ≡ k
      by_case (inl p) =
          let s = h.sized in
          ap (λ m. get_or place' m 0) p.1
          ∙ get_or-set_same (set place other from) n count 0 (omega (arith, length-set place other from)) ∙ sym p.0
      by_case (inr (inl p)) = ap (λ m. get_or place' m 0) p.2 ∙ moved p.0 p.1 (at_place' other)
      by_case (inr (inr p)) =
          ap (λ m. get_or place' m 0) p.2 ∙ still p.0 p.1 (get_or order k 0) refl (at_place' (get_or order k 0))

  at_placed : (m : ℕ) → m < length order → get_or order' (get_or place' m 0) 0 ≡ m
  at_placed m in' = by_case (at_place' m)
    where
      moved : m ≢ n → m ≡ other
          → ((from ≡ count) × (get_or order' from 0 ≡ n))
          ⊎ ((from ≢ count) × (from ≡ from) × (get_or order' from 0 ≡ other))
          ⊎ ((from ≢ count) × (from ≢ from) × (get_or order' from 0 ≡ get_or order from 0)) → get_or order' from 0 ≡ m
      moved ne e (inl p) =
          let same : get_or order from 0 ≡ get_or order count 0 = ap (λ k. get_or order k 0) p.0 in
          let q = n_at in
          absurd (ne (omega arith))
      moved ne e (inr (inl p)) = p.2 ∙ sym e
      moved ne e (inr (inr p)) = absurd (p.1 refl)

      still : m ≢ n → m ≢ other → (k : ℕ) → k ≡ get_or place m 0
          → ((k ≡ count) × (get_or order' k 0 ≡ n)) ⊎ ((k ≢ count) × (k ≡ from) × (get_or order' k 0 ≡ other))
          ⊎ ((k ≢ count) × (k ≢ from) × (get_or order' k 0 ≡ get_or order k 0)) → get_or order' k 0 ≡ m
      still ne nf k is (inl p) =
          let at : get_or order (get_or place m 0) 0 ≡ m = h.at_place m in' in
          let same : get_or order (get_or place m 0) 0 ≡ get_or order count 0 =
          ap (λ k. get_or order k 0) (sym is ∙ p.0) in
          absurd (nf (omega arith))
      still ne nf k is (inr (inl p)) =
          let at : get_or order (get_or place m 0) 0 ≡ m = h.at_place m in' in
          let same : get_or order (get_or place m 0) 0 ≡ get_or order from 0 =
          ap (λ k. get_or order k 0) (sym is ∙ p.1) in
          let q = n_at in
          absurd (ne (omega arith))
      still ne nf k is (inr (inr p)) = p.2 ∙ ap (λ k. get_or order k 0) is ∙ h.at_place m in'

      by_case : ((m ≡ n) × (get_or place' m 0 ≡ count)) ⊎ ((m ≢ n) × (m ≡ other) × (get_or place' m 0 ≡ from))
          ⊎ ((m ≢ n) × (m ≢ other) × (get_or place' m 0 ≡ get_or place m 0)) → get_or order' (get_or place' m 0) 0 ≡ m
      by_case (inl p) =
          let l = in_count in
          ap (λ k. get_or order' k 0) p.1
          ∙ get_or-set_same (set order from other) count n 0 (omega (arith, length-set order from other)) ∙ sym p.0
      by_case (inr (inl p)) = ap (λ k. get_or order' k 0) p.2 ∙ moved p.0 p.1 (at_order from)
      by_case (inr (inr p)) =
          ap (λ k. get_or order' k 0) p.2 ∙ still p.0 p.1 (get_or place m 0) refl (at_order (get_or place m 0))

  pub placed_more : IsPlaced (count + 1) (set (set order from other) count n) (set (set place other from) n count)
  placed_more = record {
    counted = let p = in_count in let l = length_order in omega arith;
    sized = length_place ∙ h.sized ∙ sym length_order;
    narrow = let l = length_order in let w = h.narrow in omega arith;
    nodes = nodes_kept;
    places = places_kept;
    at_place = λ m lt. at_placed m (let l = length_order in omega arith);
    place_at = λ k lt. placed_at k (let l = length_order in omega arith);
  }

  pub members_more : take (count + 1) (set (set order from other) count n) ≡ take count order ++ n ∷ []
  members_more =
      let p = in_count in
      take_more_set (set order from other) count n (omega (arith, length-set order from other))
      ∙ ap (λ xs. xs ++ n ∷ []) (take-set-le count order from other past)
