-- One more net of a path has its number, and what stands for it.
use Rattle.std.proofs.Common.{◌≡◌, ℕ, ◌<◌, ◌≤◌, ◌+◌, zero, suc, ◌⊎◌, inl, inr, List, [], ◌∷◌, ◌++◌, Option, Some, None}
use Rattle.std.proofs.Common.{true, cond, length, map, refl, sym, ◌∙◌, ap, subst, arith}
use Rattle.std.specs.Prelude.{All, slice_get, nat_lt}
use Rattle.std.specs.List.{count_by, list_all}
use Rattle.std.proofs.lemmas.Bool.{and_parts, cases_lt, le-ltb, ltb-true, false≢true}
use Rattle.std.proofs.lemmas.List.{length-append}
use Rattle.std.proofs.lemmas.List.Elements.{All-nil, All-cons}
use Rattle.std.proofs.lemmas.Option.{none-some, same_Some}
use Rattle.mp_base.proofs.Entries.{get_kept}
use Rattle.nor_net.specs.declared.net.NetId.{NetId}
use Rattle.nor_net.specs.declared.net.Part.{Part}
use Rattle.nor_net.specs.declared.net.Part.TheVariants.{Input, Gate, Latch}
use Rattle.nor_net.specs.Elements.{Spot, Element, Given, Nor, Latched, Joined, Low}
use Rattle.path_form.specs.declared.path.DataPath.{DataPath}
use Rattle.path_form.specs.Flat.{is_own}
use Rattle.path_form.specs.Shape.{is_in, pieces_of, rank}
use Rattle.path_form.specs.Showing.{path_nets}
use Rattle.path_flat.specs.Adding.{IsElementAdded, ReadsBelow, number_for, parts_for}
use Rattle.path_flat.specs.Numbered.{IsMeant, IsNumberedTo, StandsFor, total}
use Rattle.path_flat.proofs.Ranks.{rank_once, rank_within, within_counts}

module _ (p : DataPath) where
  -- a net of a path stands among all
  pub net_within : (n : Spot) (e : Element) → path_nets p n ≡ Some e → rank p.order n < total p.order
  net_within n e is =
      let c = p.whole.once n ∙ ap pieces_of is in rank_within p.order n (omega (arith, c))

  -- what stands among all is a net of the path
  pub within_net : (n : Spot) → rank p.order n < total p.order → (e : Element) × (path_nets p n ≡ Some e)
  within_net n l = by_element (path_nets p n) refl
    where
      by_element : (o : Option Element) → path_nets p n ≡ o → (e : Element) × (path_nets p n ≡ Some e)
      by_element None is =
          let c = p.whole.once n ∙ ap pieces_of is in
          let d = within_counts p.order n l in absurd (omega (arith, c, d))
      by_element (Some e) is = (e, is)

  pub counted_once : (n : Spot) → count_by (is_in n) p.order ≤ 1
  counted_once n = by_element (path_nets p n) (p.whole.once n)
    where
      by_element : (o : Option Element) → count_by (is_in n) p.order ≡ pieces_of o → count_by (is_in n) p.order ≤ 1
      by_element None c = omega (arith, c)
      by_element (Some e) c = omega (arith, c)

  -- what a gate reads stands before it
  abbrev Before : ℕ → Spot → Type 0
  Before t m = rank p.order m < t

  all_before : (t : ℕ) (inputs : List Spot) → list_all (λ m. nat_lt (rank p.order m) t) inputs ≡ true
      → All (Before t) inputs
  all_before t [] h = All-nil (Before t)
  all_before t (m ∷ ms) h =
      let a = and_parts _ _ h in
      All-cons (Before t) m ms (ltb-true (rank p.order m) t a.0) (all_before t ms a.1)

  pub inputs_before : (n : Spot) (inputs : List Spot) → path_nets p n ≡ Some (Nor inputs)
      → All (Before (rank p.order n)) inputs
  inputs_before n inputs is = all_before (rank p.order n) inputs (p.whole.ordered n (Nor inputs) is)

  pub joined_before : (n m : Spot) → path_nets p n ≡ Some (Joined m) → rank p.order m < rank p.order n
  joined_before n m is = ltb-true (rank p.order m) (rank p.order n) (p.whole.ordered n (Joined m) is)

  reads_below : (t : ℕ) (flat : List Part) (of : Spot → NetId) → IsNumberedTo p t 0 flat of → (n : Spot) (e : Element)
      → path_nets p n ≡ Some e → rank p.order n ≡ t → ReadsBelow of (length flat) e
  reads_below t flat of so n Given is r = tt
  reads_below t flat of so n (Nor inputs) is r =
      each inputs (subst (λ u. All (Before u) inputs) r (inputs_before n inputs is))
    where
      each : (ms : List Spot) → All (Before t) ms → All (λ m. (of m).0 < length flat) ms
      each ms h i d l = so.inside _ (h i d l)
  reads_below t flat of so n (Latched phase m) is r = tt
  reads_below t flat of so n (Joined m) is r = tt
  reads_below t flat of so n Low is r = tt

  module _ (t : ℕ) (flat : List Part) (of : Spot → NetId) (so : IsNumberedTo p t 0 flat of) (s : Spot) (e : Element)
      (is : path_nets p s ≡ Some e) (here : rank p.order s ≡ t) where
    pub ready_below : ReadsBelow of (length flat) e
    ready_below = reads_below t flat of so s e is here

    module _ (new : List Part) (id : NetId) (added : IsElementAdded e of flat new id) (also : Spot → NetId)
        (own : also s ≡ id) (others : (n : Spot) → (n ≡ s → ⊥) → also n ≡ of n) where
      differs : (n : Spot) → rank p.order n < t → n ≡ s → ⊥
      differs n l q = let r = ap (rank p.order) q in omega (arith, l, r, here)

      kept : (n : Spot) → rank p.order n < t → also n ≡ of n
      kept n l = others n (differs n l)

      -- among the first t + 1 is s, and else one of the first t
      placed : (n : Spot) → rank p.order n < t + 1 → (rank p.order n < t) ⊎ (n ≡ s)
      placed n l = by_place (cases_lt (rank p.order n) t)
        where
          by_place : (rank p.order n < t) ⊎ (t ≤ rank p.order n) → (rank p.order n < t) ⊎ (n ≡ s)
          by_place (inl h) = inl h
          by_place (inr h) =
              inr (rank_once p.order n s (omega (arith, l, h, here)) (net_within s e is))

      inputs_kept : (ms : List Spot) → All (Before t) ms → map also ms ≡ map of ms
      inputs_kept [] h = refl
      inputs_kept (m ∷ ms) h =
          let a = kept m (h 0 m (omega arith)) in
          let b = inputs_kept ms (λ i d l. h (suc i) d (omega (arith, l))) in
          ap (λ x. x ∷ map also ms) a ∙ ap (λ xs. of m ∷ xs) b

      grown : (k : ℕ) (part : Part) → slice_get flat k ≡ Some part → slice_get new k ≡ Some part
      grown k part at = ap (λ (parts : List Part). slice_get parts k) added.parts
          ∙ get_kept flat (parts_for (length flat) of e) k part at

      long : length new ≡ length flat + length (parts_for (length flat) of e)
      long = ap length added.parts ∙ length-append flat (parts_for (length flat) of e)

      -- what stood for a net stands for it still
      still : (n : Spot) (d : Element) → path_nets p n ≡ Some d → rank p.order n < t
          → StandsFor flat of (nat_lt (rank p.order n) 0) n d → StandsFor new also (nat_lt (rank p.order n) 0) n d
      still n Given q l h = ap (λ (x : NetId). slice_get new x.0) (kept n l) ∙ grown (of n).0 Input h
      still n (Nor inputs) q l h =
          ap (λ (x : NetId). slice_get new x.0) (kept n l) ∙ grown (of n).0 (Gate (map of inputs)) h
          ∙ ap (λ xs. Some (Gate xs)) (sym (inputs_kept inputs
          (λ i d m. (let a = inputs_before n inputs q i d m in omega (arith, a, l)))))
      still n (Latched phase m) q l h =
          ap (λ (x : NetId). slice_get new x.0) (kept n l)
          ∙ grown (of n).0 (Latch phase (cond (nat_lt (rank p.order n) 0) (Some (of m)) None)) h
          ∙ ap (λ b. Some (Latch phase (cond b (Some (of m)) None))) (le-ltb (rank p.order n) 0 (omega arith))
          ∙ ap (λ b. Some (Latch phase (cond b (Some (also m)) None))) (sym (le-ltb (rank p.order n) 0 (omega arith)))
      still n (Joined m) q l h =
          kept n l ∙ h ∙ sym (kept m (let b = joined_before n m q in omega (arith, b, l)))
      still n Low q l h = (
        h.0,
        ap (λ (x : NetId). slice_get new x.0) (kept n l) ∙ grown (of n).0 (Gate (h.0 ∷ [])) h.1,
        grown (h.0).0 (Gate []) h.2,
      )

      at_end : (xs : List Part) (x : Part) (more : List Part) → slice_get (xs ++ x ∷ more) (length xs) ≡ Some x
      at_end [] x more = refl
      at_end (y ∷ ys) x more = at_end ys x more

      behind : (xs : List Part) (x y : Part) → slice_get (xs ++ x ∷ y ∷ []) (length xs + 1) ≡ Some y
      behind [] x y = refl
      behind (z ∷ zs) x y =
          let q : suc (length zs) + 1 ≡ suc (length zs + 1) = omega arith in
          ap (slice_get (z ∷ (zs ++ x ∷ y ∷ []))) q ∙ behind zs x y

      -- what was added stands for the new one
      stands : (d : Element) → path_nets p s ≡ Some d → new ≡ flat ++ parts_for (length flat) of d
          → id ≡ number_for (length flat) of d → StandsFor new also (nat_lt (rank p.order s) 0) s d
      stands Given q parts number =
          ap (λ (x : NetId). slice_get new x.0) (own ∙ number)
          ∙ ap (λ (xs : List Part). slice_get xs (length flat)) parts
          ∙ at_end flat Input []
      stands (Nor inputs) q parts number =
          ap (λ (x : NetId). slice_get new x.0) (own ∙ number)
          ∙ ap (λ (xs : List Part). slice_get xs (length flat)) parts
          ∙ at_end flat (Gate (map of inputs)) []
          ∙ ap (λ xs. Some (Gate xs)) (sym (inputs_kept inputs
          (subst (λ u. All (Before u) inputs) here (inputs_before s inputs q))))
      stands (Latched phase m) q parts number =
          ap (λ (x : NetId). slice_get new x.0) (own ∙ number)
          ∙ ap (λ (xs : List Part). slice_get xs (length flat)) parts
          ∙ at_end flat (Latch phase None) []
          ∙ ap (λ b. Some (Latch phase (cond b (Some (also m)) None))) (sym (le-ltb (rank p.order s) 0 (omega arith)))
      stands (Joined m) q parts number =
          own ∙ number ∙ sym (kept m (let b = joined_before s m q in omega (arith, b, here)))
      stands Low q parts number = (
        record { 0 = length flat },
        ap (λ (x : NetId). slice_get new x.0) (own ∙ number)
            ∙ ap (λ (xs : List Part). slice_get xs (length flat + 1)) parts
            ∙ behind flat (Gate []) (Gate (record { 0 = length flat } ∷ [])),
        ap (λ (xs : List Part). slice_get xs (length flat)) parts
            ∙ at_end flat (Gate []) (Gate (record { 0 = length flat } ∷ []) ∷ []),
      )

      new_inside : (d : Element) → path_nets p s ≡ Some d → id ≡ number_for (length flat) of d
          → length new ≡ length flat + length (parts_for (length flat) of d) → id.0 < length new
      new_inside Given q number l = let n = ap (λ (x : NetId). x.0) number in omega (arith, n, l)
      new_inside (Nor inputs) q number l = let n = ap (λ (x : NetId). x.0) number in omega (arith, n, l)
      new_inside (Latched phase m) q number l = let n = ap (λ (x : NetId). x.0) number in omega (arith, n, l)
      new_inside (Joined m) q number l =
          let n = ap (λ (x : NetId). x.0) number in
          let b = joined_before s m q in
          let i = so.inside m (omega (arith, b, here)) in omega (arith, n, l, i)
      new_inside Low q number l = let n = ap (λ (x : NetId). x.0) number in omega (arith, n, l)

      -- a net of its own has a number of its own
      own_number : (d : Element) → is_own (Some d) ≡ true → id ≡ number_for (length flat) of d → length flat ≤ id.0
      own_number Given o number = let n = ap (λ (x : NetId). x.0) number in omega (arith, n)
      own_number (Nor inputs) o number = let n = ap (λ (x : NetId). x.0) number in omega (arith, n)
      own_number (Latched phase m) o number = let n = ap (λ (x : NetId). x.0) number in omega (arith, n)
      own_number (Joined m) o number = absurd (false≢true o)
      own_number Low o number = let n = ap (λ (x : NetId). x.0) number in omega (arith, n)

      also_inside : (n : Spot) → rank p.order n < t + 1 → (also n).0 < length new
      also_inside n l = by_place (placed n l)
        where
          by_place : (rank p.order n < t) ⊎ (n ≡ s) → (also n).0 < length new
          by_place (inl h) =
              let i = so.inside n h in
              let k = ap (λ (x : NetId). x.0) (kept n h) in omega (arith, i, k, long)
          by_place (inr q) =
              let i = new_inside e is added.number long in
              let k = ap (λ (x : NetId). x.0) (ap also q ∙ own) in omega (arith, i, k)

      also_each : (n : Spot) (d : Element) → path_nets p n ≡ Some d → rank p.order n < t + 1
          → StandsFor new also (nat_lt (rank p.order n) 0) n d
      also_each n d q l = by_place (placed n l)
        where
          by_place : (rank p.order n < t) ⊎ (n ≡ s) → StandsFor new also (nat_lt (rank p.order n) 0) n d
          by_place (inl h) = still n d q h (so.each n d q h)
          by_place (inr x) =
              let same : e ≡ d = same_Some e d (sym is ∙ ap (path_nets p) (sym x) ∙ q) in
              subst (λ (m : Spot). StandsFor new also (nat_lt (rank p.order m) 0) m d) (sym x)
              (stands d (is ∙ ap (λ (y : Element). Some y) same)
              (added.parts ∙ ap (λ y. flat ++ parts_for (length flat) of y) same)
              (added.number ∙ ap (number_for (length flat) of) same))

      also_ordered : (m n : Spot) → is_own (path_nets p m) ≡ true → is_own (path_nets p n) ≡ true
          → rank p.order m < rank p.order n → rank p.order n < t + 1 → (also m).0 < (also n).0
      also_ordered m n om on l u = by_place (placed n u)
        where
          by_place : (rank p.order n < t) ⊎ (n ≡ s) → (also m).0 < (also n).0
          by_place (inl h) =
              let o = so.ordered m n om on l h in
              let a = ap (λ (x : NetId). x.0) (kept m (omega (arith, l, h))) in
              let b = ap (λ (x : NetId). x.0) (kept n h) in omega (arith, o, a, b)
          by_place (inr q) =
              let r = ap (rank p.order) q in
              let lt : rank p.order m < t = omega (arith, l, r, here) in
              let i = so.inside m lt in
              let a = ap (λ (x : NetId). x.0) (kept m lt) in
              let b = ap (λ (x : NetId). x.0) (ap also q ∙ own) in
              let g = own_number e (ap is_own (sym is ∙ ap (path_nets p) (sym q)) ∙ on) added.number in
              omega (arith, i, a, b, g)

      -- what was added means the new one
      meant_new : (d : Element) → path_nets p s ≡ Some d → id ≡ number_for (length flat) of d → (j : ℕ) (part : Part)
          → slice_get (parts_for (length flat) of d) j ≡ Some part → IsMeant p (t + 1) also (length flat + j) part
      meant_new d q number j Input at = by_element d j q number at
        where
          by_element : (d : Element) (j : ℕ) → path_nets p s ≡ Some d → id ≡ number_for (length flat) of d
              → slice_get (parts_for (length flat) of d) j ≡ Some Input
              → (n : Spot) × (rank p.order n < t + 1) × (path_nets p n ≡ Some Given) × ((also n).0 ≡ length flat + j)
          by_element Given zero q number at =
              (s, omega (arith, here), q, (let k = ap (λ (x : NetId). x.0) (own ∙ number) in omega (arith, k)))
          by_element Given (suc j) q number at = absurd (none-some Input at)
          by_element (Nor inputs) zero q number at = cc
          by_element (Nor inputs) (suc j) q number at = absurd (none-some Input at)
          by_element (Latched phase m) zero q number at = cc
          by_element (Latched phase m) (suc j) q number at = absurd (none-some Input at)
          by_element (Joined m) j q number at = absurd (none-some Input at)
          by_element Low zero q number at = cc
          by_element Low (suc zero) q number at = cc
          by_element Low (suc (suc j)) q number at = absurd (none-some Input at)
      meant_new d q number j (Gate inputs) at = tt
      meant_new d q number j (Latch phase source) at = by_element d j q number at
        where
          by_element : (d : Element) (j : ℕ) → path_nets p s ≡ Some d → id ≡ number_for (length flat) of d
              → slice_get (parts_for (length flat) of d) j ≡ Some (Latch phase source)
              → (n m : Spot) × (rank p.order n < t + 1) × (path_nets p n ≡ Some (Latched phase m))
              × ((also n).0 ≡ length flat + j)
          by_element Given zero q number at = cc
          by_element Given (suc j) q number at = absurd (none-some (Latch phase source) at)
          by_element (Nor inputs) zero q number at = cc
          by_element (Nor inputs) (suc j) q number at = absurd (none-some (Latch phase source) at)
          by_element (Latched other m) zero q number at =
              let same : other ≡ phase = cc in (
                s,
                m,
                omega (arith, here),
                q ∙ ap (λ ph. Some (Latched ph m)) same,
                (let k = ap (λ (x : NetId). x.0) (own ∙ number) in omega (arith, k)),
              )
          by_element (Latched other m) (suc j) q number at = absurd (none-some (Latch phase source) at)
          by_element (Joined m) j q number at = absurd (none-some (Latch phase source) at)
          by_element Low zero q number at = cc
          by_element Low (suc zero) q number at = cc
          by_element Low (suc (suc j)) q number at = absurd (none-some (Latch phase source) at)

      meant_still : (k : ℕ) (part : Part) → IsMeant p t of k part → IsMeant p (t + 1) also k part
      meant_still k Input h =
          (h.0, (let l = h.1 in omega (arith, l)), h.2, ap (λ (x : NetId). x.0) (kept h.0 h.1) ∙ h.3)
      meant_still k (Gate inputs) h = tt
      meant_still k (Latch phase source) h =
          (h.0, h.1, (let l = h.2 in omega (arith, l)), h.3, ap (λ (x : NetId). x.0) (kept h.0 h.2) ∙ h.4)

      also_meant : (k : ℕ) (part : Part) → slice_get new k ≡ Some part → IsMeant p (t + 1) also k part
      also_meant k part at =
          by_place (Rattle.path_flat.proofs.Ranks.at_append flat (parts_for (length flat) of e) k part
          (ap (λ (xs : List Part). slice_get xs k) (sym added.parts) ∙ at))
        where
          by_place : (slice_get flat k ≡ Some part)
              ⊎ ((j : ℕ) × (k ≡ length flat + j) × (slice_get (parts_for (length flat) of e) j ≡ Some part))
              → IsMeant p (t + 1) also k part
          by_place (inl h) = meant_still k part (so.meant k part h)
          by_place (inr h) =
              subst (λ x. IsMeant p (t + 1) also x part) (sym h.1) (meant_new e is added.number h.0 part h.2)

      pub numbered_more : IsNumberedTo p (t + 1) 0 new also
      numbered_more = record { ordered = also_ordered; each = also_each; inside = also_inside; meant = also_meant }

  pub numbered_start : (flat : List Part) (of : Spot → NetId) → flat ≡ [] → IsNumberedTo p 0 0 flat of
  numbered_start flat of e = record {
    ordered = λ m n om on l u. absurd (omega (arith, u));
    each = λ n d q u. absurd (omega (arith, u));
    inside = λ n u. absurd (omega (arith, u));
    meant = λ k part at. absurd (none-some part (ap (λ (xs : List Part). slice_get xs k) (sym e) ∙ at));
  }
