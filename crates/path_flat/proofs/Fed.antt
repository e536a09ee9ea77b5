-- One more latch of the flat net is fed.
use Rattle.std.proofs.Common.{◌≡◌, ℕ, ◌<◌, ◌≤◌, ◌+◌, zero, suc, ◌⊎◌, inl, inr, List, [], ◌∷◌, Some, None, Bool, cond}
use Rattle.std.proofs.Common.{map, refl, sym, ◌∙◌, ap, subst, arith}
use Rattle.std.specs.Prelude.{slice_get, slice_set, nat_lt}
use Rattle.std.proofs.lemmas.Bool.{cases_lt, cases_eq, le-ltb, lt-ltb}
use Rattle.std.proofs.lemmas.List.{length-set}
use Rattle.std.proofs.lemmas.List.Sums.{sum_by-set}
use Rattle.std.proofs.lemmas.Option.{get_or_from_slice_get, none-some, same_Some, slice_get_within}
use Rattle.mp_base.proofs.Entries.{get_set_other, get_set_same}
use Rattle.nor_net.specs.declared.net.NetId.{NetId}
use Rattle.nor_net.specs.declared.net.Part.{Part}
use Rattle.nor_net.specs.declared.net.Part.TheVariants.{Input, Gate, Latch}
use Rattle.nor_net.specs.declared.net.Phase.{Phase}
use Rattle.nor_net.specs.Elements.{Spot, Element, Given, Nor, Latched, Joined, Low}
use Rattle.nor_net.specs.Shape.{fan_in}
use Rattle.path_form.specs.declared.path.DataPath.{DataPath}
use Rattle.path_form.specs.Flat.{is_own}
use Rattle.path_form.specs.Shape.{rank}
use Rattle.path_form.specs.Showing.{path_nets}
use Rattle.path_flat.specs.Numbered.{IsFew, IsMeant, IsNumberedTo, StandsFor}
use Rattle.path_flat.proofs.Ranks.{rank_once}
use Rattle.path_flat.proofs.Stepping.{net_within}

pub get_set : {Y : Type 0} (xs : List Y) (i : ℕ) (x : Y) (n : ℕ) (y : Y) → slice_get (slice_set xs i x) n ≡ Some y
    → ((n ≡ i) × (x ≡ y)) ⊎ (slice_get xs n ≡ Some y)
get_set [] i x n y e = absurd (none-some y e)
get_set (z ∷ zs) zero x zero y e = inl (refl, same_Some x y e)
get_set (z ∷ zs) zero x (suc n) y e = inr e
get_set (z ∷ zs) (suc i) x zero y e = inr e
get_set (z ∷ zs) (suc i) x (suc n) y e =
    elim (get_set zs i x n y e) [ inl h ↦ inl (omega (arith, h.0), h.1) | inr h ↦ inr h ]

-- the element is no latch
abbrev pub NoLatch : Element → Type 0
NoLatch (Latched phase m) = ⊥
NoLatch _ = Unit {0}

module _ (p : DataPath) (t u : ℕ) (flat : List Part) (of : Spot → NetId) (so : IsNumberedTo p t u flat of) (s : Spot)
    (here : rank p.order s ≡ u) where
  -- a net that is no latch needs no data
  tests_same : (n : Spot) → (rank p.order n ≡ u → ⊥) → nat_lt (rank p.order n) u ≡ nat_lt (rank p.order n) (u + 1)
  tests_same n ne = by_place (cases_lt (rank p.order n) u)
    where
      by_place : (rank p.order n < u) ⊎ (u ≤ rank p.order n)
          → nat_lt (rank p.order n) u ≡ nat_lt (rank p.order n) (u + 1)
      by_place (inl l) = lt-ltb (rank p.order n) u l ∙ sym (lt-ltb (rank p.order n) (u + 1) (omega (arith, l)))
      by_place (inr g) = le-ltb (rank p.order n) u g ∙ sym
          (le-ltb (rank p.order n) (u + 1) (by_equal (cases_eq (rank p.order n) u)))
        where
          by_equal : (rank p.order n ≡ u) ⊎ (rank p.order n ≡ u → ⊥) → u + 1 ≤ rank p.order n
          by_equal (inl e) = absurd (ne e)
          by_equal (inr ne) = grind (arith, ne, g)

  -- what stands for nets that are no latches doesn't depend on what is fed
  retested : (a b : Bool) (n : Spot) (d : Element) → a ≡ b → StandsFor flat of a n d → StandsFor flat of b n d
  retested a b n d e h = subst (λ x. StandsFor flat of x n d) e h

  module _ (e : Element) (is : path_nets p s ≡ Some e) where
    rank_here : (n : Spot) → rank p.order n ≡ u → n ≡ s
    rank_here n r = rank_once p.order n s (r ∙ sym here) (net_within p s e is)

    pub unfed_more : NoLatch e → IsNumberedTo p t (u + 1) flat of
    unfed_more none = record {
      ordered = so.ordered;
      each = λ n d q l. each n d q (so.each n d q l);
      inside = so.inside;
      meant = so.meant;
    }
      where
        each : (n : Spot) (d : Element) → path_nets p n ≡ Some d → StandsFor flat of (nat_lt (rank p.order n) u) n d
            → StandsFor flat of (nat_lt (rank p.order n) (u + 1)) n d
        each n Given q h = h
        each n (Nor inputs) q h = h
        each n (Latched phase m) q h =
            retested (nat_lt (rank p.order n) u) (nat_lt (rank p.order n) (u + 1)) n (Latched phase m)
            (tests_same n (λ r. subst NoLatch (same_Some e (Latched phase m)
            (sym is ∙ ap (path_nets p) (sym (rank_here n r)) ∙ q)) none)) h
        each n (Joined m) q h = h
        each n Low q h = h

  module _ (phase : Phase) (m : Spot) (is : path_nets p s ≡ Some (Latched phase m))
      (within : rank p.order s < t) where
    abbrev a : ℕ
    a = (of s).0

    abbrev fed_part : Part
    fed_part = Latch phase (Some (of m))

    abbrev new : List Part
    new = slice_set flat a fed_part

    -- it isn't fed yet
    pub unfed : slice_get flat a ≡ Some (Latch phase None)
    unfed = so.each s (Latched phase m) is within
        ∙ ap (λ b. Some (Latch phase (cond b (Some (of m)) None))) (le-ltb (rank p.order s) u (omega (arith, here)))

    other : (k : ℕ) (part : Part) → slice_get flat k ≡ Some part → (Latch phase None ≡ part → ⊥)
        → slice_get new k ≡ Some part
    other k part at ne =
        get_set_other flat a fed_part k
        (λ q. ne (same_Some (Latch phase None) part (sym unfed ∙ ap (slice_get flat) (sym q) ∙ at))) ∙ at

    no_input : Latch phase None ≡ Input → ⊥
    no_input e = cc

    no_gate : (inputs : List NetId) → Latch phase None ≡ Gate inputs → ⊥
    no_gate inputs e = cc

    no_fed : (q : Phase) (x : NetId) → Latch phase None ≡ Latch q (Some x) → ⊥
    no_fed q x e = cc

    latch_each : (n : Spot) (q : Phase) (x : Spot) → path_nets p n ≡ Some (Latched q x) → rank p.order n < t
        → slice_get flat (of n).0 ≡ Some (Latch q (cond (nat_lt (rank p.order n) u) (Some (of x)) None))
        → slice_get new (of n).0 ≡ Some (Latch q (cond (nat_lt (rank p.order n) (u + 1)) (Some (of x)) None))
    latch_each n q x is_n l h = by_place (cases_lt (rank p.order n) u) (cases_eq (rank p.order n) u)
      where
        by_place : (rank p.order n < u) ⊎ (u ≤ rank p.order n) → (rank p.order n ≡ u) ⊎ (rank p.order n ≡ u → ⊥)
            → slice_get new (of n).0 ≡ Some (Latch q (cond (nat_lt (rank p.order n) (u + 1)) (Some (of x)) None))
        by_place (inl lt) c =
            let was = h ∙ ap (λ b. Some (Latch q (cond b (Some (of x)) None))) (lt-ltb (rank p.order n) u lt) in
            other (of n).0 (Latch q (Some (of x))) was (no_fed q (of x))
            ∙ ap (λ b. Some (Latch q (cond b (Some (of x)) None)))
            (sym (lt-ltb (rank p.order n) (u + 1) (omega (arith, lt))))
        by_place (inr g) (inl e) =
            let same : n ≡ s = rank_once p.order n s (e ∙ sym here) (net_within p s (Latched phase m) is) in
            let elements : Latched phase m ≡ Latched q x =
            same_Some _ _ (sym is ∙ ap (path_nets p) (sym same) ∙ is_n) in
            let phases : phase ≡ q = cc in
            let sources : m ≡ x = cc in
            ap (λ (z : Spot). slice_get new (of z).0) same
            ∙ get_set_same flat a fed_part (slice_get_within flat a (Latch phase None) unfed)
            ∙ ap (λ ph. Some (Latch ph (Some (of m)))) phases
            ∙ ap (λ (z : Spot). Some (Latch q (Some (of z)))) sources
            ∙ ap (λ b. Some (Latch q (cond b (Some (of x)) None)))
            (sym (lt-ltb (rank p.order n) (u + 1) (omega (arith, e))))
        by_place (inr g) (inr ne) =
            let gt : rank p.order s < rank p.order n = grind (arith, ne, g, here) in
            let apart = so.ordered s n (ap is_own is) (ap is_own is_n) gt l in
            let was = h ∙ ap (λ b. Some (Latch q (cond b (Some (of x)) None))) (le-ltb (rank p.order n) u g) in
            get_set_other flat a fed_part (of n).0 (λ z. absurd (omega (arith, apart, z))) ∙ was
            ∙ ap (λ b. Some (Latch q (cond b (Some (of x)) None)))
            (sym (le-ltb (rank p.order n) (u + 1) (omega (arith, gt, here))))

    fed_each : (n : Spot) (d : Element) → path_nets p n ≡ Some d → rank p.order n < t
        → StandsFor flat of (nat_lt (rank p.order n) u) n d → StandsFor new of (nat_lt (rank p.order n) (u + 1)) n d
    fed_each n Given q l h = other (of n).0 Input h no_input
    fed_each n (Nor inputs) q l h = other (of n).0 (Gate (map of inputs)) h (no_gate (map of inputs))
    fed_each n (Latched ph x) q l h = latch_each n ph x q l h
    fed_each n (Joined x) q l h = h
    fed_each n Low q l h =
        (h.0, other (of n).0 (Gate (h.0 ∷ [])) h.1 (no_gate (h.0 ∷ [])), other (h.0).0 (Gate []) h.2 (no_gate []))

    pub fed_more : IsNumberedTo p t (u + 1) new of
    fed_more = record {
      ordered = so.ordered;
      each = λ n d q l. fed_each n d q l (so.each n d q l);
      inside = λ n l. (let i = so.inside n l in let e = length-set flat a fed_part in omega (arith, i, e));
      meant = λ k part at. meant k part (get_set flat a fed_part k part at);
    }
      where
        meant : (k : ℕ) (part : Part) → ((k ≡ a) × (fed_part ≡ part)) ⊎ (slice_get flat k ≡ Some part)
            → IsMeant p t of k part
        meant k part (inl h) = subst (IsMeant p t of k) h.1 (s, m, within, is, sym h.0)
        meant k part (inr h) = so.meant k part h

    pub few_fed : IsFew p flat → IsFew p new
    few_fed few = record {
      nets = (let e = length-set flat a fed_part in let f = few.nets in omega (arith, e, f));
      inputs =
          let old = ap fan_in (get_or_from_slice_get flat a (Latch phase None) (Latch phase None) unfed) in
          let change = sum_by-set fan_in flat a fed_part (Latch phase None)
          (slice_get_within flat a (Latch phase None) unfed) in
          let f = few.inputs in omega (arith, old, change, f);
    }
