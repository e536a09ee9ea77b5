-- All pairs, each once.
use Rattle.std.proofs.Common.{ℕ, ◌≡◌, ◌≢◌, ◌+◌, ◌<◌, ◌≤◌, List, [], ◌∷◌, ◌++◌, All, Bool, true, inl, inr, refl, sym, ap}
use Rattle.std.proofs.Common.{◌∙◌, subst, arith, length, get_or, map, take}
use Rattle.std.specs.Prelude.{min, max, AllPairs, Contains, nat_eq}
use Rattle.std.specs.Cmp.{IsTotalOrder, IsEquivalence}
use Rattle.std.specs.List.{dedup}
use Rattle.std.specs.List.Sorted.{IsPermutation, IsSorted}
use Rattle.std.specs.Ordering.{nat_cmp, eq_by_cmp, on, then_cmp, eq_of_both}
use Rattle.std.proofs.Common.{Ordering, Less}
use Rattle.std.proofs.lemmas.Bool.{cases_lt}
use Rattle.std.proofs.lemmas.Bool.Decides.{nat_tests}
use Rattle.std.proofs.lemmas.Cmp.{nat_cmp_total, nat_eq_equiv, on_total, then_total, on_equiv, and_equiv}
use Rattle.std.proofs.lemmas.Int.{ints, by_lt_z}
use Rattle.std.proofs.lemmas.List.{get_or-map, length-map, map-append, take_more}
use Rattle.std.proofs.lemmas.List.Elements.{All-contains, All-map, Contains-get_or}
use Rattle.std.proofs.lemmas.List.Kept.{Contains-dedup, Contains-from_dedup, IsStrictlySortedBy-dedup}
use Rattle.std.proofs.lemmas.List.Sorted.{Contains-permutation, IsPermutation-sym}
use Rattle.std.proofs.lemmas.Map.Keys.{Less-from_sorted}
use Rattle.std.proofs.lemmas.Option.{slice_get-get_or, slice_get_within, get_or_from_slice_get}
use Rattle.lam_geom.specs.declared.layer.Layer.{Layer}
use Rattle.lam_geom.specs.declared.rect.Rect.{Rect}
use Rattle.lam_geom.specs.Squares.{Touch, rank}
use Rattle.lam_geom.proofs.SquareOrder.{of_ranks}
use Rattle.union_find.specs.declared.pair.Pair.{Pair}
use Rattle.layer_strips.specs.declared.part.Part.{Part}
use Rattle.layer_strips.specs.declared.part.Part.TheVariants.{Body, Top}
use Rattle.layer_strips.specs.Strips.{TouchAt, AreTouchingPairs}
use Rattle.layer_strips.specs.Layers.{pair_of}
use Rattle.layer_strips.specs.Sweep.{strip, no_strip, IsPair, IsOf, Joins, Grows, Catches}
use Rattle.layer_strips.proofs.Collected.{rank_below}
use Rattle.layer_strips.proofs.Meeting.{near}

-- the pairs of the first layers
pub record AreCaught (strips : List Rect) (count : ℕ) (pairs : List (ℕ × ℕ)) : Type 0 where
  pub sound : All (IsPair strips) pairs
  pub caught : (l : Layer) (part : Part) → rank l < count → Catches l part strips pairs

module _ (strips : List Rect) where
  pub caught_none : AreCaught strips 0 []
  caught_none = record { sound = λ k d l. absurd (omega arith); caught = λ l part m. absurd (omega arith) }

  kept : (l : Layer) (part : Part) (old new : List (ℕ × ℕ)) → Grows strips old new → Catches l part strips old
      → Catches l part strips new
  kept l part old new g h = λ i j a b c d e f. g.kept _ (h i j a b c d e f)

  pub caught_more : (n : ℕ) (l : Layer) (old mid new : List (ℕ × ℕ)) → rank l ≡ n → Grows strips old mid
      → Catches l Body strips mid
      → Grows strips mid new → Catches l Top strips new → AreCaught strips n old → AreCaught strips (n + 1) new
  caught_more n l old mid new e g a h b v = record {
    sound = h.sound (g.sound v.sound);
    caught = λ o part k. elim (cases_lt (rank o) n) [
      | inl d ↦ kept o part mid new h (kept o part old mid g (v.caught o part d))
      | inr d ↦ by_part o (of_ranks l o (omega arith)) part
    ];
  }
    where
      by_part : (o : Layer) → l ≡ o → (part : Part) → Catches o part strips new
      by_part o p Body = subst (λ z. Catches z Body strips new) p (kept l Body mid new h a)
      by_part o p Top = subst (λ z. Catches z Top strips new) p b

  -- the pair is there whichever of the two asks
  pub complete : (n : ℕ) (pairs : List (ℕ × ℕ)) → 7 ≤ n → AreCaught strips n pairs → (a b : ℕ) → a < b
      → b < length strips
      → Touch (strip strips a) (strip strips b) → Contains pairs (a, b)
  complete n pairs l v a b m o t =
      let r = strip strips a in
      let q = strip strips b in
      let w = near r q t in
      let low = w.low in
      let high = w.high in
      let ra = rank_below r.layer in
      let rq = rank_below q.layer in
      let ofa : IsOf r.layer strips a = record { inside = omega arith; same = refl } in
      let ofb : IsOf q.layer strips b = record { inside = o; same = refl } in
      by_lt_z q.y0 r.y0
      (λ x. by_lt_z r.y0 q.y1
      (λ y. in_order a b m t
      (v.caught q.layer Body (omega arith) b a ofb (omega arith) (omega (arith, ints)) (omega (arith, ints))))
      (λ y. in_order a b m t
      (v.caught q.layer Top (omega arith) b a ofb (omega arith) (omega (arith, ints)) (omega (arith, ints)))))
      (λ x. by_lt_z q.y0 r.y1
      (λ y. turned a b m t (v.caught r.layer Body (omega arith) a b ofa o (omega (arith, ints)) (omega (arith, ints))))
      (λ y. turned a b m t (v.caught r.layer Top (omega arith) a b ofa o (omega (arith, ints)) (omega (arith, ints)))))
    where
      told : (a b i j : ℕ) → a < b → min i j ≡ a → max i j ≡ b → Touch (strip strips a) (strip strips b)
          → Joins strips i j pairs
          → Contains pairs (a, b)
      told a b i j m e f t h = subst (λ (p : ℕ × ℕ). Contains pairs p) (λ z. (e z, f z))
          (h (omega arith)
          (subst (λ z. Touch (strip strips z) (strip strips (max i j))) (sym e)
          (subst (λ z. Touch (strip strips a) (strip strips z)) (sym f) t)))

      in_order : (a b : ℕ) → a < b → Touch (strip strips a) (strip strips b) → Joins strips a b pairs
          → Contains pairs (a, b)
      in_order a b m t h = told a b a b m (omega arith) (omega arith) t h

      turned : (a b : ℕ) → a < b → Touch (strip strips a) (strip strips b) → Joins strips b a pairs
          → Contains pairs (a, b)
      turned a b m t h = told a b b a m (omega arith) (omega arith) t h

-- ---- pairs in order, each once

abbrev pub pair_eq : ℕ × ℕ → ℕ × ℕ → Bool
pair_eq = eq_of_both (on (λ (p : ℕ × ℕ). p.0) nat_eq) (on (λ (p : ℕ × ℕ). p.1) nat_eq)

abbrev pub pair_cmp : ℕ × ℕ → ℕ × ℕ → Ordering
pair_cmp = then_cmp (on (λ (p : ℕ × ℕ). p.0) nat_cmp) (on (λ (p : ℕ × ℕ). p.1) nat_cmp)

pairs_total : IsTotalOrder pair_cmp
pairs_total = then_total (on_total (λ (p : ℕ × ℕ). p.0) nat_cmp_total) (on_total (λ (p : ℕ × ℕ). p.1) nat_cmp_total)

pairs_equiv : IsEquivalence pair_eq
pairs_equiv = and_equiv (on_equiv (λ (p : ℕ × ℕ). p.0) nat_eq_equiv) (on_equiv (λ (p : ℕ × ℕ). p.1) nat_eq_equiv)

ties : (x y : ℕ × ℕ) → pair_eq x y ≡ eq_by_cmp pair_cmp x y
ties x y = grind (arith, nat_tests)

equal_pairs : (x y : ℕ × ℕ) → pair_eq x y ≡ true → x ≡ y
equal_pairs x y h =
    let e : x.0 ≡ y.0 = grind (arith, nat_tests) in
    let f : x.1 ≡ y.1 = grind (arith, nat_tests) in
    λ z. (e z, f z)

not_less : (x : ℕ × ℕ) → pair_cmp x x ≡ Less → ⊥
not_less x h = grind (arith, nat_tests)

pub still_there : (old xs ys : List (ℕ × ℕ)) (p : ℕ × ℕ) → IsPermutation old xs → ys ≡ dedup pair_eq xs
    → Contains old p → Contains ys p
still_there old xs ys p m e h =
    subst (λ zs. Contains zs p) (sym e)
    (Contains-dedup pairs_equiv equal_pairs xs p (Contains-permutation old xs p m h))

pub was_there : (old xs ys : List (ℕ × ℕ)) (p : ℕ × ℕ) → IsPermutation old xs → ys ≡ dedup pair_eq xs → Contains ys p
    → Contains old p
was_there old xs ys p m e h =
    Contains-permutation xs old p (IsPermutation-sym old xs m)
    (Contains-from_dedup pair_eq xs p (subst (λ zs. Contains zs p) e h))

pub each_once : (xs ys : List (ℕ × ℕ)) → IsSorted pair_cmp xs → ys ≡ dedup pair_eq xs → AllPairs (λ p q. p ≢ q) ys
each_once xs ys h e = subst (AllPairs (λ p q. p ≢ q)) (sym e) (λ i j d l m f.
    let g = Less-from_sorted pair_cmp (dedup pair_eq xs) i j d (IsStrictlySortedBy-dedup pairs_total ties xs h) l m in
    not_less (get_or (dedup pair_eq xs) i d) (subst (λ q. pair_cmp (get_or (dedup pair_eq xs) i d) q ≡ Less) (sym f) g))

-- ---- the numbers as pairs

module _ (strips : List Rect) where
  touch_at : (p : ℕ × ℕ) → IsPair strips p → TouchAt strips p.0 p.1
  touch_at p h = let o = h.order in let i = h.inside in record {
    order = o;
    first = strip strips p.0;
    second = strip strips p.1;
    at_first = slice_get-get_or strips p.0 no_strip (omega arith);
    at_second = slice_get-get_or strips p.1 no_strip i;
    touch = h.touch;
  }

  contains_map : (ps : List (ℕ × ℕ)) (p : ℕ × ℕ) → Contains ps p → Contains (map pair_of ps) (pair_of p)
  contains_map ps p h = (
    h.0,
    (let m = h.1 in let n = length-map ps pair_of in omega arith),
    get_or-map pair_of ps h.0 p (pair_of p) h.1 ∙ ap pair_of h.2,
  )

  pub are_touching : (old ps : List (ℕ × ℕ)) → ((p : ℕ × ℕ) → Contains ps p → Contains old p)
      → ((p : ℕ × ℕ) → Contains old p
      → Contains ps p)
      → AllPairs (λ p q. p ≢ q) ps → All (IsPair strips) old
      → ((a b : ℕ) → a < b → b < length strips → Touch (strip strips a) (strip strips b) → Contains old (a, b))
      → AreTouchingPairs strips (map pair_of ps)
  are_touching old ps was still once sound all = record {
    each = All-map (λ p. TouchAt strips p.a p.b) pair_of ps
        (λ k d l. touch_at (get_or ps k d)
        (All-contains (IsPair strips) old (get_or ps k d) sound (was (get_or ps k d) (Contains-get_or ps k d l))));
    all = λ p h.
        let l = slice_get_within strips p.b h.second h.at_second in
        let a : strip strips p.a ≡ h.first = get_or_from_slice_get strips p.a h.first no_strip h.at_first in
        let b : strip strips p.b ≡ h.second = get_or_from_slice_get strips p.b h.second no_strip h.at_second in
        contains_map ps (p.a, p.b) (still (p.a, p.b) (all p.a p.b h.order l
        (subst (λ r. Touch r (strip strips p.b)) (sym a) (subst (λ q. Touch h.first q) (sym b) h.touch))));
    once = λ i j d l m e.
        let len = length-map ps pair_of in
        let none : ℕ × ℕ = (0, 0) in
        let a : get_or (map pair_of ps) i d ≡ pair_of (get_or ps i none) =
        get_or-map pair_of ps i none d (omega arith) in
        let b : get_or (map pair_of ps) j d ≡ pair_of (get_or ps j none) =
        get_or-map pair_of ps j none d (omega arith) in
        let f : pair_of (get_or ps i none) ≡ pair_of (get_or ps j none) = sym a ∙ e ∙ b in
        once i j none l (omega arith) (λ z. ((f z).a, (f z).b));
  }

pub pairs_more : (ps : List (ℕ × ℕ)) (i : ℕ) (d : ℕ × ℕ) (old new : List Pair) → i < length ps
    → old ≡ map pair_of (take i ps)
    → new ≡ old ++ pair_of (get_or ps i d) ∷ [] → new ≡ map pair_of (take (i + 1) ps)
pairs_more ps i d old new m h e =
    let x = get_or ps i d in
    e ∙ ap (λ s. s ++ pair_of x ∷ []) h ∙ sym (map-append pair_of (take i ps) (x ∷ []))
    ∙ ap (map pair_of) (sym (take_more ps i d m))
