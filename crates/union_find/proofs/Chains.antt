-- Roots against chains.
use Rattle.std.proofs.Common.{◌≡◌, ℕ, ◌<◌, inl, inr, List, get_or, length, refl, sym, ◌∙◌, ap, subst, arith, max, min}
use Rattle.std.specs.Prelude.{slice_index_or, Contains, ◌+◌}
use Rattle.std.proofs.lemmas.Bool.{cases_eq, cases_lt}
use Rattle.std.proofs.lemmas.List.{get_or_default, get_or_past}
use Rattle.std.proofs.lemmas.List.Elements.{All-contains}
use Rattle.std.specs.Prelude.{All}
use Rattle.union_find.specs.declared.pair.Pair.{Pair}
use Rattle.union_find.specs.Roots.{IsBelow, root, moved, AreJoined}
use Rattle.union_find.specs.Leasts.{Paired, AreLeasts}
use Rattle.lam_geom.specs.Chains.{Chain}
use Rattle.lam_geom.specs.Chains.Chain.{here, link}
use Rattle.lam_geom.proofs.Chains.{join_chains, keep_chain, turn_chain}
use Rattle.union_find.proofs.Roots.{root_at, root_below, moved_same, moved_kept, moved_pair}

pub turn_pair : (pairs : List Pair) (i j : ℕ) → Paired pairs i j → Paired pairs j i
turn_pair pairs i j h = record { pair = h.pair; among = h.among; ends = elim h.ends [ inl e ↦ inr e | inr e ↦ inl e ] }

-- one more pair is joined
pub join_more : (pairs : List Pair) (place : ℕ) (p q : List ℕ) (c : Pair) → AreJoined pairs place p
    → place < length pairs → slice_index_or pairs place c ≡ c
    → c.a < length p → c.b < length p → length q ≡ length p → IsBelow q
    → ((k : ℕ) → root q k ≡ moved (max (root p c.a) (root p c.b)) (min (root p c.a) (root p c.b)) (root p k))
    → AreJoined pairs (place + 1) q
join_more pairs place p q c w h at ia ib e below m =
    let C : ℕ → ℕ → Type 0 = Chain (Paired pairs) in
    let r : ℕ = root p c.a in
    let s : ℕ = root p c.b in
    let ab : C c.a c.b = link (record { pair = c; among = (place, h, at); ends = inl (refl, refl) }) here in
    let ar : C c.a r = w.home c.a ia in
    let bs : C c.b s = w.home c.b ib in
    let flip : (x y : ℕ) → C x y → C y x = λ x y k. turn_chain (turn_pair pairs) k in
    let rs : C r s = join_chains (flip c.a r ar) (join_chains ab bs) in
    let sr : C s r = flip r s rs in
    let hl : C (max r s) (min r s) = elim (cases_lt r s) [
      | inl l ↦ let u : max r s ≡ s = omega arith in let v : min r s ≡ r = omega arith in rw (u, v) sr
      | inr l ↦ let u : max r s ≡ r = omega arith in let v : min r s ≡ s = omega arith in rw (u, v) rs
    ] in
    record {
      below = below;
      home = λ i l. rw (m i) (elim (cases_eq (root p i) (max r s)) [
        | inl f ↦ let step : C i (root p i) = w.home i (omega arith) in
            rw f (rw (moved_same (max r s) (min r s)) (join_chains (subst (λ n. C i n) f step) hl))
        | inr n ↦ rw (moved_kept (max r s) (min r s) (root p i) n) (w.home i (omega arith))
      ]);
      joined = λ k d l f. rw (m d.a, m d.b) (elim (cases_eq k place) [
        | inl g ↦ let same : d ≡ c = sym f ∙ (ap (λ n. get_or pairs n d) g ∙ (get_or_default pairs place d c h ∙ at)) in
            subst (λ x. moved (max r s) (min r s) (root p x.a) ≡ moved (max r s) (min r s) (root p x.b)) (sym same)
            (moved_pair r s)
        | inr n ↦ ap (moved (max r s) (min r s)) (w.joined k d (omega arith) f)
      ]);
    }

-- the roots of joined pairs are the leasts
pub joined_leasts : (pairs : List Pair) (count : ℕ) (p q : List ℕ) → AreJoined pairs (length pairs) p → length p ≡ count
    → length q ≡ count → ((k : ℕ) → k < count → get_or q k 0 ≡ root p k)
    → All (λ c. (c.a < count) × (c.b < count)) pairs → AreLeasts count pairs q
joined_leasts pairs count p q w e f at inside =
    let inner : (c : Pair) → Contains pairs c
    → (c.a < count) × (c.b < count) = λ c m. All-contains (λ d. (d.a < count) × (d.b < count)) pairs c inside m in
    let one : (i j : ℕ) → Paired pairs i j → get_or q i 0 ≡ get_or q j 0 = λ i j h.
    let c : Pair = h.pair in
    let ab : root p c.a ≡ root p c.b = let m = h.among in w.joined m.0 c m.1 m.2 in
    let r : get_or q c.a 0 ≡ get_or q c.b 0 = let k = inner c h.among in at c.a k.0 ∙ (ab ∙ sym (at c.b k.1)) in
    elim h.ends [
      | inl k ↦ sym (ap (λ n. get_or q n 0) k.0) ∙ (r ∙ ap (λ n. get_or q n 0) k.1)
      | inr k ↦ sym (ap (λ n. get_or q n 0) k.1) ∙ (sym r ∙ ap (λ n. get_or q n 0) k.0)
    ] in
    record {
      as_many = f;
      below = λ i l. rw (at i l) (root_below p w.below i);
      home = λ i l. rw (at i l) (w.home i (omega arith));
      one = λ i j c. keep_chain (λ n. get_or q n 0) one c;
    }

-- each thing as its own root
pub apart_joined : (pairs : List Pair) (count : ℕ) (p : List ℕ)
    → (length p ≡ count) × ((k : ℕ) → k < count → get_or p k 0 ≡ k) → AreJoined pairs 0 p
apart_joined pairs count p (e, h) = record {
  below = λ k. elim (cases_lt k count) [
    | inl l ↦ rw (h k l) (omega arith)
    | inr l ↦ rw (get_or_past p k 0 (omega arith)) (omega arith)
  ];
  home = λ i l. rw (root_at p i (h i (omega arith))) here;
  joined = λ m q l f. absurd (omega arith);
}
