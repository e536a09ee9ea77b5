-- What a part covers after its halves, or it as a whole, are raised.
use Rattle.std.proofs.Common.{◌≡◌, ◌≢◌, ℕ, ◌+◌, ◌/◌, ◌<◌, ◌≤◌, inl, inr, List, set, length, refl, sym, ◌∙◌}
use Rattle.std.proofs.Common.{ap, max, arith}
use Rattle.std.proofs.lemmas.Bool.{cases_lt}
use Rattle.std.proofs.lemmas.List.{get_or-set_same, get_or-set_other}
use Rattle.lam_geom.specs.declared.layer.Layer.{Layer}
use Rattle.cover_tree.specs.declared.part.Part.{Part}
use Rattle.cover_tree.specs.declared.trees.Trees.{Trees}
use Rattle.cover_tree.specs.Parts.{left_half, right_half, top_at, top_of, InPart, IsPartRaised}
use Rattle.cover_tree.specs.Nodes.{layer_top, stale}
use Rattle.cover_tree.specs.Layered.{node_at, tree}
use Rattle.cover_tree.specs.Notes.{note_at, AreNoted, AreHalvesNoted, AreHalvesTold, IsTold, Beside, IsOnlyIn}
use Rattle.cover_tree.proofs.Nodes.{node_top}
use Rattle.cover_tree.proofs.Tops.{top_leaf, top_left, top_right, SamePart, same_top}
use Rattle.cover_tree.proofs.Noting.{SameIn, same_tops, is_told_same, noted_left, noted_right}
use Rattle.cover_tree.proofs.Noting.{are_noted_same, stale_whole}

top_same : (s : List ℕ) (k n : ℕ) → k < length s → top_at (set s k n) k ≡ n
top_same s k n h = get_or-set_same s k n 0 h

top_other : (s : List ℕ) (j k n : ℕ) → k ≢ j → top_at (set s j n) k ≡ top_at s k
top_other s j k n h = get_or-set_other s j k n 0 h

set_left : (s : List ℕ) (p : Part) (n : ℕ) → SamePart s (set s p.at n) (left_half p)
set_left s p n = record { same = λ k l m. top_other s p.at k n (omega arith) }

set_right : (s : List ℕ) (p : Part) (n : ℕ) → 2 ≤ p.width → SamePart s (set s p.at n) (right_half p)
set_right s p n h = record { same = λ k l m. top_other s p.at k n (omega arith) }

-- the part as a whole is raised
lifted_top : (s : List ℕ) (p : Part) (row c : ℕ) → 0 < p.width → p.at < length s
    → top_of (set s p.at (max (top_at s p.at) row)) p c ≡ max (top_of s p c) row
lifted_top s p row c v i =
    let m : ℕ = max (top_at s p.at) row in
    let new : List ℕ = set s p.at m in
    let e : top_at new p.at ≡ max (top_at s p.at) row = top_same s p.at m i in
    elim (cases_lt p.width 2) [
      | inl l ↦ let a = top_leaf new p c l in let b = top_leaf s p c l in omega arith
      | inr l ↦ elim (cases_lt c (p.base + p.width / 2)) [
        | inl k ↦
            let a = top_left new p c l k in
            let b = top_left s p c l k in
            let d = same_top s new (left_half p) c (omega arith) (set_left s p m) in
            omega arith
        | inr k ↦
            let a = top_right new p c l k in
            let b = top_right s p c l k in
            let d = same_top s new (right_half p) c (omega arith) (set_right s p m l) in
            omega arith
      ]
    ]

pub raised_all : (s : List ℕ) (p : Part) (from to row : ℕ) → 0 < p.width → p.at < length s
    → from ≤ p.base → p.base + p.width ≤ to
    → IsPartRaised s (set s p.at (max (top_at s p.at) row)) p from to row
raised_all s p from to row v i low high = record {
  inside = λ c h k l. lifted_top s p row c v i;
  beside = λ c h k. let h0 = h.from in let h1 = h.to in
      elim k [ inl l ↦ absurd (omega arith) | inr l ↦ absurd (omega arith) ];
}

-- the part has none of these cells
raised_none : (s : List ℕ) (p : Part) (from to row : ℕ)
    → ((c : ℕ) → InPart p c → from ≤ c → to ≤ c) → IsPartRaised s s p from to row
raised_none s p from to row past = record {
  inside = λ c i k l. let m = past c i k in absurd (omega arith);
  beside = λ c i k. refl;
}

-- trees of which one has another node at one place
module _ (t u : Trees) (at : ℕ) (beside : (k : ℕ) → k ≢ at → node_at u k ≡ node_at t k)
    (many : length u.nodes.items ≡ length t.nodes.items) (further : u.further ≡ t.further)
    (since : u.since ≡ t.since) where
  lifted_in : (p : Part) → at < p.at → SameIn p t u
  lifted_in p h = record {
    nodes = λ k i j. beside k (omega arith);
    further = further;
    since = since;
  }

  pub lifted_halves : (p : Part) → p.at ≡ at → 0 < p.width → AreNoted t p → AreHalvesNoted u p
  lifted_halves p h v k = record {
    left = λ w. are_noted_same (left_half p) t u (omega arith) (lifted_in (left_half p) (omega arith))
        (noted_left t p w k);
    right = λ w. are_noted_same (right_half p) t u (omega arith) (lifted_in (right_half p) (omega arith))
        (noted_right t p w k);
  }

-- the right half is as before after the left one has changed, and the left one as then after the right one has
beside_left : (p : Part) (k : ℕ) → 2 ≤ p.width → Beside p k → Beside (left_half p) k
beside_left p k h b = elim b [ inl i ↦ inl (omega arith) | inr i ↦ inr (omega arith) ]

beside_right : (p : Part) (k : ℕ) → 2 ≤ p.width → Beside p k → Beside (right_half p) k
beside_right p k h b = elim b [ inl i ↦ inl (omega arith) | inr i ↦ inr (omega arith) ]

pub right_was : (t u : Trees) (p : Part) → 2 ≤ p.width → IsOnlyIn (left_half p) t u → SameIn (right_half p) t u
right_was t u p h o = record {
  nodes = λ k i j. o.nodes k (inr (omega arith));
  further = o.further;
  since = o.since;
}

pub left_was : (t u : Trees) (p : Part) → 2 ≤ p.width → IsOnlyIn (right_half p) t u → SameIn (left_half p) t u
left_was t u p h o = record {
  nodes = λ k i j. o.nodes k (inl (omega arith));
  further = o.further;
  since = o.since;
}

pub right_noted : (t u : Trees) (p : Part) → 2 ≤ p.width → IsOnlyIn (left_half p) t u
    → AreNoted t p → AreNoted u (right_half p)
right_noted t u p h o k =
    are_noted_same (right_half p) t u (omega arith) (right_was t u p h o) (noted_right t p h k)

pub both_noted : (t u : Trees) (p : Part) → 2 ≤ p.width → IsOnlyIn (right_half p) t u
    → AreNoted t (left_half p)
    → AreNoted u (right_half p) → AreHalvesNoted u p
both_noted t u p h o a b =
    record { left = λ _. are_noted_same (left_half p) t u (omega arith) (left_was t u p h o) a; right = λ _. b }

-- and both are told
pub both_told : (t u : Trees) (p : Part) → 2 ≤ p.width → IsOnlyIn (right_half p) t u → IsTold t (left_half p)
    → IsTold u (right_half p) → AreHalvesTold u p
both_told t u p h o a b =
    record { left = λ _. is_told_same (left_half p) t u (omega arith) (left_was t u p h o) a; right = λ _. b }

top_beside : (t u : Trees) (p : Part) → IsOnlyIn p t u → (l : Layer) (k : ℕ) → Beside p k
    → top_at (tree u l) k ≡ top_at (tree t l) k
top_beside t u p o l k b =
    node_top u l k ∙ (λ x. layer_top l (o.further x) (o.nodes k b x).tops) ∙ sym (node_top t l k)

module _ (old one two : Trees) (p : Part) (h : 2 ≤ p.width)
    (lo : IsOnlyIn (left_half p) old one) (ro : IsOnlyIn (right_half p) one two) where
  own_top : (l : Layer) → top_at (tree two l) p.at ≡ top_at (tree old l) p.at
  own_top l = top_beside one two (right_half p) ro l p.at (inl (omega arith))
      ∙ top_beside old one (left_half p) lo l p.at (inl (omega arith))

  pub both_raised : (layer : Layer) (from to row : ℕ)
      → IsPartRaised (tree old layer) (tree one layer) (left_half p) from to row
      → IsPartRaised (tree one layer) (tree two layer) (right_half p) from to row
      → IsPartRaised (tree old layer) (tree two layer) p from to row
  both_raised layer from to row a b =
      let o = own_top layer in
      let left_top =
      λ (c : ℕ). same_top (tree one layer) (tree two layer) (left_half p) c (omega arith)
      (same_tops (left_half p) one two (left_was one two p h ro) layer) in
      let right_top =
      λ (c : ℕ). same_top (tree old layer) (tree one layer) (right_half p) c (omega arith)
      (same_tops (right_half p) old one (right_was old one p h lo) layer) in
      record {
        inside = λ c i f g. let i0 = i.from in let i1 = i.to in elim (cases_lt c (p.base + p.width / 2)) [
          | inl k ↦
              let x = top_left (tree two layer) p c h k in
              let y = top_left (tree old layer) p c h k in
              let z = left_top c in
              let w = a.inside c (record { from = omega arith; to = omega arith }) f g in
              omega arith
          | inr k ↦
              let x = top_right (tree two layer) p c h k in
              let y = top_right (tree old layer) p c h k in
              let z = right_top c in
              let w = b.inside c (record { from = omega arith; to = omega arith }) f g in
              omega arith
        ];
        beside = λ c i f. let i0 = i.from in let i1 = i.to in elim (cases_lt c (p.base + p.width / 2)) [
          | inl k ↦
              let x = top_left (tree two layer) p c h k in
              let y = top_left (tree old layer) p c h k in
              let z = left_top c in
              let w = a.beside c (record { from = omega arith; to = omega arith }) f in
              omega arith
          | inr k ↦
              let x = top_right (tree two layer) p c h k in
              let y = top_right (tree old layer) p c h k in
              let z = right_top c in
              let w = b.beside c (record { from = omega arith; to = omega arith }) f in
              omega arith
        ];
      }

  own_note : note_at old p.at ≡ stale → note_at two p.at ≡ stale
  own_note e =
      ap (λ n. n.note) (ro.nodes p.at (inl (omega arith)) ∙ lo.nodes p.at (inl (omega arith))) ∙ e

  -- a part whose note is forgotten stays noted
  pub both_whole : note_at old p.at ≡ stale → AreNoted one (left_half p) → AreNoted two (right_half p) → AreNoted two p
  both_whole e a b = stale_whole two p (own_note e) (both_noted one two p h ro a b)

  pub both_only : (new : Trees) → IsOnlyIn p two new → IsOnlyIn p old new
  both_only new n = record {
    nodes = λ k b. n.nodes k b ∙ ro.nodes k (beside_right p k h b) ∙ lo.nodes k (beside_left p k h b);
    as_many = n.as_many ∙ ro.as_many ∙ lo.as_many;
    further = n.further ∙ ro.further ∙ lo.further;
    since = n.since ∙ ro.since ∙ lo.since;
  }

-- no change
pub only_none : (p : Part) (t : Trees) → IsOnlyIn p t t
only_none p t = record { nodes = λ k b. refl; as_many = refl; further = refl; since = refl }

-- one half alone is raised, since the other has none of these cells
module _ (t u : Trees) (p : Part) (h : 2 ≤ p.width) where
  pub left_raised : IsOnlyIn (left_half p) t u → (layer : Layer) (from to row : ℕ)
      → to ≤ p.base + p.width / 2
      → IsPartRaised (tree t layer) (tree u layer) (left_half p) from to row
      → IsPartRaised (tree t layer) (tree u layer) p from to row
  left_raised o layer from to row e a =
      both_raised t u u p h o (only_none (right_half p) u) layer from to row a
      (raised_none (tree u layer) (right_half p) from to row (λ c i k. let i0 = i.from in omega arith))

  pub right_raised : IsOnlyIn (right_half p) t u → (layer : Layer) (from to row : ℕ)
      → p.base + p.width / 2 ≤ from
      → IsPartRaised (tree t layer) (tree u layer) (right_half p) from to row
      → IsPartRaised (tree t layer) (tree u layer) p from to row
  right_raised o layer from to row e b =
      both_raised t t u p h (only_none (left_half p) t) o layer from to row
      (raised_none (tree t layer) (left_half p) from to row (λ c i k. let i1 = i.to in absurd (omega arith))) b

  pub left_whole : IsOnlyIn (left_half p) t u → note_at t p.at ≡ stale → AreNoted t p → AreNoted u (left_half p)
      → AreNoted u p
  left_whole o e n a = both_whole t u u p h o (only_none (right_half p) u) e a (right_noted t u p h o n)

  pub right_whole : IsOnlyIn (right_half p) t u → note_at t p.at ≡ stale → AreNoted t p → AreNoted u (right_half p)
      → AreNoted u p
  right_whole o e n b = both_whole t t u p h (only_none (left_half p) t) o e (noted_left t p h n) b
