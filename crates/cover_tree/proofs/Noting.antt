-- Notes, as the trees change.
use Rattle.std.proofs.Common.{◌≡◌, ◌≢◌, ℕ, ◌+◌, ◌*◌, ◌/◌, ◌<◌, ◌≤◌, inl, inr, List, set, length, refl, sym, ◌∙◌, ap}
use Rattle.std.proofs.Common.{arith}
use Rattle.std.proofs.Math.Logic.{∥∥₁_map}
use Rattle.std.proofs.lemmas.Bool.{cases_lt}
use Rattle.lam_geom.specs.declared.layer.Layer.{Layer}
use Rattle.mask_runs.specs.declared.mask.Layers.{Layers}
use Rattle.mask_runs.specs.Colours.{bare}
use Rattle.cover_tree.specs.declared.node.Node.{Node}
use Rattle.cover_tree.specs.declared.note.Note.{Note}
use Rattle.cover_tree.specs.declared.part.Part.{Part}
use Rattle.cover_tree.specs.declared.trees.Trees.{Trees}
use Rattle.cover_tree.specs.Parts.{left_half, right_half, top_of, InPart, Within}
use Rattle.cover_tree.specs.Parts.Within.{here, left, right}
use Rattle.cover_tree.specs.declared.layer_set.LayerSet.{LayerSet}
use Rattle.cover_tree.specs.Kinds.{both, union, HasKind}
use Rattle.cover_tree.specs.Nodes.{layer_top, layers_of, set_tops, stale}
use Rattle.cover_tree.specs.Layered.{tree, told_tree, node_at}
use Rattle.cover_tree.specs.Looking.{seen_by, seen, told, own_by, own_at, told_at}
use Rattle.cover_tree.specs.Notes.{note_at, IsNoted, IsTold, AreNoted, AreHalvesNoted, AreHalvesTold, Beside, IsOnlyIn}
use Rattle.cover_tree.proofs.Nodes.{node_top, told_top, told_above, tree_same, node_other, node_own, as_many}
use Rattle.cover_tree.proofs.Tops.{SamePart, same_top}
use Rattle.cover_tree.proofs.Sets.{layers_union}
use Rattle.cover_tree.proofs.Looking.{seen_leaf, seen_left, seen_right, seen_alike}

pub beside_own : (p : Part) (k at : ℕ) → 0 < p.width → p.at ≡ at → Beside p k → k ≢ at
beside_own p k at v e b f = elim b [ inl h ↦ absurd (omega arith) | inr h ↦ absurd (omega arith) ]

-- the trees are the same at the part's places
pub record SameIn (p : Part) (t u : Trees) : Type 0 where
  pub nodes : (k : ℕ) → p.at ≤ k → k + 1 < p.at + 2 * p.width → node_at u k ≡ node_at t k
  pub further : u.further ≡ t.further
  pub since : u.since ≡ t.since

pub in_left : (p : Part) (t u : Trees) → 2 ≤ p.width → SameIn p t u → SameIn (left_half p) t u
in_left p t u h e = record {
  nodes = λ k i j. e.nodes k (omega arith) (omega arith);
  further = e.further;
  since = e.since;
}

pub in_right : (p : Part) (t u : Trees) → 2 ≤ p.width → SameIn p t u → SameIn (right_half p) t u
in_right p t u h e = record {
  nodes = λ k i j. e.nodes k (omega arith) (omega arith);
  further = e.further;
  since = e.since;
}

in_within : (q p : Part) (t u : Trees) → 0 < p.width → Within q p → SameIn p t u → (0 < q.width) × SameIn q t u
in_within q p t u v here e = (v, e)
in_within q p t u v (left h w) e = in_within q (left_half p) t u (omega arith) w (in_left p t u h e)
in_within q p t u v (right h w) e = in_within q (right_half p) t u (omega arith) w (in_right p t u h e)

pub same_tops : (p : Part) (t u : Trees) → SameIn p t u → (l : Layer) → SamePart (tree t l) (tree u l) p
same_tops p t u e l = record {
  same = λ k i j. node_top u l k ∙ (λ x. layer_top l (e.further x) (e.nodes k i j x).tops) ∙ sym (node_top t l k);
}

same_told : (p : Part) (t u : Trees) → SameIn p t u → (l : Layer) → SamePart (told_tree t l) (told_tree u l) p
same_told p t u e l = record {
  same = λ k i j. told_top u l k ∙ (λ x. layer_top l (e.further x) (set_tops (e.nodes k i j x).told))
      ∙ sym (told_top t l k);
}

part_same : (a b : Layer → List ℕ) (p : Part) → 0 < p.width → ((l : Layer) → SamePart (a l) (b l) p) → (row : ℕ)
    (known : Layers) (c : ℕ)
    → seen_by b row p known c ≡ seen_by a row p known c
part_same a b p v e row known c = seen_alike a b p (λ l i c. same_top (a l) (b l) p c v (e l) i) row known c

-- and have the same layers over its cells
pub seen_same : (p : Part) (t u : Trees) → 0 < p.width → SameIn p t u → (row : ℕ) (known : Layers) (c : ℕ)
    → seen u row p known c ≡ seen t row p known c
seen_same p t u v e row known c = part_same (tree t) (tree u) p v (same_tops p t u e) row known c

pub told_same : (p : Part) (t u : Trees) → 0 < p.width → SameIn p t u → (known : Layers) (c : ℕ)
    → told u p known c ≡ told t p known c
told_same p t u v e known c = part_same (told_tree t) (told_tree u) p v (same_told p t u e) 0 known c

noted_alike : (p : Part) (t u : Trees) (n : Note)
    → ((row c : ℕ) → seen u row p bare c ≡ seen t row p bare c) → u.since ≡ t.since → u.further ≡ t.further
    → IsNoted t p n → IsNoted u p n
noted_alike p t u n e f g h = record {
  steady =
      λ row c i j k. rw (f, e row c, e t.since c) (h.steady row c (omega (arith, f)) j k);
  kinds = λ c j k. ∥∥₁_map (h.kinds c (omega (arith, f)) k) (λ q. record {
    kind = q.kind;
    has = q.has;
    same = ap (λ r. seen u r p bare c) f ∙ e t.since c ∙ q.same ∙ ap (λ l. layers_of l q.kind) (sym g);
  });
}

pub is_told_same : (p : Part) (t u : Trees) → 0 < p.width → SameIn p t u → IsTold t p → IsTold u p
is_told_same p t u v e h = record {
  each = λ c i. told_same p t u v e bare c ∙ h.each c i ∙ sym (seen_same p t u v e t.since bare c)
      ∙ ap (λ r. seen u r p bare c) (sym e.since);
}

pub are_noted_same : (p : Part) (t u : Trees) → 0 < p.width → SameIn p t u → AreNoted t p
    → AreNoted u p
are_noted_same p t u v e h = record {
  each = λ q w.
      let m = in_within q p t u v w e in
      let n = m.0 in
      let o : SameIn q t u = m.1 in
      let e : note_at u q.at ≡ note_at t q.at = ap (λ m. m.note) (o.nodes q.at (omega arith) (omega arith)) in
      rw e
      (noted_alike q t u (note_at t q.at) (λ row c. seen_same q t u n o row bare c) o.since o.further (h.each q w));
  told = λ q w l.
      let m = in_within q p t u v w e in
      let n = m.0 in
      let o : SameIn q t u = m.1 in
      let e : note_at u q.at ≡ note_at t q.at = ap (λ m. m.note) (o.nodes q.at (omega arith) (omega arith)) in
      is_told_same q t u n o (h.told q w (rw (e, o.since) at l));
}

pub noted_left : (t : Trees) (p : Part) → 2 ≤ p.width → AreNoted t p → AreNoted t (left_half p)
noted_left t p h k = record { each = λ q w. k.each q (left h w); told = λ q w. k.told q (left h w) }

pub noted_right : (t : Trees) (p : Part) → 2 ≤ p.width → AreNoted t p
    → AreNoted t (right_half p)
noted_right t p h k = record { each = λ q w. k.each q (right h w); told = λ q w. k.told q (right h w) }

pub noted_halves : (t : Trees) (p : Part) → AreNoted t p → AreHalvesNoted t p
noted_halves t p k = record { left = λ w. noted_left t p w k; right = λ w. noted_right t p w k }

module _ (t : Trees) (p : Part) (a : IsNoted t p (note_at t p.at))
    (b : t.since < (note_at t p.at).until → IsTold t p) (h : AreHalvesNoted t p) where
  whole : (q : Part) → Within q p → IsNoted t q (note_at t q.at)
  whole q here = a
  whole q (left i w) = (h.left i).each q w
  whole q (right i w) = (h.right i).each q w

  whole_told : (q : Part) → Within q p → t.since < (note_at t q.at).until → IsTold t q
  whole_told q here = b
  whole_told q (left i w) = (h.left i).told q w
  whole_told q (right i w) = (h.right i).told q w

  pub noted_whole : AreNoted t p
  noted_whole = record { each = whole; told = whole_told }

-- the layers of a node stay while the tops do
pub own_same : (t u : Trees) (own : LayerSet) (k : ℕ) → u.further ≡ t.further → u.since ≡ t.since
    → ((l : Layer) → tree u l ≡ tree t l) → layers_of t.further own ≡ own_at t t.since k
    → layers_of u.further own ≡ own_at u u.since k
own_same t u own k further since tops e =
    ap (λ l. layers_of l own) further ∙ e ∙ (λ i. own_by (λ l. sym (tops l) i) (sym since i) k)

-- a part is told, by its own node and its halves
pub told_whole : (t : Trees) (p : Part) → told_at t p.at ≡ own_at t t.since p.at → AreHalvesTold t p → IsTold t p
told_whole t p e a = record {
  each = λ c i. let i0 = i.from in let i1 = i.to in elim (cases_lt p.width 2) [
    | inl h ↦ seen_leaf (told_tree t) p 0 bare c h ∙ e ∙ sym (seen_leaf (tree t) p t.since bare c h)
    | inr h ↦ elim (cases_lt c (p.base + p.width / 2)) [
      | inl w ↦
          let o : InPart (left_half p) c = record { from = omega arith; to = omega arith } in
          seen_left (told_tree t) p 0 bare c h w
          ∙ (λ x. both (e x) ((a.left h).each c o x)) ∙ sym (seen_left (tree t) p t.since bare c h w)
      | inr w ↦
          let o : InPart (right_half p) c = record { from = omega arith; to = omega arith } in
          seen_right (told_tree t) p 0 bare c h w
          ∙ (λ x. both (e x) ((a.right h).each c o x)) ∙ sym (seen_right (tree t) p t.since bare c h w)
    ]
  ];
}

-- a part has another node with the same tops
module _ (t u : Trees) (p : Part) (n : Node) (v : 0 < p.width) (i : p.at < length t.nodes.items)
    (nodes : u.nodes.items ≡ set t.nodes.items p.at n)
    (tops : n.tops ≡ (node_at t p.at).tops) (further : u.further ≡ t.further) (since : u.since ≡ t.since) where
  own_node : node_at u p.at ≡ n
  own_node = node_own t u p.at n nodes further i

  pub anew_note : note_at u p.at ≡ n.note
  anew_note = ap (λ m. m.note) own_node

  pub anew_tops : (l : Layer) → tree u l ≡ tree t l
  anew_tops l = tree_same t u p.at n nodes further l (ap (λ m. layer_top l t.further m) tops)

  anew_seen : (q : Part) (row : ℕ) (known : Layers) (c : ℕ) → seen u row q known c ≡ seen t row q known c
  anew_seen q row known c = seen_alike (tree t) (tree u) q (λ l. ap (λ s. top_of s q) (anew_tops l)) row known c

  same_behind : (q : Part) → p.at < q.at → SameIn q t u
  same_behind q h = record {
    nodes = λ k a b. node_other t u p.at n nodes further k (omega arith);
    further = further;
    since = since;
  }

  halves_anew : AreHalvesNoted t p → AreHalvesNoted u p
  halves_anew a = record {
    left = λ w. are_noted_same (left_half p) t u (omega arith) (same_behind (left_half p) (omega arith))
        (a.left w);
    right = λ w. are_noted_same (right_half p) t u (omega arith) (same_behind (right_half p) (omega arith))
        (a.right w);
  }

  -- it is told where it has the layers of its own that cover it in the row
  pub told_anew : layers_of t.further n.told ≡ own_at t t.since p.at → AreHalvesTold t p → IsTold u p
  told_anew e a = told_whole u p
      (told_above u p.at ∙ (λ x. layers_of (further x) (own_node x).told) ∙ e
      ∙ (λ x. own_by (λ l. sym (anew_tops l) x) (sym since x) p.at))
      (record {
        left = λ w. is_told_same (left_half p) t u (omega arith) (same_behind (left_half p) (omega arith)) (a.left w);
        right = λ w. is_told_same (right_half p) t u (omega arith) (same_behind (right_half p) (omega arith))
            (a.right w);
      })

  -- and noted anew over its halves
  pub noted_anew : IsNoted t p n.note → (t.since < n.note.until → IsTold u p)
      → AreHalvesNoted t p → AreNoted u p
  noted_anew h b a = noted_whole u p
      (rw anew_note (noted_alike p t u n.note (λ row c. anew_seen p row bare c) since further h))
      (λ l. b (rw (anew_note, since) at l)) (halves_anew a)

  pub anew_only : IsOnlyIn p t u
  anew_only = record {
    nodes = λ k b. node_other t u p.at n nodes further k (beside_own p k p.at v refl b);
    as_many = as_many t u p.at n nodes further;
    further = further;
    since = since;
  }

-- a note of no row is true
pub stale_note : (t : Trees) (q : Part) → IsNoted t q stale
stale_note t q = record { steady = λ row c i j h. absurd (omega arith); kinds = λ c i h. absurd (omega arith) }

pub stale_whole : (t : Trees) (p : Part) → note_at t p.at ≡ stale → AreHalvesNoted t p → AreNoted t p
stale_whole t p e h =
    noted_whole t p (rw e (stale_note t p)) (λ l. absurd (omega (arith, ap (λ n. n.until) e))) h

-- the notes hold from a later row on
pub later : (t : Trees) (p : Part) (row : ℕ) → t.since ≤ row → AreNoted t p
    → AreNoted (record t { since = row }) p
later t p row l h = record {
  each = λ q w. let n = h.each q w in record {
    steady = λ r c i j k. n.steady r c (omega arith) j k ∙ sym (n.steady row c l (omega arith) k);
    kinds = λ c i k. rw (n.steady row c l i k) (n.kinds c (omega arith) k);
  };
  told = λ q w i. record {
    each = λ c k. (h.told q w (omega arith)).each c k ∙ sym ((h.each q w).steady row c l i k);
  };
}

-- a note by the nodes of the part alone, and by the notes of its halves
module _ (t : Trees) (p : Part) (n : Note) (own : LayerSet)
    (e : layers_of t.further own ≡ own_at t t.since p.at)
    (s : (row : ℕ) → t.since ≤ row → row < n.until → own_at t row p.at ≡ own_at t t.since p.at) where
  pub leaf_noted : p.width < 2 → HasKind n.kinds own → IsNoted t p n
  leaf_noted h k = record {
    steady = λ row c i j m. seen_leaf (tree t) p row bare c h ∙ s row i j ∙ sym (seen_leaf (tree t) p t.since bare c h);
    kinds = λ c j m. ∣ record { kind = own; has = k; same = seen_leaf (tree t) p t.since bare c h ∙ sym e } ∣₁;
  }

  with_kind : (kind : LayerSet) (layers : Layers) → layers ≡ layers_of t.further kind
      → both (own_at t t.since p.at) layers ≡ layers_of t.further (union own kind)
  with_kind kind layers f = (λ i. both (sym e i) (f i)) ∙ sym (layers_union t.further own kind)

  pub halves_note : (l r : Note) → 2 ≤ p.width → IsNoted t (left_half p) l → IsNoted t (right_half p) r
      → n.until ≤ l.until → n.until ≤ r.until
      → ((kind : LayerSet) → HasKind l.kinds kind → HasKind n.kinds (union own kind))
      → ((kind : LayerSet) → HasKind r.kinds kind → HasKind n.kinds (union own kind))
      → IsNoted t p n
  halves_note l r h a b i j k m = record {
    steady = λ row c x y z. let z0 = z.from in let z1 = z.to in elim (cases_lt c (p.base + p.width / 2)) [
      | inl w ↦
          let o : InPart (left_half p) c = record { from = omega arith; to = omega arith } in
          seen_left (tree t) p row bare c h w ∙ ap (λ own. both own (seen t row (left_half p) bare c)) (s row x y)
          ∙ ap (both (own_at t t.since p.at)) (a.steady row c x (omega arith) o)
          ∙ sym (seen_left (tree t) p t.since bare c h w)
      | inr w ↦
          let o : InPart (right_half p) c = record { from = omega arith; to = omega arith } in
          seen_right (tree t) p row bare c h w ∙ ap (λ own. both own (seen t row (right_half p) bare c)) (s row x y)
          ∙ ap (both (own_at t t.since p.at)) (b.steady row c x (omega arith) o)
          ∙ sym (seen_right (tree t) p t.since bare c h w)
    ];
    kinds = λ c y z. let z0 = z.from in let z1 = z.to in elim (cases_lt c (p.base + p.width / 2)) [
      | inl w ↦
          let o : InPart (left_half p) c = record { from = omega arith; to = omega arith } in
          ∥∥₁_map (a.kinds c (omega arith) o) (λ q. record {
            kind = union own q.kind;
            has = k q.kind q.has;
            same = seen_left (tree t) p t.since bare c h w ∙ with_kind q.kind _ q.same;
          })
      | inr w ↦
          let o : InPart (right_half p) c = record { from = omega arith; to = omega arith } in
          ∥∥₁_map (b.kinds c (omega arith) o) (λ q. record {
            kind = union own q.kind;
            has = m q.kind q.has;
            same = seen_right (tree t) p t.since bare c h w ∙ with_kind q.kind _ q.same;
          })
    ];
  }
