-- What new and raised trees cover.
use Rattle.std.proofs.Common.{◌≡◌, ◌≢◌, ℕ, zero, suc, ◌+◌, ◌/◌, ◌<◌, ◌≤◌, inl, inr, List, get_or, length, replicate}
use Rattle.std.proofs.Common.{false, refl, sym, ◌∙◌, ap, subst, arith}
use Rattle.std.specs.Prelude.{nat_lt, if◌then◌else◌}
use Rattle.std.proofs.lemmas.Bool.{cases_lt, lt-ltb, le-ltb, true≢false}
use Rattle.std.proofs.lemmas.List.{get_or-replicate, get_or_past}
use Rattle.std.proofs.Math.ListN.{length-replicate}
use Rattle.lam_geom.specs.declared.layer.Layer.{Layer}
use Rattle.lam_geom.specs.declared.layer.Layer.TheVariants.{ND, NP, NC, NM, NI, NB, NG}
use Rattle.mask_runs.specs.declared.mask.Mask.{Mask}
use Rattle.mask_runs.specs.declared.mask.Mask.TheVariants.{Only, Diffusion, Contacts}
use Rattle.mask_runs.specs.Colours.{bare, colour_of}
use Rattle.cover_tree.specs.declared.layer_set.LayerSet.{LayerSet}
use Rattle.cover_tree.specs.declared.node.Node.{Node}
use Rattle.cover_tree.specs.declared.note.Note.{Note}
use Rattle.cover_tree.specs.declared.part.Part.{Part}
use Rattle.cover_tree.specs.declared.trees.Trees.{Trees}
use Rattle.cover_tree.specs.Covers.{IsBare, IsRaised, row_colour}
use Rattle.cover_tree.specs.Parts.{top_at, root, left_half, right_half, top_to, top_of, IsPartRaised}
use Rattle.cover_tree.specs.Nodes.{layer_top, layers_of, no_tops, no_layers, set_tops, blank}
use Rattle.cover_tree.specs.Layered.{node_at, tree, told_tree, cover}
use Rattle.cover_tree.specs.Kinds.{HasKind}
use Rattle.cover_tree.specs.Looking.{is_seen, own_at, seen_by, told, part_colour}
use Rattle.cover_tree.specs.Notes.{IsNoted, AreNoted}
use Rattle.cover_tree.proofs.Nodes.{no_top, node_top, told_top}
use Rattle.cover_tree.proofs.Noting.{stale_note}
use Rattle.cover_tree.proofs.Tops.{zero_top, at_leaf, at_left, at_right}

-- trees of which no part is covered as a whole
abbrev pub AreBare : Trees → Type 0
AreBare t = (l : Layer) (k : ℕ) → top_at (tree t l) k ≡ 0

bare_top : (depth : ℕ) (s : List ℕ) (p : Part) (c : ℕ) → ((k : ℕ) → top_at s k ≡ 0) → top_to depth s p c ≡ 0
bare_top zero s p c h = zero_top s p c ∙ h p.at
bare_top (suc depth) s p c h = let e = h p.at in elim (cases_lt p.width 2) [
  | inl l ↦ at_leaf (suc depth) s p c l ∙ e
  | inr l ↦ elim (cases_lt c (p.base + p.width / 2)) [
    | inl m ↦ let a = at_left depth s p c l m in let b = bare_top depth s (left_half p) c h in omega arith
    | inr m ↦ let a = at_right depth s p c l m in let b = bare_top depth s (right_half p) c h in omega arith
  ]
]

bare_seen : (s : List ℕ) (row : ℕ) (p : Part) (c : ℕ) → ((k : ℕ) → top_at s k ≡ 0) → is_seen s row p false c ≡ false
bare_seen s row p c h = le-ltb row (top_of s p c) (omega (arith, bare_top p.width s p c h))

bare_layers : (tree : Layer → List ℕ) → ((l : Layer) (k : ℕ) → top_at (tree l) k ≡ 0) → (row : ℕ) (p : Part) (c : ℕ)
    → seen_by tree row p bare c ≡ bare
bare_layers tree f row p c = λ j. record {
  nd = bare_seen (tree ND) row p c (f ND) j;
  np = bare_seen (tree NP) row p c (f NP) j;
  nc = bare_seen (tree NC) row p c (f NC) j;
  nm = bare_seen (tree NM) row p c (f NM) j;
  ni = bare_seen (tree NI) row p c (f NI) j;
  nb = bare_seen (tree NB) row p c (f NB) j;
  ng = bare_seen (tree NG) row p c (f NG) j;
}

pub no_layer : (other : Layer) → layers_of other no_layers ≡ bare
no_layer ND = refl
no_layer NP = refl
no_layer NC = refl
no_layer NM = refl
no_layer NI = refl
no_layer NB = refl
no_layer NG = refl

-- a node that gives no layer in a row gives none in a later one
none_later : (row since top : ℕ) → nat_lt since top ≡ false → since ≤ row → nat_lt row top ≡ nat_lt since top
none_later row since top e h = elim (cases_lt since top) [
  | inl l ↦ absurd (true≢false (sym (lt-ltb since top l) ∙ e))
  | inr l ↦ le-ltb row top (omega arith) ∙ sym e
]

pub own_later : (t : Trees) (own : LayerSet) (k : ℕ) → own.bits ≡ 0
    → layers_of t.further own ≡ own_at t t.since k → (row : ℕ) → t.since ≤ row → own_at t row k ≡ own_at t t.since k
own_later t own k z e row h =
    let none : own_at t t.since k ≡ bare =
    sym e ∙ ap (λ b. layers_of t.further (record { bits = b })) z ∙ no_layer t.further in
    λ i. record {
      nd = none_later row t.since (top_at (tree t ND) k) (ap (λ l. l.nd) none) h i;
      np = none_later row t.since (top_at (tree t NP) k) (ap (λ l. l.np) none) h i;
      nc = none_later row t.since (top_at (tree t NC) k) (ap (λ l. l.nc) none) h i;
      nm = none_later row t.since (top_at (tree t NM) k) (ap (λ l. l.nm) none) h i;
      ni = none_later row t.since (top_at (tree t NI) k) (ap (λ l. l.ni) none) h i;
      nb = none_later row t.since (top_at (tree t NB) k) (ap (λ l. l.nb) none) h i;
      ng = none_later row t.since (top_at (tree t NG) k) (ap (λ l. l.ng) none) h i;
    }

bare_note : (t : Trees) → AreBare t → (n : Note) → HasKind n.kinds no_layers → (q : Part) → IsNoted t q n
bare_note t f n k q = record {
  steady = λ row c i j h. bare_layers (tree t) f row q c ∙ sym (bare_layers (tree t) f t.since q c);
  kinds = λ c i h. ∣ record {
    kind = no_layers;
    has = k;
    same = bare_layers (tree t) f t.since q c ∙ sym (no_layer t.further);
  } ∣₁;
}

pub bare_colour : (mask : Mask) → colour_of mask bare ≡ 0
bare_colour (Only ND) = refl
bare_colour (Only NP) = refl
bare_colour (Only NC) = refl
bare_colour (Only NM) = refl
bare_colour (Only NI) = refl
bare_colour (Only NB) = refl
bare_colour (Only NG) = refl
bare_colour Diffusion = refl
bare_colour Contacts = refl

-- new trees
module _ (t : Trees) (count : ℕ) (n : Note)
    (e : t.nodes.items ≡ replicate count (record { tops = no_tops; told = no_layers; note = n })) where
  abbrev own : Node
  own = record { tops = no_tops; told = no_layers; note = n }

  pub new_room : length t.nodes.items ≡ count
  new_room = ap length e ∙ length-replicate count _

  node_in : (k : ℕ) → k < count → node_at t k ≡ own
  node_in k h = ap (λ s. get_or s k blank) e ∙ get_or-replicate count k _ blank h

  node_out : (k : ℕ) → count ≤ k → node_at t k ≡ blank
  node_out k h = ap (λ s. get_or s k blank) e
      ∙ get_or_past (replicate count _) k blank
      (omega (arith, length-replicate {A = Node} count (record { tops = no_tops; told = no_layers; note = n })))

  new_tops : (k : ℕ) → (node_at t k).tops ≡ no_tops
  new_tops k =
      elim (cases_lt k count) [ inl h ↦ ap (λ m. m.tops) (node_in k h) | inr h ↦ ap (λ m. m.tops) (node_out k h) ]

  new_told : (k : ℕ) → (node_at t k).told ≡ no_layers
  new_told k =
      elim (cases_lt k count) [ inl h ↦ ap (λ m. m.told) (node_in k h) | inr h ↦ ap (λ m. m.told) (node_out k h) ]

  pub new_bare : AreBare t
  new_bare l k = node_top t l k ∙ ap (layer_top l t.further) (new_tops k) ∙ no_top l t.further

  pub told_bare : (p : Part) (c : ℕ) → told t p bare c ≡ bare
  told_bare p c = bare_layers (told_tree t)
      (λ l k. told_top t l k ∙ ap (λ s. layer_top l t.further (set_tops s)) (new_told k) ∙ no_top l t.further) 0 p c

  pub new_noted : HasKind n.kinds no_layers → (p : Part) → AreNoted t p
  new_noted k p = record {
    each = λ q w. elim (cases_lt q.at count) [
      | inl h ↦ subst (λ m. IsNoted t q m.note) (sym (node_in q.at h)) (bare_note t new_bare n k q)
      | inr h ↦ subst (λ m. IsNoted t q m.note) (sym (node_out q.at h)) (stale_note t q)
    ];
    told = λ q w l. record { each = λ c i. told_bare q c ∙ sym (bare_layers (tree t) new_bare t.since q c) };
  }

pub top_in : (own : Mask) (cells : ℕ) (trees : Trees) (l : Layer) (c : ℕ) → c < cells
    → (cover own cells trees).top l c ≡ top_of (tree trees l) (root cells) c
top_in own cells trees l c h = rw (lt-ltb c cells h) refl

pub top_out : (own : Mask) (cells : ℕ) (trees : Trees) (l : Layer) (c : ℕ) → cells ≤ c
    → (cover own cells trees).top l c ≡ 0
top_out own cells trees l c h = rw (le-ltb c cells h) refl

pub bare_cover : (own : Mask) (cells : ℕ) (trees : Trees) → AreBare trees → IsBare own cells (cover own cells trees)
bare_cover own cells trees f = record {
  of_mask = refl;
  wide = refl;
  none = λ l c. elim (cases_lt c cells) [
    | inl h ↦ top_in own cells trees l c h ∙ bare_top cells (tree trees l) (root cells) c (f l)
    | inr h ↦ top_out own cells trees l c h
  ];
}

pub raised_cover : (own : Mask) (cells : ℕ) (old now : Trees) (layer : Layer) (from to row : ℕ) → to ≤ cells
    → IsPartRaised (tree old layer) (tree now layer) (root cells) from to row
    → ((l : Layer) → l ≢ layer → tree now l ≡ tree old l)
    → IsRaised (cover own cells old) (cover own cells now) layer from to row
raised_cover own cells old now layer from to row h r f = record {
  same_mask = refl;
  as_wide = refl;
  within = λ c k l.
      let m : c < cells = omega arith in
      rw (top_in own cells now layer c m, top_in own cells old layer c m)
      (r.inside c (record { from = omega arith; to = omega arith }) k l);
  beside = λ c k. elim (cases_lt c cells) [
    | inl m ↦
        rw (top_in own cells now layer c m, top_in own cells old layer c m)
        (r.beside c (record { from = omega arith; to = omega arith }) k)
    | inr m ↦ rw (top_out own cells now layer c m, top_out own cells old layer c m) refl
  ];
  others = λ l c k. ap (λ s. if nat_lt c cells then top_of s (root cells) c else 0) (f l k);
}

pub same_cover : (own : Mask) (cells : ℕ) (t u : Trees) → ((l : Layer) → tree u l ≡ tree t l)
    → cover own cells u ≡ cover own cells t
same_cover own cells t u e = λ i. record {
  mask = own;
  cells = cells;
  top = λ l c. if nat_lt c cells then top_of (e l i) (root cells) c else 0;
}

-- the colours of a row, by the trees
module _ (mask : Mask) (cells : ℕ) (t : Trees) (row : ℕ) where
  pub root_colour : (c : ℕ) → c < cells
      → row_colour (cover mask cells t) row c ≡ part_colour mask t row (root cells) bare c
  root_colour c h = rw (lt-ltb c cells h) refl
