-- The layers over the cells of a part, by those over its halves and by its nodes.
use Rattle.std.proofs.Common.{◌≡◌, ℕ, ◌+◌, ◌/◌, ◌<◌, ◌≤◌, inl, inr, List, Bool, true, false, refl, sym, ap, max, arith}
use Rattle.std.specs.Prelude.{nat_lt, ◌||◌}
use Rattle.std.proofs.lemmas.Bool.{cases_lt, lt-ltb, le-ltb}
use Rattle.lam_geom.specs.declared.layer.Layer.{Layer}
use Rattle.lam_geom.specs.declared.layer.Layer.TheVariants.{ND, NP, NC, NM, NI, NB, NG}
use Rattle.mask_runs.specs.declared.mask.Layers.{Layers}
use Rattle.cover_tree.specs.declared.part.Part.{Part}
use Rattle.cover_tree.specs.Parts.{top_at, left_half, right_half, top_of}
use Rattle.cover_tree.specs.Kinds.{both}
use Rattle.cover_tree.specs.Looking.{own_by, is_seen, seen_by, IsHandedDown}
use Rattle.cover_tree.proofs.Tops.{top_leaf, top_left, top_right}

-- a row that lies below one of two tops lies below the greater
pub joint_tests : (known : Bool) (row own t u : ℕ) → u ≡ max own t
    → (known || nat_lt row u) ≡ ((known || nat_lt row own) || nat_lt row t)
joint_tests true row own t u e = refl
joint_tests false row own t u e = elim (cases_lt row u) [
  | inr k ↦ rw (le-ltb row u k, le-ltb row own (omega arith), le-ltb row t (omega arith)) refl
  | inl k ↦ elim (cases_lt row own) [
    | inl m ↦ rw (lt-ltb row u k, lt-ltb row own m) refl
    | inr m ↦ rw (lt-ltb row u k, le-ltb row own m, lt-ltb row t (omega arith)) refl
  ]
]

module _ (s : List ℕ) (p : Part) (row : ℕ) (known : Bool) (c : ℕ) where
  one_leaf : p.width < 2 → is_seen s row p known c ≡ (known || nat_lt row (top_at s p.at))
  one_leaf h = ap (λ u. known || nat_lt row u) (top_leaf s p c h)

  one_left : 2 ≤ p.width → c < p.base + p.width / 2
      → is_seen s row p known c ≡ is_seen s row (left_half p) (known || nat_lt row (top_at s p.at)) c
  one_left h k = joint_tests known row (top_at s p.at) (top_of s (left_half p) c) (top_of s p c) (top_left s p c h k)

  one_right : 2 ≤ p.width → p.base + p.width / 2 ≤ c
      → is_seen s row p known c ≡ is_seen s row (right_half p) (known || nat_lt row (top_at s p.at)) c
  one_right h k = joint_tests known row (top_at s p.at) (top_of s (right_half p) c) (top_of s p c) (top_right s p c h k)

module _ (tree : Layer → List ℕ) (p : Part) (row : ℕ) (known : Layers) (c : ℕ) where
  pub seen_leaf : p.width < 2 → seen_by tree row p known c ≡ both known (own_by tree row p.at)
  seen_leaf h = λ j. record {
    nd = one_leaf (tree ND) p row known.nd c h j;
    np = one_leaf (tree NP) p row known.np c h j;
    nc = one_leaf (tree NC) p row known.nc c h j;
    nm = one_leaf (tree NM) p row known.nm c h j;
    ni = one_leaf (tree NI) p row known.ni c h j;
    nb = one_leaf (tree NB) p row known.nb c h j;
    ng = one_leaf (tree NG) p row known.ng c h j;
  }

  pub seen_left : 2 ≤ p.width → c < p.base + p.width / 2
      → seen_by tree row p known c ≡ seen_by tree row (left_half p) (both known (own_by tree row p.at)) c
  seen_left h k = λ j. record {
    nd = one_left (tree ND) p row known.nd c h k j;
    np = one_left (tree NP) p row known.np c h k j;
    nc = one_left (tree NC) p row known.nc c h k j;
    nm = one_left (tree NM) p row known.nm c h k j;
    ni = one_left (tree NI) p row known.ni c h k j;
    nb = one_left (tree NB) p row known.nb c h k j;
    ng = one_left (tree NG) p row known.ng c h k j;
  }

  pub seen_right : 2 ≤ p.width → p.base + p.width / 2 ≤ c
      → seen_by tree row p known c ≡ seen_by tree row (right_half p) (both known (own_by tree row p.at)) c
  seen_right h k = λ j. record {
    nd = one_right (tree ND) p row known.nd c h k j;
    np = one_right (tree NP) p row known.np c h k j;
    nc = one_right (tree NC) p row known.nc c h k j;
    nm = one_right (tree NM) p row known.nm c h k j;
    ni = one_right (tree NI) p row known.ni c h k j;
    nb = one_right (tree NB) p row known.nb c h k j;
    ng = one_right (tree NG) p row known.ng c h k j;
  }

-- the layers over the halves of a part
pub handed_down : (tree : Layer → List ℕ) (p : Part) (row : ℕ) (known : Layers)
    → IsHandedDown tree row p known (both known (own_by tree row p.at))
handed_down tree p row known = record {
  left = λ c h i. let k = i.to in sym (seen_left tree p row known c h k);
  right = λ c h i. let k = i.from in sym (seen_right tree p row known c h k);
  leaf = λ c h i. seen_leaf tree p row known c h;
}

-- where all nodes say the same, all cells have the same layers
pub seen_alike : (a b : Layer → List ℕ) (p : Part) → ((l : Layer) → top_of (b l) p ≡ top_of (a l) p) → (row : ℕ)
    (known : Layers) (c : ℕ)
    → seen_by b row p known c ≡ seen_by a row p known c
seen_alike a b p e row known c = λ j. record {
  nd = known.nd || nat_lt row (e ND j c);
  np = known.np || nat_lt row (e NP j c);
  nc = known.nc || nat_lt row (e NC j c);
  nm = known.nm || nat_lt row (e NM j c);
  ni = known.ni || nat_lt row (e NI j c);
  nb = known.nb || nat_lt row (e NB j c);
  ng = known.ng || nat_lt row (e NG j c);
}
