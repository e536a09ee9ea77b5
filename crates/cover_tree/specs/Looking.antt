-- The layers over the cells of a part in a row, where some are known to cover it as a whole.
use Rattle.std.specs.Prelude.{◌≡◌, ◌<◌, ◌≤◌, ◌||◌, ℕ, Bool, List, nat_lt}
use Rattle.lam_geom.specs.declared.layer.Layer.{Layer}
use Rattle.lam_geom.specs.declared.layer.Layer.TheVariants.{ND, NP, NC, NM, NI, NB, NG}
use Rattle.mask_runs.specs.declared.mask.Layers.{Layers}
use Rattle.mask_runs.specs.declared.mask.Mask.{Mask}
use Rattle.mask_runs.specs.Colours.{colour_of}
use Rattle.cover_tree.specs.declared.part.Part.{Part}
use Rattle.cover_tree.specs.declared.trees.Trees.{Trees}
use Rattle.cover_tree.specs.Layered.{tree, told_tree}
use Rattle.cover_tree.specs.Parts.{top_at, top_of, left_half, right_half, InPart}

-- whether a layer covers the part's cell
abbrev pub is_seen : List ℕ → ℕ → Part → Bool → ℕ → Bool
is_seen tops row p known c = known || nat_lt row (top_of tops p c)

abbrev pub seen_by : (Layer → List ℕ) → ℕ → Part → Layers → ℕ → Layers
seen_by tree row p known c = record {
  nd = is_seen (tree ND) row p known.nd c;
  np = is_seen (tree NP) row p known.np c;
  nc = is_seen (tree NC) row p known.nc c;
  nm = is_seen (tree NM) row p known.nm c;
  ni = is_seen (tree NI) row p known.ni c;
  nb = is_seen (tree NB) row p known.nb c;
  ng = is_seen (tree NG) row p known.ng c;
}

abbrev pub seen : Trees → ℕ → Part → Layers → ℕ → Layers
seen t row p known c = seen_by (tree t) row p known c

-- and those in the row told last
abbrev pub told : Trees → Part → Layers → ℕ → Layers
told t p known c = seen_by (told_tree t) 0 p known c

-- the colours of the part's cells
abbrev pub part_colour : Mask → Trees → ℕ → Part → Layers → ℕ → ℕ
part_colour mask t row p known c = colour_of mask (seen t row p known c)

-- and in the row told last
abbrev pub told_colour : Mask → Trees → Part → Layers → ℕ → ℕ
told_colour mask t p known c = colour_of mask (told t p known c)

-- the layers that cover the part whose nodes are at this place as a whole, by these nodes
abbrev pub own_by : (Layer → List ℕ) → ℕ → ℕ → Layers
own_by tree row k = record {
  nd = nat_lt row (top_at (tree ND) k);
  np = nat_lt row (top_at (tree NP) k);
  nc = nat_lt row (top_at (tree NC) k);
  nm = nat_lt row (top_at (tree NM) k);
  ni = nat_lt row (top_at (tree NI) k);
  nb = nat_lt row (top_at (tree NB) k);
  ng = nat_lt row (top_at (tree NG) k);
}

abbrev pub own_at : Trees → ℕ → ℕ → Layers
own_at t row k = own_by (tree t) row k

-- and those that did so in the row told last
abbrev pub told_at : Trees → ℕ → Layers
told_at t k = own_by (told_tree t) 0 k

-- the cells of the halves, or of a part of one cell, have these layers where those cover the part as a whole
pub record IsHandedDown (tree : Layer → List ℕ) (row : ℕ) (p : Part) (known full : Layers) : Type 0 where
  pub left : (c : ℕ) → 2 ≤ p.width → InPart (left_half p) c
      → seen_by tree row (left_half p) full c ≡ seen_by tree row p known c
  pub right : (c : ℕ) → 2 ≤ p.width → InPart (right_half p) c
      → seen_by tree row (right_half p) full c ≡ seen_by tree row p known c
  pub leaf : (c : ℕ) → p.width < 2 → InPart p c → seen_by tree row p known c ≡ full
