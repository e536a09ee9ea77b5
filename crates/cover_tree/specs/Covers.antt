-- Up to which row each cell of each layer is covered.
use Rattle.std.specs.Prelude.{◌≡◌, ◌≢◌, ◌⊎◌, ℕ, ◌<◌, ◌≤◌, max, nat_lt}
use Rattle.lam_geom.specs.declared.layer.Layer.{Layer}
use Rattle.lam_geom.specs.declared.layer.Layer.TheVariants.{ND, NP, NC, NM, NI, NB, NG}
use Rattle.mask_runs.specs.declared.mask.Layers.{Layers}
use Rattle.mask_runs.specs.declared.mask.Mask.{Mask}
use Rattle.mask_runs.specs.Colours.{colour_of}

-- a layer covers a cell in the rows below its top there
pub record Cover : Type 0 where
  pub mask : Mask
  pub cells : ℕ
  pub top : Layer → ℕ → ℕ

-- the layers that cover the cell in the row
abbrev pub layers_at : Cover → ℕ → ℕ → Layers
layers_at cover row cell = record {
  nd = nat_lt row (cover.top ND cell);
  np = nat_lt row (cover.top NP cell);
  nc = nat_lt row (cover.top NC cell);
  nm = nat_lt row (cover.top NM cell);
  ni = nat_lt row (cover.top NI cell);
  nb = nat_lt row (cover.top NB cell);
  ng = nat_lt row (cover.top NG cell);
}

-- the colour of the cell in the row, on the mask
abbrev pub row_colour : Cover → ℕ → ℕ → ℕ
row_colour cover row cell = colour_of cover.mask (layers_at cover row cell)

-- no cell is covered
pub record IsBare (mask : Mask) (cells : ℕ) (cover : Cover) : Type 0 where
  pub of_mask : cover.mask ≡ mask
  pub wide : cover.cells ≡ cells
  pub none : (l : Layer) (c : ℕ) → cover.top l c ≡ 0

-- the layer covers the cells from `from` up to `to` up to that row besides
pub record IsRaised (old now : Cover) (layer : Layer) (from to row : ℕ) : Type 0 where
  pub same_mask : now.mask ≡ old.mask
  pub as_wide : now.cells ≡ old.cells
  pub within : (c : ℕ) → from ≤ c → c < to → now.top layer c ≡ max (old.top layer c) row
  pub beside : (c : ℕ) → (c < from) ⊎ (to ≤ c) → now.top layer c ≡ old.top layer c
  pub others : (l : Layer) (c : ℕ) → l ≢ layer → now.top l c ≡ old.top l c
