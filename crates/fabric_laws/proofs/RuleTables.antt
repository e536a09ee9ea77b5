-- Tests on all pairs of rectangles of tiles: how wide they are, and how far apart.
use Rattle.std.proofs.Common.{ℕ, ◌≡◌, ◌+◌, ◌-◌, refl, Bool, true, false, not, ◌&&◌, ◌||◌, leb, eqb}
use Rattle.std.specs.Prelude.{min}
use Rattle.lam_geom.specs.declared.layer.Layer.{Layer}
use Rattle.lam_geom.specs.declared.layer.Layer.TheVariants.{ND, NP, NC, NM}
use Rattle.tile_cells.specs.Tiles.{Cell, cell}
use Rattle.lam_geom.specs.Rules.{Way}
use Rattle.lam_geom.specs.Rules.Way.{right, left, up, down}
use Rattle.fabric_laws.proofs.Tile.{Thing, cells_of}
use Rattle.fabric_laws.proofs.Tile.Thing.{trunk, ground_start}
use Rattle.fabric_laws.proofs.Lists.{every, some}
use Rattle.fabric_laws.proofs.Tables.{Row, things, stands_in, column_of, col_number, together, implies, is_layer}
use Rattle.fabric_laws.proofs.Tables.{meets_up, meets_across, row_height, rows_all, all_drawn, every_cell}
use Rattle.fabric_laws.proofs.Tables.{every_channel, meets, lies_in, right_of, upon}

-- where a rectangle ends, or the row does
abbrev pub top_in : Row → Cell → ℕ
top_in q k = min k.y1 (row_height q)

-- so many lambda wide and high, as far as its tile reaches
abbrev pub is_wide : Layer → ℕ → Row → Thing → Cell → Bool
is_wide l n q t k = implies (stands_in t q && is_layer l k) (leb (k.x0 + n) k.x1 && leb (k.y0 + n) (top_in q k))

abbrev pub all_wide : Layer → ℕ → Bool
all_wide l n = every (λ q. every (λ t. every (λ k. is_wide l n q t k) (cells_of t)) things) rows_all

abbrev pub fits_across : Thing → Cell → Bool
fits_across t k = leb k.x1 20

-- the gap from the one to the other isn't of lo to hi lambda
abbrev pub is_far : ℕ → ℕ → ℕ → ℕ → Bool
is_far lo hi from to = implies (leb (from + lo) to) (leb (from + hi) to)

abbrev pub across_far : Layer → Layer → ℕ → ℕ → Row → Thing → Cell → Thing → Cell → Bool
across_far l m lo hi q t p s o =
    implies (together q t s && (is_layer l p && (is_layer m o && meets_up p o))) (is_far lo hi p.x1 o.x0)

abbrev pub right_far : Layer → Layer → ℕ → ℕ → Row → Thing → Cell → Thing → Cell → Bool
right_far l m lo hi q t p s o =
    implies
    (not (eqb (col_number (column_of s)) 0)
    && (stands_in t q && (stands_in s q && (is_layer l p && (is_layer m o && meets_up p o)))))
    (is_far lo hi p.x1 (20 + o.x0))

abbrev pub up_far : Layer → Layer → ℕ → ℕ → Row → Thing → Cell → Thing → Cell → Bool
up_far l m lo hi q t p s o =
    implies (together q t s && (is_layer l p && (is_layer m o && meets_across p o))) (is_far lo hi p.y1 o.y0)

-- the ground row begins under the trunk, which goes on above it
abbrev pub exempt : Thing → Thing → Bool
exempt ground_start trunk = true
exempt t s = false

abbrev pub over_far : Layer → Layer → ℕ → ℕ → Row → Row → Thing → Cell → Thing → Cell → Bool
over_far l m lo hi r q t p s o =
    implies
    (eqb (col_number (column_of t)) (col_number (column_of s))
    && (stands_in t q && (stands_in s r && (is_layer l p && (is_layer m o && meets_across p o)))))
    (exempt t s || is_far lo hi (top_in q p) (row_height q + o.y0))

abbrev pub all_far : Layer → Layer → ℕ → ℕ → Bool
all_far l m lo hi =
    all_drawn (across_far l m lo hi)
    && (all_drawn (right_far l m lo hi)
    && (all_drawn (up_far l m lo hi) && every (λ r. all_drawn (over_far l m lo hi r)) rows_all))

pub fits_across_passes : every_cell fits_across ≡ true
fits_across_passes = refl

pub diffusion_wide : all_wide ND 2 ≡ true
diffusion_wide = refl

pub polysilicon_wide : all_wide NP 2 ≡ true
polysilicon_wide = refl

pub metal_wide : all_wide NM 3 ≡ true
metal_wide = refl

pub diffusion_far : all_far ND ND 1 3 ≡ true
diffusion_far = refl

pub polysilicon_far : all_far NP NP 1 2 ≡ true
polysilicon_far = refl

pub metal_far : all_far NM NM 1 3 ≡ true
metal_far = refl

pub unrelated_far : all_far NP ND 0 1 ≡ true
unrelated_far = refl

pub related_far : all_far ND NP 0 1 ≡ true
related_far = refl

-- ---- gates: the lambda next to a channel, and two lambda of it
abbrev pub edge_of : Way → Cell → Cell
edge_of right h = cell ND h.x1 h.y0 (h.x1 + 1) h.y1
edge_of left h = cell ND (h.x0 - 1) h.y0 h.x0 h.y1
edge_of up h = cell ND h.x0 h.y1 h.x1 (h.y1 + 1)
edge_of down h = cell ND h.x0 (h.y0 - 1) h.x1 h.y0

abbrev pub margin_of : Way → Cell → Cell
margin_of right h = cell NP h.x1 h.y0 (h.x1 + 2) h.y1
margin_of left h = cell NP (h.x0 - 2) h.y0 h.x0 h.y1
margin_of up h = cell NP h.x0 h.y1 h.x1 (h.y1 + 2)
margin_of down h = cell NP h.x0 (h.y0 - 2) h.x1 h.y0

abbrev pub all_ways : (Way → Bool) → Bool
all_ways test = test right && (test left && (test up && test down))

-- diffusion goes on that way
abbrev pub goes_out : Way → Thing → Cell → Bool
goes_out z t h = some (λ k. is_layer ND k && lies_in (edge_of z h) k) (cells_of t)

-- or polysilicon does, for two lambda, and there is no diffusion
abbrev pub hangs_over : Way → Thing → Cell → Bool
hangs_over z t h =
    some (λ k. is_layer NP k && lies_in (margin_of z h) k) (cells_of t)
    && every (λ q. every (λ s. every (λ k. implies (together q t s && (is_layer ND k && meets (margin_of z h) k)) false)
    (cells_of s)) things) rows_all

abbrev pub is_gate : Thing → Cell → Bool
is_gate t h = all_ways (λ z. goes_out z t h || hangs_over z t h)

-- both lie in the tile
abbrev pub has_room : Row → Thing → Cell → Bool
has_room q t h = implies (stands_in t q) (leb 2 h.x0 && (leb (h.x1 + 2) 20 && (leb 2 h.y0 && leb (h.y1 + 2) (row_height q))))

pub is_gate_passes : every_channel is_gate ≡ true
is_gate_passes = refl

pub has_room_passes : every (λ q. every_channel (has_room q)) rows_all ≡ true
has_room_passes = refl

-- ---- cuts: two lambda a side, away from the edges of their tiles, and from one another
abbrev pub is_cut : Thing → Cell → Bool
is_cut t k = implies (is_layer NC k) (eqb k.x1 (k.x0 + 2) && (eqb k.y1 (k.y0 + 2) && (leb 1 k.x0 && (leb k.x1 19 && leb 1 k.y0))))

abbrev pub is_below : Row → Thing → Cell → Bool
is_below q t k = implies (stands_in t q && is_layer NC k) (leb (k.y1 + 1) (row_height q))

abbrev pub same_place_ : Cell → Cell → Bool
same_place_ p o = eqb p.x0 o.x0 && eqb p.y0 o.y0

abbrev pub one_cut : Row → Thing → Cell → Thing → Cell → Bool
one_cut q t p s o =
    implies (together q t s && (is_layer NC p && (is_layer NC o && (right_of p o || (right_of o p || (upon p o || upon o p))))))
    (same_place_ p o)

pub is_cut_passes : every_cell is_cut ≡ true
is_cut_passes = refl

pub is_below_passes : every (λ q. every_cell (is_below q)) rows_all ≡ true
is_below_passes = refl

pub one_cut_passes : all_drawn one_cut ≡ true
one_cut_passes = refl

-- no cut is next to a cut
abbrev pub is_alone : Thing → Cell → Bool
is_alone t h =
    implies (is_layer NC h)
    (all_ways (λ z. every (λ q. every (λ s. every
    (λ k. implies (together q t s && (is_layer NC k && meets (edge_of z h) k)) false) (cells_of s)) things) rows_all))

pub is_alone_passes : every_cell is_alone ≡ true
is_alone_passes = refl

abbrev pub grown : Cell → Cell
grown k = cell NC (k.x0 - 1) (k.y0 - 1) (k.x1 + 1) (k.y1 + 1)
