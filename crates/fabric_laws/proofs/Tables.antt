-- The conductors and channels of each thing, in its tile, and tests on all pairs of them.
use Rattle.std.proofs.Common.{ℕ, ◌≡◌, ◌+◌, refl, Bool, true, false, not, ◌&&◌, ◌||◌, leb, ltb, eqb, List, [], ◌∷◌}
use Rattle.lam_geom.specs.declared.layer.Layer.{Layer}
use Rattle.lam_geom.specs.declared.layer.Layer.TheVariants.{ND, NP, NC, NM, NI, NB}
use Rattle.lam_geom.specs.Squares.{rank}
use Rattle.tile_cells.specs.declared.tile.Tile.TheVariants.{TapL, TapR, Tran, PullUp, Under}
use Rattle.tile_cells.specs.Tiles.{Cell, cell}
use Rattle.fabric.specs.declared.thing.Side.{Side}
use Rattle.fabric.specs.declared.thing.Side.TheVariants.{L, R}
use Rattle.fabric.specs.Shape.{offset}
use Rattle.fabric_laws.proofs.Tile.{Thing, cells_of}
use Rattle.fabric_laws.proofs.Tile.Thing.{trunk, power, ground_start, ground_on, rail, rail_end, seg, lin, mark}
use Rattle.fabric_laws.proofs.Tile.Thing.{under_rail}
use Rattle.fabric_laws.proofs.Lists.{every, some}

-- which net a conductor is of, as seen from its tile
pub data Kind : Type 0 where
  of_ground : Kind
  of_power : Kind
  of_segment : Kind
  of_line : Side → Kind

-- a conductor of a thing
pub record Part : Type 0 where
  pub kind : Kind
  pub cell : Cell

abbrev pub part : Kind → Layer → ℕ → ℕ → ℕ → ℕ → Part
part k l x0 y0 x1 y1 = record { kind = k; cell = cell l x0 y0 x1 y1 }

abbrev pub parts : Thing → List Part
parts trunk = part of_ground NM 7 0 13 36 ∷ []
parts power = part of_power NM 7 0 13 36 ∷ []
parts ground_start = part of_ground NM 7 6 20 10 ∷ []
parts ground_on = part of_ground NM 0 6 20 10 ∷ []
parts rail = part of_power NM 0 27 20 31 ∷ []
parts rail_end = part of_power NM 0 27 13 31 ∷ []
parts seg = part of_segment NM 0 6 20 10 ∷ []
parts (lin s) = part (of_line s) ND (offset s) 0 (offset s + 4) 36 ∷ []
parts (mark TapL) = []
parts (mark TapR) = []
parts (mark Tran) = part (of_line L) ND 6 2 9 4 ∷ part (of_line R) ND 11 2 14 4 ∷ part of_segment NP 9 0 11 6
    ∷ part of_segment NP 8 6 12 10 ∷ []
parts (mark PullUp) =
    part (of_line L) ND 2 0 6 6 ∷ part (of_line L) NM 2 2 12 6 ∷ part (of_line L) NP 8 2 12 8
    ∷ part (of_line L) NP 1 8 12 24
    ∷ part (of_line L) ND 3 6 5 8 ∷ part of_power ND 3 24 5 27 ∷ part of_power ND 2 27 6 31 ∷ []
parts (mark Under) = part of_segment NM 0 6 4 10 ∷ part of_segment NM 16 6 20 10 ∷ part of_segment NP 0 6 20 10 ∷ []
parts under_rail = part of_power NM 0 27 4 31 ∷ part of_power NM 16 27 20 31 ∷ part of_power NP 0 27 20 31 ∷ []

-- the channel of a thing
abbrev pub channels : Thing → List Cell
channels trunk = []
channels power = []
channels ground_start = []
channels ground_on = []
channels rail = []
channels rail_end = []
channels seg = []
channels (lin s) = []
channels (mark TapL) = []
channels (mark TapR) = []
channels (mark Tran) = cell NP 9 2 11 4 ∷ []
channels (mark PullUp) = cell NP 3 8 5 24 ∷ []
channels (mark Under) = []
channels under_rail = []

abbrev pub things : List Thing
things = trunk ∷ power ∷ ground_start ∷ ground_on ∷ rail ∷ rail_end ∷ seg ∷ lin L ∷ lin R ∷ mark TapL ∷ mark TapR
    ∷ mark Tran ∷ mark PullUp ∷ mark Under ∷ under_rail ∷ []

-- columns and rows, and where things stand
pub data Col : Type 0 where
  west : Col
  middle : Col
  east : Col

pub data Row : Type 0 where
  lowest : Row
  signal : Row
  top : Row

abbrev pub column_of : Thing → Col
column_of trunk = west
column_of power = east
column_of ground_start = west
column_of ground_on = middle
column_of rail = middle
column_of rail_end = east
column_of seg = middle
column_of (lin s) = middle
column_of (mark TapL) = middle
column_of (mark TapR) = middle
column_of (mark Tran) = middle
column_of (mark PullUp) = middle
column_of (mark Under) = west
column_of under_rail = west

abbrev only_low : Row → Bool
only_low lowest = true
only_low signal = false
only_low top = false

abbrev only_signal : Row → Bool
only_signal lowest = false
only_signal signal = true
only_signal top = false

abbrev only_top : Row → Bool
only_top lowest = false
only_top signal = false
only_top top = true

abbrev pub stands_in : Thing → Row → Bool
stands_in trunk q = true
stands_in power q = true
stands_in ground_start q = only_low q
stands_in ground_on q = only_low q
stands_in rail q = only_top q
stands_in rail_end q = only_top q
stands_in seg q = only_signal q
stands_in (lin s) q = true
stands_in (mark TapL) q = not (only_top q)
stands_in (mark TapR) q = not (only_top q)
stands_in (mark Tran) q = only_signal q
stands_in (mark PullUp) q = only_top q
stands_in (mark Under) q = only_signal q
stands_in under_rail q = only_top q

abbrev pub col_number : Col → ℕ
col_number west = 0
col_number middle = 1
col_number east = 2

abbrev pub kind_number : Kind → ℕ
kind_number of_ground = 0
kind_number of_power = 1
kind_number of_segment = 2
kind_number (of_line L) = 3
kind_number (of_line R) = 4

abbrev pub is_top : Row → Bool
is_top lowest = false
is_top signal = false
is_top top = true

-- what goes on from a pull-up row to the next band
abbrev pub is_long : Thing → Bool
is_long trunk = true
is_long power = true
is_long (lin s) = true
is_long t = false

abbrev pub same_thing : Thing → Thing → Bool
same_thing (mark Tran) (mark Tran) = true
same_thing (mark PullUp) (mark PullUp) = true
same_thing t s = false

abbrev pub is_pull_up : Thing → Bool
is_pull_up (mark PullUp) = true
is_pull_up t = false

-- the kinds of the ends of a channel
abbrev pub ends_at : Thing → Kind → Bool
ends_at (mark Tran) (of_line s) = true
ends_at (mark PullUp) (of_line L) = true
ends_at (mark PullUp) of_power = true
ends_at t k = false

-- a line through a pull-up row has no pull-up there
abbrev pub bars : Thing → Thing → Bool
bars (lin L) (mark PullUp) = true
bars (mark PullUp) (lin L) = true
bars t s = false

abbrev pub meets : Cell → Cell → Bool
meets p o = ltb p.x0 o.x1 && ltb o.x0 p.x1 && ltb p.y0 o.y1 && ltb o.y0 p.y1

abbrev pub meets_across : Cell → Cell → Bool
meets_across p o = ltb p.x0 o.x1 && ltb o.x0 p.x1

abbrev pub meets_up : Cell → Cell → Bool
meets_up p o = ltb p.y0 o.y1 && ltb o.y0 p.y1

-- what is common to two lies in the first
abbrev pub covers_both : Cell → Cell → Cell → Bool
covers_both h p k = (leb h.x0 p.x0 || leb h.x0 k.x0)
    && ((leb p.x1 h.x1 || leb k.x1 h.x1) && ((leb h.y0 p.y0 || leb h.y0 k.y0) && (leb p.y1 h.y1 || leb k.y1 h.y1)))

-- some square of the one is the right, or the upper, neighbour of one of the other, in one tile
abbrev pub right_of : Cell → Cell → Bool
right_of p o = leb o.x0 p.x1 && ltb p.x0 o.x1 && ltb p.y0 o.y1 && ltb o.y0 p.y1

abbrev pub upon : Cell → Cell → Bool
upon p o = leb o.y0 p.y1 && ltb p.y0 o.y1 && ltb p.x0 o.x1 && ltb o.x0 p.x1

abbrev pub same_layer : Cell → Cell → Bool
same_layer p o = eqb (rank p.layer) (rank o.layer)

abbrev pub implies : Bool → Bool → Bool
implies a b = not a || b

abbrev pub rows_all : List Row
rows_all = lowest ∷ signal ∷ top ∷ []

abbrev pub together : Row → Thing → Thing → Bool
together q t s = eqb (col_number (column_of t)) (col_number (column_of s)) && stands_in t q && stands_in s q
    && not (bars t s)

-- a test over all pairs of a conductor of the one and a conductor of the other, in each row
abbrev pub all_pairs : (Row → Thing → Part → Thing → Part → Bool) → Bool
all_pairs test = every
    (λ q. every (λ t. every (λ p. every (λ s. every (λ o. test q t p s o) (parts s)) things) (parts t)) things) rows_all

-- a test over all pairs of a conductor and a rectangle
abbrev pub all_cells : (Row → Thing → Part → Thing → Cell → Bool) → Bool
all_cells test = every
    (λ q. every (λ t. every (λ p. every (λ s. every (λ k. test q t p s k) (cells_of s)) things) (parts t)) things)
    rows_all

-- a test over all pairs of rectangles
abbrev pub all_drawn : (Row → Thing → Cell → Thing → Cell → Bool) → Bool
all_drawn test = every
    (λ q. every (λ t. every (λ p. every (λ s. every (λ k. test q t p s k) (cells_of s)) things) (cells_of t)) things)
    rows_all

-- a test over all pairs of a channel and a conductor
abbrev pub all_ends : (Row → Thing → Cell → Thing → Part → Bool) → Bool
all_ends test = every
    (λ q. every (λ t. every (λ h. every (λ s. every (λ p. test q t h s p) (parts s)) things) (channels t)) things)
    rows_all

abbrev pub same_kind : Part → Part → Bool
same_kind p o = eqb (kind_number p.kind) (kind_number o.kind)

-- in one tile, conductors of one layer that have a common square, or neighbours, are of one kind
abbrev pub one_tile : Row → Thing → Part → Thing → Part → Bool
one_tile q t p s o = implies
    (together q t s && (same_layer p.cell o.cell && (right_of p.cell o.cell || upon p.cell o.cell))) (same_kind p o)

-- over the edge between a tile and its right neighbour only ground, power and segments go
abbrev pub goes_right : Kind → Bool
goes_right of_ground = true
goes_right of_power = true
goes_right of_segment = true
goes_right (of_line s) = false

abbrev pub over_right : Row → Thing → Part → Thing → Part → Bool
over_right q t p s o =
    implies (not (eqb (col_number (column_of s)) 0)
    && (stands_in t q
    && (stands_in s q && (same_layer p.cell o.cell
    && (leb 20 p.cell.x1 && (leb o.cell.x0 0 && meets_up p.cell o.cell))))))
    (same_kind p o && goes_right p.kind)

-- over the edge between a tile and the one upon it only trunks and lines go, and to the next band only those that are
-- long
abbrev pub goes_up : Kind → Bool
goes_up of_ground = true
goes_up of_power = true
goes_up of_segment = false
goes_up (of_line s) = true

abbrev pub row_height : Row → ℕ
row_height lowest = 12
row_height signal = 12
row_height top = 36

abbrev pub over_top : Row → Row → Thing → Part → Thing → Part → Bool
over_top q r t p s o =
    implies (eqb (col_number (column_of t)) (col_number (column_of s))
    && (stands_in t q
    && (stands_in s r && (same_layer p.cell o.cell
    && (leb (row_height q) p.cell.y1 && (leb o.cell.y0 0 && meets_across p.cell o.cell))))))
    (same_kind p o && (goes_up p.kind && (not (is_top q) || is_long t)))

-- no polysilicon lies over diffusion that conducts
abbrev pub is_layer : Layer → Cell → Bool
is_layer l k = eqb (rank k.layer) (rank l)

abbrev pub is_clear : Row → Thing → Part → Thing → Cell → Bool
is_clear q t p s k = implies (together q t s && (is_layer ND p.cell && (is_layer NP k && meets p.cell k))) false

-- where polysilicon lies over diffusion, it is that of one mark, in its channel
abbrev pub is_crossing : Row → Thing → Cell → Thing → Cell → Bool
is_crossing q t p s k = implies (together q t s && (is_layer ND p && (is_layer NP k && meets p k)))
    (same_thing t s && some (λ h. covers_both h p k) (channels t))

-- what a cut joins
abbrev pub joins : Thing → Cell → Kind → Bool
joins (mark TapL) k i = not (eqb (kind_number i) 1) && not (eqb (kind_number i) 4)
joins (mark TapR) k i = not (eqb (kind_number i) 1) && not (eqb (kind_number i) 3)
joins (mark Tran) k i = eqb (kind_number i) 2
joins (mark Under) k i = eqb (kind_number i) 2
joins under_rail k i = eqb (kind_number i) 1
joins (mark PullUp) k i = (leb 27 k.y0 && eqb (kind_number i) 1) || (not (leb 27 k.y0) && eqb (kind_number i) 3)
joins t k i = false

abbrev pub is_joined : Row → Thing → Part → Thing → Cell → Bool
is_joined q t p s k = implies (together q t s && (is_layer NC k && meets p.cell k)) (joins s k p.kind)

abbrev pub lies_in : Cell → Cell → Bool
lies_in p k = leb k.x0 p.x0 && (leb p.x1 k.x1 && (leb k.y0 p.y0 && leb p.y1 k.y1))

-- each conductor lies in a rectangle of its layer, and is metal, polysilicon or diffusion
abbrev pub is_drawn : Thing → Part → Bool
is_drawn t p = leb (rank p.cell.layer) 2 && some (λ k. same_layer k p.cell && lies_in p.cell k) (cells_of t)

-- each rectangle of metal and polysilicon is a conductor
abbrev pub is_part : Thing → Cell → Bool
is_part t k = implies (leb (rank k.layer) 1) (some (λ p. same_layer p.cell k && lies_in k p.cell) (parts t))

-- each channel lies in polysilicon and in diffusion
abbrev pub is_gated : Thing → Cell → Bool
is_gated t h = some (λ k. is_layer NP k && lies_in h k) (cells_of t)
    && some (λ k. is_layer ND k && lies_in h k) (cells_of t)

abbrev pub is_unburied : Thing → Cell → Bool
is_unburied t k = not (is_layer NB k)

abbrev pub every_part : (Thing → Part → Bool) → Bool
every_part test = every (λ t. every (λ p. test t p) (parts t)) things

abbrev pub every_cell : (Thing → Cell → Bool) → Bool
every_cell test = every (λ t. every (λ k. test t k) (cells_of t)) things

abbrev pub every_channel : (Thing → Cell → Bool) → Bool
every_channel test = every (λ t. every (λ k. test t k) (channels t)) things

-- what stands beside a channel, in its tile
abbrev pub is_beside : Row → Thing → Cell → Thing → Part → Bool
is_beside q t h s p =
    implies
    (together q t s
    && (is_layer ND p.cell && (right_of h p.cell || (right_of p.cell h || (upon h p.cell || upon p.cell h)))))
    (ends_at t p.kind)

-- no diffusion that conducts stands at a side of a pull-up's channel,
abbrev pub is_upright : Row → Thing → Cell → Thing → Part → Bool
is_upright q t h s p =
    implies
    (together q t s && (is_pull_up t && (is_layer ND p.cell && (right_of h p.cell || right_of p.cell h))))
    false

-- and none below or above a transistor's
abbrev pub is_level : Row → Thing → Cell → Thing → Part → Bool
is_level q t h s p =
    implies
    (together q t s && (not (is_pull_up t) && (is_layer ND p.cell && (upon h p.cell || upon p.cell h))))
    false

-- a test over all pairs of a channel and a rectangle
abbrev pub all_implants : (Row → Thing → Cell → Thing → Cell → Bool) → Bool
all_implants test = every
    (λ q. every (λ t. every (λ h. every (λ s. every (λ k. test q t h s k) (cells_of s)) things) (channels t)) things)
    rows_all

-- implant lies over channels of pull-ups alone
abbrev pub is_bare : Row → Thing → Cell → Thing → Cell → Bool
is_bare q t h s k = implies (together q t s && (is_layer NI k && meets h k)) (is_pull_up t)

-- and over all of them
abbrev pub is_implanted : Thing → Cell → Bool
is_implanted t h = implies (is_pull_up t) (some (λ k. is_layer NI k && lies_in h k) (cells_of t))

-- channels keep away from the edges of tiles
abbrev pub is_inner : Thing → Cell → Bool
is_inner t h = leb 1 h.x0 && (leb h.x1 19 && (leb 1 h.y0 && (leb h.y1 11 || is_pull_up t && leb h.y1 35)))

pub one_tile_passes : all_pairs one_tile ≡ true
one_tile_passes = refl

pub over_right_passes : all_pairs over_right ≡ true
over_right_passes = refl

pub over_top_passes : every (λ r. all_pairs (λ q. over_top q r)) rows_all ≡ true
over_top_passes = refl

pub is_clear_passes : all_cells is_clear ≡ true
is_clear_passes = refl

pub is_crossing_passes : all_drawn is_crossing ≡ true
is_crossing_passes = refl

pub is_joined_passes : all_cells is_joined ≡ true
is_joined_passes = refl

-- the kinds of a thing's conductors
abbrev pub has_kind : Thing → Kind → Bool
has_kind trunk of_ground = true
has_kind power of_power = true
has_kind ground_start of_ground = true
has_kind ground_on of_ground = true
has_kind rail of_power = true
has_kind rail_end of_power = true
has_kind seg of_segment = true
has_kind (lin L) (of_line L) = true
has_kind (lin R) (of_line R) = true
has_kind (mark Tran) (of_line s) = true
has_kind (mark Tran) of_segment = true
has_kind (mark PullUp) (of_line L) = true
has_kind (mark PullUp) of_power = true
has_kind (mark Under) of_segment = true
has_kind under_rail of_power = true
has_kind t k = false

pub has_kind_passes : every_part (λ t p. has_kind t p.kind) ≡ true
has_kind_passes = refl

pub is_drawn_passes : every_part is_drawn ≡ true
is_drawn_passes = refl

pub is_part_passes : every_cell is_part ≡ true
is_part_passes = refl

pub is_gated_passes : every_channel is_gated ≡ true
is_gated_passes = refl

pub is_unburied_passes : every_cell is_unburied ≡ true
is_unburied_passes = refl

pub is_beside_passes : all_ends is_beside ≡ true
is_beside_passes = refl

pub is_upright_passes : all_ends is_upright ≡ true
is_upright_passes = refl

pub is_level_passes : all_ends is_level ≡ true
is_level_passes = refl

pub is_inner_passes : every_channel is_inner ≡ true
is_inner_passes = refl

pub is_bare_passes : all_implants is_bare ≡ true
is_bare_passes = refl

pub is_implanted_passes : every_channel is_implanted ≡ true
is_implanted_passes = refl
