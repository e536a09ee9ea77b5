-- The nets of a fabric by number: its segments, its lines, ground and power.
use Rattle.std.specs.Prelude.{ℕ, suc, ◌≡◌, ◌↔◌, ◌+◌, ◌<◌, Bool, true, false, cond, ◌&&◌, eqb, List, [], ◌∷◌}
use Rattle.std.specs.Prelude.{length, get_or}
use Rattle.union_find.specs.declared.pair.Pair.{Pair}
use Rattle.switch_net.specs.declared.network.Channel.{Channel}
use Rattle.switch_net.specs.declared.network.Network.{Network}
use Rattle.tile_cells.specs.declared.tile.Tile.TheVariants.{TapL, TapR, Tran, PullUp, Under}
use Rattle.fabric.specs.declared.thing.Side.{Side}
use Rattle.fabric.specs.declared.thing.Side.TheVariants.{L, R}
use Rattle.fabric.specs.declared.thing.Segment.{Segment}
use Rattle.fabric.specs.declared.thing.Line.{Line}
use Rattle.fabric.specs.declared.thing.Mark.{Mark}
use Rattle.fabric.specs.Plan.{Plan}
use Rattle.fabric.specs.declared.numbers.Classes.{Classes}
use Rattle.fabric.specs.Switches.{Net, LineOf, IsTapped, IsTapOn, AreNumbers}
use Rattle.fabric.specs.Switches.Net.{segment, line, ground, power}

abbrev pub net_count : Plan → ℕ
net_count f = length f.segments + length f.lines + 2

-- the number k is that of the net
pub data IsNumbered (f : Plan) (k : ℕ) (n : Net) : Type 0 where
  a_segment : (s : Segment) → k < length f.segments → get_or f.segments k s ≡ s → n ≡ segment s → IsNumbered f k n
  a_line : (i : ℕ) (l : Line) → i < length f.lines → get_or f.lines i l ≡ l → k ≡ length f.segments + i → n ≡ line l
      → IsNumbered f k n
  the_ground : k ≡ length f.segments + length f.lines → n ≡ ground → IsNumbered f k n
  the_power : k ≡ length f.segments + length f.lines + 1 → n ≡ power → IsNumbered f k n

abbrev pub is_tap : Mark → Bool
is_tap m = elim m.tile [ TapL ↦ true | TapR ↦ true | Tran ↦ false | PullUp ↦ false | Under ↦ false ]

-- the pair is that of the nets that the tap joins
pub record IsTapPair (f : Plan) (m : Mark) (p : Pair) : Type 0 where
  pub side : Side
  pub tile : IsTapOn side m.tile
  pub the_line : Net
  pub other : Net
  pub a : IsNumbered f p.a the_line
  pub b : IsNumbered f p.b other
  pub is_line : LineOf f m side the_line
  pub is_other : IsTapped f m other

-- equal numbers for equal entries, and all numbers below a count
pub record AreClassNumbers (least numbers : List ℕ) (count : ℕ) : Type 0 where
  pub as_many : length numbers ≡ length least
  pub below : (k : ℕ) → k < length least → get_or numbers k 0 < count
  pub onto : (j : ℕ) → j < count → (k : ℕ) × (k < length least) × (get_or numbers k 0 ≡ j)
  pub same : (a b : ℕ) → a < length least → b < length least → (get_or numbers a 0 ≡ get_or numbers b 0)
      ↔ (get_or least a 0 ≡ get_or least b 0)

-- the place of a value in a list, by a test of equality
unfoldable pub place_of : {A : Type 0} → (A → A → Bool) → A → List A → ℕ
place_of eq a [] = 0
place_of eq a (x ∷ xs) = cond (eq x a) 0 (suc (place_of eq a xs))

unfoldable pub same_segment : Segment → Segment → Bool
same_segment s t = eqb s.band t.band && (eqb s.row t.row && (eqb s.first t.first && eqb s.last t.last))

abbrev pub side_number : Side → ℕ
side_number L = 0
side_number R = 1

unfoldable pub same_line : Line → Line → Bool
same_line s t = eqb s.column t.column && (eqb (side_number s.side) (side_number t.side)
    && (eqb s.first_band t.first_band && eqb s.last_band t.last_band))

-- the number of a net
unfoldable pub index : Plan → Net → ℕ
index f (segment s) = place_of same_segment s f.segments
index f (line l) = length f.segments + place_of same_line l f.lines
index f ground = length f.segments + length f.lines
index f power = length f.segments + length f.lines + 1

-- the entry of a table for a net
unfoldable pub number_of : Plan → List ℕ → Net → ℕ
number_of f numbers n = get_or numbers (index f n) 0

-- numbers of the nets of a fabric, below their count, where taps join those with one number
pub record AreNetNumbers (f : Plan) (c : Classes) : Type 0 where
  pub as_many : length c.numbers ≡ net_count f
  pub numbers : AreNumbers f c.count (number_of f c.numbers)

-- the network has so many nodes, these channels and no tags
pub record IsUntagged (nodes : ℕ) (channels : List Channel) (net : Network) : Type 0 where
  pub nodes_are : net.nodes ≡ nodes
  pub channels_are : net.channels ≡ channels
  pub no_tags : net.tags ≡ []
