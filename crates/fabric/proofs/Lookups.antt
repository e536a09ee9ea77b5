-- The last entry up to a place is that of the segment or line there.
use Rattle.std.proofs.Common.{ℕ, ◌≡◌, ◌+◌, ◌*◌, ◌<◌, ◌≤◌, inl, inr, refl, ap, subst, arith, List, length, get_or}
use Rattle.std.proofs.Common.{Contains}
use Rattle.fabric.specs.declared.thing.Side.{Side}
use Rattle.fabric.specs.declared.thing.Side.TheVariants.{L, R}
use Rattle.fabric.specs.declared.thing.Segment.{Segment}
use Rattle.fabric.specs.declared.thing.Line.{Line}
use Rattle.fabric.specs.declared.thing.Mark.{Mark}
use Rattle.fabric.specs.declared.places.Entry.{Entry}
use Rattle.fabric.specs.Plan.{Plan, Crosses, Passes, SegmentAt, LineAt, IsFabric, IsSegment}
use Rattle.fabric.specs.Room.{limit, IsRoomy}
use Rattle.fabric.specs.Shape.{base}
use Rattle.fabric.specs.Switches.{Net, LineOf, SegmentOf}
use Rattle.fabric.specs.Switches.Net.{segment, line}
use Rattle.fabric.specs.Numbers.{IsNumbered, side_number}
use Rattle.fabric.specs.Numbers.IsNumbered.{a_segment, a_line}
use Rattle.fabric.specs.Places.{key_in_row, key_in_column, segment_key, line_key, AreEntries, HasUpTo, IsLastUpTo}
use Rattle.fabric.proofs.Bases.{bands_lie}
use Rattle.fabric.proofs.Lying.{segment_lies, line_lies}
use Rattle.fabric.proofs.Apart.{one_segment, near_lines}

-- one place of the first key has the second's row or column, where the places along both are below the limit
same_group : (g h x y : ℕ) → x < limit → y < limit → g * limit + x ≤ h * limit + y → g ≤ h
same_group g h x y hx hy e = omega arith

two_sides : (a b : Side) → side_number a ≡ side_number b → a ≡ b
two_sides L L e = refl
two_sides R R e = refl
two_sides L R e = absurd (omega arith)
two_sides R L e = absurd (omega arith)

side_below : (s : Side) → side_number s < 2
side_below L = omega arith
side_below R = omega arith

module _ (f : Plan) (w : IsFabric f) (r : IsRoomy f) where
  -- rows of one height are one
  one_row : (s t : Segment) → IsSegment f s → IsSegment f t → base f s.band + 12 * s.row ≡ base f t.band + 12 * t.row
      → (s.band ≡ t.band) × (s.row ≡ t.row)
  one_row s t i j e =
      let low = i.below in
      let high = j.below in
      elim (bands_lie f s.band t.band).lie [
        | inl h ↦ (let apart = h.1 in absurd (omega arith))
        | inr (inl h) ↦ (let heights = h.1 in (h.0, omega arith))
        | inr (inr h) ↦ (let apart = h.1 in absurd (omega arith))
      ]

  module _ (entries : List Entry) (a : AreEntries (segment_key f) f.segments entries) (b row c : ℕ)
      (at : SegmentAt f b row c) where
    abbrev s : Segment
    s = at.segment

    abbrev own : Entry
    own = record { key = segment_key f s; number = at.among.0 }

    own_among : Contains entries own
    own_among = (a.each own).1 (record { thing = s; below = at.among.1; is = at.among.2; keyed = refl })

    height : base f s.band + 12 * s.row ≡ base f b + 12 * row
    height =
        let own_base : base f s.band ≡ base f b = ap (base f) at.crosses.band in
        let own_row = at.crosses.row in
        omega arith

    own_up_to : segment_key f s ≤ key_in_row f b row c
    own_up_to = let e = height in let h = at.crosses.first in omega arith

    pub segment_up_to : HasUpTo entries (key_in_row f b row c)
    segment_up_to = (own, own_among, own_up_to)

    found_segment : (k : ℕ) → IsLastUpTo entries (key_in_row f b row c) k
        → (t : Segment) × (k < length f.segments) × (get_or f.segments k t ≡ t) × Crosses t b row c
    found_segment k last =
        let e = (a.each last.entry).0 last.among in
        let t : Segment = e.thing in
        let ms : Contains f.segments s = at.among in
        let mt : Contains f.segments t = (last.entry.number, e.below, e.is) in
        let i = segment_lies f w s ms in
        let j = segment_lies f w t mt in
        let columns = r.columns_fit in
        let i_last = i.last in let i_order = i.order in
        let j_last = j.last in let j_order = j.order in
        let c_last = at.crosses.last in
        let keyed = e.keyed in
        let low : segment_key f s ≤ segment_key f t =
        let from = last.last own own_among own_up_to in omega arith in
        let high : segment_key f t ≤ key_in_row f b row c = let to = last.within in omega arith in
        let up = same_group (base f s.band + 12 * s.row) (base f t.band + 12 * t.row) s.first t.first
        (omega arith) (omega arith) low in
        let down = same_group (base f t.band + 12 * t.row) (base f b + 12 * row) t.first c
        (omega arith) (omega arith) high in
        let level = height in
        let one = one_row s t i j (omega arith) in
        let same : s ≡ t = one_segment f w s t ms mt one.0 one.1 (omega arith) (omega arith) in
        let numbered = last.numbered in (
          t,
          subst (λ z. z < length f.segments) numbered e.below,
          subst (λ z. get_or f.segments z t ≡ t) numbered e.is,
          subst (λ z. Crosses z b row c) same at.crosses,
        )

  module _ (entries : List Entry) (a : AreEntries line_key f.lines entries) (side : Side) (b c : ℕ)
      (at : LineAt f side b c) where
    abbrev l : Line
    l = at.line

    abbrev own_line : Entry
    own_line = record { key = line_key l; number = at.among.0 }

    own_line_among : Contains entries own_line
    own_line_among = (a.each own_line).1 (record { thing = l; below = at.among.1; is = at.among.2; keyed = refl })

    group : 2 * l.column + side_number l.side ≡ 2 * c + side_number side
    group =
        let own_side : side_number l.side ≡ side_number side = ap side_number at.passes.at_side in
        let own_column = at.passes.column in
        omega arith

    line_key_up_to : line_key l ≤ key_in_column side c b
    line_key_up_to = let e = group in let h = at.passes.first in omega arith

    pub line_up_to : HasUpTo entries (key_in_column side c b)
    line_up_to = (own_line, own_line_among, line_key_up_to)

    found_line : (k : ℕ) → IsLastUpTo entries (key_in_column side c b) k
        → (m : Line) × (k < length f.lines) × (get_or f.lines k m ≡ m) × Passes m side b c
    found_line k last =
        let e = (a.each last.entry).0 last.among in
        let m : Line = e.thing in
        let ml : Contains f.lines l = at.among in
        let mm : Contains f.lines m = (last.entry.number, e.below, e.is) in
        let i = line_lies f w l ml in
        let j = line_lies f w m mm in
        let bands = r.bands_fit in
        let i_last = i.last in let i_order = i.order in
        let j_last = j.last in let j_order = j.order in
        let b_last = at.passes.last in
        let keyed = e.keyed in
        let low : line_key l ≤ line_key m =
        let from = last.last own_line own_line_among line_key_up_to in omega arith in
        let high : line_key m ≤ key_in_column side c b = let to = last.within in omega arith in
        let up = same_group (2 * l.column + side_number l.side) (2 * m.column + side_number m.side) l.first_band
        m.first_band
        (omega arith) (omega arith) low in
        let down = same_group (2 * m.column + side_number m.side) (2 * c + side_number side) m.first_band b
        (omega arith) (omega arith) high in
        let level = group in
        let l_side = side_below l.side in
        let m_side = side_below m.side in
        let columns : l.column ≡ m.column = omega arith in
        let sides : l.side ≡ m.side = two_sides l.side m.side (omega arith) in
        let same : l ≡ m = near_lines f w l m ml mm columns sides (omega arith) (omega arith) in
        let numbered = last.numbered in (
          m,
          subst (λ z. z < length f.lines) numbered e.below,
          subst (λ z. get_or f.lines z m ≡ m) numbered e.is,
          subst (λ z. Passes z side b c) same at.passes,
        )

  pub segment_found : (entries : List Entry) → AreEntries (segment_key f) f.segments entries → (m : Mark)
      → SegmentAt f m.band m.row m.column → (k : ℕ) → IsLastUpTo entries (key_in_row f m.band m.row m.column) k
      → (n : Net) × SegmentOf f m n × IsNumbered f k n
  segment_found entries a m at k last =
      let found = found_segment entries a m.band m.row m.column at k last in
      let s : Segment = found.0 in (
        segment s,
        record { the_segment = s; among = (k, found.1, found.2); crosses = found.3; is = refl },
        a_segment s found.1 found.2 refl,
      )

  pub line_found : (entries : List Entry) → AreEntries line_key f.lines entries → (side : Side) (m : Mark)
      → LineAt f side m.band m.column → (k : ℕ) → IsLastUpTo entries (key_in_column side m.column m.band) k
      → (k < length f.lines) × ((n : Net) × LineOf f m side n × IsNumbered f (length f.segments + k) n)
  line_found entries a side m at k last =
      let found = found_line entries a side m.band m.column at k last in
      let l : Line = found.0 in (
        found.1,
        (
          line l,
          record { the_line = l; among = (k, found.1, found.2); passes = found.3; is = refl },
          a_line k l found.1 found.2 refl refl,
        ),
      )
