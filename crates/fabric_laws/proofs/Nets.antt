-- The net of a conductor, as its tile shows it.
use Rattle.std.proofs.Common.{ℕ, ◌≡◌, ◌+◌, ◌≤◌, ◌⊎◌, inl, inr, sym, ◌∙◌, arith, Contains}
use Rattle.fabric.specs.declared.thing.Segment.{Segment}
use Rattle.fabric.specs.declared.thing.Line.{Line}
use Rattle.fabric.specs.Plan.{Plan, Passes, Crosses, IsFabric}
use Rattle.fabric.specs.Switches.{Net}
use Rattle.fabric.specs.Switches.Net.{segment, line, ground, power}
use Rattle.fabric.proofs.Apart.{one_segment}
use Rattle.fabric.proofs.Lying.{segment_lies}
use Rattle.fabric_laws.proofs.Tables.{Kind}
use Rattle.fabric_laws.proofs.Tables.Kind.{of_ground, of_power, of_segment, of_line}

-- the segment crosses the tile, or the tile is that of the crossing under the trunk from which it begins
abbrev pub Reaches : Segment → ℕ → ℕ → ℕ → Type 0
Reaches s b r c = Crosses s b r c ⊎ (c ≡ 0) × (s.band ≡ b) × (s.row ≡ r) × (s.first ≡ 1)

abbrev pub NetAt : Plan → ℕ → ℕ → ℕ → Kind → Net → Type 0
NetAt f b r c of_ground n = n ≡ ground
NetAt f b r c of_power n = n ≡ power
NetAt f b r c of_segment n = (s : Segment) × Contains f.segments s × Reaches s b r c × (n ≡ segment s)
NetAt f b r c (of_line side) n = (l : Line) × Contains f.lines l × Passes l side b c × (n ≡ line l)

module _ (f : Plan) (w : IsFabric f) where
  -- two segments that come within a column of one place of a row are one
  pub near_segments : (b r c c2 : ℕ) (s t : Segment) → Contains f.segments s → Contains f.segments t → Reaches s b r c
      → Reaches t b r c2 → c ≤ c2 → c2 ≤ c + 1
      → (1 ≤ s.first) × (s.first ≤ s.last) → (1 ≤ t.first) × (t.first ≤ t.last) → s ≡ t
  near_segments b r c c2 s t ms mt (inl p) (inl q) h k i j =
      let p0 = p.first in let p1 = p.last in let q0 = q.first in let q1 = q.last in
      one_segment f w s t ms mt (p.band ∙ sym q.band) (p.row ∙ sym q.row) (omega arith) (omega arith)
  near_segments b r c c2 s t ms mt (inl p) (inr q) h k i j =
      let p0 = p.first in let p1 = p.last in let q0 = q.0 in let q1 = q.3 in let i0 = i.0 in let i1 = i.1 in
      absurd (omega arith)
  near_segments b r c c2 s t ms mt (inr p) (inl q) h k i j =
      let p0 = p.0 in let p1 = p.3 in let q0 = q.first in let q1 = q.last in let i1 = i.1 in let j0 = j.0 in
      let j1 = j.1 in
      one_segment f w s t ms mt (p.1 ∙ sym q.band) (p.2 ∙ sym q.row) (omega arith) (omega arith)
  near_segments b r c c2 s t ms mt (inr p) (inr q) h k i j =
      let p1 = p.3 in let q1 = q.3 in let i1 = i.1 in let j1 = j.1 in
      one_segment f w s t ms mt (p.1 ∙ sym q.1) (p.2 ∙ sym q.2) (omega arith) (omega arith)

  pub in_order : (s : Segment) → Contains f.segments s → (1 ≤ s.first) × (s.first ≤ s.last)
  in_order s m = let i = segment_lies f w s m in (i.first, i.order)
