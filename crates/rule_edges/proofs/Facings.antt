-- Rectangles whose edges are clear of each other don't face each other.
use Rattle.std.proofs.Common.{ℕ, ◌≡◌, ◌+◌, ◌<◌, ◌≤◌, refl, sym, arith, List}
use Rattle.std.specs.Prelude.{All, ℤ, pos, negsuc, ◌+ℤ◌, ◌≤ℤ◌, ◌<ℤ◌, unsigned_abs, false, true}
use Rattle.std.proofs.lemmas.Int.{ints}
use Rattle.std.proofs.lemmas.List.Elements.{All-contains}
use Rattle.lam_geom.specs.declared.rect.Rect.{Rect}
use Rattle.lam_geom.specs.Moves.{IsNear, IsNearRect}
use Rattle.rule_edges.specs.declared.along.Along.{Along}
use Rattle.rule_edges.specs.declared.along.Along.TheVariants.{Rows, Columns}
use Rattle.rule_edges.specs.declared.edge.Edge.{Edge}
use Rattle.rule_edges.specs.declared.facing.Facing.{Facing}
use Rattle.rule_edges.specs.Edges.{AreApart, AreClear, HasEdges, IsOn, end_of, laid, number, offset, start_of}

pub offset_is : (z : ℤ) → IsNear z → pos (offset z) ≡ z +ℤ pos 1_100_000_000_000
offset_is z near = go (z +ℤ pos 1_100_000_000_000) refl
  where
    go : (d : ℤ) → z +ℤ pos 1_100_000_000_000 ≡ d → pos (unsigned_abs d) ≡ d
    go (pos n) e = refl
    go (negsuc n) e = absurd (let a = near.0 in omega (arith, ints))

pub laid_near : (along : Along) (r : Rect) → IsNearRect r → IsNearRect (laid along r)
laid_near Rows r h = h
laid_near Columns r h = record { x0 = h.y0; y0 = h.x0; x1 = h.y1; y1 = h.x1 }

between : (low row high : ℤ) → IsNear low → IsNear high → low ≤ℤ row → row <ℤ high → IsNear row
between low row high a b l m =
    (let c = a.0 in omega (arith, ints), (let c = b.1 in omega (arith, ints)))

-- a square of a column has a number among those of the edge
on_edge : (x low row high : ℤ) (gap : ℕ) (begins : _) → IsNear low → IsNear high → low ≤ℤ row → row <ℤ high
    → IsOn (record { from = number x low gap; to = number x high gap; begins = begins }) (number x row gap)
on_edge x low row high gap begins a b l m =
    let c = offset_is low a in
    let d = offset_is high b in
    let e = offset_is row (between low row high a b l m) in
    let f : offset low ≤ offset row = omega (arith, ints) in
    let g : offset row < offset high = omega (arith, ints) in
    record { from = omega arith; to = omega arith }

pub apart_of_clear : (f : Facing) (shapes : List Rect) (edges : List Edge) → All IsNearRect shapes
    → HasEdges f shapes edges → AreClear edges → AreApart f shapes
apart_of_clear f shapes edges near has clear r q in_r in_q from to faces =
    let r' = laid f.along r in
    let q' = laid f.along q in
    let a = laid_near f.along r (All-contains IsNearRect shapes r near in_r) in
    let b = laid_near f.along q (All-contains IsNearRect shapes q near in_q) in
    let c = offset_is r'.x1 a.x1 in
    let d = offset_is q'.x0 b.x0 in
    let e = faces.meet in
    let same : offset q'.x0 ≡ offset r'.x1 + f.gap = omega (arith, ints) in
    let m : number r'.x1 faces.row f.gap ≡ number q'.x0 faces.row 0 = omega arith in
    clear (end_of f.gap r') (start_of q') (has.ends r in_r from) (has.starts q in_q to) refl refl
    (number q'.x0 faces.row 0)
    (rw (sym m) (on_edge r'.x1 r'.y0 faces.row r'.y1 f.gap false a.y0 a.y1 faces.r_bottom faces.r_top))
    (on_edge q'.x0 q'.y0 faces.row q'.y1 0 true b.y0 b.y1 faces.q_bottom faces.q_top)
