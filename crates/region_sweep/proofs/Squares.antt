-- The colour of a square is that of its cell.
use Rattle.std.proofs.Common.{ℕ, ◌≡◌, ◌<◌, ◌↔◌, List, [], true, inl}
use Rattle.std.proofs.Common.{inr, sym, ◌∙◌, subst, arith}
use Rattle.std.specs.Prelude.{ℤ, ◌<ℤ◌, Contains}
use Rattle.std.proofs.lemmas.Int.{ints, by_lt_z}
use Rattle.std.proofs.lemmas.Bool.{cases_lt}
use Rattle.std.proofs.lemmas.List.{get_or_default}
use Rattle.std.proofs.lemmas.List.Elements.{All-contains}
use Rattle.mp_base.proofs.Tests.{same_test}
use Rattle.lam_geom.specs.declared.layer.Layer.{Layer}
use Rattle.lam_geom.specs.declared.rect.Rect.{Rect}
use Rattle.lam_geom.specs.Squares.{Covers, covered}
use Rattle.lam_geom.proofs.Covered.{covers_all, covered_by}
use Rattle.mask_runs.specs.declared.mask.Layers.{Layers}
use Rattle.mask_runs.specs.declared.mask.Mask.{Mask}
use Rattle.mask_runs.specs.Colours.{has, uses, colour_of, Sees, HasColour}
use Rattle.mask_runs.specs.Laws.{ColoursByLayers}
use Rattle.region_sweep.specs.declared.block.Block.{Block}
use Rattle.region_sweep.specs.Blocks.{is_covered, painted}
use Rattle.region_sweep.specs.Rows.{block, no_block}
use Rattle.region_sweep.specs.Grid.{Ascending, cell_of, IsDrawn, AreDrawn, AreBlocks, block_of}
use Rattle.region_sweep.proofs.Axes.{mark_before}
use Rattle.mask_tiles.proofs.SeenLayers.{layers_of}
use Rattle.region_sweep.proofs.Painting.{CoversCell, Covered, covered_decides, painted_is}

-- the grid of a mask, and its blocks
pub record IsGrid (xs ys : List ℤ) (mask : Mask) (shapes : List Rect) (blocks : List Block) : Type 0 where
  pub columns : Ascending xs
  pub rows : Ascending ys
  pub drawn : AreDrawn xs ys mask shapes
  pub made : AreBlocks xs ys mask shapes blocks

pub before_mark : (ms : List ℤ) (m z : ℤ) → Ascending ms → Contains ms m → (z <ℤ m) ↔ (cell_of ms z < cell_of ms m)
before_mark ms m z up has =
    let b = mark_before ms m z up has in (
      λ l. elim (cases_lt (cell_of ms z) (cell_of ms m)) [
        | inl a ↦ a
        | inr a ↦ let c = b.1 a in absurd (omega (arith, ints))
      ],
      λ l. by_lt_z z m (λ a. a) (λ a. let c = b.0 a in absurd (omega arith)),
    )

-- a rectangle covers the square exactly where its block covers the cell
block_covers : (xs ys : List ℤ) (r : Rect) (l : Layer) (x y : ℤ) → Ascending xs → Ascending ys → IsDrawn xs ys r
    → Covers r l x y ↔ CoversCell (block_of xs ys r) l (cell_of ys y) (cell_of xs x)
block_covers xs ys r l x y upx upy d = (
  λ h. record {
    same = h.same;
    left = (mark_before xs r.x0 x upx d.x0).0 h.left;
    right = (before_mark xs r.x1 x upx d.x1).0 h.right;
    low = (mark_before ys r.y0 y upy d.y0).0 h.bottom;
    high = (before_mark ys r.y1 y upy d.y1).0 h.top;
  },
  λ h. record {
    same = h.same;
    left = (mark_before xs r.x0 x upx d.x0).1 h.left;
    right = (before_mark xs r.x1 x upx d.x1).1 h.right;
    bottom = (mark_before ys r.y0 y upy d.y0).1 h.low;
    top = (before_mark ys r.y1 y upy d.y1).1 h.high;
  },
)

pub square_covered : (xs ys : List ℤ) (mask : Mask) (shapes : List Rect) (blocks : List Block) (l : Layer) (x y : ℤ)
    → IsGrid xs ys mask shapes blocks
    → uses mask l ≡ true → covered shapes l x y ↔ Covered blocks l (cell_of ys y) (cell_of xs x)
square_covered xs ys mask shapes blocks l x y g u = (
  λ h.
      let a = covered_by shapes l x y h in
      let v : uses mask a.0.layer ≡ true = subst (λ m. uses mask m ≡ true) (sym a.2.same) u in
      let d = All-contains (λ r. uses mask r.layer ≡ true → IsDrawn xs ys r) shapes a.0 g.drawn a.1 v in
      let c = g.made.all a.0 a.1 v in
      let at : block blocks c.0 ≡ block_of xs ys a.0 =
      get_or_default blocks c.0 no_block (block_of xs ys a.0) c.1 ∙ c.2 in (
        c.0,
        c.1,
        subst (λ b. CoversCell b l (cell_of ys y) (cell_of xs x)) (sym at)
            ((block_covers xs ys a.0 l x y g.columns g.rows d).0 a.2),
      ),
  λ h.
      let e = g.made.each h.0 no_block h.1 in
      let d = All-contains (λ r. uses mask r.layer ≡ true → IsDrawn xs ys r) shapes e.0 g.drawn e.1 e.2 in
      covers_all shapes l x y e.0 e.1 ((block_covers xs ys e.0 l x y g.columns g.rows d).1
      (subst (λ b. CoversCell b l (cell_of ys y) (cell_of xs x)) e.3 h.2)),
)

pub square_painted : ColoursByLayers
    → (xs ys : List ℤ) (mask : Mask) (shapes : List Rect) (blocks : List Block) (x y : ℤ)
    → IsGrid xs ys mask shapes blocks → (s : Layers) → Sees shapes x y s
    → colour_of mask s ≡ painted mask blocks (cell_of ys y) (cell_of xs x)
square_painted law xs ys mask shapes blocks x y g s h = painted_is law mask blocks (cell_of ys y) (cell_of xs x) s
    (λ l u.
    let c = square_covered xs ys mask shapes blocks l x y g u in
    let d = covered_decides blocks l (cell_of ys y) (cell_of xs x) in
    same_test (has s l) (is_covered blocks l (cell_of ys y) (cell_of xs x)) (h.each l)
    (λ e. c.1 (d.0 e), λ k. d.1 (c.0 k)))

-- a square has a colour exactly where its cell has it
pub has_colour : ColoursByLayers
    → (xs ys : List ℤ) (mask : Mask) (shapes : List Rect) (blocks : List Block) (k : ℕ) (x y : ℤ)
    → IsGrid xs ys mask shapes blocks
    → HasColour shapes mask k x y ↔ (painted mask blocks (cell_of ys y) (cell_of xs x) ≡ k)
has_colour law xs ys mask shapes blocks k x y g = (
  λ h. sym (square_painted law xs ys mask shapes blocks x y g h.layers h.sees) ∙ h.same,
  λ e.
      let s = layers_of shapes x y in
      record { layers = s.0; sees = s.1; same = square_painted law xs ys mask shapes blocks x y g s.0 s.1 ∙ e },
)
