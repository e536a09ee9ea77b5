-- No diffusion, polysilicon or metal of a fabric is too narrow.
use Rattle.std.proofs.Common.{ℕ, ◌≡◌, ◌+◌, ◌*◌, ◌-◌, ◌<◌, ◌≤◌, inl, inr, refl, ◌∙◌, ap, subst, arith, Bool, true, ◌&&◌, leb}
use Rattle.std.specs.Prelude.{ℤ, pos, min}
use Rattle.std.proofs.lemmas.Int.{ints}
use Rattle.std.proofs.lemmas.Bool.{and_parts, and_from, leb-true}
use Rattle.mp_base.proofs.Members.{Member}
use Rattle.lam_geom.specs.declared.layer.Layer.{Layer}
use Rattle.lam_geom.specs.declared.layer.Layer.TheVariants.{ND, NP, NM}
use Rattle.lam_geom.specs.Squares.{covered}
use Rattle.tile_cells.specs.Tiles.{Cell}
use Rattle.fabric.specs.Plan.{Plan, bands, rows_of, IsFabric}
use Rattle.fabric.specs.Shape.{base, shape}
use Rattle.fabric.proofs.Lying.{some_rows}
use Rattle.lam_geom.specs.Rules.{IsInBlock, IsWhole, IsNarrow}
use Rattle.fabric_laws.proofs.Tile.{Thing, cells_of, Here, Inside, At, Slot, Local}
use Rattle.fabric_laws.proofs.Lists.{every, every_at}
use Rattle.fabric_laws.proofs.Heights.{natural}
use Rattle.fabric_laws.proofs.Local.{local_of}
use Rattle.fabric_laws.proofs.Back.{drawn_at}
use Rattle.fabric_laws.proofs.Zones.{IsRow, row_at, here_row}
use Rattle.fabric_laws.proofs.Conductors.{all_things, all_rows, follows, at_cell, layer_is}
use Rattle.fabric_laws.proofs.Tables.{Row, things, rows_all, stands_in, is_layer, row_height}
use Rattle.fabric_laws.proofs.Tables.Row.{lowest, signal, top}
use Rattle.fabric_laws.proofs.RuleTables.{top_in, is_wide, all_wide, fits_across, fits_across_passes}
use Rattle.fabric_laws.proofs.RuleTables.{diffusion_wide, polysilicon_wide, metal_wide}

at_wide : (l : Layer) (n : ℕ) → all_wide l n ≡ true → (q : Row) (t : Thing) (k : Cell) → Member (cells_of t) k
    → is_wide l n q t k ≡ true
at_wide l n h q t k m =
    let a = every_at (λ q. every (λ t. every (λ k. is_wide l n q t k) (cells_of t)) things) rows_all q h (all_rows q) in
    let b = every_at (λ t. every (λ k. is_wide l n q t k) (cells_of t)) things t a (all_things t) in
    every_at (λ k. is_wide l n q t k) (cells_of t) k b m

pub fits : (t : Thing) (k : Cell) → Member (cells_of t) k → k.x1 ≤ 20
fits t k m = leb-true k.x1 20 (at_cell fits_across fits_across_passes t k m)

module _ (f : Plan) (w : IsFabric f) where
  -- heights in a row
  pub slot_in : (b r v : ℕ) (q : Row) → b < bands f → IsRow f b r q → v < 500 * row_height q → Slot f b r v
  slot_in b r v lowest hb i h = let s = some_rows f w b hb in inl (omega arith, h)
  slot_in b r v signal hb i h = inl (i.1, h)
  slot_in b r v top hb i h = inr (i, h)

  pub below_top : (b r v : ℕ) (q : Row) → b < bands f → IsRow f b r q → Slot f b r v → v < 500 * row_height q
  below_top b r v lowest hb i (inl s) = s.1
  below_top b r v lowest hb i (inr s) = let k = some_rows f w b hb in let s0 = s.0 in absurd (omega arith)
  below_top b r v signal hb i (inl s) = s.1
  below_top b r v signal hb i (inr s) = let i1 = i.1 in let s0 = s.0 in absurd (omega arith)
  below_top b r v top hb i (inl s) = let s0 = s.0 in absurd (omega arith)
  below_top b r v top hb i (inr s) = s.1

  pub not_narrow : (l : Layer) (n : ℕ) → all_wide l n ≡ true → 1 ≤ n → (x y : ℤ)
      → ¬ IsNarrow (covered (shape f) l) (500 * n) x y
  not_narrow l n h one x y i =
      let k = local_of f w l x y i.here in
      let q = row_at f w k.b k.r k.v k.at.slot in
      let e = follows (stands_in k.thing q.0 && is_layer l k.cell)
      (leb (k.cell.x0 + n) k.cell.x1 && leb (k.cell.y0 + n) (top_in q.0 k.cell))
      (at_wide l n h q.0 k.thing k.cell k.among)
      (and_from _ _ (here_row f w k.thing k.b k.r k.c q.0 k.at.band k.here q.1) (layer_is l k.cell k.layer)) in
      let e0 = and_parts (leb (k.cell.x0 + n) k.cell.x1) (leb (k.cell.y0 + n) (top_in q.0 k.cell)) e in
      go k q.0 q.1 (leb-true (k.cell.x0 + n) k.cell.x1 e0.0) (leb-true (k.cell.y0 + n) (top_in q.0 k.cell) e0.1)
    where
      go : (k : Local f l x y) (q : Row) → IsRow f k.b k.r q → k.cell.x0 + n ≤ k.cell.x1
          → k.cell.y0 + n ≤ min k.cell.y1 (row_height q) → ⊥
      go k q iq wide high =
          let i0 = k.inside.left in let i1 = k.inside.right in let i2 = k.inside.bottom in let i3 = k.inside.top in
          let a0 = k.at.at_x in let a1 = k.at.at_y in let a2 = k.at.in_x in
          let z = below_top k.b k.r k.v q k.at.band iq k.at.slot in
          let g = fits k.thing k.cell k.among in
          let u0 = min k.u (500 * k.cell.x1 - 500 * n) in
          let v0 = min k.v (500 * min k.cell.y1 (row_height q) - 500 * n) in
          i.alone (pos (10000 * k.c + u0)) (pos (500 * base f k.b + 6000 * k.r + v0))
          (record {
            left = omega (arith, ints);
            right = omega (arith, ints);
            bottom = omega (arith, ints);
            top = omega (arith, ints);
          })
          (λ p o m.
          let c = natural p (10000 * k.c + u0) m.left in
          let d = natural o (500 * base f k.b + 6000 * k.r + v0) m.bottom in
          let c1 = c.1 in let c2 = c.2 in let d1 = d.1 in let d2 = d.2 in
          let m0 = m.right in let m1 = m.top in
          subst (λ z. covered (shape f) z p o) k.layer
          (drawn_at f w k.thing k.cell k.b k.r k.c (c.0 - 10000 * k.c) (d.0 - (500 * base f k.b + 6000 * k.r)) p o
          k.among k.here
          (record {
            band = k.at.band;
            slot = slot_in k.b k.r (d.0 - (500 * base f k.b + 6000 * k.r)) q k.at.band iq (omega (arith, ints));
            at_x = omega (arith, ints);
            at_y = omega (arith, ints);
            in_x = omega (arith, ints);
          })
          (record {
            left = omega (arith, ints);
            right = omega (arith, ints);
            bottom = omega (arith, ints);
            top = omega (arith, ints);
          })))

  pub diffusion_is_wide : (x y : ℤ) → ¬ IsNarrow (covered (shape f) ND) 1000 x y
  diffusion_is_wide x y i = not_narrow ND 2 diffusion_wide (omega arith) x y i

  pub polysilicon_is_wide : (x y : ℤ) → ¬ IsNarrow (covered (shape f) NP) 1000 x y
  polysilicon_is_wide x y i = not_narrow NP 2 polysilicon_wide (omega arith) x y i

  pub metal_is_wide : (x y : ℤ) → ¬ IsNarrow (covered (shape f) NM) 1500 x y
  metal_is_wide x y i = not_narrow NM 3 metal_wide (omega arith) x y i
