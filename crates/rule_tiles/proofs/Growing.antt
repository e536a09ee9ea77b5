-- Areas that are grown by less than a block.
use Rattle.std.proofs.Common.{ℕ, ◌≡◌, ◌+◌, List, arith}
use Rattle.std.specs.Prelude.{All, ℤ, pos, neg_ℤ, negsuc, ◌+ℤ◌, ◌≤ℤ◌, ◌<ℤ◌}
use Rattle.std.proofs.lemmas.Int.{ints, by_lt_z}
use Rattle.std.proofs.lemmas.List.Elements.{All-contains}
use Rattle.lam_geom.specs.declared.rect.Rect.{Rect}
use Rattle.lam_geom.specs.Rules.{IsInBlock}
use Rattle.rule_tiles.specs.Areas.{reached, held, IsSolid}
use Rattle.rule_tiles.proofs.Areas.{reached_by, reaches_all}

-- a place of a span among the next ones, or among those before
place_ahead : (a b z : ℤ) (n m : ℕ) → m ≡ n + 1 → a <ℤ b → (a +ℤ neg_ℤ (pos n)) ≤ℤ z → z <ℤ (b +ℤ pos 0)
    → (p : ℤ) × (a ≤ℤ p) × (p <ℤ b) × (z ≤ℤ p) × (p <ℤ (z +ℤ pos m))
place_ahead a b z n m e some low high = by_lt_z z a
    (λ h. (a, omega (arith, ints), omega (arith, ints), omega (arith, ints), omega (arith, ints)))
    (λ h. (z, omega (arith, ints), omega (arith, ints), omega (arith, ints), omega (arith, ints)))

place_back : (a b z : ℤ) (n m : ℕ) → m ≡ n + 1 → a <ℤ b → (a +ℤ neg_ℤ (pos 0)) ≤ℤ z → z <ℤ (b +ℤ pos n)
    → (p : ℤ) × (a ≤ℤ p) × (p <ℤ b) × (p ≤ℤ z) × (z <ℤ (p +ℤ pos m))
place_back a b z n m e some low high = by_lt_z z b
    (λ h. (z, omega (arith, ints), omega (arith, ints), omega (arith, ints), omega (arith, ints)))
    (λ h. (b +ℤ negsuc 0, omega (arith, ints), omega (arith, ints), omega (arith, ints), omega (arith, ints)))

module _ (area : List Rect) (solid : All IsSolid area) (n side : ℕ) (is : side ≡ n + 1) where
  -- grown to the left and down: the corners of blocks with a square of the area
  pub some_in_block : (a b : ℤ) → reached n 0 area a b → (x : ℤ) × (y : ℤ) × held area x y × IsInBlock a b side x y
  some_in_block a b h =
      let g = reached_by n 0 area a b h in
      let s = All-contains IsSolid area g.0 solid g.1 in
      let x = place_ahead (g.0).x0 (g.0).x1 a n side is s.wide g.2.left g.2.right in
      let y = place_ahead (g.0).y0 (g.0).y1 b n side is s.tall g.2.bottom g.2.top in
      let x1 = x.1 in
      let x2 = x.2 in
      let y1 = y.1 in
      let y2 = y.2 in (
        x.0,
        y.0,
        reaches_all 0 0 area x.0 y.0 g.0 g.1 (record {
          left = omega (arith, ints);
          right = omega (arith, ints);
          bottom = omega (arith, ints);
          top = omega (arith, ints);
        }),
        record { left = x.3; right = x.4; bottom = y.3; top = y.4 },
      )

  pub corner_reached : (a b x y : ℤ) → held area x y → IsInBlock a b side x y → reached n 0 area a b
  corner_reached a b x y h i =
      let g = reached_by 0 0 area x y h in
      let r = g.2 in
      let l = r.left in
      let m = r.right in
      let o = r.bottom in
      let p = r.top in
      let il = i.left in
      let ir = i.right in
      let ib = i.bottom in
      let it = i.top in
      reaches_all n 0 area a b g.0 g.1 (record {
        left = omega (arith, ints);
        right = omega (arith, ints);
        bottom = omega (arith, ints);
        top = omega (arith, ints);
      })

  -- grown to the right and up: the squares of blocks whose corners are in the area
  pub corner_of_block : (x y : ℤ) → reached 0 n area x y → (a : ℤ) × (b : ℤ) × held area a b × IsInBlock a b side x y
  corner_of_block x y h =
      let g = reached_by 0 n area x y h in
      let s = All-contains IsSolid area g.0 solid g.1 in
      let a = place_back (g.0).x0 (g.0).x1 x n side is s.wide g.2.left g.2.right in
      let b = place_back (g.0).y0 (g.0).y1 y n side is s.tall g.2.bottom g.2.top in
      let a1 = a.1 in
      let a2 = a.2 in
      let b1 = b.1 in
      let b2 = b.2 in (
        a.0,
        b.0,
        reaches_all 0 0 area a.0 b.0 g.0 g.1 (record {
          left = omega (arith, ints);
          right = omega (arith, ints);
          bottom = omega (arith, ints);
          top = omega (arith, ints);
        }),
        record { left = a.3; right = a.4; bottom = b.3; top = b.4 },
      )

  pub block_reached : (a b x y : ℤ) → held area a b → IsInBlock a b side x y → reached 0 n area x y
  block_reached a b x y h i =
      let g = reached_by 0 0 area a b h in
      let r = g.2 in
      let l = r.left in
      let m = r.right in
      let o = r.bottom in
      let p = r.top in
      let il = i.left in
      let ir = i.right in
      let ib = i.bottom in
      let it = i.top in
      reaches_all 0 n area x y g.0 g.1 (record {
        left = omega (arith, ints);
        right = omega (arith, ints);
        bottom = omega (arith, ints);
        top = omega (arith, ints);
      })
