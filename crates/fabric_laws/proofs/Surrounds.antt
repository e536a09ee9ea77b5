-- Each contact cut of a fabric is surrounded by metal, and by polysilicon or diffusion.
use Rattle.std.proofs.Common.{ℕ, ◌≡◌, ◌+◌, ◌*◌, ◌<◌, ◌≤◌, ◌⊎◌, inl, inr, refl, sym, ◌∙◌, ap, subst, arith, true, ◌&&◌}
use Rattle.std.proofs.Common.{[], ◌∷◌}
use Rattle.std.specs.Prelude.{ℤ, pos, neg_ℤ, ◌+ℤ◌}
use Rattle.std.proofs.lemmas.Int.{ints}
use Rattle.mp_base.proofs.Members.{Member}
use Rattle.lam_geom.specs.declared.layer.Layer.{Layer}
use Rattle.lam_geom.specs.declared.layer.Layer.TheVariants.{ND, NP, NC, NM, NI}
use Rattle.lam_geom.specs.Squares.{covered, RectanglesAreJoined}
use Rattle.tile_cells.specs.declared.tile.Tile.TheVariants.{TapL, TapR, Tran, PullUp, Under}
use Rattle.tile_cells.specs.Tiles.{Cell, cell}
use Rattle.fabric.specs.declared.thing.Side.{Side}
use Rattle.fabric.specs.declared.thing.Side.TheVariants.{L, R}
use Rattle.fabric.specs.Plan.{Plan, bands, rows_of, LineAt, SegmentAt, IsFabric}
use Rattle.fabric.specs.Shape.{offset, shape, last_column}
use Rattle.fabric.proofs.Lying.{passing, crossing}
use Rattle.lam_geom.specs.Rules.{IsInBlock, IsWhole, IsSquareCut, IsSurrounded, IsBareCut}
use Rattle.fabric_laws.proofs.Tile.{Thing, cells_of, Here, MarkAt, Local}
use Rattle.fabric_laws.proofs.Tile.Thing.{trunk, power, ground_start, ground_on, rail, rail_end, seg, lin, mark}
use Rattle.fabric_laws.proofs.Tile.Thing.{under_rail}
use Rattle.fabric_laws.proofs.Lists.{some}
use Rattle.fabric_laws.proofs.Local.{local_of}
use Rattle.fabric_laws.proofs.Zones.{row_at, here_row, mark_stands, mark_at_lies, pull_up_line}
use Rattle.fabric_laws.proofs.Tables.{is_layer, lies_in}
use Rattle.fabric_laws.proofs.RuleTables.{grown}
use Rattle.fabric_laws.proofs.Cuts.{cut_cell, block_x, block_y, is_square, whole_by}

-- a rectangle of the layer holds the one around the cut
abbrev Holds : Layer → Cell → Thing → Type 0
Holds l k t = some (λ c. is_layer l c && lies_in (grown k) c) (cells_of t) ≡ true

other : (a k : Cell) → a ≡ k → k.layer ≡ NC → (a.layer ≡ NC → ⊥) → ⊥
other a k e l n = n (ap (λ z. z.layer) e ∙ l)

module _ (f : Plan) (w : IsFabric f) where
  record Around (b r c : ℕ) (k : Cell) : Type 0 where
    metal : Thing
    metal_here : Here f b r c metal
    metal_holds : Holds NM k metal
    below : Thing
    below_here : Here f b r c below
    below_holds : Holds NP k below ⊎ Holds ND k below

  row_metal : (b r c : ℕ) → 1 ≤ c → c < last_column f → (r ≡ 0) ⊎ SegmentAt f b r c
      → (t : Thing) × Here f b r c t × ((k : Cell) → Holds NM k seg → Holds NM k t)
  row_metal b r c h g (inl e) = (ground_on, (h, g, e), λ k n. n)
  row_metal b r c h g (inr s) = (seg, s, λ k n. n)

  line_here : (s : Side) (b r c : ℕ) → LineAt f s b c → r < rows_of f b → Here f b r c (lin s)
  line_here s b r c l h = (l.line, l.among, l.passes, inl h)

  around : (b r c : ℕ) (t : Thing) (k : Cell) → Member (cells_of t) k → k.layer ≡ NC → Here f b r c t → Around b r c k
  around b r c (mark TapL) k (inl e) l h =
      let s = mark_stands f w TapL b r c h.0 in
      let p = passing f w s.0.line L b c s.0.among s.0.passes in
      let n = row_metal b r c p.left p.right s.1 in
      subst (Around b r c) e (record {
        metal = n.0;
        metal_here = n.1;
        metal_holds = n.2 (cell NC 3 7 5 9) refl;
        below = lin L;
        below_here = line_here L b r c s.0 (mark_at_lies f w TapL b r c h.0).row;
        below_holds = inr refl;
      })
  around b r c (mark TapR) k (inl e) l h =
      let s = mark_stands f w TapR b r c h.0 in
      let p = passing f w s.0.line R b c s.0.among s.0.passes in
      let n = row_metal b r c p.left p.right s.1 in
      subst (Around b r c) e (record {
        metal = n.0;
        metal_here = n.1;
        metal_holds = n.2 (cell NC 15 7 17 9) refl;
        below = lin R;
        below_here = line_here R b r c s.0 (mark_at_lies f w TapR b r c h.0).row;
        below_holds = inr refl;
      })
  around b r c (mark Tran) k (inr (inr (inr (inl e)))) l h =
      let s = mark_stands f w Tran b r c h.0 in
      subst (Around b r c) e (record {
        metal = seg;
        metal_here = s.2;
        metal_holds = refl;
        below = mark Tran;
        below_here = h;
        below_holds = inl refl;
      })
  around b r c (mark PullUp) k (inr (inl e)) l h =
      subst (Around b r c) e (record {
        metal = mark PullUp;
        metal_here = h;
        metal_holds = refl;
        below = mark PullUp;
        below_here = h;
        below_holds = inr refl;
      })
  around b r c (mark PullUp) k (inr (inr (inr (inr (inl e))))) l h =
      subst (Around b r c) e (record {
        metal = mark PullUp;
        metal_here = h;
        metal_holds = refl;
        below = mark PullUp;
        below_here = h;
        below_holds = inl refl;
      })
  around b r c (mark PullUp) k (inr (inr (inr (inr (inr (inr (inr (inr (inl e))))))))) l h =
      let s = pull_up_line f w b r c h.0 in
      let p = passing f w s.line L b c s.among s.passes in
      subst (Around b r c) e (record {
        metal = rail;
        metal_here = (p.left, p.right, (mark_stands f w PullUp b r c h.0).0);
        metal_holds = refl;
        below = mark PullUp;
        below_here = h;
        below_holds = inr refl;
      })
  around b r c (mark Under) k (inr (inr (inr (inl e)))) l h =
      subst (Around b r c) e (record {
        metal = mark Under;
        metal_here = h;
        metal_holds = refl;
        below = mark Under;
        below_here = h;
        below_holds = inl refl;
      })
  around b r c (mark Under) k (inr (inr (inr (inr (inl e))))) l h =
      subst (Around b r c) e (record {
        metal = mark Under;
        metal_here = h;
        metal_holds = refl;
        below = mark Under;
        below_here = h;
        below_holds = inl refl;
      })
  around b r c under_rail k (inr (inr (inr (inl e)))) l h =
      subst (Around b r c) e (record {
        metal = under_rail;
        metal_here = h;
        metal_holds = refl;
        below = under_rail;
        below_here = h;
        below_holds = inl refl;
      })
  around b r c under_rail k (inr (inr (inr (inr (inl e))))) l h =
      subst (Around b r c) e (record {
        metal = under_rail;
        metal_here = h;
        metal_holds = refl;
        below = under_rail;
        below_here = h;
        below_holds = inl refl;
      })
  around b r c trunk k (inl e) l h = absurd (other (cell NM 7 0 13 36) k e l (λ q. cc (q)))
  around b r c power k (inl e) l h = absurd (other (cell NM 7 0 13 36) k e l (λ q. cc (q)))
  around b r c ground_start k (inl e) l h = absurd (other (cell NM 7 6 20 10) k e l (λ q. cc (q)))
  around b r c ground_on k (inl e) l h = absurd (other (cell NM 0 6 20 10) k e l (λ q. cc (q)))
  around b r c rail k (inl e) l h = absurd (other (cell NM 0 27 20 31) k e l (λ q. cc (q)))
  around b r c rail_end k (inl e) l h = absurd (other (cell NM 0 27 13 31) k e l (λ q. cc (q)))
  around b r c seg k (inl e) l h = absurd (other (cell NM 0 6 20 10) k e l (λ q. cc (q)))
  around b r c (lin s) k (inl e) l h = absurd (other (cell ND (offset s) 0 (offset s + 4) 36) k e l (λ q. cc (q)))
  around b r c (mark Tran) k (inl e) l h = absurd (other (cell ND 6 2 14 4) k e l (λ q. cc (q)))
  around b r c (mark Tran) k (inr (inl e)) l h = absurd (other (cell NP 9 0 11 6) k e l (λ q. cc (q)))
  around b r c (mark Tran) k (inr (inr (inl e))) l h = absurd (other (cell NP 8 6 12 10) k e l (λ q. cc (q)))
  around b r c (mark PullUp) k (inl e) l h = absurd (other (cell ND 2 0 6 6) k e l (λ q. cc (q)))
  around b r c (mark PullUp) k (inr (inr (inl e))) l h = absurd (other (cell NM 2 2 12 6) k e l (λ q. cc (q)))
  around b r c (mark PullUp) k (inr (inr (inr (inl e)))) l h = absurd (other (cell NP 8 2 12 8) k e l (λ q. cc (q)))
  around b r c (mark PullUp) k (inr (inr (inr (inr (inr (inl e)))))) l h = absurd
      (other (cell NP 1 8 12 24) k e l (λ q. cc (q)))
  around b r c (mark PullUp) k (inr (inr (inr (inr (inr (inr (inl e))))))) l h = absurd
      (other (cell ND 3 6 5 27) k e l (λ q. cc (q)))
  around b r c (mark PullUp) k (inr (inr (inr (inr (inr (inr (inr (inl e)))))))) l h = absurd
      (other (cell ND 2 27 6 31) k e l (λ q. cc (q)))
  around b r c (mark PullUp) k (inr (inr (inr (inr (inr (inr (inr (inr (inr (inl e)))))))))) l h = absurd
      (other (cell NI 1 6 7 26) k e l (λ q. cc (q)))
  around b r c (mark Under) k (inl e) l h = absurd (other (cell NM 0 6 4 10) k e l (λ q. cc (q)))
  around b r c (mark Under) k (inr (inl e)) l h = absurd (other (cell NM 16 6 20 10) k e l (λ q. cc (q)))
  around b r c (mark Under) k (inr (inr (inl e))) l h = absurd (other (cell NP 0 6 20 10) k e l (λ q. cc (q)))
  around b r c under_rail k (inl e) l h = absurd (other (cell NM 0 27 4 31) k e l (λ q. cc (q)))
  around b r c under_rail k (inr (inl e)) l h = absurd (other (cell NM 16 27 20 31) k e l (λ q. cc (q)))
  around b r c under_rail k (inr (inr (inl e))) l h = absurd (other (cell NP 0 27 20 31) k e l (λ q. cc (q)))
  around b r c trunk k (inr n) l h = absurd n
  around b r c power k (inr n) l h = absurd n
  around b r c ground_start k (inr n) l h = absurd n
  around b r c ground_on k (inr n) l h = absurd n
  around b r c rail k (inr n) l h = absurd n
  around b r c rail_end k (inr n) l h = absurd n
  around b r c seg k (inr n) l h = absurd n
  around b r c (lin s) k (inr n) l h = absurd n
  around b r c (mark TapL) k (inr n) l h = absurd n
  around b r c (mark TapR) k (inr n) l h = absurd n
  around b r c (mark Tran) k (inr (inr (inr (inr n)))) l h = absurd n
  around b r c (mark PullUp) k (inr (inr (inr (inr (inr (inr (inr (inr (inr (inr n)))))))))) l h = absurd n
  around b r c (mark Under) k (inr (inr (inr (inr (inr n))))) l h = absurd n
  around b r c under_rail k (inr (inr (inr (inr (inr n))))) l h = absurd n

  -- a cut is one block
  one_block : (x y a b c d : ℤ) → IsSquareCut (covered (shape f)) x y a b → IsSquareCut (covered (shape f)) x y c d
      → (a ≡ c) × (b ≡ d)
  one_block x y a b c d s t =
      let i = (t a b).0 ((s a b).1 (record {
        left = omega (arith, ints);
        right = omega (arith, ints);
        bottom = omega (arith, ints);
        top = omega (arith, ints);
      })) in
      let j = (s c d).0 ((t c d).1 (record {
        left = omega (arith, ints);
        right = omega (arith, ints);
        bottom = omega (arith, ints);
        top = omega (arith, ints);
      })) in
      let i0 = i.left in let i1 = i.bottom in let j0 = j.left in let j1 = j.bottom in
      (omega (arith, ints), omega (arith, ints))

  pub cuts_are_surrounded : RectanglesAreJoined → (x y : ℤ) → ¬ IsBareCut (covered (shape f)) x y
  cuts_are_surrounded joined x y h =
      let k = local_of f w NC x y h.here in
      let q = row_at f w k.b k.r k.v k.at.slot in
      let m = cut_cell q.0 k.thing k.cell k.among (here_row f w k.thing k.b k.r k.c q.0 k.at.band k.here q.1) k.layer in
      let e = one_block x y (block_x f w x y k q.0 q.1 m) (block_y f w x y k q.0 q.1 m) h.a h.b
      (is_square f w x y k q.0 q.1 m joined) h.square in
      let a = around k.b k.r k.c k.thing k.cell k.among k.layer k.here in
      let s : IsSurrounded (covered (shape f)) (block_x f w x y k q.0 q.1 m) (block_y f w x y k q.0 q.1 m) = (
        whole_by f w x y k q.0 q.1 m NM a.metal a.metal_here a.metal_holds,
        elim a.below_holds [
          | inl g ↦ inl (whole_by f w x y k q.0 q.1 m NP a.below a.below_here g)
          | inr g ↦ inr (whole_by f w x y k q.0 q.1 m ND a.below a.below_here g)
        ],
      ) in
      h.bare (subst (λ n. IsSurrounded (covered (shape f)) n h.b) e.0
      (subst (λ n. IsSurrounded (covered (shape f)) (block_x f w x y k q.0 q.1 m) n) e.1 s))
