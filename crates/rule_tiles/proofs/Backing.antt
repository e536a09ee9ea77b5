-- Blocks in single tiles are whole.
use Rattle.std.proofs.Common.{ℕ, ◌≡◌, ◌⊎◌, ◌+◌, ◌<◌, inl, inr, sym, ◌∙◌, subst, arith, List, Bool, true, false, length}
use Rattle.std.proofs.Common.{true≢false, get_or}
use Rattle.std.specs.Prelude.{All, Contains, ℤ, pos, ◌+ℤ◌, ◌≤ℤ◌, ◌<ℤ◌, Some, slice_get, slice_index_or}
use Rattle.std.proofs.lemmas.Bool.{cases_lt}
use Rattle.std.proofs.lemmas.Int.{ints}
use Rattle.std.proofs.lemmas.List.Elements.{All-contains}
use Rattle.std.proofs.lemmas.Option.{same_Some, slice_get-get_or}
use Rattle.lam_geom.specs.declared.layer.Layer.{Layer}
use Rattle.lam_geom.specs.declared.layer.Layer.TheVariants.{ND, NP, NM}
use Rattle.lam_geom.specs.declared.place.Point.{Point}
use Rattle.lam_geom.specs.declared.rect.Rect.{Rect}
use Rattle.lam_geom.specs.Rules.{IsWhole}
use Rattle.lam_geom.specs.Squares.{covered}
use Rattle.mask_runs.specs.declared.mask.Mask.TheVariants.{Only}
use Rattle.mask_tiles.specs.declared.tile.Tile.{Tile}
use Rattle.mask_tiles.specs.Tiles.{IsTile}
use Rattle.mask_tiles.proofs.SeenLayers.{covered_only}
use Rattle.rule_tiles.specs.declared.backed.Conductors.{Conductors}
use Rattle.rule_tiles.specs.Backed.{AreAllHeld, AreBacked, AreSwept, AreUnset, Holds, HoldsBlock, IsHeld}
use Rattle.rule_tiles.specs.Cuts.{AreFlags, IsBareAt, IsBacked}

whole_of : (shapes : List Rect) (l : Layer) (tiles : List Tile) → All (IsTile shapes (Only l)) tiles → (p : Point)
    → Holds tiles p → IsWhole (covered shapes l) p.x p.y 2000
whole_of shapes l tiles are p (t, has, block) x y i =
    let is = All-contains (IsTile shapes (Only l)) tiles t are has in
    let a = block.across.0 in
    let b = block.across.1 in
    let c = block.along.0 in
    let d = block.along.1 in
    let e = i.left in
    let f = i.right in
    let g = i.bottom in
    let h = i.top in
    let row = is.stack.each y (omega (arith, ints)) (omega (arith, ints)) in
    elim (covered_only shapes l t.colour x y (row.each x (omega (arith, ints)) (omega (arith, ints)))) [
      | inl on ↦ on.0
      | inr off ↦ absurd (let none = off.1 in let some = is.some in omega arith)
    ]

pub backed_of : (shapes : List Rect) (c : Conductors) (corners : List Point) (odd : List Bool) → AreSwept shapes c
    → AreAllHeld c corners odd (length corners) → AreBacked (covered shapes) corners odd
backed_of shapes c corners odd are held i p m even at =
    let h = held i p m even at in (
      whole_of shapes NM c.metal.tiles are.metal p h.0,
      elim h.1 [
        | inl g ↦ inl (whole_of shapes NP c.polysilicon.tiles are.polysilicon p g)
        | inr g ↦ inr (whole_of shapes ND c.diffusion.tiles are.diffusion p g)
      ],
    )

pub held_more : (c : Conductors) (corners : List Point) (odd : List Bool) (n : ℕ) (q : Point)
    → slice_get corners n ≡ Some q → (slice_index_or odd n true ≡ false → IsHeld c q)
    → AreAllHeld c corners odd n → AreAllHeld c corners odd (n + 1)
held_more c corners odd n q at own h i p m even is = elim (cases_lt i n) [
  | inl l ↦ h i p l even is
  | inr l ↦ (let e : i ≡ n = omega arith in
      let same : q ≡ p = same_Some q p (sym at ∙ subst (λ k. slice_get corners k ≡ Some p) e is) in
      subst (IsHeld c) same (own (subst (λ k. slice_index_or odd k true ≡ false) e even)))
]

-- where all cuts are backed no flag is set
pub unset_flags : (shapes : List Rect) (corners : List Point) (odd flags : List Bool)
    → AreBacked (covered shapes) corners odd → AreUnset (length corners) flags
    → AreFlags (IsBareAt (covered shapes) corners odd) (length corners) flags
unset_flags shapes corners odd flags backed unset = record {
  long = unset.long;
  each = λ i d m. (
    λ e. absurd (true≢false (sym e ∙ unset.each i d m)),
    λ bare. absurd (go i m bare),
  );
}
  where
    go : (i : ℕ) → i < length corners → IsBareAt (covered shapes) corners odd i → ⊥
    go i m bare =
        let p = get_or corners i (record { x = pos 0; y = pos 0 }) in
        let at = slice_get-get_or corners i (record { x = pos 0; y = pos 0 }) m in
        bare.1 p at (backed i p m bare.0 at)
