-- The chip can be written: it is not too large, and the names of its labels are plain.
use Rattle.std.proofs.Common.{ℕ, ◌+◌, ◌*◌, ◌≤◌, List, [], sym, subst, arith}
use Rattle.std.specs.Prelude.{All}
use Rattle.std.proofs.Math.Nat.{mul-le-mul_left, mul-le-mul_right}
use Rattle.std.proofs.lemmas.List.{get_or-map, length-map}
use Rattle.switch_net.specs.declared.limits.TheConstants.{MOST_NODES_AND_CHANNELS}
use Rattle.fabric.specs.declared.chip.ChipLabel.{ChipLabel}
use Rattle.fabric.specs.Plan.{Plan, bands}
use Rattle.fabric.specs.Shape.{base}
use Rattle.fabric_extent.specs.Bounds.{IsSmall}
use Rattle.fabric_extent.proofs.Sides.{height_small}
use Rattle.chip_laws.specs.Laws.{names_of}
use Rattle.cif_emit.specs.Emittable.{farthest}
use Rattle.path_plan.proofs.Bytes.{IsPlainName}

-- labels whose names are plain
pub plainly_named : (labels : List ChipLabel) → All IsPlainName (names_of labels)
    → All (λ (l : ChipLabel). IsPlainName l.name) labels
plainly_named labels names i d h =
    let l = length-map labels (λ (l : ChipLabel). l.name) in
    subst IsPlainName (get_or-map (λ (l : ChipLabel). l.name) labels i d [] h) (names i [] (omega (arith, h, l)))

pub things_fit : (cost width things : ℕ) → cost ≤ 1024 → width ≤ 64 → things ≤ 100 * (cost + 8) * (width + 1)
    → things ≤ MOST_NODES_AND_CHANNELS
things_fit cost width things light narrow few =
    let m : 100 * (cost + 8) * (width + 1) ≤ 100 * (cost + 8) * 65 =
    mul-le-mul_left (100 * (cost + 8)) (omega (arith, narrow)) in
    omega (arith, m, few, light)

module _ (cost width : ℕ) (f : Plan) (light : cost ≤ 1024) (narrow : width ≤ 64) (is_small : IsSmall cost width f)
  where
    pub wide_few : 20 * f.columns ≤ farthest
    wide_few = let c = is_small.columns in omega (arith, c, light)

    pub high_few : base f (bands f) ≤ farthest
    high_few =
        let h = height_small cost width f is_small width (omega arith) in
        let m : width * (12 * (cost + 8) + 36) ≤ 64 * (12 * (cost + 8) + 36) =
        mul-le-mul_right (12 * (cost + 8) + 36) narrow in
        subst (λ n. base f n ≤ farthest) (sym is_small.count) (omega (arith, h, m, light))
