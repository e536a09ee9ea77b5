-- The lines that join bands, by kinds.
use Rattle.std.specs.Prelude.{ℕ, ◌==◌, suc, List, [], ◌∷◌, not, cond, flat_map, map, length, slice_get}
use Rattle.std.specs.List.{range_with_len}
use Rattle.fabric.specs.declared.thing.Line.{Line}
use Rattle.fabric.specs.declared.thing.Side.TheVariants.{R}
use Rattle.nor_net.specs.declared.net.Phase.TheVariants.{A, B, C}
use Rattle.array_form.specs.Lists.{upright}
use Rattle.slice_form.specs.Joints.{bit_lines, lift_lines, trunk_line}
use Rattle.slice_form.specs.Path.{Path}
use Rattle.slice_form.specs.PathLists.{bands_of}
use Rattle.slice_form.specs.PathWires.{cast_line, chain_line}
use Rattle.slice_form.specs.Slices.{across_of}

abbrev pub trunk_joints : Path → List Line
trunk_joints p = trunk_line p A ∷ trunk_line p B ∷ trunk_line p C ∷ []

abbrev pub cast_joints : Path → List Line
cast_joints p = map (λ i. across_of p (cast_line i)) (range_with_len 0 (length p.casts))

abbrev pub lift_joints : Path → List Line
lift_joints p = flat_map (λ i. lift_lines p i (slice_get p.lifts i)) (range_with_len 0 (length p.lifts))

abbrev pub bit_joints : Path → List Line
bit_joints p = flat_map (λ i. bit_lines p (slice_get p.programs i)) (range_with_len 0 (length p.programs))

abbrev pub chain_joints : Path → List Line
chain_joints p =
    flat_map (λ i. map (λ g. across_of p (chain_line i g)) (bands_of p)) (range_with_len 0 (length p.chains))

-- the line of a lifted net in a band that is not its slice's
abbrev pub stub_joint : ℕ → ℕ → ℕ → List Line
stub_joint column slice b = cond (not (b == suc slice)) (upright column R b b ∷ []) []
