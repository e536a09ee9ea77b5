-- The lines that join bands, and when they may be added.
use Rattle.std.specs.Prelude.{◌≡◌, ◌≢◌, ℕ, suc, List, [], ◌∷◌, ◌++◌, Option, Some, None, map, flat_map, length}
use Rattle.std.specs.Prelude.{slice_get}
use Rattle.std.specs.List.{range_with_len}
use Rattle.fabric.specs.declared.thing.Line.{Line}
use Rattle.fabric.specs.declared.thing.Side.TheVariants.{L, R}
use Rattle.nor_net.specs.declared.net.Phase.{Phase}
use Rattle.nor_net.specs.declared.net.Phase.TheVariants.{A, B, C}
use Rattle.array_form.specs.Lists.{upright}
use Rattle.array_form.specs.Homes.{home, phase_number}
use Rattle.slice_form.specs.Path.{Path, Carry, Lift, Programmed}
use Rattle.slice_form.specs.PathWires.{cast_line, lift_line, lift_stub, chain_line}
use Rattle.slice_form.specs.PathLists.{bands_of, slices_of, others_of}
use Rattle.slice_form.specs.Slices.{across_of, plain_slice}

abbrev pub trunk_line : Path → Phase → Line
trunk_line p ph = upright (suc (phase_number ph)) L 0 p.width

abbrev pub lift_lines : Path → ℕ → Option Lift → List Line
lift_lines p i None = []
lift_lines p i (Some l) = across_of p (lift_line i) ∷ map (λ b. across_of p (lift_stub i b)) (others_of p l)

abbrev pub bit_lines : Path → Option Programmed → List Line
bit_lines p None = []
bit_lines p (Some g) = flat_map (λ b. upright (home (plain_slice p) g.net) L b b ∷ upright
    (home (plain_slice p) g.net) R b b ∷ []) (slices_of p)

-- what is added besides the nets' own lines
abbrev pub joint_lines : Path → List Line
joint_lines p =
    (trunk_line p A ∷ trunk_line p B ∷ trunk_line p C ∷ [])
    ++ (map (λ i. across_of p (cast_line i)) (range_with_len 0 (length p.casts))
    ++ (flat_map (λ i. lift_lines p i (slice_get p.lifts i)) (range_with_len 0 (length p.lifts))
    ++ (flat_map (λ i. bit_lines p (slice_get p.programs i)) (range_with_len 0 (length p.programs))
    ++ flat_map (λ i. map (λ g. across_of p (chain_line i g)) (bands_of p)) (range_with_len 0 (length p.chains)))))

-- each input of a slice is joined once
pub record AreJoinedOnce (p : Path) : Type 0 where
  pub chains : (i j : ℕ) (c e : Carry) → slice_get p.chains i ≡ Some c → slice_get p.chains j ≡ Some e → c.to ≡ e.to
      → i ≡ j
  pub programs : (i j : ℕ) (g h : Programmed) → slice_get p.programs i ≡ Some g → slice_get p.programs j ≡ Some h
      → g.net ≡ h.net → i ≡ j
  pub apart : (i j : ℕ) (c : Carry) (g : Programmed) → slice_get p.chains i ≡ Some c
      → slice_get p.programs j ≡ Some g → c.to ≢ g.net
