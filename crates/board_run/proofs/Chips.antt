-- The network that the bytes of a chip draw follows its program.
use Rattle.std.proofs.Common.{ℕ, List}
use Rattle.std.specs.Prelude.{All}
use Rattle.mp_base.specs.declared.pad.Pads.{Pads}
use Rattle.mp_program.specs.declared.program.Program.{Program}
use Rattle.mp_program.specs.Pads.{ArePadsOf}
use Rattle.switch_net.specs.declared.network.Network.{Network}
use Rattle.mp_base.specs.PadBits.{Fit}
use Rattle.mask_net.specs.Masks.{IsNetOf}
use Rattle.mask_net.specs.Laws.{OneNetwork, SoundWithPads}
use Rattle.headline.specs.Headline.{IsChipOf, Follows}
use Rattle.replay_run.specs.Laws.{OnePads}
use Rattle.replay_run.proofs.Chips.{again}

module _ (one_network : OneNetwork) (sound : SoundWithPads) (one_pads : OnePads) (p : Program) (bytes : List ℕ)
    (chip : IsChipOf p bytes) where
  pub follow : (net : Network) (pads : Pads) → ArePadsOf p pads → IsNetOf bytes net → (inputs : List (List ℕ))
      → All (Fit pads.inputs) inputs → Follows p pads net inputs
  follow net pads are drawn =
      again one_network sound one_pads p bytes chip
      (λ n ps. (is : List (List ℕ)) → All (Fit ps.inputs) is → Follows p ps n is) net pads are drawn chip.follows
