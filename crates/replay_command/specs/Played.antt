-- What is played of a source's chip.
use Rattle.std.specs.Prelude.{◌≡◌, ◌≤◌, ℕ, List, length}
use Rattle.stimulus.specs.declared.limits.TheConstants.{CLOCK_LIMIT, PAD_LIMIT}
use Rattle.mp_program.specs.declared.program.Program.{Program}
use Rattle.mp_program.specs.Pads.{ArePadsOf}
use Rattle.stimulus.specs.declared.given.Stimulus.{Stimulus}
use Rattle.switch_net.specs.declared.network.Network.{Network}
use Rattle.mask_net.specs.Masks.{IsNetOf}
use Rattle.compile_laws.specs.Laws.{IsSmallChipOf}
use Rattle.chip_text.specs.Texts.{IsPlainChipOf}
use Rattle.replay_run.specs.Replay.{IsReplay}

-- the chip of a program, with a stimulus for the program's pads
pub record IsAsked (program : Program) (given : Stimulus) (chip : List ℕ) : Type 0 where
  pub masks : IsSmallChipOf program chip
  pub padded : ArePadsOf program given.pads
  pub few_inputs : length (given.pads).inputs ≤ PAD_LIMIT
  pub few_clocks : length given.clocks ≤ CLOCK_LIMIT

-- these are the bytes of the chip, and the text is the run of the circuit that they draw
pub record Plays (chip : List ℕ) (given : Stimulus) (bytes text : List ℕ) : Type 0 where
  pub same : bytes ≡ chip
  pub network : Network
  pub drawn : IsNetOf bytes network
  pub replay : IsReplay network given text

-- the same of the bytes of a chip of the program
abbrev pub PlaysChipOf : Program → Stimulus → List ℕ → List ℕ → Type 0
PlaysChipOf program given bytes text = IsPlainChipOf program bytes × Plays bytes given bytes text
