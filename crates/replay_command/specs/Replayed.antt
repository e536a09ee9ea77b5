-- What is told of the circuit that a compiled file draws.
use Rattle.std.specs.Prelude.{ℕ, List, Some}
use Rattle.mp_base.specs.declared.pad.Pads.{Pads}
use Rattle.mp_program.specs.declared.program.Program.{Program}
use Rattle.mp_program.specs.Pads.{ArePadsOf}
use Rattle.stimulus.specs.declared.given.Stimulus.{Stimulus}
use Rattle.stimulus.specs.Reading.{IsStimulus}
use Rattle.mp_source.specs.Source.{IsSource}
use Rattle.switch_net.specs.declared.network.Network.{Network}
use Rattle.mask_net.specs.Masks.{IsNetOf}
use Rattle.replay_run.specs.Replay.{IsReplay}
use Rattle.replay_run.specs.Laws.{FollowsProgram}
use Rattle.compile_command.specs.Compiled.{IsCompiled}

-- the stimulus is one for the pads of the source; the text is the run of the circuit that the chip's bytes draw along
-- it, from all values X, every clock in full, and the size line at its end
pub record IsReplayed (source stimulus chip text : List ℕ) : Type 0 where
  pub program : Program
  pub pads : Pads
  pub given : Stimulus
  pub network : Network
  pub is_source : IsSource source program
  pub padded : ArePadsOf program pads
  pub is_stimulus : IsStimulus stimulus (Some pads) given
  pub drawn : IsNetOf chip network
  pub replay : IsReplay network given text

-- of a compiled chip, what is shown in each settled clock is what the source's program shows
abbrev pub ReplaysFollow : Type 0
ReplaysFollow =
    (source stimulus chip text : List ℕ) → IsCompiled source chip → (told : IsReplayed source stimulus chip text)
    → FollowsProgram told.program told.given (told.replay).transcript.shown
