-- What a replay shows, and that it follows the source.
use Rattle.std.proofs.Common.{◌++◌, ℕ, List, refl, sym, subst, Option, Some, None, IfSome}
use Rattle.outside.specs.Outside.{Files, bytes_of}
use Rattle.mp_base.specs.declared.value.Trit.TheVariants.{X}
use Rattle.mp_program.specs.declared.program.Program.{Program}
use Rattle.mp_program.specs.Pads.{ArePadsOf}
use Rattle.mp_program.proofs.Faces.{kept_pads}
use Rattle.mp_checker.specs.Checking.{CheckedProgram}
use Rattle.switch_net.specs.declared.network.Network.{Network}
use Rattle.switch_net.specs.Breaks.{HasPads}
use Rattle.stimulus.specs.declared.given.Stimulus.{Stimulus}
use Rattle.stimulus.specs.Reading.{IsStimulus}
use Rattle.mp_source.specs.Source.{IsSource}
use Rattle.sim_run.specs.Laws.{TranscriptExists}
use Rattle.mask_net.specs.SizeLine.{last_line}
use Rattle.headline.specs.Headline.{IsChipOf}
use Rattle.chip_text.specs.Texts.{IsPlainChipOf}
use Rattle.replay_run.specs.Replay.{IsReplay}
use Rattle.replay_run.specs.Laws as circuits
use Rattle.source_files.specs.Faults.{RunFault}
use Rattle.stages.specs.Stages.{LeadsTo}
use Rattle.replay_command.specs.Work.{work}
use Rattle.replay_command.specs.Played.{Plays, PlaysChipOf}
use Rattle.replay_command.specs.Replayed.{ReplaysFollow}
use Rattle.compile_command.proofs.Compiling.{compiled}
use Rattle.source_files.proofs.StimulusRules.{pads_for}
use Rattle.source_files.proofs.Sources.{OneSource, one_program}

-- what is so of all files
pub of_all : {P : Type 0} → P → (held : Option Files) → IfSome held (λ files. P)
of_all p None = tt
of_all p (Some files) = p

-- a circuit with the pads of a stimulus has a replay
pub a_replay : TranscriptExists → (net : Network) (given : Stimulus) → HasPads net given.pads
    → (text : List ℕ) × IsReplay net given text
a_replay exist net given has =
    let told = exist net given (λ node. X) has in (
      told.1 ++ last_line net told.0,
      record { end = told.0; front = told.1; transcript = told.2; lines = refl },
    )

-- what is played of a chip
pub of_chip : (program : Program) (given : Stimulus) (chip : List ℕ) → IsPlainChipOf program chip
    → (bytes text : List ℕ) → Plays chip given bytes text → PlaysChipOf program given bytes text
of_chip program given chip masks bytes text plays = (
  subst (IsPlainChipOf program) (sym plays.same) masks,
  record { same = refl; network = plays.network; drawn = plays.drawn; replay = plays.replay },
)

module _ (source stimulus cif : List ℕ) (checked : CheckedProgram) (given : Stimulus)
    (padded : ArePadsOf checked.program given.pads) where
  shown : (files : Files) → IsSource (bytes_of files source) checked.program
      → IsStimulus (bytes_of files stimulus) (Some checked.pads) given
      → (bytes text : List ℕ) → PlaysChipOf checked.program given bytes text
      → (work source stimulus cif).Shows files bytes text
  shown files spelled read bytes text (masks, plays) = (
    compiled (bytes_of files source) bytes checked.program masks spelled,
    record {
      program = checked.program;
      pads = checked.pads;
      given = given;
      network = plays.network;
      is_source = spelled;
      padded = pads_for checked (bytes_of files stimulus) given padded read;
      is_stimulus = read;
      drawn = plays.drawn;
      replay = plays.replay;
    },
  )

  -- what was read and judged leads to the replay
  pub leads : (held : Option Files) → IfSome held (λ files. RunFault source stimulus files None)
      → IfSome held (λ files. IsSource (bytes_of files source) checked.program)
      → IfSome held (λ files. IsStimulus (bytes_of files stimulus) (Some checked.pads) given)
      → IfSome held (LeadsTo (work source stimulus cif) (PlaysChipOf checked.program given))
  leads None fault spelled read = tt
  leads (Some files) fault spelled read = (fault, shown files spelled read)

pub follow : OneSource → circuits.ReplaysFollow → ReplaysFollow
follow one follows source stimulus chip text made told =
    let same = one_program one source made.program told.program made.is_source told.is_source in
    follows told.program chip told.network told.given text (subst (λ p. IsChipOf p chip) same made.masks)
    (kept_pads told.program told.pads (told.given).pads told.padded (told.is_stimulus).inputs
    (told.is_stimulus).outputs) told.drawn told.replay
