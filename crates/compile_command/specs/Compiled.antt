-- What a compiled file is.
use Rattle.std.specs.Prelude.{◌≡◌, ◌+◌, ◌*◌, ◌≤◌, ℕ, List, length, map, max, All}
use Rattle.lam_geom.specs.declared.label.FlatLabel.{FlatLabel}
use Rattle.lam_geom.specs.Extent.{IsAtMost}
use Rattle.lam_geom.specs.Squares.{covered}
use Rattle.cif_writer.specs.Texts.{commands_of, file_text}
use Rattle.switch_net.specs.Pads.{chip_labels}
use Rattle.mp_program.specs.declared.program.Program.{Program}
use Rattle.mp_program.specs.Weight.{weight}
use Rattle.mp_source.specs.Source.{IsSource}
use Rattle.fabric_laws.specs.Sized.{AreSized}
use Rattle.lam_geom.specs.Rules.{IsClean}
use Rattle.ground_ways.specs.Ratioed.{IsRatioed}
use Rattle.headline.specs.Headline.{IsChipOf}
use Rattle.chip_text.specs.Texts.{IsPlain}

-- The source text spells a program that breaks no rule, and the bytes are a chip of it, in few shapes. What they draw
-- is at most so many lambda wide and so many high: the width doesn't grow with the word length, but by the pads that it
-- brings, one for each label. Each channel has the size of a transistor or of a pull-up, no lambda rule is broken, and
-- one transistor lies between a pull-up and ground. Each label of the pads is there, once, in order, and no other. The
-- bytes are what is written of their commands, which are few and plain, and they are no more than `net` reads.
pub record IsCompiled (source chip : List ℕ) : Type 0 where
  pub program : Program
  pub is_source : IsSource source program
  pub masks : IsChipOf program chip
  pub few : length (masks.draws).shapes ≤ 100 * (weight program + 8) * (program.width + 1)
  pub extent : IsAtMost (covered (masks.draws).shapes)
      (20 * (weight program + 8) + 7 * length (chip_labels masks.pads) + 100)
      (max (program.width * (12 * (weight program + 8) + 36) + 24 * (weight program + 8) + 96)
      (60 * length (chip_labels masks.pads)))
  pub sized : AreSized (covered (masks.draws).shapes)
  pub clean : IsClean (covered (masks.draws).shapes)
  pub ratioed : IsRatioed masks.network
  pub named : map (λ (l : FlatLabel). l.name) (masks.draws).labels ≡ chip_labels masks.pads
  pub written : chip ≡ file_text (commands_of (masks.draws).commands)
  pub few_commands : length (masks.draws).commands
      ≤ 100 * (weight program + 8) * (program.width + 1) + 64 * weight program + 151
  pub plain : All IsPlain (commands_of (masks.draws).commands)
  pub short : length chip ≤ 536_870_912
