-- The stimulus that a text spells, and the first rule that a text breaks.
use Rattle.std.specs.Prelude.{◌≡◌, ◌⊎◌, ℕ, List, [], ◌∷◌, Option, None, Some}
use Rattle.mp_base.specs.declared.pad.Pads.{Pads}
use Rattle.mp_base.specs.declared.refusal.Place.{Place}
use Rattle.mp_base.specs.Lines.{place_at}
use Rattle.mp_base.specs.Refuses.{IsOfFamily}
use Rattle.mp_base.specs.declared.refusal.Broken.{Broken}
use Rattle.mp_base.specs.declared.refusal.Family.TheVariants.{S}
use Rattle.stimulus.specs.declared.given.Stimulus.{Stimulus}
use Rattle.stimulus_lines.specs.declared.piece.Piece.{Piece}
use Rattle.stimulus.specs.declared.reading.Reading.{Reading}
use Rattle.stimulus_lines.specs.Words.{lines}
use Rattle.stimulus.specs.Rules.{Adds, FirstIn, inputs_of, outputs_of}

-- before the first line
abbrev pub nothing : Reading
nothing = record { inputs = []; outputs = []; clocks = [] }

-- line by line, none of which breaks a rule
abbrev pub Reads : Option Pads → Reading → List (List Piece) → Reading → Type 0
Reads known r [] t = r ≡ t
Reads known r (line ∷ more) t = (s : Reading) × Adds known r line s × Reads known s more t

-- the first line that breaks a rule, and of its rules the first
abbrev pub FirstBroken : Option Pads → Reading → List (List Piece) → ℕ → ℕ → Type 0
FirstBroken known r [] k at = ⊥
FirstBroken known r (line ∷ more) k at =
    FirstIn known r line k at ⊎ ((s : Reading) × Adds known r line s × FirstBroken known s more k at)

-- the text breaks no rule, and spells this stimulus
pub record IsStimulus (text : List ℕ) (known : Option Pads) (s : Stimulus) : Type 0 where
  pub reading : Reading
  pub reads : Reads known nothing (lines text) reading
  pub inputs : (s.pads).inputs ≡ inputs_of known reading
  pub outputs : (s.pads).outputs ≡ outputs_of known reading
  pub clocks : s.clocks ≡ reading.clocks

-- the first rule that the text breaks, and where
pub record IsFirst (text : List ℕ) (known : Option Pads) (k : ℕ) (at : Place) : Type 0 where
  pub broken : FirstBroken known nothing (lines text) k at.offset
  pub place : at ≡ place_at text at.offset

-- the text is a stimulus for the pads that are known, or else for those of its header, or this is the first rule that
-- it breaks
abbrev pub OfPads : Option Pads → List ℕ → Option Broken → Type 0
OfPads known text None = (given : Stimulus) × IsStimulus text known given
OfPads known text (Some b) = IsOfFamily S (IsFirst text known) b
