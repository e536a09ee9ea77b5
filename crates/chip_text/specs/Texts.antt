-- Texts of chips.
use Rattle.std.specs.Prelude.{◌≡◌, ◌≤◌, ◌+◌, ◌*◌, ⊤, ℕ, ℤ, List, All, length}
use Rattle.lam_geom.specs.declared.layer.Layer.{Layer}
use Rattle.cif_form.specs.declared.command.Command.{Command}
use Rattle.cif_form.specs.declared.command.Command.TheVariants.{Box, Layer as SetLayer, Start, Finish, Call, User}
use Rattle.cif_form.specs.Text.{right}
use Rattle.cif_form.specs.Place.{layer_name}
use Rattle.cif_writer.specs.Texts.{commands_of, file_text}
use Rattle.mp_program.specs.declared.program.Program.{Program}
use Rattle.mp_program.specs.Weight.{weight}
use Rattle.fabric.specs.declared.chip.Chip.{Chip}
use Rattle.fabric.specs.declared.chip.ChipLabel.{ChipLabel}
use Rattle.cif_emit.specs.Commands.{label_words, turns_of}
use Rattle.cif_emit.specs.Emittable.{chip_rects, IsPlainLabel}
use Rattle.cif_emit.specs.Emitted.{AreCommandsOf, IsEmitted}
use Rattle.compile_laws.specs.Laws.{IsSmallChipOf, most_rects}
use Rattle.chip_text.specs.declared.limits.TheConstants.{TEXT_LIMIT}

-- The command names one of the layers, is a box along the axes, starts or finishes the definition of a symbol, calls
-- one and moves it up or down at most, or is a label. It is no comment, no other user command, no polygon, wire or
-- round, and deletes nothing.
abbrev pub IsPlain : Command → Type 0
IsPlain (SetLayer name) = (layer : Layer) × (name ≡ layer_name layer)
IsPlain (Box long wide center direction) = direction ≡ right
IsPlain (Start number a b) = ⊤
IsPlain Finish = ⊤
IsPlain (Call number turns) = (height : ℤ) × (turns ≡ turns_of height)
IsPlain (User digit words) = (label : ChipLabel) × IsPlainLabel label × (digit ≡ 9) × (words ≡ label_words label)
IsPlain _ = ⊥

-- the most rectangles and labels that a chip of this weight and this word length has
abbrev pub most_drawn : ℕ → ℕ → ℕ
most_drawn weight width = most_rects weight width + 64 * weight + 5

-- the most commands that draw it
abbrev pub most_commands : ℕ → ℕ → ℕ
most_commands weight width = most_rects weight width + 64 * weight + 151

-- the text is that of the chip's commands, which draw it, and is short
pub record IsTextOf (chip : Chip) (text : List ℕ) : Type 0 where
  pub commands : List Command
  pub formed : AreCommandsOf chip commands
  pub drawn : IsEmitted (chip_rects chip) chip.labels commands
  pub is : text ≡ file_text commands
  pub short : length text ≤ TEXT_LIMIT

-- the text is a small chip of the program, in few commands, which are plain, and is short
pub record IsPlainChipOf (p : Program) (text : List ℕ) : Type 0 where
  pub small : IsSmallChipOf p text
  pub few : length ((small.chip).draws).commands ≤ most_commands (weight p) p.width
  pub plain : All IsPlain (commands_of ((small.chip).draws).commands)
  pub short : length text ≤ TEXT_LIMIT
