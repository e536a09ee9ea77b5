-- What the commands of a chip draw.
use Rattle.std.specs.Prelude.{ℕ, ◌≡◌, ◌+◌, ◌≤◌, List, [], length, map, All, Option, None, Result, false}
use Rattle.outside.specs.Outside.{Gains}
use Rattle.outside.specs.Piece.{TakesAll}
use Rattle.lam_geom.specs.declared.rect.Rect.{Rect}
use Rattle.lam_geom.specs.declared.label.FlatLabel.{FlatLabel}
use Rattle.lam_geom.specs.Squares.{covered, SameSquares}
use Rattle.cif_form.specs.declared.command.Command.{Command}
use Rattle.cif_form.specs.declared.command.Item.{Item}
use Rattle.cif_form.specs.Fits.{Fits}
use Rattle.cif_form.specs.Scans.{Nests}
use Rattle.cif_form.specs.Expansion.{Expands}
use Rattle.cif_form.specs.Walk.{DrawRule, FileWalks, walk_limit}
use Rattle.cif_form.specs.Walk.DrawRule.{F7}
use Rattle.cif_form.specs.Walk.WalkEnd.{Whole, Broken}
use Rattle.cif_form.specs.Counts.{FileCounts}
use Rattle.cif_writer.specs.Texts.{file_text}
use Rattle.fabric.specs.declared.chip.Chip.{Chip}
use Rattle.fabric.specs.declared.chip.ChipLabel.{ChipLabel}
use Rattle.fabric.specs.Labelled.{AreLabelsOf}
use Rattle.slice_symbols.specs.declared.bands.Bands.{Bands}
use Rattle.slice_symbols.specs.declared.symbols.Symbol.{Symbol}
use Rattle.slice_symbols.specs.Drawn.{AreSymbolsOf, drawn_rects}
use Rattle.cif_emit.specs.Emittable.{AreBandsAbove, AreDrawable, chip_rects}
use Rattle.cif_emit.specs.Commands.{chip_commands}

-- the symbols draw the squares of the rectangles in no more shapes, and can be drawn with the labels
pub record AreSymbolsFor (rects : List Rect) (labels : List ChipLabel) (symbols : List Symbol) : Type 0 where
  pub drawable : AreDrawable symbols labels
  pub same : SameSquares (covered rects) (covered (drawn_rects symbols))
  pub few : length (drawn_rects symbols) ≤ length rects

-- the symbols of a chip: what stands alike in each band of its fabric but the lowest, and the rest
pub record AreSymbolsOfChip (chip : Chip) (symbols : List Symbol) : Type 0 where
  pub bands : Bands
  pub above : AreBandsAbove (chip.fabric).rows bands
  pub sharing : AreSymbolsOf (chip_rects chip) bands symbols

-- the commands of a chip: the boxes and calls of its symbols, and its labels
pub record AreCommandsOf (chip : Chip) (commands : List Command) : Type 0 where
  pub symbols : List Symbol
  pub of_chip : AreSymbolsOfChip chip symbols
  pub are : commands ≡ chip_commands symbols chip.labels

-- there are no two lists of commands of one chip
abbrev pub CommandsAreUnique : Type 0
CommandsAreUnique = (chip : Chip) (commands others : List Command) → AreCommandsOf chip commands
    → AreCommandsOf chip others → commands ≡ others

-- The items draw the squares of the rectangles in no more shapes, and the labels. Their walk counts at most the
-- rectangles, the labels and 65,536 more, and no rule but that of the count can be broken.
pub record IsDrawnBy (rects : List Rect) (labels : List ChipLabel) (items : List Item) : Type 0 where
  pub shapes : List Rect
  pub flat : List FlatLabel
  pub expands : Expands [] None items shapes
  pub same : SameSquares (covered rects) (covered shapes)
  pub few : length shapes ≤ length rects
  pub labelled : AreLabelsOf labels flat
  pub count : ℕ
  pub counted : FileCounts items count
  pub few_walked : count ≤ length rects + length labels + 65_536
  pub walks : count ≤ walk_limit → FileWalks items shapes flat Whole
  pub breaks : (rs : List Rect) (ls : List FlatLabel) (rule : DrawRule) (offset : ℕ)
      → FileWalks items rs ls (Broken rule offset) → rule ≡ F7

-- the commands have a text, may stand where they do, and draw the chip at whatever offsets they stand
pub record IsEmitted (rects : List Rect) (labels : List ChipLabel) (commands : List Command) : Type 0 where
  pub fit : All Fits commands
  pub nest : Nests false commands
  pub drawn : (items : List Item) → map (λ (i : Item). i.command) items ≡ commands → IsDrawnBy rects labels items

-- the output took the text of the chip's commands, which draw it, or a first part of it
pub record IsTaken {T E : Type 0} (chip : Chip) (before after : Option (List ℕ)) (result : Result T E) : Type 0 where
  pub commands : List Command
  pub formed : AreCommandsOf chip commands
  pub drawn : IsEmitted (chip_rects chip) chip.labels commands
  pub taken : TakesAll Gains before after (file_text commands) result
