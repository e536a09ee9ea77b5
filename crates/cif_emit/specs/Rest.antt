-- The commands of a chip one after another: what is left of them at a cursor.
use Rattle.std.specs.Prelude.{ℕ, suc, ◌≡◌, ◌+◌, ◌<◌, ◌≤◌, List, [], ◌∷◌, ◌++◌, length, map, drop, flat_map, pos}
use Rattle.std.specs.Prelude.{Option, None, Some, slice_get, slice_index_or, IsTrue}
use Rattle.lam_geom.specs.declared.layer.Layer.{Layer}
use Rattle.lam_geom.specs.declared.rect.Rect.{Rect}
use Rattle.cif_form.specs.declared.command.Command.{Command}
use Rattle.cif_form.specs.declared.command.Command.TheVariants as commands
use Rattle.cif_form.specs.Fits.{Fits}
use Rattle.fabric.specs.declared.chip.ChipLabel.{ChipLabel}
use Rattle.slice_symbols.specs.declared.symbols.Symbol.{Symbol}
use Rattle.cif_emit.specs.declared.cursor.Cursor.{Cursor}
use Rattle.cif_emit.specs.declared.cursor.Cursor.TheVariants.{Start, NextLayer, Boxes, Calls, Labels}
use Rattle.cif_emit.specs.Commands.{layers, is_on, drawn_on, box_of, layer_commands, call_at, all_symbols, label_of}

-- the boxes of the layers from one on, and what is behind them
abbrev pub rest_of_symbol : ℕ → List Rect → List Command → List Command
rest_of_symbol layer rects behind =
    flat_map (λ l. layer_commands l (drawn_on l rects)) (drop layer layers) ++ (commands.Finish ∷ behind)

-- the symbols from one on, and the labels
abbrev pub from_symbol : ℕ → List Symbol → List ChipLabel → List Command
from_symbol at symbols labels = all_symbols (suc at) (drop at symbols) ++ map label_of labels

abbrev pub no_symbol : Symbol
no_symbol = record { shapes = []; heights = [] }

abbrev pub symbol_at : List Symbol → ℕ → Symbol
symbol_at symbols at = slice_index_or symbols at no_symbol

-- the calls of a symbol from one on, and what is behind them
abbrev pub calls_from : ℕ → ℕ → List Symbol → List ChipLabel → List Command
calls_from symbol at symbols labels =
    map (call_at (pos (suc symbol))) (drop at (symbol_at symbols symbol).heights)
    ++ from_symbol (suc symbol) symbols labels

-- the commands that are left
abbrev pub rest : Cursor → List Symbol → List ChipLabel → List Command
rest (Start symbol) symbols labels = from_symbol symbol symbols labels
rest (NextLayer symbol layer) symbols labels =
    rest_of_symbol layer (symbol_at symbols symbol).shapes (calls_from symbol 0 symbols labels)
rest (Boxes symbol layer next at) symbols labels =
    map box_of (drawn_on layer (drop at (symbol_at symbols symbol).shapes))
    ++ rest_of_symbol next (symbol_at symbols symbol).shapes (calls_from symbol 0 symbols labels)
rest (Calls symbol at) symbols labels = calls_from symbol at symbols labels
rest (Labels at) symbols labels = map label_of (drop at labels)

-- the cursor is in one of the symbols, or behind them
abbrev pub IsInside : Cursor → List Symbol → Type 0
IsInside (Start symbol) symbols = symbol ≤ length symbols
IsInside (NextLayer symbol layer) symbols = symbol < length symbols
IsInside (Boxes symbol layer next at) symbols = symbol < length symbols
IsInside (Calls symbol at) symbols = symbol < length symbols
IsInside (Labels at) symbols = at ≡ at

-- the first of these commands, which has a text, and those behind it; or none, where there are none
abbrev pub Gives : List Command → Option Command → List Command → Type 0
Gives all None left = all ≡ []
Gives all (Some c) left = Fits c × (all ≡ c ∷ left)

-- the first rectangle from one on that is drawn on the layer
pub record IsNextOn (layer : Layer) (rects : List Rect) (start at : ℕ) : Type 0 where
  pub within : at < length rects
  pub rect : Rect
  pub is : slice_get rects at ≡ Some rect
  pub on : IsTrue (is_on layer rect)
  pub first : drawn_on layer (drop start rects) ≡ rect ∷ drawn_on layer (drop (at + 1) rects)
  pub same : drawn_on layer (drop start rects) ≡ drawn_on layer (drop at rects)

-- the first layer from one on that has boxes, and the first rectangle that is drawn on it
pub record IsNextLayer (rects : List Rect) (start number at : ℕ) : Type 0 where
  pub within : number < length layers
  pub layer : Layer
  pub is : slice_get layers number ≡ Some layer
  pub drawn : IsNextOn layer rects 0 at
  pub first : flat_map (λ l. layer_commands l (drawn_on l rects)) (drop start layers)
      ≡ flat_map (λ l. layer_commands l (drawn_on l rects)) (drop number layers)
