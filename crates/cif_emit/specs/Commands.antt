-- The commands of a chip: symbols with their boxes, the calls of each, and the labels.
use Rattle.std.specs.Prelude.{ℕ, suc, ◌&&◌, ◌==◌, Bool, cond, List, [], ◌∷◌, ◌++◌, map, filter, codes, ℤ, pos}
use Rattle.std.specs.Prelude.{◌+ℤ◌, ◌-ℤ◌, int_lt, int_div}
use Rattle.std.specs.Ordering.{int_eq}
use Rattle.std.specs.List.{flat_map}
use Rattle.std.specs.Fmt.{signed_decimal}
use Rattle.lam_geom.specs.declared.layer.Layer.{Layer}
use Rattle.lam_geom.specs.declared.layer.Layer.TheVariants.{ND, NP, NC, NM, NI, NB, NG}
use Rattle.lam_geom.specs.declared.rect.Rect.{Rect}
use Rattle.lam_geom.specs.Squares.{rank}
use Rattle.cif_form.specs.declared.command.Command.{Command}
use Rattle.cif_form.specs.declared.command.Turn.{Turn}
use Rattle.cif_form.specs.declared.command.Turn.TheVariants.{Move}
use Rattle.cif_form.specs.declared.command.Command.TheVariants as commands
use Rattle.cif_form.specs.declared.command.Command.TheVariants.{Box, Start, Finish, Call, User}
use Rattle.cif_form.specs.Text.{right}
use Rattle.cif_form.specs.Place.{layer_name}
use Rattle.cif_form.specs.Writing.{space}
use Rattle.fabric.specs.declared.chip.ChipLabel.{ChipLabel}
use Rattle.slice_symbols.specs.declared.symbols.Symbol.{Symbol}

-- the layers, in the order of their boxes
abbrev pub layers : List Layer
layers = ND ∷ NP ∷ NC ∷ NM ∷ NI ∷ NB ∷ NG ∷ []

-- the rectangle is of that layer, and covers something
abbrev pub is_on : Layer → Rect → Bool
is_on l r = (rank r.layer == rank l) && (int_lt r.x0 r.x1 && int_lt r.y0 r.y1)

abbrev pub drawn_on : Layer → List Rect → List Rect
drawn_on l rects = filter (is_on l) rects

-- the box of a rectangle, in half lambda
abbrev pub box_of : Rect → Command
box_of r = Box (int_div (r.x1 -ℤ r.x0) (pos 250)) (int_div (r.y1 -ℤ r.y0) (pos 250))
    (record { x = int_div (r.x0 +ℤ r.x1) (pos 500); y = int_div (r.y0 +ℤ r.y1) (pos 500) }) right

-- the boxes of a layer behind its name, if there are any
abbrev pub layer_commands : Layer → List Rect → List Command
layer_commands l [] = []
layer_commands l (r ∷ rs) = commands.Layer (layer_name l) ∷ map box_of (r ∷ rs)

-- the boxes of rectangles, layer by layer
abbrev pub box_commands : List Rect → List Command
box_commands rects = flat_map (λ l. layer_commands l (drawn_on l rects)) layers

-- the definition of a symbol, whose unit is half a lambda
abbrev pub symbol : ℤ → List Command → List Command
symbol number body = Start number (pos 125) (pos 1) ∷ (body ++ (Finish ∷ []))

-- the text of a label behind its digit: units are two half-units
abbrev pub label_words : ChipLabel → List ℕ
label_words l = codes "4 " ++ (l.name ++ (space ++ (signed_decimal (int_div l.x (pos 2))
    ++ (space ++ (signed_decimal (int_div l.y (pos 2)) ++ (space ++ layer_name l.layer))))))

abbrev pub label_of : ChipLabel → Command
label_of l = User 9 (label_words l)

-- the turns that raise a symbol so many half-units: none, where it stays where it is
abbrev pub turns_of : ℤ → List Turn
turns_of height = cond (int_eq height (pos 0)) [] (Move (record { x = pos 0; y = int_div height (pos 2) }) ∷ [])

-- the call of a symbol that raises it so many half-units
abbrev pub call_at : ℤ → ℤ → Command
call_at number height = Call number (turns_of height)

-- a symbol of that number, and a call of it for each of its heights
abbrev pub symbol_commands : ℕ → Symbol → List Command
symbol_commands number s =
    symbol (pos number) (box_commands s.shapes) ++ map (call_at (pos number)) s.heights

-- symbols, of which the first has this number
abbrev pub all_symbols : ℕ → List Symbol → List Command
all_symbols number [] = []
all_symbols number (s ∷ ss) = symbol_commands number s ++ all_symbols (suc number) ss

abbrev pub chip_commands : List Symbol → List ChipLabel → List Command
chip_commands symbols labels = all_symbols 1 symbols ++ map label_of labels
