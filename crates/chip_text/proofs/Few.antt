-- The commands of a chip are few.
use Rattle.std.proofs.Common.{ℕ, suc, ◌≡◌, ◌+◌, ◌*◌, ◌≤◌, ap, arith, lit≤, List, [], ◌∷◌, ◌++◌, map, length}
use Rattle.std.proofs.Common.{length-append}
use Rattle.std.specs.Prelude.{All, ℤ, pos}
use Rattle.std.specs.List.{flat_map}
use Rattle.std.proofs.lemmas.List.{length-map}
use Rattle.std.proofs.lemmas.List.Elements.{All-head, All-tail}
use Rattle.std.proofs.lemmas.List.FromFn.{length-map-range_with_len}
use Rattle.lam_geom.specs.declared.layer.Layer.{Layer}
use Rattle.lam_geom.specs.declared.rect.Rect.{Rect}
use Rattle.cif_form.specs.declared.command.Command.{Command}
use Rattle.cif_form.specs.declared.command.Command.TheVariants.{Finish}
use Rattle.fabric.specs.declared.chip.Chip.{Chip}
use Rattle.slice_symbols.specs.declared.bands.Bands.{Bands}
use Rattle.slice_symbols.specs.declared.symbols.Symbol.{Symbol}
use Rattle.slice_symbols.specs.Heights.{height_of, heights, raised}
use Rattle.slice_symbols.specs.Drawn.{AreSymbolsOf, IsSymbolOf, drawn_rects, symbol_of, symbol_rects, symbols_of_both}
use Rattle.cif_emit.specs.Commands.{layers, drawn_on, box_of, layer_commands, box_commands, symbol, call_at, label_of}
use Rattle.cif_emit.specs.Commands.{symbol_commands, all_symbols}
use Rattle.cif_emit.specs.Emittable.{chip_rects}
use Rattle.cif_emit.specs.Emitted.{AreCommandsOf}
use Rattle.cif_emit.proofs.Drawn.{drawn, drawn_few}
use Rattle.cif_emit.proofs.Sliced.{are_bands}

-- ---- what is defined is drawn

-- the rectangles of the symbols, where they are defined
abbrev defined : List Symbol → ℕ
defined [] = 0
defined (s ∷ ss) = length s.shapes + defined ss

drawn_once : (shapes : List Rect) (hs : List ℤ) → 1 ≤ length hs
    → length shapes ≤ length (flat_map (λ h. map (raised h) shapes) hs)
drawn_once shapes [] some = absurd (omega (arith, some))
drawn_once shapes (h ∷ hs) some =
    let a = length-append (map (raised h) shapes) (flat_map (λ g. map (raised g) shapes) hs) in
    let b = length-map shapes (raised h) in
    omega (arith, a, b)

symbol_drawn : (b : Bands) (many : ℕ) (rects : List Rect) → 1 ≤ many
    → length rects ≤ length (symbol_rects (symbol_of b many rects))
symbol_drawn b many rects some =
    let n : length (heights b many) ≡ many = length-map-range_with_len (height_of b) 0 many in
    drawn_once rects (heights b many) (omega (arith, some, n))

all_drawn : (b : Bands) (common rest : List Rect) → 1 ≤ b.count
    → defined (symbols_of_both b common rest) ≤ length (drawn_rects (symbols_of_both b common rest))
all_drawn b [] rest some =
    let a = symbol_drawn b 1 rest (lit≤ tt) in
    let n = length-append (symbol_rects (symbol_of b 1 rest)) [] in
    omega (arith, a, n)
all_drawn b (c ∷ cs) rest some =
    let a = symbol_drawn b b.count (c ∷ cs) some in
    let z = symbol_drawn b 1 rest (lit≤ tt) in
    let n = length-append (symbol_rects (symbol_of b b.count (c ∷ cs))) (symbol_rects (symbol_of b 1 rest) ++ []) in
    let m = length-append (symbol_rects (symbol_of b 1 rest)) [] in
    omega (arith, a, z, n, m)

few_defined : (rects : List Rect) (b : Bands) (symbols : List Symbol) → 1 ≤ b.count → AreSymbolsOf rects b symbols
    → defined symbols ≤ length rects
few_defined rects b symbols some are =
    let all = all_drawn b are.common are.rest some in
    let d = ap defined are.are in
    let e = ap (λ ss. length (drawn_rects ss)) are.are in
    omega (arith, all, d, e, are.few)

-- ---- how many commands that takes

-- a layer's boxes and its name are at most one command more than its rectangles
few_in_layer : (l : Layer) (rs : List Rect) → length (layer_commands l rs) ≤ 1 + length rs
few_in_layer l [] = lit≤ tt
few_in_layer l (r ∷ rs) = let a = length-map rs box_of in omega arith

few_in_layers : (ls : List Layer) (rects : List Rect)
    → length (flat_map (λ l. layer_commands l (drawn_on l rects)) ls) ≤ length ls + length (drawn ls rects)
few_in_layers [] rects = lit≤ tt
few_in_layers (l ∷ ls) rects =
    let a = few_in_layer l (drawn_on l rects) in
    let i = few_in_layers ls rects in
    let b = length-append (layer_commands l (drawn_on l rects))
    (flat_map (λ l. layer_commands l (drawn_on l rects)) ls) in
    let c = length-append (drawn_on l rects) (drawn ls rects) in
    omega arith

-- a start, a finish, seven layers and at most 64 calls beside the boxes
few_in_symbol : (number : ℕ) (s : Symbol) → length s.heights ≤ 64
    → length (symbol_commands number s) ≤ 73 + length s.shapes
few_in_symbol number s few =
    let body : List Command = box_commands s.shapes in
    let calls : List Command = map (call_at (pos number)) s.heights in
    let a = few_in_layers layers s.shapes in
    let b = drawn_few s.shapes in
    let n = length-append (symbol (pos number) body) calls in
    let m = length-append body (Finish ∷ []) in
    let k = length-map s.heights (call_at (pos number)) in
    omega (arith, few, a, b, n, m, k)

few_in_symbols : (rects : List Rect) (b : Bands) (number : ℕ) (symbols : List Symbol)
    → All (IsSymbolOf rects b) symbols
    → length (all_symbols number symbols) ≤ 73 * length symbols + defined symbols
few_in_symbols rects b number [] each = lit≤ tt
few_in_symbols rects b number (s ∷ ss) each =
    let is = All-head (IsSymbolOf rects b) s ss each in
    let a = few_in_symbol number s is.few in
    let i = few_in_symbols rects b (suc number) ss (All-tail (IsSymbolOf rects b) s ss each) in
    let n = length-append (symbol_commands number s) (all_symbols (suc number) ss) in
    omega (arith, a, i, n)

-- no more than the chip has rectangles and labels, and 146
pub few_commands : (chip : Chip) (commands : List Command) → AreCommandsOf chip commands
    → length commands ≤ length (chip_rects chip) + length chip.labels + 146
few_commands chip commands are =
    let made = are.of_chip in
    let symbols = are.symbols in
    let sharing = made.sharing in
    let some = (are_bands (chip.fabric).rows made.bands made.above).some in
    let d = few_defined (chip_rects chip) made.bands symbols some sharing in
    let a = few_in_symbols (chip_rects chip) made.bands 1 symbols sharing.each in
    let two = sharing.two in
    let n = length-append (all_symbols 1 symbols) (map label_of chip.labels) in
    let l = length-map chip.labels label_of in
    let e = ap length are.are in
    omega (arith, d, a, two, n, l, e)
