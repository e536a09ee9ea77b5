-- The commands of a chip are plain.
use Rattle.std.proofs.Common.{ℕ, suc, refl, List, [], ◌∷◌, ◌++◌, map}
use Rattle.std.specs.Prelude.{All, ℤ, pos, slice_index_or}
use Rattle.std.specs.List.{flat_map}
use Rattle.std.proofs.lemmas.List.Elements.{All-nil, All-cons, All-append, All-push, All-map}
use Rattle.lam_geom.specs.declared.layer.Layer.{Layer}
use Rattle.lam_geom.specs.declared.rect.Rect.{Rect}
use Rattle.cif_form.specs.declared.command.Command.TheVariants.{Layer as SetLayer, Start, Finish}
use Rattle.cif_form.specs.Place.{layer_name}
use Rattle.fabric.specs.declared.chip.ChipLabel.{ChipLabel}
use Rattle.slice_symbols.specs.declared.symbols.Symbol.{Symbol}
use Rattle.cif_emit.specs.Commands.{layers, drawn_on, box_of, layer_commands, box_commands, symbol, call_at, label_of}
use Rattle.cif_emit.specs.Commands.{symbol_commands, all_symbols, chip_commands}
use Rattle.cif_emit.specs.Emittable.{IsPlainLabel}
use Rattle.chip_text.specs.Texts.{IsPlain}

plain_layer : (l : Layer) (rects : List Rect) → All IsPlain (layer_commands l rects)
plain_layer l [] = All-nil IsPlain
plain_layer l (r ∷ rs) =
    All-cons IsPlain (SetLayer (layer_name l)) (map box_of (r ∷ rs)) (l, refl)
    (All-map IsPlain box_of (r ∷ rs) (λ k d h. refl))

plain_layers : (rects : List Rect) (ls : List Layer)
    → All IsPlain (flat_map (λ l. layer_commands l (drawn_on l rects)) ls)
plain_layers rects [] = All-nil IsPlain
plain_layers rects (l ∷ ls) =
    All-append IsPlain (layer_commands l (drawn_on l rects)) (flat_map (λ m. layer_commands m (drawn_on m rects)) ls)
    (plain_layer l (drawn_on l rects)) (plain_layers rects ls)

plain_symbol : (number : ℤ) (rects : List Rect) → All IsPlain (symbol number (box_commands rects))
plain_symbol number rects =
    All-cons IsPlain (Start number (pos 125) (pos 1)) (box_commands rects ++ (Finish ∷ [])) tt
    (All-push IsPlain (box_commands rects) Finish (plain_layers rects layers) tt)

plain_symbols : (number : ℕ) (symbols : List Symbol) → All IsPlain (all_symbols number symbols)
plain_symbols number [] = All-nil IsPlain
plain_symbols number (s ∷ ss) =
    let calls : All IsPlain (map (call_at (pos number)) s.heights) =
    All-map IsPlain (call_at (pos number)) s.heights (λ k d h. (slice_index_or s.heights k d, refl)) in
    All-append IsPlain (symbol_commands number s) (all_symbols (suc number) ss)
    (All-append IsPlain (symbol (pos number) (box_commands s.shapes)) (map (call_at (pos number)) s.heights)
    (plain_symbol (pos number) s.shapes) calls) (plain_symbols (suc number) ss)

plain_labels : (labels : List ChipLabel) → All IsPlainLabel labels → All IsPlain (map label_of labels)
plain_labels labels are =
    All-map IsPlain label_of labels (λ k d h. (slice_index_or labels k d, are k d h, refl, refl))

pub plain_commands : (symbols : List Symbol) (labels : List ChipLabel) → All IsPlainLabel labels
    → All IsPlain (chip_commands symbols labels)
plain_commands symbols labels are =
    All-append IsPlain (all_symbols 1 symbols) (map label_of labels) (plain_symbols 1 symbols)
    (plain_labels labels are)
