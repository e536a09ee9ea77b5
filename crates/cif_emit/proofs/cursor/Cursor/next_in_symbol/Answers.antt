use Rattle.std.proofs.Common.{◌≡◌, ◌+◌, ◌∷◌, ◌++◌, sym, ◌∙◌, ap, subst, map, drop, get_or, Some}
use Rattle.std.specs.Prelude.{slice_get}
use Rattle.std.proofs.lemmas.Option.{slice_get-get_or}
use Rattle.lam_geom.specs.declared.layer.Layer.TheVariants.{ND}
use Rattle.cif_emit.specs.Commands.{layers, drawn_on, box_of}
use Rattle.cif_emit.specs.Rest.{calls_from, rest_of_symbol, symbol_at, IsNextLayer}
use Rattle.cif_emit.proofs.Cursors.{layer_named, shapes_here}
use Rattle.cif_emit.proofs.cursor.Cursor.next_in_symbol.Goals as goal

pub returns-in_ok-name-in-Some-clause-first : goal.returns-in_ok-name-in-Some-clause-first
returns-in_ok-name-in-Some-clause-first c =
    let symbols = c.args.symbols.now in
    let i = c.args.symbol in
    let shapes = (symbol_at symbols i).shapes in
    let behind = calls_from i 0 symbols c.args.labels.now in
    let number = c.in-Some.number in
    let at = c.in-Some.at in
    let same = shapes_here symbols i c.index-symbols-symbol.result c.as_slice.result.now c.requires
    c.as_slice.ensures in
    let next : IsNextLayer shapes c.args.from number at =
    subst (λ rs. IsNextLayer rs c.args.from number at) same c.in-Some.ensures in
    let layer = get_or c.layers.result.now number ND in
    let is : slice_get layers number ≡ Some layer = subst (λ ls. slice_get layers number ≡ Some (get_or ls number ND))
    (sym c.layers.ensures) (slice_get-get_or layers number ND next.within) in
    layer_named shapes c.args.from number at layer behind next is
    ∙ ap (λ name. name ∷ (map box_of (drawn_on layer (drop at shapes)) ++ rest_of_symbol (number + 1) shapes behind))
    (sym c.in_ok-name-in-Some.ensures)
