use Rattle.std.proofs.Common.{◌≡◌, ◌+◌, ◌<◌, ◌∷◌, ◌++◌, true, sym, ◌∙◌, ap, subst, length, map, drop, get_or, All}
use Rattle.std.proofs.lemmas.Option.{get_or_from_slice_get}
use Rattle.lam_geom.specs.declared.rect.Rect.{Rect}
use Rattle.cif_form.specs.Fits.{Fits}
use Rattle.cif_emit.specs.Emittable.{IsDrawable, IsOnGrid}
use Rattle.cif_emit.specs.Commands.{is_on, drawn_on, box_of}
use Rattle.cif_emit.specs.Rest.{calls_from, no_symbol, rest, rest_of_symbol, symbol_at, IsInside, IsNextOn}
use Rattle.cif_emit.proofs.Edges.{box_fits}
use Rattle.cif_emit.proofs.Drawn.{no_rect, solid_on}
use Rattle.cif_emit.proofs.Cursors.{box_here, shapes_here}
use Rattle.cif_emit.proofs.cursor.Cursor.next.Goals as goal

pub box_of-requires : goal.box_of-requires
box_of-requires c =
    let symbols = c.args.symbols.now in
    let i = c.in-Boxes.symbol in
    let rects = c.as_slice-rects.result.now in
    let inside : i < length symbols = subst (λ cursor. IsInside cursor symbols) c.in-Boxes.is c.requires.inside in
    let same = shapes_here symbols i c.index-symbols-symbol.result rects inside
    c.as_slice-rects.ensures in
    let is : IsDrawable (symbol_at symbols i) = c.requires.drawable.each i no_symbol inside in
    let on : All IsOnGrid rects = subst (All IsOnGrid) (sym same) is.corners in
    on c.in-Some.at no_rect c.in-Some.ensures.within

pub returns-in-Some-clause-gives : goal.returns-in-Some-clause-gives
returns-in-Some-clause-gives c =
    let symbols = c.args.symbols.now in
    let labels = c.args.labels.now in
    let i = c.in-Boxes.symbol in
    let layer = c.in-Boxes.layer in
    let start = c.in-Boxes.at in
    let at = c.in-Some.at in
    let rects = c.as_slice-rects.result.now in
    let shapes = (symbol_at symbols i).shapes in
    let inside : i < length symbols = subst (λ cursor. IsInside cursor symbols) c.in-Boxes.is c.requires.inside in
    let same = shapes_here symbols i c.index-symbols-symbol.result rects inside
    c.as_slice-rects.ensures in
    let is : IsDrawable (symbol_at symbols i) = c.requires.drawable.each i no_symbol inside in
    let next : IsNextOn layer shapes start at = subst (λ rs. IsNextOn layer rs start at) same c.in-Some.ensures in
    let r : Rect = get_or shapes at no_rect in
    let read : next.rect ≡ r = sym (get_or_from_slice_get shapes at next.rect no_rect next.is) in
    let on : is_on layer r ≡ true = subst (λ q. is_on layer q ≡ true) read next.on in
    let given = ap (λ rs. box_of (get_or rs at no_rect)) (sym same) ∙ sym c.box_of.ensures in
    let later = rest_of_symbol c.in-Boxes.next shapes (calls_from i 0 symbols labels) in (
      subst Fits given (box_fits r (is.corners at no_rect next.within) (solid_on layer r on)),
      ap (λ cursor. rest cursor symbols labels) c.in-Boxes.is
          ∙ box_here shapes layer start at no_rect later next
          ∙ ap (λ b. b ∷ (map box_of (drawn_on layer (drop (at + 1) shapes)) ++ later)) given,
    )
