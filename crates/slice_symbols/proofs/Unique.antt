-- Symbols are determined by the rectangles and the bands.
use Rattle.std.proofs.Common.{◌≡◌, sym, ◌∙◌, List}
use Rattle.lam_geom.specs.declared.rect.Rect.{Rect}
use Rattle.slice_symbols.specs.Ordered.{AreAll, rect_cmp}
use Rattle.slice_symbols.specs.Drawn.{SymbolsAreUnique, symbols_of_both}
use Rattle.slice_symbols.proofs.InOrder.{one_list}
use Rattle.slice_symbols.proofs.Orders.{rect_total, same_rect}

one_of_all : (Is : Rect → Type 0) (rs qs : List Rect) → AreAll Is rs → AreAll Is qs → rs ≡ qs
one_of_all Is rs qs a b =
    one_list rect_cmp rect_total same_rect rs qs a.ascending b.ascending (λ r has. b.all r (a.are r has))
    (λ r has. a.all r (b.are r has))

pub symbols_unique : SymbolsAreUnique
symbols_unique rects b symbols others p q =
    let alike : p.common ≡ q.common = one_of_all _ p.common q.common (p.out).alike (q.out).alike in
    let rest : p.rest ≡ q.rest = one_of_all _ p.rest q.rest (p.out).others (q.out).others in
    p.are ∙ (λ i. symbols_of_both b (alike i) (rest i)) ∙ sym q.are
