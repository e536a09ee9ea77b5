use Rattle.std.proofs.Common.{◌∙◌, ◌++◌, ◌∷◌, [], ap}
use Rattle.slice_symbols.proofs.Drawn.{of_both_none, of_both_some}
use Rattle.slice_symbols.proofs.symbols.both.Goals as goal

pub returns-then-is_empty : goal.returns-then-is_empty
returns-then-is_empty c =
    of_both_none c.args.bands c.args.common c.args.rest c.as_slice.result.now c.in_ok-make_symbol.field-0
    c.push.new.self c.as_slice.ensures c.if-is_empty.ensures c.in_ok-make_symbol.ensures
    (c.in_ok-push.ensures.ok ∙ ap (λ ss. ss ++ c.in_ok-make_symbol.field-0 ∷ []) c.new-symbols.ensures)

pub returns : goal.returns
returns c =
    let s = c.in_ok-make_symbol-2.field-0 in
    let t = c.in_ok-make_symbol-3.field-0 in
    of_both_some c.args.bands c.args.common c.args.rest c.as_slice.result.now s t c.push-3.new.self c.as_slice.ensures
    c.if-is_empty.ensures c.in_ok-make_symbol-2.ensures c.in_ok-make_symbol-3.ensures
    (c.in_ok-push-3.ensures.ok ∙ ap (λ ss. ss ++ t ∷ []) c.in_ok-push-2.ensures.ok
    ∙ ap (λ ss. (ss ++ s ∷ []) ++ t ∷ []) c.new-symbols.ensures)
