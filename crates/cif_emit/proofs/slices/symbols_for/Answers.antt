use Rattle.std.proofs.Common.{◌∙◌, subst}
use Rattle.std.specs.Prelude.{IfOk}
use Rattle.slice_symbols.specs.Drawn.{AreSymbolsOf}
use Rattle.cif_emit.proofs.slices.symbols_for.Goals as goal

pub returns : goal.returns
returns c =
    subst (λ rs. IfOk c.symbols_of.result (AreSymbolsOf rs c.args.bands))
    (c.as_slice.ensures ∙ c.in_ok-rects.ensures) c.symbols_of.ensures
