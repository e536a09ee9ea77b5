use Rattle.std.proofs.Common.{sym, subst}
use Rattle.std.specs.Prelude.{◌↔◌, IsTrue}
use Rattle.rtl_form.specs.declared.rtl.CellKind.{CellKind}
use Rattle.rtl_form.specs.Sound.{CellFits}
use Rattle.rtl_check.proofs.pads.cell_fits.Goals as goal

pub returns-in-Input : goal.returns-in-Input
returns-in-Input c =
    let P : CellKind → Type 0 = λ kind. IsTrue c.has_pad.result ↔ CellFits c.args.rtl.now c.args.cell.now kind in
    subst P (sym c.in-Input.is) c.has_pad.ensures

pub returns-in-Output : goal.returns-in-Output
returns-in-Output c =
    let P : CellKind → Type 0 =
    λ kind. IsTrue c.has_pad-in-Output.result ↔ CellFits c.args.rtl.now c.args.cell.now kind in
    subst P (sym c.in-Output.is) c.has_pad-in-Output.ensures
