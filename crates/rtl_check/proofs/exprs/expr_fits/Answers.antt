use Rattle.rtl_check.proofs.Fitting.{apply_fits}
use Rattle.rtl_check.proofs.exprs.expr_fits.Goals as goal

pub returns-in-Apply : goal.returns-in-Apply
returns-in-Apply c =
    apply_fits c.args.rtl.now c.args.index c.args.expr.now _ _ _ c.apply_fits.result c.in-Apply.is c.apply_fits.ensures
