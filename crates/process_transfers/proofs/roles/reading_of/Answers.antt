use Rattle.std.proofs.lemmas.Result.{IfOk-weaker}
use Rattle.rtl_form.specs.declared.rtl.RtlExpr.TheVariants.{Cell}
use Rattle.process_jumps.specs.Growth.{IsPut}
use Rattle.process_transfers.specs.Control.{IsReadingMade}
use Rattle.process_transfers.proofs.Reading.{reading_put}
use Rattle.process_transfers.proofs.roles.reading_of.Goals as goal

pub returns-in-Stacked : goal.returns-in-Stacked
returns-in-Stacked c =
    let old = c.args.exprs.now in
    let new = c.put.new.exprs in
    IfOk-weaker c.put.result (IsPut old new (Cell c.args.cell)) (IsReadingMade c.args.role c.args.cell old new)
    (λ e put. reading_put c.args.role c.args.cell e old new put) c.put.ensures
