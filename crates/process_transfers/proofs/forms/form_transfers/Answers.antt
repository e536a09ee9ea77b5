use Rattle.std.proofs.Common.{◌∙◌, ◌<◌, ap, arith, get_or, length}
use Rattle.std.proofs.lemmas.Option.{slice_get-get_or}
use Rattle.mp_base.proofs.Entries.{entry}
use Rattle.process_plan.proofs.Keeping.{keeps_27}
use Rattle.process_transfers.proofs.Serving.{forms_more}
use Rattle.process_transfers.proofs.forms.form_transfers.Goals as goal

pub loop-index-preserved : goal.loop-index-preserved
loop-index-preserved c =
    let p = c.args.program.now in
    let y = c.index-as_slice-index.result in
    let n = c.loop-index.index in
    let size = c.requires.size in
    let inside : n < length p.forms = omega arith in
    forms_more p c.args.layout.now.roles c.args.layout.now.cells c.args.enables.now c.requires.cells
    (keeps_27 p c.requires.unbroken) n y _ c.args.transfers.now c.loop-index.transfers c.add.new.list
    c.in_ok-found.found
    c.loop-index.invariant
    (entry p.forms n inside (c.index-as_slice-index.is ∙ ap (λ ys. get_or ys n y) c.as_slice.ensures))
    (slice_get-get_or c.args.enables.now n _ (omega arith)) c.in_ok-found.ensures c.in_ok-add.ensures
