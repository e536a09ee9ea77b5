use Rattle.std.proofs.Common.{List, false, get_or, length, ap, subst, arith}
use Rattle.std.proofs.lemmas.Option.{slice_get-get_or}
use Rattle.rtl_form.specs.declared.rtl.Cell as cells
use Rattle.rtl_form.specs.declared.rtl.CellKind.TheVariants.{Input}
use Rattle.mp_base.specs.Entries.{IsAt}
use Rattle.datapath_finish.proofs.PadNets.{outputs_more, pad_in}
use Rattle.datapath_finish.proofs.finishing.output_nets.Goals as goal

pub put_output-requires-clause-pad : goal.put_output-requires-clause-pad
put_output-requires-clause-pad c k e =
    let d : cells.Cell = record { word = false; kind = Input 0 } in
    let n = ap length c.as_slice.ensures in
    let l = c.len-index-end.ensures in
    let here = subst (λ (xs : List cells.Cell). IsAt xs c.loop-index.index (get_or c.as_slice.result.now
    c.loop-index.index d)) c.as_slice.ensures
    (slice_get-get_or c.as_slice.result.now c.loop-index.index d (omega (arith, c.loop-index-test.true, n, l))) in
    let p = pad_in c.args.rtl.now c.requires.sound c.loop-index.index
    (get_or c.as_slice.result.now c.loop-index.index d) here k e in
    let t = c.loop-index.invariant.count in
    omega (arith, p, t)

pub loop-index-preserved : goal.loop-index-preserved
loop-index-preserved c =
    let d : cells.Cell = record { word = false; kind = Input 0 } in
    let n = ap length c.as_slice.ensures in
    let l = c.len-index-end.ensures in
    let here = subst (λ (xs : List cells.Cell). IsAt xs c.loop-index.index (get_or c.as_slice.result.now
    c.loop-index.index d)) c.as_slice.ensures
    (slice_get-get_or c.as_slice.result.now c.loop-index.index d (omega (arith, c.loop-index-test.true, n, l))) in
    outputs_more c.args.rtl.now c.args.making.now c.requires.sound c.loop-index.index c.loop-index.outputs
    c.put_output.new.outputs (get_or c.as_slice.result.now c.loop-index.index d) c.loop-index.invariant here
    c.put_output.ensures
