use Rattle.std.proofs.Common.{◌+◌, ◌∙◌, ap, arith, get_or, length, sym, subst}
use Rattle.std.proofs.lemmas.List.{length_push}
use Rattle.std.proofs.lemmas.Option.{slice_get-get_or, slice_get_within}
use Rattle.nor_net.specs.declared.net.NetId.{NetId}
use Rattle.path_flat.specs.Numbers.{number_of}
use Rattle.path_flat.proofs.PadRows.{AreRowsTo, rows_more}
use Rattle.path_flat.proofs.rows.rows_of.Goals as goal

pub loop-index-preserved : goal.loop-index-preserved
loop-index-preserved c =
    let row = c.in_ok-bits_of.field-0 in
    let pad = get_or c.args.pads.now c.loop-index.index c.index-pads-index.result in
    let i = c.loop-index.index in
    let d : NetId = record { 0 = 0 } in
    let e = c.in_ok-push.ensures.ok in
    record {
      size = ap length e ∙ length_push c.loop-index.rows row ∙ omega arith;
      rows = subst (AreRowsTo (i + 1) c.args.pads.now c.args.ids.now (number_of c.args.numbers.now)) (sym e)
          (rows_more i c.args.pads.now c.args.ids.now (number_of c.args.numbers.now) c.loop-index.rows pad
          (get_or c.args.ids.now i d) row
          c.loop-index.invariant.size c.loop-index.invariant.rows
          (slice_get-get_or c.args.pads.now i c.index-pads-index.result c.loop-index-test.true)
          (slice_get-get_or c.args.ids.now i d (let l = c.requires in let t = c.loop-index-test.true in
          omega (arith, l, t)))
          c.in_ok-bits_of.ensures);
    }

pub returns-clause-pads : goal.returns-clause-pads
returns-clause-pads c = λ i pad id row is_pad is_id is_row.
    c.loop-index.invariant.rows.bits i pad id row
    (let w = slice_get_within c.args.pads.now i pad is_pad in omega (arith, w)) is_pad is_id is_row
