use Rattle.std.proofs.Common.{length}
use Rattle.path_flat.proofs.PadNets.{no_others, rows_below, rows_numbered}
use Rattle.path_flat.proofs.Whole.{all_fed, numbering, of, of_net}
use Rattle.path_flat.proofs.flattening.flatten.Goals as goal

pub returns-clause-flat : goal.returns-clause-flat
returns-clause-flat c =
    let p = c.args.path.now in
    let h = c.in_ok-rows.ensures in
    let w = h.whole in
    let net = c.number_pads.new.net in
    let bits = h.bits in
    let agrees = of_net p w.shapes net h.of w.numbered in
    record {
      of = of p w.shapes net h.of w.numbered;
      numbering = numbering p w.shapes net h.of w.numbered;
      fed = all_fed p w.shapes net h.of w.numbered;
      sizes = bits.sizes;
      inputs = rows_numbered p (p.pads).inputs p.inputs p.whole.pads_fit.0 p.whole.entries_fit.0 h.of
          (of p w.shapes net h.of w.numbered) agrees c.in_ok-rows.rows.0 bits.inputs;
      outputs = rows_numbered p (p.pads).outputs p.outputs p.whole.pads_fit.1 p.whole.entries_fit.1 h.of
          (of p w.shapes net h.of w.numbered) agrees c.in_ok-rows.rows.1 bits.outputs;
    }

pub returns-clause-others : goal.returns-clause-others
returns-clause-others c =
    let h = c.in_ok-rows.ensures in
    let bits = h.bits in
    no_others c.args.path.now c.number_pads.new.net h.of (h.whole).numbered c.in_ok-rows.rows.0 bits.sizes.0 bits.inputs

pub returns-clause-few : goal.returns-clause-few
returns-clause-few c =
    let few = (c.in_ok-rows.ensures.whole).few in record { nets = few.nets; inputs = few.inputs }

pub returns-clause-inputs : goal.returns-clause-inputs
returns-clause-inputs c =
    let p = c.args.path.now in
    let h = c.in_ok-rows.ensures in
    let bits = h.bits in
    rows_below p (p.pads).inputs p.inputs p.whole.pads_fit.0 p.whole.entries_fit.0 (length c.number_pads.new.net) h.of
    ((h.whole).numbered).inside c.in_ok-rows.rows.0 bits.sizes.0 bits.inputs

pub returns-clause-outputs : goal.returns-clause-outputs
returns-clause-outputs c =
    let p = c.args.path.now in
    let h = c.in_ok-rows.ensures in
    let bits = h.bits in
    rows_below p (p.pads).outputs p.outputs p.whole.pads_fit.1 p.whole.entries_fit.1 (length c.number_pads.new.net)
    h.of ((h.whole).numbered).inside c.in_ok-rows.rows.1 bits.sizes.1 bits.outputs
