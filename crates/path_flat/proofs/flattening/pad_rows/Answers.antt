use Rattle.std.proofs.Common.{List, ap, subst, ◌∙◌, length}
use Rattle.mp_base.specs.declared.pad.Pad.{Pad}
use Rattle.nor_net.specs.declared.net.NetId.{NetId}
use Rattle.path_form.specs.Flat.{ArePadsOf}
use Rattle.path_flat.specs.Numbers.{number_of}
use Rattle.path_flat.proofs.flattening.pad_rows.Goals as goal

pub returns : goal.returns
returns c =
    let p = c.args.path.now in
    let number = number_of c.args.numbers.now in
    record {
      sizes = (
        c.in_ok-inputs.ensures.size ∙ ap length c.as_slice.ensures,
        c.in_ok-outputs.ensures.size ∙ ap length c.as_slice-3.ensures,
      );
      inputs = subst (λ (ids : List NetId). ArePadsOf (p.pads).inputs ids number c.in_ok-inputs.inputs)
          c.as_slice-2.ensures
          (subst (λ (pads : List Pad). ArePadsOf pads c.as_slice-2.result.now number c.in_ok-inputs.inputs)
          c.as_slice.ensures c.in_ok-inputs.ensures.pads);
      outputs = subst (λ (ids : List NetId). ArePadsOf (p.pads).outputs ids number c.in_ok-outputs.outputs)
          c.as_slice-4.ensures
          (subst (λ (pads : List Pad). ArePadsOf pads c.as_slice-4.result.now number c.in_ok-outputs.outputs)
          c.as_slice-3.ensures c.in_ok-outputs.ensures.pads);
    }
