use Rattle.std.proofs.Common.{◌≡◌, ◌∙◌, ◌<◌, ap, arith, length, map, refl, sym}
use Rattle.std.specs.Prelude.{slice_index_or}
use Rattle.process_layout.specs.Laying.{cell_at, cell_for, value_roles}
use Rattle.process_layout.proofs.Growth.{
  cell_found,
  inputs_next,
  is_this,
  outputs_next,
  own_held,
  values_more,
}
use Rattle.process_layout.proofs.values.lay_definitions.Goals as goal

pub loop-index-init : goal.loop-index-init
loop-index-init c = record {
  roles = c.new-laid.ensures.roles;
  cells = c.new-laid.ensures.cells ∙ sym (ap (map (cell_for c.args.defs.now)) c.new-laid.ensures.roles);
  inputs = refl;
  outputs = refl;
  few = omega arith;
  fewer = omega arith;
}

pub loop-index-preserved : goal.loop-index-preserved
loop-index-preserved c =
    let ds = c.args.defs.now in
    let i = c.loop-index.index in
    let r = c.index-defs-index.result in
    let y = slice_index_or ds i r in
    let laid = c.loop-index.laid in
    let now = c.in_ok-laid.laid in
    let known = c.loop-index.invariant in
    let size = c.in-Ok.ensures.1 in
    let inside : i < length ds = omega (arith, size) in
    let found : c.cell_of.result ≡ cell_at ds i =
    cell_found ds i y y.what c.cell_of.result c.loop-index.inputs c.loop-index.outputs (is_this ds i r inside) refl
    c.cell_of.ensures known.inputs known.outputs in
    record {
      roles = values_more ds i laid.roles now.roles c.cell_of.result known.roles c.in_ok-laid.ensures.roles found;
      cells = own_held ds i laid.cells now.cells laid.roles now.roles c.cell_of.result known.cells
          c.in_ok-laid.ensures.cells c.in_ok-laid.ensures.roles found;
      inputs = inputs_next ds i r inside c.loop-index.inputs c.one_if-inputs.result c.is_input.result known.inputs
          c.one_if-inputs.ensures.one c.is_input.ensures;
      outputs = outputs_next ds i r inside c.loop-index.outputs c.one_if-outputs.result c.is_output.result known.outputs
          c.one_if-outputs.ensures.one c.is_output.ensures;
      few = omega (arith, known.few, c.one_if-inputs.ensures.low);
      fewer = omega (arith, known.fewer, c.one_if-outputs.ensures.low);
    }

pub returns-clause-roles : goal.returns-clause-roles
returns-clause-roles c =
    let size = c.in-Ok.ensures.1 in
    let end : c.loop-index.index ≡ length c.args.defs.now = omega (arith, size) in
    c.loop-index.invariant.roles ∙ ap (value_roles c.args.defs.now) end

pub returns-clause-cells : goal.returns-clause-cells
returns-clause-cells c = c.loop-index.invariant.cells
