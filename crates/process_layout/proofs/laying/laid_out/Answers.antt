use Rattle.std.proofs.Common.{◌≡◌, ◌++◌, false, length}
use Rattle.std.specs.Prelude.{slice_index_or}
use Rattle.process_plan.specs.Roles.{AreCells}
use Rattle.process_layout.specs.declared.laid.Laid.{Laid}
use Rattle.process_layout.specs.Holding.{KeepCells}
use Rattle.process_layout.specs.Laying.{processes_roles}
use Rattle.process_layout.proofs.Growth.{laid_cells, ok_both}
use Rattle.process_layout.proofs.laying.laid_out.Goals as goal

pub returns : goal.returns
returns c =
    let p = c.args.program.now in
    let laid = c.in_ok-laid.laid in
    let read = c.as_slice.result.now in
    let qs = c.as_slice-processes.result.now in
    ok_both c.lay_processes.result
    (λ (now : Laid). now.roles ≡ laid.roles ++ processes_roles (λ f. slice_index_or read f false) qs (length qs))
    (KeepCells laid) (λ (now : Laid). AreCells p now.roles now.cells)
    (λ now roles kept. laid_cells p c.sound.ensures c.in_ok-calling.calling.items read c.as_slice-defs.result.now qs
    c.in_ok-calling.ensures c.as_slice.ensures.value c.as_slice-defs.ensures c.as_slice-processes.ensures laid now
    c.in_ok-laid.ensures.roles c.in_ok-laid.ensures.cells roles kept)
    c.lay_processes.ensures.roles c.lay_processes.ensures.cells
