use Rattle.std.proofs.Common.{◌≡◌, ◌∙◌, ◌++◌, ℕ, List, Bool, false}
use Rattle.std.specs.Prelude.{slice_index_or}
use Rattle.std.proofs.lemmas.Result.{IfOk-weaker}
use Rattle.process_layout.specs.declared.laid.Laid.{Laid}
use Rattle.process_layout.specs.Holding.{KeepCells}
use Rattle.process_layout.specs.Laying.{entry_roles, process_roles}
use Rattle.process_layout.proofs.Growth.{process_laid}
use Rattle.process_layout.proofs.places.lay_process.Goals as goal

abbrev told : List Bool → ℕ → Bool
told calling f = slice_index_or calling f false

pub returns-clause-roles : goal.returns-clause-roles
returns-clause-roles c =
    let k = c.args.index in
    let q = c.args.process.now in
    let before = c.args.before.roles in
    let laid = c.in_ok-laid.laid.roles in
    IfOk-weaker c.lay_stack.result
    (λ (now : Laid). now.roles ≡ laid ++ entry_roles k c.as_slice.result.now q.depth)
    (λ (now : Laid). now.roles ≡ before ++ process_roles (told c.args.calling.now) k q)
    (λ now is. process_laid (told c.args.calling.now) k q c.as_slice-forms.result.now c.as_slice.result.now
    c.in-Ok.count before laid now.roles c.as_slice-forms.ensures c.in-Ok.ensures.1
    (c.as_slice.ensures ∙ c.in_ok-places.ensures) c.in_ok-laid.ensures.roles is)
    c.lay_stack.ensures.roles

pub returns-clause-cells : goal.returns-clause-cells
returns-clause-cells c =
    IfOk-weaker c.lay_stack.result (KeepCells c.in_ok-laid.laid) (KeepCells c.args.before)
    (λ now kept ds held. kept ds (c.in_ok-laid.ensures.cells ds held)) c.lay_stack.ensures.cells
