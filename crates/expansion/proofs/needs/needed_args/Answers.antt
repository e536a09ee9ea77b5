use Rattle.std.proofs.Common.{ℕ, subst}
use Rattle.std.specs.Prelude.{slice_index_or}
use Rattle.mp_base.specs.Entries.{IsAt}
use Rattle.written_meanings.specs.declared.functions.Body.{Body}
use Rattle.expansion.proofs.Scopes.{body_at, body_inside}
use Rattle.expansion.proofs.needs.needed_args.Goals as goal

pub visit-requires-clause-inside : goal.visit-requires-clause-inside
visit-requires-clause-inside c =
    let m = c.args.meanings.now in
    let k : ℕ = c.loop-body.body-index in
    let none : Body = record { args = 0; expr = 0 } in
    let b = slice_index_or c.as_slice-body-items.result.now k none in
    let at : IsAt m.bodies k b = subst (λ bs. IsAt bs k b) c.as_slice-body-items.ensures
    (body_at c.as_slice-body-items.result.now k none c.loop-body-test.true) in
    body_inside c.args.program.now m c.requires k b at
