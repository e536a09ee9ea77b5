use Rattle.std.proofs.Common.{◌≡◌, ◌∙◌, ◌<◌, ◌++◌, ℕ, List, Bool, false, ap, arith, length, sym}
use Rattle.std.specs.Prelude.{slice_index_or}
use Rattle.std.proofs.lemmas.List.{append-nil}
use Rattle.mp_base.proofs.Entries.{entry}
use Rattle.process_layout.specs.Laying.{processes_roles}
use Rattle.process_layout.proofs.Growth.{process_next}
use Rattle.process_layout.proofs.places.lay_processes.Goals as goal

abbrev told : List Bool → ℕ → Bool
told calling f = slice_index_or calling f false

pub loop-index-init : goal.loop-index-init
loop-index-init c = record {
  roles = sym (append-nil c.args.before.roles);
  cells = λ ds held. held;
}

pub loop-index-preserved : goal.loop-index-preserved
loop-index-preserved c =
    let size = c.in-Ok.ensures.1 in
    let inside : c.loop-index.index < length c.args.processes.now = omega (arith, size) in
    record {
      roles =
          process_next (told c.args.calling.now) c.args.processes.now c.loop-index.index c.index-processes-index.result
          c.args.before.roles c.loop-index.laid.roles c.in_ok-laid.laid.roles
          (entry c.args.processes.now c.loop-index.index inside c.index-processes-index.is) c.loop-index.invariant.roles
          c.in_ok-laid.ensures.roles;
      cells = λ ds held. c.in_ok-laid.ensures.cells ds (c.loop-index.invariant.cells ds held);
    }

pub returns-clause-roles : goal.returns-clause-roles
returns-clause-roles c =
    let size = c.in-Ok.ensures.1 in
    let end : c.loop-index.index ≡ length c.args.processes.now = omega (arith, size) in
    c.loop-index.invariant.roles
    ∙ ap (λ n. c.args.before.roles ++ processes_roles (told c.args.calling.now) c.args.processes.now n) end

pub returns-clause-cells : goal.returns-clause-cells
returns-clause-cells c = c.loop-index.invariant.cells
