use Rattle.std.proofs.Common.{◌≡◌, ◌∙◌, ◌++◌, ap, arith, length, map, sym}
use Rattle.std.proofs.lemmas.Bool.{eqb-true}
use Rattle.std.proofs.lemmas.List.{append-nil}
use Rattle.process_plan.specs.declared.role.Role.TheVariants.{Stacked}
use Rattle.process_layout.specs.Laying.{entry_roles}
use Rattle.process_layout.proofs.Growth.{level_more, nothing_laid, then_laid}
use Rattle.process_layout.proofs.places.lay_stack.Goals as goal

pub returns-then-is_empty-clause-roles : goal.returns-then-is_empty-clause-roles
returns-then-is_empty-clause-roles c =
    nothing_laid c.args.before.roles c.args.process c.args.depth c.args.places.now
    (eqb-true (length c.args.places.now) 0 (sym c.is_empty.ensures ∙ c.if-is_empty.true))

pub loop-level-init : goal.loop-level-init
loop-level-init c = record {
  roles = sym (append-nil c.args.before.roles);
  cells = λ ds held. held;
}

pub loop-level-preserved : goal.loop-level-preserved
loop-level-preserved c =
    let k = c.args.process in
    let l = c.loop-level.level in
    let js = c.args.places.now in
    let before = c.args.before in
    record {
      roles =
          then_laid before.roles (entry_roles k js l) c.loop-level.laid.roles c.in_ok-laid.laid.roles (map (Stacked k
          l) js)
          c.loop-level.invariant.roles c.in_ok-laid.ensures.roles
          ∙ ap (λ rs. before.roles ++ rs) (sym (level_more k js l));
      cells = λ ds held. c.in_ok-laid.ensures.cells ds (c.loop-level.invariant.cells ds held);
    }

pub returns-clause-roles : goal.returns-clause-roles
returns-clause-roles c =
    let size = c.in-Ok.ensures.1 in
    let end : c.loop-level.level ≡ c.args.depth = omega (arith, size) in
    c.loop-level.invariant.roles
    ∙ ap (λ n. c.args.before.roles ++ entry_roles c.args.process c.args.places.now n) end

pub returns-clause-cells : goal.returns-clause-cells
returns-clause-cells c = c.loop-level.invariant.cells
