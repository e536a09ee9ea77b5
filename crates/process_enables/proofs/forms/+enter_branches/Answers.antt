use Rattle.std.proofs.Common.{rules, ℕ, arith, subst}
use Rattle.std.proofs.lemmas.Result.{on_ok_weaker}
use Rattle.process_plan.specs.declared.enable.Enable.{Enable}
use Rattle.process_enables.specs.Forms.{Narrows}
use Rattle.process_enables.proofs.Branching.{first_in, other_in, branches_one, branches_more}
use Rattle.process_enables.proofs.forms.+enter_branches.Goals as goal

pub enter_branch-requires-clause-inside : goal.enter_branch-requires-clause-inside
enter_branch-requires-clause-inside t c = λ f cf. c.requires.inside c.last-item.result f
    (first_in c.args.branches.now c.last-item.result (omega (arith, c.in-len1.len_at_least)) c.last-item.is) cf

pub enter_branch-requires-clause-guard : goal.enter_branch-requires-clause-guard
enter_branch-requires-clause-guard t c = c.requires.guards c.last-item.result
    (first_in c.args.branches.now c.last-item.result (omega (arith, c.in-len1.len_at_least)) c.last-item.is)

pub enter_branch-requires-in-len1-up-clause-inside : goal.enter_branch-requires-in-len1-up-clause-inside
enter_branch-requires-in-len1-up-clause-inside t c = λ f cf. c.requires.inside c.first-item.result f
    (first_in c.args.branches.now c.first-item.result (omega (arith, c.in-len1-up.len_at_least)) c.first-item.is) cf

pub enter_branch-requires-in-len1-up-clause-guard : goal.enter_branch-requires-in-len1-up-clause-guard
enter_branch-requires-in-len1-up-clause-guard t c = c.requires.guards c.first-item.result
    (first_in c.args.branches.now c.first-item.result (omega (arith, c.in-len1-up.len_at_least)) c.first-item.is)

pub enter_branches-requires : goal.enter_branches-requires
enter_branches-requires t c =
    let bs = c.args.branches.now in
    let size = c.in_ok-guard-in-len1-up.ensures.entered.grown.kept.size in (
      search rules,
      (
        λ b f cb cf. let inside = c.requires.inside b f (other_in bs b cb) cf in omega (arith, inside, size),
        λ b cb. c.requires.guards b (other_in bs b cb),
      ),
    )

pub returns-in_ok-enter_branch-in-len1 : goal.returns-in_ok-enter_branch-in-len1
returns-in_ok-enter_branch-in-len1 t c =
    branches_one c.args.program.now c.args.enable c.args.branches.now c.last-item.result c.args.exprs.now
    c.enter_branch.new.exprs c.args.enables.now c.enter_branch.new.enables (omega (arith, c.in-len1.len_at_least))
    c.in-len1.len_below c.last-item.is c.in_ok-enter_branch-in-len1.ensures.entered

pub returns-in_ok-expr-in-len1-up : goal.returns-in_ok-expr-in-len1-up
returns-in_ok-expr-in-len1-up t c =
    let p = c.args.program.now in
    let x = c.args.enable in
    let bs = c.args.branches.now in
    let b = c.first-item.result in
    let m : ℕ = c.in_ok-expr-in-len1-up.expr in
    let e1 = c.enter_branch-in-len1-up.new.exprs in
    let e2 = c.narrow.new.exprs in
    let e3 = c.enter_branches.new.exprs in
    let mid = c.enter_branch-in-len1-up.new.enables in
    let new = c.enter_branches.new.enables in
    let y : Enable = record { origin = x.origin; expr = m } in
    let N : ℕ → Type 0 = λ g. Narrows x.expr g e1 e2 m in
    on_ok_weaker
    c.enter_branches.result
    (λ later. branches_more p x bs b m c.args.exprs.now e1 e2 e3 c.args.enables.now mid new
    c.in-len1-up.len_at_least c.first-item.is c.in_ok-guard-in-len1-up.ensures.entered
    (subst N c.in_ok-guard-in-len1-up.ensures.guard c.in_ok-expr-in-len1-up.ensures) later)
    c.enter_branches.ensures
