use Rattle.std.proofs.Common.{ℕ, List, subst, arith}
use Rattle.std.proofs.lemmas.Result.{on_ok_weaker}
use Rattle.mp_base.proofs.Entries.{entry}
use Rattle.mp_program.specs.declared.program.Branch.{Branch}
use Rattle.process_enables.specs.Forms.{Assigns, EntersBranches}
use Rattle.process_enables.proofs.Forming.{has_from, inner_cond, inner_par}
use Rattle.process_enables.proofs.forms.enable_inner.Goals as goal

pub returns-in-Cond : goal.returns-in-Cond
returns-in-Cond c =
    let p = c.args.program.now in
    let f : ℕ = c.args.form in
    let x = c.in-Some.enable in
    let y = c.at-2.result.now in
    let bs = c.in-Cond.branches in
    let exprs = c.args.exprs.now in
    let more = c.enter_branches.new.exprs in
    let old = c.args.enables.now in
    let new = c.enter_branches.new.enables in
    let form = c.requires.form in
    let size = c.requires.size in
    let has = has_from old f x c.at.result.now (omega (arith, form, size)) c.at.ensures c.in-Some.is in
    let P : List Branch → Type 0 = λ ys. EntersBranches p x ys exprs more old new in
    on_ok_weaker c.enter_branches.result
    (λ entered. inner_cond p f y bs x exprs more old new (entry p.forms f form c.at-2.ensures) c.in-Cond.is has
    (subst P c.as_slice-branches.ensures entered))
    c.enter_branches.ensures

pub returns-in-Par : goal.returns-in-Par
returns-in-Par c =
    let p = c.args.program.now in
    let f : ℕ = c.args.form in
    let x = c.in-Some.enable in
    let y = c.at-2.result.now in
    let fs = c.in-Par.forms in
    let exprs = c.args.exprs.now in
    let old = c.args.enables.now in
    let new = c.assign_all.new.enables in
    let form = c.requires.form in
    let size = c.requires.size in
    let has = has_from old f x c.at.result.now (omega (arith, form, size)) c.at.ensures c.in-Some.is in
    let P : List ℕ → Type 0 = λ gs. Assigns gs x old new in
    on_ok_weaker c.assign_all.result
    (λ assigned. inner_par p f y fs x exprs old new (entry p.forms f form c.at-2.ensures) c.in-Par.is has
    (subst P c.as_slice.ensures assigned))
    c.assign_all.ensures
