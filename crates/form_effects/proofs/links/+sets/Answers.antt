use Rattle.std.proofs.Common.{sym, ◌∙◌, ap}
use Rattle.std.specs.List.{list_any}
use Rattle.mp_program.specs.Names.{is_same}
use Rattle.mp_program.specs.Reads.{sets, kind_sets, branches_set}
use Rattle.mp_base.proofs.Entries.{entry}
use Rattle.form_effects.proofs.links.+sets.Goals as goal

pub sets-returns-in-Set : goal.sets-returns-in-Set
sets-returns-in-Set t c =
    let p = c.args.program.now in
    let n = c.args.name.now in
    c.eq.ensures ∙ ap (λ y. is_same y n) c.bytes.ensures
    ∙ sym (c.sets.ensures n c.args.form c.at-found.result.now
    (entry c.args.program.now.forms c.args.form c.requires c.at-found.ensures)
    ∙ ap (λ k. kind_sets n k (sets p n)) c.in-Set.is)

pub sets-returns-in-Cond : goal.sets-returns-in-Cond
sets-returns-in-Cond t c =
    let p = c.args.program.now in
    let n = c.args.name.now in
    c.sets_in.ensures ∙ ap (λ bs. branches_set bs (sets p n)) c.as_slice.ensures
    ∙ sym (c.sets.ensures n c.args.form c.at-found.result.now
    (entry c.args.program.now.forms c.args.form c.requires c.at-found.ensures)
    ∙ ap (λ k. kind_sets n k (sets p n)) c.in-Cond.is)

pub sets-returns-in-Par : goal.sets-returns-in-Par
sets-returns-in-Par t c =
    let p = c.args.program.now in
    let n = c.args.name.now in
    c.sets_one.ensures ∙ ap (list_any (sets p n)) c.as_slice-in-Par.ensures
    ∙ sym (c.sets.ensures n c.args.form c.at-found.result.now
    (entry c.args.program.now.forms c.args.form c.requires c.at-found.ensures)
    ∙ ap (λ k. kind_sets n k (sets p n)) c.in-Par.is)

pub sets-returns-in-Go : goal.sets-returns-in-Go
sets-returns-in-Go t c =
    let n = c.args.name.now in
    sym (c.sets.ensures n c.args.form c.at-found.result.now
    (entry c.args.program.now.forms c.args.form c.requires c.at-found.ensures)
    ∙ ap (λ k. kind_sets n k (sets c.args.program.now n)) c.in-Go.is)

pub sets-returns-in-Call : goal.sets-returns-in-Call
sets-returns-in-Call t c =
    let n = c.args.name.now in
    sym (c.sets.ensures n c.args.form c.at-found.result.now
    (entry c.args.program.now.forms c.args.form c.requires c.at-found.ensures)
    ∙ ap (λ k. kind_sets n k (sets c.args.program.now n)) c.in-Call.is)

pub sets-returns-in-Return : goal.sets-returns-in-Return
sets-returns-in-Return t c =
    let n = c.args.name.now in
    sym (c.sets.ensures n c.args.form c.at-found.result.now
    (entry c.args.program.now.forms c.args.form c.requires c.at-found.ensures)
    ∙ ap (λ k. kind_sets n k (sets c.args.program.now n)) c.in-Return.is)
