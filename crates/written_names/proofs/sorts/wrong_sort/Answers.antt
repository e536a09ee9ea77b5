use Rattle.std.proofs.Common.{◌∙◌, List, Option, ap, sym, subst}
use Rattle.mp_rules.specs.Breaking.{IsEarliest, earlier_of}
use Rattle.written_names.specs.declared.sorts.Sort as coded
use Rattle.written_rules.specs.Rules.{E22}
use Rattle.written_names.specs.Sorting.{earliest_misfit}
use Rattle.written_names.proofs.BrokenNames.{earliest_wrong}
use Rattle.written_names.proofs.sorts.wrong_sort.Goals as goal

pub returns : goal.returns
returns c =
    let w = c.args.program.now in
    let t = c.args.names.now in
    let sorts = c.in_ok-sorts.sorts in
    let found = c.in_exprs-in_exprs.result in
    let misfit = c.earliest_misfit-misfit.ensures
    ∙ ap (λ (l : List (Option coded.Sort)). earliest_misfit w t l) c.as_slice.ensures in
    let misuse = c.earlier_of-misuse.ensures ∙ ap (earlier_of found) c.of_targets.ensures in
    subst (IsEarliest (E22 w))
    (sym (c.earlier_of.ensures ∙ ap (λ o. earlier_of o c.earlier_of-misuse.result) misfit
    ∙ ap (earlier_of (earliest_misfit w t sorts)) misuse))
    (earliest_wrong w t c.requires.names c.requires.apart sorts c.in_ok-sorts.ensures found c.in_exprs-in_exprs.ensures)
