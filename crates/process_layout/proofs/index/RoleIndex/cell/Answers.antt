use Rattle.std.proofs.Common.{◌≡◌, ◌∙◌, sym, subst}
use Rattle.std.specs.BTreeMap.{get}
use Rattle.process_layout.specs.Index.{IsCellFor, pair_cmp, triple_cmp}
use Rattle.process_layout.proofs.index.RoleIndex.cell.Goals as goal

pub returns-in-Placed : goal.returns-in-Placed
returns-in-Placed c = λ all index.
    let there = index.places c.in-Placed.process c.in-Placed.place in
    let found : get pair_cmp c.args.self.now.places (c.in-Placed.process, c.in-Placed.place) ≡
    c.copied-in-Placed.result =
    sym (c.copied-in-Placed.ensures ∙ c.get-in-Placed.ensures.value) in
    subst (λ s. IsCellFor all s c.copied-in-Placed.result) (sym c.in-Placed.is)
    (subst (IsCellFor all _) found there)

pub returns-in-Stacked : goal.returns-in-Stacked
returns-in-Stacked c = λ all index.
    let there = index.entries c.in-Stacked.process c.in-Stacked.level c.in-Stacked.place in
    let found : get triple_cmp c.args.self.now.entries (c.in-Stacked.process, c.in-Stacked.level, c.in-Stacked.place)
    ≡ c.copied-in-Stacked.result =
    sym (c.copied-in-Stacked.ensures ∙ c.get-in-Stacked.ensures.value) in
    subst (λ s. IsCellFor all s c.copied-in-Stacked.result) (sym c.in-Stacked.is)
    (subst (IsCellFor all _) found there)
