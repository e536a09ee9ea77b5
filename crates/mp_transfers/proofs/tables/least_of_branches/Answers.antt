use Rattle.std.proofs.Common.{◌≡◌, ◌⊎◌, inl, inr, ◌<◌, ℕ, List, Some, length, arith, sym, subst}
use Rattle.std.specs.Prelude.{All}
use Rattle.std.specs.List.{flat_map}
use Rattle.mp_program.specs.declared.program.Branch.{Branch}
use Rattle.mp_rules.specs.Breaking.{IsEarliest}
use Rattle.mp_base.proofs.Entries.{entry}
use Rattle.mp_transfers.specs.Tables.{IsAmong}
use Rattle.mp_transfers.proofs.Earliest.{upto_then, upto_all, InAny}
use Rattle.mp_rules.proofs.EarliestPlaces.{earliest_same}
use Rattle.mp_transfers.proofs.Lists.{all_flat, flat_in, flat_out}
use Rattle.mp_transfers.proofs.tables.least_of_branches.Goals as goal

pub least-found-requires : goal.least-found-requires
least-found-requires c =
    let P : List ℕ → Type 0 = All (λ f. f < length c.args.table.now) in
    subst P (sym c.as_slice.ensures)
    (all_flat (λ f. f < length c.args.table.now)
    (λ (b : Branch). b.body) c.args.branches.now c.loop-branch.branch-index c.branch-item.result c.requires
    (entry c.args.branches.now c.loop-branch.branch-index (omega arith) c.branch-item.is))

pub loop-branch-preserved : goal.loop-branch-preserved
loop-branch-preserved c =
    let P : List ℕ
    → Type 0 = λ xs. IsEarliest
    (λ at. (c.loop-branch.found ≡ Some at) ⊎ IsAmong c.args.table.now xs at) c.least-found.result in
    upto_then c.loop-branch.invariant c.branch-item.result
    (entry c.args.branches.now c.loop-branch.branch-index (omega arith) c.branch-item.is) c.least-found.result
    (subst P c.as_slice.ensures c.least-found.ensures)

pub returns : goal.returns
returns c =
    earliest_same (λ at. ⊥ ⊎ InAny c.args.branches.now (λ k (b : Branch) at. IsAmong c.args.table.now b.body at) at)
    (IsAmong c.args.table.now (flat_map (λ (b : Branch). b.body) c.args.branches.now))
    c.loop-branch.found (upto_all c.loop-branch.invariant (omega arith))
    (λ at there. elim there [
      | inl e ↦ absurd e
      | inr (k, b, is, (f, in_b, e)) ↦ (f, flat_out (λ (x : Branch). x.body) c.args.branches.now k b f is in_b, e)
    ])
    (λ at (f, in_any, e). let (k, b, is, in_b) = flat_in (λ (x : Branch). x.body) c.args.branches.now f in_any in
    inr (k, b, is, (f, in_b, e)))
