use Rattle.std.proofs.Common.{◌≡◌, ◌⊎◌, inl, inr, ◌<◌, ℕ, List, Some, length, map, arith, sym, subst}
use Rattle.std.specs.Prelude.{All}
use Rattle.mp_program.specs.declared.program.Branch.{Branch}
use Rattle.mp_base.proofs.Entries.{entry, map_get, get_map, contains_from_get, get_from_contains}
use Rattle.mp_rules.specs.Breaking.{IsEarliest}
use Rattle.mp_transfers.specs.Tables.{IsBehind, IsBehindInOne}
use Rattle.mp_transfers.proofs.Earliest.{upto_then, upto_all, InAny}
use Rattle.mp_rules.proofs.EarliestPlaces.{earliest_same}
use Rattle.mp_transfers.proofs.Lists.{all_flat}
use Rattle.mp_transfers.proofs.transfers.behind_in_branches.Goals as goal

pub behind_first-found-requires : goal.behind_first-found-requires
behind_first-found-requires c =
    let P : List ℕ → Type 0 = All (λ f. f < length c.args.table.now) in
    subst P (sym c.as_slice.ensures)
    (all_flat (λ f. f < length c.args.table.now)
    (λ (b : Branch). b.body) c.args.branches.now c.loop-branch.branch-index c.branch-item.result c.requires
    (entry c.args.branches.now c.loop-branch.branch-index (omega arith) c.branch-item.is))

pub loop-branch-preserved : goal.loop-branch-preserved
loop-branch-preserved c =
    let P : List ℕ
    → Type 0 = λ xs. IsEarliest
    (λ at. (c.loop-branch.found ≡ Some at) ⊎ IsBehind c.args.table.now xs at) c.behind_first-found.result in
    upto_then c.loop-branch.invariant c.branch-item.result
    (entry c.args.branches.now c.loop-branch.branch-index (omega arith) c.branch-item.is) c.behind_first-found.result
    (subst P c.as_slice.ensures c.behind_first-found.ensures)

pub returns : goal.returns
returns c =
    earliest_same
    (λ at. (c.args.found ≡ Some at)
    ⊎ InAny c.args.branches.now (λ k (b : Branch) at. IsBehind c.args.table.now b.body at) at)
    (λ at. (c.args.found ≡ Some at)
    ⊎ IsBehindInOne c.args.table.now (map (λ (b : Branch). b.body) c.args.branches.now) at)
    c.loop-branch.found (upto_all c.loop-branch.invariant (omega arith))
    (λ at there. elim there [
      | inl e ↦ inl e
      | inr (k, b, is, behind) ↦ (
          let there = map_get (λ (x : Branch). x.body) c.args.branches.now k b is in
          inr (b.body, contains_from_get bodies k b.body there, behind))
    ])
    (λ at there. elim there [
      | inl e ↦ inl e
      | inr (forms, in_any, behind) ↦ (
          let (k, there) = get_from_contains bodies forms in_any in
          let (b, is, same) = get_map (λ (x : Branch). x.body) c.args.branches.now k forms there in
          let P : List ℕ → Type 0 = λ xs. IsBehind c.args.table.now xs at in
          inr (k, b, is, subst P (sym same) behind))
    ])
  where
    bodies : List (List ℕ)
    bodies = map (λ (x : Branch). x.body) c.args.branches.now
