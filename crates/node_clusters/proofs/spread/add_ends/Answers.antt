use Rattle.std.proofs.Common.{◌∙◌, ◌+◌, ℕ, List, take, get_or, sym, ap, subst, arith}
use Rattle.std.proofs.lemmas.List.{get_or_default}
use Rattle.switch_net.specs.Values.{driver_at}
use Rattle.node_set.specs.Nodes.{Nodes}
use Rattle.node_clusters.specs.Spread.{AddsEnds}
use Rattle.node_clusters.proofs.Listing.{none_from, not_none_from}
use Rattle.node_clusters.proofs.Adding.{adds_ends_more, adds_ends_skip}
use Rattle.node_clusters.proofs.spread.add_ends.Goals as goal
use Rattle.node_clusters.proofs.spread.add_ends.Goals.{then-is_none+then-not-contains, else-is_none}
use Rattle.node_clusters.proofs.spread.add_ends.Goals.{else-is_none-via-then-is_none+else-not-contains}
use Rattle.node_clusters.proofs.spread.add_ends.Goals.{else-is_none-via-else-is_none}

pub loop-end-preserved : goal.loop-end-preserved
loop-end-preserved c =
    let ends = c.args.ends.now in
    let i = c.loop-end.end-index in
    let e = get_or ends i 0 in
    let driver = driver_at c.args.drive.now in
    let old = c.args.set.now in
    let mid = c.loop-end.set in
    let h = c.loop-end.invariant in
    let is = get_or_default ends i 0 e (omega arith) in
    elim c.if-is_none.branch [
      | then-is_none+then-not-contains w ↦ (
        ap (λ (x : Nodes). x.room) w.set-is ∙ w.insert.ensures.room ∙ h.0,
        subst (λ (xs : List ℕ). AddsEnds driver (take (i + 1) ends) old.members xs)
            (sym (ap (λ (x : Nodes). x.members) w.set-is ∙ w.insert.ensures.members))
            (adds_ends_more driver ends i e old.members mid.members (omega arith) is
            (none_from (driver e) c.is_none.result c.is_none.ensures w.if-is_none.true) h.1),
      )
      | else-is_none w ↦ (
        ap (λ (x : Nodes). x.room) w.set-is ∙ h.0,
        subst (λ (xs : List ℕ). AddsEnds driver (take (i + 1) ends) old.members xs)
            (sym (ap (λ (x : Nodes). x.members) w.set-is))
            (adds_ends_skip driver ends i e old.members mid.members (omega arith) is
            (elim w.else-is_none.branch [
              | else-is_none-via-then-is_none+else-not-contains w' ↦ λ _. w'.contains.ensures.0 w'.if-not-contains.false
              | else-is_none-via-else-is_none w' ↦
                  λ d. absurd (not_none_from (driver e) c.is_none.result c.is_none.ensures w'.if-is_none.false d)
            ])
            h.1),
      )
    ]
