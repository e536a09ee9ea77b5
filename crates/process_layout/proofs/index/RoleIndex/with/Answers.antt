use Rattle.std.proofs.Common.{◌∙◌, ap}
use Rattle.std.specs.BTreeMap.{get}
use Rattle.std.specs.Ordering.{nat_cmp}
use Rattle.process_layout.specs.Index.{pair_cmp, triple_cmp}
use Rattle.process_layout.proofs.Indexing.{more_values, more_places, more_entries}
use Rattle.process_layout.proofs.index.RoleIndex.with.Goals.{
  in-Value+in_ok-insert-in-Value,
  in-Placed+in_ok-insert-in-Placed,
  in-Stacked+in_ok-insert-in-Stacked,
}
use Rattle.process_layout.proofs.index.RoleIndex.with.Goals as goal

pub returns : goal.returns
returns c = λ all index size.
    let now = c.match-role in
    elim now.branch [
      | in-Value+in_ok-insert-in-Value w ↦
          more_values all c.args.self index c.args.role c.args.cell size now.values now.places now.entries
          w.in-Value.definition w.in-Value.is
          (λ q. ap (λ m. get nat_cmp m q) w.values-is ∙ (w.in_ok-insert-in-Value.ensures.updates).0 q)
          w.places-is w.entries-is
      | in-Placed+in_ok-insert-in-Placed w ↦
          more_places all c.args.self index c.args.role c.args.cell size now.values now.places now.entries
          w.in-Placed.process w.in-Placed.place w.in-Placed.is
          (λ q. ap (λ m. get pair_cmp m q) w.places-is ∙ (w.in_ok-insert-in-Placed.ensures.updates).0 q)
          w.values-is w.entries-is
      | in-Stacked+in_ok-insert-in-Stacked w ↦
          more_entries all c.args.self index c.args.role c.args.cell size now.values now.places now.entries
          w.in-Stacked.process w.in-Stacked.level w.in-Stacked.place w.in-Stacked.is
          (λ q. ap (λ m. get triple_cmp m q) w.entries-is ∙ (w.in_ok-insert-in-Stacked.ensures.updates).0 q)
          w.values-is w.places-is
    ]
