use Rattle.std.proofs.Common.{rules, leb}
use Rattle.std.proofs.lemmas.List.Sorted.{IsPartitionPoint-from_clause, IsPartitionedBy-leb}
use Rattle.fabric.specs.declared.places.Entry.{Entry}
use Rattle.fabric.proofs.Entries.{some_come, is_last}
use Rattle.fabric.proofs.places.last_up_to.Goals as goal

pub overflow_sub-result : goal.overflow_sub-result
overflow_sub-result c =
    let point = IsPartitionPoint-from_clause (λ (e : Entry). leb e.key c.args.key) c.args.entries.now _
    c.partition_point-after.ensures.partitioned
    (IsPartitionedBy-leb (λ (e : Entry). e.key) c.args.entries.now c.args.key c.requires.sorted)
    (λ a r called k. search rules) in
    some_come c.args.entries.now c.args.key c.partition_point-after.result c.requires.sorted
    c.partition_point-after.ensures.bound point c.requires.some

pub returns : goal.returns
returns c =
    let point = IsPartitionPoint-from_clause (λ (e : Entry). leb e.key c.args.key) c.args.entries.now _
    c.partition_point-after.ensures.partitioned
    (IsPartitionedBy-leb (λ (e : Entry). e.key) c.args.entries.now c.args.key c.requires.sorted)
    (λ a r called k. search rules) in
    is_last c.args.entries.now c.args.key c.partition_point-after.result c.requires.sorted
    c.partition_point-after.ensures.bound point c.requires.some _
