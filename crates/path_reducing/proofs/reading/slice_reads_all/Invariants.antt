use Rattle.std.proofs.Common.{◌≡◌, true}
use Rattle.std.specs.List.{AllWithin}
use Rattle.path_reducing.specs.Reduced.{slice_reads}
use Rattle.path_reducing.proofs.reading.slice_reads_all.Given as goal

abbrev pub invariant-loop-id : goal.invariant-loop-id
invariant-loop-id l = AllWithin (λ id. slice_reads l.path id ≡ true) l.ids 0 l.id-index
