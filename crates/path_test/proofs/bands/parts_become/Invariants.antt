use Rattle.std.proofs.Common.{◌≡◌, ◌<◌, ℕ, Some, true, eqb}
use Rattle.std.specs.Prelude.{slice_get}
use Rattle.nor_net.specs.declared.net.Part.{Part}
use Rattle.path_sources.specs.Sources.{source_of}
use Rattle.path_reduce.specs.Tables.{becomes_at, table_of}
use Rattle.path_test.specs.Becoming.{PartBecomes, is_source}
use Rattle.path_test.proofs.bands.parts_become.Given as goal

abbrev pub invariant-loop-id : goal.invariant-loop-id
invariant-loop-id l = record {
  sourced : (n : ℕ) → n < l.id → is_source l.width (eqb l.band 0) (source_of l.own_sources l.band n) ≡ true;
  each : (n : ℕ) → n < l.id → (part : Part) → slice_get l.own n ≡ Some part
      → PartBecomes l.images (table_of l.images l.band) l.net (source_of l.sources l.band)
      (source_of l.own_sources l.band n) part (becomes_at (table_of l.images l.band) n);
}
