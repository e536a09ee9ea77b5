use Rattle.std.proofs.Common.{◌≡◌, ℕ, Some, true, eqb, sym, ◌∙◌, ap, subst}
use Rattle.std.specs.Prelude.{IfSome, slice_get}
use borrow.Author.Count.{below_more}
use Rattle.nor_net.specs.declared.net.Part.{Part}
use Rattle.path_sources.specs.declared.sources.Source.{Source}
use Rattle.path_sources.specs.Sources.{source_of}
use Rattle.path_reduce.specs.Tables.{becomes_at, table_of}
use Rattle.path_test.specs.Becoming.{PartBecomes, is_source}
use Rattle.path_test.proofs.bands.parts_become.Goals as goal

pub loop-id-preserved : goal.loop-id-preserved
loop-id-preserved c =
    let t = c.args.images.now in
    let table = table_of t c.args.band in
    let own = c.args.own.now in
    let parts = c.args.net.now in
    let id = c.loop-id.id in
    let ss : ℕ → Source = source_of c.args.sources.now c.args.band in
    let os : ℕ → Source = source_of c.args.own_sources.now c.args.band in
    record {
      sourced = below_more (λ n. is_source c.args.width (eqb c.args.band 0) (os n) ≡ true) id
          c.loop-id.invariant.sourced
          (ap (is_source c.args.width (eqb c.args.band 0)) (sym c.source-source.ensures)
          ∙ sym c.is_source.ensures ∙ c.if-not-is_source.false);
      each = below_more (λ n. (part : Part) → slice_get own n ≡ Some part
          → PartBecomes t table parts ss (os n) part (becomes_at table n)) id c.loop-id.invariant.each
          (λ part at. subst (λ s. PartBecomes t table parts ss s part (becomes_at table id)) c.source-source.ensures
          (subst (λ o. IfSome o (λ part. PartBecomes t table parts ss c.source-source.result part
          (becomes_at table id))) at (c.net_becomes.ensures c.if-not-net_becomes.false)));
    }
