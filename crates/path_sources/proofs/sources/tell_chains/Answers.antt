use Rattle.std.proofs.Common.{cond, eqb, get_or, ◌∙◌, ap}
use Rattle.nor_net.specs.declared.net.NetId.{NetId}
use Rattle.organelles.specs.declared.slices.Chain.{Chain}
use Rattle.organelles.specs.declared.slices.Chain.TheVariants.{Up}
use Rattle.path_form.specs.Shape.{chain_to}
use Rattle.path_sources.specs.declared.sources.Source.{Source}
use Rattle.path_sources.specs.declared.sources.Source.TheVariants.{Pad}
use Rattle.path_sources.specs.Sources.{chain_source, or_source, source_at}
use Rattle.path_sources.proofs.Telling.{told_more}
use Rattle.path_sources.proofs.sources.tell_chains.Goals as goal

pub loop-chain-preserved : goal.loop-chain-preserved
loop-chain-preserved c =
    let d : Chain = Up (record { 0 = 0 }) (record { 0 = 0 }) in
    let i = c.loop-chain.chain-index in
    let e = c.end_of-source.ensures in
    record {
      size = c.tell.ensures.size ∙ c.loop-chain.invariant.size;
      told = λ n. told_more chain_to chain_source n c.args.chains.now i d
          (source_at c.args.sources.now n) (source_at c.loop-chain.sources n) (source_at c.tell.new.sources n)
          c.loop-chain-test.true (c.loop-chain.invariant.told n)
          (c.tell.ensures.told n
          ∙ ap (λ (t : NetId). or_source (source_at c.loop-chain.sources n)
          (cond (eqb t.0 n) c.end_of-source.result.1 Pad)) e.end
          ∙ ap (λ (s : Source). or_source (source_at c.loop-chain.sources n)
          (cond (eqb (chain_to (get_or c.args.chains.now i d)).0 n) s Pad)) e.source);
    }
