use Rattle.std.proofs.Common.{◌≡◌, ℕ, length, take}
use Rattle.path_form.specs.Shape.{chain_to}
use Rattle.path_sources.specs.Sources.{chain_source, or_source, source_at, told}
use Rattle.path_sources.proofs.sources.tell_chains.Given as goal

abbrev pub invariant-loop-chain : goal.invariant-loop-chain
invariant-loop-chain l = record {
  size : length l.sources ≡ length l.initial.sources;
  told : (n : ℕ) → source_at l.sources n
      ≡ or_source (source_at l.initial.sources n) (told chain_to chain_source n (take l.chain-index l.chains));
}
