use Rattle.std.proofs.Common.{◌≡◌, ◌++◌, map, take}
use Rattle.path_form.specs.Shape.{chain_to}
use Rattle.path_draft.proofs.ends.add_chains.Given as goal

abbrev pub invariant-loop-chain : goal.invariant-loop-chain
invariant-loop-chain l = l.ends ≡ l.initial.ends ++ map chain_to (take l.chain-index l.chains)
