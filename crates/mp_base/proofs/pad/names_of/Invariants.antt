use Rattle.std.proofs.Common.{◌≡◌, ◌++◌, map, take}
use Rattle.mp_base.proofs.pad.names_of.Given as goal

-- the names of the pads so far
abbrev pub invariant-loop-pad : goal.invariant-loop-pad
invariant-loop-pad l = map (λ name. name.now) l.names.items ≡ map (λ pad. pad.name) (take l.pad-index l.inputs)

abbrev pub invariant-loop-pad-2 : goal.invariant-loop-pad-2
invariant-loop-pad-2 l = map (λ name. name.now) l.names.items ≡ map (λ pad. pad.name) l.inputs
    ++ map (λ pad. pad.name) (take l.pad-index l.outputs)
