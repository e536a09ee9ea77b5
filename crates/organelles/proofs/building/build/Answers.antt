use Rattle.std.proofs.Common.{◌<◌, ◌-◌, Ok, Err, Result, length, get_or, sym, subst, arith}
use Rattle.std.specs.Prelude.{All, IfOk}
use Rattle.mp_base.specs.declared.refusal.NoMemory.{NoMemory}
use Rattle.nor_net.specs.declared.net.NetId.{NetId}
use Rattle.organelles.specs.declared.slices.Organelle.{Organelle}
use Rattle.organelles.specs.declared.slices.Ports.{Ports}
use Rattle.organelles.specs.declared.slices.SliceNet.{SliceNet}
use Rattle.organelles.specs.Computing.{ChainIn, Computes, IsBuilt, with_table}
use Rattle.organelles.specs.Tables.{net_at, table_of}
use Rattle.organelles.proofs.Operators.{operators_compute}
use Rattle.organelles.proofs.building.build.Goals as goal

computes : (op : Organelle) (a b : NetId) (s t : SliceNet) (r : Result Ports NoMemory) → a.0 < length s.net
    → b.0 < length s.net → All (ChainIn (length s.net)) s.chains
    → IfOk r (IsBuilt op a b s t)
    → IfOk r (λ p. Computes op a b t (length s.net) p.result)
computes op a b s t (Err e) a_in b_in chains_in h = h
computes op a b s t (Ok p) a_in b_in chains_in h =
    subst (λ x. Computes op a b x (length s.net) p.result) (sym h.slices)
    (subst (Computes op a b (with_table (table_of op) a b s) (length s.net)) (sym h.result)
    (operators_compute op a b s a_in b_in chains_in))

pub returns-clause-computes : goal.returns-clause-computes
returns-clause-computes c =
    computes c.args.op (get_or c.args.operands.now 0 (net_at 0))
    (get_or c.args.operands.now (length c.args.operands.now - 1) (net_at 0)) c.args.slices.now
    c.add_operator.new.slices
    c.add_operator.result (c.requires.operands 0 (net_at 0) c.requires.some)
    (c.requires.operands (length c.args.operands.now - 1) (net_at 0) (omega (arith, c.requires.some)))
    c.requires.chains c.add_operator.ensures
