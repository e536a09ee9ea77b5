use Rattle.std.proofs.Common.{◌-◌, List, Option, get_or, length, ap, subst, arith}
use Rattle.nor_net.specs.declared.net.NetId.{NetId}
use Rattle.control_nor.specs.Lowering.{Stands}
use Rattle.organelles.specs.declared.slices.SliceNet.{SliceNet}
use Rattle.datapath_making.proofs.Tables.{some_taken}
use Rattle.datapath_making.proofs.Lists.{one_stands}
use Rattle.datapath_steps.proofs.operators.add_organelle.Goals as goal

pub returns : goal.returns
returns c =
    let a = c.net_of-first.result in
    let b = c.net_of-last.result in
    let is_a = subst (λ (ws : List (Option NetId)). Stands ws (get_or c.args.args.now 0 0) a) c.as_slice.ensures
    c.net_of-first.ensures in
    let r = c.requires.args 0 0 (some_taken c.args.op (length c.args.args.now) c.requires.takes) in
    let same = one_stands c.args.making.now.words (get_or c.args.args.now 0 0) r.0 a r.1 is_a in
    record {
      kind = c.organelle_of.result;
      is_kind = c.organelle_of.ensures;
      a = a;
      b = b;
      is_a = is_a;
      is_b = subst (λ (ws : List (Option NetId)). Stands ws
          (get_or c.args.args.now (length c.args.args.now - 1) 0) b) c.as_slice-2.ensures c.net_of-last.ensures;
      reached = let l = r.2 in let e = ap (λ (i : NetId). i.0) same in omega (arith, l, e);
      added = ap (λ (s : SliceNet). record c.args.making.now { slices = s }) c.in_ok-ports.ensures.built.slices;
      is_result = c.in_ok-ports.ensures.built.result;
    }
