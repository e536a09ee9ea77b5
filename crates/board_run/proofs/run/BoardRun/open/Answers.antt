use Rattle.std.proofs.Common.{◌∙◌, sym, ap, subst}
use Rattle.switch_net.specs.declared.network.Network.{Network}
use Rattle.switch_net.specs.Breaks.{HasPads}
use Rattle.mask_net.specs.SizeLine.{size_text}
use Rattle.board_run.proofs.Boards.{same_wired}
use Rattle.board_run.proofs.run.BoardRun.open.Goals as goal

pub invariant_of-result : goal.invariant_of-result
invariant_of-result c =
    let told = c.in_ok-circuit.ensures in
    let P : Network → Type 0 = λ n. HasPads n c.in_ok-circuit.circuit.pads in
    record {
      unknown = told.unknown;
      pads = told.pads ∙ sym c.in_ok-board.ensures.pads;
      has_pads = subst P (sym told.network) (subst (HasPads c.args.network) (sym told.pads) c.requires.has_pads);
      unrun = c.in_ok-board.ensures.done;
      sized = c.in_ok-size.ensures ∙ ap size_text (sym told.network);
    }

pub returns-clause-network : goal.returns-clause-network
returns-clause-network c = c.in_ok-circuit.ensures.network

pub returns-clause-wired : goal.returns-clause-wired
returns-clause-wired c =
    same_wired c.in_ok-board.board.wired c.args.pads.now c.args.links c.args.stores c.in_ok-board.ensures.pads
    c.in_ok-board.ensures.links c.in_ok-board.ensures.stores
