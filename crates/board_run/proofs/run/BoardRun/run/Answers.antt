use Rattle.std.proofs.Common.{◌<◌, List, length, map, sym, subst}
use Rattle.std.specs.Prelude.{All}
use Rattle.board.specs.declared.link.Link.{Link}
use Rattle.board.specs.Loop.{Exchange}
use Rattle.board_run.specs.Standing.{Standing, IsReady}
use Rattle.board_run.specs.Swaps.{AreTimely}
use Rattle.board_run.proofs.Boards.{printed_as}
use Rattle.board_run.proofs.run.BoardRun.run.Goals as goal

pub run_clocks-requires-clause-ready : goal.run_clocks-requires-clause-ready
run_clocks-requires-clause-ready g c =
    subst (IsReady c.self.inside.circuit c.self.inside.board) (sym c.deref.ensures.value) c.self.invariant

pub run_clocks-requires-clause-parts : goal.run_clocks-requires-clause-parts
run_clocks-requires-clause-parts g c =
    subst (λ (s : Standing). All (λ (l : Link). l.part < length c.args.parts.now.items) (s.wired).links)
    (sym c.self.view_is) c.requires.parts

pub run_clocks-requires-clause-timely : goal.run_clocks-requires-clause-timely
run_clocks-requires-clause-timely g c =
    let swaps : List Exchange = map (λ s. let e : Exchange = record {
      clock = s.clock;
      link = s.link;
      fresh = record {
        state = (g.dyn-1.0.entry s.fresh.vtable).1.state s.fresh.value;
        drives = (g.dyn-1.0.entry s.fresh.vtable).1.driven_in;
        sees = (g.dyn-1.0.entry s.fresh.vtable).1.after_seeing;
      };
    } in e) c.args.swaps.items in
    subst (λ (s : Standing). AreTimely (s.wired).links c.args.clocks swaps) (sym c.self.view_is) c.requires.timely

pub returns-clause-names : goal.returns-clause-names
returns-clause-names g c = c.run_clocks.ensures.names

pub returns-clause-printed : goal.returns-clause-printed
returns-clause-printed g c =
    let swaps : List Exchange = map (λ s. let e : Exchange = record {
      clock = s.clock;
      link = s.link;
      fresh = record {
        state = (g.dyn-1.0.entry s.fresh.vtable).1.state s.fresh.value;
        drives = (g.dyn-1.0.entry s.fresh.vtable).1.driven_in;
        sees = (g.dyn-1.0.entry s.fresh.vtable).1.after_seeing;
      };
    } in e) c.args.swaps.items in
    let standing : Standing =
    record { network = c.self.inside.circuit.network; wired = c.self.inside.board.wired } in
    printed_as swaps standing _ c.args.clocks _ _ (g.O.Sink.held c.args.out.now)
    (g.O.Sink.held c.run_clocks.new.out) c.run_clocks.result c.self.view_is c.run_clocks.ensures.printed

pub returns-clause-cause : goal.returns-clause-cause
returns-clause-cause g c = c.run_clocks.ensures.cause
