use Rattle.std.proofs.Common.{List, map}
use Rattle.std.proofs.lemmas.Result.{err_from_is_err_and}
use Rattle.board.specs.Loop.{Exchange}
use Rattle.replay_run.proofs.Causes.{cause_behind, cause_passed}
use Rattle.board_run.proofs.Boards.{cut_run, whole_run}
use Rattle.board_run.proofs.run.run_clocks.Goals as goal

pub run_swapped-requires-clause-pads : goal.run_swapped-requires-clause-pads
run_swapped-requires-clause-pads g c = c.requires.ready.pads

pub run_swapped-requires-clause-parts : goal.run_swapped-requires-clause-parts
run_swapped-requires-clause-parts g c = c.requires.parts

pub run_swapped-requires-clause-unrun : goal.run_swapped-requires-clause-unrun
run_swapped-requires-clause-unrun g c = c.requires.ready.unrun

pub run_swapped-requires-clause-timely : goal.run_swapped-requires-clause-timely
run_swapped-requires-clause-timely g c = c.requires.timely

pub returns-in_err-run_swapped-clause-names : goal.returns-in_err-run_swapped-clause-names
returns-in_err-run_swapped-clause-names g c = c.in_err-run_swapped.ensures.names

pub returns-in_err-run_swapped-clause-printed : goal.returns-in_err-run_swapped-clause-printed
returns-in_err-run_swapped-clause-printed g c =
    let swaps : List Exchange = map (λ s. let e : Exchange = record {
      clock = s.clock;
      link = s.link;
      fresh = record {
        state = (g.dyn-1.0.entry s.fresh.vtable).1.state s.fresh.value;
        drives = (g.dyn-1.0.entry s.fresh.vtable).1.driven_in;
        sees = (g.dyn-1.0.entry s.fresh.vtable).1.after_seeing;
      };
    } in e) c.args.swaps.items in
    let r = c.from_residual.result in
    let q = err_from_is_err_and r c.from_residual.ensures.1 in
    cut_run c.inputs_fit.ensures c.swapped_circuits_loop.ensures c.circuits_run.ensures.exist swaps c.args.circuit.now
    c.args.board.now c.args.size.now c.requires.ready _ c.args.clocks _ _ _ _ _ c.in_err-run_swapped.field-0.0 q.0 r
    q.1 c.in_err-run_swapped.ensures.printed

pub returns-in_err-run_swapped-clause-cause : goal.returns-in_err-run_swapped-clause-cause
returns-in_err-run_swapped-clause-cause g c =
    let r = c.from_residual.result in
    let q = err_from_is_err_and r c.from_residual.ensures.1 in
    cause_passed c.in_err-run_swapped.field-0.0 q.0 _ _ r q.1 c.in_err-run_swapped.ensures.cause

pub returns-clause-names : goal.returns-clause-names
returns-clause-names g c = c.in_ok-run_swapped.ensures.names

pub returns-clause-printed : goal.returns-clause-printed
returns-clause-printed g c =
    let swaps : List Exchange = map (λ s. let e : Exchange = record {
      clock = s.clock;
      link = s.link;
      fresh = record {
        state = (g.dyn-1.0.entry s.fresh.vtable).1.state s.fresh.value;
        drives = (g.dyn-1.0.entry s.fresh.vtable).1.driven_in;
        sees = (g.dyn-1.0.entry s.fresh.vtable).1.after_seeing;
      };
    } in e) c.args.swaps.items in
    whole_run c.inputs_fit.ensures c.swapped_circuits_loop.ensures c.circuits_run.ensures.exist swaps
    c.args.circuit.now c.args.board.now c.args.size.now c.requires.ready _ c.args.clocks _ _ _ _ _
    c.in_ok-run_swapped.field-0 c.write_end.result _ c.in_ok-run_swapped.ensures.printed c.write_end.ensures.taken

pub returns-clause-cause : goal.returns-clause-cause
returns-clause-cause g c =
    cause_behind c.in_ok-run_swapped.field-0 _ _ _ c.write_end.result c.in_ok-run_swapped.ensures.cause
    c.write_end.ensures.cause
