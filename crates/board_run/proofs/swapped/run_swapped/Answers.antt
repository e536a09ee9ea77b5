use Rattle.std.proofs.Common.{◌∙◌, ◌<◌, length, refl, sym, ap, subst, arith}
use Rattle.std.proofs.lemmas.Result.{err_from_is_err_and}
use Rattle.board.specs.Loop.{Wired}
use Rattle.board_run.proofs.Stretches.{all_later, all_made, as_many, cut_turn, end_turn, left_next, links_kept}
use Rattle.board_run.proofs.Stretches.{next_swap, none_over, none_yet, part_there, ran_to, swap_turn}
use Rattle.board_run.proofs.swapped.run_swapped.Goals as goal

pub loop-swap-init : goal.loop-swap-init
loop-swap-init g c = record {
  wired = refl;
  pads = refl;
  long = refl;
  names = refl;
  left = c.into_iter-swap-iterator.ensures.into_iter_gives.0;
  many = c.into_iter-swap-iterator.result.rest.ok.0;
  behind = λ k d lt. omega (arith, c.requires.unrun);
  run = omega (arith, c.requires.unrun);
  looped =
      none_yet g.D.Device.steps c.args.board.now.wired c.args.device.now _ (g.O.Sink.held c.args.out.now)
      c.args.board.now.done c.requires.unrun;
  faults = refl;
}

pub run-requires-clause-pads : goal.run-requires-clause-pads
run-requires-clause-pads g c =
    c.loop-swap.invariant.pads ∙ c.requires.pads ∙ ap (λ (w : Wired). w.pads) (sym c.loop-swap.invariant.wired)

pub run-requires-clause-parts : goal.run-requires-clause-parts
run-requires-clause-parts g c =
    links_kept c.loop-swap.board.wired c.args.board.now.wired _ _ c.loop-swap.invariant.wired
    c.loop-swap.invariant.long c.requires.parts

pub overflow_sub-before : goal.overflow_sub-before
overflow_sub-before g c =
    let h = c.loop-swap.invariant in
    none_over _ _ _ c.in-Some.swap c.loop-swap.board.done c.done.result c.done.ensures h.behind
    c.in-Some.ensures.steps.0

pub returns-in_err-run-clause-printed : goal.returns-in_err-run-clause-printed
returns-in_err-run-clause-printed g c =
    let h = c.loop-swap.invariant in
    let q = err_from_is_err_and c.from_residual.result c.from_residual.ensures.1 in
    let first = c.in-Some.ensures.steps.0 in
    cut_turn g.D.Device.steps c.args.board.now.wired c.args.device.now _ (g.O.Sink.held c.args.out.now)
    c.loop-swap.board.done c.run.new.self.done _ c.loop-swap.device c.run.new.device _ _
    (g.O.Sink.held c.loop-swap.out) (g.O.Sink.held c.run.new.out)
    _ c.loop-swap.board.wired c.args.swaps.items c.loop-swap.yielded _ _ c.in-Some.swap c.args.clocks c.done.result
    c.in_err-run.field-0.0 q.0 c.from_residual.result q.1 h.wired h.left first c.requires.timely c.done.ensures
    (none_over _ _ _ c.in-Some.swap c.loop-swap.board.done c.done.result c.done.ensures h.behind first) refl
    h.looped c.in_err-run.ensures.printed

pub swap-requires-clause-link : goal.swap-requires-clause-link
swap-requires-clause-link g c =
    let h = c.loop-swap.invariant in
    let told =
    next_swap _ c.args.swaps.items c.loop-swap.yielded _ _ c.in-Some.swap h.left c.in-Some.ensures.steps.0
    c.args.board.now.wired.links c.args.clocks c.requires.timely in
    subst (λ (w : Wired). c.in-Some.swap.link < length w.links) (sym (c.in_ok-run.ensures.wired ∙ h.wired)) told.linked

pub swap-requires-clause-part : goal.swap-requires-clause-part
swap-requires-clause-part g c =
    let h = c.loop-swap.invariant in
    let e = c.in_ok-run.ensures in
    let told =
    next_swap _ c.args.swaps.items c.loop-swap.yielded _ _ c.in-Some.swap h.left c.in-Some.ensures.steps.0
    c.args.board.now.wired.links c.args.clocks c.requires.timely in
    part_there c.run.new.self.wired.links c.in-Some.swap.link (length c.run.new.parts.items)
    (subst (λ (w : Wired). c.in-Some.swap.link < length w.links) (sym (e.wired ∙ h.wired)) told.linked)
    (links_kept c.run.new.self.wired c.args.board.now.wired _ _ (e.wired ∙ h.wired)
    (as_many _ c.run.new.parts.items c.loop-swap.parts.items e.names ∙ h.long) c.requires.parts)

pub loop-swap-preserved : goal.loop-swap-preserved
loop-swap-preserved g c =
    let h = c.loop-swap.invariant in
    let e = c.in_ok-run.ensures in
    let s = c.swap.ensures in
    let first = c.in-Some.ensures.steps.0 in
    let told =
    next_swap _ c.args.swaps.items c.loop-swap.yielded _ _ c.in-Some.swap h.left first
    c.args.board.now.wired.links c.args.clocks c.requires.timely in
    let le = none_over _ _ _ c.in-Some.swap c.loop-swap.board.done c.done.result c.done.ensures h.behind first in
    let ran =
    ran_to g.D.Device.steps c.loop-swap.board.wired c.loop-swap.board.done c.run.new.self.done _ c.in-Some.swap.clock
    c.done.result c.loop-swap.device c.run.new.device _ _ (g.O.Sink.held c.loop-swap.out) (g.O.Sink.held c.run.new.out)
    c.in_ok-run.field-0 c.done.ensures le refl e.printed in
    record {
      wired = s.wired ∙ e.wired ∙ h.wired;
      pads = e.pads ∙ h.pads;
      long =
          as_many _ c.swap.new.parts.items c.run.new.parts.items s.names
          ∙ as_many _ c.run.new.parts.items c.loop-swap.parts.items e.names ∙ h.long;
      names = s.names ∙ e.names ∙ h.names;
      left = left_next c.args.swaps.items c.loop-swap.yielded _ _ c.in-Some.swap h.left first;
      many = omega (arith, c.in-Some.ensures.steps.1, h.many, ap length first);
      behind = all_later _ _ c.swap.new.self.done (s.done ∙ ran) told.later;
      run = omega (arith, s.done, ran, told.inside);
      looped =
          swap_turn g.D.Device.steps c.args.board.now.wired c.args.device.now _ (g.O.Sink.held c.args.out.now)
          c.loop-swap.board.done c.run.new.self.done _ c.loop-swap.device c.run.new.device _ _
          (g.O.Sink.held c.loop-swap.out) (g.O.Sink.held c.run.new.out)
          _ c.loop-swap.board.wired c.run.new.self.wired c.loop-swap.yielded c.in-Some.swap c.done.result
          c.swap.new.self.done c.in_ok-run.field-0 _ h.wired (e.wired ∙ h.wired) c.done.ensures le refl s.done s.faces
          h.looped e.printed;
      faults = e.cause.ok ∙ h.faults;
    }

pub overflow_sub-rest : goal.overflow_sub-rest
overflow_sub-rest g c = omega (arith, c.done-2.ensures, c.loop-swap.invariant.run)

pub returns-clause-printed : goal.returns-clause-printed
returns-clause-printed g c =
    let h = c.loop-swap.invariant in
    end_turn g.D.Device.steps c.args.board.now.wired c.args.device.now _ (g.O.Sink.held c.args.out.now)
    c.loop-swap.board.done c.run-2.new.self.done _ c.loop-swap.device c.run-2.new.device _ _
    (g.O.Sink.held c.loop-swap.out) (g.O.Sink.held c.run-2.new.out)
    _ c.loop-swap.board.wired c.args.swaps.items c.loop-swap.yielded c.args.clocks c.done-2.result c.run-2.result
    h.wired (all_made c.args.swaps.items c.loop-swap.yielded _ _ h.left h.many c.in-None.ensures.steps.0)
    c.done-2.ensures (omega (arith, c.done-2.ensures, h.run)) refl h.looped c.run-2.ensures.printed
