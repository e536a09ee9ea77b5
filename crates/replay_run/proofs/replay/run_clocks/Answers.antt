use Rattle.std.proofs.Common.{◌≡◌, ◌∙◌, length, ap}
use Rattle.std.proofs.lemmas.Result.{err_from_is_err_and}
use Rattle.switch_net.specs.Values.{value_at}
use Rattle.switch_net.specs.declared.network.Network.{Network}
use Rattle.replay_run.proofs.Causes.{cause_behind, cause_passed}
use Rattle.replay_run.proofs.Replaying.{cut_in_lines, line_behind}
use Rattle.replay_run.proofs.replay.run_clocks.Goals as goal

pub returns-in_err-run-clause-printed : goal.returns-in_err-run-clause-printed
returns-in_err-run-clause-printed g c =
    let s = c.args.simulation.now in
    let r = c.from_residual.result in
    let q = err_from_is_err_and r c.from_residual.ensures.1 in
    cut_in_lines s.network s.given (value_at s.values) c.requires.ready.unknown _ (g.O.Sink.held c.args.out.now)
    (g.O.Sink.held c.run.new.out) c.in_err-run.field-0.0 q.0 r q.1 c.in_err-run.ensures.printed

pub returns-in_err-run-clause-cause : goal.returns-in_err-run-clause-cause
returns-in_err-run-clause-cause g c =
    let r = c.from_residual.result in
    let q = err_from_is_err_and r c.from_residual.ensures.1 in
    cause_passed c.in_err-run.field-0.0 q.0 _ _ r q.1 c.in_err-run.ensures.cause

pub returns-clause-printed : goal.returns-clause-printed
returns-clause-printed g c =
    let s = c.args.simulation.now in
    let sized : length c.values.result.now ≡ s.network.nodes =
    c.values.ensures.sized ∙ ap (λ (n : Network). n.nodes) c.in_ok-run.ensures.network in
    line_behind s.network s.given (value_at s.values) c.requires.ready.unknown c.run.new.self.values
    (g.O.Sink.held c.args.out.now) (g.O.Sink.held c.run.new.out) (g.O.Sink.held c.write_last_line.new.out)
    c.in_ok-run.field-0 c.write_last_line.result c.in_ok-run.ensures.printed
    (rw c.values.ensures.same at (c.write_last_line.ensures.taken s.network c.requires.ready.sized sized))

pub returns-clause-cause : goal.returns-clause-cause
returns-clause-cause g c =
    cause_behind c.in_ok-run.field-0 _ _ _ c.write_last_line.result c.in_ok-run.ensures.cause
    c.write_last_line.ensures.cause
