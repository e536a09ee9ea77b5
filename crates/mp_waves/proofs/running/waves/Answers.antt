use Rattle.std.proofs.Common.{◌≡◌, ◌*◌, ◌++◌, ◌∙◌, ℕ, length, codes, sym, ap, subst₂, arith}
use Rattle.mp_program.specs.State.{zero_state}
use Rattle.wave_text.specs.Waves.{head_text, tagged}
use Rattle.mp_waves.specs.Running.{IsRun}
use Rattle.mp_waves.specs.Running.IsRun.{start}
use Rattle.mp_waves.proofs.running.waves.Goals as goal

pub loop-clock-init : goal.loop-clock-init
loop-clock-init c =
    let p = c.program-program.result.now in
    let s = c.args.made.now.stimulus in
    let state : c.in_ok-machine.machine.state ≡ zero_state p =
    c.in_ok-machine.ensures.state ∙ ap zero_state (sym c.program-program.ensures) in
    let text : c.push_head.new.text.items ≡ head_text p s.pads =
    c.in_ok-push_head.ensures ∙ ap (λ t. t ++ head_text p s.pads) c.new-text.ensures.items in
    record {
      program = c.in_ok-machine.ensures.program ∙ sym c.program-program.ensures;
      run = subst₂ (λ st t. IsRun p s 0 st t) (sym state) (sym text) start;
    }

pub returns : goal.returns
returns c =
    let s = c.args.made.now.stimulus in
    let st = c.loop-clock.machine.state in
    let text = c.loop-clock.text.items in
    let all : c.loop-clock.clock ≡ length s.clocks = omega arith in
    record {
      after = st;
      before_end = text;
      run = subst₂ (λ p (k : ℕ). IsRun p s k st text) c.program-program.ensures all c.loop-clock.invariant.run;
      end =
          c.in_ok-push_end.ensures
          ∙ ap (λ (n : ℕ). text ++ (tagged (codes "#") (2 * n) ++ codes "\n")) c.len-count.ensures;
    }
