use Rattle.std.proofs.Common.{List, ℕ, ◌++◌, sym, ◌∙◌, ap, subst, codes}
use Rattle.program_maker.specs.Draws.{draw}
use Rattle.program_maker.specs.Texts.{clock, drawn_clock}
use Rattle.program_maker.proofs.Rows.{Kept, kept_none, kept_more, clock-on}
use Rattle.program_maker.proofs.stimulus.stimulus.Goals as goal

head : List ℕ
head = codes "clock reset=1\n"

pub loop-k-init : goal.loop-k-init
unfolding head
loop-k-init c = subst (λ t. Kept drawn_clock 2 0 c.args.draws.now.state c.args.draws.now.state head t)
    (sym c.in_ok-text.ensures.items)
    (kept_none drawn_clock 2 c.args.draws.now.state head)

pub loop-k-preserved : goal.loop-k-preserved
unfolding head
loop-k-preserved c = kept_more drawn_clock 2 c.loop-k._k c.args.draws.now.state c.loop-k.draws.state
    c.draw_clock.new.draws.state
    head c.loop-k.text.items c.draw_clock.new.text.items c.loop-k.invariant c.draw_clock.ensures.state
    (c.in_ok-draw_clock.ensures.ok
    ∙ ap (λ x. c.loop-k.text.items ++ clock (draw x 0 65536) (draw x 1 65536)) c.loop-k.invariant.drawn
    ∙ ap (λ t. c.loop-k.text.items ++ t) (clock-on c.args.draws.now.state c.loop-k._k))
