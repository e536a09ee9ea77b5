use Rattle.std.proofs.Common.{◌++◌, [], ◌∙◌, ap, slice_index_or}
use Rattle.program_maker.specs.Texts.{registers, setting_from, drawn_setting}
use Rattle.program_maker.proofs.Rows.{kept_none, kept_more}
use Rattle.program_maker.proofs.source.draw_settings.Goals as goal

pub loop-i-init : goal.loop-i-init
loop-i-init c = kept_none drawn_setting 3 c.args.draws.now.state c.args.text.now.items

pub loop-i-preserved : goal.loop-i-preserved
loop-i-preserved c = kept_more drawn_setting 3 c.loop-i.i c.args.draws.now.state c.loop-i.draws.state
    c.draw_setting.new.draws.state
    c.args.text.now.items c.loop-i.text.items c.draw_setting.new.text.items c.loop-i.invariant
    c.draw_setting.ensures.state
    (c.in_ok-draw_setting.ensures.ok
    ∙ ap (λ r. c.loop-i.text.items ++ setting_from c.loop-i.draws.state r) c.register.ensures
    ∙ ap (λ x. c.loop-i.text.items ++ setting_from x (slice_index_or registers c.loop-i.i [])) c.loop-i.invariant.drawn)
