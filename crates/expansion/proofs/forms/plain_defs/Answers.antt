use Rattle.std.proofs.Common.{◌∙◌, sym}
use Rattle.expansion.proofs.Moving.{def_none, def_some}
use Rattle.expansion.proofs.forms.plain_defs.Goals as goal

pub loop-def-preserved-in-Continue-1 : goal.loop-def-preserved-in-Continue-1
loop-def-preserved-in-Continue-1 c =
    c.in_ok-push.ensures.ok
    ∙ def_some c.loop-def.yielded c.in-Some.def c.in-Some-plain_what.what c.loop-def.list c.loop-def.invariant
    (sym c.plain_what.ensures ∙ c.in-Some-plain_what.is)

pub loop-def-preserved : goal.loop-def-preserved
loop-def-preserved c =
    def_none c.loop-def.yielded c.in-Some.def c.loop-def.list c.loop-def.invariant
    (sym c.plain_what.ensures ∙ c.in_default.is)
