use Rattle.std.proofs.Common.{◌∙◌, ap}
use Rattle.datapath_sharing.specs.Sharing.{key_of, same_key}
use Rattle.datapath_sharing.proofs.built.Built.note_operator.Goals as goal

pub returns-in-Ok-clause-others : goal.returns-in-Ok-clause-others
returns-in-Ok-clause-others c = λ q a b e.
    c.in-Ok.ensures.updates.2 (key_of q a b) (ap (λ k. same_key k (key_of q a b)) c.key.ensures ∙ e)
