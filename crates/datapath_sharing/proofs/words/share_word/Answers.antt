use Rattle.std.proofs.Common.{List, Option, subst, sym}
use Rattle.nor_net.specs.declared.net.NetId.{NetId}
use Rattle.datapath_making.specs.Steps.{IsStep}
use Rattle.datapath_sharing.proofs.Lifting.{shared_step}
use Rattle.datapath_sharing.proofs.words.share_word.Goals as goal

pub returns-clause-step : goal.returns-clause-step
returns-clause-step c =
    let m = c.args.making.now in
    subst (λ (ws : List (Option NetId)). IsStep 0 0 m (record m { words = ws })) (sym c.set.ensures)
    (shared_step c.args.expr c.args.word m c.requires.made c.requires.word)
