use Rattle.std.proofs.Common.{sym}
use Rattle.fabric.proofs.Adding.{mark_added}
use Rattle.fabric.proofs.fabric.Fabric.mark.Goals as goal

pub invariant_of-self-2 : goal.invariant_of-self-2
invariant_of-self-2 c =
    mark_added c.args.self.now _ (sym c.self.view_is) c.self.invariant c.args.m c.requires.place c.requires.apart
    c.requires.room c.push.new.self c.in_ok-push.ensures.ok
