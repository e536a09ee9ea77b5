use Rattle.std.proofs.Common.{sym}
use Rattle.fabric.proofs.Adding.{line_added}
use Rattle.fabric.proofs.fabric.Fabric.line.Goals as goal

pub invariant_of-self-2 : goal.invariant_of-self-2
invariant_of-self-2 c =
    line_added c.args.self.now _ (sym c.self.view_is) c.self.invariant c.args.l c.requires.place c.requires.apart
    c.requires.room c.push.new.self c.in_ok-push.ensures.ok
