use Rattle.std.proofs.Common.{List, get_or, sym, subst, arith}
use Rattle.std.specs.Prelude.{All}
use Rattle.fabric.specs.declared.thing.Mark.{Mark}
use Rattle.fabric.specs.Plan.{MarksApart}
use Rattle.fabric.proofs.Adding.{before}
use Rattle.fabric.proofs.fabric.Fabric.add_marks.Goals as goal

pub mark-requires-clause-apart : goal.mark-requires-clause-apart
mark-requires-clause-apart c =
    let new : List Mark = c.args.marks.now in
    let apart : (d : Mark) → All (λ t. MarksApart t (get_or new c.loop-m.m-index d)) c.loop-m.self.marks =
    λ d. subst (λ z. All (λ t. MarksApart t (get_or new c.loop-m.m-index d)) z.marks) (sym c.loop-m.invariant)
    (before c.args.self.now.marks new MarksApart c.requires.apart c.loop-m.m-index d c.loop-m-test.true) in
    grind (arith, apart)
