use Rattle.std.proofs.Common.{List, get_or, sym, subst, rules}
use Rattle.std.specs.Prelude.{All}
use Rattle.fabric.specs.declared.thing.Line.{Line}
use Rattle.fabric.specs.Plan.{LinesApart}
use Rattle.fabric.proofs.Adding.{before}
use Rattle.fabric.proofs.fabric.Fabric.add_lines.Goals as goal

pub line-requires-clause-apart : goal.line-requires-clause-apart
line-requires-clause-apart c =
    let new : List Line = c.args.lines.now in
    let apart : (d : Line) → All (λ t. LinesApart t (get_or new c.loop-l.l-index d)) c.loop-l.self.lines =
    λ d. subst (λ z. All (λ t. LinesApart t (get_or new c.loop-l.l-index d)) z.lines) (sym c.loop-l.invariant)
    (before c.args.self.now.lines new LinesApart c.requires.apart c.loop-l.l-index d c.loop-l-test.true) in
    search (rules, apart)
