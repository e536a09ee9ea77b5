use Rattle.std.proofs.Common.{ap, ◌∙◌}
use Rattle.cover_tree.specs.Kinds.{set_colour}
use Rattle.cover_tree.proofs.Sets.{union_none}
use Rattle.cover_tree.proofs.palette.Palette.with.Goals as goal

-- src/palette.rt
pub returns-then-known-eq0 : goal.returns-then-known-eq0
returns-then-known-eq0 c = λ s.
    ap (set_colour c.args.self.now.mask) (union_none c.args.known s c.if-known-eq0.true) ∙ c.args.self.now.colours s
