use Rattle.std.proofs.Common.{refl}
use Rattle.std.specs.Prelude.{nat_lt}
use Rattle.mp_base.proofs.Tests.{same_byte}
use Rattle.cover_tree.proofs.Sets.{set_layers}
use Rattle.cover_tree.proofs.node.Tops.set.Goals as goal

-- src/node.rt
pub returns : goal.returns
returns c = λ f. set_layers f c.args.self c.args.row _
    (rw (
      same_byte (nat_lt c.args.row c.args.self.nd),
      same_byte (nat_lt c.args.row c.args.self.np),
      same_byte (nat_lt c.args.row c.args.self.nb),
      same_byte (nat_lt c.args.row c.args.self.further),
      same_byte (nat_lt c.args.row c.args.self.nm),
    ) refl)
