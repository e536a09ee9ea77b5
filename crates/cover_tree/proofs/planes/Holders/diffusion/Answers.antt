use Rattle.std.proofs.Common.{arith}
use Rattle.cover_tree.proofs.Colours.{diffusion_at}
use Rattle.cover_tree.proofs.planes.Holders.diffusion.Goals as goal

-- src/planes.rt
pub returns : goal.returns
returns c = λ i s l e. diffusion_at c.args.self (omega arith) i s l e (omega arith)
