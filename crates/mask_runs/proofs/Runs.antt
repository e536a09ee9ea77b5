-- Runs that begin alike are the same, for all crates above.
use Rattle.std.proofs.Common.{◌≡◌}
use Rattle.mask_runs.specs.declared.run.Run.{Run}

pub same_run : (p q : Run) → p.left ≡ q.left → p.right ≡ q.right → p.colour ≡ q.colour → p ≡ q
same_run p q e f g = λ i. record { left = e i; right = f i; colour = g i }
