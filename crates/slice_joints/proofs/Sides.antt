-- The sides of a chain's lines, by whether their gap's number is even.
use Rattle.std.proofs.Common.{◌≡◌, ℕ, zero, suc, ◌%◌, refl, arith}
use Rattle.std.specs.Prelude.{◌≢◌}
use Rattle.fabric.specs.declared.thing.Side.TheVariants.{L, R}
use Rattle.slice_form.specs.PathWires.{side_of}

pub even_side : (g : ℕ) → g % 2 ≡ 0 → R ≡ side_of g
even_side zero h = refl
even_side (suc zero) h = absurd (omega arith)
even_side (suc (suc g)) h = even_side g (omega arith)

pub odd_side : (g : ℕ) → g % 2 ≢ 0 → L ≡ side_of g
odd_side zero h = absurd (h refl)
odd_side (suc zero) h = refl
odd_side (suc (suc g)) h = odd_side g (λ e. h (omega arith))
