-- How high the bands of a fabric stand.
use Rattle.std.proofs.Common.{◌≡◌, ℕ, ◌+◌, ◌*◌, ◌∙◌, ap}
use Rattle.mp_base.proofs.Numbers.{suc_is_next}
use Rattle.fabric.specs.Plan.{Plan, rows_of}
use Rattle.fabric.specs.Shape.{base}

pub base_next : (f : Plan) (b height row : ℕ) → height ≡ base f b → row ≡ rows_of f b
    → height + (12 * row + 36) ≡ base f (b + 1)
base_next f b height row e r =
    (λ i. e i + (12 * r i + 36)) ∙ ap (base f) (suc_is_next b)
