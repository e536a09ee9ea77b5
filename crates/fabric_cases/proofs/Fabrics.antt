-- A fabric of one band is small.
use Rattle.std.proofs.Common.{ℕ, ◌≡◌, ◌*◌, ◌<◌, ◌≤◌, sym, ◌∙◌, ap, subst, arith, List, [], ◌∷◌}
use Rattle.fabric.specs.Plan.{Plan, bands, empty}
use Rattle.fabric.specs.Shape.{base}
use Rattle.cif_emit.specs.Emittable.{farthest}

pub one_band : (f : Plan) (columns row_count : ℕ) (rows : List ℕ) → f ≡ empty columns rows → rows ≡ row_count ∷ []
    → columns < 1000 → row_count < 1000 → (20 * f.columns ≤ farthest) × (base f (bands f) ≤ farthest)
one_band f columns row_count rows e g c r =
    subst (λ p. (20 * p.columns ≤ farthest) × (base p (bands p) ≤ farthest)) (sym (e ∙ ap (empty columns) g))
    (omega arith, omega arith)
