-- That there is one thing of a kind, and no other.
use Rattle.std.specs.Prelude.{◌≡◌}

-- exactly one has the property
abbrev pub ExactlyOne : {X : Type 0} → (X → Type 0) → Type 0
ExactlyOne {X} P = (x : X) × P x × ((y : X) → P y → y ≡ x)
