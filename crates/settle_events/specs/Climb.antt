-- Values that climb to the least solution.
use Rattle.std.specs.Prelude.{◌≡◌, ◌≢◌, ◌⊎◌, ℕ, zero, suc, List, [], ◌∷◌, Some, None, Contains}
use Rattle.mp_base.specs.declared.value.Trit.{Trit}
use Rattle.mp_base.specs.declared.value.Trit.TheVariants.{Zero, One, X}
use Rattle.switch_net.specs.Settled.{Setting, Gives, IsSolution, IsBelow}

-- how many values are X
abbrev pub unknown : List Trit → ℕ
unknown [] = zero
unknown (Zero ∷ vs) = unknown vs
unknown (One ∷ vs) = unknown vs
unknown (X ∷ vs) = suc (unknown vs)

-- values below each solution, of which each that isn't X is driven or given
pub record Climbs (s : Setting) (v : ℕ → Trit) : Type 0 where
  pub below : (w : ℕ → Trit) → IsSolution s w → IsBelow v w
  pub driven : (n : ℕ) (t : Trit) → s.driver n ≡ Some t → v n ≡ t
  pub given : (n : ℕ) → s.driver n ≡ None → v n ≢ X → Gives s v n (v n)

-- each node keeps its value, or is undriven, was X, and now has what it was given
abbrev pub Steps : Setting → (ℕ → Trit) → (ℕ → Trit) → Type 0
Steps s v w = (n : ℕ) → (w n ≡ v n) ⊎ ((s.driver n ≡ None) × (v n ≡ X) × (w n ≢ X) × Gives s v n (w n))

-- a node at X that nothing gives a value
abbrev pub IsStuck : Setting → (ℕ → Trit) → ℕ → Type 0
IsStuck s v n = s.driver n ≡ None → v n ≡ X → (b : Trit) → b ≢ X → ¬ Gives s v n b

-- some of these nodes were X and are b now, and nothing else changed
abbrev pub Writes : List ℕ → Trit → (ℕ → Trit) → (ℕ → Trit) → Type 0
Writes nodes b v w = (n : ℕ) → (w n ≡ v n) ⊎ (Contains nodes n × (v n ≡ X) × (w n ≡ b))
