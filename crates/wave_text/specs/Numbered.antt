-- Texts of things that have numbers.
use Rattle.std.specs.Prelude.{ℕ, suc, List, [], ◌∷◌, ◌++◌}

-- the texts of things in order, of which the first has the number k
abbrev pub numbered : {A : Type 0} → (ℕ → A → List ℕ) → ℕ → List A → List ℕ
numbered text k [] = []
numbered text k (x ∷ xs) = text k x ++ numbered text (suc k) xs
