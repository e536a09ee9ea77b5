-- The names of pads.
use Rattle.std.specs.Prelude.{◌≢◌, ℕ, ◌<◌, List, [], ◌∷◌, ◌++◌, length, map, slice_index_or, Bool, false, not, ◌&&◌}
use Rattle.std.specs.Prelude.{IsTrue, codes}
use Rattle.std.specs.List.{list_all, list_any}
use Rattle.std.specs.Str.{bytes_eq}
use Rattle.mp_base.specs.Token.{is_token}

-- a run of token characters
abbrev pub is_run : List ℕ → Bool
is_run [] = false
is_run (c ∷ cs) = list_all is_token (c ∷ cs)

-- the labels of the supplies and the phases
abbrev pub supplies : List (List ℕ)
supplies = codes "vdd" ∷ codes "gnd" ∷ codes "phia" ∷ codes "phib" ∷ codes "phic" ∷ []

-- the label of a supply or a phase
abbrev pub is_supply : List ℕ → Bool
is_supply name = list_any (λ label. bytes_eq name label) supplies

-- a run of token characters that labels no supply and no phase
abbrev pub is_pad_name : List ℕ → Bool
is_pad_name name = is_run name && not (is_supply name)

-- the names of these pads, inputs first
abbrev pub names_of : {X : Type 0} → List X → List X → (X → List ℕ) → List (List ℕ)
names_of inputs outputs name = map name (inputs ++ outputs)

-- each may name a pad, and all differ
pub record ArePadNames (names : List (List ℕ)) : Type 0 where
  pub each : (i : ℕ) → i < length names → IsTrue (is_pad_name (slice_index_or names i []))
  pub differ : (i j : ℕ) → i < j → j < length names → slice_index_or names i [] ≢ slice_index_or names j []
