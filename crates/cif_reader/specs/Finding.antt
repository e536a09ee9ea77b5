-- What the reader finds at a place of the bytes.
use Rattle.std.specs.Prelude.{◌≡◌, ℕ, ◌≤◌, List, length, drop, Option, Some, None, MatchOption}
use Rattle.cif_form.specs.Readers.{Reader}
use Rattle.cif_reader.specs.declared.found.Found.{Found}

-- the reader of texts finds `exact` there and leaves what begins at `end`; the program has it with its numbers cut
pub record IsFound {A V : Type 0} (cut : A → V) (read : Option (A × List ℕ)) (bytes : List ℕ) (at : ℕ) (value : V)
    (end : ℕ) : Type 0 where
  pub exact : A
  pub found : read ≡ Some (exact, drop end bytes)
  pub value_is : value ≡ cut exact
  pub behind : at ≤ end
  pub within : end ≤ length bytes

-- the program's answer is what the reader of texts finds at the place
abbrev pub Answers : {A V : Type 0} → (A → V) → Reader A → List ℕ → ℕ → Option (Found V) → Type 0
Answers cut reader bytes at result =
    MatchOption result (reader (drop at bytes) ≡ None)
    (λ r. IsFound cut (reader (drop at bytes)) bytes at r.value r.end)
