-- What a map from names says of them.
use Rattle.std.specs.Prelude.{◌≡◌, ℕ, List, nat_eq, unwrap_or}
use Rattle.std.specs.Cmp.Lexicographic.{pointwise}
use Rattle.indexmap.specs.IndexMap.{IndexMap, get_by}
use denote.Ref.{Bor}
use Rattle.mp_program.specs.declared.program.Def.{Def}
use Rattle.mp_program.specs.declared.program.Process.{Process}
use Rattle.name_meanings.specs.declared.named.Named.{Named}
use Rattle.name_meanings.specs.Named.{named_in, unnamed}

-- what a map says of a name
abbrev pub known_in : {S : Type 0} → IndexMap (Bor (List ℕ)) Named S → List ℕ → Named
known_in names x = unwrap_or (get_by (λ k. pointwise nat_eq x k.now) names) unnamed

-- a map says what is known of each name, by these definitions and processes
abbrev pub HoldsNames : List Def → List Process → {S : Type 0} → IndexMap (Bor (List ℕ)) Named S → Type 0
HoldsNames defs processes names = (x : List ℕ) → known_in names x ≡ named_in defs processes x
