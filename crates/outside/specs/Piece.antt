-- What a call that takes a piece of some bytes did.
use Rattle.std.specs.Prelude.{◌≡◌, ℕ, ◌≤◌, ◌<◌, List, length, take, Option, Result, MatchResult, OnOk, OnErr}
use Rattle.outside.specs.Outside.{WhereTold, Keeps}

-- it took the first n bytes, at least one where there are any, or nothing
abbrev pub TakesPiece : {X E : Type 0} → (List ℕ → X → X → Type 0) → Option X → Option X → List ℕ → Result ℕ E → Type 0
TakesPiece Step before after bytes result =
    MatchResult result
    (λ n. (n ≤ length bytes) × (0 < length bytes → 0 < n) × WhereTold (Step (take n bytes)) before after)
    (λ _. Keeps before after)

-- all the bytes were taken at `Ok`, and else a first part of them, but not all
pub record TakesAll {X T E : Type 0} (Step : List ℕ → X → X → Type 0) (before after : Option X) (bytes : List ℕ)
    (result : Result T E) : Type 0 where
  pub count : ℕ
  pub within : count ≤ length bytes
  pub all : OnOk result (count ≡ length bytes)
  pub cut : OnErr result (count < length bytes)
  pub taken : WhereTold (Step (take count bytes)) before after
