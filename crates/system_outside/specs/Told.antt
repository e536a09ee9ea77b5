-- What an output tells that gives its bytes to a writer.
use Rattle.std.specs.Prelude.{ℕ, List, ◌++◌, take, Option, Some, None, cond, ◌==◌}

-- while no call has failed: what the writer holds, and behind it what the room holds. What a writer took that failed isn't
-- known
abbrev pub told_over : Option (List ℕ) → List ℕ → ℕ → ℕ → Option (List ℕ)
told_over None room used faults = None
told_over (Some bytes) room used faults = cond (faults == 0) (Some (bytes ++ take used room)) None
