-- The least and the second least of some offsets.
use Rattle.std.specs.Prelude.{ℕ, Option, Some, None, unwrap_or, min, max}

-- the lesser of what was found and another offset
abbrev pub lesser : Option ℕ → ℕ → Option ℕ
lesser found at = Some (min (unwrap_or found at) at)

-- the second least once there is another offset, by the least and the second least
abbrev pub second_with : Option ℕ → Option ℕ → ℕ → Option ℕ
second_with None next at = next
second_with (Some least) next at = lesser next (max least at)
