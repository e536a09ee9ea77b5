-- The numbers that are drawn from a seed.
use Rattle.std.specs.Prelude.{ℕ, zero, suc, ◌+◌, ◌*◌, ◌/◌, ◌%◌, ◌^◌}

-- the state behind another
abbrev pub next : ℕ → ℕ
next x = (6364136223846793005 * x + 1442695040888963407) % 2 ^ 64

-- the state after n draws
unfoldable pub after : ℕ → ℕ → ℕ
after seed zero = seed
after seed (suc n) = next (after seed n)

-- the number below m that a state gives: its low bits repeat soon, so they are left out
abbrev pub below : ℕ → ℕ → ℕ
below m x = (x / 2 ^ 33) % m

-- draw k of a seed, counted from 0, below m
abbrev pub draw : ℕ → ℕ → ℕ → ℕ
draw seed k m = below m (after seed (suc k))
