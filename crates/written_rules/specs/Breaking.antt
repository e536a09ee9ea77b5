-- Which rule a program breaks first as it is written.
use Rattle.std.specs.Prelude.{◌≡◌, ◌⊎◌, ℕ, ◌<◌, ◌≤◌, Option, Some, None}
use Rattle.mp_base.specs.declared.refusal.Place.{Place}
use Rattle.mp_base.specs.declared.refusal.Family.TheVariants.{E}
use Rattle.mp_base.specs.declared.refusal.Broken.{Broken}
use Rattle.mp_base.specs.declared.refusal.Refusal.{Refusal}
use Rattle.mp_base.specs.Refuses.{IsOfFamily, IsRefusal}
use Rattle.mp_written.specs.declared.program.Program.{Program}
use Rattle.written_rules.specs.Rules.{E20, E21, E22, E23, E24, E25, E26, E27, E28, E29, E30, E31, E32, E33, E34, E35, E36}
use Rattle.written_rules.specs.Rules.{E37, E38, E39, E40, E41, E42, E43, E44, E45}

-- rule E k is broken at a place
abbrev pub Breaks : Program → ℕ → Place → Type 0
Breaks w k at =
    ((k ≡ 20) × E20 w at) ⊎ ((k ≡ 21) × E21 w at) ⊎ ((k ≡ 22) × E22 w at) ⊎ ((k ≡ 23) × E23 w at)
    ⊎ ((k ≡ 24) × E24 w at) ⊎ ((k ≡ 25) × E25 w at) ⊎ ((k ≡ 26) × E26 w at) ⊎ ((k ≡ 27) × E27 w at)
    ⊎ ((k ≡ 28) × E28 w at) ⊎ ((k ≡ 29) × E29 w at) ⊎ ((k ≡ 30) × E30 w at) ⊎ ((k ≡ 31) × E31 w at)
    ⊎ ((k ≡ 32) × E32 w at) ⊎ ((k ≡ 33) × E33 w at) ⊎ ((k ≡ 34) × E34 w at) ⊎ ((k ≡ 35) × E35 w at)
    ⊎ ((k ≡ 36) × E36 w at) ⊎ ((k ≡ 37) × E37 w at) ⊎ ((k ≡ 38) × E38 w at) ⊎ ((k ≡ 39) × E39 w at)
    ⊎ ((k ≡ 40) × E40 w at) ⊎ ((k ≡ 41) × E41 w at) ⊎ ((k ≡ 42) × E42 w at) ⊎ ((k ≡ 43) × E43 w at)
    ⊎ ((k ≡ 44) × E44 w at) ⊎ ((k ≡ 45) × E45 w at)

-- no rule is broken
abbrev pub IsUnbroken : Program → Type 0
IsUnbroken w = (k : ℕ) (at : Place) → ¬ Breaks w k at

-- no rule below E k is broken
abbrev pub IsUnbrokenBelow : ℕ → Program → Type 0
IsUnbrokenBelow k w = (l : ℕ) (at : Place) → l < k → ¬ Breaks w l at

-- rule E k is broken at a place, no rule of a smaller number is broken, and that one at no smaller offset
pub record IsFirst (w : Program) (k : ℕ) (at : Place) : Type 0 where
  pub broken : Breaks w k at
  pub first : (l : ℕ) (there : Place) → Breaks w l there → (k < l) ⊎ ((k ≡ l) × (at.offset ≤ there.offset))

-- no rule is broken, or this is the first one that is, at its place
abbrev pub OfWritten : Program → Option Broken → Type 0
OfWritten w None = IsUnbroken w
OfWritten w (Some b) = IsOfFamily E (IsFirst w) b

-- want of memory, or the first of the broken rules, at its place
abbrev pub RefusesFirst : Program → Refusal → Type 0
RefusesFirst w = IsRefusal (λ b. OfWritten w (Some b))
