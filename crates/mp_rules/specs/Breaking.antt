-- Which rule a program breaks first.
use Rattle.std.specs.Prelude.{◌≡◌, ◌⊎◌, ℕ, ◌<◌, ◌≤◌, Option, Some, None, MatchOption, nat_le, if◌then◌else◌}
use Rattle.mp_base.specs.declared.refusal.Place.{Place}
use Rattle.mp_base.specs.declared.refusal.Family.TheVariants.{E}
use Rattle.mp_base.specs.declared.refusal.Refusal.{Refusal}
use Rattle.mp_base.specs.Refuses.{IsOfFamily, IsRefusal}
use Rattle.mp_base.specs.declared.refusal.Broken.{Broken}
use Rattle.mp_program.specs.declared.program.Program.{Program}
use Rattle.mp_rules.specs.Rules.{E20, E21, E22, E23, E24, E25, E26, E27, E28, E29, E30, E31, E32, E33, E34, E35, E36}
use Rattle.mp_rules.specs.Rules.{E40, E41, E42, E43, E44, E45}

-- rule E k is broken at a place
abbrev pub Breaks : Program → ℕ → Place → Type 0
Breaks p k at =
    ((k ≡ 20) × E20 p at) ⊎ ((k ≡ 21) × E21 p at) ⊎ ((k ≡ 22) × E22 p at) ⊎ ((k ≡ 23) × E23 p at)
    ⊎ ((k ≡ 24) × E24 p at) ⊎ ((k ≡ 25) × E25 p at)
    ⊎ ((k ≡ 26) × E26 p at) ⊎ ((k ≡ 27) × E27 p at) ⊎ ((k ≡ 28) × E28 p at) ⊎ ((k ≡ 29) × E29 p at)
    ⊎ ((k ≡ 30) × E30 p at) ⊎ ((k ≡ 31) × E31 p at)
    ⊎ ((k ≡ 32) × E32 p at) ⊎ ((k ≡ 33) × E33 p at) ⊎ ((k ≡ 34) × E34 p at) ⊎ ((k ≡ 35) × E35 p at)
    ⊎ ((k ≡ 36) × E36 p at) ⊎ ((k ≡ 40) × E40 p at)
    ⊎ ((k ≡ 41) × E41 p at) ⊎ ((k ≡ 42) × E42 p at) ⊎ ((k ≡ 43) × E43 p at) ⊎ ((k ≡ 44) × E44 p at)
    ⊎ ((k ≡ 45) × E45 p at)

-- no rule is broken
abbrev pub IsUnbroken : Program → Type 0
IsUnbroken p = (k : ℕ) (at : Place) → ¬ Breaks p k at

-- no rule below E k is broken
abbrev pub IsUnbrokenBelow : ℕ → Program → Type 0
IsUnbrokenBelow k p = (l : ℕ) (at : Place) → l < k → ¬ Breaks p l at

-- rule E k is broken at a place, no rule of a smaller number is broken, and that one at no smaller offset
pub record IsFirst (p : Program) (k : ℕ) (at : Place) : Type 0 where
  pub broken : Breaks p k at
  pub first : (l : ℕ) (there : Place) → Breaks p l there → (k < l) ⊎ ((k ≡ l) × (at.offset ≤ there.offset))

-- the earliest place where this is true, or none where it is true nowhere
abbrev pub IsEarliest : (Place → Type 0) → Option Place → Type 0
IsEarliest P found =
    MatchOption found ((at : Place) → ¬ P at) (λ at. P at × ((there : Place) → P there → at.offset ≤ there.offset))

-- the earlier of what was found and another place
abbrev pub earlier : Option Place → Place → Option Place
earlier None at = Some at
earlier (Some place) at = if nat_le place.offset at.offset then Some place else Some at

-- the earlier of two that were found
abbrev pub earlier_of : Option Place → Option Place → Option Place
earlier_of found None = found
earlier_of found (Some at) = earlier found at

-- no rule is broken, or this is the first one that is, at its place
abbrev pub OfProgram : Program → Option Broken → Type 0
OfProgram p None = IsUnbroken p
OfProgram p (Some b) = IsOfFamily E (IsFirst p) b

-- want of memory, or the first of the broken rules, at its place
abbrev pub RefusesFirst : Program → Refusal → Type 0
RefusesFirst p = IsRefusal (λ b. OfProgram p (Some b))
