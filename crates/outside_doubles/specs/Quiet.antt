-- What a call does that never fails: it takes of a room, and ends what is told where too little of that is left.
use Rattle.std.specs.Prelude.{ℕ, ◌-◌, nat_le, Option, None, if◌then◌else◌}
use Rattle.std.specs.Option.{option_map}

-- the room that is left behind a call of this cost
abbrev pub room_after : ℕ → ℕ → ℕ
room_after cost room = if nat_le cost room then room - cost else room

-- what is told behind a call of this cost, which does this step to what is held
abbrev pub told_after : {X : Type 0} → ℕ → ℕ → (X → X) → Option X → Option X
told_after cost room step told = if nat_le cost room then option_map step told else None
