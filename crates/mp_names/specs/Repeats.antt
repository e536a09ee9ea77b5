-- Names that are repeated.
use Rattle.std.specs.Prelude.{◌≡◌, ◌<◌, ℕ, List, Bool, true, false, not, ◌||◌, ◌&&◌, nat_le, Option, Some, None}
use Rattle.std.specs.Prelude.{if◌then◌else◌}
use Rattle.mp_base.specs.declared.refusal.Place.{Place}
use Rattle.mp_program.specs.declared.program.What.{What}
use Rattle.mp_program.specs.declared.program.Def.{Def}
use Rattle.mp_program.specs.declared.program.Process.{Process}
use Rattle.mp_program.specs.Names.{is_supply}
use Rattle.mp_base.specs.Entries.{IsAt}
use Rattle.mp_rules.specs.Naming.{is_reserved}
use Rattle.name_meanings.specs.declared.table.NameTable.{NameTable}
use Rattle.name_meanings.specs.Table.{known}

-- an offset was found that isn't above another
abbrev pub is_up_to : Option ℕ → ℕ → Bool
is_up_to None at = false
is_up_to (Some found) at = nat_le found at

-- a name is reserved, or two that have it don't stand after a place
abbrev pub is_repeated : NameTable → List ℕ → Place → Bool
is_repeated t x at = is_reserved x || is_up_to (known t x).second at.offset

-- the place of a definition whose name is repeated
abbrev pub repeated_def : NameTable → Def → Option Place
repeated_def t d = if not (is_supply d.what) && is_repeated t d.name d.place then Some d.place else None

-- the same of a process
abbrev pub repeated_process : NameTable → Process → Option Place
repeated_process t q = if is_repeated t q.name q.place then Some q.place else None

-- something of this kind is defined
abbrev pub Defines : List Def → What → Type 0
Defines defs w = (j : ℕ) × (a : Def) × IsAt defs j a × (a.what ≡ w)

-- the place of a definition that has one of the same kind before it
abbrev pub Repeats : List Def → What → Place → Type 0
Repeats defs w at =
    (j k : ℕ) × (a b : Def) × IsAt defs j a × IsAt defs k b × (j < k) × (a.what ≡ w) × (b.what ≡ w) × (at ≡ b.place)

-- the place of a second definition of a supply
abbrev pub RepeatsSupply : List Def → Place → Type 0
RepeatsSupply defs at = (j k : ℕ) × (a b : Def) × IsAt defs j a × IsAt defs k b × (j < k) × (is_supply a.what ≡ true)
    × (a.what ≡ b.what) × (at ≡ b.place)
