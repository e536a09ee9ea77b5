-- Names that functions and arguments may not have.
use Rattle.std.specs.Prelude.{◌≡◌, ◌⊎◌, ℕ, ◌<◌, List, Bool, true, ◌||◌, Option, Some, None, is_some, codes}
use Rattle.std.specs.Prelude.{if◌then◌else◌}
use Rattle.std.specs.List.{list_any}
use Rattle.mp_base.specs.declared.refusal.Place.{Place}
use Rattle.mp_base.specs.Entries.{IsAt}
use Rattle.mp_program.specs.Names.{is_same}
use Rattle.mp_written.specs.declared.program.Arg.{Arg}
use Rattle.mp_written.specs.declared.program.Def.{Def}
use Rattle.mp_written.specs.Functions.{Function, function_of}
use Rattle.written_rules.specs.Naming.{operators}
use Rattle.written_meanings.specs.declared.firsts.Firsts.{Firsts}
use Rattle.written_meanings.specs.Firsts.{first_in}
use Rattle.name_meanings.specs.declared.table.NameTable.{NameTable}
use Rattle.name_meanings.specs.Table.{known}

-- no argument may have this name: `t`, `f`, and what something has
abbrev pub is_taken : NameTable → List ℕ → Bool
is_taken t x = (is_same x (codes "t") || is_same x (codes "f")) || is_some (known t x).least

-- the place of an argument whose name is taken, or one of those that are noted
abbrev pub taken_at : NameTable → Firsts → Arg → Option Place
taken_at t before a = if is_taken t a.name || is_some (first_in before a.name) then Some a.place else None

-- the name of the argument at an index is taken, or that of an earlier one
abbrev pub ArgTakenAt : NameTable → List Arg → ℕ → Place → Type 0
ArgTakenAt t args i at = (a : Arg) × IsAt args i a × (at ≡ a.place)
    × ((is_taken t a.name ≡ true) ⊎ ((j : ℕ) × (b : Arg) × IsAt args j b × (j < i) × (b.name ≡ a.name)))

-- a definition is a function that has, or an argument of which has, a name that it may not have
abbrev pub TakenIn : NameTable → Def → Place → Type 0
TakenIn t d at = (f : Function) × (function_of d d.what ≡ Some f)
    × (((list_any (is_same f.name) operators ≡ true) × (at ≡ f.place)) ⊎ ((i : ℕ) × ArgTakenAt t f.args i at))
