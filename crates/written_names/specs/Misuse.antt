-- Names that are misused, in a program as it is written.
use Rattle.std.specs.Prelude.{◌≡◌, ◌⊎◌, ℕ, List, Bool, true, false, not, ◌||◌, ◌&&◌, Option, Some, None, is_some}
use Rattle.std.specs.Prelude.{if◌then◌else◌}
use Rattle.std.specs.Option.{option_map_or}
use Rattle.mp_base.specs.declared.refusal.Place.{Place}
use Rattle.mp_base.specs.Entries.{IsAt}
use Rattle.mp_program.specs.declared.program.FormKind.{FormKind}
use Rattle.mp_program.specs.declared.program.FormKind.TheVariants.{Set}
use Rattle.mp_written.specs.declared.program.ExprKind.{ExprKind}
use Rattle.mp_written.specs.declared.program.ExprKind.TheVariants as kinds
use Rattle.mp_written.specs.declared.program.Def.{Def}
use Rattle.mp_written.specs.declared.program.Expr.{Expr}
use Rattle.mp_written.specs.declared.program.Program.{Program}
use Rattle.mp_written.specs.Kinds.{is_constant, is_function}
use Rattle.mp_written.specs.Functions.{Function}
use Rattle.mp_written.specs.Sound.{InBody}
use Rattle.written_rules.specs.Naming.{IsDefined, Defines, NamesNoValue, IsArgument, MayUse, IsNamedAt}
use Rattle.written_rules.specs.Rules.{E20}
use Rattle.written_meanings.specs.declared.meanings.Meaning.{Meaning}
use Rattle.name_meanings.specs.declared.table.NameTable.{NameTable}
use Rattle.name_meanings.specs.Table.{known}
use Rattle.written_names.specs.declared.uses.Misuse.{Misuse}
use Rattle.written_names.specs.declared.uses.Misuse.TheVariants.{Undefined, NoValue, Outside}
use Rattle.written_names.specs.Table.{definition}

-- to use a name is such a misuse, where it is no argument
abbrev pub is_misuse : Misuse → List Def → NameTable → List ℕ → Bool
is_misuse Undefined defs t x = not (is_some (known t x).least)
is_misuse NoValue defs t x =
    (known t x).process || option_map_or (λ (d : Def). is_function d.what) (definition defs t x) false
is_misuse Outside defs t x = is_some (known t x).least
    && not (option_map_or (λ (d : Def). is_constant d.what || is_function d.what) (definition defs t x) false)

-- an expression of this meaning may be such a misuse
abbrev pub is_reached : Misuse → Meaning → Bool
is_reached Outside m = is_some m.owner
is_reached _ m = true

abbrev pub is_undefined : Misuse → Bool
is_undefined Undefined = true
is_undefined _ = false

-- the place where an expression of a kind, at a place, misuses a name
abbrev pub misuse_at : Misuse → List Def → NameTable → Place → ExprKind → Meaning → Option Place
misuse_at u defs t at (kinds.Named x) m =
    if (not (is_some m.argument) && is_reached u m) && is_misuse u defs t x then Some at else None
misuse_at u defs t at (kinds.Use head x os) m =
    if is_undefined u && not (is_some m.function) then Some head else None
misuse_at u defs t at _ m = None

-- the place of a target that is misused
abbrev pub target_misuse : Misuse → List Def → NameTable → FormKind → Option Place
target_misuse u defs t (Set x at v) = if is_misuse u defs t x then Some at else None
target_misuse u defs t _ = None

-- what such a misuse is, of a name that is no argument
abbrev pub IsMisused : Misuse → Program → List ℕ → Type 0
IsMisused Undefined w x = ¬ IsDefined w x
IsMisused NoValue w x = NamesNoValue w x
IsMisused Outside w x = IsDefined w x × (¬ Defines w x is_constant) × (¬ Defines w x is_function)

-- where it may be: one of an outer name in a body only
abbrev pub IsReached : Misuse → Program → ℕ → Type 0
IsReached Outside w e = (k : ℕ) × (f : Function) × InBody w k f e
IsReached _ w e = Unit {0}

-- the head of a use names no function that may be used there
abbrev pub NamesNoFunction : Misuse → Program → ℕ → Place → Type 0
NamesNoFunction Undefined w e at = (y : Expr) × (x os : List ℕ) × IsAt w.exprs e y × (y.kind ≡ kinds.Use at x os)
    × ((j : ℕ) (g : Function) → ¬ MayUse w e x j g)
NamesNoFunction _ w e at = ⊥

-- expression e misuses a name at a place
abbrev pub MisusesAt : Misuse → Program → ℕ → Place → Type 0
MisusesAt u w e at =
    ((x : List ℕ) × IsNamedAt w e x at × (¬ IsArgument w e x) × IsReached u w e × IsMisused u w x)
    ⊎ NamesNoFunction u w e at

-- what has to be known of a program's names to find such a misuse
abbrev pub NamesApart : Misuse → Program → Type 0
NamesApart Undefined w = Unit {0}
NamesApart _ w = (at : Place) → ¬ E20 w at
