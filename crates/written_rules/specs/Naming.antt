-- Names in a program as it is written: which ones it defines, where it uses them, and the arguments of its functions.
use Rattle.std.specs.Prelude.{◌≡◌, ◌⊎◌, ℕ, ◌<◌, List, [], ◌∷◌, ◌++◌, Bool, true, not, map, filter, codes}
use Rattle.mp_base.specs.declared.refusal.Place.{Place}
use Rattle.mp_base.specs.Entries.{IsAt}
use Rattle.mp_program.specs.declared.program.FormKind.TheVariants.{Set}
use Rattle.mp_program.specs.declared.program.Form.{Form}
use Rattle.mp_program.specs.declared.program.Process.{Process}
use Rattle.mp_rules.specs.Naming.{Naming, process_naming}
use Rattle.mp_written.specs.declared.program.ExprKind.TheVariants.{Named}
use Rattle.mp_written.specs.declared.program.What.{What}
use Rattle.mp_written.specs.declared.program.Arg.{Arg}
use Rattle.mp_written.specs.declared.program.Def.{Def}
use Rattle.mp_written.specs.declared.program.Expr.{Expr}
use Rattle.mp_written.specs.declared.program.Program.{Program}
use Rattle.mp_written.specs.Kinds.{is_supply, is_function}
use Rattle.mp_written.specs.Functions.{Function, functions}
use Rattle.mp_written.specs.Sound.{InBody}

abbrev pub def_naming : Def → Naming
def_naming d = record { place = d.place; name = d.name }

-- the definitions that have a name, functions among them, and then the processes
abbrev pub namings : Program → List Naming
namings w = map def_naming (filter (λ (d : Def). not (is_supply d.what)) w.defs) ++ map process_naming w.processes

-- something has the name
abbrev pub IsDefined : Program → List ℕ → Type 0
IsDefined w x = (k : ℕ) × (n : Naming) × IsAt (namings w) k n × (n.name ≡ x)

-- a definition of this kind has the name
abbrev pub Defines : Program → List ℕ → (What → Bool) → Type 0
Defines w x test = (d : ℕ) × (y : Def) × IsAt w.defs d y × (y.name ≡ x) × (test y.what ≡ true)

-- a process or a function has the name
abbrev pub NamesNoValue : Program → List ℕ → Type 0
NamesNoValue w x = Defines w x is_function ⊎ ((k : ℕ) × (q : Process) × IsAt w.processes k q × (q.name ≡ x))

-- x is an argument of the body around expression e
abbrev pub IsArgument : Program → ℕ → List ℕ → Type 0
IsArgument w e x = (k : ℕ) × (f : Function) × InBody w k f e × (i : ℕ) × (a : Arg) × IsAt f.args i a
    × (a.name ≡ x)

-- function j, which is g, has the name x and may be used at expression e: in a body its definition stands earlier
abbrev pub MayUse : Program → ℕ → List ℕ → ℕ → Function → Type 0
MayUse w e x j g = IsAt (functions w) j g × (g.name ≡ x)
    × ((k : ℕ) (f : Function) → InBody w k f e → j < k)

-- the name x stands at a place in expression e, as an expression
abbrev pub IsNamedAt : Program → ℕ → List ℕ → Place → Type 0
IsNamedAt w e x at = (y : Expr) × IsAt w.exprs e y × (y.kind ≡ Named x) × (at ≡ y.place)

-- the name x is the target of a `setq`, at a place
abbrev pub IsTargetAt : Program → List ℕ → Place → Type 0
IsTargetAt w x at = (f : ℕ) × (y : Form) × (v : ℕ) × IsAt w.forms f y × (y.kind ≡ Set x at v)

-- the names of the operators
abbrev pub operators : List (List ℕ)
operators = codes "+" ∷ codes "-" ∷ codes "1+" ∷ codes "1-" ∷ codes "word-and" ∷ codes "word-or" ∷ codes "word-xor"
    ∷ codes "word-not" ∷ codes "<<" ∷ codes ">>" ∷ codes "and" ∷ codes "or" ∷ codes "nor" ∷ codes "nand" ∷ codes "xor"
    ∷ codes "not" ∷ codes "bit" ∷ codes "=0" ∷ codes "=" ∷ codes "<" ∷ []
