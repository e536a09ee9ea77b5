-- Names: which ones a program defines, and where it uses them.
use Rattle.std.specs.Prelude.{◌≡◌, ◌⊎◌, ℕ, false, List, [], ◌∷◌, ◌++◌, Bool, not, map, filter, codes}
use Rattle.std.specs.List.{list_any}
use Rattle.mp_base.specs.declared.refusal.Place.{Place}
use Rattle.mp_program.specs.declared.program.ExprKind.TheVariants.{Named}
use Rattle.mp_program.specs.declared.program.FormKind.TheVariants.{Set}
use Rattle.mp_program.specs.declared.program.What.{What}
use Rattle.mp_program.specs.declared.program.What.TheVariants.{Power, Ground, Phia, Phib, Phic}
use Rattle.mp_program.specs.declared.program.Def.{Def}
use Rattle.mp_program.specs.declared.program.Expr.{Expr}
use Rattle.mp_program.specs.declared.program.Form.{Form}
use Rattle.mp_program.specs.declared.program.Process.{Process}
use Rattle.mp_program.specs.declared.program.Program.{Program}
use Rattle.mp_program.specs.Names.{is_same, is_supply, index_of}
use Rattle.mp_base.specs.Entries.{IsAt}

-- a name, and the place of what it is the name of
pub record Naming : Type 0 where
  pub place : Place
  pub name : List ℕ

abbrev pub def_naming : Def → Naming
def_naming d = record { place = d.place; name = d.name }

abbrev pub process_naming : Process → Naming
process_naming q = record { place = q.place; name = q.name }

-- the definitions that have a name, and then the processes
abbrev pub namings : Program → List Naming
namings p = map def_naming (filter (λ (d : Def). not (is_supply d.what)) p.defs) ++ map process_naming p.processes

-- names that nothing may have
abbrev pub reserved : List (List ℕ)
reserved = codes "t" ∷ codes "f" ∷ codes "vdd" ∷ codes "gnd" ∷ codes "phia" ∷ codes "phib" ∷ codes "phic" ∷ []

abbrev pub is_reserved : List ℕ → Bool
is_reserved x = list_any (is_same x) reserved

-- power, ground and the phases of the clock
abbrev pub supplies : List What
supplies = Power ∷ Ground ∷ Phia ∷ Phib ∷ Phic ∷ []

-- the name x stands at a place, in an expression or as the target of a `setq`
abbrev pub Uses : Program → List ℕ → Place → Type 0
Uses p x at =
    ((e : ℕ) × (y : Expr) × IsAt p.exprs e y × (y.kind ≡ Named x) × (at ≡ y.place))
    ⊎ ((f : ℕ) × (y : Form) × (v : ℕ) × IsAt p.forms f y × (y.kind ≡ Set x at v))

-- no definition stands before one of its name
abbrev pub OwnNames : Program → Type 0
OwnNames p = (d : ℕ) (x : Def) → IsAt p.defs d x → is_supply x.what ≡ false → index_of p.defs x.name ≡ d
