-- Names that are misused.
use Rattle.std.specs.Prelude.{Bool, not, Option, Some, None, is_some, if◌then◌else◌}
use Rattle.mp_base.specs.declared.refusal.Place.{Place}
use Rattle.mp_program.specs.declared.program.ExprKind.{ExprKind}
use Rattle.mp_program.specs.declared.program.ExprKind.TheVariants as kinds
use Rattle.mp_program.specs.declared.program.FormKind.{FormKind}
use Rattle.mp_program.specs.declared.program.FormKind.TheVariants.{Set}
use Rattle.mp_program.specs.declared.program.Expr.{Expr}
use Rattle.mp_program.specs.declared.program.Form.{Form}
use Rattle.mp_program.specs.declared.program.Program.{Program}
use Rattle.name_meanings.specs.declared.named.Named.{Named}
use Rattle.mp_names.specs.declared.uses.Misuse.{Misuse}
use Rattle.mp_names.specs.declared.uses.Misuse.TheVariants.{Undefined, OfProcess, OfUnset}
use Rattle.name_meanings.specs.declared.table.NameTable.{NameTable}
use Rattle.name_meanings.specs.Table.{known}
use Rattle.mp_names.specs.Finding.{earliest}
use Rattle.mp_rules.specs.Breaking.{earlier_of}

-- to use a name of which this is known is such a misuse
abbrev pub is_misuse : Misuse → Named → Bool
is_misuse Undefined n = not (is_some n.least)
is_misuse OfProcess n = n.process
is_misuse OfUnset n = n.unset

-- the place of an expression that misuses a name
abbrev pub misuse_at : NameTable → Misuse → Place → ExprKind → Option Place
misuse_at t w at (kinds.Named x) = if is_misuse w (known t x) then Some at else None
misuse_at t w at _ = None

-- the place of a target that is misused
abbrev pub target_misuse : NameTable → Misuse → FormKind → Option Place
target_misuse t w (Set x at v) = if is_misuse w (known t x) then Some at else None
target_misuse t w _ = None

-- the earliest misuse in expressions and targets
abbrev pub earliest_misuse : NameTable → Misuse → Program → Option Place
earliest_misuse t w p =
    earlier_of (earliest (λ (x : Expr). misuse_at t w x.place x.kind) p.exprs)
    (earliest (λ (y : Form). target_misuse t w y.kind) p.forms)
