-- What the names in a program mean, by its table of names.
use Rattle.std.specs.Prelude.{ℕ}
use Rattle.mp_program.specs.declared.program.ExprKind.{ExprKind}
use Rattle.mp_program.specs.declared.program.ExprKind.TheVariants.{Named}
use Rattle.mp_program.specs.declared.program.FormKind.{FormKind}
use Rattle.mp_program.specs.declared.program.FormKind.TheVariants.{Set}
use Rattle.name_meanings.specs.declared.table.NameTable.{NameTable}
use Rattle.name_meanings.specs.Table.{index_in}

-- the index of the definition that an expression names
abbrev pub expr_meaning : NameTable → ExprKind → ℕ
expr_meaning t (Named x) = index_in t x
expr_meaning t _ = 0

-- the index of the definition that a form sets
abbrev pub target_meaning : NameTable → FormKind → ℕ
target_meaning t (Set x at v) = index_in t x
target_meaning t _ = 0
