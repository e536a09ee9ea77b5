-- Cells that are those of their roles.
use Rattle.std.specs.Prelude.{◌≡◌, List, map}
use Rattle.mp_program.specs.declared.program.Def.{Def}
use Rattle.process_layout.specs.declared.laid.Laid.{Laid}
use Rattle.process_layout.specs.Laying.{cell_for}

-- each cell is that of its role
abbrev pub HoldCells : List Def → Laid → Type 0
HoldCells defs l = l.cells ≡ map (cell_for defs) l.roles

-- what is laid behind such cells is so too
abbrev pub KeepCells : Laid → Laid → Type 0
KeepCells before after = (defs : List Def) → HoldCells defs before → HoldCells defs after
