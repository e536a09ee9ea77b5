-- A program has one expansion at most.
use Rattle.std.proofs.Common.{◌≡◌, ◌∙◌, sym, map}
use Rattle.mp_program.specs.declared.program.Program as plain
use Rattle.mp_written.specs.declared.program.Program.{Program}
use Rattle.mp_written.specs.Functions.{plain_defs}
use Rattle.mp_written.specs.Laying.{laid}
use Rattle.mp_written.specs.Expansion.{IsExpansion, all_pieces, moved_form, start}
use Rattle.mp_written.proofs.SamePrograms.{Parts, parts, same_parts, same_program}

abbrev expanded : Program → Parts
expanded w = (
  w.place,
  w.name,
  w.width,
  plain_defs w,
  (laid 0 (all_pieces w)).exprs,
  map (moved_form (start w)) w.forms,
  w.always,
  w.processes,
)

parts_are : (w : Program) (p : plain.Program) → IsExpansion w p → parts p ≡ expanded w
parts_are w p s =
    same_parts (parts p) (expanded w) s.place s.name s.width s.defs s.exprs s.forms s.always s.processes

pub one_expansion : (w : Program) (p q : plain.Program) → IsExpansion w p → IsExpansion w q → p ≡ q
one_expansion w p q s t = same_program p q (parts_are w p s ∙ sym (parts_are w q t))
