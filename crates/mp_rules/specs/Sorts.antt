-- Words and bits: what an expression is, and what is wanted where it stands.
use Rattle.std.specs.Prelude.{◌≡◌, ◌⊎◌, ℕ, List, [], ◌∷◌, Option, Some, None, map, Contains, if◌then◌else◌}
use Rattle.mp_base.specs.declared.refusal.Place.{Place}
use Rattle.mp_base.specs.declared.op.Op.{Op}
use Rattle.mp_base.specs.declared.op.Op.TheVariants.{And, Or, Nor, Nand, Xor, Not, Bit, Zero, Equal, Less}
use Rattle.mp_program.specs.declared.program.ExprKind.{ExprKind}
use Rattle.mp_program.specs.declared.program.ExprKind.TheVariants.{Number, Named, True, False, Apply}
use Rattle.mp_program.specs.declared.program.FormKind.TheVariants.{Set, Cond}
use Rattle.mp_program.specs.declared.program.What.{What}
use Rattle.mp_program.specs.declared.program.What.TheVariants.{Constant, Register, Flag, Port, Signal}
use Rattle.mp_program.specs.declared.program.Branch.{Branch}
use Rattle.mp_program.specs.declared.program.Def.{Def}
use Rattle.mp_program.specs.declared.program.Expr.{Expr}
use Rattle.mp_program.specs.declared.program.Form.{Form}
use Rattle.mp_program.specs.declared.program.Program.{Program}
use Rattle.mp_program.specs.Names.{is_same}
use Rattle.mp_base.specs.Entries.{IsAt}

pub data Sort : Type 0 where
  IsWord : Sort
  IsBit : Sort

-- constants, registers and ports are words, flags and signals are bits
abbrev pub what_sort : What → Option Sort
what_sort (Constant c) = Some IsWord
what_sort Register = Some IsWord
what_sort (Port way) = Some IsWord
what_sort Flag = Some IsBit
what_sort (Signal way) = Some IsBit
what_sort _ = None

-- the sort of what the first definition of a name defines
abbrev pub name_sort : List Def → List ℕ → Option Sort
name_sort [] x = None
name_sort (d ∷ ds) x = if is_same d.name x then what_sort d.what else name_sort ds x

-- the sort of an operator's operands
abbrev pub operand_sort : Op → Sort
operand_sort And = IsBit
operand_sort Or = IsBit
operand_sort Nor = IsBit
operand_sort Nand = IsBit
operand_sort Xor = IsBit
operand_sort Not = IsBit
operand_sort _ = IsWord

-- the sort of what it gives
abbrev pub result_sort : Op → Sort
result_sort And = IsBit
result_sort Or = IsBit
result_sort Nor = IsBit
result_sort Nand = IsBit
result_sort Xor = IsBit
result_sort Not = IsBit
result_sort Bit = IsBit
result_sort Zero = IsBit
result_sort Equal = IsBit
result_sort Less = IsBit
result_sort _ = IsWord

abbrev pub expr_sort : List Def → ExprKind → Option Sort
expr_sort defs (Number n) = Some IsWord
expr_sort defs (Named x) = name_sort defs x
expr_sort defs True = Some IsBit
expr_sort defs False = Some IsBit
expr_sort defs (Apply op k args) = Some (result_sort op)

-- the expression e stands where this sort is wanted: as an operand, as a guard, or as the value of a `setq`
abbrev pub IsWanted : Program → ℕ → Option Sort → Type 0
IsWanted p e s =
    ((i : ℕ) × (x : Expr) × (op : Op) × (k : ℕ) × (args : List ℕ) × IsAt p.exprs i x × (x.kind ≡ Apply op k args)
    × Contains args e × (s ≡ Some (operand_sort op)))
    ⊎ ((f : ℕ) × (y : Form) × (bs : List Branch) × IsAt p.forms f y × (y.kind ≡ Cond bs)
    × Contains (map (λ (b : Branch). b.guard) bs) e × (s ≡ Some IsBit))
    ⊎ ((f : ℕ) × (y : Form) × (x : List ℕ) × (at : Place) × IsAt p.forms f y × (y.kind ≡ Set x at e)
    × (s ≡ name_sort p.defs x))
