-- What expressions weigh, beside their operands, by what names mean.
use Rattle.std.specs.Prelude.{ℕ, List, false, length, slice_get, if◌then◌else◌}
use Rattle.std.specs.Option.{option_map_or}
use Rattle.mp_program.specs.Weight.{op_weight}
use Rattle.mp_program.specs.declared.program.Def as plain_def
use Rattle.mp_program.specs.declared.program.ExprKind as plain_kind
use Rattle.mp_program.specs.declared.program.ExprKind.TheVariants as plains
use Rattle.mp_program.specs.declared.program.Program as plain
use Rattle.mp_program.specs.Weight as plain_weight
use Rattle.mp_rules.specs.Naming.{OwnNames}
use Rattle.mp_written.specs.declared.program.ExprKind.{ExprKind}
use Rattle.mp_written.specs.declared.program.ExprKind.TheVariants.{Number, Named, True, False, Apply, Use}
use Rattle.mp_written.specs.declared.program.Def.{Def}
use Rattle.mp_written.specs.declared.program.Program.{Program}
use Rattle.mp_written.specs.Kinds.{is_constant}
use Rattle.written_frame.specs.Frame.{IsFrame}
use Rattle.name_meanings.specs.declared.meaning.Meanings.{Meanings}
use Rattle.name_meanings.specs.Meaning.{AreMeanings}

-- what the names of a program's frame mean, each of which is its own
pub record NamesOf (w : Program) (m : Meanings) : Type 0 where
  pub frame : plain.Program
  pub is : IsFrame w frame
  pub meant : AreMeanings frame m
  pub own : OwnNames frame

-- a name that means the definition at an index
abbrev pub name_cost : List Def → ℕ → ℕ
name_cost defs d = if option_map_or (λ (x : Def). is_constant x.what) (slice_get defs d) false then 1 else 0

-- an expression of a kind, where a name means the definition at an index
abbrev pub cost_of : List Def → ℕ → ExprKind → ℕ
cost_of defs d (Number n) = 1
cost_of defs d (Named x) = name_cost defs d
cost_of defs d True = 1
cost_of defs d False = 1
cost_of defs d (Apply op k os) = op_weight op (length os)
cost_of defs d (Use at x os) = 0

-- the same of a program without functions
abbrev pub plain_name_cost : List plain_def.Def → ℕ → ℕ
plain_name_cost defs d =
    if option_map_or (λ (x : plain_def.Def). plain_weight.is_constant x.what) (slice_get defs d) false then 1 else 0

abbrev pub plain_cost : List plain_def.Def → ℕ → plain_kind.ExprKind → ℕ
plain_cost defs d (plains.Number n) = 1
plain_cost defs d (plains.Named x) = plain_name_cost defs d
plain_cost defs d plains.True = 1
plain_cost defs d plains.False = 1
plain_cost defs d (plains.Apply op k os) = op_weight op (length os)
