-- What is added for an expression.
use Rattle.std.specs.Prelude.{◌≡◌, ◌<◌, ℕ, List, [], Option, Some, None, true, false, if◌then◌else◌, All, length}
use Rattle.std.specs.Prelude.{slice_get, slice_index}
use Rattle.std.specs.List.{AllZip}
use Rattle.mp_base.specs.declared.op.Op.{Op}
use Rattle.mp_base.specs.declared.op.Op.TheVariants.{And, Or, Nor, Nand, Xor, Not}
use Rattle.nor_net.specs.declared.net.NetId.{NetId}
use Rattle.nor_net.specs.declared.net.Part.{Part}
use Rattle.rtl_form.specs.declared.rtl.RtlExpr.{RtlExpr}
use Rattle.rtl_form.specs.declared.rtl.RtlExpr.TheVariants.{Number, Truth, Cell, Apply}
use Rattle.rtl_form.specs.Operands.{takes_words, gives_word}
use Rattle.mp_base.specs.Apply.{takes}
use Rattle.bit_gates.specs.declared.rails.Rails.{Rails}
use Rattle.bit_gates.specs.Adding.{IsEntryPair, IsExclusive, IsPair}
use Rattle.bit_gates.specs.Rails.{BitOf, IsNamed, Named, NegationOf, swapped}

-- a NOR of bits with these names, or of their negations, and its negation
pub record IsNorOfBits (exprs : List (Option Rails)) (args : List ℕ) (old new : List Part)
    (rails : Rails) : Type 0 where
  pub inputs : List NetId
  pub are_inputs : AllZip (BitOf exprs) args inputs
  pub pair : IsPair inputs old new rails

pub record IsNorOfNegations (exprs : List (Option Rails)) (args : List ℕ) (old new : List Part)
    (rails : Rails) : Type 0 where
  pub inputs : List NetId
  pub are_inputs : AllZip (NegationOf exprs) args inputs
  pub pair : IsPair inputs old new rails

-- the exclusive OR of two bits with these names
pub record IsExclusiveOf (exprs : List (Option Rails)) (args : List ℕ) (old new : List Part)
    (rails : Rails) : Type 0 where
  pub left : Rails
  pub right : Rails
  pub is_left : Named exprs (slice_index args 0) left
  pub is_right : Named exprs (slice_index args 1) right
  pub exclusive : IsExclusive left right old new rails

-- what is added for an operator that gives a bit; for one that takes words, an input
abbrev pub IsOpMade : List (Option Rails) → Op → List ℕ → List Part → List Part → Rails → Type 0
IsOpMade exprs And args old new rails = IsNorOfNegations exprs args old new rails
IsOpMade exprs Nand args old new rails = IsNorOfNegations exprs args old new (swapped rails)
IsOpMade exprs Nor args old new rails = IsNorOfBits exprs args old new rails
IsOpMade exprs Or args old new rails = IsNorOfBits exprs args old new (swapped rails)
IsOpMade exprs Xor args old new rails = IsExclusiveOf exprs args old new rails
IsOpMade exprs Not args old new rails = Named exprs (slice_index args 0) (swapped rails) × (new ≡ old)
IsOpMade exprs op args old new rails = IsEntryPair old new rails

-- what is added for an expression, which has no nets here where it is a word
abbrev pub IsExprMade : List (Option Rails) → List (Option Rails) → RtlExpr → List Part → List Part → Option Rails
    → Type 0
IsExprMade cells exprs (Number n) old new o = (o ≡ None) × (new ≡ old)
IsExprMade cells exprs (Truth b) old new o =
    (rails : Rails) × (o ≡ Some rails) × IsPair [] old new (if b then rails else swapped rails)
IsExprMade cells exprs (Cell c) old new o = (slice_get cells c ≡ Some o) × (new ≡ old)
IsExprMade cells exprs (Apply op index args) old new None = (gives_word op ≡ true) × (new ≡ old)
IsExprMade cells exprs (Apply op index args) old new (Some rails) =
    (gives_word op ≡ false) × IsOpMade exprs op args old new rails

-- what an expression that is a bit reads has names
abbrev pub IsExprReady : List (Option Rails) → List (Option Rails) → RtlExpr → Type 0
IsExprReady cells exprs (Cell c) = c < length cells
IsExprReady cells exprs (Apply op index args) =
    (takes op (length args) ≡ true) × (takes_words op ≡ false → All (IsNamed exprs) args)
IsExprReady cells exprs x = Unit {0}
