-- What an operator asks for, and what is made for it.
use Rattle.std.specs.Prelude.{◌≡◌, ◌<◌, ℕ, List, true, false, All, MatchBool, length, slice_index_or}
use Rattle.mp_base.specs.declared.op.Op.{Op}
use Rattle.mp_base.specs.declared.op.Op.TheVariants as ops
use Rattle.rtl_form.specs.Cost.{op_cost}
use Rattle.rtl_form.specs.Operands.{gives_word, takes_words}
use Rattle.mp_base.specs.Apply.{takes}
use Rattle.datapath_making.specs.declared.making.Making.{Making}
use Rattle.datapath_making.specs.Sizes.{HasRoom}
use Rattle.datapath_making.specs.Steps.{IsBitMade, IsFree, IsOperatorMade, IsReached, IsStep, IsTestMade, IsWaited}
use Rattle.datapath_making.specs.WellMade.{IsWellMade}

-- a bit is lifted: one of a word's, or the answer of a test
abbrev pub IsLifted : ℕ → Op → ℕ → List ℕ → Making → Making → Type 0
IsLifted e ops.Bit index args old new = IsStep 1 1 old new × IsBitMade e index (slice_index_or args 0 0) old new
IsLifted e op index args old new = IsStep (op_cost op (length args)) 1 old new × IsTestMade e op args old new

-- what an operator asks
pub record IsAsked (m : Making) (e : ℕ) (op : Op) (index : ℕ) (args : List ℕ) : Type 0 where
  pub made : IsWellMade m
  pub room : HasRoom 13 m
  pub wide : 0 < m.width
  pub free : IsFree m.words e
  pub count : takes op (length args) ≡ true
  pub reached : takes_words op ≡ true → All (IsReached m) args
  pub entry : takes_words op ≡ true → gives_word op ≡ false → IsWaited m e
  pub inside : op ≡ ops.Bit → index < m.width

-- what is made for it: a word, a bit that is lifted into the control, or nothing where it is one of bits
abbrev pub IsAnswered : ℕ → Op → ℕ → List ℕ → Making → Making → Type 0
IsAnswered e op index args old new =
    MatchBool (gives_word op) (IsStep (op_cost op (length args)) 0 old new × IsOperatorMade e op args old new)
    (MatchBool (takes_words op) (IsLifted e op index args old new) (new ≡ old))
