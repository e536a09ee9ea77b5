-- What the slices have of operators and numbers, and what of it is noted.
use Rattle.std.specs.Prelude.{◌≡◌, ◌<◌, ◌-◌, ◌==◌, ◌&&◌, ◌++◌, ◌∷◌, [], ℕ, suc, List, Option, Some, Bool, true, false}
use Rattle.std.specs.Prelude.{◌≢◌}
use Rattle.std.specs.Prelude.{Contains, length, nat_eq, slice_index_or, slice_set}
use Rattle.std.specs.HashMap.{get}
use Rattle.mp_base.specs.declared.op.Op.{Op}
use Rattle.mp_base.specs.declared.op.Op.TheVariants as ops
use Rattle.nor_net.specs.declared.net.NetId.{NetId}
use Rattle.organelles.specs.declared.slices.Programmed.{Programmed}
use Rattle.organelles.specs.declared.slices.SliceNet.{SliceNet}
use Rattle.rtl_form.specs.declared.rtl.RtlExpr.{RtlExpr}
use Rattle.rtl_form.specs.declared.rtl.RtlExpr.TheVariants.{Number, Truth, Cell, Apply}
use Rattle.rtl_form.specs.Operands.{gives_word, takes_words}
use Rattle.control_nor.specs.declared.names.Names.{Names}
use Rattle.control_nor.specs.Lowering.{Stands}
use Rattle.path_form.specs.declared.path.Lift.{Lift}
use Rattle.path_values.specs.Allocated.{Placed}
use Rattle.datapath_making.specs.declared.making.Making.{Making}
use Rattle.datapath_sharing.specs.declared.built.Built.{Built}

-- ---- steps that add less

-- the word of expression e is this net
abbrev pub with_word : ℕ → NetId → Making → Making
with_word e id m = record m { words = slice_set m.words e (Some id) }

-- the bit of expression e is lifted from this net of the top slice
pub record IsLiftMade (e : ℕ) (from : NetId) (old new : Making) : Type 0 where
  pub lift : Lift
  pub is_entry : Stands old.names.exprs e lift.control
  pub is_top : suc lift.slice ≡ old.width
  pub is_from : lift.from ≡ from
  pub lifts : new.lifts ≡ old.lifts ++ lift ∷ []
  pub words : new.words ≡ old.words
  pub cells : new.cell_words ≡ old.cell_words
  pub pads : new.pads ≡ old.pads
  pub slices : new.slices ≡ old.slices

-- ---- what is noted

-- the number of an operator in its enumeration
abbrev pub number_of : Op → ℕ
number_of ops.Add = 0
number_of ops.Sub = 1
number_of ops.Inc = 2
number_of ops.Dec = 3
number_of ops.WordAnd = 4
number_of ops.WordOr = 5
number_of ops.WordXor = 6
number_of ops.WordNot = 7
number_of ops.Left = 8
number_of ops.Right = 9
number_of ops.And = 10
number_of ops.Or = 11
number_of ops.Nor = 12
number_of ops.Nand = 13
number_of ops.Xor = 14
number_of ops.Not = 15
number_of ops.Bit = 16
number_of ops.Zero = 17
number_of ops.Equal = 18
number_of ops.Less = 19

-- an operator, with the nets of its first operand and of its last
abbrev pub Key : Type 0
Key = ℕ × ℕ × ℕ

abbrev pub key_of : Op → NetId → NetId → Key
key_of op first last = (number_of op, first.0, last.0)

abbrev pub same_key : Key → Key → Bool
same_key a b = (a.0 == b.0 && a.1 == b.1) && a.2 == b.2

-- the result of an operator on these operands, and the net of a number
abbrev pub operator_in : Built → Op → NetId → NetId → Option NetId
operator_in b op first last = get same_key b.operators (key_of op first last)

abbrev pub number_in : Built → ℕ → Option NetId
number_in b n = get nat_eq b.numbers n

-- what was noted is noted still
pub record KeepsNoted (old new : Built) : Type 0 where
  pub operators : (op : Op) (first last id : NetId) → operator_in old op first last ≡ Some id
      → operator_in new op first last ≡ Some id
  pub numbers : (n : ℕ) (id : NetId) → number_in old n ≡ Some id → number_in new n ≡ Some id

-- ---- what is noted stands in the slices

-- an operator stands in the slices, on these nets
pub record IsBuilt (s : SliceNet) (op : Op) (first last id : NetId) : Type 0 where
  pub words : List (Option NetId)
  pub args : List ℕ
  pub placed : Placed s words op args id
  pub is_first : Stands words (slice_index_or args 0 0) first
  pub is_last : Stands words (slice_index_or args (length args - 1) 0) last
  pub within : id.0 < length s.net

-- a number has a net
abbrev pub IsProgrammed : SliceNet → ℕ → NetId → Type 0
IsProgrammed s n id =
    (g : Programmed) × Contains s.programs g × (g.bits ≡ n) × (g.net ≡ id) × (id.0 < length s.net)

pub record AreBuilt (b : Built) (s : SliceNet) : Type 0 where
  pub operators : (op : Op) (first last id : NetId) → operator_in b op first last ≡ Some id
      → IsBuilt s op first last id
  pub numbers : (n : ℕ) (id : NetId) → number_in b n ≡ Some id → IsProgrammed s n id

-- ---- what is made is noted

-- the result of an operator on the nets of these expressions
abbrev pub IsNoted : Built → List (Option NetId) → Op → List ℕ → NetId → Type 0
IsNoted b words op args id =
    (first : NetId) × (last : NetId) × Stands words (slice_index_or args 0 0) first
    × Stands words (slice_index_or args (length args - 1) 0) last × (operator_in b op first last ≡ Some id)

-- an operator's word, or the answer that is lifted
pub record IsOperatorNoted (names : Names) (b : Built) (words : List (Option NetId)) (lifts : List Lift) (e : ℕ)
    (op : Op) (args : List ℕ) : Type 0 where
  pub word : gives_word op ≡ true → (id : NetId) × Stands words e id × IsNoted b words op args id
  pub test : takes_words op ≡ true → gives_word op ≡ false → op ≢ ops.Bit
      → (l : Lift) × Contains lifts l × Stands names.exprs e l.control × IsNoted b words op args l.from

abbrev pub IsExprNoted : Names → Built → List (Option NetId) → List Lift → ℕ → RtlExpr → Type 0
IsExprNoted names b words lifts e (Number n) = (id : NetId) × Stands words e id × (number_in b n ≡ Some id)
IsExprNoted names b words lifts e (Truth value) = Unit {0}
IsExprNoted names b words lifts e (Cell c) = Unit {0}
IsExprNoted names b words lifts e (Apply op index args) = IsOperatorNoted names b words lifts e op args

-- what has a word or a lift keeps it
pub record Stays (old new : Making) : Type 0 where
  pub names : new.names ≡ old.names
  pub words : (e : ℕ) (id : NetId) → Stands old.words e id → Stands new.words e id
  pub lifts : (l : Lift) → Contains old.lifts l → Contains new.lifts l

-- an expression is noted, and all that was noted
pub record IsShared (e : ℕ) (x : RtlExpr) (b c : Built) (old new : Making) : Type 0 where
  pub stays : Stays old new
  pub built : AreBuilt c new.slices
  pub keeps : KeepsNoted b c
  pub noted : IsExprNoted old.names c new.words new.lifts e x
