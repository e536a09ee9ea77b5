-- What a line of a stimulus says.
use Rattle.std.specs.Prelude.{◌≡◌, ℕ, ◌<◌, ◌≤◌, ◌^◌, List, [], ◌∷◌, ◌++◌, Bool, true, false, ◌&&◌, nat_lt, length}
use Rattle.std.specs.Prelude.{codes, decimal}
use Rattle.std.specs.List.{list_all}
use Rattle.std.specs.Str.{bytes_eq}
use Rattle.std.specs.Str.Parse.{IsNumeral, digits_value}
use Rattle.mp_base.specs.Token.{is_token}
use Rattle.mp_base.specs.declared.pad.Pad.{Pad}
use Rattle.stimulus_lines.specs.declared.piece.Piece.{Piece}
use Rattle.stimulus_lines.specs.declared.form.Assignment.{Assignment}
use Rattle.stimulus_lines.specs.declared.form.Form.{Form}
use Rattle.stimulus_lines.specs.declared.form.Form.TheVariants.{Input, Output, Clock}

-- a run of token characters
abbrev pub is_name : List ℕ → Bool
is_name w = nat_lt 0 (length w) && list_all is_token w

-- 1 to 20 digits of a number below 2^64
abbrev pub IsNumber : List ℕ → ℕ → Type 0
IsNumber digits n = IsNumeral 10 digits × (length digits ≤ 20) × (n ≡ digits_value 10 digits) × (n < 2 ^ 64)

-- a number of bits from 1 to 64, without a leading zero
abbrev pub IsWidth : List ℕ → ℕ → Type 0
IsWidth w n = (w ≡ decimal n) × (0 < n) × (n ≤ 64)

-- NAME=N; the name may hold a `=`, the digits don't
pub record IsAssignment (word : Piece) (a : Assignment) : Type 0 where
  pub digits : List ℕ
  pub parts : word.bytes ≡ a.name ++ 61 ∷ digits
  pub name : is_name a.name ≡ true
  pub number : IsNumber digits a.value
  pub place : a.at ≡ word.at

-- each word is NAME=N
abbrev pub AreAssignments : List Piece → List Assignment → Type 0
AreAssignments [] [] = Unit {0}
AreAssignments [] (a ∷ xs) = ⊥
AreAssignments (w ∷ ws) [] = ⊥
AreAssignments (w ∷ ws) (a ∷ xs) = IsAssignment w a × AreAssignments ws xs

-- behind `in` or `out`: NAME or NAME W
abbrev pub IsPad : List Piece → Pad → Type 0
IsPad [] p = ⊥
IsPad (n ∷ []) p = (is_name n.bytes ≡ true) × (p.name ≡ n.bytes) × (p.width ≡ 0)
IsPad (n ∷ w ∷ []) p = (is_name n.bytes ≡ true) × (p.name ≡ n.bytes) × IsWidth w.bytes p.width
IsPad (n ∷ w ∷ x ∷ more) p = ⊥

-- a line of these words says this
abbrev pub IsForm : List Piece → Form → Type 0
IsForm [] f = ⊥
IsForm (w ∷ ws) (Input p) = (w.bytes ≡ codes "in") × IsPad ws p
IsForm (w ∷ ws) (Output p) = (w.bytes ≡ codes "out") × IsPad ws p
IsForm (w ∷ ws) (Clock xs) = (w.bytes ≡ codes "clock") × AreAssignments ws xs

-- a clock line is one by its first word
abbrev pub is_clock : List Piece → Bool
is_clock [] = false
is_clock (w ∷ ws) = bytes_eq w.bytes (codes "clock")
