-- The lines of transcripts.
use Rattle.std.specs.Prelude.{ℕ, suc, ◌+◌, ◌*◌, List, [], ◌∷◌, ◌++◌, Bool, true, false, cond, codes, decimal}
use Rattle.std.specs.List.{list_any}
use Rattle.mp_base.specs.declared.value.Trit.{Trit}
use Rattle.mp_base.specs.declared.value.Trit.TheVariants.{Zero, One, X}
use Rattle.mp_base.specs.declared.pad.Pad.{Pad}

-- whether a bit is unknown
abbrev pub is_unknown : Trit → Bool
is_unknown Zero = false
is_unknown One = false
is_unknown X = true

-- what a bit counts
abbrev pub weight : Trit → ℕ
weight Zero = 0
weight One = 1
weight X = 0

-- the number of these bits, bit 0 first
abbrev pub number_of : List Trit → ℕ
number_of [] = 0
number_of (bit ∷ bits) = weight bit + 2 * number_of bits

-- `X` where a bit is unknown, and else the number in decimal
abbrev pub bits_text : List Trit → List ℕ
bits_text bits = cond (list_any is_unknown bits) (codes "X") (decimal (number_of bits))

-- ` NAME=VALUE`
abbrev pub pad_text : Pad → List Trit → List ℕ
pad_text pad bits = codes " " ++ (pad.name ++ (codes "=" ++ bits_text bits))

-- the same for each pad
abbrev pub pad_texts : List Pad → List (List Trit) → List ℕ
pad_texts (pad ∷ pads) (bits ∷ shown) = pad_text pad bits ++ pad_texts pads shown
pad_texts _ _ = []

-- the line of a clock: its number, the values of these pads, and a line feed
abbrev pub line_text : ℕ → List Pad → List (List Trit) → List ℕ
line_text clock pads shown = decimal clock ++ (pad_texts pads shown ++ codes "\n")

-- the lines of clocks, of which the first has this number
abbrev pub lines_text : ℕ → List Pad → List (List (List Trit)) → List ℕ
lines_text clock pads [] = []
lines_text clock pads (shown ∷ later) = line_text clock pads shown ++ lines_text (suc clock) pads later
