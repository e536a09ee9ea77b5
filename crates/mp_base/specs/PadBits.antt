-- The bits of pads, and values that fit them.
use Rattle.std.specs.Prelude.{ℕ, zero, suc, ◌<◌, ◌^◌, List, [], ◌∷◌, ◌++◌}
use Rattle.std.specs.List.{AllZip}
use Rattle.std.specs.Int.{bit_at}
use Rattle.mp_base.specs.declared.value.Trit.{Trit}
use Rattle.mp_base.specs.declared.value.Trit.TheVariants.{Zero, One}
use Rattle.mp_base.specs.declared.pad.Pad.{Pad}

-- how many bits a pad has: a signal, whose width is 0, has one
abbrev pub bit_count : ℕ → ℕ
bit_count zero = 1
bit_count (suc w) = suc w

-- the value of a bit
abbrev pub trit_of : ℕ → Trit
trit_of zero = Zero
trit_of (suc n) = One

-- the lowest n bits of a number, bit 0 first
abbrev pub low_bits : ℕ → ℕ → List Trit
low_bits zero value = []
low_bits (suc n) value = low_bits n value ++ (trit_of (bit_at value n) ∷ [])

-- the bits of a pad at a value, bit 0 first
abbrev pub pad_bits : Pad → ℕ → List Trit
pad_bits pad value = low_bits (bit_count pad.width) value

-- the bits of each pad at these values
abbrev pub value_bits : List Pad → List ℕ → List (List Trit)
value_bits (pad ∷ pads) (value ∷ values) = pad_bits pad value ∷ value_bits pads values
value_bits _ _ = []

-- one value for each pad, within its width
abbrev pub Fit : List Pad → List ℕ → Type 0
Fit pads values = AllZip (λ (pad : Pad) (value : ℕ). value < 2 ^ bit_count pad.width) pads values
