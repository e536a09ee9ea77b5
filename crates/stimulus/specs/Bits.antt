-- The bits of pads, at values and in words.
use Rattle.std.specs.Prelude.{ℕ, zero, suc, ◌==◌, List, [], ◌∷◌, ◌++◌, if◌then◌else◌}
use Rattle.std.specs.Int.{bit_at}
use Rattle.mp_base.specs.declared.value.Trit.{Trit}
use Rattle.mp_base.specs.declared.value.Trit.TheVariants.{X}
use Rattle.mp_base.specs.declared.value.TritWord.{TritWord}
use Rattle.mp_base.specs.declared.pad.Pad.{Pad}
use Rattle.mp_base.specs.PadBits.{bit_count, trit_of}

-- the bit of a word with this number: X where it isn't known
abbrev pub trit_at : TritWord → ℕ → Trit
trit_at word k = if bit_at word.known k == 1 then trit_of (bit_at word.bits k) else X

-- the lowest n bits of a word, bit 0 first
abbrev pub low_trits : ℕ → TritWord → List Trit
low_trits zero word = []
low_trits (suc n) word = low_trits n word ++ (trit_at word n ∷ [])

-- the bits of a pad's word, bit 0 first: what stands in the word past the width counts nothing
abbrev pub pad_trits : Pad → TritWord → List Trit
pad_trits pad word = low_trits (bit_count pad.width) word

-- the bits of the words of pads
abbrev pub trits_of : List Pad → List TritWord → List (List Trit)
trits_of (pad ∷ pads) (word ∷ words) = pad_trits pad word ∷ trits_of pads words
trits_of _ _ = []
