-- The number that a narrow word shows is its bits.
use Rattle.std.proofs.Common.{◌≡◌, ◌∙◌, ◌%◌, ◌^◌, ◌<◌, ◌≤◌, List, [], ◌∷◌, length}
use Rattle.std.proofs.Common.{get_or, sym, ap, arith, bit_and}
use Rattle.std.specs.List.{AllZip}
use Rattle.std.proofs.Math.Nat.{mod-eq_of_lt}
use Rattle.std.proofs.lemmas.Nat.{and_comm, and_le_r}
use Rattle.std.proofs.lemmas.Slice.Zip.{AllZip-long}
use Rattle.mp_base.specs.declared.value.TritWord.{TritWord}
use Rattle.mp_base.specs.declared.pad.Pad.{Pad}
use Rattle.stimulus.specs.Bits.{pad_trits, trits_of}
use Rattle.mp_base.specs.PadBits.{bit_count}
use Rattle.stimulus.specs.Transcript.{number_of}
use Rattle.stimulus.proofs.Words.{number_low}
use Rattle.settled_sum.specs.Sum.{first_number}

-- the known bits of a word lie within a pad
abbrev pub IsNarrow : Pad → TritWord → Type 0
IsNarrow pad word = word.known < 2 ^ bit_count pad.width

narrow_number : (p : Pad) (w : TritWord) → IsNarrow p w → w.bits ≡ number_of (pad_trits p w)
narrow_number p w narrow =
    let n = bit_count p.width in
    let masked = w.masked in
    let few : bit_and w.bits w.known ≤ w.known = and_le_r w.bits w.known in
    let less : w.bits < 2 ^ n = omega (arith, few, masked, narrow) in
    sym (mod-eq_of_lt less) ∙ ap (λ v. v % 2 ^ n) (sym (and_comm w.known w.bits ∙ masked)) ∙ sym (number_low w n)

-- the first of narrow words shows its bits
pub first_shows : (pads : List Pad) (words : List TritWord) (w : TritWord) → w ≡ get_or words 0 w → 0 < length words
    → length words ≡ length pads → AllZip IsNarrow pads words → w.bits ≡ first_number (trits_of pads words)
first_shows pads [] w is some many narrow = absurd (omega (arith, some))
first_shows [] (x ∷ xs) w is some many narrow = absurd (omega (arith, many))
first_shows (p ∷ ps) (x ∷ xs) w is some many narrow =
    ap (λ (v : TritWord). v.bits) is ∙ narrow_number p x narrow.0

-- there is a word for each pad
pub many_words : (pads : List Pad) (words : List TritWord) → AllZip IsNarrow pads words → length words ≡ length pads
many_words pads words narrow = AllZip-long IsNarrow pads words narrow
