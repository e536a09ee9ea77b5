-- The line feeds of transcripts: one ends each line, and no other stands in it.
use Rattle.std.proofs.Common.{◌≡◌, ◌∙◌, ℕ, zero, suc, ◌+◌, ◌<◌, List, [], ◌∷◌, ◌++◌, append_assoc, Bool, true}
use Rattle.std.proofs.Common.{false, cond, length, map, take, get_or, refl, sym, ap, codes, arith}
use Rattle.std.specs.Prelude.{◌==◌, IsTrue, decimal, nat_lt, ◌/◌, ◌%◌}
use Rattle.std.specs.List.{list_all, list_any}
use Rattle.std.specs.Fmt.{digits, digits_onto, digit_glyph}
use Rattle.std.proofs.lemmas.List.{length-append, take-append-le}
use Rattle.std.proofs.lemmas.Bool.{and_parts}
use Rattle.mp_base.specs.declared.value.Trit.{Trit}
use Rattle.mp_base.specs.declared.pad.Pad.{Pad}
use Rattle.mp_base.specs.declared.pad.Pads.{Pads}
use Rattle.mp_base.specs.Token.{is_token}
use Rattle.mp_base.specs.PadNames.{is_run, is_pad_name}
use Rattle.stimulus.specs.Transcript.{bits_text, is_unknown, number_of, pad_text, pad_texts, line_text, lines_text}
use Rattle.board_run.specs.Boarded.{whole_lines}

-- the lines of two texts
pub lines_of_two : (a b : List ℕ) → whole_lines (a ++ b) ≡ whole_lines a + whole_lines b
lines_of_two [] b = omega arith
lines_of_two (c ∷ cs) b = let e = lines_of_two cs b in omega (arith, e)

-- a first part of a text without a line feed
none_before : (n : ℕ) (a : List ℕ) → whole_lines a ≡ 0 → whole_lines (take n a) ≡ 0
none_before zero a e = refl
none_before (suc n) [] e = refl
none_before (suc n) (c ∷ cs) e =
    let rest = none_before n cs (omega (arith, e)) in omega (arith, e, rest)

-- a text without a line feed, and a byte that is none
none_more : (c : ℕ) (cs : List ℕ) → (c == 10) ≡ false → whole_lines cs ≡ 0 → whole_lines (c ∷ cs) ≡ 0
none_more c cs e rest = let f = ap (λ b. cond b 1 0 + whole_lines cs) e in omega (arith, f, rest)

-- two texts without a line feed
none_in_two : (a b : List ℕ) → whole_lines a ≡ 0 → whole_lines b ≡ 0 → whole_lines (a ++ b) ≡ 0
none_in_two a b e f = omega (arith, lines_of_two a b, e, f)

-- ---- numbers

glyph_apart : (b : Bool) (d : ℕ) → (cond b (48 + d) (87 + d) == 10) ≡ false
glyph_apart true d = grind arith
glyph_apart false d = grind arith

digits_apart : (k n : ℕ) (acc : List ℕ) → whole_lines acc ≡ 0 → whole_lines (digits_onto k 10 false n acc) ≡ 0
digits_apart zero n acc e = e
digits_apart (suc k) n acc e =
    let onto : List ℕ = digit_glyph false (n % 10) ∷ acc in
    let more : whole_lines onto ≡ 0 =
    none_more (digit_glyph false (n % 10)) acc (glyph_apart (nat_lt (n % 10) 10) (n % 10)) e in
    by (n / 10 == 0) onto more (digits_apart k (n / 10) onto more)
  where
    by : (b : Bool) (onto : List ℕ) → whole_lines onto ≡ 0 → whole_lines (digits_onto k 10 false (n / 10) onto) ≡ 0
        → whole_lines (cond b onto (digits_onto k 10 false (n / 10) onto)) ≡ 0
    by true onto more rest = more
    by false onto more rest = rest

decimal_apart : (n : ℕ) → whole_lines (decimal n) ≡ 0
unfolding digits
decimal_apart n = digits_apart 64 n [] refl

-- ---- names

token_apart : (c : ℕ) → is_token c ≡ true → (c == 10) ≡ false
token_apart c h = by (c == 10) refl
  where
    by : (b : Bool) → (c == 10) ≡ b → (c == 10) ≡ false
    by true e = absurd (grind (arith, e, h))
    by false e = e

tokens_apart : (cs : List ℕ) → list_all is_token cs ≡ true → whole_lines cs ≡ 0
tokens_apart [] h = refl
tokens_apart (c ∷ cs) h =
    let parts = and_parts (is_token c) (list_all is_token cs) h in
    none_more c cs (token_apart c parts.0) (tokens_apart cs parts.1)

run_apart : (name : List ℕ) → is_run name ≡ true → whole_lines name ≡ 0
run_apart [] h = refl
run_apart (c ∷ cs) h = tokens_apart (c ∷ cs) h

-- names without a line feed
abbrev AllApart : List (List ℕ) → Type 0
AllApart [] = Unit {0}
AllApart (name ∷ names) = (whole_lines name ≡ 0) × AllApart names

all_apart : (names : List (List ℕ)) → ((i : ℕ) → i < length names → IsTrue (is_pad_name (get_or names i [])))
    → AllApart names
all_apart [] each = tt
all_apart (name ∷ names) each = (
  run_apart name (and_parts (is_run name) _ (each 0 (omega arith))).0,
  all_apart names (λ i lt. each (suc i) (omega (arith, lt))),
)

outputs_apart : (ins outs : List Pad) → AllApart (map (λ (pad : Pad). pad.name) (ins ++ outs))
    → AllApart (map (λ (pad : Pad). pad.name) outs)
outputs_apart [] outs h = h
outputs_apart (p ∷ ps) outs h = outputs_apart ps outs h.1

-- ---- lines

bits_apart : (bits : List Trit) → whole_lines (bits_text bits) ≡ 0
bits_apart bits = by (list_any is_unknown bits)
  where
    by : (b : Bool) → whole_lines (cond b (codes "X") (decimal (number_of bits))) ≡ 0
    by true = refl
    by false = decimal_apart (number_of bits)

pads_apart : (pads : List Pad) (shown : List (List Trit)) → AllApart (map (λ (pad : Pad). pad.name) pads)
    → whole_lines (pad_texts pads shown) ≡ 0
pads_apart [] shown h = refl
pads_apart (p ∷ ps) [] h = refl
pads_apart (p ∷ ps) (bits ∷ shown) h =
    none_in_two (pad_text p bits) (pad_texts ps shown)
    (none_in_two (codes " ") (p.name ++ (codes "=" ++ bits_text bits)) refl
    (none_in_two p.name (codes "=" ++ bits_text bits) h.0
    (none_in_two (codes "=") (bits_text bits) refl (bits_apart bits))))
    (pads_apart ps shown h.1)

module _ (pads : Pads) where
  front_apart : (clock : ℕ) (shown : List (List Trit))
      → whole_lines (decimal clock ++ pad_texts pads.outputs shown) ≡ 0
  front_apart clock shown =
      none_in_two (decimal clock) (pad_texts pads.outputs shown) (decimal_apart clock)
      (pads_apart pads.outputs shown
      (outputs_apart pads.inputs pads.outputs (all_apart _ (pads.named).each)))

  front_of : (clock : ℕ) (shown : List (List Trit))
      → line_text clock pads.outputs shown ≡ (decimal clock ++ pad_texts pads.outputs shown) ++ codes "\n"
  front_of clock shown = sym (append_assoc (decimal clock) (pad_texts pads.outputs shown) (codes "\n"))

  one_line : (clock : ℕ) (shown : List (List Trit)) → whole_lines (line_text clock pads.outputs shown) ≡ 1
  one_line clock shown =
      let front : List ℕ = decimal clock ++ pad_texts pads.outputs shown in
      let e = ap whole_lines (front_of clock shown) in
      let both = lines_of_two front (codes "\n") in
      let feed : whole_lines (codes "\n") ≡ 1 = refl in
      omega (arith, e, both, feed, front_apart clock shown)

  -- a line that was cut short
  pub no_line : (clock n : ℕ) (shown : List (List Trit)) → n < length (line_text clock pads.outputs shown)
      → whole_lines (take n (line_text clock pads.outputs shown)) ≡ 0
  no_line clock n shown lt =
      let front : List ℕ = decimal clock ++ pad_texts pads.outputs shown in
      let e = ap length (front_of clock shown) in
      let long = length-append front (codes "\n") in
      let feed : length (codes "\n") ≡ 1 = refl in
      let short : take n (line_text clock pads.outputs shown) ≡ take n front =
      ap (take n) (front_of clock shown)
      ∙ take-append-le n front (codes "\n") (omega (arith, lt, e, long, feed)) in
      ap whole_lines short ∙ none_before n front (front_apart clock shown)

  -- as many lines as clocks
  pub lines_counted : (clock : ℕ) (shown : List (List (List Trit)))
      → whole_lines (lines_text clock pads.outputs shown) ≡ length shown
  lines_counted clock [] = refl
  lines_counted clock (o ∷ os) =
      let both = lines_of_two (line_text clock pads.outputs o) (lines_text (suc clock) pads.outputs os) in
      omega (arith, both, one_line clock o, lines_counted (suc clock) os)
