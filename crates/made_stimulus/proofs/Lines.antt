-- The words of the lines of a made stimulus.
use Rattle.std.proofs.Common.{◌≡◌, ℕ, zero, suc, ◌+◌, ◌-◌, ◌<◌, ◌^◌, List, [], ◌∷◌, ◌++◌, Bool, true, false, cond, refl}
use Rattle.std.proofs.Common.{sym, ◌∙◌, ap, length, take, filter, arith, append_assoc, codes}
use Rattle.std.specs.Prelude.{not, ◌&&◌, ◌==◌, nat_lt, slice_index, decimal, All}
use Rattle.std.specs.List.{list_all, flat_map, slice_split}
use Rattle.std.specs.Str.Lines.{strip_carriage_return}
use Rattle.std.proofs.lemmas.Bool.{and_parts, lt-ltb, not-true}
use Rattle.std.proofs.lemmas.List.Splits.{slice_split_at, slice_split_none}
use Rattle.stimulus_lines.specs.declared.piece.Piece.{Piece}
use Rattle.stimulus_lines.specs.Words.{is_blank, placed, words_of, kept_before, words_of_lines}
use Rattle.mp_base.specs.Lines.{is_feed}
use Rattle.program_maker.specs.Texts as made
use Rattle.made_stimulus.proofs.Digits.{is_inner, all_append, all_weaker, decimal_inner}

-- what each entry passes
all_at : (test : ℕ → Bool) (xs : List ℕ) → list_all (λ x. not (test x)) xs ≡ true → All (λ x. test x ≡ false) xs
all_at test [] h k d less = absurd (omega (arith, less))
all_at test (x ∷ xs) h zero d less = not-true (test x) (and_parts (not (test x)) (list_all (λ x. not (test x)) xs) h).0
all_at test (x ∷ xs) h (suc k) d less =
    all_at test xs (and_parts (not (test x)) (list_all (λ x. not (test x)) xs) h).1 k d (omega (arith, less))

inner_blank : (x : ℕ) → is_inner x ≡ true → not (is_blank x) ≡ true
inner_blank x h = (and_parts (not (is_blank x)) (not (is_feed x) && not (x == 13)) h).0

inner_feed : (x : ℕ) → is_inner x ≡ true → not (is_feed x) ≡ true
inner_feed x h = (and_parts (not (is_feed x)) (not (x == 13))
    (and_parts (not (is_blank x)) (not (is_feed x) && not (x == 13)) h).1).0

inner_return : (x : ℕ) → is_inner x ≡ true → (x == 13) ≡ false
inner_return x h = not-true (x == 13)
    (and_parts (not (is_feed x)) (not (x == 13))
    (and_parts (not (is_blank x)) (not (is_feed x) && not (x == 13)) h).1).1

no_blank : (xs : List ℕ) → list_all is_inner xs ≡ true → All (λ x. is_blank x ≡ false) xs
no_blank xs h = all_at is_blank xs (all_weaker is_inner (λ x. not (is_blank x)) xs inner_blank h)

-- ---- a clock

-- NAME=VALUE, where the name is one letter
abbrev pub word : ℕ → ℕ → List ℕ
word c n = c ∷ 61 ∷ decimal n

abbrev pub line : ℕ → ℕ → List ℕ
line a b = codes "clock" ++ 32 ∷ (word 97 a ++ 32 ∷ word 98 b)

-- the words of such a line
abbrev pub line_words : ℕ → ℕ → ℕ → List Piece
line_words at a b = record { at = at; bytes = codes "clock" } ∷ record { at = at + 5 + 1; bytes = word 97 a }
    ∷ record { at = at + 5 + 1 + length (word 97 a) + 1; bytes = word 98 b } ∷ []

word_inner : (c n : ℕ) → is_inner c ≡ true → n < 2 ^ 64 → list_all is_inner (word c n) ≡ true
word_inner c n h small = ap (λ b. b && (true && list_all is_inner (decimal n))) h ∙ decimal_inner n small

parts_are : (a b : ℕ) → a < 2 ^ 64 → b < 2 ^ 64 → slice_split is_blank (line a b) ≡ codes "clock" ∷ word 97 a
    ∷ word 98 b ∷ []
parts_are a b small_a small_b =
    slice_split_at is_blank (codes "clock") 32 (word 97 a ++ 32 ∷ word 98 b) (no_blank (codes "clock") refl) refl
    ∙ ap (λ ps. codes "clock" ∷ ps)
    (slice_split_at is_blank (word 97 a) 32 (word 98 b) (no_blank (word 97 a) (word_inner 97 a refl small_a)) refl
    ∙ ap (λ ps. word 97 a ∷ ps)
    (slice_split_none is_blank (word 98 b) (no_blank (word 98 b) (word_inner 98 b refl small_b))))

-- a word that isn't empty is kept
keep : (at : ℕ) (c : ℕ) (bytes : List ℕ) (ws : List Piece)
    → filter (λ (w : Piece). nat_lt 0 (length w.bytes)) (record { at = at; bytes = c ∷ bytes } ∷ ws)
    ≡ record { at = at; bytes = c ∷ bytes } ∷ filter (λ (w : Piece). nat_lt 0 (length w.bytes)) ws
keep at c bytes ws =
    let w : Piece = record { at = at; bytes = c ∷ bytes } in
    ap (λ b. cond b (w ∷ filter (λ (w : Piece). nat_lt 0 (length w.bytes)) ws)
    (filter (λ (w : Piece). nat_lt 0 (length w.bytes)) ws))
    (lt-ltb 0 (length (c ∷ bytes)) (omega arith))

pub words_are : (at a b : ℕ) → a < 2 ^ 64 → b < 2 ^ 64 → words_of at (line a b) ≡ line_words at a b
words_are at a b small_a small_b =
    let w1 : Piece = record { at = at; bytes = codes "clock" } in
    let w2 : Piece = record { at = at + 5 + 1; bytes = word 97 a } in
    let w3 : Piece = record { at = at + 5 + 1 + length (word 97 a) + 1; bytes = word 98 b } in
    ap (λ ps. filter (λ (w : Piece). nat_lt 0 (length w.bytes)) (placed at ps)) (parts_are a b small_a small_b)
    ∙ keep at 99 (codes "lock") (w2 ∷ w3 ∷ [])
    ∙ ap (λ ws. w1 ∷ ws) (keep (at + 5 + 1) 97 (61 ∷ decimal a) (w3 ∷ []))
    ∙ ap (λ ws. w1 ∷ w2 ∷ ws) (keep (at + 5 + 1 + length (word 97 a) + 1) 98 (61 ∷ decimal b) [])

-- ---- no carriage return ends it

line_inner : (a b : ℕ) → a < 2 ^ 64 → b < 2 ^ 64 → list_all (λ x. not (x == 13)) (line a b) ≡ true
line_inner a b small_a small_b =
    let no_return : (x : ℕ) → is_inner x ≡ true → not (x == 13) ≡ true = λ x h. ap not (inner_return x h) in
    all_append (λ x. not (x == 13)) (codes "clock ") (word 97 a ++ 32 ∷ word 98 b) refl
    (all_append (λ x. not (x == 13)) (word 97 a) (32 ∷ word 98 b)
    (all_weaker is_inner (λ x. not (x == 13)) (word 97 a) no_return (word_inner 97 a refl small_a))
    (all_weaker is_inner (λ x. not (x == 13)) (word 98 b) no_return (word_inner 98 b refl small_b)))

line_feeds : (a b : ℕ) → a < 2 ^ 64 → b < 2 ^ 64 → list_all (λ x. not (is_feed x)) (line a b) ≡ true
line_feeds a b small_a small_b =
    all_append (λ x. not (is_feed x)) (codes "clock ") (word 97 a ++ 32 ∷ word 98 b) refl
    (all_append (λ x. not (is_feed x)) (word 97 a) (32 ∷ word 98 b)
    (all_weaker is_inner (λ x. not (is_feed x)) (word 97 a) inner_feed (word_inner 97 a refl small_a))
    (all_weaker is_inner (λ x. not (is_feed x)) (word 98 b) inner_feed (word_inner 98 b refl small_b)))

unstripped : (xs : List ℕ) → 0 < length xs → list_all (λ x. not (x == 13)) xs ≡ true → strip_carriage_return xs ≡ xs
unstripped xs some h =
    let last : (slice_index xs (length xs - 1) == 13) ≡ false = all_at (λ x. x == 13) xs h (length xs - 1) 0
    (omega (arith, some)) in
    ap (λ b. cond b (take (length xs - 1) xs) xs) last

pub line_whole : (a b : ℕ) → a < 2 ^ 64 → b < 2 ^ 64 → strip_carriage_return (line a b) ≡ line a b
line_whole a b small_a small_b = unstripped (line a b) (omega arith) (line_inner a b small_a small_b)

-- ---- the lines of clocks

-- the lines that these clocks are, and the empty part behind the last line feed
abbrev pub lines_of : (ℕ → ℕ) → (ℕ → ℕ) → List ℕ → List (List ℕ)
lines_of a b [] = [] ∷ []
lines_of a b (k ∷ ks) = line (a k) (b k) ∷ lines_of a b ks

clock_line : (a b : ℕ) (rest : List ℕ) → made.clock a b ++ rest ≡ line a b ++ 10 ∷ rest
clock_line a b rest =
    ap (λ t. codes "clock a=" ++ t) (append_assoc (decimal a) (codes " b=" ++ (decimal b ++ codes "\n")) rest
    ∙ ap (λ t. decimal a ++ (codes " b=" ++ t)) (append_assoc (decimal b) (codes "\n") rest))
    ∙ sym (ap (λ t. codes "clock a=" ++ t) (append_assoc (decimal a) (codes " b=" ++ decimal b) (10 ∷ rest)))

pub split_clocks : (a b : ℕ → ℕ) (ks : List ℕ) → ((k : ℕ) → a k < 2 ^ 64) → ((k : ℕ) → b k < 2 ^ 64)
    → slice_split is_feed (flat_map (λ k. made.clock (a k) (b k)) ks) ≡ lines_of a b ks
split_clocks a b [] small_a small_b = refl
split_clocks a b (k ∷ ks) small_a small_b =
    let rest : List ℕ = flat_map (λ k. made.clock (a k) (b k)) ks in
    ap (slice_split is_feed) (clock_line (a k) (b k) rest)
    ∙ slice_split_at is_feed (line (a k) (b k)) 10 rest
    (all_at is_feed (line (a k) (b k)) (line_feeds (a k) (b k) (small_a k) (small_b k))) refl
    ∙ ap (λ ls. line (a k) (b k) ∷ ls) (split_clocks a b ks small_a small_b)

-- the words of these lines
abbrev pub words_from : (ℕ → ℕ) → (ℕ → ℕ) → ℕ → List ℕ → List (List Piece)
words_from a b at [] = []
words_from a b at (k ∷ ks) = line_words at (a k) (b k) ∷ words_from a b (at + length (line (a k) (b k)) + 1) ks

pub words_of_clocks : (a b : ℕ → ℕ) (at : ℕ) (ks : List ℕ) → ((k : ℕ) → a k < 2 ^ 64) → ((k : ℕ) → b k < 2 ^ 64)
    → words_of_lines at (lines_of a b ks) ≡ words_from a b at ks
words_of_clocks a b at [] small_a small_b = refl
words_of_clocks a b at (k ∷ []) small_a small_b =
    ap (λ l. kept_before (words_of at l) []) (line_whole (a k) (b k) (small_a k) (small_b k))
    ∙ ap (λ ws. kept_before ws []) (words_are at (a k) (b k) (small_a k) (small_b k))
words_of_clocks a b at (k ∷ j ∷ ks) small_a small_b =
    let next : ℕ = at + length (line (a k) (b k)) + 1 in
    ap (λ l. kept_before (words_of at l) (words_of_lines next (lines_of a b (j ∷ ks))))
    (line_whole (a k) (b k) (small_a k) (small_b k))
    ∙ ap (λ ws. kept_before ws (words_of_lines next (lines_of a b (j ∷ ks))))
    (words_are at (a k) (b k) (small_a k) (small_b k))
    ∙ ap (λ ls. line_words at (a k) (b k) ∷ ls) (words_of_clocks a b next (j ∷ ks) small_a small_b)
