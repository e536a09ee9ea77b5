-- The parts of a text, from a place on.
use Rattle.std.proofs.Common.{◌≡◌, ℕ, zero, suc, ◌+◌, ◌-◌, ◌<◌, ◌≤◌, List, [], ◌∷◌, Bool, true, false, cond, refl, sym}
use Rattle.std.proofs.Common.{◌∙◌, ap, length, take, drop, arith, get_or, inl, inr}
use Rattle.std.specs.Prelude.{slice_range, nat_lt, filter}
use Rattle.std.specs.List.{slice_split, onto_first}
use Rattle.std.specs.Str.Lines.{strip_carriage_return}
use Rattle.std.proofs.lemmas.List.{get_or-drop, length-drop, drop-drop, take_all, length-take-le}
use Rattle.std.proofs.lemmas.Bool.{cases_lt, lt-ltb, le-ltb}
use Rattle.stimulus_lines.specs.declared.piece.Piece.{Piece}
use Rattle.stimulus_lines.specs.Words.{is_blank, placed, words_of, kept_before, words_of_lines}
use Rattle.mp_base.specs.Lines.{is_feed}

-- the first part of a list ends at the first byte that parts
cut : (p : ℕ → Bool) (xs : List ℕ) (n : ℕ) → n < length xs → ((k : ℕ) → k < n → p (get_or xs k 0) ≡ false)
    → p (get_or xs n 0) ≡ true
    → slice_split p xs ≡ take n xs ∷ slice_split p (drop (suc n) xs)
cut p [] n lt before here = absurd (omega arith)
cut p (x ∷ xs) zero lt before here = ap (λ b. cond b ([] ∷ slice_split p xs) (onto_first x (slice_split p xs))) here
cut p (x ∷ xs) (suc n) lt before here =
    ap (λ b. cond b ([] ∷ slice_split p xs) (onto_first x (slice_split p xs))) (before 0 (omega arith))
    ∙ ap (onto_first x) (cut p xs n (omega arith) (λ k less. before (suc k) (omega arith)) here)

-- or at the end
cut_end : (p : ℕ → Bool) (xs : List ℕ) → ((k : ℕ) → k < length xs → p (get_or xs k 0) ≡ false)
    → slice_split p xs ≡ xs ∷ []
cut_end p [] before = refl
cut_end p (x ∷ xs) before =
    ap (λ b. cond b ([] ∷ slice_split p xs) (onto_first x (slice_split p xs))) (before 0 (omega arith))
    ∙ ap (onto_first x) (cut_end p xs (λ k less. before (suc k) (omega arith)))

-- the part from a to e, which a byte that parts ends
pub part : (p : ℕ → Bool) (xs : List ℕ) (a e : ℕ) → a ≤ e → e < length xs
    → ((k : ℕ) → a ≤ k → k < e → p (get_or xs k 0) ≡ false) → p (get_or xs e 0) ≡ true
    → slice_split p (drop a xs) ≡ slice_range xs a e ∷ slice_split p (drop (e + 1) xs)
part p xs a e le lt before here =
    let back : a + (e - a) ≡ e = omega arith in
    let next : a + suc (e - a) ≡ e + 1 = omega arith in
    cut p (drop a xs) (e - a) (omega (arith, length-drop a xs))
    (λ k less. ap p (get_or-drop a xs k 0) ∙ before (a + k) (omega arith) (omega arith))
    (ap p (get_or-drop a xs (e - a) 0) ∙ ap (λ k. p (get_or xs k 0)) back ∙ here)
    ∙ ap (λ ys. take (e - a) (drop a xs) ∷ slice_split p ys) (drop-drop (suc (e - a)) a xs ∙ ap (λ k. drop k xs) next)

-- the part from a to the end
pub last_part : (p : ℕ → Bool) (xs : List ℕ) (a e : ℕ) → a ≤ e → e ≡ length xs
    → ((k : ℕ) → a ≤ k → k < e → p (get_or xs k 0) ≡ false)
    → slice_split p (drop a xs) ≡ slice_range xs a e ∷ []
last_part p xs a e le end before =
    cut_end p (drop a xs)
    (λ k less. ap p (get_or-drop a xs k 0) ∙ before (a + k) (omega arith) (omega (arith, length-drop a xs)))
    ∙ ap (λ ys. ys ∷ []) (sym (take_all (e - a) (drop a xs) (omega (arith, length-drop a xs))))

length-range : (xs : List ℕ) (a e : ℕ) → a ≤ e → e ≤ length xs → length (slice_range xs a e) ≡ e - a
length-range xs a e le within = length-take-le (e - a) (drop a xs) (omega (arith, length-drop a xs))

-- the words, where the part before the others has this length
filter_part : (at n : ℕ) (part : List ℕ) (more : List Piece) → length part ≡ n
    → filter (λ (w : Piece). nat_lt 0 (length w.bytes)) (record { at = at; bytes = part } ∷ more)
    ≡ cond (nat_lt 0 n) (record { at = at; bytes = part } ∷ filter (λ (w : Piece). nat_lt 0 (length w.bytes)) more)
    (filter (λ (w : Piece). nat_lt 0 (length w.bytes)) more)
filter_part at n part more e =
    ap (λ k. cond (nat_lt 0 k)
    (record { at = at; bytes = part } ∷ filter (λ (w : Piece). nat_lt 0 (length w.bytes)) more)
    (filter (λ (w : Piece). nat_lt 0 (length w.bytes)) more)) e

-- a part has a byte
some_part : (a e : ℕ) → a ≤ e → nat_lt 0 (e - a) ≡ nat_lt a e
some_part a e le = elim (cases_lt a e) [
  | inl less ↦ lt-ltb 0 (e - a) (omega arith) ∙ sym (lt-ltb a e less)
  | inr more ↦ le-ltb 0 (e - a) (omega arith) ∙ sym (le-ltb a e more)
]

-- the words from a on, where a part ends at e
pub words_more : (at : ℕ) (line : List ℕ) (a e : ℕ) → a ≤ e → e < length line
    → ((k : ℕ) → a ≤ k → k < e → is_blank (get_or line k 0) ≡ false) → is_blank (get_or line e 0) ≡ true
    → words_of (at + a) (drop a line)
    ≡ cond (nat_lt a e)
    (record { at = at + a; bytes = slice_range line a e } ∷ words_of (at + (e + 1)) (drop (e + 1) line))
    (words_of (at + (e + 1)) (drop (e + 1) line))
words_more at line a e le lt before here =
    let word : Piece = record { at = at + a; bytes = slice_range line a e } in
    let size : length (slice_range line a e) ≡ e - a = length-range line a e le (omega arith) in
    let next : at + a + length (slice_range line a e) + 1 ≡ at + (e + 1) = omega (arith, size) in
    ap (λ parts. filter (λ (w : Piece). nat_lt 0 (length w.bytes)) (placed (at + a) parts))
    (part is_blank line a e le lt before here)
    ∙ filter_part (at + a) (e - a) (slice_range line a e)
    (placed (at + a + length (slice_range line a e) + 1) (slice_split is_blank (drop (e + 1) line))) size
    ∙ ap (λ b. cond b (word ∷ words_of (at + a + length (slice_range line a e) + 1) (drop (e + 1) line))
    (words_of (at + a + length (slice_range line a e) + 1) (drop (e + 1) line))) (some_part a e le)
    ∙ ap (λ n. cond (nat_lt a e) (word ∷ words_of n (drop (e + 1) line)) (words_of n (drop (e + 1) line))) next

pub words_last : (at : ℕ) (line : List ℕ) (a e : ℕ) → a ≤ e → e ≡ length line
    → ((k : ℕ) → a ≤ k → k < e → is_blank (get_or line k 0) ≡ false)
    → words_of (at + a) (drop a line) ≡ cond (nat_lt a e) (record { at = at + a; bytes = slice_range line a e } ∷ []) []
words_last at line a e le end before =
    let size : length (slice_range line a e) ≡ e - a = length-range line a e le (omega arith) in
    ap (λ parts. filter (λ (w : Piece). nat_lt 0 (length w.bytes)) (placed (at + a) parts))
    (last_part is_blank line a e le end before)
    ∙ filter_part (at + a) (e - a) (slice_range line a e) [] size
    ∙ ap (λ b. cond b (record { at = at + a; bytes = slice_range line a e } ∷ []) []) (some_part a e le)

-- a text has a part
some_parts : (p : ℕ → Bool) (xs : List ℕ)
    → (first : List ℕ) × (more : List (List ℕ)) × (slice_split p xs ≡ first ∷ more)
some_parts p [] = ([], [], refl)
some_parts p (x ∷ xs) = by_case (p x) (some_parts p xs)
  where
    by_case : (b : Bool) → (first : List ℕ) × (more : List (List ℕ)) × (slice_split p xs ≡ first ∷ more)
        → (first : List ℕ) × (more : List (List ℕ))
        × (cond b ([] ∷ slice_split p xs) (onto_first x (slice_split p xs)) ≡ first ∷ more)
    by_case true h = ([], slice_split p xs, refl)
    by_case false h = (x ∷ h.0, h.1, ap (onto_first x) h.2)

-- the lines from a on, where a line feed stands at e
pub lines_more : (text : List ℕ) (a e : ℕ) → a ≤ e → e < length text
    → ((k : ℕ) → a ≤ k → k < e → is_feed (get_or text k 0) ≡ false) → is_feed (get_or text e 0) ≡ true
    → words_of_lines a (slice_split is_feed (drop a text))
    ≡ kept_before (words_of a (strip_carriage_return (slice_range text a e)))
    (words_of_lines (e + 1) (slice_split is_feed (drop (e + 1) text)))
lines_more text a e le lt before here =
    let size : length (slice_range text a e) ≡ e - a = length-range text a e le (omega arith) in
    let next : a + length (slice_range text a e) + 1 ≡ e + 1 = omega (arith, size) in
    let rest = some_parts is_feed (drop (e + 1) text) in
    ap (words_of_lines a) (part is_feed text a e le lt before here)
    ∙ ap (λ parts. words_of_lines a (slice_range text a e ∷ parts)) rest.2
    ∙ ap (λ n. kept_before (words_of a (strip_carriage_return (slice_range text a e)))
    (words_of_lines n (rest.0 ∷ rest.1))) next
    ∙ ap (λ parts. kept_before (words_of a (strip_carriage_return (slice_range text a e)))
    (words_of_lines (e + 1) parts)) (sym rest.2)

pub lines_last : (text : List ℕ) (a e : ℕ) → a ≤ e → e ≡ length text
    → ((k : ℕ) → a ≤ k → k < e → is_feed (get_or text k 0) ≡ false)
    → words_of_lines a (slice_split is_feed (drop a text)) ≡ kept_before (words_of a (slice_range text a e)) []
lines_last text a e le end before = ap (words_of_lines a) (last_part is_feed text a e le end before)
