-- Blanks, comments, runs of token characters, and places.
use Rattle.std.specs.Prelude.{◌≡◌, ℕ, ◌+◌, ◌<◌, ◌≤◌, List, [], ◌∷◌, ◌++◌, Bool, true, false, ◌||◌, ◌&&◌, not, cond}
use Rattle.std.specs.Prelude.{◌==◌, length, take, drop, slice_index, slice_range, count_by}
use Rattle.std.specs.List.{list_all, suffix_len}
use Rattle.mp_base.specs.declared.refusal.Place.{Place}
use Rattle.mp_base.specs.Token.{is_token}
use Rattle.mp_base.specs.Lines.{is_feed}

-- a space, tab, line feed or carriage return
abbrev pub is_blank : ℕ → Bool
is_blank c = c == 32 || c == 9 || c == 10 || c == 13

-- `(`, `)` and `;`
abbrev pub is_mark : ℕ → Bool
is_mark c = c == 40 || c == 41 || c == 59

-- whether one is in a comment behind the byte c
abbrev pub comment_step : Bool → ℕ → Bool
comment_step comment c = cond (is_feed c) false (comment || c == 59)

-- whether the end of a text is in a comment
abbrev pub comment_after : Bool → List ℕ → Bool
comment_after comment [] = comment
comment_after comment (c ∷ cs) = comment_after (comment_step comment c) cs

-- a byte that may stand between tokens
abbrev pub fills_gap : Bool → ℕ → Bool
fills_gap comment c = comment || (c == 59 || is_blank c)

-- blanks, and comments up to their line feeds; at first outside a comment or in one
abbrev pub is_gap : Bool → List ℕ → Bool
is_gap comment [] = not comment
is_gap comment (c ∷ cs) = fills_gap comment c && is_gap (comment_step comment c) cs

-- blanks and whole comments from i to s
abbrev pub IsGapBetween : List ℕ → ℕ → ℕ → Type 0
IsGapBetween text i s = (i ≤ s) × (is_gap false (slice_range text i s) ≡ true)

-- a gap from i to the end, where a comment may be open
abbrev pub EndsInGap : List ℕ → ℕ → Type 0
EndsInGap text i = (i ≤ length text) × (is_gap false (drop i text ++ 10 ∷ []) ≡ true)

-- a longest run of token characters from s to e
pub record IsRun (text : List ℕ) (s e : ℕ) : Type 0 where
  pub some : s < e
  pub within : e ≤ length text
  pub all : list_all is_token (slice_range text s e) ≡ true
  pub ended : is_token (slice_index text e) ≡ false

-- the byte at s
abbrev pub IsByte : List ℕ → ℕ → ℕ → Type 0
IsByte text s c = (s < length text) × (slice_index text s ≡ c)

-- the place of an offset: one more than the line feeds before it, and one more than the bytes since the last of them
abbrev pub place_at : List ℕ → ℕ → Place
place_at text o = record {
  offset = o;
  line = count_by is_feed (take o text) + 1;
  column = suffix_len (λ c. not (is_feed c)) (take o text) + 1;
}
