-- The lines of a stimulus text, and their words.
use Rattle.std.specs.Prelude.{ℕ, ◌+◌, List, [], ◌∷◌, Bool, true, cond, ◌==◌, ◌||◌, nat_lt, length, filter, slice_index}
use Rattle.std.specs.List.{slice_split}
use Rattle.std.specs.Str.Lines.{strip_carriage_return}
use Rattle.mp_base.specs.Lines.{is_feed}
use Rattle.stimulus_lines.specs.declared.piece.Piece.{Piece}

-- spaces and tabs part words
abbrev pub is_blank : ℕ → Bool
is_blank c = c == 32 || c == 9

-- parts that one byte keeps apart, each with its place, where the first has this one
abbrev pub placed : ℕ → List (List ℕ) → List Piece
placed at [] = []
placed at (part ∷ parts) = record { at = at; bytes = part } ∷ placed (at + length part + 1) parts

-- the words of a line that begins at this place
abbrev pub words_of : ℕ → List ℕ → List Piece
words_of at line = filter (λ w. nat_lt 0 (length w.bytes)) (placed at (slice_split is_blank line))

-- a line without words, or whose first word begins with `;`
abbrev pub is_skipped : List Piece → Bool
is_skipped [] = true
is_skipped (w ∷ ws) = slice_index w.bytes 0 == 59

-- a line's words before those of later lines, unless it is skipped
abbrev pub kept_before : List Piece → List (List Piece) → List (List Piece)
kept_before words lines = cond (is_skipped words) lines (words ∷ lines)

-- the words of lines, of which all but the last end with a line feed
abbrev pub words_of_lines : ℕ → List (List ℕ) → List (List Piece)
words_of_lines at [] = []
words_of_lines at (line ∷ []) = kept_before (words_of at line) []
words_of_lines at (line ∷ next ∷ more) =
    kept_before (words_of at (strip_carriage_return line)) (words_of_lines (at + length line + 1) (next ∷ more))

-- the words of each line that isn't skipped
abbrev pub lines : List ℕ → List (List Piece)
lines text = words_of_lines 0 (slice_split is_feed text)
