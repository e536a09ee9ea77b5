-- Trees of words. Item i has bit i % 64 of word i / 64, and is word i + 1, or a leaf if there is no such word.
use Rattle.std.specs.Prelude.{◌≡◌, ◌≢◌, ◌↔◌, ℕ, ◌+◌, ◌*◌, ◌/◌, ◌%◌, ◌<◌, ◌≤◌, ◌^◌, List, get_or, length}
use Rattle.std.specs.Int.{bit_at}

abbrev pub word_at : List ℕ → ℕ → ℕ
word_at words k = get_or words k 0

pub record IsMarked (words : List ℕ) (i : ℕ) : Type 0 where
  pub bit : bit_at (word_at words (i / 64)) (i % 64) ≡ 1

-- the items that are words are marked exactly where these have a bit, or all but one are
pub record AreNoted (words : List ℕ) : Type 0 where
  pub each : (i : ℕ) → i + 1 < length words → IsMarked words i ↔ (0 < word_at words (i + 1))

pub record AreNotedBut (words : List ℕ) (but : ℕ) : Type 0 where
  pub each : (i : ℕ) → i + 1 < length words → i ≢ but → IsMarked words i ↔ (0 < word_at words (i + 1))

-- the last marked item before this one
pub record IsLast (words : List ℕ) (item r : ℕ) : Type 0 where
  pub order : r < item
  pub marked : IsMarked words r
  pub none : (i : ℕ) → r < i → i < item → ¬ IsMarked words i

-- the first from this one on
pub record IsFirst (words : List ℕ) (item r : ℕ) : Type 0 where
  pub order : item ≤ r
  pub within : r < 64 * length words
  pub marked : IsMarked words r
  pub none : (i : ℕ) → item ≤ i → i < r → ¬ IsMarked words i

pub record AreSound (words : List ℕ) : Type 0 where
  pub some : 0 < length words
  pub small : length words < 2 ^ 26
  pub noted : AreNoted words
