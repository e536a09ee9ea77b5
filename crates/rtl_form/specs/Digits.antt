-- What is written to a cell, bit by bit.
use Rattle.std.specs.Prelude.{◌≡◌, ℕ, List, Bool, ◌&&◌, ◌||◌, ◌==◌, not, unwrap_or}
use Rattle.std.specs.List.{list_any}
use Rattle.std.specs.Int.{bit_at}
use Rattle.mp_base.specs.Merge.{merged}
use Rattle.rtl_form.specs.declared.rtl.Transfer.{Transfer}
use Rattle.rtl_form.specs.Written.{writes, written}

-- bit k of a number
abbrev pub digit : ℕ → ℕ → Bool
digit x k = bit_at x k == 1

-- a transfer that is active writes a 1 at bit k
abbrev pub writes_one : (ℕ → ℕ) → ℕ → ℕ → Transfer → Bool
writes_one v c k t = writes v c t && digit (v t.value) k

-- bit k of what is written is the OR of the bits of the active transfers; where none is active it is the bit that was
-- there
abbrev pub WrittenDigits : Type 0
WrittenDigits =
    (v : ℕ → ℕ) (c d k : ℕ) (ts : List Transfer)
    → digit (unwrap_or (merged (written v c ts)) d) k ≡
    (list_any (writes_one v c k) ts || (not (list_any (writes v c) ts) && digit d k))
