-- A read of a file from a place on, whose bytes come one piece after another.
use Rattle.std.specs.Prelude.{◌≡◌, ℕ, ◌-◌, min, List, length, take, drop}
use Rattle.outside_doubles.specs.declared.quiet_log.Cursor.{Cursor}

-- of these bytes, those from the place on stand at the front of the buffer, as many as fit
pub record HasRead (bytes : List ℕ) (at : ℕ) (cursor : Cursor) (buf : List ℕ) : Type 0 where
  pub skip : cursor.skip ≡ at - length bytes
  pub count : cursor.count ≡ min (length buf) (length bytes - at)
  pub copied : take cursor.count buf ≡ take cursor.count (drop at bytes)
