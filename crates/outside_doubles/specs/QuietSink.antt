-- What a quiet output is.
use Rattle.std.specs.Prelude.{ℕ, List, Option, Some, None, if◌then◌else◌}
use Rattle.outside_doubles.specs.declared.quiet_sink.QuietSink.{QuietSink}

-- what it holds, where it tells that
abbrev pub told : QuietSink → Option (List ℕ)
told s = if s.telling then Some s.bytes.items else None

-- the room that is left
abbrev pub room_left : QuietSink → ℕ
room_left s = s.room
