use Rattle.std.proofs.Common.{◌≡◌, ◌≤◌, take, is_some, length}
use Rattle.std.specs.FinMap.{get}
use Rattle.outside.specs.Outside.{bytes_of}
use Rattle.outside_doubles.specs.QuietLog.{files_in}
use Rattle.outside_doubles.specs.QuietReading.{HasRead}
use Rattle.outside_doubles.proofs.quiet_log.read_held.Given as goal

-- the file was read as the entries so far make it
abbrev pub invariant-loop-entry : goal.invariant-loop-entry
invariant-loop-entry l =
    let files = files_in l.bytes (take l.entry-index l.entries) in
    record {
      held : l.held ≡ is_some (get files l.name);
      within : l.cursor.count ≤ length l.buf;
      read : HasRead (bytes_of files l.name) l.at l.cursor l.buf;
    }
