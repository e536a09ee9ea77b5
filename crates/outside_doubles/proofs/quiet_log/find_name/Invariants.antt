use Rattle.std.proofs.Common.{◌≡◌, take, None}
use Rattle.std.specs.FinMap.{get}
use Rattle.outside_doubles.specs.QuietLog.{files_in}
use Rattle.outside_doubles.proofs.quiet_log.find_name.Given as goal

-- no entry so far has the name
abbrev pub invariant-loop-entry : goal.invariant-loop-entry
invariant-loop-entry l = get (files_in l.bytes (take l.entry-index l.entries)) l.name ≡ None
