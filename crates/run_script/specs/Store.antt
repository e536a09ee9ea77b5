-- What the files and the output of a run hold, where they tell it.
use Rattle.std.specs.Prelude.{ℕ, List, Option, Some, None}
use Rattle.outside.specs.Outside.{Files}
use Rattle.outside_doubles.specs.MemDepot.{files}
use Rattle.outside_doubles.specs.MemSink.{sink_bytes}
use Rattle.outside_doubles.specs.QuietDepot.{told as told_files}
use Rattle.outside_doubles.specs.QuietSink.{told as told_bytes}
use Rattle.run_script.specs.declared.store.Store.{Store}
use Rattle.run_script.specs.declared.store.Store.TheVariants as stores
use Rattle.run_script.specs.declared.store.Output.{Output}
use Rattle.run_script.specs.declared.store.Output.TheVariants as outputs

-- the files, where they are told
abbrev pub store_files : Store → Option Files
store_files (stores.Failing depot) = Some (files depot)
store_files (stores.Quiet depot) = told_files depot
store_files stores.Endless = None

-- what was written, where that is told
abbrev pub output_bytes : Output → Option (List ℕ)
output_bytes (outputs.Failing sink) = Some (sink_bytes sink)
output_bytes (outputs.Quiet sink) = told_bytes sink
