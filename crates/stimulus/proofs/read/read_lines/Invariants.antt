use Rattle.std.proofs.Common.{ℕ, ◌≤◌, ◌-◌, length, drop}
use Rattle.std.specs.List.{slice_split}
use Rattle.std.specs.Option.{option_copied}
use Rattle.stimulus.specs.declared.reading.Reading.{Reading}
use Rattle.stimulus_lines.specs.Words.{lines, words_of_lines}
use Rattle.mp_base.specs.Lines.{is_feed}
use Rattle.stimulus.specs.Reading.{nothing, Reads, FirstBroken}
use Rattle.stimulus.proofs.read.read_lines.Given as goal

abbrev pub invariant-lines : goal.invariant-lines
invariant-lines l = record {
  within : l.start ≤ length l.text;
  few : length (l.reading).inputs ≤ 256;
  reads : (t : Reading)
      → Reads (option_copied l.known) l.reading (words_of_lines l.start (slice_split is_feed (drop l.start l.text))) t
      → Reads (option_copied l.known) nothing (lines l.text) t;
  breaks : (k at : ℕ)
      → FirstBroken (option_copied l.known) l.reading
      (words_of_lines l.start (slice_split is_feed (drop l.start l.text))) k at
      → FirstBroken (option_copied l.known) nothing (lines l.text) k at;
}

abbrev pub decreases-lines : goal.decreases-lines
decreases-lines l = length l.text - l.start
