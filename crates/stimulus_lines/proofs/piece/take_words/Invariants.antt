use Rattle.std.proofs.Common.{◌≡◌, ◌+◌, ◌-◌, ◌≤◌, ◌++◌, length, drop}
use Rattle.stimulus_lines.specs.Words.{words_of}
use Rattle.stimulus_lines.proofs.piece.take_words.Given as goal

abbrev pub invariant-parts : goal.invariant-parts
invariant-parts l = record {
  within : l.start ≤ length l.line;
  words : l.words.items ++ words_of (l.at + l.start) (drop l.start l.line) ≡ words_of l.at l.line;
}

abbrev pub decreases-parts : goal.decreases-parts
decreases-parts l = length l.line - l.start
