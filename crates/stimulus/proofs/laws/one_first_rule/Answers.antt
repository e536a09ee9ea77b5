use Rattle.stimulus_lines.specs.Words.{lines}
use Rattle.stimulus.specs.Reading.{nothing}
use Rattle.stimulus.proofs.Once.{reads_no}
use Rattle.stimulus.proofs.FirstOnce.{first_once}
use Rattle.stimulus.proofs.laws.one_first_rule.Goals as goal

pub returns-clause-first : goal.returns-clause-first
returns-clause-first c = first_once

pub returns-clause-whole : goal.returns-clause-whole
returns-clause-whole c =
    λ text known s k at h f. reads_no known nothing h.reading (lines text) k at.offset h.reads f.broken
