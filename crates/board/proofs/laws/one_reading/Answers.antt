use Rattle.board.proofs.Verdict.{broken_once, links_once, whole_or_broken}
use Rattle.board.proofs.laws.one_reading.Goals as goal

pub returns-clause-links : goal.returns-clause-links
returns-clause-links c parts words pads = links_once parts pads words

pub returns-clause-first : goal.returns-clause-first
returns-clause-first c parts words pads = broken_once parts pads words

pub returns-clause-whole : goal.returns-clause-whole
returns-clause-whole c parts words pads = whole_or_broken parts pads words
