use Rattle.std.proofs.Common.{map, string_bytes, take}
use Rattle.board.specs.Links.{AreLinks}
use Rattle.board.proofs.reading.read_links.Given as goal

abbrev pub invariant-loop-word : goal.invariant-loop-word
invariant-loop-word g l =
    AreLinks (map (λ p. string_bytes p.name) l.parts) l.pads (map string_bytes (take l.word-index l.words)) l.links
