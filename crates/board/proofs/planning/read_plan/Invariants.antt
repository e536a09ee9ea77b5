use Rattle.std.proofs.Common.{◌<◌, ◌^◌, length, map, string_bytes, take}
use Rattle.board.specs.Plans.{IsPlan}
use Rattle.board.proofs.planning.read_plan.Given as goal

abbrev pub invariant-loop-word : goal.invariant-loop-word
invariant-loop-word g l = record {
  few : length l.plan.links < 2 ^ 32;
  plan : IsPlan (record {
    clocks = l.clocks;
    parts = map (λ p. string_bytes p.name) l.parts;
    pads = l.pads;
  }) (map string_bytes (take l.word-index l.words)) l.plan;
}
