use Rattle.std.proofs.Common.{◌≡◌, drop, reverse, take}
use Rattle.expansion.proofs.layout.take_operands.Given as goal

abbrev pub invariant-loop : goal.invariant-loop
invariant-loop l = record {
  taken : l.operands ≡ take l.counter (reverse l.fn.stack.items);
  left : reverse l.stack.items ≡ drop l.counter (reverse l.fn.stack.items);
}
