use Rattle.std.proofs.Common.{map, take}
use Rattle.mp_written.specs.declared.program.Arg.{Arg}
use Rattle.written_meanings.specs.Firsts.{AreFirsts}
use Rattle.written_meanings.proofs.functions.args_by_name.Given as goal

abbrev pub invariant-loop-number : goal.invariant-loop-number
invariant-loop-number l = AreFirsts (map (λ (a : Arg). a.name) (take l.number l.args)) l.firsts
