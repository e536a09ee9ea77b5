use Rattle.std.proofs.Common.{◌≡◌}
use Rattle.std.specs.List.{filter_map}
use Rattle.expansion.specs.Moving.{plain_of}
use Rattle.expansion.proofs.forms.plain_defs.Given as goal

abbrev pub invariant-loop-def : goal.invariant-loop-def
invariant-loop-def l = l.list ≡ filter_map plain_of l.yielded
