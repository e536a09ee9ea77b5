use Rattle.std.proofs.Common.{◌≡◌, None, length, inl, inr, arith}
use Rattle.std.proofs.lemmas.Bool.{cases_lt}
use Rattle.std.proofs.lemmas.List.{get_or_past}
use Rattle.switch_net.specs.Values.{driver_at}
use Rattle.settle.proofs.start.wake_all.Goals as goal

pub returns-clause-driven : goal.returns-clause-driven
returns-clause-driven c n t d =
    let drive = c.args.drive.now in
    elim (cases_lt n (length drive)) [
      | inl lt ↦ c.loop-node.invariant.driven n t (omega arith) d
      | inr far ↦ absurd (let past : driver_at drive n ≡ None = get_or_past drive n None far in cc)
    ]
