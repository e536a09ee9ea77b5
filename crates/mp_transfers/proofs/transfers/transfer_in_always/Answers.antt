use Rattle.std.proofs.Common.{List, ℕ, subst}
use Rattle.mp_rules.specs.Breaking.{IsEarliest}
use Rattle.mp_transfers.specs.Tables.{IsAmong}
use Rattle.mp_transfers.proofs.Earliest.{from_none}
use Rattle.mp_transfers.proofs.Broken.{always_broken}
use Rattle.mp_transfers.proofs.transfers.transfer_in_always.Goals as goal

pub returns : goal.returns
returns c =
    let P : List ℕ → Type 0 = λ xs. IsEarliest (IsAmong c.in_ok-firsts.firsts xs) c.least.result in
    always_broken c.args.program.now c.in_ok-firsts.firsts c.least.result c.sound.ensures c.in_ok-firsts.ensures
    (subst P c.as_slice.ensures
    (from_none (IsAmong c.in_ok-firsts.firsts c.as_slice.result.now) c.least.result c.least.ensures))
