-- An expansion that breaks no rule isn't refused.
use Rattle.std.proofs.Common.{Result, Ok, Err}
use Rattle.mp_base.specs.declared.refusal.Spot.{Spot}
use Rattle.mp_base.specs.declared.refusal.Spot.TheVariants.{At, Offset, Named, Nowhere}
use Rattle.mp_base.specs.declared.refusal.Refusal.{Refusal}
use Rattle.mp_base.specs.declared.refusal.Refusal.TheVariants as refusals
use Rattle.mp_base.specs.Refuses.{IsJudged, SpotIs}
use Rattle.mp_program.specs.declared.program.Program as plain
use Rattle.mp_rules.specs.Breaking as plain_breaking
use Rattle.mp_written.specs.declared.program.Program.{Program}
use Rattle.written_rules.specs.Breaking.{IsUnbroken, OfWritten}

pub judged_again : {T : Type 0} (w : Program) (p : plain.Program) (result : Result T Refusal) → IsUnbroken w
    → plain_breaking.IsUnbroken p → IsJudged (plain_breaking.OfProgram p) result → IsJudged (OfWritten w) result
judged_again w p (Ok value) kept unbroken judged = kept
judged_again w p (Err refusals.NoMemory) kept unbroken judged = tt
judged_again w p (Err (refusals.Broken b)) kept unbroken judged = absurd (by b.spot judged.1)
  where
    by : (s : Spot) → SpotIs s (plain_breaking.IsFirst p b.rule.number) → ⊥
    by (At at) first = unbroken b.rule.number at first.broken
    by (Offset o) first = first
    by (Named n) first = first
    by Nowhere first = first
