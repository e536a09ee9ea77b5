use Rattle.std.specs.BTreeMap.{get, is_at}
use Rattle.std.specs.Map.{lookup}
use Rattle.std.specs.Ordering.{nat_cmp}
use Rattle.std.proofs.Common.{ap}
use Rattle.extractor.proofs.Driving.{first_goes_on, first_none}
use Rattle.extractor.proofs.drivers.first_meeting.Goals as goal

pub loop-place-init : goal.loop-place-init
loop-place-init c =
    first_none c.args.tags.now (get nat_cmp c.new-first_on.result)
    (λ n. ap (lookup (is_at (nat_cmp n))) c.new-first_on.ensures.empty)

pub loop-place-preserved : goal.loop-place-preserved
loop-place-preserved c =
    first_goes_on
    (get nat_cmp c.meets.new.first_on) c.args.tags.now c.loop-place.place c.in_ok-meets.field-0 c.in_ok-meets.ensures
    c.if-branch.false
