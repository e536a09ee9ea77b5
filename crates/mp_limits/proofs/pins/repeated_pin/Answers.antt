use Rattle.std.proofs.Common.{◌≡◌, List, length, ap, ◌∙◌, subst, arith}
use Rattle.std.specs.Ordering.{nat_cmp}
use Rattle.mp_program.specs.declared.program.Pin.{Pin}
use Rattle.mp_program.specs.declared.program.Def.{Def}
use Rattle.mp_rules.specs.Breaking.{IsEarliest}
use Rattle.mp_rules.specs.Rules.{pins}
use Rattle.std.specs.List.{flat_map, list_any}
use Rattle.std.specs.BTreeMap.{is_at}
use Rattle.mp_base.proofs.Lists.{take_whole}
use Rattle.mp_limits.specs.Finding.{IsRepeatedIn, pins_before}
use Rattle.mp_limits.proofs.Seen.{seen_none}
use Rattle.mp_limits.proofs.pins.repeated_pin.Goals as goal

pub loop-index-init : goal.loop-index-init
loop-index-init c = seen_none c.new-seen.result (λ n. ap (list_any (is_at (nat_cmp n))) c.new-seen.ensures.empty)

pub returns : goal.returns
returns c =
    let end : c.loop-index.index ≡ length c.as_slice-defs.result.now = omega arith in
    let whole : pins_before c.as_slice-defs.result.now c.loop-index.index ≡ pins c.args.program.now =
    ap (pins_before c.as_slice-defs.result.now) end
    ∙ ap (flat_map (λ (d : Def). d.pins)) (take_whole c.as_slice-defs.result.now ∙ c.as_slice-defs.ensures) in
    let P : List Pin → Type 0 = λ ps. IsEarliest (IsRepeatedIn ps) c.loop-index.found in
    subst P whole c.loop-index.invariant.earliest
