use Rattle.std.proofs.Common.{◌+◌, ap, sym, subst, length, arith}
use Rattle.mp_rules.specs.Breaking.{IsEarliest}
use Rattle.written_names.proofs.EarliestIndices.{AtFirst}
use Rattle.written_names.proofs.MeantNames.{def_at}
use Rattle.written_names.proofs.TakenNames.{TakenAt, taken_def, earliest_taken}
use Rattle.written_names.proofs.arguments.taken_name.Goals as goal

pub loop-def-preserved : goal.loop-def-preserved
loop-def-preserved c =
    let w = c.args.program.now in
    let t = c.args.names.now in
    let n = c.loop-def.def-index in
    let d = c.def-item.result in
    let at = def_at w.defs c.as_slice-def-items.result.now n d c.as_slice-def-items.ensures c.loop-def-test.true
    c.def-item.is in
    subst (IsEarliest (AtFirst (TakenAt w t) (n + 1))) (sym c.earlier_of-found.ensures)
    (taken_def w t n d c.loop-def.found c.in_ok-taken_in.field-0 at c.in_ok-taken_in.ensures c.loop-def.invariant)

pub returns : goal.returns
returns c =
    let w = c.args.program.now in
    let le = c.loop-def-test.false in
    let end = c.loop-def.auto.def-index-end in
    let all = ap length c.as_slice-def-items.ensures in
    earliest_taken w c.args.names.now c.requires c.loop-def.def-index c.loop-def.found (omega (arith, le, end, all))
    c.loop-def.invariant
