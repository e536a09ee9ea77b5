use Rattle.std.proofs.Common.{◌≡◌, ◌+◌, length, arith, ap, ◌∙◌, refl}
use Rattle.strip_rows.specs.Missing.{AreMissing}
use Rattle.strip_rows.proofs.Advancing.{lost_within, advanced, ended_same, begun_same, upon_same, beside_same}
use Rattle.strip_rows.proofs.rows.StripRows.step.Goals as goal

-- src/rows.rt
pub pair_upon-requires-clause-known : goal.pair_upon-requires-clause-known
pair_upon-requires-clause-known c =
    let lost : AreMissing c.args.old.now c.args.new.now c.missing.new.out.items = c.in_ok-missing.ensures in
    rw (c.deref-2.ensures.value, c.deref.ensures.value)
    (lost_within
    (length c.args.self.now.numbers.items) c.args.old.now c.args.new.now c.missing.new.out.items c.requires.old lost)

-- src/rows.rt
pub end_strips-requires : goal.end_strips-requires
end_strips-requires c =
    let lost : AreMissing c.args.old.now c.args.new.now c.missing.new.out.items = c.in_ok-missing.ensures in
    rw (c.deref-4.ensures.value, c.deref-5.ensures.value)
    (lost_within
    (length c.args.self.now.numbers.items) c.args.old.now c.args.new.now c.missing.new.out.items c.requires.old lost)

-- src/rows.rt
pub begin_strips-requires-clause-known : goal.begin_strips-requires-clause-known
begin_strips-requires-clause-known c =
    let fresh : AreMissing c.args.new.now c.args.old.now c.missing-2.new.out.items = c.in_ok-missing-2.ensures in
    rw c.deref-6.ensures.value
    (lost_within
    (length c.args.self.now.numbers.items) c.args.new.now c.args.old.now c.missing-2.new.out.items c.requires.new fresh)

-- src/rows.rt
pub returns-clause-swept : goal.returns-clause-swept
returns-clause-swept c = λ colour y w ch.
    let numbers = c.args.self.now.numbers.items in
    let lost = c.missing.new.out.items in
    let fresh = c.missing-2.new.out.items in
    let old_pairs = c.args.self.now.pairs.items in
    let half = c.pair_upon.new.pairs.items in
    let pairs = c.pair_beside.new.pairs.items in
    let olds = c.args.self.now.strips.items in
    let mid = c.end_strips.new.strips.items in
    let now = c.begin_strips.new.strips.items in
    let next = c.begin_strips.new.numbers.items in
    let row : c.in_ok-row.row ≡ y + 1 = c.in_ok-row.ensures ∙ ap (λ n. n + 1) w.row in
    let first : c.in-Ok.first ≡ length olds = omega (arith, c.in-Ok.ensures) in
    advanced colour y c.in_ok-row.row c.args.self.now _ c.args.old.now c.args.new.now lost fresh mid c.in-Ok.first half
    w ch (length numbers)
    c.requires.new row refl first c.in_ok-missing.ensures c.in_ok-missing-2.ensures
    (upon_same numbers c.deref.result.now lost c.deref-2.result.now fresh c.deref-3.result.now c.in-Ok.first old_pairs
    half c.deref.ensures.value
    c.deref-2.ensures.value c.deref-3.ensures.value c.in_ok-pair_upon.ensures)
    (ended_same numbers c.deref-5.result.now lost c.deref-4.result.now c.in_ok-row.row olds mid c.deref-5.ensures.value
    c.deref-4.ensures.value
    c.end_strips.ensures)
    (begun_same fresh c.deref-6.result.now c.in_ok-row.row mid now numbers next c.deref-6.ensures.value
    c.in_ok-begin_strips.ensures)
    (beside_same next c.deref-7.result.now c.in-Ok.first c.args.new.now half pairs c.deref-7.ensures.value
    c.in_ok-pair_beside.ensures)
