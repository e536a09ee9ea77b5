use Rattle.std.proofs.Common.{◌∙◌, ap, sym}
use Rattle.std.specs.Str.{bytes_eq}
use Rattle.std.specs.FinMap.{get-empty}
use Rattle.std.specs.Ordering.{nat_cmp}
use Rattle.std.specs.Cmp.Lexicographic.{slice_cmp}
use Rattle.outside_doubles.proofs.QuietLemmas.{get_other}
use Rattle.outside_doubles.proofs.quiet_log.find_name.Goals as goal

pub loop-entry-init : goal.loop-entry-init
loop-entry-init c = get-empty (slice_cmp nat_cmp) c.args.name.now

pub loop-entry-preserved : goal.loop-entry-preserved
loop-entry-preserved c =
    get_other c.args.bytes.now c.args.name.now c.args.entries.now c.loop-entry.entry-index _ c.loop-entry-test.true
    (ap (bytes_eq c.args.name.now) (sym c.part_of.ensures) ∙ sym c.eq.ensures ∙ c.if-eq.false)
    ∙ c.loop-entry.invariant
