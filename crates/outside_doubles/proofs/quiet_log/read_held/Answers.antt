use Rattle.std.proofs.Common.{◌∙◌, [], ap, sym, length, take, unwrap_or, is_some, arith, refl}
use Rattle.std.specs.Str.{bytes_eq}
use Rattle.std.specs.FinMap.{get-empty}
use Rattle.std.specs.Ordering.{nat_cmp}
use Rattle.std.specs.Cmp.Lexicographic.{slice_cmp}
use Rattle.outside.specs.Outside.{bytes_of}
use Rattle.outside_doubles.specs.QuietLog.{files_in}
use Rattle.outside_doubles.proofs.QuietLemmas.{get_other, get_named, same_name}
use Rattle.outside_doubles.proofs.QuietReadings.{has_read, not_read, read_more}
use Rattle.outside_doubles.proofs.quiet_log.read_held.Goals as goal
use Rattle.outside_doubles.proofs.quiet_log.read_held.Goals.{then-eq, else-eq}

pub loop-entry-init : goal.loop-entry-init
loop-entry-init c =
    let none = get-empty (slice_cmp nat_cmp) c.args.name.now in
    record {
      held = ap is_some (sym none);
      within = omega arith;
      read = has_read _ [] c.args.at _ _ c.args.buf.now c.args.buf.now (ap (λ o. unwrap_or o []) none) refl refl
          (not_read c.args.at c.args.buf.now);
    }

pub loop-entry-preserved : goal.loop-entry-preserved
loop-entry-preserved c = elim c.if-eq.branch [
  | then-eq w ↦
      let files = files_in c.args.bytes.now (take c.loop-entry.entry-index c.args.entries.now) in
      let named = same_name c.args.name.now c.part_of.result.now (sym c.eq.ensures ∙ w.if-eq.true)
      ∙ c.part_of.ensures in
      let held = get_named c.args.bytes.now c.args.name.now c.args.entries.now c.loop-entry.entry-index _
      c.loop-entry-test.true named in
      let started = w.start_over-cursor.ensures.read (bytes_of files c.args.name.now) c.loop-entry.buf
      c.loop-entry.invariant.read in
      record {
        held = w.held-is ∙ ap is_some (sym held);
        within = omega (arith, ap (λ k. k.count) w.cursor-is, ap length w.buf-is, w.read_on-cursor.ensures.within);
        read =
            has_read _ _ c.args.at c.if-eq.cursor w.read_on-cursor.result c.if-eq.buf w.read_on-cursor.new.buf
            (ap (λ o. unwrap_or o []) held)
            w.cursor-is w.buf-is
            (read_more _ w.part_of-then-eq.result.now _ c.args.at w.read_on-cursor.result w.read_on-cursor.new.buf
            w.part_of-then-eq.ensures
            (w.read_on-cursor.ensures.read _ c.args.at started));
      }
  | else-eq w ↦
      let other = get_other c.args.bytes.now c.args.name.now c.args.entries.now c.loop-entry.entry-index _
      c.loop-entry-test.true
      (ap (bytes_eq c.args.name.now) (sym c.part_of.ensures) ∙ sym c.eq.ensures ∙ w.if-eq.false) in
      record {
        held = w.held-is ∙ c.loop-entry.invariant.held ∙ ap is_some (sym other);
        within = omega (arith, ap (λ k. k.count) w.cursor-is, ap length w.buf-is, c.loop-entry.invariant.within);
        read =
            has_read _ _ c.args.at c.if-eq.cursor c.loop-entry.cursor c.if-eq.buf c.loop-entry.buf
            (ap (λ o. unwrap_or o []) other) w.cursor-is w.buf-is c.loop-entry.invariant.read;
      }
]
