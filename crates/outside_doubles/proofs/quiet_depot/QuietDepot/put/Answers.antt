use Rattle.std.proofs.Common.{◌∙◌, ◌++◌, ap, append_assoc}
use Rattle.std.specs.Option.{option_map}
use Rattle.std.specs.FinMap.{insert}
use Rattle.outside.specs.Outside.{Files}
use Rattle.outside_doubles.specs.QuietLog.{files_in}
use Rattle.outside_doubles.proofs.QuietLemmas.{entry_parts, entry_put, stays_part, put_is_part}
use Rattle.outside_doubles.proofs.QuietLemmas.{kept_part, put_part, told_step}
use Rattle.outside_doubles.proofs.QuietLemmas.{told_same}
use Rattle.outside_doubles.proofs.quiet_depot.QuietDepot.put.Goals as goal

pub invariant_of-self-clause-parts : goal.invariant_of-self-clause-parts
invariant_of-self-clause-parts c =
    let old = c.reserve.new.self in
    let name = c.as_bytes-2.result.now in
    let named = c.push_part-name.ensures in
    let texted = c.push_part-text.ensures in
    let middle = c.push_part-name.new.bytes.items in
    let new = c.push_part-text.new.bytes.items in
    let grown = texted.items ∙ ap (λ bytes. bytes ++ c.args.bytes.now) named.items
    ∙ append_assoc old.bytes.items name c.args.bytes.now in
    entry_parts old.bytes.items (name ++ c.args.bytes.now) new old.log.items c.push_entry.new.entries.items _ old.parts
    grown c.push_entry.ensures.items
    (stays_part middle c.args.bytes.now new c.push_part-name.result texted.items
    (put_is_part old.bytes.items name middle c.push_part-name.result named.items named.start named.end))
    (put_is_part middle c.args.bytes.now new c.push_part-text.result texted.items texted.start texted.end)

pub returns-clause-ok : goal.returns-clause-ok
returns-clause-ok c =
    let old = c.reserve.new.self in
    let name = c.as_bytes-2.result.now in
    let named = c.push_part-name.ensures in
    let texted = c.push_part-text.ensures in
    let middle = c.push_part-name.new.bytes.items in
    let new = c.push_part-text.new.bytes.items in
    let grown = texted.items ∙ ap (λ bytes. bytes ++ c.args.bytes.now) named.items
    ∙ append_assoc old.bytes.items name c.args.bytes.now in
    let set = entry_put old.bytes.items (name ++ c.args.bytes.now) new old.log.items c.push_entry.new.entries.items _
    name c.args.bytes.now
    old.parts grown c.push_entry.ensures.items
    (kept_part middle c.args.bytes.now new c.push_part-name.result texted.items
    (put_is_part old.bytes.items name middle c.push_part-name.result named.items named.start named.end)
    ∙ put_part old.bytes.items name middle c.push_part-name.result named.items named.start named.end)
    (put_part middle c.args.bytes.now new c.push_part-text.result texted.items texted.start texted.end) in
    let step : Files → Files = λ files. insert files c.args.name.now c.args.bytes.now in
    told_step old.telling step _ _ (set ∙ ap (λ n. insert (files_in old.bytes.items old.log.items) n c.args.bytes.now)
    c.as_bytes-2.ensures.value)
    ∙ ap (option_map step) (told_same old.telling c.args.self.now.telling old.bytes.items c.args.self.now.bytes.items
    old.log.items c.args.self.now.log.items
    c.reserve.ensures.telling c.reserve.ensures.bytes c.reserve.ensures.log)
