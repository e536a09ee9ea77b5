use Rattle.std.proofs.Common.{◌∙◌, ◌+◌, [], ap, sym, length, refl, arith}
use Rattle.std.specs.FinMap.{insert}
use Rattle.outside.specs.Outside.{Files, Creates}
use Rattle.outside_doubles.specs.QuietLog.{files_in}
use Rattle.outside_doubles.proofs.QuietLemmas.{entry_parts, put_is_part, part_stands, file_made, told_fits, told_step}
use Rattle.outside_doubles.proofs.QuietLemmas.{where_told}
use Rattle.outside_doubles.proofs.quiet_depot.QuietDepotDepot.create.Goals as goal

pub invariant_of-self-2-clause-parts : goal.invariant_of-self-2-clause-parts
invariant_of-self-2-clause-parts c =
    let old = c.args.self.now in
    let put = c.push_part-name.ensures in
    entry_parts old.bytes.items c.as_bytes.result.now c.push_part-name.new.bytes.items old.log.items
    c.push_entry.new.entries.items _
    old.parts put.items c.push_entry.ensures.items
    (put_is_part old.bytes.items c.as_bytes.result.now c.push_part-name.new.bytes.items c.push_part-name.result
    put.items put.start put.end)
    (part_stands (length c.push_part-name.new.bytes.items)
    (record { start = c.push_part-name.result.end; end = c.push_part-name.result.end }) (omega arith)
    (omega (arith, put.end)))

pub returns-clause-ok : goal.returns-clause-ok
returns-clause-ok c =
    let old = c.args.self.now in
    let put = c.push_part-name.ensures in
    let made = file_made old.bytes.items c.as_bytes.result.now c.push_part-name.new.bytes.items old.log.items
    c.push_entry.new.entries.items _ _
    old.parts put.items c.push_entry.ensures.items put.start put.end refl in
    where_told (Creates c.args.name.now) old.telling _ _ (made
    ∙ ap (λ name. insert (files_in old.bytes.items old.log.items) name []) c.as_bytes.ensures.value)

pub returns-clause-told : goal.returns-clause-told
returns-clause-told c =
    let old = c.args.self.now in
    let put = c.push_part-name.ensures in
    let made = file_made old.bytes.items c.as_bytes.result.now c.push_part-name.new.bytes.items old.log.items
    c.push_entry.new.entries.items _ _
    old.parts put.items c.push_entry.ensures.items put.start put.end refl in
    let step : Files → Files = λ files. insert files c.args.name.now [] in
    told_step old.telling step _ _ (made
    ∙ ap (λ name. insert (files_in old.bytes.items old.log.items) name []) c.as_bytes.ensures.value)
    ∙ sym (told_fits (64 + length c.args.name.now) old.room step _ (sym c.fits.ensures ∙ c.if-not-fits.false))
