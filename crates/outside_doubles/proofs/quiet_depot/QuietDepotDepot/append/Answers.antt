use Rattle.std.proofs.Common.{◌∙◌, ◌≡◌, ◌+◌, ◌++◌, ap, sym, length, take, true, arith}
use Rattle.std.proofs.Math.Seq.{take-length}
use Rattle.std.specs.FinMap.{insert}
use Rattle.outside.specs.Outside.{Files, Grows, bytes_of}
use Rattle.outside_doubles.specs.QuietLog.{part_of, is_part, files_in}
use Rattle.outside_doubles.proofs.QuietLemmas.{entry_parts, entry_put, stays_part, put_is_part}
use Rattle.outside_doubles.proofs.QuietLemmas.{kept_part, put_part, told_fits}
use Rattle.outside_doubles.proofs.QuietLemmas.{told_step, where_told}
use Rattle.outside_doubles.proofs.quiet_depot.QuietDepotDepot.append.Goals as goal

pub invariant_of-self-in-Some-clause-parts : goal.invariant_of-self-in-Some-clause-parts
invariant_of-self-in-Some-clause-parts c =
    let old = c.args.self.now in
    let put = c.push_part-text.ensures in
    let new = c.push_part-text.new.bytes.items in
    let within : is_part (length old.bytes.items) c.in-Some.name ≡ true =
    ap (λ bytes. is_part (length bytes) c.in-Some.name) (sym c.deref.ensures.value) ∙ c.in-Some.ensures.within in
    entry_parts old.bytes.items c.args.bytes.now new old.log.items c.push_entry.new.entries.items _ old.parts put.items
    c.push_entry.ensures.items
    (stays_part old.bytes.items c.args.bytes.now new c.in-Some.name put.items within)
    (put_is_part old.bytes.items c.args.bytes.now new c.push_part-text.result put.items put.start put.end)

pub returns-in-Some-clause-taken : goal.returns-in-Some-clause-taken
returns-in-Some-clause-taken c =
    let old = c.args.self.now in
    let put = c.push_part-text.ensures in
    let new = c.push_part-text.new.bytes.items in
    let within : is_part (length old.bytes.items) c.in-Some.name ≡ true =
    ap (λ bytes. is_part (length bytes) c.in-Some.name) (sym c.deref.ensures.value) ∙ c.in-Some.ensures.within in
    let named : part_of old.bytes.items c.in-Some.name ≡ c.args.name.now =
    ap (λ bytes. part_of bytes c.in-Some.name) (sym c.deref.ensures.value) ∙ c.in-Some.ensures.name
    ∙ c.as_bytes.ensures.value in
    let files = files_in old.bytes.items old.log.items in
    let grown = entry_put old.bytes.items c.args.bytes.now new old.log.items c.push_entry.new.entries.items _
    c.args.name.now c.args.bytes.now
    old.parts put.items c.push_entry.ensures.items
    (kept_part old.bytes.items c.args.bytes.now new c.in-Some.name put.items within ∙ named)
    (put_part old.bytes.items c.args.bytes.now new c.push_part-text.result put.items put.start put.end) in (
      omega arith,
      λ some. some,
      where_told (Grows c.args.name.now (take (length c.args.bytes.now) c.args.bytes.now)) old.telling _ _
          (grown ∙ ap (λ text. insert files c.args.name.now (bytes_of files c.args.name.now ++ text))
          (sym (take-length c.args.bytes.now))),
    )

pub returns-in-Some-clause-told : goal.returns-in-Some-clause-told
returns-in-Some-clause-told c =
    let old = c.args.self.now in
    let put = c.push_part-text.ensures in
    let new = c.push_part-text.new.bytes.items in
    let within : is_part (length old.bytes.items) c.in-Some.name ≡ true =
    ap (λ bytes. is_part (length bytes) c.in-Some.name) (sym c.deref.ensures.value) ∙ c.in-Some.ensures.within in
    let named : part_of old.bytes.items c.in-Some.name ≡ c.args.name.now =
    ap (λ bytes. part_of bytes c.in-Some.name) (sym c.deref.ensures.value) ∙ c.in-Some.ensures.name
    ∙ c.as_bytes.ensures.value in
    let grown = entry_put old.bytes.items c.args.bytes.now new old.log.items c.push_entry.new.entries.items _
    c.args.name.now c.args.bytes.now
    old.parts put.items c.push_entry.ensures.items
    (kept_part old.bytes.items c.args.bytes.now new c.in-Some.name put.items within ∙ named)
    (put_part old.bytes.items c.args.bytes.now new c.push_part-text.result put.items put.start put.end) in
    let step : Files → Files = λ files. insert files c.args.name.now
    (bytes_of files c.args.name.now ++ c.args.bytes.now) in
    told_step old.telling step _ _ grown
    ∙ sym (told_fits (64 + length c.args.bytes.now) old.room step _ (sym c.fits.ensures ∙ c.if-not-fits.false))
