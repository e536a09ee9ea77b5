use Rattle.std.proofs.Common.{ℕ, sym, subst, drop, List, []}
use Rattle.cif_form.specs.Scans.{Scans}
use Rattle.cif_form.specs.Scans.TextRule.{C4, C5}
use Rattle.cif_form.specs.Scans.TextEnd.{Whole, Broken}
use Rattle.cif_reader.proofs.Scanned.{refused_at, ends_inside, ends_whole, ends_early}
use Rattle.cif_reader.proofs.read.finish.Goals as goal

pub returns-then-inside-clause-err : goal.returns-then-inside-clause-err
returns-then-inside-clause-err c =
    let bytes : List ℕ = c.args.bytes.now in
    let at = c.args.at in
    refused_at bytes at c.args.inside C4 at c.broken.result c.broken.ensures
    (subst (λ i. Scans i at (drop at bytes) [] (Broken C4 at)) (sym c.if-inside.true)
    (ends_inside bytes at c.requires.bound c.requires.byte))

pub returns-then-after-bytes-clause-err : goal.returns-then-after-bytes-clause-err
returns-then-after-bytes-clause-err c =
    let bytes : List ℕ = c.args.bytes.now in
    let at = c.args.at in
    let after = c.past_blanks-after.result in
    refused_at bytes at c.args.inside C5 after c.broken-then-after-bytes.result c.broken-then-after-bytes.ensures
    (subst (λ i. Scans i at (drop at bytes) [] (Broken C5 after)) (sym c.if-inside.false)
    (ends_early bytes at after c.requires.bound c.requires.byte c.past_blanks-after.ensures.rest
    c.past_blanks-after.ensures.behind c.if-after-bytes.true))

pub returns-clause-ok : goal.returns-clause-ok
returns-clause-ok c =
    let bytes : List ℕ = c.args.bytes.now in
    let at = c.args.at in
    subst (λ i. Scans i at (drop at bytes) [] Whole) (sym c.if-inside.false)
    (ends_whole bytes at c.past_blanks-after.result c.requires.bound c.requires.byte c.past_blanks-after.ensures.rest
    c.if-after-bytes.false)
