use Rattle.std.proofs.Common.{◌≡◌, ◌∙◌, sym, true, false}
use Rattle.cif_form.specs.Scans.TextRule.{C1, C3, C4}
use Rattle.cif_reader.proofs.Scanned.{refused_at, unread, too_big, misplaced, steps}
use Rattle.cif_reader.proofs.read.next_step.Goals as goal

pub returns-in_default-clause-err : goal.returns-in_default-clause-err
returns-in_default-clause-err c =
    let f = rw c.in_default.is at c.in_ok-value.ensures in
    refused_at c.args.bytes.now c.args.at c.args.inside C1 c.args.at c.broken.result c.broken.ensures
    (unread c.args.bytes.now c.args.at c.args.inside c.requires.bound c.requires.blank c.requires.empty c.requires.end
    f)

pub returns-then-not-fits-clause-err : goal.returns-then-not-fits-clause-err
returns-then-not-fits-clause-err c =
    let f = rw c.in-Some.is at c.in_ok-value.ensures in
    refused_at c.args.bytes.now c.args.at c.args.inside C3 c.args.at c.broken-then-not-fits.result
    c.broken-then-not-fits.ensures
    (too_big c.read_command_fits.ensures c.args.bytes.now c.args.at c.in-Some.field-0.end c.args.inside
    c.in-Some.field-0.value f
    (λ k. absurd (let e : false ≡ true = sym c.if-not-fits.true ∙ c.fits.ensures.1 k in cc)))

pub returns-in_default-opens-clause-err : goal.returns-in_default-opens-clause-err
returns-in_default-opens-clause-err c =
    let f = rw c.in-Some.is at c.in_ok-value.ensures in
    refused_at c.args.bytes.now c.args.at c.args.inside C4 c.args.at c.broken-in_default-opens.result
    c.broken-in_default-opens.ensures
    (misplaced c.args.bytes.now c.args.at c.in-Some.field-0.end c.args.inside c.in-Some.field-0.value f
    (c.fits.ensures.0 c.if-not-fits.false)
    (sym c.opens.ensures ∙ c.in_default-opens.is))

pub returns-clause-ok : goal.returns-clause-ok
returns-clause-ok c =
    let f = rw c.in-Some.is at c.in_ok-value.ensures in
    steps c.args.bytes.now c.args.at c.in-Some.field-0.end c.args.inside c.in-Some-opens.inside c.in-Some.field-0.value
    f (c.fits.ensures.0 c.if-not-fits.false)
    (sym c.opens.ensures ∙ c.in-Some-opens.is)
