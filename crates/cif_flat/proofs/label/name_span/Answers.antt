use Rattle.std.proofs.Common.{◌≡◌, ◌+◌, ◌-◌, sym, subst, arith, length, All}
use Rattle.cif_form.specs.Labels.{IsSpace}
use Rattle.cif_form.specs.Names.{IsNameText}
use Rattle.cif_flat.proofs.Words.{one_word, not_all, all_spaces}
use Rattle.cif_flat.proofs.Named.{named_word, word_names, word_at, word_sizes}
use Rattle.cif_flat.proofs.label.name_span.Goals as goal

pub returns-in_default-clause-none : goal.returns-in_default-clause-none
returns-in_default-clause-none c = λ name t.
    let w = named_word name c.args.text.now t in c.in_default.ensures.none name w.0 w.1

pub returns-then-space_count-rest-clause-none : goal.returns-then-space_count-rest-clause-none
returns-then-space_count-rest-clause-none c = λ name t.
    let w = named_word name c.args.text.now t in
    let e = one_word c.args.text.now c.in-Some.word.now name c.in-Some.rest.now w.0 c.in-Some.ensures.some w.1 in
    not_all c.in-Some.rest.now c.space_count.result c.if-space_count-rest.true c.space_count.ensures.stops
    (subst (All IsSpace) (sym e.1) w.2)

pub returns-clause-some : goal.returns-clause-some
returns-clause-some c =
    let text = c.args.text.now in
    let word = c.in-Some.word.now in
    let rest = c.in-Some.rest.now in
    let is = c.in-Some.ensures.some in
    let sizes = word_sizes text word rest is in
    let ends : length text - length rest + length rest ≡ length text = omega (arith, sizes) in
    let starts : length text - length rest - length word + length word ≡ length text - length rest =
    omega (arith, sizes) in
    let at = word_at text word rest (length text - length rest - length word) (length text - length rest) is ends starts in
    subst (λ z. IsNameText z text) (sym at)
    (word_names word text rest is
    (all_spaces rest c.space_count.result (omega (arith, c.if-space_count-rest.false)) c.space_count.ensures.spaces))
