use Rattle.std.proofs.Common.{◌-◌, subst, arith, drop, take, length}
use Rattle.outside.proofs.FilesLemmas.{rest_of}
use Rattle.cif_form.specs.Labels.{IsSpace}
use Rattle.cif_flat.specs.Labelling.{Begins}
use Rattle.cif_flat.proofs.Words.{no_spaces, no_word, next_word_of}
use Rattle.cif_flat.proofs.label.next_word.Goals as goal

pub returns-then-start-eq0-clause-none : goal.returns-then-start-eq0-clause-none
returns-then-start-eq0-clause-none c =
    λ w r. no_spaces c.args.text.now w r
    (subst (λ n. Begins (λ b. ¬ IsSpace b) (drop n c.args.text.now)) c.if-start-eq0.true
    c.space_count-start.ensures.stops)

pub returns-then-size-eq0-clause-none : goal.returns-then-size-eq0-clause-none
returns-then-size-eq0-clause-none c = λ w r.
    let s = c.space_count-start in
    no_word c.args.text.now w r s.result s.ensures.spaces s.ensures.stops
    (subst (Begins IsSpace) (rest_of c.args.text.now s.result)
    (subst (λ n. Begins IsSpace (drop n (take (length c.args.text.now - s.result) (drop s.result c.args.text.now))))
    c.if-size-eq0.true c.word_size-size.ensures.stops))

pub returns-clause-some : goal.returns-clause-some
returns-clause-some c =
    let s = c.space_count-start in
    let w = c.word_size-size in
    next_word_of c.args.text.now s.result w.result _ (rest_of c.args.text.now s.result) s.ensures.within (omega arith)
    (omega arith) w.ensures.within s.ensures.spaces w.ensures.solid w.ensures.stops
