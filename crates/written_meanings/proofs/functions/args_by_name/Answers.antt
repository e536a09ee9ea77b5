use Rattle.std.proofs.Common.{◌≡◌, ◌∙◌, ◌∷◌, [], ◌++◌, List, ap, sym, subst, map, take, arith, rules}
use Rattle.std.proofs.lemmas.List.{take_more, take_all, map-append, length-take, length-map}
use Rattle.mp_written.specs.declared.program.Arg.{Arg}
use Rattle.written_meanings.specs.Firsts.{AreFirsts}
use Rattle.written_meanings.proofs.functions.args_by_name.Goals as goal

pub loop-number-preserved : goal.loop-number-preserved
loop-number-preserved c =
    let i = c.loop-number.number in
    let args = c.args.args.now in
    let a = c.index-args-number.result in
    let lt = c.loop-number-test.true in
    let size = length-take i args in
    let many = length-map (take i args) (λ (b : Arg). b.name) in
    let index : c.in-Ok.number ≡ i = search rules in
    subst (λ ns. AreFirsts ns c.note.new.self)
    (ap (λ x. map (λ (b : Arg). b.name) (take i args) ++ x ∷ []) c.bytes.ensures
    ∙ sym (map-append (λ (b : Arg). b.name) (take i args) (a ∷ []))
    ∙ ap (λ (l : List Arg). map (λ (b : Arg). b.name) l)
    (sym (take_more args i a lt ∙ ap (λ (b : Arg). take i args ++ b ∷ []) (sym c.index-args-number.is))))
    (c.in_ok-note.ensures (map (λ (b : Arg). b.name) (take i args)) (omega (arith, size, many, index, lt))
    c.loop-number.invariant)

pub returns : goal.returns
returns c =
    subst (λ (l : List Arg). AreFirsts (map (λ (b : Arg). b.name) l) c.loop-number.firsts)
    (take_all c.loop-number.number c.args.args.now c.loop-number-test.false) c.loop-number.invariant
