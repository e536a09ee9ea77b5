use Rattle.std.proofs.Common.{◌≡◌, ◌∙◌, ◌+◌, ◌∷◌, [], ◌++◌, ap, sym, subst, take, arith, rules}
use Rattle.std.proofs.lemmas.List.{length-take, length-map}
use Rattle.mp_base.proofs.Entries.{entry}
use Rattle.mp_rules.specs.Breaking.{earlier_of}
use Rattle.mp_written.specs.declared.program.Arg.{Arg}
use Rattle.written_meanings.specs.Firsts.{AreFirsts}
use Rattle.written_names.proofs.TakenNames.{IsTakenFirst, taken_more, taken_all, arg_names}
use Rattle.written_names.proofs.arguments.taken_argument.Goals as goal

pub loop-number-preserved : goal.loop-number-preserved
loop-number-preserved c =
    let t = c.args.names.now in
    let n = c.loop-number.number in
    let args = c.args.args.now in
    let a = c.index-args-number.result in
    let lt = c.loop-number-test.true in
    let at = entry args n lt c.index-args-number.is in
    let size = length-take n args in
    let many = length-map (take n args) (λ (b : Arg). b.name) in
    let index : c.in-Ok.number ≡ n = search rules in
    let noted = c.in_ok-note.ensures (arg_names (take n args)) (omega (arith, size, many, index, lt))
    c.loop-number.invariant.names in
    subst (IsTakenFirst t args (n + 1) c.note.new.self)
    (sym (c.earlier_of-found.ensures ∙ ap (earlier_of c.loop-number.found) c.taken_at.ensures))
    (taken_more t args n a c.loop-number.before c.note.new.self c.loop-number.found at
    (subst (λ x. AreFirsts (arg_names (take n args) ++ x ∷ []) c.note.new.self) c.bytes.ensures noted)
    c.loop-number.invariant)

pub returns : goal.returns
returns c =
    let le = c.loop-number-test.false in
    let end = c.loop-number.auto.number-end in
    taken_all c.args.names.now c.args.args.now c.loop-number.number c.loop-number.before c.loop-number.found
    (omega (arith, le, end)) c.loop-number.invariant
