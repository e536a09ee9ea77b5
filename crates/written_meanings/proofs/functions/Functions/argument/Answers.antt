use Rattle.std.proofs.Common.{◌∙◌, sym, ap, subst, List}
use Rattle.mp_base.specs.Entries.{IsAt}
use Rattle.mp_base.proofs.Entries.{entry}
use Rattle.written_meanings.specs.declared.firsts.Firsts.{Firsts}
use Rattle.written_meanings.specs.Firsts.{first_in}
use Rattle.written_meanings.specs.Meanings.{argument, args_around}
use Rattle.written_meanings.proofs.FirstNumbers.{argument_is}
use Rattle.written_meanings.proofs.functions.Functions.argument.Goals as goal

pub returns : goal.returns
returns c fs are =
    let k = c.in_ok-owner.field-0 in
    let a = c.in_ok-get.field-0.now in
    let look = c.in_ok-get.ensures.lookup.3 in
    let at = subst (λ (xs : List Firsts). IsAt xs k a) c.as_slice.ensures
    (entry c.as_slice.result.now k look.0 (look.1 a)) in
    c.number.ensures ∙ ap (first_in a) c.bytes.ensures
    ∙ sym (ap (λ o. argument (args_around fs o) c.args.kind.now) c.in_ok-owner.was
    ∙ argument_is fs c.args.self.now k a c.args.kind.now c.in-Named.name are at c.in-Named.is)
