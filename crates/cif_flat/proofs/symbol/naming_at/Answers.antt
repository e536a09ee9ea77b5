use Rattle.std.proofs.Common.{◌≡◌, ◌∙◌, ap, arith, Some}
use Rattle.cif_form.specs.declared.command.Command.TheVariants.{User}
use Rattle.cif_form.specs.Expansion.{item_at}
use Rattle.cif_list.specs.Showing.{command_shown}
use Rattle.cif_flat.proofs.Named.{none_spanned, some_spanned}
use Rattle.cif_flat.proofs.symbol.naming_at.Goals as goal

pub returns-in_default-name_span : goal.returns-in_default-name_span
returns-in_default-name_span c =
    none_spanned c.args.items.now c.args.item c.at.result.offset c.in-User.digit c.in-User.text.now
    (c.at.ensures ∙ ap (λ d. Some (item_at c.at.result.offset d)) (ap command_shown c.in-User.is))
    c.in_default-name_span.ensures.none

pub returns : goal.returns
returns c =
    let nine : c.in-User.digit ≡ 9 = omega (arith, c.if-digit-ne9.false) in
    some_spanned c.args.items.now c.args.item c.at.result.offset c.in-User.text.now c.in-Some.start c.in-Some.end
    (c.at.ensures ∙ ap (λ d. Some (item_at c.at.result.offset d)) (ap command_shown c.in-User.is)
    ∙ ap (λ n. Some (item_at c.at.result.offset (User n c.in-User.text.now))) nine)
    c.in-Some.ensures.some
