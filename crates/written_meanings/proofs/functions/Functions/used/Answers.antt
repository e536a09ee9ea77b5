use Rattle.std.proofs.Common.{◌∙◌, sym, ap, Some}
use Rattle.written_meanings.specs.Firsts.{first_in}
use Rattle.written_meanings.proofs.FirstNumbers.{used_is, limited, limited_none, at_least, is_below}
use Rattle.written_meanings.proofs.functions.Functions.used.Goals as goal

pub returns-in_err-function : goal.returns-in_err-function
returns-in_err-function c fs are =
    let t = c.args.self.now in
    c.from_residual.ensures
    ∙ sym (used_is fs t c.args.owner c.args.kind.now c.in-Use.at c.in-Use.name c.in-Use.args are c.in-Use.is
    ∙ ap (limited c.args.owner) (ap (first_in t.numbers) (sym c.bytes.ensures) ∙ sym c.number.ensures
    ∙ c.in_err-function.was) ∙ limited_none c.args.owner)

pub returns-in-Some : goal.returns-in-Some
returns-in-Some c fs are =
    let t = c.args.self.now in
    let first = ap (first_in t.numbers) (sym c.bytes.ensures) ∙ sym c.number.ensures ∙ c.in_ok-function.was in
    sym (used_is fs t c.args.owner c.args.kind.now c.in-Use.at c.in-Use.name c.in-Use.args are c.in-Use.is
    ∙ ap (limited c.args.owner) first ∙ ap (λ o. limited o (Some c.in_ok-function.function)) c.in-Some.is
    ∙ at_least c.in-Some.owner c.in_ok-function.function c.if-owner-function.true)

pub returns-in_default-owner : goal.returns-in_default-owner
returns-in_default-owner c fs are =
    let t = c.args.self.now in
    let first = ap (first_in t.numbers) (sym c.bytes.ensures) ∙ sym c.number.ensures ∙ c.in_ok-function.was in
    sym (used_is fs t c.args.owner c.args.kind.now c.in-Use.at c.in-Use.name c.in-Use.args are c.in-Use.is
    ∙ ap (limited c.args.owner) first ∙ ap (λ o. limited o (Some c.in_ok-function.function)) c.in-Some.is
    ∙ is_below c.in-Some.owner c.in_ok-function.function c.if-owner-function.false)

pub returns-in_default-owner-2 : goal.returns-in_default-owner-2
returns-in_default-owner-2 c fs are =
    let t = c.args.self.now in
    let first = ap (first_in t.numbers) (sym c.bytes.ensures) ∙ sym c.number.ensures ∙ c.in_ok-function.was in
    sym (used_is fs t c.args.owner c.args.kind.now c.in-Use.at c.in-Use.name c.in-Use.args are c.in-Use.is
    ∙ ap (limited c.args.owner) first ∙ ap (λ o. limited o (Some c.in_ok-function.function)) c.in_default-owner.is)
