use Rattle.std.proofs.Common.{◌≡◌, ◌∙◌, List, ℕ, ap, sym, subst, cond, Some, None, Bool, true, false, refl}
use Rattle.std.specs.Bool.{then_some}
use Rattle.mp_base.specs.declared.refusal.Place.{Place}
use Rattle.std.specs.List.{list_any}
use Rattle.mp_program.specs.Names.{is_same}
use Rattle.mp_rules.specs.Breaking.{IsEarliest, earlier_of}
use Rattle.mp_written.specs.declared.program.Arg.{Arg}
use Rattle.written_rules.specs.Naming.{operators}
use Rattle.written_names.specs.Taken.{TakenIn, ArgTakenAt}
use Rattle.written_names.proofs.TakenNames.{taken_in_function}
use Rattle.written_names.proofs.arguments.taken_in.Goals as goal

chosen : (b : Bool) (p : Place) → then_some b p ≡ cond b (Some p) None
chosen true p = refl
chosen false p = refl

pub returns : goal.returns
returns c =
    let t = c.args.names.now in
    let d = c.args.def.now in
    let found = c.in_ok-taken_argument.field-0 in
    let operator = c.is_operator.ensures ∙ ap (λ x. list_any (is_same x) operators) c.bytes.ensures in
    subst (IsEarliest (TakenIn t d))
    (sym (c.earlier_of.ensures ∙ ap (λ o. earlier_of o found)
    (c.then_some-operator.ensures ∙ chosen c.is_operator.result d.place
    ∙ ap (λ b. cond b (Some d.place) None) operator)))
    (taken_in_function t d c.in-Function.args c.in-Function.body found c.in-Function.is
    (subst (λ (l : List Arg). IsEarliest (λ at. (i : ℕ) × ArgTakenAt t l i at) found) c.as_slice.ensures
    c.in_ok-taken_argument.ensures))
