use Rattle.std.proofs.Common.{◌≡◌, ◌⊎◌, inl, inr, ◌+◌, ℕ, Option, Some, get_or, arith, sym, ◌∙◌, ap, subst}
use Rattle.std.proofs.lemmas.List.{get_or_read}
use Rattle.std.proofs.lemmas.Option.{slice_get-get_or}
use Rattle.mp_base.specs.declared.refusal.Place.{Place}
use Rattle.mp_base.proofs.Entries.{contains_from_get, get_from_contains}
use Rattle.mp_transfers.specs.Tables.{entry, IsAmong}
use Rattle.mp_rules.specs.Breaking.{earlier_of}
use Rattle.mp_transfers.proofs.Earliest.{Upto, earliest_itself, upto_join, upto_all, InAny}
use Rattle.mp_rules.proofs.EarliestPlaces.{earliest_same}
use Rattle.mp_transfers.proofs.tables.least.Goals as goal

pub loop-form-preserved : goal.loop-form-preserved
loop-form-preserved c =
    let i : ℕ = c.loop-form.form-index in
    let x : ℕ = get_or c.args.forms.now i 0 in
    let e : c.at.result.now ≡ entry c.args.table.now x =
    get_or_read c.args.table.now x c.at.result.now (c.requires i 0 (omega arith)) c.at.ensures _ in
    let P : Option Place
    → Type 0 = Upto (λ at. c.args.found ≡ Some at) c.args.forms.now (λ k f at. entry c.args.table.now f ≡ Some at)
    (i + 1) in
    subst P (sym (c.earlier_of-found.ensures ∙ ap (earlier_of c.loop-form.found) e))
    (upto_join c.loop-form.invariant x (slice_get-get_or c.args.forms.now i 0 (omega arith)) (entry c.args.table.now x)
    (earliest_itself (entry c.args.table.now x)))

pub returns : goal.returns
returns c =
    earliest_same
    (λ at. (c.args.found ≡ Some at) ⊎ InAny c.args.forms.now (λ k f at. entry c.args.table.now f ≡ Some at) at)
    (λ at. (c.args.found ≡ Some at) ⊎ IsAmong c.args.table.now c.args.forms.now at)
    c.loop-form.found (upto_all c.loop-form.invariant (omega arith))
    (λ at there. elim there [
      | inl e ↦ inl e
      | inr (k, x, is, e) ↦ inr (x, contains_from_get c.args.forms.now k x is, e)
    ])
    (λ at there. elim there [
      | inl e ↦ inl e
      | inr (x, among, e) ↦ (let (k, is) = get_from_contains c.args.forms.now x among in inr (k, x, is, e))
    ])
