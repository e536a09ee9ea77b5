use Rattle.std.proofs.Common.{◌≡◌, ◌+◌, ℕ, Bool, Option, Some, get_or, arith, sym, ◌∙◌, ap, subst}
use Rattle.std.specs.Option.{is_some}
use Rattle.std.proofs.lemmas.List.{get_or_read}
use Rattle.std.proofs.lemmas.Option.{slice_get-get_or}
use Rattle.mp_base.specs.declared.refusal.Place.{Place}
use Rattle.mp_base.specs.Entries.{IsAt}
use Rattle.mp_transfers.specs.Tables.{entry}
use Rattle.mp_rules.specs.Breaking.{earlier_of}
use Rattle.mp_transfers.proofs.Entries.{Run, run_on, run_first, run_all}
use Rattle.mp_transfers.proofs.transfers.behind_first.Goals.{then-begun, else-begun}
use Rattle.mp_transfers.proofs.transfers.behind_first.Goals as goal

pub loop-form-preserved : goal.loop-form-preserved
loop-form-preserved c =
    let i : ℕ = c.loop-form.form-index in
    let x : ℕ = get_or c.args.forms.now i 0 in
    let at : IsAt c.args.forms.now i x = slice_get-get_or c.args.forms.now i 0 (omega arith) in
    let e : c.at.result.now ≡ entry c.args.table.now x =
    get_or_read c.args.table.now x c.at.result.now (c.requires i 0 (omega arith)) c.at.ensures _ in
    let P : Bool → Option Place
    → Type 0 = λ b o. Run (λ at. c.args.found ≡ Some at) c.args.table.now c.args.forms.now (i + 1) b o in
    elim c.if-begun.branch [
      | then-begun w ↦
          let Q : Bool → Type 0 = λ b. P b c.if-begun.found in
          let R : Option Place → Type 0 = P c.loop-form.begun in
          subst Q (sym w.begun-is)
          (subst R (sym (w.found-is ∙ w.earlier_of-found.ensures ∙ ap (earlier_of c.loop-form.found) e))
          (run_on c.loop-form.invariant x at w.if-begun.true))
      | else-begun w ↦
          let Q : Bool → Type 0 = λ b. P b c.if-begun.found in
          let R : Option Place → Type 0 = P (is_some (entry c.args.table.now x)) in
          subst Q (sym (w.begun-is ∙ w.is_some-begun.ensures ∙ ap is_some e))
          (subst R (sym w.found-is) (run_first c.loop-form.invariant x at w.if-begun.false))
    ]

pub returns : goal.returns
returns c = run_all c.loop-form.invariant (omega arith)
