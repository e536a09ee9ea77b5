use Rattle.std.proofs.Common.{◌≡◌, ◌+◌, ◌-◌, ◌<◌, ℕ, List, Option, arith, sym, ◌∙◌, subst}
use Rattle.std.specs.Prelude.{All}
use Rattle.mp_base.specs.declared.refusal.Place.{Place}
use Rattle.mp_program.specs.declared.program.Form.{Form}
use Rattle.mp_program.specs.Weight.{inner}
use Rattle.mp_base.specs.Entries.{IsAt}
use Rattle.mp_base.proofs.Entries.{entry, within}
use Rattle.mp_rules.specs.Breaking.{IsEarliest}
use Rattle.mp_transfers.specs.Tables.{IsFound}
use Rattle.mp_transfers.proofs.Inside.{inner_inside}
use Rattle.mp_transfers.proofs.Entries.{Done, done_more, first_own, first_other}
use Rattle.mp_transfers.proofs.tables.firsts.Goals.{then-is_sought, else-is_sought}
use Rattle.mp_transfers.proofs.tables.firsts.Goals as goal

pub least_inside-first-requires : goal.least_inside-first-requires
least_inside-first-requires c =
    let P : List Form → Type 0 = λ xs. IsAt xs (c.loop-f.f - 1) c.index-forms-f.result in
    let at : IsAt c.args.program.now.forms (c.loop-f.f - 1) c.index-forms-f.result =
    subst P c.as_slice-forms.ensures
    (entry c.as_slice-forms.result.now (c.loop-f.f - 1) (omega arith) c.index-forms-f.is) in
    let Q : ℕ → Type 0 = λ n. All (λ g. g < n) (inner c.index-forms-f.result.kind) in
    subst Q (sym c.loop-f.invariant.size)
    (inner_inside c.args.program.now c.sound.ensures (c.loop-f.f - 1) c.index-forms-f.result at)

pub loop-f-preserved : goal.loop-f-preserved
loop-f-preserved c =
    let f : ℕ = c.loop-f.f - 1 in
    let y : Form = c.index-forms-f.result in
    let P : List Form → Type 0 = λ xs. IsAt xs f y in
    let at : IsAt c.args.program.now.forms f y =
    subst P c.as_slice-forms.ensures (entry c.as_slice-forms.result.now f (omega arith) c.index-forms-f.is) in
    let Q : ℕ → Type 0 = λ n. Done c.args.program.now (IsFound c.args.program.now c.args.sought) n c.loop-f.table in
    let e : c.loop-f.f ≡ f + 1 = omega arith in
    let done = subst Q e c.loop-f.invariant in
    let R : List (Option Place)
    → Type 0 = λ t. Done c.args.program.now (IsFound c.args.program.now c.args.sought) f t in
    let S : Option Place → Type 0 = IsEarliest (IsFound c.args.program.now c.args.sought f) in
    subst R (sym c.put.ensures)
    (done_more c.args.program.now
    (IsFound c.args.program.now c.args.sought) f c.loop-f.table c.if-is_sought.first
    (within c.args.program.now.forms f at) done
    (elim c.if-is_sought.branch [
      | then-is_sought w ↦ subst S (sym (w.first-is ∙ w.earlier-first.ensures))
          (first_own c.args.program.now c.args.sought f c.loop-f.table y c.least_inside-first.result c.sound.ensures at
          done c.least_inside-first.ensures (sym c.is_sought.ensures ∙ w.if-is_sought.true))
      | else-is_sought w ↦ subst S (sym w.first-is)
          (first_other c.args.program.now c.args.sought f c.loop-f.table y c.least_inside-first.result c.sound.ensures
          at done c.least_inside-first.ensures (sym c.is_sought.ensures ∙ w.if-is_sought.false))
    ]))
