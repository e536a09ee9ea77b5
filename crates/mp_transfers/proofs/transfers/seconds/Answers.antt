use Rattle.std.proofs.Common.{◌≡◌, ◌+◌, ◌-◌, ◌<◌, ℕ, List, Option, arith, sym, subst, slice_index_or}
use Rattle.std.specs.Prelude.{All}
use Rattle.mp_base.specs.declared.refusal.Place.{Place}
use Rattle.mp_program.specs.declared.program.Form.{Form}
use Rattle.mp_program.specs.Weight.{inner}
use Rattle.std.proofs.lemmas.Option.{slice_get-get_or}
use Rattle.mp_base.specs.Entries.{IsAt}
use Rattle.mp_base.proofs.Entries.{within}
use Rattle.mp_transfers.specs.Tables.{IsSecond}
use Rattle.mp_transfers.proofs.Inside.{inner_inside}
use Rattle.mp_transfers.proofs.Entries.{Done, done_more, second_entry}
use Rattle.mp_transfers.proofs.transfers.seconds.Goals as goal

pub least_inside-requires : goal.least_inside-requires
least_inside-requires c =
    let f : ℕ = c.loop-f.f - 1 in
    let y : Form = slice_index_or c.as_slice-forms.result.now f c.index-forms-f.result in
    let P : List Form → Type 0 = λ xs. IsAt xs f y in
    let at : IsAt c.args.program.now.forms f y =
    subst P c.as_slice-forms.ensures
    (slice_get-get_or c.as_slice-forms.result.now f c.index-forms-f.result (omega arith)) in
    let Q : ℕ → Type 0 = λ n. All (λ g. g < n) (inner y.kind) in
    subst Q (sym c.loop-f.invariant.size) (inner_inside c.args.program.now c.sound.ensures f y at)

pub behind_inside-second-requires : goal.behind_inside-second-requires
behind_inside-second-requires c =
    let f : ℕ = c.loop-f.f - 1 in
    let y : Form = slice_index_or c.as_slice-forms.result.now f c.index-forms-f.result in
    let P : List Form → Type 0 = λ xs. IsAt xs f y in
    let at : IsAt c.args.program.now.forms f y =
    subst P c.as_slice-forms.ensures
    (slice_get-get_or c.as_slice-forms.result.now f c.index-forms-f.result (omega arith)) in
    let Q : ℕ → Type 0 = λ n. All (λ g. g < n) (inner y.kind) in
    subst Q (sym c.requires.size) (inner_inside c.args.program.now c.sound.ensures f y at)

pub loop-f-preserved : goal.loop-f-preserved
loop-f-preserved c =
    let f : ℕ = c.loop-f.f - 1 in
    let y : Form = slice_index_or c.as_slice-forms.result.now f c.index-forms-f.result in
    let P : List Form → Type 0 = λ xs. IsAt xs f y in
    let at : IsAt c.args.program.now.forms f y =
    subst P c.as_slice-forms.ensures
    (slice_get-get_or c.as_slice-forms.result.now f c.index-forms-f.result (omega arith)) in
    let Q : ℕ → Type 0 = λ n. Done c.args.program.now (IsSecond c.args.program.now) n c.loop-f.table in
    let e : c.loop-f.f ≡ f + 1 = omega arith in
    let done = subst Q e c.loop-f.invariant in
    let R : List (Option Place) → Type 0 = λ t. Done c.args.program.now (IsSecond c.args.program.now) f t in
    subst R (sym c.put.ensures)
    (done_more c.args.program.now (IsSecond c.args.program.now) f c.loop-f.table c.behind_inside-second.result
    (within c.args.program.now.forms f at) done
    (second_entry c.args.program.now f c.args.firsts.now c.loop-f.table y c.least_inside.result
    c.behind_inside-second.result c.sound.ensures at c.requires done c.least_inside.ensures
    c.behind_inside-second.ensures))
