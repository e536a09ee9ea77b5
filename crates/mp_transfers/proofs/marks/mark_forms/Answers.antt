use Rattle.std.proofs.Common.{◌<◌, ℕ, List, [], ◌∷◌, ◌++◌, length, get_or, take, arith, sym, subst, slice_set}
use Rattle.std.proofs.lemmas.List.{take_more}
use Rattle.mp_transfers.specs.Marks.{IsMarking}
use Rattle.mp_transfers.proofs.Marking.{marking_push}
use Rattle.mp_transfers.proofs.marks.mark_forms.Goals as goal

pub loop-form-preserved : goal.loop-form-preserved
loop-form-preserved c =
    let i : ℕ = c.loop-form.form-index in
    let f : ℕ = get_or c.args.forms.now i 0 in
    let inside : f < length c.loop-form.marks =
    omega (arith, c.requires i 0 (omega arith), c.loop-form.invariant.size) in
    let P : List ℕ → List ℕ → ℕ → Type 0 = λ xs ms n. IsMarking xs c.args.number c.args.end c.args.marks.now ms n in
    let Q : List ℕ → Type 0 = λ xs. P xs c.set.new.self c.max-next.result in
    let R : List ℕ → Type 0 = λ ms. P (take i c.args.forms.now ++ f ∷ []) ms c.max-next.result in
    let S : ℕ → Type 0 = λ n. P (take i c.args.forms.now ++ f ∷ []) (slice_set c.loop-form.marks f c.args.number) n in
    subst Q (sym (take_more c.args.forms.now i 0 (omega arith)))
    (subst R (sym c.set.ensures) (subst S (sym c.max-next.ensures)
    (marking_push
    (take i c.args.forms.now) c.args.number c.args.end c.args.marks.now c.loop-form.marks c.loop-form.next f
    c.loop-form.invariant inside)))
