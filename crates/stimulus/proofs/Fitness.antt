-- What the clocks that were read give fits the inputs.
use Rattle.std.proofs.Common.{◌≡◌, ◌≢◌, ℕ, zero, suc, ◌<◌, List, [], ◌∷◌, true, false, refl, sym, ◌∙◌, ap, subst}
use Rattle.std.proofs.Common.{length, arith, get_or, Option, Some, None}
use Rattle.std.specs.Prelude.{◌==◌}
use Rattle.std.specs.List.{list_any}
use Rattle.std.specs.Str.{bytes_eq}
use Rattle.std.proofs.lemmas.Bool.{and_parts, and_from, or_from, not_from_false, lt-ltb, eqb-true, ne_eqb}
use Rattle.std.proofs.lemmas.List.{nil_from_length}
use Rattle.std.proofs.lemmas.List.Folds.{list_all-append}
use Rattle.std.proofs.lemmas.List.Quantifiers.{position-Some}
use Rattle.std.proofs.lemmas.Slice.Eq.{bytes_eq-Decides}
use Rattle.mp_base.specs.declared.pad.Pad.{Pad}
use Rattle.mp_base.specs.declared.pad.Pads.{Pads}
use Rattle.stimulus.specs.declared.given.Given.{Given}
use Rattle.stimulus_lines.specs.declared.piece.Piece.{Piece}
use Rattle.stimulus_lines.specs.declared.form.Assignment.{Assignment}
use Rattle.stimulus_lines.specs.declared.form.Form.{Form}
use Rattle.stimulus_lines.specs.declared.form.Form.TheVariants.{Input, Output, Clock}
use Rattle.stimulus.specs.declared.reading.Reading.{Reading}
use Rattle.stimulus.specs.Rules.{bound, input_named, is_new_pad, inputs_of, IsGiven, AreGiven, IsInPlace, AddsForm}
use Rattle.stimulus.specs.Reading.{Reads, nothing}
use Rattle.stimulus.specs.Fitting.{bound_at, is_fitting, is_fitting_clock, are_fitting}
use Rattle.stimulus.proofs.Apart.{AreApart}

below_bound : (inputs : List Pad) (i v : ℕ) → i < length inputs → ((p : Pad) → v < bound (get_or inputs i p))
    → v < bound_at inputs i
below_bound [] i v lt h = absurd (omega arith)
below_bound (p ∷ ps) zero v lt h = h p
below_bound (p ∷ ps) (suc i) v lt h = below_bound ps i v (omega arith) h

pub in_range : (inputs : List Pad) (name : List ℕ) (i : ℕ) → input_named inputs name ≡ Some i → i < length inputs
in_range [] name i h = absurd (cc)
in_range (p ∷ ps) name i h = (position-Some (λ (q : Pad). bytes_eq q.name name) (p ∷ ps) i p h).0

one_name : (inputs : List Pad) (m n : List ℕ) (i : ℕ) → input_named inputs m ≡ Some i → input_named inputs n ≡ Some i
    → m ≡ n
one_name [] m n i h k = absurd (cc)
one_name (p ∷ ps) m n i h k =
    let a = (position-Some (λ (q : Pad). bytes_eq q.name m) (p ∷ ps) i p h).1 in
    let b = (position-Some (λ (q : Pad). bytes_eq q.name n) (p ∷ ps) i p k).1 in
    sym ((bytes_eq-Decides (get_or (p ∷ ps) i p).name m).0 a) ∙ (bytes_eq-Decides (get_or (p ∷ ps) i p).name n).0 b

fits_one : (inputs : List Pad) (a : Assignment) (g : Given) → IsGiven inputs a g → is_fitting inputs g ≡ true
fits_one inputs a g h =
    lt-ltb g.value (bound_at inputs g.input)
    (below_bound inputs g.input g.value (in_range inputs a.name g.input h.named) h.fits)

no_other : (inputs : List Pad) (a : Assignment) (g : Given) (xs : List Assignment) (gs : List Given)
    → IsGiven inputs a g → AreGiven inputs xs gs
    → ((k : ℕ) (d : Assignment) → k < length xs → a.name ≢ (get_or xs k d).name)
    → list_any (λ (h : Given). h.input == g.input) gs ≡ false
no_other inputs a g [] [] one all apart = refl
no_other inputs a g [] (j ∷ gs) one all apart = absurd all
no_other inputs a g (x ∷ xs) [] one all apart = absurd all
no_other inputs a g (x ∷ xs) (j ∷ gs) one all apart =
    or_from (j.input == g.input) (list_any (λ (h : Given). h.input == g.input) gs)
    (ne_eqb j.input g.input
    (λ e. apart 0 x (omega arith) (one_name inputs a.name x.name g.input one.named ((all.0).named ∙ ap Some e))))
    (no_other inputs a g xs gs one all.1 (λ k d lt. apart (suc k) d (omega arith)))

fits_clock : (inputs : List Pad) (xs : List Assignment) (gs : List Given) → AreGiven inputs xs gs → AreApart xs
    → is_fitting_clock inputs gs ≡ true
fits_clock inputs [] [] all apart = refl
fits_clock inputs [] (g ∷ gs) all apart = absurd all
fits_clock inputs (x ∷ xs) [] all apart = absurd all
fits_clock inputs (x ∷ xs) (g ∷ gs) all apart =
    and_from _ _ (fits_one inputs x g all.0)
    (and_from _ _
    (not_from_false _ (no_other inputs x g xs gs all.0 all.1 (λ k d lt. apart 0 (suc k) d (omega arith) (omega arith))))
    (fits_clock inputs xs gs all.1 (λ i j d less lt. apart (suc i) (suc j) d (omega arith) (omega arith))))

no_clocks : (r : Reading) (name : List ℕ) → is_new_pad r name ≡ true → r.clocks ≡ []
no_clocks r name h = nil_from_length r.clocks (eqb-true (length r.clocks) 0 (and_parts _ _ h).0)

empty_fits : (inputs : List Pad) (clocks : List (List Given)) → clocks ≡ [] → are_fitting inputs clocks ≡ true
empty_fits inputs clocks e = ap (are_fitting inputs) e

same_inputs : (known : Option Pads) (r t : Reading) → t.inputs ≡ r.inputs → inputs_of known t ≡ inputs_of known r
same_inputs None r t e = e
same_inputs (Some pads) r t e = refl

fits_form : (known : Option Pads) (r : Reading) (f : Form) (t : Reading) → IsInPlace r f → AddsForm known r f t
    → are_fitting (inputs_of known r) r.clocks ≡ true → are_fitting (inputs_of known t) t.clocks ≡ true
fits_form known r (Input p) t here adds old =
    empty_fits (inputs_of known t) t.clocks (ap (λ (q : Reading). q.clocks) adds.1 ∙ no_clocks r p.name here)
fits_form known r (Output p) t here adds old =
    empty_fits (inputs_of known t) t.clocks (ap (λ (q : Reading). q.clocks) adds.1 ∙ no_clocks r p.name here)
fits_form known r (Clock xs) t here adds old =
    let ins = same_inputs known r t (ap (λ (q : Reading). q.inputs) adds.2) in
    ap (λ ps. are_fitting ps t.clocks) ins ∙ ap (λ (q : Reading). are_fitting (inputs_of known r) q.clocks) adds.2
    ∙ list_all-append (is_fitting_clock (inputs_of known r)) r.clocks (adds.0 ∷ [])
    ∙ and_from _ _ old (and_from _ _ (fits_clock (inputs_of known r) xs adds.0 adds.1 here) refl)

fits_lines : (known : Option Pads) (r t : Reading) (ls : List (List Piece)) → Reads known r ls t
    → are_fitting (inputs_of known r) r.clocks ≡ true → are_fitting (inputs_of known t) t.clocks ≡ true
fits_lines known r t [] h old = let P : Reading → Type 0 = λ q. are_fitting (inputs_of known q) q.clocks ≡ true in
    subst P h old
fits_lines known r t (l ∷ ls) h old =
    fits_lines known h.0 t ls h.2 (fits_form known r (h.1).form h.0 (h.1).«in_place» (h.1).adds old)

pub fits_read : (known : Option Pads) (t : Reading) (ls : List (List Piece)) → Reads known nothing ls t
    → are_fitting (inputs_of known t) t.clocks ≡ true
fits_read known t ls h = fits_lines known nothing t ls h refl
