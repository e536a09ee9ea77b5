-- A text has at most one outcome.
use Rattle.std.proofs.Common.{◌≡◌, ℕ, ◌<◌, ◌≤◌, List, [], ◌∷◌, ◌++◌, refl, sym, ◌∙◌, ap, subst, inl, inr, arith, get_or}
use Rattle.std.proofs.Common.{Option, Some, None}
use Rattle.std.proofs.lemmas.Bool.{both_ways}
use Rattle.mp_base.specs.declared.pad.Pad.{Pad}
use Rattle.mp_base.specs.declared.pad.Pads.{Pads}
use Rattle.stimulus.specs.declared.given.Given.{Given}
use Rattle.stimulus.specs.declared.given.Stimulus.{Stimulus}
use Rattle.stimulus_lines.specs.declared.piece.Piece.{Piece}
use Rattle.stimulus_lines.specs.declared.form.Assignment.{Assignment}
use Rattle.stimulus_lines.specs.declared.form.Form.{Form}
use Rattle.stimulus_lines.specs.declared.form.Form.TheVariants.{Input, Output, Clock}
use Rattle.stimulus.specs.declared.reading.Reading.{Reading}
use Rattle.stimulus_lines.specs.Words.{lines}
use Rattle.stimulus.specs.Rules.{bound, input_named, inputs_of, IsGiven, IsMisfit, AreGiven, FirstMisfit, Misfits}
use Rattle.stimulus.specs.Rules.{AddsForm, Adds, FirstIn, full, formless, misfit}
use Rattle.stimulus.specs.Reading.{nothing, Reads, FirstBroken, IsStimulus}
use Rattle.stimulus_lines.proofs.Unique.{form_once}

given_once : (inputs : List Pad) (a : Assignment) (g h : Given) → IsGiven inputs a g → IsGiven inputs a h → g ≡ h
given_once inputs a g h p q =
    let named : Some g.input ≡ Some h.input = sym p.named ∙ q.named in
    let input : g.input ≡ h.input = cc in
    ap (λ i. let x : Given = record { input = i; value = g.value } in x) input
    ∙ ap (λ v. let x : Given = record { input = h.input; value = v } in x) (p.value ∙ sym q.value)

givens_once : (inputs : List Pad) (xs : List Assignment) (gs hs : List Given) → AreGiven inputs xs gs
    → AreGiven inputs xs hs → gs ≡ hs
givens_once inputs [] [] [] p q = refl
givens_once inputs [] [] (h ∷ hs) p q = absurd q
givens_once inputs [] (g ∷ gs) hs p q = absurd p
givens_once inputs (x ∷ xs) [] hs p q = absurd p
givens_once inputs (x ∷ xs) (g ∷ gs) [] p q = absurd q
givens_once inputs (x ∷ xs) (g ∷ gs) (h ∷ hs) p q =
    ap (λ y. y ∷ gs) (given_once inputs x g h p.0 q.0) ∙ ap (λ ys. h ∷ ys) (givens_once inputs xs gs hs p.1 q.1)

form_adds_once : (known : Option Pads) (r : Reading) (f : Form) (s t : Reading) → AddsForm known r f s
    → AddsForm known r f t → s ≡ t
form_adds_once known r (Input p) s t h k = h.1 ∙ sym k.1
form_adds_once known r (Output p) s t h k = h.1 ∙ sym k.1
form_adds_once known r (Clock xs) s t h k =
    h.2 ∙ ap
    (λ gs. let x : Reading = record { inputs = r.inputs; outputs = r.outputs; clocks = r.clocks ++ gs ∷ [] } in x)
    (givens_once (inputs_of known r) xs h.0 k.0 h.1 k.1) ∙ sym k.2

pub adds_once : (known : Option Pads) (r : Reading) (line : List Piece) (s t : Reading) → Adds known r line s
    → Adds known r line t → s ≡ t
adds_once known r line s t h k =
    let P : Form → Type 0 = λ f. AddsForm known r f t in
    form_adds_once known r h.form s t h.adds (subst P (form_once line k.form h.form k.is h.is) k.adds)

pub reads_once : (known : Option Pads) (r s t : Reading) (ls : List (List Piece)) → Reads known r ls s
    → Reads known r ls t → s ≡ t
reads_once known r s t [] h k = sym h ∙ k
reads_once known r s t (l ∷ ls) h k =
    let P : Reading → Type 0 = λ q. Reads known q ls t in
    reads_once known h.0 s t ls h.2 (subst P (adds_once known r l k.0 h.0 k.1 h.1) k.2)

pub fits_no_misfit : (inputs : List Pad) (a : Assignment) (g : Given) (k : ℕ) → IsGiven inputs a g
    → IsMisfit inputs a k → ⊥
fits_no_misfit inputs a g k h m = elim m [
  | inl none ↦ clash (sym h.named ∙ none.1)
  | inr big ↦ large inputs g.input big.1 a.name h.named (some (sym h.named ∙ big.2)) h.value (λ p. h.fits p) big.3
]
  where
    clash : {i : ℕ} → Some i ≡ None → ⊥
    clash e = cc

    some : {i j : ℕ} → Some i ≡ Some j → i ≡ j
    some e = cc

    large : (ps : List Pad) (i j : ℕ) (n : List ℕ) → input_named ps n ≡ Some i → i ≡ j → g.value ≡ a.value
        → ((p : Pad) → g.value < bound (get_or ps i p)) → ((p : Pad) → bound (get_or ps j p) ≤ a.value) → ⊥
    large [] i j n named e v less most = cc
    large (p ∷ ps) i j n named e v less most = omega (arith, less p, most p, ap (λ m. bound (get_or (p ∷ ps) m p)) e, v)

misfits_no : (inputs : List Pad) (xs : List Assignment) (gs : List Given) (k at : ℕ) → AreGiven inputs xs gs
    → FirstMisfit inputs xs k at → ⊥
misfits_no inputs [] gs k at h m = m
misfits_no inputs (x ∷ xs) [] k at h m = h
misfits_no inputs (x ∷ xs) (g ∷ gs) k at h m =
    elim m [ inl here ↦ fits_no_misfit inputs x g k h.0 here.0 | inr later ↦ misfits_no inputs xs gs k at h.1 later.2 ]

form_no : (known : Option Pads) (r : Reading) (line : List Piece) (f : Form) (t : Reading) (k at : ℕ)
    → AddsForm known r f t → Misfits known r line f k at → ⊥
form_no known r line (Input p) t k at h m = both_ways _ m.2 h.0
form_no known r line (Output p) t k at h m = both_ways _ m.2 h.0
form_no known r line (Clock xs) t k at h m = misfits_no (inputs_of known r) xs h.0 k at h.1 m

pub line_no : (known : Option Pads) (r : Reading) (line : List Piece) (t : Reading) (k at : ℕ) → Adds known r line t
    → FirstIn known r line k at → ⊥
line_no known r line t k at h (full rule place more) = h.room more
line_no known r line t k at h (formless rule place room none) = none h.form h.is h.«in_place»
line_no known r line t k at h (misfit f room is here m) =
    let P : Form → Type 0 = λ x. Misfits known r line x k at in
    form_no known r line h.form t k at h.adds (subst P (form_once line f h.form is h.is) m)

pub reads_no : (known : Option Pads) (r t : Reading) (ls : List (List Piece)) (k at : ℕ) → Reads known r ls t
    → FirstBroken known r ls k at → ⊥
reads_no known r t [] k at h m = m
reads_no known r t (l ∷ ls) k at h m = elim m [
  | inl here ↦ line_no known r l h.0 k at h.1 here
  | inr later ↦
      let P : Reading → Type 0 = λ q. FirstBroken known q ls k at in
      reads_no known h.0 t ls k at h.2 (subst P (adds_once known r l later.0 h.0 later.1 h.1) later.2)
]

pub same_readings : (text : List ℕ) (known : Option Pads) (s t : Stimulus) (h : IsStimulus text known s)
    (k : IsStimulus text known t) → h.reading ≡ k.reading
same_readings text known s t h k = reads_once known nothing h.reading k.reading (lines text) h.reads k.reads
