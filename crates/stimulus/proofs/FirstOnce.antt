-- A text has at most one first broken rule, at one place.
use Rattle.std.proofs.Common.{◌≡◌, ℕ, List, [], ◌∷◌, sym, ◌∙◌, ap, subst, inl, inr, Option, Some, None}
use Rattle.mp_base.specs.Lines.{place_at}
use Rattle.mp_base.specs.declared.pad.Pad.{Pad}
use Rattle.mp_base.specs.declared.pad.Pads.{Pads}
use Rattle.mp_base.specs.declared.refusal.Place.{Place}
use Rattle.stimulus_lines.specs.declared.piece.Piece.{Piece}
use Rattle.stimulus_lines.specs.declared.form.Assignment.{Assignment}
use Rattle.stimulus_lines.specs.declared.form.Form.{Form}
use Rattle.stimulus_lines.specs.declared.form.Form.TheVariants.{Input, Output, Clock}
use Rattle.stimulus.specs.declared.reading.Reading.{Reading}
use Rattle.stimulus_lines.specs.Words.{lines}
use Rattle.stimulus.specs.Rules.{inputs_of, IsMisfit, FirstMisfit, Misfits, FirstIn, full, formless}
use Rattle.stimulus.specs.Rules.{misfit}
use Rattle.stimulus.specs.Reading.{nothing, FirstBroken, IsFirst}
use Rattle.stimulus_lines.proofs.Unique.{form_once}
use Rattle.stimulus.proofs.Once.{adds_once, fits_no_misfit, line_no}

no_some : {i : ℕ} {o : Option ℕ} → o ≡ None → o ≡ Some i → ⊥
no_some e f = cc

rule_once : (inputs : List Pad) (a : Assignment) (j k : ℕ) → IsMisfit inputs a j → IsMisfit inputs a k → j ≡ k
rule_once inputs a j k (inl x) (inl y) = x.0 ∙ sym y.0
rule_once inputs a j k (inl x) (inr y) = absurd (no_some x.1 y.2)
rule_once inputs a j k (inr x) (inl y) = absurd (no_some y.1 x.2)
rule_once inputs a j k (inr x) (inr y) = x.0 ∙ sym y.0

word_once : (inputs : List Pad) (xs : List Assignment) (j a k b : ℕ) → FirstMisfit inputs xs j a
    → FirstMisfit inputs xs k b → (j ≡ k) × (a ≡ b)
word_once inputs [] j a k b x y = absurd x
word_once inputs (w ∷ ws) j a k b (inl x) (inl y) = (rule_once inputs w j k x.0 y.0, x.1 ∙ sym y.1)
word_once inputs (w ∷ ws) j a k b (inl x) (inr y) = absurd (fits_no_misfit inputs w y.0 j y.1 x.0)
word_once inputs (w ∷ ws) j a k b (inr x) (inl y) = absurd (fits_no_misfit inputs w x.0 k x.1 y.0)
word_once inputs (w ∷ ws) j a k b (inr x) (inr y) = word_once inputs ws j a k b x.2 y.2

misfits_once : (known : Option Pads) (r : Reading) (line : List Piece) (f : Form) (j a k b : ℕ)
    → Misfits known r line f j a → Misfits known r line f k b → (j ≡ k) × (a ≡ b)
misfits_once known r line (Input p) j a k b x y = (x.0 ∙ sym y.0, x.1 ∙ sym y.1)
misfits_once known r line (Output p) j a k b x y = (x.0 ∙ sym y.0, x.1 ∙ sym y.1)
misfits_once known r line (Clock xs) j a k b x y = word_once (inputs_of known r) xs j a k b x y

in_line_once : (known : Option Pads) (r : Reading) (line : List Piece) (j a k b : ℕ) → FirstIn known r line j a
    → FirstIn known r line k b → (j ≡ k) × (a ≡ b)
in_line_once known r line j a k b (full rule place more) (full rule' place' more') =
    (rule ∙ sym rule', place ∙ sym place')
in_line_once known r line j a k b (full rule place more) (formless rule' place' room none) = absurd (room more)
in_line_once known r line j a k b (full rule place more) (misfit f room is here m) = absurd (room more)
in_line_once known r line j a k b (formless rule place room none) (full rule' place' more) = absurd (room more)
in_line_once known r line j a k b (formless rule place room none) (formless rule' place' room' none') =
    (rule ∙ sym rule', place ∙ sym place')
in_line_once known r line j a k b (formless rule place room none) (misfit f room' is here m) = absurd (none f is here)
in_line_once known r line j a k b (misfit f room is here m) (full rule place more) = absurd (room more)
in_line_once known r line j a k b (misfit f room is here m) (formless rule place room' none) = absurd (none f is here)
in_line_once known r line j a k b (misfit f room is here m) (misfit g room' is' here' n) =
    let P : Form → Type 0 = λ x. Misfits known r line x k b in
    misfits_once known r line f j a k b m (subst P (form_once line g f is' is) n)

broken_once : (known : Option Pads) (r : Reading) (ls : List (List Piece)) (j a k b : ℕ) → FirstBroken known r ls j a
    → FirstBroken known r ls k b → (j ≡ k) × (a ≡ b)
broken_once known r [] j a k b x y = absurd x
broken_once known r (l ∷ ls) j a k b (inl x) (inl y) = in_line_once known r l j a k b x y
broken_once known r (l ∷ ls) j a k b (inl x) (inr y) = absurd (line_no known r l y.0 j a y.1 x)
broken_once known r (l ∷ ls) j a k b (inr x) (inl y) = absurd (line_no known r l x.0 k b x.1 y)
broken_once known r (l ∷ ls) j a k b (inr x) (inr y) =
    let P : Reading → Type 0 = λ q. FirstBroken known q ls k b in
    broken_once known x.0 ls j a k b x.2 (subst P (adds_once known r l y.0 x.0 y.1 x.1) y.2)

pub first_once : (text : List ℕ) (known : Option Pads) (j k : ℕ) (a b : Place) → IsFirst text known j a
    → IsFirst text known k b → (j ≡ k) × (a ≡ b)
first_once text known j k a b x y =
    let same = broken_once known nothing (lines text) j a.offset k b.offset x.broken y.broken in
    (same.0, x.place ∙ ap (place_at text) same.1 ∙ sym y.place)
