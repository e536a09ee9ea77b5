-- A line has at most one form.
use Rattle.std.proofs.Common.{◌≡◌, ◌≢◌, ℕ, suc, ◌+◌, ◌-◌, ◌<◌, List, [], ◌∷◌, refl, sym, ◌∙◌, ap, length, take}
use Rattle.std.proofs.Common.{drop, arith, get_or}
use Rattle.std.proofs.lemmas.Fmt.{decimal_injective}
use Rattle.std.proofs.lemmas.Str.Parse.{digit_at}
use Rattle.std.proofs.lemmas.List.{get_or_at, get_or-append_right, length-append, take_at}
use Rattle.mp_base.specs.declared.pad.Pad.{Pad}
use Rattle.mp_base.proofs.SamePad.{same_pad}
use Rattle.stimulus_lines.specs.declared.piece.Piece.{Piece}
use Rattle.stimulus_lines.specs.declared.form.Assignment.{Assignment}
use Rattle.stimulus_lines.specs.declared.form.Form.{Form}
use Rattle.stimulus_lines.specs.declared.form.Form.TheVariants.{Input, Output, Clock}
use Rattle.stimulus_lines.specs.Forms.{IsAssignment, AreAssignments, IsPad, IsForm}
use Rattle.stimulus_lines.proofs.Numbers.{number_same, name_ends, assigned}

-- behind the `=` of a name no other stands
others : (w : Piece) (a : Assignment) (h : IsAssignment w a) → (k : ℕ) → length a.name < k → k < length w.bytes
    → get_or w.bytes k 0 ≢ 61
others w a h k more lt same =
    let size : length w.bytes ≡ length a.name + suc (length h.digits) =
    ap length h.parts ∙ length-append a.name (61 ∷ h.digits) in
    let step : k - length a.name ≡ suc (k - length a.name - 1) = omega arith in
    let digit = digit_at h.digits (k - length a.name - 1) ((h.number).0).1 (omega (arith, size)) in
    let is : get_or h.digits (k - length a.name - 1) 0 ≡ 61 =
    sym (ap (λ j. get_or (61 ∷ h.digits) j 0) step)
    ∙ sym (get_or-append_right a.name (61 ∷ h.digits) (length a.name) k 0 refl (omega arith))
    ∙ sym (ap (λ ys. get_or ys k 0) h.parts) ∙ same in
    omega (arith, digit.1, is)

same_assignment : (a b : Assignment) → a.at ≡ b.at → a.name ≡ b.name → a.value ≡ b.value → a ≡ b
same_assignment a b e f g =
    ap (λ at. let x : Assignment = record { at = at; name = a.name; value = a.value } in x) e
    ∙ ap (λ name. let x : Assignment = record { at = b.at; name = name; value = a.value } in x) f
    ∙ ap (λ value. let x : Assignment = record { at = b.at; name = b.name; value = value } in x) g

assignment_once : (w : Piece) (a b : Assignment) → IsAssignment w a → IsAssignment w b → a ≡ b
assignment_once w a b h k =
    let i = length a.name in
    let lt : i < length w.bytes = omega (arith, ap length h.parts ∙ length-append a.name (61 ∷ h.digits)) in
    let here : get_or w.bytes i 0 ≡ 61 = ap (λ ys. get_or ys i 0) h.parts ∙ get_or_at a.name 61 h.digits 0 i refl in
    let ends = name_ends w.bytes b.name k.digits i k.parts ((k.number).0).1 lt here (others w a h) in
    let name : a.name ≡ b.name =
    sym (take_at a.name (61 ∷ h.digits) i refl) ∙ sym (ap (take i) h.parts) ∙ ap (take i) k.parts
    ∙ take_at b.name (61 ∷ k.digits) i ends in
    let value =
    number_same (drop (i + 1) w.bytes) a.value b.value (assigned w a i h lt here (others w a h)).1
    (assigned w b i k lt here (others w a h)).1 in
    same_assignment a b (h.place ∙ sym k.place) name value

assignments_once : (ws : List Piece) (xs ys : List Assignment) → AreAssignments ws xs → AreAssignments ws ys → xs ≡ ys
assignments_once [] [] [] h k = refl
assignments_once [] [] (y ∷ ys) h k = absurd k
assignments_once [] (x ∷ xs) ys h k = absurd h
assignments_once (w ∷ ws) [] ys h k = absurd h
assignments_once (w ∷ ws) (x ∷ xs) [] h k = absurd k
assignments_once (w ∷ ws) (x ∷ xs) (y ∷ ys) h k =
    ap (λ z. z ∷ xs) (assignment_once w x y h.0 k.0) ∙ ap (λ zs. y ∷ zs) (assignments_once ws xs ys h.1 k.1)

pad_once : (ws : List Piece) (p q : Pad) → IsPad ws p → IsPad ws q → p ≡ q
pad_once [] p q h k = absurd h
pad_once (n ∷ []) p q h k = same_pad p q (h.1 ∙ sym k.1) (h.2 ∙ sym k.2)
pad_once (n ∷ w ∷ []) p q h k =
    let a = h.2 in
    let b = k.2 in
    same_pad p q (h.1 ∙ sym k.1)
    (decimal_injective p.width q.width (omega (arith, a.2)) (omega (arith, b.2)) (sym a.0 ∙ b.0))
pad_once (n ∷ w ∷ x ∷ more) p q h k = absurd h

pub form_once : (line : List Piece) (f g : Form) → IsForm line f → IsForm line g → f ≡ g
form_once [] f g h k = absurd h
form_once (w ∷ ws) (Input p) (Input q) h k = ap Input (pad_once ws p q h.1 k.1)
form_once (w ∷ ws) (Output p) (Output q) h k = ap Output (pad_once ws p q h.1 k.1)
form_once (w ∷ ws) (Clock xs) (Clock ys) h k = ap Clock (assignments_once ws xs ys h.1 k.1)
form_once (w ∷ ws) (Input p) (Output q) h k = absurd (omega (arith, ap (λ ys. get_or ys 0 0) (sym h.0 ∙ k.0)))
form_once (w ∷ ws) (Input p) (Clock ys) h k = absurd (omega (arith, ap (λ ys. get_or ys 0 0) (sym h.0 ∙ k.0)))
form_once (w ∷ ws) (Output p) (Input q) h k = absurd (omega (arith, ap (λ ys. get_or ys 0 0) (sym h.0 ∙ k.0)))
form_once (w ∷ ws) (Output p) (Clock ys) h k = absurd (omega (arith, ap (λ ys. get_or ys 0 0) (sym h.0 ∙ k.0)))
form_once (w ∷ ws) (Clock xs) (Input q) h k = absurd (omega (arith, ap (λ ys. get_or ys 0 0) (sym h.0 ∙ k.0)))
form_once (w ∷ ws) (Clock xs) (Output q) h k = absurd (omega (arith, ap (λ ys. get_or ys 0 0) (sym h.0 ∙ k.0)))
