-- Numerals, and the words that give one to a name.
use Rattle.std.proofs.Common.{◌≡◌, ◌≢◌, ℕ, zero, suc, ◌+◌, ◌-◌, ◌<◌, ◌≤◌, ◌^◌, List, [], ◌∷◌, ◌++◌, true, refl, sym}
use Rattle.std.proofs.Common.{◌∙◌, ap, subst, inl, inr, length, take, drop, arith, get_or}
use Rattle.std.specs.Prelude.{decimal}
use Rattle.std.specs.Int.{IsInRange}
use Rattle.std.specs.Str.Parse.{AllDigits, digits_value}
use Rattle.std.proofs.lemmas.Bool.{cases_order}
use Rattle.std.proofs.lemmas.Str.Parse.{digit_at, digits_value-take-le}
use Rattle.std.proofs.lemmas.Fmt.{decimal_is_IsNumeral, length-decimal-le}
use Rattle.std.proofs.lemmas.List.{get_or_at, get_or-append_right, length-append, take_at, drop_at}
use Rattle.stimulus_lines.specs.declared.piece.Piece.{Piece}
use Rattle.stimulus_lines.specs.declared.form.Assignment.{Assignment}
use Rattle.stimulus_lines.specs.Forms.{is_name, IsNumber, IsWidth, IsAssignment, AreAssignments}

-- what stands in a number is a digit, and what its front says is below 2^64
pub number_digit : (ds : List ℕ) (i n : ℕ) → i < length ds → IsNumber ds n → IsInRange 48 57 (get_or ds i 0)
number_digit ds i n lt h = digit_at ds i (h.0).1 lt

pub number_front : (ds : List ℕ) (i n : ℕ) → IsNumber ds n → digits_value 10 (take i ds) < 2 ^ 64
number_front ds i n h = omega (arith, digits_value-take-le 10 ds i (omega arith), h.2, h.3)

pub number_same : (ds : List ℕ) (m n : ℕ) → IsNumber ds m → IsNumber ds n → m ≡ n
number_same ds m n h k = h.2 ∙ sym k.2

-- a width is a number
pub width_number : (w : List ℕ) (n : ℕ) → IsWidth w n → IsNumber w n
width_number w n h =
    let small : n < 2 ^ 64 = omega (arith, h.2) in
    let numeral = decimal_is_IsNumeral n small in
    let short : length (decimal n) ≤ 2 = length-decimal-le 2 n (omega arith) (omega (arith, h.2)) small in
    let P : List ℕ → Type 0 = λ ds. IsNumber ds n in
    subst P (sym h.0) (numeral.0, omega (arith, short), sym numeral.1, small)

-- the last `=` ends the name
pub name_ends : (w name digits : List ℕ) (i : ℕ) → w ≡ name ++ 61 ∷ digits → AllDigits 10 digits → i < length w
    → get_or w i 0 ≡ 61
    → ((k : ℕ) → i < k → k < length w → get_or w k 0 ≢ 61) → length name ≡ i
name_ends w name digits i e all lt here after = elim (cases_order i (length name)) [
  | inl same ↦ sym same
  | inr h ↦ elim h [ inl less ↦ absurd (early less) | inr more ↦ absurd (late more) ]
]
  where
    size : length w ≡ length name + suc (length digits)
    size = ap length e ∙ length-append name (61 ∷ digits)

    early : i < length name → ⊥
    early less =
        after (length name) less (omega (arith, size))
        (ap (λ ys. get_or ys (length name) 0) e ∙ get_or_at name 61 digits 0 (length name) refl)

    late : length name < i → ⊥
    late more =
        let step : i - length name ≡ suc (i - length name - 1) = omega arith in
        let digit = digit_at digits (i - length name - 1) all (omega (arith, size)) in
        let is : get_or digits (i - length name - 1) 0 ≡ 61 =
        sym (ap (λ k. get_or (61 ∷ digits) k 0) step)
        ∙ sym (get_or-append_right name (61 ∷ digits) (length name) i 0 refl (omega arith))
        ∙ sym (ap (λ ys. get_or ys i 0) e) ∙ here in
        omega (arith, digit.1, is)

-- what a word gives is what stands round its last `=`
pub assigned : (w : Piece) (a : Assignment) (i : ℕ) → IsAssignment w a → i < length w.bytes → get_or w.bytes i 0 ≡ 61
    → ((k : ℕ) → i < k → k < length w.bytes → get_or w.bytes k 0 ≢ 61)
    → (is_name (take i w.bytes) ≡ true) × IsNumber (drop (i + 1) w.bytes) a.value
assigned w a i h lt here after =
    let ends = name_ends w.bytes a.name h.digits i h.parts ((h.number).0).1 lt here after in
    let front : take i w.bytes ≡ a.name = ap (take i) h.parts ∙ take_at a.name (61 ∷ h.digits) i ends in
    let split : a.name ++ 61 ∷ h.digits ≡ (a.name ++ 61 ∷ []) ++ h.digits = again a.name h.digits in
    let back : drop (i + 1) w.bytes ≡ h.digits =
    ap (drop (i + 1)) (h.parts ∙ split)
    ∙ drop_at (a.name ++ 61 ∷ []) h.digits (i + 1) (length-append a.name (61 ∷ []) ∙ ap (λ n. n + 1) ends) in
    let P : List ℕ → Type 0 = λ ds. IsNumber ds a.value in
    (ap is_name front ∙ h.name, subst P (sym back) h.number)
  where
    again : (xs ys : List ℕ) → xs ++ 61 ∷ ys ≡ (xs ++ 61 ∷ []) ++ ys
    again [] ys = refl
    again (x ∷ xs) ys = ap (λ zs. x ∷ zs) (again xs ys)

-- the same of these bytes, which are the word's
pub assigned_in : (w : Piece) (a : Assignment) (bytes : List ℕ) (i : ℕ) → bytes ≡ w.bytes → IsAssignment w a
    → i < length bytes → get_or bytes i 0 ≡ 61
    → ((k : ℕ) → i < k → k < length bytes → get_or bytes k 0 ≢ 61)
    → (is_name (take i bytes) ≡ true) × IsNumber (drop (i + 1) bytes) a.value
assigned_in w a bytes i e =
    let P : List ℕ → Type 0 = λ bs. IsAssignment w a → i < length bs → get_or bs i 0 ≡ 61
    → ((k : ℕ) → i < k → k < length bs → get_or bs k 0 ≢ 61)
    → (is_name (take i bs) ≡ true) × IsNumber (drop (i + 1) bs) a.value in
    subst P (sym e) (assigned w a i)

-- a word that gives a value has a `=`
pub has_equals : (w : Piece) (a : Assignment) (bytes : List ℕ) → bytes ≡ w.bytes → IsAssignment w a
    → ((k : ℕ) → k < length bytes → get_or bytes k 0 ≢ 61) → ⊥
has_equals w a bytes e h without =
    without (length a.name) (omega (arith, ap length (e ∙ h.parts) ∙ length-append a.name (61 ∷ h.digits)))
    (ap (λ ys. get_or ys (length a.name) 0) (e ∙ h.parts) ∙ get_or_at a.name 61 h.digits 0 (length a.name) refl)

-- one word more
pub assignments_push : (ws : List Piece) (w : Piece) (xs : List Assignment) (x : Assignment) → AreAssignments ws xs
    → IsAssignment w x → AreAssignments (ws ++ w ∷ []) (xs ++ x ∷ [])
assignments_push [] w [] x h k = (k, tt)
assignments_push [] w (y ∷ xs) x h k = absurd h
assignments_push (v ∷ ws) w [] x h k = absurd h
assignments_push (v ∷ ws) w (y ∷ xs) x h k = (h.0, assignments_push ws w xs x h.1 k)

-- each word gives a value
pub assignments_at : (ws : List Piece) (xs : List Assignment) (i : ℕ) (d : Piece) → AreAssignments ws xs
    → i < length ws → (a : Assignment) × IsAssignment (get_or ws i d) a
assignments_at [] xs i d h lt = absurd (omega arith)
assignments_at (w ∷ ws) [] i d h lt = absurd h
assignments_at (w ∷ ws) (x ∷ xs) zero d h lt = (x, h.0)
assignments_at (w ∷ ws) (x ∷ xs) (suc i) d h lt = assignments_at ws xs i d h.1 (omega arith)
