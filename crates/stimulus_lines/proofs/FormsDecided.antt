-- A line has a form, or none.
use Rattle.std.proofs.Common.{◌≡◌, ◌⊎◌, inl, inr, ℕ, zero, suc, ◌<◌, ◌^◌, List, [], ◌∷◌, ◌++◌, true}
use Rattle.std.proofs.Common.{length, take, drop, refl, sym, ◌∙◌, ap, subst, arith, get_or}
use Rattle.std.specs.Prelude.{codes, decimal}
use Rattle.std.specs.Char.{digit_value}
use Rattle.std.specs.Str.Parse.{AllDigits, digits_value}
use Rattle.std.proofs.lemmas.Bool.{cases_eq}
use Rattle.mp_base.specs.declared.pad.Pad.{Pad}
use Rattle.mp_base.proofs.Decisions.{Decided, same_claim, both_of, one_of, is_true, decided_below, is_within}
use Rattle.mp_base.proofs.Decisions.{is_name as are_same, some_below}
use Rattle.stimulus_lines.specs.declared.form.Assignment.{Assignment}
use Rattle.stimulus_lines.specs.declared.form.Form.{Form}
use Rattle.stimulus_lines.specs.declared.form.Form.TheVariants.{Input, Output, Clock}
use Rattle.stimulus_lines.specs.declared.piece.Piece.{Piece}
use Rattle.stimulus_lines.specs.Forms.{is_name, IsNumber, IsWidth, IsAssignment, AreAssignments, IsPad, IsForm}

-- ---- words

all_digits : (ds : List ℕ) → Decided (AllDigits 10 ds)
all_digits [] = inl tt
all_digits (c ∷ cs) = both_of (decided_below (digit_value c) 10) (all_digits cs)

number_in : (ds : List ℕ) → Decided ((n : ℕ) × IsNumber ds n)
number_in ds = same_claim (both_of (both_of (decided_below 0 (length ds)) (all_digits ds))
    (both_of (is_within (length ds) 20) (decided_below (digits_value 10 ds) (2 ^ 64))))
    (λ ((some, digits), (short, low)). (digits_value 10 ds, ((some, digits), short, refl, low)))
    (λ (n, (numeral, short, is, low)). (numeral, (short, subst (λ k. k < 2 ^ 64) is low)))

split_at : (xs : List ℕ) (i : ℕ) → i < length xs → xs ≡ take i xs ++ get_or xs i 0 ∷ drop (suc i) xs
split_at [] i lt = absurd (omega (arith, lt))
split_at (x ∷ xs) zero lt = refl
split_at (x ∷ xs) (suc i) lt = ap (λ ys. x ∷ ys) (split_at xs i (omega (arith, lt)))

front : (xs ys : List ℕ) → take (length xs) (xs ++ ys) ≡ xs
front [] ys = refl
front (x ∷ xs) ys = ap (λ zs. x ∷ zs) (front xs ys)

back : (xs ys : List ℕ) (y : ℕ) → drop (suc (length xs)) (xs ++ y ∷ ys) ≡ ys
back [] ys y = refl
back (x ∷ xs) ys y = back xs ys y

middle : (xs ys : List ℕ) (y : ℕ) → get_or (xs ++ y ∷ ys) (length xs) 0 ≡ y
middle [] ys y = refl
middle (x ∷ xs) ys y = middle xs ys y

shorter : (xs ys : List ℕ) (y : ℕ) → length xs < length (xs ++ y ∷ ys)
shorter [] ys y = omega arith
shorter (x ∷ xs) ys y = let h = shorter xs ys y in omega (arith, h)

-- the byte at i parts a name from a number
abbrev PartsAt : List ℕ → ℕ → Type 0
PartsAt bytes i = (get_or bytes i 0 ≡ 61) × ((is_name (take i bytes) ≡ true)
    × ((n : ℕ) × IsNumber (drop (suc i) bytes) n))

parts_at : (bytes : List ℕ) (i : ℕ) → Decided (PartsAt bytes i)
parts_at bytes i = both_of (elim (cases_eq (get_or bytes i 0) 61) [ inl same ↦ inl same | inr other ↦ inr other ])
    (both_of (is_true (is_name (take i bytes))) (number_in (drop (suc i) bytes)))

assignment_in : (w : Piece) → Decided ((a : Assignment) × IsAssignment w a)
assignment_in w = same_claim (some_below (PartsAt w.bytes) (parts_at w.bytes) (length w.bytes)) fore aft
  where
    fore : (i : ℕ) × (i < length w.bytes) × PartsAt w.bytes i → (a : Assignment) × IsAssignment w a
    fore (i, lt, (equals, (name, (n, number)))) = (
      record { at = w.at; name = take i w.bytes; value = n },
      record {
        digits = drop (suc i) w.bytes;
        parts = split_at w.bytes i lt ∙ ap (λ c. take i w.bytes ++ c ∷ drop (suc i) w.bytes) equals;
        name = name;
        number = number;
        place = refl;
      },
    )

    aft : (a : Assignment) × IsAssignment w a → (i : ℕ) × (i < length w.bytes) × PartsAt w.bytes i
    aft (a, h) =
        let parts : PartsAt (a.name ++ 61 ∷ h.digits) (length a.name) = (
          middle a.name h.digits 61,
          (
            subst (λ x. is_name x ≡ true) (sym (front a.name (61 ∷ h.digits))) h.name,
            (a.value, subst (λ x. IsNumber x a.value) (sym (back a.name h.digits 61)) h.number),
          ),
        ) in
        let is = sym h.parts in (
          length a.name,
          subst (λ bytes. length a.name < length bytes) is (shorter a.name h.digits 61),
          subst (λ bytes. PartsAt bytes (length a.name)) is parts,
        )

assignments_in : (ws : List Piece) → Decided ((xs : List Assignment) × AreAssignments ws xs)
assignments_in [] = inl ([], tt)
assignments_in (w ∷ ws) = same_claim (both_of (assignment_in w) (assignments_in ws)) fore aft
  where
    fore : ((a : Assignment) × IsAssignment w a) × ((xs : List Assignment) × AreAssignments ws xs)
        → (xs : List Assignment) × AreAssignments (w ∷ ws) xs
    fore ((a, h), (xs, more)) = (a ∷ xs, (h, more))

    aft : (xs : List Assignment) × AreAssignments (w ∷ ws) xs → ((a : Assignment) × IsAssignment w a)
        × ((xs : List Assignment) × AreAssignments ws xs)
    aft ([], none) = absurd none
    aft (a ∷ xs, (h, more)) = ((a, h), (xs, more))

-- ---- lines

width_in : (w : List ℕ) → Decided ((n : ℕ) × IsWidth w n)
width_in w = same_claim (some_below (λ n. (w ≡ decimal n) × (0 < n))
    (λ n. both_of (are_same w (decimal n)) (decided_below 0 n)) 65)
    (λ (n, lt, (is, some)). (n, (is, some, omega (arith, lt))))
    (λ (n, (is, some, le)). (n, omega (arith, le), (is, some)))

pad_in : (ws : List Piece) → Decided ((p : Pad) × IsPad ws p)
pad_in [] = inr (λ (p, h). absurd h)
pad_in (n ∷ []) = same_claim (is_true (is_name n.bytes))
    (λ name. (record { name = n.bytes; width = 0; narrow = omega arith }, (name, refl, refl))) (λ (p, h). h.0)
pad_in (n ∷ w ∷ []) = same_claim (both_of (is_true (is_name n.bytes)) (width_in w.bytes)) fore
    (λ (p, h). (h.0, (p.width, h.2)))
  where
    fore : (is_name n.bytes ≡ true) × ((k : ℕ) × IsWidth w.bytes k) → (p : Pad) × IsPad (n ∷ w ∷ []) p
    fore (name, (k, is)) = (record { name = n.bytes; width = k; narrow = is.2 }, (name, refl, is))
pad_in (n ∷ w ∷ x ∷ more) = inr (λ (p, h). absurd h)

-- the forms of a line by its first word
abbrev FormsOf : Piece → List Piece → Type 0
FormsOf w ws = ((w.bytes ≡ codes "in") × ((p : Pad) × IsPad ws p))
    ⊎ (((w.bytes ≡ codes "out") × ((p : Pad) × IsPad ws p))
    ⊎ ((w.bytes ≡ codes "clock") × ((xs : List Assignment) × AreAssignments ws xs)))

pub form_in : (line : List Piece) → Decided ((f : Form) × IsForm line f)
form_in [] = inr (λ (f, h). absurd h)
form_in (w ∷ ws) = same_claim (one_of (both_of (are_same w.bytes (codes "in")) (pad_in ws))
    (one_of (both_of (are_same w.bytes (codes "out")) (pad_in ws))
    (both_of (are_same w.bytes (codes "clock")) (assignments_in ws))))
    fore aft
  where
    fore : FormsOf w ws → (f : Form) × IsForm (w ∷ ws) f
    fore (inl (word, (p, pad))) = (Input p, (word, pad))
    fore (inr (inl (word, (p, pad)))) = (Output p, (word, pad))
    fore (inr (inr (word, (xs, clock)))) = (Clock xs, (word, clock))

    aft : (f : Form) × IsForm (w ∷ ws) f → FormsOf w ws
    aft (Input p, (word, pad)) = inl (word, (p, pad))
    aft (Output p, (word, pad)) = inr (inl (word, (p, pad)))
    aft (Clock xs, (word, clock)) = inr (inr (word, (xs, clock)))
