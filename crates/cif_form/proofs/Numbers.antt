-- A reader of numbers and points that is a function, and finds what the grammar says.
use Rattle.std.proofs.Common.{ℕ, ◌≡◌, ◌+◌, ◌*◌, ◌-◌, ◌<◌, inl, inr, refl, sym, ◌∙◌, ap, subst, arith, List, [], ◌∷◌}
use Rattle.std.proofs.Common.{◌++◌, true, false, eqb, Some, append_assoc}
use Rattle.std.specs.Prelude.{ℤ, pos, neg_ℤ}
use Rattle.std.specs.Str.Parse.{digits_value_after, AllDigits}
use Rattle.std.specs.Char.{digit_value}
use Rattle.std.proofs.lemmas.List.Elements.{All-head, All-tail, All-cons, All-nil}
use Rattle.std.proofs.lemmas.Bool.{cases_lt, ne_eqb}
use Rattle.mp_base.specs.Token.{is_digit}
use Rattle.lam_geom.specs.declared.place.Point.{Point}
use Rattle.cif_form.specs.Text.{IsDigit, IsUpper, IsBlank, IsSeparator, Separators, Separator, Digits, SignedDigits}
use Rattle.cif_form.specs.Text.{Integer, Signed, PointText}
use Rattle.cif_form.specs.Readers.{Reader, goes_on, and_then, gives, is_upper, is_separator, is_blank, past}
use Rattle.cif_form.specs.Readers.{separator_from, digits_from, natural_from, signed_digits_from, integer_from}
use Rattle.cif_form.specs.Readers.{signed_from, point_from, starts, follows}

-- ---- readers: what is read from the front of a text, and the rest of the text

-- the reader finds `a` where the text is `front`, and leaves the rest
abbrev pub Finds : {A : Type 0} → Reader A → A → List ℕ → List ℕ → Type 0
Finds p a front rest = p (front ++ rest) ≡ Some (a, rest)

pub finds_both : {A B : Type 0} (p : Reader A) (q : A → Reader B) (a : A) (b : B) (text front back rest : List ℕ)
    → text ≡ front ++ back
    → Finds p a front (back ++ rest) → Finds (q a) b back rest → Finds (and_then p q) b text rest
finds_both p q a b text front back rest e h k =
    let f : text ++ rest ≡ front ++ (back ++ rest) = ap (λ t. t ++ rest) e ∙ append_assoc front back rest in
    ap (and_then p q) f ∙ ap (goes_on q) h ∙ k

-- ---- bytes

pub no_digit : (b : ℕ) → ¬ IsDigit b → is_digit b ≡ false
no_digit b h = elim (cases_lt b 48)
    [ inl l ↦ grind arith | inr l ↦ elim (cases_lt 57 b) [ inl k ↦ grind arith | inr k ↦ absurd (h (l, omega arith)) ] ]

pub no_upper : (b : ℕ) → ¬ IsUpper b → is_upper b ≡ false
no_upper b h = elim (cases_lt b 65)
    [ inl l ↦ grind arith | inr l ↦ elim (cases_lt 90 b) [ inl k ↦ grind arith | inr k ↦ absurd (h (l, omega arith)) ] ]

pub separator_reads : (b : ℕ) → IsSeparator b → is_separator b ≡ true
separator_reads b (inl h) =
    rw (
      no_digit b (λ k. omega arith),
      ne_eqb b 45 (λ k. omega arith),
      ne_eqb b 40 (λ k. omega arith),
      ne_eqb b 41
          (λ k. omega arith),
      ne_eqb b 59 (λ k. omega arith),
    ) refl
separator_reads b (inr h) = rw (no_digit b h.0, ne_eqb b 45 h.2, ne_eqb b 40 h.3, ne_eqb b 41 h.4, ne_eqb b 59 h.5) refl

pub blank_reads : (b : ℕ) → IsBlank b → is_blank b ≡ true
blank_reads b h = rw (separator_reads b (inr h), no_upper b h.1) refl

digit_no_separator : (b : ℕ) → is_digit b ≡ true → is_separator b ≡ false
digit_no_separator b h = rw h refl

-- ---- numbers

-- the text goes on with no digit
abbrev pub Stops : List ℕ → Type 0
Stops [] = Unit {0}
Stops (b ∷ bs) = is_digit b ≡ false

pub separator_stops : (b : ℕ) (rest : List ℕ) → IsSeparator b → Stops (b ∷ rest)
separator_stops b rest (inl h) = no_digit b (λ k. omega arith)
separator_stops b rest (inr h) = no_digit b h.0

pub digit_reads : (b : ℕ) → digit_value b < 10 → (is_digit b ≡ true) × (digit_value b ≡ b - 48)
digit_reads b h = (grind arith, grind arith)

digits_read : (ds : List ℕ) (n : ℕ) (rest : List ℕ) → AllDigits 10 ds → Stops rest
    → digits_from n (ds ++ rest) ≡ (digits_value_after 10 n ds, rest)
digits_read [] n [] a s = refl
digits_read [] n (b ∷ rest) a s = rw (s, digits_from) refl
digits_read (b ∷ ds) n rest a s =
    let d = digit_reads b a.0 in
    let e : digits_from n (b ∷ (ds ++ rest)) ≡ digits_from (n * 10 + (b - 48)) (ds ++ rest) =
    rw (d.0, digits_from) refl in
    e ∙ digits_read ds (n * 10 + (b - 48)) rest a.1 s
    ∙ ap (λ v. (digits_value_after 10 (n * 10 + v) ds, rest)) (sym d.1)

natural_reads : (ds rest : List ℕ) (n : ℕ) → Digits n ds → Stops rest → Finds natural_from n ds rest
natural_reads [] rest n ((some, digits), value) s = absurd (omega (arith, some))
natural_reads (b ∷ ds) rest n ((some, digits), value) s =
    let d = digit_reads b digits.0 in
    let e : natural_from (b ∷ (ds ++ rest)) ≡ Some (digits_from 0 (b ∷ (ds ++ rest))) = rw (d.0, natural_from) refl in
    e ∙ ap (λ p. Some p) (digits_read (b ∷ ds) 0 rest digits s ∙ ap (λ v. (v, rest)) value)

-- digits end the separators in front of them
digits_past : (ds rest : List ℕ) (n : ℕ) → Digits n ds → past (ds ++ rest) ≡ ds ++ rest
digits_past [] rest n ((some, digits), value) = absurd (omega (arith, some))
digits_past (b ∷ ds) rest n ((some, digits), value) =
    rw (digit_no_separator b (digit_reads b digits.0).0, past) refl

pub separators_past : (seps rest : List ℕ) → Separators seps → past (seps ++ rest) ≡ past rest
separators_past [] rest h = refl
separators_past (b ∷ seps) rest h =
    let e : past (b ∷ (seps ++ rest)) ≡ past (seps ++ rest) =
    rw (separator_reads b (All-head IsSeparator b seps h), past) refl in
    e ∙ separators_past seps rest (All-tail IsSeparator b seps h)

pub integer_reads : (z : ℤ) (front rest : List ℕ) → Integer z front → Stops rest → Finds integer_from z front rest
integer_reads z front rest (seps, ds, e, h, (n, f, d)) s =
    let g : front ++ rest ≡ seps ++ (ds ++ rest) = ap (λ t. t ++ rest) e ∙ append_assoc seps ds rest in
    let k : past (seps ++ (ds ++ rest)) ≡ ds ++ rest = separators_past seps (ds ++ rest) h ∙ digits_past ds rest n d in
    ap integer_from g ∙ ap (and_then natural_from (gives pos)) k
    ∙ ap (goes_on (gives pos)) (natural_reads ds rest n d s) ∙ ap (λ v. Some (v, rest)) (sym f)

-- a `-` ends them too
minus_past : (rest : List ℕ) → past (45 ∷ rest) ≡ 45 ∷ rest
minus_past rest = refl

digit_no_minus : (b : ℕ) → is_digit b ≡ true → eqb b 45 ≡ false
digit_no_minus b h = grind arith

unsigned_reads : (ds rest : List ℕ) (n : ℕ) → Digits n ds → Stops rest → Finds signed_digits_from (pos n) ds rest
unsigned_reads [] rest n ((some, digits), value) s = absurd (omega (arith, some))
unsigned_reads (b ∷ ds) rest n h s =
    let ((some, digits), value) = h in
    let e : signed_digits_from (b ∷ (ds ++ rest)) ≡ and_then natural_from (gives pos) (b ∷ (ds ++ rest)) =
    rw (digit_no_minus b (digit_reads b digits.0).0, signed_digits_from) refl in
    e ∙ ap (goes_on (gives pos)) (natural_reads (b ∷ ds) rest n h s)

negative_reads : (ds rest : List ℕ) (n : ℕ) → Digits n ds → Stops rest
    → Finds signed_digits_from (neg_ℤ (pos n)) (45 ∷ ds) rest
negative_reads ds rest n h s = ap (goes_on (gives (λ n. neg_ℤ (pos n)))) (natural_reads ds rest n h s)

pub signed_digits_read : (z : ℤ) (front rest : List ℕ) → SignedDigits z front → Stops rest
    → Finds signed_digits_from z front rest × (past (front ++ rest) ≡ front ++ rest)
signed_digits_read z front rest (n, inl (e, d)) s =
    (unsigned_reads front rest n d s ∙ ap (λ v. Some (v, rest)) (sym e), digits_past front rest n d)
signed_digits_read z front rest (n, inr (e, (minus, ds, f, g, d))) s =
    let k : front ≡ 45 ∷ ds = f ∙ ap (λ m. m ++ ds) g in (
      ap (λ t. signed_digits_from (t ++ rest)) k ∙ negative_reads ds rest n d s ∙ ap (λ v. Some (v, rest)) (sym e),
      ap (λ t. past (t ++ rest)) k ∙ ap (λ t. t ++ rest) (sym k),
    )

pub signed_reads : (z : ℤ) (front rest : List ℕ) → Signed z front → Stops rest → Finds signed_from z front rest
signed_reads z front rest (seps, ds, e, h, d) s =
    let g : front ++ rest ≡ seps ++ (ds ++ rest) = ap (λ t. t ++ rest) e ∙ append_assoc seps ds rest in
    let r = signed_digits_read z ds rest d s in
    let k : past (seps ++ (ds ++ rest)) ≡ ds ++ rest = separators_past seps (ds ++ rest) h ∙ r.1 in
    ap signed_from g ∙ ap signed_digits_from k ∙ r.0

-- ---- points, and whether numbers follow

pub separator_read : (front rest : List ℕ) → Separator front → Finds separator_from tt front rest
separator_read front rest (b, e, h) =
    let f : separator_from (b ∷ rest) ≡ Some (tt, rest) = rw (separator_reads b h, separator_from) refl in
    ap (λ t. separator_from (t ++ rest)) e ∙ f

-- a separator stops a number
pub stops_at : (front back rest : List ℕ) → Separator front → Stops ((front ++ back) ++ rest)
stops_at front back rest (b, e, h) =
    subst (λ t. Stops ((t ++ back) ++ rest)) (sym e) (separator_stops b (back ++ rest) h)

pub point_reads : (p : Point) (front rest : List ℕ) → PointText p front → Stops rest → Finds point_from p front rest
point_reads p front rest (fx, more, e, hx, (sep, fy, f, hs, hy)) s =
    let stop : Stops (more ++ rest) = subst (λ t. Stops (t ++ rest)) (sym f) (stops_at sep fy rest hs) in
    finds_both signed_from _ p.x p front fx more rest e (signed_reads p.x fx (more ++ rest) hx stop)
    (finds_both separator_from _ tt p more sep fy rest f (separator_read sep (fy ++ rest) hs)
    (ap (goes_on (gives (λ y. record { x = p.x; y = y }))) (signed_reads p.y fy rest hy s)))

digits_start : (ds rest : List ℕ) (n : ℕ) → Digits n ds → starts (ds ++ rest) ≡ true
digits_start [] rest n ((some, digits), value) = absurd (omega (arith, some))
digits_start (b ∷ ds) rest n ((some, digits), value) = rw (digit_reads b digits.0).0 refl

pub integer_follows : (z : ℤ) (front rest : List ℕ) → Integer z front → follows (front ++ rest) ≡ true
integer_follows z front rest (seps, ds, e, h, (n, f, d)) =
    let g : front ++ rest ≡ seps ++ (ds ++ rest) = ap (λ t. t ++ rest) e ∙ append_assoc seps ds rest in
    ap follows g ∙ ap starts (separators_past seps (ds ++ rest) h ∙ digits_past ds rest n d) ∙ digits_start ds rest n d

signed_start : (z : ℤ) (front rest : List ℕ) → SignedDigits z front
    → (past (front ++ rest) ≡ front ++ rest) × (starts (front ++ rest) ≡ true)
signed_start z front rest (n, inl (e, d)) = (digits_past front rest n d, digits_start front rest n d)
signed_start z front rest (n, inr (e, (minus, ds, f, g, d))) =
    let k : front ≡ 45 ∷ ds = f ∙ ap (λ m. m ++ ds) g in
    (ap (λ t. past (t ++ rest)) k ∙ ap (λ t. t ++ rest) (sym k), ap (λ t. starts (t ++ rest)) k)

pub signed_follows : (z : ℤ) (front rest : List ℕ) → Signed z front → follows (front ++ rest) ≡ true
signed_follows z front rest (seps, ds, e, h, d) =
    let g : front ++ rest ≡ seps ++ (ds ++ rest) = ap (λ t. t ++ rest) e ∙ append_assoc seps ds rest in
    let r = signed_start z ds rest d in
    ap follows g ∙ ap starts (separators_past seps (ds ++ rest) h ∙ r.0) ∙ r.1

pub point_follows : (p : Point) (front rest : List ℕ) → PointText p front → follows (front ++ rest) ≡ true
point_follows p front rest (fx, more, e, hx, h) =
    ap (λ t. follows (t ++ rest)) e ∙ ap follows (append_assoc fx more rest) ∙ signed_follows p.x fx (more ++ rest) hx

pub separator_follows : (front rest : List ℕ) → Separator front → follows (front ++ rest) ≡ follows rest
separator_follows front rest (b, e, h) = ap (λ t. follows (t ++ rest)) e
    ∙ ap starts (separators_past (b ∷ []) rest (All-cons IsSeparator b [] h (All-nil IsSeparator)))
