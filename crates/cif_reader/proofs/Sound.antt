-- What the reader of numbers and points finds, stands in front of the text as the grammar says.
use Rattle.std.proofs.Common.{◌≡◌, ℕ, ◌+◌, ◌*◌, ◌-◌, ◌<◌, ◌≤◌, ◌⊎◌, inl, inr, List, [], ◌∷◌, ◌++◌, refl, sym, ◌∙◌, ap}
use Rattle.std.proofs.Common.{subst, arith, length, append_assoc, Bool, true, false, eqb, leb, not, ◌&&◌, ◌||◌, Option}
use Rattle.std.proofs.Common.{Some, None}
use Rattle.std.specs.Prelude.{pos, neg_ℤ}
use Rattle.std.specs.Char.{digit_value}
use Rattle.std.specs.Str.Parse.{AllDigits, digits_value_after}
use Rattle.std.proofs.lemmas.List.Elements.{All-nil, All-cons}
use Rattle.std.proofs.lemmas.Option.{none-some}
use Rattle.std.proofs.lemmas.Bool.{eqb-false}
use Rattle.mp_base.specs.Token.{is_digit}
use Rattle.cif_form.specs.Text.{◌▹◌, Nothing, IsDigit, IsUpper, IsBlank, IsSeparator, Blanks, Separators, Separator}
use Rattle.cif_form.specs.Text.{Digits, SignedDigits, Integer, Signed, PointText}
use Rattle.cif_form.specs.Readers.{Reader, goes_on, and_then, gives, is_upper, is_separator, is_blank, past}
use Rattle.cif_form.specs.Readers.{past_blanks, separator_from, then_separator, digits_from, natural_from}
use Rattle.cif_form.specs.Readers.{signed_digits_from, integer_from, signed_from, point_from, follows, tail_from}
use Rattle.cif_form.proofs.Scanning.{blank_means}

-- ---- readers that find what P says of the front

abbrev pub Sound : {A : Type 0} → Reader A → (A → List ℕ → Type 0) → Type 0
Sound {A} p P = (text : List ℕ) (a : A) (rest : List ℕ) → p text ≡ Some (a, rest)
    → (front : List ℕ) × (text ≡ front ++ rest) × P a front

abbrev first_in : {A B : Type 0} → A → Option (A × B) → A
first_in a None = a
first_in a (Some r) = r.0

abbrev second_in : {A B : Type 0} → B → Option (A × B) → B
second_in b None = b
second_in b (Some r) = r.1

pub same_some : {A B : Type 0} (a c : A) (b d : B)
    → (let x : A × B = (a, b) in let y : A × B = (c, d) in Some x ≡ Some y) → (a ≡ c) × (b ≡ d)
same_some a c b d e = (ap (first_in a) e, ap (second_in b) e)

split_goes : {A B : Type 0} (q : A → Reader B) (r : Option (A × List ℕ)) (b : B) (rest : List ℕ)
    → goes_on q r ≡ Some (b, rest)
    → (a : A) × (mid : List ℕ) × (r ≡ Some (a, mid)) × (q a mid ≡ Some (b, rest))
split_goes q None b rest e = absurd (none-some (b, rest) e)
split_goes q (Some r) b rest e = (r.0, r.1, refl, e)

pub sound_both : {A B : Type 0} (p : Reader A) (q : A → Reader B) (P : A → List ℕ → Type 0)
    (Q : A → B → List ℕ → Type 0) → Sound p P → ((a : A) → Sound (q a) (Q a))
    → Sound (and_then p q) (λ b front. (a : A) × (P a ▹ Q a b) front)
sound_both p q P Q h k text b rest e =
    let (a, mid, f, g) = split_goes q (p text) b rest e in
    let (front, s, m) = h text a mid f in
    let (back, t, n) = k a mid b rest g in
    (front ++ back, s ∙ ap (λ u. front ++ u) t ∙ sym (append_assoc front back rest), (a, (front, back, refl, m, n)))

pub sound_map : {A B : Type 0} (p : Reader A) (f : A → B) (P : A → List ℕ → Type 0) → Sound p P
    → Sound (and_then p (gives f)) (λ b front. (a : A) × (b ≡ f a) × P a front)
sound_map p f P h text b rest e =
    let (a, mid, g, k) = split_goes (gives f) (p text) b rest e in
    let (x, y) = same_some (f a) b mid rest k in
    let (front, s, m) = h text a mid g in
    (front, s ∙ ap (λ t. front ++ t) y, (a, sym x, m))

pub sound_as : {A : Type 0} (p : Reader A) (P Q : A → List ℕ → Type 0)
    → ((a : A) (front : List ℕ) → P a front → Q a front) → Sound p P → Sound p Q
sound_as p P Q w h text a rest e = let (front, s, m) = h text a rest e in (front, s, w a front m)

-- ---- bytes

between : (b l u : ℕ) → (l ≤ b) × (b ≤ u) → (leb l b && leb b u) ≡ false → ⊥
between b l u (h, k) e = grind arith

none_of : (d m o c s : Bool) → not (d || m || o || c || s) ≡ true
    → (d ≡ false) × (m ≡ false) × (o ≡ false) × (c ≡ false) × (s ≡ false)
none_of d m o c s h = (grind arith, grind arith, grind arith, grind arith, grind arith)

pub digit_is : (b : ℕ) → is_digit b ≡ true → IsDigit b
digit_is b h = (grind arith, grind arith)

pub upper_is : (b : ℕ) → is_upper b ≡ true → IsUpper b
upper_is b h = (grind arith, grind arith)

no_separator : (b : ℕ) → is_separator b ≡ true → is_upper b ≡ false → IsBlank b
no_separator b h k =
    let p = none_of (is_digit b) (eqb b 45) (eqb b 40) (eqb b 41) (eqb b 59) h in (
      (λ d. between b 48 57 d p.0),
      (λ u. between b 65 90 u k),
      eqb-false b 45 p.1,
      eqb-false b 40 p.2,
      eqb-false b 41
          p.3,
      eqb-false b 59 p.4,
    )

pub separator_is : (b : ℕ) → is_separator b ≡ true → IsSeparator b
separator_is b h = at (is_upper b) refl
  where
    at : (u : Bool) → is_upper b ≡ u → IsSeparator b
    at true k = inl (upper_is b k)
    at false k = inr (no_separator b h k)

-- ---- blanks and separators in front

pub past_split : (text : List ℕ) → (seps : List ℕ) × (text ≡ seps ++ past text) × Separators seps
past_split [] = ([], refl, All-nil IsSeparator)
past_split (b ∷ bs) = at (is_separator b) refl (past_split bs)
  where
    at : (t : Bool) → is_separator b ≡ t → (seps : List ℕ) × (bs ≡ seps ++ past bs) × Separators seps
        → (seps : List ℕ) × (b ∷ bs ≡ seps ++ past (b ∷ bs)) × Separators seps
    at true h (seps, e, k) =
        let f : past (b ∷ bs) ≡ past bs = rw (h, past) refl in (
          b ∷ seps,
          ap (λ t. b ∷ t) e
              ∙ ap (λ t. (b ∷ seps) ++ t) (sym f),
          All-cons IsSeparator b seps (separator_is b h) k,
        )
    at false h s = let f : past (b ∷ bs) ≡ b ∷ bs = rw (h, past) refl in ([], sym f, All-nil IsSeparator)

pub blanks_split : (text : List ℕ) → (blanks : List ℕ) × (text ≡ blanks ++ past_blanks text) × Blanks blanks
blanks_split [] = ([], refl, All-nil IsBlank)
blanks_split (b ∷ bs) = at (is_blank b) refl (blanks_split bs)
  where
    at : (t : Bool) → is_blank b ≡ t → (blanks : List ℕ) × (bs ≡ blanks ++ past_blanks bs) × Blanks blanks
        → (blanks : List ℕ) × (b ∷ bs ≡ blanks ++ past_blanks (b ∷ bs)) × Blanks blanks
    at true h (blanks, e, k) =
        let f : past_blanks (b ∷ bs) ≡ past_blanks bs = rw (h, past_blanks) refl in (
          b ∷ blanks,
          ap (λ t. b ∷ t) e
              ∙ ap (λ t. (b ∷ blanks) ++ t) (sym f),
          All-cons IsBlank b blanks (blank_means b h) k,
        )
    at false h s = let f : past_blanks (b ∷ bs) ≡ b ∷ bs = rw (h, past_blanks) refl in ([], sym f, All-nil IsBlank)

-- what is found behind separators
behind_separators : {A : Type 0} (p : Reader A) (P : A → List ℕ → Type 0) → Sound p P
    → Sound (λ text. p (past text)) (λ a. Separators ▹ P a)
behind_separators p P h text a rest e =
    let (seps, s, k) = past_split text in
    let (front, t, m) = h (past text) a rest e in
    (seps ++ front, s ∙ ap (λ u. seps ++ u) t ∙ sym (append_assoc seps front rest), (seps, front, refl, k, m))

pub behind_blanks : {A : Type 0} (p : Reader A) (P : A → List ℕ → Type 0) → Sound p P
    → Sound (λ text. p (past_blanks text)) (λ a. Blanks ▹ P a)
behind_blanks p P h text a rest e =
    let (blanks, s, k) = blanks_split text in
    let (front, t, m) = h (past_blanks text) a rest e in
    (blanks ++ front, s ∙ ap (λ u. blanks ++ u) t ∙ sym (append_assoc blanks front rest), (blanks, front, refl, k, m))

pub separator_sound : Sound separator_from (λ u. Separator)
separator_sound [] u rest e = absurd (none-some (u, rest) e)
separator_sound (b ∷ bs) u rest e = at (is_separator b) refl
  where
    at : (t : Bool) → is_separator b ≡ t → (front : List ℕ) × (b ∷ bs ≡ front ++ rest) × Separator front
    at true h =
        let f : separator_from (b ∷ bs) ≡ Some (tt, bs) = rw (h, separator_from) refl in
        (b ∷ [], ap (λ t. b ∷ t) (same_some tt u bs rest (sym f ∙ e)).1, (b, refl, separator_is b h))
    at false h = let f : separator_from (b ∷ bs) ≡ None = rw (h, separator_from) refl in
        absurd (none-some (u, rest) (sym f ∙ e))

pub then_sound : {A : Type 0} (p : Reader A) (P : A → List ℕ → Type 0) → Sound p P
    → Sound (then_separator p) (λ a. Separator ▹ P a)
then_sound p P h text a rest e =
    let (front, s, (u, m)) =
    sound_both separator_from (λ _. p) (λ u. Separator) (λ u. P) separator_sound (λ u. h) text a rest e in (front, s, m)

-- ---- numbers

digit_writes : (b : ℕ) → is_digit b ≡ true → (digit_value b < 10) × (b - 48 ≡ digit_value b)
digit_writes b h = let d = digit_is b h in (grind arith, grind arith)

digits_split : (text : List ℕ) (n : ℕ)
    → (ds : List ℕ) × (text ≡ ds ++ (digits_from n text).1) × AllDigits 10 ds
    × (digits_value_after 10 n ds ≡ (digits_from n text).0)
digits_split [] n = ([], refl, tt, refl)
digits_split (b ∷ bs) n = at (is_digit b) refl (digits_split bs (n * 10 + (b - 48)))
  where
    at : (t : Bool) → is_digit b ≡ t
        → (let r = digits_from (n * 10 + (b - 48)) bs in
        (ds : List ℕ) × (bs ≡ ds ++ r.1) × AllDigits 10 ds × (digits_value_after 10 (n * 10 + (b - 48)) ds ≡ r.0))
        → (let r = digits_from n (b ∷ bs) in
        (ds : List ℕ) × (b ∷ bs ≡ ds ++ r.1) × AllDigits 10 ds × (digits_value_after 10 n ds ≡ r.0))
    at true h (ds, e, a, v) =
        let f : digits_from n (b ∷ bs) ≡ digits_from (n * 10 + (b - 48)) bs = rw (h, digits_from) refl in
        let d = digit_writes b h in (
          b ∷ ds,
          ap (λ t. b ∷ t) e ∙ ap (λ r. (b ∷ ds) ++ r.1) (sym f),
          (d.0, a),
          ap (λ m. digits_value_after 10 (n * 10 + m) ds) (sym d.1) ∙ v ∙ ap (λ r. r.0) (sym f),
        )
    at false h s = let f : digits_from n (b ∷ bs) ≡ (n, b ∷ bs) = rw (h, digits_from) refl in
        ([], ap (λ r. r.1) (sym f), tt, ap (λ r. r.0) (sym f))

natural_sound : Sound natural_from Digits
natural_sound [] n rest e = absurd (none-some (n, rest) e)
natural_sound (b ∷ bs) n rest e = at (is_digit b) refl
  where
    at : (t : Bool) → is_digit b ≡ t → (front : List ℕ) × (b ∷ bs ≡ front ++ rest) × Digits n front
    at true h =
        let r = digits_from (0 * 10 + (b - 48)) bs in
        let f : natural_from (b ∷ bs) ≡ Some (digits_from 0 (b ∷ bs)) = rw (h, natural_from) refl in
        let g : digits_from 0 (b ∷ bs) ≡ r = rw (h, digits_from) refl in
        let (x, y) = same_some r.0 n r.1 rest (ap (λ r. Some r) (sym g) ∙ sym f ∙ e) in
        let (ds, s, a, v) = digits_split bs (0 * 10 + (b - 48)) in
        let d = digit_writes b h in
        let some : 0 < length (b ∷ ds) = omega arith in (
          b ∷ ds,
          ap (λ t. b ∷ t) (s ∙ ap (λ t. ds ++ t) y),
          ((some, (d.0, a)), ap (λ m. digits_value_after 10 (0 * 10 + m) ds) (sym d.1) ∙ v ∙ x),
        )
    at false h = let f : natural_from (b ∷ bs) ≡ None = rw (h, natural_from) refl in
        absurd (none-some (n, rest) (sym f ∙ e))

pub integer_sound : Sound integer_from Integer
integer_sound =
    behind_separators (and_then natural_from (gives pos)) (λ z text. (n : ℕ) × (z ≡ pos n) × Digits n text)
    (sound_map natural_from pos Digits natural_sound)

signed_digits_sound : Sound signed_digits_from SignedDigits
signed_digits_sound [] z rest e = absurd (none-some (z, rest) e)
signed_digits_sound (b ∷ bs) z rest e = at (eqb b 45) refl
  where
    at : (t : Bool) → eqb b 45 ≡ t → (front : List ℕ) × (b ∷ bs ≡ front ++ rest) × SignedDigits z front
    at true h =
        let f : signed_digits_from (b ∷ bs) ≡ and_then natural_from (gives (λ n. neg_ℤ (pos n))) bs =
        rw (h, signed_digits_from) refl in
        let (front, s, (n, k, d)) =
        sound_map natural_from (λ n. neg_ℤ (pos n)) Digits natural_sound bs z rest (sym f ∙ e) in
        let same : b ≡ 45 = grind arith in
        (45 ∷ front, (λ i. same i ∷ s i), (n, inr (k, (45 ∷ [], front, refl, refl, d))))
    at false h =
        let f : signed_digits_from (b ∷ bs) ≡ and_then natural_from (gives pos) (b ∷ bs) =
        rw (h, signed_digits_from) refl in
        let (front, s, (n, k, d)) = sound_map natural_from pos Digits natural_sound (b ∷ bs) z rest (sym f ∙ e) in
        (front, s, (n, inl (k, d)))

signed_sound : Sound signed_from Signed
signed_sound = behind_separators signed_digits_from SignedDigits signed_digits_sound

pub point_sound : Sound point_from PointText
point_sound text p rest e =
    let (front, s, (x, (fx, more, f, hx, (u, (sep, fy, g, hs, (y, k, hy)))))) =
    sound_both signed_from
    (λ x. and_then separator_from (λ _. and_then signed_from (gives (λ y. record { x = x; y = y })))) Signed _
    signed_sound
    (λ x. sound_both separator_from (λ _. and_then signed_from (gives (λ y. record { x = x; y = y })))
    (λ u. Separator) _ separator_sound
    (λ u. sound_map signed_from (λ y. record { x = x; y = y }) Signed signed_sound)) text p rest e in (
      front,
      s,
      (
        fx,
        more,
        f,
        subst (λ z. Signed z fx)
            (ap (λ q. q.x) (sym k)) hx,
        (sep, fy, g, hs, subst (λ z. Signed z fy) (ap (λ q. q.y) (sym k)) hy),
      ),
    )

-- what may be left out
pub tail_sound : {A : Type 0} (usual : A) (p : Reader A) (P : A → List ℕ → Type 0) → Sound p P
    → Sound (tail_from usual p) (λ a front. (a ≡ usual) × Nothing front ⊎ P a front)
tail_sound usual p P h text a rest e = at (follows text) refl
  where
    at : (t : Bool) → follows text ≡ t
        → (front : List ℕ) × (text ≡ front ++ rest) × ((a ≡ usual) × Nothing front ⊎ P a front)
    at true k =
        let f : tail_from usual p text ≡ p text = rw (k, tail_from) refl in
        let (front, s, m) = h text a rest (sym f ∙ e) in
        (front, s, inr m)
    at false k =
        let f : tail_from usual p text ≡ Some (usual, text) = rw (k, tail_from) refl in
        let (x, y) = same_some usual a text rest (sym f ∙ e) in
        ([], y, inl (sym x, refl))
