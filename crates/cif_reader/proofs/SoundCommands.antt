-- The command that the reader finds, stands in front of the text as the grammar says.
use Rattle.std.proofs.Common.{◌≡◌, ℕ, ◌+◌, ◌-◌, ◌<◌, ◌≤◌, ◌⊎◌, inl, inr, List, [], ◌∷◌, ◌++◌, refl, sym, ◌∙◌, ap, subst}
use Rattle.std.proofs.Common.{arith, length, append_assoc, Bool, true, false, eqb, leb, ◌&&◌, Some, None}
use Rattle.std.specs.Prelude.{ℤ, pos}
use Rattle.std.proofs.lemmas.Option.{none-some}
use Rattle.std.proofs.lemmas.Bool.{and_parts, eqb-true}
use Rattle.mp_base.specs.Token.{is_digit}
use Rattle.lam_geom.specs.declared.place.Point.{Point}
use Rattle.cif_form.specs.declared.command.Turn.{Turn}
use Rattle.cif_form.specs.declared.command.Command.{Command}
use Rattle.cif_form.specs.declared.command.Command.TheVariants.{Polygon, Box, Round, Wire, Layer, Start, Finish, Delete}
use Rattle.cif_form.specs.declared.command.Command.TheVariants.{Call, User, Comment}
use Rattle.cif_form.specs.Text.{◌▹◌, Nothing, Blanks, Separator, Integer, PointText, Path, Turns, Either, right}
use Rattle.cif_form.specs.Text.{IsBalanced, Spells}
use Rattle.cif_form.specs.Readers.{Reader, and_then, gives, past_blanks, then_separator, integer_from, point_from}
use Rattle.cif_form.specs.Readers.{tail_from, path_here, turns_here, name_from, words_from, comment_from, box_at}
use Rattle.cif_form.specs.Readers.{box_sized, box_long, round_of, wire_of, call_of, scale_under, scale_from, start_of}
use Rattle.cif_form.specs.Readers.{definition_from, layer_named, layer_from, user_of, letter_from, command_from}
use Rattle.cif_reader.proofs.Sound.{Sound, same_some, sound_both, sound_map, sound_as, integer_sound, point_sound}
use Rattle.cif_reader.proofs.Sound.{tail_sound, then_sound, behind_blanks}
use Rattle.cif_reader.proofs.SoundParts.{path_here_sound, turns_here_sound, name_split, words_split, comment_split}
use Rattle.cif_reader.proofs.SoundParts.{Stops}

-- what is found behind a letter spells a command with it
abbrev Lettered : ℕ → Command → List ℕ → Type 0
Lettered letter c front = Spells c (letter ∷ front)

polygon_sound : Sound (and_then path_here (gives Polygon)) (Lettered 80)
polygon_sound =
    sound_as (and_then path_here (gives Polygon)) (λ c front. (ps : List Point) × (c ≡ Polygon ps) × Path ps front)
    (Lettered 80)
    (λ c front (ps, e, h). subst (λ c. Spells c (80 ∷ front)) (sym e) (80 ∷ [], front, refl, refl, h))
    (sound_map path_here Polygon Path path_here_sound)

-- ---- boxes

abbrev Directed : ℤ → ℤ → Point → Command → List ℕ → Type 0
Directed l w p c front = (d : Point) × (c ≡ Box l w p d) × Either (d ≡ right) (Separator ▹ PointText d) front

abbrev Sized : ℤ → ℤ → Command → List ℕ → Type 0
Sized l w c front = (p : Point) × (PointText p ▹ Directed l w p c) front

abbrev Long : ℤ → Command → List ℕ → Type 0
Long l c front = (w : ℤ) × (Integer w ▹ (Separator ▹ Sized l w c)) front

directed_sound : (l w : ℤ) (p : Point) → Sound (box_at l w p) (Directed l w p)
directed_sound l w p =
    sound_map (tail_from right (then_separator point_from)) (Box l w p)
    (λ d. Either (d ≡ right) (Separator ▹ PointText d))
    (tail_sound right (then_separator point_from) (λ d. Separator ▹ PointText d)
    (then_sound point_from PointText point_sound))

sized_sound : (l w : ℤ) → Sound (box_sized l w) (λ c. Separator ▹ Sized l w c)
sized_sound l w =
    then_sound (and_then point_from (box_at l w)) (Sized l w)
    (sound_both point_from (box_at l w) PointText (Directed l w) point_sound (directed_sound l w))

long_sound : (l : ℤ) → Sound (box_long l) (λ c. Separator ▹ Long l c)
long_sound l =
    then_sound (and_then integer_from (box_sized l)) (Long l)
    (sound_both integer_from (box_sized l) Integer (λ w c. Separator ▹ Sized l w c) integer_sound (sized_sound l))

box_spells : (c : Command) (front : List ℕ) → (l : ℤ) × (Integer l ▹ (Separator ▹ Long l c)) front → Lettered 66 c front
box_spells c front (
  l,
  (
    fl,
    m1,
    e1,
    hl,
    (s1, m2, e2, h1, (w, (fw, m3, e3, hw, (s2, m4, e4, h2, (p, (fp, fd, e5, hp, (d, e, hd))))))),
  ),
) =
    subst (λ c. Spells c (66 ∷ front)) (sym e) (
      66 ∷ [],
      front,
      refl,
      refl,
      (fl, m1, e1, hl, (s1, m2, e2, h1, (fw, m3, e3, hw, (s2, m4, e4, h2, (fp, fd, e5, hp, hd))))),
    )

box_sound : Sound (and_then integer_from box_long) (Lettered 66)
box_sound =
    sound_as (and_then integer_from box_long) (λ c front. (l : ℤ) × (Integer l ▹ (Separator ▹ Long l c)) front)
    (Lettered 66) box_spells
    (sound_both integer_from box_long Integer (λ l c. Separator ▹ Long l c) integer_sound long_sound)

-- ---- round flashes and wires

abbrev Rounded : ℤ → Command → List ℕ → Type 0
Rounded d c front = (p : Point) × (c ≡ Round d p) × PointText p front

round_spells : (c : Command) (front : List ℕ) → (d : ℤ) × (Integer d ▹ (Separator ▹ Rounded d c)) front
    → Lettered 82 c front
round_spells c front (d, (fd, m1, e1, hd, (s, fp, e2, hs, (p, e, hp)))) =
    subst (λ c. Spells c (82 ∷ front)) (sym e) (82 ∷ [], front, refl, refl, (fd, m1, e1, hd, (s, fp, e2, hs, hp)))

round_sound : Sound (and_then integer_from round_of) (Lettered 82)
round_sound =
    sound_as (and_then integer_from round_of) (λ c front. (d : ℤ) × (Integer d ▹ (Separator ▹ Rounded d c)) front)
    (Lettered 82) round_spells
    (sound_both integer_from round_of Integer (λ d c. Separator ▹ Rounded d c) integer_sound
    (λ d. then_sound (and_then point_from (gives (Round d))) (Rounded d)
    (sound_map point_from (Round d) PointText point_sound)))

abbrev Wired : ℤ → Command → List ℕ → Type 0
Wired w c front = (ps : List Point) × (c ≡ Wire w ps) × Path ps front

wire_spells : (c : Command) (front : List ℕ) → (w : ℤ) × (Integer w ▹ (Separator ▹ Wired w c)) front
    → Lettered 87 c front
wire_spells c front (w, (fw, m1, e1, hw, (s, fp, e2, hs, (ps, e, hp)))) =
    subst (λ c. Spells c (87 ∷ front)) (sym e) (87 ∷ [], front, refl, refl, (fw, m1, e1, hw, (s, fp, e2, hs, hp)))

wire_sound : Sound (and_then integer_from wire_of) (Lettered 87)
wire_sound =
    sound_as (and_then integer_from wire_of) (λ c front. (w : ℤ) × (Integer w ▹ (Separator ▹ Wired w c)) front)
    (Lettered 87) wire_spells
    (sound_both integer_from wire_of Integer (λ w c. Separator ▹ Wired w c) integer_sound
    (λ w. then_sound (and_then path_here (gives (Wire w))) (Wired w)
    (sound_map path_here (Wire w) Path path_here_sound)))

-- ---- calls

abbrev Called : ℤ → Command → List ℕ → Type 0
Called n c front = (ts : List Turn) × (c ≡ Call n ts) × Turns ts front

call_spells : (c : Command) (front : List ℕ) → (n : ℤ) × (Integer n ▹ Called n c) front → Lettered 67 c front
call_spells c front (n, (fn, ft, e1, hn, (ts, e, ht))) =
    subst (λ c. Spells c (67 ∷ front)) (sym e) (67 ∷ [], front, refl, refl, (fn, ft, e1, hn, ht))

call_sound : Sound (and_then integer_from call_of) (Lettered 67)
call_sound =
    sound_as (and_then integer_from call_of) (λ c front. (n : ℤ) × (Integer n ▹ Called n c) front)
    (Lettered 67) call_spells
    (sound_both integer_from call_of Integer Called integer_sound
    (λ n. sound_map turns_here (Call n) Turns turns_here_sound))

-- ---- layers and comments

layer_sound : Sound layer_from (λ c front. (blanks : List ℕ) → Blanks blanks → Lettered 76 c (blanks ++ front))
layer_sound text c rest e = at (leb 1 (length name) && leb (length name) 4) refl
  where
    name : List ℕ
    name = (name_from text).0

    at : (t : Bool) → (leb 1 (length (name_from text).0) && leb (length (name_from text).0) 4) ≡ t
        → (front : List ℕ) × (text ≡ front ++ rest)
        × ((blanks : List ℕ) → Blanks blanks → Lettered 76 c (blanks ++ front))
    at true h =
        let word = (name_from text).0 in
        let f : layer_from text ≡ Some (Layer word, (name_from text).1) = rw (h, layer_named) refl in
        let (x, y) = same_some (Layer word) c (name_from text).1 rest (sym f ∙ e) in
        let (s, a) = name_split text in
        let k = and_parts (leb 1 (length word)) (leb (length word) 4) h in
        let some : 0 < length word = grind (arith, k.0) in
        let few : length word ≤ 4 = grind (arith, k.1) in (
          word,
          s ∙ ap (λ t. word ++ t) y,
          (λ blanks b. subst (λ c. Spells c (76 ∷ (blanks ++ word))) x
              (76 ∷ [], blanks ++ word, refl, refl, (blanks, word, refl, b, (refl, (some, few, a))))),
        )
    at false h = let f : layer_from text ≡ None = rw (h, layer_named) refl in absurd (none-some (c, rest) (sym f ∙ e))

comment_sound : Sound (and_then (comment_from 0) (gives Comment)) (Lettered 40)
comment_sound =
    sound_as (and_then (comment_from 0) (gives Comment))
    (λ c front. (words : List ℕ) × (c ≡ Comment words) × ((front ≡ words ++ (41 ∷ [])) × IsBalanced 0 words))
    (Lettered 40)
    (λ c front (words, e, (f, h)). subst (λ c. Spells c (40 ∷ front)) (sym e) (ap (λ t. 40 ∷ t) f, h))
    (sound_map (comment_from 0) Comment (λ words front. (front ≡ words ++ (41 ∷ [])) × IsBalanced 0 words)
    (λ text words rest e. let (s, h) = comment_split text 0 words rest e in
    (words ++ (41 ∷ []), s ∙ sym (append_assoc words (41 ∷ []) rest), (refl, h))))

-- ---- definitions

abbrev Scaled : ℤ × ℤ → List ℕ → Type 0
Scaled s front = Either ((s.0 ≡ pos 1) × (s.1 ≡ pos 1)) (Separator ▹ Integer s.0 ▹ Separator ▹ Integer s.1) front

abbrev Under : ℤ → ℤ × ℤ → List ℕ → Type 0
Under a s front = (b : ℤ) × (s ≡ (a, b)) × Integer b front

abbrev Written : ℤ × ℤ → List ℕ → Type 0
Written s front = (a : ℤ) × (Integer a ▹ (Separator ▹ Under a s)) front

scale_means : (s : ℤ × ℤ) (front : List ℕ) → (s ≡ (pos 1, pos 1)) × Nothing front ⊎ (Separator ▹ Written s) front
    → Scaled s front
scale_means s front (inl (e, n)) = inl ((ap (λ s. s.0) e, ap (λ s. s.1) e), n)
scale_means s front (inr (sep, more, f, hs, (a, (fa, m2, g, ha, (sep2, fb, k, h2, (b, e, hb)))))) =
    inr (
      sep,
      more,
      f,
      hs,
      (
        fa,
        m2,
        g,
        subst (λ z. Integer z fa)
            (ap (λ s. s.0) (sym e)) ha,
        (sep2, fb, k, h2, subst (λ z. Integer z fb) (ap (λ s. s.1) (sym e)) hb),
      ),
    )

scale_sound : Sound scale_from Scaled
scale_sound =
    sound_as scale_from
    (λ s front. (s ≡ (pos 1, pos 1)) × Nothing front ⊎ (Separator ▹ Written s) front) Scaled scale_means
    (tail_sound (pos 1, pos 1) (then_separator (and_then integer_from scale_under)) (λ s. Separator ▹ Written s)
    (then_sound (and_then integer_from scale_under) Written
    (sound_both integer_from scale_under Integer (λ a s. Separator ▹ Under a s) integer_sound
    (λ a. then_sound (and_then integer_from (gives (λ b. (a, b)))) (Under a)
    (sound_map integer_from (λ b. (a, b)) Integer integer_sound)))))

-- what is found behind a `D` and blanks
abbrev Defines : Command → List ℕ → Type 0
Defines c front = (blanks : List ℕ) → Blanks blanks → Lettered 68 c (blanks ++ front)

abbrev Started : ℤ → Command → List ℕ → Type 0
Started n c front = (s : ℤ × ℤ) × (c ≡ Start n s.0 s.1) × Scaled s front

start_spells : (c : Command) (front : List ℕ) → (n : ℤ) × (Integer n ▹ Started n c) front → Defines c (83 ∷ front)
start_spells c front (n, (fn, fs, f, hn, (s, e, hs))) blanks b =
    subst (λ c. Spells c (68 ∷ (blanks ++ (83 ∷ front)))) (sym e) (
      68 ∷ [],
      blanks
          ++ (83 ∷ front),
      refl,
      refl,
      (blanks, 83 ∷ front, refl, b, (83 ∷ [], front, refl, refl, (fn, fs, f, hn, hs))),
    )

start_sound : Sound (and_then integer_from start_of) (λ c front. Defines c (83 ∷ front))
start_sound =
    sound_as (and_then integer_from start_of) (λ c front. (n : ℤ) × (Integer n ▹ Started n c) front)
    (λ c front. Defines c (83 ∷ front)) start_spells
    (sound_both integer_from start_of Integer Started integer_sound
    (λ n. sound_map scale_from (λ s. Start n s.0 s.1) Scaled scale_sound))

delete_sound : Sound (and_then integer_from (gives Delete)) (λ c front. Defines c (68 ∷ front))
delete_sound =
    sound_as (and_then integer_from (gives Delete)) (λ c front. (n : ℤ) × (c ≡ Delete n) × Integer n front)
    (λ c front. Defines c (68 ∷ front))
    (λ c front (n, e, h) blanks b. subst (λ c. Spells c (68 ∷ (blanks ++ (68 ∷ front)))) (sym e)
    (68 ∷ [], blanks ++ (68 ∷ front), refl, refl, (blanks, 68 ∷ front, refl, b, (68 ∷ [], front, refl, refl, h))))
    (sound_map integer_from Delete Integer integer_sound)

-- a byte in front of what is found
put : (b letter : ℕ) (bs : List ℕ) (c : Command) (rest : List ℕ) (P : Command → List ℕ → Type 0) → eqb b letter ≡ true
    → (front : List ℕ) × (bs ≡ front ++ rest) × P c (letter ∷ front)
    → (front : List ℕ) × (b ∷ bs ≡ front ++ rest) × P c front
put b letter bs c rest P h (front, s, m) = (letter ∷ front, (λ i. eqb-true b letter h i ∷ s i), m)

definition_sound : Sound definition_from Defines
definition_sound [] c rest e = absurd (none-some (c, rest) e)
definition_sound (b ∷ bs) c rest e = at (eqb b 83) (eqb b 70) (eqb b 68) refl refl refl
  where
    at : (x y z : Bool) → eqb b 83 ≡ x → eqb b 70 ≡ y → eqb b 68 ≡ z
        → (front : List ℕ) × (b ∷ bs ≡ front ++ rest) × Defines c front
    at true y z h k l =
        let f : definition_from (b ∷ bs) ≡ and_then integer_from start_of bs = rw (h, definition_from) refl in
        put b 83 bs c rest Defines h (start_sound bs c rest (sym f ∙ e))
    at false true z h k l =
        let f : definition_from (b ∷ bs) ≡ Some (Finish, bs) = rw (h, k, definition_from) refl in
        let (x, y) = same_some Finish c bs rest (sym f ∙ e) in
        let spells : Defines Finish (70 ∷ []) =
        (λ blanks b. (68 ∷ [], blanks ++ (70 ∷ []), refl, refl, (blanks, 70 ∷ [], refl, b, refl))) in
        put b 70 bs c rest Defines k ([], y, subst (λ c. Defines c (70 ∷ [])) x spells)
    at false false true h k l =
        let f : definition_from (b ∷ bs) ≡ and_then integer_from (gives Delete) bs =
        rw (h, k, l, definition_from) refl in
        put b 68 bs c rest Defines l (delete_sound bs c rest (sym f ∙ e))
    at false false false h k l = let f : definition_from (b ∷ bs) ≡ None = rw (h, k, l, definition_from) refl in
        absurd (none-some (c, rest) (sym f ∙ e))

-- behind blanks
over_blanks : (letter : ℕ) (p : Reader Command)
    → Sound p (λ c front. (blanks : List ℕ) → Blanks blanks → Lettered letter c (blanks ++ front))
    → Sound (λ text. p (past_blanks text)) (Lettered letter)
over_blanks letter p h text c rest e =
    let (front, s, (blanks, back, f, b, m)) =
    behind_blanks p
    (λ c front. (blanks : List ℕ) → Blanks blanks → Lettered letter c (blanks ++ front)) h text c rest e in
    (front, s, subst (λ t. Spells c (letter ∷ t)) (sym f) (m blanks b))

-- ---- any command

letter_sound : (b : ℕ) (bs : List ℕ) (c : Command) (rest : List ℕ) → letter_from b bs ≡ Some (c, rest)
    → (front : List ℕ) × (b ∷ bs ≡ front ++ rest) × Spells c front
letter_sound b bs c rest e =
    at (eqb b 80) (eqb b 66) (eqb b 82) (eqb b 87) (eqb b 76) (eqb b 68) (eqb b 67)
    (eqb b 40) refl refl refl refl refl refl refl refl
  where
    at : (p x r w l d n o : Bool) → eqb b 80 ≡ p → eqb b 66 ≡ x → eqb b 82 ≡ r → eqb b 87 ≡ w → eqb b 76 ≡ l
        → eqb b 68 ≡ d → eqb b 67 ≡ n → eqb b 40 ≡ o
        → (front : List ℕ) × (b ∷ bs ≡ front ++ rest) × Spells c front
    at true x r w l d n o h1 h2 h3 h4 h5 h6 h7 h8 =
        let f : letter_from b bs ≡ and_then path_here (gives Polygon) bs = rw (h1, letter_from) refl in
        put b 80 bs c rest Spells h1 (polygon_sound bs c rest (sym f ∙ e))
    at false true r w l d n o h1 h2 h3 h4 h5 h6 h7 h8 =
        let f : letter_from b bs ≡ and_then integer_from box_long bs = rw (h1, h2, letter_from) refl in
        put b 66 bs c rest Spells h2 (box_sound bs c rest (sym f ∙ e))
    at false false true w l d n o h1 h2 h3 h4 h5 h6 h7 h8 =
        let f : letter_from b bs ≡ and_then integer_from round_of bs = rw (h1, h2, h3, letter_from) refl in
        put b 82 bs c rest Spells h3 (round_sound bs c rest (sym f ∙ e))
    at false false false true l d n o h1 h2 h3 h4 h5 h6 h7 h8 =
        let f : letter_from b bs ≡ and_then integer_from wire_of bs = rw (h1, h2, h3, h4, letter_from) refl in
        put b 87 bs c rest Spells h4 (wire_sound bs c rest (sym f ∙ e))
    at false false false false true d n o h1 h2 h3 h4 h5 h6 h7 h8 =
        let f : letter_from b bs ≡ layer_from (past_blanks bs) = rw (h1, h2, h3, h4, h5, letter_from) refl in
        put b 76 bs c rest Spells h5 (over_blanks 76 layer_from layer_sound bs c rest (sym f ∙ e))
    at false false false false false true n o h1 h2 h3 h4 h5 h6 h7 h8 =
        let f : letter_from b bs ≡ definition_from (past_blanks bs) = rw (h1, h2, h3, h4, h5, h6, letter_from) refl in
        put b 68 bs c rest Spells h6 (over_blanks 68 definition_from definition_sound bs c rest (sym f ∙ e))
    at false false false false false false true o h1 h2 h3 h4 h5 h6 h7 h8 =
        let f : letter_from b bs ≡ and_then integer_from call_of bs =
        rw (h1, h2, h3, h4, h5, h6, h7, letter_from) refl in
        put b 67 bs c rest Spells h7 (call_sound bs c rest (sym f ∙ e))
    at false false false false false false false true h1 h2 h3 h4 h5 h6 h7 h8 =
        let f : letter_from b bs ≡ and_then (comment_from 0) (gives Comment) bs =
        rw (h1, h2, h3, h4, h5, h6, h7, h8, letter_from) refl in
        put b 40 bs c rest Spells h8 (comment_sound bs c rest (sym f ∙ e))
    at false false false false false false false false h1 h2 h3 h4 h5 h6 h7 h8 =
        let f : letter_from b bs ≡ None = rw (h1, h2, h3, h4, h5, h6, h7, h8, letter_from) refl in
        absurd (none-some (c, rest) (sym f ∙ e))

-- the command stands in front of the text, and a user command up to a semicolon or the end
pub record IsSpelled (text : List ℕ) (c : Command) (rest : List ℕ) : Type 0 where
  pub front : List ℕ
  pub split : text ≡ front ++ rest
  pub spells : Spells c front
  pub stops : (digit : ℕ) (words : List ℕ) → c ≡ User digit words → Stops rest

-- a user command begins with a digit
user_first : (b digit : ℕ) (bs words front rest : List ℕ) → b ∷ bs ≡ front ++ rest → Spells (User digit words) front
    → is_digit b ≡ true
user_first b digit bs words front rest s (f, h, k) =
    let e : b ∷ bs ≡ (48 + digit) ∷ (words ++ rest) = s ∙ ap (λ t. t ++ rest) f in
    let d : b ≡ 48 + digit = cc in
    grind arith

pub command_sound : (text : List ℕ) (c : Command) (rest : List ℕ) → command_from text ≡ Some (c, rest)
    → IsSpelled text c rest
command_sound [] c rest e = absurd (none-some (c, rest) e)
command_sound (b ∷ bs) c rest e = at (is_digit b) refl
  where
    at : (t : Bool) → is_digit b ≡ t → IsSpelled (b ∷ bs) c rest
    at true h =
        let f : command_from (b ∷ bs) ≡ user_of (b - 48) (words_from bs) = rw (h, command_from) refl in
        let words = (words_from bs).0 in
        let (x, y) = same_some (User (b - 48) words) c (words_from bs).1 rest (sym f ∙ e) in
        let (s, a, m) = words_split bs in
        let first : b ≡ 48 + (b - 48) = grind arith in
        let small : b - 48 ≤ 9 = grind arith in
        record {
          front = b ∷ words;
          split = ap (λ t. b ∷ t) (s ∙ ap (λ t. words ++ t) y);
          spells = subst (λ c. Spells c (b ∷ words)) x (ap (λ b. b ∷ words) first, small, a);
          stops = (λ digit more k. subst Stops y m);
        }
    at false h =
        let f : command_from (b ∷ bs) ≡ letter_from b bs = rw (h, command_from) refl in
        let (front, s, m) = letter_sound b bs c rest (sym f ∙ e) in
        record {
          front = front;
          split = s;
          spells = m;
          stops = (λ digit words k. absurd
              (let g : false ≡ true =
              sym h ∙ user_first b digit bs words front rest s (subst (λ c. Spells c front) k m) in cc));
        }
