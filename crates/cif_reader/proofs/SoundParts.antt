-- What the reader of paths, turns, names and comments finds, stands in front of the text as the grammar says.
use Rattle.std.proofs.Common.{◌≡◌, ℕ, zero, suc, ◌+◌, ◌-◌, ◌⊎◌, inl, inr, List, [], ◌∷◌, ◌++◌, refl, sym, ◌∙◌, ap}
use Rattle.std.proofs.Common.{subst, arith, length, append_assoc, All, Bool, true, false, eqb, ◌||◌, Option, Some, None}
use Rattle.std.specs.Prelude.{◌≢◌}
use Rattle.std.proofs.lemmas.List.{append-nil}
use Rattle.std.proofs.lemmas.List.Elements.{All-nil, All-cons}
use Rattle.std.proofs.lemmas.Option.{none-some}
use Rattle.std.proofs.lemmas.Bool.{eqb-true}
use Rattle.mp_base.specs.Token.{is_digit}
use Rattle.lam_geom.specs.declared.place.Point.{Point}
use Rattle.cif_form.specs.declared.command.Turn.{Turn}
use Rattle.cif_form.specs.declared.command.Turn.TheVariants.{Move, MirrorX, MirrorY, Rotate}
use Rattle.cif_form.specs.Text.{◌▹◌, Nothing, Byte, IsDigit, IsUpper, Blanks, Separator, PointText, Path, TurnText}
use Rattle.cif_form.specs.Text.{Turns, IsBalanced}
use Rattle.cif_form.specs.Readers.{Reader, and_then, gives, is_upper, past_blanks, separator_from, point_from, others}
use Rattle.cif_form.specs.Readers.{path_on, path_from, path_here, mirror_from, turn_from, turns_on, turns_from}
use Rattle.cif_form.specs.Readers.{turns_here, is_name_byte, name_from, words_from, prefixed, comment_from}
use Rattle.cif_reader.proofs.Sound.{Sound, same_some, sound_both, sound_map, digit_is, upper_is, separator_sound}
use Rattle.cif_reader.proofs.Sound.{point_sound, tail_sound, behind_blanks}

-- ---- paths

abbrev Rest : Point → List Point → List ℕ → Type 0
Rest p ps front = (ps ≡ p ∷ []) × Nothing front ⊎ ((qs : List Point) × (ps ≡ p ∷ qs) × (Separator ▹ Path qs) front)

path_on_sound : (more : Reader (List Point)) (p : Point) → Sound more Path → Sound (path_on more p) (Rest p)
path_on_sound more p h text ps rest e =
    let (front, s, m) =
    tail_sound (p ∷ []) (and_then separator_from (others more p))
    (λ ps front. (u : Unit {0}) × (Separator ▹ (λ t. (qs : List Point) × (ps ≡ p ∷ qs) × Path qs t)) front)
    (sound_both separator_from (others more p) (λ u. Separator)
    (λ u ps t. (qs : List Point) × (ps ≡ p ∷ qs) × Path qs t) separator_sound
    (λ u. sound_map more (λ qs. p ∷ qs) Path h))
    text ps rest e in
    (front, s, at ps front m)
  where
    at : (ps : List Point) (front : List ℕ)
        → (ps ≡ p ∷ [])
        × Nothing front ⊎ ((u : Unit {0}) × (Separator ▹ (λ t. (qs : List Point) × (ps ≡ p ∷ qs) × Path qs t)) front)
        → Rest p ps front
    at ps front (inl k) = inl k
    at ps front (inr (u, (sep, back, f, k, (qs, l, m)))) = inr (qs, l, (sep, back, f, k, m))

path_joined : (p : Point) (ps : List Point) (front : List ℕ) → (PointText p ▹ Rest p ps) front → Path ps front
path_joined p ps front (fp, back, f, h, inl (e, k)) =
    subst (λ qs. Path qs front) (sym e) (subst (PointText p) (sym (f ∙ ap (λ t. fp ++ t) k ∙ append-nil fp)) h)
path_joined p ps front (fp, back, f, h, inr ([], e, (sep, more, g, k, m))) = absurd m
path_joined p ps front (fp, back, f, h, inr (q ∷ qs, e, k)) = subst (λ qs. Path qs front) (sym e) (fp, back, f, h, k)

pub path_sound : (n : ℕ) → Sound (path_from n) Path
path_sound zero text ps rest e = absurd (none-some (ps, rest) e)
path_sound (suc n) text ps rest e =
    let (front, s, (p, k)) =
    sound_both point_from (path_on (path_from n)) PointText Rest point_sound
    (λ p. path_on_sound (path_from n) p (path_sound n)) text ps rest e in
    (front, s, path_joined p ps front k)

pub path_here_sound : Sound path_here Path
path_here_sound text = path_sound (length text) text

-- ---- turns

-- a byte, and what is found behind it
pub behind_byte : {A : Type 0} (b c : ℕ) (bs : List ℕ) (a : A) (rest : List ℕ) (P : A → List ℕ → Type 0)
    → eqb b c ≡ true
    → (front : List ℕ) × (bs ≡ front ++ rest) × P a front
    → (front : List ℕ) × (b ∷ bs ≡ front ++ rest) × (Byte c ▹ P a) front
behind_byte b c bs a rest P h (front, s, m) = (c ∷ front, (λ i. eqb-true b c h i ∷ s i), (c ∷ [], front, refl, refl, m))

mirror_sound : Sound mirror_from (λ t front. (t ≡ MirrorX) × Byte 88 front ⊎ (t ≡ MirrorY) × Byte 89 front)
mirror_sound [] t rest e = absurd (none-some (t, rest) e)
mirror_sound (b ∷ bs) t rest e = at (eqb b 88) (eqb b 89) refl refl
  where
    at : (x y : Bool) → eqb b 88 ≡ x → eqb b 89 ≡ y
        → (front : List ℕ) × (b ∷ bs ≡ front ++ rest) × ((t ≡ MirrorX) × Byte 88 front ⊎ (t ≡ MirrorY) × Byte 89 front)
    at true y h k =
        let f : mirror_from (b ∷ bs) ≡ Some (MirrorX, bs) = rw (h, mirror_from) refl in
        let (u, v) = same_some MirrorX t bs rest (sym f ∙ e) in
        (88 ∷ [], (λ i. eqb-true b 88 h i ∷ v i), inl (sym u, refl))
    at false true h k =
        let f : mirror_from (b ∷ bs) ≡ Some (MirrorY, bs) = rw (h, k, mirror_from) refl in
        let (u, v) = same_some MirrorY t bs rest (sym f ∙ e) in
        (89 ∷ [], (λ i. eqb-true b 89 k i ∷ v i), inr (sym u, refl))
    at false false h k = let f : mirror_from (b ∷ bs) ≡ None = rw (h, k, mirror_from) refl in
        absurd (none-some (t, rest) (sym f ∙ e))

turn_sound : Sound turn_from TurnText
turn_sound [] t rest e = absurd (none-some (t, rest) e)
turn_sound (b ∷ bs) t rest e = at (eqb b 84) (eqb b 82) (eqb b 77) refl refl refl
  where
    move : (front : List ℕ) → (Byte 84 ▹ (λ f. (p : Point) × (t ≡ Move p) × PointText p f)) front → TurnText t front
    move front (byte, back, f, h, (p, k, m)) = subst (λ t. TurnText t front) (sym k) (byte, back, f, h, m)

    rotate : (front : List ℕ) → (Byte 82 ▹ (λ f. (p : Point) × (t ≡ Rotate p) × PointText p f)) front → TurnText t front
    rotate front (byte, back, f, h, (p, k, m)) = subst (λ t. TurnText t front) (sym k) (byte, back, f, h, m)

    mirror : (front : List ℕ)
        → (Byte 77 ▹ (Blanks ▹ (λ f. (t ≡ MirrorX) × Byte 88 f ⊎ (t ≡ MirrorY) × Byte 89 f))) front → TurnText t front
    mirror front (byte, back, f, h, (blanks, last, g, k, inl (u, m))) =
        subst (λ t. TurnText t front) (sym u) (byte, back, f, h, (blanks, last, g, k, m))
    mirror front (byte, back, f, h, (blanks, last, g, k, inr (u, m))) =
        subst (λ t. TurnText t front) (sym u) (byte, back, f, h, (blanks, last, g, k, m))

    at : (x y z : Bool) → eqb b 84 ≡ x → eqb b 82 ≡ y → eqb b 77 ≡ z
        → (front : List ℕ) × (b ∷ bs ≡ front ++ rest) × TurnText t front
    at true y z h k l =
        let f : turn_from (b ∷ bs) ≡ and_then point_from (gives Move) bs = rw (h, turn_from) refl in
        let (front, s, m) =
        behind_byte b 84 bs t rest (λ t f. (p : Point) × (t ≡ Move p) × PointText p f) h
        (sound_map point_from Move PointText point_sound bs t rest (sym f ∙ e)) in
        (front, s, move front m)
    at false true z h k l =
        let f : turn_from (b ∷ bs) ≡ and_then point_from (gives Rotate) bs = rw (h, k, turn_from) refl in
        let (front, s, m) =
        behind_byte b 82 bs t rest (λ t f. (p : Point) × (t ≡ Rotate p) × PointText p f) k
        (sound_map point_from Rotate PointText point_sound bs t rest (sym f ∙ e)) in
        (front, s, rotate front m)
    at false false true h k l =
        let f : turn_from (b ∷ bs) ≡ mirror_from (past_blanks bs) = rw (h, k, l, turn_from) refl in
        let (front, s, m) =
        behind_byte b 77 bs t rest (λ t. Blanks ▹ (λ f. (t ≡ MirrorX) × Byte 88 f ⊎ (t ≡ MirrorY) × Byte 89 f)) l
        (behind_blanks mirror_from
        (λ t f. (t ≡ MirrorX) × Byte 88 f ⊎ (t ≡ MirrorY) × Byte 89 f) mirror_sound bs t rest (sym f ∙ e)) in
        (front, s, mirror front m)
    at false false false h k l = let f : turn_from (b ∷ bs) ≡ None = rw (h, k, l, turn_from) refl in
        absurd (none-some (t, rest) (sym f ∙ e))

pub turns_sound : (n : ℕ) → Sound (turns_from n) Turns
turns_sound zero text ts rest e = let (x, y) = same_some [] ts text rest e in ([], y, subst (λ ts. Turns ts []) x refl)
turns_sound (suc n) text ts rest e = at (turns_sound n) (turn_from (past_blanks text)) refl
  where
    at : Sound (turns_from n) Turns → (r : Option (Turn × List ℕ)) → turn_from (past_blanks text) ≡ r
        → (front : List ℕ) × (text ≡ front ++ rest) × Turns ts front
    at more None h =
        let (x, y) = same_some [] ts text rest (ap (turns_on text (turns_from n)) (sym h) ∙ e) in
        ([], y, subst (λ ts. Turns ts []) x refl)
    at later (Some r) h =
        let (front, s, (blanks, ft, g, hb, ht)) = behind_blanks turn_from TurnText turn_sound text r.0 r.1 h in
        let (back, u, (more, l, m)) =
        sound_map (turns_from n) (λ ts. r.0 ∷ ts) Turns later r.1 ts rest
        (ap (turns_on text (turns_from n)) (sym h) ∙ e) in (
          front ++ back,
          s ∙ ap (λ t. front ++ t) u ∙ sym (append_assoc front back rest),
          subst (λ ts. Turns ts (front ++ back)) (sym l)
              (blanks, ft ++ back, ap (λ t. t ++ back) g ∙ append_assoc blanks ft back, hb, (ft, back, refl, ht, m)),
        )

pub turns_here_sound : Sound turns_here Turns
turns_here_sound text = turns_sound (length text) text

-- ---- names, texts and comments

name_byte_is : (b : ℕ) → is_name_byte b ≡ true → IsDigit b ⊎ IsUpper b
name_byte_is b h = at (is_digit b) refl
  where
    at : (d : Bool) → is_digit b ≡ d → IsDigit b ⊎ IsUpper b
    at true k = inl (digit_is b k)
    at false k = inr (upper_is b (let e : (is_digit b || is_upper b) ≡ true = h in (λ i. sym k i || is_upper b) ∙ e))

abbrev IsNameByte : ℕ → Type 0
IsNameByte b = IsDigit b ⊎ IsUpper b

pub name_split : (text : List ℕ) → (text ≡ (name_from text).0 ++ (name_from text).1) × All IsNameByte (name_from text).0
name_split [] = (refl, All-nil IsNameByte)
name_split (b ∷ bs) = at (is_name_byte b) refl (name_split bs)
  where
    at : (t : Bool) → is_name_byte b ≡ t → (bs ≡ (name_from bs).0 ++ (name_from bs).1) × All IsNameByte (name_from bs).0
        → (let r = name_from (b ∷ bs) in (b ∷ bs ≡ r.0 ++ r.1) × All IsNameByte r.0)
    at true h (e, a) =
        let f : name_from (b ∷ bs) ≡ (b ∷ (name_from bs).0, (name_from bs).1) = rw (h, name_from) refl in (
          ap (λ t. b ∷ t) e
              ∙ ap (λ r. r.0 ++ r.1) (sym f),
          subst (λ r. All IsNameByte r.0) (sym f) (All-cons IsNameByte b (name_from bs).0 (name_byte_is b h) a),
        )
    at false h k =
        let f : name_from (b ∷ bs) ≡ ([], b ∷ bs) = rw (h, name_from) refl in
        (ap (λ r. r.0 ++ r.1) (sym f), subst (λ r. All IsNameByte r.0) (sym f) (All-nil IsNameByte))

-- nothing, or a semicolon in front
abbrev pub Stops : List ℕ → Type 0
Stops [] = Unit {0}
Stops (b ∷ bs) = b ≡ 59

abbrev IsWord : ℕ → Type 0
IsWord b = b ≢ 59

pub words_split : (text : List ℕ)
    → (text ≡ (words_from text).0 ++ (words_from text).1) × All IsWord (words_from text).0 × Stops (words_from text).1
words_split [] = (refl, All-nil IsWord, tt)
words_split (b ∷ bs) = at (eqb b 59) refl (words_split bs)
  where
    at : (t : Bool) → eqb b 59 ≡ t
        → (bs ≡ (words_from bs).0 ++ (words_from bs).1) × All IsWord (words_from bs).0 × Stops (words_from bs).1
        → (let r = words_from (b ∷ bs) in (b ∷ bs ≡ r.0 ++ r.1) × All IsWord r.0 × Stops r.1)
    at true h k =
        let f : words_from (b ∷ bs) ≡ ([], b ∷ bs) = rw (h, words_from) refl in (
          ap (λ r. r.0 ++ r.1) (sym f),
          subst (λ r. All IsWord r.0) (sym f) (All-nil IsWord),
          subst (λ r. Stops r.1)
              (sym f) (eqb-true b 59 h),
        )
    at false h (e, a, s) =
        let f : words_from (b ∷ bs) ≡ (b ∷ (words_from bs).0, (words_from bs).1) = rw (h, words_from) refl in
        let no : b ≢ 59 = grind arith in (
          ap (λ t. b ∷ t) e ∙ ap (λ r. r.0 ++ r.1) (sym f),
          subst (λ r. All IsWord r.0) (sym f) (All-cons IsWord b (words_from bs).0 no a),
          subst (λ r. Stops r.1) (sym f) s,
        )

prefixed_some : (b : ℕ) (r : Option (List ℕ × List ℕ)) (words rest : List ℕ) → prefixed b r ≡ Some (words, rest)
    → (more : List ℕ) × (r ≡ Some (more, rest)) × (words ≡ b ∷ more)
prefixed_some b None words rest e = absurd (none-some (words, rest) e)
prefixed_some b (Some r) words rest e = let (x, y) = same_some (b ∷ r.0) words r.1 rest e in
    (r.0, ap (λ t. Some (r.0, t)) y, sym x)

pub comment_split : (text : List ℕ) (depth : ℕ) (words rest : List ℕ) → comment_from depth text ≡ Some (words, rest)
    → (text ≡ words ++ (41 ∷ rest)) × IsBalanced depth words
comment_split [] depth words rest e = absurd (none-some (words, rest) e)
comment_split (b ∷ bs) depth words rest e =
    at (λ inner ws g. comment_split bs inner ws rest g) (eqb b 40) (eqb b 41) (eqb depth 0) refl refl refl
  where
    joined : (inner : ℕ) → comment_from depth (b ∷ bs) ≡ prefixed b (comment_from inner bs)
        → ((words : List ℕ) → comment_from inner bs ≡ Some (words, rest)
        → (bs ≡ words ++ (41 ∷ rest)) × IsBalanced inner words)
        → ((words : List ℕ) → IsBalanced inner words → IsBalanced depth (b ∷ words))
        → (b ∷ bs ≡ words ++ (41 ∷ rest)) × IsBalanced depth words
    joined inner f more put =
        let (ws, g, h) = prefixed_some b (comment_from inner bs) words rest (sym f ∙ e) in
        let (s, k) = more ws g in
        (ap (λ t. b ∷ t) s ∙ ap (λ t. t ++ (41 ∷ rest)) (sym h), subst (IsBalanced depth) (sym h) (put ws k))

    at : ((inner : ℕ) (ws : List ℕ) → comment_from inner bs ≡ Some (ws, rest)
        → (bs ≡ ws ++ (41 ∷ rest)) × IsBalanced inner ws) → (x y z : Bool) → eqb b 40 ≡ x → eqb b 41 ≡ y
        → eqb depth 0 ≡ z → (b ∷ bs ≡ words ++ (41 ∷ rest)) × IsBalanced depth words
    at more true y z h k l =
        joined (depth + 1) (rw (h, comment_from) refl) (more (depth + 1)) (λ ws m. inl (eqb-true b 40 h, m))
    at more false true true h k l =
        let f : comment_from depth (b ∷ bs) ≡ Some ([], bs) = rw (h, k, l, comment_from) refl in
        let (x, y) = same_some [] words bs rest (sym f ∙ e) in
        ((λ i. eqb-true b 41 k i ∷ y i) ∙ ap (λ t. t ++ (41 ∷ rest)) x, subst (IsBalanced depth) x (eqb-true depth 0 l))
    at more false true false h k l =
        let some : depth ≡ (depth - 1) + 1 = grind arith in
        joined (depth - 1) (rw (h, k, l, comment_from) refl) (more (depth - 1))
        (λ ws m. inr (inl (eqb-true b 41 k, (depth - 1, some, m))))
    at more false false z h k l =
        let no : b ≢ 40 = grind arith in
        let not_close : b ≢ 41 = grind arith in
        joined depth (rw (h, k, comment_from) refl) (more depth) (λ ws m. inr (inr (no, not_close, m)))
