-- A reader of paths, turns, names and comments that is a function, and finds what the grammar says.
use Rattle.std.proofs.Common.{ℕ, zero, suc, ◌≡◌, ◌+◌, ◌-◌, ◌≤◌, ◌⊎◌, inl, inr, refl, sym, ◌∙◌, ap, subst, arith, List}
use Rattle.std.proofs.Common.{[], ◌∷◌, ◌++◌, length, All, true, false, eqb, Some, None, append_assoc, length-append}
use Rattle.std.proofs.lemmas.List.Elements.{All-head, All-tail, All-cons, All-nil}
use Rattle.std.proofs.lemmas.Bool.{ne_eqb}
use Rattle.lam_geom.specs.declared.place.Point.{Point}
use Rattle.cif_form.specs.declared.command.Turn.{Turn}
use Rattle.cif_form.specs.declared.command.Turn.TheVariants.{Move, MirrorX, MirrorY, Rotate}
use Rattle.cif_form.specs.Text.{◌▹◌, Byte, IsDigit, IsUpper, IsBlank, IsSeparator, Blanks, Separators, Path, TurnText}
use Rattle.cif_form.specs.Text.{Turns, IsShortName, IsBalanced}
use Rattle.cif_form.specs.Readers.{Reader, goes_on, and_then, gives, is_blank, past_blanks, separator_from, point_from}
use Rattle.cif_form.specs.Readers.{starts, follows, tail_from, others, path_on, path_from, mirror_from, turn_from}
use Rattle.cif_form.specs.Readers.{turns_on, turns_from, is_name_byte, name_from, prefixed, comment_from}
use Rattle.cif_form.proofs.Numbers.{Finds, finds_both, blank_reads, no_digit, no_upper, Stops, separators_past}
use Rattle.cif_form.proofs.Numbers.{separator_read, separator_stops, stops_at, point_reads, point_follows}
use Rattle.cif_form.proofs.Numbers.{separator_follows}

-- ---- the end of a command

-- blanks and a semicolon are next
pub record Ends (rest : List ℕ) : Type 0 where
  pub blanks : List ℕ
  pub more : List ℕ
  pub split : rest ≡ blanks ++ (59 ∷ more)
  pub are_blanks : Blanks blanks

blanks_separate : (bs : List ℕ) → Blanks bs → Separators bs
blanks_separate [] h = All-nil IsSeparator
blanks_separate (b ∷ bs) h =
    All-cons IsSeparator b bs (inr (All-head IsBlank b bs h)) (blanks_separate bs (All-tail IsBlank b bs h))

pub blanks_stop : (bs rest : List ℕ) → Blanks bs → Stops rest → Stops (bs ++ rest)
blanks_stop [] rest h s = s
blanks_stop (b ∷ bs) rest h s = separator_stops b (bs ++ rest) (inr (All-head IsBlank b bs h))

pub ends_stop : (rest : List ℕ) → Ends rest → Stops rest
ends_stop rest e = subst Stops (sym e.split) (blanks_stop e.blanks (59 ∷ e.more) e.are_blanks refl)

pub ends_follow : (rest : List ℕ) → Ends rest → follows rest ≡ false
ends_follow rest e =
    ap follows e.split ∙ ap starts (separators_past e.blanks (59 ∷ e.more) (blanks_separate e.blanks e.are_blanks))

pub blanks_past : (bs rest : List ℕ) → Blanks bs → past_blanks (bs ++ rest) ≡ past_blanks rest
blanks_past [] rest h = refl
blanks_past (b ∷ bs) rest h =
    let e : past_blanks (b ∷ (bs ++ rest)) ≡ past_blanks (bs ++ rest) =
    rw (blank_reads b (All-head IsBlank b bs h), past_blanks) refl in
    e ∙ blanks_past bs rest (All-tail IsBlank b bs h)

ends_past : (rest : List ℕ) (e : Ends rest) → past_blanks rest ≡ 59 ∷ e.more
ends_past rest e = ap past_blanks e.split ∙ blanks_past e.blanks (59 ∷ e.more) e.are_blanks

-- ---- what may be left out

pub tail_left : {A : Type 0} (usual : A) (p : Reader A) (rest : List ℕ) → follows rest ≡ false
    → Finds (tail_from usual p) usual [] rest
tail_left usual p rest h = rw (h, tail_from) refl

pub tail_found : {A : Type 0} (usual : A) (p : Reader A) (a : A) (front rest : List ℕ) → follows (front ++ rest) ≡ true
    → Finds p a front rest
    → Finds (tail_from usual p) a front rest
tail_found usual p a front rest h k = rw (h, tail_from) k

-- ---- paths

path_follows : (ps : List Point) (front rest : List ℕ) → Path ps front → follows (front ++ rest) ≡ true
path_follows [] front rest h = absurd h
path_follows (p ∷ []) front rest h = point_follows p front rest h
path_follows (p ∷ q ∷ ps) front rest (f, more, e, h, k) =
    ap (λ t. follows (t ++ rest)) e ∙ ap follows (append_assoc f more rest) ∙ point_follows p f (more ++ rest) h

pub path_reads : (ps : List Point) (n : ℕ) (front rest : List ℕ) → length ps ≤ n → Path ps front → Ends rest
    → Finds (path_from n) ps front rest
path_reads [] n front rest k h e = absurd h
path_reads (p ∷ []) zero front rest k h e = absurd (omega (arith, k))
path_reads (p ∷ q ∷ ps) zero front rest k h e = absurd (omega (arith, k))
path_reads (p ∷ []) (suc n) front rest k h e =
    ap (goes_on (path_on (path_from n))) (point_reads p front rest h (ends_stop rest e))
    ∙ tail_left (p ∷ []) (and_then separator_from (others (path_from n) p)) rest (ends_follow rest e)
path_reads (p ∷ q ∷ ps) (suc n) front rest k (fp, more, f, hp, (sep, fq, g, hs, hq)) e =
    let r : Finds (path_from n) (q ∷ ps) fq rest = path_reads (q ∷ ps) n fq rest (omega (arith, k)) hq e in
    let stop : Stops (more ++ rest) = subst (λ t. Stops (t ++ rest)) (sym g) (stops_at sep fq rest hs) in
    let go : follows (more ++ rest) ≡ true =
    ap (λ t. follows (t ++ rest)) g ∙ ap follows (append_assoc sep fq rest) ∙ separator_follows sep (fq ++ rest) hs
    ∙ path_follows (q ∷ ps) fq rest hq in
    finds_both point_from (path_on (path_from n)) p (p ∷ q ∷ ps) front fp more rest f
    (point_reads p fp (more ++ rest) hp stop)
    (tail_found (p ∷ []) (and_then separator_from (others (path_from n) p)) (p ∷ q ∷ ps) more rest go
    (finds_both separator_from (others (path_from n) p) tt (p ∷ q ∷ ps) more sep fq rest g
    (separator_read sep (fq ++ rest) hs)
    (ap (goes_on (gives (λ ps. p ∷ ps))) r)))

pub path_size : (ps : List Point) (front : List ℕ) → Path ps front → length ps ≤ length front
path_size [] front h = absurd h
path_size (p ∷ []) front (fx, more, e, hx, (sep, fy, f, (b, g, hb), hy)) =
    let a = ap length e ∙ length-append fx more in
    let c = ap length f ∙ length-append sep fy in
    let d : length sep ≡ 1 = ap length g in
    omega arith
path_size (p ∷ q ∷ ps) front (fp, more, e, hp, (sep, fq, f, (b, g, hb), hq)) =
    let r = path_size (q ∷ ps) fq hq in
    let a = ap length e ∙ length-append fp more in
    let c = ap length f ∙ length-append sep fq in
    let d : length sep ≡ 1 = ap length g in
    omega arith

-- ---- turns

pub byte_and : (b : ℕ) (front byte back rest : List ℕ) → front ≡ byte ++ back → Byte b byte
    → front ++ rest ≡ b ∷ (back ++ rest)
byte_and b front byte back rest e h = ap (λ t. t ++ rest) (e ∙ ap (λ t. t ++ back) h)

mirror_reads : (b : ℕ) (t : Turn) (front rest : List ℕ) → ((bs : List ℕ) → mirror_from (b ∷ bs) ≡ Some (t, bs))
    → past_blanks (b ∷ rest) ≡ b ∷ rest
    → (Blanks ▹ Byte b) front → mirror_from (past_blanks (front ++ rest)) ≡ Some (t, rest)
mirror_reads b t front rest m p (bs, last, e, h, f) =
    let g : front ++ rest ≡ bs ++ (b ∷ rest) =
    ap (λ t. t ++ rest) (e ∙ ap (λ t. bs ++ t) f) ∙ append_assoc bs (b ∷ []) rest in
    ap (λ t. mirror_from (past_blanks t)) g ∙ ap mirror_from (blanks_past bs (b ∷ rest) h ∙ p) ∙ m rest

-- a turn is read, and no blanks are in front of it
turn_reads : (t : Turn) (front rest : List ℕ) → TurnText t front → Stops rest
    → turn_from (past_blanks (front ++ rest)) ≡ Some (t, rest)
turn_reads (Move p) front rest (byte, back, e, h, k) s =
    ap (λ t. turn_from (past_blanks t)) (byte_and 84 front byte back rest e h)
    ∙ ap (goes_on (gives Move)) (point_reads p back rest k s)
turn_reads (Rotate p) front rest (byte, back, e, h, k) s =
    ap (λ t. turn_from (past_blanks t)) (byte_and 82 front byte back rest e h)
    ∙ ap (goes_on (gives Rotate)) (point_reads p back rest k s)
turn_reads MirrorX front rest (byte, back, e, h, k) s =
    ap (λ t. turn_from (past_blanks t)) (byte_and 77 front byte back rest e h)
    ∙ mirror_reads 88 MirrorX back rest (λ bs. refl) refl k
turn_reads MirrorY front rest (byte, back, e, h, k) s =
    ap (λ t. turn_from (past_blanks t)) (byte_and 77 front byte back rest e h)
    ∙ mirror_reads 89 MirrorY back rest (λ bs. refl) refl k

turn_stop : (t : Turn) (front rest : List ℕ) → TurnText t front → Stops (front ++ rest)
turn_stop (Move p) front rest (byte, back, e, h, k) = subst Stops (sym (byte_and 84 front byte back rest e h)) refl
turn_stop (Rotate p) front rest (byte, back, e, h, k) = subst Stops (sym (byte_and 82 front byte back rest e h)) refl
turn_stop MirrorX front rest (byte, back, e, h, k) = subst Stops (sym (byte_and 77 front byte back rest e h)) refl
turn_stop MirrorY front rest (byte, back, e, h, k) = subst Stops (sym (byte_and 77 front byte back rest e h)) refl

pub turns_stop : (ts : List Turn) (front rest : List ℕ) → Turns ts front → Stops rest → Stops (front ++ rest)
turns_stop [] front rest h s = subst (λ t. Stops (t ++ rest)) (sym h) s
turns_stop (t ∷ ts) front rest (bs, more, e, h, (ft, fts, f, k, m)) s =
    let a : front ++ rest ≡ bs ++ (more ++ rest) = ap (λ t. t ++ rest) e ∙ append_assoc bs more rest in
    let b : more ++ rest ≡ ft ++ (fts ++ rest) = ap (λ t. t ++ rest) f ∙ append_assoc ft fts rest in
    subst Stops (sym a) (blanks_stop bs (more ++ rest) h (subst Stops (sym b) (turn_stop t ft (fts ++ rest) k)))

no_turn : (rest : List ℕ) → Ends rest → turn_from (past_blanks rest) ≡ None
no_turn rest e = ap turn_from (ends_past rest e)

pub turns_read : (ts : List Turn) (n : ℕ) (front rest : List ℕ) → length ts ≤ n → Turns ts front → Ends rest
    → Finds (turns_from n) ts front rest
turns_read [] zero front rest k h e = ap (λ t. Some ([], t ++ rest)) h
turns_read [] (suc n) front rest k h e =
    ap (λ t. turns_from (suc n) (t ++ rest)) h ∙ ap (turns_on rest (turns_from n)) (no_turn rest e)
turns_read (t ∷ ts) zero front rest k h e = absurd (omega (arith, k))
turns_read (t ∷ ts) (suc n) front rest k (bs, more, f, hb, (ft, fts, g, ht, hts)) e =
    let r : Finds (turns_from n) ts fts rest = turns_read ts n fts rest (omega (arith, k)) hts e in
    let a : front ++ rest ≡ bs ++ (more ++ rest) = ap (λ t. t ++ rest) f ∙ append_assoc bs more rest in
    let b : more ++ rest ≡ ft ++ (fts ++ rest) = ap (λ t. t ++ rest) g ∙ append_assoc ft fts rest in
    let c : turn_from (past_blanks (front ++ rest)) ≡ Some (t, fts ++ rest) =
    ap (λ t. turn_from (past_blanks t)) a ∙ ap turn_from (blanks_past bs (more ++ rest) hb)
    ∙ ap (λ t. turn_from (past_blanks t)) b
    ∙ turn_reads t ft (fts ++ rest) ht (turns_stop ts fts rest hts (ends_stop rest e)) in
    ap (turns_on (front ++ rest) (turns_from n)) c ∙ ap (goes_on (gives (λ ts. t ∷ ts))) r

turn_size : (t : Turn) (front : List ℕ) → TurnText t front → 1 ≤ length front
turn_size (Move p) front (byte, back, e, h, k) = let a = ap length e ∙ length-append byte back in
    let b = ap length h in omega arith
turn_size (Rotate p) front (byte, back, e, h, k) = let a = ap length e ∙ length-append byte back in
    let b = ap length h in omega arith
turn_size MirrorX front (byte, back, e, h, k) = let a = ap length e ∙ length-append byte back in let b = ap length h in
    omega arith
turn_size MirrorY front (byte, back, e, h, k) = let a = ap length e ∙ length-append byte back in let b = ap length h in
    omega arith

pub turns_size : (ts : List Turn) (front : List ℕ) → Turns ts front → length ts ≤ length front
turns_size [] front h = omega arith
turns_size (t ∷ ts) front (bs, more, e, h, (ft, fts, f, k, m)) =
    let r = turns_size ts fts m in
    let s = turn_size t ft k in
    let a = ap length e ∙ length-append bs more in
    let b = ap length f ∙ length-append ft fts in
    omega arith

-- ---- names and comments

name_byte : (b : ℕ) → IsDigit b ⊎ IsUpper b → (is_name_byte b ≡ true) × (is_blank b ≡ false)
name_byte b (inl h) = (grind arith, grind arith)
name_byte b (inr h) = (grind arith, grind arith)

no_name : (rest : List ℕ) → Ends rest → name_from rest ≡ ([], rest)
no_name rest e = ap name_from e.split ∙ at_blanks e.blanks e.are_blanks ∙ ap (λ t. ([], t)) (sym e.split)
  where
    at_blanks : (bs : List ℕ) → Blanks bs → name_from (bs ++ (59 ∷ e.more)) ≡ ([], bs ++ (59 ∷ e.more))
    at_blanks [] h = refl
    at_blanks (b ∷ bs) h = let a = All-head IsBlank b bs h in rw (no_digit b a.0, no_upper b a.1, name_from) refl

pub name_reads : (name rest : List ℕ) → All (λ b. IsDigit b ⊎ IsUpper b) name → Ends rest
    → name_from (name ++ rest) ≡ (name, rest)
name_reads [] rest h e = no_name rest e
name_reads (b ∷ name) rest h e =
    let a : name_from (b ∷ (name ++ rest)) ≡ (b ∷ (name_from (name ++ rest)).0, (name_from (name ++ rest)).1) =
    rw ((name_byte b (All-head (λ b. IsDigit b ⊎ IsUpper b) b name h)).0, name_from) refl in
    a ∙ ap (λ r. (b ∷ r.0, r.1)) (name_reads name rest (All-tail (λ b. IsDigit b ⊎ IsUpper b) b name h) e)

pub name_past : (name rest : List ℕ) → IsShortName name → past_blanks (name ++ rest) ≡ name ++ rest
name_past [] rest h = absurd (omega (arith, h.0))
name_past (b ∷ name) rest h = rw ((name_byte b (All-head (λ b. IsDigit b ⊎ IsUpper b) b name h.2)).1, past_blanks) refl

pub comment_reads : (words : List ℕ) (depth : ℕ) (rest : List ℕ) → IsBalanced depth words
    → comment_from depth (words ++ (41 ∷ rest)) ≡ Some (words, rest)
comment_reads [] depth rest h = ap (λ d. comment_from d (41 ∷ rest)) h
comment_reads (b ∷ words) depth rest (inl (e, h)) =
    ap (λ c. comment_from depth (c ∷ (words ++ (41 ∷ rest)))) e
    ∙ ap (prefixed 40) (comment_reads words (depth + 1) rest h) ∙ ap (λ c. Some (c ∷ words, rest)) (sym e)
comment_reads (b ∷ words) depth rest (inr (inl (e, (outer, f, h)))) =
    let zero_no : eqb depth 0 ≡ false = grind arith in
    let k : depth - 1 ≡ outer = omega arith in
    let a : comment_from depth (41 ∷ (words ++ (41 ∷ rest)))
    ≡ prefixed 41 (comment_from (depth - 1) (words ++ (41 ∷ rest))) = rw (zero_no, comment_from) refl in
    ap (λ c. comment_from depth (c ∷ (words ++ (41 ∷ rest)))) e ∙ a
    ∙ ap (λ d. prefixed 41 (comment_from d (words ++ (41 ∷ rest)))) k
    ∙ ap (prefixed 41) (comment_reads words outer rest h) ∙ ap (λ c. Some (c ∷ words, rest)) (sym e)
comment_reads (b ∷ words) depth rest (inr (inr h)) =
    let open_no : eqb b 40 ≡ false = ne_eqb b 40 h.0 in
    let close_no : eqb b 41 ≡ false = ne_eqb b 41 h.1 in
    let a : comment_from depth (b ∷ (words ++ (41 ∷ rest))) ≡ prefixed b (comment_from depth (words ++ (41 ∷ rest))) =
    rw (open_no, close_no, comment_from) refl in
    a ∙ ap (prefixed b) (comment_reads words depth rest h.2)
