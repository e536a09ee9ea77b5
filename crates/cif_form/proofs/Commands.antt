-- A reader of one command that is a function, and finds what the grammar says.
use Rattle.std.proofs.Common.{ℕ, ◌≡◌, ◌+◌, ◌-◌, ◌≤◌, inl, inr, refl, sym, ◌∙◌, ap, subst, arith, List, [], ◌∷◌, ◌++◌}
use Rattle.std.proofs.Common.{length, All, true, leb, Some, append_assoc, length-append}
use Rattle.std.specs.Prelude.{◌≢◌, ℤ, pos}
use Rattle.std.proofs.lemmas.List.{append-nil}
use Rattle.std.proofs.lemmas.List.Elements.{All-head, All-tail}
use Rattle.std.proofs.lemmas.Bool.{ne_eqb}
use Rattle.mp_base.specs.Token.{is_digit}
use Rattle.lam_geom.specs.declared.place.Point.{Point}
use Rattle.cif_form.specs.declared.command.Turn.{Turn}
use Rattle.cif_form.specs.declared.command.Command.{Command}
use Rattle.cif_form.specs.declared.command.Command.TheVariants.{Polygon, Box, Round, Wire, Layer, Start, Finish, Delete}
use Rattle.cif_form.specs.declared.command.Command.TheVariants.{Call, User, Comment}
use Rattle.cif_form.specs.Text.{◌▹◌, Byte, Blanks, Separator, Integer, PointText, Path, Turns, Either, right}
use Rattle.cif_form.specs.Text.{IsShortName, Spells}
use Rattle.cif_form.specs.Readers.{Reader, goes_on, and_then, gives, past_blanks, separator_from, then_separator}
use Rattle.cif_form.specs.Readers.{integer_from, point_from, follows, tail_from, path_here, turns_here, words_from}
use Rattle.cif_form.specs.Readers.{box_at, box_sized, box_long, round_of, wire_of, call_of, scale_under, scale_from}
use Rattle.cif_form.specs.Readers.{start_of, definition_from, layer_named, layer_from, user_of, command_from}
use Rattle.cif_form.proofs.Numbers.{Finds, finds_both, Stops, integer_reads, integer_follows, separator_read, stops_at}
use Rattle.cif_form.proofs.Numbers.{point_reads, point_follows, separator_follows}
use Rattle.cif_form.proofs.Parts.{Ends, byte_and, ends_stop, ends_follow, blanks_past, tail_left, tail_found}
use Rattle.cif_form.proofs.Parts.{path_reads}
use Rattle.cif_form.proofs.Parts.{path_size, turns_read, turns_stop, turns_size, name_reads, name_past, comment_reads}

-- ---- the pieces, each with a function of what it finds

-- ---- laws

separated : {A : Type 0} (p : Reader A) (a : A) (text sep back rest : List ℕ) → text ≡ sep ++ back → Separator sep
    → Finds p a back rest
    → Finds (then_separator p) a text rest
separated p a text sep back rest e h k =
    finds_both separator_from (λ _. p) tt a text sep back rest e (separator_read sep (back ++ rest) h) k

finished : {A B : Type 0} (p : Reader A) (f : A → B) (a : A) (text rest : List ℕ) → Finds p a text rest
    → Finds (and_then p (gives f)) (f a) text rest
finished p f a text rest h = ap (goes_on (gives f)) h

-- a number ends before a separator
stops_before : (text sep back rest : List ℕ) → text ≡ sep ++ back → Separator sep → Stops (text ++ rest)
stops_before text sep back rest e h = subst (λ t. Stops (t ++ rest)) (sym e) (stops_at sep back rest h)

longer : (front rest : List ℕ) (n : ℕ) → n ≤ length front → n ≤ length (front ++ rest)
longer front rest n h = let e = length-append front rest in omega arith

path_here_reads : (ps : List Point) (front rest : List ℕ) → Path ps front → Ends rest → Finds path_here ps front rest
path_here_reads ps front rest h e =
    path_reads ps (length (front ++ rest)) front rest (longer front rest (length ps) (path_size ps front h)) h e

turns_here_read : (ts : List Turn) (front rest : List ℕ) → Turns ts front → Ends rest → Finds turns_here ts front rest
turns_here_read ts front rest h e =
    turns_read ts (length (front ++ rest)) front rest (longer front rest (length ts) (turns_size ts front h)) h e

-- a part that may be left out stops a number in front of it
either_stops : (usual : Type 0) (P : List ℕ → Type 0) (front rest : List ℕ) → Either usual (Separator ▹ P) front
    → Ends rest → Stops (front ++ rest)
either_stops usual P front rest (inl h) e = subst (λ t. Stops (t ++ rest)) (sym h.1) (ends_stop rest e)
either_stops usual P front rest (inr (sep, back, f, h, k)) e = stops_before front sep back rest f h

direction_reads : (d : Point) (front rest : List ℕ) → Either (d ≡ right) (Separator ▹ PointText d) front → Ends rest
    → Finds (tail_from right (then_separator point_from)) d front rest
direction_reads d front rest (inl h) e =
    ap (λ t. tail_from right (then_separator point_from) (t ++ rest)) h.1
    ∙ tail_left right (then_separator point_from) rest (ends_follow rest e) ∙ ap (λ p. Some (p, rest)) (sym h.0)
direction_reads d front rest (inr (sep, back, f, h, k)) e =
    let go : follows (front ++ rest) ≡ true =
    ap (λ t. follows (t ++ rest)) f ∙ ap follows (append_assoc sep back rest) ∙ separator_follows sep (back ++ rest) h
    ∙ point_follows d back rest k in
    tail_found right (then_separator point_from) d front rest go
    (separated point_from d front sep back rest f h (point_reads d back rest k (ends_stop rest e)))

scale_reads : (a b : ℤ) (front rest : List ℕ)
    → Either ((a ≡ pos 1) × (b ≡ pos 1)) (Separator ▹ Integer a ▹ Separator ▹ Integer b) front → Ends rest
    → Finds scale_from (a, b) front rest
scale_reads a b front rest (inl ((over, under), nothing)) e =
    ap (λ t. scale_from (t ++ rest)) nothing
    ∙ tail_left (pos 1, pos 1) (then_separator (and_then integer_from scale_under)) rest (ends_follow rest e)
    ∙ (λ i. Some ((sym over i, sym under i), rest))
scale_reads a b front rest (inr (sep, back, f, h, (fa, more, g, ha, (sep', fb, k, h', hb)))) e =
    let back_go : follows (back ++ rest) ≡ true =
    ap (λ t. follows (t ++ rest)) g ∙ ap follows (append_assoc fa more rest) ∙ integer_follows a fa (more ++ rest) ha in
    let go : follows (front ++ rest) ≡ true =
    ap (λ t. follows (t ++ rest)) f ∙ ap follows (append_assoc sep back rest) ∙ separator_follows sep (back ++ rest) h
    ∙ back_go in
    tail_found (pos 1, pos 1) (then_separator (and_then integer_from scale_under)) (a, b) front rest go
    (separated (and_then integer_from scale_under) (a, b) front sep back rest f h
    (finds_both integer_from scale_under a (a, b) back fa more rest g
    (integer_reads a fa (more ++ rest) ha (stops_before more sep' fb rest k h'))
    (separated (and_then integer_from (gives (λ b. (a, b)))) (a, b) more sep' fb rest k h'
    (finished integer_from (λ b. (a, b)) b fb rest (integer_reads b fb rest hb (ends_stop rest e))))))

words_read : (words rest : List ℕ) → All (λ b. b ≢ 59) words → words_from (words ++ (59 ∷ rest)) ≡ (words, 59 ∷ rest)
words_read [] rest h = refl
words_read (b ∷ words) rest h =
    let e : words_from (b ∷ (words ++ (59 ∷ rest)))
    ≡ (b ∷ (words_from (words ++ (59 ∷ rest))).0, (words_from (words ++ (59 ∷ rest))).1) =
    rw (ne_eqb b 59 (All-head (λ b. b ≢ 59) b words h), words_from) refl in
    e ∙ ap (λ r. (b ∷ r.0, r.1)) (words_read words rest (All-tail (λ b. b ≢ 59) b words h))

named : (name rest : List ℕ) → IsShortName name → layer_named (name, rest) ≡ Some (Layer name, rest)
named name rest h =
    let a : leb 1 (length name) ≡ true = grind (arith, h.0) in
    let b : leb (length name) 4 ≡ true = grind (arith, h.1) in
    rw (a, b, layer_named) refl

-- what follows a `D` and blanks
after_d : (b : ℕ) (text blanks more byte back rest : List ℕ) → past_blanks (b ∷ (back ++ rest)) ≡ b ∷ (back ++ rest)
    → text ≡ blanks ++ more → Blanks blanks
    → more ≡ byte ++ back → Byte b byte → past_blanks (text ++ rest) ≡ b ∷ (back ++ rest)
after_d b text blanks more byte back rest p e h f k =
    ap (λ t. past_blanks (t ++ rest)) e ∙ ap past_blanks (append_assoc blanks more rest)
    ∙ blanks_past blanks (more ++ rest) h ∙ ap past_blanks (byte_and b more byte back rest f k) ∙ p

-- a command's end: of a user command it is the semicolon itself
abbrev pub EndsAfter : Command → List ℕ → Type 0
EndsAfter (User digit words) rest = (more : List ℕ) × (rest ≡ 59 ∷ more)
EndsAfter c rest = Ends rest

pub command_reads : (c : Command) (front rest : List ℕ) → Spells c front → EndsAfter c rest
    → Finds command_from c front rest
command_reads (Polygon ps) front rest (byte, back, f, h, k) e =
    ap command_from (byte_and 80 front byte back rest f h)
    ∙ finished path_here Polygon ps back rest (path_here_reads ps back rest k e)
command_reads (Box long wide c d) front rest (
  byte,
  back,
  f,
  h,
  (fl, more, g, hl, (sep, more', g', hs, (fw, more'', g'', hw, (sep', more3, g3, hs', (fc, fd, g4, hc, hd))))),
) e =
    ap command_from (byte_and 66 front byte back rest f h)
    ∙ finds_both integer_from box_long long (Box long wide c d) back fl more rest g
    (integer_reads long fl (more ++ rest) hl (stops_before more sep more' rest g' hs))
    (separated (and_then integer_from (box_sized long)) (Box long wide c d) more sep more' rest g' hs
    (finds_both integer_from (box_sized long) wide (Box long wide c d) more' fw more'' rest g''
    (integer_reads wide fw (more'' ++ rest) hw (stops_before more'' sep' more3 rest g3 hs'))
    (separated (and_then point_from (box_at long wide)) (Box long wide c d) more'' sep' more3 rest g3 hs'
    (finds_both point_from (box_at long wide) c (Box long wide c d) more3 fc fd rest g4
    (point_reads c fc (fd ++ rest) hc (either_stops (d ≡ right) (PointText d) fd rest hd e))
    (finished (tail_from right (then_separator point_from)) (Box long wide c) d fd rest
    (direction_reads d fd rest hd e))))))
command_reads (Round d c) front rest (byte, back, f, h, (fd, more, g, hd, (sep, fc, g', hs, hc))) e =
    ap command_from (byte_and 82 front byte back rest f h)
    ∙ finds_both integer_from round_of d (Round d c) back fd more rest g
    (integer_reads d fd (more ++ rest) hd (stops_before more sep fc rest g' hs))
    (separated (and_then point_from (gives (Round d))) (Round d c) more sep fc rest g' hs
    (finished point_from (Round d) c fc rest (point_reads c fc rest hc (ends_stop rest e))))
command_reads (Wire w ps) front rest (byte, back, f, h, (fw, more, g, hw, (sep, fp, g', hs, hp))) e =
    ap command_from (byte_and 87 front byte back rest f h)
    ∙ finds_both integer_from wire_of w (Wire w ps) back fw more rest g
    (integer_reads w fw (more ++ rest) hw (stops_before more sep fp rest g' hs))
    (separated (and_then path_here (gives (Wire w))) (Wire w ps) more sep fp rest g' hs
    (finished path_here (Wire w) ps fp rest (path_here_reads ps fp rest hp e)))
command_reads (Layer name) front rest (byte, back, f, h, (bs, fn, g, hb, (k, hn))) e =
    let p : past_blanks (back ++ rest) ≡ name ++ rest =
    ap (λ t. past_blanks (t ++ rest)) g ∙ ap past_blanks (append_assoc bs fn rest) ∙ blanks_past bs (fn ++ rest) hb
    ∙ ap (λ t. past_blanks (t ++ rest)) k ∙ name_past name rest hn in
    ap command_from (byte_and 76 front byte back rest f h) ∙ ap layer_from p
    ∙ ap layer_named (name_reads name rest hn.2 e) ∙ named name rest hn
command_reads (Start n a b) front rest
    (byte, back, f, h, (bs, more, g, hb, (s, more', g', hs, (fn, ft, g'', hn, ht)))) e =
    let stop : Stops (ft ++ rest) =
    either_stops ((a ≡ pos 1) × (b ≡ pos 1)) (Integer a ▹ Separator ▹ Integer b) ft rest ht e in
    ap command_from (byte_and 68 front byte back rest f h)
    ∙ ap definition_from (after_d 83 back bs more s more' rest refl g hb g' hs)
    ∙ finds_both integer_from start_of n (Start n a b) more' fn ft rest g'' (integer_reads n fn (ft ++ rest) hn stop)
    (finished scale_from (λ s. Start n s.0 s.1) (a, b) ft rest (scale_reads a b ft rest ht e))
command_reads Finish front rest (byte, back, f, h, (bs, more, g, hb, k)) e =
    ap command_from (byte_and 68 front byte back rest f h)
    ∙ ap definition_from (after_d 70 back bs more more [] rest refl g hb (sym (append-nil more)) k)
command_reads (Delete n) front rest (byte, back, f, h, (bs, more, g, hb, (s, fn, g', hs, hn))) e =
    ap command_from (byte_and 68 front byte back rest f h)
    ∙ ap definition_from (after_d 68 back bs more s fn rest refl g hb g' hs)
    ∙ finished integer_from Delete n fn rest (integer_reads n fn rest hn (ends_stop rest e))
command_reads (Call n ts) front rest (byte, back, f, h, (fn, ft, g, hn, ht)) e =
    ap command_from (byte_and 67 front byte back rest f h)
    ∙ finds_both integer_from call_of n (Call n ts) back fn ft rest g
    (integer_reads n fn (ft ++ rest) hn (turns_stop ts ft rest ht (ends_stop rest e)))
    (finished turns_here (Call n) ts ft rest (turns_here_read ts ft rest ht e))
command_reads (User digit words) front rest (f, h, k) (more, e) =
    let d : is_digit (48 + digit) ≡ true = grind arith in
    let m : 48 + digit - 48 ≡ digit = omega arith in
    let a : command_from ((48 + digit) ∷ (words ++ (59 ∷ more)))
    ≡ user_of (48 + digit - 48) (words_from (words ++ (59 ∷ more))) = rw (d, command_from) refl in
    ap (λ t. command_from (t ++ rest)) f ∙ ap (λ t. command_from ((48 + digit) ∷ (words ++ t))) e ∙ a
    ∙ (λ i. user_of (m i) (words_read words more k i)) ∙ ap (λ t. Some (User digit words, t)) (sym e)
command_reads (Comment words) front rest (f, h) e =
    ap (λ t. command_from (t ++ rest)) f ∙ ap (λ t. command_from (40 ∷ t)) (append_assoc words (41 ∷ []) rest)
    ∙ ap (goes_on (gives Comment)) (comment_reads words 0 rest h)
