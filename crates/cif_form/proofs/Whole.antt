-- What is written of commands that fit and nest breaks no rule of texts.
use Rattle.std.proofs.Common.{ℕ, suc, ◌≡◌, ◌+◌, ◌≤◌, ◌<◌, inr, refl, sym, ◌∙◌, ap, subst, arith, List, [], ◌∷◌, ◌++◌}
use Rattle.std.proofs.Common.{length, Bool, false}
use Rattle.std.specs.Prelude.{All}
use Rattle.std.proofs.lemmas.List.Elements.{All-nil, All-head, All-tail, All-append, All-contains}
use Rattle.cif_form.specs.declared.command.Command.{Command}
use Rattle.cif_form.specs.declared.command.Command.TheVariants.{Polygon, Box, Round, Wire, Layer, Start, Finish, Delete}
use Rattle.cif_form.specs.declared.command.Command.TheVariants.{Call, User, Comment}
use Rattle.cif_form.specs.declared.command.Item.{Item}
use Rattle.cif_form.specs.Text.{◌▹◌, Byte, Blanks, IsBlank}
use Rattle.cif_form.specs.Fits.{Fits, IsSmall, unsigned_numbers, signed_numbers}
use Rattle.cif_form.specs.Scans.TextEnd.{Whole}
use Rattle.cif_form.specs.Scans.{FileScans, Scans, IsLateEnd, IsReadAs, HasBig, Nests}
use Rattle.cif_form.specs.Writing.{written, placed_items, text_of}
use Rattle.cif_form.proofs.Written.{fits_spelled}

-- a scan that comes to the end of the file
abbrev Scanned : Bool → ℕ → List ℕ → List Item → Type 0
Scanned inside offset text items = Scans inside offset text items Whole

no_big : (c : Command) → Fits c → ¬ HasBig c
no_big c f h =
    let small = All-append IsSmall (unsigned_numbers c) (signed_numbers c) (λ k d l. (f.unsigned k d l).1) f.signed in
    h.4 (All-contains IsSmall (unsigned_numbers c ++ signed_numbers c) h.1 small (h.0, h.2, h.3))

-- blanks in front change nothing
behind_blanks : (inside : Bool) (bs rest : List ℕ) (items : List Item) (offset : ℕ) → Blanks bs
    → Scanned inside (offset + length bs) rest items → Scanned inside offset (bs ++ rest) items
behind_blanks inside [] rest items offset h s = subst (λ o. Scanned inside o rest items) (omega arith) s
behind_blanks inside (b ∷ bs) rest items offset h s =
    let e : offset + suc (length bs) ≡ offset + 1 + length bs = omega arith in
    let later : Scanned inside (offset + 1 + length bs) rest items = subst (λ o. Scanned inside o rest items) e s in
    let rest_scan = behind_blanks inside bs rest items (offset + 1) (All-tail IsBlank b bs h) later in
    Scans.blank b (All-head IsBlank b bs h) rest_scan

read_as : (c : Command) (rest : List ℕ) → Fits c → IsReadAs (text_of c ++ (59 ∷ rest)) c (length (text_of c) + 1) rest
read_as c rest f = record {
  spelled = text_of c;
  blanks = [];
  split = refl;
  spells = fits_spelled c f;
  are_blanks = All-nil IsBlank;
  user = λ digit words e. refl;
  counted = refl;
}

module _ (bs last : List ℕ) (are : Blanks bs) (closing : Blanks last) where
  abbrev others : List Command → List ℕ
  others cs = written (59 ∷ bs) last cs

  scanned : (inside : Bool) (cs : List Command) → All Fits cs → Nests inside cs → (offset : ℕ)
      → Scanned inside offset (others cs) (placed_items (59 ∷ bs) offset cs)
  scanned inside [] f n offset = subst (λ b. Scanned b offset (69 ∷ last) []) (sym n) (Scans.end closing)
  scanned inside (c ∷ cs) f n offset =
      let size : ℕ = length (text_of c) + 1 in
      let later : ℕ = offset + (length (text_of c) + suc (length bs)) in
      let fits = All-head Fits c cs f in
      let next : Scanned n.0 later (others cs) (placed_items (59 ∷ bs) later cs) =
      scanned n.0 cs (All-tail Fits c cs f) n.2 later in
      let e : later ≡ offset + size + length bs = omega arith in
      let behind = behind_blanks n.0 bs (others cs) (placed_items (59 ∷ bs) later cs) (offset + size) are
      (subst (λ o. Scanned n.0 o (others cs) (placed_items (59 ∷ bs) later cs)) e next) in
      Scans.command c size (read_as c (bs ++ others cs) fits) (no_big c fits) n.1 behind

-- a text that begins with no blank
record Begins (text : List ℕ) : Type 0 where
  byte : ℕ
  rest : List ℕ
  split : text ≡ byte ∷ rest
  solid : IsBlank byte → ⊥

begins : (c : Command) → Fits c → Begins (text_of c)
begins (Polygon ps) f = record { byte = 80; rest = _; split = refl; solid = λ b. b.1 (omega arith, omega arith) }
begins (Box a b c d) f = record { byte = 66; rest = _; split = refl; solid = λ b. b.1 (omega arith, omega arith) }
begins (Round d c) f = record { byte = 82; rest = _; split = refl; solid = λ b. b.1 (omega arith, omega arith) }
begins (Wire w ps) f = record { byte = 87; rest = _; split = refl; solid = λ b. b.1 (omega arith, omega arith) }
begins (Layer name) f = record { byte = 76; rest = _; split = refl; solid = λ b. b.1 (omega arith, omega arith) }
begins (Start n a b) f = record { byte = 68; rest = _; split = refl; solid = λ b. b.1 (omega arith, omega arith) }
begins Finish f = record { byte = 68; rest = _; split = refl; solid = λ b. b.1 (omega arith, omega arith) }
begins (Delete n) f = record { byte = 68; rest = _; split = refl; solid = λ b. b.1 (omega arith, omega arith) }
begins (Call n ts) f = record { byte = 67; rest = _; split = refl; solid = λ b. b.1 (omega arith, omega arith) }
begins (User digit words) f =
    let d : digit ≤ 9 = f.formed.0 in
    record { byte = 48 + digit; rest = words; split = refl; solid = λ b. b.0 (omega arith, omega arith) }
begins (Comment words) f = record { byte = 40; rest = _; split = refl; solid = λ b. b.3 refl }

file_begins : (semi last : List ℕ) (cs : List Command) → All Fits cs → Begins (written semi last cs)
file_begins semi last [] f =
    record { byte = 69; rest = last; split = refl; solid = λ b. b.1 (omega arith, omega arith) }
file_begins semi last (c ∷ cs) f =
    let b = begins c (All-head Fits c cs f) in
    let behind : List ℕ = semi ++ written semi last cs in
    record { byte = b.byte; rest = b.rest ++ behind; split = ap (λ t. t ++ behind) b.split; solid = b.solid }

not_late : (text : List ℕ) → Begins text → (offset : ℕ) → IsLateEnd text offset → ⊥
not_late text b offset h = go h.before h.split h.blanks h.counted h.late
  where
    go : (before : List ℕ) → text ≡ before ++ (69 ∷ h.after) → Blanks before → offset ≡ length before → 0 < offset → ⊥
    go [] e k c l = absurd (omega arith)
    go (x ∷ xs) e k c l =
        let same : b.byte ∷ b.rest ≡ x ∷ (xs ++ (69 ∷ h.after)) = sym b.split ∙ e in
        let first : x ≡ b.byte = cc in
        b.solid (subst IsBlank first (All-head IsBlank x xs k))

at_blanks : (semi : List ℕ) → (Byte 59 ▹ Blanks) semi → (bs : List ℕ) × (semi ≡ 59 ∷ bs) × Blanks bs
at_blanks semi (front, rest, e, f, k) = (rest, e ∙ ap (λ t. t ++ rest) f, k)

pub whole : (semi last : List ℕ) → (Byte 59 ▹ Blanks) semi → Blanks last → (cs : List Command) → All Fits cs
    → Nests false cs → FileScans (written semi last cs) (placed_items semi 0 cs) Whole
whole semi last h k cs f n =
    let s = at_blanks semi h in
    let scan = scanned s.0 last s.2 k false cs f n 0 in
    inr (
      not_late (written semi last cs) (file_begins semi last cs f),
      subst (λ t. Scanned false 0 (written t last cs) (placed_items t 0 cs)) (sym s.1) scan,
    )
