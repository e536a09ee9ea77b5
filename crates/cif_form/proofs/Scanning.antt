-- How the reading of a file ends is determined.
use Rattle.std.proofs.Common.{ℕ, ◌≡◌, ◌+◌, ◌≤◌, ◌⊎◌, inl, inr, refl, sym, ◌∙◌, ap, subst, arith, List, [], ◌∷◌, ◌++◌}
use Rattle.std.proofs.Common.{length, Bool, true, false, not, eqb, leb, ◌&&◌, ◌||◌, Option, Some, None, length-append}
use Rattle.std.specs.Prelude.{◌≢◌}
use Rattle.std.proofs.lemmas.List.Elements.{All-head, All-tail}
use Rattle.std.proofs.lemmas.Bool.{false_from_ne_true}
use Rattle.mp_base.specs.Token.{is_digit}
use Rattle.mp_base.proofs.Lists.{tail_of}
use Rattle.cif_form.specs.declared.command.Command.{Command}
use Rattle.cif_form.specs.declared.command.Command.TheVariants.{Polygon, Box, Round, Wire, Layer as SetLayer, Start}
use Rattle.cif_form.specs.declared.command.Command.TheVariants.{Finish, Delete, Call, User, Comment}
use Rattle.cif_form.specs.declared.command.Item.{Item}
use Rattle.cif_form.specs.Text.{IsBlank, Blanks}
use Rattle.cif_form.specs.Scans.{TextEnd, IsReadAs, IsReadable, HasBig, opens, Scans, IsLateEnd, FileScans}
use Rattle.cif_form.specs.Scans.TextRule.{C1, C2, C3, C4, C5}
use Rattle.cif_form.specs.Scans.TextEnd.{Whole, Broken}
use Rattle.cif_form.specs.Readers.{is_upper, is_blank, command_from}
use Rattle.cif_form.proofs.Numbers.{blank_reads}
use Rattle.cif_form.proofs.OneLabel.{one_cut}
use Rattle.cif_form.proofs.Commands.{command_reads, EndsAfter}
use Rattle.cif_form.proofs.Reading.{begins}

-- ---- one command

ends_after : (c : Command) (blanks rest : List ℕ) → Blanks blanks
    → ((digit : ℕ) (words : List ℕ) → c ≡ User digit words → blanks ≡ []) → EndsAfter c (blanks ++ (59 ∷ rest))
ends_after (Polygon ps) bs rest h u = record { blanks = bs; more = rest; split = refl; are_blanks = h }
ends_after (Box a b c d) bs rest h u = record { blanks = bs; more = rest; split = refl; are_blanks = h }
ends_after (Round d c) bs rest h u = record { blanks = bs; more = rest; split = refl; are_blanks = h }
ends_after (Wire w ps) bs rest h u = record { blanks = bs; more = rest; split = refl; are_blanks = h }
ends_after (SetLayer name) bs rest h u = record { blanks = bs; more = rest; split = refl; are_blanks = h }
ends_after (Start n a b) bs rest h u = record { blanks = bs; more = rest; split = refl; are_blanks = h }
ends_after Finish bs rest h u = record { blanks = bs; more = rest; split = refl; are_blanks = h }
ends_after (Delete n) bs rest h u = record { blanks = bs; more = rest; split = refl; are_blanks = h }
ends_after (Call n ts) bs rest h u = record { blanks = bs; more = rest; split = refl; are_blanks = h }
ends_after (User digit words) bs rest h u = (rest, ap (λ t. t ++ (59 ∷ rest)) (u digit words refl))
ends_after (Comment words) bs rest h u = record { blanks = bs; more = rest; split = refl; are_blanks = h }

pub found : (text : List ℕ) (c : Command) (size : ℕ) (rest : List ℕ) (r : IsReadAs text c size rest)
    → command_from text ≡ Some (c, r.blanks ++ (59 ∷ rest))
found text c size rest r =
    ap command_from r.split
    ∙ command_reads c r.spelled (r.blanks ++ (59 ∷ rest)) r.spells (ends_after c r.blanks rest r.are_blanks r.user)

sized : (text : List ℕ) (c : Command) (size : ℕ) (rest : List ℕ) → IsReadAs text c size rest
    → length text ≡ size + length rest
sized text c size rest r =
    let a = ap length r.split ∙ length-append r.spelled (r.blanks ++ (59 ∷ rest)) in
    let b = length-append r.blanks (59 ∷ rest) in
    let k = r.counted in
    omega arith

semicolon_no_blank : ¬ IsBlank 59
semicolon_no_blank h = h.5 refl

command_in : Option (Command × List ℕ) → Command
command_in None = Finish
command_in (Some r) = r.0

rest_in : Option (Command × List ℕ) → List ℕ
rest_in None = []
rest_in (Some r) = r.1

-- a command is read in one way
pub one_read : (text : List ℕ) (c d : Command) (m n : ℕ) (rest more : List ℕ) → IsReadAs text c m rest
    → IsReadAs text d n more → (c ≡ d) × (m ≡ n) × (rest ≡ more)
unfolding command_in rest_in
one_read text c d m n rest more r s =
    let e = sym (found text c m rest r) ∙ found text d n more s in
    let f : r.blanks ++ (59 ∷ rest) ≡ s.blanks ++ (59 ∷ more) = ap rest_in e in
    let g = one_cut IsBlank r.blanks s.blanks (59 ∷ rest)
    (59 ∷ more) r.are_blanks s.are_blanks semicolon_no_blank semicolon_no_blank f in
    let k : rest ≡ more = tail_of g.1 in
    let a = sized text c m rest r in
    let b = sized text d n more s in
    let l = ap length k in
    (ap command_in e, omega arith, k)

-- ---- kinds of what is next

data Kind : Type 0 where
  Nil : Kind
  Skipped : Kind
  Ended : Kind
  Command' : Kind

abbrev kind : List ℕ → Kind
kind [] = Nil
kind (b ∷ bs) =
    elim (is_blank b || eqb b 59) [ true ↦ Skipped | false ↦ elim (eqb b 69) [ true ↦ Ended | false ↦ Command' ] ]

blank_parts : (d m o c s u : Bool) → (not (d || m || o || c || s) && not u) ≡ true
    → (d ≡ false) × (m ≡ false) × (o ≡ false) × (c ≡ false) × (s ≡ false) × (u ≡ false)
blank_parts d m o c s u h = (grind arith, grind arith, grind arith, grind arith, grind arith, grind arith)

pub blank_means : (b : ℕ) → is_blank b ≡ true → IsBlank b
blank_means b h =
    let p = blank_parts (is_digit b) (eqb b 45) (eqb b 40) (eqb b 41) (eqb b 59) (is_upper b) h in (
      (λ k. between b 48 57 k p.0),
      (λ k. between b 65 90 k p.5),
      apart b 45 p.1,
      apart b 40 p.2,
      apart b 41 p.3,
      apart b 59 p.4,
    )
  where
    between : (b l u : ℕ) → (l ≤ b) × (b ≤ u) → (leb l b && leb b u) ≡ false → ⊥
    between b l u (h, k) e = grind arith

    apart : (b c : ℕ) → eqb b c ≡ false → b ≢ c
    apart b c h e = grind arith

kind_blank : (b : ℕ) (rest : List ℕ) → IsBlank b → kind (b ∷ rest) ≡ Skipped
kind_blank b rest h = rw (blank_reads b h, kind) refl

kind_other : (b : ℕ) (rest : List ℕ) → ¬ IsBlank b → b ≢ 59 → b ≢ 69 → kind (b ∷ rest) ≡ Command'
kind_other b rest h k m =
    let p : is_blank b ≡ false = false_from_ne_true (is_blank b) (λ e. h (blank_means b e)) in
    let q : eqb b 59 ≡ false = grind arith in
    let r : eqb b 69 ≡ false = grind arith in
    rw (p, q, r, kind) refl

kind_read : (text : List ℕ) (c : Command) (size : ℕ) (rest : List ℕ) → IsReadAs text c size rest → kind text ≡ Command'
kind_read text c size rest r =
    let g = begins c r.spelled r.spells in
    let e : text ≡ g.byte ∷ (g.back ++ (r.blanks ++ (59 ∷ rest))) =
    r.split ∙ ap (λ t. t ++ (r.blanks ++ (59 ∷ rest))) g.split in
    let k : kind (g.byte ∷ (g.back ++ (r.blanks ++ (59 ∷ rest)))) ≡ Command' = rw (g.no_blank, g.no_end, kind) refl in
    ap kind e ∙ k

-- ---- what a reading says of what is next

abbrev pub item : ℕ → Command → Item
item offset c = record { offset = offset; command = c }

-- how the reading goes on behind a command
abbrev Judged : Bool → ℕ → Command → ℕ → List ℕ → List Item → TextEnd → Type 0
Judged inside offset c size rest items e =
    HasBig c × (items ≡ []) × (e ≡ Broken C3 offset)
    ⊎ ¬ HasBig c × (opens inside c ≡ None) × (items ≡ []) × (e ≡ Broken C4 offset)
    ⊎ ((within : Bool) × (more : List Item) × ¬ HasBig c × (opens inside c ≡ Some within)
    × (items ≡ item offset c ∷ more) × Scans within (offset + size) rest more e)

abbrev EndOf : Bool → ℕ → List ℕ → TextEnd → Type 0
EndOf true offset after e = e ≡ Broken C4 offset
EndOf false offset after e = Blanks after × (e ≡ Whole)
    ⊎ ((front : List ℕ) × (b : ℕ) × (rest : List ℕ) × (after ≡ front ++ b ∷ rest) × Blanks front × ¬ IsBlank b
    × (e ≡ Broken C5 (offset + (1 + length front))))

abbrev behind : List ℕ → List ℕ
behind [] = []
behind (b ∷ bs) = bs

abbrev View : Kind → Bool → ℕ → List ℕ → List Item → TextEnd → Type 0
View Nil inside offset text items e = (items ≡ []) × (e ≡ Broken C2 offset)
View Skipped inside offset text items e = Scans inside (offset + 1) (behind text) items e
View Ended inside offset text items e = (items ≡ []) × EndOf inside offset (behind text) e
View Command' inside offset text items e =
    ¬ IsReadable text × (items ≡ []) × (e ≡ Broken C1 offset)
    ⊎ ((c : Command) × (size : ℕ) × (rest : List ℕ) × IsReadAs text c size rest
    × Judged inside offset c size rest items e)

abbrev at_kind : (inside : Bool) (offset : ℕ) (text : List ℕ) (items : List Item) (e : TextEnd) (k : Kind)
    → kind text ≡ k → View k inside offset text items e
    → View (kind text) inside offset text items e
at_kind inside offset text items e k h v = subst (λ k. View k inside offset text items e) (sym h) v

view : (inside : Bool) (offset : ℕ) (text : List ℕ) (items : List Item) (e : TextEnd)
    → Scans inside offset text items e → View (kind text) inside offset text items e
view _ _ _ _ _ (Scans.blank {inside = i} {offset = o} {rest = rest} {items = is} {e = e} b h s) =
    at_kind i o (b ∷ rest) is e Skipped (kind_blank b rest h) s
view _ _ _ _ _ (Scans.nothing s) = s
view _ _ _ _ _
    (Scans.command {inside = i} {within = w} {offset = o} {text = text} {rest = rest} {items = is} {e = e} c size r n f
    s) =
    at_kind i o text (item o c ∷ is) e Command' (kind_read text c size rest r)
    (inr (c, size, rest, r, inr (inr (w, is, n, f, refl, s))))
view _ _ _ _ _ (Scans.end h) = (refl, inl (h, refl))
view _ _ _ _ _ (Scans.unread {inside = i} {offset = o} {rest = rest} b h k m n) =
    at_kind i o (b ∷ rest) [] (Broken C1 o) Command' (kind_other b rest h k m) (inl (n, refl, refl))
view _ _ _ _ _ Scans.short = (refl, refl)
view _ _ _ _ _ (Scans.big {inside = i} {offset = o} {text = text} c size rest r h) =
    at_kind i o text [] (Broken C3 o) Command' (kind_read text c size rest r)
    (inr (c, size, rest, r, inl (h, refl, refl)))
view _ _ _ _ _ (Scans.nested {inside = i} {offset = o} {text = text} c size rest r n f) =
    at_kind i o text [] (Broken C4 o) Command' (kind_read text c size rest r)
    (inr (c, size, rest, r, inr (inl (n, f, refl, refl))))
view _ _ _ _ _ Scans.open_end = (refl, refl)
view _ _ _ _ _ (Scans.more after rest b h k) = (refl, inr (after, b, rest, refl, h, k, refl))

-- ---- one end

no_more : (after rest : List ℕ) (b : ℕ) → Blanks (after ++ b ∷ rest) → ¬ IsBlank b → ⊥
no_more [] rest b h n = n (All-head IsBlank b rest h)
no_more (a ∷ after) rest b h n = no_more after rest b (All-tail IsBlank a (after ++ b ∷ rest) h) n

one_end : (inside : Bool) (offset : ℕ) (after : List ℕ) (e g : TextEnd) → EndOf inside offset after e
    → EndOf inside offset after g → e ≡ g
one_end true offset after e g h k = h ∙ sym k
one_end false offset after e g (inl h) (inl k) = h.1 ∙ sym k.1
one_end false offset after e g (inl h) (inr (front, b, rest, f, m, n, k)) =
    absurd (no_more front rest b (subst Blanks f h.0) n)
one_end false offset after e g (inr (front, b, rest, f, m, n, k)) (inl h) =
    absurd (no_more front rest b (subst Blanks f h.0) n)
one_end false offset after e g (inr (front, b, rest, f, m, n, k)) (inr (front', b', rest', f', m', n', k')) =
    let c = one_cut IsBlank front front' (b ∷ rest) (b' ∷ rest') m m' n n' (sym f ∙ f') in
    k ∙ ap (λ t. Broken C5 (offset + (1 + length t))) c.0 ∙ sym k'

abbrev Same : List Item → List Item → TextEnd → TextEnd → Type 0
Same items others e g = (items ≡ others) × (e ≡ g)

-- the reading behind one command, given that the rest has one
one_judged : (inside : Bool) (offset : ℕ) (c d : Command) (m n : ℕ) (rest more : List ℕ) (items others : List Item)
    (e g : TextEnd)
    → (c ≡ d) × (m ≡ n) × (rest ≡ more)
    → ((within : Bool) (is js : List Item) → opens inside c ≡ Some within → items ≡ item offset c ∷ is
    → Scans within (offset + m) rest js g → Same is js e g)
    → Judged inside offset c m rest items e → Judged inside offset d n more others g → Same items others e g
one_judged inside offset c d m n rest more items others e g s f h k =
    let k' =
    subst (λ r. Judged inside offset c m r others g) (sym s.2)
    (subst (λ z. Judged inside offset c z more others g) (sym s.1)
    (subst (λ x. Judged inside offset x n more others g) (sym s.0) k)) in
    both h k'
  where
    both : Judged inside offset c m rest items e → Judged inside offset c m rest others g → Same items others e g
    both (inl a) (inl b) = (a.1 ∙ sym b.1, a.2 ∙ sym b.2)
    both (inl a) (inr (inl b)) = absurd (b.0 a.0)
    both (inl a) (inr (inr (w, js, b, x, y, z))) = absurd (b a.0)
    both (inr (inl a)) (inl b) = absurd (a.0 b.0)
    both (inr (inl a)) (inr (inl b)) = (a.2 ∙ sym b.2, a.3 ∙ sym b.3)
    both (inr (inl a)) (inr (inr (w, js, b, x, y, z))) = absurd (let l : None ≡ Some w = sym a.1 ∙ x in cc)
    both (inr (inr (w, is, b, x, y, z))) (inl a) = absurd (b a.0)
    both (inr (inr (w, is, b, x, y, z))) (inr (inl a)) = absurd (let l : None ≡ Some w = sym a.1 ∙ x in cc)
    both (inr (inr (w, is, b, x, y, z))) (inr (inr (w', js, b', x', y', z'))) =
        let l : Some w' ≡ Some w = sym x' ∙ x in
        let q : w' ≡ w = (cc) in
        let r = f w is js x y (subst (λ w. Scans w (offset + m) rest js g) q z') in
        (y ∙ ap (λ t. item offset c ∷ t) r.0 ∙ sym y', r.1)

-- How the reading of a text ends, and with what commands, is determined.
pub one_scan : (inside : Bool) (offset : ℕ) (text : List ℕ) (items others : List Item) (e g : TextEnd)
    → Scans inside offset text items e → Scans inside offset text others g → Same items others e g
one_scan _ _ _ _ others _ g (Scans.blank {inside = i} {offset = o} {rest = rest} {items = is} {e = e} b h s) k =
    let v = subst (λ k. View k i o (b ∷ rest) others g) (kind_blank b rest h) (view i o (b ∷ rest) others g k) in
    one_scan i (o + 1) rest is others e g s v
one_scan _ _ _ _ others _ g (Scans.nothing {inside = i} {offset = o} {rest = rest} {items = is} {e = e} s) k =
    one_scan i (o + 1) rest is others e g s (view i o (59 ∷ rest) others g k)
one_scan _ _ _ _ others _ g
    (Scans.command {inside = i} {within = w} {offset = o} {text = text} {rest = rest} {items = is} {e = e} c size r n f
    s) k =
    let v = subst (λ k. View k i o text others g) (kind_read text c size rest r) (view i o text others g k) in
    elim v [
      | inl a ↦ absurd (a.0 (c, size, rest, r))
      | inr a ↦
          one_judged i o c a.0 size a.1 rest a.2 (item o c ∷ is) others e g
          (one_read text c a.0 size a.1 rest a.2 r a.3)
          (λ w' ks js x y z.
          let l : Some w' ≡ Some w = sym x ∙ f in
          let p : w' ≡ w = cc in
          let q : is ≡ ks = cc in
          let t = one_scan w (o + size) rest is js e g s (subst (λ w. Scans w (o + size) rest js g) p z) in
          (sym q ∙ t.0, t.1))
          (inr (inr (w, is, n, f, refl, s))) a.4
    ]
one_scan _ _ _ _ others _ g (Scans.end {offset = o} {after = after} h) k =
    let v = view false o (69 ∷ after) others g k in (sym v.0, one_end false o after Whole g (inl (h, refl)) v.1)
one_scan _ _ _ _ others _ g (Scans.unread {inside = i} {offset = o} {rest = rest} b h x y n) k =
    let v = subst (λ k. View k i o (b ∷ rest) others g) (kind_other b rest h x y) (view i o (b ∷ rest) others g k) in
    elim v [ inl a ↦ (sym a.1, sym a.2) | inr a ↦ absurd (n (a.0, a.1, a.2, a.3)) ]
one_scan _ _ _ _ others _ g (Scans.short {inside = i} {offset = o}) k = let v = view i o [] others g k in
    (sym v.0, sym v.1)
one_scan _ _ _ _ others _ g (Scans.big {inside = i} {offset = o} {text = text} c size rest r h) k =
    let v = subst (λ k. View k i o text others g) (kind_read text c size rest r) (view i o text others g k) in
    elim v [
      | inl a ↦ absurd (a.0 (c, size, rest, r))
      | inr a ↦
          one_judged i o c a.0 size a.1 rest a.2 [] others (Broken C3 o) g (one_read text c a.0 size a.1 rest a.2 r a.3)
          (λ w ks js x y z. absurd (let l : [] ≡ item o c ∷ ks = y in cc)) (inl (h, refl, refl)) a.4
    ]
one_scan _ _ _ _ others _ g (Scans.nested {inside = i} {offset = o} {text = text} c size rest r n f) k =
    let v = subst (λ k. View k i o text others g) (kind_read text c size rest r) (view i o text others g k) in
    elim v [
      | inl a ↦ absurd (a.0 (c, size, rest, r))
      | inr a ↦
          one_judged i o c a.0 size a.1 rest a.2 [] others (Broken C4 o) g (one_read text c a.0 size a.1 rest a.2 r a.3)
          (λ w ks js x y z. absurd (let l : [] ≡ item o c ∷ ks = y in cc)) (inr (inl (n, f, refl, refl))) a.4
    ]
one_scan _ _ _ _ others _ g (Scans.open_end {offset = o} {after = after}) k =
    let v = view true o (69 ∷ after) others g k in (sym v.0, sym v.1)
one_scan _ _ _ _ others _ g (Scans.more {offset = o} after rest b h n) k =
    let v = view false o (69 ∷ after ++ b ∷ rest) others g k in (
      sym v.0,
      one_end false o (after ++ b ∷ rest) (Broken C5 (o + (1 + length after))) g
          (inr (after, b, rest, refl, h, n, refl)) v.1,
    )

late_once : (text : List ℕ) (m n : ℕ) → IsLateEnd text m → IsLateEnd text n → m ≡ n
late_once text m n h k =
    let c = one_cut IsBlank h.before k.before (69 ∷ h.after) (69 ∷ k.after) h.blanks k.blanks end_no_blank end_no_blank
    (sym h.split ∙ k.split) in
    h.counted ∙ ap length c.0 ∙ sym k.counted
  where
    end_no_blank : ¬ IsBlank 69
    end_no_blank h = h.1 (omega arith, omega arith)

-- So it is of a file.
pub one_file_scan : (text : List ℕ) (items others : List Item) (e g : TextEnd) → FileScans text items e
    → FileScans text others g → (items ≡ others) × (e ≡ g)
one_file_scan text items others e g (inl (m, h, a, b)) (inl (n, k, c, d)) =
    (a ∙ sym c, b ∙ ap (λ o. Broken C1 o) (late_once text m n h k) ∙ sym d)
one_file_scan text items others e g (inl (m, h, a, b)) (inr k) = absurd (k.0 m h)
one_file_scan text items others e g (inr h) (inl (n, k, c, d)) = absurd (h.0 n k)
one_file_scan text items others e g (inr h) (inr k) = one_scan false 0 text items others e g h.1 k.1
