-- Small files: what is read of them, and the first rule that each breaks.
use Rattle.std.proofs.Common.{ℕ, ◌≡◌, ◌≤◌, inl, inr, refl, sym, ◌∙◌, ap, subst, arith, List, [], ◌∷◌, ◌++◌, length, All}
use Rattle.std.proofs.Common.{Some, None, lit≤}
use Rattle.std.specs.Prelude.{◌≢◌, codes}
use Rattle.std.proofs.lemmas.List.Elements.{All-nil, All-cons, All-head}
use Rattle.cif_form.specs.declared.command.Command.TheVariants.{Finish, User}
use Rattle.cif_form.specs.Text.{IsBlank, Blanks, Reads}
use Rattle.cif_form.specs.Scans.{IsReadAs, IsReadable, HasBig, Scans, IsLateEnd, FileScans}
use Rattle.cif_form.specs.Scans.TextRule.{C1, C2, C4, C5}
use Rattle.cif_form.specs.Scans.TextEnd.{Broken}
use Rattle.cif_form.specs.Readers.{command_from}
use Rattle.cif_form.proofs.Scanning.{found}

pub space_is_blank : IsBlank 32
space_is_blank = (
  (λ h. omega arith),
  (λ h. omega arith),
  (λ h. omega arith),
  (λ h. omega arith),
  (λ h. omega arith),
  (λ h. omega arith),
)

one_space : Blanks (32 ∷ [])
one_space = All-cons IsBlank 32 [] space_is_blank (All-nil IsBlank)

not_late : (b : ℕ) (rest : List ℕ) → ¬ IsBlank b → (offset : ℕ) → ¬ IsLateEnd (b ∷ rest) offset
not_late b rest n offset h = by_front h.before refl
  where
    by_front : (front : List ℕ) → h.before ≡ front → ⊥
    by_front [] e = let a = h.late in let c = h.counted in let k = ap length e in omega arith
    by_front (a ∷ front) e =
        let s : b ∷ rest ≡ a ∷ (front ++ (69 ∷ h.after)) = h.split ∙ ap (λ t. t ++ (69 ∷ h.after)) e in
        let k : b ≡ a = cc in
        n (subst IsBlank (sym k) (All-head IsBlank a front (subst Blanks e h.blanks)))

upper_no_blank : (b : ℕ) → 65 ≤ b → b ≤ 90 → ¬ IsBlank b
upper_no_blank b h k n = n.1 (h, k)

no_command : (text : List ℕ) → command_from text ≡ None → ¬ IsReadable text
no_command text e (c, size, rest, r) = let k = sym e ∙ found text c size rest r in
    absurd (let l : None ≡ Some (c, r.blanks ++ (59 ∷ rest)) = k in cc)

-- blanks before the only `E`
pub late_end : FileScans (codes " E") [] (Broken C1 1)
late_end =
    inl (
      1,
      record {
        before = 32 ∷ [];
        after = [];
        split = refl;
        blanks = one_space;
        late = omega arith;
        counted = refl;
      },
      refl,
      refl,
    )

-- a semicolon after `E`
pub more_text : FileScans (codes "E;") [] (Broken C5 1)
more_text =
    inr (
      not_late 69 (codes ";") (upper_no_blank 69 (lit≤ tt) (lit≤ tt)),
      Scans.more [] [] 59 (All-nil IsBlank)
          (λ h. h.5 refl),
    )

-- no `E` at all
pub short_text : FileScans (codes ";") [] (Broken C2 1)
short_text = inr (not_late 59 [] (λ h. h.5 refl), Scans.nothing Scans.short)

-- a box of three numbers
pub short_box : FileScans (codes "B 1 2 3;E") [] (Broken C1 0)
short_box =
    let n = upper_no_blank 66 (lit≤ tt) (lit≤ tt) in
    inr (
      not_late 66 (codes " 1 2 3;E") n,
      Scans.unread 66 n (λ e. omega arith) (λ e. omega arith)
          (no_command (codes "B 1 2 3;E") refl),
    )

finish_read : (rest : List ℕ) → IsReadAs (codes "DF;" ++ rest) Finish 3 rest
finish_read rest = record {
  spelled = codes "DF";
  blanks = [];
  split = refl;
  spells = (68 ∷ [], 70 ∷ [], refl, refl, ([], 70 ∷ [], refl, All-nil IsBlank, refl));
  are_blanks = All-nil IsBlank;
  user = λ d w e. refl;
  counted = refl;
}

-- a definition's finish with no start
pub no_start : FileScans (codes "DF;E") [] (Broken C4 0)
no_start =
    inr (
      not_late 68 (codes "F;E") (upper_no_blank 68 (lit≤ tt) (lit≤ tt)),
      Scans.nested Finish 3 (codes "E") (finish_read (codes "E")) (λ h. nothing_big h) refl,
    )
  where
    nothing_big : HasBig Finish → ⊥
    nothing_big h = grind arith

-- the text of a user command goes up to its semicolon
pub user_text : Reads 0 (codes "1 a ;E") (record { offset = 0; command = User 1 (codes " a ") } ∷ [])
user_text =
    Reads.command [] (codes "1 a ") (codes ";") (User 1 (codes " a ")) refl (All-nil IsBlank)
    (refl, lit≤ tt, no_semicolon) (59 ∷ [], [], refl, refl, All-nil IsBlank)
    (Reads.finish refl (All-nil IsBlank))
  where
    no_semicolon : All (λ b. b ≢ 59) (codes " a ")
    no_semicolon = All-cons (λ b. b ≢ 59) 32 (codes "a ") (λ e. omega arith)
        (All-cons (λ b. b ≢ 59) 97 (codes " ") (λ e. omega arith)
        (All-cons (λ b. b ≢ 59) 32 [] (λ e. omega arith) (All-nil (λ b. b ≢ 59))))
