-- Commands that are read are well formed.
use Rattle.std.proofs.Common.{ℕ, ◌≡◌, ◌+◌, inl, inr, refl, arith, List, [], ◌∷◌, ◌++◌, All, Bool, false, Some}
use Rattle.std.specs.Prelude.{ℤ, pos, ◌≤ℤ◌}
use Rattle.std.proofs.lemmas.Int.{ints}
use Rattle.std.proofs.lemmas.List.Elements.{All-nil, All-cons}
use Rattle.cif_form.specs.declared.command.Command.{Command}
use Rattle.cif_form.specs.declared.command.Command.TheVariants.{Polygon, Box, Round, Wire, Layer as SetLayer, Start}
use Rattle.cif_form.specs.declared.command.Command.TheVariants.{Finish, Delete, Call, User, Comment}
use Rattle.cif_form.specs.declared.command.Item.{Item}
use Rattle.cif_form.specs.Text.{Spells}
use Rattle.cif_form.specs.Fits.{Fits, IsFormed, unsigned_numbers, signed_numbers}
use Rattle.cif_form.specs.Scans.{TextEnd, HasBig, opens, Scans, FileScans}
use Rattle.cif_form.specs.Scans.TextEnd.{Whole, Broken}
use Rattle.cif_form.proofs.Fitting.{small, front_part, back_part, natural, some_point}
use Rattle.cif_flat.specs.Sound.{AreClosed, IsWellFormed}

-- ---- numbers

-- ---- commands

-- what is not said of size
record IsSpelled (c : Command) : Type 0 where
  positive : All (λ z. pos 0 ≤ℤ z) (unsigned_numbers c)
  formed : IsFormed c

abbrev Positive : ℤ → Type 0
Positive z = pos 0 ≤ℤ z

spelled : (c : Command) (text : List ℕ) → Spells c text → IsSpelled c
spelled (Polygon path) text (f, r, e, b, p) = record { positive = All-nil Positive; formed = some_point path r p }
spelled (Box long wide center direction) text (f, r, e, b, (f2, r2, e2, l, (f3, r3, e3, s3, (f4, r4, e4, w, more)))) =
    record {
      positive = All-cons Positive long (wide ∷ []) (natural long f2 l)
          (All-cons Positive wide [] (natural wide f4 w) (All-nil Positive));
      formed = tt;
    }
spelled (Round diameter center) text (f, r, e, b, (f2, r2, e2, d, more)) =
    record { positive = All-cons Positive diameter [] (natural diameter f2 d) (All-nil Positive); formed = tt }
spelled (Wire wide path) text (f, r, e, b, (f2, r2, e2, w, (f3, r3, e3, s3, p))) =
    record {
      positive = All-cons Positive wide [] (natural wide f2 w) (All-nil Positive);
      formed = some_point path r3 p;
    }
spelled (SetLayer name) text (f, r, e, b, (f2, r2, e2, s, n)) = record { positive = All-nil Positive; formed = n.1 }
spelled (Start number a b) text (f, r, e, c, (f2, r2, e2, s2, (f3, r3, e3, s3, (f4, r4, e4, n, inl (one, nothing))))) =
    record {
      positive = All-cons Positive number (a ∷ b ∷ []) (natural number f4 n)
          (All-cons Positive a (b ∷ []) (omega (arith, ints, one.0))
          (All-cons Positive b [] (omega (arith, ints, one.1)) (All-nil Positive)));
      formed = tt;
    }
spelled (Start number a b) text (
  f,
  r,
  e,
  c,
  (
    f2,
    r2,
    e2,
    s2,
    (
      f3,
      r3,
      e3,
      s3,
      (
        f4,
        r4,
        e4,
        n,
        inr (
          f5,
          r5,
          e5,
          s5,
          (f6, r6, e6, ia, (f7, r7, e7, s7, ib)),
        ),
      ),
    ),
  ),
) = record {
  positive = All-cons Positive number (a ∷ b ∷ []) (natural number f4 n)
      (All-cons Positive a (b ∷ []) (natural a f6 ia) (All-cons Positive b [] (natural b r7 ib) (All-nil Positive)));
  formed = tt;
}
spelled Finish text h = record { positive = All-nil Positive; formed = tt }
spelled (Delete number) text (f, r, e, c, (f2, r2, e2, s2, (f3, r3, e3, s3, n))) =
    record { positive = All-cons Positive number [] (natural number r3 n) (All-nil Positive); formed = tt }
spelled (Call number turns) text (f, r, e, c, (f2, r2, e2, n, more)) =
    record { positive = All-cons Positive number [] (natural number f2 n) (All-nil Positive); formed = tt }
spelled (User digit words) text h = record { positive = All-nil Positive; formed = (h.1, h.2) }
spelled (Comment words) text h = record { positive = All-nil Positive; formed = h.1 }

fits_read : (c : Command) (text : List ℕ) → Spells c text → ¬ HasBig c → Fits c
fits_read c text s n =
    let h = spelled c text s in
    let a = small (unsigned_numbers c ++ signed_numbers c) n in
    record {
      unsigned = λ k d l. (h.positive k d l, front_part (unsigned_numbers c) (signed_numbers c) a k d l);
      signed = back_part (unsigned_numbers c) (signed_numbers c) a;
      formed = h.formed;
    }

-- ---- files

-- what a reading that ends so gives
abbrev Gives : TextEnd → Bool → List Item → Type 0
Gives Whole inside items = All (λ i. Fits i.command) items × AreClosed inside items
Gives (Broken rule offset) inside items = Unit {0}

command_gives : (e : TextEnd) (inside within : Bool) (i : Item) (is : List Item) → Fits i.command
    → opens inside i.command ≡ Some within → Gives e within is → Gives e inside (i ∷ is)
command_gives Whole inside within i is f o g = (All-cons (λ i. Fits i.command) i is f g.0, (within, o, g.1))
command_gives (Broken r k) inside within i is f o g = tt

scan_gives : (inside : Bool) (offset : ℕ) (text : List ℕ) (items : List Item) (e : TextEnd)
    → Scans inside offset text items e → Gives e inside items
scan_gives inside offset _ items e (Scans.blank {rest = rest} b h s) = scan_gives inside (offset + 1) rest items e s
scan_gives inside offset _ items e (Scans.nothing {rest = rest} s) = scan_gives inside (offset + 1) rest items e s
scan_gives inside offset text _ e (Scans.command {within = within} {rest = rest} {items = is} c size r n o s) =
    command_gives e inside within (record { offset = offset; command = c }) is (fits_read c r.spelled r.spells n) o
    (scan_gives within (offset + size) rest is e s)
scan_gives _ offset _ _ _ (Scans.end h) = (All-nil (λ i. Fits i.command), refl)
scan_gives inside offset _ _ _ (Scans.unread b h k l m) = tt
scan_gives inside offset _ _ _ Scans.short = tt
scan_gives inside offset text _ _ (Scans.big c size rest r b) = tt
scan_gives inside offset text _ _ (Scans.nested c size rest r n o) = tt
scan_gives _ offset _ _ _ Scans.open_end = tt
scan_gives _ offset _ _ _ (Scans.more after rest b h k) = tt

pub well_formed : (text : List ℕ) (items : List Item) → FileScans text items Whole → IsWellFormed items
well_formed text items (inl (o, h, i, e)) = absurd (let f : Whole ≡ Broken _ o = e in cc)
well_formed text items (inr h) = let g = scan_gives false 0 text items Whole h.1 in record { fit = g.0; closed = g.1 }
