-- What is read of a file fits, and may stand where it does.
use Rattle.std.proofs.Common.{◌≡◌, ℕ, suc, ◌+◌, ◌<◌, ◌⊎◌, inl, inr, map, List, [], ◌∷◌, ◌++◌, refl, arith, length, All}
use Rattle.std.proofs.Common.{Bool, false, ◌≤◌, ◌^◌}
use Rattle.std.specs.Prelude.{ℤ, pos, ◌≤ℤ◌, nat_abs, Any}
use Rattle.std.proofs.lemmas.Bool.{cases_lt}
use Rattle.std.proofs.lemmas.Int.{ints}
use Rattle.std.proofs.lemmas.List.Elements.{All-nil, All-cons, All-head, All-tail}
use Rattle.lam_geom.specs.declared.place.Point.{Point}
use Rattle.cif_form.specs.declared.command.Command.{Command}
use Rattle.cif_form.specs.declared.command.Command.TheVariants.{Polygon, Box, Round, Wire, Layer, Start, Finish, Delete}
use Rattle.cif_form.specs.declared.command.Command.TheVariants.{Call, User, Comment}
use Rattle.cif_form.specs.declared.command.Item.{Item}
use Rattle.cif_form.specs.Text.{◌▹◌, Separator, Integer, Path, Either, Spells}
use Rattle.cif_form.specs.Fits.{IsSmall, unsigned_numbers, signed_numbers, Fits}
use Rattle.cif_form.specs.Scans.{TextEnd, IsReadAs, HasBig, Scans, FileScans, Nests}
use Rattle.cif_form.specs.Scans.TextEnd.{Whole}

pub head : (z : ℤ) (zs : List ℤ) → All IsSmall (z ∷ zs) → IsSmall z
head z zs h = All-head IsSmall z zs h

pub tail : (z : ℤ) (zs : List ℤ) → All IsSmall (z ∷ zs) → All IsSmall zs
tail z zs h = All-tail IsSmall z zs h

abbrev pub IsUnsigned : ℤ → Type 0
IsUnsigned z = (pos 0 ≤ℤ z) × IsSmall z

pub natural : (z : ℤ) (text : List ℕ) → Integer z text → pos 0 ≤ℤ z
natural z text (seps, ds, e, h, (n, f, d)) = omega (arith, ints, f)

one : (z : ℤ) (zs : List ℤ) (text : List ℕ) → Integer z text → All IsSmall (z ∷ zs) → All IsUnsigned zs
    → All IsUnsigned (z ∷ zs)
one z zs text h k r = All-cons IsUnsigned z zs (natural z text h, head z zs k) r

none : All IsUnsigned []
none = All-nil IsUnsigned

pub some_point : (ps : List Point) (text : List ℕ) → Path ps text → 0 < length ps
some_point [] text h = absurd h
some_point (p ∷ ps) text h = omega arith

scaled : (a b : ℤ) (text : List ℕ)
    → Either ((a ≡ pos 1) × (b ≡ pos 1)) (Separator ▹ Integer a ▹ Separator ▹ Integer b) text → All IsSmall (a ∷ b ∷ [])
    → All IsUnsigned (a ∷ b ∷ [])
scaled a b text (inl ((e, f), n)) k =
    let g : pos 0 ≤ℤ a = omega (arith, ints, e) in
    let h : pos 0 ≤ℤ b = omega (arith, ints, f) in
    All-cons IsUnsigned a (b ∷ []) (g, head a (b ∷ []) k)
    (All-cons IsUnsigned b [] (h, head b [] (tail a (b ∷ []) k)) none)
scaled a b text (inr (sep, more, f, hs, (fa, m2, g, ha, (sep2, fb, k2, h2, hb)))) k =
    one a (b ∷ []) fa ha k (one b [] fb hb (tail a (b ∷ []) k) none)

read_fits : (c : Command) (front : List ℕ) → Spells c front → All IsSmall (unsigned_numbers c)
    → All IsSmall (signed_numbers c) → Fits c
read_fits (Polygon ps) front (byte, back, f, b, h) u s =
    record { unsigned = none; signed = s; formed = some_point ps back h }
read_fits (Box l w c d) front (byte, back, f, b, (fl, m1, e1, hl, (s1, m2, e2, h1, (fw, m3, e3, hw, r)))) u s =
    record { unsigned = one l (w ∷ []) fl hl u (one w [] fw hw (tail l (w ∷ []) u) none); signed = s; formed = tt }
read_fits (Round d c) front (byte, back, f, b, (fd, m, e, hd, r)) u s =
    record { unsigned = one d [] fd hd u none; signed = s; formed = tt }
read_fits (Wire w ps) front (byte, back, f, b, (fw, m, e, hw, (sep, fp, g, hs, hp))) u s =
    record { unsigned = one w [] fw hw u none; signed = s; formed = some_point ps fp hp }
read_fits (Layer name) front (byte, back, f, b, (bs, fn, g, hb, (k, hn))) u s =
    record { unsigned = none; signed = s; formed = hn }
read_fits (Start n a c) front (byte, back, f, b, (bs, m1, g, hb, (s1, m2, e1, h1, (fn, ft, e2, hn, ht)))) u s =
    record { unsigned = one n (a ∷ c ∷ []) fn hn u (scaled a c ft ht (tail n (a ∷ c ∷ []) u)); signed = s; formed = tt }
read_fits Finish front h u s = record { unsigned = none; signed = s; formed = tt }
read_fits (Delete n) front (byte, back, f, b, (bs, m1, g, hb, (s1, fn, e1, h1, hn))) u s =
    record { unsigned = one n [] fn hn u none; signed = s; formed = tt }
read_fits (Call n ts) front (byte, back, f, b, (fn, ft, e, hn, ht)) u s =
    record { unsigned = one n [] fn hn u none; signed = s; formed = tt }
read_fits (User digit words) front (f, h, k) u s = record { unsigned = none; signed = s; formed = (h, k) }
read_fits (Comment words) front (f, h) u s = record { unsigned = none; signed = s; formed = h }

-- the numbers of a list are small, or one is big
pub small : (zs : List ℤ) → ¬ Any (λ z. ¬ IsSmall z) zs → All IsSmall zs
small [] h = All-nil IsSmall
small (z ∷ zs) h =
    at (cases_lt (nat_abs z) (2 ^ 31)) (small zs (λ a. let (k, x, l, e, b) = a in h (suc k, x, omega (arith, l), e, b)))
  where
    at : (nat_abs z < 2 ^ 31) ⊎ (2 ^ 31 ≤ nat_abs z) → All IsSmall zs → All IsSmall (z ∷ zs)
    at (inl k) r = All-cons IsSmall z zs k r
    at (inr k) r = absurd (h (0, z, omega arith, refl, (λ m. omega (arith, k, m))))

pub front_part : (xs ys : List ℤ) → All IsSmall (xs ++ ys) → All IsSmall xs
front_part [] ys h = All-nil IsSmall
front_part (x ∷ xs) ys h = All-cons IsSmall x xs (head x (xs ++ ys) h) (front_part xs ys (tail x (xs ++ ys) h))

pub back_part : (xs ys : List ℤ) → All IsSmall (xs ++ ys) → All IsSmall ys
back_part [] ys h = h
back_part (x ∷ xs) ys h = back_part xs ys (tail x (xs ++ ys) h)

-- A command that is read fits, if none of its numbers is big.
pub command_fits : (text : List ℕ) (c : Command) (size : ℕ) (rest : List ℕ) → IsReadAs text c size rest → ¬ HasBig c
    → Fits c
command_fits text c size rest r h =
    let a = small (unsigned_numbers c ++ signed_numbers c) h in
    read_fits c r.spelled r.spells (front_part (unsigned_numbers c) (signed_numbers c) a)
    (back_part (unsigned_numbers c) (signed_numbers c) a)

abbrev command_of : Item → Command
command_of i = i.command

fit_all : (inside : Bool) (offset : ℕ) (text : List ℕ) (items : List Item) (e : TextEnd)
    → Scans inside offset text items e → e ≡ Whole
    → All Fits (map command_of items) × Nests inside (map command_of items)
fit_all _ _ _ _ _ (Scans.blank {inside = i} {offset = o} {rest = rest} {items = is} {e = e} b h s) w =
    fit_all i (o + 1) rest is e s w
fit_all _ _ _ _ _ (Scans.nothing {inside = i} {offset = o} {rest = rest} {items = is} {e = e} s) w =
    fit_all i (o + 1) rest is e s w
fit_all _ _ _ _ _
    (Scans.command {inside = i} {within = v} {offset = o} {text = text} {rest = rest} {items = is} {e = e} c size r n f
    s) w =
    let (fits, nests) = fit_all v (o + size) rest is e s w in
    (All-cons Fits c (map command_of is) (command_fits text c size rest r n) fits, (v, f, nests))
fit_all _ _ _ _ _ (Scans.end h) w = (All-nil Fits, refl)
fit_all _ _ _ _ _ (Scans.unread b h x y n) w = absurd (cc)
fit_all _ _ _ _ _ Scans.short w = absurd (cc)
fit_all _ _ _ _ _ (Scans.big c size rest r h) w = absurd (cc)
fit_all _ _ _ _ _ (Scans.nested c size rest r n f) w = absurd (cc)
fit_all _ _ _ _ _ Scans.open_end w = absurd (cc)
fit_all _ _ _ _ _ (Scans.more after rest b h n) w = absurd (cc)

-- So it is of the commands of a file that breaks no rule.
pub file_fits : (text : List ℕ) (items : List Item) → FileScans text items Whole
    → All Fits (map command_of items) × Nests false (map command_of items)
file_fits text items (inl (offset, late, none, e)) = absurd (cc)
file_fits text items (inr (never, s)) = fit_all false 0 text items Whole s refl
