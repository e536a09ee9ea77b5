-- What a writer writes is read as the same commands.
use Rattle.std.proofs.Common.{ℕ, suc, ◌≡◌, ◌+◌, ◌<◌, ◌^◌, inl, inr, refl, sym, subst, arith, List, [], ◌∷◌, ◌++◌}
use Rattle.std.proofs.Common.{length, All, Bool, true, false, ◌&&◌, ap}
use Rattle.std.specs.Prelude.{ℤ, pos, negsuc, codes, decimal, if◌then◌else◌}
use Rattle.std.specs.Fmt.{signed_decimal}
use Rattle.std.proofs.lemmas.Int.{ints}
use Rattle.std.proofs.lemmas.List.{append-nil}
use Rattle.std.proofs.lemmas.List.Elements.{All-nil, All-cons, All-head, All-tail}
use Rattle.std.proofs.lemmas.Fmt.{decimal_is_IsNumeral}
use Rattle.lam_geom.specs.declared.place.Point.{Point}
use Rattle.cif_form.specs.declared.command.Turn.{Turn}
use Rattle.cif_form.specs.declared.command.Turn.TheVariants.{Move, MirrorX, MirrorY, Rotate}
use Rattle.cif_form.specs.declared.command.Command.{Command}
use Rattle.cif_form.specs.declared.command.Command.TheVariants.{Polygon, Box, Round, Wire, Layer, Start, Finish, Delete}
use Rattle.cif_form.specs.declared.command.Command.TheVariants.{Call, User, Comment}
use Rattle.cif_form.specs.declared.command.Item.{Item}
use Rattle.cif_form.specs.Text.{Byte, ◌▹◌, IsBlank, IsSeparator, Blanks, Separators, Separator, Digits, Integer, Signed}
use Rattle.cif_form.specs.Text.{SignedDigits, PointText, Path, Turns, Either, right, Spells, After, Reads}
use Rattle.cif_form.specs.Text.Reads.{finish, command}
use Rattle.cif_form.specs.Fits.{IsSmall, Fits, point_numbers, turn_numbers}
use Rattle.cif_form.specs.Writing.{written, text_of, placed_items, point_text, path_text, turns_text, is_number}
use Rattle.cif_form.specs.Writing.{direction_text, space}
use Rattle.std.specs.List.{flat_map}
use Rattle.cif_form.proofs.Examples.{space_is_blank}
use Rattle.cif_form.proofs.Fitting.{IsUnsigned}
use Rattle.std.proofs.lemmas.Bool.{and_parts}
use Rattle.cif_form.proofs.Reading.{no_blanks_before}

one_blank : Blanks space
one_blank = All-cons IsBlank 32 [] space_is_blank (All-nil IsBlank)

one_separator : Separators space
one_separator = All-cons IsSeparator 32 [] (inr space_is_blank) (All-nil IsSeparator)

is_separator : Separator space
is_separator = (32, refl, inr space_is_blank)

-- ---- numbers

decimal_digits : (n : ℕ) → n < 2 ^ 31 → Digits n (decimal n)
decimal_digits n h = let d = decimal_is_IsNumeral n (omega arith) in (d.0, d.1)

integer_after : (seps : List ℕ) → Separators seps → (z : ℤ) → IsUnsigned z → Integer z (seps ++ signed_decimal z)
integer_after seps s (pos n) h = (seps, decimal n, refl, s, (n, refl, decimal_digits n h.1))
integer_after seps s (negsuc n) h = let p = h.0 in absurd (omega (arith, ints))

integer : (z : ℤ) → IsUnsigned z → Integer z (signed_decimal z)
integer z h = integer_after [] (All-nil IsSeparator) z h

spaced_integer : (z : ℤ) → IsUnsigned z → Integer z (space ++ signed_decimal z)
spaced_integer z h = integer_after space one_separator z h

pub signed_digits : (z : ℤ) → IsSmall z → SignedDigits z (signed_decimal z)
signed_digits (pos n) h = (n, inl (refl, decimal_digits n h))
signed_digits (negsuc n) h = (suc n, inr (refl, (45 ∷ [], decimal (suc n), refl, refl, decimal_digits (suc n) h)))

signed : (z : ℤ) → IsSmall z → Signed z (signed_decimal z)
signed z h = ([], signed_decimal z, refl, All-nil IsSeparator, signed_digits z h)

spaced_signed : (z : ℤ) → IsSmall z → Signed z (space ++ signed_decimal z)
spaced_signed z h = (space, signed_decimal z, refl, one_separator, signed_digits z h)

-- ---- points, paths and turns

abbrev SmallPoint : Point → Type 0
SmallPoint p = IsSmall p.x × IsSmall p.y

point : (p : Point) → SmallPoint p → PointText p (point_text p)
point p h = (
  signed_decimal p.x,
  space
      ++ signed_decimal p.y,
  refl,
  signed p.x h.0,
  (space, signed_decimal p.y, refl, is_separator, signed p.y h.1),
)

spaced_point : (p : Point) → SmallPoint p → PointText p (space ++ point_text p)
spaced_point p h = (
  space ++ signed_decimal p.x,
  space
      ++ signed_decimal p.y,
  refl,
  spaced_signed p.x h.0,
  (space, signed_decimal p.y, refl, is_separator, signed p.y h.1),
)

abbrev SmallNumbers : List ℤ → Type 0
SmallNumbers zs = All IsSmall zs

-- the first point of a list of numbers, and the others
first_point : (p : Point) (zs : List ℤ) → SmallNumbers (p.x ∷ p.y ∷ zs) → SmallPoint p
first_point p zs h = (All-head IsSmall p.x (p.y ∷ zs) h, All-head IsSmall p.y zs (All-tail IsSmall p.x (p.y ∷ zs) h))

other_points : (p : Point) (zs : List ℤ) → SmallNumbers (p.x ∷ p.y ∷ zs) → SmallNumbers zs
other_points p zs h = All-tail IsSmall p.y zs (All-tail IsSmall p.x (p.y ∷ zs) h)

-- a path whose first point has this text
path_from : (p : Point) (ps : List Point) (text : List ℕ) → PointText p text → SmallNumbers (flat_map point_numbers ps)
    → Path (p ∷ ps) (text ++ path_text ps)
path_from p [] text t h = subst (PointText p) (sym (append-nil text)) t
path_from p (q ∷ ps) text t h = (
  text,
  space ++ (point_text q ++ path_text ps),
  refl,
  t,
  (
    space,
    point_text q ++ path_text ps,
    refl,
    is_separator,
    path_from q ps (point_text q) (point q (first_point q (flat_map point_numbers ps) h))
        (other_points q (flat_map point_numbers ps) h),
  ),
)

-- the text of a path begins with a space, as a number may and the separator before it must
spaced_path : (ps : List Point) → 0 < length ps → SmallNumbers (flat_map point_numbers ps) → Path ps (path_text ps)
spaced_path [] k h = absurd (omega arith)
spaced_path (p ∷ ps) k h =
    path_from p ps (space ++ point_text p) (spaced_point p (first_point p (flat_map point_numbers ps) h))
    (other_points p (flat_map point_numbers ps) h)

separated_path : (ps : List Point) → 0 < length ps → SmallNumbers (flat_map point_numbers ps)
    → (Separator ▹ Path ps) (path_text ps)
separated_path [] k h = absurd (omega arith)
separated_path (p ∷ ps) k h = (
  space,
  point_text p ++ path_text ps,
  refl,
  is_separator,
  path_from p ps (point_text p) (point p (first_point p (flat_map point_numbers ps) h))
      (other_points p (flat_map point_numbers ps) h),
)

turns : (ts : List Turn) → SmallNumbers (flat_map turn_numbers ts) → Turns ts (turns_text ts)
turns [] h = refl
turns (Move p ∷ ts) h = (
  space,
  84 ∷ ((space ++ point_text p) ++ turns_text ts),
  refl,
  one_blank,
  (
    84 ∷ (space ++ point_text p),
    turns_text ts,
    refl,
    (84 ∷ [], space ++ point_text p, refl, refl, spaced_point p (first_point p (flat_map turn_numbers ts) h)),
    turns ts (other_points p (flat_map turn_numbers ts) h),
  ),
)
turns (Rotate p ∷ ts) h = (
  space,
  82 ∷ ((space ++ point_text p) ++ turns_text ts),
  refl,
  one_blank,
  (
    82 ∷ (space ++ point_text p),
    turns_text ts,
    refl,
    (82 ∷ [], space ++ point_text p, refl, refl, spaced_point p (first_point p (flat_map turn_numbers ts) h)),
    turns ts (other_points p (flat_map turn_numbers ts) h),
  ),
)
turns (MirrorX ∷ ts) h = (
  space,
  codes "M X"
      ++ turns_text ts,
  refl,
  one_blank,
  (
    codes "M X",
    turns_text ts,
    refl,
    (77 ∷ [], codes " X", refl, refl, (space, 88 ∷ [], refl, one_blank, refl)),
    turns
        ts h,
  ),
)
turns (MirrorY ∷ ts) h = (
  space,
  codes "M Y"
      ++ turns_text ts,
  refl,
  one_blank,
  (
    codes "M Y",
    turns_text ts,
    refl,
    (77 ∷ [], codes " Y", refl, refl, (space, 89 ∷ [], refl, one_blank, refl)),
    turns
        ts h,
  ),
)

-- ---- commands

is_one : (z : ℤ) (n : ℕ) → is_number z n ≡ true → z ≡ pos n
is_one (pos m) n h = let e : m ≡ n = grind arith in ap pos e
is_one (negsuc m) n h = cc

direction_either : (d : Point) → SmallPoint d → (b : Bool) → (b ≡ true → d ≡ right)
    → Either (d ≡ right) (Separator ▹ PointText d) (if b then [] else space ++ point_text d)
direction_either d h true e = inl (e refl, refl)
direction_either d h false e = inr (space, point_text d, refl, is_separator, point d h)

direction : (d : Point) → SmallPoint d → Either (d ≡ right) (Separator ▹ PointText d) (direction_text d)
direction d h = direction_either d h (is_number d.x 1 && is_number d.y 0)
    (λ e. let b = and_parts (is_number d.x 1) (is_number d.y 0) e in
    let ex = is_one d.x 1 b.0 in
    let ey = is_one d.y 0 b.1 in
    λ i. record { x = ex i; y = ey i })

-- each command that fits is spelled by its text
pub fits_spelled : (c : Command) → Fits c → Spells c (text_of c)
fits_spelled (Polygon ps) f = (80 ∷ [], path_text ps, refl, refl, spaced_path ps f.formed f.signed)
fits_spelled (Box long wide c d) f =
    let hl = All-head IsUnsigned long (wide ∷ []) f.unsigned in
    let hw = All-head IsUnsigned wide [] (All-tail IsUnsigned long (wide ∷ []) f.unsigned) in
    let hc = first_point c (d.x ∷ d.y ∷ []) f.signed in
    let hd = first_point d [] (other_points c (d.x ∷ d.y ∷ []) f.signed) in (
      66 ∷ [],
      (space ++ signed_decimal long)
          ++ (space ++ (signed_decimal wide ++ (space ++ (point_text c ++ direction_text d)))),
      refl,
      refl,
      (
        space ++ signed_decimal long,
        space ++ (signed_decimal wide ++ (space ++ (point_text c ++ direction_text d))),
        refl,
        spaced_integer long hl,
        (
          space,
          signed_decimal wide ++ (space ++ (point_text c ++ direction_text d)),
          refl,
          is_separator,
          (
            signed_decimal wide,
            space ++ (point_text c ++ direction_text d),
            refl,
            integer wide hw,
            (
              space,
              point_text c
                  ++ direction_text d,
              refl,
              is_separator,
              (point_text c, direction_text d, refl, point c hc, direction d hd),
            ),
          ),
        ),
      ),
    )
fits_spelled (Round d c) f = (
  82 ∷ [],
  (space ++ signed_decimal d) ++ (space ++ point_text c),
  refl,
  refl,
  (
    space ++ signed_decimal d,
    space ++ point_text c,
    refl,
    spaced_integer d (All-head IsUnsigned d [] f.unsigned),
    (space, point_text c, refl, is_separator, point c (first_point c [] f.signed)),
  ),
)
fits_spelled (Wire w ps) f = (
  87 ∷ [],
  (space ++ signed_decimal w) ++ path_text ps,
  refl,
  refl,
  (
    space ++ signed_decimal w,
    path_text ps,
    refl,
    spaced_integer w
        (All-head IsUnsigned w [] f.unsigned),
    separated_path ps f.formed f.signed,
  ),
)
fits_spelled (Layer name) f = (76 ∷ [], space ++ name, refl, refl, (space, name, refl, one_blank, (refl, f.formed)))
fits_spelled (Start n a b) f =
    let hn = All-head IsUnsigned n (a ∷ b ∷ []) f.unsigned in
    let rest = All-tail IsUnsigned n (a ∷ b ∷ []) f.unsigned in
    let ha = All-head IsUnsigned a (b ∷ []) rest in
    let hb = All-head IsUnsigned b [] (All-tail IsUnsigned a (b ∷ []) rest) in (
      68 ∷ [],
      83 ∷ ((space ++ signed_decimal n) ++ (space ++ (signed_decimal a ++ (space ++ signed_decimal b)))),
      refl,
      refl,
      (
        [],
        83 ∷ ((space ++ signed_decimal n) ++ (space ++ (signed_decimal a ++ (space ++ signed_decimal b)))),
        refl,
        All-nil IsBlank,
        (
          83 ∷ [],
          (space ++ signed_decimal n) ++ (space ++ (signed_decimal a ++ (space ++ signed_decimal b))),
          refl,
          refl,
          (
            space ++ signed_decimal n,
            space ++ (signed_decimal a ++ (space ++ signed_decimal b)),
            refl,
            spaced_integer n hn,
            inr (
              space,
              signed_decimal a ++ (space ++ signed_decimal b),
              refl,
              is_separator,
              (
                signed_decimal a,
                space
                    ++ signed_decimal b,
                refl,
                integer a ha,
                (space, signed_decimal b, refl, is_separator, integer b hb),
              ),
            ),
          ),
        ),
      ),
    )
fits_spelled Finish f = (68 ∷ [], 70 ∷ [], refl, refl, ([], 70 ∷ [], refl, All-nil IsBlank, refl))
fits_spelled (Delete n) f = (
  68 ∷ [],
  68 ∷ (space ++ signed_decimal n),
  refl,
  refl,
  (
    [],
    68 ∷ (space ++ signed_decimal n),
    refl,
    All-nil IsBlank,
    (68 ∷ [], space ++ signed_decimal n, refl, refl, spaced_integer n (All-head IsUnsigned n [] f.unsigned)),
  ),
)
fits_spelled (Call n ts) f = (
  67 ∷ [],
  (space ++ signed_decimal n) ++ turns_text ts,
  refl,
  refl,
  (
    space ++ signed_decimal n,
    turns_text ts,
    refl,
    spaced_integer n
        (All-head IsUnsigned n [] f.unsigned),
    turns ts f.signed,
  ),
)
fits_spelled (User digit words) f = (refl, f.formed.0, f.formed.1)
fits_spelled (Comment words) f = (refl, f.formed)

-- ---- files

after : (c : Command) (semi : List ℕ) → (Byte 59 ▹ Blanks) semi → After c semi
after (User d w) semi h = h
after (Polygon ps) semi h = no_blanks_before semi h
after (Box a b c d) semi h = no_blanks_before semi h
after (Round a b) semi h = no_blanks_before semi h
after (Wire a b) semi h = no_blanks_before semi h
after (Layer n) semi h = no_blanks_before semi h
after (Start n a b) semi h = no_blanks_before semi h
after Finish semi h = no_blanks_before semi h
after (Delete n) semi h = no_blanks_before semi h
after (Call n ts) semi h = no_blanks_before semi h
after (Comment t) semi h = no_blanks_before semi h

-- What is written is read as the same commands, at the offsets where they were written.
pub written_reads : (semi last : List ℕ) → (Byte 59 ▹ Blanks) semi → Blanks last → (cs : List Command) → All Fits cs
    → (offset : ℕ)
    → Reads offset (written semi last cs) (placed_items semi offset cs)
written_reads semi last h k [] a offset = finish refl k
written_reads semi last h k (c ∷ cs) a offset =
    let items : List Item = placed_items semi (offset + (length (text_of c) + length semi)) cs in
    let next = written_reads semi last h k cs (All-tail Fits c cs a) (offset + (length (text_of c) + length semi)) in
    let e : offset + (length (text_of c) + length semi) ≡ offset + (0 + (length (text_of c) + length semi)) =
    omega arith in
    let f : offset + 0 ≡ offset = omega arith in
    let r = command {offset = offset} {text = written semi last (c ∷ cs)} {items = items} [] (text_of c) semi c refl
    (All-nil IsBlank)
    (fits_spelled c (All-head Fits c cs a)) (after c semi h)
    (subst (λ n. Reads n (written semi last cs) items) e next) in
    subst (λ n. Reads offset (written semi last (c ∷ cs)) (record { offset = n; command = c } ∷ items)) f r
