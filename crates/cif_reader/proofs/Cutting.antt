-- Commands with their numbers cut: they fit where the numbers weren't too big.
use Rattle.std.proofs.Common.{◌≡◌, ℕ, zero, suc, ◌^◌, ◌<◌, ◌≤◌, ◌⊎◌, inl, inr, min, map, List, [], ◌∷◌, ◌++◌, refl, sym}
use Rattle.std.proofs.Common.{ap, subst, arith, All}
use Rattle.std.specs.Prelude.{ℤ, pos, negsuc, neg_ℤ, nat_abs, Any}
use Rattle.std.proofs.lemmas.Bool.{cases_lt}
use Rattle.std.proofs.lemmas.List.Elements.{All-nil, All-cons, All-head, All-tail, All-append, All-get_or}
use Rattle.std.specs.List.{flat_map}
use Rattle.lam_geom.specs.declared.place.Point.{Point}
use Rattle.cif_form.specs.declared.command.Turn.{Turn}
use Rattle.cif_form.specs.declared.command.Turn.TheVariants.{Move, MirrorX, MirrorY, Rotate}
use Rattle.cif_form.specs.declared.command.Command.{Command}
use Rattle.cif_form.specs.declared.command.Command.TheVariants.{Polygon, Box, Round, Wire, Layer, Start, Finish, Delete}
use Rattle.cif_form.specs.declared.command.Command.TheVariants.{Call, User, Comment}
use Rattle.cif_form.specs.Fits.{IsSmall, point_numbers, turn_numbers, unsigned_numbers, signed_numbers, Fits}
use Rattle.cif_form.specs.Scans.{HasBig}
use Rattle.cif_form.proofs.Fitting.{head, tail, front_part, back_part, IsUnsigned}
use Rattle.cif_reader.specs.Capped.{cut, cut_number, cut_point, cut_turn, cut_command}

-- ---- numbers

size_of_minus : (n : ℕ) → nat_abs (neg_ℤ (pos n)) ≡ n
size_of_minus zero = refl
size_of_minus (suc n) = refl

cut_small : (z : ℤ) → IsSmall z → cut_number z ≡ z
cut_small (pos n) h = let e : min n 2147483648 ≡ n = omega (arith, h) in ap (λ n. pos n) e
cut_small (negsuc n) h = let e : min (suc n) 2147483648 ≡ suc n = omega (arith, h) in ap (λ n. neg_ℤ (pos n)) e

was_small : (z : ℤ) → IsSmall (cut_number z) → IsSmall z
was_small (pos n) h = omega (arith, h)
was_small (negsuc n) h = omega (arith, h, size_of_minus (cut (suc n)))

all_were_small : (zs : List ℤ) → All IsSmall (map cut_number zs) → All IsSmall zs
all_were_small [] h = All-nil IsSmall
all_were_small (z ∷ zs) h =
    All-cons IsSmall z zs (was_small z (All-head IsSmall (cut_number z) (map cut_number zs) h))
    (all_were_small zs (All-tail IsSmall (cut_number z) (map cut_number zs) h))

abbrev pub IsBig : ℤ → Type 0
IsBig z = ¬ IsSmall z

big_later : (z : ℤ) (zs : List ℤ) → Any IsBig zs → Any IsBig (z ∷ zs)
big_later z zs (k, x, l, e, h) = (suc k, x, omega (arith, l), e, h)

pub small_or_big : (zs : List ℤ) → All IsSmall zs ⊎ Any IsBig zs
small_or_big [] = inl (All-nil IsSmall)
small_or_big (z ∷ zs) = at (cases_lt (nat_abs z) (2 ^ 31)) (small_or_big zs)
  where
    at : (nat_abs z < 2 ^ 31) ⊎ (2 ^ 31 ≤ nat_abs z) → All IsSmall zs ⊎ Any IsBig zs
        → All IsSmall (z ∷ zs) ⊎ Any IsBig (z ∷ zs)
    at (inr h) r = inr (0, z, omega arith, refl, (λ k. omega (arith, h, k)))
    at (inl h) (inl r) = inl (All-cons IsSmall z zs h r)
    at (inl h) (inr r) = inr (big_later z zs r)

pub none_is_big : (zs : List ℤ) → All IsSmall zs → Any IsBig zs → ⊥
none_is_big zs h (k, x, l, e, b) = b (subst IsSmall e (All-get_or IsSmall zs k x l h))

-- ---- the numbers of a command

path_cut : (ps : List Point) → flat_map point_numbers (map cut_point ps) ≡ map cut_number (flat_map point_numbers ps)
path_cut [] = refl
path_cut (p ∷ ps) = ap (λ t. cut_number p.x ∷ cut_number p.y ∷ t) (path_cut ps)

turns_cut : (ts : List Turn) → flat_map turn_numbers (map cut_turn ts) ≡ map cut_number (flat_map turn_numbers ts)
turns_cut [] = refl
turns_cut (Move p ∷ ts) = ap (λ t. cut_number p.x ∷ cut_number p.y ∷ t) (turns_cut ts)
turns_cut (MirrorX ∷ ts) = turns_cut ts
turns_cut (MirrorY ∷ ts) = turns_cut ts
turns_cut (Rotate p ∷ ts) = ap (λ t. cut_number p.x ∷ cut_number p.y ∷ t) (turns_cut ts)

unsigned_cut : (c : Command) → unsigned_numbers (cut_command c) ≡ map cut_number (unsigned_numbers c)
unsigned_cut (Polygon ps) = refl
unsigned_cut (Box a b c d) = refl
unsigned_cut (Round d c) = refl
unsigned_cut (Wire w ps) = refl
unsigned_cut (Layer name) = refl
unsigned_cut (Start n a b) = refl
unsigned_cut Finish = refl
unsigned_cut (Delete n) = refl
unsigned_cut (Call n ts) = refl
unsigned_cut (User d words) = refl
unsigned_cut (Comment words) = refl

signed_cut : (c : Command) → signed_numbers (cut_command c) ≡ map cut_number (signed_numbers c)
signed_cut (Polygon ps) = path_cut ps
signed_cut (Box a b c d) = refl
signed_cut (Round d c) = refl
signed_cut (Wire w ps) = path_cut ps
signed_cut (Layer name) = refl
signed_cut (Start n a b) = refl
signed_cut Finish = refl
signed_cut (Delete n) = refl
signed_cut (Call n ts) = turns_cut ts
signed_cut (User d words) = refl
signed_cut (Comment words) = refl

-- ---- a cut command is the command, if its numbers are small

point_same : (p : Point) → IsSmall p.x → IsSmall p.y → cut_point p ≡ p
point_same p h k = λ i. record { x = cut_small p.x h i; y = cut_small p.y k i }

front_point : (p : Point) (zs : List ℤ) → All IsSmall (p.x ∷ p.y ∷ zs) → cut_point p ≡ p
front_point p zs h = point_same p (head p.x (p.y ∷ zs) h) (head p.y zs (tail p.x (p.y ∷ zs) h))

behind_point : (p : Point) (zs : List ℤ) → All IsSmall (p.x ∷ p.y ∷ zs) → All IsSmall zs
behind_point p zs h = tail p.y zs (tail p.x (p.y ∷ zs) h)

path_same : (ps : List Point) → All IsSmall (flat_map point_numbers ps) → map cut_point ps ≡ ps
path_same [] h = refl
path_same (p ∷ ps) h = let zs = flat_map point_numbers ps in
    λ i. front_point p zs h i ∷ path_same ps (behind_point p zs h) i

turns_same : (ts : List Turn) → All IsSmall (flat_map turn_numbers ts) → map cut_turn ts ≡ ts
turns_same [] h = refl
turns_same (Move p ∷ ts) h = let zs = flat_map turn_numbers ts in
    λ i. Move (front_point p zs h i) ∷ turns_same ts (behind_point p zs h) i
turns_same (MirrorX ∷ ts) h = ap (λ t. MirrorX ∷ t) (turns_same ts h)
turns_same (MirrorY ∷ ts) h = ap (λ t. MirrorY ∷ t) (turns_same ts h)
turns_same (Rotate p ∷ ts) h = let zs = flat_map turn_numbers ts in
    λ i. Rotate (front_point p zs h i) ∷ turns_same ts (behind_point p zs h) i

command_same : (c : Command) → All IsSmall (unsigned_numbers c) → All IsSmall (signed_numbers c) → cut_command c ≡ c
command_same (Polygon ps) h k = ap (λ t. Polygon t) (path_same ps k)
command_same (Box a b c d) h k =
    let e = cut_small a (head a (b ∷ []) h) in
    let f = cut_small b (head b [] (tail a (b ∷ []) h)) in
    let g = front_point c (d.x ∷ d.y ∷ []) k in
    let l = front_point d [] (behind_point c (d.x ∷ d.y ∷ []) k) in
    λ i. Box (e i) (f i) (g i) (l i)
command_same (Round d c) h k = let e = cut_small d (head d [] h) in let f = front_point c [] k in λ i. Round (e i) (f i)
command_same (Wire w ps) h k = let e = cut_small w (head w [] h) in let f = path_same ps k in λ i. Wire (e i) (f i)
command_same (Layer name) h k = refl
command_same (Start n a b) h k =
    let e = cut_small n (head n (a ∷ b ∷ []) h) in
    let r = tail n (a ∷ b ∷ []) h in
    let f = cut_small a (head a (b ∷ []) r) in
    let g = cut_small b (head b [] (tail a (b ∷ []) r)) in
    λ i. Start (e i) (f i) (g i)
command_same Finish h k = refl
command_same (Delete n) h k = let e = cut_small n (head n [] h) in ap (λ n. Delete n) e
command_same (Call n ts) h k = let e = cut_small n (head n [] h) in let f = turns_same ts k in λ i. Call (e i) (f i)
command_same (User d words) h k = refl
command_same (Comment words) h k = refl

-- ---- what fits

small_of_unsigned : (zs : List ℤ) → All IsUnsigned zs → All IsSmall zs
small_of_unsigned [] h = All-nil IsSmall
small_of_unsigned (z ∷ zs) h =
    All-cons IsSmall z zs (All-head IsUnsigned z zs h).1 (small_of_unsigned zs (All-tail IsUnsigned z zs h))

-- a command that was read and fits with its numbers cut, is that command, without a big number
pub fits_small : (c : Command) → Fits (cut_command c) → ¬ HasBig c × (cut_command c ≡ c)
fits_small c f =
    let u = all_were_small (unsigned_numbers c)
    (subst (All IsSmall) (unsigned_cut c) (small_of_unsigned (unsigned_numbers (cut_command c)) f.unsigned)) in
    let s = all_were_small (signed_numbers c) (subst (All IsSmall) (signed_cut c) f.signed) in (
      (λ b. none_is_big (unsigned_numbers c ++ signed_numbers c)
          (All-append IsSmall (unsigned_numbers c) (signed_numbers c) u s) b),
      command_same c u s,
    )

-- and one that doesn't, has a big number, if a command without fits
pub unfit_big : (c : Command) → (¬ HasBig c → Fits c) → ¬ Fits (cut_command c) → HasBig c
unfit_big c fits no_fit = at (small_or_big (unsigned_numbers c ++ signed_numbers c))
  where
    at : All IsSmall (unsigned_numbers c ++ signed_numbers c) ⊎ Any IsBig (unsigned_numbers c ++ signed_numbers c)
        → HasBig c
    at (inr b) = b
    at (inl a) =
        let u = front_part (unsigned_numbers c) (signed_numbers c) a in
        let s = back_part (unsigned_numbers c) (signed_numbers c) a in
        absurd (no_fit
        (subst Fits (sym (command_same c u s)) (fits (λ b. none_is_big (unsigned_numbers c ++ signed_numbers c) a b))))
