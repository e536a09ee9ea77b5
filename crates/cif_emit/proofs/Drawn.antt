-- The rectangles of each layer that cover something: all that covers a square, and no more of them than there are.
use Rattle.std.proofs.Common.{ℕ, ◌≡◌, ◌+◌, ◌≤◌, ◌⊎◌, ◌↔◌, inl, inr, refl, sym, ap, subst}
use Rattle.std.proofs.Common.{arith, Bool, true, false, cond, eqb, ◌&&◌, List, [], ◌∷◌, ◌++◌, length}
use Rattle.std.proofs.Common.{length-append, eq-eqb, lit≤}
use Rattle.std.specs.Prelude.{ℤ, pos, int_lt}
use Rattle.std.specs.List.{flat_map}
use Rattle.std.proofs.lemmas.Bool.{cases_Bool, and_parts}
use Rattle.std.proofs.lemmas.Int.{ints}
use Rattle.lam_geom.specs.declared.layer.Layer.{Layer}
use Rattle.lam_geom.specs.declared.layer.Layer.TheVariants.{ND, NP, NC, NM, NI, NB, NG}
use Rattle.lam_geom.specs.declared.rect.Rect.{Rect}
use Rattle.lam_geom.specs.Squares.{Covers, covered, SameSquares, rank}
use Rattle.lam_geom.proofs.Ranks.{one_layer}
use Rattle.cif_emit.specs.Emittable.{IsSolid}
use Rattle.cif_emit.specs.Commands.{layers, is_on, drawn_on}

pub one_layer_on : (l : Layer) (r : Rect) → is_on l r ≡ true → r.layer ≡ l
one_layer_on l r h = one_layer r.layer l (and_parts (eqb (rank r.layer) (rank l))
    (int_lt r.x0 r.x1 && int_lt r.y0 r.y1) h).0

pub solid_on : (l : Layer) (r : Rect) → is_on l r ≡ true → IsSolid r
solid_on l r h =
    let a = and_parts (eqb (rank r.layer) (rank l)) (int_lt r.x0 r.x1 && int_lt r.y0 r.y1) h in
    let b = and_parts (int_lt r.x0 r.x1) (int_lt r.y0 r.y1) a.1 in
    let b0 = b.0 in let b1 = b.1 in
    record { wide = grind (arith, ints); high = grind (arith, ints) }

pub on_layer : (l : Layer) (r : Rect) → r.layer ≡ l → IsSolid r → is_on l r ≡ true
on_layer l r e s =
    let a : eqb (rank r.layer) (rank l) ≡ true = eq-eqb (rank r.layer) (rank l) (ap rank e) in
    let w = s.wide in let h = s.high in
    let b : int_lt r.x0 r.x1 ≡ true = grind (arith, ints) in
    let c : int_lt r.y0 r.y1 ≡ true = grind (arith, ints) in
    rw (a, b, c)

-- what an index past the end of a list of rectangles gives
abbrev pub no_rect : Rect
no_rect = record { layer = ND; x0 = pos 0; y0 = pos 0; x1 = pos 0; y1 = pos 0 }

-- ---- squares

-- a rectangle that covers a square covers something
solid : (r : Rect) (l : Layer) (x y : ℤ) → Covers r l x y → IsSolid r
solid r l x y c = let a = c.left in let b = c.right in let d = c.bottom in let e = c.top in
    record { wide = omega (arith, ints); high = omega (arith, ints) }

pub covered-append : (rs qs : List Rect) (l : Layer) (x y : ℤ)
    → covered (rs ++ qs) l x y ↔ (covered rs l x y ⊎ covered qs l x y)
covered-append [] qs l x y = (λ c. inr c, λ c. elim c [ inl e ↦ absurd e | inr q ↦ q ])
covered-append (r ∷ rs) qs l x y = let i = covered-append rs qs l x y in (
  λ c. elim c [ inl a ↦ inl (inl a) | inr b ↦ elim (i.0 b) [ inl d ↦ inl (inr d) | inr q ↦ inr q ] ],
  λ c. elim c [ inl a ↦ elim a [ inl d ↦ inl d | inr b ↦ inr (i.1 (inl b)) ] | inr q ↦ inr (i.1 (inr q)) ],
)

drawn_less : (k : Layer) (rs : List Rect) (l : Layer) (x y : ℤ) → covered (drawn_on k rs) l x y → covered rs l x y
drawn_less k [] l x y c = c
drawn_less k (r ∷ rs) l x y c =
    elim (cases_Bool (is_on k r)) [
      | inl e ↦ (let d : covered (r ∷ drawn_on k rs) l x y = subst
          (λ b. covered (cond b (r ∷ drawn_on k rs) (drawn_on k rs)) l x y) e c in
          elim d [ inl a ↦ inl a | inr b ↦ inr (drawn_less k rs l x y b) ])
      | inr e ↦ inr (drawn_less k rs l x y (subst (λ b. covered (cond b (r ∷ drawn_on k rs) (drawn_on k rs)) l x y) e
          c))
    ]

drawn_same : (rs : List Rect) (l : Layer) (x y : ℤ) → covered rs l x y → covered (drawn_on l rs) l x y
drawn_same [] l x y c = c
drawn_same (r ∷ rs) l x y (inl c) =
    subst (λ b. covered (cond b (r ∷ drawn_on l rs) (drawn_on l rs)) l x y)
    (sym (on_layer l r c.same (solid r l x y c))) (inl c)
drawn_same (r ∷ rs) l x y (inr c) =
    let i = drawn_same rs l x y c in
    elim (cases_Bool (is_on l r)) [
      | inl e ↦ subst (λ b. covered (cond b (r ∷ drawn_on l rs) (drawn_on l rs)) l x y) (sym e) (inr i)
      | inr e ↦ subst (λ b. covered (cond b (r ∷ drawn_on l rs) (drawn_on l rs)) l x y) (sym e) i
    ]

-- what the boxes draw, on these layers
abbrev pub drawn : List Layer → List Rect → List Rect
drawn ls rects = flat_map (λ l. drawn_on l rects) ls

any_less : (ls : List Layer) (rs : List Rect) (l : Layer) (x y : ℤ) → covered (drawn ls rs) l x y → covered rs l x y
any_less [] rs l x y c = absurd c
any_less (k ∷ ks) rs l x y c =
    elim ((covered-append (drawn_on k rs) (drawn ks rs) l x y).0 c) [
      | inl a ↦ drawn_less k rs l x y a
      | inr b ↦ any_less ks rs l x y b
    ]

-- the layer is one of these
abbrev Among : Layer → List Layer → Type 0
Among l [] = ⊥
Among l (k ∷ ks) = (k ≡ l) ⊎ Among l ks

any_same : (ls : List Layer) (rs : List Rect) (l : Layer) (x y : ℤ) → Among l ls → covered rs l x y
    → covered (drawn ls rs) l x y
any_same [] rs l x y m c = absurd m
any_same (k ∷ ks) rs l x y (inl e) c =
    (covered-append (drawn_on k rs) (drawn ks rs) l x y).1
    (inl (subst (λ m. covered (drawn_on m rs) l x y) (sym e) (drawn_same rs l x y c)))
any_same (k ∷ ks) rs l x y (inr m) c =
    (covered-append (drawn_on k rs) (drawn ks rs) l x y).1 (inr (any_same ks rs l x y m c))

among_layers : (l : Layer) → Among l layers
among_layers ND = inl refl
among_layers NP = inr (inl refl)
among_layers NC = inr (inr (inl refl))
among_layers NM = inr (inr (inr (inl refl)))
among_layers NI = inr (inr (inr (inr (inl refl))))
among_layers NB = inr (inr (inr (inr (inr (inl refl)))))
among_layers NG = inr (inr (inr (inr (inr (inr (inl refl))))))

pub drawn_squares : (rs : List Rect) → SameSquares (covered rs) (covered (drawn layers rs))
drawn_squares rs l x y = (any_same layers rs l x y (among_layers l), any_less layers rs l x y)

-- ---- how many

-- how many rectangles of the list are drawn on these layers
abbrev count : List Layer → List Rect → ℕ
count [] rs = 0
count (l ∷ ls) rs = length (drawn_on l rs) + count ls rs

length_drawn : (ls : List Layer) (rs : List Rect) → length (drawn ls rs) ≡ count ls rs
length_drawn [] rs = refl
length_drawn (l ∷ ls) rs = let i = length_drawn ls rs in omega (arith, length-append {A = Rect})

-- how many of these layers a rectangle of that layer is drawn on, if it covers something or not
abbrev times : List Layer → Layer → Bool → ℕ
times [] m covers = 0
times (l ∷ ls) m covers = cond (eqb (rank m) (rank l) && covers) 1 0 + times ls m covers

once : (m : Layer) (covers : Bool) → times layers m covers ≤ 1
once ND true = lit≤ tt
once NP true = lit≤ tt
once NC true = lit≤ tt
once NM true = lit≤ tt
once NI true = lit≤ tt
once NB true = lit≤ tt
once NG true = lit≤ tt
once ND false = lit≤ tt
once NP false = lit≤ tt
once NC false = lit≤ tt
once NM false = lit≤ tt
once NI false = lit≤ tt
once NB false = lit≤ tt
once NG false = lit≤ tt

one_more : (b : Bool) (r : Rect) (rs : List Rect) → length (cond b (r ∷ rs) rs) ≡ cond b 1 0 + length rs
one_more true r rs = omega arith
one_more false r rs = omega arith

count_more : (ls : List Layer) (r : Rect) (rs : List Rect)
    → count ls (r ∷ rs) ≡ times ls r.layer (int_lt r.x0 r.x1 && int_lt r.y0 r.y1) + count ls rs
count_more [] r rs = omega arith
count_more (l ∷ ls) r rs =
    let a = one_more (is_on l r) r (drawn_on l rs) in
    let i = count_more ls r rs in
    omega arith

few_count : (rs : List Rect) → count layers rs ≤ length rs
few_count [] = lit≤ tt
few_count (r ∷ rs) =
    let a = count_more layers r rs in
    let b = once r.layer (int_lt r.x0 r.x1 && int_lt r.y0 r.y1) in
    let i = few_count rs in
    omega arith

pub drawn_few : (rs : List Rect) → length (drawn layers rs) ≤ length rs
drawn_few rs = let a = length_drawn layers rs in let b = few_count rs in omega arith
