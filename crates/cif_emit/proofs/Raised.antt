-- Calls that raise a symbol, and what they draw.
use Rattle.std.proofs.Common.{zero, suc, ◌≡◌, ◌<◌, ◌≤◌, inl, inr, ◌↔◌, refl, sym, subst}
use Rattle.std.proofs.Common.{arith, lit<, Bool, cond, List, [], ◌∷◌, ◌++◌, map, length, length-append, lit≤}
use Rattle.std.specs.Prelude.{ℤ, pos, neg_ℤ, ◌+ℤ◌, ◌*ℤ◌, ◌≤ℤ◌, nat_abs, int_div, int_rem, Contains}
use Rattle.std.specs.Ordering.{int_eq}
use Rattle.std.specs.List.{flat_map}
use Rattle.std.proofs.lemmas.Bool.{cases_Bool}
use Rattle.std.proofs.lemmas.Bool.Decides.{Decides-int_eq}
use Rattle.std.proofs.lemmas.Int.{ints, quot-rem, rem_below}
use Rattle.std.proofs.lemmas.List.{length-map}
use Rattle.std.proofs.lemmas.List.Elements.{All-nil, All-cons}
use Rattle.mp_base.proofs.Contents.{nothing_in}
use Rattle.lam_geom.specs.declared.layer.Layer.{Layer}
use Rattle.lam_geom.specs.declared.rect.Rect.{Rect}
use Rattle.lam_geom.specs.declared.place.Point.{Point}
use Rattle.lam_geom.specs.Moves.{shifted}
use Rattle.lam_geom.specs.Squares.{Covers, covered, SameSquares}
use Rattle.cif_form.specs.declared.command.Command.TheVariants.{Call}
use Rattle.cif_form.specs.declared.command.Turn.{Turn}
use Rattle.cif_form.specs.declared.command.Turn.TheVariants.{Move, Rotate}
use Rattle.cif_form.specs.Fits.{Fits, IsSmall}
use Rattle.cif_form.specs.Place.{AreMotions, IsScaled, Motion, placed, moved, unit}
use Rattle.cif_form.specs.Place.Motion.{Shift}
use Rattle.slice_symbols.specs.declared.symbols.Symbol.{Symbol}
use Rattle.slice_symbols.specs.Drawn.{drawn_rects, symbol_rects}
use Rattle.slice_symbols.specs.Heights.{raised}
use Rattle.slice_symbols.proofs.Lifting.{raised_by_none}
use Rattle.cif_emit.specs.Emittable.{IsOnLambda}
use Rattle.cif_emit.specs.Commands.{call_at, layers, turns_of}
use Rattle.cif_emit.proofs.Drawn.{covered-append, drawn, drawn_few, drawn_squares}

-- ---- the turn of a call

not_round : (p q : Point) → Contains (Move p ∷ []) (Rotate q) → ⊥
not_round p q (zero, h, e) = let k : Move p ≡ Rotate q = e in cc
not_round p q (suc k, h, e) = omega arith

same_move : (p q : Point) → Contains (Move p ∷ []) (Move q) → p ≡ q
same_move p q (zero, h, e) = let k : Move p ≡ Move q = e in cc
same_move p q (suc k, h, e) = absurd (omega arith)

halved : (z k q m : ℤ) → z ≡ pos 500 *ℤ k → q *ℤ pos 2 +ℤ m ≡ z → nat_abs m < 2 → z ≡ pos 2 *ℤ q
halved z k q m e f h = omega (arith, ints)

pub half_of : (z : ℤ) → IsOnLambda z → z ≡ pos 2 *ℤ int_div z (pos 2)
half_of z h =
    let w = h.whole in
    halved z w.0 (int_div z (pos 2)) (int_rem z (pos 2)) w.1 (quot-rem z (pos 2)) (rem_below z (pos 2) (lit< tt))

half_small : (z q : ℤ) → z ≡ pos 2 *ℤ q → IsSmall z → IsSmall q
half_small z q e s = omega (arith, ints)

-- a call that raises by so much moves by so much
abbrev pub motions : ℤ → List Motion
motions h = cond (int_eq h (pos 0)) [] (Shift (pos 0) h ∷ [])

-- where half of it is
abbrev pub rise : ℤ → Point
rise h = record { x = pos 0; y = int_div h (pos 2) }

-- what is so of no turn, where it isn't raised, and of the move by half of it
pub by_height : (P : List Turn → List Motion → Type 0) (h : ℤ) → (h ≡ pos 0 → P [] [])
    → P (Move (rise h) ∷ []) (Shift (pos 0) h ∷ []) → P (turns_of h) (motions h)
by_height P h none some =
    let Q : Bool → Type 0 = λ b. P (cond b [] (Move (rise h) ∷ [])) (cond b [] (Shift (pos 0) h ∷ [])) in
    elim (cases_Bool (int_eq h (pos 0))) [
      | inl e ↦ subst Q (sym e) (none ((Decides-int_eq h (pos 0)).0 e))
      | inr e ↦ subst Q (sym e) some
    ]

scaled : (w z : ℤ) → z ≡ w → IsScaled unit w z
scaled w z e = (omega (arith, ints), omega (arith, ints))

pub call_moves : (h : ℤ) → IsOnLambda h → AreMotions unit (turns_of h) (motions h)
call_moves h on = by_height (AreMotions unit) h (λ e. refl) (
  Shift (pos 0) h ∷ [],
  [],
  refl,
  (pos 0, h, scaled (pos 2 *ℤ pos 0) (pos 0) refl, scaled (pos 2 *ℤ int_div h (pos 2)) h (half_of h on), refl),
  refl,
)

pub call_fits : (number : ℤ) → (pos 0 ≤ℤ number) × IsSmall number → (h : ℤ) → IsOnLambda h → Fits (call_at number h)
call_fits number ok h on =
    let P : ℤ → Type 0 = λ z. (pos 0 ≤ℤ z) × IsSmall z in
    let unsigned = All-cons P number [] ok (All-nil P) in
    by_height (λ ts ms. Fits (Call number ts)) h
    (λ e. record { unsigned = unsigned; signed = All-nil IsSmall; formed = tt })
    (record {
      unsigned = unsigned;
      signed = All-cons IsSmall (pos 0) (int_div h (pos 2) ∷ []) (lit< tt)
          (All-cons IsSmall (int_div h (pos 2)) [] (half_small h (int_div h (pos 2)) (half_of h on) on.small)
          (All-nil IsSmall));
      formed = tt;
    })

moved_by : (h : ℤ) (r : Rect) → placed (Shift (pos 0) h ∷ []) r ≡ raised h r
unfolding moved shifted
moved_by h r = refl

placed_is : (h : ℤ) (r : Rect) → placed (motions h) r ≡ raised h r
placed_is h r =
    by_height (λ ts ms. placed ms r ≡ raised h r) h (λ e. sym (raised_by_none h r e)) (moved_by h r)

-- no call turns a symbol round
pub no_rotation : (h : ℤ) (q : Point) → Contains (turns_of h) (Rotate q) → ⊥
no_rotation h q =
    by_height (λ ts ms. Contains ts (Rotate q) → ⊥) h (λ e c. nothing_in (Rotate q) c) (λ c. not_round (rise h) q c)

-- the only move is that by half of it
pub one_move : (h : ℤ) (q : Point) → Contains (turns_of h) (Move q) → rise h ≡ q
one_move h q =
    by_height (λ ts ms. Contains ts (Move q) → rise h ≡ q) h (λ e c. absurd (nothing_in (Move q) c))
    (λ c. same_move (rise h) q c)

pub all_placed : (h : ℤ) (rs : List Rect) → map (placed (motions h)) rs ≡ map (raised h) rs
all_placed h [] = refl
all_placed h (r ∷ rs) = λ i. placed_is h r i ∷ all_placed h rs i

pub placed_each : (P : Rect → Type 0) (h : ℤ) (r : Rect) → P (raised h r) → P (placed (motions h) r)
placed_each P h r p = subst P (sym (placed_is h r)) p

-- ---- squares

covers_up : (h : ℤ) (r : Rect) (l : Layer) (x y : ℤ) → Covers (raised h r) l x y ↔ Covers r l x (y +ℤ neg_ℤ h)
unfolding shifted
covers_up h r l x y = (
  λ c. let a = c.left in let b = c.right in let d = c.bottom in let e = c.top in
      record {
        same = c.same;
        left = omega (arith, ints);
        right = omega (arith, ints);
        bottom = omega (arith, ints);
        top = omega (arith, ints);
      },
  λ c. let a = c.left in let b = c.right in let d = c.bottom in let e = c.top in
      record {
        same = c.same;
        left = omega (arith, ints);
        right = omega (arith, ints);
        bottom = omega (arith, ints);
        top = omega (arith, ints);
      },
)

covered_up : (h : ℤ) (rs : List Rect) (l : Layer) (x y : ℤ)
    → covered (map (raised h) rs) l x y ↔ covered rs l x (y +ℤ neg_ℤ h)
covered_up h [] l x y = (λ c. c, λ c. c)
covered_up h (r ∷ rs) l x y =
    let a = covers_up h r l x y in
    let b = covered_up h rs l x y in (
      λ c. elim c [ inl d ↦ inl (a.0 d) | inr d ↦ inr (b.0 d) ],
      λ c. elim c [ inl d ↦ inl (a.1 d) | inr d ↦ inr (b.1 d) ],
    )

-- what the boxes of a symbol draw, at each of its heights
abbrev pub boxes_at : List Rect → List ℤ → List Rect
boxes_at shapes heights = flat_map (λ h. map (raised h) (drawn layers shapes)) heights

-- what the boxes of symbols draw
abbrev pub boxes_of : List Symbol → List Rect
boxes_of symbols = flat_map (λ s. boxes_at s.shapes s.heights) symbols

one_height : (rs : List Rect) (h : ℤ) (l : Layer) (x y : ℤ)
    → covered (map (raised h) rs) l x y ↔ covered (map (raised h) (drawn layers rs)) l x y
one_height rs h l x y =
    let a = covered_up h rs l x y in
    let b = covered_up h (drawn layers rs) l x y in
    let same = drawn_squares rs l x (y +ℤ neg_ℤ h) in (
      λ c. b.1 (same.0 (a.0 c)),
      λ c. a.1 (same.1 (b.0 c)),
    )

-- lists that cover the same squares, each in front of such lists
both_same : (rs bs cs ds : List Rect) → SameSquares (covered rs) (covered bs) → SameSquares (covered cs) (covered ds)
    → SameSquares (covered (rs ++ cs)) (covered (bs ++ ds))
both_same rs bs cs ds f g l x y =
    let a = covered-append rs cs l x y in
    let b = covered-append bs ds l x y in
    let u = f l x y in
    let v = g l x y in (
      λ c. b.1 (elim (a.0 c) [ inl d ↦ inl (u.0 d) | inr d ↦ inr (v.0 d) ]),
      λ c. a.1 (elim (b.0 c) [ inl d ↦ inl (u.1 d) | inr d ↦ inr (v.1 d) ]),
    )

same_heights : (rs : List Rect) (hs : List ℤ)
    → SameSquares (covered (flat_map (λ h. map (raised h) rs) hs)) (covered (boxes_at rs hs))
same_heights rs [] = λ l x y. (λ c. c, λ c. c)
same_heights rs (h ∷ hs) =
    both_same (map (raised h) rs) (map (raised h) (drawn layers rs)) (flat_map (λ h. map (raised h) rs) hs)
    (boxes_at rs hs) (one_height rs h) (same_heights rs hs)

pub same_boxes : (symbols : List Symbol) → SameSquares (covered (drawn_rects symbols)) (covered (boxes_of symbols))
same_boxes [] = λ l x y. (λ c. c, λ c. c)
same_boxes (s ∷ ss) =
    both_same (symbol_rects s) (boxes_at s.shapes s.heights) (drawn_rects ss) (boxes_of ss)
    (same_heights s.shapes s.heights) (same_boxes ss)

-- ---- how many

few_heights : (rs : List Rect) (hs : List ℤ)
    → length (boxes_at rs hs) ≤ length (flat_map (λ h. map (raised h) rs) hs)
few_heights rs [] = lit≤ tt
few_heights rs (h ∷ hs) =
    let a = length-append (map (raised h) rs) (flat_map (λ h. map (raised h) rs) hs) in
    let b = length-append (map (raised h) (drawn layers rs)) (boxes_at rs hs) in
    let c = length-map rs (raised h) in
    let d = length-map (drawn layers rs) (raised h) in
    let e = drawn_few rs in
    let i = few_heights rs hs in
    omega arith

pub few_boxes : (symbols : List Symbol) → length (boxes_of symbols) ≤ length (drawn_rects symbols)
few_boxes [] = lit≤ tt
few_boxes (s ∷ ss) =
    let a = length-append (symbol_rects s) (drawn_rects ss) in
    let b = length-append (boxes_at s.shapes s.heights) (boxes_of ss) in
    let e = few_heights s.shapes s.heights in
    let i = few_boxes ss in
    omega arith
