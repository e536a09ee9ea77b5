-- Rectangles and bands have symbols.
use Rattle.std.proofs.Common.{ℕ, zero, suc, ◌≡◌, ◌+◌, ◌*◌, ◌<◌, ◌≤◌, ◌⊎◌, inl, inr, refl, sym, ◌∙◌, ap, subst, arith}
use Rattle.std.proofs.Common.{List, [], ◌∷◌, ◌++◌, length, get_or, Some}
use Rattle.std.specs.Prelude.{All, ℤ, pos, neg_ℤ, ◌+ℤ◌, ◌≤ℤ◌, slice_get}
use Rattle.std.specs.List.Sorted.{IsStrictlySortedBy}
use Rattle.std.specs.declared.cmp.Ordering.{Ordering}
use Rattle.std.specs.declared.cmp.Ordering.TheVariants.{Equal, Greater, Less}
use Rattle.std.proofs.lemmas.Bool.{cases_lt}
use Rattle.std.proofs.lemmas.Cmp.{tied_itself}
use Rattle.std.proofs.lemmas.Int.{by_lt_z, ints}
use Rattle.std.proofs.lemmas.Option.{get_or_from_slice_get, slice_get-get_or, slice_get_within}
use Rattle.lam_geom.specs.declared.rect.Rect.{Rect}
use Rattle.lam_geom.specs.Moves.{IsNear, IsNearRect, shifted}
use Rattle.slice_symbols.specs.declared.bands.Bands.{Bands}
use Rattle.slice_symbols.specs.declared.standing.Standing.{Standing}
use Rattle.slice_symbols.specs.Heights.{IsShift, StandsIn, height_of, raised}
use Rattle.slice_symbols.specs.Ordered.{rect_cmp}
use Rattle.slice_symbols.specs.Standing.{AreParted, AreStood, IsOfBand, own, standing_cmp}
use Rattle.slice_symbols.specs.Drawn.{SymbolsExist, symbols_of_both}
use Rattle.slice_symbols.proofs.Banded.{stood_in_first}
use Rattle.slice_symbols.proofs.Drawn.{drawn_by_both}
use Rattle.slice_symbols.proofs.Lifting.{no_rect}
use Rattle.slice_symbols.proofs.Orders.{rect_total, same_rect, same_standing, standing_total}
use Rattle.slice_symbols.proofs.Parted.{ArePartedTo, all_parted, in_band, none_parted, one_parted, rest_parted}
use Rattle.slice_symbols.proofs.Puts.{put_in_order}
use Rattle.slice_symbols.proofs.Sharing.{are_shared, shared_out, stood_in_order}
use Rattle.slice_symbols.proofs.Stood.{AreStoodTo, all_stood, none_stood, one_stood, rest_stood}

-- ---- what is so of a number below another is found

below_or_none : (P : ℕ → Type 0) → ((k : ℕ) → P k ⊎ ¬ P k) → (n : ℕ)
    → ((k : ℕ) × (k < n) × P k) ⊎ ((k : ℕ) → k < n → ¬ P k)
below_or_none P decide zero = inr (λ k l. absurd (omega (arith, l)))
below_or_none P decide (suc n) = elim (below_or_none P decide n) [
  | inl f ↦ inl (f.0, (let l = f.1 in omega (arith, l)), f.2)
  | inr never ↦ elim (decide n) [
    | inl p ↦ inl (n, omega arith, p)
    | inr q ↦ inr (λ k l p. elim (cases_lt k n) [
      | inl less ↦ never k less p
      | inr more ↦ (let e : k ≡ n = omega (arith, l, more) in q (subst P e p))
    ])
  ]
]

all_or_not : (P : ℕ → Type 0) → ((k : ℕ) → P k ⊎ ¬ P k) → (n : ℕ)
    → ((k : ℕ) → k < n → P k) ⊎ ¬ ((k : ℕ) → k < n → P k)
all_or_not P decide zero = inl (λ k l. absurd (omega (arith, l)))
all_or_not P decide (suc n) = elim (all_or_not P decide n) [
  | inr never ↦ inr (λ all. never (λ k l. all k (omega (arith, l))))
  | inl all_before ↦ elim (decide n) [
    | inr q ↦ inr (λ all. q (all n (omega arith)))
    | inl p ↦ inl (λ k l. elim (cases_lt k n) [
      | inl less ↦ all_before k less
      | inr more ↦ (let e : n ≡ k = omega (arith, l, more) in subst P e p)
    ])
  ]
]

-- ---- rectangles that stand in bands

module _ (b : Bands) where
  stands_or_not : (r : Rect) (k : ℕ) → StandsIn b k r ⊎ ¬ StandsIn b k r
  stands_or_not r k =
      let from : ℤ = b.low +ℤ height_of b k in
      let end : ℤ = b.low +ℤ height_of b (k + 1) in
      by_lt_z r.y0 from (λ l. inr (λ s. (let t = s.bottom in omega (arith, ints, l, t))))
      (λ bottom. by_lt_z r.y0 end (λ below. by_lt_z end r.y1 (λ l. inr (λ s. (let t = s.top in
      omega (arith, ints, l, t)))) (λ top. inl (record { bottom = bottom; below = below; top = top })))
      (λ l. inr (λ s. (let t = s.below in omega (arith, ints, l, t)))))

  shift : (low y h : ℤ) (n : ℕ) → IsNear low → IsNear y → IsNear h → (low +ℤ pos n) ≤ℤ h → IsShift (y +ℤ neg_ℤ (pos n))
  shift low y h n near at top l = (omega (arith, ints), omega (arith, ints))

  raised_again : (k : ℕ) (r : Rect) → raised (height_of b k) (raised (neg_ℤ (height_of b k)) r) ≡ r
  unfolding shifted
  raised_again k r =
      let n : ℕ = k * b.height in
      let x0 : (r.x0 +ℤ pos 0) +ℤ pos 0 ≡ r.x0 = omega (arith, ints) in
      let y0 : (r.y0 +ℤ neg_ℤ (pos n)) +ℤ pos n ≡ r.y0 = omega (arith, ints) in
      let x1 : (r.x1 +ℤ pos 0) +ℤ pos 0 ≡ r.x1 = omega (arith, ints) in
      let y1 : (r.y1 +ℤ neg_ℤ (pos n)) +ℤ pos n ≡ r.y1 = omega (arith, ints) in
      λ i. record { layer = r.layer; x0 = x0 i; y0 = y0 i; x1 = x1 i; y1 = y1 i }

  -- the standing one of a rectangle in that band
  lowered_from : (k : ℕ) (r : Rect) → Standing
  lowered_from k r = record { first = raised (neg_ℤ (height_of b k)) r; band = k }

  own_again : (k : ℕ) (r : Rect) → own b (lowered_from k r) ≡ r
  unfolding lowered_from
  own_again k r = raised_again k r

  is_of_band : (k : ℕ) (r : Rect) → IsNear b.low → IsNearRect r → k < b.count → StandsIn b k r
      → IsOfBand b (lowered_from k r)
  unfolding lowered_from shifted
  is_of_band k r low near less s = record {
    band = less;
    bottom = shift b.low r.y0 r.y0 (k * b.height) low near.y0 near.y0 s.bottom;
    top = shift b.low r.y1 r.y0 (k * b.height) low near.y1 near.y0 s.bottom;
    first = stood_in_first b (raised (neg_ℤ (height_of b k)) r) k
        (subst (StandsIn b k) (sym (raised_again k r)) s);
  }

module _ (rects : List Rect) (b : Bands) (low : IsNear b.low) (near : All IsNearRect rects) where
  stood_so_far : (i : ℕ) → i ≤ length rects → (standing : List Standing) × (rest : List Rect)
      × AreStoodTo rects b i standing rest
  stood_so_far zero h = ([], [], none_stood rects b [] [] refl refl)
  stood_so_far (suc i) h =
      let within : i < length rects = omega (arith, h) in
      let far = stood_so_far i (omega (arith, h)) in
      let r : Rect = get_or rects i no_rect in
      let e : i + 1 ≡ suc i = omega arith in
      elim (below_or_none (λ k. StandsIn b k r) (stands_or_not b r) b.count) [
        | inl f ↦ (
            let s : Standing = lowered_from b f.0 r in (
              far.0 ++ s ∷ [],
              far.1,
              subst (λ n. AreStoodTo rects b n (far.0 ++ s ∷ []) far.1) e
                  (one_stood rects b i far.0 far.1 no_rect within far.2 s (far.0 ++ s ∷ []) refl
                  (is_of_band b f.0 r low (near i no_rect within) f.1 f.2) (own_again b f.0 r)),
            ))
        | inr none ↦ ((
          far.0,
          far.1 ++ r ∷ [],
          subst (λ n. AreStoodTo rects b n far.0 (far.1 ++ r ∷ [])) e
              (rest_stood rects b i far.0 far.1 no_rect within far.2 (far.1 ++ r ∷ []) refl none),
        ))
      ]

  all_stand : (standing : List Standing) × (rest : List Rect) × AreStood rects b standing rest
  all_stand =
      let far = stood_so_far (length rects) (omega arith) in
      (far.0, far.1, all_stood rects b (length rects) far.0 far.1 (omega arith) far.2)

-- ---- standing rectangles that are parted

one_or_other : (s t : Standing) → (s ≡ t) ⊎ ¬ (s ≡ t)
one_or_other s t = by (standing_cmp s t) refl
  where
    itself : s ≡ t → standing_cmp s t ≡ Equal
    itself e = subst (λ u. standing_cmp s u ≡ Equal) e (tied_itself standing_total s)

    by : (o : Ordering) → standing_cmp s t ≡ o → (s ≡ t) ⊎ ¬ (s ≡ t)
    by Less e = inr (λ f. (let g : Less ≡ Equal = sym e ∙ itself f in cc))
    by Equal e = inl (same_standing s t e)
    by Greater e = inr (λ f. (let g : Greater ≡ Equal = sym e ∙ itself f in cc))

module _ (b : Bands) (standing : List Standing) (some : 1 ≤ b.count)
    (ascending : IsStrictlySortedBy standing_cmp standing) (of_bands : All (IsOfBand b) standing) (before : List Rect)
  where
    stands_there : (i : ℕ) (s : Standing) → (slice_get standing i ≡ Some s) ⊎ ¬ (slice_get standing i ≡ Some s)
    stands_there i s = elim (cases_lt i (length standing)) [
      | inr past ↦ inr (λ e. (let l = slice_get_within standing i s e in omega (arith, past, l)))
      | inl within ↦ elim (one_or_other (get_or standing i s) s) [
        | inl e ↦ inl (slice_get-get_or standing i s within ∙ ap (λ (t : Standing). Some t) e)
        | inr never ↦ inr (λ e. never (get_or_from_slice_get standing i s s e))
      ]
    ]

    parted_from : (left at : ℕ) (common rest : List Rect) → length standing ≤ at + left
        → ArePartedTo b standing before at common rest
        → (commons : List Rect) × (rests : List Rect) × AreParted b standing before commons rests
    parted_from zero at common rest h far =
        (common, rest, all_parted b standing before at common rest (omega (arith, h)) far)
    parted_from (suc left) at common rest h far = elim (cases_lt at (length standing)) [
      | inr past ↦ (common, rest, all_parted b standing before at common rest past far)
      | inl within ↦ (
          let none : Standing = in_band no_rect 0 in
          let s : Standing = get_or standing at none in
          elim (all_or_not (λ k. slice_get standing (at + k) ≡ Some (in_band s.first k))
          (λ k. stands_there (at + k) (in_band s.first k)) b.count) [
            | inl alike ↦ parted_from left (at + b.count) (common ++ s.first ∷ []) rest (omega (arith, h, some))
                (one_parted b standing before some ascending at common rest far s.first (common ++ s.first ∷ []) refl
                alike)
            | inr differ ↦ parted_from left (at + 1) common (rest ++ own b s ∷ []) (omega (arith, h))
                (rest_parted b standing before some ascending at common rest far s (rest ++ own b s ∷ [])
                (slice_get-get_or standing at none within) (of_bands at none within).band differ refl)
          ])
    ]

    all_part : (commons : List Rect) × (rests : List Rect) × AreParted b standing before commons rests
    all_part = parted_from (length standing) 0 [] before (omega arith) (none_parted b standing before [] refl)

pub symbols_exist : SymbolsExist
symbols_exist rects b usable some near =
    let stand = all_stand rects b usable.low near in
    let line = put_in_order standing_cmp standing_total same_standing stand.0 in
    let stood = stood_in_order rects b stand.0 line.0 stand.1 line.1 stand.2 in
    let part = all_part b line.0 some (line.1).ascending stood.of_bands stand.1 in
    let once = put_in_order rect_cmp rect_total same_rect part.1 in (
      symbols_of_both b part.0 once.0,
      drawn_by_both rects b part.0 once.0 some usable.few
          (shared_out rects b some line.0 stand.1 stood part.0 part.1 part.2 once.0 once.1)
          (are_shared rects b some line.0 stand.1 stood part.0 part.1 part.2 once.0 once.1),
    )
