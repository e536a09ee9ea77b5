-- Standing rectangles that are put to what is common or to the rest, one place after another.
use Rattle.std.proofs.Common.{ℕ, zero, suc, ◌≡◌, ◌+◌, ◌*◌, ◌<◌, ◌≤◌, ◌-◌, ◌⊎◌, inl, inr, refl, sym, ap, subst, arith}
use Rattle.std.proofs.Common.{◌∙◌, List, [], ◌∷◌, ◌++◌, length, length-append, get_or, Some}
use Rattle.std.specs.Prelude.{Contains, slice_get}
use Rattle.std.specs.List.Sorted.{IsStrictlySortedBy}
use Rattle.std.specs.declared.cmp.Ordering.TheVariants.{Less}
use Rattle.std.proofs.lemmas.Bool.{cases_lt}
use Rattle.std.proofs.lemmas.Option.{get_or_from_slice_get, slice_get-get_or, slice_get_read, slice_get_within}
use Rattle.std.proofs.lemmas.List.Elements.{Contains-append_cases, Contains-append_left, Contains-push}
use Rattle.std.proofs.lemmas.Map.Keys.{Less-from_sorted}
use Rattle.mp_base.proofs.Contents.{nothing_in, only_one}
use Rattle.lam_geom.specs.declared.rect.Rect.{Rect}
use Rattle.slice_symbols.specs.declared.bands.Bands.{Bands}
use Rattle.slice_symbols.specs.declared.standing.Standing.{Standing}
use Rattle.slice_symbols.specs.Ordered.{rect_cmp}
use Rattle.slice_symbols.specs.Standing.{AreAlike, AreParted, IsWhole, own, standing_cmp}
use Rattle.slice_symbols.proofs.InOrder.{not_below, one_way, sorted_more}
use Rattle.slice_symbols.proofs.Orders.{below_next, none_between, rect_below, rect_total, same_rect, same_standing}
use Rattle.slice_symbols.proofs.Orders.{standing_total}

-- the rectangle, in that band
abbrev pub in_band : Rect → ℕ → Standing
in_band c k = record { first = c; band = k }

-- ---- places in a list

module _ (standing : List Standing) where
  pub placed_at : (s : Standing) → Contains standing s → (i : ℕ) × (slice_get standing i ≡ Some s)
  placed_at s (i, l, e) = (i, slice_get_read standing (length standing) i s refl l (sym e))

  pub held_at : (i : ℕ) (s : Standing) → slice_get standing i ≡ Some s → Contains standing s
  held_at i s e = (i, slice_get_within standing i s e, get_or_from_slice_get standing i s s e)

  one_there : (i : ℕ) (s t : Standing) → slice_get standing i ≡ Some s → slice_get standing i ≡ Some t → s ≡ t
  one_there i s t e f = sym (get_or_from_slice_get standing i s s e) ∙ get_or_from_slice_get standing i t s f

  module _ (ascending : IsStrictlySortedBy standing_cmp standing) where
    below_at : (i j : ℕ) (s t : Standing) → slice_get standing i ≡ Some s → slice_get standing j ≡ Some t → i < j
        → standing_cmp s t ≡ Less
    below_at i j s t e f l =
        subst (λ z. standing_cmp z t ≡ Less) (get_or_from_slice_get standing i s s e)
        (subst (λ z. standing_cmp (get_or standing i s) z ≡ Less) (get_or_from_slice_get standing j t s f)
        (Less-from_sorted standing_cmp standing i j s ascending l (slice_get_within standing j t f)))

    one_place : (i j : ℕ) (s : Standing) → slice_get standing i ≡ Some s → slice_get standing j ≡ Some s → i ≡ j
    one_place i j s e f = elim (cases_lt i j) [
      | inl l ↦ absurd (itself (below_at i j s s e f l))
      | inr m ↦ elim (cases_lt j i) [ inl l ↦ absurd (itself (below_at j i s s f e l)) | inr l ↦ omega (arith, l, m) ]
    ]
      where
        itself : standing_cmp s s ≡ Less → ⊥
        itself h = not_below standing_cmp standing_total same_standing s h

    before_at : (i j : ℕ) (s t : Standing) → slice_get standing i ≡ Some s → slice_get standing j ≡ Some t
        → standing_cmp s t ≡ Less → i < j
    before_at i j s t e f h = elim (cases_lt i j) [
      | inl l ↦ l
      | inr m ↦ elim (cases_lt j i) [
        | inl l ↦ absurd (one_way standing_cmp standing_total same_standing s t h (below_at j i t s f e l))
        | inr l ↦ absurd (not_below standing_cmp standing_total same_standing s (subst (λ z. standing_cmp s z ≡ Less)
            (one_there j t s f (subst (λ k. slice_get standing k ≡ Some s) (equal i j l m) e)) h))
      ]
    ]
      where
        equal : (n m : ℕ) → n ≤ m → m ≤ n → n ≡ m
        equal n m l g = omega (arith, l, g)

    next_there : (c : Rect) (k i : ℕ) → slice_get standing i ≡ Some (in_band c k)
        → Contains standing (in_band c (k + 1)) → slice_get standing (i + 1) ≡ Some (in_band c (k + 1))
    next_there c k i here has =
        let f = placed_at (in_band c (k + 1)) has in
        let l : i < f.0 = before_at i f.0 (in_band c k) (in_band c (k + 1)) here f.1 (below_next c k) in
        elim (cases_lt (i + 1) f.0) [
          | inl more ↦ (
              let t : Standing = get_or standing (i + 1) (in_band c k) in
              let w = slice_get_within standing f.0 (in_band c (k + 1)) f.1 in
              let there : slice_get standing (i + 1) ≡ Some t =
              slice_get-get_or standing (i + 1) (in_band c k) (omega (arith, more, w)) in
              absurd (none_between c k t (below_at i (i + 1) (in_band c k) t here there (omega arith))
              (below_at (i + 1) f.0 t (in_band c (k + 1)) there f.1 more)))
          | inr less ↦ (
              let e : f.0 ≡ i + 1 = omega (arith, l, less) in
              subst (λ j. slice_get standing j ≡ Some (in_band c (k + 1))) e f.1)
        ]

    -- what stands in each band stands there from its first place on
    pub alike_from : (c : Rect) (i count : ℕ) → slice_get standing i ≡ Some (in_band c 0)
        → ((k : ℕ) → k < count → Contains standing (in_band c k)) → AreAlike standing i count c
    alike_from c i count here has = there
      where
        P : ℕ → Type 0
        P k = slice_get standing (i + k) ≡ Some (in_band c k)

        more : (k : ℕ) → k + 1 < count → slice_get standing (i + k) ≡ Some (in_band c k)
            → slice_get standing (i + (k + 1)) ≡ Some (in_band c (k + 1))
        more k h p =
            let e : (i + k) + 1 ≡ i + (k + 1) = omega arith in
            subst (λ j. slice_get standing j ≡ Some (in_band c (k + 1))) e (next_there c k (i + k) p (has (k + 1) h))

        there : (k : ℕ) → k < count → slice_get standing (i + k) ≡ Some (in_band c k)
        there zero h = let e : i ≡ i + 0 = omega arith in subst (λ j. slice_get standing j ≡ Some (in_band c 0)) e here
        there (suc k) h =
            let e : k + 1 ≡ suc k = omega arith in
            subst (λ n. slice_get standing (i + n) ≡ Some (in_band c n)) e
            (more k (omega (arith, h)) (there k (omega (arith, h))))

-- ---- the loop

-- what is so of the places before `at`, where there was a rest before
pub record ArePartedTo (b : Bands) (standing : List Standing) (before : List Rect) (at : ℕ) (common rest : List Rect) :
    Type 0 where
  pub within : at ≤ length standing
  pub passed : (p : ℕ) (c : Rect) → p < at → AreAlike standing p b.count c → p + b.count ≤ at
  pub ascending : IsStrictlySortedBy rect_cmp common
  pub whole : (c : Rect) → Contains common c → IsWhole b standing c
  pub behind : (c : Rect) → Contains common c → (p : ℕ) × (p < at) × (slice_get standing p ≡ Some (in_band c 0))
  pub kept : (r : Rect) → Contains before r → Contains rest r
  pub placed : (p : ℕ) (s : Standing) → p < at → slice_get standing p ≡ Some s
      → Contains common s.first ⊎ Contains rest (own b s)
  pub origin : (r : Rect) → Contains rest r
      → Contains before r ⊎ ((s : Standing) × Contains standing s × (¬ IsWhole b standing s.first) × (own b s ≡ r))
  pub counted : length rest + b.count * length common ≡ length before + at

times_more : (n m : ℕ) → n * (m + 1) ≡ n * m + n
times_more n m = grind arith

module _ (b : Bands) (standing : List Standing) (before : List Rect) where
  nothing_parted : ArePartedTo b standing before 0 [] before
  unfolding IsStrictlySortedBy
  nothing_parted = record {
    within = omega arith;
    passed = λ p c l a. absurd (omega (arith, l));
    ascending = tt;
    whole = λ c has. absurd (nothing_in c has);
    behind = λ c has. absurd (nothing_in c has);
    kept = λ r has. has;
    placed = λ p s l e. absurd (omega (arith, l));
    origin = λ r has. inl has;
    counted = omega arith;
  }

  pub none_parted : (common : List Rect) → common ≡ [] → ArePartedTo b standing before 0 common before
  none_parted common e = subst (λ cs. ArePartedTo b standing before 0 cs before) (sym e) nothing_parted

  module _ (some : 1 ≤ b.count) (ascending : IsStrictlySortedBy standing_cmp standing) (at : ℕ)
      (common rest : List Rect) (far : ArePartedTo b standing before at common rest)
    where
      first_of : (p : ℕ) (c : Rect) → AreAlike standing p b.count c → slice_get standing p ≡ Some (in_band c 0)
      first_of p c alike =
          let e : p + 0 ≡ p = omega arith in
          subst (λ j. slice_get standing j ≡ Some (in_band c 0)) e (alike 0 (omega (arith, some)))

      -- where those of all bands stand from this place on, there are as many
      past : (first : Rect) → AreAlike standing at b.count first → at + b.count ≤ length standing
      past first alike =
          let l = slice_get_within standing (at + (b.count - 1)) (in_band first (b.count - 1))
          (alike (b.count - 1) (omega (arith, some))) in
          omega (arith, l, some)

      -- one more of the rest
      pub rest_parted : (s : Standing) (new : List Rect) → slice_get standing at ≡ Some s → s.band < b.count
          → ¬ AreAlike standing at b.count s.first → new ≡ rest ++ own b s ∷ []
          → ArePartedTo b standing before (at + 1) common new
      rest_parted s new here small differ e =
          let n = far.counted in
          let w = slice_get_within standing at s here in
          subst (λ rs. ArePartedTo b standing before (at + 1) common rs) (sym e) (record {
            within = omega (arith, w);
            passed = λ p c l alike. elim (cases_lt p at) [
              | inl less ↦ (let m = far.passed p c less alike in omega (arith, m))
              | inr more ↦ absurd (not_here p c (omega (arith, l, more)) alike)
            ];
            ascending = far.ascending;
            whole = far.whole;
            behind = λ c has. let w = far.behind c has in (w.0, (let l = w.1 in omega (arith, l)), w.2);
            kept = λ r has. Contains-append_left rest (own b s ∷ []) r (far.kept r has);
            placed = λ p t l f. elim (cases_lt p at) [
              | inl less ↦ grown t (far.placed p t less f)
              | inr more ↦ inr (subst (λ u. Contains (rest ++ own b s ∷ []) (own b u))
                  (one_there standing at s t here (subst (λ j. slice_get standing j ≡ Some t) (equal p at l more) f))
                  (Contains-push rest (own b s)))
            ];
            origin = λ r has. elim (Contains-append_cases rest (own b s ∷ []) r has) [
              | inl old ↦ far.origin r old
              | inr last ↦ inr (s, held_at standing at s here, not_whole, only_one (own b s) r last)
            ];
            counted = omega (arith, length-append rest (own b s ∷ []), n);
          })
        where
          equal : (p q : ℕ) → p < q + 1 → q ≤ p → p ≡ q
          equal p q l m = omega (arith, l, m)

          grown : (t : Standing) → Contains common t.first ⊎ Contains rest (own b t)
              → Contains common t.first ⊎ Contains (rest ++ own b s ∷ []) (own b t)
          grown t (inl c) = inl c
          grown t (inr c) = inr (Contains-append_left rest (own b s ∷ []) (own b t) c)

          not_here : (p : ℕ) (c : Rect) → p ≡ at → AreAlike standing p b.count c → ⊥
          not_here p c same alike =
              let alike_at : AreAlike standing at b.count c = subst (λ q. AreAlike standing q b.count c) same alike in
              let is : in_band c 0 ≡ s = one_there standing at (in_band c 0) s (first_of at c alike_at) here in
              differ (subst (λ (t : Standing). AreAlike standing at b.count t.first) is alike_at)

          not_whole : ¬ IsWhole b standing s.first
          not_whole whole =
              let f = placed_at standing (in_band s.first 0) (whole 0 (omega (arith, some))) in
              let alike = alike_from standing ascending s.first f.0 b.count f.1 whole in
              let place : f.0 + s.band ≡ at =
              one_place standing ascending (f.0 + s.band) at s (alike s.band small) here in
              elim (cases_lt f.0 at) [
                | inl less ↦ (let m = far.passed f.0 s.first less alike in omega (arith, m, place, small))
                | inr more ↦ not_here f.0 s.first (omega (arith, more, place)) alike
              ]

      -- one more that is common
      pub one_parted : (first : Rect) (new : List Rect) → new ≡ common ++ first ∷ []
          → AreAlike standing at b.count first → ArePartedTo b standing before (at + b.count) new rest
      one_parted first new e alike =
          let n = far.counted in
          subst (λ cs. ArePartedTo b standing before (at + b.count) cs rest) (sym e) (record {
            within = past first alike;
            passed = λ p c l those. elim (cases_lt p at) [
              | inl less ↦ (let m = far.passed p c less those in omega (arith, m))
              | inr more ↦ (let same = none_later p c more l those in omega (arith, same))
            ];
            ascending = sorted_more rect_cmp rect_total same_rect common first far.ascending (λ c has.
                let w = far.behind c has in
                rect_below c first 0 (below_at standing ascending w.0 at (in_band c 0) (in_band first 0) w.2
                (first_of at first alike) w.1));
            whole = λ c has. elim (Contains-append_cases common (first ∷ []) c has) [
              | inl old ↦ far.whole c old
              | inr last ↦ subst (IsWhole b standing) (only_one first c last)
                  (λ k h. held_at standing (at + k) (in_band first k) (alike k h))
            ];
            behind = λ c has. elim (Contains-append_cases common (first ∷ []) c has) [
              | inl old ↦ (let w = far.behind c old in (w.0, (let l = w.1 in omega (arith, l)), w.2))
              | inr last ↦ (
                at,
                omega (arith, some),
                subst (λ q. slice_get standing at ≡ Some (in_band q 0))
                    (only_one first c last) (first_of at first alike),
              )
            ];
            kept = far.kept;
            placed = λ p t l f. elim (cases_lt p at) [
              | inl less ↦ grown t (far.placed p t less f)
              | inr more ↦ inl (subst (λ (u : Standing). Contains (common ++ first ∷ []) u.first)
                  (those_there p t more l f) (Contains-push common first))
            ];
            origin = far.origin;
            counted =
                let l = length-append common (first ∷ []) in
                let m : b.count * length (common ++ first ∷ []) ≡ b.count * length common + b.count =
                ap (λ k. b.count * k) l ∙ times_more b.count (length common) in
                omega (arith, n, m);
          })
        where
          grown : (t : Standing) → Contains common t.first ⊎ Contains rest (own b t)
              → Contains (common ++ first ∷ []) t.first ⊎ Contains rest (own b t)
          grown t (inl c) = inl (Contains-append_left common (first ∷ []) t.first c)
          grown t (inr c) = inr c

          in_turn : (p : ℕ) → at ≤ p → p < at + b.count → slice_get standing p ≡ Some (in_band first (p - at))
          in_turn p more l =
              let e : at + (p - at) ≡ p = omega (arith, more) in
              subst (λ j. slice_get standing j ≡ Some (in_band first (p - at))) e
              (alike (p - at) (omega (arith, more, l)))

          those_there : (p : ℕ) (t : Standing) → at ≤ p → p < at + b.count → slice_get standing p ≡ Some t
              → in_band first (p - at) ≡ t
          those_there p t more l f = one_there standing p (in_band first (p - at)) t (in_turn p more l) f

          none_later : (p : ℕ) (c : Rect) → at ≤ p → p < at + b.count → AreAlike standing p b.count c → p ≡ at
          none_later p c more l those =
              let is : in_band first (p - at) ≡ in_band c 0 = those_there p (in_band c 0) more l (first_of p c those) in
              let none : p - at ≡ 0 = ap (λ (t : Standing). t.band) is in
              omega (arith, more, none)

  -- all are parted
  pub all_parted : (at : ℕ) (common rest : List Rect) → length standing ≤ at
      → ArePartedTo b standing before at common rest → AreParted b standing before common rest
  all_parted at common rest h far =
      let w = far.within in
      let n = far.counted in
      record {
        ascending = far.ascending;
        whole = far.whole;
        kept = far.kept;
        placed = λ s has.
            let f = placed_at standing s has in
            let l = slice_get_within standing f.0 s f.1 in
            far.placed f.0 s (omega (arith, l, h)) f.1;
        from = far.origin;
        counted = omega (arith, n, w, h);
      }
