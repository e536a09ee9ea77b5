-- What the symbols draw.
use Rattle.std.proofs.Common.{ℕ, zero, suc, ◌≡◌, ◌+◌, ◌*◌, ◌<◌, ◌≤◌, ◌⊎◌, inl, inr, refl, sym, ◌∙◌, ap, subst, arith}
use Rattle.std.proofs.Common.{List, [], ◌∷◌, ◌++◌, map, length, length-append, eqb-true}
use Rattle.std.specs.Prelude.{◌==◌, All, Contains, ℤ, Result, Ok, Err, IfOk, false, true}
use Rattle.mp_base.specs.declared.refusal.NoMemory.{NoMemory}
use Rattle.std.specs.List.{flat_map}
use Rattle.std.proofs.lemmas.List.{length-map}
use Rattle.std.proofs.lemmas.Option.{get_or_from_slice_get}
use Rattle.std.proofs.lemmas.List.Elements.{All-contains, All-cons, All-nil, Contains-get_or}
use Rattle.mp_base.proofs.Contents.{contains_behind, contains_from_map, contains_head, contains_map}
use Rattle.mp_base.proofs.Contents.{contains_from_flat, contains_flat}
use Rattle.mp_base.proofs.Numbers.{times_suc}
use Rattle.lam_geom.specs.declared.rect.Rect.{Rect}
use Rattle.lam_geom.specs.Squares.{covered, SameSquares}
use Rattle.slice_symbols.specs.declared.bands.Bands.{Bands}
use Rattle.slice_symbols.specs.declared.symbols.Symbol.{Symbol}
use Rattle.slice_symbols.specs.Heights.{height_of, raised}
use Rattle.slice_symbols.specs.Shared.{AreSharedOut}
use Rattle.slice_symbols.specs.Standing.{AreShared}
use Rattle.slice_symbols.specs.Drawn.{AreSymbolsOf, IsHeight, IsSymbolOf, drawn_rects, symbol_of, symbol_rects}
use Rattle.slice_symbols.specs.Drawn.{symbols_of_both}
use Rattle.slice_symbols.proofs.Heights.{AreHeights, are_heights}
use Rattle.slice_symbols.proofs.Lifting.{at_first}
use Rattle.slice_symbols.proofs.Members.{all_of}
use Rattle.lam_geom.proofs.Covered.{covered_by, covers_all}

-- lists of the same rectangles cover the same squares
same_covered : (rs qs : List Rect) → ((r : Rect) → Contains rs r → Contains qs r)
    → ((r : Rect) → Contains qs r → Contains rs r) → SameSquares (covered rs) (covered qs)
same_covered rs qs f g l x y = (
  λ c. let w = covered_by rs l x y c in covers_all qs l x y w.0 (f w.0 w.1) w.2,
  λ c. let w = covered_by qs l x y c in covers_all rs l x y w.0 (g w.0 w.1) w.2,
)

-- ---- one symbol

module _ (b : Bands) (count : ℕ) (s : Symbol) (are : AreHeights b count s.heights) where
  height_there : (k : ℕ) → k < count → Contains s.heights (height_of b k)
  height_there k h =
      let within : k < length s.heights = let e = are.count in omega (arith, h, e) in
      subst (Contains s.heights) (get_or_from_slice_get s.heights k (height_of b k) (height_of b k) (are.each k h))
      (Contains-get_or s.heights k (height_of b k) within)

  is_height : (h : ℤ) → Contains s.heights h → (k : ℕ) × (k < count) × (h ≡ height_of b k)
  is_height h (k, within, e) =
      let small : k < count = let e = are.count in omega (arith, within, e) in
      (k, small, sym e ∙ get_or_from_slice_get s.heights k (height_of b k) h (are.each k small))

  -- a rectangle in a band is drawn
  pub drawn_at : (c : Rect) (k : ℕ) → Contains s.shapes c → k < count
      → Contains (symbol_rects s) (raised (height_of b k) c)
  drawn_at c k has h =
      contains_flat (λ z. map (raised z) s.shapes) s.heights (height_of b k) (raised (height_of b k) c)
      (height_there k h)
      (contains_map (raised (height_of b k)) s.shapes c has)

  -- and no other is
  pub only_drawn : (r : Rect) → Contains (symbol_rects s) r
      → (c : Rect) × (k : ℕ) × Contains s.shapes c × (k < count) × (raised (height_of b k) c ≡ r)
  only_drawn r has =
      let w = contains_from_flat (λ z. map (raised z) s.shapes) s.heights r has in
      let h = is_height w.0 w.1 in
      let m = contains_from_map (raised w.0) s.shapes r w.2 in
      (m.0, h.0, m.1, h.1, ap (λ z. raised z m.0) (sym h.2) ∙ m.2)

  pub all_heights : count ≤ 64 → All (IsHeight b) s.heights
  all_heights most = all_of (IsHeight b) s.heights
      (λ h has. let w = is_height h has in (w.0, let l = w.1 in omega (arith, l, most), w.2))

length_at : (cs : List Rect) (hs : List ℤ) → length (flat_map (λ z. map (raised z) cs) hs) ≡ length hs * length cs
length_at cs [] = omega arith
length_at cs (h ∷ hs) =
    length-append (map (raised h) cs) (flat_map (λ z. map (raised z) cs) hs)
    ∙ (λ i. length-map cs (raised h) i + length_at cs hs i) ∙ times_suc (length hs) (length cs)

-- ---- the rest, and what is common

-- a rectangle is one of the rest, or a common one in its band
abbrev IsShared : Bands → List Rect → List Rect → Rect → Type 0
IsShared b common rest r = Contains rest r ⊎ ((c : Rect) × (k : ℕ) × Contains common c × (k < b.count)
    × (raised (height_of b k) c ≡ r))

module _ (rects : List Rect) (b : Bands) (common rest : List Rect) (shared : AreShared rects b common rest)
    (t : Symbol) (rests : t.shapes ≡ rest) (height : AreHeights b 1 t.heights)
  where
    draws_rest : (r : Rect) → Contains rest r → Contains (symbol_rects t) r
    draws_rest r has =
        subst (Contains (symbol_rects t)) (at_first b r)
        (drawn_at b 1 t height r 0 (subst (λ rs. Contains rs r) (sym rests) has) (omega arith))

    from_rest : (r : Rect) → Contains (symbol_rects t) r → Contains rects r
    from_rest r has =
        let w = only_drawn b 1 t height r has in
        let none : w.1 ≡ 0 = let l = w.3 in omega (arith, l) in
        let same : w.0 ≡ r = sym (at_first b w.0) ∙ ap (λ k. raised (height_of b k) w.0) (sym none) ∙ w.4 in
        subst (Contains rects) same
        (All-contains (Contains rects) rest w.0 shared.among (subst (λ rs. Contains rs w.0) rests w.2))

    rest_length : length (symbol_rects t) ≡ 1 * length rest
    rest_length = length_at t.shapes t.heights ∙ (λ i. height.count i * length (rests i))

    of_rest : IsSymbolOf rects b t
    of_rest = record {
      shapes = subst (All (Contains rects)) (sym rests) shared.among;
      heights = all_heights b 1 t height (omega arith);
      among = all_of (λ h. All (λ r. Contains rects (raised h r)) t.shapes) t.heights
          (λ h in_heights. all_of (λ r. Contains rects (raised h r)) t.shapes
          (λ r has. from_rest (raised h r) (contains_flat (λ z. map (raised z) t.shapes) t.heights h (raised h r)
          in_heights
          (contains_map (raised h) t.shapes r has))));
      few = let n = height.count in omega (arith, n);
    }

    -- where nothing is common, the rest is all
    module _ (none : common ≡ []) where
      abbrev alone : List Symbol
      alone = t ∷ []

      placed : (r : Rect) → IsShared b common rest r → Contains (drawn_rects alone) r
      placed r (inl has) = contains_flat symbol_rects alone t r (contains_head t []) (draws_rest r has)
      placed r (inr (c, k, has, h, e)) = absurd (empty (subst (λ rs. Contains rs c) none has))
        where
          empty : Contains [] c → ⊥
          empty (i, l, q) = omega (arith, l)

      back : (r : Rect) → Contains (drawn_rects alone) r → Contains rects r
      back r has =
          let w = contains_from_flat symbol_rects alone r has in
          from_rest r (subst (λ u. Contains (symbol_rects u) r) (only w.0 w.1) w.2)
        where
          only : (u : Symbol) → Contains alone u → u ≡ t
          only u (zero, h, e) = sym e
          only u (suc k, h, e) = absurd (omega (arith, h))

      pub rest_alone : AreSharedOut rects b common rest → alone ≡ symbols_of_both b common rest
          → AreSymbolsOf rects b alone
      rest_alone out e = record {
        common = common;
        rest = rest;
        out = out;
        are = e;
        each = All-cons (IsSymbolOf rects b) t [] of_rest (All-nil (IsSymbolOf rects b));
        two = omega arith;
        same = same_covered rects (drawn_rects alone)
            (λ r has. placed r (All-contains (IsShared b common rest) rects r shared.each has)) back;
        few =
            let c = length-append (symbol_rects t) [] in
            let m = rest_length in
            let all = shared.few in
            omega (arith, c, m, all);
      }

    module _ (some : 1 ≤ b.count) (most : b.count ≤ 64) (s : Symbol) (commons : s.shapes ≡ common)
        (heights : AreHeights b b.count s.heights)
      where
        abbrev two_symbols : List Symbol
        two_symbols = s ∷ t ∷ []

        -- each rectangle is drawn
        told : (r : Rect) → IsShared b common rest r → Contains (drawn_rects two_symbols) r
        told r (inl has) =
            contains_flat symbol_rects two_symbols t r (contains_behind t s (t ∷ []) (contains_head t []))
            (draws_rest r has)
        told r (inr (c, k, has, h, e)) =
            contains_flat symbol_rects two_symbols s r (contains_head s (t ∷ [])) (subst (Contains (symbol_rects s)) e
            (drawn_at b b.count s heights c k (subst (λ rs. Contains rs c) (sym commons) has) h))

        -- and each that is drawn is one of them
        from_common : (r : Rect) → Contains (symbol_rects s) r → Contains rects r
        from_common r has =
            let w = only_drawn b b.count s heights r has in
            subst (Contains rects) w.4
            (All-contains (λ c. (k : ℕ) → k < b.count → Contains rects (raised (height_of b k) c)) common w.0
            shared.alike (subst (λ rs. Contains rs w.0) commons w.2) w.1 w.3)

        drawn_among : (r : Rect) → Contains (drawn_rects two_symbols) r → Contains rects r
        drawn_among r has =
            let w = contains_from_flat symbol_rects two_symbols r has in
            elim (one_of w.0 w.1) [
              | inl e ↦ from_common r (subst (λ u. Contains (symbol_rects u) r) e w.2)
              | inr e ↦ from_rest r (subst (λ u. Contains (symbol_rects u) r) e w.2)
            ]
          where
            one_of : (u : Symbol) → Contains two_symbols u → (u ≡ s) ⊎ (u ≡ t)
            one_of u (zero, h, e) = inl (sym e)
            one_of u (suc zero, h, e) = inr (sym e)
            one_of u (suc (suc k), h, e) = absurd (omega (arith, h))

        of_common : IsSymbolOf rects b s
        of_common = record {
          shapes = all_of (Contains rects) s.shapes (λ c has.
              subst (Contains rects) (at_first b c)
              (All-contains (λ c. (k : ℕ) → k < b.count → Contains rects (raised (height_of b k) c)) common c
              shared.alike (subst (λ rs. Contains rs c) commons has) 0 some));
          heights = all_heights b b.count s heights most;
          among = all_of (λ h. All (λ r. Contains rects (raised h r)) s.shapes) s.heights
              (λ h in_heights. all_of (λ r. Contains rects (raised h r)) s.shapes
              (λ r has. from_common (raised h r) (contains_flat (λ z. map (raised z) s.shapes) s.heights h (raised h r)
              in_heights (contains_map (raised h) s.shapes r has))));
          few = let n = heights.count in omega (arith, n, most);
        }

        pub are_symbols : AreSharedOut rects b common rest → two_symbols ≡ symbols_of_both b common rest
            → AreSymbolsOf rects b two_symbols
        are_symbols out e = record {
          common = common;
          rest = rest;
          out = out;
          are = e;
          each = All-cons (IsSymbolOf rects b) s (t ∷ []) of_common (All-cons (IsSymbolOf rects b) t [] of_rest
              (All-nil (IsSymbolOf rects b)));
          two = omega arith;
          same = same_covered rects (drawn_rects two_symbols)
              (λ r has. told r (All-contains (IsShared b common rest) rects r shared.each has)) drawn_among;
          few =
              let a = length-append (symbol_rects s) (symbol_rects t ++ []) in
              let c = length-append (symbol_rects t) [] in
              let n : length (symbol_rects s) ≡ b.count * length common =
              length_at s.shapes s.heights ∙ (λ i. heights.count i * length (commons i)) in
              let m = rest_length in
              let all = shared.few in
              omega (arith, a, c, n, m, all);
        }

-- the symbols of both draw the rectangles
pub drawn_by_both : (rects : List Rect) (b : Bands) (common rest : List Rect) → 1 ≤ b.count → b.count ≤ 64
    → AreSharedOut rects b common rest → AreShared rects b common rest
    → AreSymbolsOf rects b (symbols_of_both b common rest)
drawn_by_both rects b [] rest some most out shared =
    rest_alone rects b [] rest shared (symbol_of b 1 rest) refl (are_heights b 1) refl out refl
drawn_by_both rects b (c ∷ cs) rest some most out shared =
    are_symbols rects b (c ∷ cs) rest shared (symbol_of b 1 rest) refl (are_heights b 1) some most
    (symbol_of b b.count (c ∷ cs)) refl (are_heights b b.count) out refl

-- what a call made of them
pub made_of_both : (rects : List Rect) (b : Bands) (both : List Symbol) (result : Result (List Symbol) NoMemory)
    → AreSymbolsOf rects b both → IfOk result (λ symbols. symbols ≡ both) → IfOk result (AreSymbolsOf rects b)
made_of_both rects b both (Ok symbols) are e = subst (AreSymbolsOf rects b) (sym e) are
made_of_both rects b both (Err e) are told = told

module _ (b : Bands) where
  -- the rest alone, where nothing is common
  pub of_both_none : (common rest read : List Rect) (t : Symbol) (symbols : List Symbol) → read ≡ common
      → true ≡ (length read == 0) → t ≡ symbol_of b 1 rest → symbols ≡ [] ++ t ∷ []
      → symbols ≡ symbols_of_both b common rest
  of_both_none [] rest read t symbols e none f g = g ∙ (λ i. f i ∷ [])
  of_both_none (c ∷ cs) rest read t symbols e none f g =
      let a : length read ≡ 0 = eqb-true (length read) 0 (sym none) in
      let d : length read ≡ length (c ∷ cs) = ap length e in
      absurd (omega (arith, a, d))

  -- or both
  pub of_both_some : (common rest read : List Rect) (s t : Symbol) (symbols : List Symbol) → read ≡ common
      → false ≡ (length read == 0) → s ≡ symbol_of b b.count common → t ≡ symbol_of b 1 rest
      → symbols ≡ ([] ++ s ∷ []) ++ t ∷ [] → symbols ≡ symbols_of_both b common rest
  of_both_some [] rest read s t symbols e some f g h = absurd (none e some)
    where
      none : read ≡ [] → false ≡ (length read == 0) → ⊥
      none p q = let z : false ≡ (length {A = Rect} [] == 0) = subst (λ rs. false ≡ (length rs == 0)) p q in cc
  of_both_some (c ∷ cs) rest read s t symbols e some f g h = h ∙ (λ i. f i ∷ g i ∷ [])
