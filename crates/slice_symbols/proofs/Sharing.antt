-- What is common, and the rest.
use Rattle.std.proofs.Common.{ℕ, ◌≡◌, ◌<◌, ◌≤◌, ◌⊎◌, inl, inr, sym, ◌∙◌, subst, arith, List}
use Rattle.std.specs.Prelude.{Contains}
use Rattle.std.proofs.lemmas.List.Elements.{All-contains}
use Rattle.lam_geom.specs.declared.rect.Rect.{Rect}
use Rattle.slice_symbols.specs.declared.bands.Bands.{Bands}
use Rattle.slice_symbols.specs.declared.standing.Standing.{Standing}
use Rattle.slice_symbols.specs.Heights.{StandsIn, height_of, raised}
use Rattle.slice_symbols.specs.Ordered.{EachOnce, rect_cmp}
use Rattle.slice_symbols.specs.Shared.{AreSharedOut, IsCommon, IsCopy}
use Rattle.slice_symbols.specs.Standing.{AreParted, AreShared, AreStood, IsOfBand, IsTold, IsWhole, StandsInNone, own}
use Rattle.slice_symbols.specs.Standing.{standing_cmp}
use Rattle.slice_symbols.proofs.Banded.{own_is, stands_raised}
use Rattle.slice_symbols.proofs.Members.{all_of}
use Rattle.slice_symbols.proofs.Parted.{in_band}

-- standing rectangles in order, each once
pub stood_in_order : (rects : List Rect) (b : Bands) (standing ordered : List Standing) (rest : List Rect)
    → EachOnce standing_cmp standing ordered → AreStood rects b standing rest → AreStood rects b ordered rest
stood_in_order rects b standing ordered rest once stood =
    let n = once.few in
    let m = stood.few in
    record {
      each = all_of (IsTold b ordered rest) rects (λ r has. moved r (All-contains (IsTold b standing rest) rects r
          stood.each has));
      of_bands = all_of (IsOfBand b) ordered (λ s has. All-contains (IsOfBand b) standing s stood.of_bands
          (once.among s has));
      held = all_of (λ s. Contains rects (own b s)) ordered (λ s has. All-contains (λ s. Contains rects (own b s))
          standing s stood.held (once.among s has));
      among = stood.among;
      few = omega (arith, n, m);
    }
  where
    moved : (r : Rect) → IsTold b standing rest r → IsTold b ordered rest r
    moved r (inl c) = inl c
    moved r (inr w) = inr (w.0, once.kept w.0 w.1, w.2)

module _ (rects : List Rect) (b : Bands) (some : 1 ≤ b.count) (standing : List Standing) (before : List Rect)
    (stood : AreStood rects b standing before) (common rest : List Rect)
    (parted : AreParted b standing before common rest)
  where
    in_first : (s : Standing) → Contains standing s → StandsIn b 0 s.first
    in_first s has = (All-contains (IsOfBand b) standing s stood.of_bands has).first

    in_rects : (s : Standing) → Contains standing s → Contains rects (own b s)
    in_rects s has = All-contains (λ s. Contains rects (own b s)) standing s stood.held has

    outside : (r : Rect) → Contains before r → Contains rects r × StandsInNone b r
    outside r has = All-contains (λ r. Contains rects r × StandsInNone b r) before r stood.among has

    whole_is_common : (c : Rect) → IsWhole b standing c → IsCommon rects b c
    whole_is_common c whole = record {
      first = in_first (in_band c 0) (whole 0 (omega (arith, some)));
      each = λ k h. in_rects (in_band c k) (whole k h);
    }

    common_is_whole : (c : Rect) → IsCommon rects b c → IsWhole b standing c
    common_is_whole c is = λ k h.
        there k h (All-contains (IsTold b standing before) rects (raised (height_of b k) c) stood.each (is.each k h))
      where
        there : (k : ℕ) → k < b.count → IsTold b standing before (raised (height_of b k) c)
            → Contains standing (in_band c k)
        there k h (inl has) =
            absurd ((outside (raised (height_of b k) c) has).1 k h (stands_raised b c k is.first))
        there k h (inr (s, has, same)) =
            subst (Contains standing) (own_is b s c k same (in_first s has) is.first) has

    -- of the rest none is a copy
    no_copy : (r : Rect) → Contains rest r → ¬ IsCopy rects b r
    no_copy r has copy = origin (parted.from r has)
      where
        origin : Contains before r ⊎ ((s : Standing) × Contains standing s × (¬ IsWhole b standing s.first)
            × (own b s ≡ r)) → ⊥
        origin (inl old) = (outside r old).1 copy.band copy.few
            (subst (StandsIn b copy.band) copy.same (stands_raised b copy.original copy.band (copy.common).first))
        origin (inr (s, in_standing, differs, same)) =
            let e : s ≡ in_band copy.original copy.band = own_is b s copy.original copy.band (same ∙ sym copy.same)
            (in_first s in_standing) (copy.common).first in
            differs (subst (λ (t : Standing). IsWhole b standing t.first) (sym e)
            (common_is_whole copy.original copy.common))

    among : (r : Rect) → Contains rest r → Contains rects r
    among r has = origin (parted.from r has)
      where
        origin : Contains before r ⊎ ((s : Standing) × Contains standing s × (¬ IsWhole b standing s.first)
            × (own b s ≡ r)) → Contains rects r
        origin (inl old) = (outside r old).0
        origin (inr (s, in_standing, differs, same)) = subst (Contains rects) same (in_rects s in_standing)

    -- a rectangle is one of the rest, or a common one in a band
    shared : (r : Rect) → Contains rects r → Contains rest r ⊎ ((c : Rect) × (k : ℕ) × Contains common c
        × (k < b.count) × (raised (height_of b k) c ≡ r))
    shared r has = place (All-contains (IsTold b standing before) rects r stood.each has)
      where
        place : IsTold b standing before r → Contains rest r ⊎ ((c : Rect) × (k : ℕ) × Contains common c
            × (k < b.count) × (raised (height_of b k) c ≡ r))
        place (inl old) = inl (parted.kept r old)
        place (inr (s, in_standing, same)) = elim (parted.placed s in_standing) [
          | inl c ↦ inr (
            s.first,
            s.band,
            c,
            (All-contains (IsOfBand b) standing s stood.of_bands in_standing).band,
            same,
          )
          | inr c ↦ inl (subst (Contains rest) same c)
        ]

    all_common : (c : Rect) → IsCommon rects b c → Contains common c
    all_common c is =
        let whole = common_is_whole c is in
        let none : ℕ = 0 in
        elim (parted.placed (in_band c 0) (whole 0 (omega (arith, some)))) [
          | inl has ↦ has
          | inr has ↦ absurd (no_copy (own b (in_band c 0)) has (record {
            original = c;
            common = is;
            band = none;
            few = omega (arith, some);
            same = λ i. own b (in_band c 0);
          }))
        ]

    module _ (ordered : List Rect) (once : EachOnce rect_cmp rest ordered) where
      pub shared_out : AreSharedOut rects b common ordered
      shared_out = record {
        alike = record {
          ascending = parted.ascending;
          are = λ c has. whole_is_common c (parted.whole c has);
          all = all_common;
        };
        others = record {
          ascending = once.ascending;
          are = λ r has. (among r (once.among r has), no_copy r (once.among r has));
          all = λ r is. once.kept r (kept r is.1 (shared r is.0));
        };
      }
        where
          kept : (r : Rect) → ¬ IsCopy rects b r → Contains rest r ⊎ ((c : Rect) × (k : ℕ) × Contains common c
              × (k < b.count) × (raised (height_of b k) c ≡ r)) → Contains rest r
          kept r single (inl has) = has
          kept r single (inr (c, k, has, h, e)) = absurd (single (record {
            original = c;
            common = whole_is_common c (parted.whole c has);
            band = k;
            few = h;
            same = e;
          }))

      pub are_shared : AreShared rects b common ordered
      are_shared =
          let n = once.few in
          let m = parted.counted in
          let l = stood.few in
          record {
            each = all_of (λ r. Contains ordered r ⊎ ((c : Rect) × (k : ℕ) × Contains common c × (k < b.count)
                × (raised (height_of b k) c ≡ r))) rects (λ r has. told r (shared r has));
            alike = all_of (λ c. (k : ℕ) → k < b.count → Contains rects (raised (height_of b k) c)) common
                (λ c has k h. in_rects (in_band c k) (parted.whole c has k h));
            among = all_of (Contains rects) ordered (λ r has. among r (once.among r has));
            few = omega (arith, l, m, n);
          }
        where
          told : (r : Rect) → Contains rest r ⊎ ((c : Rect) × (k : ℕ) × Contains common c × (k < b.count)
              × (raised (height_of b k) c ≡ r)) → Contains ordered r ⊎ ((c : Rect) × (k : ℕ) × Contains common c
              × (k < b.count) × (raised (height_of b k) c ≡ r))
          told r (inl has) = inl (once.kept r has)
          told r (inr w) = inr w
