-- Rectangles that are put to those of bands or to the rest, one after another.
use Rattle.std.proofs.Common.{ℕ, ◌≡◌, ◌+◌, ◌<◌, ◌≤◌, inl, inr, refl, sym, subst, arith}
use Rattle.std.proofs.Common.{List, [], ◌∷◌, ◌++◌, length, length-append, take, get_or}
use Rattle.std.specs.Prelude.{All, Contains}
use Rattle.std.proofs.lemmas.List.{take_all}
use Rattle.std.proofs.lemmas.List.Elements.{
  All-more,
  All-nil,
  All-push,
  All-weaker,
  Contains-append_left,
  Contains-get_or,
  Contains-push,
}
use Rattle.lam_geom.specs.declared.rect.Rect.{Rect}
use Rattle.slice_symbols.specs.declared.bands.Bands.{Bands}
use Rattle.slice_symbols.specs.declared.standing.Standing.{Standing}
use Rattle.slice_symbols.specs.Standing.{AreStood, IsOfBand, IsTold, StandsInNone, own}

-- what is so of the first i rectangles
pub record AreStoodTo (rects : List Rect) (b : Bands) (i : ℕ) (standing : List Standing) (rest : List Rect) :
    Type 0 where
  pub within : i ≤ length rects
  pub each : All (IsTold b standing rest) (take i rects)
  pub of_bands : All (IsOfBand b) standing
  pub held : All (λ s. Contains rects (own b s)) standing
  pub among : All (λ r. Contains rects r × StandsInNone b r) rest
  pub counted : length standing + length rest ≡ i

module _ (rects : List Rect) (b : Bands) where
  pub none_stood : (standing : List Standing) (rest : List Rect) → standing ≡ [] → rest ≡ []
      → AreStoodTo rects b 0 standing rest
  none_stood standing rest e f =
      let P : List Standing → Type 0 = λ ss. AreStoodTo rects b 0 ss rest in
      let Q : List Rect → Type 0 = λ rs. AreStoodTo rects b 0 [] rs in
      subst P (sym e) (subst Q (sym f) (record {
        within = omega arith;
        each = All-nil (IsTold b [] []);
        of_bands = All-nil (IsOfBand b);
        held = All-nil (λ s. Contains rects (own b s));
        among = All-nil (λ r. Contains rects r × StandsInNone b r);
        counted = refl;
      }))

  module _ (i : ℕ) (standing : List Standing) (rest : List Rect) (d : Rect) (within : i < length rects)
      (far : AreStoodTo rects b i standing rest) where
    -- one more of the rest
    pub rest_stood : (new : List Rect) → new ≡ rest ++ get_or rects i d ∷ [] → StandsInNone b (get_or rects i d)
        → AreStoodTo rects b (i + 1) standing new
    rest_stood new e none =
        let r : Rect = get_or rects i d in
        let P : List Rect → Type 0 = λ rs. AreStoodTo rects b (i + 1) standing rs in
        let n = far.counted in
        subst P (sym e) (record {
          within = omega (arith, within);
          each = All-more (IsTold b standing (rest ++ r ∷ [])) rects i d within
              (All-weaker (IsTold b standing rest) (IsTold b standing (rest ++ r ∷ [])) grown (take i rects) far.each)
              (inl (Contains-push rest r));
          of_bands = far.of_bands;
          held = far.held;
          among = All-push (λ r. Contains rects r × StandsInNone b r) rest r far.among
              (Contains-get_or rects i d within, none);
          counted = omega (arith, length-append rest (r ∷ []), n);
        })
      where
        grown : (q : Rect) → IsTold b standing rest q → IsTold b standing (rest ++ get_or rects i d ∷ []) q
        grown q (inl c) = inl (Contains-append_left rest (get_or rects i d ∷ []) q c)
        grown q (inr w) = inr w

    -- one more that stands in a band
    pub one_stood : (s : Standing) (new : List Standing) → new ≡ standing ++ s ∷ [] → IsOfBand b s
        → own b s ≡ get_or rects i d → AreStoodTo rects b (i + 1) new rest
    one_stood s new e of_band same =
        let r : Rect = get_or rects i d in
        let P : List Standing → Type 0 = λ ss. AreStoodTo rects b (i + 1) ss rest in
        let n = far.counted in
        subst P (sym e) (record {
          within = omega (arith, within);
          each = All-more (IsTold b (standing ++ s ∷ []) rest) rects i d within
              (All-weaker (IsTold b standing rest) (IsTold b (standing ++ s ∷ []) rest) grown (take i rects) far.each)
              (inr (s, Contains-push standing s, same));
          of_bands = All-push (IsOfBand b) standing s far.of_bands of_band;
          held = All-push (λ s. Contains rects (own b s)) standing s far.held
              (subst (Contains rects) (sym same) (Contains-get_or rects i d within));
          among = far.among;
          counted = omega (arith, length-append standing (s ∷ []), n);
        })
      where
        grown : (q : Rect) → IsTold b standing rest q → IsTold b (standing ++ s ∷ []) rest q
        grown q (inl c) = inl c
        grown q (inr w) = inr (w.0, Contains-append_left standing (s ∷ []) w.0 w.1, w.2)

  take_whole : (xs : List Rect) (i : ℕ) → i ≡ length xs → take i xs ≡ xs
  take_whole xs i e = take_all i xs (omega (arith, e))

  pub all_stood : (i : ℕ) (standing : List Standing) (rest : List Rect) → length rects ≤ i
      → AreStoodTo rects b i standing rest → AreStood rects b standing rest
  all_stood i standing rest h far = let w = far.within in let e : i ≡ length rects = omega (arith, h, w) in record {
    each = subst (All (IsTold b standing rest)) (take_whole rects i e) far.each;
    of_bands = far.of_bands;
    held = far.held;
    among = far.among;
    few = let n = far.counted in omega (arith, n, w);
  }
