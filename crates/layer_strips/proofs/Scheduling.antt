-- The events of the strips, one strip after the other, and in the order of their times.
use Rattle.std.proofs.Common.{ℕ, ◌≡◌, inl, inr, refl, sym, subst, arith, ◌+◌, ◌<◌, ◌≤◌, ◌++◌, ◌∷◌, [], List, All}
use Rattle.std.proofs.Common.{length}
use Rattle.std.specs.Prelude.{Contains}
use Rattle.std.specs.List.Sorted.{IsPermutation, IsSortedByKey}
use Rattle.std.specs.Ordering.{int_cmp}
use Rattle.std.proofs.lemmas.Bool.{cases_lt}
use Rattle.std.proofs.lemmas.Bool.Decides.{nat_tests}
use Rattle.std.proofs.lemmas.Cmp.{int_cmp_total}
use Rattle.std.proofs.lemmas.Int.{ints}
use Rattle.std.proofs.lemmas.List.Elements.{All-push, All-weaker, Contains-append_left, Contains-push}
use Rattle.std.proofs.lemmas.List.Sorted.{All-permutation, Contains-permutation, sorted_far, ranks_by}
use Rattle.lam_geom.specs.declared.layer.Layer.{Layer}
use Rattle.lam_geom.specs.declared.rect.Rect.{Rect}
use Rattle.layer_strips.specs.declared.part.Part.{Part}
use Rattle.layer_strips.specs.declared.event.Event.{Event}
use Rattle.layer_strips.specs.Sweep.{begin, ask, finish, strip, IsOf, IsEvent, AreEvents, AddsEvents, no_event}
use Rattle.layer_strips.specs.Sweep.{IsSchedule}

module _ (layer : Layer) (part : Part) (strips : List Rect) where
  pub events_none : AreEvents layer part strips 0 []
  events_none = record {
    each = λ k d l. absurd (omega arith);
    asked = λ i l. absurd (omega arith);
    begun = λ i l. absurd (omega arith);
    finished = λ i l. absurd (omega arith);
  }

  weaker : (n : ℕ) (es : List Event) → All (IsEvent layer part strips n) es → All (IsEvent layer part strips (n + 1)) es
  weaker n es h =
      All-weaker (IsEvent layer part strips n) (IsEvent layer part strips (n + 1))
      (λ e k. let l = k.0 in (omega arith, k.1)) es h

  -- what holds up to n, and at n
  up_to : (P : ℕ → Type 0) (n : ℕ) → ((i : ℕ) → i < n → P i) → P n → (i : ℕ) → i < n + 1 → P i
  up_to P n h here i l = elim (cases_lt i n) [ inl m ↦ h i m | inr m ↦ let e : n ≡ i = omega arith in subst P e here ]

  pub events_more : (n : ℕ) (old new : List Event) → n < length strips
      → AddsEvents layer part n (strip strips n) old new
      → AreEvents layer part strips n old → AreEvents layer part strips (n + 1) new
  events_more n old new l (inl d) h =
      let r = strip strips n in
      let a = ask n r in
      let b = begin part n r in
      let c = finish part n r in
      let one = old ++ a ∷ [] in
      let two = one ++ b ∷ [] in
      let own : IsOf layer strips n = record { inside = l; same = d.0 } in
      let P = IsEvent layer part strips (n + 1) in
      let keep : (e : Event) → Contains old e → Contains (two ++ c ∷ []) e
      = λ e k. Contains-append_left two (c ∷ []) e
      (Contains-append_left one (b ∷ []) e (Contains-append_left old (a ∷ []) e k)) in
      subst (AreEvents layer part strips (n + 1)) (sym d.1) (record {
        each = All-push P two c
            (All-push P one b (All-push P old a (weaker n old h.each) (omega arith, refl)) (omega arith, (own, refl)))
            (omega arith, (own, refl));
        asked = up_to (λ i. Contains (two ++ c ∷ []) (ask i (strip strips i))) n (λ i m. keep _ (h.asked i m))
            (Contains-append_left two (c ∷ []) a (Contains-append_left one (b ∷ []) a (Contains-push old a)));
        begun = up_to
            (λ i. (strip strips i).layer ≡ layer → Contains (two ++ c ∷ []) (begin part i (strip strips i))) n
            (λ i m s. keep _ (h.begun i m s))
            (λ s. Contains-append_left two (c ∷ []) b (Contains-push one b));
        finished =
            up_to (λ i. (strip strips i).layer ≡ layer → Contains (two ++ c ∷ []) (finish part i (strip strips i))) n
            (λ i m s. keep _ (h.finished i m s))
            (λ s. Contains-push two c);
      })
  events_more n old new l (inr d) h =
      let r = strip strips n in
      let a = ask n r in
      let P = IsEvent layer part strips (n + 1) in
      let keep : (e : Event) → Contains old e
      → Contains (old ++ a ∷ []) e = λ e k. Contains-append_left old (a ∷ []) e k in
      subst (AreEvents layer part strips (n + 1)) (sym d.1) (record {
        each = All-push P old a (weaker n old h.each) (omega arith, refl);
        asked = up_to (λ i. Contains (old ++ a ∷ []) (ask i (strip strips i))) n (λ i m. keep _ (h.asked i m))
            (Contains-push old a);
        begun = up_to
            (λ i. (strip strips i).layer ≡ layer → Contains (old ++ a ∷ []) (begin part i (strip strips i))) n
            (λ i m s. keep _ (h.begun i m s))
            (λ s. absurd (d.0 s));
        finished =
            up_to (λ i. (strip strips i).layer ≡ layer → Contains (old ++ a ∷ []) (finish part i (strip strips i))) n
            (λ i m s. keep _ (h.finished i m s))
            (λ s. absurd (d.0 s));
      })

  moved : (n : ℕ) (xs ys : List Event) → IsPermutation xs ys → AreEvents layer part strips n xs
      → AreEvents layer part strips n ys
  moved n xs ys p h = record {
    each = All-permutation (IsEvent layer part strips n) xs ys p h.each;
    asked = λ i l. Contains-permutation xs ys _ p (h.asked i l);
    begun = λ i l s. Contains-permutation xs ys _ p (h.begun i l s);
    finished = λ i l s. Contains-permutation xs ys _ p (h.finished i l s);
  }

  pub is_schedule : (n : ℕ) (xs ys : List Event) → length strips ≤ n → n ≤ length strips → IsPermutation xs ys
      → IsSortedByKey (λ e. e.time) int_cmp ys
      → AreEvents layer part strips n xs → IsSchedule layer part strips ys
  is_schedule n xs ys l m p up h =
      let e : n ≡ length strips = omega arith in
      record {
        whole = subst (λ k. AreEvents layer part strips k ys) e (moved n xs ys p h);
        ascending = λ i j k b.
            let f = sorted_far _ (ranks_by int_cmp_total (λ (v : Event). v.time)) ys up i j no_event k b in
            grind (arith, ints, nat_tests);
      }
