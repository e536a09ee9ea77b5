-- What a setting begins with climbs, and what no longer changes is settled.
use Rattle.std.proofs.Common.{◌≡◌, ℕ, ◌<◌, ◌≤◌, ◌+◌, ◌⊎◌, inl, inr, List, Option, Some, None, Bool, true, false, cond}
use Rattle.std.proofs.Common.{length, take, get_or, refl, sym, ◌∙◌, ap, subst, arith}
use Rattle.std.specs.Prelude.{IfSome, slice_get, slice_set}
use Rattle.std.proofs.lemmas.Bool.{cases_eq, cases_lt, eq-eqb, ne_eqb, false≢true}
use Rattle.std.proofs.lemmas.Option.{get_or_from_slice_get, none-some, same_Some, slice_get_within}
use Rattle.std.proofs.lemmas.List.{get_or-set_same, get_or-set_other, get_or_past, length-set}
use Rattle.mp_base.specs.declared.value.Trit.{Trit}
use Rattle.mp_base.specs.declared.value.Trit.TheVariants.{X}
use Rattle.mp_base.proofs.Entries.{some_entry}
use Rattle.nor_net.specs.declared.net.Phase.{Phase}
use Rattle.nor_net.specs.declared.net.Part.{Part}
use Rattle.nor_net.specs.declared.net.Part.TheVariants.{Input, Gate, Latch}
use Rattle.nor_net.specs.Elements.{Spot, Element, Given, Latched, nets_of, part_element, spot}
use Rattle.nor_net.specs.Settled.{gives, is_open, IsSolution, IsSettled}
use Rattle.nor_net.specs.Shape.{Fed, values_at, given_at, setting_of, count_inputs, IsFed}
use Rattle.nor_net.specs.Passing.{first_value, Climbs, Started, Passed, setting_in}
use Rattle.nor_net.proofs.Climbing.{renewed_gives}

pub none_started : (parts : List Part) (phase : Option Phase) (inputs vs : List Trit)
    → Started parts phase inputs 0 vs vs
none_started parts phase inputs vs =
    record { size = refl; below = λ k p l is. absurd (omega arith); above = λ k l. refl }

pub one_started : (parts : List Part) (phase : Option Phase) (inputs : List Trit) (n m : ℕ) (old mid new : List Trit)
    (value : Trit) → Started parts phase inputs n old mid → n < length mid → m ≡ n + 1
    → new ≡ slice_set mid n value
    → IfSome (slice_get parts n)
    (λ p. value ≡ first_value phase (get_or inputs (count_inputs (take n parts)) X) mid n p)
    → Started parts phase inputs m old new
one_started parts phase inputs n m old mid new value h inside e is value_is =
    subst (λ vs. Started parts phase inputs m old vs) (sym is) (record {
      size = length-set mid n value ∙ h.size;
      below = λ k p l at. by_place k p at (cases_eq k n) l;
      above = λ k l. get_or-set_other mid n k value X (λ q. absurd (omega arith)) ∙ h.above k (omega arith);
    })
  where
    held : (p : Part) → first_value phase (get_or inputs (count_inputs (take n parts)) X) mid n p ≡ first_value phase
        (get_or inputs (count_inputs (take n parts)) X) old n p
    held Input = refl
    held (Gate inputs) = refl
    held (Latch q source) = ap (cond (is_open phase q) X) (h.above n (omega arith))

    by_place : (k : ℕ) (p : Part) → slice_get parts k ≡ Some p → (k ≡ n) ⊎ (k ≡ n → ⊥) → k < m
        → get_or (slice_set mid n value) k X ≡ first_value phase (get_or inputs (count_inputs (take k parts)) X) old k p
    by_place k p at (inr ne) l = get_or-set_other mid n k value X ne ∙ h.below k p (omega arith) at
    by_place k p at (inl q) l =
        let here : slice_get parts n ≡ Some p = ap (slice_get parts) (sym q) ∙ at in
        let v : value ≡ first_value phase (get_or inputs (count_inputs (take n parts)) X) mid n p =
        subst (λ o. IfSome o
        (λ p. value ≡ first_value phase (get_or inputs (count_inputs (take n parts)) X) mid n p)) here value_is in
        subst (λ x. get_or (slice_set mid n value) x X ≡ first_value phase
        (get_or inputs (count_inputs (take x parts)) X) old x p) (sym q) (get_or-set_same mid n value X inside ∙ v
        ∙ held p)

module _ (parts : List Part) (phase : Option Phase) (inputs old new : List Trit) (size : length old ≡ length parts)
    (h : Started parts phase inputs (length parts) old new) where
  abbrev at : ℕ → Spot
  at n = record { band = 0; net = n }

  -- a place with a net
  by_spot : (Q : Spot → Element → Type 0)
      → ((n : ℕ) (p : Part) (e : Element) → slice_get parts n ≡ Some p → part_element 0 (Some p) ≡ Some e → Q (at n) e)
      → (q : Spot) (e : Element) → nets_of parts q ≡ Some e → Q q e
  by_spot Q f q e is = by_band (cases_eq q.band 0)
    where
      by_part : (o : Option Part) → slice_get parts q.net ≡ o → part_element 0 o ≡ Some e → Q (at q.net) e
      by_part None w t = absurd (none-some e t)
      by_part (Some p) w t = f q.net p e w t

      by_band : (q.band ≡ 0) ⊎ (q.band ≡ 0 → ⊥) → Q q e
      by_band (inr ne) = absurd
          (none-some e (sym (ap (λ b. cond b (part_element 0 (slice_get parts q.net)) None) (ne_eqb q.band 0 ne)) ∙ is))
      by_band (inl b) =
          let here : q ≡ at q.net = λ i. record { band = b i; net = q.net } in
          subst (λ x. Q x e) (sym here)
          (by_part (slice_get parts q.net) refl
          (sym (ap (λ b. cond b (part_element 0 (slice_get parts q.net)) None) (eq-eqb q.band 0 b)) ∙ is))

  value_is : (n : ℕ) (p : Part) → slice_get parts n ≡ Some p
      → get_or new n X ≡ first_value phase (given_at parts inputs (at n)) old n p
  value_is n p is = h.below n p (slice_get_within parts n p is) is

  abbrev Fine : Spot → Element → Type 0
  Fine q e = (values_at new q ≡ X)
      ⊎ ((w : Spot → Trit) → values_at new q ≡ gives (setting_of parts phase inputs old) w q e)

  -- X, or what every values give
  fine : (n : ℕ) (p : Part) (e : Element) → slice_get parts n ≡ Some p → part_element 0 (Some p) ≡ Some e
      → Fine (at n) e
  fine n Input e is t = subst (Fine (at n)) (same_Some Given e t) (inr (λ w. value_is n Input is))
  fine n (Gate js) e is t = inl (value_is n (Gate js) is)
  fine n (Latch p None) e is t = absurd (none-some e t)
  fine n (Latch p (Some m)) e is t =
      subst (Fine (at n)) (same_Some (Latched p (spot 0 m)) e t) (by_phase (is_open phase p) refl)
    where
      by_phase : (b : Bool) → is_open phase p ≡ b → Fine (at n) (Latched p (spot 0 m))
      by_phase true q = inl (value_is n (Latch p (Some m)) is ∙ ap (λ b. cond b X (get_or old n X)) q)
      by_phase false q = inr
          (λ w. value_is n (Latch p (Some m)) is ∙ ap (λ b. cond b X (get_or old n X)) q
          ∙ ap (λ b. cond b (w (spot 0 m)) (get_or old n X)) (sym q))

  all_fine : (q : Spot) (e : Element) → nets_of parts q ≡ Some e → Fine q e
  all_fine = by_spot Fine fine

  given_is : (q : Spot) (e : Element) → nets_of parts q ≡ Some e → e ≡ Given → values_at new q ≡ given_at parts inputs q
  given_is = by_spot (λ q e. e ≡ Given → values_at new q ≡ given_at parts inputs q) by_part
    where
      by_part : (n : ℕ) (p : Part) (e : Element) → slice_get parts n ≡ Some p → part_element 0 (Some p) ≡ Some e
          → e ≡ Given → values_at new (at n) ≡ given_at parts inputs (at n)
      by_part n Input e is t g = value_is n Input is
      by_part n (Gate js) e is t g = absurd (let x = t ∙ ap (λ y. Some y) g in cc)
      by_part n (Latch p None) e is t g = absurd (none-some e t)
      by_part n (Latch p (Some m)) e is t g = absurd (let x = t ∙ ap (λ y. Some y) g in cc)

  held_is : (q : Spot) (e : Element) → nets_of parts q ≡ Some e → (m : Spot) (r : Phase) → e ≡ Latched r m
      → is_open phase r ≡ false → values_at new q ≡ values_at old q
  held_is = by_spot (λ q e. (m : Spot) (r : Phase) → e ≡ Latched r m → is_open phase r ≡ false
      → values_at new q ≡ values_at old q) by_part
    where
      by_part : (n : ℕ) (p : Part) (e : Element) → slice_get parts n ≡ Some p → part_element 0 (Some p) ≡ Some e
          → (m : Spot) (r : Phase) → e ≡ Latched r m → is_open phase r ≡ false
          → values_at new (at n) ≡ values_at old (at n)
      by_part n Input e is t m r g shut = absurd (let x = t ∙ ap (λ y. Some y) g in cc)
      by_part n (Gate js) e is t m r g shut = absurd (let x = t ∙ ap (λ y. Some y) g in cc)
      by_part n (Latch p None) e is t m r g shut = absurd (none-some e t)
      by_part n (Latch p (Some j)) e is t m r g shut =
          let x : Some (Latched p (spot 0 j)) ≡ Some (Latched r m) = t ∙ ap (λ y. Some y) g in
          let same : p ≡ r = cc in
          value_is n (Latch p (Some j)) is ∙ ap (λ b. cond b X (get_or old n X)) (ap (is_open phase) same ∙ shut)

  dark : (q : Spot) → nets_of parts q ≡ None → IsFed parts → values_at new q ≡ X
  dark q is fed = by_band (cases_eq q.band 0)
    where
      by_part : (o : Option Part) → slice_get parts q.net ≡ o → part_element 0 o ≡ None → get_or new q.net X ≡ X
      by_part None w t = get_or_past new q.net X (let s = h.size in omega (arith, s, size, beyond))
        where
          beyond : length parts ≤ q.net
          beyond = elim (cases_lt q.net (length parts))
              [ inl l ↦ absurd (let e = some_entry parts q.net l in none-some e.0 (sym w ∙ e.1)) | inr l ↦ l ]
      by_part (Some Input) w t = absurd (none-some Given (sym t))
      by_part (Some (Gate js)) w t = absurd (none-some _ (sym t))
      by_part (Some (Latch p (Some m))) w t = absurd (none-some _ (sym t))
      by_part (Some (Latch p None)) w t =
          absurd (false≢true (subst Fed
          (get_or_from_slice_get parts q.net (Latch p None) (Latch p None) w)
          (fed q.net (Latch p None) (slice_get_within parts q.net (Latch p None) w))))

      by_band : (q.band ≡ 0) ⊎ (q.band ≡ 0 → ⊥) → values_at new q ≡ X
      by_band (inr ne) = ap (λ b. cond b (get_or new q.net X) X) (ne_eqb q.band 0 ne)
      by_band (inl b) =
          ap (λ b. cond b (get_or new q.net X) X) (eq-eqb q.band 0 b)
          ∙ by_part (slice_get parts q.net) refl
          (sym (ap (λ b. cond b (part_element 0 (slice_get parts q.net)) None) (eq-eqb q.band 0 b)) ∙ is)

  pub started_climbs : IsFed parts → Climbs (setting_of parts phase inputs old) (values_at new)
  started_climbs fed = record {
    inputs = λ q is. given_is q Given is refl;
    held = λ q m r is shut. held_is q (Latched r m) is m r refl shut;
    up = λ q e is. up_at q e (all_fine q e is);
    least = λ w sol q. least_at w sol q (nets_of parts q) refl;
  }
    where
      up_at : (q : Spot) (e : Element) → Fine q e
          → (values_at new q ≡ X) ⊎ (values_at new q ≡ gives (setting_of parts phase inputs old) (values_at new) q e)
      up_at q e (inl x) = inl x
      up_at q e (inr f) = inr (f (values_at new))

      least_at : (w : Spot → Trit) → IsSolution (setting_of parts phase inputs old) w
          → (q : Spot) (o : Option Element) → nets_of parts q ≡ o → (values_at new q ≡ X) ⊎ (values_at new q ≡ w q)
      least_at w sol q None is = inl (dark q is fed)
      least_at w sol q (Some e) is = by_fine (all_fine q e is)
        where
          by_fine : Fine q e → (values_at new q ≡ X) ⊎ (values_at new q ≡ w q)
          by_fine (inl x) = inl x
          by_fine (inr f) = inr (f w ∙ sym (sol q e is))

-- what a pass leaves as it is, is settled
pub settled_when_same : (parts : List Part) (phase : Option Phase) (values before : Spot → Trit) (old new : List Trit)
    → Passed parts phase (length parts) old new false → Climbs (setting_in parts phase values before) (values_at old)
    → IsSettled (setting_in parts phase values before) (values_at new)
settled_when_same parts phase values before old new h climbs =
    let c = h.climbs values before climbs in
    record { solution = λ q e is. by_band q e is (cases_eq q.band 0) c; least = c.least }
  where
    by_part : (n : ℕ) (e : Element) (o : Option Part) → slice_get parts n ≡ o → part_element 0 o ≡ Some e
        → Climbs (setting_in parts phase values before) (values_at new)
        → get_or new n X ≡ gives (setting_in parts phase values before) (values_at new) (record { band = 0; net = n }) e
    by_part n e None w t c = absurd (none-some e t)
    by_part n e (Some p) w t c = h.stands refl n p (slice_get_within parts n p w) w
        ∙ renewed_gives parts phase values before new c n p e w t

    by_band : (q : Spot) (e : Element) → nets_of parts q ≡ Some e → (q.band ≡ 0) ⊎ (q.band ≡ 0 → ⊥)
        → Climbs (setting_in parts phase values before) (values_at new)
        → values_at new q ≡ gives (setting_in parts phase values before) (values_at new) q e
    by_band q e is (inr ne) c =
        absurd (none-some e
        (sym (ap (λ b. cond b (part_element 0 (slice_get parts q.net)) None) (ne_eqb q.band 0 ne)) ∙ is))
    by_band q e is (inl b) c =
        let here : q ≡ record { band = 0; net = q.net } = λ i. record { band = b i; net = q.net } in
        subst (λ x. values_at new x ≡ gives (setting_in parts phase values before) (values_at new) x e) (sym here)
        (by_part q.net e (slice_get parts q.net) refl
        (sym (ap (λ b. cond b (part_element 0 (slice_get parts q.net)) None) (eq-eqb q.band 0 b)) ∙ is) c)
