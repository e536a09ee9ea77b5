-- What is added to a net leaves it a net.
use Rattle.std.proofs.Common.{◌≡◌, ℕ, ◌<◌, ◌+◌, zero, suc, ◌⊎◌, inl, inr, List, [], ◌∷◌, ◌++◌, Option, Result, Ok, Err}
use Rattle.std.proofs.Common.{Some, None, length, refl, sym, ◌∙◌, ap, subst, arith}
use Rattle.std.specs.Prelude.{OnOk, OnErr, slice_get, slice_set}
use Rattle.std.proofs.lemmas.List.{length-set}
use Rattle.std.proofs.lemmas.List.Sums.{sum_by-append, sum_by-cons, sum_by-set}
use Rattle.std.proofs.lemmas.Option.{get_or_from_slice_get, none-some, same_Some, slice_get_within}
use Rattle.mp_base.proofs.Entries.{get_kept, get_set_other}
use Rattle.nor_net.specs.declared.net.Phase.{Phase}
use Rattle.nor_net.specs.declared.net.NetId.{NetId}
use Rattle.nor_net.specs.declared.net.Part.{Part}
use Rattle.nor_net.specs.declared.net.Part.TheVariants.{Input, Gate, Latch}
use Rattle.nor_net.specs.Shape.{net_limit, IsNet, Stands, MayFeed, MayTake, fan_in, gate_inputs}

pub get_push : {Y : Type 0} (xs : List Y) (x : Y) (n : ℕ) (y : Y) → slice_get (xs ++ x ∷ []) n ≡ Some y
    → (slice_get xs n ≡ Some y) ⊎ ((n ≡ length xs) × (x ≡ y))
get_push [] x zero y e = inr (refl, same_Some x y e)
get_push [] x (suc n) y e = absurd (none-some y e)
get_push (z ∷ zs) x zero y e = inl e
get_push (z ∷ zs) x (suc n) y e = elim (get_push zs x n y e) [ inl h ↦ inl h | inr h ↦ inr (omega (arith, h.0), h.1) ]

pub inputs_push : (parts : List Part) (p : Part) → gate_inputs (parts ++ p ∷ []) ≡ gate_inputs parts + fan_in p
inputs_push parts p =
    let e : gate_inputs (parts ++ p ∷ []) ≡ gate_inputs parts + gate_inputs (p ∷ []) =
    sum_by-append fan_in parts (p ∷ []) in
    let f = sum_by-cons fan_in p [] in
    omega (arith, e, f)

pub feeds_kept : (parts more : List Part) (phase : Phase) (m : ℕ) → MayFeed phase (slice_get parts m)
    → MayFeed phase (slice_get (parts ++ more) m)
feeds_kept parts more phase m h = by_part (slice_get parts m) refl h
  where
    by_part : (o : Option Part) → slice_get parts m ≡ o → MayFeed phase o → MayFeed phase (slice_get (parts ++ more) m)
    by_part None e h = absurd h
    by_part (Some p) e h = subst (MayFeed phase) (sym (get_kept parts more m p e)) h

stands_kept : (parts more : List Part) (n : ℕ) (p : Part) → Stands parts n p → Stands (parts ++ more) n p
stands_kept parts more n Input h = tt
stands_kept parts more n (Gate inputs) h = h
stands_kept parts more n (Latch phase None) h = tt
stands_kept parts more n (Latch phase (Some m)) h = feeds_kept parts more phase m.0 h

-- one more part
pub is_net_push : (parts : List Part) (p : Part) → IsNet parts → length parts + 1 < net_limit
    → gate_inputs parts + fan_in p < net_limit
    → Stands (parts ++ p ∷ []) (length parts) p → IsNet (parts ++ p ∷ [])
is_net_push parts p h few fewer fits = record {
  few_nets = grind (arith, Rattle.std.proofs.lemmas.Grind.common_steps);
  few_inputs = let e = inputs_push parts p in omega (arith, e);
  stand = λ n q e. by_place n q (get_push parts p n q e);
}
  where
    by_place : (n : ℕ) (q : Part) → (slice_get parts n ≡ Some q) ⊎ ((n ≡ length parts) × (p ≡ q))
        → Stands (parts ++ p ∷ []) n q
    by_place n q (inl e) = stands_kept parts (p ∷ []) n q (h.stand n q e)
    by_place n q (inr e) =
        subst (λ x. Stands (parts ++ p ∷ []) x q) (sym e.0) (subst (Stands (parts ++ p ∷ []) (length parts)) e.1 fits)

-- the same after a push that may be refused
pub is_net_pushed : {T E : Type 0} (r : Result T E) (parts new : List Part) (p : Part)
    → OnOk r (new ≡ parts ++ p ∷ []) → OnErr r (new ≡ parts) → IsNet parts
    → length parts + 1 < net_limit → gate_inputs parts + fan_in p < net_limit
    → Stands (parts ++ p ∷ []) (length parts) p
    → IsNet new
is_net_pushed (Ok t) parts new p ok err h few fewer fits = subst IsNet (sym ok) (is_net_push parts p h few fewer fits)
is_net_pushed (Err e) parts new p ok err h few fewer fits = subst IsNet (sym err) h

-- ---- a latch that is fed

get_set : {Y : Type 0} (xs : List Y) (i : ℕ) (x : Y) (n : ℕ) (y : Y) → slice_get (slice_set xs i x) n ≡ Some y
    → ((n ≡ i) × (x ≡ y) × (i < length xs)) ⊎ ((n ≡ i → ⊥) × (slice_get xs n ≡ Some y))
get_set [] i x n y e = absurd (none-some y e)
get_set (z ∷ zs) zero x zero y e = inl (refl, same_Some x y e, omega arith)
get_set (z ∷ zs) zero x (suc n) y e = inr (λ q. absurd (omega arith), e)
get_set (z ∷ zs) (suc i) x zero y e = inr (λ q. absurd (omega arith), e)
get_set (z ∷ zs) (suc i) x (suc n) y e =
    elim (get_set zs i x n y e) [
      | inl h ↦ inl (omega (arith, h.0), h.1, omega (arith, h.2))
      | inr h ↦ inr (λ q. h.0 (omega arith), h.1)
    ]

inputs_set : (parts : List Part) (i : ℕ) (p q : Part) → slice_get parts i ≡ Some p → fan_in q ≡ fan_in p
    → gate_inputs (slice_set parts i q) ≡ gate_inputs parts
inputs_set parts i p q e f =
    let old = ap fan_in (get_or_from_slice_get parts i p p e) in
    let change = sum_by-set fan_in parts i q p (slice_get_within parts i p e) in
    omega (arith, f, old, change)

module _ (parts : List Part) (l : ℕ) (phase : Phase) (source : NetId)
    (free : slice_get parts l ≡ Some (Latch phase None)) where
  abbrev after : List Part
  after = slice_set parts l (Latch phase (Some source))

  not_latch : (p : Phase) (m : ℕ) → MayFeed p (slice_get parts m) → m ≡ l → ⊥
  not_latch p m h e = subst (MayFeed p) (ap (slice_get parts) e ∙ free) h

  feeds_after : (p : Phase) (m : ℕ) → MayFeed p (slice_get parts m) → MayFeed p (slice_get after m)
  feeds_after p m h = subst (MayFeed p) (sym (get_set_other parts l (Latch phase (Some source)) m (not_latch p m h))) h

  stands_after : (n : ℕ) (q : Part) → Stands parts n q → Stands after n q
  stands_after n Input h = tt
  stands_after n (Gate inputs) h = h
  stands_after n (Latch p None) h = tt
  stands_after n (Latch p (Some m)) h = feeds_after p m.0 h

  pub is_net_fed : IsNet parts → MayFeed phase (slice_get parts source.0) → IsNet after
  is_net_fed h feeds = record {
    few_nets = let e = length-set parts l (Latch phase (Some source)) in let f = h.few_nets in omega (arith, e, f);
    few_inputs = let e = inputs_set parts l (Latch phase None) (Latch phase (Some source)) free refl in
        let f = h.few_inputs in omega (arith, e, f);
    stand = λ n q e. by_place n q (get_set parts l (Latch phase (Some source)) n q e);
  }
    where
      by_place : (n : ℕ) (q : Part)
          → ((n ≡ l) × (Latch phase (Some source) ≡ q) × (l < length parts))
          ⊎ ((n ≡ l → ⊥) × (slice_get parts n ≡ Some q)) → Stands after n q
      by_place n q (inl e) = subst (Stands after n) e.1 (feeds_after phase source.0 feeds)
      by_place n q (inr e) = stands_after n q (h.stand n q e.1)

-- a latch that may take its data is one without data
pub taken : (o s : Option Part) → MayTake o s → (phase : Phase) × (o ≡ Some (Latch phase None)) × MayFeed phase s
taken None s h = absurd h
taken (Some Input) s h = absurd h
taken (Some (Gate inputs)) s h = absurd h
taken (Some (Latch phase (Some m))) s h = absurd h
taken (Some (Latch phase None)) s h = (phase, refl, h)
