-- Finitely many nets have settled values: rounds from X, until none changes.
use Rattle.std.proofs.Common.{◌≡◌, ℕ, ◌<◌, ◌≤◌, ◌+◌, zero, suc, ◌⊎◌, inl, inr, List, [], ◌∷◌, Option, Some, None, Bool}
use Rattle.std.proofs.Common.{true, false, cond, refl, sym, ◌∙◌, ap, arith}
use Rattle.std.specs.Prelude.{All}
use Rattle.std.proofs.lemmas.List.Elements.{All-contains}
use Rattle.mp_base.specs.declared.value.Trit.{Trit}
use Rattle.mp_base.specs.declared.value.Trit.TheVariants.{Zero, One, X}
use Rattle.nor_net.specs.Elements.{Spot, Element, Given, Nor, Latched, Joined, Low}
use Rattle.nor_net.specs.Settled.{Setting, gives, is_open, IsSolution, IsBelow, IsSettled}
use Rattle.nor_net.specs.Laws.{Covers, SettledExists}
use Rattle.nor_net.specs.Passing.{unknown}
use Rattle.nor_net.proofs.Values.{Below, nor_grows}

-- how many of these are X
abbrev unknowns : (Spot → Trit) → List Spot → ℕ
unknowns v [] = 0
unknowns v (n ∷ ns) = unknown (v n) + unknowns v ns

one_less : (t u : Trit) → Below t u → (t ≡ u) ⊎ (unknown u < unknown t)
one_less t u (inr e) = inl e
one_less X X (inl e) = inl refl
one_less X Zero (inl e) = inr (omega arith)
one_less X One (inl e) = inr (omega arith)
one_less Zero u (inl e) = absurd (cc)
one_less One u (inl e) = absurd (cc)

all_less : (v w : Spot → Trit) → IsBelow v w → (ns : List Spot)
    → All (λ n. v n ≡ w n) ns ⊎ (unknowns w ns < unknowns v ns)
all_less v w h [] = inl (λ k d l. absurd (omega arith))
all_less v w h (n ∷ ns) = by_both (one_less (v n) (w n) (h n)) (all_less v w h ns)
  where
    by_both : (v n ≡ w n) ⊎ (unknown (w n) < unknown (v n)) → All (λ n. v n ≡ w n) ns ⊎ (unknowns w ns < unknowns v ns)
        → All (λ n. v n ≡ w n) (n ∷ ns) ⊎ (unknowns w (n ∷ ns) < unknowns v (n ∷ ns))
    by_both (inl e) (inl r) = inl each
      where
        each : All (λ n. v n ≡ w n) (n ∷ ns)
        each zero d l = e
        each (suc k) d l = r k d (omega arith)
    by_both (inl e) (inr r) = let same : unknown (v n) ≡ unknown (w n) = ap unknown e in inr (omega arith)
    by_both (inr l) (inl r) = let same : unknowns w ns ≡ unknowns v ns = same_unknowns ns r in inr (omega arith)
      where
        same_unknowns : (ms : List Spot) → All (λ n. v n ≡ w n) ms → unknowns w ms ≡ unknowns v ms
        same_unknowns [] r = refl
        same_unknowns (m ∷ ms) r =
            let e : v m ≡ w m = r 0 m (omega arith) in
            let rest : unknowns w ms ≡ unknowns v ms = same_unknowns ms (λ k d l. r (suc k) d (omega arith)) in
            ap (λ t. unknown t + unknowns w ms) (sym e) ∙ ap (λ x. unknown (v m) + x) rest
    by_both (inr l) (inr r) = inr (omega arith)

module _ (s : Setting) where
  abbrev gives_any : (Spot → Trit) → Spot → Option Element → Trit
  gives_any v n None = X
  gives_any v n (Some e) = gives s v n e

  abbrev round : (Spot → Trit) → Spot → Trit
  round v n = gives_any v n (s.nets n)

  gives_grow : (v w : Spot → Trit) → IsBelow v w → (n : Spot) (e : Option Element)
      → Below (gives_any v n e) (gives_any w n e)
  gives_grow v w h n None = inl refl
  gives_grow v w h n (Some Given) = inr refl
  gives_grow v w h n (Some (Nor inputs)) = nor_grows v w h inputs
  gives_grow v w h n (Some (Latched phase source)) = by_phase (is_open s.phase phase)
    where
      by_phase : (b : Bool) → Below (cond b (v source) (s.before n)) (cond b (w source) (s.before n))
      by_phase true = h source
      by_phase false = inr refl
  gives_grow v w h n (Some (Joined other)) = h other
  gives_grow v w h n (Some Low) = inr refl

  round_grows : (v w : Spot → Trit) → IsBelow v w → IsBelow (round v) (round w)
  round_grows v w h n = gives_grow v w h n (s.nets n)

  -- values on the way: below their round and below every solution
  record Rising (v : Spot → Trit) : Type 0 where
    pub up : IsBelow v (round v)
    pub least : (w : Spot → Trit) → IsSolution s w → IsBelow v w

  round_below : (v w : Spot → Trit) → IsBelow v w → IsSolution s w → IsBelow (round v) w
  round_below v w h sol n = by_net (s.nets n) refl (round_grows v w h n)
    where
      by_net : (o : Option Element) → s.nets n ≡ o → Below (gives_any v n (s.nets n)) (gives_any w n (s.nets n))
          → Below (gives_any v n (s.nets n)) (w n)
      by_net None q b = inl (ap (gives_any v n) q)
      by_net (Some e) q (inl x) = inl x
      by_net (Some e) q (inr x) = inr (x ∙ ap (gives_any w n) q ∙ sym (sol n e q))

  next : (v : Spot → Trit) → Rising v → Rising (round v)
  next v r = record { up = round_grows v (round v) r.up; least = λ w sol. round_below v w (r.least w sol) sol }

  stands : (cover : List Spot) → Covers cover s.nets → (v : Spot → Trit) → Rising v → All (λ n. v n ≡ round v n) cover
      → IsSettled s v
  stands cover covers v r h = record {
    solution = λ n e q. All-contains (λ n. v n ≡ round v n) cover n h (covers n e q) ∙ ap (gives_any v n) q;
    least = r.least;
  }

  module _ (cover : List Spot) (covers : Covers cover s.nets) where
    step : (k : ℕ) (v : Spot → Trit) → unknowns v cover ≤ k → Rising v
        → All (λ n. v n ≡ round v n) cover ⊎ (unknowns (round v) cover < unknowns v cover)
        → (w : Spot → Trit) × IsSettled s w
    step k v l r (inl h) = (v, stands cover covers v r h)
    step zero v l r (inr fewer) = absurd (omega arith)
    step (suc k) v l r (inr fewer) =
        let again = next v r in
        step k (round v) (omega arith) again (all_less (round v) (round (round v)) again.up cover)

    settle : (v : Spot → Trit) → Rising v → (w : Spot → Trit) × IsSettled s w
    settle v r = step (unknowns v cover) v (omega arith) r (all_less v (round v) r.up cover)

-- what an element gives grows with the values
pub gives_grows : (s : Setting) (v w : Spot → Trit) → IsBelow v w → (n : Spot) (e : Element)
    → Below (gives s v n e) (gives s w n e)
gives_grows s v w h n e = gives_grow s v w h n (Some e)

pub settled_exists : SettledExists
settled_exists s cover covers =
    settle s cover covers (λ n. X) (record { up = λ n. inl refl; least = λ w sol n. inl refl })
