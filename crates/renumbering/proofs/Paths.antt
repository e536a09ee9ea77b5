-- What a network gives a node, a renumbered one gives the node that stands for it.
use Rattle.std.proofs.Common.{ℕ, zero, suc, ◌≡◌, ◌<◌, inl, inr, refl, sym, ◌∙◌, ap, subst, subst₂, arith, List, [], ◌∷◌}
use Rattle.std.proofs.Common.{length, get_or, Contains}
use Rattle.std.specs.Prelude.{◌≢◌, All, Any, Option, IsSome}
use Rattle.std.specs.List.{AllZip}
use Rattle.std.proofs.lemmas.List.{get_or_default}
use Rattle.std.proofs.lemmas.List.Elements.{All-nil, All-cons, All-head, All-tail}
use Rattle.mp_base.specs.declared.value.Trit.{Trit}
use Rattle.switch_net.specs.declared.network.ChannelKind.TheVariants.{Depletion}
use Rattle.switch_net.specs.declared.network.Channel.{Channel}
use Rattle.switch_net.specs.declared.network.Network.{Network}
use Rattle.switch_net.specs.Settled.{KindIsOn, KindMayBeOn, IsOn, MayBeOn, Path, IsStrong, IsPossible, IsAgainst}
use Rattle.switch_net.specs.Settled.{IsStronglyHeld, IsWeaklyHeld, IsKept, Gives}
use Rattle.renumbering.specs.Same.{SameChannel, Renumbering, AreAlike}
use Rattle.renumbering.specs.Laws.{setting}
use Rattle.renumbering.proofs.Composing.{end_in, gate_in, flip, alike_back}

-- ---- lists whose elements stand for each other

module _ {A B : Type 0} (R : A → B → Type 0) (P : A → Type 0) (Q : B → Type 0) (f : (a : A) (b : B) → R a b → P a
    → Q b) where
  all_there : (xs : List A) (ys : List B) → AllZip R xs ys → All P xs → All Q ys
  all_there [] [] z h = All-nil Q
  all_there [] (y ∷ ys) z h = absurd z
  all_there (x ∷ xs) [] z h = absurd z
  all_there (x ∷ xs) (y ∷ ys) z h =
      All-cons Q y ys (f x y z.0 (All-head P x xs h)) (all_there xs ys z.1 (All-tail P x xs h))

  some_there : (xs : List A) (ys : List B) → AllZip R xs ys → (k : ℕ) (d : A) → k < length xs → P (get_or xs k d)
      → Any Q ys
  some_there [] ys z k d lt p = absurd (omega (arith, lt))
  some_there (x ∷ xs) [] z k d lt p = absurd z
  some_there (x ∷ xs) (y ∷ ys) z zero d lt p = (0, y, omega arith, refl, f x y z.0 p)
  some_there (x ∷ xs) (y ∷ ys) z (suc k) d lt p =
      let w = some_there xs ys z.1 k d (omega (arith, lt)) p in
      (suc w.0, w.1, omega (arith, w.2), w.3, w.4)

  any_there : (xs : List A) (ys : List B) → AllZip R xs ys → Any P xs → Any Q ys
  any_there xs ys z (k, x, lt, e, p) = some_there xs ys z k x lt (subst P (sym e) p)

-- ---- paths

module _ (n m : Network) (r : Renumbering n m) where
  -- a channel, and the one that stands for it
  pub record Stands (c d : Channel) : Type 0 where
    pub has : Contains n.channels c
    pub same : SameChannel r.node c d

  stands_for : (c : Channel) → Contains n.channels c → (d : Channel) × Contains m.channels d × Stands c d
  stands_for c (k, lt, e) =
      let j : ℕ = r.channel k in
      let d : Channel = get_or m.channels j c in (
        d,
        (j, r.channels.within k lt, get_or_default m.channels j d c (r.channels.within k lt)),
        record { has = (k, lt, e); same = subst (λ z. SameChannel r.node z d) e (r.same k c c lt) },
      )

  module _ (driver other : ℕ → Option Trit) (before past : ℕ → Trit) (drives : AreAlike n m r driver other) where
    -- a path ends at a node, or is empty
    pub start_in : (a : ℕ) (cs : List Channel) (b : ℕ) → Path (setting n driver before) a cs b → b < n.nodes
        → a < n.nodes
    start_in a [] b e lt = subst (λ k. k < n.nodes) (sym e) lt
    start_in a (c ∷ cs) b (mid, p, has, from, to, free) lt = start_in a cs mid p (end_in n c mid has from)

    pub path_there : (a : ℕ) (cs : List Channel) (b : ℕ) → Path (setting n driver before) a cs b → b < n.nodes
        → (ds : List Channel) × Path (setting m other past) (r.node a) ds (r.node b) × AllZip Stands cs ds
    path_there a [] b e lt = ([], ap r.node e, tt)
    path_there a (c ∷ cs) b (mid, p, has, from, to, free) lt =
        let d = stands_for c has in
        let rest = path_there a cs mid p (end_in n c mid has from) in
        let ends = d.2.same.ends in (
          d.0 ∷ rest.0,
          (
            r.node mid,
            rest.1,
            d.1,
            (ends (r.node mid)).1 (mid, from, refl),
            (ends (r.node b)).1 (b, to, refl),
            sym (drives b lt) ∙ free,
          ),
          (d.2, rest.2),
        )

  -- kinds and gates stand for each other
  pub strong_there : (c d : Channel) → Stands c d → c.kind ≢ Depletion → d.kind ≢ Depletion
  strong_there c d s ne e = ne (s.same.kind ∙ e)

  pub weak_there : (c d : Channel) → Stands c d → c.kind ≡ Depletion → d.kind ≡ Depletion
  weak_there c d s e = sym s.same.kind ∙ e

  module _ (v w : ℕ → Trit) (alike : AreAlike n m r v w) where
    gate_there : (c d : Channel) → Stands c d → v c.gate ≡ w d.gate
    gate_there c d s = alike c.gate (gate_in n c s.has) ∙ ap w s.same.gate

    pub on_there : (c d : Channel) → Stands c d → IsOn v c → IsOn w d
    on_there c d s h = subst₂ KindIsOn s.same.kind (gate_there c d s) h

    pub may_there : (c d : Channel) → Stands c d → MayBeOn v c → MayBeOn w d
    may_there c d s h = subst₂ KindMayBeOn s.same.kind (gate_there c d s) h

-- ---- what is given

module _ (n m : Network) (r : Renumbering n m) (driver other : ℕ → Option Trit) (before past : ℕ → Trit)
    (drives : AreAlike n m r driver other) (keeps : AreAlike n m r before past) (v w : ℕ → Trit)
    (alike : AreAlike n m r v w)
    (k : ℕ) (low : k < n.nodes) (b : Trit) where
  -- a path to the node that stands for k, and the one that it stands for
  record Back (a : ℕ) (ds : List Channel) : Type 0 where
    start : a < m.nodes
    channels : List Channel
    path : Path (setting n driver before) (r.node_back a) channels k
    stand : AllZip (Stands m n (flip n m r)) ds channels

  come_back : (a : ℕ) (ds : List Channel) → Path (setting m other past) a ds (r.node k) → Back a ds
  come_back a ds p =
      let there = r.nodes.within k low in
      let q = path_there m n (flip n m r) other driver past before (alike_back n m r driver other drives) a ds
      (r.node k) p there in
      record {
        start =
            start_in m n (flip n m r) other driver past before (alike_back n m r driver other drives) a ds
            (r.node k) p there;
        channels = q.0;
        path = subst (λ z. Path (setting n driver before) (r.node_back a) q.0 z) (r.nodes.there_back k low) q.1;
        stand = q.2;
      }

  abbrev R : Channel → Channel → Type 0
  R = Stands n m r

  abbrev B : Channel → Channel → Type 0
  B = Stands m n (flip n m r)

  possible_back : (ds cs : List Channel) → AllZip B ds cs → IsPossible w ds → IsPossible v cs
  possible_back ds cs z h =
      all_there B (MayBeOn w) (MayBeOn v) (may_there m n (flip n m r) w v (alike_back n m r v w alike)) ds cs z h

  strong_back : (ds cs : List Channel) → AllZip B ds cs → IsStrong ds → IsStrong cs
  strong_back ds cs z h =
      all_there B (λ c. c.kind ≢ Depletion) (λ c. c.kind ≢ Depletion) (strong_there m n (flip n m r)) ds cs z h

  driver_back : (a : ℕ) → a < m.nodes → other a ≡ driver (r.node_back a)
  driver_back a lt = alike_back n m r driver other drives a lt

  against_back : (a : ℕ) → a < m.nodes → IsAgainst (setting m other past) b a
      → IsAgainst (setting n driver before) b (r.node_back a)
  against_back a lt (t, e, ne) = (t, sym (driver_back a lt) ∙ e, ne)

  strongly : IsStronglyHeld (setting n driver before) v k b → IsStronglyHeld (setting m other past) w (r.node k) b
  strongly h =
      let (a, cs, e, p, strong, on) = h.held in
      let q = path_there n m r driver other before past drives a cs k p low in
      record {
        held = (
          r.node a,
          q.0,
          sym (drives a (start_in n m r driver other before past drives a cs k p low)) ∙ e,
          q.1,
          all_there R (λ c. c.kind ≢ Depletion) (λ c. c.kind ≢ Depletion) (strong_there n m r) cs q.0 q.2 strong,
          all_there R (IsOn v) (IsOn w) (on_there n m r v w alike) cs q.0 q.2 on,
        );
        unopposed = λ x ds against path strong' may. (let z = come_back x ds path in
            h.unopposed (r.node_back x) z.channels (against_back x z.start against) z.path
            (strong_back ds z.channels z.stand strong') (possible_back ds z.channels z.stand may));
      }

  weakly : IsWeaklyHeld (setting n driver before) v k b → IsWeaklyHeld (setting m other past) w (r.node k) b
  weakly h =
      let (a, cs, e, p, weak, on) = h.held in
      let q = path_there n m r driver other before past drives a cs k p low in
      record {
        held = (
          r.node a,
          q.0,
          sym (drives a (start_in n m r driver other before past drives a cs k p low)) ∙ e,
          q.1,
          any_there R (λ c. c.kind ≡ Depletion) (λ c. c.kind ≡ Depletion) (weak_there n m r) cs q.0 q.2 weak,
          all_there R (IsOn v) (IsOn w) (on_there n m r v w alike) cs q.0 q.2 on,
        );
        unopposed = λ x ds against path may. (let z = come_back x ds path in
            h.unopposed (r.node_back x) z.channels (against_back x z.start against) z.path
            (possible_back ds z.channels z.stand may));
      }

  kept : IsKept (setting n driver before) v k b → IsKept (setting m other past) w (r.node k) b
  kept h = record {
    alone = λ x ds some path may. (let z = come_back x ds path in
        h.alone (r.node_back x) z.channels (subst IsSome (driver_back x z.start) some) z.path
        (possible_back ds z.channels z.stand may));
    charged = λ x ds path may. (let z = come_back x ds path in
        alike_back n m r before past keeps x z.start
        ∙ h.charged (r.node_back x) z.channels z.path (possible_back ds z.channels z.stand may));
  }

  pub gives_there : Gives (setting n driver before) v k b → Gives (setting m other past) w (r.node k) b
  gives_there (inl h) = inl (strongly h)
  gives_there (inr (inl h)) = inr (inl (weakly h))
  gives_there (inr (inr h)) = inr (inr (kept h))
