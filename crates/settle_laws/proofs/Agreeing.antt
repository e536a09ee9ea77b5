-- Nodes that reach the same in two settings are given the same.
use Rattle.std.proofs.Common.{◌≡◌, ℕ, Some, None, refl, sym, ◌∙◌, subst, inl, inr, ◌⊎◌}
use Rattle.std.specs.Prelude.{IsSome, Contains}
use Rattle.mp_base.specs.declared.value.Trit.{Trit}
use Rattle.mp_base.proofs.Entries.{none_or_some}
use Rattle.switch_net.specs.declared.network.ChannelKind.{ChannelKind}
use Rattle.switch_net.specs.declared.network.ChannelKind.TheVariants.{Enhancement, Depletion, Partial}
use Rattle.switch_net.specs.declared.network.Channel.{Channel}
use Rattle.switch_net.specs.Settled.{Setting, KindIsOn, KindMayBeOn, IsOn, MayBeOn, IsAgainst, Gives}
use Rattle.switch_net.specs.Reaching.{Reach, here, over, IsStrongOn, MayBeStrongOn, IsFor, IsForeign, GivesByReach}
use Rattle.switch_net.specs.Laws.{GivesAlongReach}
use Rattle.switch_net.proofs.SwitchKinds.{on_may_be_on}

-- two settings of the same channels that agree at nodes, at the gates of the channels there, and at what these join
pub record Agree (s t : Setting) (v w : ℕ → Trit) (K : ℕ → Type 0) : Type 0 where
  pub channels : (c : Channel) → Contains s.channels c → Contains t.channels c
  pub free : (n : ℕ) → K n → t.driver n ≡ None
  pub before : (n : ℕ) → K n → t.before n ≡ s.before n
  pub gate : (c : Channel) (n : ℕ) → Contains s.channels c → Contains c.ends n → K n → c.kind ≡ Enhancement
      → w c.gate ≡ v c.gate
  pub driver : (c : Channel) (n a : ℕ) → Contains s.channels c → Contains c.ends n → K n → MayBeOn v c
      → Contains c.ends a → t.driver a ≡ s.driver a
  pub ends : (c : Channel) (n a : ℕ) → Contains s.channels c → Contains c.ends n → K n → MayBeOn v c
      → Contains c.ends a → s.driver a ≡ None → K a

on_same : (k : ChannelKind) (t u : Trit) → (k ≡ Enhancement → u ≡ t) → KindIsOn k t → KindIsOn k u
on_same Enhancement t u e h = e refl ∙ h
on_same Depletion t u e h = tt
on_same Partial t u e h = h

pub may_same : (k : ChannelKind) (t u : Trit) → (k ≡ Enhancement → u ≡ t) → KindMayBeOn k t → KindMayBeOn k u
may_same Enhancement t u e h = λ z. h (sym (e refl) ∙ z)
may_same Depletion t u e h = tt
may_same Partial t u e h = tt

module _ (s t : Setting) (v w : ℕ → Trit) (K : ℕ → Type 0) (g : Agree s t v w K) where
  -- what reaches one of these nodes reaches it in both
  pub reach_agrees : (P Q : Channel → Type 0) (F G : ℕ → Type 0) → ((c : Channel) → P c → MayBeOn v c)
      → ((c : Channel) (n : ℕ) → Contains s.channels c → Contains c.ends n → K n → P c → Q c)
      → ((a : ℕ) → K a → F a → G a) → ((a : ℕ) → t.driver a ≡ s.driver a → IsSome (s.driver a) → F a → G a)
      → (n : ℕ) → K n → Reach s P F n → Reach t Q G n
  reach_agrees P Q F G may ok in_k driven n k (here f) = here (in_k n k f)
  reach_agrees P Q F G may ok in_k driven n k (over {a} c r in' at_a at_n free okc) =
      over c (from r (λ k_a. reach_agrees P Q F G may ok in_k driven a k_a r) (none_or_some (s.driver a)))
      (g.channels c in') at_a at_n (g.free n k) (ok c n in' at_n k okc)
    where
      same : t.driver a ≡ s.driver a
      same = g.driver c n a in' at_n k (may c okc) at_a

      at_driver : Reach s P F a → IsSome (s.driver a) → Reach t Q G a
      at_driver (here f) d = here (driven a same d f)
      at_driver (over _ _ _ _ _ none _) d =
          absurd (let q : IsSome (s.driver a) = d in let e : s.driver a ≡ None = none in cc)

      from : Reach s P F a → (K a → Reach t Q G a) → (s.driver a ≡ None) ⊎ IsSome (s.driver a) → Reach t Q G a
      from q again (inl e) = again (g.ends c n a in' at_n k (may c okc) at_a e)
      from q again (inr d) = at_driver q d

-- two settings that agree both ways
module _ (law : GivesAlongReach) (s t : Setting) (v w : ℕ → Trit) (K : ℕ → Type 0) (g : Agree s t v w K)
    (back : Agree t s w v K) where
  pub agree_gives : (n : ℕ) (b : Trit) → K n → Gives s v n b → Gives t w n b
  agree_gives n b k given = (law t w n b).1 (by_sets ((law s v n b).0 given))
    where
      for_driven : (a : ℕ) → t.driver a ≡ s.driver a → IsSome (s.driver a) → IsFor s b a → IsFor t b a
      for_driven a e d f = e ∙ f

      for_in : (a : ℕ) → K a → IsFor s b a → IsFor t b a
      for_in a k f = absurd (let x = back.free a k in let y : s.driver a ≡ Some b = f in cc)

      against_driven : (a : ℕ) → s.driver a ≡ t.driver a → IsSome (t.driver a) → IsAgainst t b a → IsAgainst s b a
      against_driven a e d f = (f.0, e ∙ f.1, f.2)

      against_in : (a : ℕ) → K a → IsAgainst t b a → IsAgainst s b a
      against_in a k f = absurd (let x = g.free a k in let y : t.driver a ≡ Some f.0 = f.1 in cc)

      foreign_driven : (a : ℕ) → s.driver a ≡ t.driver a → IsSome (t.driver a) → IsForeign t b a → IsForeign s b a
      foreign_driven a e d f = inl (subst IsSome (sym e) d)

      foreign_in : (a : ℕ) → K a → IsForeign t b a → IsForeign s b a
      foreign_in a k (inl d) = absurd (let q : IsSome (t.driver a) = d in let e : t.driver a ≡ None = g.free a k in cc)
      foreign_in a k (inr ne) = inr (λ e. ne (g.before a k ∙ e))

      on : (c : Channel) (n : ℕ) → Contains s.channels c → Contains c.ends n → K n → IsOn v c → IsOn w c
      on c n in' at k h = on_same c.kind (v c.gate) (w c.gate) (g.gate c n in' at k) h

      may : (c : Channel) (n : ℕ) → Contains t.channels c → Contains c.ends n → K n → MayBeOn w c → MayBeOn v c
      may c n in' at k h = may_same c.kind (w c.gate) (v c.gate) (back.gate c n in' at k) h

      by_sets : GivesByReach s v n b → GivesByReach t w n b
      by_sets (inl h) = inl (
        reach_agrees s t v w K g (IsStrongOn v) (IsStrongOn w) (IsFor s b) (IsFor t b)
            (λ c i. on_may_be_on c.kind (v c.gate) i.1)
            (λ c m in' at q i. (i.0, on c m in' at q i.1)) for_in for_driven n k h.0,
        λ o. h.1
            (reach_agrees t s w v K back (MayBeStrongOn w) (MayBeStrongOn v) (IsAgainst t b) (IsAgainst s b)
            (λ c i. i.1)
            (λ c m in' at q i. (i.0, may c m in' at q i.1)) against_in against_driven n k o),
      )
      by_sets (inr (inl h)) = inr (inl (
        reach_agrees s t v w K g (IsOn v) (IsOn w) (IsFor s b) (IsFor t b)
            (λ c i. on_may_be_on c.kind (v c.gate) i) on for_in for_driven n k h.0,
        λ o. h.1
            (reach_agrees t s w v K back (MayBeOn w) (MayBeOn v) (IsAgainst t b) (IsAgainst s b)
            (λ c i. i) may against_in against_driven n k o),
      ))
      by_sets (inr (inr none)) =
          inr (inr
          (λ o. none
          (reach_agrees t s w v K back (MayBeOn w) (MayBeOn v) (IsForeign t b) (IsForeign s b)
          (λ c i. i) may foreign_in foreign_driven n k o)))
