-- In an ordered setting there is one solution.
use Rattle.std.proofs.Common.{◌≡◌, ℕ, ◌<◌, Option, Some, None, zero, suc, refl, sym, ◌∙◌, inr, arith}
use Rattle.std.specs.Prelude.{Contains}
use Rattle.mp_base.specs.declared.value.Trit.{Trit}
use Rattle.mp_base.specs.declared.value.Trit.TheVariants.{Zero, One}
use Rattle.mp_base.proofs.Values.{same_trit}
use Rattle.switch_net.specs.declared.network.ChannelKind.{ChannelKind}
use Rattle.switch_net.specs.declared.network.ChannelKind.TheVariants.{Enhancement, Depletion, Partial}
use Rattle.switch_net.specs.declared.network.Channel.{Channel}
use Rattle.switch_net.specs.Settled.{Setting, KindMayBeOn, MayBeOn, Gives, IsSolution, IsSettled}
use Rattle.switch_net.specs.Laws.{GivesAlongReach}
use Rattle.settle_laws.specs.Ordered.{IsCut, IsOrdered}
use Rattle.settle_laws.proofs.Agreeing.{Agree, agree_gives}

not_cut : (s : Setting) (u : ℕ → Trit) → IsSolution s u → (c : Channel) → MayBeOn u c → IsCut s c → ⊥
not_cut s u sol c may cut = off c.kind (u c.gate) cut.0 (sol.driven c.gate Zero cut.1) may
  where
    off : (k : ChannelKind) (t : Trit) → k ≡ Enhancement → t ≡ Zero → KindMayBeOn k t → ⊥
    off Enhancement t e z h = h z
    off Depletion t e z h = cc
    off Partial t e z h = cc

module _ (law : GivesAlongReach) (s : Setting) (r : ℕ → ℕ) (ordered : IsOrdered s r) where
  abbrev Rank : ℕ → ℕ → Type 0
  Rank k n = (s.driver n ≡ None) × (r n ≡ k)

  agrees : (u w : ℕ → Trit) → IsSolution s u → IsSolution s w → (k : ℕ)
      → ((m : ℕ) → r m < k → s.driver m ≡ None → w m ≡ u m) → Agree s s u w (Rank k)
  agrees u w f h k below = record {
    channels = λ c in'. in';
    free = λ n q. q.0;
    before = λ n q. refl;
    gate = λ c n in' at q e. gate c n in' at q e (s.driver c.gate) refl;
    driver = λ c n a in' at q may at_a. refl;
    ends = λ c n a in' at q may at_a none.
        (none, ordered.joined c a n in' (not_cut s u f c may) at_a at none q.0 ∙ q.1);
  }
    where
      gate : (c : Channel) (n : ℕ) → Contains s.channels c → Contains c.ends n → Rank k n → c.kind ≡ Enhancement
          → (d : Option Trit) → s.driver c.gate ≡ d → w c.gate ≡ u c.gate
      gate c n in' at q e None d =
          below c.gate (let lt = ordered.gates c n in' e d at q.0 in let y = q.1 in omega arith) d
      gate c n in' at q e (Some t) d = h.driven c.gate t d ∙ sym (f.driven c.gate t d)

  same_below : (u w : ℕ → Trit) → IsSolution s u → IsSolution s w → (k m : ℕ) → r m < k → s.driver m ≡ None → w m ≡ u m
  same_below u w f h zero m lt free = absurd (omega arith)
  same_below u w f h (suc k) m lt free =
      same_trit (w m) (u m)
      (λ e. (f.zero m free).1 (to_u (same_below u w f h k) Zero ((h.zero m free).0 e)))
      (λ e. (h.zero m free).1 (to_w (same_below u w f h k) Zero ((f.zero m free).0 e)))
      (λ e. (f.one m free).1 (to_u (same_below u w f h k) One ((h.one m free).0 e)))
      (λ e. (h.one m free).1 (to_w (same_below u w f h k) One ((f.one m free).0 e)))
    where
      low : ((n : ℕ) → r n < k → s.driver n ≡ None → w n ≡ u n) → (n : ℕ) → r n < r m → s.driver n ≡ None → w n ≡ u n
      low again n l free_n = again n (omega arith) free_n

      forth : ((n : ℕ) → r n < k → s.driver n ≡ None → w n ≡ u n) → Agree s s u w (Rank (r m))
      forth again = agrees u w f h (r m) (low again)

      back : ((n : ℕ) → r n < k → s.driver n ≡ None → w n ≡ u n) → Agree s s w u (Rank (r m))
      back again = agrees w u h f (r m) (λ n l free_n. sym (low again n l free_n))

      to_w : ((n : ℕ) → r n < k → s.driver n ≡ None → w n ≡ u n) → (b : Trit) → Gives s u m b → Gives s w m b
      to_w again b g = agree_gives law s s u w (Rank (r m)) (forth again) (back again) m b (free, refl) g

      to_u : ((n : ℕ) → r n < k → s.driver n ≡ None → w n ≡ u n) → (b : Trit) → Gives s w m b → Gives s u m b
      to_u again b g = agree_gives law s s w u (Rank (r m)) (back again) (forth again) m b (free, refl) g

  -- there is one solution: whatever finds it finds the least
  pub solution_settles : (w : ℕ → Trit) → IsSolution s w → IsSettled s w
  solution_settles w h = record { solution = h; least = λ u f n. inr (at u f n (s.driver n) refl) }
    where
      at : (u : ℕ → Trit) → IsSolution s u → (n : ℕ) (d : Option Trit) → s.driver n ≡ d → w n ≡ u n
      at u f n None e = same_below u w f h (suc (r n)) n (omega arith) e
      at u f n (Some t) e = h.driven n t e ∙ sym (f.driven n t e)
