-- Values that grow, and the least solution by rounds.
use Rattle.std.proofs.Common.{◌≡◌, ℕ, List, [], Option, Some, None, refl, sym, ◌∙◌, inl, inr, ◌⊎◌, arith}
use Rattle.std.specs.Prelude.{◌≢◌}
use Rattle.std.proofs.lemmas.List.Elements.{All-weaker}
use Rattle.mp_base.specs.declared.value.Trit.{Trit}
use Rattle.mp_base.specs.declared.value.Trit.TheVariants.{Zero, One, X}
use Rattle.mp_base.proofs.Values.{same_if_below}
use Rattle.switch_net.specs.declared.network.ChannelKind.{ChannelKind}
use Rattle.switch_net.specs.declared.network.ChannelKind.TheVariants.{Enhancement, Depletion, Partial}
use Rattle.switch_net.specs.declared.network.Channel.{Channel}
use Rattle.switch_net.specs.Settled.{Setting, KindIsOn, KindMayBeOn, IsOn, MayBeOn, IsDefinite, IsPossible, Gives}
use Rattle.switch_net.specs.Settled.{Follows, IsBelow, IsSettled}
use Rattle.switch_net.proofs.SwitchKinds.{on_may_be_on}

one_kept : (t u : Trit) → (t ≡ X) ⊎ (t ≡ u) → t ≡ One → u ≡ One
one_kept t u (inl e) o = cc
one_kept t u (inr e) o = cc

zero_kept : (t u : Trit) → (t ≡ X) ⊎ (t ≡ u) → u ≢ Zero → t ≢ Zero
zero_kept t u (inl e) h z = cc
zero_kept t u (inr e) h z = h (cc)

on_kept : (k : ChannelKind) (t u : Trit) → (t ≡ X) ⊎ (t ≡ u) → KindIsOn k t → KindIsOn k u
on_kept Enhancement t u b h = one_kept t u b h
on_kept Depletion t u b h = tt
on_kept Partial t u b h = h

maybe_kept : (k : ChannelKind) (t u : Trit) → (t ≡ X) ⊎ (t ≡ u) → KindMayBeOn k u → KindMayBeOn k t
maybe_kept Enhancement t u b h = zero_kept t u b h
maybe_kept Depletion t u b h = tt
maybe_kept Partial t u b h = tt

module _ (s : Setting) (v w : ℕ → Trit) (below : IsBelow v w) where
  pub definite_kept : (cs : List Channel) → IsDefinite v cs → IsDefinite w cs
  definite_kept cs h = All-weaker (IsOn v) (IsOn w) (λ c. on_kept c.kind (v c.gate) (w c.gate) (below c.gate)) cs h

  pub possible_kept : (cs : List Channel) → IsPossible w cs → IsPossible v cs
  possible_kept cs h =
      All-weaker (MayBeOn w) (MayBeOn v) (λ c. maybe_kept c.kind (v c.gate) (w c.gate) (below c.gate)) cs h

  -- a case that holds keeps holding as values grow
  pub gives_kept : (n : ℕ) (b : Trit) → Gives s v n b → Gives s w n b
  gives_kept n b (inl h) =
      inl (record {
        held = (h.held.0, h.held.1, h.held.2, h.held.3, h.held.4, definite_kept h.held.1 h.held.5);
        unopposed = λ a cs o p t q. h.unopposed a cs o p t (possible_kept cs q);
      })
  gives_kept n b (inr (inl h)) =
      inr (inl (record {
        held = (h.held.0, h.held.1, h.held.2, h.held.3, h.held.4, definite_kept h.held.1 h.held.5);
        unopposed = λ a cs o p q. h.unopposed a cs o p (possible_kept cs q);
      }))
  gives_kept n b (inr (inr h)) =
      inr (inr (record {
        alone = λ a cs d p q. h.alone a cs d p (possible_kept cs q);
        charged = λ a cs p q. h.charged a cs p (possible_kept cs q);
      }))

pub trit_below : (t u : Trit) → (t ≡ Zero → u ≡ Zero) → (t ≡ One → u ≡ One) → (t ≡ X) ⊎ (t ≡ u)
trit_below Zero u z o = inr (sym (z refl))
trit_below One u z o = inr (sym (o refl))
trit_below X u z o = inl refl

follows_at : (s : Setting) (v w v' w' : ℕ → Trit) → IsBelow v w → Follows s v v' → Follows s w w'
    → (n : ℕ) (d : Option Trit) → s.driver n ≡ d → (v' n ≡ X) ⊎ (v' n ≡ w' n)
follows_at s v w v' w' below f g n None e =
    trit_below (v' n) (w' n)
    (λ z. (g.zero n e).1 (gives_kept s v w below n Zero ((f.zero n e).0 z)))
    (λ o. (g.one n e).1 (gives_kept s v w below n One ((f.one n e).0 o)))
follows_at s v w v' w' below f g n (Some t) e = inr (f.driven n t e ∙ sym (g.driven n t e))

-- a round is monotone
pub follows_kept : (s : Setting) (v w v' w' : ℕ → Trit) → IsBelow v w → Follows s v v' → Follows s w w' → IsBelow v' w'
follows_kept s v w v' w' below f g n = follows_at s v w v' w' below f g n (s.driver n) refl

-- settled values are determined
pub settled_once : (s : Setting) (v w : ℕ → Trit) → IsSettled s v → IsSettled s w → v ≡ w
settled_once s v w f g = λ i n. same_if_below (v n) (w n) (f.least w g.solution n) (g.least v f.solution n) i

definite_may : (v : ℕ → Trit) (cs : List Channel) → IsDefinite v cs → IsPossible v cs
definite_may v cs h = All-weaker (IsOn v) (MayBeOn v) (λ c. on_may_be_on c.kind (v c.gate)) cs h

-- at most one value is given
pub gives_once : (s : Setting) (v : ℕ → Trit) (n : ℕ) (b c : Trit) → b ≢ c → Gives s v n b → Gives s v n c → ⊥
gives_once s v n b c ne (inl h) (inl g) =
    g.unopposed h.held.0 h.held.1 (b, h.held.2, ne) h.held.3 h.held.4 (definite_may v h.held.1 h.held.5)
gives_once s v n b c ne (inl h) (inr (inl g)) =
    g.unopposed h.held.0 h.held.1 (b, h.held.2, ne) h.held.3 (definite_may v h.held.1 h.held.5)
gives_once s v n b c ne (inl h) (inr (inr g)) =
    g.alone h.held.0 h.held.1 (rw h.held.2 refl) h.held.3 (definite_may v h.held.1 h.held.5)
gives_once s v n b c ne (inr (inl h)) (inl g) =
    h.unopposed g.held.0 g.held.1 (c, g.held.2, λ e. ne (sym e)) g.held.3 (definite_may v g.held.1 g.held.5)
gives_once s v n b c ne (inr (inl h)) (inr (inl g)) =
    g.unopposed h.held.0 h.held.1 (b, h.held.2, ne) h.held.3 (definite_may v h.held.1 h.held.5)
gives_once s v n b c ne (inr (inl h)) (inr (inr g)) =
    g.alone h.held.0 h.held.1 (rw h.held.2 refl) h.held.3 (definite_may v h.held.1 h.held.5)
gives_once s v n b c ne (inr (inr h)) (inl g) =
    h.alone g.held.0 g.held.1 (rw g.held.2 refl) g.held.3 (definite_may v g.held.1 g.held.5)
gives_once s v n b c ne (inr (inr h)) (inr (inl g)) =
    h.alone g.held.0 g.held.1 (rw g.held.2 refl) g.held.3 (definite_may v g.held.1 g.held.5)
gives_once s v n b c ne (inr (inr h)) (inr (inr g)) =
    ne (sym (h.charged n [] refl (λ k d i. absurd (omega arith))) ∙ g.charged n [] refl (λ k d i. absurd (omega arith)))
