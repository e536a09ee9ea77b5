-- The three cases by sets of nodes that are reached.
use Rattle.std.proofs.Common.{◌≡◌, ℕ, List, [], ◌∷◌, refl, inl, inr, ◌⊎◌, arith, suc}
use Rattle.std.specs.Prelude.{◌≢◌, ◌↔◌, Any}
use Rattle.std.proofs.lemmas.List.Elements.{All-cons}
use Rattle.mp_base.specs.declared.value.Trit.{Trit}
use Rattle.mp_base.proofs.Values.{same_trit_or_not}
use Rattle.switch_net.specs.declared.network.ChannelKind.{ChannelKind}
use Rattle.switch_net.specs.declared.network.ChannelKind.TheVariants.{Enhancement, Depletion, Partial}
use Rattle.switch_net.specs.declared.network.Channel.{Channel}
use Rattle.switch_net.specs.Settled.{Setting, IsOn, MayBeOn, Path, IsStrong, IsWeak, IsPossible, IsAgainst, Gives}
use Rattle.switch_net.specs.Reaching.{Reach, IsStrongOn, MayBeStrongOn, IsFor, IsForeign, GivesByReach}
use Rattle.switch_net.proofs.Reaching.{HasPath, path_from_reach, reach_from_path, reach_then}

kind_cases : (k : ChannelKind) → (k ≢ Depletion) ⊎ (k ≡ Depletion)
kind_cases Enhancement = inl (λ e. cc)
kind_cases Depletion = inr refl
kind_cases Partial = inl (λ e. cc)

Any-head : {A : Type 0} (P : A → Type 0) (x : A) (xs : List A) → P x → Any P (x ∷ xs)
Any-head P x xs p = (0, x, omega arith, refl, p)

Any-tail : {A : Type 0} (P : A → Type 0) (x : A) (xs : List A) → Any P xs → Any P (x ∷ xs)
Any-tail P x xs h = (suc h.0, h.1, omega arith, h.3, h.4)

-- a path is strong or weak
strong_or_weak : (cs : List Channel) → IsStrong cs ⊎ IsWeak cs
strong_or_weak [] = inl (λ k d h. absurd (omega arith))
strong_or_weak (c ∷ cs) = step (kind_cases c.kind) (strong_or_weak cs)
  where
    step : (c.kind ≢ Depletion) ⊎ (c.kind ≡ Depletion) → IsStrong cs ⊎ IsWeak cs → IsStrong (c ∷ cs) ⊎ IsWeak (c ∷ cs)
    step (inr d) _ = inr (Any-head (λ x. x.kind ≡ Depletion) c cs d)
    step (inl k) (inl h) = inl (All-cons (λ x. x.kind ≢ Depletion) c cs k h)
    step (inl k) (inr h) = inr (Any-tail (λ x. x.kind ≡ Depletion) c cs h)

module _ (s : Setting) (v : ℕ → Trit) (n : ℕ) (b : Trit) where
  -- the five sets of nodes that decide the cases
  abbrev pub Strong : Type 0
  Strong = Reach s (IsStrongOn v) (IsFor s b) n

  abbrev pub StrongAgainst : Type 0
  StrongAgainst = Reach s (MayBeStrongOn v) (IsAgainst s b) n

  abbrev pub Held : Type 0
  Held = Reach s (IsOn v) (IsFor s b) n

  abbrev pub HeldAgainst : Type 0
  HeldAgainst = Reach s (MayBeOn v) (IsAgainst s b) n

  abbrev pub Foreign : Type 0
  Foreign = Reach s (MayBeOn v) (IsForeign s b) n

  pub gives_from_strong : Strong → (StrongAgainst → ⊥) → Gives s v n b
  gives_from_strong r none =
      let p : HasPath s (IsStrongOn v) (IsFor s b) n = path_from_reach s (IsStrongOn v) (IsFor s b) n r in
      inl (record {
        held = (p.0, p.1, p.2, p.3, (λ k d h. (p.4 k d h).0), (λ k d h. (p.4 k d h).1));
        unopposed =
            λ a cs o path st po. none
            (reach_from_path s (MayBeStrongOn v) (IsAgainst s b) a cs n o path (λ k d h. (st k d h, po k d h)));
      })

  strong_against_held : StrongAgainst → HeldAgainst
  strong_against_held r =
      reach_then s (MayBeStrongOn v) (MayBeOn v) (IsAgainst s b) (IsAgainst s b) n (λ c h. h.1) (λ a h. h) r

  pub gives_from_held : Held → (HeldAgainst → ⊥) → Gives s v n b
  gives_from_held r none =
      let p : HasPath s (IsOn v) (IsFor s b) n = path_from_reach s (IsOn v) (IsFor s b) n r in
      by_kind p (strong_or_weak p.1)
    where
      by_kind : (p : HasPath s (IsOn v) (IsFor s b) n) → IsStrong p.1 ⊎ IsWeak p.1 → Gives s v n b
      by_kind p (inl st) =
          gives_from_strong
          (reach_from_path s (IsStrongOn v) (IsFor s b) p.0 p.1 n p.2 p.3 (λ k d h. (st k d h, p.4 k d h)))
          (λ o. none (strong_against_held o))
      by_kind p (inr we) =
          inr (inl (record {
            held = (p.0, p.1, p.2, p.3, we, p.4);
            unopposed = λ a cs o path po. none (reach_from_path s (MayBeOn v) (IsAgainst s b) a cs n o path po);
          }))

  pub gives_from_kept : (Foreign → ⊥) → Gives s v n b
  gives_from_kept none =
      inr (inr (record {
        alone = λ a cs d path po. none (reach_from_path s (MayBeOn v) (IsForeign s b) a cs n (inl d) path po);
        charged = λ a cs path po. kept a cs path po (same_trit_or_not (s.before a) b);
      }))
    where
      kept : (a : ℕ) (cs : List Channel) → Path s a cs n → IsPossible v cs → (s.before a ≡ b) ⊎ (s.before a ≢ b)
          → s.before a ≡ b
      kept a cs path po (inl e) = e
      kept a cs path po (inr e) = absurd (none (reach_from_path s (MayBeOn v) (IsForeign s b) a cs n (inr e) path po))

  -- the three cases, by the five sets
  pub data GivesBySets : Type 0 where
    by_strong : Strong → (StrongAgainst → ⊥) → GivesBySets
    by_held : Held → (HeldAgainst → ⊥) → GivesBySets
    by_kept : (Foreign → ⊥) → GivesBySets

  pub gives_from_sets : GivesBySets → Gives s v n b
  gives_from_sets (by_strong h none) = gives_from_strong h none
  gives_from_sets (by_held h none) = gives_from_held h none
  gives_from_sets (by_kept none) = gives_from_kept none

  pub sets_from_gives : Gives s v n b → GivesBySets
  sets_from_gives (inl h) =
      by_strong
      (reach_from_path s (IsStrongOn v) (IsFor s b) h.held.0 h.held.1 n h.held.2 h.held.3
      (λ k d i. (h.held.4 k d i, h.held.5 k d i)))
      (λ r. let p : HasPath s (MayBeStrongOn v) (IsAgainst s b) n =
      path_from_reach s (MayBeStrongOn v) (IsAgainst s b) n r in
      h.unopposed p.0 p.1 p.2 p.3 (λ k d i. (p.4 k d i).0) (λ k d i. (p.4 k d i).1))
  sets_from_gives (inr (inl h)) =
      by_held
      (reach_from_path s (IsOn v) (IsFor s b) h.held.0 h.held.1 n h.held.2 h.held.3 h.held.5)
      (λ r. let p : HasPath s (MayBeOn v) (IsAgainst s b) n = path_from_reach s (MayBeOn v) (IsAgainst s b) n r in
      h.unopposed p.0 p.1 p.2 p.3 p.4)
  sets_from_gives (inr (inr h)) =
      by_kept (λ r. let p : HasPath s (MayBeOn v) (IsForeign s b) n =
      path_from_reach s (MayBeOn v) (IsForeign s b) n r in
      foreign p.0 p.1 p.2 p.3 p.4)
    where
      foreign : (a : ℕ) (cs : List Channel) → IsForeign s b a → Path s a cs n → IsPossible v cs → ⊥
      foreign a cs (inl d) path po = h.alone a cs d path po
      foreign a cs (inr e) path po = e (h.charged a cs path po)

  by_reach : GivesBySets → GivesByReach s v n b
  by_reach (by_strong h none) = inl (h, none)
  by_reach (by_held h none) = inr (inl (h, none))
  by_reach (by_kept none) = inr (inr none)

  from_reach : GivesByReach s v n b → Gives s v n b
  from_reach (inl h) = gives_from_strong h.0 h.1
  from_reach (inr (inl h)) = gives_from_held h.0 h.1
  from_reach (inr (inr none)) = gives_from_kept none

  pub gives_by_reach : Gives s v n b ↔ GivesByReach s v n b
  gives_by_reach = (λ g. by_reach (sets_from_gives g), from_reach)
