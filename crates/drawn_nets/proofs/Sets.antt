-- The three cases by sets of nodes that are reached, from the law of networks that says so.
use Rattle.std.proofs.Common.{ℕ, inl, inr}
use Rattle.mp_base.specs.declared.value.Trit.{Trit}
use Rattle.switch_net.specs.Settled.{Setting, IsOn, MayBeOn, IsAgainst, Gives}
use Rattle.switch_net.specs.Reaching.{Reach, IsStrongOn, MayBeStrongOn, IsFor, IsForeign, GivesByReach}
use Rattle.switch_net.specs.Laws.{GivesAlongReach}

pub data GivesBySets (s : Setting) (v : ℕ → Trit) (n : ℕ) (b : Trit) : Type 0 where
  by_strong : Reach s (IsStrongOn v) (IsFor s b) n → (Reach s (MayBeStrongOn v) (IsAgainst s b) n → ⊥)
      → GivesBySets s v n b
  by_held : Reach s (IsOn v) (IsFor s b) n → (Reach s (MayBeOn v) (IsAgainst s b) n → ⊥) → GivesBySets s v n b
  by_kept : (Reach s (MayBeOn v) (IsForeign s b) n → ⊥) → GivesBySets s v n b

to_reach : (s : Setting) (v : ℕ → Trit) (n : ℕ) (b : Trit) → GivesBySets s v n b → GivesByReach s v n b
to_reach s v n b (by_strong h none) = inl (h, none)
to_reach s v n b (by_held h none) = inr (inl (h, none))
to_reach s v n b (by_kept none) = inr (inr none)

of_reach : (s : Setting) (v : ℕ → Trit) (n : ℕ) (b : Trit) → GivesByReach s v n b → GivesBySets s v n b
of_reach s v n b (inl h) = by_strong h.0 h.1
of_reach s v n b (inr (inl h)) = by_held h.0 h.1
of_reach s v n b (inr (inr none)) = by_kept none

pub gives_from_sets : GivesAlongReach → (s : Setting) (v : ℕ → Trit) (n : ℕ) (b : Trit) → GivesBySets s v n b
    → Gives s v n b
gives_from_sets law s v n b g = (law s v n b).1 (to_reach s v n b g)

pub sets_from_gives : GivesAlongReach → (s : Setting) (v : ℕ → Trit) (n : ℕ) (b : Trit) → Gives s v n b
    → GivesBySets s v n b
sets_from_gives law s v n b g = of_reach s v n b ((law s v n b).0 g)
