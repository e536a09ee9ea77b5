-- Nodes that are given nothing but X.
use Rattle.std.proofs.Common.{◌≡◌, ◌<◌, ◌≤◌, ℕ, None, get_or, sym, ◌∙◌, subst, inl, inr, arith}
use Rattle.std.specs.Prelude.{Contains, ◌≢◌, All}
use Rattle.mp_base.specs.declared.value.Trit.{Trit}
use Rattle.mp_base.specs.declared.value.Trit.TheVariants.{Zero, One, X}
use Rattle.switch_net.specs.declared.network.Channel.{Channel}
use Rattle.switch_net.specs.Settled.{Setting, Gives}
use Rattle.switch_net.specs.Reaching.{Reach, here, over, IsFor, GivesByReach}
use Rattle.switch_net.specs.Laws.{GivesAlongReach}

pub zero_not_x : Zero ≢ X
zero_not_x e = cc

pub one_not_x : One ≢ X
one_not_x e = cc

-- a number that is no node's is given X alone
pub past_nodes : (s : Setting) (v : ℕ → Trit) (nodes n : ℕ) → GivesAlongReach
    → All (λ (c : Channel). All (λ e. e < nodes) c.ends) s.channels → nodes ≤ n → s.driver n ≡ None → s.before n ≡ X
    → (b : Trit) → b ≢ X → Gives s v n b → ⊥
past_nodes s v nodes n law ends far free had b def g = by_case ((law s v n b).0 g)
  where
    no_end : (c : Channel) → Contains s.channels c → Contains c.ends n → ⊥
    no_end c in' at =
        let inside : All (λ e. e < nodes) c.ends =
        subst (λ (x : Channel). All (λ e. e < nodes) x.ends) in'.2 (ends in'.0 c in'.1) in
        let below : get_or c.ends at.0 n < nodes = inside at.0 n at.1 in
        let same : get_or c.ends at.0 n ≡ n = at.2 in
        omega arith

    held : (P : Channel → Type 0) → Reach s P (IsFor s b) n → ⊥
    held P (here f) = let q = free in cc
    held P (over c r in' at_a at_n undriven ok) = no_end c in' at_n

    by_case : GivesByReach s v n b → ⊥
    by_case (inl h) = held _ h.0
    by_case (inr (inl h)) = held _ h.0
    by_case (inr (inr h)) = h (here (inr (λ e. def (sym e ∙ had))))
