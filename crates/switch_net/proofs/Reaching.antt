-- Paths as an inductive family.
use Rattle.std.proofs.Common.{ℕ, List, [], ◌∷◌, refl, subst}
use Rattle.std.specs.Prelude.{All}
use Rattle.std.proofs.lemmas.List.Elements.{All-nil, All-cons, All-head, All-tail}
use Rattle.switch_net.specs.declared.network.Channel.{Channel}
use Rattle.switch_net.specs.Settled.{Setting, Path}
use Rattle.switch_net.specs.Reaching.{Reach, here, over}

-- a path of allowed channels from a node of which `from` holds
abbrev pub HasPath : Setting → (Channel → Type 0) → (ℕ → Type 0) → ℕ → Type 0
HasPath s allowed from n = (a : ℕ) × (cs : List Channel) × from a × Path s a cs n × All allowed cs

pub path_from_reach : (s : Setting) (allowed : Channel → Type 0) (from : ℕ → Type 0) (n : ℕ) → Reach s allowed from n
    → HasPath s allowed from n
path_from_reach s allowed from n (here f) = (n, [], f, refl, All-nil allowed)
path_from_reach s allowed from n (over {a} c r in' at_a at_b free ok) =
    let before : HasPath s allowed from a = path_from_reach s allowed from a r in
    (before.0, c ∷ before.1, before.2, (a, before.3, in', at_a, at_b, free), All-cons allowed c before.1 ok before.4)

pub reach_from_path : (s : Setting) (allowed : Channel → Type 0) (from : ℕ → Type 0) (a : ℕ) (cs : List Channel)
    (n : ℕ) → from a → Path s a cs n → All allowed cs → Reach s allowed from n
reach_from_path s allowed from a [] n f e h = here (subst from e f)
reach_from_path s allowed from a (c ∷ cs) n f p h =
    over c (reach_from_path s allowed from a cs p.0 f p.1 (All-tail allowed c cs h)) p.2 p.3 p.4 p.5
    (All-head allowed c cs h)

pub reach_then : (s : Setting) (P Q : Channel → Type 0) (F G : ℕ → Type 0) (n : ℕ) → ((c : Channel) → P c → Q c)
    → ((a : ℕ) → F a → G a) → Reach s P F n → Reach s Q G n
reach_then s P Q F G n f g (here h) = here (g n h)
reach_then s P Q F G n f g (over {a} c r in' at_a at_b free ok) =
    over c (reach_then s P Q F G a f g r) in' at_a at_b free (f c ok)
