-- What is told: where nothing waits, after other drivers, and after a look.
use Rattle.std.proofs.Common.{◌≡◌, ℕ, Option, Some, None, refl, sym, ◌∙◌, inl, inr, ◌⊎◌}
use Rattle.std.specs.Prelude.{Contains}
use Rattle.mp_base.specs.declared.value.Trit.{Trit}
use Rattle.mp_base.specs.declared.value.Trit.TheVariants.{Zero, One}
use Rattle.switch_net.specs.declared.network.Channel.{Channel}
use Rattle.switch_net.specs.Settled.{Setting, MayBeOn, Gives, IsSolution}
use Rattle.switch_net.specs.Reaching.{Reach, here, over}
use Rattle.switch_net.specs.Laws.{GivesAlongReach}
use Rattle.settle_laws.specs.Told.{IsGiven, IsTold, IsRedriven, IsLook}
use Rattle.settle_laws.proofs.Agreeing.{Agree, agree_gives, may_same}

no_reach : (s : Setting) (ok : Channel → Type 0) (waits : ℕ → Type 0) → ((n : ℕ) → waits n → ⊥) → (n : ℕ)
    → Reach s ok waits n → ⊥
no_reach s ok waits none n (here f) = none n f
no_reach s ok waits none n (over {a} c r in' at_a at_n free okc) = no_reach s ok waits none a r

pub told_solves : (s : Setting) (v : ℕ → Trit) (waits : ℕ → Type 0) → IsTold s v waits → ((n : ℕ) → waits n → ⊥)
    → ((n : ℕ) (t : Trit) → s.driver n ≡ Some t → v n ≡ t) → IsSolution s v
told_solves s v waits told none driven = record {
  driven = driven;
  zero = λ n free. (told n free (no_reach s (MayBeOn v) waits none n)).0;
  one = λ n free. (told n free (no_reach s (MayBeOn v) waits none n)).1;
}

reach_free : (s : Setting) (ok : Channel → Type 0) (waits : ℕ → Type 0) → ((n : ℕ) → waits n → s.driver n ≡ None)
    → (n : ℕ) → Reach s ok waits n → s.driver n ≡ None
reach_free s ok waits free n (here f) = free n f
reach_free s ok waits free n (over c r in' at_a at_n none okc) = none

given_from : (s t : Setting) (v w : ℕ → Trit) (n : ℕ) (x : Trit) → ((b : Trit) → Gives s v n b → Gives t w n b)
    → ((b : Trit) → Gives t w n b → Gives s v n b)
    → w n ≡ x → IsGiven s v n x → IsGiven t w n (w n)
given_from s t v w n x to back e ((zero_given, zero_is), (one_given, one_is)) = (
  (λ z. to Zero (zero_given (sym e ∙ z)), λ g. e ∙ zero_is (back Zero g)),
  (λ o. to One (one_given (sym e ∙ o)), λ g. e ∙ one_is (back One g)),
)

-- nodes where nothing waits beside them
abbrev Still : Setting → (ℕ → Trit) → (ℕ → Type 0) → ℕ → Type 0
Still s v waits n = (s.driver n ≡ None) × (Reach s (MayBeOn v) waits n → ⊥)

still : {A : Type 0} (s : Setting) (v : ℕ → Trit) (waits : ℕ → Type 0) (n : ℕ) → Still s v waits n → A ⊎ waits n → A
still s v waits n q (inl a) = a
still s v waits n q (inr m) = absurd (q.1 (here m))

-- other drivers, from a solution with the same charge
module _ (law : GivesAlongReach) (s : Setting) (driver : ℕ → Option Trit) (v w : ℕ → Trit) (waits : ℕ → Type 0)
    (sol : IsSolution s v) (r : IsRedriven s driver v w waits) where
  abbrev Next : Setting
  Next = record { channels = s.channels; driver = driver; before = s.before }

  abbrev Quiet : ℕ → Type 0
  Quiet = Still Next w waits

  forth : Agree s Next v w Quiet
  forth = record {
    channels = λ c in'. in';
    free = λ n q. q.0;
    before = λ n q. refl;
    gate = λ c n in' at q e. still Next w waits n q (r.gated c n in' e at q.0);
    driver = λ c n a in' at q may at_a. still Next w waits n q (r.beside c n a in' at at_a q.0);
    ends = λ c n a in' at q may at_a none. (
      still Next w waits n q (r.beside c n a in' at at_a q.0)
          ∙ none,
      λ o. q.1
          (over c o in' at_a at q.0
          (may_same c.kind (v c.gate) (w c.gate) (λ e. still Next w waits n q (r.gated c n in' e at q.0)) may)),
    );
  }

  back : Agree Next s w v Quiet
  back = record {
    channels = λ c in'. in';
    free = λ n q. still Next w waits n q (r.lost n q.0);
    before = λ n q. refl;
    gate = λ c n in' at q e. sym (still Next w waits n q (r.gated c n in' e at q.0));
    driver = λ c n a in' at q may at_a. sym (still Next w waits n q (r.beside c n a in' at at_a q.0));
    ends = λ c n a in' at q may at_a none. (none, λ o. q.1 (over c o in' at_a at q.0 may));
  }

  pub redriven_tells : IsTold Next w waits
  redriven_tells n free none =
      let q : Quiet n = (free, none) in
      let was : s.driver n ≡ None = still Next w waits n q (r.lost n free) in
      given_from s Next v w n (v n) (λ b g. agree_gives law s Next v w Quiet forth back n b q g)
      (λ b g. agree_gives law Next s w v Quiet back forth n b q g) (r.kept n free) (sol.zero n was, sol.one n was)

-- a look at a cluster
module _ (law : GivesAlongReach) (s : Setting) (v w : ℕ → Trit) (cluster before after : ℕ → Type 0)
    (told : IsTold s v before) (look : IsLook s v w cluster before after) where
  may_then : (c : Channel) (n : ℕ) → Contains s.channels c → Contains c.ends n → Still s w after n → MayBeOn v c
      → MayBeOn w c
  may_then c n in' at q may =
      may_same c.kind (v c.gate) (w c.gate) (λ e. still s w after n q (look.gated c n in' e at q.0)) may

  still_on : (c : Channel) (n a : ℕ) → Contains s.channels c → Contains c.ends n → Still s w after n → MayBeOn w c
      → Contains c.ends a → s.driver a ≡ None → Still s w after a
  still_on c n a in' at q may at_a none = (none, λ o. q.1 (over c o in' at_a at q.0 may))

  onward : Agree s s v w (Still s w after)
  onward = record {
    channels = λ c in'. in';
    free = λ n q. q.0;
    before = λ n q. refl;
    gate = λ c n in' at q e. still s w after n q (look.gated c n in' e at q.0);
    driver = λ c n a in' at q may at_a. refl;
    ends = λ c n a in' at q may at_a none. still_on c n a in' at q (may_then c n in' at q may) at_a none;
  }

  backward : Agree s s w v (Still s w after)
  backward = record {
    channels = λ c in'. in';
    free = λ n q. q.0;
    before = λ n q. refl;
    gate = λ c n in' at q e. sym (still s w after n q (look.gated c n in' e at q.0));
    driver = λ c n a in' at q may at_a. refl;
    ends = λ c n a in' at q may at_a none. still_on c n a in' at q may at_a none;
  }

  outside : (n : ℕ) → Still s w after n → (cluster n → ⊥) → Reach s (MayBeOn v) before n → ⊥
  outside n q out (here f) = elim (look.waiting n f) [ inl m ↦ q.1 (here m) | inr i ↦ out i ]
  outside n q out (over {a} c o in' at_a at_n free ok) =
      outside a
      (still_on c n a in' at_n q (may_then c n in' at_n q ok) at_a (reach_free s (MayBeOn v) before look.undriven a o))
      (λ i. out (look.closed c a n i in' at_a at_n free ok)) o

  pub look_tells : IsTold s w after
  look_tells n free none = by_place (look.known n)
    where
      q : Still s w after n
      q = (free, none)

      to : (b : Trit) → Gives s v n b → Gives s w n b
      to b g = agree_gives law s s v w (Still s w after) onward backward n b q g

      from : (b : Trit) → Gives s w n b → Gives s v n b
      from b g = agree_gives law s s w v (Still s w after) backward onward n b q g

      by_place : cluster n ⊎ (cluster n → ⊥) → IsGiven s w n (w n)
      by_place (inl i) = given_from s s v w n (w n) to from refl (look.given n i)
      by_place (inr out) = given_from s s v w n (v n) to from (look.kept n out) (told n free (outside n q out))
