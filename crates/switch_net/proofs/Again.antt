-- Settled values settle to themselves: the lemma for a settler by events.
use Rattle.std.proofs.Common.{◌≡◌, ℕ, None, refl, sym, ◌∙◌, ap, subst, inl, inr, ◌⊎◌}
use Rattle.std.specs.Prelude.{◌≢◌, IsSome}
use Rattle.mp_base.specs.declared.value.Trit.{Trit}
use Rattle.mp_base.specs.declared.value.Trit.TheVariants.{Zero, One, X}
use Rattle.mp_base.proofs.Values.{same_trit_or_not}
use Rattle.mp_base.proofs.Entries.{none_or_some}
use Rattle.switch_net.specs.declared.network.Channel.{Channel}
use Rattle.switch_net.specs.Settled.{Setting, IsOn, MayBeOn, IsAgainst, Gives, IsBelow, IsSettled}
use Rattle.switch_net.specs.Reaching.{Reach, here, over, IsStrongOn, MayBeStrongOn, IsFor, IsForeign}
use Rattle.switch_net.proofs.Rounds.{gives_kept, settled_once}
use Rattle.switch_net.proofs.Bounds.{IsBound, IsLeastBound, settled_from_bound}
use Rattle.switch_net.proofs.Exists.{least_bound_exists}
use Rattle.switch_net.proofs.Marks.{GivesBySets, by_strong, by_held, by_kept, gives_from_sets, sets_from_gives}

-- where a reach begins
origin : (s : Setting) (ok : Channel → Type 0) (from : ℕ → Type 0) (n : ℕ) → Reach s ok from n
    → (a : ℕ) × from a × Reach s ok (λ x. x ≡ a) n
origin s ok from n (here f) = (n, f, here refl)
origin s ok from n (over {a} c r in' at_a at_n free okc) =
    let o = origin s ok from a r in
    (o.0, o.1, over c o.2 in' at_a at_n free okc)

twice : (s : Setting) (ok : Channel → Type 0) (F G : ℕ → Type 0) → ((a : ℕ) → F a → Reach s ok G a) → (n : ℕ)
    → Reach s ok F n → Reach s ok G n
twice s ok F G f n (here q) = f n q
twice s ok F G f n (over {a} c r in' at_a at_n free okc) = over c (twice s ok F G f a r) in' at_a at_n free okc

abbrev pub after : Setting → (ℕ → Trit) → Setting
after s v = record { channels = s.channels; driver = s.driver; before = v }

-- paths do not depend on the values before
to_after : (s : Setting) (v : ℕ → Trit) (ok : Channel → Type 0) (from : ℕ → Type 0) (n : ℕ) → Reach s ok from n
    → Reach (after s v) ok from n
to_after s v ok from n (here f) = here f
to_after s v ok from n (over {a} c r in' at_a at_n free okc) = over c (to_after s v ok from a r) in' at_a at_n free okc

of_after : (s : Setting) (v : ℕ → Trit) (ok : Channel → Type 0) (from : ℕ → Type 0) (n : ℕ)
    → Reach (after s v) ok from n → Reach s ok from n
of_after s v ok from n (here f) = here f
of_after s v ok from n (over {a} c r in' at_a at_n free okc) = over c (of_after s v ok from a r) in' at_a at_n free okc

module _ (s : Setting) (v : ℕ → Trit) (b : Trit) (has : (n : ℕ) → s.driver n ≡ None → Gives s v n b → v n ≡ b) where
  -- what is given below v is given again, after v
  again_given : (m : ℕ → Trit) → IsBelow m v → (n : ℕ) → Gives s m n b → Gives (after s v) m n b
  again_given m below n g = gives_from_sets (after s v) m n b (by_sets (sets_from_gives s m n b g))
    where
      held_before : (Reach s (MayBeOn m) (IsForeign s b) n → ⊥) → (a : ℕ) → Reach s (MayBeOn m) (λ x. x ≡ a) n
          → (s.driver a ≡ None) ⊎ IsSome (s.driver a) → v a ≡ b
      held_before none a r (inr d) =
          absurd (none
          (twice s (MayBeOn m) (λ x. x ≡ a) (IsForeign s b) (λ x e. here (subst (IsForeign s b) (sym e) (inl d))) n r))
      held_before none a r (inl free) =
          has a free
          (gives_kept s m v below a b
          (gives_from_sets s m a b
          (by_kept
          (λ f. none
          (twice s (MayBeOn m) (λ x. x ≡ a) (IsForeign s b)
          (λ x e. subst (λ y. Reach s (MayBeOn m) (IsForeign s b) y) (sym e) f) n r)))))

      foreign : (Reach s (MayBeOn m) (IsForeign s b) n → ⊥) → (a : ℕ) → Reach s (MayBeOn m) (λ x. x ≡ a) n
          → IsForeign (after s v) b a → ⊥
      foreign none a r (inl d) =
          none (twice s (MayBeOn m) (λ x. x ≡ a) (IsForeign s b)
          (λ x e. here (subst (IsForeign s b) (sym e) (inl d))) n r)
      foreign none a r (inr ne) = ne (held_before none a r (none_or_some (s.driver a)))

      by_sets : GivesBySets s m n b → GivesBySets (after s v) m n b
      by_sets (by_strong r none) =
          by_strong (to_after s v (IsStrongOn m) (IsFor s b) n r)
          (λ f. none (of_after s v (MayBeStrongOn m) (IsAgainst s b) n f))
      by_sets (by_held r none) =
          by_held (to_after s v (IsOn m) (IsFor s b) n r) (λ f. none (of_after s v (MayBeOn m) (IsAgainst s b) n f))
      by_sets (by_kept none) =
          by_kept (λ f.
          let o = origin s (MayBeOn m) (IsForeign (after s v) b) n
          (of_after s v (MayBeOn m) (IsForeign (after s v) b) n f) in
          foreign none o.0 o.2 o.1)

  -- and what is given after v, v has
  again_has : (n : ℕ) → s.driver n ≡ None → Gives (after s v) v n b → v n ≡ b
  again_has n free g = by_sets (sets_from_gives (after s v) v n b g)
    where
      kept : (Reach (after s v) (MayBeOn v) (IsForeign (after s v) b) n → ⊥) → (v n ≡ b) ⊎ (v n ≢ b) → v n ≡ b
      kept none (inl e) = e
      kept none (inr ne) = absurd (none (here (inr ne)))

      by_sets : GivesBySets (after s v) v n b → v n ≡ b
      by_sets (by_strong r none) =
          has n free (gives_from_sets s v n b
          (by_strong (of_after s v (IsStrongOn v) (IsFor s b) n r)
          (λ f. none (to_after s v (MayBeStrongOn v) (IsAgainst s b) n f))))
      by_sets (by_held r none) =
          has n free (gives_from_sets s v n b
          (by_held (of_after s v (IsOn v) (IsFor s b) n r) (λ f. none (to_after s v (MayBeOn v) (IsAgainst s b) n f))))
      by_sets (by_kept none) = kept none (same_trit_or_not (v n) b)

abbrev meet : Trit → Trit → Trit
meet Zero Zero = Zero
meet One One = One
meet _ _ = X

meet_left : (t u : Trit) → (meet t u ≡ X) ⊎ (meet t u ≡ t)
meet_left Zero Zero = inr refl
meet_left Zero One = inl refl
meet_left Zero X = inl refl
meet_left One Zero = inl refl
meet_left One One = inr refl
meet_left One X = inl refl
meet_left X Zero = inl refl
meet_left X One = inl refl
meet_left X X = inl refl

meet_right : (t u : Trit) → (meet t u ≡ X) ⊎ (meet t u ≡ u)
meet_right Zero Zero = inr refl
meet_right Zero One = inl refl
meet_right Zero X = inl refl
meet_right One Zero = inl refl
meet_right One One = inr refl
meet_right One X = inl refl
meet_right X Zero = inl refl
meet_right X One = inl refl
meet_right X X = inl refl

meet_self : (b : Trit) → meet b b ≡ b
meet_self Zero = refl
meet_self One = refl
meet_self X = refl

meet_same : (t u b : Trit) → t ≡ b → u ≡ b → meet t u ≡ b
meet_same t u b e f = ap (λ x. meet x u) e ∙ ap (λ y. meet b y) f ∙ meet_self b

settles_below : (s : Setting) (v : ℕ → Trit) → IsLeastBound s v → IsLeastBound (after s v) v
settles_below s v h = record {
  solution = record {
    driven = h.solution.driven;
    zero = λ n e. (
      λ z. again_given s v Zero has_zero v below_self n
          ((h.solution.zero n e).0 z),
      λ g. again_has s v Zero has_zero n e g,
    );
    one = λ n e. (
      λ z. again_given s v One has_one v below_self n
          ((h.solution.one n e).0 z),
      λ g. again_has s v One has_one n e g,
    );
  };
  least = λ w b n. under w n (h.least (λ x. meet (v x) (w x)) (bound w b) n);
}
  where
    below_self : IsBelow v v
    below_self n = inr refl

    has_zero : (n : ℕ) → s.driver n ≡ None → Gives s v n Zero → v n ≡ Zero
    has_zero n e = (h.solution.zero n e).1

    has_one : (n : ℕ) → s.driver n ≡ None → Gives s v n One → v n ≡ One
    has_one n e = (h.solution.one n e).1

    below_v : (w : ℕ → Trit) → IsBelow (λ n. meet (v n) (w n)) v
    below_v w n = meet_left (v n) (w n)

    below_w : (w : ℕ → Trit) → IsBelow (λ n. meet (v n) (w n)) w
    below_w w n = meet_right (v n) (w n)

    bound : (w : ℕ → Trit) → IsBound (after s v) w → IsBound s (λ n. meet (v n) (w n))
    bound w b = record {
      driven = λ n t e. meet_same (v n) (w n) t (h.solution.driven n t e) (b.driven n t e);
      zero = λ n e g.
          meet_same (v n) (w n) Zero
          (has_zero n e (gives_kept s (λ x. meet (v x) (w x)) v (below_v w) n Zero g))
          (b.zero n e
          (gives_kept (after s v) (λ x. meet (v x) (w x)) w (below_w w) n Zero
          (again_given s v Zero has_zero (λ x. meet (v x) (w x)) (below_v w) n g)));
      one = λ n e g.
          meet_same (v n) (w n) One
          (has_one n e (gives_kept s (λ x. meet (v x) (w x)) v (below_v w) n One g))
          (b.one n e
          (gives_kept (after s v) (λ x. meet (v x) (w x)) w (below_w w) n One
          (again_given s v One has_one (λ x. meet (v x) (w x)) (below_v w) n g)));
    }

    under : (w : ℕ → Trit) (n : ℕ) → (v n ≡ X) ⊎ (v n ≡ meet (v n) (w n)) → (v n ≡ X) ⊎ (v n ≡ w n)
    under w n (inl e) = inl e
    under w n (inr e) = by_right (meet_right (v n) (w n))
      where
        by_right : (meet (v n) (w n) ≡ X) ⊎ (meet (v n) (w n) ≡ w n) → (v n ≡ X) ⊎ (v n ≡ w n)
        by_right (inl x) = inl (e ∙ x)
        by_right (inr r) = inr (e ∙ r)

-- settled values are below each bound
least_bound : (s : Setting) (v : ℕ → Trit) → IsSettled s v → IsLeastBound s v
least_bound s v h =
    let w = least_bound_exists s in
    subst (IsLeastBound s) (settled_once s w.0 v (settled_from_bound s w.0 w.1) h) w.1

-- settled values settle to themselves
pub settles_again : (s : Setting) (v : ℕ → Trit) → IsSettled s v → IsSettled (after s v) v
settles_again s v h = settled_from_bound (after s v) v (settles_below s v (least_bound s v h))
