-- Values that climb to the least solution by justified steps.
use Rattle.std.proofs.Common.{◌≡◌, ◌<◌, ◌≤◌, ◌+◌, ℕ, zero, suc, List, [], ◌∷◌, Option, Some, None, Bool, true, false}
use Rattle.std.proofs.Common.{length, get_or, take, refl, sym, ◌∙◌, ap, subst, inl, inr, ◌⊎◌, arith}
use Rattle.std.specs.Prelude.{Contains, ◌≢◌, unwrap_or}
use Rattle.std.proofs.Math.ListN.{set}
use Rattle.std.proofs.lemmas.Bool.{cases_eq}
use Rattle.std.proofs.lemmas.List.{get_or-set_same, get_or-set_other, take_all}
use Rattle.mp_base.specs.declared.value.Trit.{Trit}
use Rattle.mp_base.specs.declared.value.Trit.TheVariants.{Zero, One, X}
use Rattle.mp_base.proofs.Contents.{nothing_in}
use Rattle.switch_net.specs.Settled.{Setting, Gives, IsSolution, IsBelow, IsSettled}
use Rattle.switch_net.specs.Laws.{GivesGrow, GivesOnce}
use Rattle.node_clusters.specs.Values.{IsMarked}
use Rattle.switch_net.specs.Values.{value_at}
use Rattle.node_clusters.specs.Spread.{Picks}
use Rattle.settle_events.specs.Climb.{unknown, Climbs, Steps, IsStuck, Writes}
use Rattle.node_clusters.proofs.Listing.{contains_more}
use Rattle.node_clusters.proofs.Unknown.{zero_not_x, one_not_x}

same_or_not : (t : Trit) → (t ≡ X) ⊎ (t ≢ X)
same_or_not Zero = inr (λ e. cc)
same_or_not One = inr (λ e. cc)
same_or_not X = inl refl

module _ (s : Setting) (grow : GivesGrow) where
  -- what is given where v is below a solution, the solution has
  solved : (v u : ℕ → Trit) → IsBelow v u → IsSolution s u → (n : ℕ) → s.driver n ≡ None → (t : Trit) → t ≢ X
      → Gives s v n t → t ≡ u n
  solved v u below sol n free Zero def g = sym ((sol.zero n free).1 (grow s v u below n Zero g))
  solved v u below sol n free One def g = sym ((sol.one n free).1 (grow s v u below n One g))
  solved v u below sol n free X def g = absurd (def refl)

  steps_below : (v w : ℕ → Trit) → Steps s v w → IsBelow v w
  steps_below v w h n = elim (h n) [ inl e ↦ inr (sym e) | inr p ↦ inl p.1 ]

  pub climbs_step : (v w : ℕ → Trit) → Climbs s v → Steps s v w → Climbs s w
  climbs_step v w h steps = record {
    below = λ u sol n. below u sol n (steps n);
    driven = λ n t e. driven n t e (steps n);
    given = λ n free def. given n free def (steps n);
  }
    where
      below : (u : ℕ → Trit) → IsSolution s u → (n : ℕ)
          → (w n ≡ v n) ⊎ ((s.driver n ≡ None) × (v n ≡ X) × (w n ≢ X) × Gives s v n (w n)) → (w n ≡ X) ⊎ (w n ≡ u n)
      below u sol n (inl e) = elim (h.below u sol n) [ inl x ↦ inl (e ∙ x) | inr y ↦ inr (e ∙ y) ]
      below u sol n (inr p) = inr (solved v u (h.below u sol) sol n p.0 (w n) p.2 p.3)

      driven : (n : ℕ) (t : Trit) → s.driver n ≡ Some t
          → (w n ≡ v n) ⊎ ((s.driver n ≡ None) × (v n ≡ X) × (w n ≢ X) × Gives s v n (w n)) → w n ≡ t
      driven n t e (inl same) = same ∙ h.driven n t e
      driven n t e (inr p) = let q = p.0 in absurd (cc)

      given : (n : ℕ) → s.driver n ≡ None → w n ≢ X
          → (w n ≡ v n) ⊎ ((s.driver n ≡ None) × (v n ≡ X) × (w n ≢ X) × Gives s v n (w n)) → Gives s w n (w n)
      given n free def (inl same) =
          grow s v w (steps_below v w steps) n (w n)
          (subst (λ t. Gives s v n t) (sym same) (h.given n free (λ x. def (same ∙ x))))
      given n free def (inr p) = grow s v w (steps_below v w steps) n (w n) p.3

pub climbs_start : (s : Setting) (v : ℕ → Trit) → ((n : ℕ) → v n ≡ unwrap_or (s.driver n) X) → Climbs s v
climbs_start s v is = record {
  below = λ u sol n. below u sol n (s.driver n) refl;
  driven = λ n t e. is n ∙ ap (λ d. unwrap_or d X) e;
  given = λ n free def. absurd (def (is n ∙ ap (λ d. unwrap_or d X) free));
}
  where
    below : (u : ℕ → Trit) → IsSolution s u → (n : ℕ) (d : Option Trit) → s.driver n ≡ d → (v n ≡ X) ⊎ (v n ≡ u n)
    below u sol n (Some t) e = inr (is n ∙ ap (λ d. unwrap_or d X) e ∙ sym (sol.driven n t e))
    below u sol n None e = inl (is n ∙ ap (λ d. unwrap_or d X) e)

pub settled_from : (s : Setting) → GivesOnce → (v : ℕ → Trit) → Climbs s v → ((n : ℕ) → IsStuck s v n) → IsSettled s v
settled_from s once v h stuck = record {
  solution = record {
    driven = h.driven;
    zero = λ n free. (
      λ e. subst (λ t. Gives s v n t) e
          (h.given n free (λ x. let y = e in zero_not_x (sym y ∙ x))),
      λ g. is n free Zero zero_not_x g (v n) refl,
    );
    one = λ n free. (
      λ e. subst (λ t. Gives s v n t) e
          (h.given n free (λ x. let y = e in one_not_x (sym y ∙ x))),
      λ g. is n free One one_not_x g (v n) refl,
    );
  };
  least = h.below;
}
  where
    is : (n : ℕ) → s.driver n ≡ None → (b : Trit) → b ≢ X → Gives s v n b → (t : Trit) → v n ≡ t → t ≡ b
    is n free b def g t e = by_value (same_or_not t)
      where
        by_value : (t ≡ X) ⊎ (t ≢ X) → t ≡ b
        by_value (inl x) = absurd (stuck n free (e ∙ x) b def g)
        by_value (inr y) = once s v n t b (subst (λ z. Gives s v n z) e (h.given n free (λ x. y (sym e ∙ x)))) g

unknown_le : (t u : Trit) (vs ws : List Trit) → t ≡ X → u ≢ X → vs ≡ ws → unknown (u ∷ ws) < unknown (t ∷ vs)
unknown_le Zero u vs ws e d s = absurd (zero_not_x e)
unknown_le One u vs ws e d s = absurd (one_not_x e)
unknown_le X Zero vs ws e d s = let q : unknown vs ≡ unknown ws = ap unknown s in omega arith
unknown_le X One vs ws e d s = let q : unknown vs ≡ unknown ws = ap unknown s in omega arith
unknown_le X X vs ws e d s = absurd (d refl)

longer : (t : Trit) (vs ws : List Trit) → unknown ws < unknown vs → unknown (t ∷ ws) < unknown (t ∷ vs)
longer Zero vs ws h = h
longer One vs ws h = h
longer X vs ws h = omega arith

-- one X less
unknown_set : (vs : List Trit) (n : ℕ) (b : Trit) → n < length vs → value_at vs n ≡ X → b ≢ X
    → unknown (set vs n b) < unknown vs
unknown_set [] n b lt x d = absurd (omega arith)
unknown_set (t ∷ vs) zero b lt x d = unknown_le t b vs vs x d refl
unknown_set (t ∷ vs) (suc n) b lt x d = longer t vs (set vs n b) (unknown_set vs n b (omega arith) x d)

-- `Writes`, as far as the first i nodes
pub record WritesFirst (nodes : List ℕ) (i : ℕ) (b : Trit) (changed : Bool) (old new : List Trit) : Type 0 where
  pub writes : Writes (take i nodes) b (value_at old) (value_at new)
  pub more : changed ≡ true → unknown new < unknown old
  pub same : changed ≡ false → new ≡ old
  pub none : changed ≡ false → (n : ℕ) → Contains (take i nodes) n → value_at old n ≢ X

module _ (nodes : List ℕ) (b : Trit) (old : List Trit) where
  pub writes_none : WritesFirst nodes 0 b false old old
  writes_none =
      record { writes = λ n. inl refl; more = λ e. cc; same = λ _. refl; none = λ _ n h. absurd (nothing_in n h) }

  module _ (i e : ℕ) (changed : Bool) (mid : List Trit) (lt : i < length nodes) (is : e ≡ get_or nodes i e)
      (h : WritesFirst nodes i b changed old mid) where
    wider : (n : ℕ)
        → (value_at mid n ≡ value_at old n) ⊎ (Contains (take i nodes) n × (value_at old n ≡ X) × (value_at mid n ≡ b))
        → (value_at mid n ≡ value_at old n)
        ⊎ (Contains (take (i + 1) nodes) n × (value_at old n ≡ X) × (value_at mid n ≡ b))
    wider n (inl q) = inl q
    wider n (inr q) = inr ((contains_more nodes i e n lt is).1 (inl q.0), q.1, q.2)

    pub writes_skip : value_at mid e ≢ X → WritesFirst nodes (i + 1) b changed old mid
    writes_skip def = record {
      writes = λ n. wider n (h.writes n);
      more = h.more;
      same = h.same;
      none = λ c n q. none c n ((contains_more nodes i e n lt is).0 q);
    }
      where
        none : changed ≡ false → (n : ℕ) → Contains (take i nodes) n ⊎ (e ≡ n) → value_at old n ≢ X
        none c n (inl q) = h.none c n q
        none c n (inr q) = λ x. def (ap (λ (vs : List Trit). value_at vs e) (h.same c) ∙ ap (λ m. value_at old m) q ∙ x)

    pub writes_more : e < length mid → value_at mid e ≡ X → b ≢ X → WritesFirst nodes (i + 1) b true old (set mid e b)
    writes_more in' x def = record {
      writes = λ n. writes n (cases_eq n e);
      more = λ _. fewer changed refl;
      same = λ c. cc;
      none = λ c. cc;
    }
      where
        was : (value_at mid e ≡ value_at old e)
            ⊎ (Contains (take i nodes) e × (value_at old e ≡ X) × (value_at mid e ≡ b)) → value_at old e ≡ X
        was (inl q) = sym q ∙ x
        was (inr q) = q.1

        writes : (n : ℕ) → (n ≡ e) ⊎ (n ≢ e)
            → (value_at (set mid e b) n ≡ value_at old n)
            ⊎ (Contains (take (i + 1) nodes) n × (value_at old n ≡ X) × (value_at (set mid e b) n ≡ b))
        writes n (inl q) =
            inr (
              (contains_more nodes i e n lt is).1 (inr (sym q)),
              ap (λ m. value_at old m) q
                  ∙ was (h.writes e),
              ap (λ m. value_at (set mid e b) m) q ∙ get_or-set_same mid e b X in',
            )
        writes n (inr q) =
            let same : value_at (set mid e b) n ≡ value_at mid n = get_or-set_other mid e n b X q in
            elim (wider n (h.writes n)) [ inl r ↦ inl (same ∙ r) | inr r ↦ inr (r.0, r.1, same ∙ r.2) ]

        fewer : (c : Bool) → changed ≡ c → unknown (set mid e b) < unknown old
        fewer true c = let l = unknown_set mid e b in' x def in let m = h.more c in omega arith
        fewer false c = let l = unknown_set mid e b in' x def in
            let m : unknown mid ≡ unknown old = ap unknown (h.same c) in omega arith

  pub writes_all : (i : ℕ) (changed : Bool) (new : List Trit) → length nodes ≤ i
      → WritesFirst nodes i b changed old new → WritesFirst nodes (length nodes) b changed old new
  writes_all i changed new le h = record {
    writes = subst (λ (xs : List ℕ). Writes xs b (value_at old) (value_at new)) same h.writes;
    more = h.more;
    same = h.same;
    none = λ c. subst (λ (xs : List ℕ). (n : ℕ) → Contains xs n → value_at old n ≢ X) same (h.none c);
  }
    where
      same : take i nodes ≡ take (length nodes) nodes
      same = take_all i nodes le ∙ sym (take_all (length nodes) nodes (omega arith))

-- two writes of what is given are a step
module _ (s : Setting) (v w u : ℕ → Trit) (cluster zeros ones : List ℕ)
    (free : (n : ℕ) → Contains cluster n → s.driver n ≡ None)
    (Z : Picks (λ n. Gives s v n Zero) cluster zeros) (O : Picks (λ n. Gives s v n One) cluster ones) where
  pub steps_from : Writes zeros Zero v w → Writes ones One w u → Steps s v u
  steps_from low high n = by_high (high n) (low n)
    where
      to : (b : Trit) → b ≢ X → u n ≡ b → s.driver n ≡ None → v n ≡ X → Gives s v n b
          → (u n ≡ v n) ⊎ ((s.driver n ≡ None) × (v n ≡ X) × (u n ≢ X) × Gives s v n (u n))
      to b def e undriven x g = inr (undriven, x, (λ y. def (sym e ∙ y)), subst (λ t. Gives s v n t) (sym e) g)

      by_high : (u n ≡ w n) ⊎ (Contains ones n × (w n ≡ X) × (u n ≡ One))
          → (w n ≡ v n) ⊎ (Contains zeros n × (v n ≡ X) × (w n ≡ Zero))
          → (u n ≡ v n) ⊎ ((s.driver n ≡ None) × (v n ≡ X) × (u n ≢ X) × Gives s v n (u n))
      by_high (inl e) (inl f) = inl (e ∙ f)
      by_high (inl e) (inr p) = to Zero zero_not_x (e ∙ p.2) (free n ((Z n).0 p.0).0) p.1 ((Z n).0 p.0).1
      by_high (inr q) (inl f) = to One one_not_x q.2 (free n ((O n).0 q.0).0) (sym f ∙ q.1) ((O n).0 q.0).1
      by_high (inr q) (inr p) = absurd (zero_not_x (sym p.2 ∙ q.1))

  pub stuck_from : ((n : ℕ) → Contains zeros n → v n ≢ X) → ((n : ℕ) → Contains ones n → v n ≢ X) → (n : ℕ)
      → Contains cluster n → IsStuck s v n
  stuck_from no_zero no_one n in' undriven x Zero def g = no_zero n ((Z n).1 (in', g)) x
  stuck_from no_zero no_one n in' undriven x One def g = no_one n ((O n).1 (in', g)) x
  stuck_from no_zero no_one n in' undriven x X def g = def refl

-- marks that are set one by one
pub marks_more : (nodes : List ℕ) (i e : ℕ) (old mid : List Bool) → i < length nodes → e ≡ get_or nodes i e
    → ((n : ℕ) → IsMarked mid n → IsMarked old n ⊎ Contains (take i nodes) n)
    → (n : ℕ) → IsMarked (set mid e true) n → IsMarked old n ⊎ Contains (take (i + 1) nodes) n
marks_more nodes i e old mid lt is h n q = by_node (cases_eq n e)
  where
    wider : IsMarked old n ⊎ Contains (take i nodes) n → IsMarked old n ⊎ Contains (take (i + 1) nodes) n
    wider (inl r) = inl r
    wider (inr r) = inr ((contains_more nodes i e n lt is).1 (inl r))

    by_node : (n ≡ e) ⊎ (n ≢ e) → IsMarked old n ⊎ Contains (take (i + 1) nodes) n
    by_node (inl same) = inr ((contains_more nodes i e n lt is).1 (inr (sym same)))
    by_node (inr other) = wider (h n (sym (get_or-set_other mid e n true false other) ∙ q))
