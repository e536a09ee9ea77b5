-- What is told at the start of a settling.
use Rattle.std.proofs.Common.{◌≡◌, ◌<◌, ◌≤◌, ◌+◌, ℕ, List, Option, Some, None, Bool, length, refl, sym, ◌∙◌, ap}
use Rattle.std.proofs.Common.{subst, inl, inr, ◌⊎◌, arith}
use Rattle.std.specs.Prelude.{Contains, All, ◌≢◌}
use Rattle.std.proofs.lemmas.Bool.{cases_eq, cases_lt}
use Rattle.std.proofs.lemmas.List.{get_or_past}
use Rattle.mp_base.specs.declared.value.Trit.{Trit}
use Rattle.mp_base.specs.declared.value.Trit.TheVariants.{Zero, One, X}
use Rattle.mp_base.proofs.Numbers.{below_suc}
use Rattle.switch_net.specs.declared.network.Channel.{Channel}
use Rattle.switch_net.specs.Settled.{Setting, IsSolution}
use Rattle.switch_net.specs.Reaching.{here}
use Rattle.switch_net.specs.Laws.{GivesAlongReach}
use Rattle.settle_laws.specs.Told.{IsGiven, IsTold, IsRedriven}
use Rattle.settle_laws.specs.Laws.{RedrivenTells}
use Rattle.node_clusters.specs.Values.{IsMarked}
use Rattle.switch_net.specs.Values.{value_at, driver_at}
use Rattle.node_clusters.specs.Links.{listed, AreGated}
use Rattle.settle.specs.Wake.{Wakes, WakesBeside}
use Rattle.settle.specs.Start.{IsReady, Redrives, RedrivesFirst}
use Rattle.node_clusters.proofs.Unknown.{past_nodes, zero_not_x, one_not_x}
use Rattle.settle.proofs.Waking.{mark_at, wakes_wider}
use Rattle.settle.proofs.Looking.{end_inside}

-- where all undriven nodes wait
pub all_wait : (law : GivesAlongReach) (s : Setting) (nodes : ℕ) (values : List Trit) (waits : List Bool)
    → All (λ (c : Channel). All (λ e. e < nodes) c.ends) s.channels
    → length values ≡ nodes → ((n : ℕ) → nodes ≤ n → s.before n ≡ X)
    → ((n : ℕ) → n < nodes → s.driver n ≡ None → IsMarked waits n) → IsTold s (value_at values) (IsMarked waits)
all_wait law s nodes values waits ends sized had waiting n free none = by_place (cases_lt n nodes)
  where
    by_place : (n < nodes) ⊎ (nodes ≤ n) → IsGiven s (value_at values) n (value_at values n)
    by_place (inl lt) = absurd (none (here (waiting n lt free)))
    by_place (inr far) =
        let x : value_at values n ≡ X = get_or_past values n X (omega arith) in
        let no_more = past_nodes s (value_at values) nodes n law ends far free (had n far) in (
          (λ z. absurd (zero_not_x (sym z ∙ x)), λ g. absurd (no_more Zero zero_not_x g)),
          (λ z. absurd (one_not_x (sym z ∙ x)), λ g. absurd (no_more One one_not_x g)),
        )

-- the first nodes, one by one
module _ (channels : List Channel) (gated : List (List ℕ)) (last drive : List (Option Trit)) (old : List Trit) where
  abbrev First : ℕ → List Trit → List Bool → Type 0
  First i new waits = RedrivesFirst channels gated last drive i old new waits

  pub redrives_none : (waits : List Bool) → ((n : ℕ) → IsMarked waits n → ⊥) → First 0 old waits
  redrives_none waits none = record {
    driven = λ n t lt. absurd (omega arith);
    kept = λ n _. refl;
    lost = λ n lt. absurd (omega arith);
    told = λ g. inl refl;
    beside = λ n lt. absurd (omega arith);
    undriven = λ n m. absurd (none n m);
  }

  module _ (i : ℕ) (mid : List Trit) (waits : List Bool) (h : First i mid waits) where
    pub redrives_same : ((n : ℕ) (t : Trit) → driver_at last n ≡ Some t → value_at old n ≡ t)
        → driver_at drive i ≡ driver_at last i → First (i + 1) mid waits
    redrives_same was same = record {
      driven = λ n t lt d. driven n t d (below_suc n i lt);
      kept = λ n q. kept n q;
      lost = λ n lt free. lost n free (below_suc n i lt);
      told = h.told;
      beside = λ n lt. beside n (below_suc n i lt);
      undriven = h.undriven;
    }
      where
        driven : (n : ℕ) (t : Trit) → driver_at drive n ≡ Some t → (n < i) ⊎ (n ≡ i) → value_at mid n ≡ t
        driven n t d (inl lt) = h.driven n t lt d
        driven n t d (inr e) =
            h.kept n (inr (omega arith)) ∙ was n t (ap (driver_at last) e ∙ sym same ∙ ap (driver_at drive) (sym e) ∙ d)

        kept : (n : ℕ) → (driver_at drive n ≡ None) ⊎ (i + 1 ≤ n) → value_at mid n ≡ value_at old n
        kept n (inl free) = h.kept n (inl free)
        kept n (inr le) = h.kept n (inr (omega arith))

        lost : (n : ℕ) → driver_at drive n ≡ None → (n < i) ⊎ (n ≡ i) → (driver_at last n ≡ None) ⊎ IsMarked waits n
        lost n free (inl lt) = h.lost n lt free
        lost n free (inr e) = inl (ap (driver_at last) e ∙ sym same ∙ ap (driver_at drive) (sym e) ∙ free)

        beside : (n : ℕ) → (n < i) ⊎ (n ≡ i)
            → (driver_at drive n ≡ driver_at last n) ⊎ WakesBeside (driver_at drive) channels n waits
        beside n (inl lt) = h.beside n lt
        beside n (inr e) = inl (ap (driver_at drive) e ∙ same ∙ ap (driver_at last) (sym e))

    pub redrives_more : (new : List Trit) (after : List Bool) → length after ≡ length waits
        → Redrives channels gated drive i mid new waits after → First (i + 1) new after
    redrives_more new after sized r = record {
      driven = λ n t lt d. driven n t d (below_suc n i lt) (cases_eq n i);
      kept = λ n q. kept n q (cases_eq n i);
      lost = λ n lt free. lost n free (below_suc n i lt);
      told = λ g. told g (cases_eq g i);
      beside = λ n lt. beside n (below_suc n i lt);
      undriven = λ n m. elim (r.widens.undriven n m) [ inl q ↦ h.undriven n q | inr free ↦ free ];
    }
      where
        driven : (n : ℕ) (t : Trit) → driver_at drive n ≡ Some t → (n < i) ⊎ (n ≡ i) → (n ≡ i) ⊎ (n ≢ i)
            → value_at new n ≡ t
        driven n t d _ (inl e) = ap (value_at new) e ∙ r.driven t (ap (driver_at drive) (sym e) ∙ d)
        driven n t d (inl lt) (inr ne) = r.kept n (inl ne) ∙ h.driven n t lt d
        driven n t d (inr e) (inr ne) = absurd (ne e)

        kept : (n : ℕ) → (driver_at drive n ≡ None) ⊎ (i + 1 ≤ n) → (n ≡ i) ⊎ (n ≢ i) → value_at new n ≡ value_at old n
        kept n (inl free) (inl e) = r.kept n (inr (ap (driver_at drive) (sym e) ∙ free)) ∙ h.kept n (inl free)
        kept n (inr le) (inl e) = absurd (omega arith)
        kept n (inl free) (inr ne) = r.kept n (inl ne) ∙ h.kept n (inl free)
        kept n (inr le) (inr ne) = r.kept n (inl ne) ∙ h.kept n (inr (omega arith))

        lost : (n : ℕ) → driver_at drive n ≡ None → (n < i) ⊎ (n ≡ i) → (driver_at last n ≡ None) ⊎ IsMarked after n
        lost n free (inl lt) = elim (h.lost n lt free) [ inl q ↦ inl q | inr m ↦ inr (r.widens.kept n m) ]
        lost n free (inr e) =
            inr (subst (λ k. IsMarked after k) (sym e) (r.waiting (ap (driver_at drive) (sym e) ∙ free)))

        told : (g : ℕ) → (g ≡ i) ⊎ (g ≢ i)
            → (value_at new g ≡ value_at old g) ⊎ Wakes (driver_at drive) (listed gated g) after
        told g (inl e) = elim r.told [
          | inl same ↦ elim (h.told g) [
            | inl q ↦ inl (ap (value_at new) e ∙ same ∙ ap (value_at mid) (sym e) ∙ q)
            | inr w ↦ inr (wakes_wider (driver_at drive) (listed gated g) waits after sized r.widens w)
          ]
          | inr w ↦ inr (subst (λ k. Wakes (driver_at drive) (listed gated k) after) (sym e) w)
        ]
        told g (inr ne) = elim (h.told g) [
          | inl q ↦ inl (r.kept g (inl ne) ∙ q)
          | inr w ↦ inr (wakes_wider (driver_at drive) (listed gated g) waits after sized r.widens w)
        ]

        wider : (n : ℕ) → WakesBeside (driver_at drive) channels n waits
            → WakesBeside (driver_at drive) channels n after
        wider n w c in' at = wakes_wider (driver_at drive) c.ends waits after sized r.widens (w c in' at)

        beside : (n : ℕ) → (n < i) ⊎ (n ≡ i)
            → (driver_at drive n ≡ driver_at last n) ⊎ WakesBeside (driver_at drive) channels n after
        beside n (inl lt) = elim (h.beside n lt) [ inl q ↦ inl q | inr w ↦ inr (wider n w) ]
        beside n (inr e) = inr (subst (λ k. WakesBeside (driver_at drive) channels k after) (sym e) r.beside)

-- where all nodes have the other drivers
module _ (channels : List Channel) (nodes : ℕ) (ends : All (λ (c : Channel). All (λ e. e < nodes) c.ends) channels)
    (gated : List (List ℕ)) (are : AreGated channels gated)
    (last drive : List (Option Trit)) (last_sized : length last ≡ nodes) (drive_sized : length drive ≡ nodes)
    (old new : List Trit) (waits : List Bool) (sized : length waits ≡ nodes)
    (h : RedrivesFirst channels gated last drive nodes old new waits) where
  abbrev Was : Setting
  Was = record { channels = channels; driver = driver_at last; before = value_at old }

  abbrev Is : Setting
  Is = record { channels = channels; driver = driver_at drive; before = value_at old }

  redriven : IsRedriven Was (driver_at drive) (value_at old) (value_at new) (IsMarked waits)
  redriven = record {
    lost = λ n free. lost n free (cases_lt n nodes);
    kept = λ n free. h.kept n (inl free);
    gated = λ c e in' kind at free. elim (h.told c.gate) [
      | inl same ↦ inl same
      | inr w ↦ inr (w e (are c e in' kind at) (inside c e in' at) free)
    ];
    beside = λ c e a in' at_e at_a free. elim (h.beside a (let l = end_inside nodes channels ends c a in' at_a in l)) [
      | inl same ↦ inl same
      | inr w ↦ inr (w c in' at_a e at_e (inside c e in' at_e) free)
    ];
  }
    where
      inside : (c : Channel) (e : ℕ) → Contains channels c → Contains c.ends e → e < length waits
      inside c e in' at = let l = end_inside nodes channels ends c e in' at in omega arith

      lost : (n : ℕ) → driver_at drive n ≡ None → (n < nodes) ⊎ (nodes ≤ n)
          → (driver_at last n ≡ None) ⊎ IsMarked waits n
      lost n free (inl lt) = h.lost n lt free
      lost n free (inr far) = inl (get_or_past last n None (omega arith))

  pub redrives_ready : RedrivenTells → IsSolution Was (value_at old) → IsReady Is new waits
  redrives_ready law sol = record {
    driven = λ n t d. driven n t d (cases_lt n nodes);
    undriven = h.undriven;
    told = law Was (driver_at drive) (value_at old) (value_at new) (mark_at waits) sol redriven;
  }
    where
      driven : (n : ℕ) (t : Trit) → driver_at drive n ≡ Some t → (n < nodes) ⊎ (nodes ≤ n) → value_at new n ≡ t
      driven n t d (inl lt) = h.driven n t lt d
      driven n t d (inr far) = let past : driver_at drive n ≡ None = get_or_past drive n None (omega arith) in
          absurd (cc)
