-- A renumbered network settles to the same values.
use Rattle.std.proofs.Common.{ℕ, ◌≡◌, ◌<◌, ◌≤◌, ◌⊎◌, inl, inr, refl, sym, ◌∙◌, ap, subst, arith, List, [], ◌∷◌}
use Rattle.std.specs.Prelude.{◌↔◌, Option, Some, None}
use Rattle.std.proofs.lemmas.Bool.{cases_lt}
use Rattle.mp_base.specs.declared.value.Trit.{Trit}
use Rattle.mp_base.specs.declared.value.Trit.TheVariants.{Zero, One}
use Rattle.mp_base.proofs.Values.{none_not_some}
use Rattle.switch_net.specs.declared.network.Channel.{Channel}
use Rattle.switch_net.specs.declared.network.Network.{Network}
use Rattle.switch_net.specs.Settled.{Path, Gives, IsSolution}
use Rattle.renumbering.specs.Same.{Renumbering, AreAlike}
use Rattle.renumbering.specs.Laws.{setting, SettlesAlike}
use Rattle.renumbering.proofs.Composing.{end_in, flip, alike_back}
use Rattle.renumbering.proofs.Paths.{gives_there}

-- the one where j is below k, and else the other
abbrev choose : {V : Type 0} {j k : ℕ} → (j < k) ⊎ (k ≤ j) → V → V → V
choose (inl lt) a b = a
choose (inr ge) a b = b

abbrev pub within_or : {V : Type 0} → ℕ → ℕ → V → V → V
within_or j k a b = choose (cases_lt j k) a b

pub within : {V : Type 0} (j k : ℕ) (a b : V) → j < k → within_or j k a b ≡ a
within {V = V} j k a b lt = by (cases_lt j k)
  where
    by : (o : (j < k) ⊎ (k ≤ j)) → choose o a b ≡ a
    by (inl l) = refl
    by (inr ge) = absurd (omega (arith, lt, ge))

pub beyond : {V : Type 0} (j k : ℕ) (a b : V) → k ≤ j → within_or j k a b ≡ b
beyond {V = V} j k a b ge = by (cases_lt j k)
  where
    by : (o : (j < k) ⊎ (k ≤ j)) → choose o a b ≡ b
    by (inl l) = absurd (omega (arith, l, ge))
    by (inr g) = refl

-- the value of a number that is no node's: its driver's, or else the one before
abbrev alone : Option Trit → Trit → Trit
alone (Some t) b = t
alone None b = b

module _ (m : Network) (driver : ℕ → Option Trit) (before : ℕ → Trit) where
  -- no channel leads to a number that is no node's
  no_way : (a : ℕ) (cs : List Channel) (j : ℕ) → m.nodes ≤ j → Path (setting m driver before) a cs j → a ≡ j
  no_way a [] j ge e = e
  no_way a (c ∷ cs) j ge (mid, p, has, from, to, free) =
      (let lt = end_in m c j has to in absurd (omega (arith, lt, ge)))

  -- such a number keeps its value
  keeps_alone : (v : ℕ → Trit) (j : ℕ) → m.nodes ≤ j → driver j ≡ None → (b : Trit) → before j ≡ b
      → Gives (setting m driver before) v j b
  keeps_alone v j ge free b e = inr (inr (record {
    alone = λ a cs some p may. none_not_some (driver a) (ap driver (no_way a cs j ge p) ∙ free) some;
    charged = λ a cs p may. ap before (no_way a cs j ge p) ∙ e;
  }))

  kept_alone : (v : ℕ → Trit) (j : ℕ) → m.nodes ≤ j → driver j ≡ None → (b : Trit)
      → Gives (setting m driver before) v j b → before j ≡ b
  kept_alone v j ge free b (inl h) =
      let (a, cs, e, p, strong, on) = h.held in
      let f : Some b ≡ None = sym e ∙ ap driver (no_way a cs j ge p) ∙ free in
      absurd (cc)
  kept_alone v j ge free b (inr (inl h)) =
      let (a, cs, e, p, weak, on) = h.held in
      let f : Some b ≡ None = sym e ∙ ap driver (no_way a cs j ge p) ∙ free in
      absurd (cc)
  kept_alone v j ge free b (inr (inr h)) = h.charged j [] refl (λ i d lt. absurd (omega (arith, lt)))

-- ---- solutions

module _ (n m : Network) (r : Renumbering n m) (driver other : ℕ → Option Trit) (before past : ℕ → Trit)
    (drives : AreAlike n m r driver other) (keeps : AreAlike n m r before past) (x : ℕ → Trit) where
  -- the values of the other network
  abbrev pub carried : ℕ → Trit
  carried j = within_or j m.nodes (x (r.node_back j)) (alone (other j) (past j))

  carried_in : (j : ℕ) → j < m.nodes → carried j ≡ x (r.node_back j)
  carried_in j lt = within j m.nodes (x (r.node_back j)) (alone (other j) (past j)) lt

  carried_out : (j : ℕ) → m.nodes ≤ j → carried j ≡ alone (other j) (past j)
  carried_out j ge = beyond j m.nodes (x (r.node_back j)) (alone (other j) (past j)) ge

  pub alike : AreAlike n m r x carried
  alike k lt = sym (carried_in (r.node k) (r.nodes.within k lt) ∙ ap x (r.nodes.there_back k lt))

  module _ (solved : IsSolution (setting n driver before) x) where
    follows : (b : Trit) → ((k : ℕ) → driver k ≡ None → (x k ≡ b) ↔ Gives (setting n driver before) x k b)
        → (j : ℕ) → other j ≡ None → (carried j ≡ b) ↔ Gives (setting m other past) carried j b
    follows b says j free = elim (cases_lt j m.nodes) [
      | inl lt ↦ (let k : ℕ = r.node_back j in
          let low = r.nodes.back_within j lt in
          let same : r.node k ≡ j = r.nodes.back_there j lt in
          let undriven : driver k ≡ None = sym (alike_back n m r driver other drives j lt) ∙ free in (
            λ e. subst (λ z. Gives (setting m other past) carried z b) same
                (gives_there n m r driver other before past drives keeps x carried alike k low b
                ((says k undriven).0 (sym (carried_in j lt) ∙ e))),
            λ h. carried_in j lt ∙ (says k undriven).1
                (gives_there m n (flip n m r) other driver past before (alike_back n m r driver other drives)
                (alike_back n m r before past keeps) carried x (alike_back n m r x carried alike) j lt b h),
          ))
      | inr ge ↦ (let here : carried j ≡ past j = carried_out j ge ∙ ap (λ o. alone o (past j)) free in (
        λ e. keeps_alone m other past carried j ge free b (sym here ∙ e),
        λ h. here ∙ kept_alone m other past carried j ge free b h,
      ))
    ]

    driven : (j : ℕ) (t : Trit) → other j ≡ Some t → carried j ≡ t
    driven j t e = elim (cases_lt j m.nodes) [
      | inl lt ↦ carried_in j lt ∙ solved.driven (r.node_back j) t (sym (alike_back n m r driver other drives j lt) ∙ e)
      | inr ge ↦ carried_out j ge ∙ ap (λ o. alone o (past j)) e
    ]

    pub carried_solves : IsSolution (setting m other past) carried
    carried_solves = record { driven = driven; zero = follows Zero solved.zero; one = follows One solved.one }

pub settles_alike : SettlesAlike
settles_alike n m r driver other before past v w drives keeps a b k lt =
    let back = alike_back n m r driver other drives in
    let held = alike_back n m r before past keeps in
    let there : ℕ → Trit = carried n m r driver other before past drives keeps v in
    let here : ℕ → Trit = carried m n (flip n m r) other driver past before back held w in
    let low = b.least there (carried_solves n m r driver other before past drives keeps v a.solution) (r.node k) in
    let high = a.least here (carried_solves m n (flip n m r) other driver past before back held w b.solution) k in
    let up : v k ≡ there (r.node k) = alike n m r driver other before past drives keeps v k lt in
    let on = alike m n (flip n m r) other driver past before back held w (r.node k) (r.nodes.within k lt) in
    let down : here k ≡ w (r.node k) = sym (ap here (r.nodes.there_back k lt)) ∙ sym on in
    elim high [
      | inr e ↦ e ∙ down
      | inl unknown ↦ elim low [ inr f ↦ up ∙ sym f | inl f ↦ unknown ∙ sym f ]
    ]
