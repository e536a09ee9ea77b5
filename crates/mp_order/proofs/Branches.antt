-- The marks that a `cond` gives, branch by branch.
use Rattle.std.proofs.Common.{◌≡◌, ◌⊎◌, inl, inr, ℕ, ◌+◌, ◌<◌, ◌≤◌, List, refl, sym, ◌∙◌, ap, subst, length, arith}
use Rattle.std.specs.Prelude.{Contains, slice_index}
use Rattle.std.proofs.lemmas.Bool.{cases_lt}
use Rattle.mp_program.specs.declared.program.Branch.{Branch}
use Rattle.mp_program.specs.declared.program.FormKind.TheVariants.{Cond}
use Rattle.mp_base.specs.Entries.{IsAt}
use Rattle.mp_base.proofs.Entries.{within, same_at}
use Rattle.mp_order.specs.Tables.{Lifted}
use Rattle.mp_order.specs.Demands.{Gives}
use Rattle.mp_order.proofs.Tables.{lifted_as, lifted_join}

-- k is the mark around, or what a guard up to branch j makes of it
abbrev pub Worth : List ℕ → List Branch → ℕ → ℕ → ℕ → Type 0
Worth tops bs mark j k =
    (k ≡ mark) ⊎ ((i : ℕ) × (c : Branch) × IsAt bs i c × (i ≤ j) × (k ≡ slice_index tops c.guard + 1))

-- what branches before n give
abbrev pub GivesBelow : List ℕ → List Branch → ℕ → ℕ → ℕ → ℕ → Type 0
GivesBelow tops bs mark n f k =
    (j : ℕ) × (b : Branch) × (j < n) × IsAt bs j b × Contains b.body f × Worth tops bs mark j k

-- high is the greatest mark before branch n
pub record Highest (tops : List ℕ) (bs : List Branch) (mark n high : ℕ) : Type 0 where
  pub met : (high ≡ mark) ⊎ ((i : ℕ) × (c : Branch) × IsAt bs i c × (i < n) × (high ≡ slice_index tops c.guard + 1))
  pub around : mark ≤ high
  pub guards : (i : ℕ) (c : Branch) → i < n → IsAt bs i c → slice_index tops c.guard + 1 ≤ high

pub highest_none : (tops : List ℕ) (bs : List Branch) (mark : ℕ) → Highest tops bs mark 0 mark
highest_none tops bs mark =
    record { met = inl refl; around = omega arith; guards = λ i c lt. absurd (omega (arith, lt)) }

pub highest_more : (tops : List ℕ) (bs : List Branch) (mark n high new : ℕ) (b : Branch) → IsAt bs n b
    → Highest tops bs mark n high
    → ((new ≡ high) ⊎ (new ≡ slice_index tops b.guard + 1)) → high ≤ new → slice_index tops b.guard + 1 ≤ new
    → Highest tops bs mark (n + 1) new
highest_more tops bs mark n high new b at h which le guard = record {
  met = elim which [ inl same ↦ kept same h.met | inr here ↦ inr (n, b, at, omega arith, here) ];
  around = omega (arith, h.around, le);
  guards = λ i c lt ci. elim (cases_lt i n) [
    | inl below ↦ omega (arith, h.guards i c below ci, le)
    | inr above ↦ let same : i ≡ n = omega (arith, lt, above) in
        let e : c.guard ≡ b.guard = ap (λ (x : Branch). x.guard) (same_at bs i n c b same ci at) in
        let P : ℕ → Type 0 = λ g. slice_index tops g + 1 ≤ new in subst P (sym e) guard
  ];
}
  where
    Met : ℕ → ℕ → Type 0
    Met m k = (k ≡ mark) ⊎ ((i : ℕ) × (c : Branch) × IsAt bs i c × (i < m) × (k ≡ slice_index tops c.guard + 1))

    kept : new ≡ high → Met n high → Met (n + 1) new
    kept same (inl e) = inl (same ∙ e)
    kept same (inr (i, c, ci, lt, e)) = inr (i, c, ci, omega (arith, lt), same ∙ e)

pub branches_more : (tops : List ℕ) (bs : List Branch) (mark n high : ℕ) (b : Branch) (old mid new : List ℕ)
    → IsAt bs n b → Highest tops bs mark (n + 1) high
    → Lifted (GivesBelow tops bs mark n) old mid → Lifted (λ f k. Contains b.body f × (k ≡ high)) mid new
    → Lifted (GivesBelow tops bs mark (n + 1)) old new
branches_more tops bs mark n high b old mid new at h first second =
    lifted_join (GivesBelow tops bs mark n) (λ f k. Contains b.body f × (k ≡ high))
    (GivesBelow tops bs mark (n + 1)) old mid new first second
    (λ f k (j, d, lt, dj, inside, worth). (j, d, omega (arith, lt), dj, inside, worth))
    (λ f k (inside, e). (n, b, omega arith, at, inside, worth k e h.met))
    (λ f k (j, d, lt, dj, inside, worth). elim (cases_lt j n) [
      | inl below ↦ inl (j, d, below, dj, inside, worth)
      | inr above ↦
          inr (high, most j k (omega (arith, lt)) worth, (held j d f (omega (arith, lt, above)) dj inside, refl))
    ])
  where
    worth : (k : ℕ) → k ≡ high
        → (high ≡ mark) ⊎ ((i : ℕ) × (c : Branch) × IsAt bs i c × (i < n + 1) × (high ≡ slice_index tops c.guard + 1))
        → Worth tops bs mark n k
    worth k e (inl m) = inl (e ∙ m)
    worth k e (inr (i, c, ci, lt, m)) = inr (i, c, ci, omega (arith, lt), e ∙ m)

    most : (j k : ℕ) → j < n + 1 → Worth tops bs mark j k → k ≤ high
    most j k lt (inl e) = omega (arith, e, h.around)
    most j k lt (inr (i, c, ci, le, e)) = omega (arith, e, h.guards i c (omega (arith, lt, le)) ci)

    held : (j : ℕ) (d : Branch) (f : ℕ) → j ≡ n → IsAt bs j d → Contains d.body f → Contains b.body f
    held j d f same dj inside = let P : Branch → Type 0 = λ x. Contains x.body f in
        subst P (same_at bs j n d b same dj at) inside

pub branches_done : (tops : List ℕ) (bs : List Branch) (mark n : ℕ) (old new : List ℕ) → length bs ≤ n
    → Lifted (GivesBelow tops bs mark n) old new
    → Lifted (Gives tops (Cond bs) mark) old new
branches_done tops bs mark n old new le l =
    lifted_as (GivesBelow tops bs mark n) (Gives tops (Cond bs) mark) old new l
    (λ f k (j, d, lt, dj, inside, worth). (j, d, dj, inside, worth))
    (λ f k (j, d, dj, inside, worth). (j, d, omega (arith, within bs j dj, le), dj, inside, worth))
