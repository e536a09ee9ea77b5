-- What `setq` forms are worth to the definitions that they set.
use Rattle.std.proofs.Common.{◌≡◌, ◌⊎◌, inl, inr, ℕ, ◌+◌, ◌-◌, ◌<◌, ◌≤◌, List, sym, ◌∙◌, ap, subst, arith}
use Rattle.std.specs.Prelude.{slice_index}
use Rattle.std.proofs.lemmas.Bool.{cases_lt}
use Rattle.mp_base.specs.declared.refusal.Place.{Place}
use Rattle.mp_program.specs.declared.program.FormKind.TheVariants.{Set}
use Rattle.mp_program.specs.declared.program.Form.{Form}
use Rattle.mp_program.specs.declared.program.Program.{Program}
use Rattle.name_meanings.specs.declared.meaning.Meanings.{Meanings}
use Rattle.mp_base.specs.Entries.{IsAt}
use Rattle.mp_base.proofs.Entries.{same_at}
use Rattle.mp_order.specs.Tables.{Lifted}
use Rattle.mp_order.specs.Demands.{Asks}
use Rattle.mp_order.proofs.Tables.{lifted_as, lifted_join}

asks_more : (p : Program) (m : Meanings) (tops marks : List ℕ) (n a k : ℕ) → Asks p m tops marks n a k
    → Asks p m tops marks (n + 1) a k
asks_more p m tops marks n a k (f, y, name, at, v, lt, yf, kind, target, some, worth) =
    (f, y, name, at, v, omega (arith, lt), yf, kind, target, some, worth)

-- a form that asks for nothing
pub ask_none : (p : Program) (m : Meanings) (tops marks : List ℕ) (n : ℕ) (old new : List ℕ)
    → Lifted (Asks p m tops marks n) old new
    → ((y : Form) (name : List ℕ) (at : Place) (v : ℕ) → IsAt p.forms n y → y.kind ≡ Set name at v
    → 0 < slice_index marks n → ⊥)
    → Lifted (Asks p m tops marks (n + 1)) old new
ask_none p m tops marks n old new l none =
    lifted_as (Asks p m tops marks n) (Asks p m tops marks (n + 1)) old new l
    (λ a k h. asks_more p m tops marks n a k h) (λ a k h. fewer a k h)
  where
    fewer : (a k : ℕ) → Asks p m tops marks (n + 1) a k → Asks p m tops marks n a k
    fewer a k (f, y, name, at, v, lt, yf, kind, target, some, worth) = elim (cases_lt f n) [
      | inl below ↦ (f, y, name, at, v, below, yf, kind, target, some, worth)
      | inr above ↦ absurd (here (omega (arith, lt, above)) yf some)
    ]
      where
        here : f ≡ n → IsAt p.forms f y → 0 < slice_index marks f → ⊥
        here same yf some = let P : ℕ → Type 0 = λ i. IsAt p.forms i y × (0 < slice_index marks i) in
            let h : P n = subst P same (yf, some) in none y name at v h.0 kind h.1

pub ask_set : (p : Program) (m : Meanings) (tops marks : List ℕ) (n : ℕ) (y : Form) (name : List ℕ) (at : Place)
    (v target : ℕ) (old one two new : List ℕ)
    → IsAt p.forms n y → y.kind ≡ Set name at v → 0 < slice_index marks n → target ≡ slice_index m.targets n
    → Lifted (Asks p m tops marks n) old one
    → Lifted (λ i k. (i ≡ target) × (k ≡ slice_index marks n - 1)) one two
    → Lifted (λ i k. (i ≡ target) × (k ≡ slice_index tops v)) two new
    → Lifted (Asks p m tops marks (n + 1)) old new
ask_set p m tops marks n y name at v target old one two new yn kind some means first second third =
    lifted_join (Asks p m tops marks n) Here (Asks p m tops marks (n + 1)) old one new first
    (lifted_join (λ i k. (i ≡ target) × (k ≡ slice_index marks n - 1))
    (λ i k. (i ≡ target) × (k ≡ slice_index tops v)) Here one two new second third
    (λ i k (e, h). (e, inr (omega (arith, h, some)))) (λ i k (e, h). (e, inl h)) (λ i k (e, h). either i k e h))
    (λ a k h. asks_more p m tops marks n a k h)
    (λ a k (e, worth). (n, y, name, at, v, omega arith, yn, kind, sym means ∙ sym e, some, worth))
    (λ a k h. apart a k h)
  where
    Here : ℕ → ℕ → Type 0
    Here a k = (a ≡ target) × ((k ≡ slice_index tops v) ⊎ (k + 1 ≡ slice_index marks n))

    either : (i k : ℕ) → i ≡ target → (k ≡ slice_index tops v) ⊎ (k + 1 ≡ slice_index marks n)
        → ((i ≡ target) × (k ≡ slice_index marks n - 1))
        ⊎ ((l : ℕ) × (k ≤ l) × ((i ≡ target) × (l ≡ slice_index tops v)))
    either i k e (inl h) = inr (k, omega arith, (e, h))
    either i k e (inr h) = inl (e, omega (arith, h))

    apart : (a k : ℕ) → Asks p m tops marks (n + 1) a k → Asks p m tops marks n a k ⊎ ((l : ℕ) × (k ≤ l) × Here a l)
    apart a k (f, z, other, there, w, lt, zf, kind', target', live, worth) = elim (cases_lt f n) [
      | inl below ↦ inl (f, z, other, there, w, below, zf, kind', target', live, worth)
      | inr above ↦ inr (k, omega arith, here (omega (arith, lt, above)))
    ]
      where
        here : f ≡ n → Here a k
        here same =
            let e : z ≡ y = same_at p.forms f n z y same zf yn in
            let k' : Set other there w ≡ Set name at v = sym kind' ∙ ap (λ (x : Form). x.kind) e ∙ kind in
            let value : w ≡ v = cc in
            let P : ℕ → ℕ
            → Type 0 = λ i u. (slice_index m.targets i ≡ a)
            × ((k ≡ slice_index tops u) ⊎ (k + 1 ≡ slice_index marks i)) in
            let Q : ℕ → Type 0 = λ i. P i w in
            let R : ℕ → Type 0 = λ u. P n u in
            let h : P n v = subst R value (subst Q same (target', worth)) in
            (sym h.0 ∙ sym means, h.1)
