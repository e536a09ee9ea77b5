-- Evaluating in an order keeps the equations that were met before.
use Rattle.std.proofs.Common.{◌≡◌, ◌≢◌, ℕ, ◌+◌, ◌<◌, ◌≤◌, List, true, false, sym, ◌∙◌, ap, inl, inr}
use Rattle.std.proofs.Common.{length, arith, get_or}
use Rattle.std.specs.Prelude.{slice_index, slice_get, Some, slice_set as set}
use Rattle.std.proofs.lemmas.Bool.{cases_lt}
use Rattle.std.proofs.lemmas.List.{get_or-set_same, get_or-set_other}
use Rattle.std.proofs.lemmas.Option.{same_Some, slice_get_within}
use Rattle.mp_base.proofs.Entries.{same_at}
use Rattle.mp_base.proofs.Induction.{by_test}
use Rattle.mp_program.specs.declared.program.Def.{Def}
use Rattle.mp_program.specs.declared.program.Program.{Program}
use Rattle.mp_program.specs.Names.{is_driven}
use Rattle.mp_program.specs.Reads.{Reads, IsOrder}
use Rattle.mp_program.specs.State.{State}
use Rattle.mp_program.specs.Environment.{driven_value, IsEnvironment}
use Rattle.mp_program.proofs.Definitions.{what_value-driven, what_value-given}
use Rattle.program_clock.specs.Settled.{KeepsGiven, SettledUpTo}

-- what is driven depends on what is read and on what is not driven
abbrev pub Agreement : Program → State → Type 0
Agreement p st = (env other : List ℕ) (a : ℕ) (x : Def) → length env ≡ length p.defs → length other ≡ length p.defs
    → slice_get p.defs a ≡ Some x → is_driven x.what ≡ true
    → ((b : ℕ) (y : Def) → slice_get p.defs b ≡ Some y → is_driven y.what ≡ false
    → get_or env b 0 ≡ get_or other b 0)
    → ((b : ℕ) → Reads p a b → get_or env b 0 ≡ get_or other b 0)
    → driven_value p st env x ≡ driven_value p st other x

module _ (p : Program) (st : State) (inputs order : List ℕ) (ordered : IsOrder p order) (agree : Agreement p st) where
  -- a definition that is not driven is none of the order
  apart : (k d : ℕ) (x : Def) → k < length order → slice_get p.defs d ≡ Some x → is_driven x.what ≡ false
      → d ≢ slice_index order k
  apart k d x lt at still = λ e.
      let t = ordered.driven k lt in
      let one : x ≡ t.0 = same_at p.defs d (slice_index order k) x t.0 e at t.1 in
      let clash : true ≡ false = sym t.2 ∙ ap (λ (z : Def). is_driven z.what) (sym one) ∙ still in
      cc

  -- a write to the one at k changes nothing for those up to it
  keeps : (env : List ℕ) (j k v : ℕ) (y : Def) → j ≤ k → k < length order
      → slice_get p.defs (slice_index order j) ≡ Some y
      → length env ≡ length p.defs → length (set env (slice_index order k) v) ≡ length p.defs
      → driven_value p st env y ≡ driven_value p st (set env (slice_index order k) v) y
  keeps env j k v y jk lt at size size' =
      let t = ordered.driven j (omega (arith, jk, lt)) in
      let same : y ≡ t.0 = same_Some y t.0 (sym at ∙ t.1) in
      agree env (set env (slice_index order k) v) (slice_index order j) y size size' at
      (ap (λ (z : Def). is_driven z.what) same ∙ t.2)
      (λ b z here still. sym
      (get_or-set_other env (slice_index order k) b v 0 (apart k b z lt here still)))
      (λ b reads. let found = ordered.after j b (omega (arith, jk, lt)) reads in
      sym (get_or-set_other env (slice_index order k) b v 0
      (λ e. ordered.once found.0 k (omega (arith, found.1, jk)) lt (found.2 ∙ e))))

  pub settled_more : (env : List ℕ) (k v : ℕ) (x : Def) → k < length order
      → slice_get p.defs (slice_index order k) ≡ Some x
      → length env ≡ length p.defs
      → length (set env (slice_index order k) v) ≡ length p.defs
      → v ≡ driven_value p st env x → SettledUpTo p st env order k
      → SettledUpTo p st (set env (slice_index order k) v) order (k + 1)
  settled_more env k v x lt at size size' value settled j y jk here =
      let after = keeps env j k v y (omega (arith, jk)) lt here size size' in
      elim (cases_lt j k) [
        | inl below ↦
            get_or-set_other env (slice_index order k) (slice_index order j) v 0 (λ e. ordered.once j k below lt e)
            ∙ settled j y below here ∙ after
        | inr from ↦
            let e : j ≡ k = omega arith in
            let within = slice_get_within p.defs (slice_index order k) x at in
            let inside : slice_index order k < length env = omega (arith, within, size) in
            let one : x ≡ y =
            same_at p.defs (slice_index order k) (slice_index order j) x y (ap (slice_index order) (sym e)) at here in
            ap (λ m. get_or (set env (slice_index order k) v) (slice_index order m) 0) e
            ∙ get_or-set_same env (slice_index order k) v 0 inside
            ∙ value ∙ ap (λ (z : Def). driven_value p st env z) one ∙ after
      ]

  pub given_kept : (env : List ℕ) (k v : ℕ) → k < length order → KeepsGiven p st inputs env
      → KeepsGiven p st inputs (set env (slice_index order k) v)
  given_kept env k v lt given d x at still =
      get_or-set_other env (slice_index order k) d v 0 (apart k d x lt at still) ∙ given d x at still

  -- all of an order settled is an environment
  pub settled_all : (env : List ℕ) (k : ℕ) → length order ≤ k → length env ≡ length p.defs → KeepsGiven p st inputs env
      → SettledUpTo p st env order k → IsEnvironment p st inputs env
  settled_all env k over size given settled = record {
    size = size;
    values = λ d x at. by_test (is_driven x.what)
        (λ h. let found = ordered.all d x at h in
        ap (slice_index env) (sym found.2)
        ∙ settled found.0 x (omega (arith, over, found.1)) (ap (slice_get p.defs) found.2 ∙ at)
        ∙ sym (what_value-driven x.what _ _ _ h))
        (λ h. given d x at h ∙ what_value-given x.what _ _ _ _ h);
  }
