-- Whether something is ever written.
use Rattle.std.proofs.Common.{
  ◌≡◌,
  ◌⊎◌,
  inl,
  inr,
  ◌∙◌,
  ℕ,
  zero,
  suc,
  List,
  [],
  ◌∷◌,
  Bool,
  true,
  false,
  not,
  refl,
  sym,
  ap,
  arith,
  length,
}
use Rattle.std.specs.Prelude.{◌&&◌, ◌||◌, ◌==◌}
use Rattle.std.specs.List.{list_any}
use Rattle.std.proofs.lemmas.Bool.{eqb-true}
use Rattle.std.proofs.lemmas.Option.{none-some, same_Some}
use Rattle.mp_program.specs.declared.program.Form.{Form}
use Rattle.mp_program.specs.declared.program.Process.{Process}
use Rattle.mp_program.specs.declared.program.Program.{Program}
use Rattle.mp_base.specs.Entries.{IsAt}
use Rattle.mp_base.proofs.Entries.{any_found}
use Rattle.process_plan.specs.Built.{is_set}
use Rattle.process_plan.proofs.Members.{zero_or_more}
use Rattle.process_sequencer.specs.Stillness.{is_still, IsStill, IsMoving}

abbrev sets : Form → Bool
sets y = is_set y.kind

none_set : (ys : List Form) → list_any sets ys ≡ false → (f : ℕ) (y : Form) → IsAt ys f y → is_set y.kind ≡ false
none_set [] none f y at = absurd (none-some y at)
none_set (z ∷ zs) none zero y at = sym (ap sets (same_Some z y at)) ∙ neither (sets z) none
  where
    neither : (b : Bool) → (b || list_any sets zs) ≡ false → b ≡ false
    neither true h = absurd (cc)
    neither false h = refl
none_set (z ∷ zs) none (suc f) y at = none_set zs (nor (sets z) none) f y at
  where
    nor : (b : Bool) → (b || list_any sets zs) ≡ false → list_any sets zs ≡ false
    nor true h = absurd (cc)
    nor false h = h

both_true : (a b : Bool) → (not a && b) ≡ true → (a ≡ false) × (b ≡ true)
both_true true b h = absurd (cc)
both_true false b h = (refl, h)

one_false : (a b : Bool) → (not a && b) ≡ false → (a ≡ true) ⊎ (b ≡ false)
one_false true b h = inl refl
one_false false b h = inr h

no_process : (qs : List Process) → length qs ≡ 0 → qs ≡ []
no_process [] none = refl
no_process (q ∷ qs) none = absurd (omega (arith, none))

pub still_is : (p : Program) → is_still p ≡ true → IsStill p
still_is p still =
    let (none, alone) = both_true (list_any sets p.forms) (length p.processes == 0) still in
    record {
      unset = none_set p.forms none;
      alone = no_process p.processes (eqb-true (length p.processes) 0 alone);
    }

pub moving_is : (p : Program) → is_still p ≡ false → IsMoving p
moving_is p moving = elim (one_false (list_any sets p.forms) (length p.processes == 0) moving) as (λ _. IsMoving p) [
  | inl some ↦ inr (any_found sets p.forms some)
  | inr some ↦ elim (zero_or_more (length p.processes)) as (λ _. IsMoving p) [
    | inl none ↦ let clash : true ≡ false = sym (ap (λ n. n == 0) none) ∙ some in absurd (cc)
    | inr more ↦ inl more
  ]
]
