-- The enables of the forms that stand in no other form.
use Rattle.std.proofs.Common.{
  ◌≡◌,
  ◌⊎◌,
  inl,
  inr,
  ◌∙◌,
  ℕ,
  zero,
  suc,
  ◌+◌,
  ◌<◌,
  List,
  Option,
  Some,
  None,
  refl,
  sym,
  ap,
  subst,
  arith,
  length,
  replicate,
}
use Rattle.std.specs.Prelude.{Contains}
use Rattle.std.specs.List.{AllByRecursion}
use Rattle.std.proofs.lemmas.Bool.{cases_lt}
use Rattle.std.proofs.lemmas.Option.{none-some, same_Some}
use Rattle.mp_base.proofs.Contents.{holds_of_contained}
use Rattle.mp_program.specs.declared.program.Process.{Process}
use Rattle.mp_program.specs.declared.program.Program.{Program}
use Rattle.mp_program.specs.Sound.{IsSound}
use Rattle.mp_base.specs.Entries.{IsAt}
use Rattle.mp_base.proofs.Entries.{contains_from_get, one_entry, within}
use Rattle.process_plan.specs.declared.enable.Origin.{Origin}
use Rattle.process_plan.specs.declared.enable.Origin.TheVariants.{Always, At}
use Rattle.process_plan.specs.declared.enable.Enable.{Enable}
use Rattle.process_plan.specs.Enables.{HasEnable}
use Rattle.process_enables.specs.Forms.{KeepsEnables, Assigns}
use Rattle.process_enables.specs.Roots.{AssignsPlaces, IsRootAt, IsBefore, AreRootsBefore}
use Rattle.process_enables.proofs.Assigning.{Sets, same_enables, more_enables}

-- ---- forms that are there

pub always_in : (p : Program) → IsSound p → (f : ℕ) → Contains p.always f → f < length p.forms
always_in p sound f c = holds_of_contained (λ g. g < length p.forms) p.always f sound.always c

pub process_in : (p : Program) → IsSound p → (k : ℕ) (q : Process) → IsAt p.processes k q → (f : ℕ) → Contains q.forms f
    → f < length p.forms
process_in p sound k q at f c = holds_of_contained (λ g. g < length p.forms) q.forms f
    (holds_of_contained
    (λ (r : Process). AllByRecursion (λ g. g < length p.forms) r.forms) p.processes q sound.processes
    (contains_from_get p.processes k q at)) c

-- ---- the forms of a process

-- the first n forms have the expressions of their places
pub record PlacesBelow (k : ℕ) (forms places : List ℕ) (n : ℕ) (old new : List (Option Enable)) : Type 0 where
  pub kept : KeepsEnables old new
  pub given : (i f a : ℕ) → i < n → IsAt forms i f → IsAt places i a → HasEnable new f (At k i) a
  pub added : (f : ℕ) (u : Origin) (a : ℕ) → HasEnable new f u a
      → HasEnable old f u a ⊎ ((i : ℕ) × IsAt forms i f × IsAt places i a × (u ≡ At k i))

pub below_none : (k : ℕ) (forms places : List ℕ) (old : List (Option Enable)) → PlacesBelow k forms places 0 old old
below_none k forms places old = record {
  kept = same_enables old;
  given = λ i f a lt. absurd (omega (arith, lt));
  added = λ f u a has. inl has;
}

pub below_more : (k : ℕ) (forms places : List ℕ) (n f a : ℕ) (old now next : List (Option Enable))
    → PlacesBelow k forms places n old now → IsAt forms n f → IsAt places n a
    → Sets f (record { origin = At k n; expr = a }) now next → PlacesBelow k forms places (n + 1) old next
below_more k forms places n f a old now next below at at_a sets = record {
  kept = more_enables old now next below.kept sets.kept;
  given = λ i g b lt at_g at_b. elim (cases_lt i n) [
    | inl lower ↦ (sets.kept).kept g (At k i) b (below.given i g b lower at_g at_b)
    | inr from ↦
        let e : n ≡ i = omega (arith, lt, from) in
        let same_f = one_entry forms n f g at (subst (λ j. IsAt forms j g) (sym e) at_g) in
        let same_a = one_entry places n a b at_a (subst (λ j. IsAt places j b) (sym e) at_b) in
        subst (λ j. HasEnable next g (At k j) b) e
        (subst (λ c. HasEnable next g (At k n) c) same_a (subst (λ h. HasEnable next h (At k n) a) same_f sets.given))
  ];
  added = λ g u b has. elim (sets.added g u b has) [
    | inl before ↦ below.added g u b before
    | inr (same_f, same_u, same_a) ↦ inr (
      n,
      subst (λ h. IsAt forms n h) (sym same_f) at,
      subst (λ c. IsAt places n c) (sym same_a) at_a,
      same_u,
    )
  ];
}

pub below_all : (k : ℕ) (forms places : List ℕ) (n : ℕ) (old new : List (Option Enable)) → n ≡ length forms
    → PlacesBelow k forms places n old new → AssignsPlaces k forms places old new
below_all k forms places n old new e below = record {
  kept = below.kept;
  given = λ i f a at at_a. let lt = within forms i at in below.given i f a (omega (arith, e, lt)) at at_a;
  added = below.added;
}

-- ---- all forms

blank_none : (n : ℕ) (f : ℕ) (x : Option Enable) → IsAt (replicate n None) f x → x ≡ None
blank_none zero f x at = absurd (none-some x at)
blank_none (suc n) zero x at = sym (same_Some None x at)
blank_none (suc n) (suc f) x at = blank_none n f x at

blank_size : (n : ℕ) → length (replicate {A = Option Enable} n None) ≡ n
blank_size zero = refl
blank_size (suc n) = ap suc (blank_size n)

none_blank : (n f a : ℕ) (o : Origin) → HasEnable (replicate n None) f o a → ⊥
none_blank n f a o has =
    let x : Enable = record { origin = o; expr = a } in
    let e : Some x ≡ None = blank_none n f (Some x) has in
    absurd (cc)

-- those of `always`
pub roots_none : (p : Program) (places : List (List ℕ)) (old new : List (Option Enable))
    → old ≡ replicate (length p.forms) None → Assigns p.always (record { origin = Always; expr = 0 }) old new
    → AreRootsBefore p places 0 new
roots_none p places old new blank assigned = record {
  size =
      let a = (assigned.kept).size in
      let b : length old ≡ length p.forms = ap length blank ∙ blank_size (length p.forms) in
      a ∙ b;
  all = given;
  only = λ o f a has. elim (assigned.added f o a has) as (λ _. IsRootAt p places o f a) [
    | inl before ↦ absurd (none_blank (length p.forms) f a o (subst (λ es. HasEnable es f o a) blank before))
    | inr (c, from, zero_is) ↦ subst (λ u. IsRootAt p places u f a) (sym from) (c, zero_is)
  ];
}
  where
    given : (o : Origin) (f a : ℕ) → IsBefore 0 o → IsRootAt p places o f a → HasEnable new f o a
    given Always f a before (c, zero_is) = subst (λ n. HasEnable new f Always n) (sym zero_is) (assigned.given f c)
    given (At k i) f a before root = absurd (omega (arith, before))

-- one process more
pub roots_more : (p : Program) (places : List (List ℕ)) (k : ℕ) (q : Process) (es : List ℕ)
    (now next : List (Option Enable)) → IsAt p.processes k q → IsAt places k es → AreRootsBefore p places k now
    → AssignsPlaces k q.forms es now next → AreRootsBefore p places (k + 1) next
roots_more p places k q es now next at_q at_es roots assigned = record {
  size = (assigned.kept).size ∙ roots.size;
  all = given;
  only = λ o f a has. elim (assigned.added f o a has) as (λ _. IsRootAt p places o f a) [
    | inl before ↦ roots.only o f a before
    | inr (i, at_f, at_a, from) ↦ subst (λ u. IsRootAt p places u f a) (sym from) (q, es, at_q, at_es, at_f, at_a)
  ];
}
  where
    given : (o : Origin) (f a : ℕ) → IsBefore (k + 1) o → IsRootAt p places o f a → HasEnable next f o a
    given Always f a before root = (assigned.kept).kept f Always a (roots.all Always f a tt root)
    given (At j i) f a before (r, gs, at_r, at_gs, at_f, at_a) = elim (cases_lt j k) [
      | inl lower ↦ (assigned.kept).kept f (At j i) a (roots.all (At j i) f a lower (r, gs, at_r, at_gs, at_f, at_a))
      | inr from ↦
          let e : j ≡ k = omega (arith, before, from) in
          let same_q = one_entry p.processes k r q (subst (λ n. IsAt p.processes n r) e at_r) at_q in
          let same_es = one_entry places k gs es (subst (λ n. IsAt places n gs) e at_gs) at_es in
          subst (λ n. HasEnable next f (At n i) a) (sym e)
          (assigned.given i f a (subst (λ (t : Process). IsAt t.forms i f) same_q at_f) (subst (λ t. IsAt t i a)
          same_es at_a))
    ]
