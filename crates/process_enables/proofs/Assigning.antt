-- Enables that are given one after another.
use Rattle.std.proofs.Common.{
  ◌≡◌,
  ◌⊎◌,
  inl,
  inr,
  ◌∙◌,
  ℕ,
  ◌+◌,
  ◌<◌,
  List,
  Option,
  Some,
  None,
  refl,
  sym,
  ap,
  subst,
  arith,
  length,
  get_or,
}
use Rattle.std.specs.Prelude.{Contains, slice_set, slice_index_or}
use Rattle.std.proofs.lemmas.Bool.{cases_eq}
use Rattle.std.proofs.lemmas.List.{length-set, get_or_default}
use Rattle.std.proofs.lemmas.Option.{get_or_from_slice_get}
use Rattle.mp_base.proofs.Entries.{get_set_same, get_set_other}
use Rattle.process_plan.specs.declared.enable.Origin.{Origin}
use Rattle.process_plan.specs.declared.enable.Enable.{Enable}
use Rattle.process_plan.specs.Enables.{HasEnable}
use Rattle.process_plan.proofs.Enables.{one_enable}
use Rattle.process_enables.specs.Forms.{KeepsEnables, Assigns}

pub same_enables : (enables : List (Option Enable)) → KeepsEnables enables enables
same_enables enables = record { size = refl; kept = λ f o a h. h }

pub more_enables : (a b c : List (Option Enable)) → KeepsEnables a b → KeepsEnables b c → KeepsEnables a c
more_enables a b c h g = record { size = g.size ∙ h.size; kept = λ f o x y. g.kept f o x (h.kept f o x y) }

-- where an entry is none, no form has an enable there
pub none_there : (xs : List (Option Enable)) (f : ℕ) (x : Enable) (o : Origin) (a : ℕ)
    → slice_index_or xs f (Some x) ≡ None → HasEnable xs f o a → ⊥
none_there xs f x o a none at =
    let y : Enable = record { origin = o; expr = a } in
    let e : Some y ≡ None = sym (get_or_from_slice_get xs f (Some y) (Some x) at) ∙ none in
    absurd (cc)

-- a form that had none gets the enable x
pub record Sets (f : ℕ) (x : Enable) (old new : List (Option Enable)) : Type 0 where
  pub kept : KeepsEnables old new
  pub given : HasEnable new f x.origin x.expr
  pub added : (g : ℕ) (u : Origin) (a : ℕ) → HasEnable new g u a
      → HasEnable old g u a ⊎ ((g ≡ f) × (u ≡ x.origin) × (a ≡ x.expr))

pub sets_is : (old : List (Option Enable)) (f : ℕ) (x : Enable) → f < length old → slice_index_or old f (Some x) ≡ None
    → Sets f x old (slice_set old f (Some x))
sets_is old f x inside free = record {
  kept = record {
    size = length-set old f (Some x);
    kept = λ g o a has. elim (cases_eq g f) [
      | inl e ↦ absurd (none_there old f x o a free (subst (λ n. HasEnable old n o a) e has))
      | inr ne ↦ get_set_other old f (Some x) g ne ∙ has
    ];
  };
  given = get_set_same old f (Some x) inside;
  added = λ g u a has. elim (cases_eq g f) [
    | inl e ↦
        let (same_u, same_a) = one_enable (slice_set old f (Some x)) f u x.origin a x.expr
        (subst (λ n. HasEnable (slice_set old f (Some x)) n u a) e has) (get_set_same old f (Some x) inside) in
        inr (e, same_u, same_a)
    | inr ne ↦ inl (sym (get_set_other old f (Some x) g ne) ∙ has)
  ];
}

-- the first i forms have the enable x
pub record AssignsBelow (forms : List ℕ) (x : Enable) (old new : List (Option Enable)) (i : ℕ) : Type 0 where
  pub kept : KeepsEnables old new
  pub given : (k : ℕ) → k < i → k < length forms → HasEnable new (get_or forms k 0) x.origin x.expr
  pub added : (f : ℕ) (u : Origin) (a : ℕ) → HasEnable new f u a
      → HasEnable old f u a ⊎ (Contains forms f × (u ≡ x.origin) × (a ≡ x.expr))

pub assigned_none : (forms : List ℕ) (x : Enable) (old : List (Option Enable)) → AssignsBelow forms x old old 0
assigned_none forms x old = record {
  kept = same_enables old;
  given = λ k lt inside. absurd (omega (arith, lt));
  added = λ f u a h. inl h;
}

pub assigned_more : (forms : List ℕ) (x : Enable) (old now next : List (Option Enable)) (i form : ℕ)
    → AssignsBelow forms x old now i → i < length forms → form ≡ get_or forms i form → Sets form x now next
    → AssignsBelow forms x old next (i + 1)
assigned_more forms x old now next i form h lt is sets = record {
  kept = more_enables old now next h.kept sets.kept;
  given = λ k ki kl. elim (cases_eq k i) [
    | inl e ↦ subst (λ f. HasEnable next f x.origin x.expr)
        (is ∙ get_or_default forms i form 0 lt ∙ ap (λ n. get_or forms n 0) (sym e)) sets.given
    | inr ne ↦ (sets.kept).kept (get_or forms k 0) x.origin x.expr (h.given k (omega (arith, ki, ne)) kl)
  ];
  added = λ f u a has. elim (sets.added f u a has) [
    | inl before ↦ h.added f u a before
    | inr (e, same_u, same_a) ↦ inr ((i, lt, sym (e ∙ is ∙ get_or_default forms i form f lt)), same_u, same_a)
  ];
}

pub assigned_all : (forms : List ℕ) (x : Enable) (old new : List (Option Enable)) (i : ℕ) → i ≡ length forms
    → AssignsBelow forms x old new i → Assigns forms x old new
assigned_all forms x old new i e h = record {
  kept = h.kept;
  given = λ f (k, lt, is). subst (λ n. HasEnable new n x.origin x.expr) (get_or_default forms k 0 f lt ∙ is)
      (h.given k (omega (arith, lt, e)) lt);
  added = h.added;
}
