-- What active forms do: each effect is that of one form, which is active.
use Rattle.std.proofs.Common.{
  ◌≡◌,
  inl,
  inr,
  ◌∙◌,
  ℕ,
  ◌<◌,
  List,
  [],
  ◌∷◌,
  ◌++◌,
  Bool,
  true,
  false,
  cond,
  refl,
  sym,
  subst,
  arith,
  length,
}
use Rattle.std.specs.Prelude.{Contains, ◌==◌}
use Rattle.std.specs.List.{flat_map}
use Rattle.std.proofs.lemmas.List.Elements.{Contains-append_left, Contains-append_right, Contains-append_cases}
use Rattle.mp_base.proofs.Induction.{downward}
use Rattle.mp_program.specs.declared.program.FormKind.{FormKind}
use Rattle.mp_program.specs.declared.program.FormKind.TheVariants.{Set, Cond, Par, Go, Call, Return}
use Rattle.mp_program.specs.declared.program.Branch.{Branch}
use Rattle.mp_program.specs.declared.program.Form.{Form}
use Rattle.mp_program.specs.declared.program.Program.{Program}
use Rattle.mp_program.specs.Sound.{InnerFit, BranchesFit}
use Rattle.mp_program.specs.Values.{value_of}
use Rattle.mp_program.specs.Effects.{Effect, branch_effects, kind_effects, effects_of}
use Rattle.mp_base.specs.Entries.{IsAt}
use Rattle.mp_base.proofs.Entries.{some_entry}
use Rattle.process_plan.specs.Lawful.{Known}
use Rattle.process_plan.specs.Active.{chosen_forms, chosen, own_effects, Runs, itself, deeper}
use Rattle.process_plan.proofs.Members.{between_in}
use Rattle.mp_base.proofs.Contents.{contains_from_flat, contains_flat}

branch_split : (v : ℕ → ℕ) (bs : List Branch) (e : ℕ → List Effect)
    → branch_effects v bs e ≡ flat_map e (chosen_forms v bs)
branch_split v [] e = refl
branch_split v (b ∷ bs) e = pick (v b.guard == 1) (branch_split v bs e)
  where
    pick : (t : Bool) → branch_effects v bs e ≡ flat_map e (chosen_forms v bs)
        → cond t (flat_map e b.body) (branch_effects v bs e) ≡ flat_map e (cond t b.body (chosen_forms v bs))
    pick true h = refl
    pick false h = h

pub split : (v : ℕ → ℕ) (k : FormKind) (e : ℕ → List Effect)
    → kind_effects v k e ≡ own_effects v k ++ flat_map e (chosen v k)
split v (Set x at w) e = refl
split v (Cond bs) e = branch_split v bs e
split v (Par fs) e = refl
split v (Go l) e = refl
split v (Call l) e = refl
split v Return e = refl

chosen_in : (v : ℕ → ℕ) (ne i n : ℕ) (bs : List Branch) (f : ℕ) → BranchesFit ne i n bs
    → Contains (chosen_forms v bs) f → (i < f) × (f < n)
chosen_in v ne i n [] f fit (k, lt, is) = absurd (omega (arith, lt))
chosen_in v ne i n (b ∷ bs) f ((_, body), others) c = pick (v b.guard == 1) c (λ d. chosen_in v ne i n bs f others d)
  where
    pick : (t : Bool) → Contains (cond t b.body (chosen_forms v bs)) f
        → (Contains (chosen_forms v bs) f → (i < f) × (f < n)) → (i < f) × (f < n)
    pick true c rest = between_in i n b.body f body c
    pick false c rest = rest c

-- the forms that a form makes active stand behind it
pub chosen_behind : (v : ℕ → ℕ) (ne i n : ℕ) (k : FormKind) (f : ℕ) → InnerFit ne i n k → Contains (chosen v k) f
    → (i < f) × (f < n)
chosen_behind v ne i n (Set x at w) f fit (k, lt, is) = absurd (omega (arith, lt))
chosen_behind v ne i n (Cond bs) f fit c = chosen_in v ne i n bs f fit c
chosen_behind v ne i n (Par fs) f fit c = between_in i n fs f fit c
chosen_behind v ne i n (Go l) f fit (k, lt, is) = absurd (omega (arith, lt))
chosen_behind v ne i n (Call l) f fit (k, lt, is) = absurd (omega (arith, lt))
chosen_behind v ne i n Return f fit (k, lt, is) = absurd (omega (arith, lt))

module _ (p : Program) (env : List ℕ) (known : Known p) where
  -- the form g runs where f does, and has the effect
  abbrev pub Source : ℕ → Effect → Type 0
  Source f x = (g : ℕ) × (y : Form) × IsAt p.forms g y × Runs p env f g
      × Contains (own_effects (value_of p env) y.kind) x

  abbrev HasSources : ℕ → Type 0
  HasSources f = (x : Effect) → Contains (effects_of p env f) x → Source f x

  -- each effect of a form is that of a form that runs with it
  pub effect_source : (f : ℕ) → f < length p.forms → (x : Effect) → Contains (effects_of p env f) x → Source f x
  effect_source = downward HasSources (length p.forms) (λ f lt below x c.
      let (y, at) = some_entry p.forms f lt in
      let v : ℕ → ℕ = value_of p env in
      let parted = subst (λ es. Contains es x) (known.effects env f y at ∙ split v y.kind (effects_of p env)) c in
      elim (Contains-append_cases (own_effects v y.kind) (flat_map (effects_of p env) (chosen v y.kind)) x parted) [
        | inl own ↦ (f, y, at, itself, own)
        | inr inner ↦
            let (g, chosen_g, c2) = contains_from_flat (effects_of p env) (chosen v y.kind) x inner in
            let behind = chosen_behind v (length p.exprs) f (length p.forms) y.kind g
            (known.sound.forms f y at) chosen_g in
            let (h, z, at2, runs, own) = below g behind.0 behind.1 x c2 in
            (h, z, at2, deeper y at chosen_g runs, own)
      ])

  -- and each form that runs has its effects
  pub source_effect : (f g : ℕ) (y : Form) (x : Effect) → Runs p env f g → IsAt p.forms g y
      → Contains (own_effects (value_of p env) y.kind) x
      → Contains (effects_of p env f) x
  source_effect f g y x itself at own =
      subst (λ es. Contains es x) (sym (known.effects env f y at
      ∙ split (value_of p env) y.kind (effects_of p env)))
      (Contains-append_left (own_effects (value_of p env) y.kind)
      (flat_map (effects_of p env) (chosen (value_of p env) y.kind)) x own)
  source_effect f g y x (deeper {g = h} z at_f c runs) at own =
      subst (λ es. Contains es x) (sym (known.effects env f z at_f
      ∙ split (value_of p env) z.kind (effects_of p env)))
      (Contains-append_right (own_effects (value_of p env) z.kind)
      (flat_map (effects_of p env) (chosen (value_of p env) z.kind)) x
      (contains_flat (effects_of p env) (chosen (value_of p env) z.kind) h x c (source_effect h g y x runs at own)))
