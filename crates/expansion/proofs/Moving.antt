-- Definitions but for functions, one after another, and forms with other starts that agree.
use Rattle.std.proofs.Common.{◌≡◌, ◌∙◌, ℕ, ◌<◌, List, [], ◌∷◌, ◌++◌, refl, sym, ap, map}
use Rattle.std.specs.Prelude.{Some, None}
use Rattle.std.specs.List.{filter_map, cons_option, AllByRecursion}
use Rattle.std.proofs.lemmas.List.Elements.{filter_map-append}
use Rattle.mp_program.specs.declared.program.Branch.{Branch}
use Rattle.mp_program.specs.declared.program.FormKind.{FormKind}
use Rattle.mp_program.specs.declared.program.FormKind.TheVariants.{Set, Cond, Par, Go, Call, Return}
use Rattle.mp_program.specs.declared.program.Form.{Form}
use Rattle.mp_program.specs.declared.program.Def as plain
use Rattle.mp_program.specs.declared.program.What as plain_what
use Rattle.mp_program.specs.Tree.{exprs_in}
use Rattle.mp_written.specs.declared.program.Def.{Def}
use Rattle.mp_written.specs.Functions.{plain_what_of, plain_def}
use Rattle.mp_written.specs.Expansion.{moved, moved_branch, moved_form, form_exprs}
use Rattle.expansion.specs.Moving.{plain_of}
use Rattle.expansion.proofs.Fills.{append_end}

pub def_some : (ds : List Def) (d : Def) (what : plain_what.What) (list : List plain.Def)
    → list ≡ filter_map plain_of ds
    → plain_what_of d.what ≡ Some what
    → list ++ record { place = d.place; name = d.name; what = what; pins = d.pins } ∷ [] ≡ filter_map plain_of
    (ds ++ d ∷ [])
def_some ds d what list are is =
    ap (λ ys. ys ++ record { place = d.place; name = d.name; what = what; pins = d.pins } ∷ []) are
    ∙ ap (λ o. filter_map plain_of ds ++ cons_option (plain_def d o) []) (sym is)
    ∙ sym (filter_map-append plain_of ds (d ∷ []))

pub def_none : (ds : List Def) (d : Def) (list : List plain.Def) → list ≡ filter_map plain_of ds
    → plain_what_of d.what ≡ None → list ≡ filter_map plain_of (ds ++ d ∷ [])
def_none ds d list are is =
    are ∙ sym (append_end (filter_map plain_of ds))
    ∙ ap (λ o. filter_map plain_of ds ++ cons_option (plain_def d o) []) (sym is)
    ∙ sym (filter_map-append plain_of ds (d ∷ []))

-- ---- forms

module _ (go to : ℕ → ℕ) (n : ℕ) (same : (v : ℕ) → v < n → go v ≡ to v) where
  branches_same : (bs : List Branch) → AllByRecursion (λ v. v < n) (map (λ (b : Branch). b.guard) bs)
      → map (moved_branch go) bs ≡ map (moved_branch to) bs
  branches_same [] all = refl
  branches_same (b ∷ bs) all =
      ap (λ g. record { guard = g; body = b.body } ∷ map (moved_branch go) bs) (same b.guard all.0)
      ∙ ap (λ ys. moved_branch to b ∷ ys) (branches_same bs all.1)

  kind_same : (k : FormKind) → AllByRecursion (λ v. v < n) (exprs_in k) → moved go k ≡ moved to k
  kind_same (Set x at v) all = ap (λ u. Set x at u) (same v all.0)
  kind_same (Cond bs) all = ap Cond (branches_same bs all)
  kind_same (Par fs) all = refl
  kind_same (Go l) all = refl
  kind_same (Call l) all = refl
  kind_same Return all = refl

  front : (us vs : List ℕ) → AllByRecursion (λ v. v < n) (us ++ vs) → AllByRecursion (λ v. v < n) us
  front [] vs h = tt
  front (u ∷ us) vs h = (h.0, front us vs h.1)

  rest : (us vs : List ℕ) → AllByRecursion (λ v. v < n) (us ++ vs) → AllByRecursion (λ v. v < n) vs
  rest [] vs h = h
  rest (u ∷ us) vs h = rest us vs h.1

  pub forms_same : (ys : List Form) → AllByRecursion (λ v. v < n) (form_exprs ys)
      → map (moved_form go) ys ≡ map (moved_form to) ys
  forms_same [] all = refl
  forms_same (y ∷ ys) all =
      ap (λ k. record { place = y.place; kind = k } ∷ map (moved_form go) ys)
      (kind_same y.kind (front (exprs_in y.kind) (form_exprs ys) all))
      ∙ ap (λ zs. moved_form to y ∷ zs) (forms_same ys (rest (exprs_in y.kind) (form_exprs ys) all))
