-- Names and the definitions that they mean.
use Rattle.std.proofs.Common.{◌≡◌, ℕ, suc, List, [], ◌∷◌, Bool, true, false, if◌then◌else◌, refl, sym, ◌∙◌, ap, subst}
use Rattle.std.proofs.lemmas.Option.{same_Some, none-some}
use Rattle.mp_program.specs.declared.program.Def.{Def}
use Rattle.mp_program.specs.Names.{is_same, index_of}
use Rattle.mp_program.proofs.Definitions.{same_is}
use Rattle.mp_base.specs.Entries.{IsAt}

-- the definition that a name means has that name
pub meant : (ds : List Def) (x : List ℕ) (d : ℕ) (y : Def) → IsAt ds d y → index_of ds x ≡ d → y.name ≡ x
meant [] x d y at is = absurd (none-some y at)
meant (z ∷ ds) x d y at is = by_name (is_same z.name x) refl is (λ k h. meant ds x k y h)
  where
    by_name : (b : Bool) → is_same z.name x ≡ b → (if b then 0 else suc (index_of ds x)) ≡ d
        → ((k : ℕ) → IsAt ds k y → index_of ds x ≡ k → y.name ≡ x) → y.name ≡ x
    by_name true same e rest =
        let P : ℕ → Type 0 = λ k. IsAt (z ∷ ds) k y in
        let h : IsAt (z ∷ ds) 0 y = subst P (sym e) at in
        ap (λ (w : Def). w.name) (sym (same_Some z y h)) ∙ same_is z.name x same
    by_name false other e rest =
        let P : ℕ → Type 0 = λ k. IsAt (z ∷ ds) k y in
        let h : IsAt ds (index_of ds x) y = subst P (sym e) at in
        rest (index_of ds x) h refl
