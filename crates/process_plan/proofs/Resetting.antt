-- The cell of the input `reset`.
use Rattle.std.proofs.Common.{
  ◌≡◌,
  inl,
  inr,
  ◌∙◌,
  ℕ,
  ◌+◌,
  List,
  [],
  ◌∷◌,
  Bool,
  true,
  false,
  cond,
  Option,
  Some,
  None,
  refl,
  sym,
  subst,
  length,
  filter,
  MatchOption,
  position,
}
use Rattle.std.specs.Prelude.{All, IfSome, IsSome, nat_lt, codes, slice_index_or}
use Rattle.std.specs.List.{AllByRecursion, list_any, position_from}
use Rattle.std.proofs.lemmas.Bool.{and_parts, ltb-true, or_cases}
use Rattle.std.proofs.lemmas.List.Elements.{All-from_recursion}
use Rattle.std.proofs.lemmas.List.Quantifiers.{position-Some}
use Rattle.std.proofs.lemmas.Iterator.Adapters.{position_from-zero}
use Rattle.std.proofs.lemmas.Option.{slice_get-get_or}
use Rattle.mp_base.specs.declared.refusal.Place.{Place}
use Rattle.mp_program.specs.declared.program.What.{What}
use Rattle.mp_program.specs.declared.program.What.TheVariants.{
  Power,
  Ground,
  Phia,
  Phib,
  Phic,
  Constant,
  Register,
  Flag,
  Port,
  Signal,
}
use Rattle.mp_program.specs.declared.program.Def.{Def}
use Rattle.mp_program.specs.declared.program.Program.{Program}
use Rattle.mp_program.specs.Names.{is_same, is_input, is_input_signal, is_reset, is_stored, pad_number}
use Rattle.mp_program.specs.Pads.{ArePadsOf, pad_width}
use Rattle.mp_program.specs.Trace as source
use Rattle.mp_program.proofs.Definitions.{same_is}
use Rattle.mp_program.proofs.FormKinds.{input_signal}
use Rattle.mp_base.specs.Entries.{IsAt}
use Rattle.mp_rules.specs.Rules.{E34}
use Rattle.mp_base.proofs.Entries.{some_entry, any_found}
use Rattle.rtl_form.specs.declared.rtl.CellKind.TheVariants as kinds
use Rattle.rtl_form.specs.declared.rtl.Cell.{Cell}
use Rattle.rtl_form.specs.declared.rtl.Rtl.{Rtl}
use Rattle.rtl_form.specs.Sound.{IsReset}
use Rattle.rtl_form.specs.Trace as rtl_trace
use Rattle.process_plan.specs.Roles.{Role, AreCells}
use Rattle.process_plan.specs.Plan.{IsResetCell}
use Rattle.process_plan.proofs.Facing.{filter_at, face_at, input_role, stored}

signal_width : (n : ℕ) (w : What) → is_input_signal w ≡ true → pad_width n w ≡ 0
signal_width n Power h = refl
signal_width n Ground h = refl
signal_width n Phia h = refl
signal_width n Phib h = refl
signal_width n Phic h = refl
signal_width n (Constant c) h = refl
signal_width n Register h = refl
signal_width n Flag h = refl
signal_width n (Port way) h = absurd (cc)
signal_width n (Signal way) h = refl

-- where no element has a first place, none passes
none_from : {X : Type 0} (t : X → Bool) (i : ℕ) (xs : List X) → position_from t i xs ≡ None
    → AllByRecursion (λ x. t x ≡ false) xs
none_from t i [] h = tt
none_from {X} t i (x ∷ xs) h = pick (t x) refl h (none_from t (i + 1) xs)
  where
    pick : (b : Bool) → t x ≡ b → cond b (Some i) (position_from t (i + 1) xs) ≡ None
        → (position_from t (i + 1) xs ≡ None → AllByRecursion (λ y. t y ≡ false) xs)
        → AllByRecursion (λ y. t y ≡ false) (x ∷ xs)
    pick true e h rest = absurd (cc)
    pick false e h rest = (e, rest h)

none_passes : {X : Type 0} (t : X → Bool) (xs : List X) → position t xs ≡ None → All (λ x. t x ≡ false) xs
none_passes t xs h = All-from_recursion (λ x. t x ≡ false) xs (none_from t 0 xs (sym (position_from-zero t xs) ∙ h))

module _ (p : Program) (r : Rtl) (roles : List Role) (cells : AreCells p roles r.cells) (padded : ArePadsOf p r.pads)
    (reset : IsResetCell p r.cells r.reset) where
  reset_pad : (d c : ℕ) (x : Cell) → position is_reset p.defs ≡ Some d → IsAt r.cells c x
      → x.kind ≡ kinds.Input (pad_number p.defs d) → IsReset r c
  reset_pad d c x found at kind =
      let (d2, other, role, at_other, h, number) = input_role p r roles cells padded c x
      (pad_number p.defs d) at kind in
      let (lt, passes, before) = position-Some is_reset p.defs d other found in
      let y : Def = slice_index_or p.defs d other in
      let at_y : IsAt p.defs d y = slice_get-get_or p.defs d other lt in
      let (name, signal) = and_parts (is_same y.name (codes "reset")) (is_input_signal y.what) passes in
      let is = input_signal y.what signal in
      let (pad, at_pad, pad_name, width) = face_at (r.pads).inputs
      (filter (λ (t : Def). is_input t.what) p.defs) p.width
      (pad_number p.defs d) y padded.inputs (filter_at (λ (t : Def). is_input t.what) p.defs d y at_y is) in (
        x,
        pad_number p.defs d,
        pad,
        at,
        kind,
        at_pad,
        width ∙ signal_width p.width y.what signal,
        pad_name
            ∙ same_is y.name (codes "reset") name,
      )

  pub reset_is : IfSome r.reset (IsReset r)
  reset_is = by_place (position is_reset p.defs) refl reset
    where
      by_place : (o : Option ℕ) → position is_reset p.defs ≡ o
          → MatchOption o (r.reset ≡ None) (λ d. (c : ℕ) × (x : Cell) × (r.reset ≡ Some c) × IsAt r.cells c x
          × (x.kind ≡ kinds.Input (pad_number p.defs d)))
          → IfSome r.reset (IsReset r)
      by_place None e none = subst (λ o. IfSome o (IsReset r)) (sym none) tt
      by_place (Some d) e (c, x, is, at, kind) = subst (λ o. IfSome o (IsReset r)) (sym is) (reset_pad d c x e at kind)

  -- what stores has a `reset`
  stored_reset : ((at : Place) → E34 p at → ⊥) → All (λ (d : Def). is_reset d ≡ false) p.defs
      → source.stores p ≡ true → ⊥
  stored_reset keeps none h = elim (or_cases (list_any (λ (x : Def). is_stored x.what) p.defs)
      (nat_lt 0 (length p.processes)) h) [
        | inl some ↦
            let (d, x, at, is) = any_found (λ (x : Def). is_stored x.what) p.defs some in
            keeps x.place (none, inl (d, x, at, is, refl))
        | inr some ↦
            let (q, at) = some_entry p.processes 0 (ltb-true 0 (length p.processes) some) in
            keeps q.place (none, inr (0, q, at, refl))
      ]

  pub reset_there : ((at : Place) → E34 p at → ⊥) → rtl_trace.stores r ≡ true → IsSome r.reset
  reset_there keeps h = by_place (position is_reset p.defs) refl reset
    where
      by_place : (o : Option ℕ) → position is_reset p.defs ≡ o
          → MatchOption o (r.reset ≡ None) (λ d. (c : ℕ) × (x : Cell) × (r.reset ≡ Some c) × IsAt r.cells c x
          × (x.kind ≡ kinds.Input (pad_number p.defs d)))
          → IsSome r.reset
      by_place None e none = absurd (stored_reset keeps (none_passes is_reset p.defs e)
          (stored p r roles cells padded h))
      by_place (Some d) e (c, x, is, at, kind) = subst (λ o. IsSome o) (sym is) refl
