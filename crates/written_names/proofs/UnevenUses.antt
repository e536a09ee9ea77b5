-- The earliest use that has not as many operands as its function has arguments.
use Rattle.std.proofs.Common.{◌≡◌, ◌∙◌, ℕ, ◌<◌, List, cond, refl, sym, ap, subst, arith}
use Rattle.std.proofs.Common.{Option, Some, None, length, map}
use Rattle.std.specs.Prelude.{slice_get, ◌==◌}
use Rattle.std.specs.Option.{option_and_then}
use Rattle.std.proofs.lemmas.Bool.{eq-eqb, eqb-true}
use Rattle.mp_base.specs.declared.refusal.Place.{Place}
use Rattle.mp_base.specs.Entries.{IsAt}
use Rattle.mp_base.proofs.Entries.{within, one_entry, map_get}
use Rattle.mp_rules.specs.Breaking.{IsEarliest}
use Rattle.mp_rules.proofs.EarliestPlaces.{earliest_same}
use Rattle.mp_written.specs.declared.program.ExprKind.{ExprKind}
use Rattle.mp_written.specs.declared.program.ExprKind.TheVariants as kinds
use Rattle.mp_written.specs.declared.program.Expr.{Expr}
use Rattle.mp_written.specs.declared.program.Program.{Program}
use Rattle.mp_written.specs.Functions.{Function, functions}
use Rattle.written_rules.specs.Naming.{MayUse}
use Rattle.written_rules.specs.Rules.{E20, E37}
use Rattle.written_meanings.specs.declared.functions.Body.{Body}
use Rattle.written_meanings.specs.declared.meanings.Meaning.{Meaning}
use Rattle.written_meanings.specs.Meanings.{IsMeaning, body_of}
use Rattle.written_names.specs.Uneven.{unless_even, uneven_at, IsUnevenAt}
use Rattle.written_names.proofs.MeantNames.{has_function, no_function}
use Rattle.written_names.proofs.MisusedNames.{by_bool, no}
use Rattle.written_names.proofs.FunctionNames.{one_function}

module _ (w : Program) (apart : (at : Place) → ¬ E20 w at) (bodies : List Body) (all : bodies ≡ map body_of
    (functions w))
    (e : ℕ) (x : Expr) (m : Meaning) (at : IsAt w.exprs e x) (means : IsMeaning w e x m) where
  same_expr : (y : Expr) → IsAt w.exprs e y → y ≡ x
  same_expr y there = one_entry w.exprs e y x there at

  -- an expression of another kind
  no_use : ((h : Place) (n os : List ℕ) → x.kind ≡ kinds.Use h n os → ⊥) → IsEarliest (IsUnevenAt w e) None
  no_use other = λ there (y, h, n, os, j, g, here, is, may, differs, place).
      other h n os (ap (λ (z : Expr). z.kind) (sym (same_expr y here)) ∙ is)

  use_same : (h p : Place) (n l os ps : List ℕ) → kinds.Use h n os ≡ kinds.Use p l ps → (n ≡ l) × (os ≡ ps)
  use_same h p n l os ps q = (cc, cc)

  uneven_use : (h : Place) (n os : List ℕ) (o : Option ℕ) → x.kind ≡ kinds.Use h n os → m.function ≡ o
      → IsEarliest (IsUnevenAt w e) (option_and_then (unless_even x.place os) (option_and_then (slice_get bodies) o))
  uneven_use h n os None is none = λ there (y, p, l, ps, j, g, here, use_is, may, differs, place).
      (let kind = ap (λ (z : Expr). z.kind) (sym (same_expr y here)) ∙ use_is in
      no_function w e x m means p l ps kind none j g may)
  uneven_use h n os (Some j) is some =
      let (g, may) = has_function w e x m means h n os j is some in
      let found = ap (λ bs. slice_get bs j) all ∙ map_get body_of (functions w) j g may.0 in
      subst (λ p. IsEarliest (IsUnevenAt w e) (option_and_then (unless_even x.place os) p)) (sym found)
      (by_bool (length os == length g.args)
      (λ t. subst (λ b. IsEarliest (IsUnevenAt w e) (cond b None (Some x.place))) (sym t) (even g may (eqb-true _ _ t)))
      (λ f. subst (λ b. IsEarliest (IsUnevenAt w e) (cond b None (Some x.place))) (sym f) (
        (x, h, n, os, j, g, at, is, may, (λ same. no (eq-eqb (length os) (length g.args) same) f), refl),
        λ there (y, p, l, ps, i, k, here, use_is, other, differs, place).
            (let same = ap (λ (z : Place). z.offset) (place ∙ ap (λ (z : Expr). z.place) (same_expr y here)) in
            omega (arith, same)),
      )))
    where
      even : (g : Function) → MayUse w e n j g → length os ≡ length g.args → IsEarliest (IsUnevenAt w e) None
      even g may many = λ there (y, p, l, ps, i, k, here, use_is, other, differs, place).
          (let kind = ap (λ (z : Expr). z.kind) (sym (same_expr y here)) ∙ use_is in
          let (name, operands) = use_same h p n l os ps (sym is ∙ kind) in
          let one = one_function w apart j i g k may.0 other.0 (may.1 ∙ name ∙ sym other.1) in
          differs (ap (λ (l : List ℕ). length l) (sym operands) ∙ many ∙ ap (λ (f : Function). length f.args) one))

  pub uneven_earliest : (k : ExprKind) → x.kind ≡ k → IsEarliest (IsUnevenAt w e) (uneven_at bodies x.place k m)
  uneven_earliest (kinds.Use h n os) is = uneven_use h n os m.function is refl
  uneven_earliest (kinds.Named n) is = no_use (λ h l os q. let bad = sym is ∙ q in cc)
  uneven_earliest (kinds.Number v) is = no_use (λ h l os q. let bad = sym is ∙ q in cc)
  uneven_earliest kinds.True is = no_use (λ h l os q. let bad = sym is ∙ q in cc)
  uneven_earliest kinds.False is = no_use (λ h l os q. let bad = sym is ∙ q in cc)
  uneven_earliest (kinds.Apply op i ps) is = no_use (λ h l os q. let bad = sym is ∙ q in cc)

pub uneven_within : (w : Program) (e : ℕ) (at : Place) → IsUnevenAt w e at → e < length w.exprs
uneven_within w e at (y, h, n, os, j, g, here, is, may, differs, place) = within w.exprs e here

pub earliest_uneven : (w : Program) (found : Option Place) → IsEarliest (λ at. (e : ℕ) × IsUnevenAt w e at) found
    → IsEarliest (E37 w) found
earliest_uneven w found are = earliest_same (λ at. (e : ℕ) × IsUnevenAt w e at) (E37 w) found are
    (λ at (e, (y, h, n, os, j, g, here, is, may, differs, place)).
    (e, y, h, n, os, j, g, here, is, may, differs, place))
    (λ at (e, y, h, n, os, j, g, here, is, may, differs, place). (
      e,
      (y, h, n, os, j, g, here, is, may, differs, place),
    ))
