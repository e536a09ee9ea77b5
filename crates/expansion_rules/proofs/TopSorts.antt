-- Where no rule of names and sorts is broken, what a guard or value becomes is of the sort that is wanted of it.
use Rattle.std.proofs.Common.{◌≡◌, inl, inr, ℕ, List, [], sym, subst, arith, length, take, take_all}
use Rattle.std.specs.Prelude.{Contains, Some, None, slice_get}
use Rattle.mp_base.specs.declared.refusal.Place.{Place}
use Rattle.mp_base.specs.Entries.{IsAt}
use Rattle.mp_rules.specs.Sorts.{Sort}
use Rattle.mp_written.specs.declared.program.ExprKind.TheVariants.{Named}
use Rattle.mp_written.specs.declared.program.Expr.{Expr}
use Rattle.mp_written.specs.declared.program.Program.{Program}
use Rattle.mp_written.specs.Functions.{Function, functions, arg_index}
use Rattle.mp_written.specs.Sound.{Under, itself, FitsAsWritten}
use Rattle.mp_written.specs.Pieces.{pieces}
use Rattle.mp_written.specs.Expansion.{tops}
use Rattle.mp_written.proofs.Soundness.{sound}
use Rattle.written_rules.specs.Sorts.{name_sort, IsWanted, sort_at, function_sorts}
use Rattle.written_rules.specs.Rules as rules
use Rattle.expansion_laws.specs.Lawful.{IsLawfulProgram}
use Rattle.expansion_laws.proofs.ClosedClaims.{under_more}
use Rattle.mp_written.proofs.Roots.{in_no_body, is_guard}
use Rattle.expansion_rules.proofs.KeptNames.{free_name, no_name}
use Rattle.expansion_rules.proofs.SomeSort.{HasSort, functions_sorted}
use Rattle.expansion_rules.proofs.OfSorts.{named_has, of_wanted, of_root}
use Rattle.expansion_rules.proofs.SortedPieces.{IsOfSort, IsSorted, outside_sorted}

module _ (w : Program) (law : IsLawfulProgram w) (keeps21 : (at : Place) → ¬ rules.E21 w at)
    (keeps22 : (at : Place) → ¬ rules.E22 w at) where
  names : (k : ℕ) (f : Function) (y : Expr) (x : List ℕ) → IsAt (functions w) k f → IsAt w.exprs f.body y → y.kind ≡ Named x
      → arg_index f.args x ≡ None → HasSort (name_sort w.defs x)
  names k f y x here at named none =
      named_has w keeps21 keeps22 f.body y x at named (subst FitsAsWritten named ((sound w).exprs f.body y at))
      (free_name w k f f.body x (here, itself) none)

  of_bodies : (k : ℕ) (f : Function) (t : Sort) → IsAt (functions w) k f
      → sort_at w.defs (take k (functions w)) (function_sorts w k) f.args (slice_get w.exprs f.body) ≡ Some t
      → IsOfSort w.defs w.exprs (take k (functions w)) (function_sorts w k) f.args f.body t
  of_bodies k f t here is =
      of_root w keeps21 keeps22 (take k (functions w)) (function_sorts w k) f.args (Under w.exprs f.body)
      (λ e a x. under_more w.exprs f.body e a x) (λ e y s under sort. inl (k, f, (here, under), sort))
      (functions_sorted w law.bodies names k) (λ e x under none. free_name w k f e x (here, under) none) f.body itself
      (law.bodies k f here) t is

  pub top_sorted : (t : ℕ) → Contains (tops w) t → (s : Sort) → IsWanted w t (Some s) → IsSorted w.defs s (pieces w t)
  top_sorted t c s want =
      let fs = functions w in
      outside_sorted w (sound w).behind of_bodies t s
      (of_wanted w keeps21 keeps22 fs (function_sorts w (length fs)) [] (Under w.exprs t)
      (λ e a x. under_more w.exprs t e a x)
      (λ e y u under sort. inr ((λ k f inside. in_no_body w t (is_guard w t c) k f e under inside), sort))
      (λ j f at. functions_sorted w law.bodies names (length fs) j f
      (subst (λ gs. IsAt gs j f) (sym (take_all (length fs) fs (omega arith))) at))
      (λ e x under none. no_name w t e x c under) t itself (law.tops t c) s want)
