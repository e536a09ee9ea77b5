-- A program that is written without functions keeps the rules that its frame keeps, where that is its expansion.
use Rattle.std.proofs.Common.{◌≡◌, ◌⊎◌, inl, inr, ℕ, List, [], ◌∷◌, true, false, Option, Some, not, refl}
use Rattle.std.proofs.Common.{sym, ◌∙◌, ◌≢◌, ap, subst, arith, length, map}
use Rattle.std.specs.Prelude.{if◌then◌else◌}
use Rattle.std.specs.List.{list_all}
use Rattle.std.proofs.lemmas.Bool.{and_parts, not-true}
use Rattle.std.proofs.lemmas.Option.{none-some}
use Rattle.mp_base.specs.declared.refusal.Place.{Place}
use Rattle.mp_base.specs.Entries.{IsAt}
use Rattle.mp_base.proofs.Entries.{map_get}
use Rattle.mp_program.specs.Names.{is_same}
use Rattle.mp_program.specs.declared.program.Form.{Form}
use Rattle.mp_program.specs.Weight as plain_weight
use Rattle.mp_program.specs.declared.program.Program as plain
use Rattle.mp_rules.specs.Naming as plain_naming
use Rattle.mp_rules.specs.Sorts as plain_sorts
use Rattle.mp_rules.specs.Sorts.{Sort}
use Rattle.mp_rules.specs.Rules as plain_rules
use Rattle.mp_rules.specs.Breaking as plain_breaking
use Rattle.mp_written.specs.declared.program.ExprKind.{ExprKind}
use Rattle.mp_written.specs.declared.program.ExprKind.TheVariants.{Number, Named, True, False, Apply, Use}
use Rattle.mp_written.specs.declared.program.What.{What}
use Rattle.mp_written.specs.declared.program.What.TheVariants as whats
use Rattle.mp_written.specs.declared.program.Def.{Def}
use Rattle.mp_written.specs.declared.program.Expr.{Expr}
use Rattle.mp_written.specs.declared.program.Program.{Program}
use Rattle.mp_written.specs.Functions.{Function, functions}
use Rattle.mp_written.specs.Kinds.{is_function}
use Rattle.mp_written.specs.Expansion.{IsExpansion, all_pieces}
use Rattle.mp_written.specs.Weight.{weight}
use Rattle.written_frame.specs.Frame.{frame_kind, frame_expr, frame_what, frame_def, IsFrame}
use Rattle.written_frame.specs.SameRules.{HaveSameRules}
use Rattle.written_rules.specs.Naming.{namings, IsDefined, Defines, NamesNoValue}
use Rattle.written_rules.specs.Sorts as sorts
use Rattle.written_rules.specs.Rules as rules
use Rattle.written_rules.specs.Breaking.{Breaks, IsUnbroken}
use Rattle.expansion_laws.specs.Lawful.{IsLawfulProgram}
use Rattle.made_program.proofs.Lists.{passes, clash}

-- w has no functions and no uses
pub record IsFree (w : Program) : Type 0 where
  pub functions : functions w ≡ []
  pub defs : list_all (λ (d : Def). not (is_function d.what)) w.defs ≡ true
  pub uses : (e : ℕ) (x : Expr) → IsAt w.exprs e x → (at : Place) (name os : List ℕ) → x.kind ≡ Use at name os → ⊥

-- s is the frame of w and its expansion, and has its names
pub record IsOwn (w : Program) (s : plain.Program) : Type 0 where
  pub free : IsFree w
  pub frame : IsFrame w s
  pub expansion : IsExpansion w s
  pub names : plain_naming.namings s ≡ namings w
  pub same : HaveSameRules w s

-- the laws of the crates below
pub record ExpansionLaws : Type 0 where
  pub lawful : (w : Program) → ((at : Place) → rules.E21 w at → ⊥) → ((at : Place) → rules.E37 w at → ⊥)
      → IsLawfulProgram w
  pub weighs : (w : Program) (p : plain.Program) → IsLawfulProgram w → IsExpansion w p
      → plain_weight.weight p ≡ weight w
  pub counts : (w : Program) (p : plain.Program) → IsExpansion w p → length p.exprs ≡ length (all_pieces w)

-- ---- sorts

sort_same : (k : What) → is_function k ≡ false → plain_sorts.what_sort (frame_what k) ≡ sorts.what_sort k
sort_same whats.Power h = refl
sort_same whats.Ground h = refl
sort_same whats.Phia h = refl
sort_same whats.Phib h = refl
sort_same whats.Phic h = refl
sort_same (whats.Constant c) h = refl
sort_same whats.Register h = refl
sort_same whats.Flag h = refl
sort_same (whats.Port way) h = refl
sort_same (whats.Signal way) h = refl
sort_same (whats.Function args body) h = absurd (cc)

name_sorts : (ds : List Def) (x : List ℕ) → list_all (λ (d : Def). not (is_function d.what)) ds ≡ true
    → plain_sorts.name_sort (map frame_def ds) x ≡ sorts.name_sort ds x
name_sorts [] x h = refl
name_sorts (d ∷ ds) x h =
    let parts = and_parts (not (is_function d.what)) (list_all (λ (y : Def). not (is_function y.what)) ds) h in
    ap (λ o. if is_same d.name x then o else plain_sorts.name_sort (map frame_def ds) x)
    (sort_same d.what (not-true (is_function d.what) parts.0))
    ∙ ap (λ o. if is_same d.name x then sorts.what_sort d.what else o) (name_sorts ds x parts.1)

module _ (w : Program) (s : plain.Program) (own : IsOwn w s) where
  -- ---- what stands in both

  no_functions : {X : Type 0} (k : ℕ) (f : Function) → IsAt (functions w) k f → X
  no_functions k f at = absurd (none-some f (subst (λ fs. IsAt fs k f) (own.free).functions at))

  expr_there : (e : ℕ) (x : Expr) → IsAt w.exprs e x → IsAt s.exprs e (frame_expr x)
  expr_there e x at =
      subst (λ xs. IsAt xs e (frame_expr x)) (sym (own.frame).exprs) (map_get frame_expr w.exprs e x at)

  form_there : (f : ℕ) (y : Form) → IsAt w.forms f y → IsAt s.forms f y
  form_there f y at = subst (λ ys. IsAt ys f y) (sym (own.frame).forms) at

  unnamed : (x : List ℕ) → (IsDefined w x → ⊥) → (k : ℕ) (n : plain_naming.Naming)
      → IsAt (plain_naming.namings s) k n → n.name ≢ x
  unnamed x none k n at same = none (k, n, subst (λ ns. IsAt ns k n) own.names at, same)

  sort_of_name : (x : List ℕ) → plain_sorts.name_sort s.defs x ≡ sorts.name_sort w.defs x
  sort_of_name x =
      ap (λ ds. plain_sorts.name_sort ds x) (own.frame).defs ∙ name_sorts w.defs x (own.free).defs

  no_function_named : (x : List ℕ) → Defines w x is_function → ⊥
  no_function_named x (d, y, at, name, is) =
      clash (is_function y.what) is
      (not-true (is_function y.what) (passes (λ (z : Def). not (is_function z.what)) w.defs d y (own.free).defs at))

  -- ---- rules 21 and 22

  e21 : (at : Place) → rules.E21 w at → plain_rules.E21 s at
  e21 at (inl (e, x, (y, there, kind, is), none, nor)) =
      (x, inl (e, frame_expr y, expr_there e y there, ap frame_kind kind, is), unnamed x none)
  e21 at (inr (inl (x, (f, y, v, there, kind), none))) = (x, inr (f, y, v, form_there f y there, kind), unnamed x none)
  e21 at (inr (inr (e, y, x, os, there, kind, none))) = absurd ((own.free).uses e y there at x os kind)

  wanted : (e : ℕ) (p : Option Sort) → sorts.IsWanted w e p → plain_sorts.IsWanted s e p
  wanted e p (inl (i, x, op, k, os, at, kind, c, h)) =
      inl (i, frame_expr x, op, k, os, expr_there i x at, ap frame_kind kind, c, h)
  wanted e p (inr (inl (i, x, at, name, os, there, kind, c, h))) = absurd ((own.free).uses i x there at name os kind)
  wanted e p (inr (inr (inl (f, y, bs, at, kind, c, h)))) = inr (inl (f, y, bs, form_there f y at, kind, c, h))
  wanted e p (inr (inr (inr (f, y, x, at, there, kind, h)))) =
      inr (inr (f, y, x, at, form_there f y there, kind, h ∙ sym (sort_of_name x)))

  kind_sort : (e : ℕ) (x : Expr) (t : Sort) → IsAt w.exprs e x → (k : ExprKind) → x.kind ≡ k
      → sorts.expr_sort w.defs (functions w) (sorts.function_sorts w (length (functions w))) [] k ≡ Some t
      → plain_sorts.expr_sort s.defs (frame_kind k) ≡ Some t
  kind_sort e x t at (Number n) is h = h
  kind_sort e x t at (Named y) is h = sort_of_name y ∙ h
  kind_sort e x t at True is h = h
  kind_sort e x t at False is h = h
  kind_sort e x t at (Apply op k os) is h = h
  kind_sort e x t at (Use there y os) is h = absurd ((own.free).uses e x at there y os is)

  has_sort : (e : ℕ) (x : Expr) (t : Sort) → IsAt w.exprs e x → sorts.HasSort w e x t
      → plain_sorts.expr_sort s.defs (frame_kind x.kind) ≡ Some t
  has_sort e x t at (inl (k, f, (here, under), h)) = no_functions k f here
  has_sort e x t at (inr (none, h)) = kind_sort e x t at x.kind refl h

  named_process : (x : List ℕ) (at : Place) → plain_naming.Uses s x at → NamesNoValue w x → plain_rules.E22 s at
  named_process x at uses (inl defined) = absurd (no_function_named x defined)
  named_process x at uses (inr (k, q, there, name)) =
      inr (
        k,
        q,
        subst (λ qs. IsAt qs k q) (sym (own.frame).processes) there,
        subst (λ n. plain_naming.Uses s n at) (sym name) uses,
      )

  e22 : (at : Place) → rules.E22 w at → plain_rules.E22 s at
  e22 at (inl (e, x, p, t, there, want, sort, other, is)) =
      inl (e, frame_expr x, p, t, expr_there e x there, wanted e (Some p) want, has_sort e x t there sort, other, is)
  e22 at (inr (inl (e, x, (y, there, kind, is), nor, no_value))) =
      named_process x at (inl (e, frame_expr y, expr_there e y there, ap frame_kind kind, is)) no_value
  e22 at (inr (inr (x, (f, y, v, there, kind), no_value))) =
      named_process x at (inr (f, y, v, form_there f y there, kind)) no_value

  -- ---- the rules of functions

  e37 : (at : Place) → rules.E37 w at → ⊥
  e37 at (e, y, head, x, os, j, g, there, kind, may, other, is) = (own.free).uses e y there head x os kind

  e38 : (at : Place) → rules.E38 w at → ⊥
  e38 at (inl (k, f, there, operator, is)) = no_functions k f there
  e38 at (inr (k, f, i, a, there, at_i, is, taken)) = no_functions k f there

  e39 : (at : Place) → rules.E39 w at → ⊥
  e39 at (k, f, e, x, (there, under), named, defined, nor, constant, function) = no_functions k f there

  -- ---- all rules

  -- the rule at the head of those that are left, broken in both; or one that isn't broken
  both : {A B C D : Type 0} {k n : ℕ} → (A → B) → (C → D) → ((k ≡ n) × A) ⊎ C → ((k ≡ n) × B) ⊎ D
  both here rest (inl (same, h)) = inl (same, here h)
  both here rest (inr h) = inr (rest h)

  skipped : {A C D : Type 0} {k n : ℕ} → (A → ⊥) → (C → D) → ((k ≡ n) × A) ⊎ C → D
  skipped none rest (inl (same, h)) = absurd (none h)
  skipped none rest (inr h) = rest h

  module _ (laws : ExpansionLaws) (unbroken : plain_breaking.IsUnbroken s) where
    lawful : IsLawfulProgram w
    lawful = laws.lawful w (λ at h. unbroken 21 at (inr (inl (refl, e21 at h)))) e37

    e44 : (at : Place) → rules.E44 w at → plain_rules.E44 s at
    e44 at (heavy, is) =
        let same = laws.weighs w s lawful own.expansion in
        (omega (arith, heavy, same), is ∙ sym (own.frame).place)

    e45 : (at : Place) → rules.E45 w at → plain_rules.E45 s at
    e45 at (many, is) =
        let same = laws.counts w s own.expansion in
        (omega (arith, many, same), is ∙ sym (own.frame).place)

    broken_there : (k : ℕ) (at : Place) → Breaks w k at → plain_breaking.Breaks s k at
    broken_there k at =
        let r = own.same in
        both (r.e20 at).1 (both (e21 at) (both (e22 at) (both (r.e23 at).1 (both (r.e24 at).1 (
        both (r.e25 at).1 (both (r.e26 at).1 (both (r.e27_frame at) (both (r.e28 at).1 (both (r.e29 at).1 (
        both (r.e30 at).1 (both (r.e31 at).1 (both (r.e32 at).1 (both (r.e33 at).1 (both (r.e34 at).1 (
        both (r.e35 at).1 (both (r.e36 at).1 (skipped (e37 at) (skipped (e38 at) (skipped (e39 at) (
        both (r.e40 at).1 (both (r.e41 at).1 (both (r.e42 at).1 (both (r.e43 at).1 (both (e44 at)
        (λ (same, h). (same, e45 at h))))))))))))))))))))))))))

    pub own_keeps : IsUnbroken w
    own_keeps k at h = unbroken k at (broken_there k at h)
