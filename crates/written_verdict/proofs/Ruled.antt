-- The earliest place where a rule of functions, uses and names is broken, for each of them.
use Rattle.std.proofs.Common.{◌≡◌, ◌≢◌, ◌⊎◌, inl, ℕ, ◌<◌, List, Some, length, refl, sym, subst}
use Rattle.std.specs.Prelude.{Contains, codes}
use Rattle.mp_base.specs.declared.refusal.Place.{Place}
use Rattle.mp_base.specs.declared.limits.TheConstants.{WEIGHT_LIMIT}
use Rattle.mp_base.specs.Entries.{IsAt}
use Rattle.mp_base.proofs.Decisions.{Decided, same_claim, both_of, one_of, not_so, is_number, is_name, decided_below}
use Rattle.mp_program.specs.declared.program.FormKind.TheVariants.{Set}
use Rattle.mp_program.specs.declared.program.Form.{Form}
use Rattle.mp_rules.specs.declared.limits.TheConstants.{EXPR_LIMIT}
use Rattle.mp_rules.specs.Sorts.{Sort}
use Rattle.mp_verdict.proofs.Deciding.{some_at, is_in, First, same_places, either_place, this_place, first_of_all}
use Rattle.mp_written.specs.declared.program.ExprKind.TheVariants.{Named, Use}
use Rattle.mp_written.specs.declared.program.Arg.{Arg}
use Rattle.mp_written.specs.declared.program.Expr.{Expr}
use Rattle.mp_written.specs.declared.program.Program.{Program}
use Rattle.mp_written.specs.Kinds.{is_function, is_constant, is_unset}
use Rattle.mp_written.specs.Functions.{Function, functions}
use Rattle.mp_written.specs.Sound.{InBody}
use Rattle.mp_written.specs.Expansion.{all_pieces}
use Rattle.mp_written.specs.Weight.{weight}
use Rattle.written_rules.specs.Naming.{IsDefined, Defines, NamesNoValue, IsArgument, MayUse, IsNamedAt, IsTargetAt}
use Rattle.written_rules.specs.Naming.{operators}
use Rattle.written_rules.specs.Sorts.{IsWanted, HasSort}
use Rattle.written_rules.specs.Rules.{E21, E22, E27, E37, E38, E39, E44, E45}
use Rattle.written_verdict.proofs.OfKinds.{first_named, first_used, first_set}
use Rattle.written_verdict.proofs.Bodies.{around, is_argument, is_defined, defines, names_no_value, may_use}
use Rattle.written_verdict.proofs.Sorts.{is_amiss}

module _ (w : Program) where
  -- a name in an expression is so
  named_so : (P : ℕ → List ℕ → Type 0) → ((e : ℕ) (x : List ℕ) → Decided (P e x))
      → First (λ at. (e : ℕ) × (x : List ℕ) × IsNamedAt w e x at × P e x)
  named_so P known = same_places
      (first_of_all w.exprs (λ e y at. (x : List ℕ) × (y.kind ≡ Named x) × (P e x × (at ≡ y.place)))
      (λ e y is. first_named y.kind (λ x at. P e x × (at ≡ y.place)) (λ x. this_place (P e x) y.place (known e x))))
      (λ at (e, y, is, (x, kind, (h, same))). (e, x, (y, is, kind, same), h))
      (λ at (e, x, (y, is, kind, same), h). (e, y, is, (x, kind, (h, same))))

  -- the target of a `setq` is so
  target_so : (P : List ℕ → Type 0) → ((x : List ℕ) → Decided (P x))
      → First (λ at. (x : List ℕ) × IsTargetAt w x at × P x)
  target_so P known = same_places
      (first_of_all w.forms (λ f y at. (x : List ℕ) × (there : Place) × (v : ℕ) × (y.kind ≡ Set x there v)
      × (P x × (at ≡ there)))
      (λ f y is. first_set y.kind (λ x there at. P x × (at ≡ there)) (λ x there. this_place (P x) there (known x))))
      fore
      (λ at (x, (f, y, v, is, kind), h). (f, y, is, (x, at, v, kind, (h, refl))))
    where
      fore : (at : Place) → ((f : ℕ) × (y : Form) × IsAt w.forms f y × ((x : List ℕ) × (there : Place) × (v : ℕ)
          × (y.kind ≡ Set x there v) × (P x × (at ≡ there)))) → (x : List ℕ) × IsTargetAt w x at × P x
      fore at (f, y, is, (x, there, v, kind, (h, same))) =
          (x, (f, y, v, is, subst (λ (p : Place). y.kind ≡ Set x p v) (sym same) kind), h)

  pub rule21 : First (E21 w)
  rule21 = either_place
      (same_places (named_so (λ e x. (¬ IsDefined w x) × (¬ IsArgument w e x))
      (λ e x. both_of (not_so (is_defined w x)) (not_so (is_argument w e x))))
      (λ at (e, x, named, (undefined, free)). (e, x, named, undefined, free))
      (λ at (e, x, named, undefined, free). (e, x, named, (undefined, free))))
      (either_place (target_so (λ x. ¬ IsDefined w x) (λ x. not_so (is_defined w x)))
      (same_places
      (first_of_all w.exprs (λ e y at. (head : Place) × (x os : List ℕ) × (y.kind ≡ Use head x os)
      × (((j : ℕ) (g : Function) → ¬ MayUse w e x j g) × (at ≡ head)))
      (λ e y is. first_used y.kind (λ head x os at. ((j : ℕ) (g : Function) → ¬ MayUse w e x j g) × (at ≡ head))
      (λ head x os. this_place ((j : ℕ) (g : Function) → ¬ MayUse w e x j g) head (unused e x))))
      fore
      (λ at (e, y, x, os, is, kind, none). (e, y, is, (at, x, os, kind, (none, refl))))))
    where
      unused : (e : ℕ) (x : List ℕ) → Decided ((j : ℕ) (g : Function) → ¬ MayUse w e x j g)
      unused e x = same_claim (not_so (may_use w e x (λ g. Unit {0}) (λ g. inl tt)))
          (λ none j g may. none (j, g, may, tt)) (λ none (j, g, may, t). none j g may)

      fore : (at : Place) → ((e : ℕ) × (y : Expr) × IsAt w.exprs e y × ((head : Place) × (x os : List ℕ)
          × (y.kind ≡ Use head x os) × (((j : ℕ) (g : Function) → ¬ MayUse w e x j g) × (at ≡ head))))
          → (e : ℕ) × (y : Expr) × (x os : List ℕ) × IsAt w.exprs e y × (y.kind ≡ Use at x os)
          × ((j : ℕ) (g : Function) → ¬ MayUse w e x j g)
      fore at (e, y, is, (head, x, os, kind, (none, same))) =
          (e, y, x, os, is, subst (λ (p : Place). y.kind ≡ Use p x os) (sym same) kind, none)

  pub rule22 : First (E22 w)
  rule22 = either_place
      (same_places (first_of_all w.exprs (λ e x at. ((s t : Sort) × IsWanted w e (Some s) × HasSort w e x t × (s ≢ t))
      × (at ≡ x.place))
      (λ e x is. this_place ((s t : Sort) × IsWanted w e (Some s) × HasSort w e x t × (s ≢ t)) x.place (is_amiss w e x)))
      (λ at (e, x, is, ((s, t, wanted, has, other), same)). (e, x, s, t, is, wanted, has, other, same))
      (λ at (e, x, s, t, is, wanted, has, other, same). (e, x, is, ((s, t, wanted, has, other), same))))
      (either_place
      (same_places (named_so (λ e x. (¬ IsArgument w e x) × NamesNoValue w x)
      (λ e x. both_of (not_so (is_argument w e x)) (names_no_value w x)))
      (λ at (e, x, named, (free, none)). (e, x, named, free, none))
      (λ at (e, x, named, free, none). (e, x, named, (free, none))))
      (target_so (NamesNoValue w) (names_no_value w)))

  pub rule27 : First (E27 w)
  rule27 = target_so (λ x. Defines w x is_unset) (λ x. defines w x is_unset)

  pub rule37 : First (E37 w)
  rule37 = same_places
      (first_of_all w.exprs (λ e y at. (head : Place) × (x os : List ℕ) × (y.kind ≡ Use head x os)
      × (((j : ℕ) × (g : Function) × MayUse w e x j g × (length os ≢ length g.args)) × (at ≡ y.place)))
      (λ e y is. first_used y.kind
      (λ head x os at. ((j : ℕ) × (g : Function) × MayUse w e x j g × (length os ≢ length g.args)) × (at ≡ y.place))
      (λ head x os. this_place ((j : ℕ) × (g : Function) × MayUse w e x j g × (length os ≢ length g.args)) y.place
      (may_use w e x (λ g. length os ≢ length g.args) (λ g. not_so (is_number (length os) (length g.args)))))))
      (λ at (e, y, is, (head, x, os, kind, ((j, g, may, other), same))).
      (e, y, head, x, os, j, g, is, kind, may, other, same))
      (λ at (e, y, head, x, os, j, g, is, kind, may, other, same).
      (e, y, is, (head, x, os, kind, ((j, g, may, other), same))))

  -- argument i of a function, which is a, has a name that is taken
  abbrev IsTaken : Function → ℕ → Arg → Type 0
  IsTaken f i a = ((j : ℕ) × (b : Arg) × IsAt f.args j b × (j < i) × (b.name ≡ a.name))
      ⊎ (a.name ≡ codes "t") ⊎ (a.name ≡ codes "f") ⊎ IsDefined w a.name

  is_taken : (f : Function) (i : ℕ) (a : Arg) → Decided (IsTaken f i a)
  is_taken f i a = one_of
      (same_claim (some_at f.args (λ j b. (j < i) × (b.name ≡ a.name))
      (λ j b at. both_of (decided_below j i) (is_name b.name a.name)))
      (λ (j, b, at, (lt, same)). (j, b, at, lt, same)) (λ (j, b, at, lt, same). (j, b, at, (lt, same))))
      (one_of (is_name a.name (codes "t")) (one_of (is_name a.name (codes "f")) (is_defined w a.name)))

  pub rule38 : First (E38 w)
  rule38 = either_place
      (same_places (first_of_all (functions w) (λ k f at. Contains operators f.name × (at ≡ f.place))
      (λ k f is. this_place (Contains operators f.name) f.place (is_in operators f.name (λ y. is_name y f.name))))
      (λ at (k, f, is, (named, same)). (k, f, is, named, same)) (λ at (k, f, is, named, same). (k, f, is, (named, same))))
      (same_places (first_of_all (functions w) (λ k f at. (i : ℕ) × (a : Arg) × IsAt f.args i a
      × (IsTaken f i a × (at ≡ a.place)))
      (λ k f is. first_of_all f.args (λ i a at. IsTaken f i a × (at ≡ a.place))
      (λ i a here. this_place (IsTaken f i a) a.place (is_taken f i a))))
      (λ at (k, f, is, (i, a, here, (taken, same))). (k, f, i, a, is, here, same, taken))
      (λ at (k, f, i, a, is, here, same, taken). (k, f, is, (i, a, here, (taken, same)))))

  -- a name in a body is that of something that is neither an argument nor a constant nor a function
  abbrev Escapes : ℕ → List ℕ → Type 0
  Escapes e x = ((k : ℕ) × (f : Function) × InBody w k f e × Unit {0}) × (IsDefined w x × ((¬ IsArgument w e x)
      × ((¬ Defines w x is_constant) × (¬ Defines w x is_function))))

  pub rule39 : First (E39 w)
  rule39 = same_places (named_so Escapes (λ e x. both_of (around w e (λ k f. Unit {0}) (λ k f. inl tt))
      (both_of (is_defined w x) (both_of (not_so (is_argument w e x)) (both_of (not_so (defines w x is_constant))
      (not_so (defines w x is_function)))))))
      (λ at (e, x, named, ((k, f, inside, t), (defined, (free, (variable, value))))).
      (k, f, e, x, inside, named, defined, free, variable, value))
      (λ at (k, f, e, x, inside, named, defined, free, variable, value).
      (e, x, named, ((k, f, inside, tt), (defined, (free, (variable, value))))))

  pub rule44 : First (E44 w)
  rule44 = this_place (WEIGHT_LIMIT < weight w) w.place (decided_below WEIGHT_LIMIT (weight w))

  pub rule45 : First (E45 w)
  rule45 = this_place (EXPR_LIMIT < length (all_pieces w)) w.place (decided_below EXPR_LIMIT (length (all_pieces w)))
