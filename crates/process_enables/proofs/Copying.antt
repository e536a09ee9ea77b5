-- The copies of a program's expressions, the last one first.
use Rattle.std.proofs.Common.{
  ◌≡◌,
  inl,
  inr,
  ◌∙◌,
  ℕ,
  zero,
  suc,
  ◌+◌,
  ◌<◌,
  ◌≤◌,
  List,
  [],
  ◌∷◌,
  ◌++◌,
  Bool,
  true,
  false,
  cond,
  refl,
  sym,
  ap,
  subst,
  arith,
  length,
  map,
  drop,
}
use Rattle.std.specs.Prelude.{Contains}
use Rattle.std.specs.List.{sum_by}
use Rattle.std.proofs.lemmas.Bool.{cases_lt}
use Rattle.std.proofs.lemmas.List.{length-map}
use Rattle.std.proofs.lemmas.List.Sums.{sum_by-cons}
use Rattle.std.proofs.lemmas.Option.{none-some, same_Some}
use Rattle.mp_base.specs.declared.op.Op.{Op}
use Rattle.mp_base.specs.declared.op.Op.TheVariants.{Not}
use Rattle.mp_base.specs.declared.refusal.Place.{Place}
use Rattle.mp_base.proofs.Contents.{only_one}
use Rattle.mp_program.specs.declared.program.ExprKind.{ExprKind}
use Rattle.mp_program.specs.declared.program.ExprKind.TheVariants as source
use Rattle.mp_program.specs.declared.program.Def.{Def}
use Rattle.mp_program.specs.declared.program.Expr.{Expr}
use Rattle.mp_program.specs.declared.program.Program.{Program}
use Rattle.mp_program.specs.Names.{index_of, is_same}
use Rattle.mp_program.specs.Sound.{IsSound, ArgsFit}
use Rattle.mp_program.specs.Weight.{names_constant, is_constant}
use Rattle.mp_rules.specs.Breaking.{IsUnbroken}
use Rattle.mp_base.specs.Entries.{IsAt}
use Rattle.mp_rules.specs.Rules.{E21}
use Rattle.mp_base.proofs.Entries.{one_entry, within}
use Rattle.rtl_form.specs.declared.rtl.Cell as cells
use Rattle.rtl_form.specs.declared.rtl.RtlExpr.{RtlExpr}
use Rattle.rtl_form.specs.declared.rtl.RtlExpr.TheVariants.{Number, Truth, Apply}
use Rattle.rtl_form.specs.Cost.{op_cost, expr_cost}
use Rattle.process_plan.specs.declared.role.Role.{Role}
use Rattle.process_plan.specs.Roles.{AreCells}
use Rattle.process_plan.specs.Bill.{copy_bill}
use Rattle.process_plan.specs.Enables.{copy_of, IsCopy}
use Rattle.process_plan.specs.Fits.{ExprFitsIn, HasSortIn}
use Rattle.process_plan.proofs.Keeping.{keeps_22, keeps_23, keeps_24}
use Rattle.process_plan.proofs.Members.{between_in}
use Rattle.process_plan.proofs.Sorts.{IsSorted, copy_fits}
use Rattle.process_layout.specs.Steps.{Keeps}
use Rattle.process_enables.specs.Adding.{IsPut}
use Rattle.process_enables.specs.Copies.{IsNamedCopy, IsCopyAt, AreCopiedFrom}
use Rattle.process_enables.proofs.Adding.{put_at, put_keeps, put_cost, put_size, put_fits}

pub keeps_21 : (p : Program) → IsUnbroken p → (at : Place) → E21 p at → ⊥
keeps_21 p unbroken at broken = unbroken 21 at (inr (inl (refl, broken)))

pub sorted_of : (p : Program) → IsUnbroken p → IsSound p → IsSorted p
sorted_of p unbroken sound = record {
  sound = sound;
  sorts = keeps_22 p unbroken;
  sizes = keeps_23 p unbroken;
  bits = keeps_24 p unbroken;
}

-- ---- one copy

pub args_in : (p : Program) → IsSound p → (e : ℕ) (x : Expr) (op : Op) (index : ℕ) (args : List ℕ) → IsAt p.exprs e x
    → x.kind ≡ source.Apply op index args → (a : ℕ) → Contains args a → a < length p.exprs
args_in p sound e x op index args at is a c = (between_in e (length p.exprs) args a
    (subst (ArgsFit e (length p.exprs)) is (sound.exprs e x at)).1 c).1

copy_at : (p : Program) (roles : List Role) (e : ℕ) (x : Expr) (k : ExprKind) (y : RtlExpr) → IsAt p.exprs e x
    → x.kind ≡ k → IsCopy p roles k y → expr_cost y ≤ copy_bill p k → IsCopyAt p roles e y
copy_at p roles e x k y at is copy cost = (
  x,
  at,
  subst (λ t. IsCopy p roles t y) (sym is) copy,
  subst (λ t. expr_cost y ≤ copy_bill p t) (sym is) cost,
)

module _ (p : Program) (roles : List Role) (e : ℕ) (x : Expr) (y : RtlExpr) (at : IsAt p.exprs e x) where
  pub copied_number : (n : ℕ) → x.kind ≡ source.Number n → y ≡ Number n → IsCopyAt p roles e y
  copied_number n is same = copy_at p roles e x (source.Number n) y at is same
      (let price : expr_cost y ≡ 1 = ap expr_cost same in omega (arith, price))

  pub copied_true : x.kind ≡ source.True → y ≡ Apply Not 0 (1 ∷ []) → IsCopyAt p roles e y
  copied_true is same = copy_at p roles e x source.True y at is same
      (let price : expr_cost y ≡ 0 = ap expr_cost same in omega (arith, price))

  pub copied_false : x.kind ≡ source.False → y ≡ Apply Not 0 (0 ∷ []) → IsCopyAt p roles e y
  copied_false is same = copy_at p roles e x source.False y at is same
      (let price : expr_cost y ≡ 0 = ap expr_cost same in omega (arith, price))

  pub copied_apply : (op : Op) (index : ℕ) (args : List ℕ) → x.kind ≡ source.Apply op index args
      → y ≡ Apply op index (map (copy_of p) args) → IsCopyAt p roles e y
  copied_apply op index args is same = copy_at p roles e x (source.Apply op index args) y at is same (
      let price : expr_cost y ≡ op_cost op (length args) =
      ap expr_cost same ∙ ap (op_cost op) (length-map args (copy_of p)) in
      omega (arith, price))

  pub copied_named : (name : List ℕ) (d : ℕ) → x.kind ≡ source.Named name → d ≡ index_of p.defs name
      → IsNamedCopy p roles d y → IsCopyAt p roles e y
  copied_named name d is index named =
      let made : IsNamedCopy p roles (index_of p.defs name) y = subst (λ n. IsNamedCopy p roles n y) index named in
      copy_at p roles e x (source.Named name) y at is made (named_cost name made)
    where
      constant_named : (ds : List Def) (name : List ℕ) (z : Def) → IsAt ds (index_of ds name) z
          → names_constant ds name ≡ is_constant z.what
      constant_named [] name z at = absurd (none-some z at)
      constant_named (v ∷ vs) name z at = pick (is_same v.name name) at (constant_named vs name z)
        where
          pick : (t : Bool) → IsAt (v ∷ vs) (cond t 0 (suc (index_of vs name))) z
              → (IsAt vs (index_of vs name) z → names_constant vs name ≡ is_constant z.what)
              → cond t (is_constant v.what) (names_constant vs name) ≡ is_constant z.what
          pick true at rest = ap (λ (u : Def). is_constant u.what) (same_Some v z at)
          pick false at rest = rest at

      named_cost : (name : List ℕ) → IsNamedCopy p roles (index_of p.defs name) y
          → expr_cost y ≤ copy_bill p (source.Named name)
      named_cost name (z, at_z, inl (n, what, same)) =
          let constant : names_constant p.defs name ≡ true =
          constant_named p.defs name z at_z ∙ ap is_constant what in
          let one : copy_bill p (source.Named name) ≡ 1 = ap (λ t. cond t 1 0) constant in
          let price : expr_cost y ≡ 1 = ap expr_cost same in
          omega (arith, one, price)
      named_cost name (z, at_z, inr (c, role, same)) =
          let price : expr_cost y ≡ 0 = ap expr_cost same in omega (arith, price)

-- ---- all copies

-- before the first
pub copied_none : (p : Program) (roles : List Role) (xs : List cells.Cell) (n : ℕ) (exprs : List RtlExpr)
    → n ≡ length p.exprs → exprs ≡ Truth true ∷ Apply Not 0 (0 ∷ []) ∷ [] → AreCopiedFrom p roles xs n exprs
copied_none p roles xs n exprs e is = subst (λ ys. AreCopiedFrom p roles xs n ys) (sym is) (record {
  truth = (refl, refl);
  size = omega (arith, e);
  copies = λ k x le at. let lt = within p.exprs k at in absurd (omega (arith, e, le, lt));
  fits = λ k x at. both_fit k x at;
  cost = omega arith;
})
  where
    two : List RtlExpr
    two = Truth true ∷ Apply Not 0 (0 ∷ []) ∷ []

    both_fit : (k : ℕ) (x : RtlExpr) → IsAt (Truth true ∷ Apply Not 0 (0 ∷ []) ∷ []) k x
        → ExprFitsIn p.width xs (Truth true ∷ Apply Not 0 (0 ∷ []) ∷ []) k x
    both_fit zero x at =
        subst (λ y. ExprFitsIn p.width xs (Truth true ∷ Apply Not 0 (0 ∷ []) ∷ []) 0 y) (same_Some (Truth true) x at) tt
    both_fit (suc zero) x at =
        subst (λ y. ExprFitsIn p.width xs (Truth true ∷ Apply Not 0 (0 ∷ []) ∷ []) 1 y)
        (same_Some (Apply Not 0 (0 ∷ [])) x at) (
          refl,
          tt,
          λ a c. subst (λ n. (n < 1) × HasSortIn xs (Truth true ∷ Apply Not 0 (0 ∷ []) ∷ []) n false)
              (only_one 0 a c) (omega arith, (Truth true, refl, refl)),
        )
    both_fit (suc (suc k)) x at = absurd (none-some x at)

sum_drop : {X : Type 0} (f : X → ℕ) (xs : List X) (i : ℕ) (x : X) → IsAt xs i x
    → sum_by f (drop i xs) ≡ f x + sum_by f (drop (suc i) xs)
sum_drop f [] i x at = absurd (none-some x at)
sum_drop f (y ∷ ys) zero x at = let a = sum_by-cons f y ys in let b : f y ≡ f x = ap f (same_Some y x at) in
    omega (arith, a, b)
sum_drop f (y ∷ ys) (suc i) x at = sum_drop f ys i x at

-- one more
pub copied_more : (p : Program) (roles : List Role) (xs : List cells.Cell) → AreCells p roles xs → IsSorted p
    → (i : ℕ) (exprs more : List RtlExpr) (y : RtlExpr) → i < length p.exprs
    → AreCopiedFrom p roles xs (suc i) exprs → IsCopyAt p roles i y → more ≡ exprs ++ y ∷ []
    → AreCopiedFrom p roles xs i more
copied_more p roles xs are sorted i exprs more y lt done (x, at, copy, price) added =
    let size = done.size in
    let index : copy_of p i ≡ length exprs = omega (arith, size, lt) in
    let put : IsPut exprs y more (copy_of p i) = record { added = added; index = index } in
    let kept : Keeps exprs more = put_keeps exprs y more (copy_of p i) put in
    record {
      truth = (
        kept 0 (Truth true) (done.truth).0,
        kept 1 (Apply Not 0 (0 ∷ [])) (done.truth).1,
      );
      size = let more_size = put_size exprs y more (copy_of p i) put in omega (arith, size, more_size);
      copies = λ e z le at_z. elim (cases_lt i e) [
        | inl below ↦
            let (w, at_w, copy_w) = done.copies e z (omega (arith, below)) at_z in
            (w, kept (copy_of p e) w at_w, copy_w)
        | inr above ↦
            let same : i ≡ e = omega (arith, le, above) in
            let is : x ≡ z = one_entry p.exprs i x z at (subst (λ n. IsAt p.exprs n z) (sym same) at_z) in (
              y,
              subst (λ n. IsAt more (copy_of p n) y) same (put_at exprs y more (copy_of p i) put),
              subst (λ (t : Expr). IsCopy p roles t.kind y) is copy,
            )
      ];
      fits = put_fits exprs y more (copy_of p i) put p.width xs
          (subst (λ n. ExprFitsIn p.width xs exprs n y) index
          (copy_fits p roles xs are exprs sorted done.truth i x at
          (λ j ij jn. λ z at_z. done.copies j z (omega (arith, ij)) at_z) y copy))
          done.fits;
      cost =
          let a = put_cost exprs y more (copy_of p i) put in
          let b = sum_drop (λ (t : Expr). copy_bill p t.kind) p.exprs i x at in
          let c = done.cost in
          omega (arith, a, b, c, price);
    }
