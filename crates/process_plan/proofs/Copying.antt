-- The copies of a program's expressions have its values.
use Rattle.std.proofs.Common.{◌≡◌, inl, inr, ◌∙◌, ℕ, ◌-◌, ◌<◌, List, [], ◌∷◌, true, Option, refl, sym, ap, length, map}
use Rattle.std.specs.Prelude.{slice_index}
use Rattle.std.proofs.lemmas.Option.{get_or_from_slice_get}
use Rattle.mp_base.specs.Apply.{apply}
use Rattle.mp_base.specs.declared.op.Op.TheVariants.{Not}
use Rattle.mp_base.proofs.Induction.{downward}
use Rattle.mp_program.specs.declared.program.ExprKind.{ExprKind}
use Rattle.mp_program.specs.declared.program.ExprKind.TheVariants as source
use Rattle.mp_program.specs.declared.program.Program.{Program}
use Rattle.mp_program.specs.Names.{index_of, pad_number}
use Rattle.mp_program.specs.Sound.{ArgsFit, AllBetween}
use Rattle.mp_program.specs.State.{State, Seat}
use Rattle.mp_program.specs.Environment.{IsEnvironment, what_value, driven_value}
use Rattle.mp_program.specs.Values as from
use Rattle.mp_base.specs.Entries.{IsAt}
use Rattle.mp_base.proofs.Entries.{some_entry, map_get}
use Rattle.rtl_form.specs.declared.rtl.Rtl.{Rtl}
use Rattle.rtl_form.specs.declared.rtl.RtlExpr.{RtlExpr}
use Rattle.rtl_form.specs.declared.rtl.RtlExpr.TheVariants.{Truth, Cell, Apply}
use Rattle.rtl_form.specs.Values.{expr_value, value_of}
use Rattle.process_plan.specs.Lawful.{Known}
use Rattle.process_plan.specs.Roles.{Role, Value, role_value, cell_values}
use Rattle.process_plan.specs.Enables.{Enable, copy_of, IsCopy}
use Rattle.process_plan.specs.Plan.{FollowsPlan}

-- what the laws of transfers say of these
abbrev pub Valued : Rtl → Type 0
Valued r = (env : List ℕ) (e : ℕ) (x : RtlExpr) → IsAt r.exprs e x
    → value_of r env e ≡ expr_value r.width env x (value_of r env)

-- the value of a cell is that of what it stands for
pub cell_at : (roles : List Role) (vs : List ℕ) (seats : List Seat) (c : ℕ) (s : Role) → IsAt roles c s
    → slice_index (cell_values roles vs seats) c ≡ role_value vs seats s
cell_at roles vs seats c s at = get_or_from_slice_get (cell_values roles vs seats) c (role_value vs seats s) 0
    (map_get (role_value vs seats) roles c s at)

module _ {p : Program} {r : Rtl} {roles : List Role} {enables : List (Option Enable)} (known : Known p)
    (valued : Valued r)
    (plan : FollowsPlan p r roles enables) {st : State} {inputs env : List ℕ}
    (clock : IsEnvironment p st inputs env) where
  -- the values of expressions, where each cell has the value of what it stands for
  abbrev pub V : ℕ → ℕ
  V e = value_of r (cell_values roles env st.seats) e

  pub value_is : (e : ℕ) (x : RtlExpr) → IsAt r.exprs e x
      → V e ≡ expr_value r.width (cell_values roles env st.seats) x V
  value_is e x at = valued (cell_values roles env st.seats) e x at

  pub value_true : V 0 ≡ 1
  value_true = value_is 0 (Truth true) plan.truth.0

  pub value_false : V 1 ≡ 0
  value_false = value_is 1 (Apply Not 0 (0 ∷ [])) plan.truth.1 ∙ ap (λ n. 1 - n) value_true

  pub value_cell : (e c : ℕ) (s : Role) → IsAt r.exprs e (Cell c) → IsAt roles c s → V e ≡ role_value env st.seats s
  value_cell e c s at role = value_is e (Cell c) at ∙ cell_at roles env st.seats c s role

  abbrev CopiedAt : ℕ → Type 0
  CopiedAt e = V (copy_of p e) ≡ from.value_of p env e

  args_copied : (i : ℕ) (args : List ℕ) → ((j : ℕ) → i < j → j < length p.exprs → CopiedAt j)
      → AllBetween i (length p.exprs) args
      → map V (map (copy_of p) args) ≡ map (from.value_of p env) args
  args_copied i [] below fit = refl
  args_copied i (a ∷ more) below ((low, high), others) =
      ap (λ v. v ∷ map V (map (copy_of p) more)) (below a low high)
      ∙ ap (λ vs. from.value_of p env a ∷ vs) (args_copied i more below others)

  kind_copied : (i : ℕ) (k : ExprKind) (y : RtlExpr) → ((j : ℕ) → i < j → j < length p.exprs → CopiedAt j)
      → ArgsFit i (length p.exprs) k → IsCopy p roles k y
      → expr_value r.width (cell_values roles env st.seats) y V ≡ from.kind_value p env k (from.value_of p env)
  kind_copied i (source.Number n) y below fit is = ap (λ z. expr_value r.width (cell_values roles env st.seats) z V) is
  kind_copied i (source.Named x) y below fit (d, at, inl (n, what, is)) =
      ap (λ z. expr_value r.width (cell_values roles env st.seats) z V) is
      ∙ sym (clock.values (index_of p.defs x) d at
      ∙ ap (λ w. what_value w (slice_index st.stored (index_of p.defs x))
      (slice_index inputs (pad_number p.defs (index_of p.defs x))) (driven_value p st env d)) what)
  kind_copied i (source.Named x) y below fit (d, at, inr (c, role, is)) =
      ap (λ z. expr_value r.width (cell_values roles env st.seats) z V) is
      ∙ cell_at roles env st.seats c (Value (index_of p.defs x)) role
  kind_copied i source.True y below fit is = ap (λ z. expr_value r.width (cell_values roles env st.seats) z V) is
      ∙ ap (λ n. 1 - n) value_false
  kind_copied i source.False y below fit is = ap (λ z. expr_value r.width (cell_values roles env st.seats) z V) is
      ∙ ap (λ n. 1 - n) value_true
  kind_copied i (source.Apply op k args) y below fit is =
      ap (λ z. expr_value r.width (cell_values roles env st.seats) z V) is
      ∙ ap (λ w. apply w op k (map V (map (copy_of p) args))) plan.width
      ∙ ap (apply p.width op k) (args_copied i args below fit.1)

  -- the copy of an expression has its value
  pub copied : (e : ℕ) → e < length p.exprs → V (copy_of p e) ≡ from.value_of p env e
  copied = downward CopiedAt (length p.exprs) (λ e lt below.
      let (x, at) = some_entry p.exprs e lt in
      let (y, at_y, is) = plan.copies e x at in
      value_is (copy_of p e) y at_y ∙ kind_copied e x.kind y below (known.sound.exprs e x at) is
      ∙ sym (known.values env e x at))
