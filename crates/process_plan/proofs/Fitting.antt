-- Transfers that follow a plan fit.
use Rattle.std.proofs.Common.{
  ◌≡◌,
  inl,
  inr,
  ◌∙◌,
  ℕ,
  zero,
  suc,
  ◌<◌,
  List,
  [],
  ◌∷◌,
  Bool,
  true,
  false,
  Option,
  Some,
  refl,
  sym,
  ap,
  subst,
  arith,
  length,
}
use Rattle.std.specs.Prelude.{Contains}
use Rattle.std.proofs.lemmas.Option.{same_Some}
use Rattle.std.proofs.lemmas.Bool.{false_from_ne_true}
use Rattle.mp_base.specs.declared.op.Op.TheVariants.{And, Or, Nor, Not}
use Rattle.mp_base.specs.declared.refusal.Place.{Place}
use Rattle.mp_base.proofs.Contents.{contains_head, nothing_in}
use Rattle.mp_base.proofs.Induction.{upward}
use Rattle.mp_program.specs.declared.program.What.{What}
use Rattle.mp_program.specs.declared.program.What.TheVariants.{
  Power,
  Ground,
  Phia,
  Phib,
  Phic,
  Constant,
  Register,
  Flag,
  Port,
  Signal,
}
use Rattle.mp_program.specs.declared.program.Way.TheVariants.{Input, Output, Internal}
use Rattle.mp_program.specs.declared.program.FormKind.{FormKind}
use Rattle.mp_program.specs.declared.program.FormKind.TheVariants.{Set, Cond, Par, Go, Call, Return}
use Rattle.mp_program.specs.declared.program.Branch.{Branch}
use Rattle.mp_program.specs.declared.program.Def.{Def}
use Rattle.mp_program.specs.declared.program.Form.{Form}
use Rattle.mp_program.specs.declared.program.Program.{Program}
use Rattle.mp_program.specs.Names.{index_of, is_input}
use Rattle.mp_program.specs.Sound.{InnerFit}
use Rattle.mp_program.proofs.Definitions.{named}
use Rattle.mp_base.specs.Entries.{IsAt}
use Rattle.mp_rules.specs.Rules.{E27, is_unset}
use Rattle.mp_rules.specs.Sorts.{IsWanted}
use Rattle.mp_base.proofs.Entries.{some_entry, within, value}
use Rattle.rtl_form.specs.declared.rtl.CellKind.{CellKind}
use Rattle.rtl_form.specs.declared.rtl.CellKind.TheVariants as kinds
use Rattle.rtl_form.specs.declared.rtl.Cell as cells
use Rattle.rtl_form.specs.declared.rtl.Rtl.{Rtl}
use Rattle.rtl_form.specs.declared.rtl.RtlExpr.{RtlExpr}
use Rattle.rtl_form.specs.declared.rtl.RtlExpr.TheVariants.{Number, Truth, Cell, Apply}
use Rattle.rtl_form.specs.declared.rtl.Transfer.{Transfer}
use Rattle.rtl_form.specs.Sound.{HasSort, ExprFits, TransferFits}
use Rattle.process_plan.specs.Roles.{Role, Value, Placed, Stacked, def_cell, stored_bit}
use Rattle.process_plan.specs.Active.{Origin, Always, At}
use Rattle.process_plan.specs.Enables.{
  Enable,
  HasEnable,
  copy_of,
  BranchEnables,
  InnerEnables,
  StandsInside,
  IsPlaceExpr,
  IsOriginExpr,
}
use Rattle.process_plan.specs.Plan.{
  IsUnionOf,
  IsFall,
  IsPlanned,
  sets,
  falls,
  lands,
  returns,
  pushes,
  sinks,
  rises,
  empties,
  FollowsPlan,
}
use Rattle.process_plan.specs.Fits.{ExprFitsIn}
use Rattle.process_plan.proofs.Members.{cases_of}
use Rattle.process_plan.proofs.Enables.{one_enable}
use Rattle.process_plan.proofs.Sorts.{IsSorted, sort_of, cell_sort, name_sorted, copy_wanted}

-- the same by the lists of transfers
pub expr_fits : (r : Rtl) (w e : ℕ) (x : RtlExpr) → w ≡ r.width → ExprFitsIn w r.cells r.exprs e x → ExprFits r e x
expr_fits r w e x same h = by_kind x (subst (λ n. ExprFitsIn n r.cells r.exprs e x) same h)
  where
    by_kind : (x : RtlExpr) → ExprFitsIn r.width r.cells r.exprs e x → ExprFits r e x
    by_kind (Number n) h = h
    by_kind (Truth b) h = h
    by_kind (Cell c) h = h
    by_kind (Apply op k args) h = h

abbrev input_code : CellKind → ℕ
input_code (kinds.Input k) = suc k
input_code _ = 0

-- the cell of a definition that is no input is no input
not_input : (ds : List Def) (d : ℕ) (w : What) (x : cells.Cell) → def_cell ds d w ≡ Some x → is_input w ≡ false
    → input_code x.kind ≡ 0
not_input ds d Power x h given = absurd (cc)
not_input ds d Ground x h given = absurd (cc)
not_input ds d Phia x h given = absurd (cc)
not_input ds d Phib x h given = absurd (cc)
not_input ds d Phic x h given = absurd (cc)
not_input ds d (Constant c) x h given = absurd (cc)
not_input ds d Register x h given = ap (λ (z : cells.Cell). input_code z.kind) (sym (same_Some _ x h))
not_input ds d Flag x h given = ap (λ (z : cells.Cell). input_code z.kind) (sym (same_Some _ x h))
not_input ds d (Port Input) x h given = absurd (cc)
not_input ds d (Port Output) x h given = ap (λ (z : cells.Cell). input_code z.kind) (sym (same_Some _ x h))
not_input ds d (Port Internal) x h given = ap (λ (z : cells.Cell). input_code z.kind) (sym (same_Some _ x h))
not_input ds d (Signal Input) x h given = absurd (cc)
not_input ds d (Signal Output) x h given = ap (λ (z : cells.Cell). input_code z.kind) (sym (same_Some _ x h))
not_input ds d (Signal Internal) x h given = ap (λ (z : cells.Cell). input_code z.kind) (sym (same_Some _ x h))

unset_input : (w : What) → is_input w ≡ true → is_unset w ≡ true
unset_input (Constant c) h = refl
unset_input Power h = h
unset_input Ground h = h
unset_input Phia h = h
unset_input Phib h = h
unset_input Phic h = h
unset_input Register h = h
unset_input Flag h = h
unset_input (Port w) h = h
unset_input (Signal w) h = h

module _ {p : Program} {r : Rtl} {roles : List Role} {enables : List (Option Enable)}
    (plan : FollowsPlan p r roles enables) where
  abbrev IsBitExpr : ℕ → Type 0
  IsBitExpr e = HasSort r e false

  true_bit : IsBitExpr 0
  true_bit = (Truth true, plan.truth.0, refl)

  false_bit : IsBitExpr 1
  false_bit = (Apply Not 0 (0 ∷ []), plan.truth.1, refl)

  -- ---- the cells of processes are bits that are stored

  placed_cell : (c k j : ℕ) → IsAt roles c (Placed k j) → IsAt r.cells c stored_bit
  placed_cell c k j role =
      let (x, at_x, (q, at_q, pos, lt, is)) = (plan.cells).each c (Placed k j) role in subst (IsAt r.cells c) is at_x

  stacked_cell : (c k l j : ℕ) → IsAt roles c (Stacked k l j) → IsAt r.cells c stored_bit
  stacked_cell c k l j role =
      let (x, at_x, (q, at_q, lt, place, is)) = (plan.cells).each c (Stacked k l j) role in
      subst (IsAt r.cells c) is at_x

  cell_bit : (e c : ℕ) → IsAt r.exprs e (Cell c) → IsAt r.cells c stored_bit → IsBitExpr e
  cell_bit e c at at_c = (Cell c, at, (stored_bit, at_c, refl))

  bit_transfer : (guard target value : ℕ) → IsBitExpr guard → IsBitExpr value → IsAt r.cells target stored_bit
      → TransferFits r (record { guard = guard; target = target; value = value })
  bit_transfer guard target value g v at =
      (g, (stored_bit, at, v, λ k h. let e = ap input_code h in omega (arith, e)))

  -- ---- enables are bits

  place_bit : (k i a : ℕ) → IsPlaceExpr p r.exprs roles k i a → IsBitExpr a
  place_bit k zero a (q, at_q, inl (one, is)) = subst IsBitExpr (sym is) true_bit
  place_bit k zero a (q, at_q, inr (es, at, are)) = (Apply Nor 0 es, at, refl)
  place_bit k (suc i) a (c, role, at) = cell_bit a c at (placed_cell c k (suc i) role)

  origin_bit : (o : Origin) (a : ℕ) → IsOriginExpr p r.exprs roles o a → IsBitExpr a
  origin_bit Always a is = subst IsBitExpr (sym is) true_bit
  origin_bit (At k i) a is = place_bit k i a is

  branch_bit : (o : Origin) (rest : ℕ) (bs : List Branch) (b : Branch) (f x : ℕ)
      → BranchEnables p r.exprs enables o rest bs → Contains bs b → Contains b.body f → HasEnable enables f o x
      → IsBitExpr x
  branch_bit o rest [] b f x has cb cf own = absurd (nothing_in b cb)
  branch_bit o rest (d ∷ []) b f x (a, at, body) cb cf own =
      let inside : Contains d.body f = elim (cases_of b d [] cb) [
        | inl e ↦ subst (λ (t : Branch). Contains t.body f) (sym e) cf
        | inr e ↦ absurd (nothing_in b e)
      ] in
      subst IsBitExpr (one_enable enables f o o a x (body f inside) own).1
      (Apply And 0 (rest ∷ copy_of p d.guard ∷ []), at, refl)
  branch_bit o rest (d ∷ e ∷ bs) b f x (a, n, m, at, body, at_n, at_m, more) cb cf own =
      elim (cases_of b d (e ∷ bs) cb) [
        | inl is ↦
            let inside : Contains d.body f = subst (λ (t : Branch). Contains t.body f) (sym is) cf in
            subst IsBitExpr (one_enable enables f o o a x (body f inside) own).1
            (Apply And 0 (rest ∷ copy_of p d.guard ∷ []), at, refl)
        | inr later ↦ branch_bit o m (e ∷ bs) b f x more later cf own
      ]

  inner_bit : (k : FormKind) (o : Origin) (b f x : ℕ) → InnerEnables p r.exprs enables o b k → StandsInside k f
      → HasEnable enables f o x → IsBitExpr b → IsBitExpr x
  inner_bit (Set z at e) o b f x has inside own bit = absurd inside
  inner_bit (Cond bs) o b f x has (d, cd, cf) own bit = branch_bit o b bs d f x has cd cf own
  inner_bit (Par fs) o b f x has inside own bit =
      subst IsBitExpr (one_enable enables f o o b x (has f inside) own).1 bit
  inner_bit (Go l) o b f x has inside own bit = absurd inside
  inner_bit (Call l) o b f x has inside own bit = absurd inside
  inner_bit Return o b f x has inside own bit = absurd inside

  abbrev BitAt : ℕ → Type 0
  BitAt f = (o : Origin) (a : ℕ) → HasEnable enables f o a → IsBitExpr a

  enable_bit : (f : ℕ) → BitAt f
  enable_bit = upward BitAt (λ f below o a has.
      elim ((plan.enabled).reasons f o a has) [
        | inl (root, is) ↦ origin_bit o a is
        | inr (g, y, b, at, lt, has_g, inside) ↦
            inner_bit y.kind o b f a ((plan.enabled).inner g y o b at has_g) inside has (below g lt o b has_g)
      ])

  union_bit : (test : FormKind → Bool) (k u : ℕ) → IsUnionOf p r.exprs enables test k u → IsBitExpr u
  union_bit test k u (guards, are, inl is) =
      let (f, i, y, at, passes, has) = (are u).0 (subst (λ g. Contains g u) (sym is) (contains_head u [])) in
      enable_bit f (At k i) u has
  union_bit test k u (guards, are, inr at) = (Apply Or 0 guards, at, refl)

  fall_bit : (k i a e : ℕ) → IsPlaceExpr p r.exprs roles k i a → IsFall p r.exprs enables k i a e → IsBitExpr e
  fall_bit k i a e place (ms, are, inl (none, same)) = subst IsBitExpr (sym same) (place_bit k i a place)
  fall_bit k i a e place (ms, are, inr (inl (always, is))) = subst IsBitExpr (sym is) false_bit
  fall_bit k i a e place (ms, are, inr (inr (ns, negations, at))) = (Apply And 0 (a ∷ ns), at, refl)

  -- ---- transfers

  set_fits : IsSorted p → ((at : Place) → E27 p at → ⊥)
      → (f : ℕ) (y : Form) (x : List ℕ) (at : Place) (e : ℕ) (o : Origin) (a c : ℕ)
      → IsAt p.forms f y → y.kind ≡ Set x at e → HasEnable enables f o a → IsAt roles c (Value (index_of p.defs x))
      → TransferFits r (record { guard = a; target = c; value = copy_of p e })
  set_fits sorted settable f y x at e o a c at_f kind has role =
      let (z, at_z, (d, at_d, made)) = (plan.cells).each c (Value (index_of p.defs x)) role in
      let inside : e < length p.exprs =
      subst (λ k. InnerFit (length p.exprs) f (length p.forms) k) kind
      ((sorted.sound).forms f y at_f) in
      let (w, at_w) = some_entry p.exprs e inside in
      let wanted : IsWanted p e (Some (sort_of z.word)) = inr (inr (
        f,
        y,
        x,
        at,
        at_f,
        kind,
        sym (name_sorted p.defs x d at_d ∙ cell_sort p.defs (index_of p.defs x) d.what z made),
      )) in
      let given : is_input d.what ≡ false = false_from_ne_true (is_input d.what) (λ h.
      settable at (
        f,
        y,
        x,
        e,
        index_of p.defs x,
        d,
        at_f,
        kind,
        at_d,
        named p.defs x d (within p.defs (index_of p.defs x) at_d) (value p.defs (index_of p.defs x) at_d),
        unset_input d.what h,
      )) in (
        enable_bit f o a has,
        (
          z,
          at_z,
          copy_wanted p roles r.cells plan.cells r.exprs sorted e w z.word at_w (plan.copies e) wanted,
          λ k h. let no = not_input p.defs (index_of p.defs x) d.what z made given in
              let yes = ap input_code h in omega (arith, no, yes),
        ),
      )

  -- each transfer fits
  pub planned_fits : IsSorted p → ((at : Place) → E27 p at → ⊥)
      → (t : Transfer) → IsPlanned p r.exprs roles enables t → TransferFits r t
  planned_fits sorted settable t (sets f y x at e o a c at_f kind has role) =
      set_fits sorted settable f y x at e o a c at_f kind has role
  planned_fits sorted settable t (falls k i a e c place fall role) =
      bit_transfer 0 c e true_bit (fall_bit k i a e place fall) (placed_cell c k (suc i) role)
  planned_fits sorted settable t (lands k i j f y q a c at_q at_f to has role) =
      bit_transfer 0 c a true_bit (enable_bit f (At k i) a has) (placed_cell c k j role)
  planned_fits sorted settable t (returns k j u e d c union at_e from_role role) =
      bit_transfer u c e (union_bit _ k u union) (cell_bit e d at_e (stacked_cell d k 0 j from_role))
      (placed_cell c k j role)
  planned_fits sorted settable t (pushes k i u a c union place role) =
      bit_transfer u c a (union_bit _ k u union) (place_bit k i a place) (stacked_cell c k 0 (suc i) role)
  planned_fits sorted settable t (sinks k l j u e d c union at_e from_role role) =
      bit_transfer u c e (union_bit _ k u union) (cell_bit e d at_e (stacked_cell d k l j from_role))
      (stacked_cell c k (suc l) j role)
  planned_fits sorted settable t (rises k l j u e d c union at_e from_role role) =
      bit_transfer u c e (union_bit _ k u union) (cell_bit e d at_e (stacked_cell d k (suc l) j from_role))
      (stacked_cell c k l j role)
  planned_fits sorted settable t (empties k l j u c q at_q last union role) =
      bit_transfer u c 1 (union_bit _ k u union) false_bit (stacked_cell c k l j role)
