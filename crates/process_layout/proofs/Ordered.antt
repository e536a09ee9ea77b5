-- The cells of definitions in an order, and that of the input `reset`.
use Rattle.std.proofs.Common.{
  ◌≡◌,
  ◌⊎◌,
  inl,
  inr,
  ◌∙◌,
  ℕ,
  zero,
  suc,
  ◌+◌,
  ◌<◌,
  List,
  [],
  ◌∷◌,
  ◌++◌,
  true,
  Option,
  Some,
  None,
  refl,
  sym,
  ap,
  subst,
  arith,
  length,
  length-append,
}
use Rattle.std.specs.Prelude.{MatchOption, position, slice_index, slice_index_or}
use Rattle.std.proofs.lemmas.List.Quantifiers.{position-Some}
use Rattle.std.proofs.lemmas.Option.{same_Some, get_or_from_slice_get, slice_get-get_or}
use Rattle.mp_base.proofs.Tests.{and_right}
use Rattle.mp_program.specs.declared.program.What.{What}
use Rattle.mp_program.specs.declared.program.What.TheVariants.{
  Power,
  Ground,
  Phia,
  Phib,
  Phic,
  Constant,
  Register,
  Flag,
  Port,
  Signal,
}
use Rattle.mp_program.specs.declared.program.Way.TheVariants.{Input, Output, Internal}
use Rattle.mp_program.specs.declared.program.Def.{Def}
use Rattle.mp_program.specs.declared.program.Program.{Program}
use Rattle.mp_program.specs.Names.{is_driven, is_input_signal, is_reset, pad_number}
use Rattle.mp_program.specs.Reads.{IsOrder}
use Rattle.mp_base.specs.Entries.{IsAt}
use Rattle.mp_base.proofs.Entries.{one_entry, get_middle, get_kept, within}
use Rattle.rtl_form.specs.declared.rtl.Cell.{Cell}
use Rattle.rtl_form.specs.declared.rtl.CellKind.TheVariants as kinds
use Rattle.process_plan.specs.declared.role.Role.{Role}
use Rattle.process_plan.specs.declared.role.Role.TheVariants.{Value}
use Rattle.process_plan.specs.Plan.{IsResetCell}
use Rattle.process_plan.specs.Roles.{AreCells, def_cell}
use Rattle.process_layout.specs.Index.{IsCellFor}
use Rattle.process_layout.specs.Layouts.{HaveCells, IsOrderOf}

-- ---- an order

-- the cells of the first i definitions of an order
pub record AreOrdered (roles : List Role) (order : List ℕ) (i : ℕ) (cells : List ℕ) : Type 0 where
  pub size : length cells ≡ i
  pub each : (k d : ℕ) → k < i → IsAt order k d → (c : ℕ) × IsAt cells k c × IsAt roles c (Value d)

pub none_ordered : (roles : List Role) (order cells : List ℕ) → cells ≡ [] → AreOrdered roles order 0 cells
none_ordered roles order cells is = record {
  size = ap length is;
  each = λ k d lt at. absurd (omega (arith, lt));
}

last_or_below : (k i : ℕ) → k < i + 1 → (k ≡ i) ⊎ (k < i)
last_or_below zero zero lt = inl refl
last_or_below zero (suc i) lt = inr (omega arith)
last_or_below (suc k) zero lt = absurd (omega (arith, lt))
last_or_below (suc k) (suc i) lt = elim (last_or_below k i (omega (arith, lt))) [
  | inl e ↦ inl (ap suc e)
  | inr h ↦ inr (omega (arith, h))
]

pub more_ordered : (roles : List Role) (order cells now : List ℕ) (i c : ℕ) → AreOrdered roles order i cells
    → IsAt roles c (Value (slice_index order i)) → now ≡ cells ++ c ∷ [] → AreOrdered roles order (i + 1) now
more_ordered roles order cells now i c are at is =
    let size = are.size in
    subst (AreOrdered roles order (i + 1)) (sym is) (record {
      size = omega (arith, length-append cells (c ∷ []), size);
      each = λ k d lt at_d. elim (last_or_below k i lt) as (λ _. (b : ℕ) × IsAt (cells ++ c ∷ []) k b
          × IsAt roles b (Value d)) [
            | inl same ↦
                let there : IsAt (cells ++ c ∷ []) k c =
                subst (λ n. IsAt (cells ++ c ∷ []) n c) (size ∙ sym same) (get_middle cells c []) in
                let value : slice_index order i ≡ d =
                get_or_from_slice_get order i d 0 (subst (λ n. IsAt order n d) same at_d) in
                (c, there, subst (λ n. IsAt roles c (Value n)) value at)
            | inr below ↦
                let (b, at_b, role) = are.each k d below at_d in (b, get_kept cells (c ∷ []) k b at_b, role)
          ];
    })

pub all_ordered : (roles : List Role) (order cells : List ℕ) (i : ℕ) → i ≡ length order
    → AreOrdered roles order i cells → IsOrderOf roles order cells
all_ordered roles order cells i whole are = record {
  size = are.size ∙ whole;
  ordered = λ k d at. let lt = within order k at in are.each k d (omega (arith, lt, whole)) at;
}

driven_cell : (ds : List Def) (d : ℕ) (w : What) → is_driven w ≡ true → (x : Cell) × (def_cell ds d w ≡ Some x)
driven_cell ds d (Port Output) h = (_, refl)
driven_cell ds d (Port Internal) h = (_, refl)
driven_cell ds d (Signal Output) h = (_, refl)
driven_cell ds d (Signal Internal) h = (_, refl)
driven_cell ds d (Port Input) h = absurd (cc)
driven_cell ds d (Signal Input) h = absurd (cc)
driven_cell ds d Register h = absurd (cc)
driven_cell ds d Flag h = absurd (cc)
driven_cell ds d (Constant n) h = absurd (cc)
driven_cell ds d Power h = absurd (cc)
driven_cell ds d Ground h = absurd (cc)
driven_cell ds d Phia h = absurd (cc)
driven_cell ds d Phib h = absurd (cc)
driven_cell ds d Phic h = absurd (cc)

-- the definitions in an order of evaluation are driven, and have cells
pub order_cells : (p : Program) (roles : List Role) (cells : List Cell) (order : List ℕ) → AreCells p roles cells
    → IsOrder p order → HaveCells roles order
order_cells p roles cells order are ordered k lt =
    let (y, there, driven) = ordered.driven k lt in
    let (x, made) = driven_cell p.defs (slice_index order k) y.what driven in
    are.all (Value (slice_index order k)) x (y, there, made)

-- ---- the input `reset`

reset_kind : (ds : List Def) (d : ℕ) (w : What) → is_input_signal w ≡ true
    → (x : Cell) × (def_cell ds d w ≡ Some x) × (x.kind ≡ kinds.Input (pad_number ds d))
reset_kind ds d (Signal Input) h = (_, refl, refl)
reset_kind ds d (Signal Output) h = absurd (cc)
reset_kind ds d (Signal Internal) h = absurd (cc)
reset_kind ds d (Port way) h = absurd (cc)
reset_kind ds d Register h = absurd (cc)
reset_kind ds d Flag h = absurd (cc)
reset_kind ds d (Constant n) h = absurd (cc)
reset_kind ds d Power h = absurd (cc)
reset_kind ds d Ground h = absurd (cc)
reset_kind ds d Phia h = absurd (cc)
reset_kind ds d Phib h = absurd (cc)
reset_kind ds d Phic h = absurd (cc)

abbrev IsOfReset : Program → List Cell → Option ℕ → Option ℕ → Type 0
IsOfReset p cells reset found = MatchOption found (reset ≡ None) (λ d.
    (c : ℕ) × (x : Cell) × (reset ≡ Some c) × IsAt cells c x × (x.kind ≡ kinds.Input (pad_number p.defs d)))

pub no_reset : (p : Program) (cells : List Cell) → position is_reset p.defs ≡ None → IsResetCell p cells None
no_reset p cells none = subst (IsOfReset p cells None) (sym none) refl

module _ (p : Program) (roles : List Role) (cells : List Cell) (are : AreCells p roles cells) where
  found_reset : (d : ℕ) (y : Def) → IsAt p.defs d y → is_input_signal y.what ≡ true → (o : Option ℕ)
      → IsCellFor roles (Value d) o
      → (c : ℕ) × (x : Cell) × (o ≡ Some c) × IsAt cells c x × (x.kind ≡ kinds.Input (pad_number p.defs d))
  found_reset d y at signal None none =
      let (x, made, kind) = reset_kind p.defs d y.what signal in
      let (c, at_c) = are.all (Value d) x (y, at, made) in absurd (none c at_c)
  found_reset d y at signal (Some c) at_c =
      let (x, made, kind) = reset_kind p.defs d y.what signal in
      let (z, at_z, (w, at_w, made_z)) = are.each c (Value d) at_c in
      let same : w ≡ y = one_entry p.defs d w y at_w at in
      let one : z ≡ x = same_Some z x (sym made_z ∙ ap (λ (v : Def). def_cell p.defs d v.what) same ∙ made) in
      (c, z, refl, at_z, ap (λ (v : Cell). v.kind) one ∙ kind)

  pub some_reset : (d : ℕ) → position is_reset p.defs ≡ Some d → (o : Option ℕ) → IsCellFor roles (Value d) o
      → IsResetCell p cells o
  some_reset d found o cell =
      subst (IsOfReset p cells o) (sym found) (there p.defs refl)
    where
      there : (ds : List Def) → p.defs ≡ ds
          → (c : ℕ) × (x : Cell) × (o ≡ Some c) × IsAt cells c x × (x.kind ≡ kinds.Input (pad_number p.defs d))
      there [] e = let none = ap (position is_reset) e in let clash = sym none ∙ found in absurd (cc)
      there (z ∷ zs) e =
          let (lt, passes, first) = position-Some is_reset p.defs d z found in
          let y : Def = slice_index_or p.defs d z in
          let at : IsAt p.defs d y = slice_get-get_or p.defs d z lt in
          found_reset d y at (and_right _ (is_input_signal y.what) passes) o cell
