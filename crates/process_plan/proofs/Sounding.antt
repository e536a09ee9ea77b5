-- The order of the program's definitions is one of their cells.
use Rattle.std.proofs.Common.{◌≡◌, ◌∙◌, ℕ, ◌<◌, List, [], true, Option, Some, sym, ap, subst, arith, length}
use Rattle.std.specs.Prelude.{Contains, slice_index}
use Rattle.mp_base.proofs.Contents.{nothing_in}
use Rattle.std.proofs.lemmas.Option.{same_Some, get_or_from_slice_get, slice_get-get_or}
use Rattle.mp_program.specs.declared.program.What.{What}
use Rattle.mp_program.specs.declared.program.What.TheVariants.{
  Power,
  Ground,
  Phia,
  Phib,
  Phic,
  Constant,
  Register,
  Flag,
  Port,
  Signal,
}
use Rattle.mp_program.specs.declared.program.Way.TheVariants.{Input, Output, Internal}
use Rattle.mp_program.specs.declared.program.Def.{Def}
use Rattle.mp_program.specs.declared.program.Program.{Program}
use Rattle.mp_program.specs.Names.{is_driven}
use Rattle.mp_program.specs.Reads as source
use Rattle.mp_base.specs.Entries.{IsAt}
use Rattle.mp_base.proofs.Entries.{one_entry, some_entry, within}
use Rattle.rtl_form.specs.declared.rtl.Cell.{Cell}
use Rattle.rtl_form.specs.declared.rtl.Rtl.{Rtl}
use Rattle.rtl_form.specs.Environment as rtl
use Rattle.rtl_form.specs.Sound.{IsOrder, Reads}
use Rattle.process_plan.specs.Lawful.{Known, KnownNames}
use Rattle.process_plan.specs.Roles.{Role, Value, Placed, Stacked, def_cell, IsCellOf, AreCells}
use Rattle.process_plan.specs.Enables.{Enable}
use Rattle.process_plan.specs.Plan.{FollowsPlan, FollowsOrder}
use Rattle.process_plan.proofs.Defining.{value_role}
use Rattle.process_plan.proofs.Ordering.{transfer_reads}

cell_driven : (ds : List Def) (d : ℕ) (w : What) (x : Cell) → def_cell ds d w ≡ Some x
    → rtl.is_driven x.kind ≡ is_driven w
cell_driven ds d Power x h = absurd (cc)
cell_driven ds d Ground x h = absurd (cc)
cell_driven ds d Phia x h = absurd (cc)
cell_driven ds d Phib x h = absurd (cc)
cell_driven ds d Phic x h = absurd (cc)
cell_driven ds d (Constant c) x h = absurd (cc)
cell_driven ds d Register x h = ap (λ (z : Cell). rtl.is_driven z.kind) (sym (same_Some _ x h))
cell_driven ds d Flag x h = ap (λ (z : Cell). rtl.is_driven z.kind) (sym (same_Some _ x h))
cell_driven ds d (Port Input) x h = ap (λ (z : Cell). rtl.is_driven z.kind) (sym (same_Some _ x h))
cell_driven ds d (Port Output) x h = ap (λ (z : Cell). rtl.is_driven z.kind) (sym (same_Some _ x h))
cell_driven ds d (Port Internal) x h = ap (λ (z : Cell). rtl.is_driven z.kind) (sym (same_Some _ x h))
cell_driven ds d (Signal Input) x h = ap (λ (z : Cell). rtl.is_driven z.kind) (sym (same_Some _ x h))
cell_driven ds d (Signal Output) x h = ap (λ (z : Cell). rtl.is_driven z.kind) (sym (same_Some _ x h))
cell_driven ds d (Signal Internal) x h = ap (λ (z : Cell). rtl.is_driven z.kind) (sym (same_Some _ x h))

-- the transfers of a driven definition read the cell of another only where the program reads that
abbrev pub ReadAlike : Program → Rtl → List Role → Type 0
ReadAlike p r roles = (a b c d : ℕ) (x y : Def) → IsAt p.defs a x → is_driven x.what ≡ true → IsAt roles c (Value a)
    → IsAt p.defs b y → is_driven y.what ≡ true → IsAt roles d (Value b) → Reads r c d → source.Reads p a b

module _ {p : Program} {r : Rtl} {roles : List Role} {order : List ℕ} (cells : AreCells p roles r.cells)
    (ordered : source.IsOrder p order) (follows : FollowsOrder r roles order) (alike : ReadAlike p r roles) where
  -- a driven cell is that of a definition
  driven_role : (c : ℕ) (x : Cell) → IsAt r.cells c x → rtl.is_driven x.kind ≡ true → (d : ℕ) × (y : Def)
      × IsAt roles c (Value d) × IsAt p.defs d y × (is_driven y.what ≡ true)
  driven_role c x at h =
      let size = cells.size in
      let lt : c < length r.cells = within r.cells c at in
      let (t, at_t) = some_entry roles c (subst (λ n. c < n) size lt) in
      let (z, at_z, is) = cells.each c t at_t in
      by_role t at_t (subst (IsCellOf p t) (one_entry r.cells c z x at_z at) is)
    where
      by_role : (t : Role) → IsAt roles c t → IsCellOf p t x → (d : ℕ) × (y : Def) × IsAt roles c (Value d)
          × IsAt p.defs d y × (is_driven y.what ≡ true)
      by_role (Value d) at_t (y, at_y, is) = (d, y, at_t, at_y, sym (cell_driven p.defs d y.what x is) ∙ h)
      by_role (Placed k j) at_t (q, at_q, pos, lt, is) = let clash =
          ap (λ (z : Cell). rtl.is_driven z.kind) (sym is) ∙ h in absurd (cc)
      by_role (Stacked k l j) at_t (q, at_q, lt, is_place, is) = let clash =
          ap (λ (z : Cell). rtl.is_driven z.kind) (sym is) ∙ h in absurd (cc)

  at_order : (k : ℕ) → k < length r.order → k < length order
  at_order k lt = subst (λ n. k < n) follows.size lt

  -- the cell at k stands for the definition at k
  follow : (k : ℕ) → k < length order → IsAt roles (slice_index r.order k) (Value (slice_index order k))
      × (k < length r.order)
  follow k lt =
      let (c, at_c, role) = follows.each k (slice_index order k) (slice_get-get_or order k 0 lt) in (
        subst (λ n. IsAt roles n (Value (slice_index order k))) (sym (get_or_from_slice_get r.order k c 0 at_c)) role,
        within r.order k at_c,
      )

  pub order_kept : IsOrder r
  order_kept = record {
    driven = λ k lt.
        let (y, at_y, h) = ordered.driven k (at_order k lt) in
        let (x, at_x, (z, at_z, is_cell)) = cells.each (slice_index r.order k) (Value (slice_index order k))
        (follow k (at_order k lt)).0 in
        let same : z ≡ y = one_entry p.defs (slice_index order k) z y at_z at_y in (
          x,
          at_x,
          cell_driven p.defs (slice_index order k) z.what x is_cell ∙ ap (λ (t : Def). is_driven t.what) same
              ∙ h,
        );
    once = λ j k jk lt e.
        let lt_k = at_order k lt in
        let lt_j : j < length order = omega (arith, jk, lt_k) in
        let a = subst (λ n. IsAt roles n (Value (slice_index order j))) e (follow j lt_j).0 in
        ordered.once j k jk lt_k (value_role roles (slice_index r.order k) (slice_index order j)
        (slice_index order k) a (follow k lt_k).0);
    all = λ c x at h.
        let (d, y, role, at_y, drv) = driven_role c x at h in
        let (k, lt, is) = ordered.all d y at_y drv in
        let (at_c2, lt_r) = follow k lt in (
          k,
          lt_r,
          cells.once (slice_index r.order k) c (Value d)
              (subst (λ n. IsAt roles (slice_index r.order k) (Value n)) is at_c2) role,
        );
    after = λ k c lt read.
        let (t, z, ct, target, at, h, touches) = read in
        let lt_k = at_order k lt in
        let (b, y, role, at_y, drv) = driven_role c z at h in
        let (x, at_x, drv_x) = ordered.driven k lt_k in
        let reads = alike (slice_index order k) b (slice_index r.order k) c x y at_x drv_x
        (follow k lt_k).0 at_y drv role read in
        let (j, jk, is_b) = ordered.after k b lt_k reads in
        let (at_c2, lt_r) = follow j (omega (arith, jk, lt_k)) in (
          j,
          jk,
          cells.once (slice_index r.order j) c (Value b)
              (subst (λ n. IsAt roles (slice_index r.order j) (Value n)) is_b at_c2) role,
        );
  }

-- transfers that follow a plan do so
pub planned_alike : {p : Program} {r : Rtl} {roles : List Role} {enables : List (Option Enable)} → Known p
    → KnownNames p
    → FollowsPlan p r roles enables → ReadAlike p r roles
planned_alike {p} {r} {roles} {enables} known names plan a b c d x y at_a drives role at_b driven role_b
    (t, z, ct, target, at, h, touches) =
    transfer_reads p r roles enables known names plan b d y at_b role_b a c x at_a drives driven role
    t ((plan.transfers).only t ct) target touches

-- and where nothing is transferred
pub idle_alike : (p : Program) (r : Rtl) (roles : List Role) → r.transfers ≡ [] → ReadAlike p r roles
idle_alike p r roles none a b c d x y at_a drives role at_b driven role_b (t, z, ct, target, at, h, touches) =
    absurd (nothing_in t (subst (λ ts. Contains ts t) none ct))
