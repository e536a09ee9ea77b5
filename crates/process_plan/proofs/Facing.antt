-- Each pad has exactly one cell, of its sort, and what is stored belongs to what the program stores.
use Rattle.std.proofs.Common.{
  ◌≡◌,
  ◌⊎◌,
  inl,
  inr,
  ◌≤◌,
  not,
  ◌∙◌,
  ℕ,
  zero,
  suc,
  ◌+◌,
  ◌<◌,
  List,
  [],
  ◌∷◌,
  Bool,
  true,
  false,
  cond,
  Option,
  Some,
  None,
  refl,
  sym,
  ap,
  subst,
  arith,
  length,
  map,
  filter,
  take,
  count_by,
}
use Rattle.std.specs.Prelude.{◌==◌, ◌||◌, nat_lt, slice_index_or}
use Rattle.std.specs.List.{list_any}
use Rattle.std.proofs.lemmas.Bool.{lt-ltb, ne_eqb, or_left, or_right}
use Rattle.std.proofs.lemmas.List.{length-map}
use Rattle.std.proofs.lemmas.List.Sums.{sum_by-cons}
use Rattle.std.proofs.lemmas.Option.{same_Some, none-some}
use Rattle.std.proofs.lemmas.Map.Keys.{any_passes_from_place}
use Rattle.mp_base.specs.declared.pad.Pad.{Pad}
use Rattle.mp_base.proofs.Induction.{by_test}
use Rattle.mp_program.specs.declared.program.What.{What}
use Rattle.mp_program.specs.declared.program.What.TheVariants.{
  Power,
  Ground,
  Phia,
  Phib,
  Phic,
  Constant,
  Register,
  Flag,
  Port,
  Signal,
}
use Rattle.mp_program.specs.declared.program.Way.TheVariants.{Input, Output, Internal}
use Rattle.mp_program.specs.declared.program.Def.{Def}
use Rattle.mp_program.specs.declared.program.Program.{Program}
use Rattle.mp_program.specs.Names.{is_input, is_output, is_stored, pad_number}
use Rattle.mp_program.specs.Pads.{Face, face, pad_width, ArePadsOf}
use Rattle.mp_program.specs.Trace as source
use Rattle.mp_base.specs.Entries.{IsAt}
use Rattle.mp_base.proofs.Entries.{one_entry, some_entry, within, any_found}
use Rattle.rtl_form.specs.declared.rtl.CellKind.{CellKind}
use Rattle.rtl_form.specs.declared.rtl.CellKind.TheVariants as kinds
use Rattle.rtl_form.specs.declared.rtl.Cell.{Cell}
use Rattle.rtl_form.specs.declared.rtl.Rtl.{Rtl}
use Rattle.rtl_form.specs.Environment as rtl
use Rattle.rtl_form.specs.Trace as rtl_trace
use Rattle.rtl_form.specs.Sound.{IsOnly, CellFits}
use Rattle.process_plan.specs.Roles.{Role, Value, Placed, Stacked, AreCells, def_cell, output_number}
use Rattle.process_plan.specs.Roles as roles_of
use Rattle.process_plan.proofs.Simulating.{cell_stored}

-- ---- the entries of a filter

pub filter_at : {X : Type 0} (t : X → Bool) (xs : List X) (d : ℕ) (x : X) → IsAt xs d x → t x ≡ true
    → IsAt (filter t xs) (count_by t (take d xs)) x
filter_at t [] d x at h = absurd (none-some x at)
filter_at {X} t (y ∷ ys) zero x at h =
    let here : t y ≡ true = ap t (same_Some y x at) ∙ h in
    subst (λ b. IsAt (cond b (y ∷ filter t ys) (filter t ys)) 0 x) (sym here) at
filter_at {X} t (y ∷ ys) (suc d) x at h =
    let rest = filter_at t ys d x at h in
    let count : count_by t (y ∷ take d ys) ≡ cond (t y) 1 0 + count_by t (take d ys) =
    sum_by-cons (λ z. cond (t z) 1 0) y (take d ys) in
    subst (λ n. IsAt (cond (t y) (y ∷ filter t ys) (filter t ys)) n x) (sym count) (pick (t y) rest)
  where
    pick : (b : Bool) → IsAt (filter t ys) (count_by t (take d ys)) x
        → IsAt (cond b (y ∷ filter t ys) (filter t ys)) (cond b 1 0 + count_by t (take d ys)) x
    pick true at = let n : 1 + count_by t (take d ys) ≡ suc (count_by t (take d ys)) = omega arith in
        subst (λ m. IsAt (y ∷ filter t ys) m x) (sym n) at
    pick false at = let n : 0 + count_by t (take d ys) ≡ count_by t (take d ys) = omega arith in
        subst (λ m. IsAt (filter t ys) m x) (sym n) at

filter_back : {X : Type 0} (t : X → Bool) (xs : List X) (k : ℕ) (x : X) → IsAt (filter t xs) k x → (d : ℕ)
    × IsAt xs d x × (t x ≡ true) × (count_by t (take d xs) ≡ k)
filter_back t [] k x at = absurd (none-some x at)
filter_back {X} t (y ∷ ys) k x at = by_test (t y)
    (λ h. first h k (subst (λ b. IsAt (cond b (y ∷ filter t ys) (filter t ys)) k x) h at)
    (λ j at_j. filter_back t ys j x at_j))
    (λ h.
    let (d, at_d, tx, count) = filter_back t ys k x (subst
    (λ b. IsAt (cond b (y ∷ filter t ys) (filter t ys)) k x) h at) in
    let e = sum_by-cons (λ z. cond (t z) 1 0) y (take d ys) in
    let z : ◌≡◌ {A = ℕ} (cond (t y) 1 0) 0 = ap (λ b. cond b 1 0) h in
    (suc d, at_d, tx, omega (arith, e, z, count)))
  where
    first : t y ≡ true → (j : ℕ) → IsAt (y ∷ filter t ys) j x
        → ((i : ℕ) → IsAt (filter t ys) i x → (d : ℕ) × IsAt ys d x × (t x ≡ true) × (count_by t (take d ys) ≡ i))
        → (d : ℕ) × IsAt (y ∷ ys) d x × (t x ≡ true) × (count_by t (take d (y ∷ ys)) ≡ j)
    first h zero at rec = (0, at, ap t (sym (same_Some y x at)) ∙ h, refl)
    first h (suc j) at rec =
        let (d, at_d, tx, count) = rec j at in
        let e = sum_by-cons (λ z. cond (t z) 1 0) y (take d ys) in
        let z : ◌≡◌ {A = ℕ} (cond (t y) 1 0) 1 = ap (λ b. cond b 1 0) h in
        (suc d, at_d, tx, omega (arith, e, z, count))

one_place : {X : Type 0} (t : X → Bool) (xs : List X) (d e : ℕ) (x y : X) → IsAt xs d x → IsAt xs e y → t x ≡ true
    → t y ≡ true → count_by t (take d xs) ≡ count_by t (take e xs) → d ≡ e
one_place t [] d e x y at at2 hx hy same = absurd (none-some x at)
one_place t (z ∷ zs) zero zero x y at at2 hx hy same = refl
one_place t (z ∷ zs) zero (suc e) x y at at2 hx hy same =
    let a = sum_by-cons (λ z. cond (t z) 1 0) z (take e zs) in
    let b : ◌≡◌ {A = ℕ} (cond (t z) 1 0) 1 = ap (λ c. cond c 1 0) (ap t (same_Some z x at) ∙ hx) in
    absurd (omega (arith, a, b, same))
one_place t (z ∷ zs) (suc d) zero x y at at2 hx hy same =
    let a = sum_by-cons (λ z. cond (t z) 1 0) z (take d zs) in
    let b : ◌≡◌ {A = ℕ} (cond (t z) 1 0) 1 = ap (λ c. cond c 1 0) (ap t (same_Some z y at2) ∙ hy) in
    absurd (omega (arith, a, b, same))
one_place t (z ∷ zs) (suc d) (suc e) x y at at2 hx hy same =
    let a = sum_by-cons (λ z. cond (t z) 1 0) z (take d zs) in
    let b = sum_by-cons (λ z. cond (t z) 1 0) z (take e zs) in
    ap suc (one_place t zs d e x y at at2 hx hy (omega (arith, a, b, same)))

-- the pad at a number is that of a definition
pub face_at : (pads : List Pad) (defs : List Def) (w k : ℕ) (x : Def)
    → map face pads ≡ map (λ (y : Def). (y.name, pad_width w y.what)) defs → IsAt defs k x
    → (pad : Pad) × IsAt pads k pad × (pad.name ≡ x.name) × (pad.width ≡ pad_width w x.what)
face_at [] [] w k x same at = absurd (none-some x at)
face_at [] (y ∷ ys) w k x same at = let e = ap length same in absurd (omega (arith, e))
face_at (q ∷ qs) [] w k x same at = absurd (none-some x at)
face_at (q ∷ qs) (y ∷ ys) w zero x same at =
    let one : face q ≡ (y.name, pad_width w y.what) = ap (λ zs. slice_index_or zs 0 (face q)) same in (
      q,
      refl,
      ap (λ (z : Face). z.0) one ∙ ap (λ (z : Def). z.name) (same_Some y x at),
      ap (λ (z : Face). z.1) one ∙ ap (λ (z : Def). pad_width w z.what) (same_Some y x at),
    )
face_at (q ∷ qs) (y ∷ ys) w (suc k) x same at = face_at qs ys w k x (ap (λ zs. tail zs) same) at
  where
    tail : List Face → List Face
    tail [] = []
    tail (z ∷ zs) = zs

-- ---- cells and pads

abbrev input_code : CellKind → ℕ
input_code (kinds.Input k) = suc k
input_code _ = 0

abbrev output_code : CellKind → ℕ
output_code (kinds.Output k) = suc k
output_code _ = 0

abbrev cell_input : Option Cell → ℕ
cell_input None = 0
cell_input (Some x) = input_code x.kind

abbrev cell_output : Option Cell → ℕ
cell_output None = 0
cell_output (Some x) = output_code x.kind

input_of : (ds : List Def) (d : ℕ) (w : What) (x : Cell) (k : ℕ) → def_cell ds d w ≡ Some x → x.kind ≡ kinds.Input k
    → (is_input w ≡ true) × (pad_number ds d ≡ k)
input_of ds d Power x k h is = absurd (cc)
input_of ds d Ground x k h is = absurd (cc)
input_of ds d Phia x k h is = absurd (cc)
input_of ds d Phib x k h is = absurd (cc)
input_of ds d Phic x k h is = absurd (cc)
input_of ds d (Constant c) x k h is = absurd (cc)
input_of ds d Register x k h is = let e = ap cell_input h ∙ ap input_code is in absurd (omega (arith, e))
input_of ds d Flag x k h is = let e = ap cell_input h ∙ ap input_code is in absurd (omega (arith, e))
input_of ds d (Port Input) x k h is = let e = ap cell_input h ∙ ap input_code is in (refl, omega (arith, e))
input_of ds d (Port Output) x k h is = let e = ap cell_input h ∙ ap input_code is in absurd (omega (arith, e))
input_of ds d (Port Internal) x k h is = let e = ap cell_input h ∙ ap input_code is in absurd (omega (arith, e))
input_of ds d (Signal Input) x k h is = let e = ap cell_input h ∙ ap input_code is in (refl, omega (arith, e))
input_of ds d (Signal Output) x k h is = let e = ap cell_input h ∙ ap input_code is in absurd (omega (arith, e))
input_of ds d (Signal Internal) x k h is = let e = ap cell_input h ∙ ap input_code is in absurd (omega (arith, e))

input_made : (ds : List Def) (d : ℕ) (w : What) → is_input w ≡ true → (x : Cell) × (def_cell ds d w ≡ Some x)
    × (x.kind ≡ kinds.Input (pad_number ds d))
input_made ds d Power h = absurd (cc)
input_made ds d Ground h = absurd (cc)
input_made ds d Phia h = absurd (cc)
input_made ds d Phib h = absurd (cc)
input_made ds d Phic h = absurd (cc)
input_made ds d (Constant c) h = absurd (cc)
input_made ds d Register h = absurd (cc)
input_made ds d Flag h = absurd (cc)
input_made ds d (Port Input) h = (record { word = true; kind = kinds.Input (pad_number ds d) }, refl, refl)
input_made ds d (Port Output) h = absurd (cc)
input_made ds d (Port Internal) h = absurd (cc)
input_made ds d (Signal Input) h = (record { word = false; kind = kinds.Input (pad_number ds d) }, refl, refl)
input_made ds d (Signal Output) h = absurd (cc)
input_made ds d (Signal Internal) h = absurd (cc)

pub output_of : (ds : List Def) (d : ℕ) (w : What) (x : Cell) (k : ℕ) → def_cell ds d w ≡ Some x
    → x.kind ≡ kinds.Output k → (is_output w ≡ true) × (output_number ds d ≡ k)
output_of ds d Power x k h is = absurd (cc)
output_of ds d Ground x k h is = absurd (cc)
output_of ds d Phia x k h is = absurd (cc)
output_of ds d Phib x k h is = absurd (cc)
output_of ds d Phic x k h is = absurd (cc)
output_of ds d (Constant c) x k h is = absurd (cc)
output_of ds d Register x k h is = let e = ap cell_output h ∙ ap output_code is in absurd (omega (arith, e))
output_of ds d Flag x k h is = let e = ap cell_output h ∙ ap output_code is in absurd (omega (arith, e))
output_of ds d (Port Output) x k h is = let e = ap cell_output h ∙ ap output_code is in (refl, omega (arith, e))
output_of ds d (Port Input) x k h is = let e = ap cell_output h ∙ ap output_code is in absurd (omega (arith, e))
output_of ds d (Port Internal) x k h is = let e = ap cell_output h ∙ ap output_code is in absurd (omega (arith, e))
output_of ds d (Signal Output) x k h is = let e = ap cell_output h ∙ ap output_code is in (refl, omega (arith, e))
output_of ds d (Signal Input) x k h is = let e = ap cell_output h ∙ ap output_code is in absurd (omega (arith, e))
output_of ds d (Signal Internal) x k h is = let e = ap cell_output h ∙ ap output_code is in absurd (omega (arith, e))

output_made : (ds : List Def) (d : ℕ) (w : What) → is_output w ≡ true → (x : Cell) × (def_cell ds d w ≡ Some x)
    × (x.kind ≡ kinds.Output (output_number ds d))
output_made ds d Power h = absurd (cc)
output_made ds d Ground h = absurd (cc)
output_made ds d Phia h = absurd (cc)
output_made ds d Phib h = absurd (cc)
output_made ds d Phic h = absurd (cc)
output_made ds d (Constant c) h = absurd (cc)
output_made ds d Register h = absurd (cc)
output_made ds d Flag h = absurd (cc)
output_made ds d (Port Output) h = (record { word = true; kind = kinds.Output (output_number ds d) }, refl, refl)
output_made ds d (Port Input) h = absurd (cc)
output_made ds d (Port Internal) h = absurd (cc)
output_made ds d (Signal Output) h = (record { word = false; kind = kinds.Output (output_number ds d) }, refl, refl)
output_made ds d (Signal Input) h = absurd (cc)
output_made ds d (Signal Internal) h = absurd (cc)

-- the cell of an input or output is of the sort of its pad
sort_of : (ds : List Def) (d w : ℕ) (what : What) (x : Cell) → 1 ≤ w → def_cell ds d what ≡ Some x
    → (is_input what || is_output what) ≡ true → x.word ≡ not (pad_width w what == 0)
sort_of ds d w Power x le h is = absurd (cc)
sort_of ds d w Ground x le h is = absurd (cc)
sort_of ds d w Phia x le h is = absurd (cc)
sort_of ds d w Phib x le h is = absurd (cc)
sort_of ds d w Phic x le h is = absurd (cc)
sort_of ds d w (Constant c) x le h is = absurd (cc)
sort_of ds d w Register x le h is = absurd (cc)
sort_of ds d w Flag x le h is = absurd (cc)
sort_of ds d w (Port Input) x le h is = ap (λ (z : Cell). z.word)
    (sym (same_Some (record { word = true; kind = kinds.Input (pad_number ds d) }) x h))
    ∙ sym (ap not (ne_eqb w 0 (λ e. omega (arith, e, le))))
sort_of ds d w (Port Output) x le h is = ap (λ (z : Cell). z.word)
    (sym (same_Some (record { word = true; kind = kinds.Output (output_number ds d) }) x h))
    ∙ sym (ap not (ne_eqb w 0 (λ e. omega (arith, e, le))))
sort_of ds d w (Port Internal) x le h is = absurd (cc)
sort_of ds d w (Signal Input) x le h is = ap (λ (z : Cell). z.word)
    (sym (same_Some (record { word = false; kind = kinds.Input (pad_number ds d) }) x h))
sort_of ds d w (Signal Output) x le h is = ap (λ (z : Cell). z.word)
    (sym (same_Some (record { word = false; kind = kinds.Output (output_number ds d) }) x h))
sort_of ds d w (Signal Internal) x le h is = absurd (cc)

-- the widths of pads
widths : (pads : List Pad) (defs : List Def) (w k : ℕ) (pad : Pad)
    → map face pads ≡ map (λ (y : Def). (y.name, pad_width w y.what)) defs → IsAt pads k pad
    → (pad.width ≡ w) ⊎ (pad.width ≡ 0)
widths pads defs w k pad same at =
    let a = length-map pads face in
    let b = length-map {B = Face} defs (λ (y : Def). (y.name, pad_width w y.what)) in
    let e = ap length same in
    let lt = within pads k at in
    let (x, at_x) = some_entry defs k (omega (arith, a, b, e, lt)) in
    let (pad2, at2, name, width) = face_at pads defs w k x same at_x in
    let one : pad2 ≡ pad = one_entry pads k pad2 pad at2 at in
    of_what x.what (ap (λ (z : Pad). z.width) (sym one) ∙ width)
  where
    of_what : (what : What) → pad.width ≡ pad_width w what → (pad.width ≡ w) ⊎ (pad.width ≡ 0)
    of_what Power h = inr h
    of_what Ground h = inr h
    of_what Phia h = inr h
    of_what Phib h = inr h
    of_what Phic h = inr h
    of_what (Constant c) h = inr h
    of_what Register h = inr h
    of_what Flag h = inr h
    of_what (Port way) h = inl h
    of_what (Signal way) h = inr h

module _ (p : Program) (r : Rtl) (roles : List Role) (cells : AreCells p roles r.cells)
    (padded : ArePadsOf p r.pads) where
  -- what a cell stands for
  role_at : (c : ℕ) (x : Cell) → IsAt r.cells c x → (t : Role) × IsAt roles c t × roles_of.IsCellOf p t x
  role_at c x at =
      let size = cells.size in
      let lt : c < length r.cells = within r.cells c at in
      let (t, at_t) = some_entry roles c (subst (λ n. c < n) size lt) in
      let (z, at_z, is) = cells.each c t at_t in
      (t, at_t, subst (roles_of.IsCellOf p t) (one_entry r.cells c z x at_z at) is)

  -- the cell of an input is that of a definition
  pub input_role : (c : ℕ) (x : Cell) (k : ℕ) → IsAt r.cells c x → x.kind ≡ kinds.Input k → (d : ℕ) × (y : Def)
      × IsAt roles c (Value d) × IsAt p.defs d y × (is_input y.what ≡ true) × (pad_number p.defs d ≡ k)
  input_role c x k at kind = let (t, at_t, is) = role_at c x at in by_role t at_t is
    where
      by_role : (t : Role) → IsAt roles c t → roles_of.IsCellOf p t x
          → (d : ℕ) × (y : Def) × IsAt roles c (Value d) × IsAt p.defs d y × (is_input y.what ≡ true)
          × (pad_number p.defs d ≡ k)
      by_role (Value d) at_t (y, at_y, is) = let (h, number) = input_of p.defs d y.what x k is kind in
          (d, y, at_t, at_y, h, number)
      by_role (Placed n j) at_t (q, at_q, pos, lt, is) = let e =
          ap (λ (z : Cell). input_code z.kind) (sym is) ∙ ap input_code kind in absurd (omega (arith, e))
      by_role (Stacked n l j) at_t (q, at_q, lt, is_place, is) = let e =
          ap (λ (z : Cell). input_code z.kind) (sym is) ∙ ap input_code kind in absurd (omega (arith, e))

  -- each input pad has exactly one cell
  pub input_cells : (k : ℕ) → k < length (r.pads).inputs → IsOnly r.cells (kinds.Input k)
  input_cells k lt =
      let long = length-map (r.pads).inputs face in
      let same = ap length padded.inputs in
      let wide = length-map {B = Face} (filter (λ (x : Def). is_input x.what) p.defs)
      (λ (x : Def). (x.name, pad_width p.width x.what)) in
      let (y, at_y) = some_entry (filter (λ (x : Def). is_input x.what) p.defs) k
      (omega (arith, lt, long, same, wide)) in
      let (d, at_d, h, number) = filter_back (λ (x : Def). is_input x.what) p.defs k y at_y in
      let (x, made, kind) = input_made p.defs d y.what h in
      let (c, role) = cells.all (Value d) x (y, at_d, made) in
      let (z, at_z, (y2, at_y2, is)) = cells.each c (Value d) role in
      let same_y : y2 ≡ y = one_entry p.defs d y2 y at_y2 at_d in
      let same_z : Some x ≡ Some z = sym made ∙ ap (λ (t : Def). def_cell p.defs d t.what) (sym same_y) ∙ is in
      let kind_z : z.kind ≡ kinds.Input k = ap (kind_in z.kind) (sym same_z) ∙ kind ∙ ap kinds.Input number in (
        c,
        (z, at_z, kind_z),
        λ e w at_w kind_w.
            let (d2, y3, role2, at_y3, h2, number2) = input_role e w k at_w kind_w in
            let same_d : d2 ≡ d = one_place (λ (x : Def). is_input x.what) p.defs d2 d y3 y at_y3 at_d h2 h
            (number2 ∙ sym number) in
            cells.once e c (Value d) (subst (λ n. IsAt roles e (Value n)) same_d role2) role,
      )
    where
      kind_in : CellKind → Option Cell → CellKind
      kind_in k None = k
      kind_in k (Some x) = x.kind

  -- the cell of an output is that of a definition
  output_role : (c : ℕ) (x : Cell) (k : ℕ) → IsAt r.cells c x → x.kind ≡ kinds.Output k → (d : ℕ) × (y : Def)
      × IsAt roles c (Value d) × IsAt p.defs d y × (is_output y.what ≡ true) × (output_number p.defs d ≡ k)
  output_role c x k at kind = let (t, at_t, is) = role_at c x at in by_role t at_t is
    where
      by_role : (t : Role) → IsAt roles c t → roles_of.IsCellOf p t x
          → (d : ℕ) × (y : Def) × IsAt roles c (Value d) × IsAt p.defs d y × (is_output y.what ≡ true)
          × (output_number p.defs d ≡ k)
      by_role (Value d) at_t (y, at_y, is) = let (h, number) = output_of p.defs d y.what x k is kind in
          (d, y, at_t, at_y, h, number)
      by_role (Placed n j) at_t (q, at_q, pos, lt, is) = let e =
          ap (λ (z : Cell). output_code z.kind) (sym is) ∙ ap output_code kind in absurd (omega (arith, e))
      by_role (Stacked n l j) at_t (q, at_q, lt, is_place, is) = let e =
          ap (λ (z : Cell). output_code z.kind) (sym is) ∙ ap output_code kind in absurd (omega (arith, e))

  -- each output pad has exactly one cell
  pub output_cells : (k : ℕ) → k < length (r.pads).outputs → IsOnly r.cells (kinds.Output k)
  output_cells k lt =
      let long = length-map (r.pads).outputs face in
      let same = ap length padded.outputs in
      let wide = length-map {B = Face} (filter (λ (x : Def). is_output x.what) p.defs)
      (λ (x : Def). (x.name, pad_width p.width x.what)) in
      let (y, at_y) = some_entry (filter (λ (x : Def). is_output x.what) p.defs) k
      (omega (arith, lt, long, same, wide)) in
      let (d, at_d, h, number) = filter_back (λ (x : Def). is_output x.what) p.defs k y at_y in
      let (x, made, kind) = output_made p.defs d y.what h in
      let (c, role) = cells.all (Value d) x (y, at_d, made) in
      let (z, at_z, (y2, at_y2, is)) = cells.each c (Value d) role in
      let same_y : y2 ≡ y = one_entry p.defs d y2 y at_y2 at_d in
      let same_z : Some x ≡ Some z = sym made ∙ ap (λ (t : Def). def_cell p.defs d t.what) (sym same_y) ∙ is in
      let kind_z : z.kind ≡ kinds.Output k = ap (kind_in z.kind) (sym same_z) ∙ kind ∙ ap kinds.Output number in (
        c,
        (z, at_z, kind_z),
        λ e w at_w kind_w.
            let (d2, y3, role2, at_y3, h2, number2) = output_role e w k at_w kind_w in
            let same_d : d2 ≡ d = one_place (λ (x : Def). is_output x.what) p.defs d2 d y3 y at_y3 at_d h2 h
            (number2 ∙ sym number) in
            cells.once e c (Value d) (subst (λ n. IsAt roles e (Value n)) same_d role2) role,
      )
    where
      kind_in : CellKind → Option Cell → CellKind
      kind_in k None = k
      kind_in k (Some x) = x.kind

  kind_fits : (1 ≤ p.width) → (c : ℕ) (x : Cell) (k : CellKind) → IsAt r.cells c x → x.kind ≡ k → CellFits r x k
  kind_fits le c x (kinds.Input k) at kind =
      let (d, y, role, at_y, h, number) = input_role c x k at kind in
      let (z, at_z, (y2, at_y2, made)) = cells.each c (Value d) role in
      let same_x : z ≡ x = one_entry r.cells c z x at_z at in
      let same_y : y2 ≡ y = one_entry p.defs d y2 y at_y2 at_y in
      let made_x : def_cell p.defs d y.what ≡ Some x =
      ap (λ (t : Def). def_cell p.defs d t.what) (sym same_y) ∙ made ∙ ap Some same_x in
      let (pad, at_pad, name, width) = face_at (r.pads).inputs
      (filter (λ (t : Def). is_input t.what) p.defs) p.width k y padded.inputs
      (subst (λ n. IsAt (filter (λ (t : Def). is_input t.what) p.defs) n y) number
      (filter_at (λ (t : Def). is_input t.what) p.defs d y at_y h)) in (
        pad,
        at_pad,
        sort_of p.defs d p.width y.what x le made_x (or_left (is_input y.what) (is_output y.what) h)
            ∙ sym (ap (λ n. not (n == 0)) width),
      )
  kind_fits le c x (kinds.Output k) at kind =
      let (d, y, role, at_y, h, number) = output_role c x k at kind in
      let (z, at_z, (y2, at_y2, made)) = cells.each c (Value d) role in
      let same_x : z ≡ x = one_entry r.cells c z x at_z at in
      let same_y : y2 ≡ y = one_entry p.defs d y2 y at_y2 at_y in
      let made_x : def_cell p.defs d y.what ≡ Some x =
      ap (λ (t : Def). def_cell p.defs d t.what) (sym same_y) ∙ made ∙ ap Some same_x in
      let (pad, at_pad, name, width) = face_at (r.pads).outputs
      (filter (λ (t : Def). is_output t.what) p.defs) p.width k y padded.outputs
      (subst (λ n. IsAt (filter (λ (t : Def). is_output t.what) p.defs) n y) number
      (filter_at (λ (t : Def). is_output t.what) p.defs d y at_y h)) in (
        pad,
        at_pad,
        sort_of p.defs d p.width y.what x le made_x (or_right (is_input y.what) (is_output y.what) h)
            ∙ sym (ap (λ n. not (n == 0)) width),
      )
  kind_fits le c x kinds.Inner at kind = tt
  kind_fits le c x kinds.Stored at kind = tt

  -- each cell has a pad of its sort, where it is that of a pad
  pub cells_fit : (1 ≤ p.width) → (c : ℕ) (x : Cell) → IsAt r.cells c x → CellFits r x x.kind
  cells_fit le c x at = kind_fits le c x x.kind at refl

  -- the width of a pad is that of words, or 0
  pub input_widths : (k : ℕ) (pad : Pad) → IsAt (r.pads).inputs k pad → (pad.width ≡ p.width) ⊎ (pad.width ≡ 0)
  input_widths k pad at = widths (r.pads).inputs (filter
      (λ (t : Def). is_input t.what) p.defs) p.width k pad padded.inputs at

  pub output_widths : (k : ℕ) (pad : Pad) → IsAt (r.pads).outputs k pad → (pad.width ≡ p.width) ⊎ (pad.width ≡ 0)
  output_widths k pad at = widths (r.pads).outputs (filter
      (λ (t : Def). is_output t.what) p.defs) p.width k pad padded.outputs at

  stored_role : (x : Cell) → rtl.is_stored x.kind ≡ true → (t : Role) → roles_of.IsCellOf p t x → source.stores p ≡ true
  stored_role x is (Value d) (y, at_y, made) =
      or_left (list_any (λ (z : Def). is_stored z.what) p.defs) (nat_lt 0 (length p.processes))
      (any_passes_from_place (λ (z : Def). is_stored z.what) p.defs d y at_y
      (sym (cell_stored p.defs d y.what x made) ∙ is))
  stored_role x is (Placed k j) (q, at_q, pos, in_j, rest) =
      or_right (list_any (λ (z : Def). is_stored z.what) p.defs) (nat_lt 0 (length p.processes))
      (lt-ltb 0 (length p.processes) (let lt = within p.processes k at_q in omega (arith, lt)))
  stored_role x is (Stacked k l j) (q, at_q, in_l, is_place, rest) =
      or_right (list_any (λ (z : Def). is_stored z.what) p.defs) (nat_lt 0 (length p.processes))
      (lt-ltb 0 (length p.processes) (let lt = within p.processes k at_q in omega (arith, lt)))

  -- what stores a cell, the program stores
  pub stored : rtl_trace.stores r ≡ true → source.stores p ≡ true
  stored h =
      let (c, x, at, is) = any_found (λ (z : Cell). rtl.is_stored z.kind) r.cells h in
      let (t, at_t, is_cell) = role_at c x at in
      stored_role x is t is_cell
