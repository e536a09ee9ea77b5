-- The nets of pads, one after another.
use Rattle.std.proofs.Common.{◌≡◌, ℕ, zero, suc, ◌<◌, ◌+◌, ◌⊎◌, inl, inr, List, [], ◌∷◌, ◌++◌, Some, length}
use Rattle.std.proofs.Common.{length-append, refl, sym, ◌∙◌, ap, subst, arith}
use Rattle.std.specs.Prelude.{slice_get, slice_set}
use Rattle.std.proofs.lemmas.List.{length-set}
use Rattle.std.proofs.lemmas.Option.{none-some, same_Some, slice_get_within}
use Rattle.std.proofs.lemmas.Bool.{cases_eq}
use Rattle.mp_base.specs.declared.pad.Pad.{Pad}
use Rattle.mp_base.proofs.Entries.{get_set_same, get_set_other, one_entry, within}
use Rattle.nor_net.specs.declared.net.NetId.{NetId}
use Rattle.mp_base.specs.Entries.{IsAt}
use Rattle.rtl_form.specs.Sound.{CellFits, IsSound}
use Rattle.rtl_form.specs.declared.rtl.Cell as cells
use Rattle.rtl_form.specs.declared.rtl.CellKind.{CellKind}
use Rattle.rtl_form.specs.declared.rtl.CellKind.TheVariants.{Input, Output, Inner, Stored}
use Rattle.rtl_form.specs.declared.rtl.Rtl.{Rtl}
use Rattle.datapath_making.specs.declared.making.Making.{Making}
use Rattle.datapath_finish.specs.Finishing.{AreInputNets, AreOutputNets, IsCellNet, IsOutputPut, IsPadNet}
use Rattle.datapath_making.proofs.Lists.{get_cases}

-- ---- input pads

pub no_inputs : (r : Rtl) (m : Making) → AreInputNets r m 0 []
no_inputs r m = record { count = refl; each = λ k pad id at e. absurd (none-some id e) }

module _ (r : Rtl) (m : Making) (n : ℕ) (ids : List NetId) (id : NetId) (pad : Pad) (h : AreInputNets r m n ids)
    (here : IsAt (r.pads).inputs n pad) (net : IsPadNet m n pad id) where
  each_input : (k : ℕ) (q : Pad) (x : NetId) → IsAt (r.pads).inputs k q
      → ((k < length ids) × (slice_get ids k ≡ Some x))
      ⊎ ((i : ℕ) × (k ≡ length ids + i) × (slice_get (id ∷ []) i ≡ Some x)) → IsPadNet m k q x
  each_input k q x at (inl e) = h.each k q x at e.1
  each_input k q x at (inr (zero, e, s)) =
      let c = h.count in
      let same_k : n ≡ k = omega (arith, e, c) in
      let same_pad = one_entry (r.pads).inputs k pad q (subst (λ j. IsAt (r.pads).inputs j pad) same_k here) at in
      subst (λ (y : NetId). IsPadNet m k q y) (same_Some id x s)
      (subst (λ (p : Pad). IsPadNet m k p id) same_pad (subst (λ j. IsPadNet m j pad id) same_k net))
  each_input k q x at (inr (suc i, e, s)) = absurd (none-some x s)

  pub inputs_more : AreInputNets r m (n + 1) (ids ++ id ∷ [])
  inputs_more = record {
    count = let e = length-append ids (id ∷ []) in let c = h.count in omega (arith, e, c);
    each = λ k q x at e. each_input k q x at (get_cases ids (id ∷ []) k x e);
  }

-- ---- output pads

-- this kind is no output
abbrev IsOther : CellKind → Type 0
IsOther (Output k) = ⊥
IsOther _ = Unit {0}

no_output : (kind : CellKind) (j : ℕ) → IsOther kind → kind ≡ Output j → ⊥
no_output kind j other e = subst IsOther e other

module _ (r : Rtl) (m : Making) (sound : IsSound r) (n : ℕ) (old new : List NetId) (x : cells.Cell)
    (h : AreOutputNets r m n old) (here : IsAt r.cells n x) where
  -- the cell n and this one are one
  same_cell : (c : ℕ) (y : cells.Cell) → IsAt r.cells c y → c ≡ n → x ≡ y
  same_cell c y at e = one_entry r.cells n x y here (subst (λ d. IsAt r.cells d y) e at)

  module _ (k : ℕ) (is : x.kind ≡ Output k) (id : NetId) (net : IsCellNet m n x id) (set : new ≡ slice_set old k id)
    where
      count_put : length new ≡ length (r.pads).outputs
      count_put = ap length set ∙ (length-set old k id ∙ h.count)

      each_put : (c j : ℕ) (y : cells.Cell) (z : NetId) → c < n + 1 → IsAt r.cells c y → y.kind ≡ Output j
          → slice_get new j ≡ Some z → (c ≡ n) ⊎ (c ≡ n → ⊥) → IsCellNet m c y z
      each_put c j y z l at kind e (inl q) =
          let same = same_cell c y at q in
          let kinds : Output k ≡ Output j = sym is ∙ (ap (λ (w : cells.Cell). w.kind) same ∙ kind) in
          let same_k : k ≡ j = cc in
          let inside = slice_get_within new j z e in
          let inside_old : k < length old =
          let a = count_put in let b = h.count in omega (arith, inside, a, b, same_k) in
          let at_k = ap (λ xs. slice_get xs k) set ∙ get_set_same old k id inside_old in
          let same_id = same_Some id z (sym at_k ∙ (ap (slice_get new) same_k ∙ e)) in
          subst (λ (w : NetId). IsCellNet m c y w) same_id
          (subst (λ (w : cells.Cell). IsCellNet m c w id) same (subst (λ d. IsCellNet m d x id) (sym q) net))
      each_put c j y z l at kind e (inr ne) =
          let inside = slice_get_within new j z e in
          let other : j ≡ k → ⊥ = λ q.
          ne (let u = (sound.output_cells j (let a = count_put in omega (arith, inside, a))).2 in
          u c y at kind ∙ sym (u n x here (is ∙ ap Output (sym q)))) in
          h.each c j y z (let f : c < n = omega (arith, l, ne) in f) at kind
          (sym (get_set_other old k id j other) ∙ (ap (λ xs. slice_get xs j) (sym set) ∙ e))

      outputs_put : AreOutputNets r m (n + 1) new
      outputs_put = record {
        count = count_put;
        each = λ c j y z l at kind e. each_put c j y z l at kind e (cases_eq c n);
      }

  module _ (same : new ≡ old) (no : (k : ℕ) → x.kind ≡ Output k → ⊥) where
    each_same : (c j : ℕ) (y : cells.Cell) (z : NetId) → c < n + 1 → IsAt r.cells c y → y.kind ≡ Output j
        → slice_get new j ≡ Some z → (c ≡ n) ⊎ (c ≡ n → ⊥) → IsCellNet m c y z
    each_same c j y z l at kind e (inl q) =
        absurd (no j (ap (λ (w : cells.Cell). w.kind) (same_cell c y at q) ∙ kind))
    each_same c j y z l at kind e (inr ne) =
        h.each c j y z (let f : c < n = omega (arith, l, ne) in f) at kind
        (ap (λ xs. slice_get xs j) (sym same) ∙ e)

    outputs_same : AreOutputNets r m (n + 1) new
    outputs_same = record {
      count = ap length same ∙ h.count;
      each = λ c j y z l at kind e. each_same c j y z l at kind e (cases_eq c n);
    }

  pub outputs_more : IsOutputPut m n x x.kind old new → AreOutputNets r m (n + 1) new
  outputs_more put = by_kind x.kind refl put
    where
      by_kind : (kind : CellKind) → x.kind ≡ kind → IsOutputPut m n x kind old new → AreOutputNets r m (n + 1) new
      by_kind (Output k) is put = outputs_put k is put.0 put.1 put.2
      by_kind (Input k) is same =
          outputs_same same (λ j e. no_output (Input k) j tt (sym is ∙ e))
      by_kind Inner is same = outputs_same same (λ j e. no_output Inner j tt (sym is ∙ e))
      by_kind Stored is same = outputs_same same (λ j e. no_output Stored j tt (sym is ∙ e))

pub pad_in : (r : Rtl) → IsSound r → (c : ℕ) (x : cells.Cell) → IsAt r.cells c x → (k : ℕ) → x.kind ≡ Output k
    → k < length (r.pads).outputs
pad_in r sound c x at k e = within (r.pads).outputs k (subst (CellFits r x) e (sound.cells c x at)).1

pub no_outputs : (r : Rtl) (m : Making) (ids : List NetId) → length ids ≡ length (r.pads).outputs
    → AreOutputNets r m 0 ids
no_outputs r m ids e = record { count = e; each = λ c k x id l at kind s. absurd (omega (arith, l)) }
