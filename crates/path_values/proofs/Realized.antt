-- A path that stands for transfers realizes them.
use Rattle.std.proofs.Common.{◌≡◌, ℕ, ◌<◌, ◌+◌, ◌^◌, zero, suc, ◌⊎◌, inl, inr, List, [], ◌∷◌, ◌++◌, Option, Some, None}
use Rattle.std.proofs.Common.{Bool, true, false, cond, length, map, replicate, refl, sym, ◌∙◌, ap, subst, arith}
use Rattle.std.specs.Prelude.{Contains, IsSome, ◌==◌, not, if◌then◌else◌, slice_get, slice_index, unwrap_or}
use Rattle.std.specs.Int.{bit_at}
use Rattle.std.proofs.lemmas.Bool.{false≢true, true≢false, not-true, not-false, lt-ltb, eqb-true, eq-eqb}
use Rattle.std.proofs.lemmas.Option.{none-some, same_Some, slice_get_within}
use Rattle.mp_base.specs.declared.value.Trit.{Trit}
use Rattle.mp_base.specs.declared.value.Trit.TheVariants.{Zero, One}
use Rattle.mp_base.specs.declared.pad.Pad.{Pad}
use Rattle.mp_base.specs.declared.pad.Pads.{Pads}
use Rattle.mp_base.specs.Merge.{merged}
use Rattle.nor_net.specs.declared.net.NetId.{NetId}
use Rattle.nor_net.specs.declared.net.Part.{Part}
use Rattle.nor_net.specs.declared.net.Part.TheVariants as parts
use Rattle.nor_net.specs.Elements.{Spot, Given, Nor, Joined, Low, spot}
use Rattle.nor_net.specs.Machine.{Store, Port, Solves, IsStore, IsPort, HoldsState, HoldsInputs, HasNext}
use Rattle.nor_net.specs.Laws.{bit}
use Rattle.rtl_form.specs.declared.rtl.Cell as cells
use Rattle.rtl_form.specs.declared.rtl.CellKind.TheVariants as kinds
use Rattle.rtl_form.specs.declared.rtl.Rtl.{Rtl}
use Rattle.mp_base.specs.Entries.{IsAt}
use Rattle.rtl_form.specs.Environment.{is_stored, IsEnvironment}
use Rattle.rtl_form.specs.Sound.{IsSound, CellFits, IsCellOf}
use Rattle.rtl_form.specs.Step.{zero_state, next_state, next_cells, next_stored, resets, Shows}
use Rattle.rtl_form.specs.Trace.{stores}
use Rattle.rtl_form.specs.Values.{value_of}
use Rattle.rtl_form.specs.Written.{written}
use Rattle.rtl_form.specs.Digits.{digit}
use Rattle.control_nor.specs.Lowering.{Stands, next_bit, BitsFit}
use Rattle.path_form.specs.declared.path.DataPath.{DataPath}
use Rattle.organelles.specs.declared.slices.Programmed.{Programmed}
use Rattle.std.specs.Option.{option_or}
use Rattle.mp_base.proofs.Entries.{one_entry, some_entry, within, zeros_at}
use Rattle.std.proofs.lemmas.Map.Keys.{any_passes_from_place}
use Rattle.organelles.specs.Slices.{first_some, program_element}
use Rattle.control_nor.proofs.Written.{digit_of}
use Rattle.path_form.specs.declared.path.Cast.{Cast}
use Rattle.path_form.specs.declared.path.Lift.{Lift}
use Rattle.path_form.specs.Nets.{control_part, slice_part, cast_element}
use Rattle.path_form.specs.Shape.{is_input, times, chain_to, entries_of}
use Rattle.path_form.proofs.Joining.{times_append, there, absent, no_chain}
use Rattle.path_form.specs.Showing.{path_nets, pad_bits, pad_spot, HasPadValues, FitPads}
use Rattle.path_values.specs.Realizing.{bits_of, StateFits, Realizes, Computes}
use Rattle.path_values.specs.Allocated.{IsAllocated, IsTame, Known, KnownCells, word_store, bit_store, port_at}
use Rattle.path_values.specs.Allocated.{cell_bits}
use Rattle.path_values.proofs.Knowing.{all_known, gives_bits}
use Rattle.path_values.proofs.Writing as writing

-- ---- the next state

module _ (r : Rtl) (state inputs env : List ℕ) where
  next_at : (xs : List cells.Cell) (n i : ℕ) (x : cells.Cell) → slice_get xs i ≡ Some x → x.kind ≡ kinds.Stored
      → slice_index (next_cells r state env n xs) i ≡ next_stored r state env (n + i)
  next_at [] n i x e is = absurd (none-some x e)
  next_at (y ∷ ys) n zero x e is =
      let same : y.kind ≡ kinds.Stored = ap (λ (c : cells.Cell). c.kind) (same_Some y x e) ∙ is in
      let num : n ≡ n + 0 = omega arith in
      ap (λ k. if is_stored k then next_stored r state env n else 0) same ∙ ap (next_stored r state env) num
  next_at (y ∷ ys) n (suc i) x e is =
      let num : suc n + i ≡ n + suc i = omega arith in
      next_at ys (suc n) i x e is ∙ ap (next_stored r state env) num

  -- the next value of a stored cell
  next_value : (is_env : IsEnvironment r state inputs env) (sound : IsSound r) (c reset : ℕ) (x : cells.Cell)
      → IsAt r.cells c x → x.kind ≡ kinds.Stored → r.reset ≡ Some reset
      → slice_index (next_state r state inputs env) c ≡ next_bit r env reset c
  next_value is_env sound c reset x at is res =
      ap (λ b. slice_index (cond b (zero_state r) (next_cells r state env 0 r.cells)) c) resets_is
      ∙ by_reset (slice_index env reset == 1)
    where
      is_reset : Rattle.rtl_form.specs.Sound.IsReset r reset
      is_reset = subst (λ o. Rattle.std.specs.Prelude.IfSome o (Rattle.rtl_form.specs.Sound.IsReset r)) res
          sound.reset

      resets_is : resets r inputs ≡ (slice_index env reset == 1)
      resets_is =
          let y = is_reset.0 in
          ap (λ o. Rattle.std.specs.Option.option_map_or (λ (x : cells.Cell).
          slice_index inputs (Rattle.rtl_form.specs.Step.input_number x.kind) == 1)
          (Rattle.std.specs.Prelude.option_and_then (slice_get r.cells) o) false) res
          ∙ ap (λ o. Rattle.std.specs.Option.option_map_or
          (λ (x : cells.Cell). slice_index inputs (Rattle.rtl_form.specs.Step.input_number x.kind) == 1) o false)
          (is_reset.3)
          ∙ ap (λ k. slice_index inputs (Rattle.rtl_form.specs.Step.input_number k) == 1) is_reset.4
          ∙ ap (λ n. n == 1) (sym (is_env.values reset is_reset.0 is_reset.3
          ∙ ap (λ kind. Rattle.rtl_form.specs.Environment.kind_value kind inputs (slice_index state reset)
          (Rattle.rtl_form.specs.Environment.driven_value r env reset)) is_reset.4))

      old : slice_index state c ≡ slice_index env c
      old = sym (is_env.values c x at ∙ ap (λ kind. Rattle.rtl_form.specs.Environment.kind_value kind inputs
          (slice_index state c) (Rattle.rtl_form.specs.Environment.driven_value r env c)) is)

      by_reset : (b : Bool) → slice_index (cond b (zero_state r) (next_cells r state env 0 r.cells)) c
          ≡ (if b then 0 else unwrap_or (merged (written (value_of r env) c r.transfers)) (slice_index env c))
      by_reset true = zeros_at (length r.cells) c
      by_reset false =
          let num : 0 + c ≡ c = omega arith in
          next_at r.cells 0 c x at is ∙ ap (next_stored r state env) num
          ∙ ap (unwrap_or (merged (written (value_of r env) c r.transfers))) old

module _ (r : Rtl) (p : DataPath) (sound : IsSound r) (tame : IsTame r) (a : IsAllocated r p) where
  stores_true : (c : ℕ) (x : cells.Cell) → IsAt r.cells c x → x.kind ≡ kinds.Stored → stores r ≡ true
  stores_true c x at is = any_passes_from_place (λ (x : cells.Cell). is_stored x.kind) r.cells c x at
      (ap is_stored is)

  some_reset : (o : Option ℕ) → r.reset ≡ o → IsSome o → (reset : ℕ) × (r.reset ≡ Some reset)
  some_reset (Some c) e h = (c, e)
  some_reset None e h = absurd (Rattle.std.proofs.lemmas.Bool.false≢true h)

  reset_of : (c : ℕ) (x : cells.Cell) → IsAt r.cells c x → x.kind ≡ kinds.Stored
      → (reset : ℕ) × (r.reset ≡ Some reset)
  reset_of c x at is = some_reset r.reset refl (sound.resets (stores_true c x at is))

  -- the pad of an input cell
  cell_pad : (c i : ℕ) (x : cells.Cell) → IsAt r.cells c x → x.kind ≡ kinds.Input i
      → IsCellOf (r.pads).inputs i x.word
  cell_pad c i x at is = subst (CellFits r x) is (sound.cells c x at)

  pad_of : (c i : ℕ) (x : cells.Cell) → IsAt r.cells c x → x.kind ≡ kinds.Input i
      → (pad : NetId) × (slice_get p.inputs i ≡ Some pad)
  pad_of c i x at is =
      let f = cell_pad c i x at is in
      let l = within (r.pads).inputs i f.1 in
      let ((size, _, _), _) = p.whole.entries_fit in
      let n : length p.inputs ≡ length (r.pads).inputs = size ∙ ap (λ (q : Pads). length q.inputs) a.pads in
      some_entry p.inputs i (omega (arith, l, n))

  narrow : (pad : Pad) (word : Bool) → word ≡ not (pad.width == 0) → word ≡ false → pad_bits pad ≡ 1
  narrow pad word e f = by_width (pad.width == 0) (sym e ∙ f)
    where
      by_width : (b : Bool) → not b ≡ false → (if b then 1 else pad.width) ≡ 1
      by_width true q = refl
      by_width false q = absurd (true≢false q)

  bit_input : (inputs : List ℕ) → FitPads (r.pads).inputs inputs → (c i : ℕ) (x : cells.Cell) → IsAt r.cells c x
      → x.kind ≡ kinds.Input i → x.word ≡ false → slice_index inputs i < 2
  bit_input inputs fit c i x at is word =
      let f = cell_pad c i x at is in
      subst (λ n. slice_index inputs i < 2 ^ n) (narrow f.0 x.word f.2 word)
      (fit i f.0 f.1)

  -- ---- what one solution shows
  module _ (state inputs env outputs : List ℕ) (low : StateFits r state) (fit : FitPads (r.pads).inputs inputs)
      (is_env : IsEnvironment r state inputs env) (shown : Shows r env outputs)
      (v : Spot → Trit) (solves : Solves (path_nets p) v) (holds : HoldsState a.stores (bits_of state) v)
      (given : HoldsInputs a.inputs_at (bits_of inputs) v) where
    known : Rattle.rtl_form.specs.Known.Reached r (Known r p a v env) (KnownCells r p a v env)
    known =
        all_known r sound p a v solves state inputs env is_env (tame.values state inputs env low fit is_env)
        (tame.bits state inputs env low fit is_env) holds given low fit a.width reset_of pad_of
        (bit_input inputs fit)

    -- the output pads
    pads_shown : HasPadValues (r.pads).outputs p.outputs outputs v
    pads_shown i pad id k is_pad is_id l =
        let (c, (x, at, kind), only) = sound.output_cells i (slice_get_within (r.pads).outputs i pad is_pad) in
        let f : IsCellOf (r.pads).outputs i x.word = subst (CellFits r x) kind (sound.cells c x at) in
        let same : f.0 ≡ pad = one_entry (r.pads).outputs i f.0 pad f.1 is_pad in
        let word : x.word ≡ not (pad.width == 0) = f.2 ∙ ap (λ (q : Pad). not (q.width == 0)) same in
        let value : slice_index outputs i ≡ slice_index env c = shown.each c x i at kind in
        let cell = known.cells c (within r.cells c at) in
        by_width c x at (a.shown c i x id at kind is_id) cell value (pad.width == 0) refl word
        (λ e. sound.outputs i pad is_pad)
      where
        by_width : (c : ℕ) (x : cells.Cell) → IsAt r.cells c x
            → (x.word ≡ true → Stands a.cell_words c id) × (x.word ≡ false → Stands a.names.cells c id)
            → KnownCells r p a v env c
            → slice_index outputs i ≡ slice_index env c → (b : Bool) → (pad.width == 0) ≡ b
            → x.word ≡ not (pad.width == 0) → ((pad.width == 0) ≡ (pad.width == 0)
            → (pad.width ≡ r.width) ⊎ (pad.width ≡ 0))
            → v (pad_spot pad id k) ≡ bit (bit_at (slice_index outputs i) k == 1)
        by_width c x at stands cell value true e word widths =
            let first : k ≡ 0 = (let m : k < 1 = subst (λ b. k < cond b 1 pad.width) e l in omega (arith, m)) in
            let bits = tame.bits state inputs env low fit is_env in
            let is_bit : x.word ≡ false = word ∙ ap not e in
            ap (λ b. v (spot (if b then 0 else suc k) id)) e ∙ cell.1 id (stands.1 is_bit)
            ∙ ap bit (sym (digit_of (slice_index env c) (bits c x at is_bit)))
            ∙ ap (λ n. bit (bit_at n 0 == 1)) (sym value) ∙ ap (λ j. bit (bit_at (slice_index outputs i) j == 1))
            (sym first)
        by_width c x at stands cell value false e word widths =
            let is_word : x.word ≡ true = word ∙ ap not e in
            let m : k < pad.width = subst (λ b. k < cond b 1 pad.width) e l in
            let wide : pad.width ≡ r.width = elim (widths refl) [
              | inl q ↦ q
              | inr z ↦ absurd
                  (true≢false (sym (eq-eqb pad.width 0 z) ∙ e))
            ] in
            let n : k < p.width = (let aw = a.width in omega (arith, m, wide, aw)) in
            ap (λ b. v (spot (if b then 0 else suc k) id)) e ∙ cell.0 id (stands.0 is_word) k n
            ∙ ap (λ n. bit (bit_at n k == 1)) (sym value)

    -- what the masters are given
    next_given : StateFits r (next_state r state inputs env)
        → HasNext a.stores (bits_of (next_state r state inputs env)) v
    next_given next_fits c k b is =
        let o = a.only_stores c k b is in
        by_word o.0 o.1 o.2 o.3 o.0.word refl
      where
        fetched : (t : Rattle.rtl_form.specs.declared.rtl.Transfer.Transfer) → Contains r.transfers t → t.target ≡ c
            → Known r p a v env t.guard × Known r p a v env t.value
        fetched t has to =
            let ((_, guard, _), (_, _, (_, value, _), _)) = sound.transfers t has in
            (known.exprs t.guard (within r.exprs t.guard guard), known.exprs t.value (within r.exprs t.value value))

        by_word : (x : cells.Cell) → IsAt r.cells c x → x.kind ≡ kinds.Stored → k < cell_bits r x → (w : Bool)
            → x.word ≡ w → v b.source ≡ bit (bits_of (next_state r state inputs env) c k)
        by_word x at kind l true word =
            let reset = reset_of c x at kind in
            let on = (a.cell_sorts c x at).0 word in
            let h = a.stored c reset.0 x on.0 at kind reset.1 on.1 in
            let n : k < p.width = (let m : k < r.width = subst (λ w. k < cond w r.width 1) word l in
            let aw = a.width in omega (arith, m, aw)) in
            let same : b ≡ word_store r p.slices p.casts a.names a.words c reset.0 on.0 k h = same_Some b
            (word_store r p.slices p.casts a.names a.words c reset.0 on.0 k h)
            (sym is ∙ a.word_stores c reset.0 k x on.0 at kind reset.1 on.1 n) in
            let held : v (spot (suc k) h.slave) ≡ bit (cond (digit (slice_index env c) k) false true) =
            holds c k (word_store r p.slices p.casts a.names a.words c reset.0 on.0 k h)
            (a.word_stores c reset.0 k x on.0 at kind reset.1 on.1 n)
            ∙ ap (λ m. bit (cond (digit m k) false true)) (sym
            (is_env.values c x at ∙ ap (λ q. Rattle.rtl_form.specs.Environment.kind_value q inputs
            (slice_index state c) (Rattle.rtl_form.specs.Environment.driven_value r env c)) kind)) in
            let is_reset : Rattle.rtl_form.specs.Sound.IsReset r reset.0 = subst
            (λ o. Rattle.std.specs.Prelude.IfSome o (Rattle.rtl_form.specs.Sound.IsReset r)) reset.1 sound.reset
            in
            let clear = (known.cells reset.0 (within r.cells reset.0 is_reset.3)).1 h.clear.control h.is_clear.1 in
            ap (λ (s : Store). v s.source) same ∙ writing.stored_word r p a v solves env k n c fetched reset.0 on.0 h
            held clear
            ∙ ap (λ m. bit (digit m k)) (sym (next_value r state inputs env is_env sound c reset.0 x at kind reset.1))
        by_word x at kind l false word =
            let reset = reset_of c x at kind in
            let on = (a.lowered.cell_names c x at).0 word in
            let h = a.lowered.stored c x on.0 at kind on.1 in
            let first : k ≡ 0 = (let m : k < 1 = subst (λ w. k < cond w r.width 1) word l in omega (arith, m)) in
            let same : b ≡ bit_store p.control on.0 h = same_Some b (bit_store p.control on.0 h)
            (sym is ∙ ap (a.stores c) first ∙ a.bit_stores c x on.0 at kind on.1) in
            let is_reset : Rattle.rtl_form.specs.Sound.IsReset r reset.0 = subst
            (λ o. Rattle.std.specs.Prelude.IfSome o (Rattle.rtl_form.specs.Sound.IsReset r)) reset.1 sound.reset
            in
            let values = tame.values state inputs env low fit is_env in
            let bits = tame.bits state inputs env low fit is_env in
            let g = gives_bits r sound p a v solves state inputs env is_env values bits holds given in
            let got = g.next c reset.0 on.0 h on.1 reset.1 (known.cells c (within r.cells c at)).1
            (known.cells reset.0 (within r.cells reset.0 is_reset.3)).1
            (λ t has to. let ((_, guard_bit), (_, value_bit)) = fetched t has to in (guard_bit, value_bit)) in
            let is_next = next_value r state inputs env is_env sound c reset.0 x at kind reset.1 in
            let small : slice_index (next_state r state inputs env) c < 2 = subst
            (λ w. slice_index (next_state r state inputs env) c < 2 ^ cond w r.width 1) word (next_fits c x at) in
            ap (λ (s : Store). v s.source) same ∙ got ∙ ap (λ m. bit (m == 1)) (sym is_next)
            ∙ ap bit (sym (digit_of (slice_index (next_state r state inputs env) c) small))
            ∙ ap (λ j. bit (digit (slice_index (next_state r state inputs env) c) j)) (sym first)

-- ---- shapes

pub in_entries : (w : Bool) (pads : List Pad) (ids : List NetId) (i : ℕ) (pad : Pad) (id : NetId)
    → slice_get pads i ≡ Some pad → slice_get ids i ≡ Some id → not (pad.width == 0) ≡ w
    → Contains (entries_of w pads ids) id
in_entries w [] ids i pad id e f t = absurd (none-some pad e)
in_entries w (q ∷ qs) [] i pad id e f t = absurd (none-some id f)
in_entries w (q ∷ qs) (j ∷ js) zero pad id e f t =
    by_tests (not (q.width == 0)) w (ap (λ (x : Pad). not (x.width == 0)) (same_Some q pad e) ∙ t)
  where
    here : Contains (j ∷ entries_of w qs js) id
    here = (0, omega arith, same_Some j id f)

    by_tests : (b c : Bool) → b ≡ c → Contains (if b then (if c then j ∷ entries_of c qs js else entries_of c qs js)
        else (if c then entries_of c qs js else j ∷ entries_of c qs js)) id
    by_tests true true same = (0, omega arith, same_Some j id f)
    by_tests false false same = (0, omega arith, same_Some j id f)
    by_tests true false same = absurd (true≢false same)
    by_tests false true same = absurd (false≢true same)
in_entries w (q ∷ qs) (j ∷ js) (suc i) pad id e f t =
    by_tests (not (q.width == 0)) w (in_entries w qs js i pad id e f t)
  where
    more : {A : Type 0} (xs : List A) (y x : A) → Contains xs x → Contains (y ∷ xs) x
    more xs y x c = (suc c.0, (let l = c.1 in omega (arith, l)), c.2)

    by_tests : (b c : Bool) → Contains (entries_of c qs js) id
        → Contains (if b then (if c then j ∷ entries_of c qs js else entries_of c qs js) else
        (if c then entries_of c qs js else j ∷ entries_of c qs js)) id
    by_tests true true h = more (entries_of true qs js) j id h
    by_tests true false h = h
    by_tests false true h = h
    by_tests false false h = more (entries_of false qs js) j id h

module _ (p : DataPath) where
  slice_el : (k : ℕ) (n : NetId) (q : Part) → k < p.width → slice_get p.slices.net n.0 ≡ Some q
      → path_nets p (spot (suc k) n) ≡ slice_part p.width p.slices p.casts k n.0 (Some q)
  slice_el k n q l e = ap (λ b. cond b (slice_part p.width p.slices p.casts k n.0 (slice_get p.slices.net n.0)) None)
      (lt-ltb k p.width l) ∙ ap (slice_part p.width p.slices p.casts k n.0) e

  control_el : (n : NetId) (q : Part) → slice_get p.control n.0 ≡ Some q
      → path_nets p (spot 0 n) ≡ control_part p.lifts n.0 (Some q)
  control_el n q e = ap (control_part p.lifts n.0) e

  -- a pad of the control is given its value
  pub control_pad : (pad : NetId) → slice_get p.control pad.0 ≡ Some parts.Input
      → Contains (entries_of false (p.pads).inputs p.inputs) pad → path_nets p (spot 0 pad) ≡ Some Given
  control_pad pad e c =
      let ends = map (λ (l : Lift). l.control) p.lifts in
      let words = entries_of false (p.pads).inputs p.inputs in
      let one = sym (times_append pad.0 words ends) ∙ p.whole.control_inputs.1 pad.0 (ap is_input e) in
      let some = there pad.0 words pad c refl in
      let none = absent (λ (l : Lift). l.control) (λ (l : Lift). Joined (spot (suc l.slice) l.from)) pad.0 p.lifts
      (omega (arith, one, some)) in
      control_el pad parts.Input e ∙ ap (λ o. option_or o (Some Given)) none

  -- so is one of the slices
  pub slice_pad : (k : ℕ) (pad : NetId) → k < p.width → slice_get p.slices.net pad.0 ≡ Some parts.Input
      → Contains (entries_of true (p.pads).inputs p.inputs) pad → path_nets p (spot (suc k) pad) ≡ Some Given
  slice_pad k pad l e c =
      let words = entries_of true (p.pads).inputs p.inputs in
      let tos = map chain_to p.slices.chains in
      let casts = map (λ (c : Cast). c.slice) p.casts in
      let programs = map (λ (g : Programmed). g.net) p.slices.programs in
      let one = sym (times_append pad.0 words (tos ++ (casts ++ programs))
      ∙ ap (λ t. times pad.0 words + t) (times_append pad.0 tos (casts ++ programs)
      ∙ ap (λ t. times pad.0 tos + t) (times_append pad.0 casts programs)))
      ∙ p.whole.slice_inputs.1 pad.0 (ap is_input e) in
      let some = there pad.0 words pad c refl in
      let chain = no_chain p.width k pad.0 p.slices.chains (omega (arith, one, some)) in
      let program = absent (λ (g : Programmed). g.net) (λ (g : Programmed). cond (bit_at g.bits k == 1) (Nor []) Low)
      pad.0 p.slices.programs (omega (arith, one, some)) in
      let cast = absent (λ (c : Cast). c.slice) (λ (c : Cast). Joined (spot 0 c.control)) pad.0 p.casts
      (omega (arith, one, some)) in
      slice_el k pad parts.Input l e
      ∙ ap (λ o. option_or (option_or o (first_some (program_element k pad.0) p.slices.programs))
      (option_or (first_some (cast_element pad.0) p.casts) (Some Given))) chain
      ∙ ap (λ o. option_or o (option_or (first_some (cast_element pad.0) p.casts) (Some Given))) program
      ∙ ap (λ o. option_or o (Some Given)) cast

module _ (r : Rtl) (p : DataPath) (sound : IsSound r) (tame : IsTame r) (a : IsAllocated r p) where
  wide : (k : ℕ) (x : cells.Cell) → k < cell_bits r x → x.word ≡ true → k < p.width
  wide k x l word = let m : k < r.width = subst (λ w. k < cond w r.width 1) word l in let aw =
      a.width in omega (arith, m, aw)

  first : (k : ℕ) (x : cells.Cell) → k < cell_bits r x → x.word ≡ false → k ≡ 0
  first k x l word = let m : k < 1 = subst (λ w. k < cond w r.width 1) word l in omega (arith, m)

  -- a stored bit is that of a word or that of a bit
  pub by_store : (Q : Store → Type 0) → ((c reset k : ℕ) (x : cells.Cell) (id : NetId) (at : IsAt r.cells c x)
      (is : x.kind ≡ kinds.Stored) (res : r.reset ≡ Some reset) (on : Stands a.cell_words c id)
      → k < p.width → Q (word_store r p.slices p.casts a.names a.words c reset id k
      (a.stored c reset x id at is res on)))
      → ((c reset : ℕ) (x : cells.Cell) (id : NetId) (at : IsAt r.cells c x) (is : x.kind ≡ kinds.Stored)
      (res : r.reset ≡ Some reset) (on : Stands a.names.cells c id)
      → Q (bit_store p.control id (a.lowered.stored c x id at is on)))
      → (c k : ℕ) (b : Store) → a.stores c k ≡ Some b → Q b
  by_store Q words bits c k b is = let o = a.only_stores c k b is in by_word o.0 o.1 o.2 o.3 o.0.word refl
    where
      by_word : (x : cells.Cell) → IsAt r.cells c x → x.kind ≡ kinds.Stored → k < cell_bits r x → (w : Bool)
          → x.word ≡ w → Q b
      by_word x at kind l true word =
          let reset = reset_of r p sound tame a c x at kind in
          let on = (a.cell_sorts c x at).0 word in
          subst Q (same_Some (word_store r p.slices p.casts a.names a.words c reset.0 on.0 k
          (a.stored c reset.0 x on.0 at kind reset.1 on.1)) b
          (sym (a.word_stores c reset.0 k x on.0 at kind reset.1 on.1 (wide k x l word)) ∙ is))
          (words c reset.0 k x on.0 at kind reset.1 on.1 (wide k x l word))
      by_word x at kind l false word =
          let reset = reset_of r p sound tame a c x at kind in
          let on = (a.lowered.cell_names c x at).0 word in
          subst Q (same_Some (bit_store p.control on.0 (a.lowered.stored c x on.0 at kind on.1)) b
          (sym (ap (a.stores c) (first k x l word) ∙ a.bit_stores c x on.0 at kind on.1) ∙ is))
          (bits c reset.0 x on.0 at kind reset.1 on.1)

  are_stores : (c k : ℕ) (b : Store) → a.stores c k ≡ Some b → IsStore (path_nets p) b
  are_stores =
      by_store (IsStore (path_nets p))
      (λ c reset k x id at is res on l.
      (let h = a.stored c reset x id at is res on in
      record {
        master = slice_el p k h.master (parts.Latch Rattle.nor_net.specs.declared.net.Phase.TheVariants.A
            (Some h.source)) l h.is_master;
        negation = slice_el p k h.negation (parts.Gate (h.master ∷ [])) l h.is_negation;
        slave = slice_el p k h.slave (parts.Latch Rattle.nor_net.specs.declared.net.Phase.TheVariants.B
            (Some h.negation)) l h.is_slave;
      }))
      (λ c reset x id at is res on.
      (let h = a.lowered.stored c x id at is on in
      record {
        master = control_el p h.master (parts.Latch Rattle.nor_net.specs.declared.net.Phase.TheVariants.A
            (Some h.source)) h.is_master;
        negation = control_el p h.negation (parts.Gate (h.master ∷ [])) h.is_negation;
        slave = control_el p h.slave (parts.Latch Rattle.nor_net.specs.declared.net.Phase.TheVariants.B
            (Some h.negation)) h.is_slave;
      }))

  none_stored : stores r ≡ false → (c k : ℕ) → a.stores c k ≡ None
  none_stored e c k = by_store_at (a.stores c k) refl
    where
      by_store_at : (o : Option Store) → a.stores c k ≡ o → a.stores c k ≡ None
      by_store_at None q = q
      by_store_at (Some b) q =
          let o = a.only_stores c k b q in absurd (true≢false (sym (stores_true r p sound tame a c o.0 o.1 o.2) ∙ e))

  -- the pad of an input cell, in the path's words
  pub pad_at : (c i : ℕ) (x : cells.Cell) → IsAt r.cells c x → x.kind ≡ kinds.Input i
      → (pad : Pad) × (slice_get (r.pads).inputs i ≡ Some pad) × (slice_get (p.pads).inputs i ≡ Some pad)
      × (x.word ≡ not (pad.width == 0))
      × ((pad.width ≡ r.width) ⊎ (pad.width ≡ 0))
  pad_at c i x at is =
      let f = cell_pad r p sound tame a c i x at is in
      (f.0, f.1, ap (λ (q : Pads). slice_get q.inputs i) a.pads ∙ f.1, f.2, sound.inputs i f.0 f.1)

  -- an input bit is that of a word or that of a bit
  by_port : (Q : ℕ → ℕ → Port → Type 0)
      → ((c i k : ℕ) (x : cells.Cell) (id pad : NetId) (at : IsAt r.cells c x) (is : x.kind ≡ kinds.Input i)
      (on : Stands a.cell_words c id) → slice_get p.inputs i ≡ Some pad → k < p.width → x.word ≡ true
      → Q i k (port_at (suc k) id pad))
      → ((c i : ℕ) (x : cells.Cell) (id pad : NetId) (at : IsAt r.cells c x) (is : x.kind ≡ kinds.Input i)
      (on : Stands a.names.cells c id) → slice_get p.inputs i ≡ Some pad → x.word ≡ false
      → Q i 0 (port_at 0 id pad))
      → (i k : ℕ) (q : Port) → a.inputs_at i k ≡ Some q → Q i k q
  by_port Q words bits i k q is = let o = a.only_inputs i k q is in by_word o.0 o.1 o.2 o.3 o.4 o.1.word refl
    where
      by_word : (c : ℕ) (x : cells.Cell) → IsAt r.cells c x → x.kind ≡ kinds.Input i → k < cell_bits r x → (w : Bool)
          → x.word ≡ w → Q i k q
      by_word c x at kind l true word =
          let on = (a.cell_sorts c x at).0 word in
          let pad = pad_of r p sound tame a c i x at kind in
          subst (Q i k) (same_Some (port_at (suc k) on.0 pad.0) q
          (sym (a.word_inputs c i k x on.0 pad.0 at kind on.1 pad.1 (wide k x l word)) ∙ is))
          (words c i k x on.0 pad.0 at kind on.1 pad.1 (wide k x l word) word)
      by_word c x at kind l false word =
          let on = (a.lowered.cell_names c x at).0 word in
          let pad = pad_of r p sound tame a c i x at kind in
          let zeroth : k ≡ 0 = first k x l word in
          subst (λ j. Q i j q) (sym zeroth)
          (subst (Q i 0) (same_Some (port_at 0 on.0 pad.0) q
          (sym (a.bit_inputs c i x on.0 pad.0 at kind on.1 pad.1) ∙ ap (a.inputs_at i) (sym zeroth) ∙ is))
          (bits c i x on.0 pad.0 at kind on.1 pad.1 word))

  -- the net of a bit's pad is that of its name
  bit_pad : (c i : ℕ) (x : cells.Cell) (id pad : NetId) → IsAt r.cells c x → x.kind ≡ kinds.Input i
      → Stands a.names.cells c id → slice_get p.inputs i ≡ Some pad → x.word ≡ false
      → Rattle.control_nor.specs.Lowering.InputBit p.control id pad
  bit_pad c i x id pad at is on is_pad word =
      let q = pad_at c i x at is in
      let is_bit : (q.0.width == 0) ≡ true = not-false (q.0.width == 0) (sym q.3 ∙ word) in
      let named = (a.lowered.pad_names i q.0 q.1).0 (eqb-true q.0.width 0 is_bit) in
      let same : named.0 ≡ pad = same_Some named.0 pad (sym (a.bit_ports i named.0 named.1) ∙ is_pad) in
      subst (Rattle.control_nor.specs.Lowering.InputBit p.control id) same
      (a.lowered.ports c i x id named.0 at is on named.1)

  port_shape_word : (c i k : ℕ) (x : cells.Cell) (id pad : NetId) → IsAt r.cells c x → x.kind ≡ kinds.Input i
      → Stands a.cell_words c id → slice_get p.inputs i ≡ Some pad → k < p.width → x.word ≡ true
      → IsPort (path_nets p) (port_at (suc k) id pad)
  port_shape_word c i k x id pad at is on is_pad l word =
      let h = a.ports c i x id pad at is on is_pad in
      let q = pad_at c i x at is in
      record {
        latch = slice_el p k id (parts.Latch Rattle.nor_net.specs.declared.net.Phase.TheVariants.C (Some pad)) l h.0;
        pad = slice_pad p k pad l h.1 (in_entries true (p.pads).inputs p.inputs i q.0 pad q.2 is_pad
            (sym q.3 ∙ word));
      }

  port_shape_bit : (c i : ℕ) (x : cells.Cell) (id pad : NetId) → IsAt r.cells c x → x.kind ≡ kinds.Input i
      → Stands a.names.cells c id → slice_get p.inputs i ≡ Some pad → x.word ≡ false
      → IsPort (path_nets p) (port_at 0 id pad)
  port_shape_bit c i x id pad at is on is_pad word =
      let h = bit_pad c i x id pad at is on is_pad word in
      let q = pad_at c i x at is in
      record {
        latch = control_el p id (parts.Latch Rattle.nor_net.specs.declared.net.Phase.TheVariants.C (Some pad))
            h.is_latch;
        pad = control_pad p pad h.is_pad (in_entries false (p.pads).inputs p.inputs i q.0 pad q.2 is_pad
            (sym q.3 ∙ word));
      }

  are_ports : (i k : ℕ) (q : Port) → a.inputs_at i k ≡ Some q → IsPort (path_nets p) q
  are_ports = by_port (λ i k q. IsPort (path_nets p) q) port_shape_word port_shape_bit

  -- what is given at a pad
  given_word : (inputs : List ℕ) (values : Spot → Trit) → HasPadValues (r.pads).inputs p.inputs inputs values
      → (c i k : ℕ) (x : cells.Cell) (id pad : NetId) → IsAt r.cells c x → x.kind ≡ kinds.Input i
      → Stands a.cell_words c id → slice_get p.inputs i ≡ Some pad → k < p.width → x.word ≡ true
      → values (spot (suc k) pad) ≡ bit (bits_of inputs i k)
  given_word inputs values has c i k x id pad at is on is_pad l word =
      let q = pad_at c i x at is in
      let narrow : (q.0.width == 0) ≡ false = not-true (q.0.width == 0) (sym q.3 ∙ word) in
      let width : q.0.width ≡ r.width = elim q.4 [
        | inl e ↦ e
        | inr z ↦ absurd
            (true≢false (sym (eq-eqb q.0.width 0 z) ∙ narrow))
      ] in
      let m : k < pad_bits q.0 = subst (λ b. k < cond b 1 q.0.width) (sym narrow)
      (let aw = a.width in omega (arith, l, width, aw)) in
      sym (ap (λ b. values (spot (if b then 0 else suc k) pad)) narrow) ∙ has i q.0 pad k q.1 is_pad m

  given_bit : (inputs : List ℕ) (values : Spot → Trit) → HasPadValues (r.pads).inputs p.inputs inputs values
      → (c i : ℕ) (x : cells.Cell) (id pad : NetId) → IsAt r.cells c x → x.kind ≡ kinds.Input i
      → Stands a.names.cells c id → slice_get p.inputs i ≡ Some pad → x.word ≡ false
      → values (spot 0 pad) ≡ bit (bits_of inputs i 0)
  given_bit inputs values has c i x id pad at is on is_pad word =
      let q = pad_at c i x at is in
      let narrow : (q.0.width == 0) ≡ true = not-false (q.0.width == 0) (sym q.3 ∙ word) in
      let m : 0 < pad_bits q.0 = subst (λ b. 0 < cond b 1 q.0.width) (sym narrow)
      (let h : 0 < 1 = omega arith in h) in
      sym (ap (λ b. values (spot (if b then 0 else 1) pad)) narrow) ∙ has i q.0 pad 0 q.1 is_pad m

  given_ports : (inputs : List ℕ) (values : Spot → Trit) → HasPadValues (r.pads).inputs p.inputs inputs values
      → (i k : ℕ) (q : Port) → a.inputs_at i k ≡ Some q → values q.pad ≡ bit (bits_of inputs i k)
  given_ports inputs values has =
      by_port (λ i k q. values q.pad ≡ bit (bits_of inputs i k)) (given_word inputs values has)
      (given_bit inputs values has)

  -- ---- reset

  zero_bits : BitsFit r (zero_state r)
  zero_bits c x at word = let z = zeros_at (length r.cells) c in omega (arith, z)

  zero_size : (n : ℕ) → length {A = ℕ} (replicate n 0) ≡ n
  zero_size zero = refl
  zero_size (suc n) = ap suc (zero_size n)

  same_net : (entries : List (Option NetId)) (k : ℕ) (m n : NetId) → Stands entries k m → Stands entries k n → m ≡ n
  same_net entries k m n e f = same_Some m n (same_Some (Some m) (Some n) (sym e ∙ f))

  cleared : (reset : ℕ) (at : NetId) → r.reset ≡ Some reset → Stands a.names.cells reset at → (v : Spot → Trit)
      → Solves (path_nets p) v → v (spot 0 at) ≡ One
      → (c k : ℕ) (b : Store) → a.stores c k ≡ Some b → v b.source ≡ bit false
  cleared reset at is on v solves high =
      by_store (λ b. v b.source ≡ Zero)
      (λ c rs k x id where' kind res stands l.
      (let h = a.stored c rs x id where' kind res stands in
      let same_reset : rs ≡ reset = same_Some rs reset (sym res ∙ is) in
      let control : h.clear.control ≡ at = same_net a.names.cells reset h.clear.control at
      (subst (λ m. Stands a.names.cells m h.clear.control) same_reset h.is_clear.1) on in
      writing.cleared_word r p a v solves (zero_state r) k l c rs id h (ap (λ m. v (spot 0 m)) control ∙ high)))
      (λ c rs x id where' kind res stands.
      (let g = a.lowered.gives v (zero_state r) (zero_size (length r.cells)) zero_bits
      (λ n ge. Rattle.path_form.proofs.Joining.control_obeys p v solves n) in
      g.clear c reset id at (a.lowered.stored c x id where' kind stands) stands is on high))

  option_reset : (inputs : List ℕ) (o : Option ℕ) → r.reset ≡ o → resets r inputs ≡ true
      → (reset : ℕ) × (r.reset ≡ Some reset)
  option_reset inputs (Some reset) e t = (reset, e)
  option_reset inputs None e t =
      absurd (false≢true (sym (ap (λ o. Rattle.std.specs.Option.option_map_or
      (λ (x : cells.Cell). slice_index inputs (Rattle.rtl_form.specs.Step.input_number x.kind) == 1)
      (Rattle.std.specs.Prelude.option_and_then (slice_get r.cells) o) false) e) ∙ t))

  clears : (inputs : List ℕ) (values : Spot → Trit) → HasPadValues (r.pads).inputs p.inputs inputs values
      → resets r inputs ≡ true
      → (reset : Port) × IsPort (path_nets p) reset × (values reset.pad ≡ One)
      × Rattle.nor_net.specs.Machine.Whenever (path_nets p) (λ v. v reset.latch ≡ One)
      (HasNext a.stores (λ c k. false))
  clears inputs values has t =
      let o = option_reset inputs r.reset refl t in
      let is_reset : Rattle.rtl_form.specs.Sound.IsReset r o.0 = subst
      (λ w. Rattle.std.specs.Prelude.IfSome w (Rattle.rtl_form.specs.Sound.IsReset r)) o.1 sound.reset in
      let x = is_reset.0 in
      let i = is_reset.1 in
      let q = pad_at o.0 is_reset.1 is_reset.0 is_reset.3 is_reset.4 in
      let same : q.0 ≡ is_reset.2 = one_entry (r.pads).inputs is_reset.1 q.0 is_reset.2 q.1 is_reset.5 in
      let word : is_reset.0.word ≡ false = q.3 ∙ ap not (eq-eqb q.0.width 0
      (ap (λ (y : Pad). y.width) same ∙ is_reset.6)) in
      let on = (a.lowered.cell_names o.0 is_reset.0 is_reset.3).0 word in
      let pad = pad_of r p sound tame a o.0 is_reset.1 is_reset.0 is_reset.3 is_reset.4 in
      let number : (slice_index inputs is_reset.1 == 1) ≡ true =
      sym (ap (λ o. Rattle.std.specs.Option.option_map_or (λ (x : cells.Cell).
      slice_index inputs (Rattle.rtl_form.specs.Step.input_number x.kind) == 1)
      (Rattle.std.specs.Prelude.option_and_then (slice_get r.cells) o) false) o.1
      ∙ ap (λ w. Rattle.std.specs.Option.option_map_or (λ (x : cells.Cell).
      slice_index inputs (Rattle.rtl_form.specs.Step.input_number x.kind) == 1) w false)
      (is_reset.3)
      ∙ ap (λ k. slice_index inputs (Rattle.rtl_form.specs.Step.input_number k) == 1) is_reset.4) ∙ t in
      let is_one : slice_index inputs is_reset.1 ≡ 1 = eqb-true (slice_index inputs is_reset.1) 1 number in (
        port_at 0 on.0 pad.0,
        port_shape_bit o.0 is_reset.1 is_reset.0 on.0 pad.0 is_reset.3 is_reset.4 on.1 pad.1 word,
        given_bit inputs values has o.0 is_reset.1 is_reset.0 on.0 pad.0 is_reset.3 is_reset.4 on.1 pad.1 word
            ∙ ap (λ n. bit (bit_at n 0 == 1)) is_one,
        λ st v e sol high. cleared o.0 on.0 o.1 on.1 v (st, e, sol) high,
      )

  computes : Computes r p a.stores a.inputs_at
  computes state inputs env outputs low fit is_env shown st v e sol h = (
    pads_shown r p sound tame a state inputs env outputs low fit is_env shown v (st, e, sol) h.0 h.1,
    next_given r p sound tame a state inputs env outputs low fit is_env shown v (st, e, sol) h.0 h.1
        (tame.next state inputs outputs (next_state r state inputs env) low fit
        (record { env = env; environment = is_env; shown = shown; next = refl })),
  )

pub realizes : (r : Rtl) (p : DataPath) → IsSound r → IsTame r → IsAllocated r p → Realizes r p
realizes r p sound tame a = record {
  pads = a.pads;
  stored = a.stores;
  ports = a.inputs_at;
  are_stores = are_stores r p sound tame a;
  are_ports = are_ports r p sound tame a;
  given_ports = given_ports r p sound tame a;
  none = none_stored r p sound tame a;
  clears = clears r p sound tame a;
  fits = tame.next;
  computes = computes r p sound tame a;
}
