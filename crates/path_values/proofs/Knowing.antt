-- In a solution with a definite state and definite inputs, all cells and expressions have their values.
use Rattle.std.proofs.Common.{◌≡◌, ℕ, ◌<◌, ◌^◌, suc, ◌⊎◌, inl, inr, List, [], ◌∷◌, Some, Bool, true, false, cond, refl}
use Rattle.std.proofs.Common.{sym, ◌∙◌, ap, subst}
use Rattle.std.specs.Prelude.{Contains, ◌&&◌, ◌==◌, slice_get, slice_index}
use Rattle.std.specs.Int.{bit_at}
use Rattle.std.proofs.lemmas.Bool.{false≢true, true≢false}
use Rattle.mp_base.specs.declared.value.Trit.{Trit}
use Rattle.mp_base.specs.declared.op.Op.TheVariants as ops
use Rattle.mp_base.proofs.Values.{bit_or_not}
use Rattle.nor_net.specs.declared.net.NetId.{NetId}
use Rattle.nor_net.specs.Elements.{Spot, spot}
use Rattle.nor_net.specs.Machine.{Solves, HoldsState, HoldsInputs}
use Rattle.nor_net.specs.Laws.{bit}
use Rattle.rtl_form.specs.declared.rtl.Cell as cells
use Rattle.rtl_form.specs.declared.rtl.CellKind.{CellKind}
use Rattle.rtl_form.specs.declared.rtl.CellKind.TheVariants as kinds
use Rattle.rtl_form.specs.declared.rtl.RtlExpr.{RtlExpr}
use Rattle.rtl_form.specs.declared.rtl.RtlExpr.TheVariants.{Number, Truth, Cell, Apply}
use Rattle.rtl_form.specs.declared.rtl.Rtl.{Rtl}
use Rattle.mp_base.specs.Entries.{IsAt}
use Rattle.rtl_form.specs.Environment.{is_driven, kind_value, driven_value, IsEnvironment}
use Rattle.rtl_form.specs.Operands.{takes_words}
use Rattle.rtl_form.specs.Sound.{IsSound, IsSort}
use Rattle.rtl_form.specs.Values.{value_of}
use Rattle.rtl_form.specs.Known as known
use Rattle.rtl_form.specs.Digits.{digit}
use Rattle.rtl_form.proofs.Reaching.{reached}
use Rattle.control_nor.specs.Lowering.{Stands, Gives, BitsFit}
use Rattle.control_nor.proofs.Written.{digit_of}
use Rattle.path_form.specs.declared.path.DataPath.{DataPath}
use Rattle.path_form.specs.Showing.{path_nets, FitPads}
use Rattle.path_values.specs.Realizing.{bits_of, StateFits}
use Rattle.path_values.specs.Allocated.{IsAllocated, Known, KnownCells, AreValues, word_store, bit_store, port_at}
use Rattle.path_form.proofs.Joining.{control_obeys}
use Rattle.path_values.proofs.Passing.{word_operator, word_number, test, one_bit}
use Rattle.path_values.proofs.Writing as writing

-- ---- small facts

module _ (r : Rtl) (sound : IsSound r) (p : DataPath) (a : IsAllocated r p) (v : Spot → Trit)
    (solves : Solves (path_nets p) v)
    (state inputs env : List ℕ) (is_env : IsEnvironment r state inputs env) (values : AreValues r env)
    (bits_fit : BitsFit r env)
    (holds : HoldsState a.stores (bits_of state) v) (given : HoldsInputs a.inputs_at (bits_of inputs) v) where
  abbrev E : ℕ → Type 0
  E e = Known r p a v env e

  abbrev C : ℕ → Type 0
  C c = KnownCells r p a v env c

  pub gives_bits : Gives r p.control a.names v env
  gives_bits = a.lowered.gives v env is_env.size bits_fit (λ n l. control_obeys p v solves n)

  word_of : (e : ℕ) (x : RtlExpr) (id : NetId) → IsAt r.exprs e x → Stands a.words e id → IsSort r.cells x true
  word_of e x id at on = (a.sorts e x at).1 (id, on)

  bit_of : (e : ℕ) (x : RtlExpr) (id : NetId) → IsAt r.exprs e x → Stands a.names.exprs e id → IsSort r.cells x false
  bit_of e x id at on = (a.lowered.expr_names e x at).1 (id, on)

  -- along expressions
  pub along : (e : ℕ) (x : RtlExpr) → IsAt r.exprs e x → known.Ready E C x → E e
  along e (Number n) at ready = (
    λ id on. word_number r sound p a v solves env values e n id at on,
    λ id on. absurd (true≢false (sym (bit_of e (Number n) id at on))),
  )
  along e (Truth b) at ready = (
    λ id on. absurd (false≢true (sym (word_of e (Truth b) id at on))),
    λ id on. gives_bits.exprs e (Truth b) at (bit_of e (Truth b) id at on) tt id on,
  )
  along e (Cell c) at ready = (
    λ id on k l. ready.0 id (a.reads e c id at on) k l ∙ ap (λ n. bit (bit_at n k == 1))
        (sym (values.each e (Cell c) at)),
    λ id on. gives_bits.exprs e (Cell c) at (bit_of e (Cell c) id at on) ready.1 id on,
  )
  along e (Apply op index args) at ready = (
    λ id on. word_operator r sound p a v solves env values e op index args id at on
        (sym (word_of e (Apply op index args) id at on)) ready,
    λ id on. by_sort id on (takes_words op) refl (bit_or_not op),
  )
    where
      by_sort : (id : NetId) → Stands a.names.exprs e id → (b : Bool) → takes_words op ≡ b
          → (op ≡ ops.Bit) ⊎ (op ≡ ops.Bit → ⊥) → v (spot 0 id) ≡ bit (value_of r env e == 1)
      by_sort id on false t w =
          gives_bits.exprs e (Apply op index args) at (bit_of e (Apply op index args) id at on)
          (t, λ k d l. (ready k d l).1) id on
      by_sort id on true t (inl is) =
          one_bit r sound p a v solves env values e index args id
          (subst (λ o. IsAt r.exprs e (Apply o index args)) is at) on ready
      by_sort id on true t (inr other) =
          test r sound p a v solves env values e op index args id at t
          (sym (bit_of e (Apply op index args) id at on)) other on ready

  -- to driven cells
  driven : (c : ℕ) (x : cells.Cell) → IsAt r.cells c x → is_driven x.kind ≡ true
      → ((t : Rattle.rtl_form.specs.declared.rtl.Transfer.Transfer) → Contains r.transfers t → t.target ≡ c
      → E t.guard × E t.value) → C c
  driven c x at is fetched = (
    λ id on k l. writing.driven_word r p a v solves env k l c fetched id (a.driven c x id at is on) value,
    λ id on. gives_bits.driven c x at (bit_cell id on) is (λ t has to.
        let ((_, guard_bit), (_, value_bit)) = fetched t has to in (guard_bit, value_bit)) value id on,
  )
    where
      by_kind : (kind : CellKind) → is_driven kind ≡ true → (i s d : _) → kind_value kind i s d ≡ d
      by_kind (kinds.Output k) e i s d = refl
      by_kind kinds.Inner e i s d = refl
      by_kind (kinds.Input k) e i s d = absurd (false≢true e)
      by_kind kinds.Stored e i s d = absurd (false≢true e)

      value : slice_index env c ≡ driven_value r env c
      value = is_env.values c x at ∙ by_kind x.kind is inputs (slice_index state c) (driven_value r env c)

      bit_cell : (id : NetId) → Stands a.names.cells c id → x.word ≡ false
      bit_cell id on = (a.lowered.cell_names c x at).1 (id, on)

  -- stored cells and inputs
  module _ (state_fits : StateFits r state) (inputs_fit : FitPads (r.pads).inputs inputs) (shift : p.width ≡ r.width)
      (reset_of : (c : ℕ) (x : cells.Cell) → IsAt r.cells c x → x.kind ≡ kinds.Stored
      → (reset : ℕ) × (r.reset ≡ Some reset))
      (pad_of : (c i : ℕ) (x : cells.Cell) → IsAt r.cells c x → x.kind ≡ kinds.Input i
      → (pad : NetId) × (slice_get p.inputs i ≡ Some pad))
      (bit_input : (c i : ℕ) (x : cells.Cell) → IsAt r.cells c x → x.kind ≡ kinds.Input i → x.word ≡ false
      → slice_index inputs i < 2) where
    stored_value : (c : ℕ) (x : cells.Cell) → IsAt r.cells c x → x.kind ≡ kinds.Stored
        → slice_index env c ≡ slice_index state c
    stored_value c x at is = is_env.values c x at ∙ ap (λ kind.
        kind_value kind inputs (slice_index state c) (driven_value r env c)) is

    input_value : (c i : ℕ) (x : cells.Cell) → IsAt r.cells c x → x.kind ≡ kinds.Input i
        → slice_index env c ≡ slice_index inputs i
    input_value c i x at is =
        is_env.values c x at ∙ ap (λ kind. kind_value kind inputs (slice_index state c) (driven_value r env c)) is

    twice : (b : Bool) → (cond (cond b false true) false true && true) ≡ b
    twice true = refl
    twice false = refl

    stored_cell : (c : ℕ) (x : cells.Cell) → IsAt r.cells c x → x.kind ≡ kinds.Stored → C c
    stored_cell c x at is =
        let reset = reset_of c x at is in (
          λ id on k l.
              (let h = a.stored c reset.0 x id at is reset.1 on in
              let slave : v (spot (suc k) h.slave) ≡ bit (cond (digit (slice_index state c) k) false true) =
              holds c k (word_store r p.slices p.casts a.names a.words c reset.0 id k h)
              (a.word_stores c reset.0 k x id at is reset.1 on l) in
              writing.gate_bits r p a v solves env k l id (h.slave ∷ [])
              (cond (digit (slice_index state c) k) false true ∷ []) h.is_word (λ i. slave i ∷ [])
              ∙ ap bit (twice (digit (slice_index state c) k))
              ∙ ap (λ n. bit (digit n k)) (sym (stored_value c x at is))),
          λ id on.
              (let word : x.word ≡ false = (a.lowered.cell_names c x at).1 (id, on) in
              let h = a.lowered.stored c x id at is on in
              let low : slice_index state c < 2 = subst (λ n. slice_index state c < 2 ^ n)
              (ap (λ b. cond b r.width 1) word) (state_fits c x at) in
              let slave : v (spot 0 h.slave) ≡ bit (cond (digit (slice_index state c) 0) false true) = holds c 0
              (bit_store p.control id h) (a.bit_stores c x id at is on) in
              gives_bits.state c id h on (slave ∙ ap (λ b. bit (cond b false true))
              (digit_of (slice_index state c) low ∙ ap (λ n. n == 1) (sym (stored_value c x at is)))) id on),
        )

    input_cell : (c i : ℕ) (x : cells.Cell) → IsAt r.cells c x → x.kind ≡ kinds.Input i → C c
    input_cell c i x at is =
        let pad = pad_of c i x at is in (
          λ id on k l. given i k (port_at (suc k) id pad.0) (a.word_inputs c i k x id pad.0 at is on pad.1 l)
              ∙ ap (λ n. bit (digit n k)) (sym (input_value c i x at is)),
          λ id on.
              (let word : x.word ≡ false = (a.lowered.cell_names c x at).1 (id, on) in
              given i 0 (port_at 0 id pad.0) (a.bit_inputs c i x id pad.0 at is on pad.1)
              ∙ ap bit (digit_of (slice_index inputs i) (bit_input c i x at is word)
              ∙ ap (λ n. n == 1) (sym (input_value c i x at is)))),
        )

    base : (c : ℕ) (x : cells.Cell) → IsAt r.cells c x → is_driven x.kind ≡ false → C c
    base c x at e = by_kind x.kind refl e
      where
        by_kind : (kind : CellKind) → x.kind ≡ kind → is_driven kind ≡ false → C c
        by_kind (kinds.Input i) is e = input_cell c i x at is
        by_kind (kinds.Output i) is e = absurd (true≢false e)
        by_kind kinds.Inner is e = absurd (true≢false e)
        by_kind kinds.Stored is e = stored_cell c x at is

    -- all cells and expressions have their values
    pub all_known : known.Reached r E C
    all_known = reached r sound E C (record { base = base; exprs = along; driven = driven })
