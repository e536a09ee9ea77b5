-- Values fit their widths.
use Rattle.std.proofs.Common.{◌≡◌, ℕ, ◌<◌, ◌+◌, ◌-◌, ◌*◌, ◌^◌, zero, suc, inl, inr, List, [], ◌∷◌, Option, Some, None}
use Rattle.std.proofs.Common.{Bool, true, false, cond, length, map, get_or, ltb, refl, sym, ◌∙◌, ap, subst}
use Rattle.std.proofs.Common.{arith}
use Rattle.std.specs.Prelude.{Contains, ◌==◌, not, if◌then◌else◌, slice_index, unwrap_or}
use Rattle.std.proofs.Math.Nat.{div-le_self}
use Rattle.std.proofs.lemmas.Bool.{false≢true, true≢false, eqb-true, eq-eqb}
use Rattle.std.proofs.lemmas.Nat.{pow_pos, mod_below, or_lt, xor_lt, and_le_l}
use Rattle.std.proofs.lemmas.Nat.Bits.{bit_at-lt}
use Rattle.mp_base.specs.declared.op.Op.{Op}
use Rattle.mp_base.specs.declared.op.Op.TheVariants.{Add, Sub, Inc, Dec, WordAnd, WordOr, WordXor, WordNot, Left, Right}
use Rattle.mp_base.specs.declared.op.Op.TheVariants.{And, Or, Nor, Nand, Xor, Not, Bit, Zero, Equal, Less}
use Rattle.mp_base.specs.Apply.{apply, truth}
use Rattle.mp_base.specs.Merge.{join, merged}
use Rattle.mp_base.proofs.Tests.{truth_small, truth_apart}
use Rattle.rtl_form.specs.declared.rtl.Cell as cells
use Rattle.rtl_form.specs.declared.rtl.CellKind.{CellKind}
use Rattle.rtl_form.specs.declared.rtl.CellKind.TheVariants as kinds
use Rattle.rtl_form.specs.declared.rtl.RtlExpr.{RtlExpr}
use Rattle.rtl_form.specs.declared.rtl.RtlExpr.TheVariants as exprs
use Rattle.rtl_form.specs.declared.rtl.Transfer.{Transfer}
use Rattle.rtl_form.specs.declared.rtl.Rtl.{Rtl}
use Rattle.mp_base.specs.Entries.{IsAt}
use Rattle.std.proofs.lemmas.Option.{same_Some, none-some}
use Rattle.mp_base.proofs.Entries.{one_entry, within, zeros_at}
use Rattle.rtl_form.specs.Environment.{is_driven, is_stored, kind_value, driven_value, IsEnvironment}
use Rattle.rtl_form.specs.Operands.{takes_words, gives_word}
use Rattle.rtl_form.specs.Sound.{IsSound, IsSort, CellFits, IsCellOf}
use Rattle.rtl_form.specs.Step.{zero_state, next_state, next_cells, next_stored, resets}
use Rattle.rtl_form.specs.Values.{value_of, expr_value}
use Rattle.rtl_form.specs.Written.{written}
use Rattle.rtl_form.specs.Known as known
use Rattle.rtl_form.specs.Fitting.{size_of, CellsFit, InputsFit, ValuesFit}
use Rattle.rtl_form.proofs.Values.{value_is}
use Rattle.rtl_form.proofs.Reaching.{reached}

positive : (w : ℕ) (word : Bool) → 0 < size_of w word
positive w word = pow_pos (if word then w else 1)

-- an operator's value fits where its operands do
apply_fits : (w : ℕ) (op : Op) (k : ℕ) (xs : List ℕ) → ((i : ℕ) → slice_index xs i < size_of w (takes_words op))
    → apply w op k xs < size_of w (gives_word op)
apply_fits w Add k xs h = mod_below (slice_index xs 0 + slice_index xs 1) (2 ^ w) (pow_pos w)
apply_fits w Sub k xs h = mod_below (slice_index xs 0 + 2 ^ w - slice_index xs 1) (2 ^ w) (pow_pos w)
apply_fits w Inc k xs h = mod_below (slice_index xs 0 + 1) (2 ^ w) (pow_pos w)
apply_fits w Dec k xs h = mod_below (slice_index xs 0 + 2 ^ w - 1) (2 ^ w) (pow_pos w)
apply_fits w WordAnd k xs h = let a = h 0 in let l = and_le_l (slice_index xs 0) (slice_index xs 1) in
    omega (arith, a, l)
apply_fits w WordOr k xs h = or_lt w (slice_index xs 0) (slice_index xs 1) (h 0) (h 1)
apply_fits w WordXor k xs h = xor_lt w (slice_index xs 0) (slice_index xs 1) (h 0) (h 1)
apply_fits w WordNot k xs h = let p = pow_pos w in omega (arith, p)
apply_fits w Left k xs h = mod_below (2 * slice_index xs 0) (2 ^ w) (pow_pos w)
apply_fits w Right k xs h = let a = h 0 in let l = div-le_self (slice_index xs 0) 2 in omega (arith, a, l)
apply_fits w And k xs h = truth_small (Rattle.std.specs.List.list_all (λ x. x == 1) xs)
apply_fits w Or k xs h = truth_small (Rattle.std.specs.List.list_any (λ x. x == 1) xs)
apply_fits w Nor k xs h = truth_small (Rattle.std.specs.List.list_all (λ x. x == 0) xs)
apply_fits w Nand k xs h = truth_small (Rattle.std.specs.List.list_any (λ x. x == 0) xs)
apply_fits w Xor k xs h = truth_apart (slice_index xs 0) (slice_index xs 1)
apply_fits w Not k xs h = omega arith
apply_fits w Bit k xs h = bit_at-lt (slice_index xs 0) k
apply_fits w Zero k xs h = truth_small (slice_index xs 0 == 0)
apply_fits w Equal k xs h = truth_small (slice_index xs 0 == slice_index xs 1)
apply_fits w Less k xs h = truth_small (ltb (slice_index xs 0) (slice_index xs 1))

-- what is written fits where the values do
module _ (n : ℕ) where
  abbrev Small : Option ℕ → Type 0
  Small None = Unit {0}
  Small (Some x) = x < 2 ^ n

  joined : (x : ℕ) (o : Option ℕ) → x < 2 ^ n → Small o → Small (join (Some x) o)
  joined x None l s = l
  joined x (Some y) l s = or_lt n x y l s

  small : (v : ℕ → ℕ) (c : ℕ) (ts : List Transfer)
      → ((t : Transfer) → Contains ts t → t.target ≡ c → v t.value < 2 ^ n) → Small (merged (written v c ts))
  small v c [] h = tt
  small v c (t ∷ ts) h =
      by_test (t.target == c) refl (v t.guard == 1)
      (small v c ts (λ u d. h u (suc d.0, (let l = d.1 in omega (arith, l)), d.2)))
    where
      by_test : (b : Bool) → (t.target == c) ≡ b → (g : Bool) → Small (merged (written v c ts))
          → Small (merged (cond (Rattle.std.specs.Prelude.◌&&◌ b g) (v t.value ∷ written v c ts) (written v c ts)))
      by_test true e true s =
          joined (v t.value) (merged (written v c ts)) (h t (0, omega arith, refl) (eqb-true t.target c e)) s
      by_test true e false s = s
      by_test false e g s = s

  unwrapped : (o : Option ℕ) (d : ℕ) → Small o → d < 2 ^ n → unwrap_or o d < 2 ^ n
  unwrapped None d s l = l
  unwrapped (Some x) d s l = s

module _ (r : Rtl) (sound : IsSound r) (state inputs env : List ℕ) (state_fits : CellsFit r state)
    (inputs_fit : InputsFit r inputs) (is_env : IsEnvironment r state inputs env) where
  abbrev value : ℕ → ℕ
  value = value_of r env

  abbrev E : ℕ → Type 0
  E e = (x : RtlExpr) (word : Bool) → IsAt r.exprs e x → IsSort r.cells x word → value e < size_of r.width word

  abbrev C : ℕ → Type 0
  C c = (x : cells.Cell) → IsAt r.cells c x → slice_index env c < size_of r.width x.word

  kind_is : (c : ℕ) (x : cells.Cell) (kind : CellKind) → IsAt r.cells c x → x.kind ≡ kind
      → slice_index env c ≡ kind_value kind inputs (slice_index state c) (driven_value r env c)
  kind_is c x kind at is = is_env.values c x at
      ∙ ap (λ q. kind_value q inputs (slice_index state c) (driven_value r env c)) is

  input_fits : (k : ℕ) (word : Bool) → IsCellOf (r.pads).inputs k word → slice_index inputs k < size_of r.width word
  input_fits k word f =
      by_width (f.0.width == 0) refl (inputs_fit k f.0 f.1) f.2
    where
      by_width : (b : Bool) → (f.0.width == 0) ≡ b
          → slice_index inputs k < 2 ^ (if f.0.width == 0 then 1 else f.0.width) → word ≡ not (f.0.width == 0)
          → slice_index inputs k < size_of r.width word
      by_width true e l t =
          subst (λ w. slice_index inputs k < size_of r.width w) (sym (t ∙ ap not e))
          (subst (λ b. slice_index inputs k < 2 ^ cond b 1 f.0.width) e l)
      by_width false e l t =
          let width : f.0.width ≡ r.width =
          elim (sound.inputs k f.0 f.1) [
            | inl q ↦ q
            | inr z ↦ absurd (true≢false (sym (eq-eqb f.0.width 0 z) ∙ e))
          ] in
          subst (λ w. slice_index inputs k < size_of r.width w) (sym (t ∙ ap not e))
          (subst (λ m. slice_index inputs k < 2 ^ m) width
          (subst (λ b. slice_index inputs k < 2 ^ cond b 1 f.0.width) e l))

  base : (c : ℕ) (x : cells.Cell) → IsAt r.cells c x → is_driven x.kind ≡ false → C c
  base c x at e y at' =
      subst (λ z. slice_index env c < size_of r.width z.word) (one_entry r.cells c x y at at') (by_kind x.kind refl e)
    where
      by_kind : (kind : CellKind) → x.kind ≡ kind → is_driven kind ≡ false → slice_index env c < size_of r.width x.word
      by_kind (kinds.Input k) is e =
          subst (λ n. n < size_of r.width x.word) (sym (kind_is c x (kinds.Input k) at is))
          (input_fits k x.word (subst (CellFits r x) is (sound.cells c x at)))
      by_kind (kinds.Output k) is e = absurd (true≢false e)
      by_kind kinds.Inner is e = absurd (true≢false e)
      by_kind kinds.Stored is e =
          subst (λ n. n < size_of r.width x.word) (sym (kind_is c x kinds.Stored at is)) (state_fits c x at)

  along : (e : ℕ) (x : RtlExpr) → IsAt r.exprs e x → known.Ready E C x → E e
  along e x at ready y word at' sort =
      subst (λ n. n < size_of r.width word) (sym (value_is r sound env e x at))
      (by_expr x at ready (sound.exprs e x at)
      (subst (λ z. IsSort r.cells z word) (one_entry r.exprs e y x at' at) sort))
    where
      by_expr : (x : RtlExpr) → IsAt r.exprs e x → known.Ready E C x → Rattle.rtl_form.specs.Sound.ExprFits r e x
          → IsSort r.cells x word → expr_value r.width env x value < size_of r.width word
      by_expr (exprs.Number n) at ready fits sort = subst (λ w. n < size_of r.width w) (sym sort) fits
      by_expr (exprs.Truth b) at ready fits sort = subst (λ w. truth b < size_of r.width w) (sym sort) (truth_small b)
      by_expr (exprs.Cell c) at ready fits sort =
          subst (λ w. slice_index env c < size_of r.width w) (sym sort.2) (ready sort.0 sort.1)
      by_expr (exprs.Apply op index args) at ready fits sort =
          subst (λ w. apply r.width op index (map value args) < size_of r.width w) (sym sort)
          (apply_fits r.width op index (map value args) (operand args (λ k l.
          let (_, (argument, stands, sorted)) = fits.2 (get_or args k 0)
          (Rattle.std.proofs.lemmas.List.Elements.Contains-get_or args k 0 l) in
          ready k 0 l argument (takes_words op) stands sorted)))
        where
          operand : (args : List ℕ)
              → ((k : ℕ) → k < length args → value (get_or args k 0) < size_of r.width (takes_words op)) → (i : ℕ)
              → slice_index (map value args) i < size_of r.width (takes_words op)
          operand [] h i = positive r.width (takes_words op)
          operand (a ∷ rest) h zero = h 0 (omega arith)
          operand (a ∷ rest) h (suc i) = operand rest (λ k l. h (suc k) (omega arith)) i

  writes_fit : (c : ℕ) (x : cells.Cell) → IsAt r.cells c x
      → ((t : Transfer) → Contains r.transfers t → t.target ≡ c → E t.value)
      → (d : ℕ) → d < size_of r.width x.word
      → unwrap_or (merged (written value c r.transfers)) d < size_of r.width x.word
  writes_fit c x at fetched d l =
      unwrapped (if x.word then r.width else 1) (merged (written value c r.transfers)) d
      (small (if x.word then r.width else 1) value c r.transfers (λ t has to.
      let (_, (target, among, (source, stands, sorted), _)) = sound.transfers t has in
      let same : target ≡ x = one_entry r.cells c target x (subst (λ k. IsAt r.cells k target) to among) at in
      fetched t has to source x.word stands (subst (λ z. IsSort r.cells source z.word) same sorted)))
      l

  driven : (c : ℕ) (x : cells.Cell) → IsAt r.cells c x → is_driven x.kind ≡ true
      → ((t : Transfer) → Contains r.transfers t → t.target ≡ c → E t.guard × E t.value) → C c
  driven c x at e fetched y at' =
      subst (λ z. slice_index env c < size_of r.width z.word) (one_entry r.cells c x y at at') (by_kind x.kind refl e)
    where
      fits : driven_value r env c < size_of r.width x.word
      fits = writes_fit c x at (λ t has to. (fetched t has to).1) 0 (positive r.width x.word)

      by_kind : (kind : CellKind) → x.kind ≡ kind → is_driven kind ≡ true → slice_index env c < size_of r.width x.word
      by_kind (kinds.Output k) is e =
          subst (λ n. n < size_of r.width x.word) (sym (kind_is c x (kinds.Output k) at is)) fits
      by_kind kinds.Inner is e = subst (λ n. n < size_of r.width x.word) (sym (kind_is c x kinds.Inner at is)) fits
      by_kind (kinds.Input k) is e = absurd (false≢true e)
      by_kind kinds.Stored is e = absurd (false≢true e)

  all : known.Reached r E C
  all = reached r sound E C (record { base = base; exprs = along; driven = driven })

  next_at : (xs : List cells.Cell) (n i : ℕ) (x : cells.Cell) → IsAt xs i x
      → slice_index (next_cells r state env n xs) i ≡ (if is_stored x.kind then next_stored r state env (n + i) else 0)
  next_at [] n i x at = absurd (none-some x at)
  next_at (y ∷ ys) n zero x at =
      let num : n ≡ n + 0 = omega arith in
      ap (λ (c : cells.Cell). if is_stored c.kind then next_stored r state env n else 0) (same_Some y x at)
      ∙ ap (λ m. if is_stored x.kind then next_stored r state env m else 0) num
  next_at (y ∷ ys) n (suc i) x at =
      let num : suc n + i ≡ n + suc i = omega arith in
      next_at ys (suc n) i x at
      ∙ ap (λ m. if is_stored x.kind then next_stored r state env m else 0) num

  next_fits : CellsFit r (next_state r state inputs env)
  next_fits c x at = by_reset (resets r inputs)
    where
      stored : (b : Bool) → (if b then next_stored r state env (0 + c) else 0) < size_of r.width x.word
      stored false = positive r.width x.word
      stored true =
          let num : 0 + c ≡ c = omega arith in
          subst (λ m. next_stored r state env m < size_of r.width x.word) (sym num)
          (writes_fit c x at (λ t has to.
          let (_, (_, _, value_fits, _)) = sound.transfers t has in
          all.exprs t.value (within r.exprs t.value value_fits.1))
          (slice_index state c) (state_fits c x at))

      by_reset : (b : Bool)
          → slice_index (cond b (zero_state r) (next_cells r state env 0 r.cells)) c < size_of r.width x.word
      by_reset true = subst (λ n. n < size_of r.width x.word) (sym (zeros_at (length r.cells) c))
          (positive r.width x.word)
      by_reset false = subst (λ n. n < size_of r.width x.word) (sym (next_at r.cells 0 c x at))
          (stored (is_stored x.kind))

pub values_fit : ValuesFit
values_fit r sound state inputs env state_fits inputs_fit is_env = record {
  cells = λ c x at. (all r sound state inputs env state_fits inputs_fit is_env).cells c (within r.cells c at) x at;
  exprs = λ e word h.
      (all r sound state inputs env state_fits inputs_fit is_env).exprs e (within r.exprs e h.1) h.0 word h.1 h.2;
  next = next_fits r sound state inputs env state_fits inputs_fit is_env;
}
