-- What nets mean that were added for an expression or a driven cell.
use Rattle.std.proofs.Common.{◌≡◌, ℕ, zero, suc, ◌+◌, ◌-◌, ◌<◌, List, [], ◌∷◌, Option, Some, Bool, true, false, length}
use Rattle.std.proofs.Common.{map, refl, sym, ◌∙◌, ap, subst, arith, cond, get_or}
use Rattle.std.specs.Prelude.{All, not, ◌&&◌, ◌||◌, ◌==◌, nat_lt, slice_index, if◌then◌else◌}
use Rattle.std.specs.List.{AllZip, list_all, list_any}
use Rattle.std.proofs.lemmas.Bool.{eqb-true}
use Rattle.std.proofs.lemmas.List.Elements.{Contains-get_or}
use Rattle.std.proofs.lemmas.Option.{none-some, same_Some}
use Rattle.mp_base.specs.declared.op.Op.{Op}
use Rattle.mp_base.specs.declared.op.Op.TheVariants as ops
use Rattle.mp_base.specs.declared.value.Trit.{Trit}
use Rattle.mp_base.specs.Apply.{apply, truth, takes}
use Rattle.mp_base.proofs.Tests.{truth_small, truth_apart}
use Rattle.nor_net.specs.declared.net.NetId.{NetId}
use Rattle.nor_net.specs.declared.net.Part.{Part}
use Rattle.nor_net.specs.Elements.{Spot, spot}
use Rattle.nor_net.specs.Laws.{bit}
use Rattle.nor_net.specs.Settled.{nor_value}
use Rattle.nor_net.proofs.Values.{nor_bits}
use Rattle.rtl_form.specs.declared.rtl.Transfer.{Transfer}
use Rattle.rtl_form.specs.declared.rtl.RtlExpr.{RtlExpr}
use Rattle.rtl_form.specs.declared.rtl.RtlExpr.TheVariants as exprs
use Rattle.rtl_form.specs.declared.rtl.Rtl.{Rtl}
use Rattle.mp_base.specs.Entries.{IsAt}
use Rattle.rtl_form.specs.Operands.{takes_words, gives_word}
use Rattle.rtl_form.specs.Sound.{ExprFits, HasSort, IsSort, IsSound}
use Rattle.rtl_form.specs.Values.{value_of, expr_value}
use Rattle.rtl_form.proofs.Values.{value_is}
use Rattle.bit_gates.specs.declared.rails.Rails.{Rails}
use Rattle.control_nor.specs.declared.names.Bits.{Bits}
use Rattle.bit_gates.specs.Adding.{IsPair}
use Rattle.bit_gates.specs.Cells.{IsDrivenMade, IsTerm}
use Rattle.bit_gates.specs.Exprs.{IsExclusiveOf, IsExprMade, IsNorOfBits, IsNorOfNegations, IsOpMade}
use Rattle.control_nor.specs.Lowering.{BitsFit, ObeysBehind}
use Rattle.control_nor.specs.Meaning.{IsExprKnown, is_active}
use Rattle.bit_gates.specs.Rails.{Agree, HasRails, Known, Named, swapped}
use Rattle.bit_gates.proofs.Adding.{gates_keep, gates_longer}
use Rattle.control_nor.proofs.Bits.{AreBits, exclusive_or, negation_of, nor_of_bits, nor_of_negations, some_one}
use Rattle.control_nor.proofs.Bits.{some_zero, truth_one}
use Rattle.control_nor.proofs.Made.{pair_gates}
use Rattle.control_nor.proofs.Obeying.{agree_bit, bits_known, exclusive_bit, exclusive_negation, entry_negation}
use Rattle.control_nor.proofs.Obeying.{gate_obeyed, negations_known, obeys_less, pair_bit, pair_negation, swap_agree}
use Rattle.control_nor.proofs.Obeying.{swap_rails}

-- ---- bits are 0 or 1

small_bit : (w : ℕ) (op : Op) (k : ℕ) (xs : List ℕ) → gives_word op ≡ false → apply w op k xs < 2
small_bit w ops.And k xs g = truth_small (list_all (λ x. x == 1) xs)
small_bit w ops.Or k xs g = truth_small (list_any (λ x. x == 1) xs)
small_bit w ops.Nor k xs g = truth_small (list_all (λ x. x == 0) xs)
small_bit w ops.Nand k xs g = truth_small (list_any (λ x. x == 0) xs)
small_bit w ops.Xor k xs g = truth_apart (slice_index xs 0) (slice_index xs 1)
small_bit w ops.Not k xs g = omega arith
small_bit w ops.Bit k xs g = Rattle.std.proofs.lemmas.Nat.Bits.bit_at-lt (slice_index xs 0) k
small_bit w ops.Zero k xs g = truth_small (slice_index xs 0 == 0)
small_bit w ops.Equal k xs g = truth_small (slice_index xs 0 == slice_index xs 1)
small_bit w ops.Less k xs g = truth_small (nat_lt (slice_index xs 0) (slice_index xs 1))
small_bit w ops.Add k xs g = absurd (cc g)
small_bit w ops.Sub k xs g = absurd (cc g)
small_bit w ops.Inc k xs g = absurd (cc g)
small_bit w ops.Dec k xs g = absurd (cc g)
small_bit w ops.WordAnd k xs g = absurd (cc g)
small_bit w ops.WordOr k xs g = absurd (cc g)
small_bit w ops.WordXor k xs g = absurd (cc g)
small_bit w ops.WordNot k xs g = absurd (cc g)
small_bit w ops.Left k xs g = absurd (cc g)
small_bit w ops.Right k xs g = absurd (cc g)

-- an expression that is a bit is 0 or 1 where cells are
pub value_small : (r : Rtl) → IsSound r → (env : List ℕ) → BitsFit r env → (e : ℕ) → HasSort r e false
    → value_of r env e < 2
value_small r sound env fit e sort =
    let is = value_is r sound env e sort.0 sort.1 in
    let s = by_expr sort.0 sort.2 in omega (arith, is, s)
  where
    by_expr : (x : RtlExpr) → IsSort r.cells x false → expr_value r.width env x (value_of r env) < 2
    by_expr (exprs.Number n) h = absurd (cc h)
    by_expr (exprs.Truth b) h = truth_small b
    by_expr (exprs.Cell c) h = fit c h.0 h.1 (sym h.2)
    by_expr (exprs.Apply op index args) h = small_bit r.width op index (map (value_of r env) args) (sym h)

-- ---- operators

map_at : (value : ℕ → ℕ) (args : List ℕ) (k : ℕ) → k < length args
    → slice_index (map value args) k ≡ value (slice_index args k)
map_at value [] k l = absurd (omega arith)
map_at value (a ∷ args) zero l = refl
map_at value (a ∷ args) (suc k) l = map_at value args k (omega arith)

module _ (entries : List (Option Rails)) (args : List ℕ) (old new : List Part) (rails : Rails) (v : Spot → Trit)
    (obeys : ObeysBehind new (length old) v) where
  module _ (value : ℕ → ℕ) (bits : AreBits value args) (known : All (λ a. Known v entries a (value a)) args) where
    conjunction : (other : Rails) → IsNorOfNegations entries args old new other
        → HasRails v other (list_all (λ x. x == 1) (map value args))
    conjunction other h = (agree_bit v other (pair_negation h.inputs old new other h.pair v obeys)).from_bit
        (list_all (λ x. x == 1) (map value args))
        (pair_bit h.inputs old new other h.pair v obeys
        ∙ (ap nor_value (negations_known v entries value args h.inputs h.are_inputs known)
        ∙ nor_of_negations value args))

    neither : (other : Rails) → IsNorOfBits entries args old new other
        → HasRails v other (list_all (λ x. x == 0) (map value args))
    neither other h = (agree_bit v other (pair_negation h.inputs old new other h.pair v obeys)).from_bit
        (list_all (λ x. x == 0) (map value args))
        (pair_bit h.inputs old new other h.pair v obeys
        ∙ (ap nor_value (bits_known v entries value args h.inputs h.are_inputs known) ∙ nor_of_bits value args bits))

    to_truth : (b : Bool) → HasRails v rails b → HasRails v rails (truth b == 1)
    to_truth b h = subst (HasRails v rails) (sym (truth_one b)) h

    exclusive : IsExclusiveOf entries args old new rails → (length args == 2) ≡ true
        → HasRails v rails ((truth (nat_lt (slice_index (map value args) 0) (slice_index (map value args) 1))
        + truth (nat_lt (slice_index (map value args) 1) (slice_index (map value args) 0))) == 1)
    exclusive h two =
        let n = eqb-true (length args) 2 two in
        let x = slice_index args 0 in
        let y = slice_index args 1 in
        let is = (agree_bit v rails (exclusive_negation h.left h.right old new rails h.exclusive v obeys)).from_bit
        ((truth (nat_lt (value x) (value y)) + truth (nat_lt (value y) (value x))) == 1)
        (exclusive_bit h.left h.right old new rails h.exclusive v obeys (value x) (value y)
        (bits 0 0 (omega (arith, n)))
        (bits 1 0 (omega (arith, n))) (known 0 0 (omega (arith, n)) h.left h.is_left)
        (known 1 0 (omega (arith, n)) h.right h.is_right)
        ∙ exclusive_or (value x) (value y) (bits 0 0 (omega (arith, n))) (bits 1 0 (omega (arith, n)))) in
        subst (λ m. HasRails v rails ((truth (nat_lt m (slice_index (map value args) 1)) + truth
        (nat_lt (slice_index (map value args) 1) m)) == 1))
        (sym (map_at value args 0 (omega (arith, n))))
        (subst (λ m. HasRails v rails ((truth (nat_lt (value x) m) + truth (nat_lt m (value x))) == 1))
        (sym (map_at value args 1 (omega (arith, n)))) is)

    inverse : Named entries (slice_index args 0) (swapped rails) → (length args == 1) ≡ true
        → HasRails v rails ((1 - slice_index (map value args) 0) == 1)
    inverse is one =
        let n = eqb-true (length args) 1 one in
        let x = slice_index args 0 in
        let h = swap_rails v rails (value x == 1) (known 0 0 (omega (arith, n)) (swapped rails) is) in
        subst (λ m. HasRails v rails ((1 - m) == 1)) (sym (map_at value args 0 (omega (arith, n))))
        (subst (HasRails v rails) (negation_of (value x) (bits 0 0 (omega (arith, n)))) h)

    pub op_meant : (w index : ℕ) (op : Op) → takes op (length args) ≡ true → takes_words op ≡ false
        → IsOpMade entries op args old new rails → HasRails v rails (apply w op index (map value args) == 1)
    op_meant w index ops.And n t h = to_truth (list_all (λ x. x == 1) (map value args)) (conjunction rails h)
    op_meant w index ops.Nand n t h = to_truth (list_any (λ x. x == 0) (map value args))
        (subst (HasRails v rails) (some_zero value args bits)
        (swap_rails v rails (list_all (λ x. x == 1) (map value args)) (conjunction (swapped rails) h)))
    op_meant w index ops.Nor n t h = to_truth (list_all (λ x. x == 0) (map value args)) (neither rails h)
    op_meant w index ops.Or n t h = to_truth (list_any (λ x. x == 1) (map value args))
        (subst (HasRails v rails) (some_one value args bits)
        (swap_rails v rails (list_all (λ x. x == 0) (map value args)) (neither (swapped rails) h)))
    op_meant w index ops.Xor n t h = exclusive h n
    op_meant w index ops.Not n t h = inverse h.0 n
    op_meant w index ops.Bit n t h = absurd (cc t)
    op_meant w index ops.Zero n t h = absurd (cc t)
    op_meant w index ops.Equal n t h = absurd (cc t)
    op_meant w index ops.Less n t h = absurd (cc t)
    op_meant w index ops.Add n t h = absurd (cc t)
    op_meant w index ops.Sub n t h = absurd (cc t)
    op_meant w index ops.Inc n t h = absurd (cc t)
    op_meant w index ops.Dec n t h = absurd (cc t)
    op_meant w index ops.WordAnd n t h = absurd (cc t)
    op_meant w index ops.WordOr n t h = absurd (cc t)
    op_meant w index ops.WordXor n t h = absurd (cc t)
    op_meant w index ops.WordNot n t h = absurd (cc t)
    op_meant w index ops.Left n t h = absurd (cc t)
    op_meant w index ops.Right n t h = absurd (cc t)

  pub op_agree : (op : Op) → gives_word op ≡ false
      → ((k : ℕ) (other : Rails) → Named entries k other → Agree v other) → IsOpMade entries op args old new rails
      → Agree v rails
  op_agree ops.And g all h = agree_bit v rails (pair_negation h.inputs old new rails h.pair v obeys)
  op_agree ops.Nand g all h =
      swap_agree v rails (agree_bit v (swapped rails) (pair_negation h.inputs old new (swapped rails) h.pair v obeys))
  op_agree ops.Nor g all h = agree_bit v rails (pair_negation h.inputs old new rails h.pair v obeys)
  op_agree ops.Or g all h =
      swap_agree v rails (agree_bit v (swapped rails) (pair_negation h.inputs old new (swapped rails) h.pair v obeys))
  op_agree ops.Xor g all h = agree_bit v rails (exclusive_negation h.left h.right old new rails h.exclusive v obeys)
  op_agree ops.Not g all h = swap_agree v rails (all (slice_index args 0) (swapped rails) h.0)
  op_agree ops.Bit g all h = agree_bit v rails (entry_negation old new rails h v obeys)
  op_agree ops.Zero g all h = agree_bit v rails (entry_negation old new rails h v obeys)
  op_agree ops.Equal g all h = agree_bit v rails (entry_negation old new rails h v obeys)
  op_agree ops.Less g all h = agree_bit v rails (entry_negation old new rails h v obeys)
  op_agree ops.Add g all h = absurd (cc g)
  op_agree ops.Sub g all h = absurd (cc g)
  op_agree ops.Inc g all h = absurd (cc g)
  op_agree ops.Dec g all h = absurd (cc g)
  op_agree ops.WordAnd g all h = absurd (cc g)
  op_agree ops.WordOr g all h = absurd (cc g)
  op_agree ops.WordXor g all h = absurd (cc g)
  op_agree ops.WordNot g all h = absurd (cc g)
  op_agree ops.Left g all h = absurd (cc g)
  op_agree ops.Right g all h = absurd (cc g)

-- ---- expressions

module _ (r : Rtl) (sound : IsSound r) (bits : Bits) (old new : List Part) (rails : Rails) (v : Spot → Trit)
    (obeys : ObeysBehind new (length old) v) where
  truth_rails : (b : Bool) (other : Rails) → other ≡ (if b then rails else swapped rails) → IsPair [] old new other
      → HasRails v other true → HasRails v rails (truth b == 1)
  truth_rails true other is h k = subst (λ q. HasRails v q true) is k
  truth_rails false other is h k = swap_rails v rails true (subst (λ q. HasRails v q true) is k)

  truth_agree : (b : Bool) (other : Rails) → other ≡ (if b then rails else swapped rails) → Agree v other
      → Agree v rails
  truth_agree true other is a = subst (Agree v) is a
  truth_agree false other is a = swap_agree v rails (subst (Agree v) is a)

  pub expr_agree : (x : RtlExpr) → IsExprMade bits.cells bits.exprs x old new (Some rails)
      → ((k : ℕ) (other : Rails) → Named bits.cells k other → Agree v other)
      → ((k : ℕ) (other : Rails) → Named bits.exprs k other → Agree v other) → Agree v rails
  expr_agree (exprs.Number n) h cells_agree exprs_agree = absurd (none-some rails (sym h.0))
  expr_agree (exprs.Truth b) h cells_agree exprs_agree =
      let same : rails ≡ h.0 = same_Some rails h.0 h.1 in
      truth_agree b (if b then h.0 else swapped h.0) (ap (λ (x : Rails). if b then x else swapped x) (sym same))
      (agree_bit v (if b then h.0 else swapped h.0) (pair_negation [] old new
      (if b then h.0 else swapped h.0) h.2 v obeys))
  expr_agree (exprs.Cell c) h cells_agree exprs_agree = cells_agree c rails h.0
  expr_agree (exprs.Apply op index args) h cells_agree exprs_agree =
      op_agree bits.exprs args old new rails v obeys op h.0 exprs_agree h.1

  pub expr_meant : (e : ℕ) (x : RtlExpr) (env : List ℕ) → IsAt r.exprs e x → BitsFit r env
      → IsExprMade bits.cells bits.exprs x old new (Some rails) → IsExprKnown r v env bits x
      → HasRails v rails (value_of r env e == 1)
  expr_meant e x env at fit h known =
      subst (λ n. HasRails v rails (n == 1)) (sym (value_is r sound env e x at))
      (by_expr x (sound.exprs e x at) h known)
    where
      by_expr : (x : RtlExpr) → ExprFits r e x → IsExprMade bits.cells bits.exprs x old new (Some rails)
          → IsExprKnown r v env bits x → HasRails v rails (expr_value r.width env x (value_of r env) == 1)
      by_expr (exprs.Number n) fits h known = absurd known
      by_expr (exprs.Truth b) fits h known =
          let same : rails ≡ h.0 = same_Some rails h.0 h.1 in
          let other : Rails = (if b then h.0 else swapped h.0) in
          truth_rails b (if b then h.0 else swapped h.0) (ap (λ (x : Rails). if b then x else swapped x) (sym same))
          h.2
          ((agree_bit v (if b then h.0 else swapped h.0) (pair_negation [] old new
          (if b then h.0 else swapped h.0) h.2 v obeys)).from_bit true
          (pair_bit [] old new (if b then h.0 else swapped h.0) h.2 v obeys))
      by_expr (exprs.Cell c) fits h known = known rails h.0
      by_expr (exprs.Apply op index args) fits h known =
          op_meant bits.exprs args old new rails v obeys (value_of r env)
          (λ k d l. value_small r sound env fit (get_or args k d)
          (subst (HasSort r (get_or args k d)) known.0 (fits.2 (get_or args k d) (Contains-get_or args k d l)).1))
          known.1 r.width index op fits.0 known.0 h.1

-- ---- driven cells

module _ (r : Rtl) (entries : List (Option Rails)) (ts : List Transfer) (v : Spot → Trit) (value : ℕ → ℕ) where
  abbrev AreKnown : List Transfer → Type 0
  AreKnown ts = All (λ (t : Transfer). Known v entries t.guard (value t.guard)
      × Known v entries t.value (value t.value)) ts

  term_bit : (a b : Bool) → nor_value (bit (not b) ∷ bit (not a) ∷ []) ≡ bit (a && b)
  term_bit true true = refl
  term_bit true false = refl
  term_bit false true = refl
  term_bit false false = refl

  module _ (first : ℕ) (parts : List Part) (obeys : ObeysBehind parts first v) where
    term_known : (t : Transfer) (id : NetId) → IsTerm entries first parts t id
        → Known v entries t.guard (value t.guard) × Known v entries t.value (value t.value)
        → v (spot 0 id) ≡ bit (is_active value t)
    term_known t id h known =
        let g = known.0 h.guard h.is_guard in
        let x = known.1 h.value h.is_value in
        gate_obeyed parts first v id (h.value.negation ∷ h.guard.negation ∷ []) obeys h.behind h.is_gate
        ∙ (ap (λ t. nor_value (t ∷ v (spot 0 h.guard.negation) ∷ [])) x.has_negation
        ∙ (ap (λ u. nor_value (bit (not (value t.value == 1)) ∷ u ∷ [])) g.has_negation
        ∙ term_bit (value t.guard == 1) (value t.value == 1)))

    pub terms_known : (ts : List Transfer) (ids : List NetId) → AllZip (IsTerm entries first parts) ts ids
        → AreKnown ts
        → map v (map (spot 0) ids) ≡ map (λ t. bit (is_active value t)) ts
    terms_known [] [] z known = refl
    terms_known [] (y ∷ ids) z known = absurd z
    terms_known (t ∷ ts) [] z known = absurd z
    terms_known (t ∷ ts) (id ∷ ids) z known =
        ap (λ u. u ∷ map v (map (spot 0) ids)) (term_known t id z.0 (known 0 t (omega arith)))
        ∙ ap (λ us. bit (is_active value t) ∷ us) (terms_known ts ids z.1 (λ i d l. known (suc i) d (omega arith)))

-- that none is so means that not one is
pub none_any : {X : Type 0} (p : X → Bool) (xs : List X) → not (list_all (λ x. cond (p x) false true) xs)
    ≡ list_any p xs
none_any p [] = refl
none_any p (x ∷ xs) = by_head (p x) (none_any p xs)
  where
    by_head : (b : Bool) → not (list_all (λ x. cond (p x) false true) xs) ≡ list_any p xs
        → not (cond b false true && list_all (λ x. cond (p x) false true) xs) ≡ (b || list_any p xs)
    by_head true e = refl
    by_head false e = e

module _ (entries : List (Option Rails)) (ts : List Transfer) (old new : List Part) (rails : Rails)
    (h : IsDrivenMade entries ts old new rails) (v : Spot → Trit) (obeys : ObeysBehind new (length old) v) where
  off_agrees : Agree v (swapped rails)
  off_agrees = agree_bit v (swapped rails) (pair_negation h.terms h.middle new (swapped rails) h.pair v
      (obeys_less new new (length old) (length h.middle) v (λ n p e. e)
      (gates_longer old h.middle h.are_terms.adds) obeys))

  pub driven_agree : Agree v rails
  driven_agree = swap_agree v rails off_agrees

  pub driven_meant : (r : Rtl) (value : ℕ → ℕ) → AreKnown r entries ts v value ts
      → HasRails v rails (list_any (is_active value) ts)
  driven_meant r value known =
      subst (HasRails v rails) (none_any (is_active value) ts)
      (swap_rails v rails (list_all (λ t. cond (is_active value t) false true) ts)
      (off_agrees.from_bit (list_all (λ t. cond (is_active value t) false true) ts)
      (pair_bit h.terms h.middle new (swapped rails) h.pair v later
      ∙ (ap nor_value (terms_known r entries ts v value (length old) h.middle earlier ts h.terms h.are_terms.each
      known)
      ∙ nor_bits (is_active value) ts))))
    where
      later : ObeysBehind new (length h.middle) v
      later = obeys_less new new (length old) (length h.middle) v (λ n p e. e)
          (gates_longer old h.middle h.are_terms.adds) obeys

      earlier : ObeysBehind h.middle (length old) v
      earlier = obeys_less h.middle new (length old) (length old) v
          (λ n p e. gates_keep h.middle new n p (pair_gates h.terms h.middle new (swapped rails) h.pair) e)
          (omega arith) obeys
