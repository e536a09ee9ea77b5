-- Values pass along the expressions of a path that stands for transfers.
use Rattle.std.proofs.Common.{◌≡◌, ℕ, ◌<◌, ◌-◌, ◌^◌, suc, List, [], ◌∷◌, true, false, length, map, get_or, refl, sym}
use Rattle.std.proofs.Common.{◌∙◌, ap, subst, arith}
use Rattle.std.specs.Prelude.{All, ◌==◌, slice_index}
use Rattle.std.specs.Int.{bit_at}
use Rattle.std.proofs.lemmas.Bool.{eqb-true, false≢true, true≢false}
use Rattle.mp_base.specs.declared.value.Trit.{Trit}
use Rattle.mp_base.specs.declared.op.Op.{Op}
use Rattle.mp_base.specs.declared.op.Op.TheVariants as ops
use Rattle.mp_base.specs.Apply.{apply, takes}
use Rattle.nor_net.specs.declared.net.NetId.{NetId}
use Rattle.nor_net.specs.Elements.{Spot, spot}
use Rattle.nor_net.specs.Machine.{Solves}
use Rattle.nor_net.specs.Laws.{bit}
use Rattle.rtl_form.specs.declared.rtl.RtlExpr.TheVariants.{Number, Apply}
use Rattle.rtl_form.specs.declared.rtl.Rtl.{Rtl}
use Rattle.mp_base.specs.Entries.{IsAt}
use Rattle.rtl_form.specs.Operands.{takes_words, gives_word}
use Rattle.rtl_form.specs.Sound.{IsSound, HasSort}
use Rattle.rtl_form.specs.Values.{value_of}
use Rattle.organelles.specs.declared.slices.Organelle.{Organelle}
use Rattle.organelles.specs.declared.slices.Organelle.TheVariants.{Add, Sub, Inc, Dec, And, Or, Xor, Not, Left, Right}
use Rattle.organelles.specs.declared.slices.Organelle.TheVariants.{Zero, Equal, Less}
use Rattle.organelles.specs.Tables.{table_of, op_of}
use Rattle.organelles.specs.Computing.{HasWord, HasResult}
use Rattle.organelles.proofs.Operators.{operators_compute}
use Rattle.control_nor.specs.Lowering.{Stands}
use Rattle.path_form.specs.declared.path.DataPath.{DataPath}
use Rattle.path_form.specs.Showing.{path_nets}
use Rattle.path_values.specs.Allocated.{Placed, IsAllocated, Known, AreValues}
use Rattle.path_form.proofs.Growing.{slices_obey}
use Rattle.path_form.proofs.Joining.{lifts_join, programs_give}

-- ---- operators on one or two operands

one_of : (args : List ℕ) → (length args == 1) ≡ true → (a : ℕ) × (args ≡ a ∷ [])
one_of [] e = absurd (false≢true e)
one_of (a ∷ []) e = (a, refl)
one_of (a ∷ b ∷ rest) e = absurd (let h = eqb-true (length (a ∷ b ∷ rest)) 1 e in omega (arith, h))

two_of : (args : List ℕ) → (length args == 2) ≡ true → (a : ℕ) × (b : ℕ) × (args ≡ a ∷ b ∷ [])
two_of [] e = absurd (false≢true e)
two_of (a ∷ []) e = absurd (false≢true e)
two_of (a ∷ b ∷ []) e = (a, b, refl)
two_of (a ∷ b ∷ c ∷ rest) e = absurd (let h = eqb-true (length (a ∷ b ∷ c ∷ rest)) 2 e in omega (arith, h))

module _ (w k : ℕ) (f : ℕ → ℕ) where
  -- an operator reads its first and its last operand
  abbrev Pair : Op → List ℕ → Type 0
  Pair op args = (0 < length args) × (apply w op k (map f args)
      ≡ apply w op 0 (f (get_or args 0 0) ∷ f (get_or args (length args - 1) 0) ∷ []))

  by_one : (op : Op) → ((a : ℕ) → Pair op (a ∷ [])) → (args : List ℕ) → (length args == 1) ≡ true → Pair op args
  by_one op h args e = let o = one_of args e in subst (Pair op) (sym o.1) (h o.0)

  by_two : (op : Op) → ((a b : ℕ) → Pair op (a ∷ b ∷ [])) → (args : List ℕ) → (length args == 2) ≡ true → Pair op args
  by_two op h args e = let o = two_of args e in subst (Pair op) (sym o.2) (h o.0 o.1)

  pub pair : (kind : Organelle) (args : List ℕ) → takes (op_of kind) (length args) ≡ true → Pair (op_of kind) args
  pair Add args e = by_two ops.Add (λ a b. (omega arith, refl)) args e
  pair Sub args e = by_two ops.Sub (λ a b. (omega arith, refl)) args e
  pair Inc args e = by_one ops.Inc (λ a. (omega arith, refl)) args e
  pair Dec args e = by_one ops.Dec (λ a. (omega arith, refl)) args e
  pair And args e = by_two ops.WordAnd (λ a b. (omega arith, refl)) args e
  pair Or args e = by_two ops.WordOr (λ a b. (omega arith, refl)) args e
  pair Xor args e = by_two ops.WordXor (λ a b. (omega arith, refl)) args e
  pair Not args e = by_one ops.WordNot (λ a. (omega arith, refl)) args e
  pair Left args e = by_one ops.Left (λ a. (omega arith, refl)) args e
  pair Right args e = by_one ops.Right (λ a. (omega arith, refl)) args e
  pair Zero args e = by_one ops.Zero (λ a. (omega arith, refl)) args e
  pair Equal args e = by_two ops.Equal (λ a b. (omega arith, refl)) args e
  pair Less args e = by_two ops.Less (λ a b. (omega arith, refl)) args e

words_taken : (kind : Organelle) → takes_words (op_of kind) ≡ true
words_taken Add = refl
words_taken Sub = refl
words_taken Inc = refl
words_taken Dec = refl
words_taken And = refl
words_taken Or = refl
words_taken Xor = refl
words_taken Not = refl
words_taken Left = refl
words_taken Right = refl
words_taken Zero = refl
words_taken Equal = refl
words_taken Less = refl

-- an operator that gives a word has it in every slice
word_result : (kind : Organelle) (v : Spot → Trit) (w : ℕ) (id : NetId) (y : ℕ) → gives_word (op_of kind) ≡ true
    → HasResult kind v w id y → HasWord v w id y
word_result Add v w id y e h = h
word_result Sub v w id y e h = h
word_result Inc v w id y e h = h
word_result Dec v w id y e h = h
word_result And v w id y e h = h
word_result Or v w id y e h = h
word_result Xor v w id y e h = h
word_result Not v w id y e h = h
word_result Left v w id y e h = h
word_result Right v w id y e h = h
word_result Zero v w id y e h = absurd (false≢true e)
word_result Equal v w id y e h = absurd (false≢true e)
word_result Less v w id y e h = absurd (false≢true e)

-- one that gives a bit has it in the top slice
test_result : (kind : Organelle) (v : Spot → Trit) (w : ℕ) (id : NetId) (y : ℕ) → gives_word (op_of kind) ≡ false
    → HasResult kind v w id y → v (spot w id) ≡ bit (y == 1)
test_result Add v w id y e h = absurd (true≢false e)
test_result Sub v w id y e h = absurd (true≢false e)
test_result Inc v w id y e h = absurd (true≢false e)
test_result Dec v w id y e h = absurd (true≢false e)
test_result And v w id y e h = absurd (true≢false e)
test_result Or v w id y e h = absurd (true≢false e)
test_result Xor v w id y e h = absurd (true≢false e)
test_result Not v w id y e h = absurd (true≢false e)
test_result Left v w id y e h = absurd (true≢false e)
test_result Right v w id y e h = absurd (true≢false e)
test_result Zero v w id y e h = h
test_result Equal v w id y e h = h
test_result Less v w id y e h = h

module _ (r : Rtl) (sound : IsSound r) (p : DataPath) (a : IsAllocated r p) (v : Spot → Trit)
    (solves : Solves (path_nets p) v) (env : List ℕ) (values : AreValues r env) where
  abbrev value : ℕ → ℕ
  value = value_of r env

  abbrev E : ℕ → Type 0
  E e = Known r p a v env e

  -- what an operator gives, where its arguments are known
  pub placed : (e : ℕ) (op : Op) (index : ℕ) (args : List ℕ) (id : NetId) → IsAt r.exprs e (Apply op index args)
      → (h : Placed p.slices a.words op args id) → All E args
      → HasResult h.kind v p.width id (value e)
  placed e op index args id is h known =
      let fits = sound.exprs e (Apply op index args) is in
      let taken = ap (λ o. takes o (length args)) h.is_kind ∙ fits.0 in
      let q = pair r.width index value h.kind args taken in
      let first = get_or args 0 0 in
      let last_in : length args - 1 < length args = let s = q.0 in omega (arith, s) in
      let words : takes_words op ≡ true = ap takes_words (sym h.is_kind) ∙ words_taken h.kind in
      let sort : (k : ℕ) → k < length args → HasSort r (get_or args k 0) true =
      λ k l. subst (HasSort r (get_or args k 0)) words (fits.2 (get_or args k 0)
      (Rattle.std.proofs.lemmas.List.Elements.Contains-get_or args k 0 l)).1 in
      let fit : (k : ℕ) → k < length args → value (get_or args k 0) < 2 ^ p.width = λ k l.
      subst (λ m. value (get_or args k 0) < 2 ^ m) (sym a.width) (values.fit (get_or args k 0) (sort k l)) in
      let obeys = slices_obey p (Rattle.organelles.specs.Computing.with_table (table_of h.kind) h.a h.b h.before)
      h.grown v solves in
      let got =
      operators_compute h.kind h.a h.b h.before h.a_in h.b_in h.chains_in p.width v (value (get_or args 0 0))
      (value (get_or args (length args - 1) 0)) p.whole.width.0 p.whole.width.1
      (λ k n l ge. obeys k n l (omega arith)) (fit 0 q.0) (fit (length args - 1) last_in)
      ((known 0 0 q.0).0 h.a h.is_a) ((known (length args - 1) 0 last_in).0 h.b h.is_b) in
      let same : apply p.width (op_of h.kind) 0 (value (get_or args 0 0) ∷ value
      (get_or args (length args - 1) 0) ∷ []) ≡ value e =
      ap (λ w. apply w (op_of h.kind) 0 (value (get_or args 0 0) ∷ value (get_or args (length args - 1) 0) ∷ []))
      a.width
      ∙ sym q.1 ∙ ap (λ o. apply r.width o index (map value args)) h.is_kind
      ∙ sym (values.each e (Apply op index args) is) in
      subst (HasResult h.kind v p.width id) same
      (subst (λ x. HasResult h.kind v p.width x (apply p.width (op_of h.kind) 0
      (value (get_or args 0 0) ∷ value (get_or args (length args - 1) 0) ∷ []))) (sym h.is_result) got)

  -- words
  pub word_operator : (e : ℕ) (op : Op) (index : ℕ) (args : List ℕ) (id : NetId)
      → IsAt r.exprs e (Apply op index args) → Stands a.words e id → gives_word op ≡ true → All E args
      → HasWord v p.width id (value e)
  word_operator e op index args id is stands gives known =
      let h = a.operators e op index args id is stands in
      word_result h.kind v p.width id (value e) (ap gives_word h.is_kind ∙ gives)
      (placed e op index args id is h known)

  pub word_number : (e n : ℕ) (id : NetId) → IsAt r.exprs e (Number n) → Stands a.words e id
      → HasWord v p.width id (value e)
  word_number e n id is stands k l =
      let g = a.numbers e n id is stands in
      sym (ap (λ (x : NetId). v (spot (suc k) x)) g.2) ∙ programs_give p v g.0 k solves g.1 l
      ∙ ap (λ m. bit (bit_at m k == 1)) (g.3 ∙ sym (values.each e (Number n) is))

  -- bits that come from words
  pub test : (e : ℕ) (op : Op) (index : ℕ) (args : List ℕ) (id : NetId) → IsAt r.exprs e (Apply op index args)
      → takes_words op ≡ true → gives_word op ≡ false → (op ≡ ops.Bit → ⊥)
      → Stands a.names.exprs e id → All E args → v (spot 0 id) ≡ bit (value e == 1)
  test e op index args id is taken gives other stands known =
      let l = a.tests e op index args id is taken other stands in
      let h = l.4 in
      let got = test_result h.kind v p.width l.0.from (value e) (ap gives_word h.is_kind ∙ gives)
      (placed e op index args l.0.from is h known) in
      sym (ap (λ x. v (spot 0 x)) l.2) ∙ lifts_join p v l.0 solves l.1 ∙ ap (λ b. v (spot b l.0.from)) l.3 ∙ got

  pub one_bit : (e index : ℕ) (args : List ℕ) (id : NetId) → IsAt r.exprs e (Apply ops.Bit index args)
      → Stands a.names.exprs e id → All E args → v (spot 0 id) ≡ bit (value e == 1)
  one_bit e index args id is stands known =
      let l = a.bits e index args id is stands in
      let fits = sound.exprs e (Apply ops.Bit index args) is in
      let o = one_of args fits.0 in
      let some : 0 < length args = subst (λ xs. 0 < length xs) (sym o.1) (let h : 0 < 1 = omega arith in h) in
      let low : l.0.slice < p.width = let a1 = l.3 in let a2 = fits.1 in let a3 = a.width in
      omega (arith, a1, a2, a3) in
      let has : v (spot (suc l.0.slice) l.0.from) ≡ bit (bit_at (value (get_or args 0 0)) l.0.slice == 1) =
      (known 0 0 some).0 l.0.from l.4 l.0.slice low in
      let is_value : bit_at (value (get_or args 0 0)) index ≡ value e =
      sym (values.each e (Apply ops.Bit index args) is ∙ ap (λ xs. bit_at (slice_index (map value xs) 0) index) o.1
      ∙ ap (λ xs. bit_at (value (get_or xs 0 0)) index) (sym o.1)) in
      sym (ap (λ x. v (spot 0 x)) l.2) ∙ lifts_join p v l.0 solves l.1 ∙ has
      ∙ ap (λ i. bit (bit_at (value (get_or args 0 0)) i == 1)) l.3 ∙ ap (λ n. bit (n == 1)) is_value
