-- What the code finds of an expression, as the templates want it.
use Rattle.std.proofs.Common.{◌≡◌, ◌∙◌, ℕ, zero, suc, ◌+◌, ◌-◌, ◌*◌, ◌<◌, ◌≤◌, List, [], ◌∷◌, ◌++◌, true, false, refl}
use Rattle.std.proofs.Common.{sym, ap, subst}
use Rattle.std.proofs.Common.{arith, inl, inr, length, length-append, take, get_or}
use Rattle.std.specs.Prelude.{Option, Some, None, Result, Ok, Err, slice_get, slice_index_or, Contains}
use Rattle.std.specs.List.{AllByRecursion}
use Rattle.std.proofs.lemmas.Option.{none-some, same_Some}
use Rattle.mp_base.specs.declared.refusal.Place.{Place}
use Rattle.mp_base.specs.declared.op.Op.{Op}
use Rattle.mp_base.specs.Entries.{IsAt}
use Rattle.mp_base.proofs.Contents.{contains_behind, contains_head, holds_of_contained}
use Rattle.mp_base.proofs.Entries.{entry, push_cases, within}
use Rattle.mp_written.specs.declared.program.ExprKind.{ExprKind}
use Rattle.mp_written.specs.declared.program.ExprKind.TheVariants.{Number, Named, True, False, Apply, Use}
use Rattle.mp_written.specs.declared.program.Expr.{Expr}
use Rattle.mp_written.specs.declared.program.Program.{Program}
use Rattle.mp_written.specs.Functions.{Function, functions}
use Rattle.mp_written.specs.Sound.{itself}
use Rattle.mp_written.specs.Tree.{operands}
use Rattle.mp_written.proofs.Soundness.{sound}
use Rattle.written_meanings.specs.declared.functions.Body.{Body}
use Rattle.written_meanings.specs.declared.meanings.Meaning.{Meaning}
use Rattle.written_meanings.specs.declared.meanings.Meanings.{Meanings}
use Rattle.expansion.specs.declared.item.Item.{Item}
use Rattle.expansion.specs.declared.item.Slot.{Slot}
use Rattle.expansion.specs.declared.item.Stop.{Stop}
use Rattle.expansion.specs.Filling.{mentions}
use Rattle.expansion.specs.Leaves.{leaf, IsLeafWord}
use Rattle.expansion.specs.Templates.{AreOperandWords, IsFound, IsKind, IsMade, IsOperandWord, IsReady, IsUseOf, IsWord}
use Rattle.expansion.proofs.Operators.{IsLeaf, leaf_is, ready_operand, ready_within}
use Rattle.expansion.proofs.Scopes.{bodies_size, body_entry, ready_body}
use Rattle.expansion.proofs.Stops.{stops_weaker}
use Rattle.expansion.proofs.Uses.{use_of}

-- ---- measures

-- of a function before, whatever stands in its body
pub falls_below : (j c size a b : ℕ) → j < c → a < size → j * size + a < c * size + b
falls_below j c size a b lt less =
    let (d, e) = difference j c lt in
    let product = ap (λ n. n * size) e in
    omega (arith, product, less)
  where
    difference : (x y : ℕ) → x < y → (d : ℕ) × (y ≡ d + x + 1)
    difference x y below = (y - x - 1, omega (arith, below))

-- ---- entries

pub number_at : (xs : List ℕ) (i : ℕ) → i < length xs → IsAt xs i (get_or xs i 0)
number_at [] i lt = absurd (omega (arith, lt))
number_at (x ∷ xs) zero lt = refl
number_at (x ∷ xs) (suc i) lt = number_at xs i (omega (arith, lt))

pub number_in : (xs : List ℕ) (i : ℕ) → i < length xs → Contains xs (get_or xs i 0)
number_in [] i lt = absurd (omega (arith, lt))
number_in (x ∷ xs) zero lt = contains_head x xs
number_in (x ∷ xs) (suc i) lt = contains_behind (get_or xs i 0) x xs (number_in xs i (omega (arith, lt)))

-- ---- kinds

pub leaf_kind : (k : ExprKind) → ((op : Op) (j : ℕ) (os : List ℕ) → k ≡ Apply op j os → ⊥)
    → ((at : Place) (x os : List ℕ) → k ≡ Use at x os → ⊥) → IsLeaf k
leaf_kind (Number n) apply used = tt
leaf_kind (Named x) apply used = tt
leaf_kind True apply used = tt
leaf_kind False apply used = tt
leaf_kind (Apply op j os) apply used = apply op j os refl
leaf_kind (Use at x os) apply used = used at x os refl

-- ---- operands

-- operands stand behind what they stand in
pub operand_behind : (w : Program) (e : ℕ) (k : ExprKind) (a : ℕ) → IsKind w e k → Contains (operands k) a
    → (e < a) × (a < length w.exprs)
operand_behind w e k a (x, at, is) c =
    holds_of_contained (λ b. (e < b) × (b < length w.exprs)) (operands k) a
    (subst (λ q. AllByRecursion (λ b. (e < b) × (b < length w.exprs)) (operands q)) is ((sound w).behind e x at)) c

module _ (w : Program) (m : Meanings) (ts : List Slot) (owner : Option ℕ) (e : ℕ)
    (ready : IsReady w m ts owner e) where
  pub operand_ready : (k : ExprKind) (a : ℕ) → IsKind w e k → Contains (operands k) a → IsReady w m ts owner a
  operand_ready k a (x, at, is) c =
      ready_operand w m ts owner e x a ready at (subst (λ q. Contains (operands q) a) (sym is) c)

  pub meaning_at : (n : Meaning) → n ≡ get_or m.exprs e n → IsAt m.exprs e n
  meaning_at n is =
      let lt = ready_within w m ts owner e ready in
      let many = ready.meant.as_many in
      entry m.exprs e (omega (arith, lt, many)) is

  -- ---- leaves

  pub leaf_found : (x : Expr) (n : Meaning) → x ≡ get_or w.exprs e x → n ≡ get_or m.exprs e n → IsLeaf x.kind
      → (found : Result (List Item) Stop) → IsLeafWord owner e n.argument found → IsFound w owner e found
  leaf_found x n at meaning here found is =
      let there = entry w.exprs e (ready_within w m ts owner e ready) at in
      let scoped = ready.scoped e x n itself there (meaning_at n meaning) in
      by_cases found is (leaf_is w m ts owner e x n.argument there here scoped.argument)
    where
      by_cases : (found : Result (List Item) Stop) → IsLeafWord owner e n.argument found
          → IsWord w owner e (leaf owner e n.argument ∷ []) → IsFound w owner e found
      by_cases (Ok items) is word = subst (IsWord w owner e) (sym is) word
      by_cases (Err stop) is word = stops_weaker (λ bad. absurd bad) stop is

  -- ---- uses

  pub found_of : (args : List ℕ) → (place : Place) × (name : List ℕ) × IsKind w e (Use place name args) → (n : Meaning)
      → n ≡ get_or m.exprs e n → (f : ℕ) → n.function ≡ Some f → IsUseOf w owner e args f
  found_of args (place, name, kind) n meaning f is =
      let (j, named, found) = use_of w m ts owner e place name args n ready kind (meaning_at n meaning) in
      subst (IsUseOf w owner e args) (same_Some j f (sym named ∙ is)) found

  pub some_function : (args : List ℕ) → (place : Place) × (name : List ℕ) × IsKind w e (Use place name args)
      → (n : Meaning) → n ≡ get_or m.exprs e n → n.function ≡ None → ⊥
  some_function args (place, name, kind) n meaning is =
      let (j, named, found) = use_of w m ts owner e place name args n ready kind (meaning_at n meaning) in
      none-some j (sym is ∙ named)

  -- what is kept of the function that is used
  pub slot_made : (args : List ℕ) (f : ℕ) (found : IsUseOf w owner e args f) (slot : Slot)
      → slot ≡ slice_index_or ts f slot → IsMade w f found.function slot
  slot_made args f found slot at =
      let below = found.below in
      let enough = ready.enough in
      ready.made f found.function slot found.here (entry ts f (omega (arith, below, enough)) at)

  -- its body, where its template isn't at hand
  pub body_ready : (args : List ℕ) (f : ℕ) (found : IsUseOf w owner e args f)
      → IsReady w m ts (Some f) (found.function).body
  body_ready args f found =
      let below = found.below in
      let enough = ready.enough in
      ready_body w m ready.meant ready.law ts ready.made f found.function found.here (omega (arith, below, enough))

  pub body_there : (args : List ℕ) (f : ℕ) (found : IsUseOf w owner e args f) → f < length m.bodies
  body_there args f found =
      let lt = within (functions w) f found.here in
      let size = bodies_size w m ready.meant in
      omega (arith, lt, size)

  pub body_same : (args : List ℕ) (f : ℕ) (found : IsUseOf w owner e args f) (b : Body)
      → b ≡ slice_index_or m.bodies f b → (found.function).body ≡ b.expr
  body_same args f found b at =
      let (g, here, same) = body_entry w m ready.meant f b (entry m.bodies f (body_there args f found) at) in
      ap (λ (h : Function). h.body) (same_Some found.function g (sym found.here ∙ here)) ∙ same

-- ---- words of operands

pub words_none : (w : Program) (owner : Option ℕ) (template : List Item) → AreOperandWords w owner template [] []
words_none w owner template = record { as_many = refl; each = λ i a word at is. absurd (none-some a at) }

length_take : (xs : List ℕ) (k : ℕ) → k ≤ length xs → length (take k xs) ≡ k
length_take xs zero le = refl
length_take [] (suc k) le = absurd (omega (arith, le))
length_take (x ∷ xs) (suc k) le = let rest = length_take xs k (omega (arith, le)) in omega (arith, rest)

pub words_more : (w : Program) (owner : Option ℕ) (template : List Item) (args : List ℕ) (i : ℕ)
    (words : List (List Item)) (word : List Item) → i < length args
    → AreOperandWords w owner template (take i args) words → IsOperandWord w owner template i (get_or args i 0) word
    → AreOperandWords w owner template (take (i + 1) args) (words ++ word ∷ [])
words_more w owner template args i words word lt are is = record {
  as_many = omega (arith, many, size, size_more, longer);
  each = λ j a v at there. elim (push_cases words word j v there) [
    | inl (below, old) ↦
        are.each j a v (front j a (omega (arith, below, many, size)) at) old
    | inr (here, same) ↦
        (let e : j ≡ i = omega (arith, here, many, size) in
        let now : get_or args i 0 ≡ a =
        same_Some (get_or args i 0) a (sym (number_at args i lt) ∙ ap (slice_get args) (sym e)
        ∙ taken args (i + 1) j a at) in
        subst (IsOperandWord w owner template j a) same
        (subst (λ k. IsOperandWord w owner template k a word) (sym e)
        (subst (λ b. IsOperandWord w owner template i b word) now is)))
  ];
}
  where
    many : length words ≡ length (take i args)
    many = are.as_many

    size : length (take i args) ≡ i
    size = length_take args i (omega (arith, lt))

    size_more : length (take (i + 1) args) ≡ i + 1
    size_more = length_take args (i + 1) (omega (arith, lt))

    longer : length (words ++ word ∷ []) ≡ length words + 1
    longer = length-append words (word ∷ [])

    taken : (xs : List ℕ) (k j a : ℕ) → IsAt (take k xs) j a → IsAt xs j a
    taken xs zero j a at = absurd (none-some a at)
    taken [] (suc k) j a at = absurd (none-some a at)
    taken (x ∷ xs) (suc k) zero a at = at
    taken (x ∷ xs) (suc k) (suc j) a at = taken xs k j a at

    kept : (xs : List ℕ) (k j a : ℕ) → j < k → IsAt xs j a → IsAt (take k xs) j a
    kept xs zero j a below at = absurd (omega (arith, below))
    kept [] (suc k) j a below at = absurd (none-some a at)
    kept (x ∷ xs) (suc k) zero a below at = at
    kept (x ∷ xs) (suc k) (suc j) a below at = kept xs k j a (omega (arith, below)) at

    front : (j a : ℕ) → j < i → IsAt (take (i + 1) args) j a → IsAt (take i args) j a
    front j a below at = kept args i j a below (taken args (i + 1) j a at)

-- an operand that the template mentions, and one that it doesn't
pub mentioned_word : (w : Program) (owner : Option ℕ) (template : List Item) (i a : ℕ) (word : List Item)
    → IsWord w owner a word → IsOperandWord w owner template i a word
mentioned_word w owner template i a word is = record { dense = is.dense; inside = is.inside; means = λ mention. is }

pub dropped_word : (w : Program) (owner : Option ℕ) (template : List Item) (i a : ℕ) → mentions template i ≡ false
    → IsOperandWord w owner template i a []
dropped_word w owner template i a drops = record {
  dense = λ at os are. omega arith;
  inside = tt;
  means = λ mention. (let bad : true ≡ false = sym mention ∙ drops in absurd (cc));
}
