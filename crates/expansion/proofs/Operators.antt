-- The templates of expressions, by those of what stands in them.
use Rattle.std.proofs.Common.{◌≡◌, ◌∙◌, ℕ, zero, suc, ◌+◌, ◌<◌, ◌≤◌, List, [], ◌∷◌, ◌++◌, refl, sym, ap, subst}
use Rattle.std.proofs.Common.{arith, length, length-append, take, take_all, get_or}
use Rattle.std.specs.Prelude.{Option, Some, None, slice_index_or, Contains, ⊤, MatchOption}
use Rattle.std.specs.List.{flat_map, AllByRecursion}
use Rattle.std.proofs.lemmas.List.{flat_map_more}
use Rattle.std.proofs.lemmas.List.Folds.{length-flat_map-take}
use Rattle.std.proofs.lemmas.Option.{none-some, same_Some}
use Rattle.mp_base.specs.declared.refusal.Place.{Place}
use Rattle.mp_base.specs.declared.op.Op.{Op}
use Rattle.mp_base.specs.Entries.{IsAt}
use Rattle.mp_base.proofs.Entries.{within}
use Rattle.mp_rules.specs.declared.limits.TheConstants.{EXPR_LIMIT}
use Rattle.mp_written.specs.declared.program.ExprKind.{ExprKind}
use Rattle.mp_written.specs.declared.program.ExprKind.TheVariants.{Number, Named, True, False, Apply, Use}
use Rattle.mp_written.specs.declared.program.Expr.{Expr}
use Rattle.mp_written.specs.declared.program.Program.{Program}
use Rattle.mp_written.specs.Functions.{Function, functions}
use Rattle.mp_written.specs.Pieces.{Scope, kind_pieces, copied, name_pieces, pieces_in}
use Rattle.mp_written.specs.Pieces.{bodies}
use Rattle.mp_written.specs.Sound.{deeper}
use Rattle.mp_written.specs.Tree.{operands}
use Rattle.mp_written.proofs.Pieces.{pieces_is}
use Rattle.mp_written.proofs.Soundness.{sound}
use Rattle.written_meanings.specs.declared.meanings.Meanings.{Meanings}
use Rattle.written_meanings.specs.Meanings.{args_around, argument, usable}
use Rattle.expansion_laws.specs.Lawful.{IsLawfulKind, IsLawful, lawful}
use Rattle.expansion_laws.proofs.ClosedClaims.{IsClosed, AreBodies, so_in, all_bodies, index_below}
use Rattle.expansion.specs.declared.item.Item.{Item}
use Rattle.expansion.specs.declared.item.Slot.{Slot}
use Rattle.expansion.specs.Leaves.{leaf, own_place}
use Rattle.expansion.specs.Templates.{AreOperands, IsInside, IsKind, IsLong, IsReady, IsWord}
use Rattle.expansion.specs.Templates.{kind_at, pieces_of, place_at, scope_in, usable_count}
use Rattle.expansion.proofs.Fills.{append_end, dense_append, inside_append, pieces_append}

-- ---- what is known of operands

pub known_of : (w : Program) (fs : List Function) (e : ℕ) (x : Expr) → IsAt w.exprs e x → IsLawful w.exprs fs e
    → IsLawfulKind fs x.kind × ((a : ℕ) → Contains (operands x.kind) a → IsLawful w.exprs fs a)
known_of w fs e x at (lawful e2 y there fit below) =
    let same = same_Some y x (sym there ∙ at) in (
      subst (λ (z : Expr). IsLawfulKind fs z.kind) same fit,
      λ a c. below a (subst (λ (z : Expr). Contains (operands z.kind) a) (sym same) c),
    )

lawful_entry : (w : Program) (fs : List Function) (e : ℕ) → IsLawful w.exprs fs e → (x : Expr) × IsAt w.exprs e x
lawful_entry w fs e (lawful e2 y there fit below) = (y, there)

module _ (w : Program) (m : Meanings) (ts : List Slot) (owner : Option ℕ) where
  pub ready_entry : (e : ℕ) → IsReady w m ts owner e → (x : Expr) × IsAt w.exprs e x
  ready_entry e ready = lawful_entry w (usable (functions w) owner) e ready.lawful

  pub ready_within : (e : ℕ) → IsReady w m ts owner e → e < length w.exprs
  ready_within e ready = let (x, at) = ready_entry e ready in within w.exprs e at

  pub ready_operand : (e : ℕ) (x : Expr) (a : ℕ) → IsReady w m ts owner e → IsAt w.exprs e x
      → Contains (operands x.kind) a → IsReady w m ts owner a
  ready_operand e x a ready at c = record {
    meant = ready.meant;
    law = ready.law;
    scoped = λ d y n under there. ready.scoped d y n (deeper x at c under) there;
    lawful = (known_of w (usable (functions w) owner) e x at ready.lawful).1 a c;
    within = ready.within;
    made = ready.made;
    enough = ready.enough;
  }

-- ---- nothing vanishes

some_closed : IsClosed (λ k. ⊤) (λ v. 1 ≤ length v)
some_closed = record { leaf = λ x none k. omega arith; node = λ x vs many k all. omega arith }

pub count_usable : (w : Program) (owner : Option ℕ) → usable_count w owner ≤ length (functions w)
    → usable (functions w) owner ≡ take (usable_count w owner) (functions w)
count_usable w (Some k) le = refl
count_usable w None le = sym (take_all (length (functions w)) (functions w) (omega arith))

pub some_pieces : (w : Program) (m : Meanings) (ts : List Slot) (owner : Option ℕ) (e : ℕ)
    → IsReady w m ts owner e → (at : Place) (os : List (List Expr)) → AreOperands w owner os
    → 1 ≤ length (pieces_in (scope_in w owner at os) w.exprs e)
some_pieces w m ts owner e ready at os are =
    let fs = functions w in
    let k = usable_count w owner in
    let known : AreBodies (λ q. ⊤) (λ v. 1 ≤ length v) some_closed (usable fs owner) (bodies w.exprs fs k) =
    subst (λ gs. AreBodies (λ q. ⊤) (λ v. 1 ≤ length v) some_closed gs (bodies w.exprs fs k))
    (sym (count_usable w owner ready.within))
    (all_bodies (λ q. ⊤) (λ v. 1 ≤ length v) some_closed w.exprs fs (sound w).behind ready.law.bodies
    (λ j f here d x under there fit free. tt) (λ d. ⊤) (λ d x reached there fit free. tt)
    (λ d a x reached there c. tt) k
    ready.within) in
    so_in (λ q. ⊤) (λ v. 1 ≤ length v) some_closed (λ d. ⊤) (scope_in w owner at os) w.exprs
    (sound w).behind are.as_many
    are.some known (λ d x reached there fit free. tt) (λ d a x reached there c. tt) e tt ready.lawful

-- ---- leaves

pub copied_is : (w : Program) (owner : Option ℕ) (e : ℕ) (x : Expr) → IsAt w.exprs e x → (at : Place)
    (os : List (List Expr)) → pieces_of w.exprs at os (leaf owner e None ∷ []) ≡ copied (scope_in w owner at os) x
copied_is w (Some k) e x is at os = ap (λ o. record { place = at; kind = kind_at o } ∷ []) is
copied_is w None e x is at os = ap (λ o. record { place = place_at o; kind = kind_at o } ∷ []) is

-- an expression in which none stands
abbrev pub IsLeaf : ExprKind → Type 0
IsLeaf (Apply op k os) = ⊥
IsLeaf (Use at x os) = ⊥
IsLeaf k = ⊤

leaf_kind : (s : Scope) (x : Expr) (k : ExprKind) (v : ℕ → List Expr) → IsLeaf k
    → kind_pieces s x k v ≡ name_pieces s x (argument s.args k)
leaf_kind s x (Number n) v here = refl
leaf_kind s x (Named y) v here = refl
leaf_kind s x True v here = refl
leaf_kind s x False v here = refl
leaf_kind s x (Apply op k os) v here = absurd here
leaf_kind s x (Use at y os) v here = absurd here

leaf_means : (w : Program) (owner : Option ℕ) (e : ℕ) (x : Expr) → IsAt w.exprs e x → (at : Place)
    (os : List (List Expr)) (o : Option ℕ)
    → pieces_of w.exprs at os (leaf owner e o ∷ []) ≡ name_pieces (scope_in w owner at os) x o
leaf_means w owner e x is at os None = copied_is w owner e x is at os
leaf_means w owner e x is at os (Some i) = append_end (slice_index_or os i [])

argument_below : (w : Program) (owner : Option ℕ) (k : ExprKind) (i : ℕ)
    → argument (args_around (functions w) owner) k ≡ Some i → i < length (args_around (functions w) owner)
argument_below w owner (Number n) i e = absurd (none-some i e)
argument_below w owner (Named y) i e = index_below (args_around (functions w) owner) y i e
argument_below w owner True i e = absurd (none-some i e)
argument_below w owner False i e = absurd (none-some i e)
argument_below w owner (Apply op k os) i e = absurd (none-some i e)
argument_below w owner (Use at y os) i e = absurd (none-some i e)

some_at : (os : List (List Expr)) (i : ℕ) → AllByRecursion (λ v. 1 ≤ length v) os → i < length os
    → 1 ≤ length (slice_index_or os i [])
some_at [] i all lt = absurd (omega (arith, lt))
some_at (v ∷ vs) zero all lt = all.0
some_at (v ∷ vs) (suc i) all lt = some_at vs i all.1 (omega (arith, lt))

leaf_dense : (w : Program) (owner : Option ℕ) (e : ℕ) (k : ExprKind) (o : Option ℕ)
    → o ≡ argument (args_around (functions w) owner) k → (at : Place) (os : List (List Expr)) → AreOperands w owner os
    → length (leaf owner e o ∷ []) ≤ length (pieces_of w.exprs at os (leaf owner e o ∷ []))
leaf_dense w owner e k None is at os are = omega arith
leaf_dense w owner e k (Some i) is at os are =
    let lt = argument_below w owner k i (sym is) in
    let some = some_at os i are.some (let many = are.as_many in omega (arith, many, lt)) in
    let same = ap length (append_end (slice_index_or os i [])) in
    omega (arith, some, same)

pub own_inside : (n : ℕ) (owner : Option ℕ) (e : ℕ) → e < n → MatchOption (own_place owner e) ⊤ (λ i. i < n)
own_inside n (Some k) e lt = tt
own_inside n None e lt = lt

leaf_inside : (w : Program) (owner : Option ℕ) (e : ℕ) (o : Option ℕ) → e < length w.exprs
    → AllByRecursion (IsInside (length w.exprs)) (leaf owner e o ∷ [])
leaf_inside w owner e None lt = ((lt, own_inside (length w.exprs) owner e lt), tt)
leaf_inside w owner e (Some i) lt = (tt, tt)

pub leaf_is : (w : Program) (m : Meanings) (ts : List Slot) (owner : Option ℕ) (e : ℕ) (x : Expr)
    (o : Option ℕ) → IsAt w.exprs e x → IsLeaf x.kind → o ≡ argument (args_around (functions w) owner) x.kind
    → IsWord w owner e (leaf owner e o ∷ [])
leaf_is w m ts owner e x o at here is = record {
  means = λ place os.
      leaf_means w owner e x at place os o ∙ ap (name_pieces (scope_in w owner place os) x) is
      ∙ sym (leaf_kind (scope_in w owner place os) x x.kind (pieces_in (scope_in w owner place os) w.exprs) here)
      ∙ sym (pieces_is (scope_in w owner place os) w.exprs (sound w).behind e x at);
  dense = leaf_dense w owner e x.kind o is;
  inside = leaf_inside w owner e o (within w.exprs e at);
}

-- ---- operators

-- these items are the template of an operator, with these operands so far
pub record HasGrown (w : Program) (owner : Option ℕ) (e : ℕ) (args : List ℕ) (items : List Item) : Type 0 where
  pub means : (at : Place) (os : List (List Expr)) → pieces_of w.exprs at os items
      ≡ pieces_of w.exprs at os (leaf owner e None ∷ []) ++ flat_map (pieces_in (scope_in w owner at os) w.exprs) args
  pub dense : (at : Place) (os : List (List Expr)) → AreOperands w owner os
      → length items ≤ length (pieces_of w.exprs at os items)
  pub inside : AllByRecursion (IsInside (length w.exprs)) items

operator_pieces : (w : Program) (owner : Option ℕ) (e : ℕ) (op : Op) (k : ℕ) (args : List ℕ)
    → IsKind w e (Apply op k args) → (at : Place) (os : List (List Expr))
    → pieces_in (scope_in w owner at os) w.exprs e
    ≡ pieces_of w.exprs at os (leaf owner e None ∷ []) ++ flat_map (pieces_in (scope_in w owner at os) w.exprs) args
operator_pieces w owner e op k args (x, there, kind) at os =
    let s = scope_in w owner at os in
    let v = pieces_in s w.exprs in
    pieces_is s w.exprs (sound w).behind e x there ∙ ap (λ q. kind_pieces s x q v) kind
    ∙ ap (λ ys. ys ++ flat_map v args) (sym (copied_is w owner e x there at os))

pub grown_none : (w : Program) (owner : Option ℕ) (e : ℕ) → e < length w.exprs
    → HasGrown w owner e [] (leaf owner e None ∷ [])
grown_none w owner e lt = record {
  means = λ at os. sym (append_end (pieces_of w.exprs at os (leaf owner e None ∷ [])));
  dense = λ at os are. omega arith;
  inside = leaf_inside w owner e None lt;
}

pub grown_more : (w : Program) (owner : Option ℕ) (e : ℕ) (args : List ℕ) (a : ℕ) (items word : List Item)
    → HasGrown w owner e args items → IsWord w owner a word → HasGrown w owner e (args ++ a ∷ []) (items ++ word)
grown_more w owner e args a items word grown is = record {
  means = λ at os.
      (let v = pieces_in (scope_in w owner at os) w.exprs in
      let first = pieces_of w.exprs at os (leaf owner e None ∷ []) in
      pieces_append w.exprs at os items word
      ∙ ap (λ ys. ys ++ pieces_of w.exprs at os word) (grown.means at os)
      ∙ ap (λ ys. (first ++ flat_map v args) ++ ys) (is.means at os)
      ∙ flat_map_more v first args a);
  dense = λ at os are. dense_append w.exprs at os items word (grown.dense at os are) (is.dense at os are);
  inside = inside_append (length w.exprs) items word grown.inside is.inside;
}

pub grown_all : (w : Program) (owner : Option ℕ) (e : ℕ) (op : Op) (k : ℕ) (args : List ℕ) (items : List Item)
    → IsKind w e (Apply op k args) → HasGrown w owner e args items → IsWord w owner e items
grown_all w owner e op k args items kind grown = record {
  means = λ at os. grown.means at os ∙ sym (operator_pieces w owner e op k args kind at os);
  dense = grown.dense;
  inside = grown.inside;
}

-- an operand that is too long
pub long_operand : (w : Program) (owner : Option ℕ) (e : ℕ) (op : Op) (k : ℕ) (args : List ℕ) (i : ℕ)
    → IsKind w e (Apply op k args) → i < length args → IsLong w owner (get_or args i 0) → IsLong w owner e
long_operand w owner e op k args i kind lt long = λ at os are.
    let v = pieces_in (scope_in w owner at os) w.exprs in
    let first = pieces_of w.exprs at os (leaf owner e None ∷ []) in
    let over = long at os are in
    let part = length-flat_map-take v args i 0 lt in
    let all = ap length (operator_pieces w owner e op k args kind at os) in
    let both = length-append first (flat_map v args) in
    omega (arith, over, part, all, both)

-- operands that are too long together
pub long_operands : (w : Program) (owner : Option ℕ) (e : ℕ) (op : Op) (k : ℕ) (args : List ℕ) (i : ℕ)
    (items word : List Item) → IsKind w e (Apply op k args) → i < length args → HasGrown w owner e (take i args) items
    → IsWord w owner (get_or args i 0) word → EXPR_LIMIT < length items + length word → IsLong w owner e
long_operands w owner e op k args i items word kind lt grown is over = λ at os are.
    let v = pieces_in (scope_in w owner at os) w.exprs in
    let first = pieces_of w.exprs at os (leaf owner e None ∷ []) in
    let part = length-flat_map-take v args i 0 lt in
    let all = ap length (operator_pieces w owner e op k args kind at os) in
    let both = length-append first (flat_map v args) in
    let so_far = ap length (grown.means at os) ∙ length-append first (flat_map v (take i args)) in
    let one = ap length (is.means at os) in
    let dense = grown.dense at os are in
    let dense_one = is.dense at os are in
    omega (arith, over, part, all, both, so_far, one, dense, dense_one)
