-- The templates of uses, by those of functions and operands.
use Rattle.std.proofs.Common.{◌≡◌, ◌∙◌, ℕ, zero, suc, ◌<◌, ◌≤◌, List, [], ◌∷◌, ◌++◌, true, refl, sym, ap, subst}
use Rattle.std.proofs.Common.{arith, length, length-append, map, take, inl, inr}
use Rattle.std.specs.Prelude.{Option, Some, None, slice_get, slice_index_or, Contains, unwrap_or, if◌then◌else◌}
use Rattle.std.specs.List.{AllByRecursion}
use Rattle.std.proofs.lemmas.Bool.{cases_lt, lt-ltb}
use Rattle.std.proofs.lemmas.List.{get_or_append_left}
use Rattle.std.proofs.lemmas.Option.{none-some, same_Some}
use Rattle.mp_base.specs.declared.refusal.Place.{Place}
use Rattle.mp_base.specs.Entries.{IsAt}
use Rattle.mp_base.proofs.Contents.{contains_behind, contains_head}
use Rattle.mp_base.proofs.Entries.{within, some_entry}
use Rattle.mp_rules.specs.declared.limits.TheConstants.{EXPR_LIMIT}
use Rattle.mp_written.specs.declared.program.ExprKind.TheVariants.{Use}
use Rattle.mp_written.specs.declared.program.Expr.{Expr}
use Rattle.mp_written.specs.declared.program.Program.{Program}
use Rattle.mp_written.specs.Functions.{Function, functions, function_index}
use Rattle.mp_written.specs.Pieces.{Body, kind_pieces, pieces_in, nothing, body_of, bodies}
use Rattle.mp_written.specs.Tree.{operands}
use Rattle.mp_written.specs.Sound.{itself}
use Rattle.mp_written.proofs.Pieces.{pieces_is}
use Rattle.mp_written.proofs.Soundness.{sound}
use Rattle.written_meanings.specs.declared.meanings.Meaning.{Meaning}
use Rattle.written_meanings.specs.declared.meanings.Meanings.{Meanings}
use Rattle.written_meanings.specs.Meanings.{args_around, args_of, usable, used, function_named}
use Rattle.expansion_laws.specs.Lawful.{IsLawfulKind}
use Rattle.expansion_laws.proofs.ClosedClaims.{length-map}
use Rattle.expansion.specs.declared.item.Item.{Item}
use Rattle.expansion.specs.declared.item.Slot.{Slot}
use Rattle.expansion.specs.Filling.{filled, mentions}
use Rattle.expansion.specs.Leaves.{own_place}
use Rattle.expansion.specs.Templates.{AreOperands, AreOperandWords, IsInside, IsKind, IsLong, IsReady, IsUseOf, IsWord}
use Rattle.expansion.specs.Templates.{outermost, pieces_of, place_at, place_of, scope_in, usable_count}
use Rattle.expansion.proofs.Fills.{dense_filled, filled_pieces, inside_filled, mentioned_short, same_mentioned}
use Rattle.expansion.proofs.Operators.{count_usable, known_of, own_inside, ready_operand, some_pieces}

-- ---- bodies

length-bodies : (exprs : List Expr) (fs : List Function) (n : ℕ) → length (bodies exprs fs n) ≡ n
length-bodies exprs fs zero = refl
length-bodies exprs fs (suc n) =
    let rest = length-bodies exprs fs n in
    let both = length-append (bodies exprs fs n) (body_of exprs (take n fs) (bodies exprs fs n)
    (slice_get fs n) ∷ []) in
    omega (arith, rest, both)

last_of : {X : Type 0} (xs : List X) (y : X) (i : ℕ) → i ≡ length xs → (d : X) → slice_index_or (xs ++ y ∷ []) i d ≡ y
last_of [] y zero e d = refl
last_of [] y (suc i) e d = absurd (omega (arith, e))
last_of (x ∷ xs) y zero e d = absurd (omega (arith, e))
last_of (x ∷ xs) y (suc i) e d = last_of xs y i (omega (arith, e)) d

body_at : (exprs : List Expr) (fs : List Function) (n j : ℕ) → j < n
    → slice_index_or (bodies exprs fs n) j nothing ≡ body_of exprs (take j fs) (bodies exprs fs j) (slice_get fs j)
body_at exprs fs zero j lt = absurd (omega (arith, lt))
body_at exprs fs (suc n) j lt =
    let long = length-bodies exprs fs n in
    let more : Body = body_of exprs (take n fs) (bodies exprs fs n) (slice_get fs n) in
    elim (cases_lt j n) [
      | inl below ↦
          get_or_append_left (bodies exprs fs n) (more ∷ []) nothing j (omega (arith, below, long))
          ∙ body_at exprs fs n j below
      | inr above ↦
          (let e : j ≡ n = omega (arith, lt, above) in
          last_of (bodies exprs fs n) more j (omega (arith, e, long)) nothing
          ∙ ap (λ k. body_of exprs (take k fs) (bodies exprs fs k) (slice_get fs k)) (sym e))
    ]

-- what a use of function j becomes is what its body becomes
body_is : (w : Program) (n j : ℕ) (g : Function) → j < n → IsAt (functions w) j g → (at : Place) (os : List (List Expr))
    → slice_index_or (bodies w.exprs (functions w) n) j nothing at os
    ≡ pieces_in (scope_in w (Some j) at os) w.exprs g.body
body_is w n j g lt here at os =
    let fs = functions w in
    let around : args_around fs (Some j) ≡ g.args = ap args_of here in
    ap (λ (b : Body). b at os) (body_at w.exprs fs n j lt)
    ∙ ap (λ o. body_of w.exprs (take j fs) (bodies w.exprs fs j) o at os) here
    ∙ ap (λ args. pieces_in (record {
      functions = take j fs;
      bodies = bodies w.exprs fs j;
      args = args;
      operands = os;
      outermost = Some at;
    }) w.exprs g.body) (sym around)

-- ---- the function of a use

get_take : {X : Type 0} (xs : List X) (k j : ℕ) (x : X) → slice_get (take k xs) j ≡ Some x
    → (j < k) × (slice_get xs j ≡ Some x)
get_take xs zero j x is = absurd (none-some x is)
get_take [] (suc k) j x is = absurd (none-some x is)
get_take (y ∷ ys) (suc k) zero x is = (omega arith, is)
get_take (y ∷ ys) (suc k) (suc j) x is = let (lt, there) = get_take ys k j x is in (omega (arith, lt), there)

named_is : (fs : List Function) (x : List ℕ) → function_index fs x < length fs
    → function_named fs x ≡ Some (function_index fs x)
named_is fs x lt = ap (λ b. if b then Some (function_index fs x) else None) (lt-ltb (function_index fs x)
    (length fs) lt)

place_is : (w : Program) (owner : Option ℕ) (e : ℕ) (x : Expr) → IsAt w.exprs e x → (at : Place)
    → unwrap_or (outermost owner at) x.place ≡ place_of w.exprs at (own_place owner e)
place_is w (Some k) e x is at = refl
place_is w None e x is at = ap place_at (sym is)

pub use_of : (w : Program) (m : Meanings) (ts : List Slot) (owner : Option ℕ) (e : ℕ) (place : Place)
    (name args : List ℕ) (n : Meaning) → IsReady w m ts owner e → IsKind w e (Use place name args) → IsAt m.exprs e n
    → (j : ℕ) × (n.function ≡ Some j) × IsUseOf w owner e args j
use_of w m ts owner e place name args n ready (x, there, kind) meaning =
    let fs = functions w in
    let gs = usable fs owner in
    let j = function_index gs name in
    let (g, found, many) = subst (IsLawfulKind gs) kind (known_of w gs e x there ready.lawful).0 in
    let is_named = (ready.scoped e x n itself there meaning).function ∙ ap (used gs) kind
    ∙ named_is gs name (within gs j found) in
    let (lt, here) = get_take fs (usable_count w owner) j g
    (subst (λ hs. slice_get hs j ≡ Some g) (count_usable w owner ready.within) found) in (
      j,
      is_named,
      record {
        function = g;
        here = here;
        below = lt;
        as_many = many;
        pieces = λ at os.
            (let s = scope_in w owner at os in
            let v = pieces_in s w.exprs in
            pieces_is s w.exprs (sound w).behind e x there ∙ ap (λ q. kind_pieces s x q v) kind
            ∙ ap (λ p. slice_index_or (bodies w.exprs fs (usable_count w owner)) j nothing p (map v args))
            (place_is w owner e x there at)
            ∙ body_is w (usable_count w owner) j g lt here (place_of w.exprs at (own_place owner e)) (map v args));
      },
    )

-- ---- the words of operands

past : {X : Type 0} (xs : List X) (i : ℕ) (d : X) → length xs ≤ i → slice_index_or xs i d ≡ d
past [] i d le = refl
past (x ∷ xs) zero d le = absurd (omega (arith, le))
past (x ∷ xs) (suc i) d le = past xs i d (omega (arith, le))

index_of : {X : Type 0} (xs : List X) (i : ℕ) (x d : X) → slice_get xs i ≡ Some x → slice_index_or xs i d ≡ x
index_of [] i x d is = absurd (none-some x is)
index_of (y ∷ ys) zero x d is = same_Some y x is
index_of (y ∷ ys) (suc i) x d is = index_of ys i x d is

map_entry : {X Y : Type 0} (f : X → Y) (xs : List X) (i : ℕ) (x : X) (d : Y) → slice_get xs i ≡ Some x
    → slice_index_or (map f xs) i d ≡ f x
map_entry f [] i x d is = absurd (none-some x is)
map_entry f (y ∷ ys) zero x d is = ap f (same_Some y x is)
map_entry f (y ∷ ys) (suc i) x d is = map_entry f ys i x d is

words_mean : (w : Program) (owner : Option ℕ) (template : List Item) (args : List ℕ) (words : List (List Item))
    → AreOperandWords w owner template args words → (at : Place) (os : List (List Expr)) (i : ℕ)
    → mentions template i ≡ true
    → slice_index_or (map (pieces_of w.exprs at os) words) i []
    ≡ slice_index_or (map (pieces_in (scope_in w owner at os) w.exprs) args) i []
words_mean w owner template args words are at os i mention =
    let many = are.as_many in
    let v = pieces_in (scope_in w owner at os) w.exprs in
    let vs = length-map v args in
    let ws = length-map (pieces_of w.exprs at os) words in
    elim (cases_lt i (length args)) [
      | inl lt ↦
          (let (a, is) = some_entry args i lt in
          let (word, there) = some_entry words i (omega (arith, lt, many)) in
          map_entry (pieces_of w.exprs at os) words i word [] there
          ∙ ((are.each i a word is there).means mention).means at os
          ∙ sym (map_entry v args i a [] is))
      | inr le ↦
          past (map (pieces_of w.exprs at os) words) i [] (omega (arith, le, many, ws))
          ∙ sym (past (map v args) i [] (omega (arith, le, vs)))
    ]

-- ---- uses

pub use_is : (w : Program) (owner : Option ℕ) (e : ℕ) (args : List ℕ) (j : ℕ) (template : List Item)
    (words : List (List Item)) → e < length w.exprs → (found : IsUseOf w owner e args j) → IsWord w (Some j)
    (found.function).body template
    → AreOperandWords w owner template args words → IsWord w owner e (filled (own_place owner e) words template)
use_is w owner e args j template words lt found made are = record {
  means = λ at os.
      (let v = pieces_in (scope_in w owner at os) w.exprs in
      let there = place_of w.exprs at (own_place owner e) in
      filled_pieces w.exprs at os (own_place owner e) words template
      ∙ same_mentioned w.exprs there (map (pieces_of w.exprs at os) words) (map v args) template
      (words_mean w owner template args words are at os)
      ∙ made.means there (map v args)
      ∙ sym (found.pieces at os));
  dense = λ at os operands. dense_filled w.exprs at os (own_place owner e) words (λ i word is.
      dense_word i word is at os operands) template;
  inside = inside_filled (length w.exprs) (own_place owner e) words template (own_inside (length w.exprs) owner e lt)
      inside_word made.inside;
}
  where
    dense_word : (i : ℕ) (word : List Item) → IsAt words i word → (at : Place) (os : List (List Expr))
        → AreOperands w owner os → length word ≤ length (pieces_of w.exprs at os word)
    dense_word i word is at os operands =
        let lt = within words i is in
        let many = are.as_many in
        let (a, there) = some_entry args i (omega (arith, lt, many)) in
        (are.each i a word there is).dense at os operands

    inside_word : (i : ℕ) (word : List Item) → IsAt words i word → AllByRecursion (IsInside (length w.exprs)) word
    inside_word i word is =
        let below = within words i is in
        let many = are.as_many in
        let (a, there) = some_entry args i (omega (arith, below, many)) in
        (are.each i a word there is).inside

-- an operand that is too long, and that the template mentions
pub long_mentioned : (w : Program) (owner : Option ℕ) (e : ℕ) (args : List ℕ) (j : ℕ) (template : List Item)
    (found : IsUseOf w owner e args j) → IsWord w (Some j) (found.function).body template → (i a : ℕ)
    → IsAt args i a
    → mentions template i ≡ true → IsLong w owner a → IsLong w owner e
long_mentioned w owner e args j template found made i a is mention long = λ at os operands.
    let v = pieces_in (scope_in w owner at os) w.exprs in
    let there = place_of w.exprs at (own_place owner e) in
    let over = long at os operands in
    let all = ap length (made.means there (map v args) ∙ sym (found.pieces at os)) in
    let part = mentioned_short w.exprs there (map v args) template i mention in
    let same = ap length (map_entry v args i a [] is) in
    omega (arith, over, all, part, same)

-- a template that is too long where it is filled
pub long_filled : (w : Program) (owner : Option ℕ) (e : ℕ) (items : List Item) → IsWord w owner e items
    → EXPR_LIMIT < length items → IsLong w owner e
long_filled w owner e items is over = λ at os operands.
    let dense = is.dense at os operands in
    let same = ap length (is.means at os) in
    omega (arith, over, dense, same)

-- a function whose template is too long
pub long_function : (w : Program) (m : Meanings) (ts : List Slot) (owner : Option ℕ) (e : ℕ)
    (place : Place) (name args : List ℕ) (j : ℕ) → IsReady w m ts owner e → IsKind w e (Use place name args)
    → (found : IsUseOf w owner e args j) → IsLong w (Some j) (found.function).body → IsLong w owner e
long_function w m ts owner e place name args j ready (x, there, kind) found long = λ at os are.
    let v = pieces_in (scope_in w owner at os) w.exprs in
    let some : (a : ℕ) → Contains args a → 1 ≤ length (v a) = λ a c.
    some_pieces w m ts owner a
    (ready_operand w m ts owner e x a ready there (subst (λ q. Contains (operands q) a) (sym kind) c)) at os are in
    let around : args_around (functions w) (Some j) ≡ (found.function).args = ap args_of found.here in
    let many = found.as_many in
    let same = ap length around in
    let size = length-map v args in
    let inner : AreOperands w (Some j) (map v args) =
    record { as_many = omega (arith, many, same, size); some = all_some v args some } in
    let over = long (place_of w.exprs at (own_place owner e)) (map v args) inner in
    let all = ap length (found.pieces at os) in
    omega (arith, over, all)
  where
    all_some : (v : ℕ → List Expr) (os : List ℕ) → ((a : ℕ) → Contains os a → 1 ≤ length (v a))
        → AllByRecursion (λ u. 1 ≤ length u) (map v os)
    all_some v [] h = tt
    all_some v (o ∷ os) h = (h o (contains_head o os), all_some v os (λ a c. h a (contains_behind a o os c)))
