-- The number of the first of a name, once there is one name more, and among fewer names.
use Rattle.std.proofs.Common.{◌≡◌, ◌∙◌, ℕ, zero, suc, List, [], ◌∷◌, ◌++◌, Bool, true, false, cond, refl, sym, ap}
use Rattle.std.proofs.Common.{subst}
use Rattle.std.proofs.Common.{Option, Some, None, unwrap_or, map, length, take, arith, ◌<◌, ◌≤◌}
use Rattle.std.specs.Prelude.{nat_eq, nat_lt, is_some}
use Rattle.std.specs.Option.{option_map}
use Rattle.std.proofs.lemmas.Option.{slice_get_past, none-some, same_Some}
use Rattle.std.proofs.lemmas.Bool.{ltb-true}
use Rattle.std.specs.Cmp.Lexicographic.{pointwise}
use Rattle.std.proofs.lemmas.Map.Text.{hash_map_updates_str}
use Rattle.indexmap.specs.IndexMap.{Updates}
use denote.Ref.{Bor}
use Rattle.mp_program.specs.Names.{is_same}
use Rattle.mp_program.proofs.Definitions.{same_is, is_same_of}
use Rattle.mp_written.specs.declared.program.Arg.{Arg}
use Rattle.mp_written.specs.Functions.{Function, function_index, arg_index}
use Rattle.written_meanings.specs.declared.firsts.Firsts.{Firsts}
use Rattle.written_meanings.specs.Firsts.{first_of, first_in, AreFirsts}
use Rattle.mp_base.specs.declared.refusal.Place.{Place}
use Rattle.mp_base.specs.Entries.{IsAt}
use Rattle.mp_base.proofs.Entries.{within, some_entry}
use Rattle.mp_written.specs.declared.program.ExprKind.{ExprKind}
use Rattle.mp_written.specs.declared.program.ExprKind.TheVariants.{Named, Use}
use Rattle.written_meanings.specs.declared.functions.Functions.{Functions}
use Rattle.written_meanings.specs.Functions.{AreFunctions}
use Rattle.written_meanings.specs.Meanings.{function_named, usable, used, argument, args_around, args_of}

-- the keys of the map, as it compares them
abbrev pub same_key : Bor (List ℕ) → Bor (List ℕ) → Bool
same_key a b = pointwise nat_eq a.now b.now

-- the first of a name, once there is a further name
first_push : (ns : List (List ℕ)) (n x : List ℕ)
    → first_of (ns ++ n ∷ []) x ≡ cond (is_same n x) (Some (unwrap_or (first_of ns x) (length ns))) (first_of ns x)
first_push [] n x = refl
first_push (m ∷ ms) n x =
    turn (is_same m x) (is_same n x) (first_of ms x) (first_of (ms ++ n ∷ []) x) (length ms) (first_push ms n x)
  where
    turn : (a b : Bool) (f g : Option ℕ) (k : ℕ) → g ≡ cond b (Some (unwrap_or f k)) f
        → cond a (Some 0) (option_map suc g)
        ≡ cond b (Some (unwrap_or (cond a (Some 0) (option_map suc f)) (suc k))) (cond a (Some 0) (option_map suc f))
    turn true true f g k e = refl
    turn true false f g k e = refl
    turn false false f g k e = ap (option_map suc) e
    turn false true None g k e = ap (option_map suc) e
    turn false true (Some j) g k e = ap (option_map suc) e

-- a further name that is put into the map, as none had it
pub name_put : (names : List (List ℕ)) (t u : Firsts) (key : Bor (List ℕ)) (number : ℕ)
    → Updates same_key t.numbers u.numbers key (Some number) → is_some (first_in t key.now) ≡ false
    → length names ≡ number → AreFirsts names t → AreFirsts (names ++ key.now ∷ []) u
name_put names t u key number updates absent count holds x =
    hash_map_updates_str key.now t.numbers u.numbers (Some number) updates x
    ∙ turn (is_same key.now x) refl ∙ sym (first_push names key.now x)
  where
    none : (o : Option ℕ) → is_some o ≡ false → o ≡ None
    none None e = refl
    none (Some k) e = cc

    turn : (b : Bool) → is_same key.now x ≡ b → cond b (Some number) (first_in t x)
        ≡ cond b (Some (unwrap_or (first_of names x) (length names))) (first_of names x)
    turn true e =
        let here : first_of names x ≡ None = ap (first_of names) (sym (same_is key.now x e)) ∙ sym (holds key.now)
        ∙ none (first_in t key.now) absent in
        ap Some (sym (ap (λ o. unwrap_or o (length names)) here ∙ count))
    turn false e = holds x

-- a further name, which one had before
pub name_had : (names : List (List ℕ)) (t : Firsts) (n : List ℕ) → is_some (first_in t n) ≡ true → AreFirsts names t
    → AreFirsts (names ++ n ∷ []) t
name_had names t n had holds x = holds x ∙ turn (is_same n x) refl ∙ sym (first_push names n x)
  where
    some : (o : Option ℕ) (k : ℕ) → is_some o ≡ true → o ≡ Some (unwrap_or o k)
    some None k e = cc
    some (Some j) k e = refl

    turn : (b : Bool) → is_same n x ≡ b
        → first_of names x ≡ cond b (Some (unwrap_or (first_of names x) (length names))) (first_of names x)
    turn true e = some (first_of names x) (length names)
        (ap is_some (ap (first_of names) (sym (same_is n x e)) ∙ sym (holds n)) ∙ had)
    turn false e = refl

-- an argument of a name is the first of this name
pub first_arg : (args : List Arg) (x : List ℕ) → arg_index args x ≡ first_of (map (λ (a : Arg). a.name) args) x
first_arg [] x = refl
first_arg (a ∷ rest) x = ap (λ o. cond (is_same a.name x) (Some 0) (option_map suc o)) (first_arg rest x)

lt_suc : (i n : ℕ) → nat_lt (suc i) (suc n) ≡ nat_lt i n
lt_suc i n = grind arith

not_below_zero : (i : ℕ) → nat_lt i 0 ≡ false
not_below_zero i = grind arith

lift : (b c : Bool) (i : ℕ) → b ≡ c → cond b (Some (suc i)) None ≡ option_map suc (cond c (Some i) None)
lift true true i e = refl
lift false false i e = refl
lift true false i e = cc
lift false true i e = cc

-- a function of a name is the first of this name
pub first_function : (fs : List Function) (x : List ℕ)
    → function_named fs x ≡ first_of (map (λ (f : Function). f.name) fs) x
first_function [] x = refl
first_function (f ∷ fs) x =
    turn (is_same f.name x) (function_index fs x) (length fs)
    ∙ ap (λ o. cond (is_same f.name x) (Some 0) (option_map suc o)) (first_function fs x)
  where
    turn : (b : Bool) (i n : ℕ)
        → cond (nat_lt (cond b 0 (suc i)) (suc n)) (Some (cond b 0 (suc i))) None
        ≡ cond b (Some 0) (option_map suc (cond (nat_lt i n) (Some i) None))
    turn true i n = let e : nat_lt 0 (suc n) ≡ true = grind arith in ap (λ b. cond b (Some 0) None) e
    turn false i n = lift (nat_lt (suc i) (suc n)) (nat_lt i n) i (lt_suc i n)

-- a number below k, or none
abbrev pub below : ℕ → Option ℕ → Option ℕ
below k None = None
below k (Some j) = cond (nat_lt j k) (Some j) None

first_take : (k : ℕ) (ns : List (List ℕ)) (x : List ℕ) → first_of (take k ns) x ≡ below k (first_of ns x)
first_take zero [] x = refl
first_take zero (n ∷ ns) x = sym (turn (is_same n x) (first_of ns x))
  where
    turn : (b : Bool) (o : Option ℕ) → below zero (cond b (Some 0) (option_map suc o)) ≡ None
    turn true o = refl
    turn false None = refl
    turn false (Some j) = ap (λ b. cond b (Some (suc j)) None) (not_below_zero (suc j))
first_take (suc k) [] x = refl
first_take (suc k) (n ∷ ns) x =
    ap (λ o. cond (is_same n x) (Some 0) (option_map suc o)) (first_take k ns x) ∙ turn (is_same n x) (first_of ns x)
  where
    turn : (b : Bool) (o : Option ℕ) → cond b (Some 0) (option_map suc (below k o))
        ≡ below (suc k) (cond b (Some 0) (option_map suc o))
    turn true o = let e : nat_lt 0 (suc k) ≡ true = grind arith in ap (λ b. cond b (Some 0) None) (sym e)
    turn false None = refl
    turn false (Some j) = sym (lift (nat_lt (suc j) (suc k)) (nat_lt j k) j (lt_suc j k))

map_take : (k : ℕ) (fs : List Function)
    → map (λ (f : Function). f.name) (take k fs) ≡ take k (map (λ (f : Function). f.name) fs)
map_take zero fs = refl
map_take (suc k) [] = refl
map_take (suc k) (f ∷ fs) = ap (λ ys. f.name ∷ ys) (map_take k fs)

-- a function of a name among the first k
pub first_usable : (fs : List Function) (k : ℕ) (x : List ℕ)
    → function_named (usable fs (Some k)) x ≡ below k (first_of (map (λ (f : Function). f.name) fs) x)
first_usable fs k x = first_function (take k fs) x ∙ ap (λ ns. first_of ns x) (map_take k fs)
    ∙ first_take k (map (λ (f : Function). f.name) fs) x

-- what is noted of a name, where a use in a body may name fewer functions
abbrev pub limited : Option ℕ → Option ℕ → Option ℕ
limited (Some k) o = below k o
limited None o = o

pub used_is : (fs : List Function) (t : Functions) (o : Option ℕ) (kind : ExprKind) (at : Place) (x os : List ℕ)
    → AreFunctions fs t → kind ≡ Use at x os → used (usable fs o) kind ≡ limited o (first_in t.numbers x)
used_is fs t o kind at x os are is = ap (used (usable fs o)) is ∙ turn o
  where
    turn : (o : Option ℕ) → function_named (usable fs o) x ≡ limited o (first_in t.numbers x)
    turn None = first_function fs x ∙ sym (are.numbers x)
    turn (Some k) = first_usable fs k x ∙ ap (below k) (sym (are.numbers x))

pub limited_none : (o : Option ℕ) → limited o None ≡ None
limited_none None = refl
limited_none (Some k) = refl

pub at_least : (k j : ℕ) → k ≤ j → below k (Some j) ≡ None
at_least k j le = let e : nat_lt j k ≡ false = grind (arith, le) in ap (λ b. cond b (Some j) None) e

pub is_below : (k j : ℕ) → j < k → below k (Some j) ≡ Some j
is_below k j lt = let e : nat_lt j k ≡ true = grind (arith, lt) in ap (λ b. cond b (Some j) None) e

-- no arguments, where there is no function
pub no_args : (fs : List Function) (k : ℕ) (x : List ℕ) → length fs ≤ k → arg_index (args_around fs (Some k)) x ≡ None
no_args fs k x le = ap (λ o. arg_index (args_of o) x) (slice_get_past fs k le)

-- the argument of a name in a body
pub argument_is : (fs : List Function) (t : Functions) (k : ℕ) (a : Firsts) (kind : ExprKind) (x : List ℕ)
    → AreFunctions fs t → IsAt t.args k a → kind ≡ Named x → argument (args_around fs (Some k)) kind ≡ first_in a x
argument_is fs t k a kind x are at is =
    let lt = within t.args k at in
    let size = are.as_many in
    let (f, here) = some_entry fs k (omega (arith, lt, size)) in
    ap (argument (args_around fs (Some k))) is ∙ ap (λ o. arg_index (args_of o) x) here ∙ first_arg f.args x
    ∙ sym (are.args k f a here at x)

-- the first of a name is one of the name
pub first_at : (ns : List (List ℕ)) (x : List ℕ) (j : ℕ) → first_of ns x ≡ Some j → IsAt ns j x
first_at [] x j e = cc
first_at (n ∷ ns) x j e = turn (first_at ns x) (is_same n x) refl (first_of ns x) refl e
  where
    turn : ((i : ℕ) → first_of ns x ≡ Some i → IsAt ns i x) → (b : Bool) → is_same n x ≡ b → (o : Option ℕ)
        → first_of ns x ≡ o → cond b (Some 0) (option_map suc o) ≡ Some j → IsAt (n ∷ ns) j x
    turn rest true same o is e = subst (λ k. IsAt (n ∷ ns) k x) (same_Some 0 j e) (ap Some (same_is n x same))
    turn rest false same None is e = cc
    turn rest false same (Some i) is e = subst (λ k. IsAt (n ∷ ns) k x) (same_Some (suc i) j e) (rest i is)

-- and none of the name stands before it
pub first_least : (ns : List (List ℕ)) (x : List ℕ) (j : ℕ) → IsAt ns j x → (i : ℕ) × (first_of ns x ≡ Some i) × (i ≤ j)
first_least [] x j at = absurd (none-some x at)
first_least (n ∷ ns) x zero at =
    (0, ap (λ b. cond b (Some 0) (option_map suc (first_of ns x))) (is_same_of n x (same_Some n x at)), omega arith)
first_least (n ∷ ns) x (suc j) at =
    let (i, is, le) = first_least ns x j at in turn (is_same n x) i is le
  where
    turn : (b : Bool) (i : ℕ) → first_of ns x ≡ Some i → i ≤ j
        → (k : ℕ) × (cond b (Some 0) (option_map suc (first_of ns x)) ≡ Some k) × (k ≤ suc j)
    turn true i is le = (0, refl, omega arith)
    turn false i is le = (suc i, ap (option_map suc) is, omega (arith, le))

pub below_some : (k : ℕ) (o : Option ℕ) (j : ℕ) → below k o ≡ Some j → (o ≡ Some j) × (j < k)
below_some k None j e = cc
below_some k (Some i) j e = turn (nat_lt i k) refl e
  where
    turn : (b : Bool) → nat_lt i k ≡ b → cond b (Some i) None ≡ Some j → (Some i ≡ Some j) × (j < k)
    turn true lt e = let same = same_Some i j e in (e, (let less = ltb-true i k lt in omega (arith, less, same)))
    turn false lt e = cc
