-- What an expression of a sort becomes has this sort, and in it each operand has the sort that is wanted.
use Rattle.std.proofs.Common.{◌≡◌, ◌∙◌, ℕ, zero, suc, ◌<◌, List, [], ◌∷◌, ◌++◌, refl, sym, ap, subst, arith, length}
use Rattle.std.proofs.Common.{take, drop, append_assoc}
use Rattle.std.specs.Prelude.{map, slice_get, slice_index_or, Some, None, Option, unwrap_or, Contains, ⊤}
use Rattle.std.specs.List.{flat_map, AllByRecursion}
use Rattle.std.proofs.lemmas.Option.{none-some, same_Some}
use Rattle.mp_base.specs.declared.refusal.Place.{Place}
use Rattle.mp_base.specs.Entries.{IsAt}
use Rattle.mp_base.proofs.Contents.{contains_head, contains_behind}
use Rattle.mp_written.specs.declared.program.ExprKind.{ExprKind}
use Rattle.mp_written.specs.declared.program.ExprKind.TheVariants.{Number, Named, True, False, Apply, Use}
use Rattle.mp_written.specs.declared.program.Arg.{Arg}
use Rattle.mp_written.specs.declared.program.Def.{Def}
use Rattle.mp_written.specs.declared.program.Expr.{Expr}
use Rattle.mp_written.specs.Functions.{Function, function_index, arg_index}
use Rattle.mp_written.specs.Tree.{operands}
use Rattle.mp_written.specs.Sound.{AreBehind}
use Rattle.mp_written.specs.Pieces.{Scope, Body, kind_pieces, copied, name_pieces, pieces_in, nothing, body_scope, body_of}
use Rattle.mp_written.specs.Pieces.{bodies, outside}
use Rattle.mp_written.specs.Laying.{arity}
use Rattle.expansion_laws.proofs.Laid.{joined}
use Rattle.mp_written.proofs.Pieces.{pieces_is}
use Rattle.expansion_laws.proofs.Words.{vals_of}
use Rattle.expansion_laws.proofs.ClosedClaims.{index_below, length-map}
use Rattle.mp_rules.specs.Sorts.{Sort, IsWord, IsBit, operand_sort, result_sort}
use Rattle.written_rules.specs.Sorts.{expr_sort, name_sort, named_sort, sort_at, body_sort, function_sorts}
use Rattle.expansion_laws.specs.Lawful.{IsLawfulKind}
use Rattle.mp_written.specs.declared.program.Program.{Program}
use Rattle.mp_written.specs.Functions.{functions}
use Rattle.mp_written.specs.Pieces.{pieces}
use Rattle.std.proofs.lemmas.Bool.{cases_lt}
use Rattle.std.proofs.Common.{length-append, inl, inr}
use Rattle.std.proofs.lemmas.List.{get_or_append_left}

-- the sort of what is left
abbrev pub left_sort : List Def → ExprKind → Option Sort
left_sort defs (Number n) = Some IsWord
left_sort defs (Named x) = name_sort defs x
left_sort defs True = Some IsBit
left_sort defs False = Some IsBit
left_sort defs (Apply op k os) = Some (result_sort op)
left_sort defs (Use at x os) = None

abbrev pub sorts_of : List Def → List Expr → List (Option Sort)
sorts_of defs xs = vals_of (λ k vs. left_sort defs k) xs

-- the sort that is wanted of operands
abbrev pub wanted : ExprKind → Sort
wanted (Apply op k os) = operand_sort op
wanted _ = IsWord

abbrev pub Meets : ExprKind → List (Option Sort) → Type 0
Meets k ss = AllByRecursion (λ s. s ≡ Some (wanted k)) ss

-- each operand has the sort that is wanted
abbrev pub Fine : List Def → List Expr → Type 0
Fine defs [] = ⊤
Fine defs (x ∷ xs) = Meets x.kind (take (arity x.kind) (sorts_of defs xs)) × Fine defs xs

pub record IsSorted (defs : List Def) (s : Sort) (xs : List Expr) : Type 0 where
  pub told : (rest : List Expr) → sorts_of defs (xs ++ rest) ≡ Some s ∷ sorts_of defs rest
  pub fine : (rest : List Expr) → Fine defs rest → Fine defs (xs ++ rest)

AreSorted : List Def → Sort → List (List Expr) → Type 0
AreSorted defs s vs = AllByRecursion (IsSorted defs s) vs

copies : Sort → List (List Expr) → List (Option Sort)
copies s [] = []
copies s (v ∷ vs) = Some s ∷ copies s vs

length-copies : (s : Sort) (vs : List (List Expr)) → length (copies s vs) ≡ length vs
unfolding copies
length-copies s [] = refl
length-copies s (v ∷ vs) = let rest = length-copies s vs in omega (arith, rest)

told_joined : (defs : List Def) (s : Sort) (vs : List (List Expr)) → AllByRecursion (IsSorted defs s) vs
    → (rest : List Expr) → sorts_of defs (joined vs ++ rest) ≡ copies s vs ++ sorts_of defs rest
unfolding copies
told_joined defs s [] h rest = refl
told_joined defs s (v ∷ vs) h rest =
    ap (sorts_of defs) (append_assoc v (joined vs) rest) ∙ (h.0).told (joined vs ++ rest)
    ∙ ap (λ ys. Some s ∷ ys) (told_joined defs s vs h.1 rest)

fine_joined : (defs : List Def) (s : Sort) (vs : List (List Expr)) → AllByRecursion (IsSorted defs s) vs
    → (rest : List Expr) → Fine defs rest → Fine defs (joined vs ++ rest)
fine_joined defs s [] h rest f = f
fine_joined defs s (v ∷ vs) h rest f =
    subst (Fine defs) (sym (append_assoc v (joined vs) rest))
    ((h.0).fine (joined vs ++ rest) (fine_joined defs s vs h.1 rest f))

take_front : {V : Type 0} (xs ys : List V) (k : ℕ) → k ≡ length xs → take k (xs ++ ys) ≡ xs
take_front [] ys zero e = refl
take_front [] ys (suc k) e = absurd (omega (arith, e))
take_front (x ∷ xs) ys zero e = absurd (omega (arith, e))
take_front (x ∷ xs) ys (suc k) e = ap (λ zs. x ∷ zs) (take_front xs ys k (omega (arith, e)))

drop_front : {V : Type 0} (xs ys : List V) (k : ℕ) → k ≡ length xs → drop k (xs ++ ys) ≡ ys
drop_front [] ys zero e = refl
drop_front [] ys (suc k) e = absurd (omega (arith, e))
drop_front (x ∷ xs) ys zero e = absurd (omega (arith, e))
drop_front (x ∷ xs) ys (suc k) e = drop_front xs ys k (omega (arith, e))

all_copies : (s : Sort) (vs : List (List Expr)) → AllByRecursion (λ t. t ≡ Some s) (copies s vs)
unfolding copies
all_copies s [] = tt
all_copies s (v ∷ vs) = (refl, all_copies s vs)

leaf_sorted : (defs : List Def) (s : Sort) (x : Expr) → arity x.kind ≡ 0 → left_sort defs x.kind ≡ Some s
    → IsSorted defs s (x ∷ [])
leaf_sorted defs s x none is = record {
  told = λ rest. ap (λ n. left_sort defs x.kind ∷ drop n (sorts_of defs rest)) none ∙ ap (λ t. t ∷ sorts_of defs rest) is;
  fine = λ rest f. (subst (λ n. Meets x.kind (take n (sorts_of defs rest))) (sym none) tt, f);
}

node_sorted : (defs : List Def) (s : Sort) (x : Expr) (vs : List (List Expr)) → arity x.kind ≡ length vs
    → left_sort defs x.kind ≡ Some s → AllByRecursion (IsSorted defs (wanted x.kind)) vs → IsSorted defs s (x ∷ joined vs)
node_sorted defs s x vs many is all = record {
  told = λ rest.
      (ap (λ ys. left_sort defs x.kind ∷ drop (arity x.kind) ys) (told_joined defs (wanted x.kind) vs all rest)
      ∙ ap (λ ys. left_sort defs x.kind ∷ ys) (drop_front (copies (wanted x.kind) vs) (sorts_of defs rest) (arity x.kind)
      (many ∙ sym (length-copies (wanted x.kind) vs)))
      ∙ ap (λ t. t ∷ sorts_of defs rest) is);
  fine = λ rest f. (
    subst (λ ys. Meets x.kind (take (arity x.kind) ys)) (sym (told_joined defs (wanted x.kind) vs all rest))
        (subst (Meets x.kind) (sym (take_front (copies (wanted x.kind) vs) (sorts_of defs rest) (arity x.kind)
        (many ∙ sym (length-copies (wanted x.kind) vs)))) (all_copies (wanted x.kind) vs)),
    fine_joined defs (wanted x.kind) vs all rest f,
  );
}

-- ---- expressions of a sort

-- expression e is of this sort, and so is each operand of what it is wanted to be; uses are lawful
pub data IsOfSort (defs : List Def) (exprs : List Expr) (fs : List Function) (sorts : List (Option Sort)) (args : List Arg) :
    ℕ → Sort → Type 0 where
  of_sort : (e : ℕ) (x : Expr) (s : Sort) → IsAt exprs e x → expr_sort defs fs sorts args x.kind ≡ Some s
      → IsLawfulKind fs x.kind
      → ((a : ℕ) → Contains (operands x.kind) a → IsOfSort defs exprs fs sorts args a (wanted x.kind))
      → IsOfSort defs exprs fs sorts args e s

map_so : (defs : List Def) (s : Sort) (v : ℕ → List Expr) (os : List ℕ) → ((a : ℕ) → Contains os a → IsSorted defs s (v a))
    → AllByRecursion (IsSorted defs s) (map v os)
map_so defs s v [] h = tt
map_so defs s v (o ∷ os) h = (h o (contains_head o os), map_so defs s v os (λ a c. h a (contains_behind a o os c)))

flat_joined : (v : ℕ → List Expr) (os : List ℕ) → flat_map v os ≡ joined (map v os)
flat_joined v [] = refl
flat_joined v (o ∷ os) = ap (λ ys. v o ++ ys) (flat_joined v os)

operand_so : (defs : List Def) (os : List (List Expr)) (i : ℕ) → i < length os → AllByRecursion (IsSorted defs IsWord) os
    → IsSorted defs IsWord (slice_index_or os i [])
operand_so defs [] i lt h = absurd (omega (arith, lt))
operand_so defs (o ∷ os) zero lt h = h.0
operand_so defs (o ∷ os) (suc i) lt h = operand_so defs os i (omega (arith, lt)) h.1

-- what the uses of functions become, where operands are words
abbrev pub BodiesSorted : List Def → List Function → List (Option Sort) → List Body → Type 0
BodiesSorted defs fs sorts bs = (j : ℕ) (f : Function) (t : Sort) → IsAt fs j f → slice_index_or sorts j None ≡ Some t
    → (at : Place) (os : List (List Expr)) → length os ≡ length f.args → AllByRecursion (IsSorted defs IsWord) os
    → IsSorted defs t (slice_index_or bs j nothing at os)

module _ (defs : List Def) (fs : List Function) (s : Scope) (exprs : List Expr) (sorts : List (Option Sort))
    (sound : AreBehind exprs)
    (many : length s.operands ≡ length s.args) (all : AllByRecursion (IsSorted defs IsWord) s.operands)
    (real : (j : ℕ) (f : Function) → IsAt s.functions j f → IsAt fs j f)
    (known : BodiesSorted defs fs sorts s.bodies) where
  copied_so : (x : Expr) (k : ExprKind) (t : Sort) → x.kind ≡ k → arity k ≡ 0 → left_sort defs k ≡ Some t
      → IsSorted defs t (copied s x)
  copied_so x k t is none sort =
      leaf_sorted defs t (record { place = unwrap_or s.outermost x.place; kind = x.kind }) (ap arity is ∙ none)
      (ap (left_sort defs) is ∙ sort)

  name_so : (x : Expr) (name : List ℕ) (t : Sort) → x.kind ≡ Named name → (o : Option ℕ) → arg_index s.args name ≡ o
      → named_sort defs name o ≡ Some t → IsSorted defs t (name_pieces s x o)
  name_so x name t is None e sort = copied_so x (Named name) t is refl sort
  name_so x name t is (Some i) e sort =
      subst (λ u. IsSorted defs u (slice_index_or s.operands i [])) (same_Some IsWord t sort)
      (operand_so defs s.operands i (let lt = index_below s.args name i e in omega (arith, lt, many)) all)

  kind_so : (x : Expr) (k : ExprKind) (t : Sort) → x.kind ≡ k → expr_sort defs s.functions sorts s.args k ≡ Some t
      → IsLawfulKind s.functions k
      → ((a : ℕ) → Contains (operands k) a → IsSorted defs (wanted k) (pieces_in s exprs a))
      → IsSorted defs t (kind_pieces s x k (pieces_in s exprs))
  kind_so x (Number n) t is sort fit below = copied_so x (Number n) t is refl sort
  kind_so x (Named name) t is sort fit below = name_so x name t is (arg_index s.args name) refl sort
  kind_so x True t is sort fit below = copied_so x True t is refl sort
  kind_so x False t is sort fit below = copied_so x False t is refl sort
  kind_so x (Apply op k os) t is sort fit below =
      let here : Expr = record { place = unwrap_or s.outermost x.place; kind = x.kind } in
      let vs = map (pieces_in s exprs) os in
      let n : arity x.kind ≡ length vs = ap arity is ∙ sym (length-map (pieces_in s exprs) os) in
      subst (λ ys. IsSorted defs t (here ∷ ys)) (sym (flat_joined (pieces_in s exprs) os))
      (node_sorted defs t here vs n (ap (left_sort defs) is ∙ sort)
      (subst (λ q. AllByRecursion (IsSorted defs (wanted q)) vs) (sym is)
      (map_so defs (operand_sort op) (pieces_in s exprs) os below)))
  kind_so x (Use at name os) t is sort (f, found, as_many) below =
      known (function_index s.functions name) f t (real (function_index s.functions name) f found) sort
      (unwrap_or s.outermost x.place) (map (pieces_in s exprs) os) (length-map (pieces_in s exprs) os ∙ as_many)
      (map_so defs IsWord (pieces_in s exprs) os below)

  pub so_in : (e : ℕ) (t : Sort) → IsOfSort defs exprs s.functions sorts s.args e t → IsSorted defs t (pieces_in s exprs e)
  so_in e t (of_sort e2 x t2 at is fit below) =
      subst (IsSorted defs t2) (sym (pieces_is s exprs sound e2 x at))
      (kind_so x x.kind t2 refl is fit (λ a c. so_in a (wanted x.kind) (below a c)))

-- ---- the bodies

one_more : (defs : List Def) (fs : List Function) (k : ℕ) (sorts : List (Option Sort)) (bs : List Body) (s : Option Sort)
    (b : Body) → length sorts ≡ k → length bs ≡ k → BodiesSorted defs fs sorts bs
    → ((f : Function) (t : Sort) → IsAt fs k f → s ≡ Some t → (at : Place) (os : List (List Expr))
    → length os ≡ length f.args → AllByRecursion (IsSorted defs IsWord) os → IsSorted defs t (b at os))
    → BodiesSorted defs fs (sorts ++ s ∷ []) (bs ++ b ∷ [])
one_more defs fs k sorts bs s b ls lb known new j f t at is place os many all = elim (cases_lt j k) [
  | inl lt ↦
      (let old : slice_index_or sorts j None ≡ Some t =
      sym (get_or_append_left sorts (s ∷ []) None j (omega (arith, lt, ls))) ∙ is in
      subst (λ c. IsSorted defs t (c place os))
      (sym (get_or_append_left bs (b ∷ []) nothing j (omega (arith, lt, lb)))) (known j f t at old place os many all))
  | inr le ↦ elim (cases_lt k j) [
    | inl past ↦ absurd (none-some t (sym (beyond sorts s j (omega (arith, past, ls))) ∙ is))
    | inr ge ↦
        (let e : j ≡ k = omega (arith, le, ge) in
        let now : s ≡ Some t = sym (last sorts s j (omega (arith, e, ls)) None) ∙ is in
        subst (λ c. IsSorted defs t (c place os)) (sym (last bs b j (omega (arith, e, lb)) nothing))
        (new f t (subst (λ i. IsAt fs i f) e at) now place os many all))
  ]
]
  where
    beyond : (xs : List (Option Sort)) (y : Option Sort) (i : ℕ) → length xs < i → slice_index_or (xs ++ y ∷ []) i None ≡ None
    beyond [] y zero lt = absurd (omega (arith, lt))
    beyond [] y (suc zero) lt = refl
    beyond [] y (suc (suc i)) lt = refl
    beyond (x ∷ xs) y zero lt = absurd (omega (arith, lt))
    beyond (x ∷ xs) y (suc i) lt = beyond xs y i (omega (arith, lt))

    last : {X : Type 0} (xs : List X) (y : X) (i : ℕ) → i ≡ length xs → (d : X) → slice_index_or (xs ++ y ∷ []) i d ≡ y
    last [] y zero e d = refl
    last [] y (suc i) e d = absurd (omega (arith, e))
    last (x ∷ xs) y zero e d = absurd (omega (arith, e))
    last (x ∷ xs) y (suc i) e d = last xs y i (omega (arith, e)) d

none_sorted : (defs : List Def) (fs : List Function) → BodiesSorted defs fs [] []
none_sorted defs fs zero f t at is place os many all = absurd (none-some t is)
none_sorted defs fs (suc i) f t at is place os many all = absurd (none-some t is)

get_take : {X : Type 0} (xs : List X) (k j : ℕ) (x : X) → slice_get (take k xs) j ≡ Some x → slice_get xs j ≡ Some x
get_take xs zero j x is = absurd (none-some x is)
get_take [] (suc k) j x is = absurd (none-some x is)
get_take (y ∷ ys) (suc k) zero x is = is
get_take (y ∷ ys) (suc k) (suc j) x is = get_take ys k j x is

module _ (w : Program) (sound : AreBehind w.exprs)
    (of_bodies : (k : ℕ) (f : Function) (t : Sort) → IsAt (functions w) k f
    → sort_at w.defs (take k (functions w)) (function_sorts w k) f.args (slice_get w.exprs f.body) ≡ Some t
    → IsOfSort w.defs w.exprs (take k (functions w)) (function_sorts w k) f.args f.body t) where
  length-sorts : (k : ℕ) → length (function_sorts w k) ≡ k
  length-sorts zero = refl
  length-sorts (suc k) = let rest = length-sorts k in
      omega (
        arith,
        rest,
        length-append (function_sorts w k) (body_sort w (take k (functions w)) (function_sorts w k)
            (slice_get (functions w) k) ∷ []),
      )

  length-bodies : (k : ℕ) → length (bodies w.exprs (functions w) k) ≡ k
  length-bodies zero = refl
  length-bodies (suc k) = let rest = length-bodies k in
      omega (
        arith,
        rest,
        length-append (bodies w.exprs (functions w) k) (body_of w.exprs (take k (functions w))
            (bodies w.exprs (functions w) k) (slice_get (functions w) k) ∷ []),
      )

  pub bodies_sorted : (k : ℕ) → BodiesSorted w.defs (functions w) (function_sorts w k) (bodies w.exprs (functions w) k)
  bodies_sorted zero = none_sorted w.defs (functions w)
  bodies_sorted (suc k) =
      let known = bodies_sorted k in
      one_more w.defs (functions w) k (function_sorts w k) (bodies w.exprs (functions w) k) _ _ (length-sorts k)
      (length-bodies k) known (λ f t at is place os many all.
      (let sort : body_sort w (take k (functions w)) (function_sorts w k) (Some f) ≡ Some t =
      ap (body_sort w (take k (functions w)) (function_sorts w k)) (sym at) ∙ is in
      subst (λ o. IsSorted w.defs t (body_of w.exprs (take k (functions w)) (bodies w.exprs (functions w) k) o place os))
      (sym at)
      (so_in w.defs (functions w) (body_scope (take k (functions w)) (bodies w.exprs (functions w) k) f place os) w.exprs
      (function_sorts w k) sound many all (λ j g there. get_take (functions w) k j g there) known f.body t
      (of_bodies k f t at sort))))

  -- outside of bodies
  pub outside_sorted : (e : ℕ) (t : Sort)
      → IsOfSort w.defs w.exprs (functions w) (function_sorts w (length (functions w))) [] e t
      → IsSorted w.defs t (pieces w e)
  outside_sorted e t of =
      so_in w.defs (functions w) (outside w.exprs (functions w)) w.exprs (function_sorts w (length (functions w))) sound refl
      tt (λ j g there. there) (bodies_sorted (length (functions w))) e t of
