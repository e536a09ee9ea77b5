-- What a lawful expression becomes is closed: one expression with all that stands in it.
use Rattle.std.proofs.Common.{◌≡◌, ◌∙◌, ℕ, zero, suc, ◌+◌, ◌<◌, ◌≤◌, List, [], ◌∷◌, ◌++◌, refl, sym, ap, subst, arith, length}
use Rattle.std.proofs.Common.{take, take_all}
use Rattle.std.specs.Prelude.{map, slice_get, slice_index_or, Some, None, Option, unwrap_or, Contains, true, if◌then◌else◌, ⊤}
use Rattle.std.specs.Option.{option_map}
use Rattle.std.specs.List.{flat_map, AllByRecursion}
use Rattle.std.proofs.lemmas.List.{take_more}
use Rattle.std.proofs.lemmas.Option.{none-some, same_Some}
use Rattle.mp_base.specs.Apply.{takes}
use Rattle.mp_base.specs.declared.refusal.Place.{Place}
use Rattle.mp_base.specs.Entries.{IsAt}
use Rattle.mp_base.proofs.Contents.{contains_head, contains_behind}
use Rattle.mp_base.proofs.Entries.{some_entry, read_of}
use Rattle.mp_base.proofs.Induction.{by_test}
use Rattle.mp_program.specs.Names.{is_same}
use Rattle.mp_program.specs.Fits.{is_symbol}
use Rattle.mp_written.specs.declared.program.ExprKind.{ExprKind}
use Rattle.mp_written.specs.declared.program.ExprKind.TheVariants.{Number, Named, True, False, Apply, Use}
use Rattle.mp_written.specs.declared.program.Arg.{Arg}
use Rattle.mp_written.specs.declared.program.Expr.{Expr}
use Rattle.mp_written.specs.Functions.{Function, function_index, arg_index}
use Rattle.mp_written.specs.Tree.{operands}
use Rattle.mp_written.specs.Sound.{AreBehind, Under, itself, deeper}
use Rattle.expansion_laws.specs.Lawful.{IsLawfulKind, IsLawful, lawful, AreLawfulBodies}
use Rattle.mp_written.specs.Pieces.{Scope, Body, kind_pieces, copied, name_pieces, pieces_in, nothing, body_scope, body_of}
use Rattle.mp_written.specs.Pieces.{bodies, outside}
use Rattle.mp_written.specs.Laying.{arity}
use Rattle.expansion_laws.proofs.Laid.{joined}
use Rattle.mp_written.proofs.Pieces.{pieces_is}

-- a kind of what is left: no use, names are symbols, and operators have as many operands as they take
abbrev pub FitsKind : ExprKind → Type 0
FitsKind (Number n) = ⊤
FitsKind (Named x) = is_symbol x ≡ true
FitsKind True = ⊤
FitsKind False = ⊤
FitsKind (Apply op k os) = takes op (length os) ≡ true
FitsKind (Use at x os) = ⊥

-- a kind that is left where it stands: no use, and no name of these arguments
abbrev pub IsFree : List Arg → ExprKind → Type 0
IsFree args (Named x) = arg_index args x ≡ None
IsFree args (Use at x os) = ⊥
IsFree args k = ⊤

-- a claim that passes from operands to what they stand in, where K holds of each kind that is left
pub record IsClosed (K : ExprKind → Type 0) (Q : List Expr → Type 0) : Type 0 where
  pub leaf : (x : Expr) → arity x.kind ≡ 0 → K x.kind → Q (x ∷ [])
  pub node : (x : Expr) (vs : List (List Expr)) → arity x.kind ≡ length vs → K x.kind → AllByRecursion Q vs
      → Q (x ∷ joined vs)

-- K holds of what is left of the expressions at which R holds
abbrev pub Gives : (ExprKind → Type 0) → (ℕ → Type 0) → List Expr → List Function → List Arg → Type 0
Gives K R exprs fs args = (e : ℕ) (x : Expr) → R e → IsAt exprs e x → IsLawfulKind fs x.kind → IsFree args x.kind → K x.kind

pub under_more : (exprs : List Expr) (d e a : ℕ) (x : Expr) → Under exprs d e → IsAt exprs e x
    → Contains (operands x.kind) a → Under exprs d a
under_more exprs d e a x itself at c = deeper x at c itself
under_more exprs d e a x (deeper {e = b} y yat yc under) at c = deeper y yat yc (under_more exprs b e a x under at c)

some_suc : (o : Option ℕ) (i : ℕ) → option_map suc o ≡ Some i → (j : ℕ) × (o ≡ Some j) × (suc j ≡ i)
some_suc None i e = absurd (none-some i e)
some_suc (Some j) i e = (j, refl, same_Some (suc j) i e)

pub index_below : (args : List Arg) (x : List ℕ) (i : ℕ) → arg_index args x ≡ Some i → i < length args
index_below [] x i e = absurd (none-some i e)
index_below (a ∷ rest) x i e = by_test (is_same a.name x)
    (λ yes. (let z : Some 0 ≡ Some i = sym (ap (λ b. if b then Some 0 else option_map suc (arg_index rest x)) yes) ∙ e in
    let n = same_Some 0 i z in omega (arith, n)))
    (λ no. (let z : option_map suc (arg_index rest x) ≡ Some i =
    sym (ap (λ b. if b then Some 0 else option_map suc (arg_index rest x)) no) ∙ e in
    let (j, is, next) = some_suc (arg_index rest x) i z in
    let less = index_below rest x j is in omega (arith, next, less)))

flat_joined : (v : ℕ → List Expr) (os : List ℕ) → flat_map v os ≡ joined (map v os)
flat_joined v [] = refl
flat_joined v (o ∷ os) = ap (λ ys. v o ++ ys) (flat_joined v os)

pub length-map : {X Y : Type 0} (f : X → Y) (xs : List X) → length (map f xs) ≡ length xs
length-map f [] = refl
length-map f (x ∷ xs) = let rest = length-map f xs in omega (arith, rest)

same_function : (x y : Function) → Some x ≡ Some y → x ≡ y
same_function x y e = same_Some x y e

module _ (K : ExprKind → Type 0) (Q : List Expr → Type 0) (closed : IsClosed K Q) where
  abbrev pub AreSo : List (List Expr) → Type 0
  AreSo os = AllByRecursion Q os

  -- a function with what its uses become
  abbrev pub IsBody : Function → Body → Type 0
  IsBody f b = (at : Place) (os : List (List Expr)) → length os ≡ length f.args → AreSo os → Q (b at os)

  abbrev pub AreBodies : List Function → List Body → Type 0
  AreBodies [] [] = ⊤
  AreBodies [] (b ∷ bs) = ⊥
  AreBodies (f ∷ fs) [] = ⊥
  AreBodies (f ∷ fs) (b ∷ bs) = IsBody f b × AreBodies fs bs

  body_so : (fs : List Function) (bs : List Body) (k : ℕ) (f : Function) → AreBodies fs bs → slice_get fs k ≡ Some f
      → IsBody f (slice_index_or bs k nothing)
  body_so [] bs k f h at = absurd (none-some f at)
  body_so (g ∷ fs) [] k f h at = absurd h
  body_so (g ∷ fs) (b ∷ bs) zero f h at = subst (λ (x : Function). IsBody x b) (same_function g f at) h.0
  body_so (g ∷ fs) (b ∷ bs) (suc k) f h at = body_so fs bs k f h.1 at

  more_bodies : (fs : List Function) (bs : List Body) (f : Function) (b : Body) → AreBodies fs bs → IsBody f b
      → AreBodies (fs ++ f ∷ []) (bs ++ b ∷ [])
  more_bodies [] [] f b h new = (new, tt)
  more_bodies [] (c ∷ bs) f b h new = absurd h
  more_bodies (g ∷ fs) [] f b h new = absurd h
  more_bodies (g ∷ fs) (c ∷ bs) f b h new = (h.0, more_bodies fs bs f b h.1 new)

  map_so : (v : ℕ → List Expr) (os : List ℕ) → ((a : ℕ) → Contains os a → Q (v a)) → AreSo (map v os)
  map_so v [] h = tt
  map_so v (o ∷ os) h = (h o (contains_head o os), map_so v os (λ a c. h a (contains_behind a o os c)))

  operand_so : (os : List (List Expr)) (i : ℕ) → i < length os → AreSo os → Q (slice_index_or os i [])
  operand_so [] i lt h = absurd (omega (arith, lt))
  operand_so (o ∷ os) zero lt h = h.0
  operand_so (o ∷ os) (suc i) lt h = operand_so os i (omega (arith, lt)) h.1

  copied_so : (s : Scope) (x : Expr) (k : ExprKind) → x.kind ≡ k → arity k ≡ 0 → (IsFree s.args x.kind → K x.kind)
      → IsFree s.args k → Q (copied s x)
  copied_so s x k is none gives free =
      closed.leaf (record { place = unwrap_or s.outermost x.place; kind = x.kind }) (ap arity is ∙ none)
      (gives (subst (IsFree s.args) (sym is) free))

  name_so : (s : Scope) (x : Expr) (name : List ℕ) → x.kind ≡ Named name → (IsFree s.args x.kind → K x.kind)
      → length s.operands ≡ length s.args
      → AreSo s.operands → (o : Option ℕ) → arg_index s.args name ≡ o → Q (name_pieces s x o)
  name_so s x name is gives many all None e = copied_so s x (Named name) is refl gives e
  name_so s x name is gives many all (Some i) e =
      operand_so s.operands i (let lt = index_below s.args name i e in omega (arith, lt, many)) all

  module _ (R : ℕ → Type 0) (s : Scope) (exprs : List Expr) (sound : AreBehind exprs)
      (many : length s.operands ≡ length s.args)
      (all : AreSo s.operands) (bodies_are : AreBodies s.functions s.bodies)
      (gives : Gives K R exprs s.functions s.args)
      (next : (e a : ℕ) (x : Expr) → R e → IsAt exprs e x → Contains (operands x.kind) a → R a) where
    kind_so : (x : Expr) (k : ExprKind) → x.kind ≡ k → IsLawfulKind s.functions k
        → (IsFree s.args x.kind → K x.kind)
        → ((a : ℕ) → Contains (operands k) a → Q (pieces_in s exprs a))
        → Q (kind_pieces s x k (pieces_in s exprs))
    kind_so x (Number n) is fit own below = copied_so s x (Number n) is refl own tt
    kind_so x (Named name) is fit own below = name_so s x name is own many all (arg_index s.args name) refl
    kind_so x True is fit own below = copied_so s x True is refl own tt
    kind_so x False is fit own below = copied_so s x False is refl own tt
    kind_so x (Apply op k os) is fit own below =
        let here : Expr = record { place = unwrap_or s.outermost x.place; kind = x.kind } in
        let n : arity x.kind ≡ length (map (pieces_in s exprs) os) =
        ap arity is ∙ sym (length-map (pieces_in s exprs) os) in
        subst (λ ys. Q (here ∷ ys)) (sym (flat_joined (pieces_in s exprs) os))
        (closed.node here (map (pieces_in s exprs) os) n (own (subst (IsFree s.args) (sym is) tt))
        (map_so (pieces_in s exprs) os below))
    kind_so x (Use at name os) is (f, found, as_many) own below =
        body_so s.functions s.bodies (function_index s.functions name) f bodies_are found
        (unwrap_or s.outermost x.place) (map (pieces_in s exprs) os)
        (length-map (pieces_in s exprs) os ∙ as_many) (map_so (pieces_in s exprs) os below)

    pub so_in : (e : ℕ) → R e → IsLawful exprs s.functions e → Q (pieces_in s exprs e)
    so_in e reached (lawful e2 x at fit below) =
        subst Q (sym (pieces_is s exprs sound e2 x at)) (kind_so x x.kind refl fit (gives e2 x reached at fit)
        (λ a c. so_in a (next e2 a x reached at c) (below a c)))

  -- the uses of all functions become something closed
  module _ (exprs : List Expr) (fs : List Function) (sound : AreBehind exprs)
      (lawful_bodies : AreLawfulBodies exprs fs)
      (gives_body : (k : ℕ) (f : Function) → IsAt fs k f → Gives K (Under exprs f.body) exprs (take k fs) f.args)
      (R : ℕ → Type 0) (gives : Gives K R exprs fs [])
      (next : (e a : ℕ) (x : Expr) → R e → IsAt exprs e x → Contains (operands x.kind) a → R a) where
    one_body : (k : ℕ) (f : Function) → IsAt fs k f → AreBodies (take k fs) (bodies exprs fs k)
        → IsBody f (body_of exprs (take k fs) (bodies exprs fs k) (Some f))
    one_body k f at known there os many all =
        so_in (Under exprs f.body) (body_scope (take k fs) (bodies exprs fs k) f there os) exprs sound many all known
        (gives_body k f at) (λ e a x. under_more exprs f.body e a x) f.body itself (lawful_bodies k f at)

    pub all_bodies : (k : ℕ) → k ≤ length fs → AreBodies (take k fs) (bodies exprs fs k)
    all_bodies zero le = tt
    all_bodies (suc k) le =
        let known = all_bodies k (omega (arith, le)) in
        let (f, at) = some_entry fs k (omega (arith, le)) in
        let (lt, is) = read_of fs k f at in
        let e : suc k ≡ k + 1 = omega arith in
        let front : take (suc k) fs ≡ take k fs ++ f ∷ [] =
        ap (λ j. take j fs) e ∙ take_more fs k f lt ∙ ap (λ y. take k fs ++ y ∷ []) (sym is) in
        subst (λ gs. AreBodies gs (bodies exprs fs (suc k))) (sym front)
        (more_bodies (take k fs) (bodies exprs fs k) f _ known
        (subst (λ o. IsBody f (body_of exprs (take k fs) (bodies exprs fs k) o)) (sym at) (one_body k f at known)))

    -- outside of bodies
    pub outside_so : (e : ℕ) → R e → IsLawful exprs fs e → Q (pieces_in (outside exprs fs) exprs e)
    outside_so e reached law =
        so_in R (outside exprs fs) exprs sound refl tt
        (subst (λ gs. AreBodies gs (bodies exprs fs (length fs))) (take_all (length fs) fs (omega arith))
        (all_bodies (length fs) (omega arith))) gives next e reached law

-- kinds that are left fit
pub free_fits : (fs : List Function) (args : List Arg) (k : ExprKind) → IsLawfulKind fs k → IsFree args k → FitsKind k
free_fits fs args (Number n) fit free = tt
free_fits fs args (Named x) fit free = fit
free_fits fs args True fit free = tt
free_fits fs args False fit free = tt
free_fits fs args (Apply op k os) fit free = fit
free_fits fs args (Use at x os) fit free = free
