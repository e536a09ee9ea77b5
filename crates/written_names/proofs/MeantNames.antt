-- What the meaning of an expression says of its name: whether it is an argument, or may be used there.
use Rattle.std.proofs.Common.{◌≡◌, ◌∙◌, ℕ, zero, suc, ◌<◌, ◌≤◌, List, [], ◌∷◌, Bool, true, false, cond, refl, sym, ap}
use Rattle.std.proofs.Common.{subst}
use Rattle.std.proofs.Common.{arith, Option, Some, None, map, get_or}
use Rattle.std.specs.Prelude.{is_some, length}
use Rattle.std.specs.Option.{option_map}
use Rattle.std.proofs.lemmas.Option.{none-some, same_Some, get_or_from_slice_get}
use Rattle.mp_base.specs.declared.refusal.Place.{Place}
use Rattle.mp_base.specs.Entries.{IsAt}
use Rattle.mp_base.proofs.Entries.{get_map, map_get, within, some_entry, entry}
use Rattle.mp_program.specs.Names.{is_same}
use Rattle.mp_program.proofs.Definitions.{is_same_of, same_is}
use Rattle.mp_written.specs.declared.program.ExprKind.TheVariants.{Named, Use}
use Rattle.mp_written.specs.declared.program.Arg.{Arg}
use Rattle.mp_written.specs.declared.program.Def.{Def}
use Rattle.mp_written.specs.declared.program.Expr.{Expr}
use Rattle.mp_written.specs.declared.program.Program.{Program}
use Rattle.mp_written.specs.Functions.{Function, functions, arg_index}
use Rattle.mp_written.specs.Sound.{InBody}
use Rattle.mp_written.proofs.Roots.{one_body}
use Rattle.written_rules.specs.Naming.{IsArgument, MayUse}
use Rattle.written_meanings.specs.declared.meanings.Meaning.{Meaning}
use Rattle.written_meanings.specs.Firsts.{first_of}
use Rattle.written_meanings.specs.declared.meanings.Meanings.{Meanings}
use Rattle.written_meanings.specs.Meanings.{AreMeanings, IsMeaning, IsOwner, args_around, args_of, argument, used}
use Rattle.written_meanings.specs.Meanings.{usable, function_named}
use Rattle.written_meanings.proofs.FirstNumbers.{first_function, first_usable, first_at, first_least, below}
use Rattle.written_meanings.proofs.FirstNumbers.{below_some, is_below}

arg_names : List Arg → List (List ℕ)
arg_names args = map (λ (a : Arg). a.name) args

-- an index of a name is that of an argument of the name
arg_found : (args : List Arg) (n : List ℕ) → is_some (arg_index args n) ≡ true
    → (i : ℕ) × (a : Arg) × IsAt args i a × (a.name ≡ n)
arg_found [] n h = cc
arg_found (a ∷ rest) n h = turn (arg_found rest n) (is_same a.name n) refl (arg_index rest n) refl h
  where
    turn : (is_some (arg_index rest n) ≡ true → (i : ℕ) × (b : Arg) × IsAt rest i b × (b.name ≡ n)) → (t : Bool)
        → is_same a.name n ≡ t → (o : Option ℕ) → arg_index rest n ≡ o
        → is_some (cond t (Some 0) (option_map suc o)) ≡ true
        → (i : ℕ) × (b : Arg) × IsAt (a ∷ rest) i b × (b.name ≡ n)
    turn more true same o is h = (0, a, refl, same_is a.name n same)
    turn more false same None is h = cc
    turn more false same (Some j) is h = let (i, b, at, named) = more (ap is_some is) in (suc i, b, at, named)

found_arg : (args : List Arg) (n : List ℕ) (i : ℕ) (a : Arg) → IsAt args i a → a.name ≡ n
    → is_some (arg_index args n) ≡ true
found_arg [] n i a at named = absurd (none-some a at)
found_arg (b ∷ rest) n zero a at named =
    let same = is_same_of b.name n (ap (λ (c : Arg). c.name) (same_Some b a at) ∙ named) in
    ap (λ t. is_some (cond t (Some 0) (option_map suc (arg_index rest n)))) same
found_arg (b ∷ rest) n (suc i) a at named = turn (is_same b.name n) (arg_index rest n) (found_arg rest n i a at named)
  where
    turn : (t : Bool) (o : Option ℕ) → is_some o ≡ true → is_some (cond t (Some 0) (option_map suc o)) ≡ true
    turn true o h = refl
    turn false None h = cc
    turn false (Some j) h = refl

-- the function of a number, among those of which this is the first of the name
function_at : (fs : List Function) (n : List ℕ) (j : ℕ) → first_of (map (λ (f : Function). f.name) fs) n ≡ Some j
    → (g : Function) × IsAt fs j g × (g.name ≡ n)
function_at fs n j is =
    get_map (λ (f : Function). f.name) fs j n (first_at (map (λ (f : Function). f.name) fs) n j is)

no : {A : Type 0} {b : Bool} → b ≡ true → b ≡ false → A
no {A} {b} t f = absurd (let e : true ≡ false = sym t ∙ f in cc)

module _ (w : Program) (e : ℕ) (x : Expr) (m : Meaning) (means : IsMeaning w e x m) where
  pub owner_told : (k : ℕ) → m.owner ≡ Some k → (f : Function) × InBody w k f e
  owner_told k is = subst (IsOwner w e) is means.owner

  pub owner_not : m.owner ≡ None → (k : ℕ) (f : Function) → ¬ InBody w k f e
  owner_not is = subst (IsOwner w e) is means.owner

  pub owner_is : (k : ℕ) (f : Function) → InBody w k f e → m.owner ≡ Some k
  owner_is k f body = turn m.owner refl
    where
      turn : (o : Option ℕ) → m.owner ≡ o → m.owner ≡ Some k
      turn None is = absurd (owner_not is k f body)
      turn (Some j) is = let (g, there) = owner_told j is in is ∙ ap Some (one_body w j k g f e there body)

  argument_in : (n : List ℕ) (k : ℕ) (f : Function) → x.kind ≡ Named n → InBody w k f e
      → m.argument ≡ arg_index f.args n
  argument_in n k f is body =
      means.argument ∙ ap (argument (args_around (functions w) m.owner)) is
      ∙ ap (λ o. arg_index (args_around (functions w) o) n) (owner_is k f body)
      ∙ ap (λ o. arg_index (args_of o) n) body.0

  pub has_argument : (n : List ℕ) → x.kind ≡ Named n → is_some m.argument ≡ true → IsArgument w e n
  has_argument n is some = turn m.owner refl
    where
      turn : (o : Option ℕ) → m.owner ≡ o → IsArgument w e n
      turn None owner = no some (ap is_some (means.argument ∙ ap (argument (args_around (functions w) m.owner)) is
          ∙ ap (λ p. arg_index (args_around (functions w) p) n) owner))
      turn (Some k) owner =
          let (f, body) = owner_told k owner in
          let (i, a, at, named) = arg_found f.args n (ap is_some (sym (argument_in n k f is body)) ∙ some) in
          (k, f, body, i, a, at, named)

  pub no_argument : (n : List ℕ) → x.kind ≡ Named n → is_some m.argument ≡ false → ¬ IsArgument w e n
  no_argument n is none (k, f, body, i, a, at, named) =
      no (found_arg f.args n i a at named) (ap is_some (sym (argument_in n k f is body)) ∙ none)

  used_is : (h : Place) (n os : List ℕ) → x.kind ≡ Use h n os
      → m.function ≡ function_named (usable (functions w) m.owner) n
  used_is h n os is = means.function ∙ ap (used (usable (functions w) m.owner)) is

  pub has_function : (h : Place) (n os : List ℕ) (j : ℕ) → x.kind ≡ Use h n os → m.function ≡ Some j
      → (g : Function) × MayUse w e n j g
  has_function h n os j is some = turn m.owner refl
    where
      turn : (o : Option ℕ) → m.owner ≡ o → (g : Function) × MayUse w e n j g
      turn None owner =
          let (g, at, named) = function_at (functions w) n j (sym (first_function (functions w) n)
          ∙ ap (λ p. function_named (usable (functions w) p) n) (sym owner) ∙ sym (used_is h n os is) ∙ some) in
          (g, (at, named, λ k f body. absurd (owner_not owner k f body)))
      turn (Some k) owner =
          let first = sym (first_usable (functions w) k n)
          ∙ ap (λ p. function_named (usable (functions w) p) n) (sym owner) ∙ sym (used_is h n os is) ∙ some in
          let (found, lt) = below_some k (first_of (map (λ (f : Function). f.name) (functions w)) n) j first in
          let (g, at, named) = function_at (functions w) n j found in (
            g,
            (
              at,
              named,
              λ l f body. let same = same_Some l k (sym (owner_is l f body)
                  ∙ owner) in omega (arith, lt, same),
            ),
          )

  pub no_function : (h : Place) (n os : List ℕ) → x.kind ≡ Use h n os → m.function ≡ None
      → (j : ℕ) (g : Function) → ¬ MayUse w e n j g
  no_function h n os is none j g (at, named, earlier) = turn m.owner refl
    where
      names : List (List ℕ)
      names = map (λ (f : Function). f.name) (functions w)

      least : (i : ℕ) × (first_of names n ≡ Some i) × (i ≤ j)
      least = first_least names n j (map_get (λ (f : Function). f.name) (functions w) j g at ∙ ap Some named)

      turn : (o : Option ℕ) → m.owner ≡ o → ⊥
      turn None owner =
          none-some least.0 (sym none ∙ used_is h n os is ∙ ap (λ p. function_named (usable (functions w) p) n) owner
          ∙ first_function (functions w) n ∙ least.1)
      turn (Some k) owner =
          let (f, body) = owner_told k owner in
          let lt = earlier k f body in
          let le = least.2 in
          none-some least.0 (sym none ∙ used_is h n os is ∙ ap (λ p. function_named (usable (functions w) p) n) owner
          ∙ first_usable (functions w) k n ∙ ap (below k) least.1 ∙ is_below k least.0 (omega (arith, lt, le)))

-- the meaning of the expression at an index
pub meaning_at : (w : Program) (ms : Meanings) (e : ℕ) (x : Expr) (d : Meaning) → AreMeanings w ms → IsAt w.exprs e x
    → IsMeaning w e x (get_or ms.exprs e d)
meaning_at w ms e x d are at =
    let lt = within w.exprs e at in
    let size = are.as_many in
    let (m, there) = some_entry ms.exprs e (omega (arith, lt, size)) in
    subst (IsMeaning w e x) (sym (get_or_from_slice_get ms.exprs e m d there)) (are.exprs e x m at there)

-- the expression that is read at an index
pub expr_at : (exprs items : List Expr) (e : ℕ) (x : Expr) → items ≡ exprs → e < length items → x ≡ get_or items e x
    → IsAt exprs e x
expr_at exprs items e x same lt is = subst (λ (xs : List Expr). IsAt xs e x) same (entry items e lt is)

-- the same of definitions
pub def_at : (defs items : List Def) (k : ℕ) (d : Def) → items ≡ defs → k < length items → d ≡ get_or items k d
    → IsAt defs k d
def_at defs items k d same lt is = subst (λ (ds : List Def). IsAt ds k d) same (entry items k lt is)
