-- What items mean: the pieces of the expression that they are the template of, whatever the operands become.
use Rattle.std.specs.Prelude.{◌≡◌, ◌≤◌, ◌<◌, ℕ, true, List, [], ◌∷◌, Option, Some, None, Result, Ok, Err, length}
use Rattle.std.specs.Prelude.{slice_get, ⊤, MatchOption}
use Rattle.std.specs.Prelude.{◌⊎◌, map, slice_index_or}
use Rattle.std.specs.List.{flat_map, AllByRecursion}
use Rattle.mp_base.specs.declared.refusal.Place.{Place}
use Rattle.mp_base.specs.Entries.{IsAt}
use Rattle.mp_rules.specs.declared.limits.TheConstants.{EXPR_LIMIT}
use Rattle.mp_written.specs.declared.program.ExprKind.{ExprKind}
use Rattle.mp_written.specs.declared.program.ExprKind.TheVariants.{True}
use Rattle.mp_written.specs.declared.program.Expr.{Expr}
use Rattle.mp_written.specs.declared.program.Program.{Program}
use Rattle.mp_written.specs.Functions.{Function, functions}
use Rattle.mp_written.specs.Pieces.{Scope, bodies, pieces_in}
use Rattle.mp_written.specs.Sound.{Under}
use Rattle.written_meanings.specs.declared.meanings.Meaning.{Meaning}
use Rattle.written_meanings.specs.declared.meanings.Meanings.{Meanings}
use Rattle.written_meanings.specs.Meanings.{AreMeanings, args_around, argument, usable, used}
use Rattle.expansion_laws.specs.Lawful.{IsLawful, IsLawfulProgram}
use Rattle.expansion.specs.declared.item.Item.{Item}
use Rattle.expansion.specs.declared.item.Item.TheVariants.{Copied, Argument}
use Rattle.expansion.specs.declared.item.Slot.{Slot}
use Rattle.expansion.specs.declared.item.Slot.TheVariants.{Made, TooMany, Unmade}
use Rattle.expansion.specs.declared.item.Stop.{Stop}
use Rattle.expansion.specs.Leaves.{own_place}
use Rattle.expansion.specs.Filling.{mentions, Stops}

-- ---- items

abbrev pub place_at : Option Expr → Place
place_at (Some x) = x.place
place_at None = record { offset = 0; line = 0; column = 0 }

-- the place of what is copied, where the outermost use stands at a place
abbrev pub place_of : List Expr → Place → Option ℕ → Place
place_of exprs at None = at
place_of exprs at (Some e) = place_at (slice_get exprs e)

abbrev pub kind_at : Option Expr → ExprKind
kind_at (Some x) = x.kind
kind_at None = True

-- what an item becomes, where the outermost use stands at a place and these are what its operands become
abbrev pub item_pieces : List Expr → Place → List (List Expr) → Item → List Expr
item_pieces exprs at os (Copied e own) =
    record { place = place_of exprs at own; kind = kind_at (slice_get exprs e) } ∷ []
item_pieces exprs at os (Argument i) = slice_index_or os i []

abbrev pub pieces_of : List Expr → Place → List (List Expr) → List Item → List Expr
pieces_of exprs at os items = flat_map (item_pieces exprs at os) items

-- what it copies is there
abbrev pub IsInside : ℕ → Item → Type 0
IsInside n (Copied e own) = (e < n) × MatchOption own ⊤ (λ i. i < n)
IsInside n (Argument i) = ⊤

-- ---- where expressions stand

-- how many functions may be used: in a body those before its own
abbrev pub usable_count : Program → Option ℕ → ℕ
usable_count w (Some k) = k
usable_count w None = length (functions w)

-- in the body of a function the place of the outermost use
abbrev pub outermost : Option ℕ → Place → Option Place
outermost (Some k) at = Some at
outermost None at = None

-- in the body of a function or outside of bodies, where the outermost use stands at a place and these are what its
-- operands become
abbrev pub scope_in : Program → Option ℕ → Place → List (List Expr) → Scope
scope_in w owner at os = record {
  functions = usable (functions w) owner;
  bodies = bodies w.exprs (functions w) (usable_count w owner);
  args = args_around (functions w) owner;
  operands = os;
  outermost = outermost owner at;
}

-- an operand for each argument, each of which becomes something
pub record AreOperands (w : Program) (owner : Option ℕ) (os : List (List Expr)) : Type 0 where
  pub as_many : length os ≡ length (args_around (functions w) owner)
  pub some : AllByRecursion (λ v. 1 ≤ length v) os

-- these items are the template of expression e: they become what it becomes, and no less than one expression each
pub record IsWord (w : Program) (owner : Option ℕ) (e : ℕ) (items : List Item) : Type 0 where
  pub means : (at : Place) (os : List (List Expr))
      → pieces_of w.exprs at os items ≡ pieces_in (scope_in w owner at os) w.exprs e
  pub dense : (at : Place) (os : List (List Expr)) → AreOperands w owner os
      → length items ≤ length (pieces_of w.exprs at os items)
  pub inside : AllByRecursion (IsInside (length w.exprs)) items

-- expression e becomes more expressions than a program may have
abbrev pub IsLong : Program → Option ℕ → ℕ → Type 0
IsLong w owner e = (at : Place) (os : List (List Expr)) → AreOperands w owner os
    → EXPR_LIMIT < length (pieces_in (scope_in w owner at os) w.exprs e)

-- the template of expression e, or why there is none
abbrev pub IsFound : Program → Option ℕ → ℕ → Result (List Item) Stop → Type 0
IsFound w owner e (Ok items) = IsWord w owner e items
IsFound w owner e (Err stop) = Stops (IsLong w owner e) stop

-- what is kept of a function of which expression e is the body: its template, or that it is too long, or nothing
abbrev pub IsSlot : Program → ℕ → ℕ → Slot → Type 0
IsSlot w k e (Made items) = IsWord w (Some k) e items
IsSlot w k e TooMany = IsLong w (Some k) e
IsSlot w k e Unmade = ⊤

-- what is kept of function k
abbrev pub IsMade : Program → ℕ → Function → Slot → Type 0
IsMade w k f slot = IsSlot w k f.body slot

abbrev pub AreMade : Program → List Slot → Type 0
AreMade w slots = (k : ℕ) (f : Function) (slot : Slot) → IsAt (functions w) k f → IsAt slots k slot → IsMade w k f slot

-- what expression x means there
pub record IsScoped (w : Program) (owner : Option ℕ) (x : Expr) (m : Meaning) : Type 0 where
  pub argument : m.argument ≡ argument (args_around (functions w) owner) x.kind
  pub function : m.function ≡ used (usable (functions w) owner) x.kind

-- all that is known where the template of expression e is made
pub record IsReady (w : Program) (m : Meanings) (slots : List Slot) (owner : Option ℕ) (e : ℕ) : Type 0 where
  pub meant : AreMeanings w m
  pub law : IsLawfulProgram w
  pub scoped : (d : ℕ) (x : Expr) (n : Meaning) → Under w.exprs e d → IsAt w.exprs d x → IsAt m.exprs d n
      → IsScoped w owner x n
  pub lawful : IsLawful w.exprs (usable (functions w) owner) e
  pub within : usable_count w owner ≤ length (functions w)
  pub made : AreMade w slots
  pub enough : usable_count w owner ≤ length slots

-- expression e is of this kind
abbrev pub IsKind : Program → ℕ → ExprKind → Type 0
IsKind w e k = (x : Expr) × IsAt w.exprs e x × (x.kind ≡ k)

-- ---- words of operands

-- the template of an operand for argument i of a template; where that doesn't mention it, it may be anything
pub record IsOperandWord (w : Program) (owner : Option ℕ) (template : List Item) (i a : ℕ) (word : List Item) : Type 0
  where
    pub dense : (at : Place) (os : List (List Expr)) → AreOperands w owner os
        → length word ≤ length (pieces_of w.exprs at os word)
    pub inside : AllByRecursion (IsInside (length w.exprs)) word
    pub means : mentions template i ≡ true → IsWord w owner a word

pub record AreOperandWords (w : Program) (owner : Option ℕ) (template : List Item) (args : List ℕ) (words : List
    (List Item)) :
    Type 0 where
  pub as_many : length words ≡ length args
  pub each : (i a : ℕ) (word : List Item) → IsAt args i a → IsAt words i word → IsOperandWord w owner template i a word

-- the templates of the operands that a template mentions, or why there are none
abbrev pub AreFound : Program → Option ℕ → List Item → List ℕ → Result (List (List Item)) Stop → Type 0
AreFound w owner template args (Ok words) = AreOperandWords w owner template args words
AreFound w owner template args (Err stop) =
    Stops ((i a : ℕ) × IsAt args i a × (mentions template i ≡ true) × IsLong w owner a) stop

-- slots of which some are forgotten
pub record Forgets (old new : List Slot) : Type 0 where
  pub size : length new ≡ length old
  pub each : (k : ℕ) (slot : Slot) → IsAt new k slot → (slot ≡ Unmade) ⊎ IsAt old k slot

-- what is kept of all functions
pub record AreAllMade (w : Program) (slots : List Slot) : Type 0 where
  pub as_many : length slots ≡ length (functions w)
  pub each : AreMade w slots

-- expression e is a use of function j, with as many operands as that has arguments: it becomes what the body becomes
pub record IsUseOf (w : Program) (owner : Option ℕ) (e : ℕ) (args : List ℕ) (j : ℕ) : Type 0 where
  pub function : Function
  pub here : IsAt (functions w) j function
  pub below : j < usable_count w owner
  pub as_many : length args ≡ length function.args
  pub pieces : (at : Place) (os : List (List Expr)) → pieces_in (scope_in w owner at os) w.exprs e
      ≡ pieces_in (scope_in w (Some j) (place_of w.exprs at (own_place owner e))
      (map (pieces_in (scope_in w owner at os) w.exprs) args)) w.exprs function.body

-- the template of the function that expression e is a use of
abbrev pub IsTemplate : Program → Option ℕ → ℕ → List ℕ → List Item → Type 0
IsTemplate w owner e args template =
    (j : ℕ) × (use_of : IsUseOf w owner e args j) × IsWord w (Some j) (use_of.function).body template
