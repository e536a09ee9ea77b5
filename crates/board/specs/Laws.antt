-- What holds of loops.
use Rattle.std.specs.Prelude.{◌≡◌, ℕ, suc, ◌+◌, List, [], ◌∷◌, ◌++◌, true, Option, Some, Ok, length}
use Rattle.mp_base.specs.declared.value.Trit.{Trit}
use Rattle.mp_base.specs.PadBits.{Fit}
use Rattle.outside.specs.declared.calls.Failed.{Failed}
use Rattle.mp_base.specs.declared.pad.Pads.{Pads}
use Rattle.mp_base.specs.declared.refusal.Broken.{Broken}
use Rattle.board.specs.declared.link.Link.{Link}
use Rattle.board.specs.Links.{AreLinks, IsFirstBroken, OfWords}
use Rattle.board.specs.Face.{Face}
use Rattle.board.specs.Printing.{LoopedWith, PrintsLoop}
use Rattle.board.specs.Loop.{Wired, Exchange, part_of, put_at, inputs_at, is_settled, inputs_with, faces_with}
use Rattle.board.specs.Loop.{inputs_along, faces_along}
use Rattle.board.specs.declared.plan.Plan.{Plan}
use Rattle.board.specs.Plans.{Setting, IsPlan, OfPlan}

-- in each settled clock both show the same
abbrev pub AgreeWhereSettled : Wired → ℕ → List (List (List Trit)) → List (List (List Trit)) → Type 0
AgreeWhereSettled w clock [] [] = Unit {0}
AgreeWhereSettled w clock (o ∷ os) (p ∷ ps) =
    (is_settled w clock ≡ true → o ≡ p) × AgreeWhereSettled w (suc clock) os ps
AgreeWhereSettled w clock _ _ = ⊥

-- what is shown in unsettled clocks changes neither what the inputs are given nor the parts
abbrev pub LoopsAgree : Type 0
LoopsAgree =
    (w : Wired) (clock : ℕ) (faces : List Face) (shown other : List (List (List Trit)))
    → AgreeWhereSettled w clock shown other
    → (inputs_along w clock faces shown ≡ inputs_along w clock faces other)
    × (faces_along w clock faces shown ≡ faces_along w clock faces other)

-- what is shown in unsettled clocks changes neither what the inputs are given nor the parts, with the same swaps
abbrev pub SwappedLoopsAgree : Type 0
SwappedLoopsAgree =
    (swaps : List Exchange) (w : Wired) (clock : ℕ) (faces : List Face) (shown other : List (List (List Trit)))
    → AgreeWhereSettled w clock shown other
    → (inputs_with swaps w clock faces shown ≡ inputs_with swaps w clock faces other)
    × (faces_with swaps w clock faces shown ≡ faces_with swaps w clock faces other)

-- what the inputs are given fits them
abbrev pub InputsFit : Type 0
InputsFit = (w : Wired) (clock : ℕ) (faces : List Face) → Fit (w.pads).inputs (inputs_at w clock faces)

-- Calls of one board on one device that answered Ok, from a clock on: the swaps that were made, how many clocks were
-- run, and how the device and the parts were left. A swap puts its part in the place of the link's part.
pub data Calls {S : Type 0} (Steps : S → List ℕ → List (List Trit) → S → Type 0) (w : Wired) (clock : ℕ) (before : S)
    (faces : List Face) (old : Option (List ℕ)) :
    List Exchange → ℕ → S → List Face → Option (List ℕ) → Type 0 where
  none : Calls Steps w clock before faces old [] clock before faces old
  run : {swaps : List Exchange} {mid after : S} {mids later : List Face} {told new : Option (List ℕ)}
      (done next clocks : ℕ) (u : Unit {0}) → Calls Steps w clock before faces old swaps done mid mids told
      → PrintsLoop {T = Unit {0}} {E = Failed} Steps w done next clocks mid after mids later told new (Ok u)
      → Calls Steps w clock before faces old swaps next after later new
  swap : {swaps : List Exchange} {done : ℕ} {mid : S} {mids : List Face} {told : Option (List ℕ)} (link : ℕ)
      (fresh : Face) → Calls Steps w clock before faces old swaps done mid mids told
      → Calls Steps w clock before faces old
      (swaps ++ record { clock = done; link = link; fresh = fresh } ∷ []) done mid
      (put_at fresh (part_of w.links link) mids) told

-- such calls are one loop, in which the parts are replaced at these clocks
abbrev pub CallsLoop : {S : Type 0} → (S → List ℕ → List (List Trit) → S → Type 0) → Type 0
CallsLoop Steps =
    (w : Wired) (clock done : ℕ) (before after : _) (faces later : List Face) (old new : Option (List ℕ))
    (swaps : List Exchange) → Calls Steps w clock before faces old swaps done after later new
    → (shown : List (List (List Trit))) × LoopedWith swaps Steps w clock before faces shown after later old new
    × (done ≡ clock + length shown)

-- words stand for one list of links at most
abbrev pub LinksOnce : Type 0
LinksOnce =
    (parts words : List (List ℕ)) (pads : Pads) (links others : List Link) → AreLinks parts pads words links
    → AreLinks parts pads words others → links ≡ others

-- they break one rule first at most, at one word
abbrev pub BrokenOnce : Type 0
BrokenOnce =
    (parts words : List (List ℕ)) (pads : Pads) (a b : Broken) → IsFirstBroken parts pads words a
    → IsFirstBroken parts pads words b → a ≡ b

-- and none where they stand for links
abbrev pub WholeOrBroken : Type 0
WholeOrBroken =
    (parts words : List (List ℕ)) (pads : Pads) (links : List Link) (b : Broken) → AreLinks parts pads words links
    → ¬ IsFirstBroken parts pads words b

-- one of both is so of all words
abbrev pub LinksVerdict : Type 0
LinksVerdict = (parts words : List (List ℕ)) (pads : Pads) → (first : Option Broken) × OfWords parts pads words first

-- words stand for one plan at most
abbrev pub PlanOnce : Type 0
PlanOnce =
    (setting : Setting) (words : List (List ℕ)) (plan other : Plan) → IsPlan setting words plan
    → IsPlan setting words other → plan ≡ other

-- they break one rule first at most, at one word
abbrev pub FirstOnce : Type 0
FirstOnce =
    (setting : Setting) (words : List (List ℕ)) (a b : Broken) → OfPlan setting words (Some a)
    → OfPlan setting words (Some b) → a ≡ b

-- and none where they stand for a plan
abbrev pub PlanOrBroken : Type 0
PlanOrBroken =
    (setting : Setting) (words : List (List ℕ)) (plan : Plan) (b : Broken) → IsPlan setting words plan
    → ¬ OfPlan setting words (Some b)

-- one of both is so of all words
abbrev pub PlanVerdict : Type 0
PlanVerdict = (setting : Setting) (words : List (List ℕ)) → (first : Option Broken) × OfPlan setting words first
