-- The links and the swaps that words stand for, and the first rule that words break.
use Rattle.std.specs.Prelude.{◌≡◌, ◌≢◌, ◌⊎◌, ◌<◌, ◌≤◌, ℕ, List, [], ◌∷◌, ◌++◌, Bool, true, false, ◌&&◌, ◌==◌, nat_lt}
use Rattle.std.specs.Prelude.{if◌then◌else◌, Option, Some, None, ⊤, All, Any, AllPairs, length, drop}
use Rattle.std.specs.Char.{is_ascii_digit}
use Rattle.std.specs.List.{list_all, position, slice_split}
use Rattle.std.specs.Str.Parse.{digits_value}
use Rattle.mp_base.specs.declared.pad.Pads.{Pads}
use Rattle.mp_base.specs.declared.refusal.Broken.{Broken}
use Rattle.mp_base.specs.declared.refusal.Rule.{Rule}
use Rattle.mp_base.specs.declared.refusal.Spot.TheVariants.{Named}
use Rattle.board.specs.declared.link.Link.{Link}
use Rattle.board.specs.declared.plan.Plan.{Plan}
use Rattle.board.specs.declared.plan.Swap.{Swap}
use Rattle.board.specs.declared.plan.SwapNaming.{SwapNaming}
use Rattle.board.specs.Boarding.{AreWires}
use Rattle.board.specs.Links.{Breaks, BreaksB1, BreaksB2, IsLinkOf, naming, place_of, rule_b}

-- what words are read for: a run of so many clocks, with parts of these names, at these pads
pub record Setting : Type 0 where
  pub clocks : ℕ
  pub parts : List (List ℕ)
  pub pads : Pads

-- ---- what a swap word names

-- it begins with `@`
abbrev pub is_swap_word : List ℕ → Bool
is_swap_word [] = false
is_swap_word (c ∷ cs) = c == 64

-- the number that one to five digits spell
abbrev pub clock_of : List ℕ → Option ℕ
clock_of digits =
    if list_all is_ascii_digit digits && (nat_lt 0 (length digits) && nat_lt (length digits) 6)
    then Some (digits_value 10 digits) else None

-- what three fields name: a clock, and two parts
abbrev pub swap_named_by : List (List ℕ) → List (List ℕ) → SwapNaming
swap_named_by parts (clock ∷ old ∷ fresh ∷ []) = record {
  clock = clock_of clock;
  old = place_of parts old;
  fresh = place_of parts fresh;
}
swap_named_by parts fields = record { clock = None; old = None; fresh = None }

-- what a word names that is `@CLOCK:OLD:NEW`
abbrev pub swap_naming : List (List ℕ) → List ℕ → SwapNaming
swap_naming parts word = swap_named_by parts (slice_split (λ c. c == 58) (drop 1 word))

-- ---- B3 of a swap word

-- the link that has this part
abbrev pub link_with : List Link → ℕ → Option ℕ
link_with links part = position (λ l. l.part == part) links

-- no clock is named, or none of the run, or one before that of an earlier swap
abbrev pub IsUntimely : ℕ → List Swap → Option ℕ → Type 0
IsUntimely clocks earlier None = ⊤
IsUntimely clocks earlier (Some clock) = (clocks ≤ clock) ⊎ Any (λ (s : Swap). clock < s.clock) earlier

-- no part is named, or that of no link
abbrev pub IsUnlinked : List Link → Option ℕ → Type 0
IsUnlinked links None = ⊤
IsUnlinked links (Some part) = link_with links part ≡ None

-- no part is named, or that of a link, or the new one of an earlier swap
abbrev pub IsTaken : Plan → Option ℕ → Type 0
IsTaken plan None = ⊤
IsTaken plan (Some part) =
    Any (λ (l : Link). l.part ≡ part) plan.links ⊎ Any (λ (s : Swap). s.fresh ≡ part) plan.swaps

abbrev pub BreaksB3 : ℕ → Plan → SwapNaming → Type 0
BreaksB3 clocks plan n = IsUntimely clocks plan.swaps n.clock ⊎ IsUnlinked plan.links n.old ⊎ IsTaken plan n.fresh

-- a swap that a word of these names stands for behind a plan
pub record IsSwapOf (clocks : ℕ) (plan : Plan) (n : SwapNaming) (swap : Swap) : Type 0 where
  pub timely : ¬ IsUntimely clocks plan.swaps n.clock
  pub clock : n.clock ≡ Some swap.clock
  pub part : ℕ
  pub old : n.old ≡ Some part
  pub linked : link_with plan.links part ≡ Some swap.link
  pub free : ¬ IsTaken plan n.fresh
  pub fresh : n.fresh ≡ Some swap.fresh

-- ---- a word behind a plan

abbrev pub with_link : Plan → Link → Plan
with_link plan link = record { links = plan.links ++ link ∷ []; swaps = plan.swaps }

abbrev pub with_swap : Plan → Swap → Plan
with_swap plan swap = record { links = plan.links; swaps = plan.swaps ++ swap ∷ [] }

-- the plan with the swap or the link that a word stands for, by whether it is a swap word
abbrev pub FollowsAs : Bool → Setting → Plan → List ℕ → Plan → Type 0
FollowsAs true setting plan word next =
    (swap : Swap) × IsSwapOf setting.clocks plan (swap_naming setting.parts word) swap × (next ≡ with_swap plan swap)
FollowsAs false setting plan word next =
    (link : Link) × IsLinkOf (naming setting.parts setting.pads word) plan.links link × (plan.swaps ≡ [])
    × (next ≡ with_link plan link)

abbrev pub Follows : Setting → Plan → List ℕ → Plan → Type 0
Follows setting plan word next = FollowsAs (is_swap_word word) setting plan word next

-- The rule that a word breaks behind a plan, by whether it is a swap word. Of such a word it is B3, and of any other B1
-- before B2, and then B3 where a swap stands before it.
abbrev pub BreaksAs : Bool → Setting → Plan → List ℕ → Rule → Type 0
BreaksAs true setting plan word rule =
    BreaksB3 setting.clocks plan (swap_naming setting.parts word) × (rule ≡ rule_b 3)
BreaksAs false setting plan word rule =
    let n = naming setting.parts setting.pads word in
    Breaks plan.links n rule
    ⊎ ((¬ BreaksB1 plan.links n) × (¬ BreaksB2 plan.links n) × (plan.swaps ≢ []) × (rule ≡ rule_b 3))

-- the rule that a word breaks behind a plan, at the word
pub record IsBrokenBehind (setting : Setting) (plan : Plan) (word : List ℕ) (broken : Broken) : Type 0 where
  pub breaks : BreaksAs (is_swap_word word) setting plan word broken.rule
  pub spot : broken.spot ≡ Named word

-- ---- word by word

abbrev pub empty_plan : Plan
empty_plan = record { links = []; swaps = [] }

-- words behind a plan give another
abbrev pub LeadsTo : Setting → Plan → List (List ℕ) → Plan → Type 0
LeadsTo setting plan [] whole = plan ≡ whole
LeadsTo setting plan (word ∷ words) whole =
    (next : Plan) × Follows setting plan word next × LeadsTo setting next words whole

-- the first rule that words break behind a plan
abbrev pub BreaksFirst : Setting → Plan → List (List ℕ) → Broken → Type 0
BreaksFirst setting plan [] broken = ⊥
BreaksFirst setting plan (word ∷ words) broken =
    IsBrokenBehind setting plan word broken
    ⊎ ((next : Plan) × Follows setting plan word next × BreaksFirst setting next words broken)

-- the words stand for these links and swaps
abbrev pub IsPlan : Setting → List (List ℕ) → Plan → Type 0
IsPlan setting words plan = LeadsTo setting empty_plan words plan

-- they do, or this is the first rule that they break
abbrev pub OfPlan : Setting → List (List ℕ) → Option Broken → Type 0
OfPlan setting words None = (plan : Plan) × IsPlan setting words plan
OfPlan setting words (Some broken) = BreaksFirst setting empty_plan words broken

-- The links are wires of parts that are there. The swaps are in order, each within the run, of a link, and with a part
-- that is there, has no link and is in no other swap.
pub record IsWhole (setting : Setting) (plan : Plan) : Type 0 where
  pub wires : AreWires setting.pads plan.links
  pub within : All (λ (l : Link). l.part < length setting.parts) plan.links
  pub timely : All (λ (s : Swap). s.clock < setting.clocks) plan.swaps
  pub in_order : AllPairs (λ (s t : Swap). s.clock ≤ t.clock) plan.swaps
  pub linked : All (λ (s : Swap). s.link < length plan.links) plan.swaps
  pub fresh : All (λ (s : Swap). s.fresh < length setting.parts) plan.swaps
  pub apart : AllPairs (λ (s t : Swap). s.fresh ≢ t.fresh) plan.swaps
  pub free : All (λ (s : Swap). All (λ (l : Link). l.part ≢ s.fresh) plan.links) plan.swaps
