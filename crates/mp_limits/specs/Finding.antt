-- Places where rules are broken, found in a list.
use Rattle.std.specs.Prelude.{ℕ, ◌≡◌, ◌<◌, Bool, true, false, take, ◌^◌, ◌&&◌, not, ◌==◌, List, Option, Some, None}
use Rattle.std.specs.Prelude.{length, if◌then◌else◌, nat_le, slice_get, option_and_then}
use Rattle.std.specs.Option.{option_map}
use Rattle.std.specs.List.{filter_map, flat_map, fold, list_any}
use Rattle.std.specs.BTreeSet.{BTreeSet, contains}
use Rattle.std.specs.Ordering.{nat_cmp}
use Rattle.mp_base.specs.declared.refusal.Place.{Place}
use Rattle.mp_base.specs.declared.op.Op.TheVariants.{Bit}
use Rattle.mp_program.specs.declared.program.ExprKind.{ExprKind}
use Rattle.mp_program.specs.declared.program.ExprKind.TheVariants.{Number, Apply}
use Rattle.mp_program.specs.declared.program.What.{What}
use Rattle.mp_program.specs.declared.program.What.TheVariants.{Power, Ground, Phia, Phib, Phic, Constant, Port}
use Rattle.mp_program.specs.declared.program.Way.TheVariants.{Input, Output}
use Rattle.mp_program.specs.declared.program.Pin.{Pin}
use Rattle.mp_program.specs.declared.program.Def.{Def}
use Rattle.mp_program.specs.declared.program.Form.{Form}
use Rattle.mp_program.specs.declared.program.Process.{Process}
use Rattle.mp_program.specs.declared.program.Program.{Program}
use Rattle.mp_program.specs.Names.{is_stored, is_supply}
use Rattle.mp_base.specs.Entries.{IsAt}
use Rattle.mp_rules.specs.Breaking.{IsEarliest, earlier}
use Rattle.mp_rules.specs.declared.limits.TheConstants.{FORM_LIMIT}

-- the earliest of what was found and of the places that are found in the elements of a list
abbrev pub earliest_in : {X : Type 0} → (X → Option Place) → Option Place → List X → Option Place
earliest_in find found xs = fold earlier found (filter_map find xs)

-- the place of what passes a test
abbrev pub place_that : {X : Type 0} → (X → Place) → (X → Bool) → X → Option Place
place_that place test x = if test x then Some (place x) else None

-- a constant that a word of w bits can't hold
abbrev pub is_wide_constant : ℕ → What → Bool
is_wide_constant w (Constant c) = nat_le (2 ^ w) c
is_wide_constant w _ = false

-- a number that a word of w bits can't hold
abbrev pub is_wide_number : ℕ → ExprKind → Bool
is_wide_number w (Number n) = nat_le (2 ^ w) n
is_wide_number w _ = false

-- an index of `bit` past a word of w bits
abbrev pub is_past_word : ℕ → ExprKind → Bool
is_past_word w (Apply Bit k args) = nat_le w k
is_past_word w _ = false

-- an input or output port
abbrev pub is_padded_port : What → Bool
is_padded_port (Port Input) = true
is_padded_port (Port Output) = true
is_padded_port _ = false

-- the earliest of registers, flags and processes
abbrev pub stored_in : Program → Option Place
stored_in p =
    earliest_in (λ (q : Process). Some q.place)
    (earliest_in (place_that (λ (d : Def). d.place) (λ (d : Def). is_stored d.what)) None p.defs) p.processes

-- the first form too many of a process
abbrev pub far_form : List Form → Process → Option Place
far_form forms q =
    option_and_then (λ f. option_map (λ (y : Form). y.place) (slice_get forms f)) (slice_get q.forms FORM_LIMIT)

abbrev pub is_same_supply : What → What → Bool
is_same_supply Power Power = true
is_same_supply Ground Ground = true
is_same_supply Phia Phia = true
is_same_supply Phib Phib = true
is_same_supply Phic Phic = true
is_same_supply _ _ = false

-- some definition is of this supply
abbrev pub defines : List Def → What → Bool
defines defs supply = list_any (λ (d : Def). is_same_supply supply d.what) defs

-- the first pin of an input or output port that hasn't w pins
abbrev pub uneven_port : ℕ → Def → Option Place
uneven_port w d = if is_padded_port d.what
    && not (length d.pins == w) then option_map (λ (y : Pin). y.place) (slice_get d.pins 0) else None

-- a pin that stands earlier among these
abbrev pub IsRepeatedIn : List Pin → Place → Type 0
IsRepeatedIn ps at =
    (j k : ℕ) × (a b : Pin) × IsAt ps j a × IsAt ps k b × (j < k) × (a.number ≡ b.number) × (at ≡ b.place)

-- the pins of the definitions before an index
abbrev pub pins_before : List Def → ℕ → List Pin
pins_before defs k = flat_map (λ (d : Def). d.pins) (take k defs)

-- the numbers of pins that were seen, and the earliest of the pins that stand earlier too
pub record SeenPins (ps : List Pin) (seen : BTreeSet ℕ) (found : Option Place) : Type 0 where
  pub numbers : (n : ℕ) → contains nat_cmp seen n ≡ list_any (λ (y : Pin). y.number == n) ps
  pub earliest : IsEarliest (IsRepeatedIn ps) found

-- a definition that has a name and doesn't stand before an offset
abbrev pub is_from : ℕ → Def → Bool
is_from offset d = not (is_supply d.what) && nat_le offset (d.place).offset

-- the earliest of definitions with a name, and processes, that don't stand before an offset
abbrev pub named_from : Program → ℕ → Option Place
named_from p offset =
    earliest_in (place_that (λ (q : Process). q.place) (λ (q : Process). nat_le offset (q.place).offset))
    (earliest_in (place_that (λ (d : Def). d.place) (is_from offset)) None p.defs) p.processes
