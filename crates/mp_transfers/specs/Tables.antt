-- Tables of the earliest places in each form.
use Rattle.std.specs.Prelude.{◌≡◌, ℕ, ◌<◌, List, Bool, true, length, Option, Some, None, Contains, slice_index_or}
use Rattle.mp_base.specs.declared.refusal.Place.{Place}
use Rattle.mp_program.specs.declared.program.FormKind.{FormKind}
use Rattle.mp_program.specs.declared.program.Form.{Form}
use Rattle.mp_program.specs.declared.program.Program.{Program}
use Rattle.mp_base.specs.Entries.{IsAt}
use Rattle.mp_rules.specs.Standing.{Under, is_transfer, uses_stack, IsLater}
use Rattle.mp_rules.specs.Breaking.{IsEarliest}
use Rattle.mp_transfers.specs.declared.tables.Sought.{Sought}
use Rattle.mp_transfers.specs.declared.tables.Sought.TheVariants.{Transfer, StackUse}

abbrev pub is_sought : Sought → FormKind → Bool
is_sought Transfer kind = is_transfer kind
is_sought StackUse kind = uses_stack kind

-- the entry of form f
abbrev pub entry : List (Option Place) → ℕ → Option Place
entry table f = slice_index_or table f None

-- at is the entry of one of these forms
abbrev pub IsAmong : List (Option Place) → List ℕ → Place → Type 0
IsAmong table forms at = (f : ℕ) × Contains forms f × (entry table f ≡ Some at)

-- at is the entry of one of these forms, and a form before it has an entry too
abbrev pub IsBehind : List (Option Place) → List ℕ → Place → Type 0
IsBehind table forms at = (i j g h : ℕ) × (first : Place) × IsAt forms i g × IsAt forms j h × (i < j)
    × (entry table g ≡ Some first) × (entry table h ≡ Some at)

-- the same in one of these lists
abbrev pub IsBehindInOne : List (Option Place) → List (List ℕ) → Place → Type 0
IsBehindInOne table lists at = (forms : List ℕ) × Contains lists forms × IsBehind table forms at

-- at is the place of a form of these kinds that form f is or that stands in it
abbrev pub IsFound : Program → Sought → ℕ → Place → Type 0
IsFound p sought f at =
    (g : ℕ) × (y : Form) × Under p f g × IsAt p.forms g y × (is_sought sought y.kind ≡ true) × (at ≡ y.place)

-- for each form the earliest such place
pub record AreFirsts (p : Program) (sought : Sought) (table : List (Option Place)) : Type 0 where
  pub size : length table ≡ length p.forms
  pub entries : (f : ℕ) → f < length p.forms → IsEarliest (IsFound p sought f) (entry table f)

-- at is the place of the later of two transfers in form f
abbrev pub IsSecond : Program → ℕ → Place → Type 0
IsSecond p f at = (b : ℕ) × (z : Form) × IsLater p f b z × (at ≡ z.place)

-- for each form the earliest such place
pub record AreSeconds (p : Program) (table : List (Option Place)) : Type 0 where
  pub size : length table ≡ length p.forms
  pub entries : (f : ℕ) → f < length p.forms → IsEarliest (IsSecond p f) (entry table f)
