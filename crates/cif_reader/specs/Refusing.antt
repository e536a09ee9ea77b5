-- What the reader of a file answers at a place of it.
use Rattle.std.specs.Prelude.{◌≡◌, ℕ, ◌-◌, ◌<◌, ◌≤◌, List, [], length, drop, Bool, Option, None, Some}
use Rattle.mp_base.specs.declared.refusal.Family.TheVariants.{C}
use Rattle.mp_base.specs.declared.refusal.Spot.TheVariants.{Offset}
use Rattle.mp_base.specs.declared.refusal.Refusal.{Refusal}
use Rattle.mp_base.specs.declared.refusal.Broken.{Broken}
use Rattle.mp_base.specs.Refuses.{IsRefusal}
use Rattle.cif_form.specs.declared.command.Command.{Command}
use Rattle.cif_form.specs.declared.command.Item.{Item}
use Rattle.cif_form.specs.Scans.{TextRule, text_rule_number, IsReadAs, HasBig, opens, Scans, FileScans}
use Rattle.cif_form.specs.Scans.TextEnd.{Whole, Broken as Breaks}
use Rattle.cif_reader.specs.Capped.{cut_command}

-- a broken rule of texts at an offset, of which this is true
abbrev pub IsRuleAt : (TextRule → ℕ → Type 0) → Broken → Type 0
IsRuleAt P b =
    (rule : TextRule) × (offset : ℕ) × (b.rule ≡ record { family = C; number = text_rule_number rule })
    × (b.spot ≡ Offset offset) × P rule offset

-- the file is read to its end, or this is the rule that its reading breaks first
abbrev pub OfCif : List ℕ → Option Broken → Type 0
OfCif text None = (items : List Item) × FileScans text items Whole
OfCif text (Some b) = IsRuleAt (λ rule offset. (items : List Item) × FileScans text items (Breaks rule offset)) b

-- want of memory, or the rule that the reading of the file breaks first
abbrev pub Refuses : List ℕ → Refusal → Type 0
Refuses text = IsRefusal (λ b. OfCif text (Some b))

-- want of memory, or the rule that the text from a place on breaks there
abbrev pub RefusesAt : Bool → List ℕ → ℕ → Refusal → Type 0
RefusesAt inside bytes at = IsRefusal
    (IsRuleAt (λ rule offset. Scans inside at (drop at bytes) [] (Breaks rule offset)))

-- the command that is read at a place, its numbers cut, and where the rest begins
pub record IsRead (bytes : List ℕ) (at : ℕ) (value : Command) (end : ℕ) : Type 0 where
  pub exact : Command
  pub cut_is : value ≡ cut_command exact
  pub further : at < end
  pub within : end ≤ length bytes
  pub read : IsReadAs (drop at bytes) exact (end - at) (drop end bytes)

-- the same of a command that may stand there
pub record IsStep (bytes : List ℕ) (at : ℕ) (inside : Bool) (command : Command) (end : ℕ) (within : Bool) : Type 0 where
  pub further : at < end
  pub bound : end ≤ length bytes
  pub read : IsReadAs (drop at bytes) command (end - at) (drop end bytes)
  pub small : ¬ HasBig command
  pub stands : opens inside command ≡ Some within
