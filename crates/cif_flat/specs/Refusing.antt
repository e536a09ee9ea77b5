-- How a file is refused whose walk stops.
use Rattle.std.specs.Prelude.{ℕ, ◌≡◌, List, Option, None, Some}
use Rattle.mp_base.specs.declared.refusal.Family.TheVariants.{F}
use Rattle.mp_base.specs.declared.refusal.Spot.{Spot}
use Rattle.mp_base.specs.declared.refusal.Spot.TheVariants.{Offset}
use Rattle.mp_base.specs.declared.refusal.Broken as broken
use Rattle.mp_base.specs.declared.refusal.Refusal.{Refusal}
use Rattle.mp_base.specs.declared.refusal.Refusal.TheVariants as refusals
use Rattle.mp_base.specs.Refuses.{IsRefusal}
use Rattle.lam_geom.specs.declared.rect.Rect.{Rect}
use Rattle.lam_geom.specs.declared.label.FlatLabel.{FlatLabel}
use Rattle.cif_form.specs.declared.command.Item.{Item}
use Rattle.cif_form.specs.Walk.{DrawRule, draw_rule_number, FileWalks}
use Rattle.cif_form.specs.Walk.DrawRule.{F1 as R1, F2 as R2, F3 as R3, F4 as R4, F5 as R5, F6 as R6, F7 as R7, F8 as R8}
use Rattle.cif_form.specs.Walk.DrawRule.{F9 as R9, F10 as R10}
use Rattle.cif_form.specs.Walk.WalkEnd.{Whole, Broken}
use Rattle.cif_flat.specs.declared.fault.Fault.{Fault}
use Rattle.cif_flat.specs.declared.fault.Fault.TheVariants.{F1, F2, F3, F4, F5, F6, F7, F8, F9, F10}

-- the walk of the items stops at the offset, where a rule of this number is the first that is broken
abbrev pub StopsAt : List Item → ℕ → ℕ → Type 0
StopsAt items number offset = (rule : DrawRule) × (shapes : List Rect) × (labels : List FlatLabel)
    × (draw_rule_number rule ≡ number) × FileWalks items shapes labels (Broken rule offset)

-- the spot is an offset, and this is true of it
abbrev pub OffsetIs : Spot → (ℕ → Type 0) → Type 0
OffsetIs (Offset o) P = P o
OffsetIs _ P = ⊥

-- the walk of the items comes to its end, or this is the rule F at which it stops, and its place
abbrev pub OfWalk : List Item → Option broken.Broken → Type 0
OfWalk items None = (shapes : List Rect) × (labels : List FlatLabel) × FileWalks items shapes labels Whole
OfWalk items (Some b) = (b.rule.family ≡ F) × OffsetIs b.spot (StopsAt items b.rule.number)

-- want of memory, or the rule at which the walk of the items stops
abbrev pub RefusesWalk : List Item → Refusal → Type 0
RefusesWalk items = IsRefusal (λ b. OfWalk items (Some b))

abbrev pub rule_of : Fault → DrawRule
rule_of F1 = R1
rule_of F2 = R2
rule_of F3 = R3
rule_of F4 = R4
rule_of F5 = R5
rule_of F6 = R6
rule_of F7 = R7
rule_of F8 = R8
rule_of F9 = R9
rule_of F10 = R10

abbrev pub refusal_of : Fault → ℕ → Refusal
refusal_of fault offset = refusals.Broken (record {
  rule = record { family = F; number = draw_rule_number (rule_of fault) };
  spot = Offset offset;
})
