-- Chains of reads, and the `setq` forms of definitions.
use Rattle.std.specs.Prelude.{◌≡◌, ◌⊎◌, ℕ, ◌-◌, ◌<◌, ◌≤◌, List, length, slice_index}
use Rattle.std.specs.List.{sum_by, insert}
use Rattle.mp_base.specs.declared.refusal.Place.{Place}
use Rattle.mp_program.specs.declared.program.FormKind.{FormKind}
use Rattle.mp_program.specs.declared.program.FormKind.TheVariants.{Set}
use Rattle.mp_program.specs.declared.program.Def.{Def}
use Rattle.mp_program.specs.declared.program.Form.{Form}
use Rattle.mp_program.specs.declared.program.Program.{Program}
use Rattle.mp_program.specs.Reads.{Chain}
use Rattle.mp_base.specs.Entries.{IsAt}
use Rattle.name_meanings.specs.declared.meaning.Meanings.{Meanings}
use Rattle.mp_order.specs.Demands.{IsDriven}

abbrev pub IsSet : FormKind → Type 0
IsSet kind = (name : List ℕ) × (there : Place) × (v : ℕ) × (kind ≡ Set name there v)

-- a `setq` of definition d stands at a place, and d has a flag
abbrev pub SetsFlagged : Program → Meanings → List ℕ → ℕ → Place → Type 0
SetsFlagged p m flags d at =
    (f : ℕ) × (y : Form) × (name : List ℕ) × (there : Place) × (v : ℕ) × IsAt p.forms f y × (y.kind ≡ Set name there v)
    × (slice_index m.targets f ≡ d) × (0 < slice_index flags d) × (at ≡ y.place)

-- a `setq` of a definition with a flag stands at a place
abbrev pub FlaggedSet : Program → Meanings → List ℕ → Place → Type 0
FlaggedSet p m flags at = (d : ℕ) × SetsFlagged p m flags d at

-- how many are 0
abbrev pub blanks : List ℕ → ℕ
blanks xs = sum_by (λ k. 1 - k) xs

-- of the definitions before n those that are driven and demand something have got a weight, and no other
pub record Widened (p : Program) (demands : List ℕ) (n : ℕ) (old new : List ℕ) : Type 0 where
  pub size : length new ≡ length old
  pub kept : (d : ℕ) → 0 < slice_index old d → 0 < slice_index new d
  pub made : (d : ℕ) → 0 < slice_index new d
      → (0 < slice_index old d) ⊎ ((x : Def) × IsDriven p d x × (0 < slice_index demands d))
  pub full : (d : ℕ) (x : Def) → d < n → IsDriven p d x → 0 < slice_index demands d → 0 < slice_index new d

-- which driven definitions have a chain to the target
pub record AreReachers (p : Program) (target : ℕ) (reach : List ℕ) : Type 0 where
  pub sound : (a : ℕ) (x : Def) → IsDriven p a x → 0 < slice_index reach a → Chain p a target
  pub complete : (a : ℕ) → Chain p a target → 0 < slice_index reach a

-- d is put before the first that reaches it
abbrev pub Placed : List ℕ → ℕ → List ℕ → List ℕ → Type 0
Placed reach d old new = (at : ℕ) × (at ≤ length old) × (new ≡ insert old at d)
    × ((k : ℕ) → k < at → slice_index reach (slice_index old k) ≡ 0)
    × (at < length old → 0 < slice_index reach (slice_index old at))
