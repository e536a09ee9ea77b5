-- The rules of links and swaps for a source.
use Rattle.std.specs.Prelude.{ℕ, ◌<◌, ◌^◌, List, Option, length}
use Rattle.mp_base.specs.declared.refusal.Broken.{Broken}
use Rattle.mp_base.specs.declared.pad.Pads.{Pads}
use Rattle.mp_program.specs.declared.program.Program.{Program}
use Rattle.mp_program.specs.Pads.{ArePadsOf}
use Rattle.mp_source.specs.Source.{IsSource}
use Rattle.board.specs.declared.plan.Plan.{Plan}
use Rattle.board.specs.Plans.{IsPlan, IsWhole, OfPlan, Setting}

-- what words are read for
abbrev pub setting_of : List (List ℕ) → ℕ → Pads → Setting
setting_of names clocks pads = record { clocks = clocks; parts = names; pads = pads }

-- the rules of links and swaps for the pads of a source
pub record OfBoard (names : List (List ℕ)) (clocks : ℕ) (source : List ℕ) (words : List (List ℕ))
    (first : Option Broken) : Type 0 where
  pub program : Program
  pub pads : Pads
  pub is_source : IsSource source program
  pub padded : ArePadsOf program pads
  pub rules : OfPlan (setting_of names clocks pads) words first

-- the words are this plan for the pads of a program, which has few inputs
pub record IsPlanFor (names : List (List ℕ)) (clocks : ℕ) (words : List (List ℕ)) (program : Program) (pads : Pads)
    (plan : Plan) : Type 0 where
  pub padded : ArePadsOf program pads
  pub few : length pads.inputs < 2 ^ 32
  pub is_plan : IsPlan (setting_of names clocks pads) words plan
  pub whole : IsWhole (setting_of names clocks pads) plan
