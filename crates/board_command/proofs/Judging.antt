-- Links and swaps for a source, judged: why that ended, and what is known then.
use Rattle.std.proofs.Common.{ℕ, ◌<◌, ◌^◌, List, length, refl, Option, Some, None, Result, Ok, Err, IfOk, IfSome}
use Rattle.outside.specs.Outside.{Files, bytes_of}
use Rattle.mp_base.specs.declared.pad.Pads.{Pads}
use Rattle.mp_base.specs.declared.refusal.Refusal.{Refusal}
use Rattle.mp_base.specs.declared.refusal.Refusal.TheVariants as refusals
use Rattle.mp_program.specs.declared.program.Program.{Program}
use Rattle.mp_program.specs.Pads.{ArePadsOf}
use Rattle.mp_source.specs.Source.{IsSource}
use Rattle.mp_base.specs.Refuses.{IsJudged}
use Rattle.outcome.specs.Order.{Fault, OfRule}
use Rattle.outcome.specs.Halt.{EndsBy, halt_of}
use Rattle.board.specs.declared.plan.Plan.{Plan}
use Rattle.board.specs.Plans.{IsPlan, IsWhole, OfPlan}
use Rattle.board_command.specs.Linked.{OfBoard, IsPlanFor, setting_of}

pub judged_plan : (names words : List (List ℕ)) (clocks : ℕ) (program : Program) (pads : Pads)
    (result : Result Plan Refusal) → ArePadsOf program pads → length pads.inputs < 2 ^ 32
    → IfOk result (IsPlan (setting_of names clocks pads) words) → IfOk result (IsWhole (setting_of names clocks pads))
    → IfOk result (IsPlanFor names clocks words program pads)
judged_plan names words clocks program pads (Ok plan) padded few is whole =
    record { padded = padded; few = few; is_plan = is; whole = whole }
judged_plan names words clocks program pads (Err e) padded few is whole = tt

module _ (names words : List (List ℕ)) (clocks : ℕ) (source : List ℕ) (program : Program) (pads : Pads)
    (padded : ArePadsOf program pads) where
  abbrev Rest : Files → Option Fault → Type 0
  Rest files = OfRule (OfBoard names clocks (bytes_of files source) words)

  -- the words were refused
  pub plan_end : (held : Option Files) → IfSome held (λ files. IsSource (bytes_of files source) program)
      → (m : ℕ) (e : Refusal) → IsJudged {T = Plan} (OfPlan (setting_of names clocks pads) words) (Err e)
      → EndsBy Rest held m m (halt_of e)
  plan_end held is m refusals.NoMemory h = refl
  plan_end None is m (refusals.Broken b) h = (refl, tt)
  plan_end (Some files) is m (refusals.Broken b) h = (
    refl,
    record { program = program; pads = pads; is_source = is; padded = padded; rules = h },
  )

  -- they were not
  pub plan_fits : (held : Option Files) → IfSome held (λ files. IsSource (bytes_of files source) program)
      → (plan : Plan) → IsPlan (setting_of names clocks pads) words plan → IfSome held (λ files. Rest files None)
  plan_fits None is plan h = tt
  plan_fits (Some files) is plan h =
      record { program = program; pads = pads; is_source = is; padded = padded; rules = (plan, h) }
