-- A source with links and swaps has one first fault at most.
use Rattle.std.proofs.Common.{◌≡◌, ℕ, List, Option, Some, None, ap, subst, refl}
use Rattle.outside.specs.Outside.{Files, bytes_of}
use Rattle.mp_base.specs.declared.pad.Pads.{Pads}
use Rattle.mp_base.proofs.Decisions.{IsDetermined}
use Rattle.mp_program.specs.declared.program.Program.{Program}
use Rattle.mp_program.specs.Pads.{ArePadsOf}
use Rattle.outcome.specs.Order.{Fault, OfRule}
use Rattle.outcome.proofs.Determined.{one_of_two, one_of_rule}
use Rattle.source_files.specs.Faults.{SourceFault}
use Rattle.source_files.proofs.Sources.{OneSource, one_program}
use Rattle.board.specs.Laws.{FirstOnce, PlanOrBroken}
use Rattle.board.specs.Plans.{OfPlan, Setting}
use Rattle.replay_run.specs.Laws.{OnePads}
use Rattle.board_command.specs.Parts.{Lent}
use Rattle.board_command.specs.Linked.{OfBoard, setting_of}
use Rattle.board_command.specs.Work.{work}

-- the laws of the crates below
pub record Laws : Type 0 where
  pub source : (name : List ℕ) (files : Files) (a b : Option Fault) → SourceFault name files a
      → SourceFault name files b → a ≡ b
  pub spelled : OneSource
  pub pads : OnePads
  pub broken : FirstOnce
  pub whole : PlanOrBroken

module _ (laws : Laws) (names : List (List ℕ)) (clocks : ℕ) where
  one_of_words : (setting : Setting) (words : List (List ℕ)) → IsDetermined (OfPlan setting words)
  one_of_words setting words None None x y = refl
  one_of_words setting words None (Some b) x y = absurd (laws.whole setting words x.0 b x.1 y)
  one_of_words setting words (Some a) None x y = absurd (laws.whole setting words y.0 a y.1 x)
  one_of_words setting words (Some a) (Some b) x y = ap Some (laws.broken setting words a b x y)

  one_of_board : (source : List ℕ) (words : List (List ℕ)) → IsDetermined (OfBoard names clocks source words)
  one_of_board source words a b x y =
      let program : y.program ≡ x.program =
      one_program laws.spelled source y.program x.program y.is_source x.is_source in
      let padded : ArePadsOf x.program y.pads = subst (λ (p : Program). ArePadsOf p y.pads) program y.padded in
      let pads : y.pads ≡ x.pads = laws.pads x.program y.pads x.pads padded x.padded in
      one_of_words (setting_of names clocks x.pads) words a b x.rules
      (subst (λ (p : Pads). OfPlan (setting_of names clocks p) words b) pads y.rules)

pub one_fault : Laws → (lent : Lent) (source cif : List ℕ) (clocks : ℕ) (words : List (List ℕ)) (files : Files)
    → IsDetermined ((work lent source cif clocks words).First files)
one_fault laws lent source cif clocks words files =
    one_of_two (SourceFault source files) (OfRule (OfBoard lent.names clocks (bytes_of files source) words))
    (laws.source source files)
    (one_of_rule _ (one_of_board laws lent.names clocks (bytes_of files source) words))
