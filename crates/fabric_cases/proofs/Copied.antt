-- A fabric that is filled with what stands in another one is that one.
use Rattle.std.proofs.Common.{ℕ, ◌≡◌, List, sym, subst}
use Rattle.fabric.specs.declared.thing.Segment.{Segment}
use Rattle.fabric.specs.declared.thing.Line.{Line}
use Rattle.fabric.specs.declared.thing.Mark.{Mark}
use Rattle.fabric.specs.Plan.{Plan, IsFabric, empty, with_added}

pub refilled : (f g : Plan) (columns : ℕ) (rows : List ℕ) (segments : List Segment) (lines : List Line)
    (marks : List Mark) → IsFabric f → g ≡ empty columns rows → columns ≡ f.columns → rows ≡ f.rows
    → segments ≡ f.segments → lines ≡ f.lines → marks ≡ f.marks → IsFabric (with_added g segments lines marks)
refilled f g columns rows segments lines marks met e same_columns same_rows same_segments same_lines same_marks =
    subst (λ h. IsFabric (with_added h segments lines marks)) (sym e) (subst IsFabric path met)
  where
    path : f ≡ with_added (empty columns rows) segments lines marks
    path = λ i. record {
      columns = sym same_columns i;
      rows = sym same_rows i;
      segments = sym same_segments i;
      lines = sym same_lines i;
      marks = sym same_marks i;
    }
