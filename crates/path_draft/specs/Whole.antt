-- When a path may be made of nets and what joins them.
use Rattle.std.specs.Prelude.{◌≡◌, ℕ, true, false, length}
use Rattle.mp_base.specs.declared.pad.Pads.{Pads}
use Rattle.path_form.specs.declared.path.DataPath.{DataPath}
use Rattle.path_form.specs.Shape.{AreInputs, control_ends, entries_of, slice_ends}
use Rattle.path_order.specs.Marked.{RiseTo}
use Rattle.path_order.specs.Order.{start}
use Rattle.path_draft.specs.declared.path.Body.{Body}
use Rattle.path_draft.specs.Likeness.{IsNoLarger}
use Rattle.path_draft.specs.Testing.{ArePads, casts_join, chains_join, lifts_join}

-- what joins the nets of w slices and the control fits them and the marks
pub record JointsFit (w : ℕ) (b : Body) : Type 0 where
  pub rise : RiseTo (record { slices = length b.slices.net; control = length b.control }) start b.marks
  pub chains : chains_join (length b.slices.net) b.marks b.slices.chains ≡ true
  pub casts : casts_join (length b.control) b.marks b.casts ≡ true
  pub lifts : lifts_join w (length b.slices.net) b.marks b.lifts ≡ true

pub record ControlFits (ps : Pads) (b : Body) : Type 0 where
  pub inputs : AreInputs b.control (control_ends (entries_of false ps.inputs b.inputs) b.lifts)
  pub pads : ArePads b.control (entries_of false ps.inputs b.inputs) (entries_of false ps.outputs b.outputs)

pub record SlicesFit (ps : Pads) (b : Body) : Type 0 where
  pub inputs : AreInputs b.slices.net (slice_ends (entries_of true ps.inputs b.inputs) b.slices b.casts)
  pub pads : ArePads b.slices.net (entries_of true ps.inputs b.inputs) (entries_of true ps.outputs b.outputs)

-- with the pads of this path
pub record IsWhole (p : DataPath) (b : Body) : Type 0 where
  pub input_count : length b.inputs ≡ length (p.pads).inputs
  pub output_count : length b.outputs ≡ length (p.pads).outputs
  pub no_larger : IsNoLarger p b.control b.slices b.casts b.lifts
  pub joints : JointsFit p.width b
  pub control : ControlFits p.pads b
  pub slices : SlicesFit p.pads b

-- the path of these nets, with these pads
pub record IsBodyOf (w : ℕ) (b : Body) (ps : Pads) (p : DataPath) : Type 0 where
  pub width : p.width ≡ w
  pub control : p.control ≡ b.control
  pub slices : p.slices ≡ b.slices
  pub casts : p.casts ≡ b.casts
  pub lifts : p.lifts ≡ b.lifts
  pub pads : p.pads ≡ ps
