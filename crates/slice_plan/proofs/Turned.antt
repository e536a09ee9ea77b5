-- What shows transfers does so when it is reduced, and whatever turns its columns take.
use Rattle.std.proofs.Common.{ℕ, ◌≤◌, sym, ◌∙◌, subst, arith}
use Rattle.mp_base.specs.declared.limits.TheConstants.{WEIGHT_LIMIT}
use Rattle.column_turns.specs.declared.turns.Turns.{Turns}
use Rattle.rtl_form.specs.declared.rtl.Rtl.{Rtl}
use Rattle.rtl_form.specs.Cost.{cost}
use Rattle.path_form.specs.declared.path.DataPath.{DataPath}
use Rattle.path_form.specs.Sizes.{IsNarrow, IsWithin}
use Rattle.rtl_form.specs.Sound.{IsSound}
use Rattle.path_values.specs.Allocated.{AllocatedRealizes, IsAllocated}
use Rattle.path_values.specs.Realizing.{RealizedShows}
use Rattle.path_reducing.specs.Reduced.{IsReducedFrom}
use Rattle.path_laying.specs.Laid.{IsSmallPath}
use Rattle.path_plan.specs.Paths.{IsPathFor}
use Rattle.slice_plan.specs.Turned.{IsTurned}

-- the path with these turns
abbrev by_turns : DataPath → Turns → Turns → DataPath
by_turns p c s = record p { control_turns = c; slice_turns = s }

within_by : (n : ℕ) (p : DataPath) (c s : Turns) → IsWithin n p → IsWithin n (by_turns p c s)
within_by n p c s h = record {
  control = h.control;
  slices = h.slices;
  joints = h.joints;
  programs = h.programs;
  control_inputs = h.control_inputs;
  slice_inputs = h.slice_inputs;
}

narrow_by : (n : ℕ) (p : DataPath) (c s : Turns) → IsNarrow n p → IsNarrow n (by_turns p c s)
narrow_by n p c s h =
    record { control = h.control; slice = h.slice; control_used = h.control_used; slice_used = h.slice_used }

-- a path that stands for transfers shows them
allocated_for : (r : Rtl) (p : DataPath) → IsSound r → AllocatedRealizes → RealizedShows → IsAllocated r p
    → IsWithin (cost r) p → IsNarrow (cost r) p → IsPathFor r p
allocated_for r p sound realizes shows a within narrow = record {
  width = a.width;
  pads = a.pads;
  shows = shows r p (realizes r p sound a);
  within = within;
  narrow = narrow;
}

-- so does one that it is reduced to
reduced_for : (r : Rtl) (p q : DataPath) → IsPathFor r p → IsReducedFrom p q → IsPathFor r q
reduced_for r p q h e = record {
  width = e.width ∙ h.width;
  pads = e.pads ∙ h.pads;
  shows = e.shows r h.pads h.shows;
  within = e.within (cost r) h.within;
  narrow = e.narrow (cost r) h.narrow;
}

-- and a path in other turns
turned_for : (r : Rtl) (p q : DataPath) → IsPathFor r p → IsTurned p q → IsPathFor r q
turned_for r p q h e =
    subst (IsPathFor r) (sym e) (record {
      width = h.width;
      pads = h.pads;
      shows = h.shows;
      within = within_by (cost r) p q.control_turns q.slice_turns h.within;
      narrow = narrow_by (cost r) p q.control_turns q.slice_turns h.narrow;
    })

-- one that was allocated, reduced and turned
pub path_for : (r : Rtl) (p q t : DataPath) → IsSound r → AllocatedRealizes → RealizedShows → IsAllocated r p
    → IsWithin (cost r) p → IsNarrow (cost r) p → IsReducedFrom p q → IsTurned q t → IsPathFor r t
path_for r p q t sound realizes shows a within narrow reduced turned =
    turned_for r q t (reduced_for r p q (allocated_for r p sound realizes shows a within narrow) reduced) turned

-- a path for few transfers is small
pub small_for : (r : Rtl) (p : DataPath) → cost r ≤ WEIGHT_LIMIT → IsPathFor r p → IsSmallPath p
small_for r p light h =
    let w = h.within in
    let control = w.control in
    let slices = w.slices in
    let joints = w.joints in
    let programs = w.programs in
    let control_inputs = w.control_inputs in
    let slice_inputs = w.slice_inputs in
    record {
      control = omega (arith, light, control);
      slices = omega (arith, light, slices);
      joints = omega (arith, light, joints);
      programs = omega (arith, light, programs);
      control_inputs = omega (arith, light, control_inputs);
      slice_inputs = omega (arith, light, slice_inputs);
    }
