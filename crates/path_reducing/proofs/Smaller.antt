-- A path that is a reduction, is no larger and leaves no pad idle is reduced.
use Rattle.std.proofs.Common.{◌≡◌, ℕ, true, false, ◌∙◌, arith}
use Rattle.std.proofs.lemmas.List.Elements.{All-contains}
use Rattle.path_form.specs.declared.path.DataPath.{DataPath}
use Rattle.path_form.specs.Shape.{entries_of}
use Rattle.path_form.specs.Sizes.{IsNarrow, IsWithin}
use Rattle.path_reduce.specs.declared.images.Images.{Images}
use Rattle.path_reduce.specs.Images.{IsReduction, ReductionsReduce}
use Rattle.path_reduce.specs.Reducing.{ReducedShows}
use Rattle.path_reduce.specs.Tables.{images_of}
use Rattle.path_draft.specs.Likeness.{IsLike}
use Rattle.path_reducing.specs.Reduced.{IsReducedFrom, IsUsed, control_reads, slice_reads}

module _ (p q : DataPath) (like : IsLike p q) where
  within : (cost : ℕ) → IsWithin cost p → IsWithin cost q
  within cost h =
      let n = like.no_larger in
      let nets = n.control.nets in
      let slice_nets = n.slices.nets in
      let chains = n.chains in
      let casts = n.casts in
      let lifts = n.lifts in
      let programs = n.programs in
      let inputs = n.control.inputs in
      let slice_inputs = n.slices.inputs in
      record {
        control = omega (arith, nets, h.control);
        slices = omega (arith, slice_nets, h.slices);
        joints = omega (arith, chains, casts, lifts, h.joints);
        programs = omega (arith, programs, h.programs);
        control_inputs = omega (arith, inputs, h.control_inputs);
        slice_inputs = omega (arith, slice_inputs, h.slice_inputs);
      }

  narrow : IsUsed q → (cost : ℕ) → IsNarrow cost p → IsNarrow cost q
  narrow used cost h =
      let n = like.no_larger in
      let chains = n.chains in
      let casts = n.casts in
      let lifts = n.lifts in
      let programs = n.programs in
      let control = n.control.active in
      let slices = n.slices.active in
      record {
        control = omega (arith, control, casts, lifts, h.control);
        slice = omega (arith, slices, chains, programs, casts, lifts, h.slice);
        control_used = λ id c. All-contains (λ id. control_reads q id ≡ true)
            (entries_of false (q.pads).inputs q.inputs) id used.control c;
        slice_used = λ id c. All-contains (λ id. slice_reads q id ≡ true) (entries_of true (q.pads).inputs q.inputs) id
            used.slices c;
      }

  pub reduced_from : (t : Images) → ReductionsReduce → ReducedShows → IsReduction p q (images_of p.width t) → IsUsed q
      → IsReducedFrom p q
  reduced_from t reduce show h used = record {
    width = like.width;
    pads = like.pads;
    shows = λ r same. show r p q (images_of p.width t) (reduce p q (images_of p.width t) h) same;
    within = within;
    narrow = narrow used;
  }

pub in_two_rounds : (p q r : DataPath) → IsReducedFrom p q → IsReducedFrom q r → IsReducedFrom p r
in_two_rounds p q r h k = record {
  width = k.width ∙ h.width;
  pads = k.pads ∙ h.pads;
  shows = λ rtl same s. k.shows rtl (h.pads ∙ same) (h.shows rtl same s);
  within = λ cost s. k.within cost (h.within cost s);
  narrow = λ cost s. k.narrow cost (h.narrow cost s);
}
