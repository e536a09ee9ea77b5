use Rattle.std.proofs.Common.{◌≡◌, ◌∙◌, ◌++◌, ◌∷◌, [], ap, arith, length, map, refl, sym, take}
use Rattle.std.proofs.Math.Seq.{take-length}
use Rattle.std.specs.Prelude.{slice_index}
use Rattle.std.proofs.lemmas.List.{append-nil}
use Rattle.process_plan.specs.declared.role.Role.TheVariants.{Stacked}
use Rattle.process_layout.proofs.Growth.{bit_kept, entry_more, then_laid}
use Rattle.process_layout.proofs.places.lay_level.Goals as goal

pub loop-place-init : goal.loop-place-init
loop-place-init c = record {
  roles = sym (append-nil c.args.before.roles);
  cells = λ ds held. held;
}

pub loop-place-preserved : goal.loop-place-preserved
loop-place-preserved c =
    let k = c.args.process in
    let l = c.args.level in
    let js = c.args.places.now in
    let i = c.loop-place.place-index in
    let before = c.args.before in
    let laid = c.loop-place.laid in
    let now = c.in_ok-laid.laid in
    record {
      roles =
          then_laid before.roles (map (Stacked k l) (take i js)) laid.roles now.roles (Stacked k l (slice_index js i)
          ∷ [])
          c.loop-place.invariant.roles c.in_ok-laid.ensures.roles
          ∙ ap (λ rs. before.roles ++ rs) (sym (entry_more k l js i (omega arith)));
      cells = bit_kept before laid now (Stacked k l (slice_index js i)) (λ ds. refl) c.loop-place.invariant.cells
          c.in_ok-laid.ensures.cells c.in_ok-laid.ensures.roles;
    }

pub returns-clause-roles : goal.returns-clause-roles
returns-clause-roles c =
    let js = c.args.places.now in
    let end : c.loop-place.place-index ≡ length js = omega arith in
    c.loop-place.invariant.roles
    ∙ ap (λ n. c.args.before.roles ++ map (Stacked c.args.process c.args.level) (take n js)) end
    ∙ ap (λ xs. c.args.before.roles ++ map (Stacked c.args.process c.args.level) xs) (take-length js)

pub returns-clause-cells : goal.returns-clause-cells
returns-clause-cells c = c.loop-place.invariant.cells
