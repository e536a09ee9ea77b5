use Rattle.std.proofs.Common.{◌≡◌, ◌∙◌, ◌-◌, ◌++◌, ◌∷◌, [], ap, arith, refl, sym}
use Rattle.std.proofs.lemmas.List.{append-nil}
use Rattle.process_plan.specs.declared.role.Role.TheVariants.{Placed}
use Rattle.process_layout.specs.Laying.{place_roles}
use Rattle.process_layout.proofs.Growth.{bit_kept, place_more, then_laid}
use Rattle.process_layout.proofs.places.lay_places.Goals as goal

pub loop-place-init : goal.loop-place-init
loop-place-init c = record {
  roles = sym (append-nil c.args.before.roles);
  cells = λ ds held. held;
  within = omega arith;
}

pub loop-place-preserved : goal.loop-place-preserved
loop-place-preserved c =
    let k = c.args.process in
    let j = c.loop-place.place in
    let before = c.args.before in
    let laid = c.loop-place.laid in
    let now = c.in_ok-laid.laid in
    record {
      roles =
          then_laid before.roles (place_roles k (j - 1)) laid.roles now.roles (Placed k j ∷ [])
          c.loop-place.invariant.roles
          c.in_ok-laid.ensures.roles
          ∙ ap (λ rs. before.roles ++ rs) (sym (place_more k j (omega arith)));
      cells = bit_kept before laid now (Placed k j) (λ ds. refl) c.loop-place.invariant.cells c.in_ok-laid.ensures.cells
          c.in_ok-laid.ensures.roles;
      within = omega arith;
    }

pub returns-clause-roles : goal.returns-clause-roles
returns-clause-roles c =
    let end : c.loop-place.place - 1 ≡ c.args.forms - 1 = omega (arith, c.loop-place.invariant.within) in
    c.loop-place.invariant.roles ∙ ap (λ n. c.args.before.roles ++ place_roles c.args.process n) end

pub returns-clause-cells : goal.returns-clause-cells
returns-clause-cells c = c.loop-place.invariant.cells
