use Rattle.std.proofs.Common.{◌≡◌, ℕ, List, Option, None, replicate, length, sym, subst, rules}
use Rattle.std.specs.Prelude.{flat_map}
use Rattle.std.specs.List.{AllZip}
use Rattle.mp_base.specs.declared.value.Trit.{Trit}
use Rattle.clock_run.specs.Driving.{IsDriven, AreDriven, AreSet}
use Rattle.clock_run.proofs.Driven.{set_then}
use Rattle.clock_run.proofs.plan.Plan.drive.Goals as goal

pub returns : goal.returns
returns c = λ driver y z.
    let plan = c.args.self.now in
    let cleared : c.fill.new.self ≡ replicate (length c.args.drive.now) None = c.fill.ensures.after (search rules) in
    let first : AreSet driver plan.supplies c.fill.new.self c.drive_levels.new.drive =
    subst (λ (ns : List ℕ). AreSet driver ns c.fill.new.self c.drive_levels.new.drive) c.as_slice.ensures
    (c.drive_levels.ensures driver
    (subst (λ (ns : List ℕ). AllZip (IsDriven driver) ns c.levels.result) (sym c.as_slice.ensures)
    (subst (λ (bs : List Trit). AllZip (IsDriven driver) plan.supplies bs) (sym c.levels.ensures) y))) in
    let second : AreSet driver (flat_map (λ ns. ns) plan.inputs) c.drive_levels.new.drive c.drive_words.new.drive =
    subst (λ (nss : List (List ℕ)). AreSet driver
    (flat_map (λ ns. ns) nss) c.drive_levels.new.drive c.drive_words.new.drive)
    c.as_slice-2.ensures
    (c.drive_words.ensures driver
    (subst (λ (nss : List (List ℕ)). AllZip (AreDriven driver) nss c.as_slice-3.result.now) (sym c.as_slice-2.ensures)
    (subst (λ (ws : List ℕ). AllZip (AreDriven driver) plan.inputs ws) (sym c.as_slice-3.ensures) z))) in
    set_then driver plan.supplies (flat_map (λ ns. ns) plan.inputs)
    (replicate (length c.args.drive.now) None) c.drive_levels.new.drive
    c.drive_words.new.drive
    (subst (λ (a : List (Option Trit)). AreSet driver plan.supplies a c.drive_levels.new.drive) cleared first) second
