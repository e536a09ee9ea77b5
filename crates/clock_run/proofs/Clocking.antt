-- What drives a network in each setting of a clock.
use Rattle.std.proofs.Common.{◌≡◌, ℕ, zero, suc, List, [], ◌∷◌, ◌++◌, Option, None, replicate, refl, sym, ◌∙◌, subst}
use Rattle.std.proofs.Common.{arith}
use Rattle.std.specs.Prelude.{All, flat_map}
use Rattle.std.specs.List.{AllZip}
use Rattle.mp_base.specs.declared.value.Trit.{Trit}
use Rattle.mp_base.specs.declared.pad.Pads.{Pads}
use Rattle.switch_net.specs.declared.network.Network.{Network}
use Rattle.mp_base.specs.PadBits.{Fit}
use Rattle.switch_net.specs.Clock.{Phases, IsClock, IsCircuitTrace, SettlesTo, Shows, AreDrivers, drives}
use Rattle.switch_net.specs.Values.{value_at, driver_at}
use Rattle.clock_run.specs.Circuit.{Running}
use Rattle.switch_net.specs.Breaks.{HasPads}
use Rattle.switch_net.specs.Settled.{IsSettled}
use Rattle.switch_net.specs.Laws.{TraceExists}
use Rattle.clock_run.specs.declared.setting.Setting.{Setting}
use Rattle.clock_run.specs.declared.setting.Setting.TheVariants.{Quiet, PhiA, PhiB, PhiC}
use Rattle.clock_run.specs.Settings.{phases_of, levels}
use Rattle.clock_run.specs.Driving.{IsDriven, AreDriven, AreSet}
use Rattle.clock_run.specs.Plan.{IsPlan}
use Rattle.clock_run.proofs.Planned.{supplies_driven, inputs_driven, plan_drives}

-- the drivers in one setting
abbrev HasDrivers : Network → Pads → List ℕ → Phases → Type 0
HasDrivers net pads words phases = (driver : ℕ → Option Trit) × AreDrivers net (drives phases pads.inputs words) driver

in_clock : (net : Network) (pads : Pads) (words : List ℕ) (before : ℕ → Trit) (shown : List (List Trit))
    (after : ℕ → Trit)
    → IsClock net pads words before shown after
    → (setting : Setting) → HasDrivers net pads words (phases_of setting)
in_clock net pads words before shown after k PhiC = let (first, phic, more) = k.until in (phic.driver, phic.drivers)
in_clock net pads words before shown after k Quiet =
    let (first, phic, (second, quiet, more)) = k.until in (quiet.driver, quiet.drivers)
in_clock net pads words before shown after k PhiA = let (third, phia, more) = k.rest in (phia.driver, phia.drivers)
in_clock net pads words before shown after k PhiB =
    let (third, phia, (fourth, quiet, (fifth, phib, more))) = k.rest in (phib.driver, phib.drivers)

in_trace : (net : Network) (pads : Pads) (words : List ℕ) (before : ℕ → Trit) (outputs : List (List (List Trit)))
    (after : ℕ → Trit)
    → IsCircuitTrace net pads before (words ∷ []) outputs after → (setting : Setting)
    → HasDrivers net pads words (phases_of setting)
in_trace net pads words before [] after t setting = absurd t
in_trace net pads words before (shown ∷ rest) after t setting = in_clock net pads words before shown t.0 t.1 setting

-- each setting has its drivers, since a clock can be run
pub drivers_in : TraceExists → (net : Network) (pads : Pads) (words : List ℕ) (before : ℕ → Trit) → HasPads net pads
    → Fit pads.inputs words
    → (setting : Setting)
    → (driver : ℕ → Option Trit) × AreDrivers net (drives (phases_of setting) pads.inputs words) driver
drivers_in law net pads words before has fit setting =
    let t = law net pads before (words ∷ []) has (λ k d lt. all k d lt) in
    in_trace net pads words before t.0 t.1 t.2 setting
  where
    all : All (Fit pads.inputs) (words ∷ [])
    all zero d lt = fit
    all (suc k) d lt = absurd (omega (arith, lt))

-- where a plan has set what drives the network, it settles as the setting says
pub settles_to : TraceExists → (net : Network) (pads : Pads) (supply : List ℕ) (inputs outputs : List (List ℕ))
    → IsPlan net pads supply inputs outputs
    → (words : List ℕ) → Fit pads.inputs words → (setting : Setting) (size : ℕ) (new : List (Option Trit))
    → ((driver : ℕ → Option Trit) → AllZip (IsDriven driver) supply (levels (phases_of setting))
    → AllZip (AreDriven driver) inputs words
    → AreSet driver (supply ++ flat_map (λ ns. ns) inputs) (replicate size None) new)
    → (before after : ℕ → Trit)
    → IsSettled (record { channels = net.channels; driver = driver_at new; before = before }) after
    → SettlesTo net (drives (phases_of setting) pads.inputs words) before after
settles_to law net pads supply inputs outputs plan words fit setting size new set before after h =
    let d = drivers_in law net pads words before plan.has_pads fit setting in
    let s = set d.0 (supplies_driven net pads supply inputs outputs plan words fit (phases_of setting) d.0 d.1)
    (inputs_driven net pads supply inputs outputs plan words fit (phases_of setting) d.0 d.1) in
    let e : driver_at new ≡ d.0 =
    plan_drives net pads supply inputs outputs plan words fit (phases_of setting) d.0 d.1 size new s in
    record {
      driver = driver_at new;
      drivers = subst (λ f. AreDrivers net (drives (phases_of setting) pads.inputs words) f) (sym e) d.1;
      settled = h;
    }

-- a circuit settled in one setting
pub record Stepped (setting : Setting) (words : List ℕ) (a b : Running) : Type 0 where
  pub network : b.network ≡ a.network
  pub pads : b.pads ≡ a.pads
  pub settled : SettlesTo a.network (drives (phases_of setting) a.pads.inputs words) (value_at a.values)
      (value_at b.values)

settled_at : (setting : Setting) (words : List ℕ) (net : Network) (pads : Pads) (a b : Running) → a.network ≡ net
    → a.pads ≡ pads
    → Stepped setting words a b
    → SettlesTo net (drives (phases_of setting) pads.inputs words) (value_at a.values) (value_at b.values)
settled_at setting words net pads a b n p s =
    subst (λ (x : Network). SettlesTo x (drives (phases_of setting) pads.inputs words) (value_at a.values)
    (value_at b.values)) n
    (subst (λ (x : Pads). SettlesTo a.network (drives (phases_of setting) x.inputs words) (value_at a.values)
    (value_at b.values)) p
    s.settled)

pub six_settings : (words : List ℕ) (a b c d e f g : Running) (shown : List (List Trit)) → Stepped PhiC words a b
    → Stepped Quiet words b c
    → AllZip (Shows c.network (value_at c.values)) c.pads.outputs shown → Stepped PhiA words c d
    → Stepped Quiet words d e
    → Stepped PhiB words e f → Stepped Quiet words f g
    → IsClock a.network a.pads words (value_at a.values) shown (value_at g.values)
six_settings words a b c d e f g shown ab bc s cd de ef fg =
    let nc = bc.network ∙ ab.network in
    let pc = bc.pads ∙ ab.pads in
    let nd = cd.network ∙ nc in
    let pd = cd.pads ∙ pc in
    let ne = de.network ∙ nd in
    let pe = de.pads ∙ pd in
    let nf = ef.network ∙ ne in
    let pf = ef.pads ∙ pe in
    let at = λ (setting : Setting) (x y : Running). settled_at setting words a.network a.pads x y in
    record {
      values = value_at c.values;
      until = (
        value_at b.values,
        at PhiC a b refl refl
            ab,
        (value_at c.values, at Quiet b c ab.network ab.pads bc, λ n. refl),
      );
      shows = subst (λ (x : Network). AllZip (Shows x (value_at c.values)) a.pads.outputs shown) nc
          (subst (λ (x : Pads). AllZip (Shows c.network (value_at c.values)) x.outputs shown) pc s);
      rest = (
        value_at d.values,
        at PhiA c d nc pc cd,
        (
          value_at e.values,
          at Quiet d e nd pd de,
          (value_at f.values, at PhiB e f ne pe ef, (value_at g.values, at Quiet f g nf pf fg, λ n. refl)),
        ),
      );
    }
