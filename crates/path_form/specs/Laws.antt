-- What holds of every data path.
use Rattle.std.specs.Prelude.{◌≡◌, ◌<◌, ℕ, suc, Contains, ◌==◌}
use Rattle.std.specs.Int.{bit_at}
use Rattle.mp_base.specs.declared.value.Trit.{Trit}
use Rattle.nor_net.specs.Elements.{Spot, nets_of, spot}
use Rattle.nor_net.specs.Settled.{Obeys}
use Rattle.nor_net.specs.Machine.{Solves}
use Rattle.nor_net.specs.Laws.{bit}
use Rattle.organelles.specs.declared.slices.Programmed.{Programmed}
use Rattle.path_form.specs.declared.path.Cast.{Cast}
use Rattle.path_form.specs.declared.path.Lift.{Lift}
use Rattle.path_form.specs.declared.path.DataPath.{DataPath}
use Rattle.path_form.specs.Showing.{path_nets, HasTraces}

-- every path has traces
abbrev pub PathsRun : Type 0
PathsRun = (p : DataPath) → HasTraces p

-- in every solution each net of the control has what its gate gives it
abbrev pub ControlObeys : Type 0
ControlObeys = (p : DataPath) (v : Spot → Trit) → Solves (path_nets p) v → (n : ℕ)
    → Obeys v (record { band = 0; net = n }) (nets_of p.control (record { band = 0; net = n }))

-- a lift has its slice's value
abbrev pub LiftsJoin : Type 0
LiftsJoin = (p : DataPath) (v : Spot → Trit) (l : Lift) → Solves (path_nets p) v → Contains p.lifts l
    → v (spot 0 l.control) ≡ v (spot (suc l.slice) l.from)

-- a cast has the control's value, in each slice
abbrev pub CastsJoin : Type 0
CastsJoin = (p : DataPath) (v : Spot → Trit) (c : Cast) (k : ℕ) → Solves (path_nets p) v → Contains p.casts c
    → k < p.width → v (spot (suc k) c.slice) ≡ v (spot 0 c.control)

-- a programmed net has its bit
abbrev pub ProgramsGive : Type 0
ProgramsGive = (p : DataPath) (v : Spot → Trit) (g : Programmed) (k : ℕ) → Solves (path_nets p) v
    → Contains p.slices.programs g → k < p.width → v (spot (suc k) g.net) ≡ bit (bit_at g.bits k == 1)
