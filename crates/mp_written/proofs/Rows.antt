-- Small programs, and what they become.
use Rattle.std.proofs.Common.{◌≡◌, ℕ, ◌+◌, [], ◌∷◌, refl}
use Rattle.std.specs.Prelude.{codes}
use Rattle.mp_base.specs.declared.op.Op.TheVariants.{Add, Inc}
use Rattle.mp_base.specs.declared.refusal.Place.{Place}
use Rattle.mp_program.specs.declared.program.FormKind.TheVariants.{Set}
use Rattle.mp_program.specs.declared.program.ExprKind.TheVariants as plains
use Rattle.mp_written.specs.declared.program.ExprKind.TheVariants.{Named, Apply, Use}
use Rattle.mp_written.specs.declared.program.What.TheVariants as whats
use Rattle.mp_program.specs.declared.program.Way.TheVariants.{Input, Output}
use Rattle.mp_written.specs.declared.program.Program.{Program}
use Rattle.mp_written.specs.Laying.{laid}
use Rattle.mp_written.specs.Expansion.{all_pieces}
use Rattle.mp_written.specs.Weight.{weight}

abbrev at : ℕ → Place
at n = record { offset = n; line = 1; column = n + 1 }

-- (def dbl function (v) (+ v v)) (def a port input (..)) (def q port output (..)) (always (setq q (dbl (1+ a))))
abbrev doubled : Program
doubled = record {
  place = at 0;
  name = codes "x";
  width = 4;
  defs = record { place = at 1; name = codes "dbl"; what = whats.Function (record { place = at 2; name = codes "v" } ∷ []) 0; pins = [] }
      ∷ record { place = at 10; name = codes "a"; what = whats.Port Input; pins = [] }
      ∷ record { place = at 11; name = codes "q"; what = whats.Port Output; pins = [] } ∷ [];
  exprs = record { place = at 3; kind = Apply Add 0 (1 ∷ 2 ∷ []) }
      ∷ record { place = at 4; kind = Named (codes "v") }
      ∷ record { place = at 5; kind = Named (codes "v") }
      ∷ record { place = at 20; kind = Use (at 21) (codes "dbl") (4 ∷ []) }
      ∷ record { place = at 22; kind = Apply Inc 0 (5 ∷ []) }
      ∷ record { place = at 23; kind = Named (codes "a") } ∷ [];
  forms = record { place = at 19; kind = Set (codes "q") (at 19) 3 } ∷ [];
  always = 0 ∷ [];
  processes = [];
  fits = refl;
  tree = refl;
}

-- the body has the place of the use, the operand its own, twice
doubled_is : (laid 0 (all_pieces doubled)).exprs
    ≡ record { place = at 20; kind = plains.Apply Add 0 (1 ∷ 3 ∷ []) }
    ∷ record { place = at 22; kind = plains.Apply Inc 0 (2 ∷ []) }
    ∷ record { place = at 23; kind = plains.Named (codes "a") }
    ∷ record { place = at 22; kind = plains.Apply Inc 0 (4 ∷ []) }
    ∷ record { place = at 23; kind = plains.Named (codes "a") } ∷ []
doubled_is = refl

doubled_weighs : weight doubled ≡ 38
doubled_weighs = refl
