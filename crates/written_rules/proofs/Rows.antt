-- Small programs that break rules.
use Rattle.std.proofs.Common.{ℕ, ◌+◌, [], ◌∷◌, refl, inr, arith}
use Rattle.std.specs.Prelude.{codes}
use Rattle.mp_base.specs.declared.refusal.Place.{Place}
use Rattle.mp_written.specs.declared.program.ExprKind.TheVariants.{Named, Use}
use Rattle.mp_written.specs.declared.program.What.TheVariants as whats
use Rattle.mp_written.specs.declared.program.Program.{Program}
use Rattle.mp_written.specs.Sound.{itself}
use Rattle.written_rules.specs.Rules.{E21}

abbrev at : ℕ → Place
at n = record { offset = n; line = 1; column = n + 1 }

-- (program x 4(def g function (v) (g v)))
abbrev circular : Program
circular = record {
  place = at 0;
  name = codes "x";
  width = 4;
  defs = record { place = at 12; name = codes "g"; what = whats.Function (record { place = at 29; name = codes "v" } ∷ []) 0; pins = [] } ∷ [];
  exprs = record { place = at 32; kind = Use (at 33) (codes "g") (1 ∷ []) }
      ∷ record { place = at 35; kind = Named (codes "v") } ∷ [];
  forms = [];
  always = [];
  processes = [];
  fits = refl;
  tree = refl;
}

-- in its own body a function may not be used yet
circular_breaks : E21 circular (at 33)
circular_breaks = inr (inr (
  0,
  _,
  codes "g",
  1 ∷ [],
  refl,
  refl,
  λ j g may. (let lt = may.2 0 _ (refl, itself) in omega (arith, lt)),
))
