-- The earliest place among those that are found in a list.
use Rattle.std.specs.Prelude.{List, Option, None, fold}
use Rattle.mp_base.specs.declared.refusal.Place.{Place}
use Rattle.mp_rules.specs.Breaking.{earlier_of}

-- the earliest that is found in an entry of a list
abbrev pub earliest : {X : Type 0} → (X → Option Place) → List X → Option Place
earliest find xs = fold (λ found x. earlier_of found (find x)) None xs
