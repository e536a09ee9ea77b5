-- Steps of what is told, one after another.
use Rattle.std.proofs.Common.{ℕ, List, [], ◌++◌, refl, sym, ap, ◌∙◌, append_assoc, Option, Some, None}
use Rattle.std.proofs.lemmas.List.{append-nil}
use Rattle.outside.specs.Outside.{WhereTold, Keeps, Gains}

-- two steps make a third
pub told_then : {X : Type 0} (R S Q : X → X → Type 0) (x y z : Option X) → ((a b c : X) → R a b → S b c → Q a c)
    → WhereTold R x y → WhereTold S y z → WhereTold Q x z
told_then R S Q x y None join r s = tt
told_then R S Q x None (Some c) join r s = absurd s
told_then R S Q None (Some b) (Some c) join r s = absurd r
told_then R S Q (Some a) (Some b) (Some c) join r s = join a b c r s

-- a step of what is told anyway
pub told_map : {X : Type 0} (R Q : X → X → Type 0) (x y : Option X) → ((a b : X) → R a b → Q a b) → WhereTold R x y
    → WhereTold Q x y
told_map R Q x None join r = tt
told_map R Q None (Some c) join r = absurd r
told_map R Q (Some a) (Some c) join r = join a c r

pub keeps_same : {X : Type 0} (x : Option X) → Keeps x x
keeps_same None = tt
keeps_same (Some a) = refl

pub gains_nothing : (x : Option (List ℕ)) → WhereTold (Gains []) x x
gains_nothing None = tt
gains_nothing (Some text) = sym (append-nil text)

gain_twice : (a b x y z : List ℕ) → Gains a x y → Gains b y z → Gains (a ++ b) x z
gain_twice a b x y z e f = f ∙ ap (λ v. v ++ b) e ∙ append_assoc x a b

-- one text gained behind another
pub gains_twice : (a b : List ℕ) (x y z : Option (List ℕ)) → WhereTold (Gains a) x y → WhereTold (Gains b) y z
    → WhereTold (Gains (a ++ b)) x z
gains_twice a b x y z p q = told_then _ _ _ x y z (gain_twice a b) p q
