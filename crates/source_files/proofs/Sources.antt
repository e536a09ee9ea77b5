-- A source text spells one program.
use Rattle.std.proofs.Common.{◌≡◌, ℕ, List, Option}
use Rattle.mp_base.specs.declared.refusal.Broken.{Broken}
use Rattle.mp_program.specs.declared.program.Program.{Program}
use Rattle.mp_source.specs.Source.{IsSource, OfSource}

-- the laws of source texts
abbrev pub OneSource : Type 0
OneSource = (text : List ℕ) (p q : Program) → IsSource text p → IsSource text q → p ≡ q

abbrev pub OneVerdict : Type 0
OneVerdict = (text : List ℕ) (a b : Option Broken) → OfSource text a → OfSource text b → a ≡ b

pub one_program : OneSource → (text : List ℕ) (p q : Program) → IsSource text p → IsSource text q → p ≡ q
one_program one text p q a b = one text p q a b
