-- The names of labels.
use Rattle.std.specs.Prelude.{◌≡◌, ◌≢◌, ℕ, ◌<◌, List, Bool, Some, All}
use Rattle.std.specs.Ordering.{nat_cmp}
use Rattle.std.specs.Cmp.Lexicographic.{slice_cmp}
use Rattle.std.specs.BTreeSet.{BTreeSet, contains_by}
use denote.Ref.{Bor}
use Rattle.mp_base.specs.declared.refusal.Place.{Place}
use Rattle.mp_program.specs.declared.program.Label.{Label}
use Rattle.mp_program.specs.declared.program.FormKind.{FormKind}
use Rattle.mp_base.specs.Entries.{IsAt}
use Rattle.mp_rules.specs.Standing.{label_of}

-- a name is among these
abbrev pub has : BTreeSet (Bor (List ℕ)) → List ℕ → Bool
has names x = contains_by (λ k. slice_cmp nat_cmp x k.now) names

-- one of these labels has the name x
abbrev pub IsLabel : List Label → List ℕ → Type 0
IsLabel labels x = (k : ℕ) × (a : Label) × IsAt labels k a × (a.name ≡ x)

-- at is the place of a label whose name an earlier one has
abbrev pub IsRepeated : List Label → Place → Type 0
IsRepeated labels at =
    (i j : ℕ) × (a b : Label) × IsAt labels i a × IsAt labels j b × (i < j) × (a.name ≡ b.name) × (at ≡ b.place)

-- a form of this kind goes to a label that isn't among these
abbrev pub IsAstray : List Label → FormKind → Type 0
IsAstray labels kind = (l : List ℕ) × (label_of kind ≡ Some l) × All (λ (x : Label). x.name ≢ l) labels
