-- Weights of definitions, and the greatest ones that expressions mention and definitions read.
use Rattle.std.specs.Prelude.{◌≡◌, ◌⊎◌, ℕ, ◌+◌, ◌<◌, ◌≤◌, List, true, length, slice_index, Contains}
use Rattle.mp_base.specs.declared.refusal.Place.{Place}
use Rattle.mp_program.specs.declared.program.FormKind.{FormKind}
use Rattle.mp_program.specs.declared.program.FormKind.TheVariants.{Set, Cond, Par}
use Rattle.mp_program.specs.declared.program.Branch.{Branch}
use Rattle.mp_program.specs.declared.program.Def.{Def}
use Rattle.mp_program.specs.declared.program.Form.{Form}
use Rattle.mp_program.specs.declared.program.Program.{Program}
use Rattle.mp_program.specs.Names.{is_driven, index_of}
use Rattle.mp_program.specs.Reads.{mentions, roots, Reads}
use Rattle.mp_base.specs.Entries.{IsAt}
use Rattle.name_meanings.specs.declared.meaning.Meanings.{Meanings}

-- the definition at an index, which is x, is driven
abbrev pub IsDriven : Program → ℕ → Def → Type 0
IsDriven p d x = IsAt p.defs d x × (is_driven x.what ≡ true)

-- no definition before a driven one has its name
abbrev pub OwnNames : Program → Type 0
OwnNames p = (d : ℕ) (x : Def) → IsDriven p d x → index_of p.defs x.name ≡ d

-- only driven definitions have a weight
abbrev pub WeighsDriven : Program → List ℕ → Type 0
WeighsDriven p weights = (d : ℕ) → 0 < slice_index weights d → (x : Def) × IsDriven p d x

-- for each expression, from the one at n on, the greatest weight of a driven definition whose name stands in it
pub record AreTops (p : Program) (weights : List ℕ) (n : ℕ) (tops : List ℕ) : Type 0 where
  pub size : length tops ≡ length p.exprs
  pub bound : (e d : ℕ) (x : Def) → n ≤ e → e < length p.exprs → IsDriven p d x → mentions p x.name e ≡ true
      → slice_index weights d ≤ slice_index tops e
  pub met : (e : ℕ) → n ≤ e → e < length p.exprs → 0 < slice_index tops e
      → (d : ℕ) × (x : Def) × IsDriven p d x × (mentions p x.name e ≡ true)
      × (slice_index weights d ≡ slice_index tops e)

-- The mark of a form is 0 where no clock can reach it. Else it is one more than the greatest weight in the guards on
-- which it depends:
-- those of the branches around it and of the branches before these. A form of this kind and mark gives the form f the
-- mark k.
abbrev pub Gives : List ℕ → FormKind → ℕ → ℕ → ℕ → Type 0
Gives tops (Cond bs) mark f k = (j : ℕ) × (b : Branch) × IsAt bs j b × Contains b.body f
    × ((k ≡ mark) ⊎ ((i : ℕ) × (c : Branch) × IsAt bs i c × (i ≤ j) × (k ≡ slice_index tops c.guard + 1)))
Gives tops (Par fs) mark f k = Contains fs f × (k ≡ mark)
Gives tops _ mark f k = ⊥

-- the form f is given the mark k
pub data Marked (p : Program) (tops : List ℕ) : ℕ → ℕ → Type 0 where
  root : {f : ℕ} → Contains (roots p) f → Marked p tops f 1
  inner : {f mark g k : ℕ} → (y : Form) → Marked p tops f mark → IsAt p.forms f y → Gives tops y.kind mark g k
      → Marked p tops g k

-- the greatest mark that each form is given
pub record AreMarks (p : Program) (tops marks : List ℕ) : Type 0 where
  pub met : (f : ℕ) → (slice_index marks f ≡ 0) ⊎ Marked p tops f (slice_index marks f)
  pub bound : (f k : ℕ) → Marked p tops f k → k ≤ slice_index marks f

-- a `setq` of definition a, at a form before n, is worth k
abbrev pub Asks : Program → Meanings → List ℕ → List ℕ → ℕ → ℕ → ℕ → Type 0
Asks p m tops marks n a k = (f : ℕ) × (y : Form) × (name : List ℕ) × (at : Place) × (v : ℕ) × (f < n)
    × IsAt p.forms f y × (y.kind ≡ Set name at v)
    × (slice_index m.targets f ≡ a) × (0 < slice_index marks f)
    × ((k ≡ slice_index tops v) ⊎ (k + 1 ≡ slice_index marks f))

-- for each driven definition the greatest weight of one that it reads
pub record AreDemands (p : Program) (weights demands : List ℕ) : Type 0 where
  pub bound : (a b : ℕ) → Reads p a b → slice_index weights b ≤ slice_index demands a
  pub met : (a : ℕ) (x : Def) → IsDriven p a x → 0 < slice_index demands a
      → (b : ℕ) × Reads p a b × (slice_index weights b ≡ slice_index demands a)
