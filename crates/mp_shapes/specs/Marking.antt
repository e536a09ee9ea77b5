-- A step of the pass that gives nodes their classes.
use Rattle.std.specs.Prelude.{◌≡◌, ◌⊎◌, ℕ, ◌<◌, List, length, Option, Some, None, slice_index_or, slice_index}
use Rattle.mp_shapes.specs.declared.table.Class.{Class}
use Rattle.mp_shapes.specs.declared.table.Layout.{Layout}
use Rattle.mp_shapes.specs.Layout.{item_class}

-- the first k items of a list have their classes, and nothing else has changed
pub record Marked (l : Layout) (items : List ℕ) (k : ℕ) (old new : List (Option Class)) : Type 0 where
  pub size : length new ≡ length old
  pub set : (j : ℕ) (d : Class) → j < k → item_class l j ≡ Some d
      → slice_index_or new (slice_index items j) None ≡ Some d
  pub kept : (m : ℕ) → (slice_index_or new m None ≡ slice_index_or old m None)
      ⊎ ((j : ℕ) × (d : Class) × (j < k) × (item_class l j ≡ Some d) × (m ≡ slice_index items j)
      × (slice_index_or new m None ≡ Some d))
