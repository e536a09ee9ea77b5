-- Lists to which things are only added.
use Rattle.std.specs.Prelude.{◌≡◌, ◌≤◌, List, ◌++◌, length, slice_range}
use Rattle.cif_list.specs.declared.arena.Span.{Span}

-- ys is xs and what was added
abbrev pub IsGrown : {A : Type 0} → List A → List A → Type 0
IsGrown {A} xs ys = (more : List A) × (ys ≡ xs ++ more)

-- the span is a part of the list
abbrev pub IsPart : {A : Type 0} → List A → Span → Type 0
IsPart xs span = (span.from ≤ span.to) × (span.to ≤ length xs)

abbrev pub part : {A : Type 0} → List A → Span → List A
part xs span = slice_range xs span.from span.to
