-- What is written: the bitwise OR of the values, where there are any.
use Rattle.std.specs.Prelude.{ℕ, List, [], ◌∷◌, bit_or, Option, Some, None}

abbrev pub join : Option ℕ → Option ℕ → Option ℕ
join None b = b
join (Some a) None = Some a
join (Some a) (Some b) = Some (bit_or a b)

-- the bitwise OR of what is written, or nothing where nothing is written
abbrev pub merged : List ℕ → Option ℕ
merged [] = None
merged (v ∷ vs) = join (Some v) (merged vs)
