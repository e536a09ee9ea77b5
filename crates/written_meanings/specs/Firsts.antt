-- Names in an order, and the number of the first of each.
use Rattle.std.specs.Prelude.{◌≡◌, ℕ, suc, List, [], ◌∷◌, Option, Some, None, nat_eq, if◌then◌else◌}
use Rattle.std.specs.Option.{option_map}
use Rattle.std.specs.Cmp.Lexicographic.{pointwise}
use Rattle.indexmap.specs.IndexMap.{get_by}
use Rattle.mp_program.specs.Names.{is_same}
use Rattle.written_meanings.specs.declared.firsts.Firsts.{Firsts}

-- the number of the first of a name, where there is one
abbrev pub first_of : List (List ℕ) → List ℕ → Option ℕ
first_of [] x = None
first_of (n ∷ ns) x = if is_same n x then Some 0 else option_map suc (first_of ns x)

-- what is noted of a name
abbrev pub first_in : Firsts → List ℕ → Option ℕ
first_in t x = get_by (λ k. pointwise nat_eq x k.now) t.numbers

-- what is noted is so of these names
abbrev pub AreFirsts : List (List ℕ) → Firsts → Type 0
AreFirsts names t = (x : List ℕ) → first_in t x ≡ first_of names x
