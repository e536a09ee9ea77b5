-- The forms in a form stand behind it, for all crates above.
use Rattle.std.proofs.Common.{[], ℕ, ◌<◌, List, arith, ◌∷◌}
use Rattle.std.specs.Prelude.{All}
use Rattle.std.specs.List.{flat_map}
use Rattle.std.proofs.lemmas.List.Elements.{All-append, All-from_recursion}
use Rattle.std.proofs.ByRecursion.{All-append as All-append_of}
use Rattle.mp_program.specs.Sound.{BranchesFit, InnerFit, AllBetween}
use Rattle.mp_program.specs.declared.program.Branch.{Branch}
use Rattle.mp_program.specs.declared.program.FormKind.{FormKind}
use Rattle.mp_program.specs.Weight.{inner}
use Rattle.mp_program.specs.declared.program.FormKind.TheVariants.{Set, Cond, Par, Go, Call, Return}

abbrev pub Between : ℕ → ℕ → ℕ → Type 0
Between i n g = (i < g) × (g < n)

pub bodies_between : (e i n : ℕ) (bs : List Branch) → BranchesFit e i n bs
    → All (Between i n) (flat_map (λ (b : Branch). b.body) bs)
bodies_between e i n [] h = λ k d lt. absurd (omega (arith, lt))
bodies_between e i n (b ∷ bs) (here, rest) =
    All-append (Between i n) b.body (flat_map (λ (x : Branch). x.body) bs)
    (All-from_recursion (Between i n) b.body here.1) (bodies_between e i n bs rest)

pub kind_between : (e i n : ℕ) (kind : FormKind) → InnerFit e i n kind → All (Between i n) (inner kind)
kind_between e i n (Set x at v) h = λ k d lt. absurd (omega (arith, lt))
kind_between e i n (Cond bs) h = bodies_between e i n bs h
kind_between e i n (Par fs) h = All-from_recursion (Between i n) fs h
kind_between e i n (Go l) h = λ k d lt. absurd (omega (arith, lt))
kind_between e i n (Call l) h = λ k d lt. absurd (omega (arith, lt))
kind_between e i n Return h = λ k d lt. absurd (omega (arith, lt))

pub branches_behind : (e i n : ℕ) (bs : List Branch) → BranchesFit e i n bs
    → AllBetween i n (flat_map (λ (b : Branch). b.body) bs)
branches_behind e i n [] h = tt
branches_behind e i n (b ∷ bs) (here, rest) =
    All-append_of (λ k. (i < k) × (k < n)) b.body (flat_map (λ (b : Branch). b.body) bs) here.1
    (branches_behind e i n bs rest)

-- the forms in a form stand behind it
pub inner_behind : (e i n : ℕ) (k : FormKind) → InnerFit e i n k → AllBetween i n (inner k)
inner_behind e i n (Set x at v) h = tt
inner_behind e i n (Cond bs) h = branches_behind e i n bs h
inner_behind e i n (Par fs) h = h
inner_behind e i n (Go l) h = tt
inner_behind e i n (Call l) h = tt
inner_behind e i n Return h = tt
