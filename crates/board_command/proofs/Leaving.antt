-- Links to the parts that are left, and swaps of those that are lent.
use Rattle.std.proofs.Common.{◌≡◌, ◌∙◌, ◌<◌, ℕ, List, length, map, sym, ap, arith}
use Rattle.std.specs.Prelude.{All}
use Rattle.std.proofs.lemmas.List.{length-map}
use Rattle.board.specs.declared.link.Link.{Link}
use Rattle.board.specs.declared.plan.Swap.{Swap}

-- links to the parts of a list, by their names
pub links_within : {P : Type 0} (name : P → List ℕ) (links : List Link) (parts : List P) (names : List (List ℕ))
    → map name parts ≡ names → All (λ (l : Link). l.part < length names) links
    → All (λ (l : Link). l.part < length parts) links
links_within name links parts names same all =
    let many : length parts ≡ length names = sym (length-map parts name) ∙ ap length same in
    λ k d lt. (let h = all k d lt in omega (arith, h, many))

-- swaps of the parts of a list, by their names
pub fresh_within : {P : Type 0} (name : P → List ℕ) (parts : List P) (swaps : List Swap)
    → All (λ (s : Swap). s.fresh < length (map name parts)) swaps → All (λ (s : Swap). s.fresh < length parts) swaps
fresh_within name parts swaps all = λ k d lt. (let h = all k d lt in omega (arith, h, length-map parts name))
