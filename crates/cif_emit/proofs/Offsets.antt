-- Commands at offsets.
use Rattle.std.proofs.Common.{ℕ, zero, suc, ◌≡◌, refl, ap, List, [], ◌∷◌, ◌++◌, map}
use Rattle.cif_form.specs.declared.command.Command.{Command}
use Rattle.cif_form.specs.declared.command.Item.{Item}
use Rattle.cif_form.specs.Expansion.{item_at}

-- the offsets behind the first
abbrev pub next : (ℕ → ℕ) → ℕ → ℕ
next at k = at (suc k)

-- the commands in turn at these offsets
abbrev pub laid : (ℕ → ℕ) → List Command → List Item
laid at [] = []
laid at (c ∷ cs) = item_at (at 0) c ∷ laid (next at) cs

-- the offsets behind those of some commands
abbrev pub behind : List Command → (ℕ → ℕ) → ℕ → ℕ
behind [] at = at
behind (c ∷ cs) at = behind cs (next at)

pub laid-append : (cs ds : List Command) (at : ℕ → ℕ) → laid at (cs ++ ds) ≡ laid at cs ++ laid (behind cs at) ds
laid-append [] ds at = refl
laid-append (c ∷ cs) ds at = ap (λ is. item_at (at 0) c ∷ is) (laid-append cs ds (next at))

abbrev from : ℕ → (ℕ → ℕ) → ℕ → ℕ
from o at zero = o
from o at (suc k) = at k

-- all items are commands at offsets
pub are_laid : (items : List Item) → (at : ℕ → ℕ) × (items ≡ laid at (map (λ (i : Item). i.command) items))
are_laid [] = ((λ k. 0), refl)
are_laid (i ∷ is) = let r = are_laid is in (from i.offset r.0, ap (λ js. i ∷ js) r.1)
