-- Trees over cells. A part stands for the cells from its base on, and takes twice as many nodes as it has cells, less
-- one: its own node, then those of its left half, then those of its right half.
use Rattle.std.specs.Prelude.{◌≡◌, ℕ, zero, suc, ◌+◌, ◌-◌, ◌*◌, ◌/◌, ◌^◌, ◌<◌, ◌≤◌, ◌⊎◌, List, get_or, max, nat_lt}
use Rattle.std.specs.Prelude.{if◌then◌else◌}
use Rattle.cover_tree.specs.declared.part.Part.{Part}

-- up to which row the part whose node is at this place is covered as a whole
abbrev pub top_at : List ℕ → ℕ → ℕ
top_at tops k = get_or tops k 0

abbrev pub root : ℕ → Part
root cells = record { at = 0; base = 0; width = cells }

abbrev pub left_half : Part → Part
left_half p = record { at = p.at + 1; base = p.base; width = p.width / 2 }

abbrev pub right_half : Part → Part
right_half p = record { at = p.at + 2 * (p.width / 2); base = p.base + p.width / 2; width = p.width - p.width / 2 }

-- the greatest top on the way from the part's node down to the cell's
unfoldable pub top_to : ℕ → List ℕ → Part → ℕ → ℕ
top_to zero tops p c = top_at tops p.at
top_to (suc depth) tops p c =
    if nat_lt p.width 2 then top_at tops p.at
    else max (top_at tops p.at)
    (if nat_lt c (p.base + p.width / 2) then top_to depth tops (left_half p) c else top_to depth tops (right_half p) c)

abbrev pub top_of : List ℕ → Part → ℕ → ℕ
top_of tops p c = top_to p.width tops p c

pub record InPart (p : Part) (c : ℕ) : Type 0 where
  pub from : p.base ≤ c
  pub to : c < p.base + p.width

-- the part q is p, or is in a half of p
pub data Within (q : Part) : Part → Type 0 where
  here : Within q q
  left : {p : Part} → 2 ≤ p.width → Within q (left_half p) → Within q p
  right : {p : Part} → 2 ≤ p.width → Within q (right_half p) → Within q p

-- small enough for its numbers' types
pub record IsSmall (p : Part) : Type 0 where
  pub some : 0 < p.width
  pub places : p.at + 2 * p.width ≤ 2 ^ 32
  pub cells : p.base + p.width ≤ 2 ^ 31

-- there are cells from one up to the other, and some of them in the part
pub record IsReached (p : Part) (from to : ℕ) : Type 0 where
  pub some : from < to
  pub starts : from < p.base + p.width
  pub ends : p.base < to

-- the part's cells from one up to the other are covered up to the row besides
pub record IsPartRaised (old now : List ℕ) (p : Part) (from to row : ℕ) : Type 0 where
  pub inside : (c : ℕ) → InPart p c → from ≤ c → c < to → top_of now p c ≡ max (top_of old p c) row
  pub beside : (c : ℕ) → InPart p c → (c < from) ⊎ (to ≤ c) → top_of now p c ≡ top_of old p c
