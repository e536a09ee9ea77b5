-- Rules E1 to E5.
use Rattle.std.specs.Prelude.{◌≡◌, ◌≢◌, ◌⊎◌, ℕ, ◌+◌, ◌-◌, ◌<◌, ◌≤◌, ◌^◌, List, [], ◌∷◌, Bool, true, false, cond}
use Rattle.std.specs.Prelude.{◌||◌, Option, None, Some, ◌==◌, length, take, slice_index, slice_range}
use Rattle.std.specs.List.{list_all}
use Rattle.std.specs.Str.Parse.{digits_value}
use Rattle.mp_base.specs.Token.{is_token, is_digit}
use Rattle.mp_base.specs.Refuses.{IsOfFamily, IsRefusal}
use Rattle.mp_base.specs.declared.refusal.Family.TheVariants.{E}
use Rattle.mp_base.specs.declared.refusal.Refusal.{Refusal}
use Rattle.mp_base.specs.declared.refusal.Broken.{Broken}
use Rattle.form_reader.specs.Text.{is_blank, is_mark, comment_step, comment_after, IsRun, place_at}
use Rattle.form_reader.specs.declared.limits.TheConstants.{NESTING_LIMIT}

-- how many lists are open behind a byte; a `)` that closes nothing is left out
abbrev pub depth_step : Bool → ℕ → ℕ → ℕ
depth_step comment d c = cond comment d (cond (c == 40) (d + 1) (cond (c == 41) (d - 1) d))

-- how many lists are open at the end of a text
abbrev pub depth_after : Bool → ℕ → List ℕ → ℕ
depth_after comment d [] = d
depth_after comment d (c ∷ cs) = depth_after (comment_step comment c) (depth_step comment d c) cs

-- how many lists are open at an offset
abbrev pub depth_at : List ℕ → ℕ → ℕ
depth_at text o = depth_after false 0 (take o text)

-- the byte at o is outside comments
abbrev pub IsOutside : List ℕ → ℕ → Type 0
IsOutside text o = (o < length text) × (comment_after false (take o text) ≡ false)

-- a run of digits from s to e that begins outside comments
abbrev pub IsDigitRun : List ℕ → ℕ → ℕ → Type 0
IsDigitRun text s e =
    IsOutside text s × IsRun text s e × (list_all is_digit (slice_range text s e) ≡ true)
    × (0 < s → is_token (slice_index text (s - 1)) ≡ false)

-- a byte outside comments that no text may have there
abbrev pub E1 : List ℕ → ℕ → Type 0
E1 text o = IsOutside text o
    × ((is_blank (slice_index text o) || is_mark (slice_index text o) || is_token (slice_index text o)) ≡ false)

-- the list that begins at o, in no other, is open up to n
abbrev pub IsOpenUpTo : List ℕ → ℕ → ℕ → Type 0
IsOpenUpTo text n o = IsOutside text o × (slice_index text o ≡ 40) × (depth_at text o ≡ 0)
    × ((j : ℕ) → o < j → j ≤ n → 0 < depth_at text j)

-- the outermost list that is open at the end
abbrev pub E2 : List ℕ → ℕ → Type 0
E2 text o = IsOpenUpTo text (length text) o

-- a `)` that closes nothing
abbrev pub E3 : List ℕ → ℕ → Type 0
E3 text o = IsOutside text o × (slice_index text o ≡ 41) × (depth_at text o ≡ 0)

-- a number over 2^64 - 1
abbrev pub E4 : List ℕ → ℕ → Type 0
E4 text o = (e : ℕ) × IsDigitRun text o e × (2 ^ 64 ≤ digits_value 10 (slice_range text o e))

-- a list inside 64 others
abbrev pub E5 : List ℕ → ℕ → Type 0
E5 text o = IsOutside text o × (slice_index text o ≡ 40) × (NESTING_LIMIT ≤ depth_at text o)

-- rule E k is broken at the offset o
abbrev pub Breaks : List ℕ → ℕ → ℕ → Type 0
Breaks text k o = ((k ≡ 1) × E1 text o) ⊎ ((k ≡ 2) × E2 text o) ⊎ ((k ≡ 3) × E3 text o) ⊎ ((k ≡ 4) × E4 text o)
    ⊎ ((k ≡ 5) × E5 text o)

-- the order of the rules: E1, E3, E4 and E5 from left to right, and then E2
abbrev pub ComesBefore : (k o l q : ℕ) → Type 0
ComesBefore k o l q = (k ≢ 2 × ((l ≡ 2) ⊎ (o ≤ q))) ⊎ ((k ≡ 2) × (l ≡ 2) × (o ≤ q))

pub record IsFirst (text : List ℕ) (k o : ℕ) : Type 0 where
  pub broken : Breaks text k o
  pub first : (l q : ℕ) → Breaks text l q → ComesBefore k o l q

-- no rule is broken, or this is the first one that is, at its place
abbrev pub OfText : List ℕ → Option Broken → Type 0
OfText text None = (k o : ℕ) → ¬ Breaks text k o
OfText text (Some b) = IsOfFamily E (λ k at. (at ≡ place_at text at.offset) × IsFirst text k at.offset) b

-- want of memory, or the first of the broken rules, at its place
abbrev pub RefusesFirst : List ℕ → Refusal → Type 0
RefusesFirst text = IsRefusal (λ b. OfText text (Some b))
