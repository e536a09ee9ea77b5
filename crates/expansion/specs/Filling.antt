-- Templates filled with words in place of their arguments.
use Rattle.std.specs.Prelude.{◌≡◌, ℕ, ◌+◌, ◌<◌, List, [], ◌∷◌, ◌++◌, Bool, false, Option, Result, Ok, Err, length}
use Rattle.std.specs.Prelude.{◌==◌, slice_index_or, ⊤}
use Rattle.std.specs.List.{flat_map, list_any}
use Rattle.std.specs.Option.{option_or}
use Rattle.mp_rules.specs.declared.limits.TheConstants.{EXPR_LIMIT}
use Rattle.expansion.specs.declared.item.Item.{Item}
use Rattle.expansion.specs.declared.item.Item.TheVariants.{Copied, Argument}
use Rattle.expansion.specs.declared.item.Stop.{Stop}
use Rattle.expansion.specs.declared.item.Stop.TheVariants.{NoMemory, TooLong}

-- want of memory, or a reason for which it is too long
abbrev pub Stops : Type 0 → Stop → Type 0
Stops reason TooLong = reason
Stops reason NoMemory = ⊤

-- items with others behind them, unless they are more than a program may have expressions
abbrev pub Extends : List Item → List Item → List Item → Result (Unit {0}) Stop → Type 0
Extends old more new (Ok done) = new ≡ old ++ more
Extends old more new (Err stop) = Stops (EXPR_LIMIT < length old + length more) stop

-- what an item becomes in a use: the place of what is copied is its own, or else that of the use
abbrev pub filled_item : Option ℕ → List (List Item) → Item → List Item
filled_item at words (Copied e own) = Copied e (option_or own at) ∷ []
filled_item at words (Argument i) = slice_index_or words i []

abbrev pub filled : Option ℕ → List (List Item) → List Item → List Item
filled at words items = flat_map (filled_item at words) items

-- the argument i
abbrev pub is_argument : ℕ → Item → Bool
is_argument i (Copied e own) = false
is_argument i (Argument j) = j == i

abbrev pub mentions : List Item → ℕ → Bool
mentions items i = list_any (is_argument i) items

-- for each of so many arguments, whether items mention it
pub record AreMentioned (items : List Item) (count : ℕ) (flags : List Bool) : Type 0 where
  pub size : length flags ≡ count
  pub each : (i : ℕ) → i < count → slice_index_or flags i false ≡ mentions items i
