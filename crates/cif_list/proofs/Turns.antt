-- Turns that are added one by one.
use Rattle.std.proofs.Common.{◌≡◌, List, ◌∷◌, ◌++◌, sym, ◌∙◌, ap, subst, map, All}
use Rattle.std.specs.List.{flat_map}
use Rattle.std.proofs.lemmas.Grind.{flat_map-append}
use Rattle.cif_form.specs.declared.command.Turn.{Turn}
use Rattle.cif_form.specs.Fits.{IsSmall, turn_numbers}
use Rattle.cif_form.proofs.Fitting.{front_part, back_part}
use Rattle.cif_list.specs.declared.turn.ShortTurn.{ShortTurn}
use Rattle.cif_list.specs.Turning.{wide_turn}

-- these were added, and are the turns but for those that are left
pub record IsAdded (old new : List ShortTurn) (ts left : List Turn) : Type 0 where
  pub more : List ShortTurn
  pub new_is : new ≡ old ++ more
  pub same : map wide_turn more ++ left ≡ ts

-- the numbers of the next turn are small
pub small_turn : (old new : List ShortTurn) (ts left others : List Turn) (t : Turn) → IsAdded old new ts left
    → left ≡ t ∷ others → All IsSmall (flat_map turn_numbers ts)
    → All IsSmall (turn_numbers t)
small_turn old new ts left others t a e h =
    let before = map wide_turn a.more in
    let same : before ++ t ∷ others ≡ ts = ap (λ xs. before ++ xs) (sym e) ∙ a.same in
    let numbers = ap (flat_map turn_numbers) (sym same) ∙ flat_map-append turn_numbers before (t ∷ others) in
    front_part (turn_numbers t) (flat_map turn_numbers others)
    (back_part (flat_map turn_numbers before) (flat_map turn_numbers (t ∷ others)) (subst (All IsSmall) numbers h))
