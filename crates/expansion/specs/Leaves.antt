-- Items of expressions without what stands in them.
use Rattle.std.specs.Prelude.{◌≡◌, ℕ, List, [], ◌∷◌, Option, Some, None, Result, Ok, Err}
use Rattle.expansion.specs.declared.item.Item.{Item}
use Rattle.expansion.specs.declared.item.Item.TheVariants.{Copied, Argument}
use Rattle.expansion.specs.declared.item.Stop.{Stop}
use Rattle.expansion.specs.Filling.{Stops}

-- whose place an expression has: outside of bodies its own
abbrev pub own_place : Option ℕ → ℕ → Option ℕ
own_place (Some k) e = None
own_place None e = Some e

-- an expression, which is an argument of the body around it or not
abbrev pub leaf : Option ℕ → ℕ → Option ℕ → Item
leaf owner e (Some i) = Argument i
leaf owner e None = Copied e (own_place owner e)

abbrev pub IsLeafWord : Option ℕ → ℕ → Option ℕ → Result (List Item) Stop → Type 0
IsLeafWord owner e argument (Ok items) = items ≡ leaf owner e argument ∷ []
IsLeafWord owner e argument (Err stop) = Stops ⊥ stop
