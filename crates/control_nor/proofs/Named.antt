-- The nets of bits, by their names.
use Rattle.std.proofs.Common.{◌≡◌, ℕ, List, Option, Some, None, map, refl, sym, ◌∙◌, ap}
use Rattle.std.specs.Prelude.{slice_get}
use Rattle.std.specs.Option.{option_map}
use Rattle.std.proofs.lemmas.Option.{none-some, same_Some, slice_get-map}
use Rattle.nor_net.specs.declared.net.NetId.{NetId}
use Rattle.bit_gates.specs.declared.rails.Rails.{Rails}
use Rattle.control_nor.specs.Lowering.{Stands}
use Rattle.bit_gates.specs.Rails.{Named, net_of}

pub named_stands : (xs : List (Option Rails)) (k : ℕ) (rails : Rails) → Named xs k rails
    → Stands (map net_of xs) k rails.bit
named_stands xs k rails e = slice_get-map net_of xs k ∙ ap (option_map net_of) e

pub stands_named : (xs : List (Option Rails)) (k : ℕ) (id : NetId) → Stands (map net_of xs) k id
    → (rails : Rails) × Named xs k rails × (rails.bit ≡ id)
stands_named xs k id e = by_entry (slice_get xs k) refl
  where
    mapped : option_map net_of (slice_get xs k) ≡ Some (Some id)
    mapped = sym (slice_get-map net_of xs k) ∙ e

    by_entry : (o : Option (Option Rails)) → slice_get xs k ≡ o
        → (rails : Rails) × Named xs k rails × (rails.bit ≡ id)
    by_entry None q = absurd (none-some (Some id) (ap (option_map net_of) (sym q) ∙ mapped))
    by_entry (Some None) q = absurd (none-some id (same_Some None (Some id)
        (ap (option_map net_of) (sym q) ∙ mapped)))
    by_entry (Some (Some rails)) q = (
      rails,
      q,
      same_Some rails.bit id (same_Some (Some rails.bit) (Some id)
          (ap (option_map net_of) (sym q) ∙ mapped)),
    )
