-- What `pack` gives for the spans of a band are its tracks.
use Rattle.std.proofs.Common.{◌≡◌, ◌⊎◌, ℕ, zero, suc, ◌<◌, ◌+◌, List, [], ◌∷◌, ◌++◌, length, map}
use Rattle.std.proofs.Common.{get_or, refl, ◌∙◌, ap, subst, arith}
use Rattle.std.specs.Prelude.{◌≢◌}
use Rattle.std.specs.List.{range_with_len}
use Rattle.std.proofs.lemmas.List.{get_or_append_left, get_or-append-add}
use Rattle.mp_base.proofs.Lists.{length_map}
use Rattle.std.proofs.lemmas.List.FromFn.{length-range_with_len}
use Rattle.nor_net.specs.declared.net.Phase.{Phase}
use Rattle.nor_net.specs.declared.net.Phase.TheVariants.{A, B, C}
use Rattle.nor_net.specs.declared.net.Part.{Part}
use Rattle.array_form.specs.Homes.{Columns, marks, phase_marks, phase_number, least, greatest}
use Rattle.array_form.specs.Laying.{AreTracks}
use Rattle.array_form.specs.Place.{cols_in}

get_range : {B : Type 0} (g : ℕ → B) (a n i : ℕ) (d : B) → i < n → get_or (map g (range_with_len a n)) i d ≡ g (a + i)
get_range g a zero i d h = absurd (omega arith)
get_range g a (suc n) zero d h = ap g (omega arith)
get_range g a (suc n) (suc i) d h = get_range g (a + 1) n i d (omega arith) ∙ ap g (omega arith)

module _ (y : Columns) (parts : List Part) where
  abbrev of_nets : List (List ℕ)
  of_nets = map (marks y parts) (range_with_len 0 (length parts))

  abbrev of_phases : List (List ℕ)
  of_phases = phase_marks y parts A ∷ phase_marks y parts B ∷ phase_marks y parts C ∷ []

  nets_long : length of_nets ≡ length parts
  nets_long = length_map (marks y parts) (range_with_len 0 (length parts)) ∙ length-range_with_len 0 (length parts)

  pub cols_nets : (n : ℕ) → n < length parts → cols_in y parts n ≡ marks y parts n
  cols_nets n h =
      let l = nets_long in
      get_or_append_left of_nets of_phases [] n (omega arith)
      ∙ (get_range (marks y parts) 0 (length parts) n [] h ∙ ap (marks y parts) (omega arith))

  pub cols_phases : (ph : Phase) → cols_in y parts (length parts + phase_number ph) ≡ phase_marks y parts ph
  cols_phases ph =
      subst (λ z. get_or (of_nets ++ of_phases) (z + phase_number ph) [] ≡ phase_marks y parts ph) nets_long
      (get_or-append-add of_nets of_phases (phase_number ph) [] ∙ one ph)
    where
      one : (ph : Phase)
          → get_or (phase_marks y parts A ∷ phase_marks y parts B ∷ phase_marks y parts C ∷ []) (phase_number ph) []
          ≡ phase_marks y parts ph
      one A = refl
      one B = refl
      one C = refl

  -- rows below a count, and apart where spans meet
  pub tracks_from : (row : ℕ → ℕ) (rows : ℕ) → ((k : ℕ) → k < length parts + 3 → row k < rows)
      → ((i j : ℕ) → i < length parts + 3 → j < length parts + 3 → i ≢ j → row i ≡ row j
      → (greatest (cols_in y parts i) + 1 < least (cols_in y parts j))
      ⊎ (greatest (cols_in y parts j) + 1 < least (cols_in y parts i)))
      → AreTracks y parts (cols_in y parts) row rows
  tracks_from row rows below apart = record { nets = cols_nets; phases = cols_phases; below = below; apart = apart }
