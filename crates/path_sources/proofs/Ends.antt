-- The ends of what is joined are nets of their band.
use Rattle.std.proofs.Common.{◌≡◌, ℕ, ◌<◌, zero, suc, List, [], ◌∷◌, ◌++◌, true, false, length, map, get_or, refl}
use Rattle.std.proofs.Common.{arith}
use Rattle.std.specs.Prelude.{All, Contains, slice_get}
use Rattle.std.proofs.lemmas.List.Elements.{All-contains, Contains-append_left, Contains-append_right}
use Rattle.std.proofs.lemmas.Option.{slice_get_within}
use Rattle.nor_net.specs.declared.net.NetId.{NetId}
use Rattle.nor_net.specs.declared.net.Part.{Part}
use Rattle.nor_net.specs.declared.net.Part.TheVariants.{Input}
use Rattle.organelles.specs.declared.slices.Programmed.{Programmed}
use Rattle.path_form.specs.declared.path.Cast.{Cast}
use Rattle.path_form.specs.declared.path.DataPath.{DataPath}
use Rattle.path_form.specs.declared.path.Lift.{Lift}
use Rattle.path_form.specs.Shape.{chain_to, control_ends, entries_of, is_input, slice_ends}
use Rattle.path_form.proofs.Joining.{is_one_input}

inside : (parts : List Part) (ids : List NetId) → All (λ (id : NetId). is_input (slice_get parts id.0) ≡ true) ids
    → (id : NetId) → Contains ids id → id.0 < length parts
inside parts ids h id c =
    slice_get_within parts id.0 Input
    (is_one_input (slice_get parts id.0) (All-contains (λ (id : NetId). is_input (slice_get parts id.0) ≡ true) ids
    id h c))

-- each of a mapped list is one of those
mapped : {A : Type 0} (f : A → NetId) (xs : List A) (k : ℕ) (d : A) → k < length xs
    → Contains (map f xs) (f (get_or xs k d))
mapped f [] k d l = absurd (omega arith)
mapped f (x ∷ xs) zero d l = (0, omega arith, refl)
mapped f (x ∷ xs) (suc k) d l =
    let r = mapped f xs k d (omega (arith, l)) in (suc r.0, (let m = r.1 in omega (arith, m)), r.2)

module _ (p : DataPath) where
  pub lifts_inside : All (λ (l : Lift). l.control.0 < length p.control) p.lifts
  lifts_inside k d l =
      let signals = entries_of false (p.pads).inputs p.inputs in
      let x = (get_or p.lifts k d).control in
      inside p.control (control_ends signals p.lifts) p.whole.control_inputs.0 x
      (Contains-append_right signals (map (λ (l : Lift). l.control) p.lifts) x
      (mapped (λ (l : Lift). l.control) p.lifts k d l))

  abbrev pads : List NetId
  pads = entries_of true (p.pads).inputs p.inputs

  abbrev tos : List NetId
  tos = map chain_to p.slices.chains

  abbrev cast_ends : List NetId
  cast_ends = map (λ (c : Cast). c.slice) p.casts

  abbrev program_ends : List NetId
  program_ends = map (λ (g : Programmed). g.net) p.slices.programs

  pub casts_inside : All (λ (c : Cast). c.slice.0 < length p.slices.net) p.casts
  casts_inside k d l =
      let x = (get_or p.casts k d).slice in
      inside p.slices.net (slice_ends pads p.slices p.casts) p.whole.slice_inputs.0 x
      (Contains-append_right pads (tos ++ (cast_ends ++ program_ends)) x
      (Contains-append_right tos (cast_ends ++ program_ends) x
      (Contains-append_left cast_ends program_ends x
      (mapped (λ (c : Cast). c.slice) p.casts k d l))))

  pub programs_inside : All (λ (g : Programmed). g.net.0 < length p.slices.net) p.slices.programs
  programs_inside k d l =
      let x = (get_or p.slices.programs k d).net in
      inside p.slices.net (slice_ends pads p.slices p.casts) p.whole.slice_inputs.0 x
      (Contains-append_right pads (tos ++ (cast_ends ++ program_ends)) x
      (Contains-append_right tos (cast_ends ++ program_ends) x
      (Contains-append_right cast_ends program_ends x
      (mapped (λ (g : Programmed). g.net) p.slices.programs k d l))))
