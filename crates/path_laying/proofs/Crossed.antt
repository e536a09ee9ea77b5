-- The crossings of pads: in which segments they stand, and how many they are.
use Rattle.std.proofs.Common.{◌≡◌, inl, inr, ℕ, zero, suc, ◌<◌, ◌≤◌, ◌+◌, ◌*◌, Bool, true, false}
use Rattle.std.proofs.Common.{List, [], ◌∷◌, ◌++◌, length, map, refl, sym, ◌∙◌, ap, subst, arith}
use Rattle.std.specs.Prelude.{All, flat_map, slice_index}
use Rattle.std.specs.List.{range_with_len}
use Rattle.std.proofs.lemmas.List.{length-append, map-append}
use Rattle.std.proofs.lemmas.List.Elements.{All-append, All-contains}
use Rattle.std.proofs.lemmas.Simd.{map-map}
use Rattle.mp_base.proofs.Lists.{length_map}
use Rattle.mp_base.proofs.Members.{Member, member_contains}
use Rattle.mp_base.proofs.Ranges.{flat_count}
use Rattle.fabric.specs.declared.thing.Mark.{Mark}
use Rattle.nor_net.specs.declared.net.NetId.{NetId}
use Rattle.nor_net.specs.declared.net.Part.{Part}
use Rattle.track_assign.specs.declared.packing.Tracks.{Tracks}
use Rattle.array_form.specs.Homes.{phase_number}
use Rattle.path_form.specs.declared.path.DataPath.{DataPath}
use Rattle.path_form.specs.Shape.{entries_of}
use Rattle.slice_form.specs.PathLists.{bands_of, slices_of}
use Rattle.slice_form.specs.Whole.{numbers_of, pad_entries, path_of}
use Rattle.slice_laying.specs.Added.{of_phases}
use Rattle.slice_layout.proofs.Ends.{few_among}
use Rattle.slice_chip.specs.Unders.{led, under, unders}
use Rattle.path_laying.specs.Crossed.{crossing, crossings}

-- ---- the nets of pads are there

module _ (p : DataPath) where
  pub signals_in : All (λ (i : NetId). i.0 < length p.control) (pad_entries false p)
  signals_in = All-append (λ (i : NetId). i.0 < length p.control) (entries_of false (p.pads).inputs p.inputs)
      (entries_of false (p.pads).outputs p.outputs) p.whole.entries_fit.0.1 p.whole.entries_fit.1.1

  pub words_in : All (λ (i : NetId). i.0 < length p.slices.net) (pad_entries true p)
  words_in = All-append (λ (i : NetId). i.0 < length p.slices.net) (entries_of true (p.pads).inputs p.inputs)
      (entries_of true (p.pads).outputs p.outputs) p.whole.entries_fit.0.2 p.whole.entries_fit.1.2

  -- and there are at most as many
  pub signals_few : length (path_of p).west_signals ≤ length p.control
  signals_few =
      let e = length_map (λ (i : NetId). i.0) (pad_entries false p) in
      let f = few_among (length p.control) (pad_entries false p)
      (λ x m. All-contains (λ (i : NetId). i.0 < length p.control) (pad_entries false p) x signals_in
      (member_contains (pad_entries false p) x m)) p.whole.apart.0 in
      omega (arith, e, f)

  pub words_few : length (path_of p).west_words ≤ length p.slices.net
  words_few =
      let e = length_map (λ (i : NetId). i.0) (pad_entries true p) in
      let f = few_among (length p.slices.net) (pad_entries true p)
      (λ x m. All-contains (λ (i : NetId). i.0 < length p.slices.net) (pad_entries true p) x words_in
      (member_contains (pad_entries true p) x m)) p.whole.apart.1 in
      omega (arith, e, f)

-- ---- one after another

pub crossings_are : (row : ℕ → ℕ) (b : ℕ) (ids : List NetId)
    → crossings row b ids ≡ map (crossing row b) (numbers_of ids)
crossings_are row b ids = sym (map-map (crossing row b) (λ (i : NetId). i.0) ids)

pub control_crossed : (row : ℕ → ℕ) (p : DataPath) → crossings row 0 (pad_entries false p)
    ++ of_phases (λ ph. crossing row 0 (length p.control + phase_number ph))
    ≡ map (crossing row 0) (led (path_of p) 0)
control_crossed row p =
    ap (λ l. l ++ of_phases (λ ph. crossing row 0 (length p.control + phase_number ph)))
    (crossings_are row 0 (pad_entries false p))
    ∙ sym (map-append (crossing row 0) (path_of p).west_signals
    (of_phases (λ ph. length p.control + phase_number ph)))

same_behind : {B : Type 0} (g h : ℕ → List B) → ((b : ℕ) → 1 ≤ b → g b ≡ h b) → (a n : ℕ) → 1 ≤ a
    → flat_map g (range_with_len a n) ≡ flat_map h (range_with_len a n)
same_behind g h same a zero lo = refl
same_behind g h same a (suc n) lo =
    let e = same a lo in
    let r = same_behind g h same (a + 1) n (omega (arith, lo)) in
    λ i. e i ++ r i

pub all_crossed : (p : DataPath) (control slices : Tracks)
    → map (crossing (slice_index control.row) 0) (led (path_of p) 0)
    ++ flat_map (λ b. map (crossing (slice_index slices.row) b) (path_of p).west_words) (slices_of (path_of p))
    ≡ flat_map (λ b. map (under control slices b) (led (path_of p) b)) (bands_of (path_of p))
all_crossed p control slices =
    ap (λ l. map (crossing (slice_index control.row) 0) (led (path_of p) 0) ++ l)
    (same_behind (λ b. map (crossing (slice_index slices.row) b) (path_of p).west_words)
    (λ b. map (under control slices b) (led (path_of p) b)) at 1 p.width (omega arith))
  where
    at : (b : ℕ) → 1 ≤ b → map (crossing (slice_index slices.row) b) (path_of p).west_words
        ≡ map (under control slices b) (led (path_of p) b)
    at zero lo = absurd (omega (arith, lo))
    at (suc b) lo = refl

-- ---- how many they are

pub unders_most : (p : DataPath) (control slices : Tracks) (signals words : ℕ) → length p.control ≤ signals
    → length p.slices.net ≤ words
    → length (unders (path_of p) control slices) ≤ 1 + (suc p.width) * (signals + words + 3)
unders_most p control slices signals words h k =
    let f = flat_count (λ b. map (under control slices b) (led (path_of p) b)) (signals + words + 3) 0
    (suc p.width) each
    in omega (arith, f)
  where
    each : (b : ℕ) → length (map (under control slices b) (led (path_of p) b)) ≤ signals + words + 3
    each zero =
        let m = length_map (under control slices 0) (led (path_of p) 0) in
        let a = length-append (path_of p).west_signals (of_phases (λ ph. length p.control + phase_number ph)) in
        let s = signals_few p in
        omega (arith, m, a, s, h)
    each (suc b) =
        let m = length_map (under control slices (suc b)) (path_of p).west_words in
        let s = words_few p in
        omega (arith, m, s, k)
