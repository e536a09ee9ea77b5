-- The inputs of a path that are given their values are those of pads.
use Rattle.std.proofs.Common.{◌≡◌, ℕ, ◌<◌, ◌≤◌, ◌+◌, zero, suc, List, [], ◌∷◌, ◌++◌, Some, None, Bool, true, false}
use Rattle.std.proofs.Common.{cond, eqb, map, refl, sym, ◌∙◌, ap, subst, arith}
use Rattle.std.specs.Prelude.{All, slice_get, ◌-◌}
use Rattle.std.proofs.Math.Dec.{eqb-suc-zero}
use Rattle.std.specs.Int.{bit_at}
use Rattle.std.proofs.lemmas.Bool.{false≢true, lt-ltb}
use Rattle.nor_net.specs.declared.net.NetId.{NetId}
use Rattle.nor_net.specs.declared.net.Part.{Part}
use Rattle.nor_net.specs.declared.net.Part.TheVariants.{Input, Gate, Latch}
use Rattle.nor_net.specs.Elements.{Spot, Given, Nor, Joined, Low, spot}
use Rattle.nor_net.specs.Shape.{Fed, IsNet}
use Rattle.organelles.specs.declared.slices.Chain.{Chain}
use Rattle.organelles.specs.declared.slices.Chain.TheVariants.{Up, Down}
use Rattle.organelles.specs.declared.slices.Programmed.{Programmed}
use Rattle.path_form.specs.declared.path.Cast.{Cast}
use Rattle.path_form.specs.declared.path.DataPath.{DataPath}
use Rattle.path_form.specs.declared.path.Lift.{Lift}
use Rattle.path_form.specs.Nets.{control_part, slice_part}
use Rattle.path_form.specs.Shape.{chain_to, entries_of, is_fed, is_input, takes_pad, times}
use Rattle.path_form.specs.Showing.{path_nets}
use Rattle.path_form.proofs.Joining.{times_append}
use Rattle.path_sources.specs.declared.sources.Source.{Source}
use Rattle.path_sources.specs.declared.sources.Source.TheVariants.{Pad, Below, Above, Bits, Control, Slice}
use Rattle.path_sources.specs.Sources.{parts_of}
use Rattle.path_sources.specs.Sources.{cast_source, chain_source, element_in, lift_source, or_source, path_source}
use Rattle.path_sources.specs.Sources.{program_source, source_element, told}
use Rattle.path_sources.proofs.Elements.{HasPart, control_input_is, has_part, slice_input_is, slice_parts, slice_sources}

pad_or : (x y : Source) → or_source x y ≡ Pad → (x ≡ Pad) × (y ≡ Pad)
pad_or Pad y e = (refl, e)
pad_or (Below f) y e = cc
pad_or (Above f) y e = cc
pad_or (Bits b) y e = cc
pad_or (Control f) y e = cc
pad_or (Slice s f) y e = cc

module _ {A : Type 0} (end : A → NetId) (source : A → Source) (n : ℕ) where
  -- nothing is told where nothing ends
  told_none : (xs : List A) → times n (map end xs) ≡ 0 → told end source n xs ≡ Pad
  told_none [] e = refl
  told_none (x ∷ xs) e = by_test (eqb (end x).0 n) e (λ q. told_none xs q)
    where
      by_test : (b : Bool) → cond b 1 0 + times n (map end xs) ≡ 0
          → (times n (map end xs) ≡ 0 → told end source n xs ≡ Pad)
          → or_source (cond b (source x) Pad) (told end source n xs) ≡ Pad
      by_test true e again = absurd (omega arith)
      by_test false e again = again (omega arith)

  -- and nothing ends where no more than a pad is told
  none_told : ((x : A) → source x ≡ Pad → ⊥) → (xs : List A) → told end source n xs ≡ Pad → times n (map end xs) ≡ 0
  none_told never [] e = refl
  none_told never (x ∷ xs) e =
      let a = pad_or (cond (eqb (end x).0 n) (source x) Pad) (told end source n xs) e in
      by_test (eqb (end x).0 n) a.0 (none_told never xs a.1)
    where
      by_test : (b : Bool) → cond b (source x) Pad ≡ Pad → times n (map end xs) ≡ 0
          → cond b 1 0 + times n (map end xs) ≡ 0
      by_test true e h = absurd (never x e)
      by_test false e h = omega (arith, h)

chain_no : (c : Chain) → chain_source c ≡ Pad → ⊥
chain_no (Up f t) e = cc
chain_no (Down f t) e = cc

-- an input that is given its value has no other source
source_pad : (w band : ℕ) (x : Source) → source_element w band x ≡ Given → x ≡ Pad
source_pad w band Pad e = refl
source_pad w band (Below f) e = by_test (eqb band 1) e
  where
    by_test : (b : Bool) → cond b Low (Joined (spot (band - 1) f)) ≡ Given → Below f ≡ Pad
    by_test true e = cc
    by_test false e = cc
source_pad w band (Above f) e = by_test (eqb band w) e
  where
    by_test : (b : Bool) → cond b Low (Joined (spot (band + 1) f)) ≡ Given → Above f ≡ Pad
    by_test true e = cc
    by_test false e = cc
source_pad w band (Bits b) e = by_test (eqb (bit_at b (band - 1)) 1) e
  where
    by_test : (c : Bool) → cond c (Nor []) Low ≡ Given → Bits b ≡ Pad
    by_test true e = cc
    by_test false e = cc
source_pad w band (Control f) e = cc
source_pad w band (Slice s f) e = cc

-- the nets of the input pads that are words, or of those that are signals
abbrev pub pads_of : DataPath → ℕ → List NetId
pads_of p band = cond (eqb band 0) (entries_of false (p.pads).inputs p.inputs)
    (entries_of true (p.pads).inputs p.inputs)

module _ (p : DataPath) where
  abbrev words : List NetId
  words = entries_of true (p.pads).inputs p.inputs

  abbrev signals : List NetId
  signals = entries_of false (p.pads).inputs p.inputs

  abbrev lift_ends : List NetId
  lift_ends = map (λ (l : Lift). l.control) p.lifts

  abbrev tos : List NetId
  tos = map chain_to p.slices.chains

  abbrev cast_ends : List NetId
  cast_ends = map (λ (c : Cast). c.slice) p.casts

  abbrev program_ends : List NetId
  program_ends = map (λ (g : Programmed). g.net) p.slices.programs

  control_once : (n : ℕ) → slice_get p.control n ≡ Some Input → times n signals + times n lift_ends ≡ 1
  control_once n at = sym (times_append n signals lift_ends) ∙ p.whole.control_inputs.1 n (ap is_input at)

  slice_once : (n : ℕ) → slice_get p.slices.net n ≡ Some Input
      → times n words + (times n tos + (times n cast_ends + times n program_ends)) ≡ 1
  slice_once n at =
      sym (times_append n words (tos ++ (cast_ends ++ program_ends))
      ∙ ap (λ t. times n words + t) (times_append n tos (cast_ends ++ program_ends)
      ∙ ap (λ t. times n tos + t) (times_append n cast_ends program_ends)))
      ∙ p.whole.slice_inputs.1 n (ap is_input at)

  -- the net of a pad is given its value
  pub pad_given : (band n : ℕ) → band ≤ p.width → slice_get (parts_of p band) n ≡ Some Input
      → 0 < times n (pads_of p band) → path_nets p (record { band = band; net = n }) ≡ Some Given
  pad_given zero n l at some =
      let one = control_once n at in
      ap (control_part p.lifts n) at ∙ control_input_is p.width n p.lifts
      ∙ ap (λ s. Some (source_element p.width 0 s))
      (told_none (λ (l : Lift). l.control) lift_source n p.lifts (omega (arith, one, some)))
  pad_given (suc k) n l at some =
      let here = sym (ap (λ (parts : List Part). slice_get parts n) (slice_parts p k)) ∙ at in
      let word : 0 < times n words = subst (λ (ids : List NetId). 0 < times n ids)
      (ap (λ b. cond b signals words) (eqb-suc-zero k)) some in
      let one = slice_once n here in
      let a = told_none chain_to chain_source n p.slices.chains (omega (arith, one, word)) in
      let b = told_none (λ (g : Programmed). g.net) program_source n p.slices.programs (omega (arith, one, word)) in
      let c = told_none (λ (x : Cast). x.slice) cast_source n p.casts (omega (arith, one, word)) in
      ap (λ b. cond b (slice_part p.width p.slices p.casts k n (slice_get p.slices.net n)) None)
      (lt-ltb k p.width (omega (arith, l)))
      ∙ ap (slice_part p.width p.slices p.casts k n) here ∙ slice_input_is p.width k n p.slices p.casts
      ∙ ap (λ s. Some (source_element p.width (suc k)
      (or_source (or_source s (told (λ (g : Programmed). g.net) program_source n p.slices.programs))
      (told (λ (x : Cast). x.slice) cast_source n p.casts)))) a
      ∙ ap (λ s. Some (source_element p.width (suc k) (or_source s
      (told (λ (x : Cast). x.slice) cast_source n p.casts)))) b
      ∙ ap (λ s. Some (source_element p.width (suc k) s)) c

  -- what is given its value is the net of a pad
  pub given_pad : (n : Spot) → path_nets p n ≡ Some Given → 0 < times n.net (pads_of p n.band)
  given_pad n is = by_part h.part h.at h.element h.fed
    where
      h : HasPart p n Given
      h = has_part p n Given is

      by_band : (b : ℕ) → slice_get (parts_of p b) n.net ≡ Some Input → path_source p b n.net ≡ Pad
          → 0 < times n.net (pads_of p b)
      by_band zero at none =
          let one = control_once n.net at in
          let z = none_told (λ (l : Lift). l.control) lift_source n.net (λ l e. cc) p.lifts none in
          omega (arith, one, z)
      by_band (suc k) at none =
          let here = sym (ap (λ (parts : List Part). slice_get parts n.net) (slice_parts p k)) ∙ at in
          let one = slice_once n.net here in
          let all = sym (slice_sources p k n.net) ∙ none in
          let x = pad_or (or_source (told chain_to chain_source n.net p.slices.chains)
          (told (λ (g : Programmed). g.net) program_source n.net p.slices.programs))
          (told (λ (c : Cast). c.slice) cast_source n.net p.casts) all in
          let y = pad_or (told chain_to chain_source n.net p.slices.chains)
          (told (λ (g : Programmed). g.net) program_source n.net p.slices.programs) x.0 in
          let a = none_told chain_to chain_source n.net chain_no p.slices.chains y.0 in
          let b = none_told (λ (g : Programmed). g.net) program_source n.net (λ g e. cc) p.slices.programs y.1 in
          let c = none_told (λ (c : Cast). c.slice) cast_source n.net (λ c e. cc) p.casts x.1 in
          let word : 0 < times n.net words = omega (arith, one, a, b, c) in
          subst (λ (ids : List NetId). 0 < times n.net ids)
          (sym (ap (λ b. cond b signals words) (eqb-suc-zero k))) word

      by_part : (part : Part) → slice_get (parts_of p n.band) n.net ≡ Some part
          → Given ≡ element_in p.width n.band (path_source p n.band n.net) part → Fed part
          → 0 < times n.net (pads_of p n.band)
      by_part Input at e fed = by_band n.band at (source_pad p.width n.band (path_source p n.band n.net) (sym e))
      by_part (Gate inputs) at e fed = cc
      by_part (Latch phase None) at e fed = absurd (false≢true fed)
      by_part (Latch phase (Some m)) at e fed = cc

  pub parts_net : IsNet p.control × IsNet p.slices.net → (band : ℕ) → IsNet (parts_of p band)
  parts_net h band = by_test (eqb band 0)
    where
      by_test : (b : Bool) → IsNet (cond b p.control p.slices.net)
      by_test true = h.0
      by_test false = h.1

  pub parts_fed : (band : ℕ) → All (λ part. is_fed part ≡ true) (parts_of p band)
  parts_fed band = by_test (eqb band 0)
    where
      by_test : (b : Bool) → All (λ part. is_fed part ≡ true) (cond b p.control p.slices.net)
      by_test true = p.whole.fed.0
      by_test false = p.whole.fed.1

  pub parts_take : (band : ℕ) → All (λ part. takes_pad (parts_of p band) (pads_of p band) part ≡ true)
      (parts_of p band)
  parts_take band = by_test (eqb band 0)
    where
      by_test : (b : Bool) → All (λ part. takes_pad (cond b p.control p.slices.net) (cond b signals words) part
          ≡ true)
          (cond b p.control p.slices.net)
      by_test true = p.whole.latches.0
      by_test false = p.whole.latches.1
