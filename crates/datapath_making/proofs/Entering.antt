-- The inputs of a slice net that was added to.
use Rattle.std.proofs.Common.{◌≡◌, ℕ, zero, suc, ◌+◌, ◌-◌, ◌<◌, ◌≤◌, ◌⊎◌, inl, inr, List, [], ◌∷◌, ◌++◌, Some, cond}
use Rattle.std.proofs.Common.{length, map, refl, sym, ◌∙◌, ap, arith, length-append}
use Rattle.std.specs.Prelude.{slice_get, if◌then◌else◌}
use Rattle.std.proofs.lemmas.Bool.{cases_lt}
use Rattle.std.proofs.lemmas.Option.{slice_get_past}
use Rattle.mp_base.proofs.Entries.{get_front}
use Rattle.nor_net.specs.declared.net.NetId.{NetId}
use Rattle.nor_net.specs.declared.net.Phase.{Phase}
use Rattle.nor_net.specs.declared.net.Part.{Part}
use Rattle.nor_net.specs.declared.net.Part.TheVariants.{Input, Gate, Latch}
use Rattle.organelles.specs.declared.slices.Programmed.{Programmed}
use Rattle.organelles.specs.declared.slices.SliceNet.{SliceNet}
use Rattle.organelles.specs.Tables.{net_at}
use Rattle.path_form.specs.declared.path.Cast.{Cast}
use Rattle.path_form.specs.Shape.{chain_to, is_input, slice_ends, times}
use Rattle.path_form.proofs.Joining.{times_append}
use Rattle.datapath_making.specs.declared.making.Making.{Making}
use Rattle.datapath_making.specs.Additions.{Addition, Adds, new_inputs}
use Rattle.datapath_making.specs.WellMade.{AreEntered, IsLatched}
use Rattle.datapath_making.proofs.Lists.{get_by, get_cases, one_else, one_here}

-- ---- the inputs among the parts that are added

inputs_before : (n at : ℕ) (parts : List Part) → n < at → times n (new_inputs at parts) ≡ 0
inputs_before n at [] l = refl
inputs_before n at (Input ∷ parts) l =
    let o = one_else n (net_at at) (λ e. omega (arith, l, e)) in
    let r = inputs_before n (suc at) parts (omega (arith, l)) in
    omega (arith, o, r)
inputs_before n at (Gate inputs ∷ parts) l = inputs_before n (suc at) parts (omega (arith, l))
inputs_before n at (Latch phase source ∷ parts) l = inputs_before n (suc at) parts (omega (arith, l))

inputs_at : (n at : ℕ) (parts : List Part) (i : ℕ) → n ≡ at + i
    → times n (new_inputs at parts) ≡ (if is_input (slice_get parts i) then 1 else 0)
inputs_at n at [] i e = refl
inputs_at n at (Input ∷ parts) zero e =
    let o = one_here n (net_at at) (omega (arith, e)) in
    let r = inputs_before n (suc at) parts (omega (arith, e)) in
    omega (arith, o, r)
inputs_at n at (Input ∷ parts) (suc i) e =
    let o = one_else n (net_at at) (λ f. omega (arith, e, f)) in
    let r = inputs_at n (suc at) parts i (omega (arith, e)) in
    omega (arith, o, r)
inputs_at n at (Gate inputs ∷ parts) zero e = inputs_before n (suc at) parts (omega (arith, e))
inputs_at n at (Gate inputs ∷ parts) (suc i) e = inputs_at n (suc at) parts i (omega (arith, e))
inputs_at n at (Latch phase source ∷ parts) zero e = inputs_before n (suc at) parts (omega (arith, e))
inputs_at n at (Latch phase source ∷ parts) (suc i) e = inputs_at n (suc at) parts i (omega (arith, e))

-- ---- what gives inputs their values, in four lists

times_map : {X : Type 0} (f : X → NetId) (n : ℕ) (xs ys : List X)
    → times n (map f (xs ++ ys)) ≡ times n (map f xs) + times n (map f ys)
times_map f n [] ys = let e : times n (map f ys) ≡ 0 + times n (map f ys) = omega arith in e
times_map f n (x ∷ xs) ys = let e = times_map f n xs ys in omega (arith, e)

pub ends_count : (n : ℕ) (pads : List NetId) (s : SliceNet) (casts : List Cast)
    → times n (slice_ends pads s casts)
    ≡ times n pads + (times n (map chain_to s.chains) + (times n (map (λ (c : Cast). c.slice) casts)
    + times n (map (λ (p : Programmed). p.net) s.programs)))
ends_count n pads s casts =
    let a = times_append n pads (map chain_to s.chains
    ++ (map (λ (c : Cast). c.slice) casts ++ map (λ (p : Programmed). p.net) s.programs)) in
    let b = times_append n (map chain_to s.chains)
    (map (λ (c : Cast). c.slice) casts ++ map (λ (p : Programmed). p.net) s.programs) in
    let c = times_append n (map (λ (c : Cast). c.slice) casts) (map (λ (p : Programmed). p.net) s.programs) in
    omega (arith, a, b, c)

module _ (a : Addition) (old new : Making) (is : Adds a old new) where
  abbrev pub added : SliceNet
  added = record { net = a.parts; chains = a.chains; programs = a.programs }

  pub length_added : length new.slices.net ≡ length old.slices.net + length a.parts
  length_added = ap length is.net ∙ length-append old.slices.net a.parts

  ends_added : (n : ℕ) (pads fresh now : List NetId) → times n now ≡ times n fresh + times n pads
      → times n (slice_ends now new.slices new.casts)
      ≡ times n (slice_ends pads old.slices old.casts) + times n (slice_ends fresh added a.casts)
  ends_added n pads fresh now e =
      let x = ends_count n now new.slices new.casts in
      let y = ends_count n pads old.slices old.casts in
      let z = ends_count n fresh added a.casts in
      let c = ap (λ cs. times n (map chain_to cs)) is.chains ∙ times_map chain_to n old.slices.chains a.chains in
      let k = ap (λ (cs : List Cast). times n (map (λ (c : Cast). c.slice) cs)) is.casts
      ∙ times_map (λ (c : Cast). c.slice) n old.casts a.casts in
      let p = ap (λ (ps : List Programmed). times n (map (λ (p : Programmed). p.net) ps)) is.programs
      ∙ times_map (λ (p : Programmed). p.net) n old.slices.programs a.programs in
      omega (arith, x, y, z, c, k, p, e)

  module _ (pads fresh now : List NetId) (e : (n : ℕ) → times n now ≡ times n fresh + times n pads)
      (well : AreEntered pads old.slices old.casts)
      (fits : (n : ℕ)
      → times n (slice_ends fresh added a.casts) ≡ times n (new_inputs (length old.slices.net) a.parts)) where
    once_added : (n : ℕ) → times n (slice_ends now new.slices new.casts)
        ≡ (if is_input (slice_get new.slices.net n) then 1 else 0)
    once_added n = by_place (cases_lt n (length old.slices.net))
      where
        total : times n (slice_ends now new.slices new.casts)
            ≡ times n (slice_ends pads old.slices old.casts) + times n (new_inputs (length old.slices.net) a.parts)
        total = let x = ends_added n pads fresh now (e n) in let y = fits n in omega (arith, x, y)

        by_place : (n < length old.slices.net) ⊎ (length old.slices.net ≤ n)
            → times n (slice_ends now new.slices new.casts)
            ≡ (if is_input (slice_get new.slices.net n) then 1 else 0)
        by_place (inl l) =
            let same : slice_get new.slices.net n ≡ slice_get old.slices.net n =
            ap (λ ps. slice_get ps n) is.net ∙ get_front old.slices.net a.parts n l in
            let none = inputs_before n (length old.slices.net) a.parts l in
            let w = well.once n ∙ ap (λ o. cond (is_input o) 1 0) (sym same) in
            omega (arith, total, none, w)
        by_place (inr l) =
            let i : ℕ = n - length old.slices.net in
            let at : n ≡ length old.slices.net + i = omega (arith, l) in
            let same : slice_get new.slices.net n ≡ slice_get a.parts i =
            ap (λ ps. slice_get ps n) is.net ∙ get_by old.slices.net a.parts n i at in
            let here = inputs_at n (length old.slices.net) a.parts i at
            ∙ ap (λ o. cond (is_input o) 1 0) (sym same) in
            let w : times n (slice_ends pads old.slices old.casts) ≡ 0 =
            well.once n ∙ ap (λ o. cond (is_input o) 1 0) (slice_get_past old.slices.net n l) in
            omega (arith, total, here, w)

    still_latched : (source : NetId) → IsLatched old.slices.net pads source
        → IsLatched new.slices.net now source
    still_latched source h = record {
      within = let l = h.within in omega (arith, l, length_added);
      pad = λ q. let x = h.pad (sym (ap (λ ps. slice_get ps source.0) is.net
          ∙ get_front old.slices.net a.parts source.0 h.within) ∙ q) in
          let y = e source.0 in omega (arith, x, y);
    }

    -- each input has its value from one thing, if what is added has
    pub entered_on : ((i : ℕ) (phase : Phase) (source : NetId)
        → slice_get a.parts i ≡ Some (Latch phase (Some source))
        → IsLatched new.slices.net now source)
        → AreEntered now new.slices new.casts
    entered_on latched = record {
      once = once_added;
      latches = λ n phase source h.
          by_case n phase source (get_cases old.slices.net a.parts n (Latch phase (Some source))
          (sym (ap (λ ps. slice_get ps n) is.net) ∙ h));
    }
      where
        by_case : (n : ℕ) (phase : Phase) (source : NetId)
            → ((n < length old.slices.net) × (slice_get old.slices.net n ≡ Some (Latch phase (Some source))))
            ⊎ ((i : ℕ) × (n ≡ length old.slices.net + i)
            × (slice_get a.parts i ≡ Some (Latch phase (Some source))))
            → IsLatched new.slices.net now source
        by_case n phase source (inl h) = still_latched source (well.latches n phase source h.1)
        by_case n phase source (inr h) = latched h.0 phase source h.2
