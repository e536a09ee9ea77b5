-- What slices compute they compute in every path that they grew into.
use Rattle.std.proofs.Common.{◌≡◌, ℕ, ◌<◌, ◌≤◌, suc, List, [], ◌∷◌, ◌++◌, Option, Some, None}
use Rattle.std.proofs.Common.{cond, eqb, length, refl, sym, ◌∙◌, ap, subst, arith}
use Rattle.std.specs.Prelude.{All, slice_get}
use Rattle.std.proofs.lemmas.Bool.{ne_eqb, lt-ltb}
use Rattle.std.proofs.lemmas.Option.{none-some, slice_get_within}
use Rattle.mp_base.specs.declared.value.Trit.{Trit}
use Rattle.nor_net.specs.declared.net.Part.{Part}
use Rattle.nor_net.specs.declared.net.Part.TheVariants.{Input, Gate, Latch}
use Rattle.nor_net.specs.Elements.{Spot, Element, Given, Nor, Latched, Joined, Low, Nets, spot}
use Rattle.nor_net.specs.Settled.{Obeys}
use Rattle.nor_net.specs.Machine.{Solves}
use Rattle.organelles.specs.declared.slices.Chain.{Chain}
use Rattle.organelles.specs.declared.slices.Chain.TheVariants.{Up, Down}
use Rattle.organelles.specs.declared.slices.SliceNet.{SliceNet}
use Rattle.organelles.specs.Slices as slices
use Rattle.std.specs.Option.{option_or}
use Rattle.organelles.specs.Slices.{first_some, chain_element, program_element, slice_input, slice_nets}
use Rattle.path_form.specs.declared.path.DataPath.{DataPath}
use Rattle.path_form.specs.Nets as nets
use Rattle.path_form.specs.Nets.{cast_element}
use Rattle.path_form.specs.Shape.{chain_to}
use Rattle.path_form.specs.Showing.{path_nets}
use Rattle.path_form.specs.Extending.{Extends, SlicesObey}

first_kept : {A Y : Type 0} (f : A → Option Y) (xs ys : List A) (y : Y) → first_some f xs ≡ Some y
    → first_some f (xs ++ ys) ≡ Some y
first_kept f [] ys y e = absurd (none-some y e)
first_kept {A} {Y} f (x ∷ xs) ys y e = by_head (f x) (first_kept f xs ys y) e
  where
    by_head : (o : Option Y) → (first_some f xs ≡ Some y → first_some f (xs ++ ys) ≡ Some y)
        → option_or o (first_some f xs) ≡ Some y → option_or o (first_some f (xs ++ ys)) ≡ Some y
    by_head (Some z) again e = e
    by_head None again e = again e

first_none : {A Y : Type 0} (f : A → Option Y) (xs ys : List A) → first_some f xs ≡ None → All (λ y. f y ≡ None) ys
    → first_some f (xs ++ ys) ≡ None
first_none f [] [] e h = refl
first_none f [] (y ∷ ys) e h =
    ap (λ o. option_or o (first_some f ys)) (h 0 y (omega arith))
    ∙ first_none f [] ys refl (λ k d l. h (suc k) d (omega arith))
first_none {A} {Y} f (x ∷ xs) ys e h = by_head (f x) (λ q. first_none f xs ys q h) e
  where
    by_head : (o : Option Y) → (first_some f xs ≡ None → first_some f (xs ++ ys) ≡ None)
        → option_or o (first_some f xs) ≡ None → option_or o (first_some f (xs ++ ys)) ≡ None
    by_head (Some z) again e = absurd (none-some z (sym e))
    by_head None again e = again e

-- chains that end past n join nothing to n
past : (w k n m : ℕ) → n < m → (cs : List Chain) → All (λ c. m ≤ (chain_to c).0) cs
    → All (λ c. chain_element w k n c ≡ None) cs
past w k n m l cs h i d j = by_chain (Rattle.std.specs.Prelude.slice_index_or cs i d) (h i d j)
  where
    by_chain : (c : Chain) → m ≤ (chain_to c).0 → chain_element w k n c ≡ None
    by_chain (Up from to) ge =
        ap (λ b. cond b (Some (cond (eqb k 0) Low (Joined (spot k from)))) None)
        (ne_eqb to.0 n (λ q. absurd (omega arith)))
    by_chain (Down from to) ge =
        ap (λ b. cond b (Some (cond (eqb (suc k) w) Low (Joined (spot (suc (suc k)) from)))) None)
        (ne_eqb to.0 n (λ q. absurd (omega arith)))

module _ (p : DataPath) (s : SliceNet) (ext : Extends s p.slices) (v : Spot → Trit)
    (solves : Solves (path_nets p) v) where
  -- a solution obeys
  obeys : (n : Spot) (e : Element) → path_nets p n ≡ Some e → Obeys v n (Some e)
  obeys n e is = by_element e (solves.2 n e (ap (λ (f : Nets). f n) solves.1 ∙ is))
    where
      by_element : (e : Element) → v n ≡ Rattle.nor_net.specs.Settled.gives solves.0 v n e → Obeys v n (Some e)
      by_element Given q = tt
      by_element (Nor inputs) q = q
      by_element (Latched phase m) q = tt
      by_element (Joined m) q = q
      by_element Low q = q

  module _ (k n : ℕ) (l : k < p.width) where
    stands : (q : Part) (e : Element) → slice_get p.slices.net n ≡ Some q
        → nets.slice_part p.width p.slices p.casts k n (Some q) ≡ Some e
        → Obeys v (record { band = suc k; net = n }) (Some e)
    stands q e is f =
        obeys (record { band = suc k; net = n }) e
        (ap (λ b. cond b (nets.slice_part p.width p.slices p.casts k n (slice_get p.slices.net n)) None)
        (lt-ltb k p.width l) ∙ ap (nets.slice_part p.width p.slices p.casts k n) is ∙ f)

    -- an input that is joined stays joined
    input_kept : n < length s.net → (e : Element) → slice_input p.width s k n ≡ Some e
        → slice_input p.width p.slices k n ≡ Some e
    input_kept lt e is = by_chain (first_some (chain_element p.width k n) s.chains) refl is
      where
        by_chain : (o : Option Element) → first_some (chain_element p.width k n) s.chains ≡ o
            → option_or o (first_some (program_element k n) s.programs) ≡ Some e
            → slice_input p.width p.slices k n ≡ Some e
        by_chain (Some f) q h =
            let c : first_some (chain_element p.width k n) p.slices.chains
            ≡ Some f = ap (first_some (chain_element p.width k n)) ext.chains.1
            ∙ first_kept (chain_element p.width k n) s.chains ext.chains.0 f q in
            ap (λ o. option_or o (first_some (program_element k n) p.slices.programs)) c ∙ h
        by_chain None q h =
            let c : first_some (chain_element p.width k n) p.slices.chains ≡ None =
            ap (first_some (chain_element p.width k n)) ext.chains.1
            ∙ first_none (chain_element p.width k n) s.chains ext.chains.0 q
            (past p.width k n (length s.net) lt ext.chains.0 ext.chains.2) in
            ap (λ o. option_or o (first_some (program_element k n) p.slices.programs)) c
            ∙ ap (first_some (program_element k n)) ext.programs.1
            ∙ first_kept (program_element k n) s.programs ext.programs.0 e h

    by_part : (o : Option Part) → slice_get s.net n ≡ o → Obeys v (record { band = suc k; net = n })
        (slices.slice_part p.width s k n o)
    by_part None is = tt
    by_part (Some Input) is = by_input (slice_input p.width s k n) refl
      where
        by_input : (o : Option Element) → slice_input p.width s k n ≡ o
            → Obeys v (record { band = suc k; net = n }) (option_or o (Some Given))
        by_input None q = tt
        by_input (Some e) q =
            stands Input e (ext.parts n Input is refl)
            (ap (λ o. option_or o (option_or (first_some (cast_element n) p.casts) (Some Given)))
            (input_kept (slice_get_within s.net n Input is) e q))
    by_part (Some (Gate inputs)) is =
        stands (Gate inputs) (Nor (Rattle.std.proofs.Common.map (spot (suc k)) inputs))
        (ext.parts n (Gate inputs) is refl) refl
    by_part (Some (Latch phase None)) is = tt
    by_part (Some (Latch phase (Some m))) is = tt

    all : Obeys v (record { band = suc k; net = n }) (slice_nets p.width s (record { band = suc k; net = n }))
    all = subst (λ b. Obeys v (record { band = suc k; net = n })
        (cond b (slices.slice_part p.width s k n (slice_get s.net n)) None)) (sym (lt-ltb k p.width l))
        (by_part (slice_get s.net n) refl)

pub slices_obey : SlicesObey
slices_obey p s ext v solves k n l ge = all p s ext v solves k n l
