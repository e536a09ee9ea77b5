-- One value after another climbs to the least solution.
use Rattle.std.proofs.Common.{◌≡◌, ℕ, ◌<◌, ◌+◌, ◌⊎◌, inl, inr, List, [], ◌∷◌, Option, Some, None, Bool, true, false}
use Rattle.std.proofs.Common.{cond, eqb, length, map, get_or, refl, sym, ◌∙◌, ap, subst, arith}
use Rattle.std.specs.Prelude.{slice_get, slice_set}
use Rattle.std.proofs.lemmas.Bool.{cases_eq, ne_eqb}
use Rattle.std.proofs.lemmas.Option.{same_Some, none-some}
use Rattle.std.proofs.lemmas.List.{get_or-set_same, get_or-set_other}
use Rattle.std.proofs.lemmas.List.Sums.{sum_by-set}
use Rattle.mp_base.specs.declared.value.Trit.{Trit}
use Rattle.mp_base.specs.declared.value.Trit.TheVariants.{Zero, One, X}
use Rattle.nor_net.specs.declared.net.Phase.{Phase}
use Rattle.nor_net.specs.declared.net.NetId.{NetId}
use Rattle.nor_net.specs.declared.net.Part.{Part}
use Rattle.nor_net.specs.declared.net.Part.TheVariants.{Input, Gate, Latch}
use Rattle.nor_net.specs.Elements.{Spot, Element, Given, Latched, spot, nets_of, part_element, element_of}
use Rattle.nor_net.specs.Settled.{Setting, gives, is_open, nor_value, IsSolution, IsBelow}
use Rattle.nor_net.specs.Shape.{values_at}
use Rattle.nor_net.specs.Passing.{at, renewed, unknown, unknowns, Climbs}
use Rattle.nor_net.proofs.Values.{Below}
use Rattle.nor_net.proofs.Exists.{gives_grows}

abbrev here : ℕ → Spot
here n = record { band = 0; net = n }

counted : (xs : List Trit) (n : ℕ) (t : Trit) → n < length xs
    → unknowns (slice_set xs n t) + unknown (get_or xs n X) ≡ unknowns xs + unknown t
counted xs n t l = sum_by-set unknown xs n t X l

fewer_unknown : (t u : Trit) → Below t u → (u ≡ t → ⊥) → unknown u < unknown t
fewer_unknown t u (inr e) ne = absurd (ne (sym e))
fewer_unknown X Zero (inl e) ne = omega arith
fewer_unknown X One (inl e) ne = omega arith
fewer_unknown X X (inl e) ne = absurd (ne refl)
fewer_unknown Zero u (inl e) ne = absurd (cc)
fewer_unknown One u (inl e) ne = absurd (cc)

below_trans : (t u w : Trit) → Below t u → Below u w → Below t w
below_trans t u w (inl e) b = inl e
below_trans t u w (inr e) (inl f) = inl (e ∙ f)
below_trans t u w (inr e) (inr f) = inr (e ∙ f)

module _ (parts : List Part) (phase : Option Phase) (given before : Spot → Trit) where
  abbrev s : Setting
  s = record { nets = nets_of parts; phase = phase; given = given; before = before }

  -- a value that climbs
  module _ (vs : List Trit) (climbs : Climbs s (values_at vs)) where
    abbrev v : Spot → Trit
    v = values_at vs

    gates : (inputs : List NetId) → map v (map (spot 0) inputs) ≡ map (at vs) inputs
    gates [] = refl
    gates (m ∷ ms) = ap (λ ts. at vs m ∷ ts) (gates ms)

    -- what is renewed is what the element gives
    pub renewed_gives : (n : ℕ) (p : Part) (e : Element) → slice_get parts n ≡ Some p → element_of 0 p ≡ Some e
        → renewed phase vs n p ≡ gives s v (here n) e
    renewed_gives n Input e is f =
        climbs.inputs (here n) (ap (part_element 0) is) ∙ ap (λ o. gives_any o) f
      where
        gives_any : Option Element → Trit
        gives_any None = X
        gives_any (Some x) = gives s v (here n) x
    renewed_gives n (Gate inputs) e is f = ap nor_value (sym (gates inputs)) ∙ ap (λ o. gives_any o) f
      where
        gives_any : Option Element → Trit
        gives_any None = X
        gives_any (Some x) = gives s v (here n) x
    renewed_gives n (Latch p None) e is f = absurd (none-some e f)
    renewed_gives n (Latch p (Some m)) e is f = by_phase (is_open phase p) refl ∙ ap (λ o. gives_any o) f
      where
        gives_any : Option Element → Trit
        gives_any None = X
        gives_any (Some x) = gives s v (here n) x

        by_phase : (b : Bool) → is_open phase p ≡ b
            → cond (is_open phase p) (at vs m) (get_or vs n X) ≡ cond (is_open phase p) (v (spot 0 m)) (before (here n))
        by_phase true q = ap (λ b. cond b (at vs m) (get_or vs n X)) q
            ∙ ap (λ b. cond b (v (spot 0 m)) (before (here n))) (sym q)
        by_phase false q =
            ap (λ b. cond b (at vs m) (get_or vs n X)) q
            ∙ climbs.held (here n) (spot 0 m) p (ap (part_element 0) is) q
            ∙ ap (λ b. cond b (v (spot 0 m)) (before (here n))) (sym q)

    module _ (n : ℕ) (p : Part) (e : Element) (l : n < length vs) (is : slice_get parts n ≡ Some p)
        (f : element_of 0 p ≡ Some e) where
      abbrev u : Trit
      u = renewed phase vs n p

      abbrev v' : Spot → Trit
      v' = values_at (slice_set vs n u)

      net_is : nets_of parts (here n) ≡ Some e
      net_is = ap (part_element 0) is ∙ f

      new_here : v' (here n) ≡ gives s v (here n) e
      new_here = get_or-set_same vs n u X l ∙ renewed_gives n p e is f

      -- each other place keeps its value
      places : (q : Spot) → (q ≡ here n) ⊎ (v' q ≡ v q)
      places q = by_band (cases_eq q.band 0) (cases_eq q.net n)
        where
          by_band : (q.band ≡ 0) ⊎ (q.band ≡ 0 → ⊥) → (q.net ≡ n) ⊎ (q.net ≡ n → ⊥) → (q ≡ here n) ⊎ (v' q ≡ v q)
          by_band (inr ne) _ =
              inr (ap (λ b. cond b (get_or (slice_set vs n u) q.net X) X) (ne_eqb q.band 0 ne)
              ∙ ap (λ b. cond b (get_or vs q.net X) X) (sym (ne_eqb q.band 0 ne)))
          by_band (inl b) (inl m) = inl (λ i. record { band = b i; net = m i })
          by_band (inl b) (inr ne) = inr (ap (λ t. cond (eqb q.band 0) t X) (get_or-set_other vs n q.net u X ne))

      rises : IsBelow v v'
      rises q = by_place (places q)
        where
          by_place : (q ≡ here n) ⊎ (v' q ≡ v q) → Below (v q) (v' q)
          by_place (inr same) = inr (sym same)
          by_place (inl at') = subst (λ x. Below (v x) (v' x)) (sym at') (by_up (climbs.up (here n) e net_is))
            where
              by_up : (v (here n) ≡ X) ⊎ (v (here n) ≡ gives s v (here n) e) → Below (v (here n)) (v' (here n))
              by_up (inl x) = inl x
              by_up (inr x) = inr (x ∙ sym new_here)

      element_is : (q : Spot) (x : Element) → q ≡ here n → nets_of parts q ≡ Some x → x ≡ e
      element_is q x at' has = same_Some x e (sym has ∙ ap (nets_of parts) at' ∙ net_is)

      pub climbed : Climbs s v'
      climbed = record {
        inputs = λ q has. at_input q has (places q);
        held = λ q m r has shut. at_held q m r has shut (places q);
        up = λ q x has. at_up q x has (places q);
        least = λ w sol q. at_least w sol q (places q);
      }
        where
          at_input : (q : Spot) → nets_of parts q ≡ Some Given → (q ≡ here n) ⊎ (v' q ≡ v q) → v' q ≡ given q
          at_input q has (inr same) = same ∙ climbs.inputs q has
          at_input q has (inl at') = ap v' at' ∙ new_here ∙ ap (gives s v (here n)) (sym (element_is q Given at' has))
              ∙ ap given (sym at')

          at_held : (q m : Spot) (r : Phase) → nets_of parts q ≡ Some (Latched r m) → is_open phase r ≡ false
              → (q ≡ here n) ⊎ (v' q ≡ v q) → v' q ≡ before q
          at_held q m r has shut (inr same) = same ∙ climbs.held q m r has shut
          at_held q m r has shut (inl at') =
              ap v' at' ∙ new_here ∙ ap (gives s v (here n)) (sym (element_is q (Latched r m) at' has))
              ∙ ap (λ b. cond b (v m) (before (here n))) shut ∙ ap before (sym at')

          at_up : (q : Spot) (x : Element) → nets_of parts q ≡ Some x → (q ≡ here n) ⊎ (v' q ≡ v q)
              → Below (v' q) (gives s v' q x)
          at_up q x has (inr same) =
              below_trans (v' q) (v q) (gives s v' q x) (inr same)
              (below_trans (v q) (gives s v q x) (gives s v' q x) (climbs.up q x has) (gives_grows s v v' rises q x))
          at_up q x has (inl at') =
              below_trans (v' q) (gives s v q x) (gives s v' q x)
              (inr (ap v' at' ∙ new_here ∙ ap (gives s v (here n)) (sym (element_is q x at' has))
              ∙ ap (λ y. gives s v y x) (sym at'))) (gives_grows s v v' rises q x)

          at_least : (w : Spot → Trit) → IsSolution s w → (q : Spot) → (q ≡ here n) ⊎ (v' q ≡ v q) → Below (v' q) (w q)
          at_least w sol q (inr same) = below_trans (v' q) (v q) (w q) (inr same) (climbs.least w sol q)
          at_least w sol q (inl at') =
              subst (λ y. Below (v' y) (w y)) (sym at')
              (below_trans (v' (here n)) (gives s v (here n) e) (w (here n)) (inr new_here)
              (below_trans (gives s v (here n) e) (gives s w (here n) e) (w (here n))
              (gives_grows s v w (climbs.least w sol) (here n) e) (inr (sym (sol (here n) e net_is)))))

      pub lessened : (u ≡ get_or vs n X → ⊥) → unknowns (slice_set vs n u) < unknowns vs
      lessened ne =
          let c = counted vs n u l in
          let b = fewer_unknown (get_or vs n X) u
          (below_trans (get_or vs n X) (v' (here n)) u (rises (here n)) (inr (get_or-set_same vs n u X l))) ne in
          omega (arith, c, b)
