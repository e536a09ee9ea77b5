-- The lists of a placed path have exactly its wires and ties.
use Rattle.std.proofs.Common.{◌≡◌, inl, inr, ℕ, suc, ◌<◌, ◌≤◌, ◌+◌, ◌==◌, Option, Some, None, Bool, true, false, not}
use Rattle.std.proofs.Common.{List, [], ◌∷◌, ◌++◌, length, refl, sym, ◌∙◌, ap, subst, arith}
use Rattle.std.specs.Prelude.{slice_get, flat_map, ◌≢◌}
use Rattle.std.specs.List.{range_with_len}
use Rattle.std.proofs.lemmas.Bool.{cases_Bool}
use Rattle.std.proofs.lemmas.Option.{slice_get_within}
use Rattle.mp_base.proofs.Members.{Member, member_map, map_member, member_filter, filter_member, range_members}
use Rattle.mp_base.proofs.Members.{range_has, member_append, append_left, append_right, member_flat, flat_member}
use Rattle.mp_base.proofs.Tests.{false_true}
use Rattle.fabric.specs.declared.thing.Side.TheVariants.{L, R}
use Rattle.nor_net.specs.declared.net.Phase.{Phase}
use Rattle.nor_net.specs.declared.net.Phase.TheVariants.{A, B, C}
use Rattle.array_form.specs.Named.{Tie, tap, pull}
use Rattle.array_form.specs.Wires.{Wire, row, beat, left, right, trunk, extra, to_ground, place}
use Rattle.array_form.specs.Band.{band_ties}
use Rattle.array_form.proofs.Listing.{listed_tie, tie_listed, same_from, same_to}
use Rattle.slice_form.specs.Path.{Path, Carry, Cast, Lift, Programmed, parts, IsSlice}
use Rattle.slice_form.specs.PathWires.{Across, cast_line, lift_stub, PathTie, of_net, of_phase, of_cast, of_cast_slice}
use Rattle.slice_form.specs.PathWires.{of_lift, of_lift_slice, of_lift_stub, of_below, of_above, of_open, of_bit_ground}
use Rattle.slice_form.specs.PathWires.{of_bit_pull, of_one, of_zero}
use Rattle.slice_form.specs.PathLists.{
  bands_of,
  slices_of,
  others_of,
  cast_ties,
  lift_ties,
  slice_ties,
  chain_ties,
  bit_tie,
  bit_ties,
  path_ties,
}

module _ (p : Path) (stub : ℕ → ℕ → Bool) where
  abbrev Ties : Type 0
  Ties = List (Tie (Wire Across))

  abbrev nets : Ties
  nets = flat_map (λ b. band_ties Across b (stub b) (parts p b)) (bands_of p)

  abbrev phases : Ties
  phases = flat_map (λ b. tap L (trunk A) (beat b A) ∷ tap L (trunk B) (beat b B) ∷ tap L (trunk C) (beat b C) ∷ [])
      (bands_of p)

  abbrev casts : Ties
  casts = flat_map (λ i. cast_ties p i (slice_get p.casts i)) (range_with_len 0 (length p.casts))

  abbrev lifts : Ties
  lifts = flat_map (λ i. lift_ties p i (slice_get p.lifts i)) (range_with_len 0 (length p.lifts))

  abbrev bits : Ties
  bits = flat_map (λ i. bit_ties p (slice_get p.programs i)) (range_with_len 0 (length p.programs))

  abbrev chains : Ties
  chains = flat_map (λ i. chain_ties p i (slice_get p.chains i)) (range_with_len 0 (length p.chains))

  pub band_in : (b : ℕ) → Member (bands_of p) b → b ≤ p.width
  band_in b m = let r = (range_members 0 (suc p.width) b m).1 in omega arith

  pub in_bands : (b : ℕ) → b ≤ p.width → Member (bands_of p) b
  in_bands b h = range_has 0 (suc p.width) b (omega arith) (omega arith)

  pub slice_in : (b : ℕ) → Member (slices_of p) b → IsSlice p b
  slice_in b m = let r = range_members 1 p.width b m in let r0 = r.0 in let r1 = r.1 in (omega arith, omega arith)

  pub in_slices : (b : ℕ) → IsSlice p b → Member (slices_of p) b
  in_slices b h = let h0 = h.0 in let h1 = h.1 in range_has 1 p.width b (omega arith) (omega arith)

  pub not_same : (b k : ℕ) → not (b == k) ≡ true → b ≢ k
  not_same b k e q = absurd (false_true (sym (ap not (same_to b k q)) ∙ e))

  pub same_not : (b k : ℕ) → b ≢ k → not (b == k) ≡ true
  same_not b k e = elim (cases_Bool (b == k)) [ inl q ↦ absurd (e (same_from b k q)) | inr q ↦ ap not q ]

  -- from the list
  phase_tie : (b : ℕ) (t : Tie (Wire Across)) → b ≤ p.width
      → Member (tap L (trunk A) (beat b A) ∷ tap L (trunk B) (beat b B) ∷ tap L (trunk C) (beat b C) ∷ []) t
      → PathTie p stub t
  phase_tie b t h (inl e) = subst (PathTie p stub) e (of_phase b A h)
  phase_tie b t h (inr (inl e)) = subst (PathTie p stub) e (of_phase b B h)
  phase_tie b t h (inr (inr (inl e))) = subst (PathTie p stub) e (of_phase b C h)
  phase_tie b t h (inr (inr (inr m))) = absurd m

  cast_tie : (i : ℕ) (q : Option Cast) (t : Tie (Wire Across)) → slice_get p.casts i ≡ q → Member (cast_ties p i q) t
      → PathTie p stub t
  cast_tie i None t h m = absurd m
  cast_tie i (Some c) t h (inl e) = subst (PathTie p stub) e (of_cast i c h)
  cast_tie i (Some c) t h (inr m) =
      let w = member_map (λ b. tap L (extra (cast_line i)) (row (place b c.slice))) (slices_of p) t m in
      subst (PathTie p stub) w.2 (of_cast_slice i c w.0 h (slice_in w.0 w.1))

  lift_tie : (i : ℕ) (q : Option Lift) (t : Tie (Wire Across)) → slice_get p.lifts i ≡ q → Member (lift_ties p i q) t
      → PathTie p stub t
  lift_tie i None t h m = absurd m
  lift_tie i (Some l) t h (inl e) = subst (PathTie p stub) e (of_lift i l h)
  lift_tie i (Some l) t h (inr (inl e)) = subst (PathTie p stub) e (of_lift_slice i l h)
  lift_tie i (Some l) t h (inr (inr m)) =
      let w = member_map (λ b. tap R (extra (lift_stub i b)) (row (place b l.start))) (others_of p l) t m in
      let u = member_filter (λ b. not (b == suc l.slice)) (slices_of p) w.0 w.1 in
      subst (PathTie p stub) w.2 (of_lift_stub i l w.0 h (slice_in w.0 u.0) (not_same w.0 (suc l.slice) u.1))

  chain_tie : (i : ℕ) (q : Option Carry) (t : Tie (Wire Across)) → slice_get p.chains i ≡ q
      → Member (chain_ties p i q) t → PathTie p stub t
  chain_tie i None t h m = absurd m
  chain_tie i (Some c) t h (inl e) = subst (PathTie p stub) e (of_open i c h)
  chain_tie i (Some c) t h (inr m) = let w = member_flat (slice_ties c i) (range_with_len 0 p.width) t m in
      of_slice w.0 (range_members 0 p.width w.0 w.1).1 w.2
    where
      of_slice : (k : ℕ) → k < 0 + p.width → Member (slice_ties c i k) t → PathTie p stub t
      of_slice k lt (inl e) = subst (PathTie p stub) e (of_below i c k h (omega arith))
      of_slice k lt (inr (inl e)) = subst (PathTie p stub) e (of_above i c k h (omega arith))
      of_slice k lt (inr (inr z)) = absurd z

  program_tie : (i : ℕ) (q : Option Programmed) (t : Tie (Wire Across)) → slice_get p.programs i ≡ q
      → Member (bit_ties p q) t → PathTie p stub t
  program_tie i None t h m = absurd m
  program_tie i (Some g) t h m =
      let w = member_flat (λ k. tap R (right (place (suc k) g.net)) to_ground ∷ pull
      (left (place (suc k) g.net)) ∷ bit_tie (suc k) g.net (slice_get g.bits k)) (range_with_len 0 p.width) t m in
      of_bit w.0 (range_members 0 p.width w.0 w.1).1 (slice_get g.bits w.0) refl w.2
    where
      of_bit : (k : ℕ) → k < 0 + p.width → (o : Option Bool) → slice_get g.bits k ≡ o
          → Member (tap R (right (place (suc k) g.net)) to_ground ∷ pull (left (place (suc k) g.net)) ∷ bit_tie
          (suc k) g.net o) t → PathTie p stub t
      of_bit k lt o b (inl e) = subst (PathTie p stub) e (of_bit_ground i g k h (omega arith))
      of_bit k lt o b (inr (inl e)) = subst (PathTie p stub) e (of_bit_pull i g k h (omega arith))
      of_bit k lt None b (inr (inr z)) = absurd z
      of_bit k lt (Some true) b (inr (inr (inl e))) = subst (PathTie p stub) e (of_one i g k h (omega arith) b)
      of_bit k lt (Some true) b (inr (inr (inr z))) = absurd z
      of_bit k lt (Some false) b (inr (inr (inl e))) = subst (PathTie p stub) e (of_zero i g k h (omega arith) b)
      of_bit k lt (Some false) b (inr (inr (inr z))) = absurd z

  pub path_listed : (t : Tie (Wire Across)) → Member (path_ties p stub) t → PathTie p stub t
  path_listed t m = elim (member_append nets (phases ++ (casts ++ (lifts ++ (bits ++ chains)))) t m) [
    | inl k ↦ (let w = member_flat (λ b. band_ties Across b (stub b) (parts p b)) (bands_of p) t k in
        of_net w.0 t (band_in w.0 w.1) (listed_tie Across w.0 (stub w.0) (parts p w.0) t w.2))
    | inr k ↦ elim (member_append phases (casts ++ (lifts ++ (bits ++ chains))) t k) [
      | inl k ↦ (let w = member_flat (λ b. tap L (trunk A) (beat b A) ∷ tap L (trunk B) (beat b B) ∷ tap L (trunk C)
          (beat b C) ∷ []) (bands_of p) t k in phase_tie w.0 t (band_in w.0 w.1) w.2)
      | inr k ↦ elim (member_append casts (lifts ++ (bits ++ chains)) t k) [
        | inl k ↦ (let w = member_flat (λ i. cast_ties p i (slice_get p.casts i))
            (range_with_len 0 (length p.casts)) t k in cast_tie w.0 (slice_get p.casts w.0) t refl w.2)
        | inr k ↦ elim (member_append lifts (bits ++ chains) t k) [
          | inl k ↦ (let w = member_flat (λ i. lift_ties p i (slice_get p.lifts i))
              (range_with_len 0 (length p.lifts)) t k in lift_tie w.0 (slice_get p.lifts w.0) t refl w.2)
          | inr k ↦ elim (member_append bits chains t k) [
            | inl k ↦ (let w = member_flat (λ i. bit_ties p (slice_get p.programs i))
                (range_with_len 0 (length p.programs)) t k in program_tie w.0 (slice_get p.programs w.0) t refl w.2)
            | inr k ↦ (let w = member_flat (λ i. chain_ties p i (slice_get p.chains i))
                (range_with_len 0 (length p.chains)) t k in chain_tie w.0 (slice_get p.chains w.0) t refl w.2)
          ]
        ]
      ]
    ]
  ]

  -- and into it
  in1 : (t : Tie (Wire Across)) → Member phases t → Member (path_ties p stub) t
  in1 t m = append_right nets (phases ++ (casts ++ (lifts ++ (bits ++ chains)))) t
      (append_left phases (casts ++ (lifts ++ (bits ++ chains))) t m)

  behind1 : (t : Tie (Wire Across)) → Member (casts ++ (lifts ++ (bits ++ chains))) t → Member (path_ties p stub) t
  behind1 t m = append_right nets (phases ++ (casts ++ (lifts ++ (bits ++ chains)))) t
      (append_right phases (casts ++ (lifts ++ (bits ++ chains))) t m)

  in2 : (t : Tie (Wire Across)) → Member casts t → Member (path_ties p stub) t
  in2 t m = behind1 t (append_left casts (lifts ++ (bits ++ chains)) t m)

  in3 : (t : Tie (Wire Across)) → Member lifts t → Member (path_ties p stub) t
  in3 t m = behind1 t (append_right casts (lifts ++ (bits ++ chains)) t (append_left lifts (bits ++ chains) t m))

  in4 : (t : Tie (Wire Across)) → Member bits t → Member (path_ties p stub) t
  in4 t m = behind1 t (append_right casts (lifts ++ (bits ++ chains)) t
      (append_right lifts (bits ++ chains) t (append_left bits chains t m)))

  in5 : (t : Tie (Wire Across)) → Member chains t → Member (path_ties p stub) t
  in5 t m = behind1 t (append_right casts (lifts ++ (bits ++ chains)) t
      (append_right lifts (bits ++ chains) t (append_right bits chains t m)))

  cast_has : (i : ℕ) (c : Cast) (t : Tie (Wire Across)) → slice_get p.casts i ≡ Some c
      → Member (cast_ties p i (Some c)) t → Member (path_ties p stub) t
  cast_has i c t h m = in2 t (flat_member (λ i. cast_ties p i (slice_get p.casts i))
      (range_with_len 0 (length p.casts)) i t
      (range_has 0 (length p.casts) i (omega arith) (let w = slice_get_within p.casts i c h in omega arith))
      (subst (λ q. Member (cast_ties p i q) t) (sym h) m))

  lift_has : (i : ℕ) (l : Lift) (t : Tie (Wire Across)) → slice_get p.lifts i ≡ Some l
      → Member (lift_ties p i (Some l)) t → Member (path_ties p stub) t
  lift_has i l t h m = in3 t (flat_member (λ i. lift_ties p i (slice_get p.lifts i))
      (range_with_len 0 (length p.lifts)) i t
      (range_has 0 (length p.lifts) i (omega arith) (let w = slice_get_within p.lifts i l h in omega arith))
      (subst (λ q. Member (lift_ties p i q) t) (sym h) m))

  chain_has : (i : ℕ) (c : Carry) (t : Tie (Wire Across)) → slice_get p.chains i ≡ Some c
      → Member (chain_ties p i (Some c)) t → Member (path_ties p stub) t
  chain_has i c t h m = in5 t (flat_member (λ i. chain_ties p i (slice_get p.chains i))
      (range_with_len 0 (length p.chains)) i t
      (range_has 0 (length p.chains) i (omega arith) (let w = slice_get_within p.chains i c h in omega arith))
      (subst (λ q. Member (chain_ties p i q) t) (sym h) m))

  bit_has : (i : ℕ) (g : Programmed) (k : ℕ) (t : Tie (Wire Across)) → slice_get p.programs i ≡ Some g → suc k ≤ p.width
      → Member (tap R (right (place (suc k) g.net)) to_ground ∷ pull (left (place (suc k) g.net)) ∷ bit_tie
      (suc k) g.net (slice_get g.bits k)) t → Member (path_ties p stub) t
  bit_has i g k t h lt m = in4 t (flat_member (λ i. bit_ties p (slice_get p.programs i))
      (range_with_len 0 (length p.programs)) i t
      (range_has 0 (length p.programs) i (omega arith) (let w = slice_get_within p.programs i g h in omega arith))
      (subst (λ q. Member (bit_ties p q) t) (sym h)
      (flat_member (λ k. tap R (right (place (suc k) g.net)) to_ground ∷ pull
      (left (place (suc k) g.net)) ∷ bit_tie (suc k) g.net (slice_get g.bits k)) (range_with_len 0 p.width) k t
      (range_has 0 p.width k (omega arith) (omega arith)) m)))

  phase_has : (b : ℕ) (ph : Phase) → b ≤ p.width → Member (path_ties p stub) (tap L (trunk ph) (beat b ph))
  phase_has b ph h = in1 (tap L (trunk ph) (beat b ph))
      (flat_member (λ b. tap L (trunk A) (beat b A) ∷ tap L (trunk B) (beat b B) ∷ tap L (trunk C) (beat b C) ∷ [])
      (bands_of p) b (tap L (trunk ph) (beat b ph)) (in_bands b h) (one ph))
    where
      one : (ph : Phase) → Member {A = Tie (Wire Across)}
          (tap L (trunk A) (beat b A) ∷ tap L (trunk B) (beat b B) ∷ tap L (trunk C) (beat b C) ∷ [])
          (tap L (trunk ph) (beat b ph))
      one A = inl refl
      one B = inr (inl refl)
      one C = inr (inr (inl refl))

  pub path_in_list : (t : Tie (Wire Across)) → PathTie p stub t → Member (path_ties p stub) t
  path_in_list t (of_net b k h n) =
      append_left nets (phases ++ (casts ++ (lifts ++ (bits ++ chains)))) t
      (flat_member (λ b. band_ties Across b (stub b) (parts p b)) (bands_of p) b t (in_bands b h)
      (tie_listed Across b (stub b) (parts p b) t n))
  path_in_list t (of_phase b ph h) = phase_has b ph h
  path_in_list t (of_cast i c h) = cast_has i c t h (inl refl)
  path_in_list t (of_cast_slice i c b h s) = cast_has i c t h
      (inr (map_member (λ b. tap L (extra (cast_line i)) (row (place b c.slice))) (slices_of p) b (in_slices b s)))
  path_in_list t (of_lift i l h) = lift_has i l t h (inl refl)
  path_in_list t (of_lift_slice i l h) = lift_has i l t h (inr (inl refl))
  path_in_list t (of_lift_stub i l b h s apart) =
      lift_has i l t h (inr (inr (map_member (λ b. tap R (extra (lift_stub i b)) (row (place b l.start)))
      (others_of p l) b
      (filter_member (λ b. not (b == suc l.slice)) (slices_of p) b (in_slices b s)
      (same_not b (suc l.slice) apart)))))
  path_in_list t (of_below i c g h lt) = chain_has i c t h
      (inr (flat_member (slice_ties c i) (range_with_len 0 p.width) g t
      (range_has 0 p.width g (omega arith) (omega arith)) (inl refl)))
  path_in_list t (of_above i c g h lt) = chain_has i c t h
      (inr (flat_member (slice_ties c i) (range_with_len 0 p.width) g t
      (range_has 0 p.width g (omega arith) (omega arith)) (inr (inl refl))))
  path_in_list t (of_open i c h) = chain_has i c t h (inl refl)
  path_in_list t (of_bit_ground i g b h lt) = bit_has i g b t h lt (inl refl)
  path_in_list t (of_bit_pull i g b h lt) = bit_has i g b t h lt (inr (inl refl))
  path_in_list t (of_one i g b h lt bit) = bit_has i g b t h lt
      (inr (inr (subst (λ o. Member (bit_tie (suc b) g.net o) t) (sym bit) (inl refl))))
  path_in_list t (of_zero i g b h lt bit) = bit_has i g b t h lt
      (inr (inr (subst (λ o. Member (bit_tie (suc b) g.net o) t) (sym bit) (inl refl))))
