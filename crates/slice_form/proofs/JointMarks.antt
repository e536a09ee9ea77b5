-- The marks of the lines that join bands stand in different places.
use Rattle.std.proofs.Common.{◌≡◌, inl, inr, ℕ, suc, ◌<◌, ◌≤◌, ◌+◌, ◌==◌, Option, Some, None, Bool, true, false, cond}
use Rattle.std.proofs.Common.{not, List, [], ◌∷◌, length, map, sym, ap, subst, arith}
use Rattle.std.specs.Prelude.{slice_get, flat_map, ◌≢◌}
use Rattle.std.specs.List.{range_with_len}
use Rattle.std.proofs.lemmas.Option.{slice_get_within}
use Rattle.mp_base.proofs.Members.{Member, member_map, member_filter, range_members, member_flat}
use Rattle.fabric.specs.declared.thing.Mark.{Mark}
use Rattle.fabric.specs.declared.thing.Side.TheVariants.{L, R}
use Rattle.fabric.specs.Plan.{MarksApart}
use Rattle.nor_net.specs.declared.net.Phase.TheVariants.{A, B, C}
use Rattle.nor_net.specs.declared.net.Part.TheVariants.{Input}
use Rattle.array_form.specs.Named.{Tie, tap, pull}
use Rattle.array_form.specs.Wires.{Wire, row, beat, left, right, trunk, extra, to_ground, place}
use Rattle.array_form.specs.Lists.{Layout, mark_of}
use Rattle.array_form.specs.Laying.{AreTracks}
use Rattle.array_form.proofs.Homes.{least_below, greatest_above}
use Rattle.array_form.proofs.Pairs.{each_from, Pairs, pairs_map_range, pairs_flat_range}
use Rattle.array_form.proofs.Pairs.{pairs_filter}
use Rattle.slice_form.specs.Path.{Path, Carry, Cast, Lift, Programmed, parts, IsPath}
use Rattle.slice_form.specs.PathWires.{
  Across,
  cast_line,
  lift_line,
  lift_stub,
  chain_line,
  side_of,
  below,
  above,
  open_gap,
}
use Rattle.slice_form.specs.PathLists.{
  bands_of,
  slices_of,
  others_of,
  cast_ties,
  lift_ties,
  slice_ties,
  chain_ties,
  bit_tie,
  bit_ties,
}
use Rattle.slice_form.specs.Slices.{columns_of, chain_column}
use Rattle.slice_form.proofs.Lists.{not_same}
use Rattle.slice_form.proofs.Joints.{pairs_map_of, range_rises}
use Rattle.slice_form.proofs.Crossing.{y, chain_col}

-- pairs through a map, from pairs of what is mapped
pairs_of_map : {A B : Type 0} (P : B → B → Type 0) (g : A → B) (xs : List A) → Pairs (λ a b. P (g a) (g b)) xs
    → Pairs P (map g xs)
pairs_of_map P g xs h = pairs_map_of (λ a b. P (g a) (g b)) P g xs (λ a b k. k) h

module _ (p : Path) (path : IsPath p) (cols : ℕ → ℕ → List ℕ) (row_of : ℕ → ℕ → ℕ) (rows : ℕ → ℕ) (k : ℕ → ℕ)
    (tracks : (b : ℕ) → b ≤ p.width → AreTracks (columns_of p b) (parts p b) (cols b) (row_of b) (k b))
    (rows_is : (b : ℕ) → b ≤ p.width → rows b ≡ suc (k b))
    (differ : (i : ℕ) (c : Carry) → slice_get p.chains i ≡ Some c → c.to ≢ c.start) where
  abbrev z : Layout Across
  z = y p path cols row_of rows k tracks

  abbrev m : Tie (Wire Across) → Mark
  m t = mark_of Across z t

  Apart : Tie (Wire Across) → Tie (Wire Across) → Type 0
  Apart t u = MarksApart (m t) (m u)

  far_bands : (t u : Tie (Wire Across)) → (m t).band < (m u).band → Apart t u
  unfolding Apart
  far_bands t u h e r l = absurd (omega arith)

  other_bands : (t u : Tie (Wire Across)) → ((m t).band ≡ (m u).band → ⊥) → Apart t u
  unfolding Apart
  other_bands t u h e r l = h e

  cast_pairs : (i : ℕ) (q : Option Cast) → Pairs Apart (cast_ties p i q)
  cast_pairs i None = tt
  cast_pairs i (Some c) = (
    each_from (Apart first) (map each (slices_of p))
        (λ t h. let w = member_map each (slices_of p) t h in let s = (range_members 1 p.width w.0 w.1).0 in
        subst (Apart first) w.2 (far_bands first (each w.0) (omega arith))),
    pairs_map_range Apart each 1 p.width (λ a b lo lt hi. far_bands (each a) (each b) lt),
  )
    where
      first : Tie (Wire Across)
      first = tap L (extra (cast_line i)) (row (place 0 c.control))

      each : ℕ → Tie (Wire Across)
      each b = tap L (extra (cast_line i)) (row (place b c.slice))

  lift_pairs : (i : ℕ) (q : Option Lift) → Pairs Apart (lift_ties p i q)
  lift_pairs i None = tt
  lift_pairs i (Some l) = (
    (
      far_bands first own (omega arith),
      each_from (Apart first) (map each (others_of p l)) (λ t h. let w = member_map each (others_of p l) t h in
          let u = member_filter (λ b. not (b == suc l.slice)) (slices_of p) w.0 w.1 in let s =
          (range_members 1 p.width w.0 u.0).0 in
          subst (Apart first) w.2 (far_bands first (each w.0) (omega arith))),
    ),
    (
      each_from (Apart own) (map each (others_of p l)) (λ t h. let w = member_map each (others_of p l) t h in
          let u = member_filter (λ b. not (b == suc l.slice)) (slices_of p) w.0 w.1 in
          subst (Apart own) w.2 (other_bands own (each w.0)
          (λ q. not_same p (λ b n. false) w.0 (suc l.slice) u.1 (sym q)))),
      pairs_map_of (λ a b. a < b) Apart each (others_of p l) (λ a b lt. far_bands (each a) (each b) lt)
          (pairs_filter (λ a b. a < b) (λ b. not (b == suc l.slice)) (slices_of p) (range_rises 1 p.width)),
    ),
  )
    where
      first : Tie (Wire Across)
      first = tap L (extra (lift_line i)) (row (place 0 l.control))

      own : Tie (Wire Across)
      own = tap L (extra (lift_line i)) (row (place (suc l.slice) l.start))

      each : ℕ → Tie (Wire Across)
      each b = tap R (extra (lift_stub i b)) (row (place b l.start))

  -- two nets of one band whose segments cross one column are in different rows
  rows_apart : (b i j c : ℕ) → b ≤ p.width → i < length (parts p b) → j < length (parts p b) → i ≢ j
      → Member (cols b i) c → Member (cols b j) c → row_of b i ≡ row_of b j → ⊥
  rows_apart b i j c h hi hj ne mi mj e =
      let a = least_below (cols b i) c mi in let d = greatest_above (cols b i) c mi in
      let u = least_below (cols b j) c mj in let v = greatest_above (cols b j) c mj in
      elim ((tracks b h).apart i j (omega arith) (omega arith) ne e) [
        | inl lt ↦ absurd
            (omega arith)
        | inr lt ↦ absurd (omega arith)
      ]

  chain_pairs : (i : ℕ) (q : Option Carry) → slice_get p.chains i ≡ q → Pairs Apart (chain_ties p i q)
  unfolding Apart
  chain_pairs i None h = tt
  chain_pairs i (Some c) h = (
    each_from (Apart open_tie) (flat_map (slice_ties c i) (range_with_len 0 p.width)) (λ t n. let w =
        member_flat (slice_ties c i) (range_with_len 0 p.width) t n in from_open w.0 t w.2),
    pairs_flat_range Apart (slice_ties c i) 0 p.width
        (λ a lo hi. ((λ e r l. absurd (two a (omega arith) (omega arith)), tt), (tt, tt))) cross,
  )
    where
      open_tie : Tie (Wire Across)
      open_tie = tap (side_of (open_gap p c)) (extra (chain_line i (open_gap p c))) to_ground

      from_open : (a : ℕ) (t : Tie (Wire Across)) → Member (slice_ties c i a) t → Apart open_tie t
      from_open a t (inl e) = subst (Apart open_tie) e (λ e r l. absurd (omega arith))
      from_open a t (inr (inl e)) = subst (Apart open_tie) e (λ e r l. absurd (omega arith))
      from_open a t (inr (inr n)) = absurd n

      two : (a : ℕ) → a < p.width → row_of (suc a) (below c) ≡ row_of (suc a) (above c) → ⊥
      two a lt e = apart_at c.up a lt e
        where
          inside : (t : Bool) → cond t c.to c.start < length p.slice
          inside true = slice_get_within p.slice c.to Input (path.chains i c h).1
          inside false = (path.chains i c h).0

          apart_at : (t : Bool) (a : ℕ) → a < p.width → row_of (suc a) (cond t c.to c.start)
              ≡ row_of (suc a) (cond t c.start c.to) → ⊥
          apart_at true a lt e =
              rows_apart (suc a) c.to c.start (chain_column p (slice_get p.chains i)) (omega arith) (inside true)
              (inside false) (differ i c h)
              (chain_col p path cols row_of rows k tracks i c a true h (omega arith))
              (chain_col p path cols row_of rows k tracks i c a false h (omega arith)) e
          apart_at false a lt e =
              rows_apart (suc a) c.start c.to (chain_column p (slice_get p.chains i)) (omega arith) (inside false)
              (inside true) (λ q. differ i c h (sym q))
              (chain_col p path cols row_of rows k tracks i c a false h (omega arith))
              (chain_col p path cols row_of rows k tracks i c a true h (omega arith)) e

      in_band : (a : ℕ) (t : Tie (Wire Across)) → Member (slice_ties c i a) t → (m t).band ≡ suc a
      in_band a t (inl e) = ap (λ x. (m x).band) (sym e)
      in_band a t (inr (inl e)) = ap (λ x. (m x).band) (sym e)
      in_band a t (inr (inr n)) = absurd n

      cross : (a b : ℕ) (t u : Tie (Wire Across)) → 0 ≤ a → a < b → b < 0 + p.width → Member (slice_ties c i a) t
          → Member (slice_ties c i b) u → Apart t u
      cross a b t u lo lt hi n o e r l = let v = in_band a t n in let w = in_band b u o in absurd (omega arith)

  ground_top : (a : ℕ) → a < p.width → 0 ≡ rows (suc a) → ⊥
  ground_top a lt e = let r = rows_is (suc a) (omega arith) in absurd (omega arith)

  top_net : (a n : ℕ) → a < p.width → n < length p.slice → rows (suc a) ≡ suc (row_of (suc a) n) → ⊥
  top_net a n lt h e = let r = rows_is (suc a) (omega arith) in let b =
      (tracks (suc a) (omega arith)).below n (omega arith) in absurd (omega arith)

  bit_pairs : (i : ℕ) (q : Option Programmed) → slice_get p.programs i ≡ q → Pairs Apart (bit_ties p q)
  unfolding Apart
  bit_pairs i None h = tt
  bit_pairs i (Some g) h = pairs_flat_range Apart (λ a. of_slice a (slice_get g.bits a)) 0 p.width
      (λ a lo hi. within a (omega arith) (slice_get g.bits a)) cross
    where
      of_slice : ℕ → Option Bool → List (Tie (Wire Across))
      of_slice a o = tap R (right (place (suc a) g.net)) to_ground ∷ pull (left (place (suc a) g.net)) ∷ bit_tie
          (suc a) g.net o

      inside : g.net < length p.slice
      inside = slice_get_within p.slice g.net Input (path.programs i g h).0

      within : (a : ℕ) → a < p.width → (o : Option Bool) → Pairs Apart (of_slice a o)
      within a lt None = ((λ e r l. absurd (ground_top a lt r), tt), (tt, tt))
      within a lt (Some true) = (
        (λ e r l. absurd (ground_top a lt r), (λ e r l. absurd (omega arith), tt)),
        ((λ e r l. absurd (top_net a g.net lt inside r), tt), (tt, tt)),
      )
      within a lt (Some false) = (
        (λ e r l. absurd (ground_top a lt r), (λ e r l. absurd (omega arith), tt)),
        ((λ e r l. absurd (top_net a g.net lt inside r), tt), (tt, tt)),
      )

      in_band : (a : ℕ) (o : Option Bool) (t : Tie (Wire Across)) → Member (of_slice a o) t → (m t).band ≡ suc a
      in_band a o t (inl e) = ap (λ x. (m x).band) (sym e)
      in_band a o t (inr (inl e)) = ap (λ x. (m x).band) (sym e)
      in_band a None t (inr (inr n)) = absurd n
      in_band a (Some true) t (inr (inr (inl e))) = ap (λ x. (m x).band) (sym e)
      in_band a (Some true) t (inr (inr (inr n))) = absurd n
      in_band a (Some false) t (inr (inr (inl e))) = ap (λ x. (m x).band) (sym e)
      in_band a (Some false) t (inr (inr (inr n))) = absurd n

      cross : (a b : ℕ) (t u : Tie (Wire Across)) → 0 ≤ a → a < b → b < 0 + p.width
          → Member (of_slice a (slice_get g.bits a)) t → Member (of_slice b (slice_get g.bits b)) u → Apart t u
      cross a b t u lo lt hi n o e r l = let v = in_band a (slice_get g.bits a) t n in let w =
          in_band b (slice_get g.bits b) u o in absurd (omega arith)

  phase_pairs : Pairs Apart (flat_map (λ b. tap L (trunk A) (beat b A) ∷ tap L (trunk B) (beat b B) ∷ tap L (trunk C)
      (beat b C) ∷ []) (bands_of p))
  unfolding Apart
  phase_pairs = pairs_flat_range Apart (λ b. tap L (trunk A) (beat b A) ∷ tap L (trunk B) (beat b B) ∷ tap L
      (trunk C) (beat b C) ∷ []) 0 (suc p.width)
      (λ b lo hi. (
        (λ e r l. absurd (one_two l), (λ e r l. absurd (one_three l), tt)),
        ((λ e r l. absurd (two_three l), tt), (tt, tt)),
      )) cross
    where
      one_two : 1 + 0 ≡ 1 + 1 → ⊥
      one_two e = absurd (omega arith)

      one_three : 1 + 0 ≡ 1 + 2 → ⊥
      one_three e = absurd (omega arith)

      two_three : 1 + 1 ≡ 1 + 2 → ⊥
      two_three e = absurd (omega arith)

      in_band : (b : ℕ) (t : Tie (Wire Across)) → Member
          (tap L (trunk A) (beat b A) ∷ tap L (trunk B) (beat b B) ∷ tap L (trunk C) (beat b C) ∷ []) t → (m t).band ≡ b
      in_band b t (inl e) = ap (λ x. (m x).band) (sym e)
      in_band b t (inr (inl e)) = ap (λ x. (m x).band) (sym e)
      in_band b t (inr (inr (inl e))) = ap (λ x. (m x).band) (sym e)
      in_band b t (inr (inr (inr n))) = absurd n

      cross : (a b : ℕ) (t u : Tie (Wire Across)) → 0 ≤ a → a < b → b < 0 + suc p.width
          → Member (tap L (trunk A) (beat a A) ∷ tap L (trunk B) (beat a B) ∷ tap L (trunk C) (beat a C) ∷ []) t
          → Member (tap L (trunk A) (beat b A) ∷ tap L (trunk B) (beat b B) ∷ tap L (trunk C) (beat b C) ∷ []) u
          → Apart t u
      cross a b t u lo lt hi n o e r l = let v = in_band a t n in let w = in_band b u o in absurd (omega arith)
