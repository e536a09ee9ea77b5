-- The lists of a placed path have exactly its segments and lines.
use Rattle.std.proofs.Common.{◌≡◌, inl, inr, ℕ, zero, suc, ◌<◌, ◌≤◌, ◌==◌, Option, Some, None, Bool, true, false, cond}
use Rattle.std.proofs.Common.{not, List, [], ◌∷◌, ◌++◌, length, map, refl, sym, subst, arith}
use Rattle.std.specs.Prelude.{slice_get, flat_map}
use Rattle.std.specs.List.{range_with_len}
use Rattle.std.proofs.lemmas.Bool.{cases_Bool}
use Rattle.std.proofs.lemmas.Option.{slice_get_within}
use Rattle.mp_base.proofs.Members.{Member, member_contains, contains_member, member_map, map_member, member_filter}
use Rattle.mp_base.proofs.Members.{filter_member, range_members, range_has, member_append, append_left, append_right}
use Rattle.mp_base.proofs.Members.{member_flat, flat_member}
use Rattle.mp_base.proofs.Entries.{some_entry}
use Rattle.nor_net.specs.declared.net.Phase.{Phase}
use Rattle.nor_net.specs.declared.net.Phase.TheVariants.{A, B, C}
use Rattle.nor_net.specs.declared.net.Part.{Part}
use Rattle.nor_net.specs.declared.net.Part.TheVariants.{Input, Gate, Latch}
use Rattle.nor_net.specs.Elements.{Spot}
use Rattle.array_form.specs.Wires.{Wire, row, beat, left, right, trunk, extra, to_ground, to_power, place}
use Rattle.array_form.specs.Band.{band_rows, band_columns, net_columns}
use Rattle.array_form.specs.Lists.{InLists}
use Rattle.slice_form.specs.Path.{Path, Lift, Programmed, parts, IsSlice}
use Rattle.slice_form.specs.PathWires.{
  Across,
  cast_line,
  lift_line,
  lift_stub,
  chain_line,
  HasColumn,
  by_gate,
  by_latch,
  by_bit,
  InPath,
  InAcross,
}
use Rattle.slice_form.specs.PathLists.{
  bands_of,
  slices_of,
  others_of,
  lift_columns,
  bit_columns,
  path_rows,
  path_columns,
}
use Rattle.slice_form.proofs.Lists.{band_in, in_bands, slice_in, in_slices, not_same, same_not}

module _ (p : Path) (stub : ℕ → ℕ → Bool) where
  abbrev Wires : Type 0
  Wires = List (Wire Across)

  abbrev nets : Wires
  nets = flat_map (λ b. band_columns Across b (stub b) (parts p b)) (bands_of p)

  abbrev trunks : Wires
  trunks = trunk A ∷ trunk B ∷ trunk C ∷ []

  abbrev casts : Wires
  casts = map (λ i. extra (cast_line i)) (range_with_len 0 (length p.casts))

  abbrev lifts : Wires
  lifts = flat_map (λ i. lift_columns p i (slice_get p.lifts i)) (range_with_len 0 (length p.lifts))

  abbrev bits : Wires
  bits = flat_map (λ i. bit_columns p (slice_get p.programs i)) (range_with_len 0 (length p.programs))

  abbrev chains : Wires
  chains = flat_map (λ i. map (λ g. extra (chain_line i g)) (bands_of p)) (range_with_len 0 (length p.chains))

  part_column : (b n : ℕ) (q : Option Part) → b ≤ p.width → slice_get (parts p b) n ≡ q → (w : Wire Across)
      → Member (net_columns Across b n (stub b n) q) w → InPath p stub w
  part_column b n None i h w m = absurd m
  part_column b n (Some Input) i h w m = elim (cases_Bool (stub b n)) [
    | inl e ↦ elim (subst (λ t. Member (cond t (left (place b n) ∷ []) []) w) e m) [
      | inl q ↦ subst (InPath p stub) q
          (inr (i, h, e))
      | inr z ↦ absurd z
    ]
    | inr e ↦ absurd (subst (λ t. Member (cond t (left (place b n) ∷ []) []) w) e m)
  ]
  part_column b n (Some (Gate ins)) i h w (inl q) = subst (InPath p stub) q (inl (by_gate b n ins i h))
  part_column b n (Some (Gate ins)) i h w (inr (inl q)) = subst (InPath p stub) q (by_gate b n ins i h)
  part_column b n (Some (Gate ins)) i h w (inr (inr z)) = absurd z
  part_column b n (Some (Latch ph None)) i h w m = absurd m
  part_column b n (Some (Latch ph (Some d))) i h w (inl q) = subst (InPath p stub) q (inl (by_latch b n ph d i h))
  part_column b n (Some (Latch ph (Some d))) i h w (inr (inl q)) = subst (InPath p stub) q (by_latch b n ph d i h)
  part_column b n (Some (Latch ph (Some d))) i h w (inr (inr z)) = absurd z

  lift_column : (i : ℕ) (q : Option Lift) (w : Wire Across) → slice_get p.lifts i ≡ q → Member (lift_columns p i q) w
      → InPath p stub w
  lift_column i None w h m = absurd m
  lift_column i (Some l) w h (inl e) = subst (InPath p stub) e (l, h)
  lift_column i (Some l) w h (inr m) =
      let k = member_map (λ b. extra (lift_stub i b)) (others_of p l) w m in
      let u = member_filter (λ b. not (b == suc l.slice)) (slices_of p) k.0 k.1 in
      subst (InPath p stub) k.2 (l, h, slice_in p stub k.0 u.0, not_same p stub k.0 (suc l.slice) u.1)

  bit_column : (i : ℕ) (q : Option Programmed) (w : Wire Across) → slice_get p.programs i ≡ q
      → Member (bit_columns p q) w → InPath p stub w
  bit_column i None w h m = absurd m
  bit_column i (Some g) w h m =
      let k = member_flat (λ b. left (place b g.net) ∷ right (place b g.net) ∷ []) (slices_of p) w m in
      of_slice k.0 (slice_in p stub k.0 k.1) k.2
    where
      of_slice : (b : ℕ) → IsSlice p b → Member (left (place b g.net) ∷ right (place b g.net) ∷ []) w → InPath p stub w
      of_slice zero s m = absurd (omega (arith, s.0))
      of_slice (suc b) s (inl e) = subst (InPath p stub) e (inl (by_bit i g b h s.1))
      of_slice (suc b) s (inr (inl e)) = subst (InPath p stub) e (by_bit i g b h s.1)
      of_slice (suc b) s (inr (inr z)) = absurd z

  pub column_in : (w : Wire Across) → Member (path_columns p stub) w → InPath p stub w
  column_in w m = elim (member_append nets (trunks ++ (casts ++ (lifts ++ (bits ++ chains)))) w m) [
    | inl k ↦ (let u = member_flat (λ b. band_columns Across b (stub b) (parts p b)) (bands_of p) w k in
        let v = member_flat (λ n. net_columns Across u.0 n (stub u.0 n) (slice_get (parts p u.0) n))
        (range_with_len 0 (length (parts p u.0))) w u.2 in
        part_column u.0 v.0 (slice_get (parts p u.0) v.0) (band_in p stub u.0 u.1) refl w v.2)
    | inr k ↦ elim (member_append trunks (casts ++ (lifts ++ (bits ++ chains))) w k) [
      | inl k ↦ of_trunk k
      | inr k ↦ elim (member_append casts (lifts ++ (bits ++ chains)) w k) [
        | inl k ↦ (let u = member_map (λ i. extra (cast_line i)) (range_with_len 0 (length p.casts)) w k in
            let r = (range_members 0 (length p.casts) u.0 u.1).1 in
            subst (InPath p stub) u.2 (some_entry p.casts u.0 (omega arith)))
        | inr k ↦ elim (member_append lifts (bits ++ chains) w k) [
          | inl k ↦ (let u = member_flat (λ i. lift_columns p i (slice_get p.lifts i))
              (range_with_len 0 (length p.lifts)) w k in lift_column u.0 (slice_get p.lifts u.0) w refl u.2)
          | inr k ↦ elim (member_append bits chains w k) [
            | inl k ↦ (let u = member_flat (λ i. bit_columns p (slice_get p.programs i))
                (range_with_len 0 (length p.programs)) w k in bit_column u.0 (slice_get p.programs u.0) w refl u.2)
            | inr k ↦ (let u = member_flat (λ i. map (λ g. extra (chain_line i g)) (bands_of p))
                (range_with_len 0 (length p.chains)) w k in
                let r = (range_members 0 (length p.chains) u.0 u.1).1 in
                let v = member_map (λ g. extra (chain_line u.0 g)) (bands_of p) w u.2 in
                let c = some_entry p.chains u.0 (omega arith) in
                subst (InPath p stub) v.2 (c.0, c.1, band_in p stub v.0 v.1))
          ]
        ]
      ]
    ]
  ]
    where
      of_trunk : Member (trunk A ∷ trunk B ∷ trunk C ∷ []) w → InPath p stub w
      of_trunk (inl e) = subst (InPath p stub) e tt
      of_trunk (inr (inl e)) = subst (InPath p stub) e tt
      of_trunk (inr (inr (inl e))) = subst (InPath p stub) e tt
      of_trunk (inr (inr (inr z))) = absurd z

  pub row_in : (w : Wire Across) → Member (path_rows p) w → InPath p stub w
  row_in w m =
      let u = member_flat (λ b. band_rows Across b (parts p b)) (bands_of p) w m in
      elim (member_append (map (λ n. row (place u.0 n)) (range_with_len 0 (length (parts p u.0))))
      (beat u.0 A ∷ beat u.0 B ∷ beat u.0 C ∷ []) w u.2) [
        | inl k ↦ (let v = member_map (λ n. row (place u.0 n)) (range_with_len 0 (length (parts p u.0))) w k in
            let r = (range_members 0 (length (parts p u.0)) v.0 v.1).1 in
            subst (InPath p stub) v.2 (band_in p stub u.0 u.1, (omega arith)))
        | inr k ↦ of_beat u.0 (band_in p stub u.0 u.1) k
      ]
    where
      of_beat : (b : ℕ) → b ≤ p.width → Member (beat b A ∷ beat b B ∷ beat b C ∷ []) w → InPath p stub w
      of_beat b i (inl e) = subst (InPath p stub) e i
      of_beat b i (inr (inl e)) = subst (InPath p stub) e i
      of_beat b i (inr (inr (inl e))) = subst (InPath p stub) e i
      of_beat b i (inr (inr (inr z))) = absurd z

  -- and into the lists
  net_has : (b n : ℕ) (q : Part) (w : Wire Across) → b ≤ p.width → slice_get (parts p b) n ≡ Some q
      → Member (net_columns Across b n (stub b n) (Some q)) w → Member (path_columns p stub) w
  net_has b n q w i h m =
      append_left nets (trunks ++ (casts ++ (lifts ++ (bits ++ chains)))) w
      (flat_member (λ b. band_columns Across b (stub b) (parts p b)) (bands_of p) b w (in_bands p stub b i)
      (flat_member (λ n. net_columns Across b n (stub b n) (slice_get (parts p b) n))
      (range_with_len 0 (length (parts p b))) n w
      (range_has 0 (length (parts p b)) n (omega arith) (let k = slice_get_within (parts p b) n q h in
      omega arith)) (subst (λ z. Member (net_columns Across b n (stub b n) z) w) (sym h) m)))

  behind : (w : Wire Across) → Member (casts ++ (lifts ++ (bits ++ chains))) w → Member (path_columns p stub) w
  behind w m = append_right nets (trunks ++ (casts ++ (lifts ++ (bits ++ chains)))) w
      (append_right trunks (casts ++ (lifts ++ (bits ++ chains))) w m)

  bit_has : (i : ℕ) (g : Programmed) (b : ℕ) (w : Wire Across) → slice_get p.programs i ≡ Some g → suc b ≤ p.width
      → Member (left (place (suc b) g.net) ∷ right (place (suc b) g.net) ∷ []) w → Member (path_columns p stub) w
  bit_has i g b w h lt m = behind w (append_right casts (lifts ++ (bits ++ chains)) w
      (append_right lifts (bits ++ chains) w (append_left bits chains w
      (flat_member (λ i. bit_columns p (slice_get p.programs i)) (range_with_len 0 (length p.programs)) i w
      (range_has 0 (length p.programs) i (omega arith) (let k = slice_get_within p.programs i g h in omega arith))
      (subst (λ q. Member (bit_columns p q) w) (sym h)
      (flat_member (λ b. left (place b g.net) ∷ right (place b g.net) ∷ []) (slices_of p) (suc b) w
      (in_slices p stub (suc b) ((omega arith), lt)) m))))))

  lift_has : (i : ℕ) (l : Lift) (w : Wire Across) → slice_get p.lifts i ≡ Some l
      → Member (lift_columns p i (Some l)) w → Member (path_columns p stub) w
  lift_has i l w h m = behind w (append_right casts (lifts ++ (bits ++ chains)) w (append_left lifts (bits ++ chains) w
      (flat_member (λ i. lift_columns p i (slice_get p.lifts i)) (range_with_len 0 (length p.lifts)) i w
      (range_has 0 (length p.lifts) i (omega arith) (let k = slice_get_within p.lifts i l h in omega arith))
      (subst (λ q. Member (lift_columns p i q) w) (sym h) m))))

  column_left : (s : Spot) → HasColumn p stub s → Member (path_columns p stub) (left s)
  column_left s (by_gate b n ins i h) = net_has b n (Gate ins) (left (place b n)) i h (inl refl)
  column_left s (by_latch b n ph d i h) = net_has b n (Latch ph (Some d)) (left (place b n)) i h (inl refl)
  column_left s (by_bit i g b h lt) = bit_has i g b (left (place (suc b) g.net)) h lt (inl refl)

  column_right : (s : Spot) → HasColumn p stub s → Member (path_columns p stub) (right s)
  column_right s (by_gate b n ins i h) = net_has b n (Gate ins) (right (place b n)) i h (inr (inl refl))
  column_right s (by_latch b n ph d i h) = net_has b n (Latch ph (Some d)) (right (place b n)) i h (inr (inl refl))
  column_right s (by_bit i g b h lt) = bit_has i g b (right (place (suc b) g.net)) h lt (inr (inl refl))

  stub_left : (b n : ℕ) (t : Bool) → t ≡ true → Member {A = Wire Across} (cond t (left (place b n) ∷ []) [])
      (left (place b n))
  stub_left b n true e = inl refl
  stub_left b n false e = absurd (cc e)

  trunk_has : (ph : Phase) → Member (path_columns p stub) (trunk ph)
  trunk_has ph = append_right nets (trunks ++ (casts ++ (lifts ++ (bits ++ chains)))) (trunk ph)
      (append_left trunks (casts ++ (lifts ++ (bits ++ chains))) (trunk ph) (one ph))
    where
      one : (ph : Phase) → Member {A = Wire Across} (trunk A ∷ trunk B ∷ trunk C ∷ []) (trunk ph)
      one A = inl refl
      one B = inr (inl refl)
      one C = inr (inr (inl refl))

  across_has : (x : Across) → InAcross p x → Member (path_columns p stub) (extra x)
  across_has (cast_line i) (c, h) = behind (extra (cast_line i))
      (append_left casts (lifts ++ (bits ++ chains)) (extra (cast_line i))
      (map_member (λ i. extra (cast_line i)) (range_with_len 0 (length p.casts)) i
      (range_has 0 (length p.casts) i (omega arith) (let k = slice_get_within p.casts i c h in omega arith))))
  across_has (lift_line i) (l, h) = lift_has i l (extra (lift_line i)) h (inl refl)
  across_has (lift_stub i b) (l, h, s, apart) = lift_has i l (extra (lift_stub i b)) h
      (inr (map_member (λ b. extra (lift_stub i b)) (others_of p l) b
      (filter_member (λ b. not (b == suc l.slice)) (slices_of p) b (in_slices p stub b s)
      (same_not p stub b (suc l.slice) apart))))
  across_has (chain_line i g) (c, h, lt) = behind (extra (chain_line i g))
      (append_right casts (lifts ++ (bits ++ chains)) (extra (chain_line i g))
      (append_right lifts (bits ++ chains) (extra (chain_line i g))
      (append_right bits chains (extra (chain_line i g))
      (flat_member (λ i. map (λ g. extra (chain_line i g)) (bands_of p)) (range_with_len 0 (length p.chains)) i
      (extra (chain_line i g))
      (range_has 0 (length p.chains) i (omega arith) (let k = slice_get_within p.chains i c h in omega arith))
      (map_member (λ g. extra (chain_line i g)) (bands_of p) g (in_bands p stub g lt))))))

  row_has : (b n : ℕ) → b ≤ p.width → n < length (parts p b) → Member (path_rows p) (row (place b n))
  row_has b n i h = flat_member (λ b. band_rows Across b (parts p b)) (bands_of p) b (row (place b n))
      (in_bands p stub b i)
      (append_left (map (λ n. row (place b n)) (range_with_len 0 (length (parts p b))))
      (beat b A ∷ beat b B ∷ beat b C ∷ []) (row (place b n))
      (map_member (λ n. row (place b n)) (range_with_len 0 (length (parts p b))) n
      (range_has 0 (length (parts p b)) n (omega arith) (omega arith))))

  beat_has : (b : ℕ) (ph : Phase) → b ≤ p.width → Member (path_rows p) (beat b ph)
  beat_has b ph i = flat_member (λ b. band_rows Across b (parts p b)) (bands_of p) b (beat b ph) (in_bands p stub b i)
      (append_right (map (λ n. row (place b n)) (range_with_len 0 (length (parts p b))))
      (beat b A ∷ beat b B ∷ beat b C ∷ []) (beat b ph) (one ph))
    where
      one : (ph : Phase) → Member {A = Wire Across} (beat b A ∷ beat b B ∷ beat b C ∷ []) (beat b ph)
      one A = inl refl
      one B = inr (inl refl)
      one C = inr (inr (inl refl))

  pub path_lists : (w : Wire Across) → InPath p stub w → InLists Across (path_rows p) (path_columns p stub) w
  path_lists (row s) (i, h) = inl (member_contains (path_rows p) (row s) (row_has s.band s.net i h))
  path_lists (beat b ph) i = inl (member_contains (path_rows p) (beat b ph) (beat_has b ph i))
  path_lists (left s) (inl h) = inr (inl (member_contains (path_columns p stub) (left s) (column_left s h)))
  path_lists (left s) (inr (i, h, e)) = inr (inl (member_contains (path_columns p stub) (left s)
      (net_has s.band s.net Input (left s) i h (stub_left s.band s.net (stub s.band s.net) e))))
  path_lists (right s) h = inr (inl (member_contains (path_columns p stub) (right s) (column_right s h)))
  path_lists (trunk ph) h = inr (inl (member_contains (path_columns p stub) (trunk ph) (trunk_has ph)))
  path_lists (extra x) h = inr (inl (member_contains (path_columns p stub) (extra x) (across_has x h)))
  path_lists to_ground h = inr (inr (inl refl))
  path_lists to_power h = inr (inr (inr refl))

  pub lists_path : (w : Wire Across) → InLists Across (path_rows p) (path_columns p stub) w → InPath p stub w
  lists_path w (inl m) = row_in w (contains_member (path_rows p) w m)
  lists_path w (inr (inl m)) = column_in w (contains_member (path_columns p stub) w m)
  lists_path w (inr (inr (inl e))) = subst (InPath p stub) (sym e) tt
  lists_path w (inr (inr (inr e))) = subst (InPath p stub) (sym e) tt
