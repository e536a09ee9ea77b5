-- The lines that join bands stand in a fabric's columns and bands, and apart from those of the slices' nets.
use Rattle.std.proofs.Common.{◌≡◌, ◌⊎◌, inl, inr, ℕ, suc, ◌<◌, ◌≤◌, ◌+◌, Option, Some, None}
use Rattle.std.proofs.Common.{false, List, [], ◌∷◌, ◌++◌, length, map, refl, sym, subst, arith, not}
use Rattle.std.specs.Prelude.{slice_get, flat_map, min, max, ◌==◌}
use Rattle.std.specs.List.{range_with_len}
use Rattle.mp_base.proofs.Members.{Member, member_map, member_filter, range_members, member_append, member_flat}
use Rattle.mp_base.proofs.Entries.{some_entry}
use Rattle.fabric.specs.declared.thing.Side.{Side}
use Rattle.fabric.specs.declared.thing.Side.TheVariants.{L, R}
use Rattle.fabric.specs.declared.thing.Line.{Line}
use Rattle.fabric.specs.Plan.{Plan, IsLine, bands}
use Rattle.nor_net.specs.declared.net.Phase.{Phase}
use Rattle.nor_net.specs.declared.net.Phase.TheVariants.{A, B, C}
use Rattle.array_form.specs.Homes.{home, end_of, phase_number}
use Rattle.array_form.specs.Lists.{upright}
use Rattle.array_form.proofs.Phases.{phase_small}
use Rattle.slice_form.specs.Joints.{trunk_line, lift_lines, bit_lines, joint_lines}
use Rattle.slice_form.specs.Path.{Path, Carry, Lift, Programmed, IsSlice}
use Rattle.slice_form.specs.PathLists.{bands_of, slices_of, others_of}
use Rattle.slice_form.specs.PathWires.{cast_line, lift_stub, chain_line, side_of}
use Rattle.slice_form.specs.Slices.{across_of, base_of, chain_column, lift_column, lift_top, plain_slice}
use Rattle.slice_form.specs.Slices.{slice_columns}
use Rattle.slice_form.proofs.Lists.{slice_in}
use Rattle.slice_laying.specs.Paths.{IsPlaceable}
use Rattle.slice_laying.proofs.SliceColumns.{IsEnd, of_chain, of_program, base_below, end_inside}

-- where a line that joins bands stands: in the columns of phases, casts and lifts, or in that of a joined net
pub record IsJoint (p : Path) (l : Line) : Type 0 where
  pub order : l.first_band ≤ l.last_band
  pub last : l.last_band ≤ p.width
  pub column : (1 ≤ l.column) × (l.column < base_of p)
      ⊎ (n : ℕ) × IsEnd p n × (l.column ≡ home (plain_slice p) n) × (1 ≤ l.first_band)

module _ (p : Path) (ready : IsPlaceable p) where
  -- a line from band a to band z in an early column
  early : (c a z : ℕ) (side : Side) → a ≤ z → z ≤ p.width → 1 ≤ c → c < base_of p → IsJoint p (upright c side a z)
  early c a z side h k lo hi = record { order = h; last = k; column = inl (lo, hi) }

  late : (n a z : ℕ) (side : Side) → IsEnd p n → 1 ≤ a → a ≤ z → z ≤ p.width
      → IsJoint p (upright (home (plain_slice p) n) side a z)
  late n a z side end lo h k = record { order = h; last = k; column = inr (n, end, refl, lo) }

  trunk : (ph : Phase) → IsJoint p (trunk_line p ph)
  trunk ph =
      let f = phase_small ph in
      early (suc (phase_number ph)) 0 p.width L (omega arith) (omega arith) (omega arith) (omega (arith, f))

  of_trunks : (l : Line) → Member (trunk_line p A ∷ trunk_line p B ∷ trunk_line p C ∷ []) l → IsJoint p l
  of_trunks l (inl e) = subst (IsJoint p) e (trunk A)
  of_trunks l (inr (inl e)) = subst (IsJoint p) e (trunk B)
  of_trunks l (inr (inr (inl e))) = subst (IsJoint p) e (trunk C)
  of_trunks l (inr (inr (inr m))) = absurd m

  of_casts : (l : Line) → Member (map (λ i. across_of p (cast_line i)) (range_with_len 0 (length p.casts))) l
      → IsJoint p l
  of_casts l m =
      let w = member_map (λ i. across_of p (cast_line i)) (range_with_len 0 (length p.casts)) l m in
      let r = (range_members 0 (length p.casts) w.0 w.1).1 in
      subst (IsJoint p) w.2
      (early (4 + w.0) 0 p.width L (omega arith) (omega arith) (omega arith) (omega (arith, r)))

  of_lift : (i : ℕ) (q : Option Lift) (l : Line) → slice_get p.lifts i ≡ q → i < length p.lifts
      → Member (lift_lines p i q) l → IsJoint p l
  of_lift i None l h lt m = absurd m
  of_lift i (Some x) l h lt (inl e) =
      let t = ((ready.path).lifts i x h).0 in
      subst (IsJoint p) e
      (subst (λ q. IsJoint p (upright (lift_column p i) L 0 (lift_top q))) (sym h)
      (early (lift_column p i) 0 (suc x.slice) L (omega arith) (omega (arith, t)) (omega arith) (omega (arith, lt))))
  of_lift i (Some x) l h lt (inr m) =
      let w = member_map (λ b. across_of p (lift_stub i b)) (others_of p x) l m in
      let s = slice_in p (λ b n. false) w.0 (member_filter (λ b. not (b == suc x.slice)) (slices_of p) w.0 w.1).0 in
      subst (IsJoint p) w.2
      (early (lift_column p i) w.0 w.0 R (omega arith) s.1 (omega arith) (omega (arith, lt)))

  of_lifts : (l : Line)
      → Member (flat_map (λ i. lift_lines p i (slice_get p.lifts i)) (range_with_len 0 (length p.lifts))) l
      → IsJoint p l
  of_lifts l m =
      let w = member_flat (λ i. lift_lines p i (slice_get p.lifts i)) (range_with_len 0 (length p.lifts)) l m in
      let r = (range_members 0 (length p.lifts) w.0 w.1).1 in
      of_lift w.0 (slice_get p.lifts w.0) l refl (omega (arith, r)) w.2

  of_bit : (i : ℕ) (q : Option Programmed) (l : Line) → slice_get p.programs i ≡ q → Member (bit_lines p q) l
      → IsJoint p l
  of_bit i None l h m = absurd m
  of_bit i (Some g) l h m =
      let w = member_flat (λ b. upright (home (plain_slice p) g.net) L b b ∷ upright
      (home (plain_slice p) g.net) R b b ∷ []) (slices_of p) l m in
      two w.0 (slice_in p (λ b n. false) w.0 w.1) w.2
    where
      two : (b : ℕ) → IsSlice p b → Member (upright (home (plain_slice p) g.net) L b b ∷ upright
          (home (plain_slice p) g.net) R b b ∷ []) l → IsJoint p l
      two b s (inl e) =
          subst (IsJoint p) e (late g.net b b L (of_program i g h refl) s.0 (omega arith) s.1)
      two b s (inr (inl e)) =
          subst (IsJoint p) e (late g.net b b R (of_program i g h refl) s.0 (omega arith) s.1)
      two b s (inr (inr k)) = absurd k

  of_bits : (l : Line)
      → Member (flat_map (λ i. bit_lines p (slice_get p.programs i)) (range_with_len 0 (length p.programs))) l
      → IsJoint p l
  of_bits l m =
      let w = member_flat (λ i. bit_lines p (slice_get p.programs i)) (range_with_len 0 (length p.programs)) l m in
      of_bit w.0 (slice_get p.programs w.0) l refl w.2

  of_chain_lines : (i : ℕ) (c : Carry) (l : Line) → slice_get p.chains i ≡ Some c
      → Member (map (λ g. across_of p (chain_line i g)) (bands_of p)) l → IsJoint p l
  of_chain_lines i c l h m =
      let w = member_map (λ g. across_of p (chain_line i g)) (bands_of p) l m in
      let r = (range_members 0 (suc p.width) w.0 w.1).1 in
      let wide = ((ready.path).chains i c h).2 in
      subst (IsJoint p) w.2
      (subst (λ q. IsJoint p (upright (chain_column p q) (side_of w.0) (max 1 w.0) (min (suc w.0) p.width))) (sym h)
      (late c.to (max 1 w.0) (min (suc w.0) p.width) (side_of w.0) (of_chain i c h refl) (omega arith)
      (ordered w.0 p.width (omega (arith, r)) wide) (omega arith)))
    where
      ordered : (g w : ℕ) → g ≤ w → 1 ≤ w → max 1 g ≤ min (suc g) w
      ordered g w h k = omega (arith, h, k)

  of_chains : (l : Line) → Member (flat_map (λ i. map (λ g. across_of p (chain_line i g)) (bands_of p))
      (range_with_len 0 (length p.chains))) l → IsJoint p l
  of_chains l m =
      let w = member_flat (λ i. map (λ g. across_of p (chain_line i g)) (bands_of p))
      (range_with_len 0 (length p.chains)) l m in
      let r = (range_members 0 (length p.chains) w.0 w.1).1 in
      let e = some_entry p.chains w.0 (omega (arith, r)) in
      of_chain_lines w.0 e.0 l e.1 w.2

  abbrev trunks : List Line
  trunks = trunk_line p A ∷ trunk_line p B ∷ trunk_line p C ∷ []

  abbrev casts : List Line
  casts = map (λ i. across_of p (cast_line i)) (range_with_len 0 (length p.casts))

  abbrev lifts : List Line
  lifts = flat_map (λ i. lift_lines p i (slice_get p.lifts i)) (range_with_len 0 (length p.lifts))

  abbrev bits : List Line
  bits = flat_map (λ i. bit_lines p (slice_get p.programs i)) (range_with_len 0 (length p.programs))

  abbrev chains : List Line
  chains = flat_map (λ i. map (λ g. across_of p (chain_line i g)) (bands_of p)) (range_with_len 0 (length p.chains))

  pub joint_is : (l : Line) → Member (joint_lines p) l → IsJoint p l
  joint_is l m = elim (member_append trunks (casts ++ (lifts ++ (bits ++ chains))) l m) [
    | inl k ↦ of_trunks l k
    | inr k ↦ elim (member_append casts (lifts ++ (bits ++ chains)) l k) [
      | inl q ↦ of_casts l q
      | inr q ↦ elim (member_append lifts (bits ++ chains) l q) [
        | inl s ↦ of_lifts l s
        | inr s ↦ elim (member_append bits chains l s) [ inl t ↦ of_bits l t | inr t ↦ of_chains l t ]
      ]
    ]
  ]

  -- such a line is one of a fabric that is wide and high enough
  pub joint_fits : (f : Plan) → p.width < bands f → end_of (slice_columns p) p.slice < f.columns → (l : Line)
      → IsJoint p l → IsLine f l
  joint_fits f high wide l j = elim j.column [
    | inl e ↦ (let b = base_below p ready in let u = e.0 in let v = e.1 in let o = j.order in let t = j.last in
        record { column = u; right = omega (arith, v, b, wide); order = o; last = omega (arith, t, high) })
    | inr w ↦ (let i = end_inside p ready w.0 w.1 in let u = i.0 in let v = i.1 in let e = w.2 in
        let o = j.order in let t = j.last in
        record {
          column = omega (arith, u, e);
          right = omega (arith, v, e, wide);
          order = o;
          last = omega (arith, t, high);
        })
  ]
