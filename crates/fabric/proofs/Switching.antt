-- The numbers that joined pairs give are those of the nets that taps join.
use Rattle.std.proofs.Common.{ℕ, suc, ◌≡◌, ◌+◌, ◌-◌, ◌++◌, take, ◌<◌, ◌⊎◌, inl, inr, refl, sym, ◌∙◌, ap, subst, subst₂}
use Rattle.std.proofs.Common.{arith, Bool, true, false, cond, ◌&&◌, eqb, List, [], ◌∷◌, length, get_or, Contains}
use Rattle.std.specs.Prelude.{Option, Some, IfSome, ◌↔◌, filter, All, AllPairs}
use Rattle.std.specs.List.{AllZip}
use Rattle.std.proofs.lemmas.Bool.{cases_lt, cases_order, and_parts, eqb-true, eq-eqb, and_from}
use Rattle.std.proofs.lemmas.List.{get_or_default, append-nil}
use Rattle.std.proofs.lemmas.List.Elements.{filter_more}
use Rattle.mp_base.proofs.Zips.{zip_at, zip_length, zip_push}
use Rattle.mp_base.proofs.Members.{Member, member_contains, contains_member, filter_member, member_filter}
use Rattle.switch_net.specs.declared.network.ChannelKind.TheVariants.{Enhancement, Depletion}
use Rattle.switch_net.specs.declared.network.Channel.{Channel}
use Rattle.switch_net.specs.declared.network.Tag.{Tag}
use Rattle.switch_net.specs.declared.network.Network.{Network}
use Rattle.switch_net.specs.OneNode.{AreAmong, OneNodeEach}
use Rattle.lam_geom.specs.Chains.{Chain}
use Rattle.union_find.specs.declared.pair.Pair.{Pair}
use Rattle.union_find.specs.Leasts.{Paired, AreLeasts}
use Rattle.tile_cells.specs.declared.tile.Tile.{Tile}
use Rattle.tile_cells.specs.declared.tile.Tile.TheVariants.{TapL, TapR, Tran, PullUp, Under}
use Rattle.fabric.specs.declared.thing.Side.{Side}
use Rattle.fabric.specs.declared.thing.Side.TheVariants.{L, R}
use Rattle.fabric.specs.declared.thing.Segment.{Segment}
use Rattle.fabric.specs.declared.thing.Line.{Line}
use Rattle.fabric.specs.declared.thing.Mark.{Mark}
use Rattle.fabric.specs.Plan.{Plan, Passes, IsFabric, SegmentsApart, LinesApart}
use Rattle.fabric.specs.Switches.{Net, IsNet, LineOf, SegmentOf, IsTapped, AreChannels, IsTapOn, Taps, Tapped}
use Rattle.fabric.specs.Switches.{AreNumbers, HasGate, HasEnd}
use Rattle.fabric.specs.Switches.{IsSwitch, AreSwitches, is_switch}
use Rattle.fabric.specs.Switches.Net.{segment, line, ground, power}
use Rattle.fabric.specs.Switches.Tapped.{up, down}
use Rattle.fabric.specs.Numbers.{place_of, same_segment, side_number, same_line, index, number_of, net_count}
use Rattle.fabric.specs.declared.numbers.Classes.{Classes}
use Rattle.fabric.specs.Numbers.{IsNumbered, is_tap, IsTapPair, AreClassNumbers, AreNetNumbers, IsUntagged}
use Rattle.fabric.specs.Numbers.IsNumbered.{a_segment, a_line, the_ground, the_power}
use Rattle.fabric.proofs.Lying.{segment_lies, line_lies}
use Rattle.fabric.proofs.Apart.{one_segment, one_line}
use Rattle.lam_geom.proofs.Chains.{join_chains, one_link, turn_chain}
use Rattle.lam_geom.proofs.Following.{follow}

-- ---- the place of a value in a list

place_is : {A : Type 0} (eq : A → A → Bool) → ((x : A) → eq x x ≡ true) → ((x y : A) → eq x y ≡ true → x ≡ y)
    → (a : A) (xs : List A) → Member xs a
    → (place_of eq a xs < length xs) × (get_or xs (place_of eq a xs) a ≡ a)
unfolding place_of
place_is eq same is a [] m = absurd m
place_is eq same is a (x ∷ xs) m = by_test (eq x a) refl m (place_is eq same is a xs)
  where
    by_test : (z : Bool) → eq x a ≡ z → Member (x ∷ xs) a
        → (Member xs a → (place_of eq a xs < length xs) × (get_or xs (place_of eq a xs) a ≡ a))
        → (cond z 0 (suc (place_of eq a xs)) < suc (length xs))
        × (get_or (x ∷ xs) (cond z 0 (suc (place_of eq a xs))) a ≡ a)
    by_test true e m again = (omega arith, is x a e)
    by_test false e (inl g) again = let h : true ≡ false = sym (same a) ∙ ap (λ z. eq z a) (sym g) ∙ e in
        absurd (cc (h))
    by_test false e (inr m) again = let w = again m in let w0 = w.0 in (omega arith, w.1)

segment_same : (s : Segment) → same_segment s s ≡ true
unfolding same_segment
segment_same s = and_from _ _ (eq-eqb s.band s.band refl)
    (and_from _ _ (eq-eqb s.row s.row refl) (and_from _ _ (eq-eqb s.first s.first refl) (eq-eqb s.last s.last refl)))

segment_is : (s t : Segment) → same_segment s t ≡ true → s ≡ t
unfolding same_segment
segment_is s t h =
    let a = and_parts (eqb s.band t.band) (eqb s.row t.row && (eqb s.first t.first && eqb s.last t.last)) h in
    let b = and_parts (eqb s.row t.row) (eqb s.first t.first && eqb s.last t.last) a.1 in
    let c = and_parts (eqb s.first t.first) (eqb s.last t.last) b.1 in
    let e0 = eqb-true s.band t.band a.0 in let e1 = eqb-true s.row t.row b.0 in let e2 = eqb-true s.first t.first c.0 in
    let e3 = eqb-true s.last t.last c.1 in
    λ i. record { band = e0 i; row = e1 i; first = e2 i; last = e3 i }

one_side : (a b : Side) → eqb (side_number a) (side_number b) ≡ true → a ≡ b
one_side L L h = refl
one_side R R h = refl
one_side L R h = absurd (cc)
one_side R L h = absurd (cc)

line_same : (s : Line) → same_line s s ≡ true
unfolding same_line
line_same s = and_from _ _ (eq-eqb s.column s.column refl)
    (and_from _ _ (eq-eqb (side_number s.side) (side_number s.side) refl)
    (and_from _ _ (eq-eqb s.first_band s.first_band refl) (eq-eqb s.last_band s.last_band refl)))

line_is : (s t : Line) → same_line s t ≡ true → s ≡ t
unfolding same_line
line_is s t h =
    let a = and_parts (eqb s.column t.column) (eqb (side_number s.side) (side_number t.side)
    && (eqb s.first_band t.first_band && eqb s.last_band t.last_band)) h in
    let b = and_parts (eqb (side_number s.side) (side_number t.side))
    (eqb s.first_band t.first_band && eqb s.last_band t.last_band) a.1 in
    let c = and_parts (eqb s.first_band t.first_band) (eqb s.last_band t.last_band) b.1 in
    let e0 = eqb-true s.column t.column a.0 in let e1 = one_side s.side t.side b.0 in
    let e2 = eqb-true s.first_band t.first_band c.0 in let e3 = eqb-true s.last_band t.last_band c.1 in
    λ i. record { column = e0 i; side = e1 i; first_band = e2 i; last_band = e3 i }

pub index_is : (f : Plan) (n : Net) → IsNet f n → IsNumbered f (index f n) n
unfolding index
index_is f (segment s) h = let p = place_is same_segment segment_same segment_is s f.segments
    (contains_member f.segments s h) in a_segment s p.0 p.1 refl
index_is f (line l) h = let p = place_is same_line line_same line_is l f.lines (contains_member f.lines l h) in
    a_line (place_of same_line l f.lines) l p.0 p.1 refl refl
index_is f ground h = the_ground refl refl
index_is f power h = the_power refl refl

numbered_net : (f : Plan) (k : ℕ) (n : Net) → IsNumbered f k n → IsNet f n
numbered_net f k n (a_segment s h e q) = subst (IsNet f) (sym q) (k, h, e)
numbered_net f k n (a_line i l h e g q) = subst (IsNet f) (sym q) (i, h, e)
numbered_net f k n (the_ground e q) = subst (IsNet f) (sym q) tt
numbered_net f k n (the_power e q) = subst (IsNet f) (sym q) tt

numbered_below : (f : Plan) (k : ℕ) (n : Net) → IsNumbered f k n → k < net_count f
numbered_below f k n (a_segment s h e q) = omega arith
numbered_below f k n (a_line i l h e g q) = omega arith
numbered_below f k n (the_ground e q) = omega arith
numbered_below f k n (the_power e q) = omega arith

-- a number has one net
one_net : (f : Plan) (k : ℕ) (n m : Net) → IsNumbered f k n → IsNumbered f k m → n ≡ m
one_net f k n m (a_segment s h e q) (a_segment t g d r) = q ∙ ap segment (sym e ∙ get_or_default f.segments k s t h ∙ d)
    ∙ sym r
one_net f k n m (a_line i l h e c q) (a_line j o g d b r) =
    let same : i ≡ j = omega arith in
    q ∙ ap line (sym e ∙ ap (λ z. get_or f.lines z l) same ∙ get_or_default f.lines j l o g ∙ d) ∙ sym r
one_net f k n m (the_ground e q) (the_ground d r) = q ∙ sym r
one_net f k n m (the_power e q) (the_power d r) = q ∙ sym r
one_net f k n m (a_segment s h e q) (a_line j o g d b r) = absurd (omega arith)
one_net f k n m (a_segment s h e q) (the_ground d r) = absurd (omega arith)
one_net f k n m (a_segment s h e q) (the_power d r) = absurd (omega arith)
one_net f k n m (a_line i l h e c q) (a_segment t g d r) = absurd (omega arith)
one_net f k n m (a_line i l h e c q) (the_ground d r) = absurd (omega arith)
one_net f k n m (a_line i l h e c q) (the_power d r) = absurd (omega arith)
one_net f k n m (the_ground e q) (a_segment t g d r) = absurd (omega arith)
one_net f k n m (the_ground e q) (a_line j o g d b r) = absurd (omega arith)
one_net f k n m (the_ground e q) (the_power d r) = absurd (omega arith)
one_net f k n m (the_power e q) (a_segment t g d r) = absurd (omega arith)
one_net f k n m (the_power e q) (a_line j o g d b r) = absurd (omega arith)
one_net f k n m (the_power e q) (the_ground d r) = absurd (omega arith)

some_net : (f : Plan) (k : ℕ) → k < net_count f → (n : Net) × IsNumbered f k n
some_net f k h = elim (cases_lt k (length f.segments)) [
  | inl l ↦ (let s : Segment = get_or f.segments k (record { band = 0; row = 0; first = 0; last = 0 }) in
      (segment s, a_segment s l (get_or_default f.segments k s _ l) refl))
  | inr l ↦ elim (cases_lt k (length f.segments + length f.lines)) [
    | inl g ↦ (let i : ℕ = k - length f.segments in let o : Line = get_or f.lines i
        (record { column = 0; side = L; first_band = 0; last_band = 0 }) in
        (line o, a_line i o (omega arith) (get_or_default f.lines i o _ (omega arith)) (omega arith) refl))
    | inr g ↦ elim (cases_lt k (length f.segments + length f.lines + 1))
        [ inl m ↦ (ground, the_ground (omega arith) refl) | inr m ↦ (power, the_power (omega arith) refl) ]
  ]
]

module _ (f : Plan) (w : IsFabric f) where
  segment_at_one : (j k : ℕ) (s : Segment) → j < length f.segments → k < length f.segments → get_or f.segments j s ≡ s
      → get_or f.segments k s ≡ s → j ≡ k
  segment_at_one j k s h g e d = elim (cases_order j k) [
    | inl q ↦ q
    | inr (inl q) ↦ absurd (never (subst₂ SegmentsApart e d (w.segments_apart j k s q g)))
    | inr (inr q) ↦ absurd (never (subst₂ SegmentsApart d e (w.segments_apart k j s q h)))
  ]
    where
      never : SegmentsApart s s → ⊥
      never a = let i = (segment_lies f w s (j, h, e)).order in let z = a refl refl in omega arith

  line_at_one : (j k : ℕ) (l : Line) → j < length f.lines → k < length f.lines → get_or f.lines j l ≡ l
      → get_or f.lines k l ≡ l → j ≡ k
  line_at_one j k l h g e d = elim (cases_order j k) [
    | inl q ↦ q
    | inr (inl q) ↦ absurd (never (subst₂ LinesApart e d (w.lines_apart j k l q g)))
    | inr (inr q) ↦ absurd (never (subst₂ LinesApart d e (w.lines_apart k j l q h)))
  ]
    where
      never : LinesApart l l → ⊥
      never a = let i = (line_lies f w l (j, h, e)).order in let z = a refl refl in omega arith

  value_of : Net → Segment → Segment
  value_of n d = elim n [ segment s ↦ s | line l ↦ d | ground ↦ d | power ↦ d ]

  line_value : Net → Line → Line
  line_value n d = elim n [ segment s ↦ d | line l ↦ l | ground ↦ d | power ↦ d ]

  -- a net has one number
  one_number : (j k : ℕ) (n : Net) → IsNumbered f j n → IsNumbered f k n → j ≡ k
  unfolding value_of line_value
  one_number j k n (a_segment s h e q) (a_segment t g d r) =
      let same : t ≡ s = ap (λ z. value_of z s) (sym r ∙ q) in
      segment_at_one j k s h g e (subst (λ z. get_or f.segments k z ≡ z) same d)
  one_number j k n (a_line i l h e c q) (a_line i2 o g d b r) =
      let same : o ≡ l = ap (λ z. line_value z l) (sym r ∙ q) in
      let p = line_at_one i i2 l h g e (subst (λ z. get_or f.lines i2 z ≡ z) same d) in
      omega arith
  one_number j k n (the_ground e q) (the_ground d r) = e ∙ sym d
  one_number j k n (the_power e q) (the_power d r) = e ∙ sym d
  one_number j k n (a_segment s h e q) (a_line i o g d b r) = let z : segment s ≡ line o = sym q ∙ r in absurd (cc (z))
  one_number j k n (a_segment s h e q) (the_ground d r) = let z : segment s ≡ ground = sym q ∙ r in absurd (cc (z))
  one_number j k n (a_segment s h e q) (the_power d r) = let z : segment s ≡ power = sym q ∙ r in absurd (cc (z))
  one_number j k n (a_line i l h e c q) (a_segment t g d r) = let z : line l ≡ segment t = sym q ∙ r in absurd (cc (z))
  one_number j k n (a_line i l h e c q) (the_ground d r) = let z : line l ≡ ground = sym q ∙ r in absurd (cc (z))
  one_number j k n (a_line i l h e c q) (the_power d r) = let z : line l ≡ power = sym q ∙ r in absurd (cc (z))
  one_number j k n (the_ground e q) (a_segment t g d r) = let z : ground ≡ segment t = sym q ∙ r in absurd (cc (z))
  one_number j k n (the_ground e q) (a_line i o g d b r) = let z : ground ≡ line o = sym q ∙ r in absurd (cc (z))
  one_number j k n (the_ground e q) (the_power d r) = let z : ground ≡ power = sym q ∙ r in absurd (cc (z))
  one_number j k n (the_power e q) (a_segment t g d r) = let z : power ≡ segment t = sym q ∙ r in absurd (cc (z))
  one_number j k n (the_power e q) (a_line i o g d b r) = let z : power ≡ line o = sym q ∙ r in absurd (cc (z))
  one_number j k n (the_power e q) (the_ground d r) = let z : power ≡ ground = sym q ∙ r in absurd (cc (z))

  -- ---- pairs and taps
  module _ (pairs : List Pair) (z : AllZip (IsTapPair f) (filter is_tap f.marks) pairs) where
    some_pair : Pair
    some_pair = record { a = 0; b = 0 }

    some_mark : Mark
    some_mark = record { tile = TapL; band = 0; row = 0; column = 0 }

    -- the mark of a pair
    pair_mark : (p : Pair) → Contains pairs p → (m : Mark) × Contains f.marks m × IsTapPair f m p
    pair_mark p (i, h, e) =
        let g : i < length (filter is_tap f.marks) = subst (λ y. i < y)
        (sym (zip_length (IsTapPair f) (filter is_tap f.marks) pairs z)) h in
        let t = zip_at (IsTapPair f) (filter is_tap f.marks) pairs z i some_mark p g in
        let m : Mark = get_or (filter is_tap f.marks) i some_mark in
        let k = member_filter is_tap f.marks m (contains_member (filter is_tap f.marks) m
        (i, g, get_or_default (filter is_tap f.marks) i m some_mark g)) in
        (m, member_contains f.marks m k.0, subst (IsTapPair f m) e t)

    pair_taps : (m : Mark) (p : Pair) → Contains f.marks m → (t : IsTapPair f m p) → Taps f t.the_line t.other
    pair_taps m p h t = record {
      mark = m;
      among = h;
      side = t.side;
      tile = t.tile;
      the_line = t.is_line;
      other = t.is_other;
    }

    tap_is : (m : Mark) (s : Side) → IsTapOn s m.tile → is_tap m ≡ true
    tap_is m L e = ap (λ y. is_tap (record m { tile = y })) e
    tap_is m R e = ap (λ y. is_tap (record m { tile = y })) e

    -- the pair of a mark
    mark_pair : (m : Mark) → Contains f.marks m → is_tap m ≡ true → (p : Pair) × Contains pairs p × IsTapPair f m p
    mark_pair m h e =
        let c = member_contains (filter is_tap f.marks) m
        (filter_member is_tap f.marks m (contains_member f.marks m h) e) in
        let t = zip_at (IsTapPair f) (filter is_tap f.marks) pairs z c.0 m some_pair c.1 in
        let g : c.0 < length pairs = subst (λ y. c.0 < y) (zip_length (IsTapPair f) (filter is_tap f.marks) pairs z)
        c.1 in
        let p : Pair = get_or pairs c.0 some_pair in
        (p, (c.0, g, get_or_default pairs c.0 p some_pair g), subst (λ y. IsTapPair f y p) c.2 t)

    tap_side : (s r : Side) (t : Tile) → IsTapOn s t → IsTapOn r t → s ≡ r
    tap_side L L t e g = refl
    tap_side R R t e g = refl
    tap_side L R t e g = let y : TapL ≡ TapR = sym e ∙ g in absurd (cc (y))
    tap_side R L t e g = let y : TapL ≡ TapR = sym g ∙ e in absurd (cc (y))

    same_lines : (m : Mark) (s r : Side) (n k : Net) → s ≡ r → LineOf f m s n → LineOf f m r k → n ≡ k
    same_lines m s r n k e a b = a.is ∙ ap line (one_line f w r m.band m.column a.the_line b.the_line a.among b.among
        (subst (λ y. Passes a.the_line y m.band m.column) e a.passes) b.passes) ∙ sym b.is

    same_others : (m : Mark) (n k : Net) → IsTapped f m n
        → IsTapped f m k → n ≡ k
    same_others m n k (inl a) (inl b) = a.1 ∙ sym b.1
    same_others m n k (inl a) (inr b) = let i = (segment_lies f w b.the_segment b.among).row in let q = b.crosses.row in
        let r = a.0 in absurd (omega arith)
    same_others m n k (inr b) (inl a) = let i = (segment_lies f w b.the_segment b.among).row in let q = b.crosses.row in
        let r = a.0 in absurd (omega arith)
    same_others m n k (inr a) (inr b) =
        let a0 = a.crosses.first in let a1 = a.crosses.last in let b0 = b.crosses.first in let b1 = b.crosses.last in
        a.is ∙ ap segment (one_segment f w a.the_segment b.the_segment a.among b.among
        (a.crosses.band ∙ sym b.crosses.band) (a.crosses.row ∙ sym b.crosses.row) (omega arith) (omega arith))
        ∙ sym b.is

    -- each pair leads where taps do
    pair_step : (i j : ℕ) (n : Net) → Paired pairs i j → IsNumbered f i n
        → (m : Net) × IsNumbered f j m × Chain (Tapped f) n m
    pair_step i j n p h =
        let k = pair_mark p.pair p.among in
        let t = k.2 in
        let tap = pair_taps k.0 p.pair k.1 t in
        elim p.ends [
          | inl e ↦ (let q : n ≡ t.the_line = one_net f i n t.the_line h
              (subst (λ y. IsNumbered f y t.the_line) e.0 t.a) in (
                t.other,
                subst (λ y. IsNumbered f y t.other) e.1 t.b,
                subst (λ y. Chain (Tapped f) y t.other) (sym q)
                    (one_link (up tap)),
              ))
          | inr e ↦ (let q : n ≡ t.other = one_net f i n t.other h (subst (λ y. IsNumbered f y t.other) e.1 t.b) in (
            t.the_line,
            subst (λ y. IsNumbered f y t.the_line) e.0 t.a,
            subst (λ y. Chain (Tapped f) y t.the_line)
                (sym q) (one_link (down tap)),
          ))
        ]

    -- each tap is a pair
    tap_pair : (n m : Net) (i j : ℕ) → Taps f n m → IsNumbered f i n → IsNumbered f j m
        → (p : Pair) × Contains pairs p × (p.a ≡ i) × (p.b ≡ j)
    tap_pair n m i j t hi hj =
        let k = mark_pair t.mark t.among (tap_is t.mark t.side t.tile) in
        let q = k.2 in
        let e : q.the_line ≡ n = same_lines t.mark q.side t.side q.the_line n
        (tap_side q.side t.side t.mark.tile q.tile t.tile) q.is_line t.the_line in
        let d : q.other ≡ m = same_others t.mark q.other m q.is_other t.other in (
          k.0,
          k.1,
          one_number k.0.a i n (subst (IsNumbered f k.0.a) e q.a) hi,
          one_number k.0.b j m (subst (IsNumbered f k.0.b) d q.b) hj,
        )

    tap_step : (n m : Net) (i : ℕ) → Tapped f n m → IsNumbered f i n → (j : ℕ) × IsNumbered f j m
        × Chain (Paired pairs) i j
    tap_step n m i (up t) h =
        let j = index_of_net m (tapped_net n m (up t)) in
        let p = tap_pair n m i j.0 t h j.1 in
        (j.0, j.1, one_link (record { pair = p.0; among = p.1; ends = inl (p.2, p.3) }))
      where
        index_of_net : (m : Net) → IsNet f m → (j : ℕ) × IsNumbered f j m
        index_of_net m h = (index f m, index_is f m h)

        tapped_net : (n m : Net) → Tapped f n m → IsNet f m
        tapped_net n m (up t) = elim t.other [
          | inl e ↦ subst (IsNet f) (sym e.1) tt
          | inr s ↦ subst (IsNet f) (sym s.is) s.among
        ]
        tapped_net n m (down t) = subst (IsNet f) (sym t.the_line.is) t.the_line.among
    tap_step n m i (down t) h =
        let g : IsNet f m = subst (IsNet f) (sym t.the_line.is) t.the_line.among in
        let p = tap_pair m n (index f m) i t (index_is f m g) h in
        (index f m, index_is f m g, one_link (record { pair = p.0; among = p.1; ends = inr (p.2, p.3) }))

    pairs_there : (i j : ℕ) (n m : Net) → IsNumbered f i n → IsNumbered f j m → Chain (Paired pairs) i j
        → Chain (Tapped f) n m
    pairs_there i j n m hi hj c =
        let a = follow (λ (n : Net) (i : ℕ). IsNumbered f i n) (λ s t o p h. pair_step s t o p h) c n hi in
        subst (Chain (Tapped f) n) (one_net f j a.0 m a.1 hj) a.2

    pairs_back : (i j : ℕ) (n m : Net) → IsNumbered f i n → IsNumbered f j m → Chain (Tapped f) n m
        → Chain (Paired pairs) i j
    pairs_back i j n m hi hj c =
        let a = follow (λ (i : ℕ) (n : Net). IsNumbered f i n) (λ s t o p h. tap_step s t o p h) c i hi in
        subst (Chain (Paired pairs) i) (one_number a.0 j m a.1 hj) a.2

    pair_flip : (i j : ℕ) → Paired pairs i j → Paired pairs j i
    pair_flip i j p = record { pair = p.pair; among = p.among; ends = elim p.ends [ inl e ↦ inr e | inr e ↦ inl e ] }

    -- The numbers of the classes of joined pairs number the nets that taps join.
    pub are_numbers : (least numbers : List ℕ) (count : ℕ) → AreLeasts (net_count f) pairs least
        → AreClassNumbers least numbers count → AreNumbers f count (number_of f numbers)
    unfolding number_of
    are_numbers least numbers count l c = record {
      below = λ n h. c.below (index f n) (inside n h);
      onto = λ k h. (let j = c.onto k h in
          let n = some_net f j.0 (subst (λ y. j.0 < y) l.as_many j.1) in
          let g = numbered_net f j.0 n.0 n.1 in
          (n.0, g, ap (λ y. get_or numbers y 0) (one_number (index f n.0) j.0 n.0 (index_is f n.0 g) n.1) ∙ j.2));
      same = λ n m hn hm. (
        λ e. (let q = (c.same (index f n) (index f m) (inside n hn) (inside m hm)).0 e in
            pairs_there (index f n) (index f m) n m (index_is f n hn) (index_is f m hm)
            (join_chains (l.home (index f n) (below n hn))
            (subst (λ y. Chain (Paired pairs) y (index f m)) (sym q)
            (turn_chain pair_flip (l.home (index f m) (below m hm)))))),
        λ d. (c.same (index f n) (index f m) (inside n hn) (inside m hm)).1
            (l.one (index f n) (index f m) (pairs_back (index f n) (index f m) n m (index_is f n hn)
            (index_is f m hm) d)),
      );
    }
      where
        below : (n : Net) → IsNet f n → index f n < net_count f
        below n h = numbered_below f (index f n) n (index_is f n h)

        inside : (n : Net) → IsNet f n → index f n < length least
        inside n h = subst (λ y. index f n < y) (sym l.as_many) (below n h)

pub segment_tapped : (f : Plan) (m : Mark) (k : ℕ) → (n : Net) × SegmentOf f m n × IsNumbered f k n
    → (n : Net) × IsTapped f m n × IsNumbered f k n
segment_tapped f m k h = (h.0, inr h.1, h.2)

pub tap_made : (f : Plan) (m : Mark) (s : Side) (a b : ℕ) → IsTapOn s m.tile
    → (n : Net) × LineOf f m s n × IsNumbered f a n → (n : Net) × IsTapped f m n
    × IsNumbered f b n
    → IsTapPair f m (record { a = a; b = b })
tap_made f m s a b e h k = record {
  side = s;
  tile = e;
  the_line = h.0;
  other = k.0;
  a = h.2;
  b = k.2;
  is_line = h.1;
  is_other = k.1;
}

module _ (f : Plan) (w : IsFabric f) (numbers : List ℕ) (m : Mark) where
  -- the entry at a number is that of its net
  entry : (k : ℕ) (n : Net) → IsNumbered f k n → number_of f numbers n ≡ get_or numbers k 0
  unfolding number_of
  entry k n h = ap (λ z. get_or numbers z 0) (one_number f w (index f n) k n (index_is f n (numbered_net f k n h)) h)

  same_line_of : (s : Side) (n k : Net) → LineOf f m s n → LineOf f m s k → n ≡ k
  same_line_of s n k a b = a.is ∙ ap line
      (one_line f w s m.band m.column a.the_line b.the_line a.among b.among a.passes b.passes) ∙ sym b.is

  pub transistor_is : (g l r : ℕ) → m.tile ≡ Tran → (n : Net) × SegmentOf f m n × IsNumbered f g n
      → (n : Net) × LineOf f m L n × IsNumbered f l n → (n : Net) × LineOf f m R n × IsNumbered f r n → (c : Channel)
      → c.gate ≡ get_or numbers g 0 → c.kind ≡ Enhancement → AllPairs (λ j k. j < k) c.ends
      → ((x : ℕ) → Contains c.ends x ↔ ((x ≡ get_or numbers l 0) ⊎ (x ≡ get_or numbers r 0)))
      → IsSwitch f (number_of f numbers) m c
  transistor_is g l r e hg hl hr c eg ek up_ all = record {
    gate = (hg.0, inl (e, hg.1), eg ∙ sym (entry g hg.0 hg.2));
    ascending = up_;
    ends = λ x. (
      λ h. elim ((all x).0 h) [
        | inl q ↦ (hl.0, inl (e, inl hl.1), entry l hl.0 hl.2 ∙ sym q)
        | inr q ↦ (hr.0, inl (e, inr hr.1), entry r hr.0 hr.2 ∙ sym q)
      ],
      λ h. (all x).1 (back_ x h.0 h.1 h.2),
    );
    kind = inl (e, ek);
  }
    where
      back_ : (x : ℕ) (n : Net) → HasEnd f m n → number_of f numbers n ≡ x
          → (x ≡ get_or numbers l 0) ⊎ (x ≡ get_or numbers r 0)
      back_ x n (inl (q, inl a)) h = inl (sym h ∙ ap (number_of f numbers) (same_line_of L n hl.0 a hl.1)
          ∙ entry l hl.0 hl.2)
      back_ x n (inl (q, inr a)) h = inr (sym h ∙ ap (number_of f numbers) (same_line_of R n hr.0 a hr.1)
          ∙ entry r hr.0 hr.2)
      back_ x n (inr (q, a)) h = let z : Tran ≡ PullUp = sym e ∙ q in absurd (cc (z))

  pub pull_up_is : (l r : ℕ) → m.tile ≡ PullUp → (n : Net) × LineOf f m L n × IsNumbered f l n → IsNumbered f r power
      → (c : Channel)
      → c.gate ≡ get_or numbers l 0 → c.kind ≡ Depletion → AllPairs (λ j k. j < k) c.ends
      → ((x : ℕ) → Contains c.ends x ↔ ((x ≡ get_or numbers l 0) ⊎ (x ≡ get_or numbers r 0)))
      → IsSwitch f (number_of f numbers) m c
  pull_up_is l r e hl hr c eg ek up_ all = record {
    gate = (hl.0, inr (e, hl.1), eg ∙ sym (entry l hl.0 hl.2));
    ascending = up_;
    ends = λ x. (
      λ h. elim ((all x).0 h) [
        | inl q ↦ (hl.0, inr (e, inl hl.1), entry l hl.0 hl.2 ∙ sym q)
        | inr q ↦ (power, inr (e, inr refl), entry r power hr ∙ sym q)
      ],
      λ h. (all x).1 (back_ x h.0 h.1 h.2),
    );
    kind = inr (e, ek);
  }
    where
      back_ : (x : ℕ) (n : Net) → HasEnd f m n → number_of f numbers n ≡ x
          → (x ≡ get_or numbers l 0) ⊎ (x ≡ get_or numbers r 0)
      back_ x n (inr (q, inl a)) h = inl (sym h ∙ ap (number_of f numbers) (same_line_of L n hl.0 a hl.1)
          ∙ entry l hl.0 hl.2)
      back_ x n (inr (q, inr a)) h = inr (sym h ∙ ap (number_of f numbers) a ∙ entry r power hr)
      back_ x n (inl (q, a)) h = let z : Tran ≡ PullUp = sym q ∙ e in absurd (cc (z))

-- ---- lists made mark by mark
-- one more passes the test, and one more is made
pub more_made : {B : Type 0} (Q : Mark → B → Type 0) (p : Mark → Bool) (ms : List Mark) (i : ℕ) (d : Mark)
    (ys new : List B) (y : B) → i < length ms → AllZip Q (filter p (take i ms)) ys → p (get_or ms i d) ≡ true
    → Q (get_or ms i d) y → new ≡ ys ++ y ∷ []
    → AllZip Q (filter p (take (i + 1) ms)) new
more_made Q p ms i d ys new y h z e r g =
    let u = filter_more p ms i d h ∙ ap (λ b. filter p (take i ms) ++ cond b (get_or ms i d ∷ []) []) e in
    subst₂ (AllZip Q) (sym u) (sym g) (zip_push Q (filter p (take i ms)) ys (get_or ms i d) y z r)

-- one more does not pass
pub none_made : {B : Type 0} (Q : Mark → B → Type 0) (p : Mark → Bool) (ms : List Mark) (i : ℕ) (d : Mark) (ys : List B)
    → i < length ms → AllZip Q (filter p (take i ms)) ys → p (get_or ms i d) ≡ false
    → AllZip Q (filter p (take (i + 1) ms)) ys
none_made Q p ms i d ys h z e =
    let u = filter_more p ms i d h ∙ ap (λ b. filter p (take i ms) ++ cond b (get_or ms i d ∷ []) []) e
    ∙ append-nil (filter p (take i ms)) in
    subst (λ y. AllZip Q y ys) (sym u) z

pub tap_tile : (f : Plan) (m : Mark) (p : Pair) → IsTapPair f m p → is_tap m ≡ true
tap_tile f m p t = by_side t.side t.tile
  where
    by_side : (s : Side) → IsTapOn s m.tile → is_tap m ≡ true
    by_side L e = ap (λ y. is_tap (record m { tile = y })) e
    by_side R e = ap (λ y. is_tap (record m { tile = y })) e

pub switch_tile : (f : Plan) (number : Net → ℕ) (m : Mark) (c : Channel) → IsSwitch f number m c → is_switch m ≡ true
switch_tile f number m c s = elim s.kind [
  | inl e ↦ ap (λ y. is_switch (record m { tile = y })) e.0
  | inr e ↦ ap (λ y. is_switch (record m { tile = y })) e.0
]

pub no_switch : (m : Mark) → (m.tile ≡ TapL) ⊎ (m.tile ≡ TapR) ⊎ (m.tile ≡ Under) → is_switch m ≡ false
no_switch m (inl e) = ap (λ y. is_switch (record m { tile = y })) e
no_switch m (inr (inl e)) = ap (λ y. is_switch (record m { tile = y })) e
no_switch m (inr (inr e)) = ap (λ y. is_switch (record m { tile = y })) e

-- ---- the network
pub power_last : (f : Plan) (k : ℕ) → IsNumbered f k power → k + 1 ≡ net_count f
power_last f k (a_segment s h e q) = absurd (cc (q))
power_last f k (a_line i l h e g q) = absurd (cc (q))
power_last f k (the_ground e q) = absurd (cc (q))
power_last f k (the_power e q) = omega arith

pub pairs_low : (f : Plan) (count : ℕ) (ms : List Mark) (ps : List Pair) → count ≡ net_count f
    → AllZip (IsTapPair f) ms ps → All (λ p. (p.a < count) × (p.b < count)) ps
pairs_low f count ms ps e z = λ k d h. (let n : k < length ms = subst (λ y. k < y)
    (sym (zip_length (IsTapPair f) ms ps z)) h in
    let t = zip_at (IsTapPair f) ms ps z k (record { tile = TapL; band = 0; row = 0; column = 0 }) d n in
    let a = numbered_below f (get_or ps k d).a t.the_line t.a in
    let b = numbered_below f (get_or ps k d).b t.other t.b in (omega arith, omega arith))

pub roots_stay : (count : ℕ) (ps : List Pair) (least : List ℕ) → AreLeasts count ps least → (k : ℕ) → k < length least
    → get_or least (get_or least k 0) 0 ≡ get_or least k 0
roots_stay count ps least l k h = sym (l.one k (get_or least k 0) (l.home k (subst (λ y. k < y) l.as_many h)))

gate_is_net : (f : Plan) (m : Mark) (n : Net) → HasGate f m n → IsNet f n
gate_is_net f m n (inl (e, s)) = subst (IsNet f) (sym s.is) s.among
gate_is_net f m n (inr (e, l)) = subst (IsNet f) (sym l.is) l.among

end_is_net : (f : Plan) (m : Mark) (n : Net) → HasEnd f m n → IsNet f n
end_is_net f m n (inl (e, inl l)) = subst (IsNet f) (sym l.is) l.among
end_is_net f m n (inl (e, inr l)) = subst (IsNet f) (sym l.is) l.among
end_is_net f m n (inr (e, inl l)) = subst (IsNet f) (sym l.is) l.among
end_is_net f m n (inr (e, inr q)) = subst (IsNet f) (sym q) tt

pub are_among : (f : Plan) (count : ℕ) (number : Net → ℕ) (ms : List Mark) (cs : List Channel) (tags : List Tag)
    → AreNumbers f count number → AllZip (IsSwitch f number) ms cs → tags ≡ [] → AreAmong count cs tags
are_among f count number ms cs tags a z e = record {
  gates = λ k d h. (let s = at k d h in let g = s.gate in subst (λ y. y < count) (sym g.2)
      (a.below g.0 (gate_is_net f (get_or ms k (mark_of k)) g.0 g.1)));
  ends = λ k d h j x l. (let s = at k d h in let n = (s.ends (get_or (get_or cs k d).ends j x)).0
      (j, l, get_or_default (get_or cs k d).ends j (get_or (get_or cs k d).ends j x) x l) in
      subst (λ y. y < count) n.2 (a.below n.0 (end_is_net f (get_or ms k (mark_of k)) n.0 n.1)));
  labels = subst (All (λ t. t.node < count)) (sym e) (λ k d h. absurd (omega arith));
}
  where
    mark_of : ℕ → Mark
    mark_of k = record { tile = TapL; band = 0; row = 0; column = 0 }

    at : (k : ℕ) (d : Channel) (h : k < length cs) → IsSwitch f number (get_or ms k (mark_of k)) (get_or cs k d)
    at k d h = zip_at (IsSwitch f number) ms cs z k (mark_of k) d
        (subst (λ y. k < y) (sym (zip_length (IsSwitch f number) ms cs z)) h)

pub no_tags : (tags : List Tag) → tags ≡ [] → OneNodeEach tags
no_tags tags e = subst OneNodeEach (sym e) (λ a b i j q. let h = i.1 in absurd (omega arith))

-- what is known once the classes are numbered
pub numbers_are : (f : Plan) (w : IsFabric f) (k : ℕ) (made pairs : List Pair) (items least numbers : List ℕ)
    (count : ℕ) → IsNumbered f k power → AllZip (IsTapPair f) (filter is_tap f.marks) made → pairs ≡ made
    → AreLeasts (k + 1) pairs items → least ≡ items → AreClassNumbers least numbers count
    → AreNumbers f count (number_of f numbers)
numbers_are f w k made pairs items least numbers count p z e l g c =
    are_numbers f w made z items numbers count (subst₂ (λ x y. AreLeasts x y items) (power_last f k p) e l)
    (subst (λ y. AreClassNumbers y numbers count) g c)

-- there is a number for each net
pub numbers_many : (f : Plan) (k : ℕ) (pairs : List Pair) (items least numbers : List ℕ) (count : ℕ)
    → IsNumbered f k power → AreLeasts (k + 1) pairs items → least ≡ items → AreClassNumbers least numbers count
    → length numbers ≡ net_count f
numbers_many f k pairs items least numbers count p l g c = c.as_many ∙ ap length g ∙ l.as_many ∙ power_last f k p

pub switches_are : (f : Plan) (c : Classes) (cs : List Channel) (net : Network) → AreNetNumbers f c
    → AreChannels f (number_of f c.numbers) cs → IsUntagged c.count cs net
    → (number : Net → ℕ) × AreSwitches f number net
switches_are f c cs net a s u = (
  number_of f c.numbers,
  record {
    nodes = subst (λ y. AreNumbers f y (number_of f c.numbers)) (sym u.nodes_are) a.numbers;
    channels = subst (AllZip (IsSwitch f (number_of f c.numbers)) (filter is_switch f.marks)) (sym u.channels_are) s;
    tags = u.no_tags;
  },
)

pub of_parts : (o : Option Network) (net : Network) (P : Network → Type 0) → IfSome o P → o ≡ Some net → P net
of_parts o net P h e = let i : IfSome (Some net) P = subst (λ z. IfSome z P) e h in i
