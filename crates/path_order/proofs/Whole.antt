-- An order along the marks of a path has each net once, behind those that it depends on.
use Rattle.std.proofs.Common.{◌≡◌, ℕ, ◌<◌, ◌≤◌, zero, suc, ◌⊎◌, inl, inr, List, [], ◌∷◌, ◌++◌, Option, Some, None, Bool}
use Rattle.std.proofs.Common.{true, cond, length, refl, sym, ◌∙◌, ap, subst, arith}
use Rattle.std.specs.Prelude.{Contains, slice_get, nat_lt}
use Rattle.std.specs.List.{count_by, list_all}
use Rattle.std.specs.Option.{option_or}
use Rattle.organelles.specs.Slices.{first_some, slice_input}
use Rattle.std.proofs.lemmas.Bool.{false≢true, and_from, cases_lt, cond-true, cond-false, lt-ltb, le-ltb}
use Rattle.std.proofs.lemmas.Option.{none-some, slice_get_within, get_or_from_slice_get}
use Rattle.nor_net.specs.declared.net.Part.{Part}
use Rattle.nor_net.specs.declared.net.Part.TheVariants.{Input, Gate, Latch}
use Rattle.nor_net.specs.Elements.{Spot, Element, Given, Nor, Latched, Joined, Low, Nets}
use Rattle.nor_net.specs.Shape.{IsNet, IsFed, Fed}
use Rattle.organelles.specs.declared.slices.SliceNet.{SliceNet}
use Rattle.path_form.specs.declared.path.Cast.{Cast}
use Rattle.path_form.specs.declared.path.Lift.{Lift}
use Rattle.path_form.specs.declared.path.Piece.{Piece}
use Rattle.path_form.specs.Nets.{nets_among, band_nets, slice_part, control_part, cast_element, lift_element}
use Rattle.path_form.specs.Shape.{is_in, pieces_of, rank, stands_behind}
use Rattle.path_order.specs.declared.order.Mark.{Mark}
use Rattle.path_order.specs.Order.{piece, slice_pieces, pieces_of_block, order_from, start}
use Rattle.path_order.specs.Marked.{RiseTo, IsMarked, OrdersAreWhole}
use Rattle.path_order.proofs.Pieces.{Reads, MayRead, IsOrderTo, times_in, times_counted, same_ends, with_piece}
use Rattle.path_order.proofs.Reading.{ends, ends_below, ends_from, ends_above, slice_reads, control_reads}

assoc : {A : Type 0} (xs ys zs : List A) → xs ++ (ys ++ zs) ≡ (xs ++ ys) ++ zs
assoc [] ys zs = refl
assoc (x ∷ xs) ys zs = ap (λ l. x ∷ l) (assoc xs ys zs)

nothing : {A : Type 0} (xs : List A) → xs ≡ xs ++ []
nothing [] = refl
nothing (x ∷ xs) = ap (λ l. x ∷ l) (nothing xs)

-- one slice more
slice_more : (w k a b c x : ℕ) → (x ≡ suc k → ⊥) → ends w (suc k) a b c x ≡ ends w k a b c x
slice_more w k a b c zero ne = refl
slice_more w k a b c (suc j) ne = elim (cases_lt j k) [
  | inl l ↦ ends_below w (suc k) a b c j (omega arith) ∙ sym (ends_below w k a b c j l)
  | inr g ↦ by_top (let h : (j ≡ k → ⊥) = λ e. ne (ap suc e) in h) g (cases_lt j w)
]
  where
    by_top : (j ≡ k → ⊥) → k ≤ j → (j < w) ⊎ (w ≤ j) → ends w (suc k) a b c (suc j) ≡ ends w k a b c (suc j)
    by_top other g (inl l) = ends_from w (suc k) a b c j (behind other g) l ∙ sym (ends_from w k a b c j g l)
      where
        behind : (j ≡ k → ⊥) → k ≤ j → suc k ≤ j
        behind other g = elim (cases_lt k j) [
          | inl l ↦ omega (arith, l)
          | inr h ↦ absurd
              (other (omega (arith, g, h)))
        ]
    by_top other g (inr h) = ends_above w (suc k) a b c j (behind other g) h ∙ sym (ends_above w k a b c j g h)
      where
        behind : (j ≡ k → ⊥) → k ≤ j → suc k ≤ j
        behind other g = elim (cases_lt k j) [
          | inl l ↦ omega (arith, l)
          | inr h ↦ absurd
              (other (omega (arith, g, h)))
        ]

-- all slices, and then none of the next block
turn : (w a b c d x : ℕ) → ends w 0 b d c x ≡ ends w w a b c x
turn w a b c d zero = refl
turn w a b c d (suc j) = elim (cases_lt j w) [
  | inl l ↦ ends_from w 0 b d c j (omega arith) l ∙ sym (ends_below w w a b c j l)
  | inr g ↦ ends_above w 0 b d c j (omega arith) g ∙ sym (ends_above w w a b c j g g)
]

-- only the control
control_more : (w a b c d x : ℕ) → (x ≡ 0 → ⊥) → ends w w a b d x ≡ ends w w a b c x
control_more w a b c d zero ne = absurd (ne refl)
control_more w a b c d (suc j) ne = refl

module _ (w : ℕ) (control : List Part) (s : SliceNet) (casts : List Cast) (lifts : List Lift) (marks : List Mark)
    (is_control : IsNet control) (is_slices : IsNet s.net) (marked : IsMarked w control s casts lifts marks) where
  abbrev nets : Nets
  nets = nets_among w control s casts lifts

  module _ (a b : Mark) (slices_rise : a.slices ≤ b.slices) (control_rises : a.control ≤ b.control)
      (b_in : Contains marks b)
      (apart : (m : Mark) → Contains marks m
      → ((m.slices ≤ a.slices) × (m.control ≤ a.control)) ⊎ ((b.slices ≤ m.slices) × (b.control ≤ m.control))) where
    -- the first k slices
    slices : (order : List Piece) → IsOrderTo nets order (ends w 0 a.slices b.slices a.control) → (k : ℕ) → k ≤ w
        → IsOrderTo nets (order ++ slice_pieces k a.slices b.slices) (ends w k a.slices b.slices a.control)
    slices order h zero l = subst (λ o. IsOrderTo nets o (ends w 0 a.slices b.slices a.control)) (nothing order) h
    slices order h (suc k) l =
        subst (λ o. IsOrderTo nets o (ends w (suc k) a.slices b.slices a.control))
        (sym (assoc order (slice_pieces k a.slices b.slices) (piece (suc k) a.slices b.slices)))
        (with_piece nets (order ++ slice_pieces k a.slices b.slices) (ends w k a.slices b.slices a.control)
        (ends w (suc k) a.slices b.slices a.control) (slices order h k (omega (arith, l))) (suc k) a.slices b.slices
        (ends_from w k a.slices b.slices a.control k (omega arith) (omega (arith, l))) slices_rise
        (ends_below w (suc k) a.slices b.slices a.control k (omega arith))
        (slice_more w k a.slices b.slices a.control) may)
      where
        may : (n m : Spot) (x : Element) → n.band ≡ suc k → a.slices ≤ n.net → n.net < b.slices → nets n ≡ Some x
            → Reads x m
            → MayRead (ends w k a.slices b.slices a.control) n m
        may n m x e f low is r =
            subst (λ i. MayRead (ends w k a.slices b.slices a.control) (record { band = i; net = n.net }) m) (sym e)
            (slice_reads w control s casts lifts marks is_control is_slices marked a b b_in apart k n.net
            (omega (arith, l)) low x
            (subst (λ i. nets (record { band = i; net = n.net }) ≡ Some x) e is) m r)

    -- and the control
    block : (order : List Piece) → IsOrderTo nets order (ends w 0 a.slices b.slices a.control)
        → IsOrderTo nets (order ++ pieces_of_block w a b) (ends w w a.slices b.slices b.control)
    block order h =
        subst (λ o. IsOrderTo nets o (ends w w a.slices b.slices b.control))
        (sym (assoc order (slice_pieces w a.slices b.slices) (piece 0 a.control b.control)))
        (with_piece nets (order ++ slice_pieces w a.slices b.slices) (ends w w a.slices b.slices a.control)
        (ends w w a.slices b.slices b.control) (slices order h w (omega arith)) 0 a.control b.control refl
        control_rises refl
        (control_more w a.slices b.slices a.control b.control) may)
      where
        may : (n m : Spot) (x : Element) → n.band ≡ 0 → a.control ≤ n.net → n.net < b.control → nets n ≡ Some x
            → Reads x m
            → MayRead (ends w w a.slices b.slices a.control) n m
        may n m x e f low is r =
            subst (λ i. MayRead (ends w w a.slices b.slices a.control) (record { band = i; net = n.net }) m) (sym e)
            (control_reads w control s casts lifts marks is_control is_slices marked a b b_in apart n.net low x
            (subst (λ i. nets (record { band = i; net = n.net }) ≡ Some x) e is) m r)

  -- what is behind a mark
  rises : (end from : Mark) (rest : List Mark) → RiseTo end from rest → (m : Mark) → Contains rest m
      → (from.slices ≤ m.slices) × (from.control ≤ m.control)
  rises end from [] h m c = absurd (let l = c.1 in omega (arith, l))
  rises end from (to ∷ rest) h m (zero, l, e) = (
    subst (λ (x : Mark). from.slices ≤ x.slices) e h.0,
    subst (λ (x : Mark). from.control ≤ x.control) e h.1,
  )
  rises end from (to ∷ rest) h m (suc i, l, e) =
      let r = rises end to rest h.2 m (i, omega (arith, l), e) in
      let a = r.0 in
      let b = r.1 in
      let f = h.0 in
      let g = h.1 in
      (omega (arith, a, f), omega (arith, b, g))

  abbrev end : Mark
  end = record { slices = length s.net; control = length control }

  along : (from : Mark) (rest : List Mark) → RiseTo end from rest → ((m : Mark) → Contains rest m → Contains marks m)
      → ((m : Mark) → Contains marks m → ((m.slices ≤ from.slices) × (m.control ≤ from.control)) ⊎ Contains rest m)
      → (order : List Piece) → IsOrderTo nets order (ends w 0 from.slices from.slices from.control)
      → IsOrderTo nets (order ++ order_from w from rest) (ends w 0 (length s.net) (length s.net) (length control))
  along from [] h within prior order o =
      subst (λ (m : Mark). IsOrderTo nets (order ++ []) (ends w 0 m.slices m.slices m.control)) h
      (subst (λ l. IsOrderTo nets l (ends w 0 from.slices from.slices from.control)) (nothing order) o)
  along from (to ∷ rest) h within prior order o =
      let to_in = within to (0, omega arith, refl) in
      let b = block from to h.0 h.1 to_in apart order
      (same_ends nets order (ends w 0 from.slices from.slices from.control)
      (ends w 0 from.slices to.slices from.control)
      (begins from.slices to.slices from.control) o) in
      subst (λ l. IsOrderTo nets l (ends w 0 (length s.net) (length s.net) (length control)))
      (sym (assoc order (pieces_of_block w from to) (order_from w to rest)))
      (along to rest h.2 (λ m c. within m (suc c.0, (let l = c.1 in omega (arith, l)), c.2)) later
      (order ++ pieces_of_block w from to)
      (same_ends nets (order ++ pieces_of_block w from to) (ends w w from.slices to.slices to.control)
      (ends w 0 to.slices to.slices to.control) (turn w from.slices to.slices to.control to.slices) b))
    where
      begins : (a b c x : ℕ) → ends w 0 a b c x ≡ ends w 0 a a c x
      begins a b c zero = refl
      begins a b c (suc j) = elim (cases_lt j w) [
        | inl l ↦ ends_from w 0 a b c j (omega arith) l ∙ sym (ends_from w 0 a a c j (omega arith) l)
        | inr g ↦ ends_above w 0 a b c j (omega arith) g ∙ sym (ends_above w 0 a a c j (omega arith) g)
      ]

      apart : (m : Mark) → Contains marks m
          → ((m.slices ≤ from.slices) × (m.control ≤ from.control)) ⊎
          ((to.slices ≤ m.slices) × (to.control ≤ m.control))
      apart m c = elim (prior m c) [ inl p ↦ inl p | inr d ↦ inr (not_before m d) ]
        where
          not_before : (m : Mark) → Contains (to ∷ rest) m → (to.slices ≤ m.slices) × (to.control ≤ m.control)
          not_before m (zero, l, e) = (
            subst (λ (x : Mark). to.slices ≤ x.slices) e (let r : to.slices ≤ to.slices = omega arith in r),
            subst (λ (x : Mark). to.control ≤ x.control) e (let r : to.control ≤ to.control = omega arith in r),
          )
          not_before m (suc i, l, e) = rises end to rest h.2 m (i, omega (arith, l), e)

      later : (m : Mark) → Contains marks m → ((m.slices ≤ to.slices) × (m.control ≤ to.control)) ⊎ Contains rest m
      later m c = elim (prior m c) [
        | inl p ↦ inl (
          (let a = p.0 in let f = h.0 in omega (arith, a, f)),
          (let a = p.1 in let f = h.1 in omega (arith, a, f)),
        )
        | inr d ↦ by_place m d
      ]
        where
          by_place : (m : Mark) → Contains (to ∷ rest) m →
              ((m.slices ≤ to.slices) × (m.control ≤ to.control)) ⊎ Contains rest m
          by_place m (zero, l, e) = inl (
            subst (λ (x : Mark). x.slices ≤ to.slices) e (let r : to.slices ≤ to.slices = omega arith in r),
            subst (λ (x : Mark). x.control ≤ to.control) e (let r : to.control ≤ to.control = omega arith in r),
          )
          by_place m (suc i, l, e) = inr (i, omega (arith, l), e)

  abbrev order : List Piece
  order = order_from w start marks

  -- nothing stands before the first mark
  none_yet : (x : ℕ) → ends w 0 0 0 0 x ≡ 0
  none_yet zero = refl
  none_yet (suc j) = elim (cases_lt j w) [
    | inl l ↦ ends_from w 0 0 0 0 j (omega arith) l
    | inr g ↦ ends_above w 0 0 0 0 j (omega arith) g
  ]

  whole : IsOrderTo nets order (ends w 0 (length s.net) (length s.net) (length control))
  whole =
      along start marks marked.rise (λ m c. c) (λ m c. inr c) [] (record {
        once = λ n l. absurd (let z = none_yet n.band in omega (arith, z, l));
        others = λ n g. refl;
        behind = λ n m x l is r. absurd (let z = none_yet n.band in omega (arith, z, l));
      })

  -- ---- a path has these nets

  within_fed : (parts : List Part) → IsFed parts → (j : ℕ) (part : Part) → slice_get parts j ≡ Some part → Fed part
  within_fed parts fed j part is =
      subst Fed (get_or_from_slice_get parts j part part is) (fed j part (slice_get_within parts j part is))

  -- 1 where there is a net
  abbrev counts : List Part → ℕ → ℕ
  counts parts j = cond (nat_lt j (length parts)) 1 0

  there : (parts : List Part) (j : ℕ) (part : Part) → slice_get parts j ≡ Some part → counts parts j ≡ 1
  there parts j part is =
      cond-true (nat_lt j (length parts)) 1 0 (lt-ltb j (length parts) (slice_get_within parts j part is))

  absent : (parts : List Part) (j : ℕ) → slice_get parts j ≡ None → counts parts j ≡ 0
  absent [] j is = cond-false (nat_lt j 0) 1 0 (le-ltb j 0 (omega arith))
  absent (p ∷ ps) zero is = absurd (none-some p (sym is))
  absent (p ∷ ps) (suc j) is = elim (cases_lt j (length ps)) [
    | inl l ↦ cond-true (nat_lt (suc j) (suc (length ps))) 1 0 (lt-ltb (suc j) (suc (length ps)) (omega (arith, l)))
        ∙ sym (cond-true (nat_lt j (length ps)) 1 0 (lt-ltb j (length ps) l)) ∙ absent ps j is
    | inr g ↦ cond-false (nat_lt (suc j) (suc (length ps))) 1 0 (le-ltb (suc j) (suc (length ps)) (omega (arith, g)))
  ]

  or_given : (o : Option Element) → pieces_of (option_or o (Some Given)) ≡ 1
  or_given None = refl
  or_given (Some x) = refl

  or_either : (o p : Option Element) → pieces_of (option_or o (option_or p (Some Given))) ≡ 1
  or_either None p = or_given p
  or_either (Some x) p = refl

  slice_some : (k j : ℕ) (o : Option Part) → slice_get s.net j ≡ o → IsFed s.net
      → pieces_of (slice_part w s casts k j o) ≡ counts s.net j
  slice_some k j None is fed = sym (absent s.net j is)
  slice_some k j (Some Input) is fed =
      or_either (slice_input w s k j) (first_some (cast_element j) casts) ∙ sym (there s.net j Input is)
  slice_some k j (Some (Gate inputs)) is fed = sym (there s.net j (Gate inputs) is)
  slice_some k j (Some (Latch phase None)) is fed = absurd (false≢true (within_fed s.net fed j (Latch phase None) is))
  slice_some k j (Some (Latch phase (Some m))) is fed = sym (there s.net j (Latch phase (Some m)) is)

  control_some : (j : ℕ) (o : Option Part) → slice_get control j ≡ o → IsFed control
      → pieces_of (control_part lifts j o) ≡ counts control j
  control_some j None is fed = sym (absent control j is)
  control_some j (Some Input) is fed = or_given (first_some (lift_element j) lifts) ∙ sym (there control j Input is)
  control_some j (Some (Gate inputs)) is fed = sym (there control j (Gate inputs) is)
  control_some j (Some (Latch phase None)) is fed =
      absurd (false≢true (within_fed control fed j (Latch phase None) is))
  control_some j (Some (Latch phase (Some m))) is fed = sym (there control j (Latch phase (Some m)) is)

  abbrev last : ℕ → ℕ
  last = ends w 0 (length s.net) (length s.net) (length control)

  -- there is a net exactly where its number is below that of its band
  some_net : IsFed control → IsFed s.net → (b j : ℕ)
      → pieces_of (band_nets w control s casts lifts b j) ≡ cond (nat_lt j (last b)) 1 0
  some_net fc fs zero j = control_some j (slice_get control j) refl fc
  some_net fc fs (suc k) j = elim (cases_lt k w) [
    | inl l ↦ ap (λ t. pieces_of (cond t (slice_part w s casts k j (slice_get s.net j)) None)) (lt-ltb k w l)
        ∙ slice_some k j (slice_get s.net j) refl fs
        ∙ ap (λ e. cond (nat_lt j e) 1 0) (sym (ends_from w 0 (length s.net) (length s.net) (length control) k
        (omega arith) l))
    | inr g ↦ ap (λ t. pieces_of (cond t (slice_part w s casts k j (slice_get s.net j)) None)) (le-ltb k w g)
        ∙ sym (cond-false (nat_lt j 0) 1 0 (le-ltb j 0 (omega arith)))
        ∙ ap (λ e. cond (nat_lt j e) 1 0) (sym (ends_above w 0 (length s.net) (length s.net) (length control) k
        (omega arith) g))
  ]

  once : IsFed control → IsFed s.net → (n : Spot) → count_by (is_in n) order ≡ pieces_of (nets n)
  once fc fs n = sym (times_counted n order) ∙ by_place (cases_lt n.net (last n.band))
      ∙ sym (some_net fc fs n.band n.net)
    where
      by_place : (n.net < last n.band) ⊎ (last n.band ≤ n.net)
          → times_in n order ≡ cond (nat_lt n.net (last n.band)) 1 0
      by_place (inl l) = whole.once n l ∙ sym (cond-true (nat_lt n.net (last n.band)) 1 0
          (lt-ltb n.net (last n.band) l))
      by_place (inr g) = whole.others n g ∙ sym (cond-false (nat_lt n.net (last n.band)) 1 0
          (le-ltb n.net (last n.band) g))

  -- a net that has an element is in the order
  is_low : IsFed control → IsFed s.net → (n : Spot) (x : Element) → nets n ≡ Some x → n.net < last n.band
  is_low fc fs n x is = elim (cases_lt n.net (last n.band)) [
    | inl l ↦ l
    | inr g ↦ (let e : 1 ≡ 0 = sym (ap pieces_of is) ∙ some_net fc fs n.band n.net
        ∙ cond-false (nat_lt n.net (last n.band)) 1 0 (le-ltb n.net (last n.band) g) in absurd (omega (arith, e)))
  ]

  all_true : (f : Spot → Bool) (xs : List Spot) → ((x : Spot) → Contains xs x → f x ≡ true) → list_all f xs ≡ true
  all_true f [] h = refl
  all_true f (x ∷ xs) h =
      and_from (f x) (list_all f xs) (h x (0, omega arith, refl))
      (all_true f xs (λ y c. h y (suc c.0, (let l = c.1 in omega (arith, l)), c.2)))

  behind : IsFed control → IsFed s.net → (n : Spot) (x : Element) → nets n ≡ Some x → stands_behind order n x ≡ true
  behind fc fs n x is = by_element x is
    where
      ranks : (x : Element) → nets n ≡ Some x → (m : Spot) → Reads x m → nat_lt (rank order m) (rank order n) ≡ true
      ranks x is m r = lt-ltb (rank order m) (rank order n) (whole.behind n m x (is_low fc fs n x is) is r).1

      by_element : (x : Element) → nets n ≡ Some x → stands_behind order n x ≡ true
      by_element Given is = refl
      by_element (Nor inputs) is =
          all_true (λ m. nat_lt (rank order m) (rank order n)) inputs (λ m c. ranks (Nor inputs) is m c)
      by_element (Latched phase source) is = refl
      by_element (Joined m) is = ranks (Joined m) is m refl
      by_element Low is = refl

pub orders_are_whole : OrdersAreWhole
orders_are_whole w control s casts lifts marks is_control fc is_slices fs marked = (
  once w control s casts lifts marks is_control is_slices marked fc fs,
  behind w control s casts lifts marks is_control is_slices marked fc fs,
)
