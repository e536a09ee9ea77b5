-- What is met at each kind of command.
use Rattle.std.proofs.Common.{ℕ, ◌≡◌, ◌+◌, ◌^◌, ◌<◌, ◌≤◌, refl, sym, ◌∙◌, ap, subst, arith, inl, inr, List, [], ◌∷◌}
use Rattle.std.proofs.Common.{◌++◌, zero, suc, length, map, All, append-nil, get_or, true, false, Option, Some, None}
use Rattle.std.specs.Prelude.{◌≢◌, ◌*◌, ◌/◌, ◌||◌, ℤ, pos, negsuc, Contains, slice_get, slice_range}
use Rattle.std.specs.List.{AllZip}
use Rattle.std.specs.Prelude.{is_some, IfSome, IfNone}
use Rattle.std.proofs.Math.Nat.{le-mul_of_pos_right}
use Rattle.std.proofs.lemmas.Bool.{false≢true}
use Rattle.std.specs.List.{flat_map}
use Rattle.std.proofs.lemmas.Int.{ints}
use Rattle.std.proofs.lemmas.Option.{get_or_from_slice_get, slice_get_cases}
use Rattle.std.proofs.lemmas.List.Elements.{All-nil, All-cons, All-head, All-tail, All-contains, All-map, All-weaker}
use Rattle.std.proofs.lemmas.List.Elements.{Contains-get_or}
use Rattle.lam_geom.specs.declared.layer.Layer.{Layer}
use Rattle.lam_geom.specs.declared.layer.Layer.TheVariants.{ND}
use Rattle.lam_geom.specs.declared.place.Point.{Point}
use Rattle.lam_geom.specs.Moves.{IsNearRect}
use Rattle.lam_geom.specs.declared.rect.Rect.{Rect}
use Rattle.cif_form.specs.declared.command.Turn.{Turn}
use Rattle.cif_form.specs.declared.command.Turn.TheVariants.{Move, MirrorX, MirrorY, Rotate}
use Rattle.cif_place.specs.Turning.{IsShortTurn}
use Rattle.cif_form.specs.declared.command.Command.{Command}
use Rattle.cif_form.specs.declared.command.Command.TheVariants.{Finish, Polygon, Round, Box, Wire, User, Comment}
use Rattle.cif_form.specs.declared.command.Command.TheVariants.{Layer as SetLayer}
use Rattle.cif_form.specs.declared.command.Item.{Item}
use Rattle.cif_form.specs.Place.{layer_name, HasEdges, IsOnAxis, IsBox, segments, AreSegments}
use Rattle.cif_form.specs.Walk.{Frame, Visit, Breaks, BreaksNone, IsWholePoint, IsLabelAt, IsNew, walk_limit}
use Rattle.lam_geom.specs.declared.label.FlatLabel.{FlatLabel}
use Rattle.cif_form.specs.Walk.DrawRule.{F3, F4, F6, F7, F8}
use Rattle.cif_form.specs.Fits.{Fits, IsSmall, point_numbers, turn_numbers}
use Rattle.cif_form.specs.Expansion.{IsInside, item_at}
use Rattle.cif_place.specs.declared.edges.Edges.{Edges}
use Rattle.cif_place.specs.declared.edges.Extent.{Extent}
use Rattle.cif_flat.specs.declared.fault.Fault.TheVariants as faults
use Rattle.cif_place.specs.declared.placement.Placement.{Placement}
use Rattle.cif_flat.specs.declared.level.Level.{Level}
use Rattle.cif_flat.specs.declared.walker.Walker.{Walker}
use Rattle.cif_place.specs.Placing.{IsShort, IsShortPoint, IsFitRatio, IsHeld, scale_of, rect_of, place_of}
use Rattle.cif_place.specs.Shaping.{IsBoxEdges, IsNearAt, IsFarAt, IsStraight, HasAskewSegment, HaveEdges, drawn}
use Rattle.cif_flat.specs.Sound.{Unsigned}
use Rattle.cif_flat.specs.Refusing.{RefusesWalk, refusal_of}
use Rattle.cif_flat.specs.Meeting.{was_met, is_name}
use Rattle.cif_flat.specs.Walking.{frame_of, onto, IsNested, IsLevel, IsWalking, IsFound, IsVisit, IsAfter, AreNamed}
use Rattle.cif_flat.proofs.Rules.{none, first3, first4, first5, first6, first7, first8, first9, first10}
use Rattle.cif_form.proofs.WalkExamples.{never}
use Rattle.cif_flat.proofs.Namings.{met_more}
use Rattle.cif_flat.proofs.Ways.{named_met}
use Rattle.cif_flat.proofs.Walks.{visit_at, stops, onward, each_last, left_next, level_of, arrive_named, arrive}
use Rattle.cif_flat.proofs.Walks.{arrive_quiet}
use Rattle.lam_geom.specs.Inside.{sides}
use Rattle.poly_split.specs.Splitting.{IsFirstAskew, IsStraight as Straight}
use Rattle.poly_split.specs.Moving.{FillingsAreLiftedBack}
use Rattle.cif_place.specs.Pointing.{HasUnevenPoint, HasFarPoint, IsPlacedPoint, IsDrawnPolygon}
use Rattle.cif_place.proofs.Points.{placed_near, placed_of}
use Rattle.cif_place.specs.Laws.{OneBox, OneWire}
use Rattle.cif_place.proofs.Numbers.{within_more}

-- ---- what a visit shows

pub small_short : (z : ℤ) → IsSmall z → IsShort z
small_short (pos n) h = (omega (arith, ints, h), omega (arith, ints, h))
small_short (negsuc n) h = (omega (arith, ints, h), omega (arith, ints, h))

pub fits_here : (items : List Item) (w : Walker) (v : Level) (i : Item) → IsVisit items w v i → Fits i.command
fits_here items w v i h =
    let lt : v.next < length items =
    elim (slice_get_cases items v.next).1 [
      | inl a ↦ a.1
      | inr a ↦ absurd (let e : None ≡ Some i = sym a.1 ∙ h.here in cc)
    ] in
    subst (λ j. Fits j.command) (get_or_from_slice_get items v.next i i h.here) (h.fit v.next i lt)

-- the next command of the innermost level
pub visiting : (items : List Item) (w : Walker) (v : Level) (i : Item) (c : Command) → All (λ i. Fits i.command) items
    → IsWalking items w (w.levels.items ++ (v ∷ [])) → v.next < v.end
    → slice_get items v.next ≡ Some i → i.command ≡ c → IsVisit items w v (item_at i.offset c)
visiting items w v i c fit walking more e f =
    let same : i ≡ item_at i.offset c = λ j. record { offset = i.offset; command = f j } in
    record { fit = fit; walking = walking; more = more; here = e ∙ ap (λ j. Some j) same }

pub visit_within : (items : List Item) (w : Walker) (v : Level) → IsWalking items w (w.levels.items ++ (v ∷ []))
    → v.next < v.end → v.next < length items
visit_within items w v walking more =
    let l = each_last (IsLevel items w.count w.opened) w.levels.items v walking.stack in
    omega (arith, more, l.within)

no_finish_in : (k : ℕ) (o : ℕ) (is : List Item) → IsNested k (item_at o Finish ∷ is) → ⊥
no_finish_in zero o is (b, e, k) = let f : None ≡ Some b = e in cc
no_finish_in (suc k) o is h = All-head (λ i. IsInside i.command) (item_at o Finish) is h

-- no finish is met: that of a definition is passed with it
pub no_finish : (items : List Item) (w : Walker) (v : Level) (o : ℕ) → IsVisit items w v (item_at o Finish) → ⊥
no_finish items w v o h = no_finish_in (length w.levels.items) o (slice_range items (v.next + 1) v.end)
    (subst (IsNested (length w.levels.items)) (left_next items v (item_at o Finish) h.more h.here)
    (level_of items w v (item_at o Finish) h).nested)

pub box_short : (long wide : ℤ) (center direction : Point) → Fits (Box long wide center direction)
    → (IsShort long × IsShort wide) × IsShortPoint center
box_short long wide center direction f =
    let l = All-head Unsigned long (wide ∷ []) f.unsigned in
    let m = All-head Unsigned wide [] (All-tail Unsigned long (wide ∷ []) f.unsigned) in
    let t = All-tail IsSmall center.x (center.y ∷ direction.x ∷ direction.y ∷ []) f.signed in (
      (small_short long l.1, small_short wide m.1),
      (
        small_short center.x
            (All-head IsSmall center.x (center.y ∷ direction.x ∷ direction.y ∷ []) f.signed),
        small_short center.y (All-head IsSmall center.y (direction.x ∷ direction.y ∷ []) t),
      ),
    )

short_points : (ps : List Point) → All IsSmall (flat_map point_numbers ps) → All IsShortPoint ps
short_points [] h = All-nil IsShortPoint
short_points (p ∷ ps) h =
    let t = All-tail IsSmall p.x (p.y ∷ flat_map point_numbers ps) h in
    All-cons IsShortPoint p ps (
      small_short p.x (All-head IsSmall p.x (p.y ∷ flat_map point_numbers ps) h),
      small_short p.y
          (All-head IsSmall p.y (flat_map point_numbers ps) t),
    )
    (short_points ps (All-tail IsSmall p.y (flat_map point_numbers ps) t))

pub wire_short : (wide : ℤ) (path : List Point) → Fits (Wire wide path) → IsShort wide × All IsShortPoint path
wire_short wide path f = (small_short wide (All-head Unsigned wide [] f.unsigned).1, short_points path f.signed)

pub short_turns : (ts : List Turn) → All IsSmall (flat_map turn_numbers ts) → All IsShortTurn ts
short_turns [] h = All-nil IsShortTurn
short_turns (Move p ∷ ts) h =
    let t = All-tail IsSmall p.x (p.y ∷ flat_map turn_numbers ts) h in
    All-cons IsShortTurn (Move p) ts (
      small_short p.x (All-head IsSmall p.x (p.y ∷ flat_map turn_numbers ts) h),
      small_short p.y
          (All-head IsSmall p.y (flat_map turn_numbers ts) t),
    )
    (short_turns ts (All-tail IsSmall p.y (flat_map turn_numbers ts) t))
short_turns (Rotate p ∷ ts) h =
    let t = All-tail IsSmall p.x (p.y ∷ flat_map turn_numbers ts) h in
    All-cons IsShortTurn (Rotate p) ts (
      small_short p.x (All-head IsSmall p.x (p.y ∷ flat_map turn_numbers ts) h),
      small_short p.y
          (All-head IsSmall p.y (flat_map turn_numbers ts) t),
    )
    (short_turns ts (All-tail IsSmall p.y (flat_map turn_numbers ts) t))
short_turns (MirrorX ∷ ts) h = All-cons IsShortTurn MirrorX ts tt (short_turns ts h)
short_turns (MirrorY ∷ ts) h = All-cons IsShortTurn MirrorY ts tt (short_turns ts h)

pub held_here : (items : List Item) (w : Walker) (v : Level) (i : Item) → IsVisit items w v i
    → IsHeld (2 ^ 104 * 8_000_000) v.placement
held_here items w v i h =
    let l = level_of items w v i h in
    let m = h.walking.limit in (
      within_more _ _ v.placement.dx (omega (arith, m)) l.held.0,
      within_more _ _ v.placement.dy
          (omega (arith, m)) l.held.1,
    )

pub ratio_here : (items : List Item) (w : Walker) (v : Level) (i : Item) → IsVisit items w v i → IsFitRatio v.ratio
ratio_here items w v i h = (level_of items w v i h).ratio

-- ---- arms

length_onto : (items : List Item) (vs : List Level) (fs : List Frame)
    → length (onto items vs fs) ≡ length vs + length fs
length_onto items [] fs = omega arith
length_onto items (v ∷ vs) fs = omega (arith, length_onto items vs (frame_of items fs v ∷ fs))

no_frames : (items : List Item) (vs : List Level) (fs : List Frame) → onto items vs fs ≡ [] → vs ≡ []
no_frames items [] fs e = refl
no_frames items (v ∷ vs) fs e = absurd (omega (arith, length_onto items vs (frame_of items fs v ∷ fs), ap length e))

near_edges : (p : Placement) (es : List Edges) → All (λ r. IsNearRect (place_of p r)) (map (rect_of ND) es)
    → All (λ e. IsNearRect (place_of p (rect_of ND e))) es
near_edges p [] h = All-nil (λ e. IsNearRect (place_of p (rect_of ND e)))
near_edges p (e ∷ es) h =
    All-cons (λ e. IsNearRect (place_of p (rect_of ND e))) e es
    (All-head (λ r. IsNearRect (place_of p r)) (rect_of ND e) (map (rect_of ND) es) h)
    (near_edges p es (All-tail (λ r. IsNearRect (place_of p r)) (rect_of ND e) (map (rect_of ND) es) h))

map_twice : (p : Placement) (l : Layer) (es : List Edges) → drawn p l es ≡ map (place_of p) (map (rect_of l) es)
map_twice p l [] = refl
map_twice p l (e ∷ es) = ap (λ rs. place_of p (rect_of l e) ∷ rs) (map_twice p l es)

some_segments : (path : List Point) → 0 < length path → 0 < length (segments path)
some_segments [] h = absurd (omega arith)
some_segments (p ∷ []) h = omega arith
some_segments (p ∷ q ∷ []) h = omega arith
some_segments (p ∷ q ∷ o ∷ ps) h = omega arith

lt-le-absurd : {a b : ℕ} → a < b → b ≤ a → ⊥
lt-le-absurd l m = omega (arith, l, m)

pub some_askew : (ss : List (Point × Point)) (o : Option ℕ) → is_some o ≡ true → IfSome o (IsFirstAskew ss)
    → (k : ℕ) × IsFirstAskew ss k
some_askew ss None e h = cc
some_askew ss (Some k) e h = (k, h)

pub none_askew : (ss : List (Point × Point)) (o : Option ℕ) → is_some o ≡ false → IfNone o (All Straight ss)
    → All Straight ss
none_askew ss None e h = h
none_askew ss (Some k) e h = cc

pub polygon_short : (path : List Point) → Fits (Polygon path) → All IsShortPoint path
polygon_short path f = short_points path f.signed

-- a polygon of four points or more is some items
some_weight : (n : ℕ) → 4 ≤ n → 0 < n * n / 4
some_weight n h =
    let m : n ≤ n * n = le-mul_of_pos_right n (omega (arith, h)) in
    let k : 4 ≤ n * n = omega (arith, h, m) in
    above (n * n) k
  where
    above : (m : ℕ) → 4 ≤ m → 0 < m / 4
    above m k = omega (arith, k)

module _ (items : List Item) (w : Walker) (v : Level) (o : ℕ) where
  -- ---- layers

  module _ (name : List ℕ) (h : IsVisit items w v (item_at o (SetLayer name))) where
    pub layer_counted : walk_limit ≤ w.count → RefusesWalk items (refusal_of faults.F7 o)
    layer_counted k =
        stops items w v (item_at o (SetLayer name)) h faults.F7
        (first7 (visit_at items w v (item_at o (SetLayer name)) h) (omega arith) never never never never never never)

    pub layer_unknown : w.count < walk_limit → ((l : Layer) → name ≢ layer_name l)
        → RefusesWalk items (refusal_of faults.F10 o)
    layer_unknown k u = stops items w v (item_at o (SetLayer name)) h faults.F10
        (first10 (visit_at items w v (item_at o (SetLayer name)) h) u never never never never never never
        (λ b. omega (arith, b)) never never)

    pub layer_set : w.count < walk_limit → (l : Layer) → name ≡ layer_name l → (new : Walker)
        → new ≡ record w { count = w.count + 1; levels = new.levels }
        → new.levels.items ≡ w.levels.items ++ (onward v (Some l) ∷ []) → IsAfter items w v new
    layer_set k l e new = arrive_quiet items w v (item_at o (SetLayer name)) h (Some l) new refl (omega arith)
        (none (visit_at items w v (item_at o (SetLayer name)) h) never never never never never never
        (λ b. omega (arith, b)) never never (λ b. b l e)) (l, e, refl, refl, refl) (λ b e. cc)

  -- ---- comments

  module _ (text : List ℕ) (h : IsVisit items w v (item_at o (Comment text))) where
    pub comment_counted : walk_limit ≤ w.count → RefusesWalk items (refusal_of faults.F7 o)
    comment_counted k =
        stops items w v (item_at o (Comment text)) h faults.F7
        (first7 (visit_at items w v (item_at o (Comment text)) h) (omega arith) never never never never never never)

    pub comment_passed : w.count < walk_limit → (new : Walker)
        → new ≡ record w { count = w.count + 1; levels = new.levels }
        → new.levels.items ≡ w.levels.items ++ (onward v v.layer ∷ []) → IsAfter items w v new
    comment_passed k new = arrive_quiet items w v (item_at o (Comment text)) h v.layer new refl (omega arith)
        (none (visit_at items w v (item_at o (Comment text)) h) never never never never never never
        (λ b. omega (arith, b)) never never never) (refl, refl, refl) (λ b e. cc)

  -- ---- boxes

  module _ (extent : Extent) (center direction : Point)
      (h : IsVisit items w v (item_at o (Box extent.across extent.up center direction))) where
    abbrev box_item : Item
    box_item = item_at o (Box extent.across extent.up center direction)

    abbrev box_visit : Visit
    box_visit = visit_at items w v box_item h

    pub box_askew : ¬ IsOnAxis direction → RefusesWalk items (refusal_of faults.F3 o)
    box_askew a = stops items w v box_item h faults.F3 (first3 box_visit a never never)

    pub box_uneven : IsOnAxis direction
        → ((l : Layer) (r : Rect) → ¬ IsBox (scale_of v.ratio) l extent.across extent.up center direction r)
        → RefusesWalk items (refusal_of faults.F4 o)
    box_uneven a n =
        stops items w v box_item h faults.F4 (first4 box_visit (λ rs e. n ND e.0 e.2) never never (λ b. b a))

    module _ (e : Edges) (a : IsBoxEdges v.ratio extent center direction e) where
      edges_of_box : (l : Layer)
          → HasEdges (scale_of v.ratio) l (Box extent.across extent.up center direction) (rect_of l e ∷ [])
      edges_of_box l = (rect_of l e, refl, a.1 l)

      no_f3 : ¬ Breaks box_visit F3
      no_f3 b = b a.0

      no_f4 : ¬ Breaks box_visit F4
      no_f4 b = b (rect_of ND e ∷ []) (edges_of_box ND)

      pub box_counted : walk_limit ≤ w.count → RefusesWalk items (refusal_of faults.F7 o)
      box_counted k =
          stops items w v box_item h faults.F7 (first7 box_visit (omega arith) never never no_f3 no_f4 never never)

      module _ (k : w.count < walk_limit) where
        no_f7 : ¬ Breaks box_visit F7
        no_f7 b = omega (arith, b)

        pub box_far : IsFarAt v.placement e → RefusesWalk items (refusal_of faults.F8 o)
        box_far far =
            stops items w v box_item h faults.F8
            (first8 box_visit (
              rect_of ND e
                  ∷ [],
              edges_of_box ND,
              λ n. far ND (All-head (λ r. IsNearRect (place_of v.placement r)) (rect_of ND e) [] n),
            )
            never never no_f3 no_f4 never never no_f7)

        module _ (near : IsNearAt v.placement e) (one : OneBox) where
          no_f8 : ¬ Breaks box_visit F8
          no_f8 (rs, (r, is, b), far) =
              let same =
              one (scale_of v.ratio) ND extent.across extent.up center direction (rect_of ND e) r (a.1 ND) b in
              far (subst (All (λ r. IsNearRect (place_of v.placement r))) ((λ i. same i ∷ []) ∙ sym is)
              (All-cons (λ r. IsNearRect (place_of v.placement r)) (rect_of ND e) [] (near ND)
              (All-nil (λ r. IsNearRect (place_of v.placement r)))))

          pub box_unset : v.layer ≡ None → RefusesWalk items (refusal_of faults.F9 o)
          box_unset n =
              stops items w v box_item h faults.F9 (first9 box_visit n never never no_f3 no_f4 never never no_f7 no_f8)

          pub box_drawn : (l : Layer) → v.layer ≡ Some l → (shapes : List Rect)
              → shapes ≡ w.shapes ++ (place_of v.placement (rect_of l e) ∷ []) → (new : Walker)
              → new ≡ record w { shapes = shapes; count = w.count + 1; levels = new.levels }
              → new.levels.items ≡ w.levels.items ++ (onward v v.layer ∷ []) → IsAfter items w v new
          box_drawn l s shapes es new is pushed =
              arrive items w v box_item h v.layer
              (place_of v.placement (rect_of l e) ∷ []) [] 1 shapes w.labels new refl (omega arith) (omega arith)
              (none box_visit never never no_f3 no_f4 never never no_f7 no_f8
              (λ n. let d : None ≡ Some l = sym n ∙ s in cc) never)
              ((l, rect_of l e ∷ [], s, edges_of_box l, refl, refl), refl) (λ b e. cc) es
              (sym (append-nil w.labels)) is pushed

  -- ---- wires

  module _ (wide : ℤ) (path : List Point) (some : 0 < length path)
      (h : IsVisit items w v (item_at o (Wire wide path))) where
    abbrev wire_item : Item
    wire_item = item_at o (Wire wide path)

    abbrev wire_visit : Visit
    wire_visit = visit_at items w v wire_item h

    pub wire_askew : HasAskewSegment path → RefusesWalk items (refusal_of faults.F3 o)
    wire_askew a = stops items w v wire_item h faults.F3 (first3 wire_visit a never never)

    module _ (straight : All IsStraight (segments path)) where
      no_askew_segment : ¬ Breaks wire_visit F3
      no_askew_segment (p, c, x, y) =
          elim (All-contains IsStraight (segments path) p straight c) [ inl e ↦ x e | inr e ↦ y e ]

      pub wire_uneven : ((l : Layer) (rs : List Rect) → ¬ AreSegments (scale_of v.ratio) l wide (segments path) rs)
          → RefusesWalk items (refusal_of faults.F4 o)
      wire_uneven u =
          stops items w v wire_item h faults.F4 (first4 wire_visit (λ rs e. u ND rs e) never never no_askew_segment)

      module _ (es : List Edges) (are : HaveEdges (scale_of v.ratio) wide (segments path) es) where
        no_uneven : ¬ Breaks wire_visit F4
        no_uneven b = b (map (rect_of ND) es) (are ND)

        pub wire_counted : walk_limit < w.count + length (segments path) → RefusesWalk items (refusal_of faults.F7 o)
        wire_counted k =
            stops items w v wire_item h faults.F7
            (first7 wire_visit k never never no_askew_segment no_uneven never never)

        module _ (k : w.count + length (segments path) ≤ walk_limit) where
          in_limit : ¬ Breaks wire_visit F7
          in_limit b = omega (arith, b)

          pub wire_far : (e : Edges) → Contains es e → IsFarAt v.placement e
              → RefusesWalk items (refusal_of faults.F8 o)
          wire_far e c far =
              stops items w v wire_item h faults.F8
              (first8 wire_visit (
                map (rect_of ND) es,
                are ND,
                λ n. far ND
                    (All-contains (λ e. IsNearRect (place_of v.placement (rect_of ND e))) es e
                    (near_edges v.placement es n) c),
              )
              never never no_askew_segment no_uneven never never in_limit)

          module _ (near : All (IsNearAt v.placement) es) (one : OneWire) where
            no_far : ¬ Breaks wire_visit F8
            no_far (rs, b, far) =
                let same = one (scale_of v.ratio) ND wide (segments path) (map (rect_of ND) es) rs (are ND) b in
                far (subst (All (λ r. IsNearRect (place_of v.placement r))) same
                (All-map (λ r. IsNearRect (place_of v.placement r)) (rect_of ND) es
                (All-weaker (IsNearAt v.placement) (λ e. IsNearRect (place_of v.placement (rect_of ND e)))
                (λ e n. n ND) es near)))

            pub wire_unset : v.layer ≡ None → RefusesWalk items (refusal_of faults.F9 o)
            wire_unset n =
                stops items w v wire_item h faults.F9
                (first9 wire_visit n never never no_askew_segment no_uneven never never in_limit no_far)

            pub wire_drawn : (l : Layer) → v.layer ≡ Some l → (shapes : List Rect)
                → shapes ≡ w.shapes ++ drawn v.placement l es → (new : Walker)
                → new ≡ record w { shapes = shapes; count = w.count + length (segments path); levels = new.levels }
                → new.levels.items ≡ w.levels.items ++ (onward v v.layer ∷ []) → IsAfter items w v new
            wire_drawn l s shapes is new kept pushed =
                arrive items w v wire_item h v.layer (drawn v.placement l es) []
                (length (segments path)) shapes w.labels new refl (some_segments path some) k
                (none wire_visit never never no_askew_segment no_uneven never never in_limit no_far
                (λ n. let d : None ≡ Some l = sym n ∙ s in cc) never)
                ((l, map (rect_of l) es, s, are l, map_twice v.placement l es, refl), refl) (λ b e. cc) is
                (sym (append-nil w.labels)) kept pushed

  -- ---- user commands

  module _ (digit : ℕ) (text : List ℕ) (h : IsVisit items w v (item_at o (User digit text))) where
    abbrev user_item : Item
    user_item = item_at o (User digit text)

    abbrev user_visit : Visit
    user_visit = visit_at items w v user_item h

    pub user_counted : walk_limit ≤ w.count → RefusesWalk items (refusal_of faults.F7 o)
    user_counted k =
        stops items w v user_item h faults.F7 (first7 user_visit (omega (arith, k)) never never never never never never)

    user_breaks_none : w.count < walk_limit → BreaksNone user_visit
    user_breaks_none k =
        none user_visit never never never never never never (λ b. omega (arith, b, k)) never never never

    pub user_passed : w.count < walk_limit → IsFound items w v o digit text None → (m : Walker)
        → AreNamed items m.names w.met (w.levels.items ++ (v ∷ [])) → (new : Walker)
        → new ≡ record w { names = m.names; count = w.count + 1; levels = new.levels }
        → new.levels.items ≡ w.levels.items ++ (onward v v.layer ∷ []) → IsAfter items w v new
    user_passed k found m noted new is =
        arrive_named items w v user_item h v.layer [] [] 1 h.walking.names (record w { names = m.names }) h.walking.met
        noted w.shapes w.labels new refl (omega arith) (omega arith) (user_breaks_none k)
        (inr (comment, refl, refl), refl) (λ b e. cc) (sym (append-nil w.shapes)) (sym (append-nil w.labels)) is
      where
        comment : (label : FlatLabel) → IsLabelAt user_visit digit text label → ¬ IsNew user_visit label
        comment label at (inl e) =
            let f = found h.walking.definitions w.count h.walking.names (User digit text) label at in
            omega (arith, f.0, ap length (no_frames items w.levels.items [] e))
        comment label at (inr n) =
            let f = found h.walking.definitions w.count h.walking.names (User digit text) label at in
            n ((h.walking.met label.name).1 f.1)

    pub user_labelled : w.count < walk_limit → (label : FlatLabel) → IsFound items w v o digit text (Some label)
        → (m : Walker) → ((q : List ℕ) → was_met m.met q ≡ (is_name label.name q || was_met w.met q))
        → AreNamed items m.names w.met (w.levels.items ++ (v ∷ []))
        → (labels : List FlatLabel) → labels ≡ w.labels ++ (label ∷ []) → (new : Walker)
        → new ≡ record w {
          names = m.names;
          met = m.met;
          labels = labels;
          count = w.count + 1;
          levels = new.levels;
        }
        → new.levels.items ≡ w.levels.items ++ (onward v v.layer ∷ []) → IsAfter items w v new
    user_labelled k label (at, new_name) m more noted labels el new =
        arrive_named items w v user_item h v.layer [] (label ∷ []) 1 (label.name ∷ h.walking.names) m
        (met_more label.name h.walking.names w.met m.met h.walking.met more)
        (named_met items m.names w.met (w.levels.items ++ (v ∷ [])) m.met label.name more noted) w.shapes
        labels new refl (omega arith)
        (omega arith) (user_breaks_none k)
        (inl (label, at h.walking.definitions w.count h.walking.names (User digit text), is_new, refl, refl), refl)
        (λ b e. cc) (sym (append-nil w.shapes)) el
      where
        is_new : IsNew user_visit label
        is_new = elim new_name [
          | inl e ↦ inl (ap (λ vs. onto items vs []) e)
          | inr e ↦ inr (λ c. false≢true (sym e ∙ (h.walking.met label.name).0 c))
        ]

  -- ---- polygons

  module _ (path : List Point) (h : IsVisit items w v (item_at o (Polygon path))) where
    abbrev polygon_item : Item
    polygon_item = item_at o (Polygon path)

    abbrev polygon_visit : Visit
    polygon_visit = visit_at items w v polygon_item h

    pub polygon_uneven : HasUnevenPoint (scale_of v.ratio) path → RefusesWalk items (refusal_of faults.F4 o)
    polygon_uneven u = stops items w v polygon_item h faults.F4 (first4 polygon_visit u never never never)

    module _ (whole : All (IsWholePoint (scale_of v.ratio)) path) where
      all_whole : ¬ Breaks polygon_visit F4
      all_whole (p, c, n) = n (All-contains (IsWholePoint (scale_of v.ratio)) path p whole c)

      pub polygon_few : length path < 4 → RefusesWalk items (refusal_of faults.F6 o)
      polygon_few k =
          stops items w v polygon_item h faults.F6 (first6 polygon_visit (inl k) never never never all_whole never)

      pub polygon_askew : (k : ℕ) → IsFirstAskew (sides path) k → RefusesWalk items (refusal_of faults.F6 o)
      polygon_askew k a =
          let origin : Point = record { x = pos 0; y = pos 0 } in
          let there = Contains-get_or (sides path) k (origin, origin) a.within in
          stops items w v polygon_item h faults.F6
          (first6 polygon_visit (inr (get_or (sides path) k (origin, origin), there, a.askew (origin, origin)))
          never never never all_whole never)

      module _ (four : 4 ≤ length path) (straight : All Straight (sides path)) where
        has_sides : ¬ Breaks polygon_visit F6
        has_sides (inl k) = omega (arith, k, four)
        has_sides (inr (side, c, (x, y))) =
            elim (All-contains Straight (sides path) side straight c) [ inl e ↦ x e | inr e ↦ y e ]

        pub polygon_counted : walk_limit < w.count + length path * length path / 4
            → RefusesWalk items (refusal_of faults.F7 o)
        polygon_counted k =
            stops items w v polygon_item h faults.F7 (first7 polygon_visit k never never never all_whole never has_sides)

        module _ (k : w.count + length path * length path / 4 ≤ walk_limit) where
          in_room : ¬ Breaks polygon_visit F7
          in_room b = lt-le-absurd b k

          pub polygon_far : HasFarPoint (scale_of v.ratio) v.placement path → RefusesWalk items (refusal_of faults.F8 o)
          polygon_far far =
              stops items w v polygon_item h faults.F8
              (first8 polygon_visit far never never never all_whole never has_sides in_room)

          module _ (points : List Point) (placed : AllZip (IsPlacedPoint (scale_of v.ratio) v.placement) path points) where
            all_near : ¬ Breaks polygon_visit F8
            all_near (p, q, c, s, far) = far (placed_near (scale_of v.ratio) v.placement path points p q placed c s)

            pub polygon_unset : v.layer ≡ None → RefusesWalk items (refusal_of faults.F9 o)
            polygon_unset n =
                stops items w v polygon_item h faults.F9
                (first9 polygon_visit n never never never all_whole never has_sides in_room all_near)

            pub polygon_drawn : FillingsAreLiftedBack → (l : Layer) → v.layer ≡ Some l → (shapes : List Rect)
                → IsDrawnPolygon l points w.shapes shapes → (new : Walker)
                → new ≡ record w {
                  shapes = shapes;
                  count = w.count + length path * length path / 4;
                  levels = new.levels;
                }
                → new.levels.items ≡ w.levels.items ++ (onward v v.layer ∷ []) → IsAfter items w v new
            polygon_drawn lifted l s shapes (rs, fills, is) new kept pushed =
                let from =
                placed_of (scale_of v.ratio) v.placement lifted l path points rs placed straight fills in
                arrive items w v polygon_item h v.layer rs [] (length path * length path / 4) shapes w.labels new refl
                (some_weight (length path) four) k
                (none polygon_visit never never never all_whole never has_sides in_room all_near
                (λ n. let d : None ≡ Some l = sym n ∙ s in cc) never)
                ((l, from.1, s, (from.0, from.2, from.3), from.4, refl), refl) (λ b e. cc) is
                (sym (append-nil w.labels)) kept pushed

  -- ---- round flashes

  pub round : (diameter : ℤ) (center : Point) → IsVisit items w v (item_at o (Round diameter center))
      → RefusesWalk items (refusal_of faults.F5 o)
  round diameter center h =
      stops items w v (item_at o (Round diameter center)) h faults.F5
      (first5 (visit_at items w v (item_at o (Round diameter center)) h) tt never never never never)
