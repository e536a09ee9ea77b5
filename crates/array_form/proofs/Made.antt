-- A fabric that is made of lists of names is named.
use Rattle.std.proofs.Common.{◌≡◌, inl, inr, ℕ, suc, ◌<◌, List, [], ◌∷◌, map, length, get_or}
use Rattle.std.proofs.Common.{refl, sym, ◌∙◌, ap, subst, arith}
use Rattle.std.specs.Prelude.{Contains, AllPairs}
use Rattle.std.proofs.lemmas.Bool.{cases_order}
use Rattle.std.proofs.lemmas.List.Elements.{All-contains}
use Rattle.std.proofs.lemmas.List.{get_or-map}
use Rattle.mp_base.proofs.Lists.{length_map}
use Rattle.mp_base.proofs.Members.{Member, member_contains, contains_member, member_map, map_member}
use Rattle.fabric.specs.declared.thing.Side.{Side}
use Rattle.fabric.specs.declared.thing.Side.TheVariants.{L, R}
use Rattle.fabric.specs.declared.thing.Segment.{Segment}
use Rattle.fabric.specs.declared.thing.Line.{Line}
use Rattle.fabric.specs.declared.thing.Mark.{Mark}
use Rattle.fabric.specs.Plan.{Plan, IsFabric, IsSegment, IsLine, LinesApart, SegmentsApart}
use Rattle.fabric.specs.Switches.{Net, segment, line, ground, power, IsNet, LineOf, SegmentOf, IsTapOn}
use Rattle.array_form.specs.Named.{Tie, tap, tran, pull, IsAt, IsNamed, Speaks}
use Rattle.array_form.specs.Wires.{Wire, to_ground, to_power}
use Rattle.array_form.specs.Lists.{Layout, net_of, mark_of, Crossing, IsLineAt, IsSegmentAt, IsMadeOf, InLists}
use Rattle.array_form.specs.Lists.{tap_tile}

place_of : {A : Type 0} (xs : List A) (a : A) → Member xs a
    → (i : ℕ) × (i < length xs) × ((d : A) → get_or xs i d ≡ a)
place_of [] a m = absurd m
place_of (x ∷ xs) a (inl e) = (0, omega arith, λ d. e)
place_of (x ∷ xs) a (inr m) = let w = place_of xs a m in (suc w.0, omega arith, λ d. w.2 d)

pairs_map : {A B : Type 0} (inside : A → B) (P : A → A → Type 0) (Q : B → B → Type 0)
    → ((a b : A) → P a b → Q (inside a) (inside b)) → (xs : List A) → AllPairs P xs → AllPairs Q (map inside xs)
pairs_map inside P Q to [] apart i j d lt h = absurd (omega arith)
pairs_map inside P Q to (x ∷ xs) apart i j d lt h =
    let jb : j < length (x ∷ xs) = subst (λ n. j < n) (length_map inside (x ∷ xs)) h in
    subst (λ z. Q z (get_or (map inside (x ∷ xs)) j d)) (sym (get_or-map inside (x ∷ xs) i x d (omega arith)))
    (subst (λ z. Q (inside (get_or (x ∷ xs) i x)) z) (sym (get_or-map inside (x ∷ xs) j x d jb))
    (to (get_or (x ∷ xs) i x) (get_or (x ∷ xs) j x) (apart i j x lt jb)))

-- two names of one thing are one, where no thing of the list is apart from itself
one_name : {W B : Type 0} (g : W → B) (Q : B → B → Type 0) (ws : List W) → AllPairs Q (map g ws) → (w v : W)
    → Member ws w → Member ws v → g w ≡ g v → (Q (g w) (g w) → ⊥) → w ≡ v
one_name g Q ws apart w v mw mv e never = go (place_of ws w mw) (place_of ws v mv)
  where
    clash : (i j : ℕ) (a b : _) → i < j → j < length ws → ((d : _) → get_or ws i d ≡ a)
        → ((d : _) → get_or ws j d ≡ b) → Q (g a) (g b)
    clash i j a b lt jb hi hj =
        let lb : j < length (map g ws) = subst (λ n. j < n) (sym (length_map g ws)) jb in
        subst (λ z. Q z (g b)) (get_or-map g ws i a (g a) (omega arith) ∙ ap g (hi a))
        (subst (λ z. Q (get_or (map g ws) i (g a)) z) (get_or-map g ws j b (g a) jb ∙ ap g (hj b))
        (apart i j (g a) lt lb))

    go : (i : ℕ) × (i < length ws) × ((d : _) → get_or ws i d ≡ w)
        → (j : ℕ) × (j < length ws) × ((d : _) → get_or ws j d ≡ v) → w ≡ v
    go (i, ib, hi) (j, jb, hj) = elim (cases_order i j) [
      | inl q ↦ sym (hi w) ∙ (ap (λ k. get_or ws k w) q ∙ hj w)
      | inr (inl lt) ↦ absurd (never (subst (λ z. Q (g w) z) (sym e) (clash i j w v lt jb hi hj)))
      | inr (inr lt) ↦ absurd (never (subst (λ z. Q z (g w)) (sym e) (clash j i v w lt ib hj hi)))
    ]

abbrev NetApart : Net → Net → Type 0
NetApart (segment s) (segment t) = SegmentsApart s t
NetApart (line l) (line m) = LinesApart l m
NetApart _ _ = Unit {0}

no_segment_apart : (f : Plan) → IsFabric f → (s : Segment) → Contains f.segments s
    → NetApart (segment s) (segment s) → ⊥
no_segment_apart f w s i h =
    let o = (All-contains (IsSegment f) f.segments s w.segments i).order in
    elim (h refl refl) [ inl lt ↦ absurd (omega arith) | inr lt ↦ absurd (omega arith) ]

no_line_apart : (f : Plan) → IsFabric f → (l : Line) → Contains f.lines l → NetApart (line l) (line l) → ⊥
no_line_apart f w l i h =
    let o = (All-contains (IsLine f) f.lines l w.lines i).order in
    elim (h refl refl) [ inl lt ↦ absurd (omega arith) | inr lt ↦ absurd (omega arith) ]

-- names of a line and of a segment at a place
line_at : (f : Plan) (m : Mark) (side : Side) (n : Net) → IsNet f n → IsLineAt n side m.band m.column
    → LineOf f m side n
line_at f m side (segment s) i h = absurd h
line_at f m side (line l) i h = record { the_line = l; among = i; passes = h; is = refl }
line_at f m side ground i h = absurd h
line_at f m side power i h = absurd h

segment_at : (f : Plan) (m : Mark) (n : Net) → IsNet f n → IsSegmentAt n m.band m.row m.column → SegmentOf f m n
segment_at f m (segment s) i h = record { the_segment = s; among = i; crosses = h; is = refl }
segment_at f m (line l) i h = absurd h
segment_at f m ground i h = absurd h
segment_at f m power i h = absurd h

tap_on : (side : Side) → IsTapOn side (tap_tile side)
tap_on L = refl
tap_on R = refl

module _ (X : Type 0) (y : Layout X) (rows columns : List (Wire X)) (ties : List (Tie (Wire X))) (f : Plan)
    (lawful : IsFabric f) (made : IsMadeOf X y rows columns ties f)
    (In : Wire X → Type 0) (T : Tie (Wire X) → Type 0) (listed : (w : Wire X) → In w → InLists X rows columns w)
    (list_in : (w : Wire X) → InLists X rows columns w → In w)
    (tie_listed : (t : Tie (Wire X)) → T t → Contains ties t) (tie_in : (t : Tie (Wire X)) → Contains ties t → T t)
    (speaks : (t : Tie (Wire X)) → T t → Speaks (Wire X) In t) (crossing : (t : Tie (Wire X)) → T t
    → Crossing X y t) where
  n_of : Wire X → Net
  n_of w = net_of X y w

  row_net : (w : Wire X) → Member rows w → (s : Segment) × Contains f.segments s × (n_of w ≡ segment s)
  unfolding n_of
  row_net w m =
      let k = member_map segment f.segments (net_of X y w)
      (subst (λ l. Member l (net_of X y w)) (sym made.segments) (map_member (net_of X y) rows w m)) in
      (k.0, member_contains f.segments k.0 k.1, sym k.2)

  column_net : (w : Wire X) → Member columns w → (l : Line) × Contains f.lines l × (n_of w ≡ line l)
  unfolding n_of
  column_net w m =
      let k = member_map line f.lines (net_of X y w)
      (subst (λ l. Member l (net_of X y w)) (sym made.lines) (map_member (net_of X y) columns w m)) in
      (k.0, member_contains f.lines k.0 k.1, sym k.2)

  is_in : (w : Wire X) → InLists X rows columns w → IsNet f (n_of w)
  unfolding n_of
  is_in w (inl m) = let k = row_net w (contains_member rows w m) in subst (IsNet f) (sym k.2) k.1
  is_in w (inr (inl m)) = let k = column_net w (contains_member columns w m) in subst (IsNet f) (sym k.2) k.1
  is_in w (inr (inr (inl e))) = subst (λ v. IsNet f (net_of X y v)) (sym e) tt
  is_in w (inr (inr (inr e))) = subst (λ v. IsNet f (net_of X y v)) (sym e) tt

  onto : (n : Net) → IsNet f n → (w : Wire X) × InLists X rows columns w × (n_of w ≡ n)
  unfolding n_of
  onto (segment s) i =
      let k = member_map (net_of X y) rows (segment s)
      (subst (λ l. Member l (segment s)) made.segments
      (map_member segment f.segments s (contains_member f.segments s i))) in
      (k.0, inl (member_contains rows k.0 k.1), k.2)
  onto (line l) i =
      let k = member_map (net_of X y) columns (line l)
      (subst (λ z. Member z (line l)) made.lines (map_member line f.lines l (contains_member f.lines l i))) in
      (k.0, inr (inl (member_contains columns k.0 k.1)), k.2)
  onto ground i = (to_ground, inr (inr (inl refl)), refl)
  onto power i = (to_power, inr (inr (inr refl)), refl)

  rows_apart : AllPairs NetApart (map (net_of X y) rows)
  rows_apart = subst (AllPairs NetApart) made.segments
      (pairs_map segment SegmentsApart NetApart (λ a b h. h) f.segments lawful.segments_apart)

  columns_apart : AllPairs NetApart (map (net_of X y) columns)
  columns_apart =
      subst (AllPairs NetApart) made.lines
      (pairs_map line LinesApart NetApart (λ a b h. h) f.lines lawful.lines_apart)

  -- the kinds of nets differ
  not_both : (s : Segment) (l : Line) (n : Net) → n ≡ segment s → n ≡ line l → ⊥
  not_both s l n a b = cc (sym a ∙ b)

  one : (w v : Wire X) → InLists X rows columns w → InLists X rows columns v → n_of w ≡ n_of v → w ≡ v
  unfolding n_of
  one w v (inl a) (inl b) e =
      let k = row_net w (contains_member rows w a) in
      one_name (net_of X y) NetApart rows rows_apart w v (contains_member rows w a) (contains_member rows v b) e
      (λ h. no_segment_apart f lawful k.0 k.1 (subst (λ n. NetApart n n) k.2 h))
  one w v (inl a) (inr (inl b)) e =
      let k = row_net w (contains_member rows w a) in let j = column_net v (contains_member columns v b) in
      absurd (not_both k.0 j.0 (net_of X y v) (sym e ∙ k.2) j.2)
  one w v (inl a) (inr (inr (inl q))) e =
      let k = row_net w (contains_member rows w a) in absurd (cc (sym k.2 ∙ (e ∙ ap (net_of X y) q)))
  one w v (inl a) (inr (inr (inr q))) e =
      let k = row_net w (contains_member rows w a) in absurd (cc (sym k.2 ∙ (e ∙ ap (net_of X y) q)))
  one w v (inr (inl a)) (inl b) e =
      let k = column_net w (contains_member columns w a) in let j = row_net v (contains_member rows v b) in
      absurd (not_both j.0 k.0 (net_of X y v) j.2 (sym e ∙ k.2))
  one w v (inr (inl a)) (inr (inl b)) e =
      let k = column_net w (contains_member columns w a) in
      one_name (net_of X y) NetApart columns columns_apart w v (contains_member columns w a)
      (contains_member columns v b) e
      (λ h. no_line_apart f lawful k.0 k.1 (subst (λ n. NetApart n n) k.2 h))
  one w v (inr (inl a)) (inr (inr (inl q))) e =
      let k = column_net w (contains_member columns w a) in absurd (cc (sym k.2 ∙ (e ∙ ap (net_of X y) q)))
  one w v (inr (inl a)) (inr (inr (inr q))) e =
      let k = column_net w (contains_member columns w a) in absurd (cc (sym k.2 ∙ (e ∙ ap (net_of X y) q)))
  one w v (inr (inr (inl q))) (inl b) e =
      let k = row_net v (contains_member rows v b) in absurd (cc (sym k.2 ∙ (sym e ∙ ap (net_of X y) q)))
  one w v (inr (inr (inl q))) (inr (inl b)) e =
      let k = column_net v (contains_member columns v b) in absurd (cc (sym k.2 ∙ (sym e ∙ ap (net_of X y) q)))
  one w v (inr (inr (inl q))) (inr (inr (inl r))) e = q ∙ sym r
  one w v (inr (inr (inl q))) (inr (inr (inr r))) e =
      absurd (ground_power (sym (ap (net_of X y) q) ∙ (e ∙ ap (net_of X y) r)))
    where
      ground_power : ground ≡ power → ⊥
      ground_power h = cc h
  one w v (inr (inr (inr q))) (inl b) e =
      let k = row_net v (contains_member rows v b) in absurd (cc (sym k.2 ∙ (sym e ∙ ap (net_of X y) q)))
  one w v (inr (inr (inr q))) (inr (inl b)) e =
      let k = column_net v (contains_member columns v b) in absurd (cc (sym k.2 ∙ (sym e ∙ ap (net_of X y) q)))
  one w v (inr (inr (inr q))) (inr (inr (inl r))) e =
      absurd (power_ground (sym (ap (net_of X y) q) ∙ (e ∙ ap (net_of X y) r)))
    where
      power_ground : power ≡ ground → ⊥
      power_ground h = cc h
  one w v (inr (inr (inr q))) (inr (inr (inr r))) e = q ∙ sym r

  at_mark : (t : Tie (Wire X)) → T t → IsAt (Wire X) f (net_of X y) (mark_of X y t) t
  unfolding n_of
  at_mark (tap side w v) i =
      let s = speaks (tap side w v) i in
      let c = crossing (tap side w v) i in
      let m = mark_of X y (tap side w v) in (
        tap_on side,
        line_at f m side (net_of X y w) (is_in w (listed w s.0)) c.0,
        elim c.1 [ inl g ↦ inl g | inr h ↦ inr (segment_at f m (net_of X y v) (is_in v (listed v s.1)) h) ],
      )
  at_mark (tran g a b) i =
      let s = speaks (tran g a b) i in
      let c = crossing (tran g a b) i in
      let m = mark_of X y (tran g a b) in (
        refl,
        segment_at f m (net_of X y g) (is_in g (listed g s.0)) c.0,
        line_at f m L (net_of X y a) (is_in a (listed a s.1)) c.1,
        line_at f m R (net_of X y b) (is_in b (listed b s.2)) c.2,
      )
  at_mark (pull a) i = (
    refl,
    line_at f (mark_of X y (pull a)) L (net_of X y a) (is_in a (listed a (speaks (pull a) i)))
        (crossing (pull a) i),
  )

  pub named : IsNamed (Wire X) In T f (net_of X y)
  unfolding n_of
  named = record {
    is_in = λ w i. is_in w (listed w i);
    onto = λ n i. let k = onto n i in (k.0, list_in k.0 k.1, k.2);
    one = λ w v i j e. one w v (listed w i) (listed v j) e;
    marked = λ m i u.
        let k = member_map (mark_of X y) ties m (contains_member (map (mark_of X y) ties) m ((made.marks m).0 i)) in
        let t = tie_in k.0 (member_contains ties k.0 k.1) in
        (k.0, t, subst (λ z. IsAt (Wire X) f (net_of X y) z k.0) k.2 (at_mark k.0 t));
    tied = λ t i. (
      mark_of X y t,
      (made.marks (mark_of X y t)).1
          (member_contains (map (mark_of X y) ties) (mark_of X y t)
          (map_member (mark_of X y) ties t (contains_member ties t (tie_listed t i)))),
      at_mark t i,
    );
  }
