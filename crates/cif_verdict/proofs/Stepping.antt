-- A command that breaks no rule leads to a state.
use Rattle.std.proofs.Common.{◌≡◌, ◌⊎◌, inl, inr, ℕ, suc, ◌+◌, ◌<◌, ◌≤◌, List, [], ◌∷◌, ◌++◌, true, false, Option, Some}
use Rattle.std.proofs.Common.{None, length, map, refl, sym, ◌∙◌, ap, subst, arith, length-append}
use Rattle.std.specs.Prelude.{All, Contains, ℤ, filter, int_lt}
use Rattle.std.proofs.lemmas.Bool.{cases_lt}
use Rattle.std.proofs.lemmas.List.Elements.{All-cons, All-filter}
use Rattle.mp_base.proofs.Decisions.{Decided}
use Rattle.lam_geom.specs.declared.layer.Layer.{Layer}
use Rattle.lam_geom.specs.declared.layer.Layer.TheVariants.{ND}
use Rattle.lam_geom.specs.declared.rect.Rect.{Rect}
use Rattle.lam_geom.specs.declared.label.FlatLabel.{FlatLabel}
use Rattle.lam_geom.specs.declared.place.Point.{Point}
use Rattle.lam_geom.specs.Inside.{sides}
use Rattle.poly_split.specs.Splitting.{IsAskew}
use Rattle.poly_split.specs.Polygons.{PolygonsAreSplit}
use Rattle.cif_form.specs.declared.command.Turn.{Turn}
use Rattle.cif_form.specs.declared.command.Turn.TheVariants.{Move, Rotate}
use Rattle.cif_form.specs.declared.command.Command.{Command}
use Rattle.cif_form.specs.declared.command.Command.TheVariants as commands
use Rattle.cif_form.specs.declared.command.Command.TheVariants.{Polygon, Box, Round, Wire, Start, Finish, Delete, Call}
use Rattle.cif_form.specs.declared.command.Command.TheVariants.{User, Comment}
use Rattle.cif_form.specs.declared.command.Item.{Item}
use Rattle.cif_form.specs.Scans.{Nests}
use Rattle.cif_form.specs.Expansion.{Definition, Stands, IsInside, item_at}
use Rattle.cif_form.specs.Place.{Scale, IsOnAxis, HasEdges, Motion, AreMotions}
use Rattle.cif_form.specs.Walk.{Frame, State, Visit, DrawRule, walk_limit, IsWholePoint, BreaksBy, StepsByShape}
use Rattle.cif_form.specs.Walk.{StepsBy, on_layer, onward, labelled, within, at_top}
use Rattle.cif_form.specs.Walk.DrawRule.{F1, F3, F4, F5, F6, F7, F9, F10}
use Rattle.cif_verdict.proofs.Labels.{symbol_name, some_new_label}
use Rattle.cif_verdict.proofs.Scaling.{some_motion, is_whole_point, is_on_axis}
use Rattle.cif_verdict.proofs.Edges.{Found, box_edges, wire_edges}
use Rattle.cif_verdict.proofs.Polygons.{polygon_edges}
use Rattle.cif_verdict.proofs.Rules.{some_definition, some_layer}
use Rattle.cif_verdict.proofs.Frames.{commands_of, AreInside, IsOrdered, left_in, body_of, IsPlaced, rest_nests}
use Rattle.cif_verdict.proofs.Frames.{same_within, body_up_to_finish}

-- the state is nearer to the end: by a call, which is counted, or with less left in its frames
abbrev pub IsNearer : Visit → State → Type 0
IsNearer v t = ((t.count ≡ v.count + 1) × (v.count < walk_limit))
    ⊎ ((v.count ≤ t.count) × (left_in t.frames < length v.after + 2 + left_in v.outer))

pub record IsReached (v : Visit) (t : State) : Type 0 where
  pub ordered : IsOrdered t
  pub nearer : IsNearer v t

-- what a command draws, and the state that it leads to
abbrev pub Goes : Visit → Command → Type 0
Goes v c = (rs : List Rect) × (ls : List FlatLabel) × (t : State) × StepsBy v c rs ls t × IsReached v t

-- ---- calls

motions_of : (s : Scale) (ts : List Turn) → ((p : Point) → Contains ts (Move p) → IsWholePoint s p)
    → ((p : Point) → Contains ts (Rotate p) → IsOnAxis p) → (ms : List Motion) × AreMotions s ts ms
motions_of s [] whole axis = ([], refl)
motions_of s (t ∷ ts) whole axis =
    let (front, h) = some_motion s t (λ p e. whole p (0, omega arith, e)) (λ p e. axis p (0, omega arith, e)) in
    let (rest, k) = motions_of s ts (λ p (j, lt, is). whole p (suc j, omega (arith, lt), is))
    (λ p (j, lt, is). axis p (suc j, omega (arith, lt), is)) in
    (front ++ rest, (front, rest, refl, h, k))

not_over : (a b : ℕ) → ¬ (a < b + 1) → b < a
not_over a b few = elim (cases_lt a (b + 1)) [ inl lt ↦ absurd (few lt) | inr le ↦ omega (arith, le) ]

module _ (split : PolygonsAreSplit) (v : Visit) (bodies : All (λ (d : Definition). AreInside d.body) v.definitions) where
  -- the next state in the same frame
  layered : (c : Command) (l : Option Layer) → IsInside c → IsPlaced c v.after v.outer → IsReached v (on_layer v l)
  layered c l inside placed = record {
    ordered = record {
      bodies = bodies;
      frames = rest_nests c v.after v.outer (record v.frame { layer = l; left = v.after }) refl inside placed;
    };
    nearer = inr (omega arith, omega arith);
  }

  by_call : (n : ℤ) (ts : List Turn) → ((rule : DrawRule) → ¬ BreaksBy v (Call n ts) rule)
      → IsPlaced (Call n ts) v.after v.outer → Decided ((d : Definition) × Stands v.definitions n d)
      → Goes v (Call n ts)
  by_call n ts none placed (inr lacks) = absurd (none F1 (λ d h. lacks (d, h)))
  by_call n ts none placed (inl (d, h)) =
      let whole : (p : Point) → Contains ts (Move p) → IsWholePoint v.frame.scale p =
      λ p among. elim (is_whole_point v.frame.scale p)
      [ inl is ↦ is | inr not ↦ absurd (none F4 (inr (p, among, not))) ] in
      let axis : (p : Point) → Contains ts (Rotate p) → IsOnAxis p =
      λ p among. elim (is_on_axis p) [ inl is ↦ is | inr not ↦ absurd (none F3 (p, among, not)) ] in
      let (ms, k) = motions_of v.frame.scale ts whole axis in (
        [],
        [],
        within v d ms,
        (d, ms, h, k, refl, refl, refl),
        record {
          ordered = record {
            bodies = bodies;
            frames = (
              body_of v.definitions n d bodies h,
              rest_nests (Call n ts) v.after v.outer (record v.frame { left = v.after }) refl tt placed,
            );
          };
          nearer = inl (refl, not_over walk_limit v.count (none F7));
        },
      )

  -- ---- shapes

  abbrev Shapes : Type 0
  Shapes = (rs : List Rect) × StepsByShape v rs (onward v)

  on_its_layer : (o : Option Layer) → v.frame.layer ≡ o → ¬ (v.frame.layer ≡ None)
      → ((l : Layer) → (rs : List Rect) × HasEdges v.frame.scale l v.item.command rs) → Shapes
  on_its_layer None e set here = absurd (set e)
  on_its_layer (Some l) e set here =
      let (qs, h) = here l in (map v.frame.place qs, (l, qs, e, h, refl, refl))

  by_edges : (c : Command) → c ≡ v.item.command → ((l : Layer) → (rs : List Rect) × HasEdges v.frame.scale l c rs)
      → ¬ (v.frame.layer ≡ None) → Shapes
  by_edges c e here set = on_its_layer v.frame.layer refl set (λ l. let (qs, h) = here l in
      (qs, subst (λ c. HasEdges v.frame.scale l c qs) e h))

  by_shape : (c : Command) → c ≡ v.item.command → Found (λ (l : Layer) (rs : List Rect). HasEdges v.frame.scale l c rs)
      → ¬ (v.frame.layer ≡ None) → ¬ ((rs : List Rect) → ¬ HasEdges v.frame.scale ND v.item.command rs) → Shapes
  by_shape c e (inl here) set lacks = by_edges c e here set
  by_shape c e (inr none) set lacks = absurd (lacks (λ rs h. none ND rs
      (subst (λ c. HasEdges v.frame.scale ND c rs) (sym e) h)))

  -- ---- labels

  by_user : (digit : ℕ) (text : List ℕ) → IsPlaced (User digit text) v.after v.outer → Goes v (User digit text)
  by_user digit text placed =
      let onward = layered (User digit text) v.frame.layer tt placed in elim (some_new_label v digit text) [
        | inl (label, is, new) ↦ (
          [],
          label ∷ [],
          labelled v label.name,
          (inl (label, is, new, refl, refl), refl),
          record {
            ordered = record { bodies = onward.ordered.bodies; frames = onward.ordered.frames };
            nearer = onward.nearer;
          },
        )
        | inr none ↦
            ([], [], on_layer v v.frame.layer, (inr ((λ label is new. none (label, is, new)), refl, refl), refl), onward)
      ]

  -- ---- definitions

  to_top : (ds : List Definition) (items : List Item) → All (λ (d : Definition). AreInside d.body) ds
      → Nests false (commands_of items) → length items ≤ length v.after → IsReached v (at_top v ds items)
  to_top ds items inside nests shorter = record {
    ordered = record { bodies = inside; frames = nests };
    nearer = inr (omega arith, omega (arith, shorter));
  }

  by_start : (n a b : ℤ) (outer : List Frame) → v.outer ≡ outer → IsPlaced (Start n a b) v.after outer
      → Goes v (Start n a b)
  by_start n a b (g ∷ gs) e placed = absurd placed.0
  by_start n a b [] e (inside, is, nests) =
      let opened : true ≡ inside = same_within is in
      let u = body_up_to_finish v.after (subst (λ o. Nests o (commands_of v.after)) (sym opened) nests) in
      let (name, named) = symbol_name u.body in
      let d : Definition = record { number = n; scale = record { a = a; b = b }; name = name; body = u.body } in
      let size : length v.after ≡ length (u.body ++ (item_at u.finish Finish ∷ u.rest)) = ap length u.split in
      let parts = length-append u.body (item_at u.finish Finish ∷ u.rest) in (
        [],
        [],
        at_top v (d ∷ v.definitions) u.rest,
        (name, u.body, u.rest, u.finish, e, u.inside, named, u.split, refl, refl, refl),
        to_top (d ∷ v.definitions) u.rest
            (All-cons (λ (d : Definition). AreInside d.body) d v.definitions u.inside bodies) u.nests
            (omega (arith, size, parts)),
      )

  by_delete : (n : ℤ) (outer : List Frame) → v.outer ≡ outer → IsPlaced (Delete n) v.after outer → Goes v (Delete n)
  by_delete n (g ∷ gs) e placed = absurd placed.0
  by_delete n [] e (inside, is, nests) =
      let ds = filter (λ (d : Definition). int_lt d.number n) v.definitions in
      let all = All-filter (λ (d : Definition). int_lt d.number n) (λ (d : Definition). AreInside d.body) v.definitions
      bodies in
      let rest = subst (λ o. Nests o (commands_of v.after)) (sym (same_within is)) nests in
      ([], [], at_top v ds v.after, (e, refl, refl, refl), to_top ds v.after all rest (omega arith))

  no_finish : (outer : List Frame) → IsPlaced Finish v.after outer → ⊥
  no_finish [] (inside, is, nests) = absurd (cc)
  no_finish (g ∷ gs) placed = placed.0

  -- ---- commands

  pub goes : (c : Command) → c ≡ v.item.command → ((rule : DrawRule) → ¬ BreaksBy v c rule)
      → IsPlaced c v.after v.outer → Goes v c
  goes (Round diameter center) e none placed = absurd (none F5 tt)
  goes (Box long wide center direction) e none placed =
      let (rs, h) = by_shape (Box long wide center direction) e (box_edges v.frame.scale long wide center direction)
      (none F9) (none F4) in
      (rs, [], onward v, (h, refl), layered (Box long wide center direction) v.frame.layer tt placed)
  goes (Wire wide path) e none placed =
      let (rs, h) = by_shape (Wire wide path) e (wire_edges v.frame.scale wide path) (none F9) (none F4) in
      (rs, [], onward v, (h, refl), layered (Wire wide path) v.frame.layer tt placed)
  goes (commands.Layer name) e none placed = elim (some_layer name) [
    | inl (l, is) ↦ (
      [],
      [],
      on_layer v (Some l),
      (l, is, refl, refl, refl),
      layered (commands.Layer name) (Some l) tt placed,
    )
    | inr lacks ↦ absurd (none F10 (λ l is. lacks (l, is)))
  ]
  goes (Polygon path) e none placed =
      let (rs, h) = by_edges (Polygon path) e (polygon_edges split v.frame.scale path whole straight) (none F9) in
      (rs, [], onward v, (h, refl), layered (Polygon path) v.frame.layer tt placed)
    where
      whole : (p : Point) → Contains path p → IsWholePoint v.frame.scale p
      whole p among =
          elim (is_whole_point v.frame.scale p) [ inl is ↦ is | inr not ↦ absurd (none F4 (p, among, not)) ]

      straight : (side : Point × Point) → Contains (sides path) side → ¬ IsAskew side
      straight side among askew = none F6 (inr (side, among, askew))
  goes (Call n ts) e none placed = by_call n ts none placed (some_definition n v.definitions)
  goes (User digit text) e none placed = by_user digit text placed
  goes (Comment text) e none placed =
      ([], [], onward v, (refl, refl, refl), layered (Comment text) v.frame.layer tt placed)
  goes (Start n a b) e none placed = by_start n a b v.outer refl placed
  goes (Delete n) e none placed = by_delete n v.outer refl placed
  goes Finish e none placed = absurd (no_finish v.outer placed)
