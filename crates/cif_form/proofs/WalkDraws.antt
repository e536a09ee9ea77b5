-- A whole walk draws the expansion of its commands.
use Rattle.std.proofs.Common.{ℕ, ◌≡◌, inl, inr, refl, sym, ◌∙◌, ap, subst, List, [], ◌∷◌, ◌++◌, Option, Some, None, map}
use Rattle.std.proofs.Common.{arith, append_assoc}
use Rattle.std.specs.Prelude.{ℤ, pos, filter, int_lt}
use Rattle.std.proofs.lemmas.Int.{ints, by_lt_z}
use Rattle.std.proofs.lemmas.List.{append-nil, map-append, map-id}
use Rattle.std.proofs.lemmas.Simd.{map-map}
use Rattle.lam_geom.specs.declared.layer.Layer.{Layer}
use Rattle.lam_geom.specs.declared.rect.Rect.{Rect}
use Rattle.lam_geom.specs.declared.label.FlatLabel.{FlatLabel}
use Rattle.cif_form.specs.declared.command.Command.{Command}
use Rattle.cif_form.specs.declared.command.Command.TheVariants.{Polygon, Box, Round, Wire, Layer as SetLayer, Start}
use Rattle.cif_form.specs.declared.command.Command.TheVariants.{Finish, Delete, Call, User, Comment}
use Rattle.cif_form.specs.declared.command.Item.{Item}
use Rattle.cif_form.specs.declared.command.Turn.{Turn}
use Rattle.cif_form.specs.Place.{Scale, IsScale, unit, Motion, placed, AreMotions, layer_name}
use Rattle.cif_form.specs.Names.{way_into}
use Rattle.cif_form.specs.Laws.{WalkIsExpansion}
use Rattle.cif_form.specs.Expansion.{item_at, Definition, Stands, Draws, IsDrawn, Expands}
use Rattle.cif_form.specs.Walk.{Frame, State, Visit, BreaksBy, BreaksNone, StepsByShape, StepsBy, Walks, start, onward}
use Rattle.cif_form.specs.Walk.{on_layer, within, at_top}
use Rattle.cif_form.specs.Walk.DrawRule.{F4}
use Rattle.cif_form.specs.Walk.WalkEnd.{Whole}

-- the top level is drawn as it is
abbrev IsTop : Frame → Type 0
IsTop f = (f.scale ≡ unit) × (f.place ≡ λ r. r)

-- the outermost frame is the top level
abbrev EndsAtTop : List Frame → Type 0
EndsAtTop [] = Unit {0}
EndsAtTop (f ∷ []) = IsTop f
EndsAtTop (f ∷ g ∷ fs) = EndsAtTop (g ∷ fs)

-- what these frames have left to draw
abbrev Owes : List Definition → List Frame → List Rect → Type 0
Owes ds [] rs = rs ≡ []
Owes ds (f ∷ []) rs = Expands ds f.layer f.left rs
Owes ds (f ∷ g ∷ fs) rs =
    (qs ps : List Rect) × (rs ≡ map f.place qs ++ ps) × Draws ds f.scale f.layer f.left qs × Owes ds (g ∷ fs) ps

-- the item draws es in front of whatever is drawn
abbrev Grows : List Definition → Scale → Option Layer → Item → List Rect → Type 0
Grows ds s l i es = (is : List Item) (us : List Rect) → Draws ds s l is us → Draws ds s l (i ∷ is) (es ++ us)

alone : (ds : List Definition) (s : Scale) (l : Option Layer) (i : Item) (es : List Rect) → Grows ds s l i es
    → Draws ds s l (i ∷ []) es
alone ds s l i es g = subst (Draws ds s l (i ∷ [])) (append-nil es) (g [] [] Draws.done)

abbrev on : Frame → List Item → Frame
on f is = record f { left = is }

owes_grown : (ds : List Definition) (f : Frame) (outer : List Frame) (i : Item) (after : List Item) (es rs : List Rect)
    → f.left ≡ i ∷ after → Grows ds f.scale f.layer i es → (outer ≡ [] → IsDrawn i.command) → EndsAtTop (f ∷ outer)
    → Owes ds (on f after ∷ outer) rs → Owes ds (f ∷ outer) (map f.place es ++ rs)
owes_grown ds f [] i after es rs e g d t o =
    let a : map f.place es ≡ es = ap (λ p. map p es) t.1 ∙ map-id es in
    let s : Draws ds unit f.layer (i ∷ []) es =
    subst (λ s. Draws ds s f.layer (i ∷ []) es) t.0 (alone ds f.scale f.layer i es g) in
    subst (λ is. Expands ds f.layer is (map f.place es ++ rs)) (sym e)
    (subst (λ qs. Expands ds f.layer (i ∷ after) (qs ++ rs)) (sym a) (Expands.draw i.command es (d refl) s o))
owes_grown ds f (h ∷ hs) i after es rs e g d t (us, ps, k, w, o) = (
  es ++ us,
  ps,
  ap (λ t. map f.place es ++ t) k ∙ sym (append_assoc (map f.place es) (map f.place us) ps)
      ∙ ap (λ t. t ++ ps) (sym (map-append f.place es us)),
  subst (λ is. Draws ds f.scale f.layer is (es ++ us)) (sym e) (g after us w),
  o,
)

is_scale : (s : Scale) → ¬ ¬ IsScale s → IsScale s
is_scale s h =
    by_lt_z (pos 0) s.a
    (λ a. by_lt_z (pos 0) s.b (λ b. (a, b)) (λ b. absurd (h (λ k. let c = k.1 in omega (arith, ints)))))
    (λ a. absurd (h (λ k. let c = k.0 in omega (arith, ints))))

top_on : (f : Frame) (outer : List Frame) (l : Option Layer) (is : List Item) → EndsAtTop (f ∷ outer)
    → (let g : Frame = record f { layer = l; left = is } in EndsAtTop (g ∷ outer))
top_on f [] l is t = t
top_on f (h ∷ hs) l is t = t

called_top : (g f : Frame) (outer : List Frame) (is : List Item) → EndsAtTop (f ∷ outer)
    → EndsAtTop (g ∷ on f is ∷ outer)
called_top g f [] is t = t
called_top g f (h ∷ hs) is t = t

-- ---- what is owed before a step, where this is owed after it

module _ (v : Visit) (rs : List Rect) (left : v.frame.left ≡ v.item ∷ v.after)
    (top : EndsAtTop (v.frame ∷ v.outer)) where
  abbrev Before : List Rect → Type 0
  Before qs = Owes v.definitions (v.frame ∷ v.outer) (qs ++ rs)

  abbrev After : State → Type 0
  After t = EndsAtTop t.frames → Owes t.definitions t.frames rs

  -- the walk goes on in this frame
  onward_owes : After (onward v) → Owes v.definitions (on v.frame v.after ∷ v.outer) rs
  onward_owes h = h (top_on v.frame v.outer v.frame.layer v.after top)

  shape_owes : (qs : List Rect) (t : State) → IsDrawn v.item.command → StepsByShape v qs t → After t → Before qs
  shape_owes qs t d (l, es, hl, hb, hq, ht) h =
      let g : Grows v.definitions v.frame.scale v.frame.layer v.item es =
      subst (λ l. Grows v.definitions v.frame.scale l v.item es) (sym hl)
      (λ is us w. Draws.shape v.item.command es hb w) in
      let o = owes_grown v.definitions v.frame v.outer v.item v.after es rs left g (λ n. d) top
      (onward_owes (subst After ht h)) in
      subst (λ qs. Owes v.definitions (v.frame ∷ v.outer) (qs ++ rs)) (sym hq) o

  -- a command that draws nothing
  quiet_owes : (qs : List Rect) (t : State) → IsDrawn v.item.command
      → ((s : Scale) (l : Option Layer) → Grows v.definitions s l v.item []) → qs ≡ [] → After (onward v) → Before qs
  quiet_owes qs t d g hq h =
      let o = owes_grown v.definitions v.frame v.outer v.item v.after [] rs left
      (g v.frame.scale v.frame.layer) (λ n. d) top (onward_owes h) in
      subst (λ qs. Owes v.definitions (v.frame ∷ v.outer) (qs ++ rs)) (sym hq) o

  layer_owes : (l : Layer) (name : List ℕ) (t : State) → v.item.command ≡ SetLayer name → name ≡ layer_name l
      → t ≡ on_layer v (Some l) → After t → Before []
  layer_owes l name t e k ht h = at_frames v.outer top (subst After ht h (top_on v.frame v.outer (Some l) v.after top))
    where
      same : item_at v.item.offset (SetLayer name) ≡ v.item
      same = λ i. record { offset = v.item.offset; command = sym e i }

      at_frames : (outer : List Frame) → EndsAtTop (v.frame ∷ outer)
          → (let f : Frame = record v.frame { layer = Some l; left = v.after } in Owes v.definitions (f ∷ outer) rs)
          → Owes v.definitions (v.frame ∷ outer) rs
      at_frames [] t o =
          subst (λ is. Expands v.definitions v.frame.layer is rs) (sym left)
          (subst (λ i. Expands v.definitions v.frame.layer (i ∷ v.after) rs) same (Expands.layer l name k o))
      at_frames (g ∷ gs) t (us, ps, a, w, o) = (
        us,
        ps,
        a,
        subst (λ is. Draws v.definitions v.frame.scale v.frame.layer is us) (sym left)
            (subst (λ i. Draws v.definitions v.frame.scale v.frame.layer (i ∷ v.after) us) same
            (Draws.layer l name k w)),
        o,
      )

  call_owes : (n : ℤ) (ts : List Turn) (d : Definition) (ms : List Motion) (t : State) → v.item.command ≡ Call n ts
      → Stands v.definitions n d → IsScale d.scale
      → AreMotions v.frame.scale ts ms → t ≡ within v d ms → After t → Before []
  call_owes n ts d ms t e hd hs ha ht h = from (subst After ht h (called_top (inner d) v.frame v.outer v.after top))
    where
      inner : Definition → Frame
      inner d =
          record {
            symbol = Some d.number;
            way = way_into v.frame.way d.name;
            scale = d.scale;
            layer = None;
            place = λ r. v.frame.place (placed ms r);
            left = d.body;
          }

      same : item_at v.item.offset (Call n ts) ≡ v.item
      same = λ i. record { offset = v.item.offset; command = sym e i }

      grows : (us : List Rect) → Draws v.definitions d.scale None d.body us
          → Grows v.definitions v.frame.scale v.frame.layer v.item (map (placed ms) us)
      grows us w =
          subst (λ i. Grows v.definitions v.frame.scale v.frame.layer i (map (placed ms) us)) same
          (λ is qs x. Draws.call n ts d ms us hd hs ha w x)

      from : (us ps : List Rect) × (rs ≡ map (λ r. v.frame.place (placed ms r)) us ++ ps)
          × Draws v.definitions d.scale None d.body us
          × Owes v.definitions (on v.frame v.after ∷ v.outer) ps → Owes v.definitions (v.frame ∷ v.outer) rs
      from (us, ps, a, w, o) =
          let b : rs ≡ map v.frame.place (map (placed ms) us) ++ ps =
          a ∙ ap (λ p. p ++ ps) (sym (map-map v.frame.place (placed ms) us)) in
          subst (λ rs. Owes v.definitions (v.frame ∷ v.outer) rs) (sym b)
          (owes_grown v.definitions v.frame v.outer v.item v.after (map (placed ms) us) ps left (grows us w)
          (λ n. subst IsDrawn (sym e) tt) top o)

  -- at top level the definitions change
  top_owes : (ds : List Definition) (is : List Item) (t : State) → v.outer ≡ []
      → (Expands ds v.frame.layer is rs → Expands v.definitions v.frame.layer (v.item ∷ v.after) rs)
      → t ≡ at_top v ds is → After t → Before []
  top_owes ds is t outermost f ht h = at_frames v.outer outermost top (subst After ht h)
    where
      at_frames : (outer : List Frame) → outer ≡ [] → EndsAtTop (v.frame ∷ outer)
          → (IsTop v.frame → Expands ds v.frame.layer is rs)
          → Owes v.definitions (v.frame ∷ outer) rs
      at_frames [] n t o = subst (λ is. Expands v.definitions v.frame.layer is rs) (sym left) (f (o t))
      at_frames (g ∷ gs) n t o = absurd (let f : g ∷ gs ≡ [] = n in cc)

  step_owes : (c : Command) (qs : List Rect) (ms : List FlatLabel) (t : State) → v.item.command ≡ c → BreaksNone v
      → StepsBy v c qs ms t → After t → Before qs
  step_owes (Box a b c d) qs ms t e n (h, k) o = shape_owes qs t (subst IsDrawn (sym e) tt) h o
  step_owes (Wire w ps) qs ms t e n (h, k) o = shape_owes qs t (subst IsDrawn (sym e) tt) h o
  step_owes (Polygon ps) qs ms t e n (h, k) o = shape_owes qs t (subst IsDrawn (sym e) tt) h o
  step_owes (SetLayer name) qs ms t e n (l, h, hq, hm, ht) o =
      subst (λ qs. Before qs) (sym hq) (layer_owes l name t e h ht o)
  step_owes (Call m ts) qs ms t e n (d, moves, hd, ha, hq, hm, ht) o =
      let s : IsScale d.scale = is_scale d.scale (λ k. n F4 (subst (λ c. BreaksBy v c F4) (sym e) (inl (d, hd, k)))) in
      subst (λ qs. Before qs) (sym hq) (call_owes m ts d moves t e hd s ha ht o)
  step_owes (User digit text) qs ms t e n (inl (m, at, new, hm, ht), hq) o =
      quiet_owes qs t (subst IsDrawn (sym e) tt)
      (λ s l. subst (λ i. Grows v.definitions s l i []) same (λ is us w. Draws.user digit text w)) hq (subst After ht o)
    where
      same : item_at v.item.offset (User digit text) ≡ v.item
      same = λ i. record { offset = v.item.offset; command = sym e i }
  step_owes (User digit text) qs ms t e n (inr (none, hm, ht), hq) o =
      quiet_owes qs t (subst IsDrawn (sym e) tt)
      (λ s l. subst (λ i. Grows v.definitions s l i []) same (λ is us w. Draws.user digit text w)) hq (subst After ht o)
    where
      same : item_at v.item.offset (User digit text) ≡ v.item
      same = λ i. record { offset = v.item.offset; command = sym e i }
  step_owes (Comment text) qs ms t e n (hq, hm, ht) o =
      quiet_owes qs t (subst IsDrawn (sym e) tt)
      (λ s l. subst (λ i. Grows v.definitions s l i []) same (λ is us w. Draws.comment text w)) hq (subst After ht o)
    where
      same : item_at v.item.offset (Comment text) ≡ v.item
      same = λ i. record { offset = v.item.offset; command = sym e i }
  step_owes (Start m a b) qs ms t e n (name, body, rest, finish, outermost, hb, hn, hl, hq, hm, ht) o =
      subst (λ qs. Before qs) (sym hq)
      (top_owes (record { number = m; scale = record { a = a; b = b }; name = name; body = body } ∷ v.definitions)
      rest t
      outermost
      (λ x. subst (λ i. Expands v.definitions v.frame.layer (i ∷ v.after) rs) same
      (Expands.define m a b name body rest finish hb hn hl x)) ht o)
    where
      same : item_at v.item.offset (Start m a b) ≡ v.item
      same = λ i. record { offset = v.item.offset; command = sym e i }
  step_owes (Delete m) qs ms t e n (outermost, hq, hm, ht) o =
      subst (λ qs. Before qs) (sym hq)
      (top_owes (filter (λ d. int_lt d.number m) v.definitions) v.after t outermost
      (λ x. subst (λ i. Expands v.definitions v.frame.layer (i ∷ v.after) rs) same (Expands.delete m x)) ht o)
    where
      same : item_at v.item.offset (Delete m) ≡ v.item
      same = λ i. record { offset = v.item.offset; command = sym e i }
  step_owes (Round d c) qs ms t e n h o = absurd h
  step_owes Finish qs ms t e n h o = absurd h

back_owes : (ds : List Definition) (f : Frame) (fs : List Frame) (rs : List Rect) → f.left ≡ []
    → Owes ds fs rs → Owes ds (f ∷ fs) rs
back_owes ds f [] rs e o =
    subst (λ is. Expands ds f.layer is rs) (sym e) (subst (λ rs. Expands ds f.layer [] rs) (sym o) Expands.done)
back_owes ds f (g ∷ gs) rs e o = ([], rs, refl, subst (λ is. Draws ds f.scale f.layer is []) (sym e) Draws.done, o)

tail_top : (f : Frame) (fs : List Frame) → EndsAtTop (f ∷ fs) → EndsAtTop fs
tail_top f [] t = tt
tail_top f (g ∷ gs) t = t

walk_owes : (s : State) (rs : List Rect) (ls : List FlatLabel) → Walks s rs ls Whole → EndsAtTop s.frames
    → Owes s.definitions s.frames rs
walk_owes s _ _ (Walks.done h) t = subst (λ fs. Owes s.definitions fs []) (sym h) refl
walk_owes s rs ls (Walks.back f fs h k w) t =
    let o = walk_owes (record s { frames = fs }) rs ls w (tail_top f fs (subst EndsAtTop h t)) in
    subst (λ fs. Owes s.definitions fs rs) (sym h) (back_owes s.definitions f fs rs k o)
walk_owes s _ _ (Walks.step {rs = rs} {ls = ls} v qs ms u h n k w) t =
    let top = subst EndsAtTop h.frames t in
    let o = step_owes v rs h.left top v.item.command qs ms u refl n k (λ t. walk_owes u rs ls w t) in
    subst (λ fs. Owes s.definitions fs (qs ++ rs)) (sym h.frames)
    (subst (λ ds. Owes ds (v.frame ∷ v.outer) (qs ++ rs)) (sym h.definitions) o)

-- What a whole walk of a file draws is the expansion of its commands.
pub walk_draws : WalkIsExpansion
walk_draws items rs ls w = walk_owes (start items) rs ls w (refl, refl)
