-- The walk of a chip's commands: it comes to its end, or breaks the rule of the count.
use Rattle.std.proofs.Common.{ℕ, zero, suc, ◌≡◌, ◌+◌, ◌<◌, ◌⊎◌, inl, inr, refl, sym, ap, subst, arith, List, [], ◌∷◌}
use Rattle.std.proofs.Common.{◌++◌, map, Option, Some, None, All}
use Rattle.std.specs.Prelude.{ℤ, pos, ◌*ℤ◌, int_div, Contains}
use Rattle.std.proofs.lemmas.Int.{ints}
use Rattle.std.proofs.lemmas.Bool.{cases_lt}
use Rattle.std.proofs.lemmas.List.Elements.{All-nil, All-cons, All-head, All-tail}
use Rattle.lam_geom.specs.declared.layer.Layer.{Layer}
use Rattle.lam_geom.specs.declared.layer.Layer.TheVariants.{ND}
use Rattle.lam_geom.specs.declared.rect.Rect.{Rect}
use Rattle.lam_geom.specs.declared.label.FlatLabel.{FlatLabel}
use Rattle.lam_geom.specs.declared.place.Point.{Point}
use Rattle.lam_geom.specs.Moves.{IsNear, IsNearRect}
use Rattle.cif_form.specs.declared.command.Command.{Command}
use Rattle.cif_form.specs.declared.command.Command.TheVariants as commands
use Rattle.cif_form.specs.declared.command.Command.TheVariants.{Start, Finish, User}
use Rattle.cif_form.specs.declared.command.Item.{Item}
use Rattle.cif_form.specs.Fits.{IsSmall}
use Rattle.cif_form.specs.Place.{IsScale, layer_name, placed, unit}
use Rattle.cif_form.specs.Names.{IsSymbolName}
use Rattle.cif_form.specs.Expansion.{Definition, IsInside, Stands, item_at}
use Rattle.cif_form.specs.Walk.{State, Frame, Visit, Visits, Breaks, Steps, DrawRule, draw_rule_number, walk_limit}
use Rattle.cif_form.specs.Walk.{Walks, BreaksNone, top_frame, IsFarPoint, IsFarShape, IsWholePoint, IsLabelAt}
use Rattle.cif_form.specs.Walk.DrawRule.{F1, F2, F3, F4, F5, F6, F7, F8, F9, F10}
use Rattle.cif_form.specs.Walk.WalkEnd.{Whole, Broken}
use Rattle.fabric.specs.declared.chip.ChipLabel.{ChipLabel}
use Rattle.slice_symbols.specs.Heights.{raised}
use Rattle.cif_emit.specs.Emittable.{IsOnLambda, IsPlainLabel}
use Rattle.cif_emit.specs.Commands.{box_of, call_at, label_of, label_words}
use Rattle.cif_emit.proofs.Offsets.{next, laid}
use Rattle.cif_emit.proofs.Painted.{Paints, IsBoxed}
use Rattle.cif_emit.proofs.Edges.{half_lambda, box_edges, box_near}
use Rattle.cif_emit.proofs.Words.{flat_at, flat_labels, words_are_label}
use Rattle.cif_emit.proofs.Raised.{call_moves, half_of, motions, no_rotation, one_move, placed_each, rise}

-- the walk draws these shapes and labels and comes to its end, or breaks the rule of the count
abbrev pub Ends : State → List Rect → List FlatLabel → Type 0
Ends s rs ls = Walks s rs ls Whole
    ⊎ ((shapes : List Rect) × (labels : List FlatLabel) × (offset : ℕ) × Walks s shapes labels (Broken F7 offset))

-- the rule is that of the count
abbrev OnlyCount : Visit → Type 0
OnlyCount v = (rule : DrawRule) → Breaks v rule → rule ≡ F7

-- ---- a step

module _ (s : State) (v : Visit) (qs : List Rect) (ms : List FlatLabel) (t : State) (at : Visits s v)
    (only : OnlyCount v) where
  stops : {rs : List Rect} {ls : List FlatLabel} → Breaks v F7 → Ends s rs ls
  stops b =
      inr ([], [], v.item.offset, Walks.broken v F7 at (b, λ q less broken. not_less q (only q broken) less))
    where
      not_less : (q : DrawRule) → q ≡ F7 → draw_rule_number q < draw_rule_number F7 → ⊥
      not_less q e h = let k : draw_rule_number q ≡ 7 = ap draw_rule_number e in omega arith

  none_breaks : ¬ Breaks v F7 → BreaksNone v
  none_breaks few = λ rule b. few (subst (Breaks v) (only rule b) b)

  goes_on : {rs : List Rect} {ls : List FlatLabel} → ¬ Breaks v F7 → Steps v qs ms t → Ends t rs ls
      → Ends s (qs ++ rs) (ms ++ ls)
  goes_on few steps (inl w) = inl (Walks.step v qs ms t at (none_breaks few) steps w)
  goes_on few steps (inr (shapes, labels, offset, w)) =
      inr (qs ++ shapes, ms ++ labels, offset, Walks.step v qs ms t at (none_breaks few) steps w)

  goes : {rs : List Rect} {ls : List FlatLabel} → (Breaks v F7 ⊎ ¬ Breaks v F7) → Steps v qs ms t → Ends t rs ls
      → Ends s (qs ++ rs) (ms ++ ls)
  goes (inl b) steps e = stops b
  goes (inr n) steps e = goes_on n steps e

decide : (m n : ℕ) → (m < n) ⊎ ¬ (m < n)
decide m n = elim (cases_lt m n) [ inl h ↦ inl h | inr h ↦ inr (λ k. omega arith) ]

-- ---- in the symbol

-- in a symbol that is called and raised so much, where this layer is set
abbrev inner_frame : ℤ → ℤ → Option Layer → List Item → Frame
inner_frame number h l items = record {
  symbol = Some number;
  way = None;
  scale = half_lambda;
  layer = l;
  place = λ r. placed (motions h) r;
  left = items;
}

abbrev inner : List Definition → List (List ℕ) → Frame → ℤ → ℤ → Option Layer → ℕ → List Item → State
inner ds names outer number h l k items =
    record { definitions = ds; count = k; names = names; frames = inner_frame number h l items ∷ outer ∷ [] }

module _ (ds : List Definition) (names : List (List ℕ)) (outer : Frame) (number h : ℤ) where
  abbrev visit : Option Layer → ℕ → Item → List Item → Visit
  visit l k i items = record {
    definitions = ds;
    count = k;
    names = names;
    frame = inner_frame number h l (i ∷ items);
    outer = outer ∷ [];
    item = i;
    after = items;
  }

  visits : (l : Option Layer) (k : ℕ) (i : Item) (items : List Item)
      → Visits (inner ds names outer number h l k (i ∷ items)) (visit l k i items)
  visits l k i items = record { definitions = refl; count = refl; names = refl; frames = refl; left = refl }

  layer_only : (l : Option Layer) (k o : ℕ) (m : Layer) (items : List Item)
      → OnlyCount (visit l k (item_at o (commands.Layer (layer_name m))) items)
  layer_only l k o m items F1 b = absurd b
  layer_only l k o m items F2 b = absurd b
  layer_only l k o m items F3 b = absurd b
  layer_only l k o m items F4 b = absurd b
  layer_only l k o m items F5 b = absurd b
  layer_only l k o m items F6 b = absurd b
  layer_only l k o m items F7 b = refl
  layer_only l k o m items F8 b = absurd b
  layer_only l k o m items F9 b = absurd b
  layer_only l k o m items F10 b = absurd (b m refl)

  layer_ends : {rs : List Rect} {ls : List FlatLabel} (l : Option Layer) (k o : ℕ) (m : Layer) (items : List Item)
      → Ends (inner ds names outer number h (Some m) (k + 1) items) rs ls
      → Ends (inner ds names outer number h l k (item_at o (commands.Layer (layer_name m)) ∷ items)) rs ls
  layer_ends l k o m items e =
      let i : Item = item_at o (commands.Layer (layer_name m)) in
      goes (inner ds names outer number h l k (i ∷ items)) (visit l k i items) [] []
      (inner ds names outer number h (Some m) (k + 1) items)
      (visits l k i items) (layer_only l k o m items) (decide walk_limit (k + 1)) (m, refl, refl, refl, refl) e

  module _ (l : Layer) (r : Rect) (boxed : IsBoxed l r) (near : IsNearRect (raised h r)) (k o : ℕ) (items : List Item)
    where
      abbrev box_visit : Visit
      box_visit = visit (Some l) k (item_at o (box_of r)) items

      not_far : ¬ IsFarShape box_visit
      not_far (rs, edges, far) =
          far (subst (All (λ q. IsNearRect (placed (motions h) q))) (sym edges.1)
          (All-cons (λ q. IsNearRect (placed (motions h) q)) edges.0 []
          (placed_each IsNearRect h edges.0 (box_near r boxed.grid h ND edges.0 near (edges.0, refl, edges.2)))
          (All-nil (λ q. IsNearRect (placed (motions h) q)))))

      box_only : OnlyCount box_visit
      box_only F1 b = absurd b
      box_only F2 b = absurd b
      box_only F3 b = absurd (b (inl (refl, λ e. omega (arith, ints))))
      box_only F4 b = absurd (b (record r { layer = ND } ∷ [])
          (box_edges r boxed.grid ND (record r { layer = ND }) refl refl refl refl refl))
      box_only F5 b = absurd b
      box_only F6 b = absurd b
      box_only F7 b = refl
      box_only F8 b = absurd (not_far b)
      box_only F9 b = absurd (let e : ◌≡◌ {A = Option Layer} (Some l) None = b in cc)
      box_only F10 b = absurd b

      box_ends : {rs : List Rect} {ls : List FlatLabel}
          → Ends (inner ds names outer number h (Some l) (k + 1) items) rs ls
          → Ends (inner ds names outer number h (Some l) k (item_at o (box_of r) ∷ items))
          (placed (motions h) r ∷ rs) ls
      box_ends e =
          goes (inner ds names outer number h (Some l) k (item_at o (box_of r) ∷ items)) box_visit
          (placed (motions h) r ∷ []) []
          (inner ds names outer number h (Some l) (k + 1) items)
          (visits (Some l) k (item_at o (box_of r)) items) box_only (decide walk_limit (k + 1))
          ((l, r ∷ [], refl, box_edges r boxed.grid l r boxed.layer refl refl refl refl, refl, refl), refl) e

  -- behind the last command the walk goes on where the symbol was called
  pub boxes_end : {l : Option Layer} {cs : List Command} {rs : List Rect} → Paints l cs rs
      → All (λ r. IsNearRect (raised h r)) rs → (at : ℕ → ℕ) (k : ℕ) (qs : List Rect) (ls : List FlatLabel)
      → ((n : ℕ) → Ends (record { definitions = ds; count = n; names = names; frames = outer ∷ [] }) qs ls)
      → Ends (inner ds names outer number h l k (laid at cs)) (map (placed (motions h)) rs ++ qs) ls
  boxes_end {l} Paints.none near at k qs ls e = returned (e k)
    where
      returned : Ends (record { definitions = ds; count = k; names = names; frames = outer ∷ [] }) qs ls
          → Ends (inner ds names outer number h l k []) qs ls
      returned (inl w) = inl (Walks.back (inner_frame number h l []) (outer ∷ []) refl refl w)
      returned (inr (shapes, labels, offset, w)) =
          inr (shapes, labels, offset, Walks.back (inner_frame number h l []) (outer ∷ []) refl refl w)
  boxes_end {l} (Paints.layer {cs = cs} m p) near at k qs ls e =
      layer_ends l k (at 0) m (laid (next at) cs) (boxes_end p near (next at) (k + 1) qs ls e)
  boxes_end (Paints.box {l = l} {cs = cs} {rs = rs} r b p) near at k qs ls e =
      box_ends l r b (All-head (λ r. IsNearRect (raised h r)) r rs near) k (at 0) (laid (next at) cs)
      (boxes_end p (All-tail (λ r. IsNearRect (raised h r)) r rs near) (next at) (k + 1) qs ls e)

-- ---- at top level

-- labels of these names were met
abbrev pub top : List Definition → List (List ℕ) → ℕ → List Item → State
top ds names k items = record { definitions = ds; count = k; names = names; frames = top_frame items ∷ [] }

abbrev top_visit : List Definition → List (List ℕ) → ℕ → Item → List Item → Visit
top_visit ds names k i items = record {
  definitions = ds;
  count = k;
  names = names;
  frame = top_frame (i ∷ items);
  outer = [];
  item = i;
  after = items;
}

top_visits : (ds : List Definition) (names : List (List ℕ)) (k : ℕ) (i : Item) (items : List Item)
    → Visits (top ds names k (i ∷ items)) (top_visit ds names k i items)
top_visits ds names k i items = record { definitions = refl; count = refl; names = refl; frames = refl; left = refl }

end_ends : (ds : List Definition) (names : List (List ℕ)) (k : ℕ) → Ends (top ds names k []) [] []
end_ends ds names k = inl (Walks.back (top_frame []) [] refl refl (Walks.done refl))

user_only : (ds : List Definition) (names : List (List ℕ)) (k o : ℕ) (words : List ℕ) (items : List Item)
    → OnlyCount (top_visit ds names k (item_at o (User 9 words)) items)
user_only ds names k o words items F1 b = absurd b
user_only ds names k o words items F2 b = absurd b
user_only ds names k o words items F3 b = absurd b
user_only ds names k o words items F4 b = absurd b
user_only ds names k o words items F5 b = absurd b
user_only ds names k o words items F6 b = absurd b
user_only ds names k o words items F7 b = refl
user_only ds names k o words items F8 b = absurd b
user_only ds names k o words items F9 b = absurd b
user_only ds names k o words items F10 b = absurd b

small_near : (z : ℤ) → IsSmall z → IsNear z
small_near z h = (omega (arith, ints), omega (arith, ints))

-- the words of a label at top level are that label
is_label : (ds : List Definition) (names : List (List ℕ)) (k o : ℕ) (l : ChipLabel) (items : List Item) → IsPlainLabel l
    → IsLabelAt (top_visit ds names k (item_at o (label_of l)) items) 9 (label_words l) (flat_at o l)
is_label ds names k o l items plain = record {
  nine = refl;
  written = flat_at o l;
  is = words_are_label l plain o;
  way = [];
  named = refl;
  x = l.x;
  y = l.y;
  across = (omega (arith, ints), refl);
  up = (omega (arith, ints), refl);
  near = record {
    x0 = small_near l.x plain.x;
    y0 = small_near l.y plain.y;
    x1 = small_near l.x plain.x;
    y1 = small_near l.y plain.y;
  };
  offset = refl;
  name = refl;
  left = refl;
  bottom = refl;
  layer = refl;
}

pub labels_end : (ds : List Definition) (ls : List ChipLabel) → All IsPlainLabel ls → (at : ℕ → ℕ)
    (names : List (List ℕ)) (k : ℕ) → Ends (top ds names k (laid at (map label_of ls))) [] (flat_labels at ls)
labels_end ds [] h at names k = end_ends ds names k
labels_end ds (l ∷ ls) h at names k =
    let i : Item = item_at (at 0) (label_of l) in
    let items : List Item = laid (next at) (map label_of ls) in
    goes (top ds names k (i ∷ items)) (top_visit ds names k i items) [] (flat_at (at 0) l ∷ [])
    (top ds (l.name ∷ names) (k + 1) items) (top_visits ds names k i items)
    (user_only ds names k (at 0) (label_words l) items) (decide walk_limit (k + 1)) (
      inl (
        flat_at (at 0) l,
        is_label ds names k (at 0) l items (All-head IsPlainLabel l ls h),
        inl refl,
        refl,
        refl,
      ),
      refl,
    )
    (labels_end ds ls (All-tail IsPlainLabel l ls h) (next at) (l.name ∷ names) (k + 1))

-- ---- the call

newest_is : (d e : Definition) (ds : List Definition) → Stands (d ∷ ds) d.number e → d ≡ e
newest_is d e ds (Stands.newest h) = refl
newest_is d e ds (Stands.older ne s) = absurd (ne refl)

-- the only frame is that of the top level, which has no symbol
no_symbol : (n : ℤ) (f g : Frame) → Contains (f ∷ []) g → f.symbol ≡ None → g.symbol ≡ Some n → ⊥
no_symbol n f g (zero, h, e) none some =
    let k : f ≡ g = e in let s : f.symbol ≡ g.symbol = ap (λ (x : Frame). x.symbol) k in cc
no_symbol n f g (suc k, h, e) none some = omega arith

whole_point : (p : Point) → IsWholePoint unit p
whole_point p = (
  (pos 2 *ℤ p.x, (omega (arith, ints), refl)),
  (pos 2 *ℤ p.y, (omega (arith, ints), refl)),
)

near_none : (z : ℤ) → pos 1 *ℤ z ≡ pos 1 *ℤ (pos 2 *ℤ pos 0) → IsNear z
near_none z e = (omega (arith, ints), omega (arith, ints))

near_half : (z h q : ℤ) → h ≡ pos 2 *ℤ q → IsSmall h → pos 1 *ℤ z ≡ pos 1 *ℤ (pos 2 *ℤ q) → IsNear z
near_half z h q e s f = (omega (arith, ints), omega (arith, ints))

-- a rise on whole lambda isn't far
not_far_up : (h : ℤ) → IsOnLambda h → ¬ IsFarPoint unit (rise h)
not_far_up h on (z, inl s, far) = far (near_none z s.1)
not_far_up h on (z, inr s, far) = far (near_half z h (int_div h (pos 2)) (half_of h on) on.small s.1)

module _ (number h : ℤ) (on : IsOnLambda h) (body : List Item) (ds : List Definition) (names : List (List ℕ)) (k o : ℕ)
    (items : List Item)
  where
    abbrev own : Definition
    own = record { number = number; scale = half_lambda; name = None; body = body }

    abbrev call_visit : Visit
    call_visit = top_visit (own ∷ ds) names k (item_at o (call_at number h)) items

    call_only : OnlyCount call_visit
    call_only F1 b = absurd (b own (Stands.newest refl))
    call_only F2 b = absurd (no_symbol number (top_frame (item_at o (call_at number h) ∷ items)) b.0 b.1 refl b.2)
    call_only F3 b = absurd (no_rotation h b.0 b.1)
    call_only F4 (inl b) = absurd (b.2 (subst (λ d. IsScale d.scale) (newest_is own b.0 ds b.1)
        (omega (arith, ints), omega (arith, ints))))
    call_only F4 (inr b) = absurd (b.2 (whole_point b.0))
    call_only F5 b = absurd b
    call_only F6 b = absurd b
    call_only F7 b = refl
    call_only F8 b = absurd (not_far_up h on (subst (IsFarPoint unit) (sym (one_move h b.0 b.1)) b.2))
    call_only F9 b = absurd b
    call_only F10 b = absurd b

    pub call_ends : {rs : List Rect} {ls : List FlatLabel}
        → Ends (inner (own ∷ ds) names (top_frame items) number h None (k + 1) body) rs ls
        → Ends (top (own ∷ ds) names k (item_at o (call_at number h) ∷ items)) rs ls
    call_ends e =
        goes (top (own ∷ ds) names k (item_at o (call_at number h) ∷ items)) call_visit [] []
        (inner (own ∷ ds) names (top_frame items) number h None (k + 1) body)
        (top_visits (own ∷ ds) names k (item_at o (call_at number h)) items) call_only (decide walk_limit (k + 1))
        (own, motions h, Stands.newest refl, call_moves h on, refl, refl, refl) e

-- ---- a definition

start_only : (ds : List Definition) (names : List (List ℕ)) (k o : ℕ) (number a b : ℤ) (items : List Item) → OnlyCount
    (top_visit ds names k (item_at o (Start number a b)) items)
start_only ds names k o number a b items F1 h = absurd h
start_only ds names k o number a b items F2 h = absurd h
start_only ds names k o number a b items F3 h = absurd h
start_only ds names k o number a b items F4 h = absurd h
start_only ds names k o number a b items F5 h = absurd h
start_only ds names k o number a b items F6 h = absurd h
start_only ds names k o number a b items F7 h = refl
start_only ds names k o number a b items F8 h = absurd h
start_only ds names k o number a b items F9 h = absurd h
start_only ds names k o number a b items F10 h = absurd h

module _ (number : ℤ) (body : List Item) (inside : All (λ (i : Item). IsInside i.command) body)
    (unnamed : IsSymbolName body None) (ds : List Definition) (names : List (List ℕ)) (k o finish : ℕ)
    (items : List Item)
  where
    abbrev defined : Definition
    defined = record { number = number; scale = half_lambda; name = None; body = body }

    abbrev behind_start : List Item
    behind_start = body ++ (item_at finish Finish ∷ items)

    pub define_ends : {rs : List Rect} {ls : List FlatLabel} → ((n : ℕ) → Ends (top (defined ∷ ds) names n items) rs ls)
        → Ends (top ds names k (item_at o (Start number (pos 125) (pos 1)) ∷ behind_start)) rs ls
    define_ends e =
        let i : Item = item_at o (Start number (pos 125) (pos 1)) in
        goes (top ds names k (i ∷ behind_start)) (top_visit ds names k i behind_start) [] []
        (top (defined ∷ ds) names (k + 0) items) (top_visits ds names k i behind_start)
        (start_only ds names k o number (pos 125) (pos 1) behind_start) (decide walk_limit (k + 0))
        (None, body, items, finish, refl, inside, unnamed, refl, refl, refl, refl) (e (k + 0))
