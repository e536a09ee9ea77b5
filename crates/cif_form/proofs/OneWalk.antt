-- A walk is determined, up to how polygons are filled, and without polygons wholly.
use Rattle.std.proofs.Common.{ℕ, ◌≡◌, inl, inr, refl, sym, ◌∙◌, ap, subst, arith, List, [], ◌∷◌, ◌++◌, true, false, eqb}
use Rattle.std.proofs.Common.{Some, map, All}
use Rattle.std.proofs.lemmas.Bool.{cases_lt}
use Rattle.lam_geom.specs.declared.rect.Rect.{Rect}
use Rattle.lam_geom.specs.declared.label.FlatLabel.{FlatLabel}
use Rattle.cif_form.specs.declared.command.Command.{Command}
use Rattle.cif_form.specs.declared.command.Command.TheVariants.{Polygon, Box, Round, Wire, Layer as SetLayer, Start}
use Rattle.cif_form.specs.declared.command.Command.TheVariants.{Finish, Delete, Call, User, Comment}
use Rattle.cif_form.specs.declared.command.Item.{Item}
use Rattle.cif_form.specs.Place.{IsScaled, HasEdges, cell}
use Rattle.cif_form.specs.Labels.{IsLabelText}
use Rattle.cif_form.specs.Names.{IsSymbolName}
use Rattle.cif_form.specs.Expansion.{Definition, Stands, IsInside, item_at}
use Rattle.cif_form.specs.Laws.{IsNoPolygon, WalkIsUnique, PlainWalkIsUnique}
use Rattle.cif_form.specs.Walk.{Frame, State, Visit, Visits, DrawRule, draw_rule_number, BreaksFirst, BreaksNone}
use Rattle.cif_form.specs.Walk.{StepsByShape, StepsByUser, StepsBy, Steps, WalkEnd, Walks, on_layer, within, at_top}
use Rattle.cif_form.specs.Walk.{IsLabelAt, labelled, start}
use Rattle.cif_form.specs.Walk.DrawRule.{F1, F2, F3, F4, F5, F6, F7, F8, F9, F10}
use Rattle.cif_form.specs.Walk.WalkEnd.{Broken}
use Rattle.cif_form.proofs.OneLabel.{one_layer, one_label}
use Rattle.cif_form.proofs.OnePlace.{one_scaled, one_motions}
use Rattle.cif_form.proofs.OneName.{one_symbol_name}
use Rattle.cif_form.proofs.Filling.{Same, IsMoving, moving_within}
use Rattle.cif_form.proofs.Likeness.{IsLikeness, AnyCommand, squares, rectangles, Each, each_any, EachBody, standing}
use Rattle.cif_form.proofs.Likeness.{split_each}
use Rattle.std.specs.Prelude.{ℤ, int_lt}
use Rattle.std.proofs.lemmas.List.Elements.{All-head, All-tail, All-cons, All-nil, All-filter}
use Rattle.mp_base.proofs.Lists.{head_of, tail_of}
use Rattle.mp_base.proofs.Entries.{one_value}

-- ---- rules

abbrev of_number : ℕ → DrawRule
of_number n = elim (eqb n 1) [
  | true ↦ F1
  | false ↦ elim (eqb n 2) [
    | true ↦ F2
    | false ↦ elim (eqb n 3) [
      | true ↦ F3
      | false ↦ elim (eqb n 4) [
        | true ↦ F4
        | false ↦ elim (eqb n 5) [
          | true ↦ F5
          | false ↦ elim (eqb n 6) [
            | true ↦ F6
            | false ↦ elim (eqb n 7) [
              | true ↦ F7
              | false ↦ elim (eqb n 8) [
                | true ↦ F8
                | false ↦ elim (eqb n 9) [ true ↦ F9 | false ↦ F10 ]
              ]
            ]
          ]
        ]
      ]
    ]
  ]
]

of_its_number : (r : DrawRule) → of_number (draw_rule_number r) ≡ r
of_its_number F1 = refl
of_its_number F2 = refl
of_its_number F3 = refl
of_its_number F4 = refl
of_its_number F5 = refl
of_its_number F6 = refl
of_its_number F7 = refl
of_its_number F8 = refl
of_its_number F9 = refl
of_its_number F10 = refl

same_number : (r q : DrawRule) → draw_rule_number r ≡ draw_rule_number q → r ≡ q
same_number r q e = sym (of_its_number r) ∙ ap of_number e ∙ of_its_number q

one_rule : (v : Visit) (r q : DrawRule) → BreaksFirst v r → BreaksFirst v q → r ≡ q
one_rule v r q h k = elim (cases_lt (draw_rule_number r) (draw_rule_number q)) [
  | inl l ↦ absurd (k.1 r l h.0)
  | inr l ↦ elim (cases_lt (draw_rule_number q) (draw_rule_number r)) [
    | inl m ↦ absurd (h.1 q m k.0)
    | inr m ↦ same_number r q (omega arith)
  ]
]

-- ---- visits

same_visit : {ds es : List Definition} {n m : ℕ} {ns ms : List (List ℕ)} {f g : Frame} {fs gs : List Frame} {i j : Item}
    {is js : List Item}
    → ds ≡ es → n ≡ m → ns ≡ ms → f ≡ g → fs ≡ gs → i ≡ j → is ≡ js
    → (let v : Visit = record {
      definitions = ds;
      count = n;
      names = ns;
      frame = f;
      outer = fs;
      item = i;
      after = is;
    } in
    let w : Visit = record { definitions = es; count = m; names = ms; frame = g; outer = gs; item = j; after = js } in
    v ≡ w)
same_visit a b n c d e f =
    λ i. record { definitions = a i; count = b i; names = n i; frame = c i; outer = d i; item = e i; after = f i }

one_visit : {s : State} (v w : Visit) → Visits s v → Visits s w → v ≡ w
one_visit {s = s} v w h k =
    let e : v.frame ∷ v.outer ≡ w.frame ∷ w.outer = sym h.frames ∙ k.frames in
    let l : v.item ∷ v.after ≡ w.item ∷ w.after = sym h.left ∙ ap (λ f. f.left) (head_of e) ∙ k.left in
    same_visit (sym h.definitions ∙ k.definitions) (sym h.count ∙ k.count) (sym h.names ∙ k.names) (head_of e)
    (tail_of e)
    (head_of l) (tail_of l)

-- ---- frames

-- each frame is placed by motions, and this is true of each command that is left in it
abbrev EachFrame : (Command → Type 0) → List Frame → Type 0
EachFrame Of [] = Unit {0}
EachFrame Of (f ∷ fs) = (IsMoving f.place × Each Of f.left) × EachFrame Of fs

abbrev EachState : (Command → Type 0) → State → Type 0
EachState Of s = EachBody Of s.definitions × EachFrame Of s.frames

-- ---- labels

one_written : (m n : FlatLabel) (text : List ℕ) → IsLabelText m text → IsLabelText n text
    → (m.name ≡ n.name) × (m.x ≡ n.x) × (m.y ≡ n.y) × (m.layer ≡ n.layer)
one_written m n text h k =
    let e = one_label (record m { offset = 0 }) (record n { offset = 0 }) text refl h k in
    (ap (λ l. l.name) e, ap (λ l. l.x) e, ap (λ l. l.y) e, ap (λ l. l.layer) e)

pub one_label_at : (v : Visit) (digit : ℕ) (text : List ℕ) (l m : FlatLabel) → IsLabelAt v digit text l
    → IsLabelAt v digit text m → l ≡ m
one_label_at v digit text l m h k =
    let w = one_written h.written k.written text h.is k.is in
    let way = one_value v.frame.way h.way k.way h.named k.named in
    let x = one_scaled v.frame.scale h.written.x h.x k.x h.across
    (subst (λ z. IsScaled v.frame.scale z k.x) (sym w.1) k.across) in
    let y = one_scaled v.frame.scale h.written.y h.y k.y h.up
    (subst (λ z. IsScaled v.frame.scale z k.y) (sym w.2) k.up) in
    let offset = h.offset ∙ sym k.offset in
    let name = h.name ∙ (λ i. way i ++ w.0 i) ∙ sym k.name in
    let left = h.left ∙ (λ i. (v.frame.place (cell (x i) (y i))).x0) ∙ sym k.left in
    let bottom = h.bottom ∙ (λ i. (v.frame.place (cell (x i) (y i))).y0) ∙ sym k.bottom in
    let layer = h.layer ∙ w.3 ∙ sym k.layer in
    λ i. record { offset = offset i; name = name i; x = left i; y = bottom i; layer = layer i }

one_user : (v : Visit) (digit : ℕ) (text : List ℕ) (ls ms : List FlatLabel) (t u : State)
    → StepsByUser v digit text ls t
    → StepsByUser v digit text ms u → (ls ≡ ms) × (t ≡ u)
one_user v digit text ls ms t u (inl (l, a, b, e, f)) (inl (m, c, d, g, h)) =
    let same = one_label_at v digit text l m a c in (
      e ∙ ap (λ l. l ∷ []) same ∙ sym g,
      f ∙ ap (λ (l : FlatLabel). labelled v l.name) same ∙ sym h,
    )
one_user v digit text ls ms t u (inl (l, a, b, e, f)) (inr (k, g, h)) = absurd (k l a b)
one_user v digit text ls ms t u (inr (k, g, h)) (inl (l, a, b, e, f)) = absurd (k l a b)
one_user v digit text ls ms t u (inr (k, g, h)) (inr (j, e, f)) = (g ∙ sym e, h ∙ sym f)

-- ---- steps

pub one_definition : (ds : List Definition) (n : ℤ) (d e : Definition) → Stands ds n d → Stands ds n e → d ≡ e
one_definition _ _ _ _ (Stands.newest h) (Stands.newest k) = refl
one_definition _ _ _ _ (Stands.newest h) (Stands.older k i) = absurd (k h)
one_definition _ _ _ _ (Stands.older k i) (Stands.newest h) = absurd (k h)
one_definition _ _ _ _ (Stands.older h k) (Stands.older a b) = one_definition _ _ _ _ k b

pub one_body : (body more is js : List Item) (o p : ℕ) → All (λ i. IsInside i.command) body
    → All (λ i. IsInside i.command) more
    → body ++ (item_at o Finish ∷ is) ≡ more ++ (item_at p Finish ∷ js) → (body ≡ more) × (is ≡ js)
one_body [] [] is js o p h k e = (refl, tail_of e)
one_body [] (m ∷ more) is js o p h k e =
    absurd (subst IsInside (sym (ap (λ i. i.command) (head_of e))) (All-head (λ i. IsInside i.command) m more k))
one_body (b ∷ body) [] is js o p h k e =
    absurd (subst IsInside (ap (λ i. i.command) (head_of e)) (All-head (λ i. IsInside i.command) b body h))
one_body (b ∷ body) (m ∷ more) is js o p h k e =
    let r = one_body body more is js o p (All-tail (λ i. IsInside i.command) b body h)
    (All-tail (λ i. IsInside i.command) m more k) (tail_of e) in
    ((λ i. head_of e i ∷ r.0 i), r.1)

no_frames : {f : Frame} {fs : List Frame} → {gs : List Frame} → gs ≡ [] → gs ≡ f ∷ fs → ⊥
no_frames e h = cc

back_or_on : {s : State} (f : Frame) (fs : List Frame) (v : Visit) → s.frames ≡ f ∷ fs → f.left ≡ [] → Visits s v → ⊥
back_or_on f fs v h k i = let e = head_of (sym h ∙ i.frames) in
    let g : [] ≡ v.item ∷ v.after = sym k ∙ ap (λ f. f.left) e ∙ i.left in cc

same_state : (s : State) (fs gs : List Frame) → fs ≡ gs
    → (let t : State = record s { frames = fs } in let u : State = record s { frames = gs } in t ≡ u)
same_state s fs gs e =
    λ i. record { definitions = s.definitions; count = s.count; names = s.names; frames = e i }

module _ (Of : Command → Type 0) (Like : List Rect → List Rect → Type 0) (alike : IsLikeness Of Like) where
  one_shape : (v : Visit) (rs qs : List Rect) (t u : State) → IsMoving v.frame.place → Of v.item.command
      → StepsByShape v rs t → StepsByShape v qs u → Like rs qs × (t ≡ u)
  one_shape v rs qs t u move o (l, es, hl, hb, hrs, ht) (m, fs, kl, kb, krs, kt) =
      let f = one_value v.frame.layer l m hl kl in
      let e = alike.edges v.frame.scale m v.item.command es fs o
      (subst (λ n. HasEdges v.frame.scale n v.item.command es) f hb) kb in
      let placed = alike.at v.frame.place move es fs e in (
        subst (λ z. Like z qs) (sym hrs) (subst (λ z. Like (map v.frame.place es) z) (sym krs) placed),
        ht ∙ sym kt,
      )

  none_same : (rs qs : List Rect) → rs ≡ [] → qs ≡ [] → Like rs qs
  none_same rs qs h k = subst (Like rs) (h ∙ sym k) (alike.itself rs)

  one_step : (v : Visit) (c : Command) (rs qs : List Rect) (ls ms : List FlatLabel) (t u : State)
      → IsMoving v.frame.place → Of v.item.command
      → StepsBy v c rs ls t → StepsBy v c qs ms u → Like rs qs × (ls ≡ ms) × (t ≡ u)
  one_step v (Box a b c d) rs qs ls ms t u move o (h, hl) (k, kl) =
      let r = one_shape v rs qs t u move o h k in (r.0, hl ∙ sym kl, r.1)
  one_step v (Wire w ps) rs qs ls ms t u move o (h, hl) (k, kl) =
      let r = one_shape v rs qs t u move o h k in (r.0, hl ∙ sym kl, r.1)
  one_step v (Polygon ps) rs qs ls ms t u move o (h, hl) (k, kl) =
      let r = one_shape v rs qs t u move o h k in (r.0, hl ∙ sym kl, r.1)
  one_step v (SetLayer name) rs qs ls ms t u move o (l, hl, hr, hs, ht) (m, kl, kr, ks, kt) = (
    none_same rs qs hr kr,
    hs ∙ sym ks,
    ht ∙ ap (λ n. on_layer v (Some n)) (one_layer name l m hl kl) ∙ sym kt,
  )
  one_step v (Call n ts) rs qs ls ms t u move o (d, hm, hd, ha, hr, hs, ht) (e, km, kd, ka, kr, ks, kt) = (
    none_same rs qs hr kr,
    hs ∙ sym ks,
    ht
        ∙ (λ i. within v (one_definition v.definitions n d e hd kd i) (one_motions v.frame.scale ts hm km ha ka i))
        ∙ sym kt,
  )
  one_step v (User digit text) rs qs ls ms t u move o (h, hr) (k, kr) =
      let r = one_user v digit text ls ms t u h k in (none_same rs qs hr kr, r.0, r.1)
  one_step v (Comment text) rs qs ls ms t u move o (hr, hs, ht) (kr, ks, kt) =
      (none_same rs qs hr kr, hs ∙ sym ks, ht ∙ sym kt)
  one_step v (Start n a b) rs qs ls ms t u move o (hn, hb, hf, g, ho, hi, hk, he, hr, hs, ht)
      (kn, kb, kf, p, ko, ki, kk, ke, kr, ks, kt) =
      let e = one_body hb kb hf kf g p hi ki (sym he ∙ ke) in
      let name = one_symbol_name hb hn kn hk (subst (λ z. IsSymbolName z kn) (sym e.0) kk) in (
        none_same rs qs hr kr,
        hs ∙ sym ks,
        ht
            ∙ (λ i. at_top v
            (record { number = n; scale = record { a = a; b = b }; name = name i; body = e.0 i } ∷ v.definitions)
            (e.1 i))
            ∙ sym kt,
      )
  one_step v (Delete n) rs qs ls ms t u move o (ho, hr, hs, ht) (ko, kr, ks, kt) =
      (none_same rs qs hr kr, hs ∙ sym ks, ht ∙ sym kt)
  one_step v (Round a b) rs qs ls ms t u move o h k = absurd h
  one_step v Finish rs qs ls ms t u move o h k = absurd h

  -- what is so before a step is so behind it
  steps_keep : (v : Visit) (c : Command) (rs : List Rect) (ls : List FlatLabel) (t : State) → EachBody Of v.definitions
      → IsMoving v.frame.place → Each Of v.after → EachFrame Of v.outer → StepsBy v c rs ls t → EachState Of t
  steps_keep v (Box a b c d) rs ls t h m e o ((l, es, hl, hb, hrs, ht), k) = subst (EachState Of) (sym ht) (
    h,
    ((m, e), o),
  )
  steps_keep v (Wire w ps) rs ls t h m e o ((l, es, hl, hb, hrs, ht), k) = subst (EachState Of) (sym ht) (
    h,
    ((m, e), o),
  )
  steps_keep v (Polygon ps) rs ls t h m e o ((l, es, hl, hb, hrs, ht), k) = subst (EachState Of) (sym ht) (
    h,
    ((m, e), o),
  )
  steps_keep v (SetLayer name) rs ls t h m e o (l, hl, hr, hs, ht) = subst (EachState Of) (sym ht) (h, ((m, e), o))
  steps_keep v (Call n ts) rs ls t h m e o (d, ms, hd, ha, hr, hs, ht) =
      let body = standing Of v.definitions n d h hd in
      subst (EachState Of) (sym ht) (h, ((moving_within v.frame.place ms m, body), ((m, e), o)))
  steps_keep v (User digit text) rs ls t h m e o (inl (l, a, b, g, f), k) = subst (EachState Of) (sym f) (
    h,
    ((m, e), o),
  )
  steps_keep v (User digit text) rs ls t h m e o (inr (a, g, f), k) = subst (EachState Of) (sym f) (h, ((m, e), o))
  steps_keep v (Comment text) rs ls t h m e o (hr, hs, ht) = subst (EachState Of) (sym ht) (h, ((m, e), o))
  steps_keep v (Start n a b) rs ls t h m e o (name, body, rest, p, ho, hi, hk, he, hr, hs, ht) =
      let parts = split_each Of body (item_at p Finish ∷ rest) (subst (Each Of) he e) in
      let behind = All-tail (λ i. Of i.command) (item_at p Finish) rest parts.1 in
      let d : Definition = record { number = n; scale = record { a = a; b = b }; name = name; body = body } in
      subst (EachState Of) (sym ht)
      (All-cons (λ (d : Definition). Each Of d.body) d v.definitions parts.0 h, ((m, behind), tt))
  steps_keep v (Delete n) rs ls t h m e o (ho, hr, hs, ht) =
      subst (EachState Of) (sym ht)
      (All-filter (λ (d : Definition). int_lt d.number n) (λ d. Each Of d.body) v.definitions h, ((m, e), tt))
  steps_keep v (Round a b) rs ls t h m e o k = absurd k
  steps_keep v Finish rs ls t h m e o k = absurd k

  -- What a walk draws is determined up to the likeness, and its labels and how it ends are.
  pub one_walk : (s : State) (rs qs : List Rect) (ls ms : List FlatLabel) (e g : WalkEnd) → EachState Of s
      → Walks s rs ls e → Walks s qs ms g → Like rs qs × (ls ≡ ms) × (e ≡ g)
  one_walk s _ _ _ _ _ _ m (Walks.done a) (Walks.done b) = (alike.itself [], refl, refl)
  one_walk s _ _ _ _ _ _ m (Walks.done a) (Walks.back f fs b c w) = absurd (no_frames a b)
  one_walk s _ _ _ _ _ _ m (Walks.done a) (Walks.broken v r b c) = absurd (no_frames a b.frames)
  one_walk s _ _ _ _ _ _ m (Walks.done a) (Walks.step v qs ms t b c d w) = absurd (no_frames a b.frames)
  one_walk s _ _ _ _ _ _ m (Walks.back f fs b c w) (Walks.done a) = absurd (no_frames a b)
  one_walk s rs qs ls ms e g m (Walks.back f fs b c w) (Walks.back h hs i j x) =
      one_walk (record s { frames = fs }) rs qs ls ms e g (m.0, (subst (EachFrame Of) b m.1).1) w
      (subst (λ t. Walks t qs ms g) (same_state s hs fs (tail_of (sym i ∙ b))) x)
  one_walk s _ _ _ _ _ _ m (Walks.back f fs b c w) (Walks.broken v r i j) = absurd (back_or_on f fs v b c i)
  one_walk s _ _ _ _ _ _ m (Walks.back f fs b c w) (Walks.step v qs ms t i j k x) = absurd (back_or_on f fs v b c i)
  one_walk s _ _ _ _ _ _ m (Walks.broken v r b c) (Walks.done a) = absurd (no_frames a b.frames)
  one_walk s _ _ _ _ _ _ m (Walks.broken v r i j) (Walks.back f fs b c w) = absurd (back_or_on f fs v b c i)
  one_walk s _ _ _ _ _ _ m (Walks.broken v r a b) (Walks.broken w q c d) =
      let e = one_visit v w a c in
      let k = one_rule v r q b (subst (λ w. BreaksFirst w q) (sym e) d) in
      (alike.itself [], refl, λ i. Broken (k i) (e i).item.offset)
  one_walk s _ _ _ _ _ _ m (Walks.broken v r a b) (Walks.step w qs ms t c d h x) =
      absurd (subst (λ w. BreaksNone w) (sym (one_visit v w a c)) d r b.0)
  one_walk s _ _ _ _ _ _ m (Walks.step v qs ms t i j k x) (Walks.done a) = absurd (no_frames a i.frames)
  one_walk s _ _ _ _ _ _ m (Walks.step v qs ms t i j k x) (Walks.back f fs b c w) = absurd (back_or_on f fs v b c i)
  one_walk s _ _ _ _ _ _ m (Walks.step w qs ms t c d h x) (Walks.broken v r a b) =
      absurd (subst (λ w. BreaksNone w) (sym (one_visit v w a c)) d r b.0)
  one_walk s _ _ _ _ e g m (Walks.step {rs = rs} {ls = ls} v qs ms t a b c x)
      (Walks.step {rs = ss} {ls = ns} w ps os u d h i y) =
      let frames : (IsMoving v.frame.place × Each Of v.frame.left) × EachFrame Of v.outer =
      subst (EachFrame Of) a.frames m.1 in
      let items = subst (Each Of) a.left frames.0.1 in
      let here = All-head (λ i. Of i.command) v.item v.after items in
      let after = All-tail (λ i. Of i.command) v.item v.after items in
      let bodies = subst (EachBody Of) a.definitions m.0 in
      let k = one_step v v.item.command qs ps ms os t u frames.0.0 here c
      (subst (λ w. Steps w ps os u) (sym (one_visit v w a d)) i) in
      let on = steps_keep v v.item.command qs ms t bodies frames.0.0 after frames.1 c in
      let l = one_walk t rs ss ls ns e g on x (subst (λ t. Walks t ss ns g) (sym k.2) y) in
      (alike.append qs ps rs ss k.0 l.0, (λ i. k.1 i ++ l.1 i), l.2)

pub walk_is_unique : WalkIsUnique
walk_is_unique items rs qs ls ms e g w x =
    let bodies : EachBody AnyCommand [] = All-nil (λ d. Each AnyCommand d.body) in
    let top : EachState AnyCommand (start items) = (bodies, ((([], λ r. refl), each_any items), tt)) in
    one_walk AnyCommand Same squares (start items) rs qs ls ms e g top w x

pub plain_walk_is_unique : PlainWalkIsUnique
plain_walk_is_unique items rs qs ls ms e g plain w x =
    let bodies : EachBody IsNoPolygon [] = All-nil (λ d. Each IsNoPolygon d.body) in
    let top : EachState IsNoPolygon (start items) = (bodies, ((([], λ r. refl), plain), tt)) in
    (one_walk IsNoPolygon (λ rs qs. rs ≡ qs) rectangles (start items) rs qs ls ms e g top w x).0
