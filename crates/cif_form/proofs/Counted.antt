-- A walk counts what its commands count.
use Rattle.std.proofs.Common.{ℕ, ◌≡◌, ◌+◌, ◌≤◌, ◌<◌, inl, inr, refl, sym, ◌∙◌, ap, subst, arith, List, [], ◌∷◌, ◌++◌}
use Rattle.std.specs.Prelude.{ℤ, All, filter, int_lt, Option, Some, None}
use Rattle.std.proofs.lemmas.Bool.{cases_lt}
use Rattle.lam_geom.specs.declared.layer.Layer.{Layer}
use Rattle.lam_geom.specs.declared.rect.Rect.{Rect}
use Rattle.lam_geom.specs.declared.label.FlatLabel.{FlatLabel}
use Rattle.cif_form.specs.declared.command.Turn.{Turn}
use Rattle.cif_form.specs.declared.command.Command.{Command}
use Rattle.cif_form.specs.declared.command.Command.TheVariants.{Polygon, Box, Round, Wire, Layer as SetLayer, Start}
use Rattle.cif_form.specs.declared.command.Command.TheVariants.{Finish, Delete, Call, User, Comment}
use Rattle.cif_form.specs.declared.command.Item.{Item}
use Rattle.cif_form.specs.Place.{placed}
use Rattle.cif_form.specs.Names.{IsSymbolName, way_into}
use Rattle.cif_form.specs.Expansion.{Definition, Stands, item_at, IsInside}
use Rattle.cif_form.specs.Walk.{Frame, State, Visit, Visits, BreaksBy, BreaksNone, Breaks, StepsBy, Walks, WalkEnd}
use Rattle.cif_form.specs.Walk.{weight, walk_limit, start}
use Rattle.cif_form.specs.Walk.DrawRule.{F7}
use Rattle.cif_form.specs.Walk.WalkEnd.{Whole, Broken}
use Rattle.cif_form.specs.Counts.{IsNoCall, Counts, CountsAtTop, WalkIsCounted, CountKeepsLimit}
use Rattle.cif_form.proofs.OneName.{one_symbol_name}
use Rattle.cif_form.proofs.OneWalk.{one_definition, one_body}

-- the definition of a symbol
abbrev made : ℤ → ℤ → ℤ → Option (List ℕ) → List Item → Definition
made n a b name body = record { number = n; scale = record { a = a; b = b }; name = name; body = body }

-- what these frames have left counts so many
abbrev Left : List Definition → List Frame → ℕ → Type 0
Left ds [] n = n ≡ 0
Left ds (f ∷ []) n = CountsAtTop ds f.left n
Left ds (f ∷ g ∷ fs) n = (a : ℕ) × (b : ℕ) × (n ≡ a + b) × Counts ds f.left a × Left ds (g ∷ fs) b

-- ---- parts of counts

none_left : (ds : List Definition) (n : ℕ) → Counts ds [] n → n ≡ 0
none_left ds n Counts.none = refl

one_less : (ds : List Definition) (i : Item) (is : List Item) (n : ℕ) → IsNoCall i.command → Counts ds (i ∷ is) n
    → (k : ℕ) × Counts ds is k × (n ≡ weight i.command + k)
one_less ds i is n plain (Counts.call m ts d e s b r) = absurd (subst IsNoCall e plain)
one_less ds i is n plain (Counts.other {rest = k} h r) = (k, r, refl)

call_less : (ds : List Definition) (i : Item) (is : List Item) (n : ℕ) (m : ℤ) (ts : List Turn) (d : Definition)
    → i.command ≡ Call m ts
    → Stands ds m d → Counts ds (i ∷ is) n → (a : ℕ) × (b : ℕ) × Counts ds d.body a × Counts ds is b × (n ≡ 1 + (a + b))
call_less ds i is n m ts d e s (Counts.call {inner = a} {rest = b} m2 ts2 d2 e2 s2 body r) =
    let same : Call m2 ts2 ≡ Call m ts = sym e2 ∙ e in
    let number : m2 ≡ m = cc in
    let one : d2 ≡ d = one_definition ds m d2 d (subst (λ z. Stands ds z d2) number s2) s in
    (a, b, subst (λ x. Counts ds x.body a) one body, r, refl)
call_less ds i is n m ts d e s (Counts.other h r) = absurd (subst IsNoCall e h)

top_less : (ds : List Definition) (i : Item) (is : List Item) (n : ℕ) → IsInside i.command → CountsAtTop ds (i ∷ is) n
    → (a : ℕ) × (b : ℕ) × Counts ds (i ∷ []) a × CountsAtTop ds is b × (n ≡ a + b)
top_less ds i is n ok (CountsAtTop.item {one = a} {rest = b} h one r) = (a, b, one, r, refl)
top_less ds i is n ok (CountsAtTop.define m a b name body after p e h k s r) = absurd (subst IsInside e ok)
top_less ds i is n ok (CountsAtTop.delete m e r) = absurd (subst IsInside e ok)

start_less : (ds : List Definition) (i : Item) (after : List Item) (n : ℕ) (m a b : ℤ) (name : Option (List ℕ))
    (body is : List Item) (p : ℕ) → i.command ≡ Start m a b
    → All (λ (j : Item). IsInside j.command) body → IsSymbolName body name → after ≡ body ++ (item_at p Finish ∷ is)
    → CountsAtTop ds (i ∷ after) n
    → CountsAtTop (made m a b name body ∷ ds) is n
start_less ds i after n m a b name body is p e ok named s (CountsAtTop.item h one r) = absurd (subst IsInside e h)
start_less ds i after n m a b name body is p e ok named s
    (CountsAtTop.define m2 a2 b2 name2 body2 is2 p2 e2 ok2 named2 s2 r) =
    let same : Start m2 a2 b2 ≡ Start m a b = sym e2 ∙ e in
    let number : m2 ≡ m = cc in
    let top : a2 ≡ a = cc in
    let bottom : b2 ≡ b = cc in
    let parts = one_body body2 body is2 is p2 p ok2 ok (sym s2 ∙ s) in
    let called = one_symbol_name body name2 name (subst (λ z. IsSymbolName z name2) parts.0 named2) named in
    subst (λ z. CountsAtTop (made m a b name body ∷ ds) z n) parts.1
    (subst (λ z. CountsAtTop (made m a b name z ∷ ds) is2 n) parts.0
    (subst (λ z. CountsAtTop (made m a b z body2 ∷ ds) is2 n) called
    (subst (λ z. CountsAtTop (made m a z name2 body2 ∷ ds) is2 n) bottom
    (subst (λ z. CountsAtTop (made m z b2 name2 body2 ∷ ds) is2 n) top
    (subst (λ z. CountsAtTop (made z a2 b2 name2 body2 ∷ ds) is2 n) number r)))))
start_less ds i after n m a b name body is p e ok named s (CountsAtTop.delete m2 e2 r) =
    absurd (let same : Delete m2 ≡ Start m a b = sym e2 ∙ e in cc)

delete_less : (ds : List Definition) (i : Item) (is : List Item) (n : ℕ) (m : ℤ) → i.command ≡ Delete m
    → CountsAtTop ds (i ∷ is) n
    → (k : ℕ) × CountsAtTop (filter (λ (d : Definition). int_lt d.number m) ds) is k × (n ≡ 1 + k)
delete_less ds i is n m e (CountsAtTop.item h one r) = absurd (subst IsInside e h)
delete_less ds i is n m e (CountsAtTop.define m2 a b name body after p e2 h k s r) =
    absurd (let same : Start m2 a b ≡ Delete m = sym e2 ∙ e in cc)
delete_less ds i is n m e (CountsAtTop.delete {rest = k} m2 e2 r) =
    let same : Delete m2 ≡ Delete m = sym e2 ∙ e in
    let number : m2 ≡ m = cc in
    (k, subst (λ z. CountsAtTop (filter (λ (d : Definition). int_lt d.number z) ds) is k) number r, refl)

-- ---- frames before and after a command

module _ (ds : List Definition) (f g : Frame) (i : Item) (after : List Item)
    (was : f.left ≡ i ∷ after) (is : g.left ≡ after) where
  plain_back : (outer : List Frame) → IsNoCall i.command → IsInside i.command → (k : ℕ) → Left ds (g ∷ outer) k
      → Left ds (f ∷ outer) (weight i.command + k)
  plain_back [] plain ok k o =
      let num : weight i.command + 0 + k ≡ weight i.command + k = omega arith in
      let behind : CountsAtTop ds after k = subst (λ x. CountsAtTop ds x k) is o in
      subst (λ x. CountsAtTop ds x (weight i.command + k)) (sym was)
      (subst (CountsAtTop ds (i ∷ after)) num (CountsAtTop.item ok (Counts.other plain Counts.none) behind))
  plain_back (h ∷ hs) plain ok k (a, b, e, p, o) = (
    weight i.command + a,
    b,
    omega (arith, e),
    subst (λ x. Counts ds x (weight i.command + a)) (sym was) (Counts.other plain (subst (λ x. Counts ds x a) is p)),
    o,
  )

  plain_on : (outer : List Frame) → IsNoCall i.command → IsInside i.command → (n : ℕ) → Left ds (f ∷ outer) n
      → (k : ℕ) × Left ds (g ∷ outer) k × (n ≡ weight i.command + k)
  plain_on [] plain ok n o =
      let t = top_less ds i after n ok (subst (λ x. CountsAtTop ds x n) was o) in
      let w = one_less ds i [] t.0 plain t.2 in
      let z = none_left ds w.0 w.1 in
      (t.1, subst (λ x. CountsAtTop ds x t.1) (sym is) t.3, omega (arith, t.4, w.2, z))
  plain_on (h ∷ hs) plain ok n (a, b, e, p, o) =
      let w = one_less ds i after a plain (subst (λ x. Counts ds x a) was p) in
      (w.0 + b, (w.0, b, refl, subst (λ x. Counts ds x w.0) (sym is) w.1, o), omega (arith, e, w.2))

  module _ (m : ℤ) (ts : List Turn) (d : Definition) (calls : i.command ≡ Call m ts) (stands : Stands ds m d)
      (h : Frame) (body : h.left ≡ d.body) where
    inside : IsInside i.command
    inside = subst IsInside (sym calls) tt

    call_back : (outer : List Frame) → (k : ℕ) → Left ds (h ∷ g ∷ outer) k → Left ds (f ∷ outer) (1 + k)
    call_back [] k (a, b, e, p, o) =
        let num : 1 + (a + 0) + b ≡ 1 + k = omega (arith, e) in
        let behind : CountsAtTop ds after b = subst (λ x. CountsAtTop ds x b) is o in
        let called : Counts ds d.body a = subst (λ x. Counts ds x a) body p in
        subst (λ x. CountsAtTop ds x (1 + k)) (sym was)
        (subst (CountsAtTop ds (i ∷ after)) num
        (CountsAtTop.item inside (Counts.call m ts d calls stands called Counts.none) behind))
    call_back (x ∷ xs) k (a, b, e, p, (a2, b2, e2, p2, o)) = (
      1 + (a + a2),
      b2,
      omega (arith, e, e2),
      subst (λ y. Counts ds y (1 + (a + a2))) (sym was)
          (Counts.call m ts d calls stands (subst (λ y. Counts ds y a) body p) (subst (λ y. Counts ds y a2) is p2)),
      o,
    )

    call_on : (outer : List Frame) → (n : ℕ) → Left ds (f ∷ outer) n → (k : ℕ) × Left ds (h ∷ g ∷ outer) k × (n ≡ 1 + k)
    call_on [] n o =
        let t = top_less ds i after n inside (subst (λ x. CountsAtTop ds x n) was o) in
        let w = call_less ds i [] t.0 m ts d calls stands t.2 in
        let z = none_left ds w.1 w.3 in (
          w.0 + t.1,
          (w.0, t.1, refl, subst (λ x. Counts ds x w.0) (sym body) w.2, subst (λ x. CountsAtTop ds x t.1) (sym is) t.3),
          omega (arith, t.4, w.4, z),
        )
    call_on (x ∷ xs) n (a, b, e, p, o) =
        let w = call_less ds i after a m ts d calls stands (subst (λ y. Counts ds y a) was p) in
        let called : Counts ds h.left w.0 = subst (λ y. Counts ds y w.0) (sym body) w.2 in
        let behind : Counts ds g.left w.1 = subst (λ y. Counts ds y w.1) (sym is) w.3 in (
          w.0 + (w.1 + b),
          (w.0, w.1 + b, refl, called, (w.1, b, refl, behind, o)),
          omega (arith, e, w.4),
        )

-- ---- a step

-- the state in which v is next
abbrev here : Visit → ℕ → Type 0
here v n = Left v.definitions (v.frame ∷ v.outer) n

abbrev there : State → ℕ → Type 0
there t k = Left t.definitions t.frames k

-- what is left before a step and after it, and the counts of the two
record Ties (v : Visit) (t : State) : Type 0 where
  back : (k : ℕ) → there t k → (n : ℕ) × here v n × (v.count + n ≡ t.count + k)
  on : (n : ℕ) → here v n → (k : ℕ) × there t k × (v.count + n ≡ t.count + k)
  grown : v.count + weight v.item.command ≡ t.count

module _ (v : Visit) (was : v.frame.left ≡ v.item ∷ v.after) where
  -- the state behind the command, with this frame in place of its own, and these names
  abbrev moved : Frame → List (List ℕ) → State
  moved g names =
      record {
        definitions = v.definitions;
        count = v.count + weight v.item.command;
        names = names;
        frames = g ∷
            v.outer;
      }

  abbrev size : ℕ
  size = weight v.item.command

  -- a command that stays in its frame, with whatever layer
  plain_ties : IsNoCall v.item.command → IsInside v.item.command → (g : Frame) → g.left ≡ v.after
      → (names : List (List ℕ)) (t : State) → t ≡ moved g names → Ties v t
  plain_ties plain ok g is names t e = subst (Ties v) (sym e) (record {
    back =
        λ k o. (size + k, plain_back v.definitions v.frame g v.item v.after was is v.outer plain ok k o, omega arith);
    on = λ n o. (let w = plain_on v.definitions v.frame g v.item v.after was is v.outer plain ok n o in
        (w.0, w.1, omega (arith, w.2)));
    grown = refl;
  })

  -- a shape, a label or a comment
  stays : IsNoCall v.item.command → IsInside v.item.command → (l : Option Layer) (names : List (List ℕ)) (t : State)
      → (let g : Frame = record v.frame { layer = l; left = v.after } in t ≡ moved g names) → Ties v t
  stays plain ok l names t e =
      (let g : Frame = record v.frame { layer = l; left = v.after } in plain_ties plain ok g refl names t e)

  top_only : (outer : List Frame) → outer ≡ [] → (n : ℕ) → Left v.definitions (v.frame ∷ outer) n
      → CountsAtTop v.definitions (v.item ∷ v.after) n
  top_only [] e n o = subst (λ x. CountsAtTop v.definitions x n) was o
  top_only (h ∷ hs) e n o = absurd (cc)

  top_back : (outer : List Frame) → outer ≡ [] → (n : ℕ) → CountsAtTop v.definitions (v.item ∷ v.after) n
      → Left v.definitions (v.frame ∷ outer) n
  top_back [] e n o = subst (λ x. CountsAtTop v.definitions x n) (sym was) o
  top_back (h ∷ hs) e n o = absurd (cc)

  ties : (c : Command) → v.item.command ≡ c → (rs : List Rect) (ls : List FlatLabel) (t : State) → StepsBy v c rs ls t
      → Ties v t
  ties (Box a b c d) e rs ls t (h, hl) =
      stays (subst IsNoCall (sym e) tt) (subst IsInside (sym e) tt) v.frame.layer v.names t h.5
  ties (Wire w ps) e rs ls t (h, hl) =
      stays (subst IsNoCall (sym e) tt) (subst IsInside (sym e) tt) v.frame.layer v.names t h.5
  ties (Polygon ps) e rs ls t (h, hl) =
      stays (subst IsNoCall (sym e) tt) (subst IsInside (sym e) tt) v.frame.layer v.names t h.5
  ties (SetLayer name) e rs ls t (l, hl, hr, hs, ht) =
      stays (subst IsNoCall (sym e) tt) (subst IsInside (sym e) tt) (Some l) v.names t ht
  ties (User digit text) e rs ls t (inl (l, at, new, hl, ht), hr) =
      stays (subst IsNoCall (sym e) tt) (subst IsInside (sym e) tt) v.frame.layer (l.name ∷ v.names) t ht
  ties (User digit text) e rs ls t (inr (none, hl, ht), hr) =
      stays (subst IsNoCall (sym e) tt) (subst IsInside (sym e) tt) v.frame.layer v.names t ht
  ties (Comment text) e rs ls t (hr, hs, ht) =
      stays (subst IsNoCall (sym e) tt) (subst IsInside (sym e) tt) v.frame.layer v.names t ht
  ties (Call m ts) e rs ls t (d, ms, stands, motions, hr, hs, ht) =
      let g : Frame = record v.frame { left = v.after } in
      let h : Frame = record {
        symbol = Some d.number;
        way = way_into v.frame.way d.name;
        scale = d.scale;
        layer = None;
        place = λ r. v.frame.place (placed ms r);
        left = d.body;
      } in
      subst (Ties v) (sym ht) (record {
        back = λ k o. (
          1 + k,
          call_back v.definitions v.frame g v.item v.after was refl m ts d e stands h refl v.outer k o,
          omega arith,
        );
        on = λ n o. (let on_call = call_on v.definitions v.frame g v.item v.after was refl m ts d e stands h refl in
            let w = on_call v.outer n o in
            (w.0, w.1, omega (arith, w.2)));
        grown = ap (λ c. v.count + weight c) e;
      })
  ties (Start m a b) e rs ls t (name, body, is, p, outer, ok, named, s, hr, hs, ht) =
      let none : weight v.item.command ≡ 0 = ap weight e in
      subst (Ties v) (sym ht) (record {
        back = λ k o. (
          k,
          top_back v.outer outer k (CountsAtTop.define m a b name body is p e ok named s o),
          omega
              (arith, none),
        );
        on =
            λ n o. (let at_top = top_only v.outer outer n o in
            let w = start_less v.definitions v.item v.after n m a b name body is p e ok named s at_top in
            (n, w, omega (arith, none)));
        grown = refl;
      })
  ties (Delete m) e rs ls t (outer, hr, hs, ht) =
      let one : weight v.item.command ≡ 1 = ap weight e in
      subst (Ties v) (sym ht) (record {
        back = λ k o. (1 + k, top_back v.outer outer (1 + k) (CountsAtTop.delete m e o), omega (arith, one));
        on = λ n o. (let w = delete_less v.definitions v.item v.after n m e (top_only v.outer outer n o) in
            (w.0, w.1, omega (arith, one, w.2)));
        grown = refl;
      })
  ties (Round a b) e rs ls t h = absurd h
  ties Finish e rs ls t h = absurd h

-- ---- rule F7

over : (v : Visit) (c : Command) → walk_limit < v.count + weight c → BreaksBy v c F7
over v (Polygon ps) h = h
over v (Box a b c d) h = h
over v (Round a b) h = h
over v (Wire w ps) h = h
over v (SetLayer name) h = h
over v (Start n a b) h = h
over v Finish h = h
over v (Delete n) h = h
over v (Call n ts) h = h
over v (User digit text) h = h
over v (Comment text) h = h

is_over : (v : Visit) (c : Command) → BreaksBy v c F7 → walk_limit < v.count + weight c
is_over v (Polygon ps) h = h
is_over v (Box a b c d) h = h
is_over v (Round a b) h = h
is_over v (Wire w ps) h = h
is_over v (SetLayer name) h = h
is_over v (Start n a b) h = h
is_over v Finish h = h
is_over v (Delete n) h = h
is_over v (Call n ts) h = h
is_over v (User digit text) h = h
is_over v (Comment text) h = h

not_over : (v : Visit) → BreaksNone v → v.count + weight v.item.command ≤ walk_limit
not_over v none = elim (cases_lt walk_limit (v.count + weight v.item.command)) [
  | inl lt ↦ absurd (none F7 (over v v.item.command lt))
  | inr le ↦ le
]

-- a command counts its weight at least
weight_counts : (ds : List Definition) (i : Item) (is : List Item) (n : ℕ) → Counts ds (i ∷ is) n → weight i.command ≤ n
weight_counts ds i is n (Counts.call m ts d e s b r) =
    let one : weight i.command ≡ 1 = ap weight e in omega (arith, one)
weight_counts ds i is n (Counts.other h r) = omega arith

weight_at_top : (ds : List Definition) (i : Item) (is : List Item) (n : ℕ) → CountsAtTop ds (i ∷ is) n
    → weight i.command ≤ n
weight_at_top ds i is n (CountsAtTop.item {one = a} h one r) = let w = weight_counts ds i [] a one in omega (arith, w)
weight_at_top ds i is n (CountsAtTop.define m a b name body after p e h k s r) =
    let none : weight i.command ≡ 0 = ap weight e in omega (arith, none)
weight_at_top ds i is n (CountsAtTop.delete m e r) = let one : weight i.command ≡ 1 = ap weight e in omega (arith, one)

weight_here : (ds : List Definition) (f : Frame) (outer : List Frame) (i : Item) (after : List Item) (n : ℕ)
    → f.left ≡ i ∷ after
    → Left ds (f ∷ outer) n → weight i.command ≤ n
weight_here ds f [] i after n was o = weight_at_top ds i after n (subst (λ x. CountsAtTop ds x n) was o)
weight_here ds f (h ∷ hs) i after n was (a, b, e, p, o) =
    let w = weight_counts ds i after a (subst (λ x. Counts ds x a) was p) in
    omega (arith, e, w)

-- ---- walks

frame_back : (ds : List Definition) (f : Frame) (fs : List Frame) (n : ℕ) → f.left ≡ [] → Left ds fs n
    → Left ds (f ∷ fs) n
frame_back ds f [] n e o = subst (λ x. CountsAtTop ds x n) (sym e) (subst (CountsAtTop ds []) (sym o) CountsAtTop.none)
frame_back ds f (g ∷ gs) n e o = (0, n, omega arith, subst (λ x. Counts ds x 0) (sym e) Counts.none, o)

top_none : (ds : List Definition) (n : ℕ) → CountsAtTop ds [] n → n ≡ 0
top_none ds n CountsAtTop.none = refl

frame_on : (ds : List Definition) (f : Frame) (fs : List Frame) (n : ℕ) → f.left ≡ [] → Left ds (f ∷ fs) n
    → Left ds fs n
frame_on ds f [] n e o = top_none ds n (subst (λ x. CountsAtTop ds x n) e o)
frame_on ds f (g ∷ gs) n e (a, b, k, p, o) =
    let z = none_left ds a (subst (λ x. Counts ds x a) e p) in
    let same : b ≡ n = omega (arith, k, z) in
    subst (Left ds (g ∷ gs)) same o

-- what is left in a state
abbrev Leaves : State → ℕ → Type 0
Leaves s n = Left s.definitions s.frames n

at_visit : (s : State) (v : Visit) (n : ℕ) → Visits s v → Leaves s n → here v n
at_visit s v n vis o =
    subst (λ fs. Left v.definitions fs n) vis.frames (subst (λ ds. Left ds s.frames n) vis.definitions o)

from_visit : (s : State) (v : Visit) (n : ℕ) → Visits s v → here v n → Leaves s n
from_visit s v n vis o =
    subst (λ ds. Left ds s.frames n) (sym vis.definitions) (subst (λ fs. Left v.definitions fs n) (sym vis.frames) o)

-- a whole walk counts what is left
counted : (s : State) (rs : List Rect) (ls : List FlatLabel) (e : WalkEnd) → Walks s rs ls e → e ≡ Whole
    → s.count ≤ walk_limit
    → (n : ℕ) × Leaves s n × (s.count + n ≤ walk_limit)
counted s _ _ _ (Walks.done a) w le = (0, subst (λ fs. Left s.definitions fs 0) (sym a) refl, omega (arith, le))
counted s _ _ e (Walks.back {rs = rs} {ls = ls} f fs a b x) w le =
    let k = counted (record s { frames = fs }) rs ls e x w le in
    (k.0, subst (λ gs. Left s.definitions gs k.0) (sym a) (frame_back s.definitions f fs k.0 b k.1), k.2)
counted s _ _ _ (Walks.broken v r a b) w le = absurd (cc)
counted s _ _ e (Walks.step {rs = rs} {ls = ls} v qs ms t vis none st x) w le =
    let tie = ties v vis.left v.item.command refl qs ms t st in
    let low = not_over v none in
    let grown = tie.grown in
    let k = counted t rs ls e x w (omega (arith, low, grown)) in
    let n = tie.back k.0 k.1 in
    let same = vis.count in
    (n.0, from_visit s v n.0 vis n.1, omega (arith, same, n.2, k.2))

-- a count within the limit breaks plain F7
limited : (s : State) (rs : List Rect) (ls : List FlatLabel) (e : WalkEnd) → Walks s rs ls e → (offset : ℕ)
    → e ≡ Broken F7 offset
    → (n : ℕ) → Leaves s n → s.count + n ≤ walk_limit → ⊥
limited s _ _ _ (Walks.done a) offset w n o le = absurd (cc)
limited s _ _ e (Walks.back {rs = rs} {ls = ls} f fs a b x) offset w n o le =
    let left = frame_on s.definitions f fs n b (subst (λ gs. Left s.definitions gs n) a o) in
    limited (record s { frames = fs }) rs ls e x offset w n left le
limited s _ _ _ (Walks.broken v r vis first) offset w n o le =
    let rule : r ≡ F7 = cc in
    let large = is_over v v.item.command (subst (Breaks v) rule first.0) in
    let small = weight_here v.definitions v.frame v.outer v.item v.after n vis.left (at_visit s v n vis o) in
    let same = vis.count in
    omega (arith, large, small, same, le)
limited s _ _ e (Walks.step {rs = rs} {ls = ls} v qs ms t vis none st x) offset w n o le =
    let tie = ties v vis.left v.item.command refl qs ms t st in
    let k = tie.on n (at_visit s v n vis o) in
    let same = vis.count in
    limited t rs ls e x offset w k.0 k.1 (omega (arith, same, le, k.2))

pub walk_counted : WalkIsCounted
walk_counted items rs ls w =
    let k = counted (start items) rs ls Whole w refl (omega arith) in
    let low = k.2 in
    (k.0, k.1, omega (arith, low))

pub count_keeps : CountKeepsLimit
count_keeps items n c le rs ls offset w =
    limited (start items) rs ls (Broken F7 offset) w offset refl n c (omega (arith, le))
