-- What is met at definitions and deletions.
use Rattle.std.proofs.Common.{ℕ, suc, ◌≡◌, ◌+◌, ◌-◌, ◌*◌, ◌<◌, ◌≤◌, ◌⊎◌, refl, sym, ◌∙◌, ap, subst, arith, inl, inr}
use Rattle.std.proofs.Common.{Option, List, [], ◌∷◌, ◌++◌, length, take, drop, get_or, map, All, append-nil, Bool, true, false}
use Rattle.std.proofs.Common.{cond, Some, None}
use Rattle.std.specs.Prelude.{◌≢◌, ℤ, pos, ◌≤ℤ◌, slice_get, slice_range, filter, int_lt}
use Rattle.std.specs.BTreeMap.{BTreeMap, get}
use Rattle.std.specs.Ordering.{nat_cmp}
use Rattle.std.proofs.Math.Seq.{drop-cons}
use Rattle.std.proofs.lemmas.Bool.{cases_lt, cases_order, lt-ltb, ltb-true}
use Rattle.std.proofs.lemmas.Int.{ints}
use Rattle.std.proofs.lemmas.Option.{get_or_from_slice_get, slice_get_cases}
use Rattle.std.proofs.lemmas.List.{length-append, length-drop, take-append-drop, length-take, take-take, drop-take}
use Rattle.std.proofs.lemmas.List.{drop-drop, get_or-take, get_or-drop}
use Rattle.std.proofs.lemmas.List.Elements.{All-head, All-tail}
use Rattle.cif_form.specs.declared.command.Command.{Command}
use Rattle.cif_form.specs.declared.command.Command.TheVariants.{Polygon, Box, Round, Wire, Layer as SetLayer, Start}
use Rattle.cif_form.specs.declared.command.Command.TheVariants.{Finish, Delete, Call, User, Comment}
use Rattle.cif_form.specs.declared.command.Item.{Item}
use Rattle.cif_form.specs.Scans.{opens}
use Rattle.cif_list.specs.declared.view.CommandView.{CommandView}
use Rattle.cif_list.specs.declared.view.CommandView.TheVariants as views
use Rattle.cif_list.specs.Showing.{command_shown}
use Rattle.cif_list.specs.Turning.{wide_turn}
use Rattle.cif_form.specs.Expansion.{Definition, Stands, IsInside, item_at}
use Rattle.cif_form.specs.Walk.{State, Visit, at_top, walk_limit}
use Rattle.cif_flat.specs.declared.fault.Fault.TheVariants as faults
use Rattle.cif_flat.specs.declared.level.Level.{Level}
use Rattle.cif_place.specs.declared.ratio.Ratio.{Ratio}
use Rattle.cif_flat.specs.declared.symbol.Symbol.{Symbol}
use Rattle.cif_flat.specs.declared.walker.Walker.{Walker}
use Rattle.cif_flat.specs.declared.names.Names.{Names}
use Rattle.cif_flat.specs.Walking.{AreNamed}
use Rattle.cif_flat.proofs.Ways.{named_same, named_first}
use Rattle.cif_place.specs.Placing.{scale_of}
use Rattle.cif_flat.specs.Sound.{AreClosed, Unsigned}
use Rattle.cif_flat.specs.Refusing.{RefusesWalk, refusal_of}
use Rattle.cif_flat.specs.declared.symbol.Naming.{Naming}
use Rattle.cif_flat.specs.Naming.{name_of, IsSymbolNaming}
use Rattle.cif_flat.specs.Walking.{frame_of, left_of, onto, state_of, definition_of, IsAnyRatio, IsSymbol, IsTable}
use Rattle.cif_flat.specs.Walking.{IsBodySize, IsNested, IsLevel, Leads, IsWalking, IsVisit, rest, distance, IsAfter}
use Rattle.cif_flat.proofs.Arms.{small_short, fits_here}
use Rattle.cif_flat.proofs.Rules.{none, first7}
use Rattle.cif_form.proofs.WalkExamples.{never}
use Rattle.cif_flat.proofs.Walks.{visit_at, stops, onward, onto_push, each_push, each_weaker, level_later, level_onward}
use Rattle.cif_flat.proofs.Walks.{left_next, stack_of, level_of, leads_step}

-- ---- the body of a definition

pub at_drop : {X : Type 0} (xs : List X) (k : ℕ) (x : X) → k < length xs → x ≡ get_or xs k x
    → drop k xs ≡ x ∷ drop (k + 1) xs
at_drop xs k x h e = let s : suc k ≡ k + 1 = omega arith in drop-cons xs k x h ∙ (λ j. sym e j ∷ drop (s j) xs)

-- an item of the body stands behind its first
pub in_body : (items : List Item) (first end k : ℕ) (i : Item) → first ≤ end → end ≤ length items → k < end - first
    → slice_get items (first + k) ≡ Some i
    → (k < length (slice_range items first end)) × (i ≡ get_or (slice_range items first end) k i)
in_body items first end k i forward within less here =
    let t = get_or-take (end - first) (drop first items) k i less in
    let l = length-take (end - first) (drop first items) in
    let m = length-drop first items in (
      omega (arith, l, m, forward, within, less),
      sym
          (t ∙ get_or-drop first items k i ∙ get_or_from_slice_get items (first + k) i i here),
    )

pub shown_finish : (v : CommandView) → command_shown v ≡ Finish → v ≡ views.Finish
shown_finish (views.Polygon p) e = let f : Polygon p.now ≡ Finish = e in cc
shown_finish (views.Box a x y z) e = let f : Box a x y z ≡ Finish = e in cc
shown_finish (views.Round a x) e = let f : Round a x ≡ Finish = e in cc
shown_finish (views.Wire a x) e = let f : Wire a x.now ≡ Finish = e in cc
shown_finish (views.Layer a) e = let f : SetLayer a.now ≡ Finish = e in cc
shown_finish (views.Start a x y) e = let f : Start a x y ≡ Finish = e in cc
shown_finish views.Finish e = refl
shown_finish (views.Delete a) e = let f : Delete a ≡ Finish = e in cc
shown_finish (views.Call a x) e = let f : Call a (map wide_turn x.now) ≡ Finish = e in cc
shown_finish (views.User a x) e = let f : User a x.now ≡ Finish = e in cc
shown_finish (views.Comment a) e = let f : Comment a.now ≡ Finish = e in cc

same_bool : {a b : Bool} → Some a ≡ Some b → b ≡ a
same_bool e = cc

step_inside : (is : List Item) (b : Bool) → Some true ≡ Some b → AreClosed b is → AreClosed true is
step_inside is b e k = subst (λ c. AreClosed c is) (same_bool e) k

inside_next : (c : Command) (o : ℕ) (is : List Item) → AreClosed true (item_at o c ∷ is) → (c ≡ Finish → ⊥)
    → IsInside c × AreClosed true is
inside_next (Polygon p) o is (b, e, k) n = (tt, step_inside is b e k)
inside_next (Box a x y z) o is (b, e, k) n = (tt, step_inside is b e k)
inside_next (Round a x) o is (b, e, k) n = (tt, step_inside is b e k)
inside_next (Wire a x) o is (b, e, k) n = (tt, step_inside is b e k)
inside_next (SetLayer a) o is (b, e, k) n = (tt, step_inside is b e k)
inside_next (Start a x y) o is (b, e, k) n = absurd (let f : None ≡ Some b = e in cc)
inside_next Finish o is (b, e, k) n = absurd (n refl)
inside_next (Delete a) o is (b, e, k) n = absurd (let f : None ≡ Some b = e in cc)
inside_next (Call a x) o is (b, e, k) n = (tt, step_inside is b e k)
inside_next (User a x) o is (b, e, k) n = (tt, step_inside is b e k)
inside_next (Comment a) o is (b, e, k) n = (tt, step_inside is b e k)

pub one_more_inside : (i : Item) (is : List Item) → AreClosed true (i ∷ is) → (i.command ≡ Finish → ⊥)
    → IsInside i.command × AreClosed true is
one_more_inside i is h n = inside_next i.command i.offset is h n

pub finished : (i : Item) (is : List Item) → AreClosed true (i ∷ is) → i.command ≡ Finish → AreClosed false is
finished i is (b, e, k) f = let g : Some false ≡ Some b = ap (opens true) (sym f) ∙ e in
    subst (λ c. AreClosed c is) (same_bool g) k

pub no_end : {A : Type 0} → AreClosed true [] → A
no_end h = absurd (let e : true ≡ false = h in cc)

-- ---- at top level

no_levels : (vs : List Level) (c : Command) (o : ℕ) (is : List Item) → ¬ IsInside c
    → IsNested (length vs) (item_at o c ∷ is) → vs ≡ []
no_levels [] c o is n h = refl
no_levels (v ∷ vs) c o is n h = absurd (n (All-head (λ i. IsInside i.command) (item_at o c) is h))

pub at_top_level : (items : List Item) (w : Walker) (v : Level) (o : ℕ) (c : Command) → IsVisit items w v (item_at o c)
    → ¬ IsInside c → w.levels.items ≡ []
at_top_level items w v o c h n =
    no_levels w.levels.items c o (slice_range items (v.next + 1) v.end) n
    (subst (IsNested (length w.levels.items)) (left_next items v (item_at o c) h.more h.here)
    (level_of items w v (item_at o c) h).nested)

-- ---- definitions that are deleted

filter_keep : (ds : List Definition) (m n : ℤ) (d : Definition) → Stands ds m d → int_lt m n ≡ true
    → Stands (filter (λ e. int_lt e.number n) ds) m d
filter_keep [] m n d s t = elim s [ ]
filter_keep (d ∷ ds) m n _ (Stands.newest k) t =
    subst (λ b. Stands (cond b (d ∷ filter (λ e. int_lt e.number n) ds) (filter (λ e. int_lt e.number n) ds)) m d)
    (sym (ap (λ z. int_lt z n) k ∙ t)) (Stands.newest k)
filter_keep (e ∷ ds) m n d (Stands.older k s) t =
    elim (int_lt e.number n) as (λ b. Stands
    (cond b (e ∷ filter (λ e. int_lt e.number n) ds) (filter (λ e. int_lt e.number n) ds)) m d)
    [ true ↦ Stands.older k (filter_keep ds m n d s t) | false ↦ filter_keep ds m n d s t ]

abbrev kept : List Definition → ℤ → List Definition
kept ds n = filter (λ e. int_lt e.number n) ds

front_back : (e : Definition) (ds : List Definition) (m n : ℤ) (d : Definition)
    → (Stands (kept ds n) m d → Stands ds m d × (int_lt m n ≡ true)) → Stands (e ∷ kept ds n) m d
    → int_lt e.number n ≡ true → Stands (e ∷ ds) m d × (int_lt m n ≡ true)
front_back e ds m n d ih (Stands.newest k) t = (Stands.newest k, sym (ap (λ z. int_lt z n) k) ∙ t)
front_back e ds m n d ih (Stands.older k s) t = let r = ih s in (Stands.older k r.0, r.1)

by_test : (e : Definition) (ds : List Definition) (m n : ℤ) (d : Definition)
    → (Stands (kept ds n) m d → Stands ds m d × (int_lt m n ≡ true)) → (b : Bool) → int_lt e.number n ≡ b
    → Stands (cond b (e ∷ kept ds n) (kept ds n)) m d → Stands (e ∷ ds) m d × (int_lt m n ≡ true)
by_test e ds m n d ih true t s = front_back e ds m n d ih s t
by_test e ds m n d ih false t s =
    let r = ih s in
    (Stands.older (λ k. let x : false ≡ true = sym t ∙ ap (λ z. int_lt z n) k ∙ r.1 in cc) r.0, r.1)

filter_back : (ds : List Definition) (m n : ℤ) (d : Definition) → Stands (kept ds n) m d
    → Stands ds m d × (int_lt m n ≡ true)
filter_back [] m n d s = elim s [ ]
filter_back (e ∷ ds) m n d s = by_test e ds m n d (λ k. filter_back ds m n d k) (int_lt e.number n) refl s

pub table_cut : (items : List Item) (ds : List Definition) (old new : BTreeMap ℕ Symbol) (key : ℕ)
    → IsTable items ds old → ((k : ℕ) → k < key → get nat_cmp new k ≡ get nat_cmp old k)
    → ((k : ℕ) → key ≤ k → get nat_cmp new k ≡ None) → IsTable items (filter (λ d. int_lt d.number (pos key)) ds) new
table_cut items ds old new key t below above = record {
  stands = λ n s g. elim (cases_lt n key) [
    | inl l ↦
        filter_keep ds (pos n) (pos key) (definition_of items n s) (t.stands n s (sym (below n l) ∙ g)) (lt-ltb n key l)
    | inr l ↦ absurd (let e : None ≡ Some s = sym (above n l) ∙ g in cc)
  ];
  missing = λ n g d s. let r = filter_back ds (pos n) (pos key) d s in let l = ltb-true n key r.1 in
      t.missing n (sym (below n l) ∙ g) d r.0;
  fits = λ n s g. elim (cases_lt n key) [
    | inl l ↦ t.fits n s (sym (below n l) ∙ g)
    | inr l ↦ absurd (let e : None ≡ Some s = sym (above n l) ∙ g in cc)
  ];
}

module _ (items : List Item) (ds : List Definition) (old new : BTreeMap ℕ Symbol) (key : ℕ) (s : Symbol)
    (t : IsTable items ds old) (f : IsSymbol items s) (here : get nat_cmp new key ≡ Some s)
    (others : (k : ℕ) → k ≢ key → get nat_cmp new k ≡ get nat_cmp old k) where
  other : (n : ℕ) → (n < key) ⊎ (key < n) → n ≢ key
  other n (inl l) e = omega arith
  other n (inr l) e = omega arith

  apart : (n : ℕ) → (n < key) ⊎ (key < n) → pos key ≢ pos n
  apart n l e = other n l (omega (arith, ints, e))

  the_symbol : (n : ℕ) (r : Symbol) → n ≡ key → get nat_cmp new n ≡ Some r → s ≡ r
  the_symbol n r e g = let x : Some s ≡ Some r = sym here ∙ ap (get nat_cmp new) (sym e) ∙ g in cc

  now_stands : (n : ℕ) (r : Symbol) → n ≡ key → s ≡ r
      → Stands (definition_of items key s ∷ ds) (pos n) (definition_of items n r)
  now_stands n r e g =
      let same : definition_of items key s ≡ definition_of items n r = (λ i. definition_of items (sym e i) (g i)) in
      subst (Stands (definition_of items key s ∷ ds) (pos n)) same (Stands.newest (ap pos (sym e)))

  behind : (n : ℕ) (d : Definition) → (n < key) ⊎ (key < n) → ¬ Stands ds (pos n) d
      → ¬ Stands (definition_of items key s ∷ ds) (pos n) d
  behind n d l m (Stands.newest k) = apart n l k
  behind n d l m (Stands.older k st) = m st

  pub table_set : IsTable items (definition_of items key s ∷ ds) new
  table_set = record {
    stands = λ n r g. elim (cases_order n key) [
      | inl e ↦ now_stands n r e (the_symbol n r e g)
      | inr l ↦ Stands.older (apart n l) (t.stands n r (sym (others n (other n l)) ∙ g))
    ];
    missing = λ n g d. elim (cases_order n key) [
      | inl e ↦ absurd (let x : None ≡ Some s = sym g ∙ ap (get nat_cmp new) e ∙ here in cc)
      | inr l ↦ behind n d l (t.missing n (sym (others n (other n l)) ∙ g) d)
    ];
    fits = λ n r g. elim (cases_order n key) [
      | inl e ↦ subst (IsSymbol items) (the_symbol n r e g) f
      | inr l ↦ t.fits n r (sym (others n (other n l)) ∙ g)
    ];
  }

-- ---- the walk at top level

-- the frames of one level
one_frame : (items : List Item) (vs : List Level) (u : Level) → vs ≡ []
    → onto items (vs ++ (u ∷ [])) [] ≡ frame_of items (onto items vs []) u ∷ []
one_frame items vs u e =
    onto_push items vs u [] ∙ ap (λ ws. frame_of items (onto items vs []) u ∷ onto items ws []) e

rest_top : (vs : List Level) (u : Level) → vs ≡ [] → rest (vs ++ (u ∷ [])) ≡ u.end - u.next
rest_top vs u e = ap (λ ws. rest (ws ++ (u ∷ []))) e

module _ (items : List Item) (w : Walker) (v : Level) (item : Item) (h : IsVisit items w v item)
    (top : w.levels.items ≡ []) (u : Level) (n : ℕ) (symbols : BTreeMap ℕ Symbol) (m : Names) (ds : List Definition)
    (table : IsTable items ds symbols) (level : IsLevel items (w.count + n) w.opened (length w.levels.items) u)
    (room : w.count + n ≤ walk_limit) (noted : AreNamed items m w.met (w.levels.items ++ (u ∷ []))) where
  abbrev us : List Level
  us = w.levels.items ++ (u ∷ [])

  pub came_top : (t : State) → Leads items (w.shapes ++ []) (w.labels ++ []) t
      → t ≡ record {
        definitions = ds;
        count = w.count + n;
        names = h.walking.names;
        frames = frame_of items (onto items w.levels.items []) u ∷ [];
      }
      → (new : Walker) → new ≡ record w { symbols = symbols; names = m; count = w.count + n; levels = new.levels }
      → new.levels.items ≡ us
      → 2 * (walk_limit - (w.count + n)) + (u.end - u.next) < 2 * (walk_limit - w.count) + (v.end - v.next)
      → IsAfter items w v new
  came_top t leads e new is pushed closer =
      let at : t ≡ state_of items ds (w.count + n) h.walking.names us =
      e ∙ (λ i. record {
        definitions = ds;
        count = w.count + n;
        names = h.walking.names;
        frames = sym (one_frame items w.levels.items u top) i;
      }) in
      let mid : Walker = record w { symbols = symbols; names = m; count = w.count + n; levels = new.levels } in
      let walking : IsWalking items mid us = record {
        definitions = ds;
        table = table;
        calls = h.walking.calls;
        names = h.walking.names;
        met = h.walking.met;
        named = noted;
        leads =
            subst (λ xs. Leads items xs w.labels (state_of items ds (w.count + n) h.walking.names us))
            (append-nil w.shapes)
            (subst (λ ys. Leads items (w.shapes ++ []) ys (state_of items ds (w.count + n) h.walking.names us))
            (append-nil w.labels) (subst (Leads items (w.shapes ++ []) (w.labels ++ [])) at leads));
        limit = room;
        stack = each_push (IsLevel items (w.count + n) w.opened) w.levels.items u
            (each_weaker (IsLevel items w.count w.opened) (IsLevel items (w.count + n) w.opened) w.levels.items
            (λ k x a. level_later items w.count (w.count + n) w.opened k x (omega arith) a) (stack_of items w v item h))
            level;
      } in
      let count : new.count ≡ w.count + n = ap (λ x. x.count) is in
      let size : length us ≡ length (w.levels.items ++ (v ∷ [])) =
      length-append w.levels.items (u ∷ []) ∙ sym (length-append w.levels.items (v ∷ [])) in
      record {
        walking =
            subst (λ x. IsWalking items x new.levels.items) (sym is) (subst (IsWalking items mid) (sym pushed) walking);
        closer = subst (λ c. distance c new.levels.items < distance w.count (w.levels.items ++ (v ∷ []))) (sym count)
            (subst (λ xs. distance (w.count + n) xs < distance w.count (w.levels.items ++ (v ∷ []))) (sym pushed)
            (omega (arith, closer, size, rest_top w.levels.items u top, rest_top w.levels.items v top)));
      }

-- ---- deletions

module _ (items : List Item) (w : Walker) (v : Level) (o : ℕ) (n : ℤ)
    (h : IsVisit items w v (item_at o (Delete n))) where
  abbrev delete_item : Item
  delete_item = item_at o (Delete n)

  abbrev delete_visit : Visit
  delete_visit = visit_at items w v delete_item h

  pub delete_counted : walk_limit ≤ w.count → RefusesWalk items (refusal_of faults.F7 o)
  delete_counted k =
      stops items w v delete_item h faults.F7
      (first7 delete_visit (omega (arith, k)) never never never never never never)

  pub deleted : w.count < walk_limit → (key : ℕ) → pos key ≡ n → (symbols : BTreeMap ℕ Symbol)
      → ((k : ℕ) → k < key → get nat_cmp symbols k ≡ get nat_cmp w.symbols k)
      → ((k : ℕ) → key ≤ k → get nat_cmp symbols k ≡ None) → (new : Walker)
      → new ≡ record w { symbols = symbols; count = w.count + 1; levels = new.levels }
      → new.levels.items ≡ w.levels.items ++ (onward v v.layer ∷ []) → IsAfter items w v new
  deleted room key is symbols below above new kept pushed =
      let top = at_top_level items w v o (Delete n) h (λ x. x) in
      let ds = h.walking.definitions in
      let after = slice_range items (v.next + 1) v.end in
      let t = at_top delete_visit (filter (λ d. int_lt d.number n) ds) after in
      let left = left_next items v delete_item h.more h.here in
      let leads =
      leads_step items w v delete_item h [] [] t
      (none delete_visit never never never never never never (λ k. omega (arith, k, room)) never never never)
      (ap (λ vs. onto items vs []) top, refl, refl, refl) in
      let l = level_of items w v delete_item h in
      let table = table_cut items ds w.symbols symbols key h.walking.table below above in
      came_top items w v delete_item h top (onward v v.layer) 1 symbols w.names (filter (λ d. int_lt d.number n) ds)
      (subst (λ m. IsTable items (filter (λ d. int_lt d.number m) ds) symbols) is table)
      (level_onward items w.count (w.count + 1) w.opened (length w.levels.items) v v.layer delete_item
      (omega arith) h.more left (λ b e. let f : Some b ≡ Some false = sym e in cc) l)
      (omega arith) (named_same items w.names w.met w.levels.items (onward v v.layer) v refl refl h.walking.named) t
      leads
      refl new kept pushed (omega (arith, room, h.more))

-- ---- definitions

pub body_within : (rest : List Item) (n : ℕ) → IsBodySize rest n → n < length rest
body_within rest n b = elim (slice_get_cases rest n).1 [
  | inl a ↦ a.1
  | inr a ↦ absurd (let e : None ≡ Some (item_at b.offset Finish) = sym a.1 ∙ b.finish in cc)
]

module _ (items : List Item) (w : Walker) (v : Level) (o : ℕ) (number a b : ℤ)
    (h : IsVisit items w v (item_at o (Start number a b))) where
  abbrev start_item : Item
  start_item = item_at o (Start number a b)

  abbrev start_visit : Visit
  start_visit = visit_at items w v start_item h

  abbrev after : List Item
  after = slice_range items (v.next + 1) v.end

  start_top : w.levels.items ≡ []
  start_top = at_top_level items w v o (Start number a b) h (λ x. x)

  start_left : left_of items v ≡ start_item ∷ after
  start_left = left_next items v start_item h.more h.here

  pub start_closed : AreClosed true after
  start_closed =
      let l = level_of items w v start_item h in
      let c : AreClosed false (start_item ∷ after) =
      subst (λ k. IsNested k (start_item ∷ after)) (ap length start_top)
      (subst (IsNested (length w.levels.items)) start_left l.nested) in
      subst (λ x. AreClosed x after) (same_bool c.1) c.2

  module _ (n : ℕ) (s : IsBodySize after n) where
    abbrev first : ℕ
    first = v.next + 1

    pub body_room : first + n + 1 ≤ v.end
    body_room = let k = body_within after n s in let l = length-take (v.end - first) (drop first items) in
        omega (arith, k, l)

    body_is : take n after ≡ slice_range items first (first + n)
    body_is = take-take n (v.end - first) (drop first items) (omega (arith, body_room))
        ∙ ap (λ k. take k (drop first items)) (omega arith)

    rest_is : drop (n + 1) after ≡ slice_range items (first + n + 1) v.end
    rest_is =
        let m : v.end - first ≡ (n + 1) + (v.end - (first + n + 1)) = omega (arith, body_room) in
        ap (λ k. drop (n + 1) (take k (drop first items))) m
        ∙ drop-take (n + 1) (v.end - (first + n + 1)) (drop first items)
        ∙ ap (take (v.end - (first + n + 1))) (drop-drop (n + 1) first items ∙ ap (λ k. drop k items) (omega arith))

    after_is : after ≡ slice_range items first (first + n)
        ++ (item_at s.offset Finish ∷ slice_range items (first + n + 1) v.end)
    after_is =
        let f = item_at s.offset Finish in
        let d = at_drop after n f (body_within after n s) (sym (get_or_from_slice_get after n f f s.finish)) in
        sym (take-append-drop n after) ∙ (λ i. body_is i ++ d i)
        ∙ ap (λ xs. slice_range items first (first + n) ++ (f ∷ xs)) rest_is

    abbrev resumed : Level
    resumed = record v { next = first + n + 1 }

    module _ (key : ℕ) (is : pos key ≡ number) (ratio : Ratio) (er : ratio ≡ record { a = a; b = b })
        (named : Option Naming) (called : IsSymbolNaming items (slice_range items first (first + n)) named) where
      abbrev symbol : Symbol
      symbol = record { ratio = ratio; named = named; first = first; end = first + n }

      start_ratio : IsAnyRatio ratio
      start_ratio =
          let f = (fits_here items w v start_item h).unsigned in
          let t = All-tail Unsigned number (a ∷ b ∷ []) f in
          let x = All-head Unsigned a (b ∷ []) t in
          let y = All-head Unsigned b [] (All-tail Unsigned a (b ∷ []) t) in
          let r : IsAnyRatio (record { a = a; b = b }) =
          record { a = x.0; b = y.0; short_a = (small_short a x.1).1; short_b = (small_short b y.1).1 } in
          subst IsAnyRatio (sym er) r

      start_symbol : IsSymbol items symbol
      start_symbol =
          let l = level_of items w v start_item h in
          record {
            ratio = start_ratio;
            forward = omega arith;
            within = omega (arith, body_room, l.within);
            inside = subst (All (λ i. IsInside i.command)) body_is s.inside;
          }

      pub defined : (symbols : BTreeMap ℕ Symbol) → get nat_cmp symbols key ≡ Some symbol
          → ((k : ℕ) → k ≢ key → get nat_cmp symbols k ≡ get nat_cmp w.symbols k)
          → (names : Names) → names ≡ record w.names { first = names.first }
          → (new : Walker)
          → new ≡ record w { symbols = symbols; names = names; count = w.count + 0; levels = new.levels }
          → new.levels.items ≡ w.levels.items ++ (resumed ∷ []) → IsAfter items w v new
      defined symbols here others names noted new kept pushed =
          let ds = h.walking.definitions in
          let l = level_of items w v start_item h in
          let m = level_later items w.count (w.count + 0) w.opened (length w.levels.items) v (omega arith) l in
          let d : Definition =
          record {
            number = number;
            scale = record { a = a; b = b };
            name = name_of items named;
            body = slice_range items first (first + n);
          } in
          let same : d ∷ ds ≡ definition_of items key symbol ∷ ds =
          (λ i. record {
            number = sym is i;
            scale = scale_of (sym er i);
            name = name_of items named;
            body = slice_range items first (first + n);
          } ∷ ds) in
          let t = at_top start_visit (d ∷ ds) (slice_range items (first + n + 1) v.end) in
          let limit = h.walking.limit in
          let leads =
          leads_step items w v start_item h [] [] t
          (none start_visit never never never never never never (λ k. omega (arith, k, limit)) never never never) (
            name_of items named,
            slice_range items first (first + n),
            slice_range items (first + n + 1) v.end,
            s.offset,
            ap (λ vs. onto items vs []) start_top,
            subst (All (λ i. IsInside i.command)) body_is s.inside,
            called,
            after_is,
            refl,
            refl,
            refl,
          ) in
          let closed : IsNested (length w.levels.items) (slice_range items (first + n + 1) v.end) =
          subst (λ k. IsNested k (slice_range items (first + n + 1) v.end)) (sym (ap length start_top))
          (subst (AreClosed false) rest_is s.closed) in
          let level : IsLevel items (w.count + 0) w.opened (length w.levels.items) resumed = record {
            ratio = m.ratio;
            held = m.held;
            forward = body_room;
            within = m.within;
            nested = closed;
            number = m.number;
          } in
          came_top items w v start_item h start_top resumed 0 symbols names (definition_of items key symbol ∷ ds)
          (table_set items ds w.symbols symbols key symbol h.walking.table start_symbol here others) level
          (omega (arith, limit))
          (named_same items names w.met w.levels.items resumed v refl refl
          (named_first items w.names w.met (w.levels.items ++ (v ∷ [])) names noted h.walking.named)) t leads
          (λ i. record {
            definitions = same i;
            count = w.count + 0;
            names = h.walking.names;
            frames = frame_of items (onto items w.levels.items []) resumed ∷ [];
          }) new kept
          pushed (omega (arith, body_room, h.more))

-- a definition's number isn't negative
pub start_number : (items : List Item) (w : Walker) (v : Level) (o : ℕ) (number a b : ℤ)
    → IsVisit items w v (item_at o (Start number a b)) → pos 0 ≤ℤ number
start_number items w v o number a b h =
    (All-head Unsigned number (a ∷ b ∷ []) (fits_here items w v (item_at o (Start number a b)) h).unsigned).0
