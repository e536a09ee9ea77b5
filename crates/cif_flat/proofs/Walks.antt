-- The code's walk is a walk.
use Rattle.std.proofs.Common.{ℕ, zero, suc, ◌≡◌, ◌+◌, ◌-◌, ◌*◌, ◌<◌, ◌≤◌, ◌^◌, inl, inr, refl, sym, ◌∙◌, ap, subst}
use Rattle.std.proofs.Common.{arith, List, [], ◌∷◌, ◌++◌, length, take, drop, get_or, append_assoc, append-nil, Bool}
use Rattle.std.proofs.Common.{false, Option, Some, None}
use Rattle.std.specs.Prelude.{slice_range, slice_get}
use Rattle.std.specs.BTreeMap.{BTreeMap}
use Rattle.std.proofs.Math.Seq.{drop-cons}
use Rattle.std.proofs.lemmas.Bool.{cases_lt}
use Rattle.std.proofs.lemmas.Option.{get_or_from_slice_get, slice_get_cases}
use Rattle.std.proofs.lemmas.List.{length-append, get_or_at}
use Rattle.std.proofs.Math.ListN.{get_or-append}
use Rattle.std.proofs.lemmas.List.Elements.{All-tail}
use Rattle.lam_geom.specs.declared.rect.Rect.{Rect}
use Rattle.lam_geom.specs.declared.label.FlatLabel.{FlatLabel}
use Rattle.lam_geom.specs.declared.layer.Layer.{Layer}
use Rattle.cif_form.specs.declared.command.Item.{Item}
use Rattle.cif_form.specs.Scans.{opens}
use Rattle.cif_form.specs.Expansion.{Definition, IsInside}
use Rattle.cif_form.specs.Walk.{Frame, State, Visit, Visits, Walks, BreaksFirst, BreaksNone, Steps, weight, on_layer}
use Rattle.cif_form.specs.Walk.{start, walk_limit}
use Rattle.cif_form.specs.Walk.WalkEnd.{Broken}
use Rattle.cif_flat.specs.declared.fault.Fault.{Fault}
use Rattle.cif_flat.specs.declared.level.Level.{Level}
use Rattle.cif_flat.specs.declared.walker.Walker.{Walker}
use Rattle.cif_place.specs.Placing.{IsHeld}
use Rattle.cif_place.proofs.Numbers.{within_more}
use Rattle.cif_flat.specs.Sound.{AreClosed}
use Rattle.cif_flat.specs.Refusing.{RefusesWalk, rule_of, refusal_of}
use Rattle.cif_flat.specs.Walking.{frame_of, left_of, onto, state_of, visit_of, IsNested, IsLevel, EachLevel, Leads}
use Rattle.cif_flat.proofs.Ways.{named_same}
use Rattle.cif_flat.specs.Walking.{AreMet, AreNamed, IsWalking, IsVisit, rest, distance, IsAfter}

-- ---- frames

pub onto_push : (items : List Item) (vs : List Level) (v : Level) (fs : List Frame)
    → onto items (vs ++ (v ∷ [])) fs ≡ frame_of items (onto items vs fs) v ∷ onto items vs fs
onto_push items [] v fs = refl
onto_push items (u ∷ vs) v fs = onto_push items vs v (frame_of items fs u ∷ fs)

-- the items of a level are its next and those behind
pub left_next : (items : List Item) (v : Level) (i : Item) → v.next < v.end → slice_get items v.next ≡ Some i
    → left_of items v ≡ i ∷ slice_range items (v.next + 1) v.end
left_next items v i more here =
    let lt : v.next < length items =
    elim (slice_get_cases items v.next).1 [
      | inl a ↦ a.1
      | inr a ↦ absurd (let e : None ≡ Some i = sym a.1 ∙ here in cc)
    ] in
    let g = get_or_from_slice_get items v.next i i here in
    let e : v.end - v.next ≡ suc (v.end - (v.next + 1)) = omega arith in
    let s : suc v.next ≡ v.next + 1 = omega arith in
    ap (λ n. take n (drop v.next items)) e ∙ ap (take (suc (v.end - (v.next + 1)))) (drop-cons items v.next i lt)
    ∙ (λ j. g j ∷ take (v.end - (v.next + 1)) (drop (s j) items))

pub left_none : (items : List Item) (v : Level) → v.end ≤ v.next → left_of items v ≡ []
left_none items v h = let e : v.end - v.next ≡ 0 = omega arith in ap (λ n. take n (drop v.next items)) e

module _ (items : List Item) (ds : List Definition) (count : ℕ) (names : List (List ℕ)) (vs : List Level) (v : Level)
    (item : Item) (more : v.next < v.end) (here : slice_get items v.next ≡ Some item) where
  visits : Visits (state_of items ds count names (vs ++ (v ∷ []))) (visit_of items ds count names vs v item)
  visits =
      record {
        definitions = refl;
        count = refl;
        names = refl;
        frames = onto_push items vs v [];
        left = left_next items v item more here;
      }

-- ---- levels

pub each_nil : (P : ℕ → Level → Type 0) → EachLevel P []
each_nil P k d h = absurd (omega arith)

pub each_front : (P : ℕ → Level → Type 0) (vs : List Level) (v : Level) → EachLevel P (vs ++ (v ∷ [])) → EachLevel P vs
each_front P vs v h k d m =
    subst (P k) (get_or-append vs (v ∷ []) d k m) (h k d (omega (arith, length-append vs (v ∷ []), m)))

pub each_last : (P : ℕ → Level → Type 0) (vs : List Level) (v : Level) → EachLevel P (vs ++ (v ∷ [])) → P (length vs) v
each_last P vs v h =
    subst (P (length vs)) (get_or_at vs v [] v (length vs) refl)
    (h (length vs) v (omega (arith, length-append vs (v ∷ []))))

pub each_push : (P : ℕ → Level → Type 0) (vs : List Level) (v : Level) → EachLevel P vs → P (length vs) v
    → EachLevel P (vs ++ (v ∷ []))
each_push P vs v h p k d m = elim (cases_lt k (length vs)) [
  | inl l ↦ subst (P k) (sym (get_or-append vs (v ∷ []) d k l)) (h k d l)
  | inr l ↦
      (let e : length vs ≡ k = omega (arith, length-append vs (v ∷ []), m) in
      subst (P k) (sym (get_or_at vs v [] d k e)) (subst (λ n. P n v) e p))
]

pub each_weaker : (P Q : ℕ → Level → Type 0) (vs : List Level) → ((k : ℕ) (v : Level) → P k v → Q k v) → EachLevel P vs
    → EachLevel Q vs
each_weaker P Q vs f h k d m = f k (get_or vs k d) (h k d m)

held_later : (m n : ℕ) (v : Level) → m ≤ n → IsHeld (2 ^ 104 * m) v.placement → IsHeld (2 ^ 104 * n) v.placement
held_later m n v l h =
    (within_more _ _ v.placement.dx (omega arith) h.0, within_more _ _ v.placement.dy (omega arith) h.1)

pub level_later : (items : List Item) (m n : ℕ) (opened : BTreeMap ℕ ℕ) (k : ℕ) (v : Level) → m ≤ n
    → IsLevel items m opened k v → IsLevel items n opened k v
level_later items m n opened k v l h =
    record {
      ratio = h.ratio;
      held = held_later m n v l h.held;
      forward = h.forward;
      within = h.within;
      nested = h.nested;
      number = h.number;
    }

-- ---- what is left

next_nested : (k : ℕ) (i : Item) (is : List Item)
    → ((within : Bool) → opens false i.command ≡ Some within → within ≡ false) → IsNested k (i ∷ is) → IsNested k is
next_nested zero i is h (within, o, c) = subst (λ b. AreClosed b is) (h within o) c
next_nested (suc k) i is h a = All-tail (λ i. IsInside i.command) i is a

-- ---- steps

-- Behind the next command of a level, in whose frame this layer is set now.
abbrev pub onward : Level → Option Layer → Level
onward v l = record v { layer = l; next = v.next + 1 }

abbrev pub visit_at : (items : List Item) (w : Walker) (v : Level) (item : Item) → IsVisit items w v item → Visit
visit_at items w v item h = visit_of items h.walking.definitions w.count h.walking.names w.levels.items v item

-- a command breaks a rule
pub stops : (items : List Item) (w : Walker) (v : Level) (item : Item) (h : IsVisit items w v item) (fault : Fault)
    → BreaksFirst (visit_at items w v item h) (rule_of fault)
    → RefusesWalk items (refusal_of fault item.offset)
stops items w v item h fault b = (
  refl,
  (
    rule_of fault,
    w.shapes ++ [],
    w.labels ++ [],
    refl,
    h.walking.leads [] [] (Broken (rule_of fault) item.offset)
        (Walks.broken (visit_at items w v item h) (rule_of fault)
        (visits items h.walking.definitions w.count h.walking.names w.levels.items v item h.more h.here) b),
  ),
)

-- a command breaks no rule
pub leads_step : (items : List Item) (w : Walker) (v : Level) (item : Item) (h : IsVisit items w v item)
    (qs : List Rect) (ms : List FlatLabel) (t : State)
    → BreaksNone (visit_at items w v item h) → Steps (visit_at items w v item h) qs ms t
    → Leads items (w.shapes ++ qs) (w.labels ++ ms) t
leads_step items w v item h qs ms t n s = λ rs ls e k.
    subst (λ xs. Walks (start items) xs ((w.labels ++ ms) ++ ls) e) (sym (append_assoc w.shapes qs rs))
    (subst (λ xs. Walks (start items) (w.shapes ++ (qs ++ rs)) xs e) (sym (append_assoc w.labels ms ls))
    (h.walking.leads (qs ++ rs) (ms ++ ls) e
    (Walks.step (visit_at items w v item h) qs ms t
    (visits items h.walking.definitions w.count h.walking.names w.levels.items v item h.more h.here) n s k)))

pub level_onward : (items : List Item) (m n : ℕ) (opened : BTreeMap ℕ ℕ) (k : ℕ) (v : Level) (l : Option Layer)
    (i : Item) → m ≤ n → v.next < v.end → left_of items v ≡ i ∷ slice_range items (v.next + 1) v.end
    → ((within : Bool) → opens false i.command ≡ Some within → within ≡ false) → IsLevel items m opened k v
    → IsLevel items n opened k (onward v l)
level_onward items m n opened k v l i h more e o a = record {
  ratio = a.ratio;
  held = held_later m n v h a.held;
  forward = omega (arith, more);
  within = a.within;
  nested = next_nested k i (slice_range items (v.next + 1) v.end) o (subst (IsNested k) e a.nested);
  number = a.number;
}

pub rest_less : (vs : List Level) (u v : Level) → u.end - u.next ≤ v.end - v.next
    → rest (vs ++ (u ∷ [])) ≤ rest (vs ++ (v ∷ []))
rest_less [] u v h = h
rest_less (w ∷ vs) u v h = omega arith

pub stack_of : (items : List Item) (w : Walker) (v : Level) (item : Item) → IsVisit items w v item
    → EachLevel (IsLevel items w.count w.opened) w.levels.items
stack_of items w v item h = each_front (IsLevel items w.count w.opened) w.levels.items v h.walking.stack

pub level_of : (items : List Item) (w : Walker) (v : Level) (item : Item) → IsVisit items w v item
    → IsLevel items w.count w.opened (length w.levels.items) v
level_of items w v item h = each_last (IsLevel items w.count w.opened) w.levels.items v h.walking.stack

-- The walk goes on in the same level.
module _ (items : List Item) (w : Walker) (v : Level) (item : Item) (h : IsVisit items w v item) (l : Option Layer)
    (qs : List Rect) (ms : List FlatLabel) (n : ℕ) where
  abbrev vs : List Level
  vs = w.levels.items ++ (onward v l ∷ [])

  -- the state behind the command, where labels of these names were met
  abbrev named : List (List ℕ) → State
  named names = record (on_layer (visit_at items w v item h) l) { names = names }

  came : (names : List (List ℕ)) → n ≡ weight item.command
      → (let t = named names in t ≡ state_of items h.walking.definitions (w.count + n) names vs)
  came names e =
      λ i. record {
        definitions = h.walking.definitions;
        count = w.count + sym e i;
        names = names;
        frames = sym (onto_push items w.levels.items (onward v l) []) i;
      }

  abbrev IsPlain : Type 0
  IsPlain = (within : Bool) → opens false item.command ≡ Some within → within ≡ false

  stack : IsPlain → EachLevel (IsLevel items (w.count + n) w.opened) vs
  stack plain = each_push (IsLevel items (w.count + n) w.opened) w.levels.items (onward v l)
      (each_weaker (IsLevel items w.count w.opened) (IsLevel items (w.count + n) w.opened) w.levels.items
      (λ k u a. level_later items w.count (w.count + n) w.opened k u (omega arith) a) (stack_of items w v item h))
      (level_onward items w.count (w.count + n) w.opened (length w.levels.items) v l item (omega arith) h.more
      (left_next items v item h.more h.here) plain (level_of items w v item h))

  -- `m` has the names that were met, and what is noted of names
  pub arrive_named : (names : List (List ℕ)) (m : Walker) → AreMet names m.met
      → AreNamed items m.names m.met (w.levels.items ++ (v ∷ []))
      → (shapes : List Rect) (labels : List FlatLabel) (new : Walker) → n ≡ weight item.command → 0 < n
      → w.count + n ≤ walk_limit
      → BreaksNone (visit_at items w v item h)
      → Steps (visit_at items w v item h) qs ms (named names) → IsPlain
      → shapes ≡ w.shapes ++ qs → labels ≡ w.labels ++ ms
      → new ≡ record w {
        names = m.names;
        met = m.met;
        shapes = shapes;
        labels = labels;
        count = w.count + n;
        levels = new.levels;
      }
      → new.levels.items ≡ vs → IsAfter items w v new
  arrive_named names m are noted shapes labels new wn some room none steps plain es el is pushed =
      let leads = leads_step items w v item h qs ms (named names) none steps in
      let mid : Walker =
      record w {
        names = m.names;
        met = m.met;
        shapes = shapes;
        labels = labels;
        count = w.count + n;
        levels = new.levels;
      } in
      let walking : IsWalking items mid vs = record {
        definitions = h.walking.definitions;
        table = h.walking.table;
        calls = h.walking.calls;
        names = names;
        met = are;
        named = named_same items m.names m.met w.levels.items (onward v l) v refl refl noted;
        leads =
            subst (λ xs. Leads items xs labels (state_of items h.walking.definitions (w.count + n) names vs)) (sym es)
            (subst (λ ys. Leads items (w.shapes ++ qs) ys (state_of items h.walking.definitions (w.count + n) names vs))
            (sym el) (subst (Leads items (w.shapes ++ qs) (w.labels ++ ms)) (came names wn) leads));
        limit = room;
        stack = stack plain;
      } in
      let count : new.count ≡ w.count + n = ap (λ x. x.count) is in
      let less = rest_less w.levels.items (onward v l) v (omega arith) in
      let size : length vs ≡ length (w.levels.items ++ (v ∷ [])) =
      length-append w.levels.items (onward v l ∷ []) ∙ sym (length-append w.levels.items (v ∷ [])) in
      record {
        walking =
            subst (λ x. IsWalking items x new.levels.items) (sym is) (subst (IsWalking items mid) (sym pushed) walking);
        closer = subst (λ c. distance c new.levels.items < distance w.count (w.levels.items ++ (v ∷ []))) (sym count)
            (subst (λ us. distance (w.count + n) us < distance w.count (w.levels.items ++ (v ∷ []))) (sym pushed)
            (omega (arith, less, size)));
      }

  pub arrive : (shapes : List Rect) (labels : List FlatLabel) (new : Walker) → n ≡ weight item.command → 0 < n
      → w.count + n ≤ walk_limit
      → BreaksNone (visit_at items w v item h)
      → Steps (visit_at items w v item h) qs ms (on_layer (visit_at items w v item h) l) → IsPlain
      → shapes ≡ w.shapes ++ qs → labels ≡ w.labels ++ ms
      → new ≡ record w { shapes = shapes; labels = labels; count = w.count + n; levels = new.levels }
      → new.levels.items ≡ vs → IsAfter items w v new
  arrive = arrive_named h.walking.names w h.walking.met h.walking.named

-- nothing is drawn
pub arrive_quiet : (items : List Item) (w : Walker) (v : Level) (item : Item) (h : IsVisit items w v item)
    (l : Option Layer) (new : Walker) → weight item.command ≡ 1 → w.count + 1 ≤ walk_limit
    → BreaksNone (visit_at items w v item h)
    → Steps (visit_at items w v item h) [] [] (on_layer (visit_at items w v item h) l)
    → ((within : Bool) → opens false item.command ≡ Some within → within ≡ false)
    → new ≡ record w { count = w.count + 1; levels = new.levels }
    → new.levels.items ≡ w.levels.items ++ (onward v l ∷ []) → IsAfter items w v new
arrive_quiet items w v item h l new one room none steps plain is pushed =
    arrive items w v item h l [] [] 1 w.shapes w.labels new (sym one) (omega arith) room none steps plain
    (sym (append-nil w.shapes)) (sym (append-nil w.labels)) is pushed
