-- The walk begins, goes back from a level that is done, and ends.
use Rattle.std.proofs.Common.{ℕ, suc, ◌≡◌, ◌-◌, ◌<◌, ◌≤◌, refl, sym, ◌∙◌, ap, subst, arith, List, [], ◌∷◌, ◌++◌, length}
use Rattle.std.proofs.Common.{take, get_or, append-nil, true, false, Some, None}
use Rattle.std.specs.Prelude.{slice_range, slice_get, nat_eq, Vec}
use Rattle.std.proofs.lemmas.Option.{slice_get_within}
use Rattle.std.specs.List.{list_any}
use Rattle.std.specs.HashSet.{HashSet}
use Rattle.std.specs.Cmp.Lexicographic.{pointwise}
use Rattle.std.proofs.lemmas.Bool.{false≢true}
use Rattle.mp_base.proofs.Contents.{nothing_in}
use Rattle.std.specs.BTreeMap.{BTreeMap, get, is_at}
use Rattle.std.specs.Map.{lookup}
use Rattle.std.specs.Ordering.{nat_cmp}
use Rattle.std.proofs.lemmas.Int.{ints}
use Rattle.std.proofs.lemmas.List.{length-append, take_all}
use Rattle.cif_form.specs.declared.command.Item.{Item}
use Rattle.cif_form.specs.Place.{unit}
use Rattle.cif_form.specs.Walk.{Walks, FileWalks, start}
use Rattle.cif_form.specs.Walk.WalkEnd.{Whole}
use Rattle.cif_flat.specs.declared.level.Level.{Level}
use Rattle.cif_flat.specs.declared.walker.Walker.{Walker}
use Rattle.cif_flat.specs.Sound.{AreClosed}
use Rattle.cif_flat.specs.Meeting.{was_met}
use Rattle.cif_flat.specs.Walking.{frame_of, onto, state_of, top, IsLevel, Leads, IsWalking, distance}
use Rattle.cif_flat.specs.Walking.{IsWayAt, AreNamed}
use Rattle.cif_flat.specs.Naming.{way_of}
use Rattle.cif_flat.proofs.Ways.{named_front}
use Rattle.cif_place.specs.Laws.{HereLeaves}
use Rattle.cif_flat.proofs.Walks.{onto_push, left_none, each_nil, each_front, each_push}

-- ---- the start

empty_table : {X : Type 0} (m : BTreeMap ℕ X) → m.entries ≡ [] → (k : ℕ) → get nat_cmp m k ≡ None
empty_table m e k = ap (lookup (is_at (nat_cmp k))) e

none_met : {A S : Type 0} (met : HashSet (Vec ℕ A) S) → met.keys ≡ [] → (q : List ℕ) → ¬ (was_met met q ≡ true)
none_met met e q h = false≢true (sym (ap (list_any (λ k. pointwise nat_eq q k.items)) e) ∙ h)

all_items : (items : List Item) → slice_range items 0 (length items) ≡ items
all_items items = take_all (length items - 0) items (omega arith)

module _ (items : List Item) (w : Walker) (closed : AreClosed false items) (symbols : w.symbols.entries ≡ [])
    (calls : w.calls.entries ≡ []) (read : w.names.read.entries ≡ []) (ways : w.names.ways.items ≡ [])
    (repeated : w.names.repeated.entries ≡ []) (met : w.met.keys ≡ []) (count : w.count ≡ 0) (shapes : w.shapes ≡ [])
    (labels : w.labels ≡ [])
    (leaves : HereLeaves) where
  abbrev level : Level
  level = top (length items)

  began : state_of items [] 0 [] (level ∷ []) ≡ start items
  began = λ i. record {
    definitions = [];
    count = 0;
    names = [];
    frames =
        record {
          symbol = None;
          way = Some [];
          scale = unit;
          layer = None;
          place = λ r. leaves r i;
          left = all_items items i;
        } ∷ [];
  }

  first_level : IsLevel items 0 w.opened 0 level
  first_level = record {
    ratio = record {
      a = omega (arith, ints);
      b = omega (arith, ints);
      short_a = omega (arith, ints);
      short_b = omega (arith, ints);
    };
    held = ((omega (arith, ints), omega (arith, ints)), (omega (arith, ints), omega (arith, ints)));
    forward = omega arith;
    within = omega arith;
    nested = subst (AreClosed false) (sym (all_items items)) closed;
    number = λ n e. let f : None ≡ Some n = e in cc;
  }

  first_named : AreNamed items w.names w.met (level ∷ [])
  first_named = record {
    ways = [] ∷ [];
    size = sym (ap (λ xs. suc (length xs)) ways);
    root = refl;
    steps = λ k s g.
        let e : slice_get [] k ≡ Some s = sym (ap (λ xs. slice_get xs k) ways) ∙ g in
        absurd (omega (arith, slice_get_within [] k s e));
    repeated = λ k s g. absurd (let f : None ≡ Some s = sym (empty_table w.names.repeated repeated k) ∙ g in cc);
    read = λ k l g o d text i. absurd (let f : None ≡ Some l = sym (empty_table w.names.read read k) ∙ g in cc);
    levels = λ k d m.
        let e : 0 ≡ k = omega (arith, m) in
        subst (λ j. IsWayAt ([] ∷ []) (get_or (level ∷ []) j d).way (way_of items (take (suc j) (level ∷ [])))) e
        ([], refl, refl);
  }

  pub walking_start : (vs : List Level) → vs ≡ level ∷ [] → IsWalking items w vs
  walking_start vs is =
      let leads : Leads items [] [] (state_of items [] 0 [] (level ∷ [])) =
      λ rs ls e k. subst (λ s. Walks s rs ls e) began k in
      subst (IsWalking items w) (sym is) (record {
        definitions = [];
        table = record {
          stands = λ n s g. absurd (let f : None ≡ Some s = sym (empty_table w.symbols symbols n) ∙ g in cc);
          missing = λ n g d s. elim s [ ];
          fits = λ n s g. absurd (let f : None ≡ Some s = sym (empty_table w.symbols symbols n) ∙ g in cc);
        };
        calls = λ k c g i s. absurd (let f : None ≡ Some c = sym (empty_table w.calls calls k) ∙ g in cc);
        names = [];
        met = λ q. ((λ c. absurd (nothing_in q c)), (λ c. absurd (none_met w.met met q c)));
        named = first_named;
        leads = subst (λ n. Leads items w.shapes w.labels (state_of items [] n [] (level ∷ []))) (sym count)
            (subst (λ xs. Leads items xs w.labels (state_of items [] 0 [] (level ∷ []))) (sym shapes)
            (subst (λ ys. Leads items [] ys (state_of items [] 0 [] (level ∷ []))) (sym labels) leads));
        limit = omega (arith, count);
        stack = each_push (IsLevel items w.count w.opened) [] level (each_nil (IsLevel items w.count w.opened))
            (subst (λ n. IsLevel items n w.opened 0 level) (sym count) first_level);
      })

-- ---- a level that is done

-- the walker's own levels don't matter
pub same_walking : (items : List Item) (w : Walker) (vs : List Level) (new : Walker)
    → new ≡ record w { levels = new.levels } → IsWalking items w vs → IsWalking items new vs
same_walking items w vs new e h =
    let mid : Walker = record w { levels = new.levels } in
    let k : IsWalking items mid vs =
    record {
      definitions = h.definitions;
      table = h.table;
      calls = h.calls;
      names = h.names;
      met = h.met;
      named = h.named;
      leads = h.leads;
      limit = h.limit;
      stack = h.stack;
    } in
    subst (λ x. IsWalking items x vs) (sym e) k

module _ (items : List Item) (w : Walker) (vs : List Level) (v : Level) (h : IsWalking items w (vs ++ (v ∷ []))) where
  pub walking_back : v.end ≤ v.next → IsWalking items w vs
  walking_back done = record {
    definitions = h.definitions;
    table = h.table;
    calls = h.calls;
    names = h.names;
    met = h.met;
    named = named_front items w.names w.met vs v h.named;
    leads = λ rs ls e k. h.leads rs ls e
        (Walks.back (frame_of items (onto items vs []) v) (onto items vs []) (onto_push items vs v []) (left_none items v done) k);
    limit = h.limit;
    stack = each_front (IsLevel items w.count w.opened) vs v h.stack;
  }

pub closer_back : (count : ℕ) (vs : List Level) (v : Level) → distance count vs < distance count (vs ++ (v ∷ []))
closer_back count [] v = omega arith
closer_back count (u ∷ vs) v = omega (arith, length-append vs (v ∷ []))

-- ---- the end

pub walked : (items : List Item) (w : Walker) (vs : List Level) → vs ≡ [] → IsWalking items w vs
    → FileWalks items w.shapes w.labels Whole
walked items w vs e h =
    let k : Walks (state_of items h.definitions w.count h.names vs) [] [] Whole = Walks.done (ap (λ us. onto items us []) e) in
    subst (λ xs. FileWalks items xs w.labels Whole) (append-nil w.shapes)
    (subst (λ ys. FileWalks items (w.shapes ++ []) ys Whole) (append-nil w.labels) (h.leads [] [] Whole k))
