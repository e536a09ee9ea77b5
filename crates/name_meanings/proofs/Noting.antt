-- What a map of names says once a definition or process is put into it.
use Rattle.std.proofs.Common.{◌≡◌, ℕ, suc, ◌+◌, ◌<◌, ◌≤◌, List, [], ◌∷◌, ◌++◌, Bool, true, false, not, cond, nat_eq}
use Rattle.std.proofs.Common.{refl, sym, ap, ◌∙◌, arith, Option, Some, None, unwrap_or, min, max, length, get_or, take}
use Rattle.std.proofs.Common.{map, filter, ◌&&◌, ◌||◌, append_assoc}
use Rattle.std.specs.Option.{option_map}
use Rattle.std.specs.List.{list_any}
use Rattle.std.specs.Cmp.Lexicographic.{pointwise}
use Rattle.std.proofs.lemmas.List.{take_more, take_all, map-append, append-nil, length-take}
use Rattle.std.proofs.lemmas.List.Elements.{filter-append}
use Rattle.std.proofs.lemmas.List.Folds.{list_any-append}
use Rattle.std.proofs.lemmas.Map.Text.{hash_map_updates_str}
use Rattle.indexmap.specs.IndexMap.{IndexMap, get_by, Updates}
use denote.Ref.{Bor}
use Rattle.mp_base.proofs.Tests.{or_true, or_false}
use Rattle.mp_program.specs.declared.program.Def.{Def}
use Rattle.mp_program.specs.declared.program.Process.{Process}
use Rattle.mp_program.specs.Names.{is_same, is_supply}
use Rattle.mp_program.proofs.Definitions.{same_is}
use Rattle.mp_rules.specs.Naming.{Naming, def_naming, process_naming}
use Rattle.mp_rules.specs.Rules.{is_unset}
use Rattle.name_meanings.specs.declared.named.Named.{Named}
use Rattle.name_meanings.specs.Named.{first_of, least_offset, second_offset, namings_in, named_in, unnamed, with_def}
use Rattle.name_meanings.specs.Named.{with_process}
use Rattle.name_meanings.specs.Seconds.{lesser, second_with}
use Rattle.name_meanings.specs.Keys.{known_in, HoldsNames}

-- the keys of the map, as it compares them
abbrev pub same_key : Bor (List ℕ) → Bor (List ℕ) → Bool
same_key a b = pointwise nat_eq a.now b.now

-- what a map says once a name is set
known_after : {S : Type 0} (m n : IndexMap (Bor (List ℕ)) Named S) (key : Bor (List ℕ)) (v : Named)
    → Updates same_key m n key (Some v) → (x : List ℕ)
    → known_in n x ≡ cond (is_same key.now x) v (known_in m x)
known_after {S} m n key v updates x =
    ap (λ (o : Option Named). unwrap_or o unnamed) (hash_map_updates_str key.now m n (Some v) updates x)
    ∙ turn (is_same key.now x) (get_by (λ k. pointwise nat_eq x k.now) m)
  where
    turn : (b : Bool) (o : Option Named) → unwrap_or (cond b (Some v) o) unnamed ≡ cond b v (unwrap_or o unnamed)
    turn true o = refl
    turn false o = refl

first_push : (ds : List Def) (d : Def) (x : List ℕ)
    → first_of (ds ++ d ∷ []) x ≡ cond (is_same d.name x) (Some (unwrap_or (first_of ds x) (length ds))) (first_of ds x)
first_push [] d x = refl
first_push (e ∷ es) d x =
    turn (is_same e.name x) (is_same d.name x) (first_of es x) (first_of (es ++ d ∷ []) x) (length es)
    (first_push es d x)
  where
    turn : (a b : Bool) (f g : Option ℕ) (n : ℕ) → g ≡ cond b (Some (unwrap_or f n)) f
        → cond a (Some 0) (option_map suc g)
        ≡ cond b (Some (unwrap_or (cond a (Some 0) (option_map suc f)) (suc n))) (cond a (Some 0) (option_map suc f))
    turn true true f g n e = refl
    turn true false f g n e = refl
    turn false false f g n e = ap (option_map suc) e
    turn false true None g n e = ap (option_map suc) e
    turn false true (Some k) g n e = ap (option_map suc) e

-- a definition of a name that no form may set
abbrev unset_as : List ℕ → Def → Bool
unset_as x d = is_same d.name x && is_unset d.what

lesser_twice : (f : Option ℕ) (a b : ℕ) → lesser (lesser f a) b ≡ lesser (lesser f b) a
lesser_twice None a b = ap Some (omega arith)
lesser_twice (Some l) a b = ap Some (omega arith)

least_push : (ns : List Naming) (n : Naming) (x : List ℕ)
    → least_offset (ns ++ n ∷ []) x
    ≡ cond (is_same n.name x) (lesser (least_offset ns x) (n.place).offset) (least_offset ns x)
least_push [] n x = refl
least_push (m ∷ ms) n x =
    turn (is_same m.name x) (is_same n.name x) (m.place).offset (n.place).offset (least_offset ms x)
    (least_offset (ms ++ n ∷ []) x) (least_push ms n x)
  where
    turn : (a b : Bool) (i j : ℕ) (f g : Option ℕ) → g ≡ cond b (lesser f j) f
        → cond a (lesser g i) g ≡ cond b (lesser (cond a (lesser f i) f) j) (cond a (lesser f i) f)
    turn true true i j f g e = ap (λ o. lesser o i) e ∙ lesser_twice f j i
    turn true false i j f g e = ap (λ o. lesser o i) e
    turn false true i j f g e = e
    turn false false i j f g e = e

median : (l i j : ℕ) → min (max l j) (max (min l j) i) ≡ min (max l i) (max (min l i) j)
median l i j = omega arith

min_same : (a : ℕ) → min a a ≡ a
min_same a = omega arith

min_thrice : (a b c : ℕ) → min (min a b) c ≡ min a (min b c)
min_thrice a b c = omega arith

second_twice : (f g : Option ℕ) (i j : ℕ)
    → second_with (lesser f j) (second_with f g j) i ≡ second_with (lesser f i) (second_with f g i) j
second_twice None None i j = ap Some (same i j)
  where
    same : (i j : ℕ) → min (max (min j j) i) (max (min j j) i) ≡ min (max (min i i) j) (max (min i i) j)
    same i j =
        min_same (max (min j j) i) ∙ ap (λ a. max a i) (min_same j) ∙ (let e : max j i ≡ max i j = omega arith in e)
        ∙ sym (ap (λ a. max a j) (min_same i)) ∙ sym (min_same (max (min i i) j))
second_twice None (Some s) i j = ap (λ a. Some (min s a)) (same i j)
  where
    same : (i j : ℕ) → max (min j j) i ≡ max (min i i) j
    same i j = ap (λ a. max a i) (min_same j) ∙ (let e : max j i ≡ max i j = omega arith in e)
        ∙ sym (ap (λ a. max a j) (min_same i))
second_twice (Some l) None i j =
    ap Some (ap (λ a. min a (max (min l j) i)) (min_same (max l j)) ∙ median l i j
    ∙ sym (ap (λ a. min a (max (min l i) j)) (min_same (max l i))))
second_twice (Some l) (Some s) i j =
    ap Some (min_thrice s (max l j) (max (min l j) i) ∙ ap (min s) (median l i j)
    ∙ sym (min_thrice s (max l i) (max (min l i) j)))

second_push : (ns : List Naming) (n : Naming) (x : List ℕ)
    → second_offset (ns ++ n ∷ []) x
    ≡ cond (is_same n.name x) (second_with (least_offset ns x) (second_offset ns x) (n.place).offset)
    (second_offset ns x)
second_push [] n x = turn (is_same n.name x)
  where
    turn : (b : Bool)
        → cond b (second_with None None (n.place).offset) None ≡ cond b (second_with None None (n.place).offset) None
    turn b = refl
second_push (m ∷ ms) n x =
    turn (is_same m.name x) (is_same n.name x) (m.place).offset (n.place).offset (least_offset ms x)
    (least_offset (ms ++ n ∷ []) x)
    (second_offset ms x) (second_offset (ms ++ n ∷ []) x) (least_push ms n x) (second_push ms n x)
  where
    turn : (a b : Bool) (i j : ℕ) (f g s t : Option ℕ) → g ≡ cond b (lesser f j) f → t ≡ cond b (second_with f s j) s
        → cond a (second_with g t i) t
        ≡ cond b (second_with (cond a (lesser f i) f) (cond a (second_with f s i) s) j) (cond a (second_with f s i) s)
    turn true true i j f g s t e h = rw (e, h) (second_twice f s i j)
    turn true false i j f g s t e h = rw (e, h) refl
    turn false true i j f g s t e h = h
    turn false false i j f g s t e h = h

-- a definition that has a name
abbrev has_name : Def → Bool
has_name d = not (is_supply d.what)

-- a further definition has a name, or is a supply
namings_push : (ds : List Def) (d : Def)
    → namings_in (ds ++ d ∷ []) [] ≡ cond (is_supply d.what) (namings_in ds []) (namings_in ds [] ++ def_naming d ∷ [])
namings_push ds d = append-nil (map def_naming (filter has_name (ds ++ d ∷ [])))
    ∙ ap (map def_naming) (filter-append has_name ds (d ∷ []))
    ∙ map-append def_naming (filter has_name ds) (filter has_name (d ∷ []))
    ∙ turn (is_supply d.what) (map def_naming (filter has_name ds))
  where
    turn : (s : Bool) (ns : List Naming)
        → ns ++ map def_naming (cond (not s) (d ∷ []) []) ≡ cond s (ns ++ []) ((ns ++ []) ++ def_naming d ∷ [])
    turn true ns = refl
    turn false ns = ap (λ l. l ++ def_naming d ∷ []) (sym (append-nil ns))

unchanged : (b : Bool) (o : Option ℕ) → o ≡ cond b o o
unchanged true o = refl
unchanged false o = refl

def_least : (ds : List Def) (d : Def) (x : List ℕ) → least_offset (namings_in (ds ++ d ∷ []) []) x
    ≡ cond (is_same d.name x)
    (cond (is_supply d.what) (least_offset (namings_in ds []) x)
    (lesser (least_offset (namings_in ds []) x) (d.place).offset)) (least_offset (namings_in ds []) x)
def_least ds d x = ap (λ ns. least_offset ns x) (namings_push ds d) ∙ turn (is_supply d.what)
  where
    turn : (s : Bool) → least_offset (cond s (namings_in ds []) (namings_in ds [] ++ def_naming d ∷ [])) x
        ≡ cond (is_same d.name x)
        (cond s (least_offset (namings_in ds []) x) (lesser (least_offset (namings_in ds []) x) (d.place).offset))
        (least_offset (namings_in ds []) x)
    turn true = unchanged (is_same d.name x) (least_offset (namings_in ds []) x)
    turn false = least_push (namings_in ds []) (def_naming d) x

def_second : (ds : List Def) (d : Def) (x : List ℕ) → second_offset (namings_in (ds ++ d ∷ []) []) x
    ≡ cond (is_same d.name x)
    (cond (is_supply d.what) (second_offset (namings_in ds []) x)
    (second_with (least_offset (namings_in ds []) x) (second_offset (namings_in ds []) x) (d.place).offset))
    (second_offset (namings_in ds []) x)
def_second ds d x = ap (λ ns. second_offset ns x) (namings_push ds d) ∙ turn (is_supply d.what)
  where
    turn : (s : Bool) → second_offset (cond s (namings_in ds []) (namings_in ds [] ++ def_naming d ∷ [])) x
        ≡ cond (is_same d.name x)
        (cond s (second_offset (namings_in ds []) x)
        (second_with (least_offset (namings_in ds []) x) (second_offset (namings_in ds []) x) (d.place).offset))
        (second_offset (namings_in ds []) x)
    turn true = unchanged (is_same d.name x) (second_offset (namings_in ds []) x)
    turn false = second_push (namings_in ds []) (def_naming d) x

-- what is known of a name, part by part
abbrev parts : Option ℕ → Option ℕ → Option ℕ → Bool → Bool → Named
parts f o s p u = record { first = f; least = o; second = s; process = p; unset = u }

-- what is known of a name once there is a further definition
def_push : (ds : List Def) (d : Def) (x : List ℕ)
    → named_in (ds ++ d ∷ []) [] x
    ≡ cond (is_same d.name x) (with_def (named_in ds [] x) (length ds) d) (named_in ds [] x)
def_push ds d x =
    turn (is_same d.name x) (first_of ds x) (first_of (ds ++ d ∷ []) x) (least_offset (namings_in ds []) x)
    (least_offset (namings_in (ds ++ d ∷ []) []) x)
    (second_offset (namings_in ds []) x) (second_offset (namings_in (ds ++ d ∷ []) []) x) (list_any (unset_as x) ds)
    (list_any (unset_as x) (ds ++ d ∷ []))
    (first_push ds d x) (def_least ds d x) (def_second ds d x) (list_any-append (unset_as x) ds (d ∷ []))
  where
    turn : (b : Bool) (f g o l s t : Option ℕ) (u w : Bool) → g ≡ cond b (Some (unwrap_or f (length ds))) f
        → l ≡ cond b (cond (is_supply d.what) o (lesser o (d.place).offset)) o
        → t ≡ cond b (cond (is_supply d.what) s (second_with o s (d.place).offset)) s
        → w ≡ (u || ((b && is_unset d.what) || false))
        → parts g l t false w ≡ cond b (with_def (parts f o s false u) (length ds) d) (parts f o s false u)
    turn true f g o l s t u w first least next unset =
        let e : w ≡ (u || is_unset d.what) = unset ∙ ap (λ a. u || a) (or_false (is_unset d.what)) in cc
    turn false f g o l s t u w first least next unset = let e : w ≡ u = unset ∙ or_false u in cc

-- and once there is a further process
process_push : (ds : List Def) (qs : List Process) (q : Process) (x : List ℕ)
    → named_in ds (qs ++ q ∷ []) x ≡ cond (is_same q.name x) (with_process (named_in ds qs x) q) (named_in ds qs x)
process_push ds qs q x =
    turn (is_same q.name x) (first_of ds x) (least_offset (namings_in ds qs) x)
    (least_offset (namings_in ds (qs ++ q ∷ [])) x)
    (second_offset (namings_in ds qs) x) (second_offset (namings_in ds (qs ++ q ∷ [])) x)
    (list_any (λ (r : Process). is_same r.name x) qs) (list_any (λ (r : Process). is_same r.name x) (qs ++ q ∷ []))
    (list_any (unset_as x) ds)
    (ap (λ ns. least_offset ns x) one_more ∙ least_push (namings_in ds qs) (process_naming q) x)
    (ap (λ ns. second_offset ns x) one_more ∙ second_push (namings_in ds qs) (process_naming q) x)
    (list_any-append (λ (r : Process). is_same r.name x) qs (q ∷ []))
  where
    one_more : namings_in ds (qs ++ q ∷ []) ≡ namings_in ds qs ++ process_naming q ∷ []
    one_more = ap (λ ns. map def_naming (filter has_name ds) ++ ns) (map-append process_naming qs (q ∷ []))
        ∙ sym (append_assoc (map def_naming (filter has_name ds)) (map process_naming qs) (process_naming q ∷ []))

    turn : (b : Bool) (f o l s t : Option ℕ) (p r u : Bool) → l ≡ cond b (lesser o (q.place).offset) o
        → t ≡ cond b (second_with o s (q.place).offset) s
        → r ≡ (p || (b || false)) → parts f l t r u ≡ cond b (with_process (parts f o s p u) q) (parts f o s p u)
    turn true f o l s t p r u least next process = let e : r ≡ true = process ∙ or_true p in cc
    turn false f o l s t p r u least next process = let e : r ≡ p = process ∙ or_false p in cc

-- a definition is put into a map
pub def_noted : {S : Type 0} (ds : List Def) (i : ℕ) (d : Def) (m n : IndexMap (Bor (List ℕ)) Named S)
    (key : Bor (List ℕ)) (v : Named)
    → i < length ds → d ≡ get_or ds i d → key.now ≡ d.name → v ≡ with_def (known_in m key.now) i d
    → Updates same_key m n key (Some v)
    → HoldsNames (take i ds) [] m → HoldsNames (take (i + 1) ds) [] n
def_noted {S} ds i d m n key v lt is named value updates holds x =
    known_after m n key v updates x ∙ turn (is_same key.now x) refl
    ∙ ap (λ y. cond (is_same y x) (with_def (named_in (take i ds) [] x) (length (take i ds)) d)
    (named_in (take i ds) [] x)) named
    ∙ sym (def_push (take i ds) d x)
    ∙ ap (λ l. named_in l [] x) (sym (take_more ds i d lt ∙ ap (λ e. take i ds ++ e ∷ []) (sym is)))
  where
    turn : (b : Bool) → is_same key.now x ≡ b
        → cond b v (known_in m x)
        ≡ cond b (with_def (named_in (take i ds) [] x) (length (take i ds)) d) (named_in (take i ds) [] x)
    turn true e = value ∙ ap (λ a. with_def a i d) (holds key.now ∙ ap (named_in (take i ds) []) (same_is key.now x e))
        ∙ ap (λ k. with_def (named_in (take i ds) [] x) k d) (let size = length-take i ds in omega (arith, size))
    turn false e = holds x

-- a process is put into a map
pub process_noted : {S : Type 0} (ds : List Def) (qs : List Process) (i : ℕ) (q : Process)
    (m n : IndexMap (Bor (List ℕ)) Named S) (key : Bor (List ℕ)) (v : Named)
    → i < length qs → q ≡ get_or qs i q → key.now ≡ q.name → v ≡ with_process (known_in m key.now) q
    → Updates same_key m n key (Some v)
    → HoldsNames ds (take i qs) m → HoldsNames ds (take (i + 1) qs) n
process_noted {S} ds qs i q m n key v lt is named value updates holds x =
    known_after m n key v updates x ∙ turn (is_same key.now x) refl
    ∙ ap (λ y. cond (is_same y x) (with_process (named_in ds (take i qs) x) q) (named_in ds (take i qs) x)) named
    ∙ sym (process_push ds (take i qs) q x)
    ∙ ap (λ l. named_in ds l x) (sym (take_more qs i q lt ∙ ap (λ e. take i qs ++ e ∷ []) (sym is)))
  where
    turn : (b : Bool) → is_same key.now x ≡ b
        → cond b v (known_in m x) ≡ cond b (with_process (named_in ds (take i qs) x) q) (named_in ds (take i qs) x)
    turn true e =
        value ∙ ap (λ a. with_process a q) (holds key.now ∙ ap (named_in ds (take i qs)) (same_is key.now x e))
    turn false e = holds x

pub all_noted : {S : Type 0} (ds : List Def) (qs : List Process) (i : ℕ) (m : IndexMap (Bor (List ℕ)) Named S)
    → length qs ≤ i
    → HoldsNames ds (take i qs) m → HoldsNames ds qs m
all_noted {S} ds qs i m le holds x = holds x ∙ ap (λ l. named_in ds l x) (take_all i qs le)

pub all_defs_noted : {S : Type 0} (ds : List Def) (i : ℕ) (m : IndexMap (Bor (List ℕ)) Named S) → length ds ≤ i
    → HoldsNames (take i ds) [] m → HoldsNames ds [] m
all_defs_noted {S} ds i m le holds x = holds x ∙ ap (λ l. named_in l [] x) (take_all i ds le)
