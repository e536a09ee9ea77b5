-- Names of labels: how they begin, and which were met.
use Rattle.std.proofs.Common.{ℕ, ◌≡◌, inl, inr, refl, sym, ◌∙◌, ap, subst, List, [], ◌∷◌, ◌++◌, Bool, true, false, not}
use Rattle.std.proofs.Common.{◌||◌, ◌&&◌, ◌+◌, ◌<◌, ◌≤◌, suc, length, take, drop, get_or, append_assoc, Option, Some, None}
use Rattle.std.specs.Prelude.{Contains, Vec, nat_eq}
use Rattle.std.specs.HashSet.{HashSet, PutsKey}
use Rattle.std.specs.List.{list_any}
use Rattle.std.proofs.lemmas.List.Sorted.{list_any-IsPermutation}
use Rattle.std.specs.Cmp.Lexicographic.{pointwise}
use Rattle.std.proofs.lemmas.Bool.{or_cases, eqb-true, eq-eqb, false≢true}
use Rattle.std.proofs.Math.Bool.{or-true}
use Rattle.std.proofs.Math.Seq.{split_at}
use Rattle.std.proofs.lemmas.List.{take_more, take_all}
use Rattle.std.proofs.lemmas.List.Elements.{Contains-append_cases, Contains-append_right}
use Rattle.mp_base.proofs.Contents.{is_only_one, contains_head}
use Rattle.cif_form.specs.declared.command.Item.{Item}
use Rattle.cif_form.specs.Names.{way_into}
use Rattle.cif_form.specs.Walk.{Frame}
use Rattle.cif_flat.specs.declared.level.Level.{Level}
use Rattle.cif_flat.specs.declared.symbol.Naming.{Naming}
use Rattle.cif_flat.specs.Naming.{naming_bytes, name_of, way_from, way_of}
use Rattle.cif_flat.specs.Meeting.{was_met, is_name}
use Rattle.cif_flat.specs.Walking.{frame_of, onto, way_within, AreMet}

-- ---- ways

way_on : (items : List Item) (f : Frame) (fs : List Frame) (vs : List Level) (v : Level)
    → way_within (onto items vs (f ∷ fs)) (name_of items v.named) ≡ way_from items f.way (vs ++ (v ∷ []))
way_on items f fs [] v = refl
way_on items f fs (u ∷ vs) v = way_on items (frame_of items (f ∷ fs) u) (f ∷ fs) vs v

-- the way in the frame of the innermost level
pub way_is : (items : List Item) (vs : List Level) (v : Level)
    → way_within (onto items vs []) (name_of items v.named) ≡ way_of items (vs ++ (v ∷ []))
way_is items [] v = refl
way_is items (u ∷ vs) v = way_on items (frame_of items [] u) [] vs v

pub way_split : (items : List Item) (way : Option (List ℕ)) (vs us : List Level)
    → way_from items way (vs ++ us) ≡ way_from items (way_from items way vs) us
way_split items way [] us = refl
way_split items way (v ∷ vs) us = way_split items (way_into way (name_of items v.named)) vs us

pub nowhere : (name : Option (List ℕ)) → way_into None name ≡ None
nowhere None = refl
nowhere (Some name) = refl

pub unnamed : (way : Option (List ℕ)) → way_into way None ≡ None
unnamed None = refl
unnamed (Some way) = refl

-- where a symbol has no name, those called from it have no way
pub no_way : (items : List Item) (vs : List Level) → way_from items None vs ≡ None
no_way items [] = refl
no_way items (v ∷ vs) = ap (λ way. way_from items way vs) (nowhere (name_of items v.named)) ∙ no_way items vs

pub no_way_at : (items : List Item) (way : Option (List ℕ)) (v : Level) (vs : List Level) → v.named ≡ None
    → way_from items way (v ∷ vs) ≡ None
no_way_at items way v vs e =
    ap (λ n. way_from items (way_into way (name_of items n)) vs) e
    ∙ ap (λ w. way_from items w vs) (unnamed way) ∙ no_way items vs

way_named : (items : List Item) (way : List ℕ) (v : Level) (n : Naming) (new : List ℕ) → v.named ≡ Some n
    → new ≡ (way ++ naming_bytes items n) ++ (47 ∷ []) → way_into (Some way) (name_of items v.named) ≡ Some new
way_named items way v n new e is =
    ap (λ m. way_into (Some way) (name_of items m)) e
    ∙ ap (λ z. Some z) (sym (append_assoc way (naming_bytes items n) (47 ∷ [])) ∙ sym is)

-- one more level around
pub way_more : (items : List Item) (inner : List Level) (k : ℕ) (d : Level) (way new : List ℕ) (n : Naming)
    → k < length inner → way_from items (Some []) (take k inner) ≡ Some way → (get_or inner k d).named ≡ Some n
    → new ≡ (way ++ naming_bytes items n) ++ (47 ∷ []) → way_from items (Some []) (take (k + 1) inner) ≡ Some new
way_more items inner k d way new n lt h e is =
    ap (way_from items (Some [])) (take_more inner k d lt)
    ∙ way_split items (Some []) (take k inner) (get_or inner k d ∷ [])
    ∙ ap (λ w. way_from items w (get_or inner k d ∷ [])) h ∙ way_named items way (get_or inner k d) n new e is

module _ (items : List Item) (levels : List Level) (first : Level) (inner : List Level) (split : levels ≡ first ∷ inner)
    (v : Level) where
  from_inner : way_of items (levels ++ (v ∷ [])) ≡ way_from items (way_from items (Some []) inner) (v ∷ [])
  from_inner = ap (λ ls. way_of items (ls ++ (v ∷ []))) split ∙ way_split items (Some []) inner (v ∷ [])

  -- the innermost symbol has no name
  pub way_unnamed : v.named ≡ None → way_of items (levels ++ (v ∷ [])) ≡ None
  way_unnamed e = from_inner ∙ no_way_at items (way_from items (Some []) inner) v [] e

  -- one around it has none
  pub way_stops : (k : ℕ) (d : Level) → k < length inner → (get_or inner k d).named ≡ None
      → way_of items (levels ++ (v ∷ [])) ≡ None
  way_stops k d lt e =
      let o = get_or inner k d in
      let rest = drop (suc k) inner in
      from_inner ∙ ap (λ z. way_from items (way_from items (Some []) z) (v ∷ [])) (split_at inner k d lt)
      ∙ ap (λ w. way_from items w (v ∷ []))
      (way_split items (Some []) (take k inner) (o ∷ rest)
      ∙ no_way_at items (way_from items (Some []) (take k inner)) o rest e)
      ∙ no_way items (v ∷ [])

  pub way_ends : (k : ℕ) (way new : List ℕ) (n : Naming) → length inner ≤ k
      → way_from items (Some []) (take k inner) ≡ Some way → v.named ≡ Some n
      → new ≡ (way ++ naming_bytes items n) ++ (47 ∷ []) → way_of items (levels ++ (v ∷ [])) ≡ Some new
  way_ends k way new n le h e is =
      from_inner
      ∙ ap (λ w. way_from items w (v ∷ [])) (ap (way_from items (Some [])) (sym (take_all k inner le)) ∙ h)
      ∙ way_named items way v n new e is

-- ---- names that were met

same_bytes : (a b : List ℕ) → pointwise nat_eq a b ≡ true → a ≡ b
same_bytes [] [] e = refl
same_bytes [] (y ∷ b) e = cc
same_bytes (x ∷ a) [] e = cc
same_bytes (x ∷ a) (y ∷ b) e =
    let both_same = cases x y (pointwise nat_eq a b) e in
    λ i. eqb-true x y both_same.0 i ∷ same_bytes a b both_same.1 i
  where
    both : (p q : Bool) → (p && q) ≡ true → (p ≡ true) × (q ≡ true)
    both true q h = (refl, h)
    both false q h = cc

    cases : (x y : ℕ) (q : Bool) → (nat_eq x y && q) ≡ true → (nat_eq x y ≡ true) × (q ≡ true)
    cases x y q h = both (nat_eq x y) q h

itself : (a : List ℕ) → pointwise nat_eq a a ≡ true
itself [] = refl
itself (x ∷ a) = ap (λ b. b && pointwise nat_eq a a) (eq-eqb x x refl) ∙ itself a

-- one more name was met
pub met_more : {A S : Type 0} (name : List ℕ) (names : List (List ℕ)) (old new : HashSet (Vec ℕ A) S) → AreMet names old
    → ((q : List ℕ) → was_met new q ≡ (is_name name q || was_met old q)) → AreMet (name ∷ names) new
met_more name names old new h more q = (
  (λ c. more q ∙ (elim (Contains-append_cases (name ∷ []) names q c) [
    | inl d ↦ ap (λ b. b || was_met old q) (ap (is_name name) (is_only_one name q d) ∙ itself name)
    | inr d ↦ ap (λ b. is_name name q || b) ((h q).0 d) ∙ or-true (is_name name q)
  ])),
  (λ e. elim (or_cases (is_name name q) (was_met old q) (sym (more q) ∙ e)) [
    | inl f ↦ subst (λ b. Contains (name ∷ names) b) (sym (same_bytes q name f)) (contains_head name names)
    | inr f ↦ Contains-append_right (name ∷ []) names q ((h q).1 f)
  ]),
)

-- ---- a key that is put into a set

or_itself : (b rest : Bool) → (b ≡ true → rest ≡ true) → rest ≡ (b || rest)
or_itself true rest h = h refl
or_itself false rest h = refl

not_not : (b : Bool) → false ≡ not b → b ≡ true
not_not true e = refl
not_not false e = absurd (false≢true e)

pub met_put : {A S : Type 0} (old new : HashSet (Vec ℕ A) S) (key : Vec ℕ A) (added : Bool) → PutsKey old new key added
    → added ≡ not (list_any (λ k. pointwise nat_eq key.items k.items) old.keys)
    → (q : List ℕ) → was_met new q ≡ (is_name key.items q || was_met old q)
met_put old new key true p e q =
    sym (list_any-IsPermutation (λ k. pointwise nat_eq q k.items) (key ∷ old.keys) new.keys p)
met_put old new key false p e q =
    ap (list_any (λ k. pointwise nat_eq q k.items)) p
    ∙ or_itself (pointwise nat_eq q key.items) (list_any (λ k. pointwise nat_eq q k.items) old.keys)
    (λ h. ap (λ z. list_any (λ k. pointwise nat_eq z k.items) old.keys) (same_bytes q key.items h)
    ∙ not_not (list_any (λ k. pointwise nat_eq key.items k.items) old.keys) e)
