-- Words that stand for links.
use Rattle.std.proofs.Common.{
  ◌≡◌,
  ◌∙◌,
  ℕ,
  zero,
  suc,
  ◌+◌,
  ◌<◌,
  ◌≤◌,
  List,
  [],
  ◌∷◌,
  ◌++◌,
  Bool,
  true,
  false,
  cond,
  eqb,
  Option,
  Some,
  None,
  length,
  map,
  take,
  get_or,
  codes,
  refl,
  sym,
  ap,
  ap₂,
  subst,
  inl,
  inr,
  arith,
  Bor,
}
use Rattle.std.specs.Prelude.{◌⊎◌, All, MatchOption, nat_lt, slice_get, slice_index_or}
use Rattle.std.specs.List.{position_or_len, slice_split, take-map}
use Rattle.std.specs.Str.{bytes_eq}
use Rattle.std.proofs.lemmas.Bool.{cond-true, cond-false, cases_Bool, ltb-true, lt-ltb}
use Rattle.std.proofs.lemmas.List.{get_or-map, length-map, map-append, map_more}
use Rattle.std.proofs.lemmas.Slice.Eq.{bytes_eq-Decides}
use Rattle.std.proofs.lemmas.List.Elements.{All-nil, All-cons}
use Rattle.std.proofs.lemmas.List.Quantifiers.{position-Some, all_pairs_push}
use Rattle.std.proofs.lemmas.List.Splits.{slice_split_none, slice_split_first, length-slice_split}
use Rattle.std.proofs.lemmas.List.Sums.{position_or_len_is, fails_before_first}
use Rattle.std.proofs.lemmas.Str.Pattern.{IsSplitOnceResult, split_once_first}
use Rattle.std.specs.Option.{option_map}
use Rattle.std.proofs.lemmas.Option.{slice_get-get_or, slice_get-map}
use Rattle.mp_base.specs.declared.refusal.Broken as broken
use Rattle.mp_base.specs.declared.refusal.Rule.{Rule}
use Rattle.mp_base.specs.declared.refusal.Spot.TheVariants.{Named}
use Rattle.mp_base.specs.declared.refusal.Refusal.{Refusal}
use Rattle.mp_base.specs.declared.refusal.Refusal.TheVariants.{Broken, NoMemory}
use Rattle.mp_base.specs.Refuses.{IsRefusal}
use Rattle.mp_base.specs.declared.pad.Pad.{Pad}
use Rattle.mp_base.specs.declared.pad.Pads.{Pads}
use Rattle.board.specs.declared.link.Link.{Link}
use Rattle.board.specs.declared.link.Naming.{Naming}
use Rattle.board.specs.Boarding.{AreApart, AreWires, IsWire}
use Rattle.board.specs.Links.{AreLinks, Breaks, IsBrokenAt, IsLinkOf, IsThree, MayFollow, OfWords, driven_of, named_by}
use Rattle.board.specs.Links.{naming, naming_of, nothing, pad_of, place_of}

abbrev is_colon : ℕ → Bool
is_colon c = eqb c 58

-- ---- fields

pub split_cases : (text : List ℕ) (r : Option (Bor (List ℕ) × Bor (List ℕ))) → IsSplitOnceResult 58 text r
    → MatchOption r (slice_split is_colon text ≡ text ∷ [])
    (λ p. slice_split is_colon text ≡ p.0.now ∷ slice_split is_colon p.1.now)
split_cases text None h =
    let e = split_once_first 58 text None h (omega arith) in
    slice_split_none is_colon text (λ k d lt. fails_before_first is_colon text k d (omega (arith, lt, e)))
split_cases text (Some p) h =
    let e = split_once_first 58 text (Some p) h (omega arith) in
    slice_split_first is_colon text 0 e.0
    ∙ ap₂ (λ a b. a ∷ slice_split is_colon b) (sym e.1) (sym e.2)

pub one_field : (fs : List (List ℕ)) (a : List ℕ) → fs ≡ a ∷ [] → IsThree fs → ⊥
one_field fs a e h = subst IsThree e h

pub two_fields : (fs rest : List (List ℕ)) (a b : List ℕ) → fs ≡ a ∷ rest → rest ≡ b ∷ [] → IsThree fs → ⊥
two_fields fs rest a b e f h = subst IsThree (e ∙ ap (λ r. a ∷ r) f) h

pub three_fields : (fs rest last : List (List ℕ)) (a b c : List ℕ) → fs ≡ a ∷ rest → rest ≡ b ∷ last → last ≡ c ∷ []
    → fs ≡ a ∷ b ∷ c ∷ []
three_fields fs rest last a b c e f h = e ∙ ap (λ r. a ∷ r) (f ∙ ap (λ l. b ∷ l) h)

pub more_fields : (fs rest last : List (List ℕ)) (a b c text : List ℕ) → fs ≡ a ∷ rest → rest ≡ b ∷ last
    → last ≡ c ∷ slice_split is_colon text → IsThree fs → ⊥
more_fields fs rest last a b c text e f h three =
    four (slice_split is_colon text) (let n = length-slice_split is_colon text in omega (arith, n))
    (subst IsThree (e ∙ ap (λ r. a ∷ r) (f ∙ ap (λ l. b ∷ l) h)) three)
  where
    four : (zs : List (List ℕ)) → 0 < length zs → IsThree (a ∷ b ∷ c ∷ zs) → ⊥
    four [] some is = omega (arith, some)
    four (z ∷ zs) some is = is

-- ---- places of names

module _ {P : Type 0} (name_of : P → List ℕ) (xs : List P) (name : List ℕ) where
  abbrev is_it : List ℕ → Bool
  is_it n = bytes_eq n name

  abbrev pub Missed : ℕ → Type 0
  Missed i = (k : ℕ) → k < i → bytes_eq (slice_index_or (map name_of xs) k []) name ≡ false

  pub missed_more : (i : ℕ) (x : P) → i < length xs → x ≡ get_or xs i x → bytes_eq (name_of x) name ≡ false → Missed i
      → Missed (i + 1)
  missed_more i x lt at other missed k less = elim (split k less) [
    | inl below ↦ missed k below
    | inr here ↦
        ap (λ j. bytes_eq (get_or (map name_of xs) j []) name) here
        ∙ ap (λ n. bytes_eq n name) (get_or-map name_of xs i x [] lt ∙ ap name_of (sym at)) ∙ other
  ]
    where
      split : (k : ℕ) → k < i + 1 → (k < i) ⊎ (k ≡ i)
      split k less = grind arith

  pub place_found : (i : ℕ) (x : P) → i < length xs → x ≡ get_or xs i x → bytes_eq (name_of x) name ≡ true → Missed i
      → Some i ≡ place_of (map name_of xs) name
  place_found i x lt at same missed =
      let many = length-map xs name_of in
      let is : position_or_len is_it (map name_of xs) ≡ i =
      position_or_len_is is_it (map name_of xs) i [] (omega (arith, lt, many)) missed
      (λ l. ap is_it (get_or-map name_of xs i x [] lt ∙ ap name_of (sym at)) ∙ same) in
      let less : position_or_len is_it (map name_of xs) < length (map name_of xs) = omega (arith, is, lt, many) in
      sym (cond-true _ _ _ (lt-ltb (position_or_len is_it (map name_of xs)) (length (map name_of xs)) less)
      ∙ ap Some is)

  pub place_none : (i : ℕ) → length xs ≤ i → Missed i → None ≡ place_of (map name_of xs) name
  place_none i le missed =
      let many = length-map xs name_of in
      let n = length (map name_of xs) in
      let is : position_or_len is_it (map name_of xs) ≡ n =
      position_or_len_is is_it (map name_of xs) n [] (omega arith) (λ k lt. missed k (omega (arith, lt, many, le)))
      (λ l. absurd (omega (arith, l))) in
      sym (cond-false (nat_lt (position_or_len is_it (map name_of xs)) n) _ _ (not_less _ _ is))
    where
      not_less : (a b : ℕ) → a ≡ b → nat_lt a b ≡ false
      not_less a b e = elim (cases_Bool (nat_lt a b)) [
        | inl less ↦ absurd (omega (arith, ltb-true a b less, e))
        | inr not ↦ not
      ]

-- a place of a name
pub place_inside : (names : List (List ℕ)) (name : List ℕ) (i : ℕ) → place_of names name ≡ Some i
    → (i < length names) × (bytes_eq (get_or names i []) name ≡ true)
place_inside names name i e = let h = position-Some (λ n. bytes_eq n name) names i [] e in (h.0, h.1)

pad_there : (pads : List Pad) (k : ℕ) → k < length pads
    → (q : Pad) × (slice_get pads k ≡ Some q) × (get_or (map (λ (pad : Pad). pad.name) pads) k [] ≡ q.name)
pad_there [] k lt = absurd (omega (arith, lt))
pad_there (p ∷ pads) zero lt = (p, refl, refl)
pad_there (p ∷ pads) (suc k) lt = pad_there pads k (omega (arith, lt))

-- ---- what a word names

pub naming_three : (parts : List (List ℕ)) (pads : Pads) (fs : List (List ℕ)) (a b c : List ℕ) (n : Naming)
    → fs ≡ a ∷ b ∷ c ∷ []
    → n.part ≡ place_of parts a → n.seen ≡ pad_of pads.outputs b → n.driven ≡ driven_of pads.inputs c
    → n ≡ named_by parts pads fs
naming_three parts pads fs a b c n e p s d = make p s d ∙ sym (ap (named_by parts pads) e)
  where
    made : Option ℕ → Option ℕ → Option ℕ → Naming
    made x y z = record { part = x; seen = y; driven = z }

    make : n.part ≡ place_of parts a → n.seen ≡ pad_of pads.outputs b → n.driven ≡ driven_of pads.inputs c
        → n ≡ made (place_of parts a) (pad_of pads.outputs b) (driven_of pads.inputs c)
    make p s d = λ i. record { part = p i; seen = s i; driven = d i }

pub naming_none : (parts : List (List ℕ)) (pads : Pads) (fs : List (List ℕ)) → (IsThree fs → ⊥)
    → nothing ≡ named_by parts pads fs
naming_none parts pads [] none = refl
naming_none parts pads (a ∷ []) none = refl
naming_none parts pads (a ∷ b ∷ []) none = refl
naming_none parts pads (a ∷ b ∷ c ∷ []) none = absurd (none tt)
naming_none parts pads (a ∷ b ∷ c ∷ d ∷ fs) none = refl

module _ (parts : List (List ℕ)) (pads : Pads) where
  no_link : (l : Link) → nothing ≡ naming_of l → ⊥
  no_link l e = let p : None ≡ Some l.part = ap (λ (n : Naming). n.part) e in cc

  -- a word that names all three is a wire
  pub wire_by : (fs : List (List ℕ)) (l : Link) → named_by parts pads fs ≡ naming_of l
      → (l.part < length parts) × IsWire pads l
  wire_by [] l e = absurd (no_link l e)
  wire_by (a ∷ []) l e = absurd (no_link l e)
  wire_by (a ∷ b ∷ []) l e = absurd (no_link l e)
  wire_by (a ∷ b ∷ c ∷ d ∷ fs) l e = absurd (no_link l e)
  wire_by (a ∷ b ∷ c ∷ []) l e =
      let part = place_inside parts a l.part (ap (λ (n : Naming). n.part) e) in
      let seen = place_inside (map (λ (pad : Pad). pad.name) pads.outputs) b l.seen (ap (λ (n : Naming). n.seen) e) in (
        part.0,
        driven (bytes_eq c (codes "reset")) refl (ap (λ (n : Naming). n.driven) e)
            (omega (arith, seen.0, length-map pads.outputs (λ (pad : Pad). pad.name))),
      )
    where
      other : (x : List ℕ) → x ≡ c → bytes_eq c (codes "reset") ≡ false → bytes_eq x (codes "reset") ≡ false
      other x same not = ap (λ y. bytes_eq y (codes "reset")) same ∙ not

      driven : (b : Bool) → bytes_eq c (codes "reset") ≡ b → cond b None (pad_of pads.inputs c) ≡ Some l.driven
          → l.seen < length pads.outputs → IsWire pads l
      driven true is at seen = absurd (let x : None ≡ Some l.driven = at in cc)
      driven false is at seen =
          let place = place_inside (map (λ (pad : Pad). pad.name) pads.inputs) c l.driven at in
          let there = pad_there pads.inputs l.driven
          (omega (arith, place.0, length-map pads.inputs (λ (pad : Pad). pad.name))) in
          record {
            seen = seen;
            input = there.0;
            driven = there.1;
            no_reset = other (there.0).name
                (sym there.2 ∙ (bytes_eq-Decides (get_or (map (λ (pad : Pad). pad.name) pads.inputs) l.driven []) c).0
                place.1)
                is;
          }

  abbrev IsWired : Link → Type 0
  IsWired l = (l.part < length parts) × IsWire pads l

  each_wire : (words : List (List ℕ)) (links : List Link) → map (naming parts pads) words ≡ map naming_of links
      → All IsWired links
  each_wire [] [] e = All-nil IsWired
  each_wire [] (l ∷ links) e = cc
  each_wire (w ∷ words) [] e = cc
  each_wire (w ∷ words) (l ∷ links) e =
      let head : naming parts pads w ≡ naming_of l = cc in
      let tail : map (naming parts pads) words ≡ map naming_of links = cc in
      All-cons IsWired l links (wire_by (slice_split is_colon w) l head) (each_wire words links tail)

  pub wires_of : (words : List (List ℕ)) (links : List Link) → AreLinks parts pads words links → AreWires pads links
  wires_of words links are = record {
    each = λ k d lt. (each_wire words links are.named k d lt).1;
    apart = are.apart;
  }

  pub parts_of : (words : List (List ℕ)) (links : List Link) → AreLinks parts pads words links
      → All (λ (l : Link). l.part < length parts) links
  parts_of words links are k d lt = (each_wire words links are.named k d lt).0

  pub links_none : AreLinks parts pads [] []
  links_none = record { named = refl; apart = λ i j d less lt. absurd (omega (arith, lt)) }

  -- one more word is a link
  pub links_more : (words : List (List ℕ)) (word : List ℕ) (links : List Link) (l : Link)
      → naming parts pads word ≡ naming_of l
      → MayFollow links l → AreLinks parts pads words links → AreLinks parts pads (words ++ word ∷ []) (links ++ l ∷ [])
  links_more words word links l named follows are = record {
    named =
        map-append (naming parts pads) words (word ∷ [])
        ∙ ap₂ (λ ns n. ns ++ n ∷ []) are.named named
        ∙ sym (map-append naming_of links (l ∷ []));
    apart = all_pairs_push AreApart links l are.apart follows;
  }

-- the rule that a word breaks, of which the names are told
pub broken_at : (earlier : List Link) (n m : Naming) (word : List ℕ) (rule : Rule) (b : broken.Broken) → n ≡ m
    → Breaks earlier n rule → b.rule ≡ rule → b.spot ≡ Named word → IsBrokenAt m earlier word b
broken_at earlier n m word rule b same breaks is spot =
    let N : Naming → Type 0 = λ x. Breaks earlier x b.rule in
    let R : Rule → Type 0 = λ r. Breaks earlier n r in
    record { breaks = subst N same (subst R (sym is) breaks); spot = spot }

-- ---- word by word

module _ (parts : List (List ℕ)) (pads : Pads) {W : Type 0} (text : W → List ℕ) (words : List W)
    (i : ℕ) (d : W) (w : List ℕ)
    (lt : i < length words) (at : w ≡ text (get_or words i d)) where
  pub link_added : (links new : List Link) (l : Link) → IsLinkOf (naming parts pads w) links l → new ≡ links ++ l ∷ []
      → AreLinks parts pads (map text (take i words)) links → AreLinks parts pads (map text (take (i + 1) words)) new
  link_added links new l is added are =
      let P : List (List ℕ) → Type 0 = λ ws. AreLinks parts pads ws new in
      let Q : List Link → Type 0 = λ ls. AreLinks parts pads (map text (take i words) ++ w ∷ []) ls in
      let more : map text (take i words) ++ w ∷ [] ≡ map text (take (i + 1) words) =
      ap (λ x. map text (take i words) ++ x ∷ []) at ∙ sym (map_more text words i d lt) in
      subst P more
      (subst Q (sym added) (links_more parts pads (map text (take i words)) w links l is.named is.follows are))

  pub refused_at : (links : List Link) (why : Refusal) → IsRefusal (IsBrokenAt (naming parts pads w) links w) why
      → AreLinks parts pads (map text (take i words)) links
      → IsRefusal (λ b. OfWords parts pads (map text words) (Some b)) why
  refused_at links NoMemory h are = tt
  refused_at links (Broken b) h are =
      let P : List (List ℕ) → Type 0 = λ ws. AreLinks parts pads ws links in
      record {
        k = i;
        word = w;
        links = links;
        at = slice_get-map text words i ∙ ap (option_map text) (slice_get-get_or words i d lt) ∙ ap Some (sym at);
        before = subst P (sym (take-map text i words)) are;
        breaks = h.breaks;
        spot = h.spot;
      }
