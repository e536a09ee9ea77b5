-- The earliest place where a function or an argument has a name that it may not have.
use Rattle.std.proofs.Common.{◌≡◌, ◌∙◌, ◌⊎◌, inl, inr, ℕ, zero, suc, ◌<◌, ◌+◌, List, [], ◌∷◌, ◌++◌, true, cond}
use Rattle.std.proofs.Common.{refl, sym, ap, subst, arith, Option, Some, None, length, map, take}
use Rattle.std.specs.Prelude.{is_some, ◌||◌, Contains, codes, slice_get}
use Rattle.std.specs.List.{list_any, filter_map, cons_option}
use Rattle.std.proofs.lemmas.Bool.{or_cases, or_left, or_right}
use Rattle.std.proofs.lemmas.List.{take_more, map-append}
use Rattle.std.proofs.lemmas.Option.{none-some, same_Some, get_or_from_slice_get}
use Rattle.mp_base.specs.declared.refusal.Place.{Place}
use Rattle.mp_base.specs.Entries.{IsAt}
use Rattle.mp_base.proofs.Entries.{within, one_entry, map_get, get_map, contains_from_get, any_found}
use Rattle.mp_base.proofs.Contents.{any_contained}
use Rattle.mp_program.specs.Names.{is_same}
use Rattle.mp_program.proofs.Definitions.{is_same_of, same_is}
use Rattle.mp_rules.specs.Breaking.{IsEarliest, earlier_of}
use Rattle.mp_rules.proofs.EarliestPlaces.{earliest_same, earliest_either}
use Rattle.mp_written.specs.declared.program.What.{What}
use Rattle.mp_written.specs.declared.program.What.TheVariants as whats
use Rattle.mp_written.specs.declared.program.Arg.{Arg}
use Rattle.mp_written.specs.declared.program.Def.{Def}
use Rattle.mp_written.specs.declared.program.Program.{Program}
use Rattle.mp_written.specs.Functions.{Function, function_of}
use Rattle.mp_written.proofs.Soundness.{kept_from}
use Rattle.written_rules.specs.Naming.{operators, IsDefined}
use Rattle.written_rules.specs.Rules.{E38}
use Rattle.written_meanings.specs.declared.firsts.Firsts.{Firsts}
use Rattle.written_meanings.specs.Firsts.{first_of, first_in, AreFirsts}
use Rattle.written_meanings.proofs.FirstNumbers.{first_at, first_least}
use Rattle.name_meanings.specs.declared.table.NameTable.{NameTable}
use Rattle.name_meanings.specs.Table.{known}
use Rattle.written_names.proofs.EarliestFound.{when}
use Rattle.written_names.specs.Table.{NamesWritten}
use Rattle.written_names.specs.Taken.{is_taken, taken_at, ArgTakenAt, TakenIn}
use Rattle.written_names.proofs.EarliestIndices.{AtFirst, earliest_more, earliest_of_all}
use Rattle.written_names.proofs.MisusedNames.{by_bool}
use Rattle.written_names.proofs.NameTables.{is_defined, not_defined}

abbrev pub arg_names : List Arg → List (List ℕ)
arg_names args = map (λ (a : Arg). a.name) args

-- an item among the first i
of_first : {X : Type 0} (i : ℕ) (xs : List X) (j : ℕ) (c : X) → IsAt (take i xs) j c → IsAt xs j c × (j < i)
of_first zero xs j c at = absurd (none-some c at)
of_first (suc i) [] j c at = absurd (none-some c at)
of_first (suc i) (x ∷ xs) zero c at = (at, omega arith)
of_first (suc i) (x ∷ xs) (suc j) c at = let (there, lt) = of_first i xs j c at in (there, omega (arith, lt))

in_first : {X : Type 0} (i : ℕ) (xs : List X) (j : ℕ) (c : X) → IsAt xs j c → j < i → IsAt (take i xs) j c
in_first zero xs j c at lt = absurd (omega (arith, lt))
in_first (suc i) [] j c at lt = absurd (none-some c at)
in_first (suc i) (x ∷ xs) zero c at lt = at
in_first (suc i) (x ∷ xs) (suc j) c at lt = in_first i xs j c at (omega (arith, lt))

-- ---- arguments

taken_earliest : (t : NameTable) (args : List Arg) (before : Firsts) (i : ℕ) (a : Arg) → IsAt args i a
    → AreFirsts (arg_names (take i args)) before → IsEarliest (ArgTakenAt t args i) (taken_at t before a)
taken_earliest t args before i a at holds =
    let names = arg_names (take i args) in
    let taken = is_taken t a.name in
    let noted = is_some (first_in before a.name) in
    earliest_same (λ there. ((taken || noted) ≡ true) × (there ≡ a.place)) (ArgTakenAt t args i)
    (cond (taken || noted) (Some a.place) None) (when (taken || noted) a.place)
    (λ there (bad, place). (
      a,
      at,
      place,
      elim (or_cases taken noted bad) [
        | inl known ↦ inl known
        | inr had ↦ inr (earlier (first_of names a.name) refl (ap is_some (sym (holds a.name)) ∙ had))
      ],
    ))
    (λ there (b, here, place, bad).
    let one = one_entry args i b a here at in (
      elim bad [
        | inl known ↦ or_left taken noted (ap (λ (c : Arg). is_taken t c.name) (sym one) ∙ known)
        | inr (j, c, cj, lt, same) ↦
            (let (k, first, le) = first_least names a.name j
            (map_get (λ (d : Arg). d.name) (take i args) j c (in_first i args j c cj lt)
            ∙ ap Some (same ∙ ap (λ (d : Arg). d.name) one)) in
            or_right taken noted (ap is_some (holds a.name ∙ first)))
      ],
      place ∙ ap (λ (d : Arg). d.place) one,
    ))
  where
    earlier : (o : Option ℕ) → first_of (arg_names (take i args)) a.name ≡ o → is_some o ≡ true
        → (j : ℕ) × (b : Arg) × IsAt args j b × (j < i) × (b.name ≡ a.name)
    earlier None is some = cc
    earlier (Some j) is some =
        let (b, there, named) = get_map (λ (d : Arg). d.name) (take i args) j a.name
        (first_at (arg_names (take i args)) a.name j is) in
        let (bj, lt) = of_first i args j b there in (j, b, bj, lt, named)

-- what is found of the first n arguments
pub record IsTakenFirst (t : NameTable) (args : List Arg) (n : ℕ) (before : Firsts)
    (found : Option Place) : Type 0 where
  pub names : AreFirsts (arg_names (take n args)) before
  pub earliest : IsEarliest (AtFirst (ArgTakenAt t args) n) found

pub taken_more : (t : NameTable) (args : List Arg) (n : ℕ) (a : Arg) (before after : Firsts) (found : Option Place)
    → IsAt args n a → AreFirsts (arg_names (take n args) ++ a.name ∷ []) after → IsTakenFirst t args n before found
    → IsTakenFirst t args (n + 1) after (earlier_of found (taken_at t before a))
taken_more t args n a before after found at noted are = record {
  names = subst (λ ns. AreFirsts ns after)
      (sym (map-append (λ (b : Arg). b.name) (take n args) (a ∷ []))
      ∙ ap arg_names (sym (take_more args n a (within args n at)
      ∙ ap (λ (b : Arg). take n args ++ b ∷ []) (get_or_from_slice_get args n a a at)))) noted;
  earliest = earliest_more (ArgTakenAt t args) n found (taken_at t before a) are.earliest
      (taken_earliest t args before n a at are.names);
}

pub taken_all : (t : NameTable) (args : List Arg) (n : ℕ) (before : Firsts) (found : Option Place) → n ≡ length args
    → IsTakenFirst t args n before found → IsEarliest (λ at. (i : ℕ) × ArgTakenAt t args i at) found
taken_all t args n before found all are =
    earliest_of_all (ArgTakenAt t args) (length args) found (λ i at (a, here, place, bad). within args i here)
    (subst (λ k. IsEarliest (AtFirst (ArgTakenAt t args) k) found) all are.earliest)

-- ---- definitions

pub taken_in_function : (t : NameTable) (d : Def) (args : List Arg) (body : ℕ) (found : Option Place)
    → d.what ≡ whats.Function args body → IsEarliest (λ at. (i : ℕ) × ArgTakenAt t args i at) found
    → IsEarliest (TakenIn t d) (earlier_of (cond (list_any (is_same d.name) operators) (Some d.place) None) found)
taken_in_function t d args body found is are =
    let b = list_any (is_same d.name) operators in
    let f : Function = record { place = d.place; name = d.name; args = args; body = body } in
    let made : function_of d d.what ≡ Some f = ap (function_of d) is in
    let operator = cond b (Some d.place) None in
    earliest_same (λ at. ((b ≡ true) × (at ≡ d.place)) ⊎ ((i : ℕ) × ArgTakenAt t args i at)) (TakenIn t d)
    (earlier_of operator found)
    (earliest_either (λ at. (b ≡ true) × (at ≡ d.place)) (λ at. (i : ℕ) × ArgTakenAt t args i at) operator found
    (when b d.place) are)
    (λ at h. elim h [ inl own ↦ (f, made, inl own) | inr arg ↦ (f, made, inr arg) ])
    (λ at (g, other, h). let same = same_Some g f (sym other ∙ made) in elim h [
      | inl (own, place) ↦
          inl (
            ap (λ (k : Function). list_any (is_same k.name) operators) (sym same) ∙ own,
            place ∙ ap (λ (k : Function). k.place) same,
          )
      | inr (i, arg) ↦ inr (i, subst (λ (k : Function). ArgTakenAt t k.args i at) same arg)
    ])

pub taken_in_none : (t : NameTable) (d : Def) → ((args : List Arg) (body : ℕ) → d.what ≡ whats.Function args body → ⊥)
    → IsEarliest (TakenIn t d) None
taken_in_none t d other = λ at (f, made, h). is_one d.what f made (λ args body is. other args body is)
  where
    is_one : (k : What) (f : Function) → function_of d k ≡ Some f
        → ((args : List Arg) (body : ℕ) → k ≡ whats.Function args body → ⊥) → ⊥
    is_one (whats.Function args body) f made none = none args body refl
    is_one whats.Power f made none = none-some f made
    is_one whats.Ground f made none = none-some f made
    is_one whats.Phia f made none = none-some f made
    is_one whats.Phib f made none = none-some f made
    is_one whats.Phic f made none = none-some f made
    is_one (whats.Constant c) f made none = none-some f made
    is_one whats.Register f made none = none-some f made
    is_one whats.Flag f made none = none-some f made
    is_one (whats.Port way) f made none = none-some f made
    is_one (whats.Signal way) f made none = none-some f made

-- the definition at an index is such a function
abbrev pub TakenAt : Program → NameTable → ℕ → Place → Type 0
TakenAt w t k at = (d : Def) × IsAt w.defs k d × TakenIn t d at

pub taken_def : (w : Program) (t : NameTable) (n : ℕ) (d : Def) (found next : Option Place) → IsAt w.defs n d
    → IsEarliest (TakenIn t d) next → IsEarliest (AtFirst (TakenAt w t) n) found
    → IsEarliest (AtFirst (TakenAt w t) (n + 1)) (earlier_of found next)
taken_def w t n d found next at here before =
    earliest_more (TakenAt w t) n found next before
    (earliest_same (TakenIn t d) (TakenAt w t n) next here (λ there h. (d, at, h))
    (λ there (c, cn, h). subst (λ (b : Def). TakenIn t b there) (one_entry w.defs n c d cn at) h))

-- a function is among those of the definitions
function_kept : (ds : List Def) (k : ℕ) (d : Def) (f : Function) → IsAt ds k d → function_of d d.what ≡ Some f
    → (i : ℕ) × IsAt (filter_map (λ (y : Def). function_of y y.what) ds) i f
function_kept [] k d f at made = absurd (none-some d at)
function_kept (c ∷ ds) zero d f at made =
    let same = ap (λ (y : Def). function_of y y.what) (same_Some c d at) ∙ made in
    (0, ap (λ o. slice_get (cons_option o (filter_map (λ (y : Def). function_of y y.what) ds)) 0) same)
function_kept (c ∷ ds) (suc k) d f at made =
    let (i, there) = function_kept ds k d f at made in turn (function_of c c.what) i there
  where
    turn : (o : Option Function) (i : ℕ) → IsAt (filter_map (λ (y : Def). function_of y y.what) ds) i f
        → (j : ℕ) × IsAt (cons_option o (filter_map (λ (y : Def). function_of y y.what) ds)) j f
    turn None i there = (i, there)
    turn (Some g) i there = (suc i, there)

module _ (w : Program) (t : NameTable) (table : NamesWritten w t) where
  taken_told : (x : List ℕ) → is_taken t x ≡ true → (x ≡ codes "t") ⊎ (x ≡ codes "f") ⊎ IsDefined w x
  taken_told x h = elim (or_cases (is_same x (codes "t") || is_same x (codes "f")) (is_some (known t x).least) h) [
    | inl truth ↦ elim (or_cases (is_same x (codes "t")) (is_same x (codes "f")) truth) [
      | inl yes_t ↦ inl (same_is x (codes "t") yes_t)
      | inr yes_f ↦ inr (inl (same_is x (codes "f") yes_f))
    ]
    | inr some ↦ inr (inr (is_defined w t table x some))
  ]

  tell_taken : (x : List ℕ) → (x ≡ codes "t") ⊎ (x ≡ codes "f") ⊎ IsDefined w x → is_taken t x ≡ true
  tell_taken x h = elim h [
    | inl is ↦ or_left (is_same x (codes "t") || is_same x (codes "f")) (is_some (known t x).least)
        (or_left (is_same x (codes "t")) (is_same x (codes "f")) (is_same_of x (codes "t") is))
    | inr rest ↦ elim rest [
      | inl is ↦ or_left (is_same x (codes "t") || is_same x (codes "f")) (is_some (known t x).least)
          (or_right (is_same x (codes "t")) (is_same x (codes "f")) (is_same_of x (codes "f") is))
      | inr some ↦ or_right (is_same x (codes "t") || is_same x (codes "f")) (is_some (known t x).least)
          (by_bool (is_some (known t x).least) (λ e. e) (λ e. absurd (not_defined w t table x e some)))
    ]
  ]

  fwd : (at : Place) → (k : ℕ) × TakenAt w t k at → E38 w at
  fwd at (k, (d, dk, (f, made, inl (own, place)))) =
      let (i, fi) = function_kept w.defs k d f dk made in
      let (j, o, oj, same) = any_found (is_same f.name) operators own in
      inl (
        i,
        f,
        fi,
        subst (Contains operators) (sym (same_is f.name o same))
            (contains_from_get operators j o oj),
        place,
      )
  fwd at (k, (d, dk, (f, made, inr (i, (a, ai, place, inl taken))))) =
      let (l, fl) = function_kept w.defs k d f dk made in
      inr (l, f, i, a, fl, ai, place, inr (taken_told a.name taken))
  fwd at (k, (d, dk, (f, made, inr (i, (a, ai, place, inr (j, b, bj, lt, same)))))) =
      let (l, fl) = function_kept w.defs k d f dk made in
      inr (l, f, i, a, fl, ai, place, inl (j, b, bj, lt, same))

  back : (at : Place) → E38 w at → (k : ℕ) × TakenAt w t k at
  back at (inl (k, f, fk, has, place)) =
      let (l, d, dl, made) = kept_from (λ (y : Def). function_of y y.what) w.defs k f fk in (
        l,
        (
          d,
          dl,
          (
            f,
            made,
            inl (
              any_contained (is_same f.name) operators f.name has
                  (is_same_of f.name f.name refl),
              place,
            ),
          ),
        ),
      )
  back at (inr (k, f, i, a, fk, ai, place, bad)) =
      let (l, d, dl, made) = kept_from (λ (y : Def). function_of y y.what) w.defs k f fk in (
        l,
        (
          d,
          dl,
          (
            f,
            made,
            inr (
              i,
              (
                a,
                ai,
                place,
                elim bad [
                  | inl earlier ↦ inr earlier
                  | inr rest ↦ inl (tell_taken a.name rest)
                ],
              ),
            ),
          ),
        ),
      )

  pub earliest_taken : (n : ℕ) (found : Option Place) → n ≡ length w.defs → IsEarliest (AtFirst (TakenAt w t) n) found
      → IsEarliest (E38 w) found
  earliest_taken n found all are =
      earliest_same (λ at. (k : ℕ) × TakenAt w t k at) (E38 w) found
      (earliest_of_all (TakenAt w t) (length w.defs) found (λ k at (d, dk, h). within w.defs k dk)
      (subst (λ i. IsEarliest (AtFirst (TakenAt w t) i) found) all are)) fwd back
