-- Second definitions of one kind.
use Rattle.std.proofs.Common.{◌≡◌, ◌⊎◌, ℕ, ◌<◌, ◌≤◌, List, [], ◌∷◌, ◌++◌, Bool, true, false, refl, sym, ap}
use Rattle.std.proofs.Common.{◌∙◌, inl, inr, arith, Option, Some, None, length, get_or, take, ◌+◌}
use Rattle.std.proofs.lemmas.List.{take_more, take_all}
use Rattle.std.proofs.lemmas.Option.{none-some, slice_get_within}
use Rattle.mp_base.specs.declared.refusal.Place.{Place}
use Rattle.mp_program.specs.declared.program.What.{What}
use Rattle.mp_program.specs.declared.program.What.TheVariants.{Power, Ground, Phia, Phib, Phic, Constant, Register}
use Rattle.mp_program.specs.declared.program.What.TheVariants.{Flag, Port, Signal}
use Rattle.mp_program.specs.declared.program.Def.{Def}
use Rattle.mp_program.specs.Names.{is_supply}
use Rattle.mp_base.proofs.Entries.{push_cases, get_middle, get_kept}
use Rattle.mp_rules.specs.Breaking.{IsEarliest, earlier, earlier_of}
use Rattle.mp_names.specs.Repeats.{Defines, Repeats, RepeatsSupply}
use Rattle.mp_rules.proofs.EarliestPlaces.{earliest_same, earliest_either, earliest_at}

-- what repeats in a list with one more definition repeats in the list, or is the last and the kind was there
repeats_push : (ds : List Def) (d : Def) (w : What) (at : Place) → Repeats (ds ++ d ∷ []) w at
    → Repeats ds w at ⊎ (Defines ds w × (d.what ≡ w) × (at ≡ d.place))
repeats_push ds d w at (j, k, a, b, first, second, lt, kind, same, is) = elim (push_cases ds d j a first) [
  | inr (e, _) ↦
      absurd (elim (push_cases ds d k b second) [
        | inl (below, _) ↦ omega (arith, below, lt, e)
        | inr (f, _) ↦ omega (arith, f, e, lt)
      ])
  | inl (_, before) ↦ elim (push_cases ds d k b second) [
    | inl (_, there) ↦ inl (j, k, a, b, before, there, lt, kind, same, is)
    | inr (f, last) ↦
        inr ((j, a, before, kind), ap (λ (x : Def). x.what) last ∙ same, is ∙ sym (ap (λ (x : Def). x.place) last))
  ]
]

repeats_before : (ds : List Def) (d : Def) (w : What) (at : Place) → Repeats ds w at → Repeats (ds ++ d ∷ []) w at
repeats_before ds d w at (j, k, a, b, first, second, lt, kind, same, is) =
    (j, k, a, b, get_kept ds (d ∷ []) j a first, get_kept ds (d ∷ []) k b second, lt, kind, same, is)

-- a definition that isn't of the kind, or is the first of it
no_repeat : (ds : List Def) (d : Def) (w : What) (found : Option Place) → (Defines ds w → d.what ≡ w → ⊥)
    → IsEarliest (Repeats ds w) found
    → IsEarliest (Repeats (ds ++ d ∷ []) w) found
no_repeat ds d w found other earliest =
    earliest_same (Repeats ds w) (Repeats (ds ++ d ∷ []) w) found earliest (repeats_before ds d w)
    (λ at h. elim (repeats_push ds d w at h) [
      | inl before ↦ before
      | inr (defined, same, is) ↦ absurd (other defined same)
    ])

-- another definition of the kind
a_repeat : (ds : List Def) (d : Def) (w : What) (found : Option Place) → Defines ds w → d.what ≡ w
    → IsEarliest (Repeats ds w) found
    → IsEarliest (Repeats (ds ++ d ∷ []) w) (earlier found d.place)
a_repeat ds d w found (j, a, before, kind) same h =
    earliest_same (λ at. Repeats ds w at ⊎ (at ≡ d.place)) (Repeats (ds ++ d ∷ []) w)
    (earlier found d.place)
    (earliest_either (Repeats ds w) (λ at. at ≡ d.place) found (Some d.place) h (earliest_at d.place))
    (λ at g. elim g [
      | inl there ↦ repeats_before ds d w at there
      | inr is ↦
          let first = get_kept ds (d ∷ []) j a before in
          (j, length ds, a, d, first, get_middle ds d [], slice_get_within ds j a before, kind, same, is)
    ])
    (λ at g. elim (repeats_push ds d w at g) [ inl there ↦ inl there | inr (defined, is_kind, is) ↦ inr is ])

defines_push : (ds : List Def) (d : Def) (w : What) → Defines ds w ⊎ (d.what ≡ w) → Defines (ds ++ d ∷ []) w
defines_push ds d w (inl (j, a, there, kind)) = (j, a, get_kept ds (d ∷ []) j a there, kind)
defines_push ds d w (inr kind) = (length ds, d, get_middle ds d [], kind)

defines_before : (ds : List Def) (d : Def) (w : What) → Defines (ds ++ d ∷ []) w → Defines ds w ⊎ (d.what ≡ w)
defines_before ds d w (j, a, there, kind) = elim (push_cases ds d j a there) [
  | inl (_, before) ↦ inl (j, a, before, kind)
  | inr (e, last) ↦ inr (ap (λ (x : Def). x.what) last ∙ kind)
]

-- what a pass over definitions has found, and whether it has seen the kind
pub record Watched (ds : List Def) (w : What) (found : Option Place) (seen : Bool) : Type 0 where
  pub repeat : IsEarliest (Repeats ds w) found
  pub defined : seen ≡ true → Defines ds w
  pub absent : seen ≡ false → Defines ds w → ⊥

pub nothing_watched : (w : What) → Watched [] w None false
nothing_watched w = record {
  repeat = λ at (j, k, a, b, first, second, lt, kind, same, is). none-some a first;
  defined = λ e. cc;
  absent = λ e (j, a, there, kind). none-some a there;
}

one_more : (ds : List Def) (i : ℕ) (d : Def) → i < length ds → d ≡ get_or ds i d → take (i + 1) ds ≡ take i ds ++ d ∷ []
one_more ds i d lt is = take_more ds i d lt ∙ ap (λ x. take i ds ++ x ∷ []) (sym is)

-- a definition of another kind
pub watched_other : (ds : List Def) (i : ℕ) (d : Def) (w : What) (found : Option Place) (seen : Bool) → i < length ds
    → d ≡ get_or ds i d
    → (d.what ≡ w → ⊥) → Watched (take i ds) w found seen → Watched (take (i + 1) ds) w found seen
watched_other ds i d w found seen lt is other h = rw (one_more ds i d lt is) (record {
  repeat = no_repeat (take i ds) d w found (λ defined same. other same) h.repeat;
  defined = λ e. defines_push (take i ds) d w (inl (h.defined e));
  absent = λ e defined. elim (defines_before (take i ds) d w defined) [
    | inl before ↦ h.absent e before
    | inr same ↦ other same
  ];
})

-- the first of the kind
pub watched_first : (ds : List Def) (i : ℕ) (d : Def) (w : What) (found : Option Place) (seen : Bool) → i < length ds
    → d ≡ get_or ds i d
    → d.what ≡ w → seen ≡ false → Watched (take i ds) w found seen → Watched (take (i + 1) ds) w found true
watched_first ds i d w found seen lt is same new h = rw (one_more ds i d lt is) (record {
  repeat = no_repeat (take i ds) d w found (λ defined kind. h.absent new defined) h.repeat;
  defined = λ e. defines_push (take i ds) d w (inr same);
  absent = λ e. cc;
})

-- another of the kind
pub watched_again : (ds : List Def) (i : ℕ) (d : Def) (w : What) (found : Option Place) (seen : Bool) → i < length ds
    → d ≡ get_or ds i d
    → d.what ≡ w → seen ≡ true → Watched (take i ds) w found seen
    → Watched (take (i + 1) ds) w (earlier found d.place) true
watched_again ds i d w found seen lt is same old h = rw (one_more ds i d lt is) (record {
  repeat = a_repeat (take i ds) d w found (h.defined old) same h.repeat;
  defined = λ e. defines_push (take i ds) d w (inr same);
  absent = λ e. cc;
})

pub all_watched : (ds : List Def) (i : ℕ) (w : What) (found : Option Place) (seen : Bool) → length ds ≤ i
    → Watched (take i ds) w found seen
    → IsEarliest (Repeats ds w) found
all_watched ds i w found seen le h = rw (take_all i ds le) at h.repeat

supply_repeats : (ds : List Def) (w : What) (at : Place) → is_supply w ≡ true → Repeats ds w at → RepeatsSupply ds at
supply_repeats ds w at supply (j, k, a, b, first, second, lt, kind, same, is) =
    (j, k, a, b, first, second, lt, ap is_supply kind ∙ supply, kind ∙ sym same, is)

-- a supply that repeats is one of the five
abbrev OneOfFive : List Def → Place → Type 0
OneOfFive ds at =
    (((Repeats ds Power at ⊎ Repeats ds Ground at) ⊎ Repeats ds Phia at) ⊎ Repeats ds Phib at) ⊎ Repeats ds Phic at

which : (ds : List Def) (w : What) (at : Place) → is_supply w ≡ true → Repeats ds w at → OneOfFive ds at
which ds Power at e h = inl (inl (inl (inl h)))
which ds Ground at e h = inl (inl (inl (inr h)))
which ds Phia at e h = inl (inl (inr h))
which ds Phib at e h = inl (inr h)
which ds Phic at e h = inr h
which ds (Constant c) at e h = cc
which ds Register at e h = cc
which ds Flag at e h = cc
which ds (Port way) at e h = cc
which ds (Signal way) at e h = cc

told : (ds : List Def) (at : Place) → OneOfFive ds at → RepeatsSupply ds at
told ds at (inl (inl (inl (inl x)))) = supply_repeats ds Power at refl x
told ds at (inl (inl (inl (inr x)))) = supply_repeats ds Ground at refl x
told ds at (inl (inl (inr x))) = supply_repeats ds Phia at refl x
told ds at (inl (inr x)) = supply_repeats ds Phib at refl x
told ds at (inr x) = supply_repeats ds Phic at refl x

-- the earliest of the five
pub of_five : (ds : List Def) (a b c d e : Option Place) → IsEarliest (Repeats ds Power) a
    → IsEarliest (Repeats ds Ground) b → IsEarliest (Repeats ds Phia) c
    → IsEarliest (Repeats ds Phib) d → IsEarliest (Repeats ds Phic) e
    → IsEarliest (RepeatsSupply ds) (earlier_of (earlier_of (earlier_of (earlier_of a b) c) d) e)
of_five ds a b c d e power ground phia phib phic = earliest_same (OneOfFive ds) (RepeatsSupply ds)
    (earlier_of (earlier_of (earlier_of (earlier_of a b) c) d) e)
    (earliest_either (λ at. ((Repeats ds Power at ⊎ Repeats ds Ground at) ⊎ Repeats ds Phia at) ⊎ Repeats ds Phib at)
    (Repeats ds Phic) (earlier_of (earlier_of (earlier_of a b) c) d) e
    (earliest_either (λ at. (Repeats ds Power at ⊎ Repeats ds Ground at) ⊎ Repeats ds Phia at) (Repeats ds Phib)
    (earlier_of (earlier_of a b) c) d
    (earliest_either (λ at. Repeats ds Power at ⊎ Repeats ds Ground at) (Repeats ds Phia) (earlier_of a b) c
    (earliest_either (Repeats ds Power) (Repeats ds Ground) a b power ground) phia) phib) phic)
    (told ds)
    (λ at (j, k, x, y, first, second, lt, supply, same, is). which ds x.what at supply
    (j, k, x, y, first, second, lt, refl, sym same, is))
