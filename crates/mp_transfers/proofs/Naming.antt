-- The names of labels that were seen.
use Rattle.std.proofs.Common.{◌≡◌, ◌≢◌, ◌⊎◌, inl, inr, ◌∙◌, ℕ, ◌+◌, ◌<◌, ◌≤◌, List, length, get_or, refl, sym, ap}
use Rattle.std.proofs.Common.{subst, arith, Bool, true, false, not, cond, Bor, Option, Some}
use Rattle.std.specs.Prelude.{All, ◌↔◌}
use Rattle.std.specs.Ordering.{nat_cmp}
use Rattle.std.specs.Cmp.Lexicographic.{slice_cmp}
use Rattle.std.specs.Str.{bytes_eq}
use Rattle.std.specs.BTreeSet.{BTreeSet, UpdatesBy}
use Rattle.std.proofs.lemmas.Map.Text.{is_eq-slice_cmp}
use Rattle.std.proofs.lemmas.Slice.Eq.{bytes_eq-Decides}
use Rattle.std.proofs.lemmas.Bool.{cases_lt}
use Rattle.std.proofs.lemmas.Option.{slice_get-get_or}
use Rattle.mp_base.specs.declared.refusal.Place.{Place}
use Rattle.mp_base.proofs.Names.{still, not_true, not_false}
use Rattle.mp_program.specs.declared.program.FormKind.{FormKind}
use Rattle.mp_program.specs.declared.program.FormKind.TheVariants.{Go, Call}
use Rattle.mp_program.specs.declared.program.Label.{Label}
use Rattle.mp_program.specs.declared.program.Process.{Process}
use Rattle.mp_program.specs.declared.program.Program.{Program}
use Rattle.mp_base.specs.Entries.{IsAt}
use Rattle.mp_rules.specs.Standing.{label_of}
use Rattle.mp_rules.specs.Breaking.{IsEarliest, earlier}
use Rattle.mp_rules.specs.Rules.{E29}
use Rattle.mp_base.proofs.Entries.{one_entry, all_at}
use Rattle.mp_transfers.specs.Labels.{has, IsLabel, IsRepeated, IsAstray}
use Rattle.mp_transfers.proofs.Earliest.{Upto, upto_join, upto_skip, upto_all, InAny}
use Rattle.mp_rules.proofs.EarliestPlaces.{earliest_same, earliest_at}

-- a label before i has the name x
abbrev pub Seen : List Label → ℕ → List ℕ → Type 0
Seen labels i x = (k : ℕ) × (a : Label) × (k < i) × IsAt labels k a × (a.name ≡ x)

-- the names are those of the labels before i
pub record Names (names : BTreeSet (Bor (List ℕ))) (labels : List Label) (i : ℕ) : Type 0 where
  pub only : (x : List ℕ) → has names x ≡ true → Seen labels i x
  pub all : (x : List ℕ) → Seen labels i x → has names x ≡ true

-- the set gained this name
abbrev Gained : BTreeSet (Bor (List ℕ)) → BTreeSet (Bor (List ℕ)) → List ℕ → Type 0
Gained old new key = (x : List ℕ) → has new x ≡ cond (bytes_eq key x) true (has old x)

gained_of : (old new : BTreeSet (Bor (List ℕ))) (key : List ℕ)
    → UpdatesBy (λ x y. slice_cmp nat_cmp x.now y.now) (λ k. slice_cmp nat_cmp key k.now) old new true
    → Gained old new key
gained_of old new key updates x =
    updates.0 (record { ref_ptr = (0, 0); now = x }) ∙ ap (λ b. cond b true (has old x)) (is_eq-slice_cmp key x)

-- one more name
pub names_more : (old new : BTreeSet (Bor (List ℕ))) (labels : List Label) (i : ℕ) (a : Label) → Names old labels i
    → IsAt labels i a
    → UpdatesBy (λ x y. slice_cmp nat_cmp x.now y.now) (λ k. slice_cmp nat_cmp a.name k.now) old new true
    → Names new labels (i + 1)
names_more old new labels i a n is updates = record {
  only = λ x h. known x (bytes_eq a.name x) refl (sym (gained x) ∙ h);
  all = λ x (k, b, lt, is_b, e). elim (cases_lt k i) [
    | inl l ↦ gained x ∙ ap (cond (bytes_eq a.name x) true) (n.all x (k, b, l, is_b, e)) ∙ still (bytes_eq a.name x)
    | inr ge ↦ gained x
        ∙ ap (λ t. cond t true (has old x)) ((bytes_eq-Decides a.name x).1 (last x k b (omega (arith, lt, ge)) is_b e))
  ];
}
  where
    gained : Gained old new a.name
    gained = gained_of old new a.name updates

    known : (x : List ℕ) (t : Bool) → bytes_eq a.name x ≡ t → cond t true (has old x) ≡ true → Seen labels (i + 1) x
    known x true same h = (i, a, omega arith, is, (bytes_eq-Decides a.name x).0 same)
    known x false same h = let (k, b, lt, is_b, e) = n.only x h in (k, b, omega (arith, lt), is_b, e)

    last : (x : List ℕ) (k : ℕ) (b : Label) → k ≡ i → IsAt labels k b → b.name ≡ x → a.name ≡ x
    last x k b e is_b s =
        let P : ℕ → Type 0 = λ j. IsAt labels j b in
        ap (λ (l : Label). l.name) (one_entry labels i a b is (subst P e is_b)) ∙ s

-- at is the place of the label b, and a label before it has its name
abbrev pub IsAgain : List Label → ℕ → Label → Place → Type 0
IsAgain labels j b at = Seen labels j b.name × (at ≡ b.place)

-- the labels before i, and the earliest of them that stands there again
pub record Told (P : Place → Type 0) (names : BTreeSet (Bor (List ℕ))) (labels : List Label) (i : ℕ)
    (found : Option Place) : Type 0 where
  pub names_are : Names names labels i
  pub upto : Upto P labels (IsAgain labels) i found

-- a label that stands there again
pub told_again : (P : Place → Type 0) (old new : BTreeSet (Bor (List ℕ))) (labels : List Label) (i : ℕ)
    (found : Option Place) (b : Label) → Told P old labels i found → IsAt labels i b
    → UpdatesBy (λ x y. slice_cmp nat_cmp x.now y.now) (λ k. slice_cmp nat_cmp b.name k.now) old new true
    → false ≡ not (has old b.name) → Told P new labels (i + 1) (earlier found b.place)
told_again P old new labels i found b t is updates again = record {
  names_are = names_more old new labels i b t.names_are is updates;
  upto = upto_join t.upto b is (Some b.place)
      (earliest_same (λ at. at ≡ b.place) (IsAgain labels i b) (Some b.place) (earliest_at b.place)
      (λ at e. (t.names_are.only b.name (not_false (has old b.name) again), e)) (λ at a. a.1));
}

-- a new one
pub told_new : (P : Place → Type 0) (old new : BTreeSet (Bor (List ℕ))) (labels : List Label) (i : ℕ)
    (found : Option Place) (b : Label) → Told P old labels i found → IsAt labels i b
    → UpdatesBy (λ x y. slice_cmp nat_cmp x.now y.now) (λ k. slice_cmp nat_cmp b.name k.now) old new true
    → true ≡ not (has old b.name) → Told P new labels (i + 1) found
told_new P old new labels i found b t is updates fresh = record {
  names_are = names_more old new labels i b t.names_are is updates;
  upto = upto_skip t.upto b is
      (λ at a. let h : has old b.name ≡ true = t.names_are.all b.name a.0 in
      let g : has old b.name ≡ false = not_true (has old b.name) fresh in cc);
}

pub told_all : (P : Place → Type 0) (names : BTreeSet (Bor (List ℕ))) (labels : List Label) (i : ℕ)
    (found : Option Place) → Told P names labels i found → length labels ≤ i
    → IsEarliest (λ at. P at ⊎ IsRepeated labels at) found
told_all P names labels i found t all =
    earliest_same (λ at. P at ⊎ InAny labels (IsAgain labels) at) (λ at. P at ⊎ IsRepeated labels at) found
    (upto_all t.upto all)
    (λ at there. elim there [
      | inl p ↦ inl p
      | inr (j, b, is, ((k, a, lt, is_a, e), same)) ↦ inr (k, j, a, b, is_a, is, lt, e, same)
    ])
    (λ at there. elim there [
      | inl p ↦ inl p
      | inr (k, j, a, b, is_a, is, lt, e, same) ↦ inr (j, b, is, ((k, a, lt, is_a, e), same))
    ])

-- rule E29, from its processes
pub repeated_broken : (p : Program) (found : Option Place)
    → IsEarliest (λ at. ⊥ ⊎ InAny p.processes (λ k (q : Process) at. IsRepeated q.labels at) at) found
    → IsEarliest (E29 p) found
repeated_broken p found h =
    earliest_same (λ at. ⊥ ⊎ InAny p.processes (λ k (q : Process) at. IsRepeated q.labels at) at) (E29 p) found h
    (λ at there. elim there [
      | inl n ↦ absurd n
      | inr (k, q, is, (i, j, a, b, is_a, is_b, lt, e, same)) ↦ (k, q, i, j, a, b, is, is_a, is_b, lt, e, same)
    ])
    (λ at (k, q, i, j, a, b, is, is_a, is_b, lt, e, same). inr (k, q, is, (i, j, a, b, is_a, is_b, lt, e, same)))

-- whether a label is among the names
pub astray_iff : (names : BTreeSet (Bor (List ℕ))) (labels : List Label) (l : List ℕ) (t : Bool)
    → ((x : List ℕ) → (has names x ≡ true) ↔ IsLabel labels x) → t ≡ not (has names l)
    → (t ≡ true) ↔ All (λ (x : Label). x.name ≢ l) labels
astray_iff names labels l t iff e = (
  λ on k d lt same. fore (has names l) refl (sym on ∙ e)
      (k, get_or labels k d, slice_get-get_or labels k d lt, same),
  λ none. e ∙ back (has names l) refl none,
)
  where
    fore : (h : Bool) → has names l ≡ h → true ≡ not h → IsLabel labels l → ⊥
    fore true is on found = cc
    fore false is on found = let h : has names l ≡ true = (iff l).1 found in cc

    back : (h : Bool) → has names l ≡ h → All (λ (x : Label). x.name ≢ l) labels → not h ≡ true
    back false is none = refl
    back true is none = let (k, a, at, same) = (iff l).0 is in
        absurd (all_at (λ (x : Label). x.name ≢ l) labels k a none at same)

-- a form that names the label l goes to one that isn't there
pub astray_kind : (names : BTreeSet (Bor (List ℕ))) (labels : List Label) (kind : FormKind) (l : List ℕ) (t : Bool)
    → (kind ≡ Go l) ⊎ (kind ≡ Call l)
    → ((x : List ℕ) → (has names x ≡ true) ↔ IsLabel labels x) → t ≡ not (has names l)
    → (t ≡ true) ↔ IsAstray labels kind
astray_kind names labels kind l t either iff e =
    (λ on. (l, named, (astray_iff names labels l t iff e).0 on), λ (m, is, none). back m (sym is ∙ named) none)
  where
    named : label_of kind ≡ Some l
    named = elim either [ inl go ↦ ap label_of go | inr call ↦ ap label_of call ]

    back : (m : List ℕ) → Some m ≡ Some l → All (λ (x : Label). x.name ≢ m) labels → t ≡ true
    back m is none =
        let same : m ≡ l = cc in
        let P : List ℕ → Type 0 = λ n. All (λ (x : Label). x.name ≢ n) labels in
        (astray_iff names labels l t iff e).1 (subst P same none)
