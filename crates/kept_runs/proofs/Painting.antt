-- Rows of which some cells get a colour.
use Rattle.std.proofs.Common.{◌≡◌, ◌≢◌, ◌↔◌, ◌⊎◌, ◌&&◌, ℕ, zero, suc, ◌<◌, ◌≤◌, nat_le, nat_lt, if◌then◌else◌}
use Rattle.std.proofs.Common.{Bool, true, false, inl, inr, List, set, length, refl, sym, ◌∙◌, subst, arith}
use Rattle.std.proofs.lemmas.Bool.{cases_eq, cases_lt, cases_order, cases_Bool, lt-ltb, le-ltb, le-leb, lt-leb}
use Rattle.std.proofs.lemmas.Bool.{and_from, and_left, and_right, both_ways}
use Rattle.cell_set.specs.declared.set.CellSet.{CellSet}
use Rattle.cell_set.specs.Sets.{has, room_of}
use Rattle.std.proofs.lemmas.List.{get_or-set_same, get_or-set_other, length-set}
use Rattle.kept_runs.specs.declared.runs.KeptRuns.{KeptRuns}
use Rattle.kept_runs.specs.Borders.{noted, colour_to, AreBorders, Begins, IsFilled}
use Rattle.kept_runs.specs.Kept.{colours_of}
use Rattle.kept_runs.proofs.Colours.{in_row}

-- the colours are the only ones that are noted at borders and go on elsewhere
only_colours : (borders : CellSet) (colours : List ℕ) (g : ℕ → ℕ) (end : ℕ) → g 0 ≡ noted colours 0
    → ((c : ℕ) → suc c < end → has borders (suc c) ≡ true → g (suc c) ≡ noted colours (suc c))
    → ((c : ℕ) → suc c < end → has borders (suc c) ≡ false → g (suc c) ≡ g c)
    → (c : ℕ) → c < end → colour_to borders colours c ≡ g c
unfolding colour_to
only_colours borders colours g end z h k zero l = sym z
only_colours borders colours g end z h k (suc c) l = elim (cases_Bool (has borders (suc c))) [
  | inl e ↦ rw e (sym (h c l e))
  | inr e ↦ rw e (only_colours borders colours g end z h k c (omega arith) ∙ sym (k c l e))
]

old_border : (borders : CellSet) (colours : List ℕ) (c : ℕ) → has borders (suc c) ≡ true
    → colour_to borders colours (suc c) ≡ noted colours (suc c)
unfolding colour_to
old_border borders colours c e = rw e refl

old_on : (borders : CellSet) (colours : List ℕ) (c : ℕ) → has borders (suc c) ≡ false
    → colour_to borders colours (suc c) ≡ colour_to borders colours c
unfolding colour_to
old_on borders colours c e = rw e refl

old_first : (borders : CellSet) (colours : List ℕ) → colour_to borders colours 0 ≡ noted colours 0
unfolding colour_to
old_first borders colours = refl

-- what the borders and the noted colours are, once the cells from one up to another have a colour
pub record IsPainted (old now : CellSet) (colours painted : List ℕ) (from to colour : ℕ) : Type 0 where
  pub own : (has now from ≡ true) ↔ ((from ≡ 0) ⊎ ((c : ℕ) → suc c ≡ from → colour_to old colours c ≢ colour))
  pub inside : (c : ℕ) → from < c → c < to → has now c ≡ false
  pub end : to < length colours → (has now to ≡ true) ↔ (colour_to old colours to ≢ colour)
  pub past : length colours ≤ to → has now to ≡ has old to
  pub left : (c : ℕ) → c < from → has now c ≡ has old c
  pub right : (c : ℕ) → to < c → has now c ≡ has old c
  pub noted_own : noted painted from ≡ colour
  pub noted_end : to < length colours → noted painted to ≡ colour_to old colours to
  pub noted_else : (c : ℕ) → c ≢ from → c ≢ to → noted painted c ≡ noted colours c
  pub as_many : length painted ≡ length colours
  pub room : room_of now ≡ room_of old

module _ (old now : CellSet) (colours painted : List ℕ) (from to colour : ℕ) (b : AreBorders old colours)
    (order : from < to) (within : to ≤ length colours)
    (p : IsPainted old now colours painted from to colour) where
  abbrev wanted : ℕ → ℕ
  wanted c = if nat_le from c && nat_lt c to then colour else colour_to old colours c

  wanted_in : (c : ℕ) → from ≤ c → c < to → wanted c ≡ colour
  wanted_in c h l = rw (and_from _ _ (le-leb from c h) (lt-ltb c to l)) refl

  wanted_left : (c : ℕ) → c < from → wanted c ≡ colour_to old colours c
  wanted_left c h = rw (and_left _ (nat_lt c to) (lt-leb from c h)) refl

  wanted_right : (c : ℕ) → to ≤ c → wanted c ≡ colour_to old colours c
  wanted_right c h = rw (and_right (nat_le from c) _ (le-ltb c to h)) refl

  first_wanted : wanted 0 ≡ noted painted 0
  first_wanted = elim (cases_eq from 0) [
    | inl e ↦ wanted_in 0 (omega arith) (omega arith) ∙ sym (subst (λ k. noted painted k ≡ colour) e p.noted_own)
    | inr n ↦ wanted_left 0 (omega arith) ∙ old_first old colours
        ∙ sym (p.noted_else 0 (λ e. n (sym e)) (λ e. absurd (omega arith)))
  ]

  border_wanted : (c : ℕ) → suc c < length colours → has now (suc c) ≡ true → wanted (suc c) ≡ noted painted (suc c)
  border_wanted c l h = elim (cases_order (suc c) from) [
    | inl e ↦ wanted_in (suc c) (omega arith) (omega arith)
        ∙ sym (subst (λ k. noted painted k ≡ colour) (sym e) p.noted_own)
    | inr (inl k) ↦ wanted_left (suc c) k ∙ old_border old colours c (sym (p.left (suc c) k) ∙ h)
        ∙ sym (p.noted_else (suc c) (λ e. absurd (omega arith)) (λ e. absurd (omega arith)))
    | inr (inr k) ↦ elim (cases_order (suc c) to) [
      | inl e ↦ wanted_right (suc c) (omega arith)
          ∙ sym (subst (λ k. noted painted k ≡ colour_to old colours k) (sym e) (p.noted_end (omega arith)))
      | inr (inl m) ↦ absurd (both_ways _ (p.inside (suc c) k m) h)
      | inr (inr m) ↦ wanted_right (suc c) (omega arith) ∙ old_border old colours c (sym (p.right (suc c) m) ∙ h)
          ∙ sym (p.noted_else (suc c) (λ e. absurd (omega arith)) (λ e. absurd (omega arith)))
    ]
  ]

  goes_on : (c : ℕ) → suc c < length colours → has now (suc c) ≡ false → wanted (suc c) ≡ wanted c
  goes_on c l h = elim (cases_order (suc c) from) [
    | inl e ↦ elim (cases_eq (colour_to old colours c) colour) [
      | inl f ↦ wanted_in (suc c) (omega arith) (omega arith) ∙ sym (wanted_left c (omega arith) ∙ f)
      | inr n ↦
          absurd (both_ways _ h
          (subst (λ k. has now k ≡ true) (sym e)
          (p.own.1 (inr (λ d g f. n (subst (λ k. colour_to old colours k ≡ colour) (omega arith) f))))))
    ]
    | inr (inl k) ↦ wanted_left (suc c) k ∙ old_on old colours c (sym (p.left (suc c) k) ∙ h)
        ∙ sym (wanted_left c (omega arith))
    | inr (inr k) ↦ elim (cases_order (suc c) to) [
      | inl e ↦ elim (cases_eq (colour_to old colours (suc c)) colour) [
        | inl f ↦ wanted_right (suc c) (omega arith) ∙ f ∙ sym (wanted_in c (omega arith) (omega arith))
        | inr n ↦
            absurd (both_ways _ h
            (subst (λ k. has now k ≡ true) (sym e)
            ((p.end (omega arith)).1 (subst (λ k. colour_to old colours k ≢ colour) e n))))
      ]
      | inr (inl m) ↦ wanted_in (suc c) (omega arith) m ∙ sym (wanted_in c (omega arith) (omega arith))
      | inr (inr m) ↦ wanted_right (suc c) (omega arith) ∙ old_on old colours c (sym (p.right (suc c) m) ∙ h)
          ∙ sym (wanted_right c (omega arith))
    ]
  ]

  now_wanted : (c : ℕ) → c < length colours → colour_to now painted c ≡ wanted c
  now_wanted = only_colours now painted wanted (length colours) first_wanted border_wanted goes_on

  pub painted_in : (c : ℕ) → from ≤ c → c < to → colour_to now painted c ≡ colour
  painted_in c h l = now_wanted c (omega arith) ∙ wanted_in c h l

  pub painted_beside : (c : ℕ) → (c < from) ⊎ (to ≤ c) → c < length colours
      → colour_to now painted c ≡ colour_to old colours c
  painted_beside c h l = now_wanted c l ∙ elim h [
    | inl k ↦ wanted_left c k
    | inr k ↦ wanted_right c k
  ]

  still_within : (c : ℕ) → has now c ≡ true → c < length colours
  still_within c h = elim (cases_order c from) [
    | inl e ↦ omega arith
    | inr (inl k) ↦ omega arith
    | inr (inr k) ↦ elim (cases_order c to) [
      | inl e ↦ elim (cases_lt to (length colours)) [
        | inl m ↦ omega arith
        | inr m ↦
            b.within c (subst (λ k. has old k ≡ true) (sym e) (sym (p.past m) ∙ subst (λ k. has now k ≡ true) e h))
      ]
      | inr (inl m) ↦ omega arith
      | inr (inr m) ↦ b.within c (sym (p.right c m) ∙ h)
    ]
  ]

  changes : (c : ℕ) → suc c < length colours → has now (suc c) ≡ true → wanted c ≢ wanted (suc c)
  changes c l h f = elim (cases_order (suc c) from) [
    | inl e ↦ elim (p.own.0 (subst (λ k. has now k ≡ true) e h)) [
      | inl z ↦ absurd (omega arith)
      | inr n ↦ n c e (sym (wanted_left c (omega arith)) ∙ f ∙ wanted_in (suc c) (omega arith) (omega arith))
    ]
    | inr (inl k) ↦
        let g : has old (suc c) ≡ true = sym (p.left (suc c) k) ∙ h in
        b.change c g (sym (wanted_left c (omega arith)) ∙ f ∙ wanted_left (suc c) k ∙ old_border old colours c g)
    | inr (inr k) ↦ elim (cases_order (suc c) to) [
      | inl e ↦ (p.end (omega arith)).0 (subst (λ k. has now k ≡ true) e h)
          (subst (λ k. colour_to old colours k ≡ colour) e
          (sym (wanted_right (suc c) (omega arith)) ∙ sym f ∙ wanted_in c (omega arith) (omega arith)))
      | inr (inl m) ↦ both_ways _ (p.inside (suc c) k m) h
      | inr (inr m) ↦
          let g : has old (suc c) ≡ true = sym (p.right (suc c) m) ∙ h in
          b.change c g
          (sym (wanted_right c (omega arith)) ∙ f ∙ wanted_right (suc c) (omega arith) ∙ old_border old colours c g)
    ]
  ]

  pub still_borders : AreBorders now painted
  still_borders =
      let s = b.some in
      let m = b.small in
      let r = b.room in
      let a = p.as_many in
      let e = p.room in
      record {
        some = omega arith;
        small = omega arith;
        room = omega arith;
        first = elim (cases_eq from 0) [
          | inl e ↦ subst (λ k. has now k ≡ true) e (p.own.1 (inl e))
          | inr n ↦ p.left 0 (omega arith) ∙ b.first
        ];
        within = λ c h. let w = still_within c h in omega arith;
        change = λ c h f.
            let w = still_within (suc c) h in
            changes c w h (sym (now_wanted c (omega arith)) ∙ f ∙ sym (border_wanted c w h));
      }

-- whether the cell before the first one has another colour
abbrev pub BeginsAt : CellSet → List ℕ → ℕ → ℕ → Type 0
BeginsAt old colours from colour = (from ≡ 0) ⊎ ((c : ℕ) → suc c ≡ from → colour_to old colours c ≢ colour)

module _ (old mid : CellSet) (colours mids : List ℕ) (from to colour : ℕ) (begins : Bool) (order : from < to)
    (within : to ≤ length colours)
    (f : IsFilled old mid colours mids from to colour begins)
    (b : (begins ≡ true) ↔ BeginsAt old colours from colour) where
  filled_own : noted mids from ≡ colour
  filled_own = rw f.noted (get_or-set_same colours from colour 0 (omega arith))

  filled_else : (c : ℕ) → c ≢ from → noted mids c ≡ noted colours c
  filled_else c n = rw f.noted (get_or-set_other colours from c colour 0 n)

  filled_many : length mids ≡ length colours
  filled_many = rw f.noted (length-set colours from colour)

  -- up to the end of the row
  pub painted_end : length colours ≤ to → IsPainted old mid colours mids from to colour
  painted_end l = record {
    own = ((λ h. b.0 (sym f.own ∙ h)), (λ x. f.own ∙ b.1 x));
    inside = f.inside;
    end = λ m. absurd (omega arith);
    past = λ m. f.beside to (inr (omega arith));
    left = λ c h. f.beside c (inl h);
    right = λ c h. f.beside c (inr (omega arith));
    noted_own = filled_own;
    noted_end = λ m. absurd (omega arith);
    noted_else = λ c n m. filled_else c n;
    as_many = filled_many;
    room = f.room;
  }

  -- or up to a cell that has its colour still
  pub painted_on : (now : CellSet) (painted : List ℕ) (after : ℕ) (apart : Bool) → to < length colours
      → after ≡ colour_to old colours to
      → ((apart ≡ true) ↔ (after ≢ colour)) → has now to ≡ apart → ((c : ℕ) → c ≢ to → has now c ≡ has mid c)
      → painted ≡ set mids to after
      → room_of now ≡ room_of mid → IsPainted old now colours painted from to colour
  painted_on now painted after apart l is a own others put room =
      let many = filled_many in
      record {
        own = (
          (λ h. b.0 (sym f.own ∙ sym (others from (λ e. absurd (omega arith))) ∙ h)),
          (λ x. others from (λ e. absurd (omega arith)) ∙ f.own ∙ b.1 x),
        );
        inside = λ c h k. others c (λ e. absurd (omega arith)) ∙ f.inside c h k;
        end = λ _. (
          (λ h. subst (λ n. n ≢ colour) is (a.0 (sym own ∙ h))),
          (λ n. own ∙ a.1 (subst (λ k. k ≢ colour) (sym is) n)),
        );
        past = λ m. absurd (omega arith);
        left = λ c h. others c (λ e. absurd (omega arith)) ∙ f.beside c (inl h);
        right = λ c h. others c (λ e. absurd (omega arith)) ∙ f.beside c (inr (omega arith));
        noted_own = rw put (get_or-set_other mids to from after 0 (λ e. absurd (omega arith)) ∙ filled_own);
        noted_end = λ _. rw put (get_or-set_same mids to after 0 (omega arith) ∙ is);
        noted_else = λ c n m. rw put (get_or-set_other mids to c after 0 m ∙ filled_else c n);
        as_many = rw put (length-set mids to after ∙ many);
        room = room ∙ f.room;
      }

-- the same of a row
module _ (k n : KeptRuns) (from to colour : ℕ) (b : AreBorders k.borders k.colours.items) (order : from < to)
    (within : to ≤ length k.colours.items)
    (p : IsPainted k.borders n.borders k.colours.items n.colours.items from to colour) where
  pub row_in : (c : ℕ) → from ≤ c → c < to → colours_of n c ≡ colour
  unfolding colours_of
  row_in c h l =
      let m = p.as_many in
      let q : c < length n.colours.items = omega arith in
      rw (lt-ltb c (length n.colours.items) q)
      (painted_in k.borders n.borders k.colours.items n.colours.items from to colour b order within p c h l)

  pub row_beside : (c : ℕ) → (c < from) ⊎ (to ≤ c) → colours_of n c ≡ colours_of k c
  unfolding colours_of
  row_beside c h =
      let m = p.as_many in
      elim (cases_lt c (length k.colours.items)) [
        | inl l ↦
            let q : c < length n.colours.items = omega arith in
            rw (lt-ltb c (length n.colours.items) q, lt-ltb c (length k.colours.items) l)
            (painted_beside k.borders n.borders k.colours.items n.colours.items from to colour b order within p c h l)
        | inr l ↦
            let q : length n.colours.items ≤ c = omega arith in
            rw (le-ltb c (length n.colours.items) q, le-ltb c (length k.colours.items) l) refl
      ]

pub begins_at : (k : KeptRuns) → AreBorders k.borders k.colours.items → (from colour : ℕ) (begins : Bool)
    → from < length k.colours.items
    → ((begins ≡ true) ↔ Begins (colours_of k) from colour)
    → (begins ≡ true) ↔ BeginsAt k.borders k.colours.items from colour
begins_at k b from colour begins l h = (
  λ t. elim (h.0 t) [
    | inl z ↦ inl z
    | inr f ↦ inr (λ c e g. f c (omega arith) (in_row k b c (omega arith) ∙ g))
  ],
  λ x. h.1 (elim x [
    | inl z ↦ inl z
    | inr f ↦ inr (λ c e g. f c (omega arith) (sym (in_row k b c (omega arith)) ∙ g))
  ]),
)
