-- A text spells forms, or has a first broken rule.
use Rattle.std.proofs.Common.{◌≡◌, ◌⊎◌, inl, inr, ℕ, zero, suc, ◌+◌, ◌<◌, ◌≤◌, ◌^◌, List, [], ◌∷◌, ◌++◌, Bool, true}
use Rattle.std.proofs.Common.{false, refl, sym, ◌∙◌, ap, length, drop, arith}
use Rattle.std.specs.Prelude.{slice_range, slice_index, slice_set}
use Rattle.std.specs.List.{list_all}
use Rattle.std.specs.Str.Parse.{digits_value}
use Rattle.std.proofs.lemmas.Bool.{cases_lt, cases_eq, cases_Bool}
use Rattle.std.proofs.lemmas.List.{take_rest, get_or_past}
use Rattle.mp_base.specs.Token.{is_token, is_digit}
use Rattle.mp_base.specs.declared.refusal.Place.{Place}
use Rattle.mp_base.specs.declared.refusal.Family.TheVariants.{E}
use Rattle.mp_base.specs.declared.refusal.Spot.TheVariants.{At}
use Rattle.mp_base.specs.declared.refusal.Refusal.{Refusal}
use Rattle.mp_base.specs.declared.refusal.Refusal.TheVariants.{Broken}
use Rattle.mp_base.proofs.Lists.{slice_range_none}
use Rattle.form_reader.specs.declared.forms.Kind.{Kind}
use Rattle.form_reader.specs.declared.forms.Kind.TheVariants.{Number, Symbol, Group}
use Rattle.form_reader.specs.declared.forms.Node.{Node}
use Rattle.form_reader.specs.declared.forms.Forms.{Forms}
use Rattle.form_reader.specs.Text.{fills_gap, is_gap, comment_step, IsRun, place_at}
use Rattle.form_reader.specs.Spelling.{IsKindOf, Spells}
use Rattle.form_reader.specs.Rules.{IsFirst, RefusesFirst}
use Rattle.form_reader.specs.Reading.{Reached, HasRead, AddsItem, HasListed}
use Rattle.form_reader.specs.Sound.{no_node}
use Rattle.form_reader.proofs.Scan.{GapSoFar, gap_more, gap_done, not_in_comment, closes, all_more}
use Rattle.form_reader.proofs.Blocks.{nothing_read, add_item, token_item, group_item}
use Rattle.form_reader.proofs.Reached.{reached_gap, reached_open, reached_close, reached_run, ended_list, closed_list}
use Rattle.form_reader.proofs.Reached.{spells_all, refuses_e1, refuses_e2, refuses_e3, refuses_e4, refuses_e5}

-- ---- where a gap and a run end

-- a gap begins at a and ends at s
record Skipped (text : List ℕ) (a s : ℕ) : Type 0 where
  after : a ≤ s
  within : s ≤ length text
  gap : s < length text → is_gap false (slice_range text a s) ≡ true
  stop : s < length text → fills_gap false (slice_index text s) ≡ false
  rest : s ≡ length text → is_gap false (drop a text ++ 10 ∷ []) ≡ true

skipped_end : (text : List ℕ) (a i : ℕ) (c : Bool) → a ≤ i → i ≡ length text → GapSoFar text a i c → Skipped text a i
skipped_end text a i c le end so_far = record {
  after = le;
  within = omega (arith, end);
  gap = λ lt. absurd (omega (arith, end, lt));
  stop = λ lt. absurd (omega (arith, end, lt));
  rest = λ e. ap (λ z. is_gap false (z ++ 10 ∷ [])) (sym (take_rest text a))
      ∙ ap (λ z. is_gap false (slice_range text a z ++ 10 ∷ [])) (sym end) ∙ so_far (10 ∷ []) ∙ closes c;
}

skipped_here : (text : List ℕ) (a i : ℕ) (c : Bool) → a ≤ i → i < length text → GapSoFar text a i c
    → fills_gap c (slice_index text i) ≡ false → Skipped text a i
skipped_here text a i c le lt so_far stops =
    let out : c ≡ false = not_in_comment c (slice_index text i) stops in
    record {
      after = le;
      within = omega (arith, lt);
      gap = λ inside. gap_done text a i (λ tail. so_far tail ∙ ap (λ z. is_gap z tail) out);
      stop = λ inside. ap (λ z. fills_gap z (slice_index text i)) (sym out) ∙ stops;
      rest = λ e. absurd (omega (arith, e, lt));
    }

skip_from : (text : List ℕ) (a m i : ℕ) (c : Bool) → length text ≤ i + m → a ≤ i → i ≤ length text
    → GapSoFar text a i c → (s : ℕ) × Skipped text a s
skip_from text a zero i c fuel le within so_far = (i, skipped_end text a i c le (omega (arith, fuel, within)) so_far)
skip_from text a (suc m) i c fuel le within so_far = elim (cases_lt i (length text)) [
  | inr past ↦ (i, skipped_end text a i c le (omega (arith, past, within)) so_far)
  | inl lt ↦ elim (cases_Bool (fills_gap c (slice_index text i))) [
    | inl fills ↦ skip_from text a m (i + 1) (comment_step c (slice_index text i)) (omega (arith, fuel))
        (omega (arith, le)) (omega (arith, lt))
        (gap_more text a i c (comment_step c (slice_index text i)) le lt so_far fills refl)
    | inr stops ↦ (i, skipped_here text a i c le lt so_far stops)
  ]
]

skip : (text : List ℕ) (a : ℕ) → a ≤ length text → (s : ℕ) × Skipped text a s
skip text a le = skip_from text a (length text) a false (omega arith) (omega arith) le
    (λ tail. ap (λ xs. is_gap false (xs ++ tail)) (slice_range_none text a))

run_from : (text : List ℕ) (a m i : ℕ) → length text ≤ i + m → a < i → i ≤ length text
    → list_all is_token (slice_range text a i) ≡ true → (e : ℕ) × IsRun text a e
run_from text a zero i fuel lt within all = (
  i,
  record {
    some = lt;
    within = within;
    all = all;
    ended = ap is_token
        (get_or_past text i 0 (omega (arith, fuel)));
  },
)
run_from text a (suc m) i fuel lt within all = elim (cases_lt i (length text)) [
  | inr past ↦ (i, record { some = lt; within = within; all = all; ended = ap is_token (get_or_past text i 0 past) })
  | inl inside ↦ elim (cases_Bool (is_token (slice_index text i))) [
    | inl token ↦ run_from text a m (i + 1) (omega (arith, fuel)) (omega (arith, lt)) (omega (arith, inside))
        (all_more is_token text a i (omega (arith, lt)) inside all token)
    | inr other ↦ (i, record { some = lt; within = within; all = all; ended = other })
  ]
]

run : (text : List ℕ) (a : ℕ) → a < length text → is_token (slice_index text a) ≡ true → (e : ℕ) × IsRun text a e
run text a lt token = run_from text a (length text) (a + 1) (omega arith) (omega arith) (omega (arith, lt))
    (all_more is_token text a a (omega arith) lt (ap (list_all is_token) (slice_range_none text a)) token)

-- ---- reading

abbrev Refused : List ℕ → Type 0
Refused text = (k o : ℕ) × IsFirst text k o

-- the refusal of a rule at a place
abbrev refusal : ℕ → Place → Refusal
refusal k at = Broken (record { rule = record { family = E; number = k }; spot = At at })

refused : (text : List ℕ) (k : ℕ) (at : Place) → RefusesFirst text (refusal k at) → Refused text
refused text k at h = (k, at.offset, h.1.1)

-- the kind of a run of token characters, or that its number is too great
kind_of : (run : List ℕ) → ((kind : Kind) × IsKindOf run kind)
    ⊎ ((list_all is_digit run ≡ true) × (2 ^ 64 ≤ digits_value 10 run))
kind_of run = elim (cases_Bool (list_all is_digit run)) [
  | inr other ↦ inl (Symbol run, (other, refl))
  | inl digits ↦ elim (cases_lt (digits_value 10 run) (2 ^ 64)) [
    | inl lt ↦ inl (Number (digits_value 10 run), (digits, refl, lt))
    | inr big ↦ inr (digits, big)
  ]
]

-- the items of a list, or those outside all lists, and what ends them
record Listed (text : List ℕ) (depth outer from at : ℕ) (old : List Node) : Type 0 where
  new : List Node
  items : List ℕ
  end : Place
  later : at ≤ end.offset
  listed : HasListed text depth outer from old new items end

abbrev Outcome : List ℕ → (depth outer from at : ℕ) → List Node → Type 0
Outcome text depth outer from at old = Listed text depth outer from at old ⊎ Refused text

sooner : (text : List ℕ) (depth outer from at to : ℕ) (old : List Node) → at ≤ to
    → Outcome text depth outer from to old → Outcome text depth outer from at old
sooner text depth outer from at to old le (inl l) = inl
    (record {
      new = l.new;
      items = l.items;
      end = l.end;
      later = (let h = l.later in omega (arith, h, le));
      listed =
          l.listed;
    })
sooner text depth outer from at to old le (inr broken) = inr broken

-- the place where a list ends is no sooner than where it was read up to
module _ (text : List ℕ) where
  abbrev Read : ℕ → Type 0
  Read m = (depth : ℕ) (outer at : Place) (from : ℕ) (old new : List Node) (items : List ℕ)
      → length text < at.offset + m → depth ≤ 64 → Reached text depth outer at
      → HasRead text depth from old new items at.offset → Outcome text depth outer.offset from at.offset old

  module _ (depth : ℕ) (outer at : Place) (from : ℕ) (old new : List Node) (items : List ℕ) (shallow : depth ≤ 64)
      (reached : Reached text depth outer at)
      (read : HasRead text depth from old new items at.offset) (s : ℕ) (skipped : Skipped text at.offset s) where
    here : s < length text → Reached text depth outer (place_at text s)
    here lt = reached_gap text depth outer at (place_at text s) reached skipped.within (skipped.after, skipped.gap lt)
        refl

    -- the text ends
    at_end : s ≡ length text → Outcome text depth outer.offset from at.offset old
    at_end end = elim (cases_eq depth 0) [
      | inl top ↦ inl (record {
        new = new;
        items = items;
        end = place_at text s;
        later = skipped.after;
        listed = ended_list text depth outer from old new items at (place_at text s) top reached read
            (reached.clean.within, skipped.rest end) refl end;
      })
      | inr deep ↦ inr (refused text 2 outer (refuses_e2 text depth outer at (refusal 2 outer) reached deep
          (reached.clean.within, skipped.rest end) refl))
    ]

    -- a `)`
    at_close : s < length text → slice_index text s ≡ 41 → Outcome text depth outer.offset from at.offset old
    at_close lt byte = elim (cases_eq depth 0) [
      | inl top ↦ inr (refused text 3 (place_at text s) (refuses_e3 text depth outer (place_at text s)
          (refusal 3 (place_at text s)) (here lt) top (lt, byte) refl))
      | inr deep ↦ inl (record {
        new = new;
        items = items;
        end = place_at text (s + 1);
        later = (let h = skipped.after in omega (arith, h));
        listed = closed_list text depth outer from old new items at (place_at text s) (place_at text (s + 1)) deep
            (here lt) read (skipped.after, skipped.gap lt) (lt, byte) refl;
      })
    ]

    -- an item was read up to an offset, and so are those behind it
    onward : (m : ℕ) (e : Place) (longer : List Node) → Read m → length text < e.offset + m → at.offset ≤ e.offset
        → Reached text depth outer e → s < length text
        → AddsItem text depth s new longer e.offset → Outcome text depth outer.offset from at.offset old
    onward m e longer more fuel le further lt added =
        sooner text depth outer.offset from at.offset e.offset old le
        (more depth outer e from old longer (items ++ length new ∷ []) fuel shallow further
        (add_item text depth from old new longer items at.offset s e.offset read (skipped.after, skipped.gap lt) added))

    -- a run of token characters
    at_token : (m : ℕ) → Read m → length text < at.offset + suc m → s < length text
        → is_token (slice_index text s) ≡ true → Outcome text depth outer.offset from at.offset old
    at_token m more fuel lt token =
        let (e, is) = run text s lt token in
        elim (kind_of (slice_range text s e)) [
          | inr (digits, big) ↦ inr (refused text 4 (place_at text s)
              (refuses_e4 text depth outer (place_at text s) e (refusal 4 (place_at text s)) (here lt) is
              (refl, (refl, refl, digits, big))))
          | inl (kind, known) ↦ onward m (place_at text e) (new ++ record { place = place_at text s; kind = kind } ∷
              []) more
              (let a = skipped.after in let b = is.some in omega (arith, a, b, fuel))
              (let a = skipped.after in let b = is.some in omega (arith, a, b))
              (reached_run text depth outer (place_at text s) (place_at text e) kind (here lt) is known refl) lt
              (token_item text depth s e new (new ++ record { place = place_at text s; kind = kind } ∷ []) kind
              (place_at text s) is known refl refl)
        ]

    -- a list: the place where the outermost list begins that is open in it
    outermost : (o : Place) × (depth ≡ 0 → o ≡ place_at text s) × (0 < depth → o ≡ outer)
    outermost = elim (cases_eq depth 0) [
      | inl top ↦ (place_at text s, (λ z. refl), (λ pos. absurd (omega (arith, top, pos))))
      | inr deep ↦ (outer, (λ z. absurd (deep z)), (λ pos. refl))
    ]

    grouped : (m : ℕ) → Read m → length text < at.offset + suc m → (lt : s < length text) → slice_index text s ≡ 40
        → depth < 64
        → Outcome text (depth + 1) outermost.0.offset (s + 1) (s + 1) (new ++ no_node ∷ [])
        → Outcome text depth outer.offset from at.offset old
    grouped m more fuel lt byte less (inr broken) = inr broken
    grouped m more fuel lt byte less (inl l) =
        let longer = slice_set l.new (length new) (record { place = place_at text s; kind = Group l.items }) in
        let added : AddsItem text depth s new longer l.end.offset
        = group_item text depth outermost.0.offset s (depth + 1) (s + 1) new (new ++ no_node ∷ []) l.new longer no_node
        (place_at text s) l.items l.end (length new)
        (lt, byte) less refl refl refl refl l.listed refl refl in
        let closed = l.listed.closed (omega arith) in
        let after = l.later in
        let a = skipped.after in
        onward m l.end longer more (omega (arith, a, after, fuel)) (omega (arith, a, after))
        (reached_close text depth (depth + 1) l.listed.at outer outermost.0 (place_at text s) l.end (here lt) refl
        outermost.2 closed) lt added

    at_open : (m : ℕ) → Read m → length text < at.offset + suc m → s < length text → slice_index text s ≡ 40
        → Outcome text depth outer.offset from at.offset old
    at_open m more fuel lt byte = elim (cases_lt depth 64) [
      | inr deep ↦ inr (refused text 5 (place_at text s)
          (refuses_e5 text depth outer (place_at text s) (refusal 5 (place_at text s)) (here lt)
          (omega (arith, deep, shallow)) (lt, byte) refl))
      | inl less ↦ grouped m more fuel lt byte less
          (more (depth + 1) outermost.0 (place_at text (s + 1)) (s + 1) (new ++ no_node ∷ []) (new ++ no_node ∷ []) []
          (let a = skipped.after in omega (arith, a, fuel))
          (omega (arith, less)) (reached_open text depth (depth + 1) outer (place_at text s) outermost.0
          (place_at text (s + 1)) (here lt) (lt, byte) less refl outermost.1 outermost.2 refl)
          (nothing_read text (depth + 1) (s + 1) (new ++ no_node ∷ [])))
    ]

    step : (m : ℕ) → Read m → length text < at.offset + suc m → Outcome text depth outer.offset from at.offset old
    step m more fuel = elim (cases_lt s (length text)) [
      | inr past ↦ at_end (let h = skipped.within in omega (arith, past, h))
      | inl lt ↦ elim (cases_eq (slice_index text s) 41) [
        | inl close ↦ at_close lt close
        | inr no_close ↦ elim (cases_eq (slice_index text s) 40) [
          | inl open_byte ↦ at_open m more fuel lt open_byte
          | inr no_open ↦ elim (cases_Bool (is_token (slice_index text s))) [
            | inl token ↦ at_token m more fuel lt token
            | inr other ↦ inr (refused text 1 (place_at text s)
                (refuses_e1 text depth outer (place_at text s) (refusal 1 (place_at text s)) (here lt) lt
                (skipped.stop lt) no_open no_close other refl))
          ]
        ]
      ]
    ]

  reading : (m : ℕ) → Read m
  reading zero depth outer at from old new items fuel shallow reached so_far = absurd
      (let h = reached.clean.within in omega (arith, fuel, h))
  reading (suc m) depth outer at from old new items fuel shallow reached so_far =
      let (s, skipped) = skip text at.offset reached.clean.within in
      step depth outer at from old new items shallow reached so_far s skipped m (reading m) fuel

  begun : Reached text 0 (place_at text 0) (place_at text 0)
  begun = record {
    clean = record {
      within = omega arith;
      outside = refl;
      depth_is = refl;
      fine = λ k o lt. absurd (omega (arith, lt));
      fresh = λ pos. absurd (omega (arith, pos));
      opened = λ pos. absurd (omega (arith, pos));
    };
    place = refl;
    outer_place = λ pos. absurd (omega (arith, pos));
  }

  pub verdict : ((f : Forms) × Spells text f) ⊎ ((k o : ℕ) × IsFirst text k o)
  verdict = elim (reading (length text + 1) 0 (place_at text 0) (place_at text 0) 0 [] [] [] (omega arith)
      (omega arith) begun (nothing_read text 0 0 [])) [
        | inl l ↦ inl (
          record { nodes = l.new; roots = l.items; end = l.end },
          spells_all text 0 [] l.new l.items l.end
              refl l.listed,
        )
        | inr broken ↦ inr broken
      ]
