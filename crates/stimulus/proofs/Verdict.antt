-- A text spells a stimulus, or has a first broken rule.
use Rattle.std.proofs.Common.{◌≡◌, ◌⊎◌, inl, inr, ℕ, zero, suc, ◌+◌, ◌<◌, ◌≤◌, List, [], ◌∷◌, ◌++◌, Option}
use Rattle.std.proofs.Common.{Some, None, length, take, refl, ◌∙◌, subst, arith}
use Rattle.std.proofs.lemmas.Bool.{cases_lt, cases_Bool}
use Rattle.std.proofs.lemmas.List.{get_or_default}
use Rattle.mp_base.specs.Lines.{place_at}
use Rattle.mp_base.specs.declared.pad.Pad.{Pad}
use Rattle.mp_base.specs.declared.pad.Pads.{Pads}
use Rattle.mp_base.specs.declared.refusal.Place.{Place}
use Rattle.mp_base.proofs.Decisions.{Decided, both_of, is_true, is_within}
use Rattle.mp_base.proofs.Entries.{own_default}
use Rattle.mp_base.proofs.Lists.{take_whole}
use Rattle.stimulus_lines.specs.declared.form.Assignment.{Assignment}
use Rattle.stimulus_lines.specs.declared.form.Form.{Form}
use Rattle.stimulus_lines.specs.declared.form.Form.TheVariants.{Input, Output, Clock}
use Rattle.stimulus.specs.declared.given.Given.{Given}
use Rattle.stimulus.specs.declared.given.Stimulus.{Stimulus}
use Rattle.stimulus_lines.specs.declared.piece.Piece.{Piece}
use Rattle.stimulus.specs.declared.reading.Reading.{Reading}
use Rattle.stimulus_lines.specs.Words.{lines}
use Rattle.stimulus_lines.specs.Forms.{IsForm, is_clock}
use Rattle.stimulus.specs.Reading.{nothing, Reads, FirstBroken, IsStimulus, IsFirst}
use Rattle.stimulus.specs.Rules.{is_new_pad, is_known, bound, input_named, inputs_of, IsInPlace, IsFull, IsGiven}
use Rattle.stimulus.specs.Rules.{AreGiven, IsMisfit, FirstMisfit, start_of, second_of, Adds, FirstIn, full, formless}
use Rattle.stimulus.specs.Rules.{misfit}
use Rattle.stimulus.proofs.Apart.{AreApart, has_name, apart_more, apart_not}
use Rattle.stimulus.proofs.Fitness.{in_range, fits_read}
use Rattle.stimulus.proofs.Naming.{named_read}
use Rattle.stimulus_lines.proofs.FormsDecided.{form_in}
use Rattle.stimulus_lines.proofs.Unique.{form_once}

-- ---- claims that are decided

apart_upto : (xs : List Assignment) (n : ℕ) → n ≤ length xs → AreApart (take n xs) ⊎ (AreApart xs → ⊥)
apart_upto xs zero le = inl (λ i j d less lt. absurd (omega (arith, less, lt)))
apart_upto xs (suc n) le = by (apart_upto xs n (omega (arith, le)))
  where
    by : AreApart (take n xs) ⊎ (AreApart xs → ⊥) → AreApart (take (suc n) xs) ⊎ (AreApart xs → ⊥)
    by (inr twice) = inr twice
    by (inl apart) =
        let (x, is) = own_default xs n (omega (arith, le)) in
        elim (cases_Bool (has_name x.name (take n xs))) [
          | inl old ↦ inr (λ all. apart_not xs n x (omega (arith, le)) is old all)
          | inr new ↦ (let same : n + 1 ≡ suc n = omega arith in inl
              (subst (λ k. AreApart (take k xs)) same (apart_more xs n x (omega (arith, le)) is apart new)))
        ]

is_in_place : (r : Reading) (f : Form) → Decided (IsInPlace r f)
is_in_place r (Input p) = is_true (is_new_pad r p.name)
is_in_place r (Output p) = is_true (is_new_pad r p.name)
is_in_place r (Clock xs) = elim (apart_upto xs (length xs) (omega arith))
    [ inl apart ↦ inl (subst (λ ys. AreApart ys) (take_whole xs) apart) | inr twice ↦ inr twice ]

-- ---- what a line adds, or which rule it breaks

given : (inputs : List Pad) (a : Assignment) → ((g : Given) × IsGiven inputs a g) ⊎ ((k : ℕ) × IsMisfit inputs a k)
given inputs a = by (input_named inputs a.name) refl
  where
    by : (o : Option ℕ) → input_named inputs a.name ≡ o → ((g : Given) × IsGiven inputs a g)
        ⊎ ((k : ℕ) × IsMisfit inputs a k)
    by None none = inr (2, inl (refl, none))
    by (Some i) named =
        let lt = in_range inputs a.name i named in
        let (p, is) = own_default inputs i lt in
        elim (cases_lt a.value (bound p)) [
          | inl low ↦ inl (
            record { input = i; value = a.value },
            record {
              named = named;
              value = refl;
              fits = λ q. subst (λ z. a.value < bound z)
                  (is ∙ get_or_default inputs i p q lt) low;
            },
          )
          | inr high ↦ inr (
            3,
            inr (
              refl,
              i,
              named,
              λ q. subst (λ z. bound z ≤ a.value)
                  (is ∙ get_or_default inputs i p q lt) high,
            ),
          )
        ]

givens : (inputs : List Pad) (xs : List Assignment) → ((gs : List Given) × AreGiven inputs xs gs)
    ⊎ ((k at : ℕ) × FirstMisfit inputs xs k at)
givens inputs [] = inl ([], tt)
givens inputs (a ∷ xs) = by (given inputs a) (givens inputs xs)
  where
    by : ((g : Given) × IsGiven inputs a g) ⊎ ((k : ℕ) × IsMisfit inputs a k)
        → ((gs : List Given) × AreGiven inputs xs gs) ⊎ ((k at : ℕ) × FirstMisfit inputs xs k at)
        → ((gs : List Given) × AreGiven inputs (a ∷ xs) gs) ⊎ ((k at : ℕ) × FirstMisfit inputs (a ∷ xs) k at)
    by (inr (k, bad)) rest = inr (k, a.at, inl (bad, refl))
    by (inl (g, h)) (inl (gs, more)) = inl (g ∷ gs, (h, more))
    by (inl (g, h)) (inr (k, at, bad)) = inr (k, at, inr (g, h, bad))

module _ (known : Option Pads) (r : Reading) (line : List Piece) where
  abbrev LineVerdict : Type 0
  LineVerdict = ((t : Reading) × Adds known r line t) ⊎ ((k at : ℕ) × FirstIn known r line k at)

  by_form : (f : Form) → (IsFull r line → ⊥) → IsForm line f → IsInPlace r f → LineVerdict
  by_form (Input p) room is place = elim (cases_Bool (is_known known (λ (q : Pads). q.inputs) p)) [
    | inl old ↦ inl (
      record { inputs = r.inputs ++ p ∷ []; outputs = r.outputs; clocks = r.clocks },
      record { room = room; form = Input p; is = is; «in_place» = place; adds = (old, refl) },
    )
    | inr new ↦ inr (2, second_of line, misfit (Input p) room is place (refl, refl, new))
  ]
  by_form (Output p) room is place = elim (cases_Bool (is_known known (λ (q : Pads). q.outputs) p)) [
    | inl old ↦ inl (
      record { inputs = r.inputs; outputs = r.outputs ++ p ∷ []; clocks = r.clocks },
      record { room = room; form = Output p; is = is; «in_place» = place; adds = (old, refl) },
    )
    | inr new ↦ inr (2, second_of line, misfit (Output p) room is place (refl, refl, new))
  ]
  by_form (Clock xs) room is place = elim (givens (inputs_of known r) xs) [
    | inl (gs, all) ↦ inl (
      record { inputs = r.inputs; outputs = r.outputs; clocks = r.clocks ++ gs ∷ [] },
      record { room = room; form = Clock xs; is = is; «in_place» = place; adds = (gs, all, refl) },
    )
    | inr (k, at, bad) ↦ inr (k, at, misfit (Clock xs) room is place bad)
  ]

  by_place : (f : Form) → (IsFull r line → ⊥) → IsForm line f → Decided (IsInPlace r f) → LineVerdict
  by_place f room is (inl place) = by_form f room is place
  by_place f room is (inr astray) = inr (
    1,
    start_of line,
    formless refl refl room
        (λ g also place. astray (subst (IsInPlace r) (form_once line g f also is) place)),
  )

  by_room : Decided (IsFull r line) → Decided ((f : Form) × IsForm line f) → LineVerdict
  by_room (inl over) form = inr (4, start_of line, full refl refl over)
  by_room (inr room) (inr none) = inr (1, start_of line, formless refl refl room (λ f is place. none (f, is)))
  by_room (inr room) (inl (f, is)) = by_place f room is (is_in_place r f)

  line_verdict : LineVerdict
  line_verdict = by_room (both_of (is_true (is_clock line)) (is_within 65536 (length r.clocks))) (form_in line)

lines_verdict : (known : Option Pads) (r : Reading) (ls : List (List Piece)) → ((t : Reading) × Reads known r ls t)
    ⊎ ((k at : ℕ) × FirstBroken known r ls k at)
lines_verdict known r [] = inl (r, refl)
lines_verdict known r (line ∷ more) = by (line_verdict known r line) (λ s. lines_verdict known s more)
  where
    by : ((s : Reading) × Adds known r line s) ⊎ ((k at : ℕ) × FirstIn known r line k at)
        → ((s : Reading) → ((t : Reading) × Reads known s more t) ⊎ ((k at : ℕ) × FirstBroken known s more k at))
        → ((t : Reading) × Reads known r (line ∷ more) t) ⊎ ((k at : ℕ) × FirstBroken known r (line ∷ more) k at)
    by (inr (k, at, bad)) rest = inr (k, at, inl bad)
    by (inl (s, adds)) rest = elim (rest s) [
      | inl (t, reads) ↦ inl (t, (s, adds, reads))
      | inr (k, at, bad) ↦ inr
          (k, at, inr (s, adds, bad))
    ]

-- the stimulus of what was read
stimulus_of : (text : List ℕ) (known : Option Pads) (t : Reading) → Reads known nothing (lines text) t → (s : Stimulus)
    × IsStimulus text known s
stimulus_of text None t reads = (
  record {
    pads = record { inputs = t.inputs; outputs = t.outputs; named = named_read None t (lines text) reads };
    clocks = t.clocks;
    fits = fits_read None t (lines text) reads;
  },
  record { reading = t; reads = reads; inputs = refl; outputs = refl; clocks = refl },
)
stimulus_of text (Some pads) t reads = (
  record { pads = pads; clocks = t.clocks; fits = fits_read (Some pads) t (lines text) reads },
  record { reading = t; reads = reads; inputs = refl; outputs = refl; clocks = refl },
)

pub verdict : (text : List ℕ) (known : Option Pads) → ((s : Stimulus) × IsStimulus text known s)
    ⊎ ((k : ℕ) × (at : Place) × IsFirst text known k at)
verdict text known = elim (lines_verdict known nothing (lines text)) [
  | inl (t, reads) ↦ inl (stimulus_of text known t reads)
  | inr (k, at, broken) ↦ inr (k, place_at text at, record { broken = broken; place = refl })
]
