-- Runs along inputs, and what they print.
use Rattle.std.proofs.Common.{◌≡◌, ◌∙◌, ℕ, zero, suc, ◌+◌, ◌-◌, ◌<◌, ◌≤◌, List, [], ◌∷◌, ◌++◌, append_assoc, Option}
use Rattle.std.proofs.Common.{Result, Ok, Err, length, map, take, drop, get_or, refl, sym, ap, subst, arith}
use Rattle.std.specs.Prelude.{All}
use Rattle.std.proofs.lemmas.List.{append-nil, length-append, length-map, length-take, take_all, take-append-le}
use Rattle.std.proofs.lemmas.List.{take-append-drop}
use Rattle.mp_base.specs.declared.value.Trit.{Trit}
use Rattle.mp_base.specs.declared.pad.Pad.{Pad}
use Rattle.outside.specs.Outside.{WhereTold, Gains}
use Rattle.outside.specs.Piece.{TakesAll}
use Rattle.stimulus.specs.declared.given.Given.{Given}
use Rattle.stimulus.specs.declared.given.Stimulus.{Stimulus}
use Rattle.stimulus.specs.Inputs.{inputs_at, inputs_of}
use Rattle.mp_base.specs.PadBits.{Fit}
use Rattle.stimulus.specs.Transcript.{line_text, lines_text}
use Rattle.transcript.specs.Transcript.{RunsAlong, IsTranscript}
use Rattle.transcript.specs.Running.{PrintsClock, PrintsClocks, PrintsTranscript}
use Rattle.transcript.specs.Laws.{IsDetermined, CanStep, StepsOn}
use Rattle.transcript.proofs.Inputs.{clocks_fit}
use Rattle.outside.proofs.Told.{gains_nothing, gains_twice}
use Rattle.outside.proofs.Written.{gained, written, cut_before}
use Rattle.transcript.proofs.Printing.{cut_short}

-- the lines of some clocks, and of those behind them
pub lines_more : (k n : ℕ) (pads : List Pad) (os us : List (List (List Trit))) → n ≡ k + length os
    → lines_text k pads (os ++ us) ≡ lines_text k pads os ++ lines_text n pads us
lines_more k n pads [] us is = ap (λ m. lines_text m pads us) (let e : k ≡ n = omega arith in e)
lines_more k n pads (o ∷ os) us is =
    ap (λ text. line_text k pads o ++ text) (lines_more (suc k) n pads os us (omega arith))
    ∙ sym (append_assoc (line_text k pads o) (lines_text (suc k) pads os) (lines_text n pads us))

one_more : (f : List Given → List ℕ) (k : ℕ) (cs : List (List Given)) → k < length cs
    → take (suc k) (map f cs) ≡ take k (map f cs) ++ f (get_or cs k []) ∷ []
one_more f k [] lt = absurd (omega (arith, lt))
one_more f zero (c ∷ cs) lt = refl
one_more f (suc k) (c ∷ cs) lt = ap (λ is. f c ∷ is) (one_more f k cs (omega (arith, lt)))

module _ {S : Type 0} (Steps : S → List ℕ → List (List Trit) → S → Type 0) where
  -- a run, and another from its end
  pub runs_then : (before mid after : S) (is js : List (List ℕ)) (os us : List (List (List Trit)))
      → RunsAlong Steps before is os mid → RunsAlong Steps mid js us after
      → RunsAlong Steps before (is ++ js) (os ++ us) after
  runs_then before mid after [] js [] us h k = let P : S → Type 0 = λ s. RunsAlong Steps s js us after in subst P h k
  runs_then before mid after [] js (o ∷ os) us h k = absurd h
  runs_then before mid after (i ∷ is) js [] us h k = absurd h
  runs_then before mid after (i ∷ is) js (o ∷ os) us h k = (h.0, h.1, runs_then h.0 mid after is js os us h.2 k)

  -- bits are shown in each clock
  pub runs_long : (before after : S) (is : List (List ℕ)) (os : List (List (List Trit)))
      → RunsAlong Steps before is os after
      → length os ≡ length is
  runs_long before after [] [] h = refl
  runs_long before after [] (o ∷ os) h = absurd h
  runs_long before after (i ∷ is) [] h = absurd h
  runs_long before after (i ∷ is) (o ∷ os) h = ap suc (runs_long h.0 after is os h.2)

  -- where steps are determined, so are runs
  pub runs_once : IsDetermined Steps → (before v w : S) (is : List (List ℕ)) (os us : List (List (List Trit)))
      → RunsAlong Steps before is os v → RunsAlong Steps before is us w → (os ≡ us) × (v ≡ w)
  runs_once one before v w [] [] [] a b = (refl, a ∙ sym b)
  runs_once one before v w [] [] (u ∷ us) a b = absurd b
  runs_once one before v w [] (o ∷ os) us a b = absurd a
  runs_once one before v w (i ∷ is) [] us a b = absurd a
  runs_once one before v w (i ∷ is) (o ∷ os) [] a b = absurd b
  runs_once one before v w (i ∷ is) (o ∷ os) (u ∷ us) a b =
      let here = one before a.0 b.0 i o u a.1 b.1 in
      let P : S → Type 0 = λ s. RunsAlong Steps s is us w in
      let rest = runs_once one a.0 v w is os us a.2 (subst P (sym here.1) b.2) in
      (ap (λ s. s ∷ os) here.0 ∙ ap (λ s. u ∷ s) rest.0, rest.1)

  -- where each step has a next one, there are runs
  pub runs_exist : (pads : List Pad) → StepsOn Steps pads → (before : S) → CanStep Steps pads before
      → (is : List (List ℕ))
      → All (Fit pads) is → (shown : List (List (List Trit))) × (after : S) × RunsAlong Steps before is shown after
  runs_exist pads on before can [] fit = ([], before, refl)
  runs_exist pads on before can (i ∷ is) fit =
      let step = can i (fit 0 i (omega arith)) in
      let rest =
      runs_exist pads on step.1 (on before step.1 i step.0 step.2) is (λ k d lt. fit (suc k) d (omega (arith, lt))) in
      (step.0 ∷ rest.0, rest.1, (step.1, step.2, rest.2))

  -- and a run ends where there is a next step
  pub can_go_on : (pads : List Pad) → StepsOn Steps pads → (before after : S) → CanStep Steps pads before
      → (is : List (List ℕ))
      (os : List (List (List Trit))) → RunsAlong Steps before is os after → CanStep Steps pads after
  can_go_on pads on before after can [] [] h = subst (CanStep Steps pads) (sym h) can
  can_go_on pads on before after can [] (o ∷ os) h = absurd h
  can_go_on pads on before after can (i ∷ is) [] h = absurd h
  can_go_on pads on before after can (i ∷ is) (o ∷ os) h = can_go_on pads on h.0 after (on before h.0 i o h.1) is os h.2

  -- what holds of a state and lasts from step to step holds at the end of a run
  pub runs_keep : (P : S → Type 0) → ((s t : S) (i : List ℕ) (o : List (List Trit)) → P s → Steps s i o t → P t)
      → (before after : S)
      (is : List (List ℕ)) (os : List (List (List Trit))) → P before → RunsAlong Steps before is os after → P after
  runs_keep P keep before after [] [] p h = subst P (sym h) p
  runs_keep P keep before after [] (o ∷ os) p h = absurd h
  runs_keep P keep before after (i ∷ is) [] p h = absurd h
  runs_keep P keep before after (i ∷ is) (o ∷ os) p h = runs_keep P keep h.0 after is os (keep before h.0 i o p h.1) h.2

  -- k clocks were run from this state to that, and their lines printed
  pub record PrintedTo (s : Stimulus) (k : ℕ) (before now : S) (x y : Option (List ℕ)) : Type 0 where
    pub shown : List (List (List Trit))
    pub runs : RunsAlong Steps before (take k (inputs_of s)) shown now
    pub long : k ≡ length shown
    pub held : WhereTold (Gains (lines_text 0 (s.pads).outputs shown)) x y

  pub printed_none : (s : Stimulus) (st : S) (x : Option (List ℕ)) → PrintedTo s 0 st st x x
  printed_none s st x = record { shown = []; runs = refl; long = refl; held = gains_nothing x }

  -- with one more clock
  runs_more : {T E : Type 0} (s : Stimulus) (k : ℕ) (before now after : S) (x y z : Option (List ℕ)) (r : Result T E)
      → k < length s.clocks → (p : PrintedTo s k before now x y) (c : PrintsClock Steps s k now after y z r)
      → RunsAlong Steps before (take (k + 1) (inputs_of s)) (p.shown ++ c.shown ∷ []) after
  runs_more s k before now after x y z r lt p c =
      let f = inputs_at (length (s.pads).inputs) in
      let is : take k (inputs_of s) ++ f (get_or s.clocks k []) ∷ [] ≡ take (k + 1) (inputs_of s) =
      sym (one_more f k s.clocks lt) ∙ ap (λ m. take m (inputs_of s)) (let e : suc k ≡ k + 1 = omega arith in e) in
      let R : List (List ℕ) → Type 0 = λ xs. RunsAlong Steps before xs (p.shown ++ c.shown ∷ []) after in
      subst R is (runs_then before now after _ _ p.shown (c.shown ∷ []) p.runs (after, c.steps, refl))

  text_more : (s : Stimulus) (k : ℕ) (os : List (List (List Trit))) (o : List (List Trit)) → k ≡ length os
      → lines_text 0 (s.pads).outputs os ++ (line_text k (s.pads).outputs o ++ [])
      ≡ lines_text 0 (s.pads).outputs (os ++ o ∷ [])
  text_more s k os o long = sym (lines_more 0 k (s.pads).outputs os (o ∷ []) (omega (arith, long)))

  pub printed_more : {T E : Type 0} (s : Stimulus) (k : ℕ) (before now after : S) (x y z : Option (List ℕ)) (u : T)
      → k < length s.clocks → PrintedTo s k before now x y → PrintsClock {T = T} {E = E} Steps s k now after y z (Ok u)
      → PrintedTo s (k + 1) before after x z
  printed_more {T} {E} s k before now after x y z u lt so_far c =
      let line = line_text k (s.pads).outputs c.shown in
      let P : List ℕ → Type 0 = λ text. WhereTold (Gains text) x z in
      let text : lines_text 0 (s.pads).outputs so_far.shown ++ line ≡ lines_text 0 (s.pads).outputs
      (so_far.shown ++ c.shown ∷ []) =
      ap (λ t. lines_text 0 (s.pads).outputs so_far.shown ++ t) (sym (append-nil line))
      ∙ text_more s k so_far.shown c.shown so_far.long in
      record {
        shown = so_far.shown ++ c.shown ∷ [];
        runs = runs_more s k before now after x y z _ lt so_far c;
        long = omega (arith, so_far.long, length-append so_far.shown (c.shown ∷ []));
        held = subst P text (gains_twice _ _ x y z so_far.held (gained {T = T} {E = E} u y z line c.taken));
      }

  pub printed_all : {T E : Type 0} (s : Stimulus) (k : ℕ) (before now : S) (x y : Option (List ℕ)) (u : T)
      → length s.clocks ≤ k → PrintedTo s k before now x y → PrintsClocks {T = T} {E = E} Steps s before now x y (Ok u)
  printed_all {T} {E} s k before now x y u le so_far =
      let R : ℕ → Type 0 = λ n. RunsAlong Steps before (take n (inputs_of s)) so_far.shown now in
      let many = runs_long before now _ so_far.shown so_far.runs in
      let most = length-take k (inputs_of s) in
      let clocks = length-map s.clocks (inputs_at (length (s.pads).inputs)) in
      record {
        shown = so_far.shown;
        runs = subst R so_far.long so_far.runs;
        all = omega (arith, many, most, clocks, le, so_far.long);
        taken = written {T = T} {E = E} u x y (lines_text 0 (s.pads).outputs so_far.shown) so_far.held;
        lines = tt;
      }

  pub printed_cut : {T E : Type 0} (s : Stimulus) (k : ℕ) (before now after : S) (x y z : Option (List ℕ)) (e f : E)
      → k < length s.clocks → PrintedTo s k before now x y → PrintsClock {T = T} {E = E} Steps s k now after y z (Err e)
      → PrintsClocks {T = T} {E = E} Steps s before after x z (Err f)
  printed_cut {T} {E} s k before now after x y z e f lt so_far c =
      let pads = (s.pads).outputs in
      let shown = so_far.shown ++ c.shown ∷ [] in
      let long : length shown ≡ k + 1 = omega (arith, so_far.long, length-append so_far.shown (c.shown ∷ [])) in
      let R : ℕ → Type 0 = λ n. RunsAlong Steps before (take n (inputs_of s)) shown after in
      let cut =
      cut_short {T = T} {E = E} e f x y z (lines_text 0 pads so_far.shown) (line_text k pads c.shown) []
      (lines_text 0 pads shown)
      (text_more s k so_far.shown c.shown so_far.long) so_far.held c.taken in
      let n : ℕ = length shown - 1 in
      let all : n ≡ length so_far.shown = omega (arith, long, so_far.long) in
      let front : take n shown ≡ so_far.shown =
      take-append-le n so_far.shown (c.shown ∷ []) (omega (arith, all))
      ∙ take_all n so_far.shown (omega (arith, all)) in
      let L : List (List (List Trit)) → Type 0 = λ os. length (lines_text 0 pads os) ≤ (cut.0).count in
      record {
        shown = shown;
        runs = subst R (sym long) (runs_more s k before now after x y z _ lt so_far c);
        all = tt;
        taken = cut.0;
        lines = subst L (sym front) cut.1;
      }

  -- where the run can go on from where it ended, what it printed is of a transcript
  pub completes : {T E : Type 0} (s : Stimulus) (before now : S) (x y : Option (List ℕ)) (r : Result T E)
      → ((k : ℕ) → (shown : List (List (List Trit))) × (end : S) × RunsAlong Steps now (drop k (inputs_of s)) shown end)
      → PrintsClocks Steps s before now x y r → PrintsTranscript Steps s before now x y r
  completes s before now x y (Ok u) rest c =
      let R : List (List ℕ) → Type 0 = λ is. RunsAlong Steps before is c.shown now in
      let clocks = length-map s.clocks (inputs_at (length (s.pads).inputs)) in
      record {
        end = now;
        text = lines_text 0 (s.pads).outputs c.shown;
        transcript = record {
          shown = c.shown;
          runs = subst R (take_all (length c.shown) (inputs_of s) (omega (arith, c.all, clocks))) c.runs;
          lines = refl;
        };
        ends = refl;
        taken = c.taken;
      }
  completes {T} {E} s before now x y (Err f) rest c =
      let pads = (s.pads).outputs in
      let n : ℕ = length c.shown in
      let more = rest n in
      let R : List (List ℕ) → Type 0 = λ is. RunsAlong Steps before is (c.shown ++ more.0) more.1 in
      record {
        end = more.1;
        text = lines_text 0 pads (c.shown ++ more.0);
        transcript = record {
          shown = c.shown ++ more.0;
          runs =
              subst R (take-append-drop n (inputs_of s)) (runs_then before now more.1 _ _ c.shown more.0 c.runs more.2);
          lines = refl;
        };
        ends = tt;
        taken = let P : List ℕ → Type 0 = λ text. TakesAll {T = T} {E = E} Gains x y text (Err f) in
            subst P (sym (lines_more 0 n pads c.shown more.0 (omega arith)))
            (cut_before f f x y (lines_text 0 pads c.shown) (lines_text n pads more.0) c.taken);
      }

  -- the transcript of a run
  pub transcript_exists : (s : Stimulus) → StepsOn Steps (s.pads).inputs → (before : S)
      → CanStep Steps (s.pads).inputs before
      → (after : S) × (text : List ℕ) × IsTranscript Steps s before after text
  transcript_exists s on before can =
      let run = runs_exist (s.pads).inputs on before can (inputs_of s) (clocks_fit (s.pads).inputs s.clocks 0 s.fits) in
      (run.1, lines_text 0 (s.pads).outputs run.0, record { shown = run.0; runs = run.2; lines = refl })

  pub transcript_once : IsDetermined Steps → (s : Stimulus) (before v w : S) (text other : List ℕ)
      → IsTranscript Steps s before v text
      → IsTranscript Steps s before w other → (text ≡ other) × (v ≡ w)
  transcript_once one s before v w text other a b =
      let same = runs_once one before v w (inputs_of s) a.shown b.shown a.runs b.runs in
      (a.lines ∙ ap (lines_text 0 (s.pads).outputs) same.0 ∙ sym b.lines, same.1)

-- a run of one kind of device is one of another, where each step is
module _ {S U : Type 0} (Steps : S → List ℕ → List (List Trit) → S → Type 0)
    (Others : U → List ℕ → List (List Trit) → U → Type 0)
    (other : S → U) (P : S → Type 0)
    (step : (s t : S) (i : List ℕ) (o : List (List Trit)) → P s → Steps s i o t → P t × Others (other s) i o
    (other t)) where
  runs_as : (before after : S) (is : List (List ℕ)) (os : List (List (List Trit))) → P before
      → RunsAlong Steps before is os after
      → RunsAlong Others (other before) is os (other after)
  runs_as before after [] [] p h = ap other h
  runs_as before after [] (o ∷ os) p h = absurd h
  runs_as before after (i ∷ is) [] p h = absurd h
  runs_as before after (i ∷ is) (o ∷ os) p h =
      let here = step before h.0 i o p h.1 in
      (other h.0, here.1, runs_as h.0 after is os here.0 h.2)

  pub prints_as : {T E : Type 0} (s : Stimulus) (before after : S) (x y : Option (List ℕ)) (r : Result T E) → P before
      → PrintsClocks Steps s before after x y r → PrintsClocks Others s (other before) (other after) x y r
  prints_as s before after x y r p c = record {
    shown = c.shown;
    runs = runs_as before after _ c.shown p c.runs;
    all = c.all;
    taken = c.taken;
    lines = c.lines;
  }
