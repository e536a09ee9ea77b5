-- Loops, clock after clock.
use Rattle.std.proofs.Common.{◌≡◌, ◌∙◌, ℕ, suc, ◌+◌, ◌<◌, ◌≤◌, List, [], ◌∷◌, ◌++◌, append_assoc, Bool, true, false}
use Rattle.std.proofs.Common.{cond, Option, Ok, Err, length, refl, sym, ap, subst, arith}
use Rattle.std.proofs.lemmas.List.{append-nil, length-append}
use Rattle.mp_base.specs.declared.value.Trit.{Trit}
use Rattle.mp_base.specs.declared.pad.Pad.{Pad}
use Rattle.outside.specs.Outside.{WhereTold, Gains}
use Rattle.outside.proofs.Told.{gains_nothing, gains_twice}
use Rattle.outside.proofs.Written.{gained}
use Rattle.stimulus.specs.Transcript.{line_text, lines_text}
use Rattle.transcript.specs.Transcript.{RunsAlong}
use Rattle.board.specs.Face.{Face}
use Rattle.board.specs.Loop.{Wired, inputs_at, is_settled, all_see, faces_after, made, inputs_with, faces_with}
use Rattle.board.specs.Loop.{inputs_along, faces_along}
use Rattle.board.specs.Printing.{PrintsClock, Looped, PrintsLoop}
use Rattle.board.specs.Laws.{LoopsAgree, SwappedLoopsAgree}

-- ---- loops that show the same in settled clocks

same_faces : (w : Wired) (clock : ℕ) (faces : List Face) (o p : List (List Trit)) (b : Bool) → is_settled w clock ≡ b
    → (b ≡ true → o ≡ p) → cond b (all_see w.links o faces) faces ≡ cond b (all_see w.links p faces) faces
same_faces w clock faces o p true e h = ap (λ x. all_see w.links x faces) (h refl)
same_faces w clock faces o p false e h = refl

pub agree_with : SwappedLoopsAgree
agree_with ss w clock faces [] [] h = (refl, refl)
agree_with ss w clock faces [] (p ∷ ps) h = absurd h
agree_with ss w clock faces (o ∷ os) [] h = absurd h
agree_with ss w clock faces (o ∷ os) (p ∷ ps) h =
    let now = made w.links ss clock faces in
    let f : faces_after w clock o now ≡ faces_after w clock p now =
    same_faces w clock now o p (is_settled w clock) refl h.0 in
    let r = agree_with ss w (suc clock) (faces_after w clock o now) os ps h.1 in (
      ap (λ is. inputs_at w clock now ∷ is) (r.0 ∙ ap (λ fs. inputs_with ss w (suc clock) fs ps) f),
      r.1 ∙ ap (λ fs. faces_with ss w (suc clock) fs ps) f,
    )

pub agree : LoopsAgree
agree = agree_with []

-- ---- one more clock

lines_more : (k n : ℕ) (pads : List Pad) (os : List (List (List Trit))) (o : List (List Trit)) → n ≡ k + length os
    → lines_text k pads (os ++ o ∷ []) ≡ lines_text k pads os ++ line_text n pads o
lines_more k n pads [] o is =
    append-nil (line_text k pads o) ∙ ap (λ m. line_text m pads o) (let e : k ≡ n = omega (arith, is) in e)
lines_more k n pads (x ∷ os) o is =
    ap (λ text. line_text k pads x ++ text) (lines_more (suc k) n pads os o (omega (arith, is)))
    ∙ sym (append_assoc (line_text k pads x) (lines_text (suc k) pads os) (line_text n pads o))

module _ (w : Wired) where
  inputs_more : (k n : ℕ) (faces : List Face) (os : List (List (List Trit))) (o : List (List Trit)) → n ≡ k + length os
      → inputs_along w k faces (os ++ o ∷ [])
      ≡ inputs_along w k faces os ++ inputs_at w n (faces_along w k faces os) ∷ []
  inputs_more k n faces [] o is = ap (λ m. inputs_at w m faces ∷ []) (let e : k ≡ n = omega (arith, is) in e)
  inputs_more k n faces (x ∷ os) o is =
      ap (λ is. inputs_at w k faces ∷ is) (inputs_more (suc k) n (faces_after w k x faces) os o (omega (arith, is)))

  faces_more : (k n : ℕ) (faces : List Face) (os : List (List (List Trit))) (o : List (List Trit)) → n ≡ k + length os
      → faces_along w k faces (os ++ o ∷ []) ≡ faces_after w n o (faces_along w k faces os)
  faces_more k n faces [] o is = ap (λ m. faces_after w m o faces) (let e : k ≡ n = omega (arith, is) in e)
  faces_more k n faces (x ∷ os) o is = faces_more (suc k) n (faces_after w k x faces) os o (omega (arith, is))

module _ {S : Type 0} (Steps : S → List ℕ → List (List Trit) → S → Type 0) where
  runs_more : (before mid after : S) (is : List (List ℕ)) (os : List (List (List Trit))) (i : List ℕ)
      (o : List (List Trit))
      → RunsAlong Steps before is os mid → Steps mid i o after
      → RunsAlong Steps before (is ++ i ∷ []) (os ++ o ∷ []) after
  runs_more before mid after [] [] i o h step =
      let P : S → Type 0 = λ s. Steps s i o after in (after, subst P h step, refl)
  runs_more before mid after [] (x ∷ os) i o h step = absurd h
  runs_more before mid after (j ∷ is) [] i o h step = absurd h
  runs_more before mid after (j ∷ is) (x ∷ os) i o h step = (h.0, h.1, runs_more h.0 mid after is os i o h.2 step)

  module _ (w : Wired) (clock : ℕ) (before : S) (faces : List Face) (x : Option (List ℕ)) where
    -- so many clocks were a loop
    pub record LoopedTo (done : ℕ) (now : S) (later : List Face) (y : Option (List ℕ)) : Type 0 where
      pub shown : List (List (List Trit))
      pub looped : Looped Steps w clock before faces shown now later x y
      pub counted : done ≡ clock + length shown

    pub looped_none : LoopedTo clock before faces x
    looped_none = record {
      shown = [];
      looped = record { loop = record { runs = refl; parts = refl }; gained = gains_nothing x };
      counted = omega arith;
    }

    pub looped_more : {T E : Type 0} (v : Wired) (done next : ℕ) (now after : S) (mid later : List Face)
        (y z : Option (List ℕ)) (u : T) → v ≡ w → next ≡ done + 1 → LoopedTo done now mid y
        → PrintsClock {T = T} {E = E} Steps v done now after mid later y z (Ok u) → LoopedTo next after later z
    looped_more {T} {E} v done next now after mid later y z u same is so_far printed =
        let C : Wired → Type 0 = λ x. PrintsClock {T = T} {E = E} Steps x done now after mid later y z (Ok u) in
        let c = subst C same printed in
        let os = so_far.shown in
        let o = c.shown in
        let loop = (so_far.looped).loop in
        let pads = (w.pads).outputs in
        let R : List (List ℕ) → Type 0 = λ is. RunsAlong Steps before is (os ++ o ∷ []) after in
        let P : List ℕ → Type 0 = λ text. WhereTold (Gains text) x z in
        let Q : List Face → Type 0 = λ fs. Steps now (inputs_at w done fs) o after in
        let steps : Steps now (inputs_at w done (faces_along w clock faces os)) o after = subst Q loop.parts c.steps in
        record {
          shown = os ++ o ∷ [];
          looped = record {
            loop = record {
              runs = subst R (sym (inputs_more w clock done faces os o so_far.counted))
                  (runs_more before now after _ os _ o loop.runs steps);
              parts = c.parts ∙ ap (faces_after w done o) loop.parts
                  ∙ sym (faces_more w clock done faces os o so_far.counted);
            };
            gained = subst P (sym (lines_more clock done pads os o so_far.counted))
                (gains_twice _ _ x y z (so_far.looped).gained
                (gained {T = T} {E = E} u y z (line_text done pads o) c.taken));
          };
          counted = omega (arith, is, so_far.counted, length-append os (o ∷ []));
        }

    -- all clocks were run
    pub loop_whole : {T E : Type 0} (done clocks k : ℕ) (now : S) (later : List Face) (y : Option (List ℕ)) (u : T)
        → done ≡ clock + k → clocks ≤ k → k ≤ clocks → LoopedTo done now later y
        → PrintsLoop {T = T} {E = E} Steps w clock done clocks before now faces later x y (Ok u)
    loop_whole done clocks k now later y u is most least so_far = record {
      shown = so_far.shown;
      end = now;
      told = y;
      looped = so_far.looped;
      counted = so_far.counted;
      whole = (omega (arith, is, most, least, so_far.counted), refl, refl);
      cut = tt;
    }

    -- the sink failed in a clock
    pub loop_cut : {T U E : Type 0} (v : Wired) (done next clocks k : ℕ) (now after : S) (mid later : List Face)
        (y z : Option (List ℕ)) (e f : E) → v ≡ w → next ≡ done → done ≡ clock + k → k < clocks
        → LoopedTo done now mid y
        → PrintsClock {T = U} {E = E} Steps v done now after mid later y z (Err e)
        → PrintsLoop {T = T} {E = E} Steps w clock next clocks before after faces later x z (Err f)
    loop_cut {T} {U} {E} v done next clocks k now after mid later y z e f same last is lt so_far printed =
        let N : ℕ → Type 0 =
        λ n. PrintsLoop {T = T} {E = E} Steps w clock n clocks before after faces later x z (Err f) in
        let C : Wired → Type 0 = λ x. PrintsClock {T = U} {E = E} Steps x done now after mid later y z (Err e) in
        let c = subst C same printed in
        let P : List Face → Type 0 = λ fs. Looped Steps w clock before faces so_far.shown now fs x y in
        subst N (sym last) (record {
          shown = so_far.shown;
          end = now;
          told = y;
          looped = subst P (sym c.kept) so_far.looped;
          counted = so_far.counted;
          whole = tt;
          cut = (
            omega (arith, is, lt, so_far.counted),
            record {
              shown = c.shown;
              steps = let Q : List Face → Type 0 = λ fs. Steps now (inputs_at w done fs) c.shown after in
                  subst Q (sym c.kept) c.steps;
              parts = tt;
              kept = refl;
              taken = record {
                count = (c.taken).count;
                within = (c.taken).within;
                all = tt;
                cut = (c.taken).cut;
                taken = (c.taken).taken;
              };
            },
          );
        })
