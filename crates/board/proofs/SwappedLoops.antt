-- A loop with swaps and another from its end, and loops of as many clocks as are asked for.
use Rattle.std.proofs.Common.{◌≡◌, ◌∙◌, ℕ, zero, suc, ◌+◌, List, [], ◌∷◌, ◌++◌, length, refl, sym, ap, subst, arith}
use Rattle.mp_base.specs.declared.value.Trit.{Trit}
use Rattle.transcript.specs.Transcript.{RunsAlong}
use Rattle.transcript.specs.Laws.{CanStep, StepsOn}
use Rattle.transcript.proofs.Transcripts.{runs_then}
use Rattle.board.specs.Face.{Face}
use Rattle.board.specs.Loop.{Wired, Exchange, made, inputs_at, faces_after, inputs_with, faces_with, IsSwappedLoop}
use Rattle.board.specs.Laws.{InputsFit}

module _ (ss : List Exchange) (w : Wired) where
  -- the same in a clock whose swaps were made
  abbrev pub inputs_on : ℕ → List Face → List (List (List Trit)) → List (List ℕ)
  inputs_on k faces [] = []
  inputs_on k faces (o ∷ os) = inputs_at w k faces ∷ inputs_with ss w (suc k) (faces_after w k o faces) os

  abbrev pub faces_on : ℕ → List Face → List (List (List Trit)) → List Face
  faces_on k faces [] = faces
  faces_on k faces (o ∷ os) = faces_with ss w (suc k) (faces_after w k o faces) os

  inputs_made : (k : ℕ) (faces : List Face) (us : List (List (List Trit)))
      → inputs_with ss w k faces us ≡ inputs_on k (made w.links ss k faces) us
  inputs_made k faces [] = refl
  inputs_made k faces (u ∷ us) = refl

  faces_made : (k : ℕ) (faces : List Face) (us : List (List (List Trit)))
      → faces_with ss w k faces us ≡ faces_on k (made w.links ss k faces) us
  faces_made k faces [] = refl
  faces_made k faces (u ∷ us) = refl

  inputs_then : (k n : ℕ) (faces : List Face) (os us : List (List (List Trit))) → n ≡ k + length os
      → inputs_with ss w k faces (os ++ us) ≡ inputs_with ss w k faces os ++ inputs_on n (faces_with ss w k faces os) us
  inputs_then k n faces [] us is =
      inputs_made k faces us
      ∙ ap (λ m. inputs_on m (made w.links ss k faces) us) (let e : k ≡ n = omega (arith, is) in e)
  inputs_then k n faces (o ∷ os) us is =
      let now = made w.links ss k faces in
      ap (λ is. inputs_at w k now ∷ is) (inputs_then (suc k) n (faces_after w k o now) os us (omega (arith, is)))

  faces_then : (k n : ℕ) (faces : List Face) (os us : List (List (List Trit))) → n ≡ k + length os
      → faces_with ss w k faces (os ++ us) ≡ faces_on n (faces_with ss w k faces os) us
  faces_then k n faces [] us is =
      faces_made k faces us
      ∙ ap (λ m. faces_on m (made w.links ss k faces) us) (let e : k ≡ n = omega (arith, is) in e)
  faces_then k n faces (o ∷ os) us is =
      faces_then (suc k) n (faces_after w k o (made w.links ss k faces)) os us (omega (arith, is))

module _ (ss : List Exchange) {S : Type 0} (Steps : S → List ℕ → List (List Trit) → S → Type 0) (w : Wired) where
  -- a loop from a clock whose swaps were made
  pub record IsLoopOn (clock : ℕ) (before : S) (faces : List Face) (shown : List (List (List Trit))) (after : S)
      (later : List Face) : Type 0 where
    pub runs : RunsAlong Steps before (inputs_on ss w clock faces shown) shown after
    pub parts : later ≡ faces_on ss w clock faces shown

  -- a loop, and another from its end
  pub loop_then : (k n : ℕ) (before mid after : S) (faces mids later : List Face) (os us : List (List (List Trit)))
      → n ≡ k + length os → IsSwappedLoop ss Steps w k before faces os mid mids → IsLoopOn n mid mids us after later
      → IsSwappedLoop ss Steps w k before faces (os ++ us) after later
  loop_then k n before mid after faces mids later os us is a b =
      let P : List Face → Type 0 = λ fs. RunsAlong Steps mid (inputs_on ss w n fs us) us after in
      let R : List (List ℕ) → Type 0 = λ js. RunsAlong Steps before js (os ++ us) after in
      record {
        runs = subst R (sym (inputs_then ss w k n faces os us is))
            (runs_then Steps before mid after _ _ os us a.runs (subst P a.parts b.runs));
        parts = b.parts ∙ ap (λ fs. faces_on ss w n fs us) a.parts ∙ sym (faces_then ss w k n faces os us is);
      }

  -- some clocks of a loop
  pub record Loop (clock : ℕ) (before : S) (faces : List Face) (clocks : ℕ) : Type 0 where
    pub shown : List (List (List Trit))
    pub after : S
    pub later : List Face
    pub loop : IsSwappedLoop ss Steps w clock before faces shown after later
    pub many : length shown ≡ clocks

  module _ (fits : InputsFit) (on : StepsOn Steps (w.pads).inputs) where
    pub more : (clocks clock : ℕ) (before : S) (faces : List Face) → CanStep Steps (w.pads).inputs before
        → Loop clock before faces clocks
    more zero clock before faces can = record {
      shown = [];
      after = before;
      later = made w.links ss clock faces;
      loop = record { runs = refl; parts = refl };
      many = refl;
    }
    more (suc clocks) clock before faces can =
        let now = made w.links ss clock faces in
        let given = inputs_at w clock now in
        let step = can given (fits w clock now) in
        let rest = more clocks (suc clock) step.1 (faces_after w clock step.0 now)
        (on before step.1 given step.0 step.2) in
        record {
          shown = step.0 ∷ rest.shown;
          after = rest.after;
          later = rest.later;
          loop = record { runs = (step.1, step.2, (rest.loop).runs); parts = (rest.loop).parts };
          many = let e = rest.many in omega (arith, e);
        }
