-- Runs and swaps of one board, one after another, are a loop.
use Rattle.std.proofs.Common.{◌≡◌, ◌∙◌, ℕ, suc, ◌+◌, ◌<◌, ◌≤◌, List, [], ◌∷◌, ◌++◌, Bool, true, false, cond, Option}
use Rattle.std.proofs.Common.{eqb, length, refl, sym, ap, subst, arith}
use Rattle.std.specs.Prelude.{All}
use Rattle.std.proofs.lemmas.Bool.{eq-eqb, eqb-true}
use Rattle.std.proofs.lemmas.List.{length-append}
use Rattle.std.proofs.lemmas.List.Elements.{All-nil, All-cons, All-head, All-tail}
use Rattle.mp_base.specs.declared.value.Trit.{Trit}
use Rattle.outside.specs.Outside.{WhereTold, Gains}
use Rattle.outside.proofs.Told.{gains_nothing, gains_twice}
use Rattle.transcript.specs.Transcript.{RunsAlong}
use Rattle.transcript.proofs.Transcripts.{lines_more}
use Rattle.board.specs.declared.link.Link.{Link}
use Rattle.board.specs.Face.{Face}
use Rattle.board.specs.Loop.{Wired, Exchange, part_of, put_at, made, inputs_at, faces_after, inputs_with, faces_with}
use Rattle.board.specs.Loop.{IsLoop, IsSwappedLoop}
use Rattle.board.specs.Printing.{LoopedWith, Looped}
use Rattle.board.specs.Laws.{Calls, CallsLoop}
use Rattle.board.proofs.SwappedLoops.{IsLoopOn, loop_then}

-- ---- which swaps a clock makes

other : (a b : ℕ) → (a ≡ b → ⊥) → eqb a b ≡ false
other a b none = by (eqb a b) refl
  where
    by : (x : Bool) → eqb a b ≡ x → eqb a b ≡ false
    by true e = absurd (none (eqb-true a b e))
    by false e = e

module _ (links : List Link) (clock : ℕ) where
  -- one swap, or none
  abbrev put : Exchange → Bool → List Face → List Face
  put s b faces = cond b (put_at s.fresh (part_of links s.link) faces) faces

  made_none : (ss : List Exchange) (faces : List Face) → All (λ (s : Exchange). s.clock ≡ clock → ⊥) ss
      → made links ss clock faces ≡ faces
  made_none [] faces none = refl
  made_none (s ∷ ss) faces none =
      let Apart : Exchange → Type 0 = λ x. x.clock ≡ clock → ⊥ in
      ap (λ b. made links ss clock (put s b faces)) (other s.clock clock (All-head Apart s ss none))
      ∙ made_none ss faces (All-tail Apart s ss none)

  made_both : (ss ts : List Exchange) (faces : List Face)
      → made links (ss ++ ts) clock faces ≡ made links ts clock (made links ss clock faces)
  made_both [] ts faces = refl
  made_both (s ∷ ss) ts faces = made_both ss ts (put s (eqb s.clock clock) faces)

  made_one : (s : Exchange) (faces : List Face) → s.clock ≡ clock
      → made links (s ∷ []) clock faces ≡ put_at s.fresh (part_of links s.link) faces
  made_one s faces same = ap (λ b. put s b faces) (eq-eqb s.clock clock same)

none_later : (ss : List Exchange) (n k : ℕ) → n < k → All (λ (s : Exchange). s.clock ≤ n) ss
    → All (λ (s : Exchange). s.clock ≡ k → ⊥) ss
none_later ss n k lt within i d less same = let h = within i d less in omega (arith, lt, h, same)

none_before : (ss : List Exchange) (n k : ℕ) → k < n → All (λ (s : Exchange). n ≤ s.clock) ss
    → All (λ (s : Exchange). s.clock ≡ k → ⊥) ss
none_before ss n k lt within i d less same = let h = within i d less in omega (arith, lt, h, same)

module _ (w : Wired) (ss : List Exchange) where
  -- behind the last swap
  inputs_over : (n k : ℕ) (faces : List Face) (os : List (List (List Trit))) → n < k
      → All (λ (s : Exchange). s.clock ≤ n) ss → inputs_with ss w k faces os ≡ inputs_with [] w k faces os
  inputs_over n k faces [] lt within = refl
  inputs_over n k faces (o ∷ os) lt within =
      ap (λ now. inputs_at w k now ∷ inputs_with ss w (suc k) (faces_after w k o now) os)
      (made_none w.links k ss faces (none_later ss n k lt within))
      ∙ ap (λ is. inputs_at w k faces ∷ is) (inputs_over n (suc k) (faces_after w k o faces) os (omega (arith, lt)) within)

  faces_over : (n k : ℕ) (faces : List Face) (os : List (List (List Trit))) → n < k
      → All (λ (s : Exchange). s.clock ≤ n) ss → faces_with ss w k faces os ≡ faces_with [] w k faces os
  faces_over n k faces [] lt within = made_none w.links k ss faces (none_later ss n k lt within)
  faces_over n k faces (o ∷ os) lt within =
      ap (λ now. faces_with ss w (suc k) (faces_after w k o now) os)
      (made_none w.links k ss faces (none_later ss n k lt within))
      ∙ faces_over n (suc k) (faces_after w k o faces) os (omega (arith, lt)) within

  -- with more swaps, none before the end
  module _ (ts : List Exchange) where
    inputs_more : (k n : ℕ) (faces : List Face) (os : List (List (List Trit))) → n ≡ k + length os
        → All (λ (s : Exchange). n ≤ s.clock) ts → inputs_with (ss ++ ts) w k faces os ≡ inputs_with ss w k faces os
    inputs_more k n faces [] is within = refl
    inputs_more k n faces (o ∷ os) is within =
        let now = made w.links ss k faces in
        ap (λ fs. inputs_at w k fs ∷ inputs_with (ss ++ ts) w (suc k) (faces_after w k o fs) os)
        (made_both w.links k ss ts faces
        ∙ made_none w.links k ts now (none_before ts n k (omega (arith, is)) within))
        ∙ ap (λ is. inputs_at w k now ∷ is) (inputs_more (suc k) n (faces_after w k o now) os (omega (arith, is)) within)

    faces_more : (k n : ℕ) (faces : List Face) (os : List (List (List Trit))) → n ≡ k + length os
        → All (λ (s : Exchange). n ≤ s.clock) ts
        → faces_with (ss ++ ts) w k faces os ≡ made w.links ts n (faces_with ss w k faces os)
    faces_more k n faces [] is within =
        made_both w.links k ss ts faces
        ∙ ap (λ m. made w.links ts m (made w.links ss k faces)) (let e : k ≡ n = omega (arith, is) in e)
    faces_more k n faces (o ∷ os) is within =
        let now = made w.links ss k faces in
        ap (λ fs. faces_with (ss ++ ts) w (suc k) (faces_after w k o fs) os)
        (made_both w.links k ss ts faces
        ∙ made_none w.links k ts now (none_before ts n k (omega (arith, is)) within))
        ∙ faces_more (suc k) n (faces_after w k o now) os (omega (arith, is)) within

-- ---- calls

module _ {S : Type 0} (Steps : S → List ℕ → List (List Trit) → S → Type 0) (w : Wired) (clock : ℕ) (before : S)
    (faces : List Face) (old : Option (List ℕ)) where
  -- so many clocks were a loop with these swaps
  pub record LoopedBy (swaps : List Exchange) (done : ℕ) (now : S) (later : List Face) (new : Option (List ℕ)) :
      Type 0 where
    pub shown : List (List (List Trit))
    pub looped : LoopedWith swaps Steps w clock before faces shown now later old new
    pub counted : done ≡ clock + length shown
    pub within : All (λ (s : Exchange). s.clock ≤ done) swaps

  pub by_none : LoopedBy [] clock before faces old
  by_none = record {
    shown = [];
    looped = record { loop = record { runs = refl; parts = refl }; gained = gains_nothing old };
    counted = omega arith;
    within = All-nil _;
  }

  -- the loop without swaps goes on behind them
  pub goes_on : (swaps : List Exchange) (done : ℕ) (mid after : S) (mids later : List Face)
      (us : List (List (List Trit))) → All (λ (s : Exchange). s.clock ≤ done) swaps
      → IsLoop Steps w done mid mids us after later → IsLoopOn swaps Steps w done mid mids us after later
  goes_on swaps done mid after mids later [] within loop = record { runs = loop.runs; parts = loop.parts }
  goes_on swaps done mid after mids later (u ∷ us) within loop =
      let next = faces_after w done u mids in
      let P : List (List ℕ) → Type 0 = λ is. RunsAlong Steps mid (inputs_at w done mids ∷ is) (u ∷ us) after in
      record {
        runs = subst P (sym (inputs_over w swaps done (suc done) next us (omega arith) within)) loop.runs;
        parts = loop.parts ∙ sym (faces_over w swaps done (suc done) next us (omega arith) within);
      }

  pub by_run : (swaps : List Exchange) (done next : ℕ) (mid after : S) (mids later : List Face)
      (told new : Option (List ℕ)) (us : List (List (List Trit))) → LoopedBy swaps done mid mids told
      → Looped Steps w done mid mids us after later told new → next ≡ done + length us
      → LoopedBy swaps next after later new
  by_run swaps done next mid after mids later told new us so_far run many =
      let os = so_far.shown in
      let pads = (w.pads).outputs in
      let P : List ℕ → Type 0 = λ text. WhereTold (Gains text) old new in
      record {
        shown = os ++ us;
        looped = record {
          loop = loop_then swaps Steps w clock done before mid after faces mids later os us so_far.counted
              (so_far.looped).loop (goes_on swaps done mid after mids later us so_far.within run.loop);
          gained = subst P (sym (lines_more clock done pads os us so_far.counted))
              (gains_twice _ _ old told new (so_far.looped).gained run.gained);
        };
        counted = (let e = so_far.counted in let n = length-append os us in omega (arith, e, n, many));
        within = λ k d lt. (let h = so_far.within k d lt in omega (arith, h, many));
      }

  -- the swaps so far, and more that come later
  with_later : (swaps ts : List Exchange) (n : ℕ) (now : S) (later : List Face) (os : List (List (List Trit)))
      → n ≡ clock + length os → All (λ (s : Exchange). n ≤ s.clock) ts
      → IsSwappedLoop swaps Steps w clock before faces os now later
      → IsSwappedLoop (swaps ++ ts) Steps w clock before faces os now (made w.links ts n later)
  with_later swaps ts n now later os is within loop =
      let P : List (List ℕ) → Type 0 = λ is. RunsAlong Steps before is os now in
      record {
        runs = subst P (sym (inputs_more w swaps ts clock n faces os is within)) loop.runs;
        parts = ap (made w.links ts n) loop.parts ∙ sym (faces_more w swaps ts clock n faces os is within);
      }

  pub by_swap : (swaps : List Exchange) (s : Exchange) (done : ℕ) (now : S) (mids later : List Face)
      (told : Option (List ℕ)) → s.clock ≡ done → later ≡ put_at s.fresh (part_of w.links s.link) mids
      → LoopedBy swaps done now mids told → LoopedBy (swaps ++ s ∷ []) done now later told
  by_swap swaps s done now mids later told at is so_far =
      let one : All (λ (s : Exchange). done ≤ s.clock) (s ∷ []) =
      All-cons (λ (s : Exchange). done ≤ s.clock) s [] (omega (arith, at)) (All-nil _) in
      let loop = with_later swaps (s ∷ []) done now mids so_far.shown so_far.counted one (so_far.looped).loop in
      let P : List Face → Type 0 =
      λ fs. IsSwappedLoop (swaps ++ s ∷ []) Steps w clock before faces so_far.shown now fs in
      record {
        shown = so_far.shown;
        looped = record {
          loop = subst P (made_one w.links done s mids at ∙ sym is) loop;
          gained = (so_far.looped).gained;
        };
        counted = so_far.counted;
        within = All_push swaps s (λ (s : Exchange). s.clock ≤ done) so_far.within (omega (arith, at));
      }
    where
      All_push : (xs : List Exchange) (x : Exchange) (P : Exchange → Type 0) → All P xs → P x → All P (xs ++ x ∷ [])
      All_push [] x P all p = All-cons P x [] p all
      All_push (y ∷ ys) x P all p =
          All-cons P y (ys ++ x ∷ []) (All-head P y ys all) (All_push ys x P (All-tail P y ys all) p)

  -- swaps that come later change nothing so far
  pub by_all : (swaps ts : List Exchange) (done : ℕ) (now : S) (later : List Face) (os : List (List (List Trit)))
      → done ≡ clock + length os → All (λ (s : Exchange). done < s.clock) ts
      → IsSwappedLoop swaps Steps w clock before faces os now later
      → IsSwappedLoop (swaps ++ ts) Steps w clock before faces os now later
  by_all swaps ts done now later os is after loop =
      let P : List Face → Type 0 = λ fs. IsSwappedLoop (swaps ++ ts) Steps w clock before faces os now fs in
      let most : All (λ (s : Exchange). done ≤ s.clock) ts = λ k d lt. (let h = after k d lt in omega (arith, h)) in
      let none : All (λ (s : Exchange). s.clock ≡ done → ⊥) ts =
      λ k d lt same. (let h = after k d lt in omega (arith, h, same)) in
      subst P (made_none w.links done ts later none) (with_later swaps ts done now later os is most loop)

  by_calls : (swaps : List Exchange) (done : ℕ) (after : S) (later : List Face) (new : Option (List ℕ))
      → Calls Steps w clock before faces old swaps done after later new → LoopedBy swaps done after later new
  by_calls _ _ _ _ _ Calls.none = by_none
  by_calls _ _ _ _ _ (Calls.run {swaps = swaps} {mid = mid} {after = after} {mids = mids} {later = later}
      {told = told} {new = new} done next clocks u calls p) =
      let whole = p.whole in
      let P : S → Type 0 = λ s. LoopedBy swaps next s later new in
      let Q : Option (List ℕ) → Type 0 = λ t. LoopedBy swaps next p.end later t in
      subst P (sym whole.1) (subst Q (sym whole.2)
      (by_run swaps done next mid p.end mids later told p.told p.shown
      (by_calls swaps done mid mids told calls) p.looped p.counted))
  by_calls _ _ _ _ _ (Calls.swap {swaps = swaps} {done = done} {mid = mid} {mids = mids} {told = told} link fresh
      calls) =
      by_swap swaps (record { clock = done; link = link; fresh = fresh }) done mid mids
      (put_at fresh (part_of w.links link) mids) told refl refl (by_calls swaps done mid mids told calls)

pub calls_loop : {S : Type 0} (Steps : S → List ℕ → List (List Trit) → S → Type 0) → CallsLoop Steps
calls_loop Steps w clock done before after faces later old new swaps calls =
    let l = by_calls Steps w clock before faces old swaps done after later new calls in (l.shown, l.looped, l.counted)
