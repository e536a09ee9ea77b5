-- Changed run by changed run, from left to right.
use Rattle.std.proofs.Common.{ℕ, ◌≡◌, ◌+◌, ◌-◌, ◌<◌, ◌≤◌, ◌⊎◌, List, [], ◌∷◌, ◌++◌, inl, inr, refl, sym, ◌∙◌, ap, subst}
use Rattle.std.proofs.Common.{arith, length}
use Rattle.std.specs.Prelude.{All}
use Rattle.std.proofs.lemmas.Bool.{cases_lt, cases_eq}
use Rattle.std.proofs.lemmas.List.{get_or_default}
use Rattle.std.proofs.lemmas.List.Elements.{All-push, Contains-append_left, Contains-push}
use Rattle.std.proofs.lemmas.List.Quantifiers.{all_pairs_push}
use Rattle.mask_runs.specs.declared.run.Run.{Run}
use Rattle.mask_runs.specs.Runs.{IsRun}
use Rattle.mask_runs.proofs.Runs.{same_run}
use Rattle.row_windows.specs.declared.window.Window.{Window}
use Rattle.strip_rows.proofs.Turning.{same_run as one_from}
use Rattle.strip_rows.specs.Missing.{run, no_run}
use Rattle.row_windows.specs.Windows.{Touches, ChangeAt, AreFit, AreApart, TellChange}
use Rattle.row_windows.specs.Reaching.{IsLeftOf, IsRightOf, IsJoined, IsBegun, IsOpened}
use Rattle.row_windows.proofs.Cutting.{window, no_window, IsFirm}
use Rattle.row_windows.proofs.Telling.{AreWindows, tell_change}

-- the cell before has no colour and no changed run has it
pub record IsFreeBefore (colour : ℕ → ℕ) (runs : List Run) (a : ℕ) : Type 0 where
  pub blank : (c : ℕ) → c + 1 ≡ a → colour c ≡ 0
  pub free : (c : ℕ) → c + 1 ≡ a → ¬ Touches runs c

-- a run begins there, and no changed one has a cell of it nor one of the two beside it
pub record IsFreeRun (colour : ℕ → ℕ) (runs : List Run) (r : Run) : Type 0 where
  pub is : IsRun colour r
  pub free : (c : ℕ) → r.left ≤ c + 1 → c ≤ r.right → ¬ Touches runs c

pub data IsStart (colour : ℕ → ℕ) (runs : List Run) (a : ℕ) : Type 0 where
  blank_before : IsFreeBefore colour runs a → IsStart colour runs a
  run_from : (r : Run) → IsFreeRun colour runs r → r.left ≡ a → IsStart colour runs a

pub data IsStop (colour : ℕ → ℕ) (runs : List Run) (b : ℕ) : Type 0 where
  blank_after : colour b ≡ 0 → (¬ Touches runs b) → IsStop colour runs b
  run_upto : (r : Run) → IsFreeRun colour runs r → r.right ≡ b → IsStop colour runs b

-- the windows so far, and the changed runs before the n-th, which are in them or in the open window
pub record IsFinding (colour : ℕ → ℕ) (cells : ℕ) (runs : List Run) (n : ℕ) (out : List Window)
    (current : Window) : Type 0 where
  pub ahead : (k : ℕ) → n ≤ k → k < length runs → current.from ≤ (run runs k).left
  pub behind : (k : ℕ) → k < n → (run runs k).right ≤ current.to
  pub order : current.from ≤ current.to
  pub within : current.to < cells
  pub held : (k : ℕ) → k < n → (current.from ≤ (run runs k).left)
      ⊎ ((j : ℕ) × (j < length out) × ((window out j).from ≤ (run runs k).left)
      × ((run runs k).right ≤ (window out j).to))
  pub first : IsStart colour runs current.from
  pub starts : All (λ w. IsStart colour runs w.from) out
  pub stops : All (λ w. IsStop colour runs w.to) out
  pub apart : AreApart cells out
  pub before : All (λ w. w.to < current.from) out

-- no changed run has a cell between those that end by it and those that begin after it
free_at : (runs : List Run) (n c : ℕ) → ((k : ℕ) → k < n → (run runs k).right ≤ c)
    → ((k : ℕ) → n ≤ k → k < length runs → c < (run runs k).left)
    → ¬ Touches runs c
free_at runs n c h g = λ t. let a = t.from in let b = t.to in elim (cases_lt t.place n) [
  | inl l ↦ let x = h t.place l in absurd (omega arith)
  | inr l ↦ let x = g t.place l t.among in absurd (omega arith)
]

start_at : (colour : ℕ → ℕ) (runs : List Run) (n bound cell a : ℕ)
    → ((k : ℕ) → k < n → (run runs k).right ≤ bound)
    → ((k : ℕ) → n ≤ k → k < length runs → cell ≤ (run runs k).left) → (bound < a ⊎ (n ≡ 0))
    → IsLeftOf colour cell a → IsStart colour runs a
start_at colour runs n bound cell a h g low l =
    let o = l.order in
    let free = λ (c : ℕ) (x : a ≤ c + 1) (y : c < cell). free_at runs n c
    (λ k m. let z = h k m in elim low [ inl w ↦ omega arith | inr w ↦ absurd (omega arith) ])
    (λ k m p. let z = g k m p in omega arith) in
    elim l.by [
      | inl b ↦ blank_before (record { blank = b; free = λ c e. free c (omega arith) (omega arith) })
      | inr e ↦
          let q = e.left in
          let r = e.right in
          run_from e.run (record { is = e.is; free = λ c x y. free c (omega arith) (omega arith) }) e.left
    ]

stop_at : (colour : ℕ → ℕ) (runs : List Run) (n cell b : ℕ)
    → ((k : ℕ) → k < n → (run runs k).right ≤ cell)
    → ((k : ℕ) → n ≤ k → k < length runs → b < (run runs k).left) → IsRightOf colour cell b
    → IsStop colour runs b
stop_at colour runs n cell b h g r =
    let o = r.order in
    let free = λ (c : ℕ) (x : cell ≤ c) (y : c ≤ b). free_at runs n c
    (λ k m. let z = h k m in omega arith) (λ k m p. let z = g k m p in omega arith) in
    elim r.by [
      | inl z ↦ blank_after z (free b o (omega arith))
      | inr e ↦
          let q = e.left in
          let w = e.right in
          run_upto e.run (record { is = e.is; free = λ c x y. free c (omega arith) (omega arith) }) e.right
    ]

rises : (cells : ℕ) (runs : List Run) (j k : ℕ) → AreFit cells runs → j ≤ k → k < length runs
    → (run runs j).left ≤ (run runs k).left
rises cells runs j k fit l m = fit.ascending j k no_run l m

pub none_found : (colour : ℕ → ℕ) (cells : ℕ) (runs : List Run) (out : List Window) (current : Window)
    → AreFit cells runs → 0 < length runs → out ≡ []
    → IsLeftOf colour (run runs 0).left current.from → current.to ≡ (run runs 0).right
    → IsFinding colour cells runs 1 out current
none_found colour cells runs out current fit some none l e =
    let o = l.order in
    let w = fit.within 0 no_run some in
    let empty : length out ≡ 0 = ap length none in
    record {
      ahead = λ k a b. let r = rises cells runs 0 k fit (omega arith) b in omega arith;
      behind = λ k a. let z : k ≡ 0 = omega arith in let q = ap (λ j. (run runs j).right) z in omega arith;
      order = let x = fit.wide 0 no_run some in omega arith;
      within = omega arith;
      held = λ k a. let z : k ≡ 0 = omega arith in let q = ap (λ j. (run runs j).left) z in inl (omega arith);
      first = start_at colour runs 0 0 (run runs 0).left current.from (λ k a. absurd (omega arith))
          (λ k a b. rises cells runs 0 k fit (omega arith) b) (inr refl) l;
      starts = λ k d a. absurd (omega arith);
      stops = λ k d a. absurd (omega arith);
      apart = record { within = λ k d a. absurd (omega arith); ascending = λ i j d a b. absurd (omega arith) };
      before = λ k d a. absurd (omega arith);
    }

joined_more : (colour : ℕ → ℕ) (cells : ℕ) (runs : List Run) (n : ℕ) (out now : List Window)
    (current next : Window) → AreFit cells runs → n < length runs
    → IsFinding colour cells runs n out current → IsJoined current (run runs n) out now next
    → IsFinding colour cells runs (n + 1) now next
joined_more colour cells runs n out now current next fit l h j =
    let f = j.from in
    let t = j.to in
    let w = h.within in
    let v = fit.within n no_run l in
    record {
      ahead = λ k a b. let z = h.ahead k (omega arith) b in omega arith;
      behind = λ k a. elim (cases_eq k n) [
        | inl e ↦ let q = ap (λ j. (run runs j).right) e in omega arith
        | inr e ↦ let z = h.behind k (omega arith) in omega arith
      ];
      order = let x = h.order in omega arith;
      within = omega arith;
      held = λ k a. elim (cases_eq k n) [
        | inl e ↦ let z = h.ahead n (omega arith) l in let q = ap (λ j. (run runs j).left) e in
            inl (omega arith)
        | inr e ↦ elim (h.held k (omega arith)) [
          | inl z ↦ inl (omega arith)
          | inr z ↦ inr (rw j.same z)
        ]
      ];
      first = subst (IsStart colour runs) (sym j.from) h.first;
      starts = rw j.same h.starts;
      stops = rw j.same h.stops;
      apart = rw j.same h.apart;
      before = rw j.same (λ k d a. let z = h.before k d a in omega arith);
    }

-- what windows hold with the one that is added
record IsClosed (colour : ℕ → ℕ) (cells : ℕ) (runs : List Run) (n : ℕ) (out : List Window)
    (end : ℕ) : Type 0 where
  pub held : (k : ℕ) → k < n
      → (j : ℕ) × (j < length out) × ((window out j).from ≤ (run runs k).left)
      × ((run runs k).right ≤ (window out j).to)
  pub starts : All (λ w. IsStart colour runs w.from) out
  pub stops : All (λ w. IsStop colour runs w.to) out
  pub apart : AreApart cells out
  pub before : All (λ w. w.to ≤ end) out

close : (colour : ℕ → ℕ) (cells : ℕ) (runs : List Run) (n : ℕ) (out : List Window) (current : Window) (end : ℕ)
    → IsFinding colour cells runs n out current → IsRightOf colour current.to end → end < cells
    → ((k : ℕ) → n ≤ k → k < length runs → end < (run runs k).left)
    → IsClosed colour cells runs n (out ++ record { from = current.from; to = end } ∷ []) end
close colour cells runs n out current end h r m g =
    let w : Window = record { from = current.from; to = end } in
    let o = r.order in
    let u = h.order in
    record {
      held = λ k a. elim (h.held k a) [
        | inl z ↦
            let p = Contains-push out w in
            let e = get_or_default (out ++ w ∷ []) p.0 no_window w p.1 ∙ p.2 in
            let q = ap (λ (v : Window). v.from) e in
            let s = ap (λ (v : Window). v.to) e in
            let b = h.behind k a in
            (p.0, p.1, omega arith, omega arith)
        | inr z ↦
            let p = Contains-append_left out (w ∷ []) (window out z.0)
            (z.0, z.1, get_or_default out z.0 (window out z.0) no_window z.1) in
            let e = get_or_default (out ++ w ∷ []) p.0 no_window (window out z.0) p.1 ∙ p.2 in
            let q = ap (λ (v : Window). v.from) e in
            let s = ap (λ (v : Window). v.to) e in
            let a1 = z.2 in
            let a2 = z.3 in
            (p.0, p.1, omega arith, omega arith)
      ];
      starts = All-push (λ v. IsStart colour runs v.from) out w h.starts h.first;
      stops = All-push (λ v. IsStop colour runs v.to) out w h.stops
          (stop_at colour runs n current.to end h.behind g r);
      apart = record {
        within = All-push (λ v. v.to ≤ cells) out w h.apart.within (omega arith);
        ascending = all_pairs_push (λ v u. v.to < u.from) out w h.apart.ascending h.before;
      };
      before = All-push (λ v. v.to ≤ end) out w (λ k d l. let z = h.before k d l in omega arith) (omega arith);
    }

begun_more : (colour : ℕ → ℕ) (cells : ℕ) (runs : List Run) (n : ℕ) (out now : List Window)
    (current next : Window) → AreFit cells runs → n < length runs
    → IsFinding colour cells runs n out current → IsBegun colour cells current (run runs n) out now next
    → IsFinding colour cells runs (n + 1) now next
begun_more colour cells runs n out now current next fit l h b =
    let r = b.right.order in
    let f = b.left.order in
    let t = b.to in
    let a = b.apart in
    let wide = fit.wide n no_run l in
    let v = fit.within n no_run l in
    let c = close colour cells runs n out current b.end h b.right b.within
    (λ k x y. let z = rises cells runs n k fit x y in omega arith) in
    record {
      ahead = λ k x y. let z = rises cells runs n k fit (omega arith) y in omega arith;
      behind = λ k x. elim (cases_eq k n) [
        | inl e ↦ let q = ap (λ j. (run runs j).right) e in omega arith
        | inr e ↦ let z = h.behind k (omega arith) in omega arith
      ];
      order = omega arith;
      within = omega arith;
      held = λ k x. elim (cases_eq k n) [
        | inl e ↦ let q = ap (λ j. (run runs j).left) e in inl (omega arith)
        | inr e ↦ inr (rw b.added (c.held k (omega arith)))
      ];
      first = start_at colour runs n b.end (run runs n).left next.from
          (λ k x. let z = h.behind k x in omega arith)
          (λ k x y. rises cells runs n k fit x y) (inl a) b.left;
      starts = rw b.added c.starts;
      stops = rw b.added c.stops;
      apart = rw b.added c.apart;
      before = rw b.added (λ k d x. let z = c.before k d x in omega arith);
    }

pub finding_more : (colour : ℕ → ℕ) (cells : ℕ) (runs : List Run) (n : ℕ) (out now : List Window)
    (current next : Window) → AreFit cells runs → n < length runs
    → IsFinding colour cells runs n out current → IsOpened colour cells current (run runs n) out now next
    → IsFinding colour cells runs (n + 1) now next
finding_more colour cells runs n out now current next fit l h (inl j) =
    joined_more colour cells runs n out now current next fit l h j
finding_more colour cells runs n out now current next fit l h (inr b) =
    begun_more colour cells runs n out now current next fit l h b

-- a run that both rows have, since none of the changed ones changes it
free_run : (old new : ℕ → ℕ) (runs : List Run) (r : Run) → ChangeAt runs old new
    → IsFreeRun old runs r → IsRun new r
free_run old new runs r change f =
    let w = f.is.wide in
    let same = λ (c : ℕ) (a : r.left ≤ c + 1) (b : c ≤ r.right). change c (f.free c a b) in
    record {
      some = f.is.some;
      wide = w;
      each = λ c a b. sym (same c (omega arith) (omega arith)) ∙ f.is.each c a b;
      before = λ c e g. f.is.before c e (same c (omega arith) (omega arith) ∙ g);
      after = λ g. f.is.after (same r.right (omega arith) (omega arith) ∙ g);
    }

one_upto : (f : ℕ → ℕ) (p q : Run) → IsRun f p → IsRun f q → p.right ≡ q.right → p ≡ q
one_upto f p q a b e =
    let v = a.wide in
    let w = b.wide in
    let k : p.colour ≡ q.colour =
    sym (a.each (p.right - 1) (omega arith) (omega arith)) ∙ b.each (p.right - 1) (omega arith) (omega arith) in
    same_run p q (elim (cases_lt p.left q.left) [
      | inl l ↦ absurd (b.before (q.left - 1) (omega arith) (a.each (q.left - 1) (omega arith) (omega arith) ∙ k))
      | inr l ↦ elim (cases_lt q.left p.left) [
        | inl m ↦ absurd (a.before (p.left - 1) (omega arith) (b.each (p.left - 1) (omega arith) (omega arith) ∙ sym k))
        | inr m ↦ omega arith
      ]
    ]) e k

module _ (old new : ℕ → ℕ) (runs : List Run) (change : ChangeAt runs old new) where
  -- no run goes on over the left end of a run
  firm_from : (f : ℕ → ℕ) (r : Run) (a : ℕ) → IsRun f r → r.left ≡ a → IsFirm f a
  firm_from f r a is e =
      record { ends = λ c h s k. is.before c (omega arith) (k ∙ ap f (sym e) ∙ is.each r.left (omega arith) is.wide) }

  firm_upto : (f : ℕ → ℕ) (r : Run) (b : ℕ) → IsRun f r → r.right ≡ b → IsFirm f b
  firm_upto f r b is e = let w = is.wide in
      record { ends = λ c h s k. is.after (ap f e ∙ sym k ∙ is.each c (omega arith) (omega arith)) }

  firm_blank : (f : ℕ → ℕ) (a : ℕ) → ((c : ℕ) → c + 1 ≡ a → f c ≡ 0) → IsFirm f a
  firm_blank f a z = record { ends = λ c h s k. let x = z c h in absurd (omega arith) }

  firm_stop : (f : ℕ → ℕ) (b : ℕ) → f b ≡ 0 → IsFirm f b
  firm_stop f b z = record { ends = λ c h s k. absurd (omega arith) }

  start_old : (a : ℕ) → IsStart old runs a → IsFirm old a
  start_old a (blank_before p) = firm_blank old a p.blank
  start_old a (run_from r f e) = firm_from old r a f.is e

  start_new : (a : ℕ) → IsStart old runs a → IsFirm new a
  start_new a (blank_before p) = firm_blank new a (λ c e. sym (change c (p.free c e)) ∙ p.blank c e)
  start_new a (run_from r f e) = firm_from new r a (free_run old new runs r change f) e

  start_first : (a : ℕ) → IsStart old runs a → (q : Run) → IsRun new q → q.left ≡ a → (c : ℕ) → c + 1 ≡ q.left
      → 0 < new c → IsRun old q
  start_first a (blank_before p) q is e c h s =
      let z = change c (p.free c (h ∙ e)) in let b = p.blank c (h ∙ e) in absurd (omega arith)
  start_first a (run_from r f g) q is e c h s =
      subst (IsRun old) (one_from new r q (free_run old new runs r change f) is (g ∙ sym e)) f.is

  stop_old : (b : ℕ) → IsStop old runs b → IsFirm old b
  stop_old b (blank_after z n) = firm_stop old b z
  stop_old b (run_upto r f e) = firm_upto old r b f.is e

  stop_new : (b : ℕ) → IsStop old runs b → IsFirm new b
  stop_new b (blank_after z n) = firm_stop new b (sym (change b n) ∙ z)
  stop_new b (run_upto r f e) = firm_upto new r b (free_run old new runs r change f) e

  stop_last : (b : ℕ) → IsStop old runs b → (q : Run) → IsRun new q → q.right ≡ b → 0 < new q.right → IsRun old q
  stop_last b (blank_after z n) q is e s = let x = change b n in let y = ap new e in absurd (omega arith)
  stop_last b (run_upto r f g) q is e s =
      subst (IsRun old) (one_upto new r q (free_run old new runs r change f) is (g ∙ sym e)) f.is

  are_windows : (cells : ℕ) (windows : List Window) (end : ℕ)
      → IsClosed old cells runs (length runs) windows end → AreWindows old new windows
  are_windows cells windows end h = record {
    same = λ c n. change c (λ t.
        let g = h.held t.place t.among in
        let a = t.from in
        let b = t.to in
        let x = g.2 in
        let y = g.3 in
        n (record { place = g.0; among = g.1; from = omega arith; to = omega arith }));
    old_firm = record {
      from = λ k l. start_old (window windows k).from (h.starts k no_window l);
      to = λ k l. stop_old (window windows k).to (h.stops k no_window l);
    };
    new_firm = record {
      from = λ k l. start_new (window windows k).from (h.starts k no_window l);
      to = λ k l. stop_new (window windows k).to (h.stops k no_window l);
    };
    first = λ k l. start_first (window windows k).from (h.starts k no_window l);
    last = λ k l. stop_last (window windows k).to (h.stops k no_window l);
  }

-- all changed runs are in the windows with the one that is open
module _ (row : ℕ → ℕ) (cells : ℕ) (runs : List Run) (n : ℕ) (out now : List Window) (current w : Window)
    (h : IsFinding row cells runs n out current)
    (all : n ≡ length runs) (from : w.from ≡ current.from) (right : IsRightOf row current.to w.to)
    (within : w.to < cells) (added : now ≡ out ++ w ∷ []) where
  complete : IsClosed row cells runs n now w.to
  complete =
      let e : record { from = current.from; to = w.to } ≡ w = λ i. record { from = sym from i; to = w.to } in
      subst (λ v. IsClosed row cells runs n v w.to) (ap (λ (v : Window). out ++ v ∷ []) e ∙ sym added)
      (close row cells runs n out current w.to h right within (λ k a b. absurd (omega arith)))

  pub found_apart : AreApart cells now
  found_apart = complete.apart

  pub found_tell : (colour : ℕ → ℕ → ℕ) (y : ℕ) → ((c : ℕ) → colour y c ≡ row c)
      → ChangeAt runs (colour y) (colour (y + 1)) → TellChange colour y now
  found_tell colour y same change =
      let e : colour y ≡ row = λ i c. same c i in
      let c = subst (λ f. IsClosed f cells runs n now w.to) (sym e) complete in
      tell_change colour y now (are_windows (colour y) (colour (y + 1)) runs change cells now w.to
      (subst (λ m. IsClosed (colour y) cells runs m now w.to) all c))

-- where there are no changed runs nothing changes
pub nothing_apart : (cells : ℕ) (windows : List Window) → windows ≡ [] → AreApart cells windows
nothing_apart cells windows e =
    subst (AreApart cells) (sym e)
    (record { within = λ k d a. absurd (omega arith); ascending = λ i j d a b. absurd (omega arith) })

pub nothing_tells : (colour : ℕ → ℕ → ℕ) (y : ℕ) (runs : List Run) (windows : List Window)
    → length runs ≡ 0 → windows ≡ []
    → ChangeAt runs (colour y) (colour (y + 1)) → TellChange colour y windows
nothing_tells colour y runs windows none e change = subst (TellChange colour y) (sym e)
    (tell_change colour y [] (are_windows (colour y) (colour (y + 1)) runs change 0 [] 0 (record {
      held = λ k a. absurd (omega arith);
      starts = λ k d a. absurd (omega arith);
      stops = λ k d a. absurd (omega arith);
      apart = nothing_apart 0 [] refl;
      before = λ k d a. absurd (omega arith);
    })))
