-- Runs of a board between its swaps, joined.
use Rattle.std.proofs.Common.{◌≡◌, ◌∙◌, ℕ, zero, suc, ◌+◌, ◌-◌, ◌<◌, ◌≤◌, List, [], ◌∷◌, ◌++◌, append-nil, append_assoc}
use Rattle.std.proofs.Common.{Option, Result, Ok, Err, length, map, refl, sym, ap, subst, arith}
use Rattle.std.specs.Prelude.{All, slice_index_or}
use Rattle.std.proofs.lemmas.List.{get_or-append-add, length-append, length-map, map-append}
use Rattle.std.proofs.lemmas.List.Elements.{All-nil, All-cons, All-head, All-tail}
use Rattle.std.proofs.Math.Seq.{get_or-append_seam}
use Rattle.mp_base.specs.declared.value.Trit.{Trit}
use Rattle.board.specs.declared.link.Link.{Link}
use Rattle.board.specs.Face.{Face}
use Rattle.board.specs.Loop.{Wired, Exchange, part_of, put_at}
use Rattle.board.specs.Printing.{PrintsClock, PrintsLoop, PrintsLoopWith}
use Rattle.board.proofs.Calls.{LoopedBy, by_all, by_none, by_run, by_swap}
use Rattle.board_run.specs.Swaps.{AreTimely}

-- the part of a link is there
pub part_there : (links : List Link) (link n : ℕ) → link < length links → All (λ (l : Link). l.part < n) links
    → part_of links link < n
part_there [] link n lt all = absurd (omega (arith, lt))
part_there (l ∷ ls) zero n lt all = All-head (λ (l : Link). l.part < n) l ls all
part_there (l ∷ ls) (suc link) n lt all =
    part_there ls link n (omega (arith, lt)) (All-tail (λ (l : Link). l.part < n) l ls all)

pub links_kept : (v w : Wired) (m n : ℕ) → v ≡ w → m ≡ n → All (λ (l : Link). l.part < n) w.links
    → All (λ (l : Link). l.part < m) v.links
links_kept v w m n same many all =
    let P : Wired → Type 0 = λ x. All (λ (l : Link). l.part < m) x.links in
    subst P (sym same) (λ k d lt. let h = all k d lt in omega (arith, h, many))

pub as_many : {P X : Type 0} (name : P → X) (xs ys : List P) → map name xs ≡ map name ys → length xs ≡ length ys
as_many name xs ys e = sym (length-map xs name) ∙ ap length e ∙ length-map ys name

-- ---- a swap among the others

pub record IsNext (links : List Link) (clocks : ℕ) (s : Exchange) (ts : List Exchange) : Type 0 where
  pub inside : s.clock < clocks
  pub linked : s.link < length links
  pub later : All (λ (t : Exchange). s.clock ≤ t.clock) (s ∷ ts)

timely_at : (links : List Link) (clocks : ℕ) (ss : List Exchange) (s : Exchange) (ts : List Exchange)
    → AreTimely links clocks (ss ++ s ∷ ts) → IsNext links clocks s ts
timely_at links clocks ss s ts timely =
    let n = length ss in
    let whole : List Exchange = ss ++ s ∷ ts in
    let many : length whole ≡ n + suc (length ts) = length-append ss (s ∷ ts) in
    let here : slice_index_or whole n s ≡ s = get_or-append_seam ss s ts s in
    record {
      inside = subst (λ (e : Exchange). e.clock < clocks) here (timely.within n s (omega (arith, many)));
      linked = subst (λ (e : Exchange). e.link < length links) here (timely.linked n s (omega (arith, many)));
      later = All-cons (λ (t : Exchange). s.clock ≤ t.clock) s ts (omega arith) (λ k d less.
          let h = timely.in_order n (n + suc k) d (omega arith) (omega (arith, many, less)) in
          let P : Exchange → Type 0 = λ e. e.clock ≤ (slice_index_or whole (n + suc k) d).clock in
          let Q : Exchange → Type 0 = λ e. s.clock ≤ e.clock in
          subst Q (get_or-append-add ss (s ∷ ts) (suc k) d) (subst P (get_or-append_seam ss s ts d) h));
    }

module _ {P : Type 0} (f : P → Exchange) (swaps ys its rest : List P) (x : P) (left : ys ++ its ≡ swaps)
    (is : its ≡ x ∷ rest) where
  split : map f swaps ≡ map f ys ++ f x ∷ map f rest
  split = sym (ap (map f) (ap (λ t. ys ++ t) (sym is) ∙ left)) ∙ map-append f ys (x ∷ rest)

  pub next_swap : (links : List Link) (clocks : ℕ) → AreTimely links clocks (map f swaps)
      → IsNext links clocks (f x) (map f rest)
  next_swap links clocks timely =
      timely_at links clocks (map f ys) (f x) (map f rest) (subst (AreTimely links clocks) split timely)

pub left_next : {P : Type 0} (swaps ys its rest : List P) (x : P) → ys ++ its ≡ swaps → its ≡ x ∷ rest
    → (ys ++ x ∷ []) ++ rest ≡ swaps
left_next swaps ys its rest x left is = append_assoc ys (x ∷ []) rest ∙ ap (λ t. ys ++ t) (sym is) ∙ left

-- no clock of those that are left is over
pub none_over : {P : Type 0} (f : P → Exchange) (its rest : List P) (x : P) (done r : ℕ) → r ≡ done
    → All (λ (s : Exchange). done ≤ s.clock) (map f its) → its ≡ x ∷ rest → r ≤ (f x).clock
none_over f its rest x done r same all is =
    let P : Exchange → Type 0 = λ s. done ≤ s.clock in
    let h : P (f x) = All-head P (f x) (map f rest) (subst (λ t. All P (map f t)) is all) in omega (arith, same, h)

pub all_later : (s : Exchange) (ts : List Exchange) (done : ℕ) → done ≡ s.clock
    → All (λ (t : Exchange). s.clock ≤ t.clock) (s ∷ ts) → All (λ (t : Exchange). done ≤ t.clock) ts
all_later s ts done same all =
    let P : Exchange → Type 0 = λ t. s.clock ≤ t.clock in
    let tail : All P ts = All-tail P s ts all in λ k d less. (let h = tail k d less in omega (arith, h, same))

-- nothing is left
pub all_made : {P : Type 0} (swaps ys its : List P) (n : ℕ) → ys ++ its ≡ swaps → n ≡ length its → n ≡ 0
    → ys ≡ swaps
all_made swaps ys [] n left many none = sym (append-nil ys) ∙ left
all_made swaps ys (x ∷ its) n left many none = absurd (omega (arith, many, none))

-- ---- runs

-- an error that is passed on
cut_as : {S U T E F : Type 0} (Steps : S → List ℕ → List (List Trit) → S → Type 0) (w : Wired) (clock : ℕ)
    (before after : S) (faces later : List Face) (x y : Option (List ℕ)) (e : E) (f : F)
    → PrintsClock {T = U} {E = E} Steps w clock before after faces later x y (Err e)
    → PrintsClock {T = T} {E = F} Steps w clock before after faces later x y (Err f)
cut_as Steps w clock before after faces later x y e f c = record {
  shown = c.shown;
  steps = c.steps;
  parts = tt;
  kept = c.kept;
  taken = record {
    count = (c.taken).count;
    within = (c.taken).within;
    all = tt;
    cut = (c.taken).cut;
    taken = (c.taken).taken;
  };
}

-- no clock was run
pub none_yet : {S : Type 0} (Steps : S → List ℕ → List (List Trit) → S → Type 0) (w : Wired) (before : S)
    (faces : List Face) (x : Option (List ℕ)) (done : ℕ) → done ≡ 0
    → LoopedBy Steps w 0 before faces x [] done before faces x
none_yet Steps w before faces x done is =
    subst (λ n. LoopedBy Steps w 0 before faces x [] n before faces x) (sym is) (by_none Steps w 0 before faces x)

-- a run up to this clock
pub ran_to : {S T E : Type 0} (Steps : S → List ℕ → List (List Trit) → S → Type 0) (v : Wired)
    (done next clocks m r : ℕ) (mid after : S) (mids later : List Face) (y z : Option (List ℕ)) (u : T) → r ≡ done
    → r ≤ m → clocks ≡ m - r → PrintsLoop {T = T} {E = E} Steps v done next clocks mid after mids later y z (Ok u)
    → next ≡ m
ran_to Steps v done next clocks m r mid after mids later y z u same le many p =
    let a = p.counted in let b = p.whole.0 in omega (arith, same, le, many, a, b)

module _ {S : Type 0} (Steps : S → List ℕ → List (List Trit) → S → Type 0) (w : Wired) (before : S)
    (faces : List Face) (x : Option (List ℕ)) (done next clocks : ℕ) (mid after : S) (mids later : List Face)
    (y z : Option (List ℕ)) where
  -- a run behind some swaps was cut short, before the clocks of those that are left
  pub cut_behind : {U T E F : Type 0} (ss ts : List Exchange) (all : ℕ) (e : E) (f : F) (r : Result T F) → r ≡ Err f
      → LoopedBy Steps w 0 before faces x ss done mid mids y
      → PrintsLoop {T = U} {E = E} Steps w done next clocks mid after mids later y z (Err e)
      → done + clocks ≤ all → All (λ (s : Exchange). done + clocks ≤ s.clock) ts
      → PrintsLoopWith (ss ++ ts) {T = T} {E = F} Steps w 0 next all before after faces later x z r
  cut_behind {U} {T} {E} {F} ss ts all e f r is so_far p within behind =
      let b =
      by_run Steps w 0 before faces x ss done next mid p.end mids later y p.told p.shown so_far p.looped p.counted in
      let lt : next < done + clocks = (let a = p.counted in let c = p.cut.0 in omega (arith, a, c)) in
      let later_ones : All (λ (s : Exchange). next < s.clock) ts =
      λ k d less. (let h = behind k d less in omega (arith, lt, h)) in
      let P : Result T F → Type 0 =
      λ q. PrintsLoopWith (ss ++ ts) {T = T} {E = F} Steps w 0 next all before after faces later x z q in
      subst P (sym is) (record {
        shown = b.shown;
        end = p.end;
        told = p.told;
        looped = record {
          loop =
              by_all Steps w 0 before faces x ss ts next p.end later b.shown b.counted later_ones (b.looped).loop;
          gained = (b.looped).gained;
        };
        counted = b.counted;
        whole = tt;
        cut = (
          (let c = b.counted in omega (arith, c, lt, within)),
          cut_as {U = U} {T = T} {E = E} {F = F} Steps w next p.end after later later p.told z e f p.cut.1,
        );
      })

  -- a run behind some swaps was whole
  pub run_behind : {T E : Type 0} (ss : List Exchange) (u : T)
      → LoopedBy Steps w 0 before faces x ss done mid mids y
      → PrintsLoop {T = T} {E = E} Steps w done next clocks mid after mids later y z (Ok u)
      → LoopedBy Steps w 0 before faces x ss next after later z
  run_behind ss u so_far p =
      let P : S → Type 0 = λ s. LoopedBy Steps w 0 before faces x ss next s later z in
      let Q : Option (List ℕ) → Type 0 = λ t. LoopedBy Steps w 0 before faces x ss next p.end later t in
      subst P (sym p.whole.1) (subst Q (sym p.whole.2)
      (by_run Steps w 0 before faces x ss done next mid p.end mids later y p.told p.shown so_far p.looped p.counted))

  -- the run behind the last swap
  pub end_behind : {T E : Type 0} (ss : List Exchange) (all : ℕ) (r : Result T E) → done + clocks ≡ all
      → LoopedBy Steps w 0 before faces x ss done mid mids y
      → PrintsLoop {T = T} {E = E} Steps w done next clocks mid after mids later y z r
      → PrintsLoopWith ss {T = T} {E = E} Steps w 0 next all before after faces later x z r
  end_behind {T} {E} ss all (Err e) many so_far p =
      let P : List Exchange → Type 0 =
      λ ss. PrintsLoopWith ss {T = T} {E = E} Steps w 0 next all before after faces later x z (Err e) in
      subst P (append-nil ss) (cut_behind {U = T} {T = T} {E = E} {F = E} ss [] all e e (Err e) refl so_far p
      (omega (arith, many)) (All-nil (λ (s : Exchange). done + clocks ≤ s.clock)))
  end_behind {T} {E} ss all (Ok u) many so_far p =
      let b = run_behind {T = T} {E = E} ss u so_far p in
      let whole = p.whole in
      record {
        shown = b.shown;
        end = after;
        told = z;
        looped = b.looped;
        counted = b.counted;
        whole = ((let c = b.counted in let a = p.counted in omega (arith, c, a, whole.0, many)), refl, refl);
        cut = tt;
      }

  -- of a board that is wired so
  rewired : {T E : Type 0} (v : Wired) (r : Result T E) → v ≡ w
      → PrintsLoop {T = T} {E = E} Steps v done next clocks mid after mids later y z r
      → PrintsLoop {T = T} {E = E} Steps w done next clocks mid after mids later y z r
  rewired {T} {E} v r same p =
      let P : Wired → Type 0 =
      λ u. PrintsLoop {T = T} {E = E} Steps u done next clocks mid after mids later y z r in subst P same p

  -- a run up to the next swap was cut short
  pub cut_turn : {P U T E F : Type 0} (f : P → Exchange) (v : Wired) (swaps ys its rest : List P) (s : P) (all r : ℕ)
      (e : E) (g : F) (q : Result T F) → q ≡ Err g → v ≡ w → ys ++ its ≡ swaps → its ≡ s ∷ rest
      → AreTimely w.links all (map f swaps) → r ≡ done → r ≤ (f s).clock → clocks ≡ (f s).clock - r
      → LoopedBy Steps w 0 before faces x (map f ys) done mid mids y
      → PrintsLoop {T = U} {E = E} Steps v done next clocks mid after mids later y z (Err e)
      → PrintsLoopWith (map f swaps) {T = T} {E = F} Steps w 0 next all before after faces later x z q
  cut_turn {P} {U} {T} {E} {F} f v swaps ys its rest s all r e g q is same left first timely now le many so_far p =
      let told = next_swap f swaps ys its rest s left first w.links all timely in
      let inside = told.inside in
      let behind : All (λ (t : Exchange). done + clocks ≤ t.clock) (f s ∷ map f rest) =
      λ k d less. (let h = told.later k d less in omega (arith, h, now, le, many)) in
      let Q : List Exchange → Type 0 =
      λ ss. PrintsLoopWith ss {T = T} {E = F} Steps w 0 next all before after faces later x z q in
      subst Q (sym (split f swaps ys its rest s left first))
      (cut_behind {U = U} {T = T} {E = E} {F = F} (map f ys) (f s ∷ map f rest) all e g q is so_far
      (rewired {T = U} {E = E} v (Err e) same p) (omega (arith, inside, now, le, many)) behind)

  -- a run up to the next swap, and the swap
  pub swap_turn : {P T E : Type 0} (f : P → Exchange) (v o : Wired) (ys : List P) (s : P) (r last : ℕ) (u : T)
      (put : List Face) → v ≡ w → o ≡ w → r ≡ done → r ≤ (f s).clock → clocks ≡ (f s).clock - r → last ≡ next
      → put ≡ put_at (f s).fresh (part_of o.links (f s).link) later
      → LoopedBy Steps w 0 before faces x (map f ys) done mid mids y
      → PrintsLoop {T = T} {E = E} Steps v done next clocks mid after mids later y z (Ok u)
      → LoopedBy Steps w 0 before faces x (map f (ys ++ s ∷ [])) last after put z
  swap_turn {P} {T} {E} f v o ys s r last u put same other now le many ends is so_far p =
      let clock : next ≡ (f s).clock =
      ran_to {T = T} {E = E} Steps v done next clocks (f s).clock r mid after mids later y z u now le many p in
      let b = run_behind {T = T} {E = E} (map f ys) u so_far (rewired {T = T} {E = E} v (Ok u) same p) in
      let Q : List Exchange → Type 0 = λ ss. LoopedBy Steps w 0 before faces x ss last after put z in
      let N : ℕ → Type 0 = λ n. LoopedBy Steps w 0 before faces x (map f ys ++ f s ∷ []) n after put z in
      subst Q (sym (map-append f ys (s ∷ []))) (subst N (sym ends)
      (by_swap Steps w 0 before faces x (map f ys) (f s) next after later put z (sym clock)
      (is ∙ ap (λ (q : Wired). put_at (f s).fresh (part_of q.links (f s).link) later) other) b))

  -- the run behind the last swap
  pub end_turn : {P T E : Type 0} (f : P → Exchange) (v : Wired) (swaps ys : List P) (all r : ℕ) (q : Result T E)
      → v ≡ w → ys ≡ swaps → r ≡ done → r ≤ all → clocks ≡ all - r
      → LoopedBy Steps w 0 before faces x (map f ys) done mid mids y
      → PrintsLoop {T = T} {E = E} Steps v done next clocks mid after mids later y z q
      → PrintsLoopWith (map f swaps) {T = T} {E = E} Steps w 0 next all before after faces later x z q
  end_turn {P} {T} {E} f v swaps ys all r q same made now le many so_far p =
      let Q : List P → Type 0 =
      λ ss. PrintsLoopWith (map f ss) {T = T} {E = E} Steps w 0 next all before after faces later x z q in
      subst Q made (end_behind {T = T} {E = E} (map f ys) all q (omega (arith, now, le, many)) so_far
      (rewired {T = T} {E = E} v q same p))
