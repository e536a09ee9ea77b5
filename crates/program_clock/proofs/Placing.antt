-- The definitions of a kind, by their indices, and writes to each of them.
use Rattle.std.proofs.Common.{◌≡◌, ◌≢◌, ℕ, zero, suc, ◌+◌, ◌<◌, ◌≤◌, List, [], ◌∷◌, Bool, true, false, cond, refl}
use Rattle.std.proofs.Common.{sym, ◌∙◌, ap, subst, inl, inr, length, map, take, arith, get_or}
use Rattle.std.specs.Prelude.{slice_set as set, slice_get, Some, count_by}
use Rattle.std.proofs.lemmas.Bool.{cases_lt, both_ways, false≢true}
use Rattle.std.proofs.lemmas.List.{length-map, length-set, get_or-map}
use Rattle.std.proofs.lemmas.List.{get_or-set_same, get_or-set_other, get_or_read}
use Rattle.std.proofs.lemmas.List.Sums.{sum_by-cons}
use Rattle.mp_program.specs.declared.program.What.{What}
use Rattle.mp_program.specs.declared.program.Def.{Def}
use Rattle.mp_base.proofs.Entries.{read_of}
use Rattle.form_effects.specs.Linked.{indices_where}
use Rattle.program_clock.specs.Settled.{LeavesOthers}
use Rattle.program_clock.proofs.Entries.{same_element}

-- the definition at this index is of the kind, with so many of its kind before it
pub record IsNth (f : What → Bool) (defs : List Def) (k d : ℕ) : Type 0 where
  pub def : Def
  pub inside : d < length defs
  pub is : def ≡ get_or defs d def
  pub test : f def.what ≡ true
  pub number : count_by (λ (y : Def). f y.what) (take d defs) ≡ k

plus : (b : Bool) (m j : ℕ) → m ≡ j → cond b 1 0 + m ≡ cond b (suc j) j
plus true m j h = omega (arith, h)
plus false m j h = omega (arith, h)

nth_later : (f : What → Bool) (y : Def) (ys : List Def)
    → ((j : ℕ) → j < length (indices_where f ys) → IsNth f ys j (get_or (indices_where f ys) j 0))
    → (b : Bool) → f y.what ≡ b → (j : ℕ) → j < length (map suc (indices_where f ys))
    → IsNth f (y ∷ ys) (cond b (suc j) j) (get_or (map suc (indices_where f ys)) j 0)
nth_later f y ys before b e j lt =
    let is : List ℕ = indices_where f ys in
    let inside : j < length is = subst (λ n. j < n) (length-map is suc) lt in
    let one : IsNth f ys j (get_or is j 0) = before j inside in
    subst (IsNth f (y ∷ ys) (cond b (suc j) j)) (sym (get_or-map suc is j 0 0 inside)) (record {
      def = one.def;
      inside = omega (arith, one.inside);
      is = one.is;
      test = one.test;
      number = sum_by-cons (λ (z : Def). cond (f z.what) 1 0) y (take (get_or is j 0) ys)
          ∙ ap (λ c. cond c 1 0 + count_by (λ (z : Def). f z.what) (take (get_or is j 0) ys)) e
          ∙ plus b _ _ one.number;
    })

nth_by : (f : What → Bool) (y : Def) (ys : List Def)
    → ((j : ℕ) → j < length (indices_where f ys) → IsNth f ys j (get_or (indices_where f ys) j 0))
    → (b : Bool) → f y.what ≡ b → (k : ℕ)
    → k < length (cond b (0 ∷ map suc (indices_where f ys)) (map suc (indices_where f ys)))
    → IsNth f (y ∷ ys) k (get_or (cond b (0 ∷ map suc (indices_where f ys)) (map suc (indices_where f ys))) k 0)
nth_by f y ys before true e zero lt = record { def = y; inside = omega arith; is = refl; test = e; number = refl }
nth_by f y ys before true e (suc k) lt = nth_later f y ys before true e k (omega (arith, lt))
nth_by f y ys before false e k lt = nth_later f y ys before false e k lt

pub nth : (f : What → Bool) (defs : List Def) (k : ℕ) → k < length (indices_where f defs)
    → IsNth f defs k (get_or (indices_where f defs) k 0)
nth f [] k lt = absurd (omega (arith, lt))
nth f (y ∷ ys) k lt = nth_by f y ys (nth f ys) (f y.what) refl k lt

-- a definition of the kind has its place among the indices
abbrev Found : List ℕ → ℕ → Type 0
Found is d = (k : ℕ) × (k < length is) × (get_or is k 0 ≡ d)

found_first : (b : Bool) (is : List ℕ) → b ≡ true → Found (cond b (0 ∷ is) is) 0
found_first true is e = (0, omega arith, refl)
found_first false is e = absurd (false≢true e)

found_behind : (b : Bool) (is : List ℕ) (d : ℕ) → Found is d → Found (cond b (0 ∷ map suc is) (map suc is)) (suc d)
found_behind true is d (k, lt, e) =
    let long = length-map is suc in (suc k, omega (arith, lt, long), get_or-map suc is k 0 0 lt ∙ ap suc e)
found_behind false is d (k, lt, e) =
    let long = length-map is suc in (k, omega (arith, lt, long), get_or-map suc is k 0 0 lt ∙ ap suc e)

found : (f : What → Bool) (defs : List Def) (d : ℕ) (x : Def) → d < length defs → x ≡ get_or defs d x
    → f x.what ≡ true → Found (indices_where f defs) d
found f [] d x lt is test = absurd (omega (arith, lt))
found f (y ∷ ys) zero x lt is test =
    found_first (f y.what) (map suc (indices_where f ys)) (ap (λ (z : Def). f z.what) (sym is) ∙ test)
found f (y ∷ ys) (suc d) x lt is test =
    found_behind (f y.what) (indices_where f ys) d (found f ys d x (omega (arith, lt)) is test)

-- the entry of a list of the indices is one
pub place_of : (f : What → Bool) (defs : List Def) (list : List ℕ) (k place : ℕ) → list ≡ indices_where f defs
    → k < length list → place ≡ get_or list k place → place ≡ get_or (indices_where f defs) k 0
place_of f defs list k place is lt at = get_or_read list k place lt at 0 ∙ ap (λ zs. get_or zs k 0) is

pub nth_of : (f : What → Bool) (defs : List Def) (list : List ℕ) (k place : ℕ) → list ≡ indices_where f defs
    → k < length list → place ≡ get_or list k place → IsNth f defs k place
nth_of f defs list k place is lt at =
    subst (IsNth f defs k) (sym (place_of f defs list k place is lt at))
    (nth f defs k (subst (λ zs. k < length zs) is lt))

-- what was written to the first k of a kind
pub record WrittenTo (f : What → Bool) (defs : List Def) (now old : List ℕ) (value : ℕ → ℕ) (k : ℕ) : Type 0 where
  pub size : length now ≡ length defs
  pub done : (j : ℕ) → j < k → j < length (indices_where f defs)
      → get_or now (get_or (indices_where f defs) j 0) 0 ≡ value j
  pub rest : (j : ℕ) → k ≤ j → j < length (indices_where f defs)
      → get_or now (get_or (indices_where f defs) j 0) 0 ≡ get_or old (get_or (indices_where f defs) j 0) 0
  pub others : LeavesOthers f defs old now

module _ (f : What → Bool) (defs : List Def) (old : List ℕ) (value : ℕ → ℕ) where
  pub written_none : length old ≡ length defs → WrittenTo f defs old old value 0
  written_none size = record {
    size = size;
    done = λ j lt within. absurd (omega (arith, lt));
    rest = λ j le within. refl;
    others = λ d x at other. refl;
  }

  -- no two have the same place
  once : (j k : ℕ) → j < length (indices_where f defs) → k < length (indices_where f defs)
      → get_or (indices_where f defs) j 0 ≡ get_or (indices_where f defs) k 0 → j ≡ k
  once j k jn kn e =
      sym ((nth f defs j jn).number) ∙ ap (λ d. count_by (λ (y : Def). f y.what) (take d defs)) e
      ∙ (nth f defs k kn).number

  written_next : (now : List ℕ) (k v : ℕ) → k < length (indices_where f defs) → v ≡ value k
      → WrittenTo f defs now old value k
      → WrittenTo f defs (set now (get_or (indices_where f defs) k 0) v) old value (k + 1)
  written_next now k v lt is so_far =
      let place : ℕ = get_or (indices_where f defs) k 0 in
      let one = nth f defs k lt in
      let fits : place < length now = subst (λ n. place < n) (sym so_far.size) one.inside in
      record {
        size = length-set now place v ∙ so_far.size;
        done = λ j jk within. elim (cases_lt j k) [
          | inl less ↦
              let apart : get_or (indices_where f defs) j 0 ≢ place = λ e.
              let same = once j k within lt e in omega (arith, less, same) in
              get_or-set_other now place (get_or (indices_where f defs) j 0) v 0 apart ∙ so_far.done j less within
          | inr from ↦
              let e : k ≡ j = omega (arith, from, jk) in
              ap (λ i. get_or (set now place v) (get_or (indices_where f defs) i 0) 0) (sym e)
              ∙ get_or-set_same now place v 0 fits ∙ is ∙ ap value e
        ];
        rest = λ j kj within.
            let apart : get_or (indices_where f defs) j 0 ≢ place = λ e.
            let same = once j k within lt e in omega (arith, kj, same) in
            get_or-set_other now place (get_or (indices_where f defs) j 0) v 0 apart
            ∙ so_far.rest j (omega (arith, kj)) within;
        others = λ d x at other. let (inside, here) = read_of defs d x at in
            let apart : d ≢ place = λ e.
            let same : x ≡ one.def =
            same_element defs d x one.def inside here (one.is ∙ ap (λ i. get_or defs i one.def) (sym e)) in
            both_ways (f x.what) other (ap (λ (z : Def). f z.what) same ∙ one.test) in
            get_or-set_other now place d v 0 apart ∙ so_far.others d x at other;
      }

  -- with one write more
  pub written_more : (list now : List ℕ) (k place v : ℕ) → list ≡ indices_where f defs → k < length list
      → place ≡ get_or list k place → v ≡ value k → WrittenTo f defs now old value k
      → WrittenTo f defs (set now place v) old value (k + 1)
  written_more list now k place v is lt at value_is so_far =
      subst (λ i. WrittenTo f defs (set now i v) old value (k + 1)) (sym (place_of f defs list k place is lt at))
      (written_next now k v (subst (λ zs. k < length zs) is lt) value_is so_far)

  -- where all are written, each has its value
  pub written_all : (list now : List ℕ) (k : ℕ) → list ≡ indices_where f defs → length list ≤ k
      → WrittenTo f defs now old value k
      → (d : ℕ) (x : Def) → slice_get defs d ≡ Some x → f x.what ≡ true
      → (j : ℕ) × (get_or (indices_where f defs) j 0 ≡ d)
      × (count_by (λ (y : Def). f y.what) (take d defs) ≡ j) × (get_or now d 0 ≡ value j)
  written_all list now k are over so_far d x here test =
      let (inside, is) = read_of defs d x here in
      let at = found f defs d x inside is test in
      let end : length (indices_where f defs) ≤ k = subst (λ zs. length zs ≤ k) are over in (
        at.0,
        at.2,
        ap (λ i. count_by (λ (y : Def). f y.what) (take i defs)) (sym at.2) ∙ (nth f defs at.0 at.1).number,
        ap (λ i. get_or now i 0) (sym at.2) ∙ so_far.done at.0 (omega (arith, end, at.1)) at.1,
      )
