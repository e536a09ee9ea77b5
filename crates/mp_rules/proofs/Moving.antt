-- At most one move is among what a form of a process does.
use Rattle.std.proofs.Common.{◌≡◌, ◌⊎◌, inl, inr, ℕ, zero, suc, ◌+◌, ◌<◌, ◌≤◌, List, [], ◌∷◌, ◌++◌, Bool, true, false}
use Rattle.std.proofs.Common.{cond, length, map, refl, sym, ◌∙◌, ap, subst, arith}
use Rattle.std.specs.Prelude.{◌==◌, Contains, slice_get, Some}
use Rattle.std.specs.List.{flat_map, AllByRecursion}
use Rattle.std.specs.List.Sorted.{IsPermutation}
use Rattle.std.proofs.lemmas.Bool.{cases_eq}
use Rattle.std.proofs.lemmas.Option.{slice_get_within}
use Rattle.std.proofs.lemmas.List.Sorted.{Contains-permutation, sum_by-IsPermutation}
use Rattle.std.proofs.lemmas.List.Sums.{sum_by-append}
use Rattle.mp_base.specs.declared.refusal.Place.{Place}
use Rattle.mp_base.proofs.Contents.{contains_head, contains_behind, holds_of_contained}
use Rattle.mp_program.specs.declared.program.FormKind.{FormKind}
use Rattle.mp_program.specs.declared.program.FormKind.TheVariants.{Set, Cond, Par, Go, Call, Return}
use Rattle.mp_program.specs.declared.program.Branch.{Branch}
use Rattle.mp_program.specs.declared.program.Form.{Form}
use Rattle.mp_program.specs.declared.program.Process.{Process}
use Rattle.mp_program.specs.declared.program.Program.{Program}
use Rattle.mp_program.specs.Values.{value_of}
use Rattle.mp_program.specs.Effects.{Effect, Writes, Goes, Calls, Returns, branch_effects, kind_effects, effects_of}
use Rattle.mp_program.specs.Sound.{IsSound, AllBetween, BranchesFit, InnerFit}
use Rattle.mp_program.specs.State.{Seat}
use Rattle.mp_program.specs.Step.{next_seat}
use Rattle.mp_base.specs.Entries.{IsAt}
use Rattle.mp_rules.specs.Moves.{is_move, moves}
use Rattle.mp_rules.specs.Rules.{E30, E32}
use Rattle.mp_rules.specs.Standing.{Under, itself, deeper, IsLater, is_transfer, sequences}
use Rattle.mp_base.proofs.Entries.{some_entry, get_from_contains, contains_from_get}
use Rattle.mp_rules.proofs.Sequences.{in_sequence, under_more}

-- ---- members of lists

body_fits : (e i n : ℕ) (bs : List Branch) (fs : List ℕ) → BranchesFit e i n bs
    → Contains (map (λ (b : Branch). b.body) bs) fs → AllBetween i n fs
body_fits e i n [] fs h (k, lt, is) = absurd (omega (arith, lt))
body_fits e i n (b ∷ bs) fs ((_, body), _) (zero, lt, is) = subst (AllBetween i n) is body
body_fits e i n (b ∷ bs) fs h (suc k, lt, is) = body_fits e i n bs fs h.1 (k, omega (arith, lt), is)

-- the forms of a sequence stand behind the form
behind : (e i n : ℕ) (kind : FormKind) (fs : List ℕ) (g : ℕ) → InnerFit e i n kind → Contains (sequences kind) fs
    → Contains fs g → (i < g) × (g < n)
behind e i n (Set x at v) fs g fit (k, lt, is) c = absurd (omega (arith, lt))
behind e i n (Cond bs) fs g fit s c = holds_of_contained (λ k. (i < k) × (k < n)) fs g (body_fits e i n bs fs fit s) c
behind e i n (Par forms) fs g fit (zero, lt, is) c = holds_of_contained (λ k. (i < k) × (k < n)) fs g
    (subst (AllBetween i n) is fit) c
behind e i n (Par forms) fs g fit (suc k, lt, is) c = absurd (omega (arith, lt))
behind e i n (Go l) fs g fit (k, lt, is) c = absurd (omega (arith, lt))
behind e i n (Call l) fs g fit (k, lt, is) c = absurd (omega (arith, lt))
behind e i n Return fs g fit (k, lt, is) c = absurd (omega (arith, lt))

-- ---- counts of moves

abbrev one_if : Bool → ℕ
one_if t = cond t 1 0

moves_append : (es fs : List Effect) → moves (es ++ fs) ≡ moves es + moves fs
moves_append es fs = sum_by-append (λ e. one_if (is_move e)) es fs

moves_cons : (e : Effect) (es : List Effect) → moves (e ∷ es) ≡ one_if (is_move e) + moves es
moves_cons e es = let h = moves_append (e ∷ []) es in omega (arith, h)

-- one of the forms moves
some_form : (e : ℕ → List Effect) (fs : List ℕ) → 0 < moves (flat_map e fs) → (g : ℕ) × Contains fs g
    × (0 < moves (e g))
some_form e [] h = absurd (omega (arith, h))
some_form e (f ∷ fs) h = by (cases_eq (moves (e f)) 0) (λ more. some_form e fs more)
  where
    by : (moves (e f) ≡ 0) ⊎ (moves (e f) ≡ 0 → ⊥) → (0 < moves (flat_map e fs) → (g : ℕ) × Contains fs g
        × (0 < moves (e g)))
        → (g : ℕ) × Contains (f ∷ fs) g × (0 < moves (e g))
    by (inl none) rest =
        let a = moves_append (e f) (flat_map e fs) in
        let (g, c, m) = rest (omega (arith, a, none, h)) in (g, contains_behind g f fs c, m)
    by (inr some) rest = (f, contains_head f fs, omega (arith, some))

none_in : (e : ℕ → List Effect) (fs : List ℕ) → ((g : ℕ) → Contains fs g → moves (e g) ≡ 0) → moves (flat_map e fs) ≡ 0
none_in e [] h = refl
none_in e (f ∷ fs) h =
    let a = moves_append (e f) (flat_map e fs) in
    let b = h f (contains_head f fs) in
    let c = none_in e fs (λ g m. h g (contains_behind g f fs m)) in
    omega (arith, a, b, c)

-- where no two forms move, there is at most one move
one_in : (e : ℕ → List Effect) (fs : List ℕ) → ((g : ℕ) → Contains fs g → moves (e g) ≤ 1)
    → ((i j g h : ℕ) → IsAt fs i g → IsAt fs j h → i < j → 0 < moves (e g) → 0 < moves (e h) → ⊥)
    → moves (flat_map e fs) ≤ 1
one_in e [] low apart = omega arith
one_in e (f ∷ fs) low apart = by (cases_eq (moves (e f)) 0)
    (one_in e fs (λ g m. low g (contains_behind g f fs m))
    (λ i j g h at_i at_j ij mg mh. apart (suc i) (suc j) g h at_i at_j (omega (arith, ij)) mg mh))
  where
    by : (moves (e f) ≡ 0) ⊎ (moves (e f) ≡ 0 → ⊥) → moves (flat_map e fs) ≤ 1 → moves (flat_map e (f ∷ fs)) ≤ 1
    by (inl none) rest = let a = moves_append (e f) (flat_map e fs) in omega (arith, a, none, rest)
    by (inr some) rest =
        let a = moves_append (e f) (flat_map e fs) in
        let b = low f (contains_head f fs) in
        let c = none_in e fs (λ g c. elim (cases_eq (moves (e g)) 0) [
          | inl none ↦ none
          | inr more ↦ let (j, at) = get_from_contains fs g c in
              absurd (apart 0 (suc j) f g refl at (omega arith) (omega (arith, some)) (omega (arith, more)))
        ]) in
        omega (arith, a, b, c)

-- ---- what a form does: nothing that moves, a move of its own, or what the forms of a sequence do

abbrev Does : (ℕ → ℕ) → FormKind → (ℕ → List Effect) → Type 0
Does v kind e = (moves (kind_effects v kind e) ≡ 0) ⊎ ((moves (kind_effects v kind e) ≡ 1) × (is_transfer kind ≡ true))
    ⊎ ((fs : List ℕ) × Contains (sequences kind) fs × (kind_effects v kind e ≡ flat_map e fs))

branches_do : (v : ℕ → ℕ) (bs : List Branch) (e : ℕ → List Effect)
    → (branch_effects v bs e ≡ []) ⊎ ((fs : List ℕ) × Contains (map (λ (b : Branch). b.body) bs) fs
    × (branch_effects v bs e ≡ flat_map e fs))
branches_do v [] e = inl refl
branches_do v (b ∷ bs) e = by (v b.guard == 1) (branches_do v bs e)
  where
    by : (t : Bool) → (branch_effects v bs e ≡ []) ⊎ ((fs : List ℕ) × Contains (map (λ (x : Branch). x.body) bs) fs
        × (branch_effects v bs e ≡ flat_map e fs))
        → (cond t (flat_map e b.body) (branch_effects v bs e) ≡ [])
        ⊎ ((fs : List ℕ) × Contains (b.body ∷ map (λ (x : Branch). x.body) bs) fs
        × (cond t (flat_map e b.body) (branch_effects v bs e) ≡ flat_map e fs))
    by true rest = inr (b.body, contains_head b.body (map (λ (x : Branch). x.body) bs), refl)
    by false (inl none) = inl none
    by false (inr (fs, c, is)) = inr (fs, contains_behind fs b.body (map (λ (x : Branch). x.body) bs) c, is)

does : (v : ℕ → ℕ) (kind : FormKind) (e : ℕ → List Effect) → Does v kind e
does v (Set x at w) e = inl refl
does v (Cond bs) e = by (branches_do v bs e)
  where
    by : (branch_effects v bs e ≡ []) ⊎ ((fs : List ℕ) × Contains (map (λ (b : Branch). b.body) bs) fs
        × (branch_effects v bs e ≡ flat_map e fs)) → Does v (Cond bs) e
    by (inl none) = inl (ap (λ es. moves es) none)
    by (inr h) = inr (inr h)
does v (Par fs) e = inr (inr (fs, contains_head fs [], refl))
does v (Go l) e = inr (inl (refl, refl))
does v (Call l) e = inr (inl (refl, refl))
does v Return e = inr (inl (refl, refl))

abbrev pub EffectsLaw : Program → Type 0
EffectsLaw p = (env : List ℕ) (f : ℕ) (x : Form) → slice_get p.forms f ≡ Some x
    → effects_of p env f ≡ kind_effects (value_of p env) x.kind (effects_of p env)

module _ (p : Program) (env : List ℕ) (sound : IsSound p) (law : EffectsLaw p) where
  -- a transfer stands in what moves
  mover : (m f : ℕ) (y : Form) → length p.forms ≤ f + m → IsAt p.forms f y → 0 < moves (effects_of p env f) → (a : ℕ)
      × (x : Form) × Under p f a × IsAt p.forms a x × (is_transfer x.kind ≡ true)
  mover zero f y le at some = absurd (let lt = slice_get_within p.forms f y at in omega (arith, le, lt))
  mover (suc m) f y le at some = by (does (value_of p env) y.kind (effects_of p env))
      (λ g z lt. mover m g z (omega (arith, le, lt)))
    where
      is : moves (effects_of p env f) ≡ moves (kind_effects (value_of p env) y.kind (effects_of p env))
      is = ap (λ es. moves es) (law env f y at)

      by : Does (value_of p env) y.kind (effects_of p env)
          → ((g : ℕ) (z : Form) → f < g → IsAt p.forms g z → 0 < moves (effects_of p env g) → (a : ℕ) × (x : Form)
          × Under p g a × IsAt p.forms a x × (is_transfer x.kind ≡ true))
          → (a : ℕ) × (x : Form) × Under p f a × IsAt p.forms a x × (is_transfer x.kind ≡ true)
      by (inl none) deep = absurd (omega (arith, is, none, some))
      by (inr (inl (one, own))) deep = (f, y, itself, at, own)
      by (inr (inr (fs, seq, same))) deep =
          let (g, c, more) = some_form (effects_of p env) fs
          (let e = ap (λ es. moves es) same in omega (arith, is, e, some)) in
          let fit = sound.forms f y at in
          let (fg, gn) = behind (length p.exprs) f (length p.forms) y.kind fs g fit seq c in
          let (z, at_g) = some_entry p.forms g gn in
          let (a, x, under, at_a, own) = deep g z fg at_g more in
          (a, x, deeper y at (in_sequence y.kind fs g seq c) under, at_a, own)

  mover_of : (f : ℕ) → f < length p.forms → 0 < moves (effects_of p env f) → (a : ℕ) × (x : Form) × Under p f a
      × IsAt p.forms a x × (is_transfer x.kind ≡ true)
  mover_of f lt some = let (y, at) = some_entry p.forms f lt in mover (length p.forms) f y (omega arith) at some

  -- where no transfer stands in a form, it moves nothing
  pub moves_none : (f : ℕ) → f < length p.forms → ((a : ℕ) (x : Form) → Under p f a → IsAt p.forms a x
      → is_transfer x.kind ≡ true → ⊥) → moves (effects_of p env f) ≡ 0
  moves_none f lt none = by (cases_eq (moves (effects_of p env f)) 0)
    where
      by : (moves (effects_of p env f) ≡ 0) ⊎ (moves (effects_of p env f) ≡ 0 → ⊥) → moves (effects_of p env f) ≡ 0
      by (inl same) = same
      by (inr some) = let (a, x, under, at, own) = mover_of f lt (omega (arith, some)) in absurd (none a x under at own)

  -- where no transfer stands behind another, a form moves once at most
  pub moves_once : (r : ℕ) → ((b : ℕ) (z : Form) → IsLater p r b z → ⊥) → (m f : ℕ) (y : Form) → length p.forms ≤ f + m
      → IsAt p.forms f y → Under p r f → moves (effects_of p env f) ≤ 1
  moves_once r apart zero f y le at under = absurd (let lt = slice_get_within p.forms f y at in omega (arith, le, lt))
  moves_once r apart (suc m) f y le at under = by (does (value_of p env) y.kind (effects_of p env))
      (λ g z lt. moves_once r apart m g z (omega (arith, le, lt)))
    where
      is : moves (effects_of p env f) ≡ moves (kind_effects (value_of p env) y.kind (effects_of p env))
      is = ap (λ es. moves es) (law env f y at)

      within : (fs : List ℕ) (g : ℕ) → Contains (sequences y.kind) fs → Contains fs g → (f < g) × (g < length p.forms)
      within fs g seq c = behind (length p.exprs) f (length p.forms) y.kind fs g
          (sound.forms f y at) seq c

      parted : (fs : List ℕ) → Contains (sequences y.kind) fs → (i j g h : ℕ) → IsAt fs i g → IsAt fs j h → i < j
          → 0 < moves (effects_of p env g) → 0 < moves (effects_of p env h) → ⊥
      parted fs seq i j g h at_i at_j ij mg mh =
          let (a, x, under_a, at_a, own_a) = mover_of g (within fs g seq (contains_from_get fs i g at_i)).1 mg in
          let (b, z, under_b, at_b, own_b) = mover_of h (within fs h seq (contains_from_get fs j h at_j)).1 mh in
          apart b z (
            f,
            y,
            x,
            fs,
            i,
            j,
            a,
            g,
            h,
            under,
            at,
            seq,
            at_i,
            at_j,
            ij,
            under_a,
            under_b,
            at_a,
            at_b,
            own_a,
            own_b,
          )

      by : Does (value_of p env) y.kind (effects_of p env)
          → ((g : ℕ) (z : Form) → f < g → IsAt p.forms g z → Under p r g → moves (effects_of p env g) ≤ 1)
          → moves (effects_of p env f) ≤ 1
      by (inl none) deep = omega (arith, is, none)
      by (inr (inl (one, own))) deep = omega (arith, is, one)
      by (inr (inr (fs, seq, same))) deep =
          let e = ap (λ es. moves es) same in
          let low = one_in (effects_of p env) fs (λ g c.
          let (fg, gn) = within fs g seq c in
          let (z, at_g) = some_entry p.forms g gn in
          deep g z fg at_g (under_more p r f g y under at (in_sequence y.kind fs g seq c))) (parted fs seq) in
          omega (arith, is, e, low)

pub one_move : (p : Program) → IsSound p → EffectsLaw p → ((at : Place) → E32 p at → ⊥)
    → (env : List ℕ) (k : ℕ) (q : Process) (f : ℕ) → IsAt p.processes k q → Contains q.forms f
    → moves (effects_of p env f) ≤ 1
one_move p sound law unbroken env k q f at root =
    let inside : f < length p.forms = holds_of_contained (λ i. i < length p.forms) q.forms f
    (holds_of_contained
    (λ (x : Process). AllByRecursion (λ i. i < length p.forms) x.forms) p.processes q sound.processes
    (contains_from_get p.processes k q at)) root in
    let (y, at_f) = some_entry p.forms f inside in
    moves_once p env sound law f (λ b z later. unbroken z.place (k, q, f, b, z, at, root, later, refl))
    (length p.forms) f y (omega arith) at_f itself

pub no_move : (p : Program) → IsSound p → EffectsLaw p → ((at : Place) → E30 p at → ⊥) → (env : List ℕ) (f : ℕ)
    → Contains p.always f → moves (effects_of p env f) ≡ 0
no_move p sound law unbroken env f root =
    moves_none p env sound law f (holds_of_contained (λ i. i < length p.forms) p.always f sound.always root)
    (λ a x under at own. unbroken x.place (a, x, (f, root, under, at), own, refl))

-- ---- seats

still_seat : (q : Process) (s : Seat) (es : List Effect) → moves es ≡ 0 → next_seat q s es ≡ next_seat q s []
still_seat q s [] none = refl
still_seat q s (Writes x v ∷ es) none = let e = moves_cons (Writes x v) es in still_seat q s es (omega (arith, e, none))
still_seat q s (Goes l ∷ es) none = absurd (let e = moves_cons (Goes l) es in omega (arith, e, none))
still_seat q s (Calls l ∷ es) none = absurd (let e = moves_cons (Calls l) es in omega (arith, e, none))
still_seat q s (Returns ∷ es) none = absurd (let e = moves_cons Returns es in omega (arith, e, none))

-- a member that moves counts
counted : (es : List Effect) (m : Effect) → Contains es m → is_move m ≡ true → 0 < moves es
counted [] m (k, lt, is) move = absurd (omega (arith, lt))
counted (e ∷ es) m (zero, lt, is) move =
    let a = moves_cons e es in
    let b : one_if (is_move e) ≡ 1 = ap (λ x. one_if (is_move x)) is ∙ ap one_if move in
    omega (arith, a, b)
counted (e ∷ es) m (suc k, lt, is) move = let a = moves_cons e es in let b = counted es m (k, omega (arith, lt), is)
    move in omega (arith, a, b)

some_move : (es : List Effect) → 0 < moves es → (m : Effect) × Contains es m × (is_move m ≡ true)
some_move [] some = absurd (omega (arith, some))
some_move (Writes x v ∷ es) some =
    let e = moves_cons (Writes x v) es in
    let (m, c, move) = some_move es (omega (arith, e, some)) in (m, contains_behind m (Writes x v) es c, move)
some_move (Goes l ∷ es) some = (Goes l, contains_head (Goes l) es, refl)
some_move (Calls l ∷ es) some = (Calls l, contains_head (Calls l) es, refl)
some_move (Returns ∷ es) some = (Returns, contains_head Returns es, refl)

-- the first of these effects moves, so that it is the one move
first_move : (e : Effect) (es : List Effect) (m : Effect) → Contains (e ∷ es) m → is_move m ≡ true → is_move e ≡ true
    → moves (e ∷ es) ≤ 1 → e ≡ m
first_move e es m (zero, lt, is) move first low = is
first_move e es m (suc k, lt, is) move first low =
    let a = moves_cons e es in
    let b : one_if (is_move e) ≡ 1 = ap one_if first in
    let c = counted es m (k, omega (arith, lt), is) move in
    absurd (omega (arith, a, b, c, low))

-- the one move tells the next seat
seat_by : (q : Process) (s : Seat) (es : List Effect) (m : Effect) → Contains es m → is_move m ≡ true → moves es ≤ 1
    → next_seat q s es ≡ next_seat q s (m ∷ [])
seat_by q s [] m (k, lt, is) move low = absurd (omega (arith, lt))
seat_by q s (Writes x v ∷ es) m (zero, lt, is) move low = absurd (let e : false ≡ true = ap is_move is ∙ move in cc)
seat_by q s (Writes x v ∷ es) m (suc k, lt, is) move low = let e = moves_cons (Writes x v) es in seat_by q s es m
    (k, omega (arith, lt), is) move (omega (arith, e, low))
seat_by q s (Goes l ∷ es) m c move low = ap (λ x. next_seat q s (x ∷ [])) (first_move (Goes l) es m c move refl low)
seat_by q s (Calls l ∷ es) m c move low = ap (λ x. next_seat q s (x ∷ [])) (first_move (Calls l) es m c move refl low)
seat_by q s (Returns ∷ es) m c move low = ap (λ x. next_seat q s (x ∷ [])) (first_move Returns es m c move refl low)

pub any_order : (q : Process) (s : Seat) (es fs : List Effect) → moves es ≤ 1 → IsPermutation es fs
    → next_seat q s es ≡ next_seat q s fs
any_order q s es fs low moved = by (cases_eq (moves es) 0)
  where
    same : moves fs ≡ moves es
    same = sum_by-IsPermutation (λ e. one_if (is_move e)) es fs moved

    by : (moves es ≡ 0) ⊎ (moves es ≡ 0 → ⊥) → next_seat q s es ≡ next_seat q s fs
    by (inl none) = still_seat q s es none ∙ sym (still_seat q s fs (same ∙ none))
    by (inr some) =
        let (m, c, move) = some_move es (omega (arith, some)) in
        seat_by q s es m c move low ∙ sym (seat_by q s fs m (Contains-permutation es fs m moved c) move
        (omega (arith, same, low)))
