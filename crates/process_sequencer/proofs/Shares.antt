-- What forms pay for guards and moves.
use Rattle.std.proofs.Common.{
  ◌≡◌,
  inl,
  inr,
  ℕ,
  zero,
  suc,
  ◌+◌,
  ◌*◌,
  ◌≤◌,
  List,
  [],
  ◌∷◌,
  Bool,
  true,
  false,
  Option,
  Some,
  None,
  refl,
  ap,
  arith,
  length,
}
use Rattle.std.specs.Prelude.{◌&&◌, ◌||◌, ◌==◌, if◌then◌else◌}
use Rattle.std.specs.List.{sum_by}
use Rattle.std.proofs.lemmas.Bool.Decides.{eqb_tells}
use Rattle.std.proofs.lemmas.List.Sums.{sum_by-cons}
use Rattle.mp_base.specs.declared.refusal.Place.{Place}
use Rattle.mp_program.specs.declared.program.FormKind.{FormKind}
use Rattle.mp_program.specs.declared.program.FormKind.TheVariants.{Set, Cond, Par, Go, Call, Return}
use Rattle.mp_program.specs.declared.program.Form.{Form}
use Rattle.mp_program.specs.declared.program.Process.{Process}
use Rattle.mp_program.specs.declared.program.Program.{Program}
use Rattle.mp_program.specs.Weight.{form_weight}
use Rattle.mp_rules.specs.Standing.{is_transfer}
use Rattle.process_plan.specs.declared.enable.Enable.{Enable}
use Rattle.process_plan.specs.declared.enable.Origin.{Origin}
use Rattle.process_plan.specs.declared.enable.Origin.TheVariants.{Always, At}
use Rattle.process_plan.specs.Bill.{moves_bill}
use Rattle.process_plan.specs.Plan.{is_call, is_return}
use Rattle.process_plan.proofs.Paying.{cond_pays}
use Rattle.process_layout.specs.Counts.{
  is_go,
  is_cond,
  is_of,
  is_at,
  count_of,
  has_at,
  parted_of,
  guards_of,
  tally_of,
  tallies_of,
}

-- ---- sums over processes by their numbers

abbrev pub over : (ℕ → ℕ) → ℕ → List Process → ℕ
over f at [] = 0
over f at (q ∷ qs) = f at + over f (suc at) qs

over_within : (f g : ℕ → ℕ) → ((k : ℕ) → f k ≤ g k) → (at : ℕ) (qs : List Process) → over f at qs ≤ over g at qs
over_within f g le at [] = omega arith
over_within f g le at (q ∷ qs) = omega (arith, le at, over_within f g le (suc at) qs)

over_both : (f g : ℕ → ℕ) (at : ℕ) (qs : List Process) → over (λ k. f k + g k) at qs ≡ over f at qs + over g at qs
over_both f g at [] = refl
over_both f g at (q ∷ qs) = omega (arith, over_both f g (suc at) qs)

over_none : (f : ℕ → ℕ) (at : ℕ) (qs : List Process) → ((k : ℕ) → at ≤ k → f k ≡ 0) → over f at qs ≡ 0
over_none f at [] none = refl
over_none f at (q ∷ qs) none =
    let here = none at (omega arith) in
    let rest = over_none f (suc at) qs (λ k le. none k (omega (arith, le))) in
    omega (arith, here, rest)

-- at most one process has a number
over_one : (w j at : ℕ) (qs : List Process) → over (λ k. if j == k then w else 0) at qs ≤ w
over_one w j at [] = omega arith
over_one w j at (q ∷ qs) = elim (eqb_tells j at) [
  | inl (holds, same) ↦
      let here : (if j == at then w else 0) ≡ w = ap (λ b. if b then w else 0) holds in
      let rest = over_none (λ k. if j == k then w else 0) (suc at) qs (λ k le. later k le same) in
      omega (arith, here, rest)
  | inr (fails, other) ↦
      let here : (if j == at then w else 0) ≡ 0 = ap (λ b. if b then w else 0) fails in
      let rest = over_one w j (suc at) qs in
      omega (arith, here, rest)
]
  where
    later : (k : ℕ) → suc at ≤ k → j ≡ at → (if j == k then w else 0) ≡ 0
    later k le same = elim (eqb_tells j k) [
      | inl (holds, too) ↦ absurd (omega (arith, le, same, too))
      | inr (fails, other) ↦ ap (λ b. if b then w else 0) fails
    ]

over_origin : (w : ℕ) (o : Origin) (at : ℕ) (qs : List Process) → over (λ k. if is_of k o then w else 0) at qs ≤ w
over_origin w Always at qs = let e = over_none (λ k. 0) at qs (λ k le. refl) in omega (arith, e)
over_origin w (At j i) at qs = over_one w j at qs

-- ---- what one form pays

abbrev pub bit : Bool → ℕ
bit b = if b then 1 else 0

abbrev pub own_share : FormKind → ℕ
own_share y = 2 * (bit (is_go y) + bit (is_call y) + bit (is_return y)) + bit (is_cond y)

-- the share of process k
abbrev pub share : ℕ → List Form → List (Option Enable) → ℕ
share k ys es = 2 * (count_of is_go k ys es + count_of is_call k ys es + count_of is_return k ys es)
    + count_of is_cond k ys es

own_if : (b g c r d : Bool)
    → 2 * (bit (b && g) + bit (b && c) + bit (b && r)) + bit (b && d)
    ≡ (if b then 2 * (bit g + bit c + bit r) + bit d else 0)
own_if true g c r d = refl
own_if false g c r d = refl

share_more : (k : ℕ) (y : Form) (ys : List Form) (e : Enable) (es : List (Option Enable))
    → share k (y ∷ ys) (Some e ∷ es) ≡ (if is_of k e.origin then own_share y.kind else 0) + share k ys es
share_more k y ys e es =
    let own = own_if (is_of k e.origin) (is_go y.kind) (is_call y.kind) (is_return y.kind) (is_cond y.kind) in
    let goes = count_of is_go k ys es in
    let calls = count_of is_call k ys es in
    let backs = count_of is_return k ys es in
    let conds = count_of is_cond k ys es in
    omega (arith, own)

-- a form pays for its guards and for its share
kind_pays : (at : Place) (k : FormKind) (ys : List Form) (e : Enable) (es : List (Option Enable))
    → guards_of (record { place = at; kind = k } ∷ ys) (Some e ∷ es) + own_share k ≤ form_weight k + guards_of ys es
kind_pays at (Set x spot value) ys e es = omega arith
kind_pays at (Cond bs) ys e es = let pays = cond_pays (length bs) in omega (arith, pays)
kind_pays at (Par fs) ys e es = omega arith
kind_pays at (Go l) ys e es = omega arith
kind_pays at (Call l) ys e es = omega arith
kind_pays at Return ys e es = omega arith

shares_paid : (ys : List Form) (es : List (Option Enable)) (at : ℕ) (qs : List Process)
    → guards_of ys es + over (λ k. share k ys es) at qs ≤ sum_by (λ (f : Form). form_weight f.kind) ys
shares_paid [] es at qs = let e = over_none (λ k. share k [] es) at qs (λ k le. refl) in omega (arith, e)
shares_paid (y ∷ ys) [] at qs =
    let e = over_none (λ k. share k (y ∷ ys) []) at qs (λ k le. refl) in
    omega (arith, e)
shares_paid (y ∷ ys) (None ∷ es) at qs =
    let rest = shares_paid ys es at qs in
    let more = sum_by-cons (λ (f : Form). form_weight f.kind) y ys in
    omega (arith, rest, more)
shares_paid (y ∷ ys) (Some e ∷ es) at qs =
    let rest = shares_paid ys es at qs in
    let more = sum_by-cons (λ (f : Form). form_weight f.kind) y ys in
    let own = kind_pays y.place y.kind ys e es in
    let each = over_within (λ k. share k (y ∷ ys) (Some e ∷ es))
    (λ k. (if is_of k e.origin then own_share y.kind else 0) + share k ys es)
    (λ k. let same = share_more k y ys e es in omega (arith, same)) at qs in
    let parts = over_both (λ k. if is_of k e.origin then own_share y.kind else 0) (λ k. share k ys es) at qs in
    let one = over_origin (own_share y.kind) e.origin at qs in
    omega (arith, rest, more, own, each, parts, one)

-- ---- places with a `cond` and a move

-- how many of the first n places of process k have a `cond`
abbrev conds_to : ℕ → ℕ → List Form → List (Option Enable) → ℕ
conds_to k zero ys es = 0
conds_to k (suc n) ys es = bit (has_at is_cond k n ys es) + conds_to k n ys es

-- the same of one form
abbrev own_places : ℕ → Origin → Bool → ℕ → ℕ
own_places k o c zero = 0
own_places k o c (suc n) = bit (is_at k n o && c) + own_places k o c n

and_low : (a b : Bool) → bit (a && b) ≤ bit a
and_low true true = omega arith
and_low true false = omega arith
and_low false b = omega arith

or_low : (a b : Bool) → bit (a || b) ≤ bit a + bit b
or_low true b = omega arith
or_low false b = omega arith

parted_conds : (k n : ℕ) (ys : List Form) (es : List (Option Enable)) → parted_of k n ys es ≤ conds_to k n ys es
parted_conds k zero ys es = omega arith
parted_conds k (suc n) ys es =
    let here = and_low (has_at is_cond k n ys es) (has_at is_transfer k n ys es) in
    let rest = parted_conds k n ys es in
    omega (arith, here, rest)

elsewhere : (a b c : Bool) → b ≡ false → bit ((a && b) && c) ≡ 0
elsewhere true b c fails = ap (λ x. bit ((true && x) && c)) fails
elsewhere false b c fails = refl

of_process : (a b c : Bool) → bit ((a && b) && c) ≤ bit (a && c)
of_process true true c = omega arith
of_process true false c = omega arith
of_process false b c = omega arith

own_none : (k j h : ℕ) (c : Bool) (n : ℕ) → n ≤ h → own_places k (At j h) c n ≡ 0
own_none k j h c zero le = refl
own_none k j h c (suc n) le = elim (eqb_tells h n) [
  | inl (holds, same) ↦ absurd (omega (arith, le, same))
  | inr (fails, other) ↦
      let here = elsewhere (j == k) (h == n) c fails in
      let rest = own_none k j h c n (omega (arith, le)) in
      omega (arith, here, rest)
]

own_one : (k : ℕ) (o : Origin) (c : Bool) (n : ℕ) → own_places k o c n ≤ bit (is_of k o && c)
own_one k Always c zero = omega arith
own_one k Always c (suc n) = let rest = own_one k Always c n in omega (arith, rest)
own_one k (At j h) c zero = omega arith
own_one k (At j h) c (suc n) = elim (eqb_tells h n) [
  | inl (holds, same) ↦
      let here = of_process (j == k) (h == n) c in
      let rest = own_none k j h c n (omega (arith, same)) in
      omega (arith, here, rest)
  | inr (fails, other) ↦
      let here = elsewhere (j == k) (h == n) c fails in
      let rest = own_one k (At j h) c n in
      omega (arith, here, rest)
]

conds_in_none : (k n : ℕ) (es : List (Option Enable)) → conds_to k n [] es ≡ 0
conds_in_none k zero es = refl
conds_in_none k (suc n) es = let rest = conds_in_none k n es in omega (arith, rest)

conds_of_none : (k n : ℕ) (y : Form) (ys : List Form) → conds_to k n (y ∷ ys) [] ≡ 0
conds_of_none k zero y ys = refl
conds_of_none k (suc n) y ys = let rest = conds_of_none k n y ys in omega (arith, rest)

conds_skipped : (k n : ℕ) (y : Form) (ys : List Form) (es : List (Option Enable))
    → conds_to k n (y ∷ ys) (None ∷ es) ≡ conds_to k n ys es
conds_skipped k zero y ys es = refl
conds_skipped k (suc n) y ys es = let rest = conds_skipped k n y ys es in omega (arith, rest)

conds_more : (k n : ℕ) (y : Form) (ys : List Form) (e : Enable) (es : List (Option Enable))
    → conds_to k n (y ∷ ys) (Some e ∷ es) ≤ own_places k e.origin (is_cond y.kind) n + conds_to k n ys es
conds_more k zero y ys e es = omega arith
conds_more k (suc n) y ys e es =
    let here = or_low (is_at k n e.origin && is_cond y.kind) (has_at is_cond k n ys es) in
    let rest = conds_more k n y ys e es in
    omega (arith, here, rest)

conds_counted : (k n : ℕ) (ys : List Form) (es : List (Option Enable)) → conds_to k n ys es ≤ count_of is_cond k ys es
conds_counted k n [] es = let e = conds_in_none k n es in omega (arith, e)
conds_counted k n (y ∷ ys) [] = let e = conds_of_none k n y ys in omega (arith, e)
conds_counted k n (y ∷ ys) (None ∷ es) =
    let e = conds_skipped k n y ys es in
    let rest = conds_counted k n ys es in
    omega (arith, e, rest)
conds_counted k n (y ∷ ys) (Some e ∷ es) =
    let more = conds_more k n y ys e es in
    let own = own_one k e.origin (is_cond y.kind) n in
    let rest = conds_counted k n ys es in
    omega (arith, more, own, rest)

-- ---- the moves of all processes

moves_shared : (p : Program) (es : List (Option Enable)) (at : ℕ) (qs : List Process)
    → sum_by moves_bill (tallies_of p es at qs) ≤ over (λ k. share k p.forms es) at qs
moves_shared p es at [] = omega arith
moves_shared p es at (q ∷ qs) =
    let more = sum_by-cons moves_bill (tally_of p es at q) (tallies_of p es (suc at) qs) in
    let parted = parted_conds at (length q.forms) p.forms es in
    let conds = conds_counted at (length q.forms) p.forms es in
    let rest = moves_shared p es (suc at) qs in
    omega (arith, more, parted, conds, rest)

-- forms pay for the guards of branches and for all moves
pub moves_paid : (p : Program) (es : List (Option Enable))
    → guards_of p.forms es + sum_by moves_bill (tallies_of p es 0 p.processes)
    ≤ sum_by (λ (f : Form). form_weight f.kind) p.forms
moves_paid p es =
    let paid = shares_paid p.forms es 0 p.processes in
    let shared = moves_shared p es 0 p.processes in
    omega (arith, paid, shared)
