-- The moves of a program, and how many there are.
use Rattle.std.proofs.Common.{
  ◌≡◌,
  inl,
  inr,
  ◌∙◌,
  ℕ,
  zero,
  suc,
  ◌+◌,
  ◌≤◌,
  List,
  [],
  ◌∷◌,
  Bool,
  true,
  false,
  cond,
  Option,
  Some,
  None,
  refl,
  sym,
  ap,
  subst,
  arith,
  length,
  map,
  filter,
  count_by,
}
use Rattle.std.specs.Prelude.{Contains, option_map, option_to_list, ◌↔◌, ◌&&◌, ◌==◌}
use Rattle.std.specs.List.{sum_by}
use Rattle.std.proofs.lemmas.Bool.{eqb-true, eq-eqb, ne_eqb, or_left, or_right, and_from}
use Rattle.std.proofs.lemmas.List.Elements.{Contains-append_left, Contains-append_right, Contains-append_cases}
use Rattle.std.proofs.lemmas.List.Sums.{sum_by-cons, sum_by-append}
use Rattle.mp_base.proofs.Contents.{nothing_in, only_one, contains_from_map, contains_filter}
use Rattle.mp_base.proofs.Contents.{contains_from_filter, contains_map}
use Rattle.mp_base.proofs.Induction.{by_test}
use Rattle.std.proofs.lemmas.Option.{same_Some, none-some}
use Rattle.mp_base.proofs.Tests.{and_left, and_right}
use Rattle.mp_program.specs.declared.program.FormKind.{FormKind}
use Rattle.mp_program.specs.declared.program.FormKind.TheVariants as forms
use Rattle.mp_program.specs.declared.program.Form.{Form}
use Rattle.mp_program.specs.declared.program.Program.{Program}
use Rattle.mp_base.specs.Entries.{IsAt}
use Rattle.mp_rules.specs.Standing.{is_transfer}
use Rattle.process_plan.specs.declared.enable.Enable.{Enable}
use Rattle.process_plan.specs.declared.enable.Origin.{Origin}
use Rattle.process_plan.specs.declared.enable.Origin.TheVariants.{Always, At}
use Rattle.process_plan.specs.Enables.{HasEnable}
use Rattle.process_plan.specs.Plan.{is_call, is_return, IsMoveEnable, AreMovesAt}
use Rattle.process_layout.specs.Counts.{is_go, is_of, is_at, count_of, has_at}
use Rattle.process_layout.proofs.Origins.{own_origin}
use Rattle.process_jumps.specs.declared.moves.MoveKind.{MoveKind}
use Rattle.process_jumps.specs.declared.moves.MoveKind.TheVariants.{Go, Call, Return}
use Rattle.process_jumps.specs.declared.moves.Move.{Move}
use Rattle.process_jumps.specs.declared.moves.Group.{Group}
use Rattle.process_jumps.specs.declared.moves.Group.TheVariants.{Calls, Returns, Inside}
use Rattle.process_jumps.specs.Moves.{move_kind, move_of, moves_in, is_a_call, is_a_return, picks, picked}
use Rattle.process_jumps.specs.Jumps.{inside_to}

-- ---- tests

origin_is : (k i : ℕ) (o : Origin) → is_at k i o ≡ true → o ≡ At k i
origin_is k i Always h = absurd (cc)
origin_is k i (At j h) e =
    ap (λ n. At n h) (eqb-true j k (and_left (j == k) (h == i) e))
    ∙ ap (At k) (eqb-true h i (and_right (j == k) (h == i) e))

there_of : (k i : ℕ) → is_of k (At k i) ≡ true
there_of k i = eq-eqb k k refl

there_at : (k i : ℕ) → is_at k i (At k i) ≡ true
there_at k i = and_from (k == k) (i == i) (eq-eqb k k refl) (eq-eqb i i refl)

-- ---- members

moves_from : (kind : FormKind) (x : Option Enable) (m : Move) → Contains (option_to_list (move_of kind x)) m
    → (x ≡ Some m.enable) × (move_kind kind ≡ Some m.kind)
moves_from kind None m c = absurd (nothing_in m c)
moves_from kind (Some e) m c = pick (move_kind kind) c
  where
    pick : (o : Option MoveKind)
        → Contains (option_to_list (option_map (λ (k : MoveKind). record { kind = k; enable = e }) o)) m
        → (Some e ≡ Some m.enable) × (o ≡ Some m.kind)
    pick None c = absurd (nothing_in m c)
    pick (Some k) c =
        let same : record { kind = k; enable = e } ≡ m = only_one (record { kind = k; enable = e }) m c in
        (ap (λ (z : Move). Some z.enable) same, ap (λ (z : Move). Some z.kind) same)

moves_at : (ys : List Form) (xs : List (Option Enable)) (m : Move) → Contains (moves_in ys xs) m
    → (f : ℕ) × (y : Form) × IsAt ys f y × IsAt xs f (Some m.enable) × (move_kind y.kind ≡ Some m.kind)
moves_at [] xs m c = absurd (nothing_in m c)
moves_at (y ∷ ys) [] m c = absurd (nothing_in m c)
moves_at (y ∷ ys) (x ∷ xs) m c =
    elim (Contains-append_cases (option_to_list (move_of y.kind x)) (moves_in ys xs) m c) as
    (λ _. (f : ℕ) × (z : Form) × IsAt (y ∷ ys) f z × IsAt (x ∷ xs) f (Some m.enable)
    × (move_kind z.kind ≡ Some m.kind)) [
      | inl first ↦
          let (is, kind) = moves_from y.kind x m first in
          (0, y, refl, ap Some is, kind)
      | inr rest ↦
          let (f, z, at_z, at_x, kind) = moves_at ys xs m rest in (suc f, z, at_z, at_x, kind)
    ]

abbrev with_kind : Enable → Option MoveKind → Option Move
with_kind x o = option_map (λ (n : MoveKind). record { kind = n; enable = x }) o

at_moves : (ys : List Form) (xs : List (Option Enable)) (f : ℕ) (y : Form) (x : Enable) (k : MoveKind) → IsAt ys f y
    → IsAt xs f (Some x) → move_kind y.kind ≡ Some k → Contains (moves_in ys xs) (record { kind = k; enable = x })
at_moves [] xs f y x k at_y at_x kind = absurd (none-some y at_y)
at_moves (z ∷ ys) [] f y x k at_y at_x kind = absurd (none-some (Some x) at_x)
at_moves (z ∷ ys) (w ∷ xs) zero y x k at_y at_x kind =
    Contains-append_left (option_to_list (move_of z.kind w)) (moves_in ys xs) (record { kind = k; enable = x })
    (subst (λ (v : Form). Contains {X = Move} (option_to_list (move_of v.kind w)) (record { kind = k; enable = x }))
    (sym (same_Some z y at_y))
    (subst (λ o. Contains {X = Move} (option_to_list (move_of y.kind o)) (record { kind = k; enable = x }))
    (sym (same_Some w (Some x) at_x))
    (subst (λ o. Contains {X = Move} (option_to_list (with_kind x o)) (record { kind = k; enable = x })) (sym kind)
    (0, omega arith, refl))))
at_moves (z ∷ ys) (w ∷ xs) (suc f) y x k at_y at_x kind =
    Contains-append_right (option_to_list (move_of z.kind w)) (moves_in ys xs) (record { kind = k; enable = x })
    (at_moves ys xs f y x k at_y at_x kind)

enable_is : (x : Enable) (o : Origin) (a : ℕ) → x.origin ≡ o → x.expr ≡ a → x ≡ record { origin = o; expr = a }
enable_is x o a h g =
    ap (λ (u : Origin). record { origin = u; expr = x.expr }) h
    ∙ ap (λ (n : ℕ). record { origin = o; expr = n }) g

-- what is picked is the enable of a move of the group
picked_from : (g : Group) (ys : List Form) (xs : List (Option Enable)) (a : ℕ) → Contains (picked g (moves_in ys xs)) a
    → (f : ℕ) × (y : Form) × (m : Move) × IsAt ys f y × IsAt xs f (Some m.enable) × (move_kind y.kind ≡ Some m.kind)
    × (picks g m ≡ true) × ((m.enable).expr ≡ a)
picked_from g ys xs a c =
    let (m, cm, is) = contains_from_map (λ (z : Move). (z.enable).expr) (filter (picks g) (moves_in ys xs)) a c in
    let (cm2, pick) = contains_from_filter (picks g) (moves_in ys xs) m cm in
    let (f, y, at_y, at_x, kind) = moves_at ys xs m cm2 in (f, y, m, at_y, at_x, kind, pick, is)

picked_in : (g : Group) (ys : List Form) (xs : List (Option Enable)) (f : ℕ) (y : Form) (x : Enable) (k : MoveKind)
    → IsAt ys f y → IsAt xs f (Some x) → move_kind y.kind ≡ Some k → picks g (record { kind = k; enable = x }) ≡ true
    → Contains (picked g (moves_in ys xs)) x.expr
picked_in g ys xs f y x k at_y at_x kind pick =
    contains_map (λ (z : Move). (z.enable).expr) (filter (picks g) (moves_in ys xs)) (record { kind = k; enable = x })
    (contains_filter (picks g) (moves_in ys xs) (record { kind = k; enable = x })
    (at_moves ys xs f y x k at_y at_x kind)
    pick)

-- ---- kinds

kind_moves : (k : FormKind) (m : MoveKind) → move_kind k ≡ Some m → is_transfer k ≡ true
kind_moves (forms.Go l) m h = refl
kind_moves (forms.Call l) m h = refl
kind_moves forms.Return m h = refl
kind_moves (forms.Set x at v) m h = absurd (cc)
kind_moves (forms.Cond bs) m h = absurd (cc)
kind_moves (forms.Par fs) m h = absurd (cc)

moves_kind : (k : FormKind) → is_transfer k ≡ true → (m : MoveKind) × (move_kind k ≡ Some m)
moves_kind (forms.Go l) h = (Go, refl)
moves_kind (forms.Call l) h = (Call, refl)
moves_kind forms.Return h = (Return, refl)
moves_kind (forms.Set x at v) h = absurd (cc)
moves_kind (forms.Cond bs) h = absurd (cc)
moves_kind (forms.Par fs) h = absurd (cc)

kind_of : {k m : MoveKind} → Some k ≡ Some m → k ≡ m
kind_of {k} {m} h = same_Some k m h

kind_calls : (k : FormKind) (m : MoveKind) → move_kind k ≡ Some m → is_a_call m ≡ true → is_call k ≡ true
kind_calls (forms.Call l) m h e = refl
kind_calls (forms.Go l) m h e =
    let same : Some Go ≡ Some m = h in
    let clash : is_a_call Go ≡ true = ap is_a_call (kind_of same) ∙ e in absurd (cc)
kind_calls forms.Return m h e =
    let same : Some Return ≡ Some m = h in
    let clash : is_a_call Return ≡ true = ap is_a_call (kind_of same) ∙ e in absurd (cc)
kind_calls (forms.Set x at v) m h e = absurd (cc)
kind_calls (forms.Cond bs) m h e = absurd (cc)
kind_calls (forms.Par fs) m h e = absurd (cc)

kind_returns : (k : FormKind) (m : MoveKind) → move_kind k ≡ Some m → is_a_return m ≡ true → is_return k ≡ true
kind_returns forms.Return m h e = refl
kind_returns (forms.Go l) m h e =
    let same : Some Go ≡ Some m = h in
    let clash : is_a_return Go ≡ true = ap is_a_return (kind_of same) ∙ e in absurd (cc)
kind_returns (forms.Call l) m h e =
    let same : Some Call ≡ Some m = h in
    let clash : is_a_return Call ≡ true = ap is_a_return (kind_of same) ∙ e in absurd (cc)
kind_returns (forms.Set x at v) m h e = absurd (cc)
kind_returns (forms.Cond bs) m h e = absurd (cc)
kind_returns (forms.Par fs) m h e = absurd (cc)

call_kind : (k : FormKind) → is_call k ≡ true → move_kind k ≡ Some Call
call_kind (forms.Call l) h = refl
call_kind (forms.Go l) h = absurd (cc)
call_kind forms.Return h = absurd (cc)
call_kind (forms.Set x at v) h = absurd (cc)
call_kind (forms.Cond bs) h = absurd (cc)
call_kind (forms.Par fs) h = absurd (cc)

return_kind : (k : FormKind) → is_return k ≡ true → move_kind k ≡ Some Return
return_kind forms.Return h = refl
return_kind (forms.Go l) h = absurd (cc)
return_kind (forms.Call l) h = absurd (cc)
return_kind (forms.Set x at v) h = absurd (cc)
return_kind (forms.Cond bs) h = absurd (cc)
return_kind (forms.Par fs) h = absurd (cc)

-- ---- groups

module _ (p : Program) (enables : List (Option Enable)) (k : ℕ) where
  pub calls_are : (a : ℕ) → Contains (picked (Calls k) (moves_in p.forms enables)) a
      ↔ IsMoveEnable p enables is_call k a
  calls_are a = (
    λ c.
        let (f, y, m, at_y, at_x, kind, pick, is) = picked_from (Calls k) p.forms enables a c in
        let (i, origin) = own_origin k (m.enable).origin (and_left (is_of k (m.enable).origin) (is_a_call m.kind) pick)
        in (
          f,
          i,
          y,
          at_y,
          kind_calls y.kind m.kind kind (and_right (is_of k (m.enable).origin) (is_a_call m.kind) pick),
          subst (λ x. IsAt enables f (Some x)) (enable_is m.enable (At k i) a origin is) at_x,
        ),
    λ (f, i, y, at_y, calls, has).
        picked_in (Calls k) p.forms enables f y (record { origin = At k i; expr = a }) Call at_y has
        (call_kind y.kind calls) (and_from (is_of k (At k i)) true (there_of k i) refl),
  )

  pub returns_are : (a : ℕ) → Contains (picked (Returns k) (moves_in p.forms enables)) a
      ↔ IsMoveEnable p enables is_return k a
  returns_are a = (
    λ c.
        let (f, y, m, at_y, at_x, kind, pick, is) = picked_from (Returns k) p.forms enables a c in
        let (i, origin) = own_origin k (m.enable).origin
        (and_left (is_of k (m.enable).origin) (is_a_return m.kind) pick) in (
          f,
          i,
          y,
          at_y,
          kind_returns y.kind m.kind kind (and_right (is_of k (m.enable).origin) (is_a_return m.kind) pick),
          subst (λ x. IsAt enables f (Some x)) (enable_is m.enable (At k i) a origin is) at_x,
        ),
    λ (f, i, y, at_y, returns, has).
        picked_in (Returns k) p.forms enables f y (record { origin = At k i; expr = a }) Return at_y has
        (return_kind y.kind returns) (and_from (is_of k (At k i)) true (there_of k i) refl),
  )

  pub moves_inside : (i : ℕ) → AreMovesAt p enables k i (picked (Inside k i) (moves_in p.forms enables))
  moves_inside i a = (
    λ c.
        let (f, y, m, at_y, at_x, kind, pick, is) = picked_from (Inside k i) p.forms enables a c in (
          f,
          y,
          at_y,
          kind_moves y.kind m.kind kind,
          subst (λ x. IsAt enables f (Some x))
              (enable_is m.enable (At k i) a (origin_is k i (m.enable).origin pick) is) at_x,
        ),
    λ (f, y, at_y, moves, has).
        let (m, kind) = moves_kind y.kind moves in
        picked_in (Inside k i) p.forms enables f y (record {
          origin = At k i;
          expr =
              a;
        }) m at_y has kind (there_at k i),
  )

-- ---- counts

pub picked_long : (g : Group) (ms : List Move) → length (picked g ms) ≡ count_by (picks g) ms
picked_long g [] = refl
picked_long g (m ∷ ms) =
    let rest = picked_long g ms in
    let total = sum_by-cons (λ (z : Move). cond {A = ℕ} (picks g z) 1 0) m ms in
    by_test (picks g m)
    (λ h.
    let one : length (picked g (m ∷ ms)) ≡ suc (length (picked g ms)) =
    ap (λ b. length (map (λ (z : Move). (z.enable).expr) (cond b (m ∷ filter (picks g) ms) (filter (picks g) ms)))) h in
    let c : cond {A = ℕ} (picks g m) 1 0 ≡ 1 = ap (λ b. cond {A = ℕ} b 1 0) h in omega (arith, rest, total, one, c))
    (λ h.
    let one : length (picked g (m ∷ ms)) ≡ length (picked g ms) =
    ap (λ b. length (map (λ (z : Move). (z.enable).expr) (cond b (m ∷ filter (picks g) ms) (filter (picks g) ms)))) h in
    let c : cond {A = ℕ} (picks g m) 1 0 ≡ 0 = ap (λ b. cond {A = ℕ} b 1 0) h in omega (arith, rest, total, one, c))

-- a test of forms counts the moves that pass a test of moves, where the two agree
module _ (k : ℕ) (t : FormKind → Bool) (s : Move → Bool)
    (agree : (kind : FormKind) (x : Enable) → sum_by (λ (m : Move). cond {A = ℕ} (s m) 1 0) (option_to_list
    (move_of kind (Some x))) ≡ cond {A = ℕ} (is_of k x.origin && t kind) 1 0) where
  pub counted : (ys : List Form) (xs : List (Option Enable)) → count_by s (moves_in ys xs) ≡ count_of t k ys xs
  counted [] [] = refl
  counted [] (x ∷ xs) = refl
  counted (y ∷ ys) [] = refl
  counted (y ∷ ys) (None ∷ xs) = counted ys xs
  counted (y ∷ ys) (Some x ∷ xs) =
      let parts = sum_by-append (λ (m : Move). cond {A = ℕ} (s m) 1 0) (option_to_list (move_of y.kind (Some x)))
      (moves_in ys xs) in
      let first = agree y.kind x in
      let rest = counted ys xs in omega (arith, parts, first, rest)

abbrev one_if : Bool → ℕ
one_if b = cond {A = ℕ} b 1 0

none_counted : (b : Bool) → cond {A = ℕ} (b && false) 1 0 ≡ 0
none_counted true = refl
none_counted false = refl

none_of : (b : Bool)
    → cond {A = ℕ} (b && false) 1 0 + cond {A = ℕ} (b && false) 1 0 + cond {A = ℕ} (b && false) 1 0 ≡ 0
none_of true = refl
none_of false = refl

calls_agree : (k : ℕ) (kind : FormKind) (x : Enable) → sum_by (λ (m : Move). cond {A = ℕ} (picks (Calls k) m) 1 0)
    (option_to_list (move_of kind (Some x))) ≡ cond {A = ℕ} (is_of k x.origin && is_call kind) 1 0
calls_agree k (forms.Go l) x = omega arith
calls_agree k (forms.Call l) x = omega arith
calls_agree k forms.Return x = omega arith
calls_agree k (forms.Set y at v) x = sym (none_counted (is_of k x.origin))
calls_agree k (forms.Cond bs) x = sym (none_counted (is_of k x.origin))
calls_agree k (forms.Par fs) x = sym (none_counted (is_of k x.origin))

returns_agree : (k : ℕ) (kind : FormKind) (x : Enable) → sum_by (λ (m : Move). cond {A = ℕ} (picks (Returns k) m) 1 0)
    (option_to_list (move_of kind (Some x))) ≡ cond {A = ℕ} (is_of k x.origin && is_return kind) 1 0
returns_agree k (forms.Go l) x = omega arith
returns_agree k (forms.Call l) x = omega arith
returns_agree k forms.Return x = omega arith
returns_agree k (forms.Set y at v) x = sym (none_counted (is_of k x.origin))
returns_agree k (forms.Cond bs) x = sym (none_counted (is_of k x.origin))
returns_agree k (forms.Par fs) x = sym (none_counted (is_of k x.origin))

pub calls_long : (k : ℕ) (ys : List Form) (xs : List (Option Enable))
    → length (picked (Calls k) (moves_in ys xs)) ≡ count_of is_call k ys xs
calls_long k ys xs = picked_long (Calls k) (moves_in ys xs) ∙ counted k is_call (picks (Calls k)) (calls_agree k) ys xs

pub returns_long : (k : ℕ) (ys : List Form) (xs : List (Option Enable))
    → length (picked (Returns k) (moves_in ys xs)) ≡ count_of is_return k ys xs
returns_long k ys xs =
    picked_long (Returns k) (moves_in ys xs) ∙ counted k is_return (picks (Returns k)) (returns_agree k) ys xs

-- all moves of process k
abbrev owned : ℕ → Move → Bool
owned k m = is_of k (m.enable).origin

abbrev three : ℕ → List Form → List (Option Enable) → ℕ
three k ys xs = count_of is_go k ys xs + count_of is_call k ys xs + count_of is_return k ys xs

owned_agree : (k : ℕ) (kind : FormKind) (x : Enable) → sum_by (λ (m : Move). cond {A = ℕ} (owned k m) 1 0)
    (option_to_list (move_of kind (Some x)))
    ≡ cond {A = ℕ} (is_of k x.origin && is_go kind) 1 0 + cond {A = ℕ} (is_of k x.origin && is_call kind) 1 0
    + cond {A = ℕ} (is_of k x.origin && is_return kind) 1 0
owned_agree k (forms.Go l) x = by_case (is_of k x.origin)
  where
    by_case : (b : Bool)
        → 0 + one_if b ≡ one_if (b && true) + one_if (b && false) + one_if (b && false)
    by_case true = refl
    by_case false = refl
owned_agree k (forms.Call l) x = by_case (is_of k x.origin)
  where
    by_case : (b : Bool)
        → 0 + one_if b ≡ one_if (b && false) + one_if (b && true) + one_if (b && false)
    by_case true = refl
    by_case false = refl
owned_agree k forms.Return x = by_case (is_of k x.origin)
  where
    by_case : (b : Bool)
        → 0 + one_if b ≡ one_if (b && false) + one_if (b && false) + one_if (b && true)
    by_case true = refl
    by_case false = refl
owned_agree k (forms.Set y at v) x = sym (none_of (is_of k x.origin))
owned_agree k (forms.Cond bs) x = sym (none_of (is_of k x.origin))
owned_agree k (forms.Par fs) x = sym (none_of (is_of k x.origin))

owned_long : (k : ℕ) (ys : List Form) (xs : List (Option Enable)) → count_by (owned k) (moves_in ys xs) ≡ three k ys xs
owned_long k [] [] = refl
owned_long k [] (x ∷ xs) = refl
owned_long k (y ∷ ys) [] = refl
owned_long k (y ∷ ys) (None ∷ xs) = owned_long k ys xs
owned_long k (y ∷ ys) (Some x ∷ xs) =
    let parts = sum_by-append (λ (m : Move). cond {A = ℕ} (owned k m) 1 0) (option_to_list (move_of y.kind (Some x)))
    (moves_in ys xs) in
    let first = owned_agree k y.kind x in
    let rest = owned_long k ys xs in omega (arith, parts, first, rest)

-- at how many of the first n places of process k this origin is
abbrev hits : ℕ → ℕ → Origin → ℕ
hits k zero o = 0
hits k (suc n) o = cond {A = ℕ} (is_at k n o) 1 0 + hits k n o

hits_behind : (k n j h : ℕ) → n ≤ h → hits k n (At j h) ≡ 0
hits_behind k zero j h le = refl
hits_behind k (suc n) j h le =
    let rest = hits_behind k n j h (omega (arith, le)) in
    let other : (h == n) ≡ false = ne_eqb h n (λ e. omega (arith, e, le)) in
    let none : cond {A = ℕ} ((j == k) && (h == n)) 1 0 ≡ 0 =
    ap (λ b. cond {A = ℕ} ((j == k) && b) 1 0) other ∙ none_counted (j == k) in omega (arith, rest, none)

hits_once : (k n : ℕ) (o : Origin) → hits k n o ≤ cond {A = ℕ} (is_of k o) 1 0
hits_once k zero o = omega arith
hits_once k (suc n) Always = let rest = hits_once k n Always in omega (arith, rest)
hits_once k (suc n) (At j h) = by_test (h == n)
    (λ same.
    let rest = hits_behind k n j h (omega (arith, eqb-true h n same)) in
    let one : cond {A = ℕ} ((j == k) && (h == n)) 1 0 ≡ cond {A = ℕ} (j == k) 1 0 =
    ap (λ b. cond {A = ℕ} ((j == k) && b) 1 0) same ∙ and_one (j == k) in omega (arith, rest, one))
    (λ other.
    let rest = hits_once k n (At j h) in
    let none : cond {A = ℕ} ((j == k) && (h == n)) 1 0 ≡ 0 =
    ap (λ b. cond {A = ℕ} ((j == k) && b) 1 0) other ∙ none_counted (j == k) in omega (arith, rest, none))
  where
    and_one : (b : Bool) → cond {A = ℕ} (b && true) 1 0 ≡ cond {A = ℕ} b 1 0
    and_one true = refl
    and_one false = refl

inside_none : (k n : ℕ) → inside_to k n [] ≡ 0
inside_none k zero = refl
inside_none k (suc n) = let rest = inside_none k n in omega (arith, rest)

inside_cons : (k n : ℕ) (m : Move) (ms : List Move)
    → inside_to k n (m ∷ ms) ≡ hits k n (m.enable).origin + inside_to k n ms
inside_cons k zero m ms = refl
inside_cons k (suc n) m ms =
    let rest = inside_cons k n m ms in
    let a = picked_long (Inside k n) (m ∷ ms) in
    let b = picked_long (Inside k n) ms in
    let c = sum_by-cons (λ (z : Move). cond {A = ℕ} (picks (Inside k n) z) 1 0) m ms in omega (arith, rest, a, b, c)

inside_low : (k n : ℕ) (ms : List Move) → inside_to k n ms ≤ count_by (owned k) ms
inside_low k n [] = omega (arith, inside_none k n)
inside_low k n (m ∷ ms) =
    let a = inside_cons k n m ms in
    let b = hits_once k n (m.enable).origin in
    let c = sum_by-cons (λ (z : Move). cond {A = ℕ} (owned k z) 1 0) m ms in
    let rest = inside_low k n ms in omega (arith, a, b, c, rest)

-- the moves inside the places of a process are among those of the process
pub inside_counted : (k n : ℕ) (ys : List Form) (xs : List (Option Enable)) → inside_to k n (moves_in ys xs)
    ≤ count_of is_go k ys xs + count_of is_call k ys xs + count_of is_return k ys xs
inside_counted k n ys xs =
    let a = inside_low k n (moves_in ys xs) in
    let b = owned_long k ys xs in omega (arith, a, b)

-- ---- what is inside a place

pub has_in : (t : FormKind → Bool) (k i : ℕ) (ys : List Form) (xs : List (Option Enable)) (f a : ℕ) (y : Form)
    → IsAt ys f y → HasEnable xs f (At k i) a → t y.kind ≡ true → has_at t k i ys xs ≡ true
has_in t k i [] xs f a y at has h = absurd (none-some y at)
has_in t k i (z ∷ ys) [] f a y at has h = absurd (none-some _ has)
has_in t k i (z ∷ ys) (None ∷ xs) zero a y at has h =
    let own : Enable = record { origin = At k i; expr = a } in
    absurd (none-some own (same_Some None (Some own) has))
has_in t k i (z ∷ ys) (None ∷ xs) (suc f) a y at has h = has_in t k i ys xs f a y at has h
has_in t k i (z ∷ ys) (Some x ∷ xs) zero a y at has h =
    let own : Enable = record { origin = At k i; expr = a } in
    let same : x ≡ own = same_Some x own (same_Some (Some x) (Some own) has) in
    let there : is_at k i x.origin ≡ true = ap (λ (e : Enable). is_at k i e.origin) same ∙ there_at k i in
    let passes : t z.kind ≡ true = ap (λ (v : Form). t v.kind) (same_Some z y at) ∙ h in
    or_left (is_at k i x.origin && t z.kind) (has_at t k i ys xs)
    (and_from (is_at k i x.origin) (t z.kind) there passes)
has_in t k i (z ∷ ys) (Some x ∷ xs) (suc f) a y at has h =
    or_right (is_at k i x.origin && t z.kind) (has_at t k i ys xs) (has_in t k i ys xs f a y at has h)
