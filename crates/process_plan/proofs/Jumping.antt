-- The move of a process in a clock, and the expressions that tell of it.
use Rattle.std.proofs.Common.{
  ◌≡◌,
  ◌↔◌,
  ◌⊎◌,
  inl,
  inr,
  ◌∙◌,
  ℕ,
  zero,
  suc,
  ◌+◌,
  ◌-◌,
  ◌<◌,
  ◌≤◌,
  List,
  [],
  ◌∷◌,
  ◌++◌,
  Bool,
  true,
  false,
  Option,
  refl,
  sym,
  ap,
  subst,
  arith,
  length,
  map,
  take,
  drop,
}
use Rattle.std.specs.Prelude.{Contains, ◌==◌, ◌&&◌, ◌||◌, slice_index}
use Rattle.std.specs.List.{list_all, list_any}
use Rattle.std.proofs.lemmas.Bool.{eqb-true, eq-eqb, and_parts}
use Rattle.std.proofs.lemmas.Option.{slice_get-get_or}
use Rattle.mp_base.specs.Apply.{truth}
use Rattle.mp_base.specs.declared.op.Op.TheVariants.{And, Or, Not}
use Rattle.mp_base.proofs.Contents.{contains_head, contains_behind, nothing_in, only_one}
use Rattle.mp_base.proofs.Induction.{by_test}
use Rattle.mp_program.specs.declared.program.FormKind.{FormKind}
use Rattle.mp_program.specs.declared.program.FormKind.TheVariants.{Set, Cond, Par, Go, Call, Return}
use Rattle.mp_program.specs.declared.program.Form.{Form}
use Rattle.mp_program.specs.declared.program.Process.{Process}
use Rattle.mp_program.specs.declared.program.Program.{Program}
use Rattle.mp_program.specs.Effects.{Effect, Writes, Goes, Calls, Returns, effects_of}
use Rattle.mp_program.specs.State.{State, Seat}
use Rattle.mp_program.specs.Step.{wrapped, place_of_label, next_seat}
use Rattle.mp_program.specs.Values as from
use Rattle.mp_base.specs.Entries.{IsAt}
use Rattle.mp_rules.specs.Standing.{is_transfer}
use Rattle.mp_base.proofs.Entries.{one_entry, contains_from_get}
use Rattle.rtl_form.specs.declared.rtl.Rtl.{Rtl}
use Rattle.rtl_form.specs.declared.rtl.RtlExpr.TheVariants.{Apply}
use Rattle.process_plan.specs.Roles.{Role, seat_at}
use Rattle.process_plan.specs.Active.{own_effects, At, IsRoot}
use Rattle.process_plan.specs.Enables.{Enable, HasEnable, IsPlaceExpr}
use Rattle.process_plan.specs.Plan.{IsUnionOf, IsMoveEnable, is_call, is_return, AreNegations, IsFall}
use Rattle.process_plan.proofs.Members.{zero_or_more}
use Rattle.process_plan.proofs.Doing.{effect_source, source_effect}
use Rattle.process_plan.proofs.Moving.{IsMove, moves, moves_are, some_move, own_move}
use Rattle.process_plan.proofs.Enabling.{Tells, seat_fits, one_of, on_of}
use Rattle.process_plan.proofs.Scene.{Scene, W, w_false, w_is, w_forth, w_back, w_place, enable_low}
use Rattle.process_plan.proofs.Defining.{root_in}

-- ---- the next seat

pub has_move : (es : List Effect) (m : Effect) → Contains es m → IsMove m → 0 < moves es
has_move [] m c is = absurd (nothing_in m c)
has_move (Writes x v ∷ es) m (zero, lt, e) is = absurd (subst IsMove (sym e) is)
has_move (Writes x v ∷ es) m (suc k, lt, e) is = has_move es m (k, omega (arith, lt), e) is
has_move (Goes l ∷ es) m c is = omega arith
has_move (Calls l ∷ es) m c is = omega arith
has_move (Returns ∷ es) m c is = omega arith

-- where a process is after a move
abbrev pub seat_by : Process → Seat → Effect → Seat
seat_by q s (Writes x v) = s
seat_by q s (Goes l) = record { place = place_of_label q q.labels l; stack = s.stack }
seat_by q s (Calls l) = record {
  place = place_of_label q q.labels l;
  stack =
      take q.depth (wrapped q (s.place + 1) ∷ s.stack);
}
seat_by q s Returns = record { place = slice_index s.stack 0; stack = take q.depth (drop 1 s.stack ++ 0 ∷ []) }

pub next_by : (q : Process) (s : Seat) (es : List Effect) (m : Effect) → Contains es m → IsMove m → moves es ≤ 1
    → next_seat q s es ≡ seat_by q s m
next_by q s [] m c is one = absurd (nothing_in m c)
next_by q s (Writes x v ∷ es) m (zero, lt, e) is one = absurd (subst IsMove (sym e) is)
next_by q s (Writes x v ∷ es) m (suc k, lt, e) is one = next_by q s es m (k, omega (arith, lt), e) is one
next_by q s (Goes l ∷ es) m (zero, lt, e) is one = ap (seat_by q s) e
next_by q s (Goes l ∷ es) m (suc k, lt, e) is one = let more = has_move es m (k, omega (arith, lt), e) is in
    absurd (omega (arith, more, one))
next_by q s (Calls l ∷ es) m (zero, lt, e) is one = ap (seat_by q s) e
next_by q s (Calls l ∷ es) m (suc k, lt, e) is one = let more = has_move es m (k, omega (arith, lt), e) is in
    absurd (omega (arith, more, one))
next_by q s (Returns ∷ es) m (zero, lt, e) is one = ap (seat_by q s) e
next_by q s (Returns ∷ es) m (suc k, lt, e) is one = let more = has_move es m (k, omega (arith, lt), e) is in
    absurd (omega (arith, more, one))

pub next_on : (q : Process) (s : Seat) (es : List Effect) → moves es ≡ 0
    → next_seat q s es ≡ record { place = wrapped q (s.place + 1); stack = s.stack }
next_on q s [] none = refl
next_on q s (Writes x v ∷ es) none = next_on q s es none
next_on q s (Goes l ∷ es) none = absurd (omega (arith, none))
next_on q s (Calls l ∷ es) none = absurd (omega (arith, none))
next_on q s (Returns ∷ es) none = absurd (omega (arith, none))

pub same_move : (es : List Effect) (m n : Effect) → Contains es m → Contains es n → IsMove m → IsMove n
    → moves es ≤ 1 → m ≡ n
same_move [] m n cm cn im i_n one = absurd (nothing_in m cm)
same_move (Writes x v ∷ es) m n (zero, lt, e) cn im i_n one = absurd (subst IsMove (sym e) im)
same_move (Writes x v ∷ es) m n (suc k, lt, e) (zero, lt2, e2) im i_n one = absurd (subst IsMove (sym e2) i_n)
same_move (Writes x v ∷ es) m n (suc k, lt, e) (suc j, lt2, e2) im i_n one =
    same_move es m n (k, omega (arith, lt), e) (j, omega (arith, lt2), e2) im i_n one
same_move (x ∷ es) m n (zero, lt, e) (zero, lt2, e2) im i_n one = sym e ∙ e2
same_move (Goes l ∷ es) m n (zero, lt, e) (suc j, lt2, e2) im i_n one = let more =
    has_move es n (j, omega (arith, lt2), e2) i_n in absurd (omega (arith, more, one))
same_move (Calls l ∷ es) m n (zero, lt, e) (suc j, lt2, e2) im i_n one = let more =
    has_move es n (j, omega (arith, lt2), e2) i_n in absurd (omega (arith, more, one))
same_move (Returns ∷ es) m n (zero, lt, e) (suc j, lt2, e2) im i_n one = let more =
    has_move es n (j, omega (arith, lt2), e2) i_n in absurd (omega (arith, more, one))
same_move (Goes l ∷ es) m n (suc k, lt, e) cn im i_n one = let more = has_move es m (k, omega (arith, lt), e) im in
    absurd (omega (arith, more, one))
same_move (Calls l ∷ es) m n (suc k, lt, e) cn im i_n one = let more = has_move es m (k, omega (arith, lt), e) im in
    absurd (omega (arith, more, one))
same_move (Returns ∷ es) m n (suc k, lt, e) cn im i_n one = let more = has_move es m (k, omega (arith, lt), e) im in
    absurd (omega (arith, more, one))

-- ---- moves of forms

abbrev pub is_calling : Effect → Bool
is_calling (Calls l) = true
is_calling _ = false

abbrev pub is_returning : Effect → Bool
is_returning Returns = true
is_returning _ = false

-- a transfer has a move of its own
transfer_moves : (v : ℕ → ℕ) (k : FormKind) → is_transfer k ≡ true → (m : Effect) × Contains (own_effects v k) m
    × IsMove m
transfer_moves v (Set x at e) h = absurd (cc)
transfer_moves v (Cond bs) h = absurd (cc)
transfer_moves v (Par fs) h = absurd (cc)
transfer_moves v (Go l) h = (Goes l, contains_head (Goes l) [], tt)
transfer_moves v (Call l) h = (Calls l, contains_head (Calls l) [], tt)
transfer_moves v Return h = (Returns, contains_head Returns [], tt)

-- the form of a call, and of a return
pub calls_own : (v : ℕ → ℕ) (k : FormKind) (m : Effect) → Contains (own_effects v k) m → is_call k ≡ is_calling m
calls_own v (Set x at e) m c = sym (ap is_calling (sym (only_one (Writes x (v e)) m c)))
calls_own v (Cond bs) m c = absurd (nothing_in m c)
calls_own v (Par fs) m c = absurd (nothing_in m c)
calls_own v (Go l) m c = ap is_calling (only_one (Goes l) m c)
calls_own v (Call l) m c = ap is_calling (only_one (Calls l) m c)
calls_own v Return m c = ap is_calling (only_one Returns m c)

pub returns_own : (v : ℕ → ℕ) (k : FormKind) (m : Effect) → Contains (own_effects v k) m → is_return k ≡ is_returning m
returns_own v (Set x at e) m c = ap is_returning (only_one (Writes x (v e)) m c)
returns_own v (Cond bs) m c = absurd (nothing_in m c)
returns_own v (Par fs) m c = absurd (nothing_in m c)
returns_own v (Go l) m c = ap is_returning (only_one (Goes l) m c)
returns_own v (Call l) m c = ap is_returning (only_one (Calls l) m c)
returns_own v Return m c = ap is_returning (only_one Returns m c)

call_own : (v : ℕ → ℕ) (k : FormKind) → is_call k ≡ true → (m : Effect) × Contains (own_effects v k) m
    × (is_calling m ≡ true)
call_own v (Set x at e) h = absurd (cc)
call_own v (Cond bs) h = absurd (cc)
call_own v (Par fs) h = absurd (cc)
call_own v (Go l) h = absurd (cc)
call_own v (Call l) h = (Calls l, contains_head (Calls l) [], refl)
call_own v Return h = absurd (cc)

return_own : (v : ℕ → ℕ) (k : FormKind) → is_return k ≡ true → (m : Effect) × Contains (own_effects v k) m
    × (is_returning m ≡ true)
return_own v (Set x at e) h = absurd (cc)
return_own v (Cond bs) h = absurd (cc)
return_own v (Par fs) h = absurd (cc)
return_own v (Go l) h = absurd (cc)
return_own v (Call l) h = absurd (cc)
return_own v Return h = (Returns, contains_head Returns [], refl)

zero_or_one : (n : ℕ) → n ≤ 1 → (n ≡ 0) ⊎ (n ≡ 1)
zero_or_one zero le = inl refl
zero_or_one (suc zero) le = inr refl
zero_or_one (suc (suc n)) le = absurd (omega (arith, le))

module _ {p : Program} {r : Rtl} {roles : List Role} {enables : List (Option Enable)} {st : State} {inputs env : List ℕ}
    (s : Scene p r roles enables st inputs env)
    (k : ℕ) (q : Process) (at_q : IsAt p.processes k q) where
  abbrev X : ℕ → ℕ
  X e = W s e

  abbrev pub seat : Seat
  seat = seat_at st.seats k

  -- the form at the place of the process
  abbrev pub root : ℕ
  root = slice_index q.forms seat.place

  -- what it does
  abbrev pub done : List Effect
  done = effects_of p env root

  inside : seat.place < length q.forms
  inside = (seat_fits p st k q s.fits at_q).0

  root_here : IsAt q.forms seat.place root
  root_here = slice_get-get_or q.forms seat.place 0 inside

  is_root : IsRoot p (At k seat.place) root
  is_root = (q, at_q, root_here)

  pub one_done : moves done ≤ 1
  one_done = subst (λ n. n ≤ 1) (moves_are done)
      (s.single env k q root at_q (contains_from_get q.forms seat.place root root_here))

  -- a form of the process whose enable is 1 stands under this one
  pub enable_done : (f i a : ℕ) (y : Form) (m : Effect) → HasEnable enables f (At k i) a → X a ≡ 1 → IsAt p.forms f y
      → Contains (own_effects (from.value_of p env) y.kind) m
      → Contains done m × (seat.place ≡ i)
  enable_done f i a y m has one here_y own =
      let (on, (root2, (q2, at_q2, at_root), runs)) = w_back s f (At k i) a has one in
      let same_q : q2 ≡ q = one_entry p.processes k q2 q at_q2 at_q in
      let at_here : IsAt q.forms seat.place root2 = subst (λ n. IsAt q.forms n root2) (sym on)
      (subst (λ (t : Process). IsAt t.forms i root2) same_q at_root) in
      let same_root : root2 ≡ root = one_entry q.forms seat.place root2 root at_here root_here in (
        subst (λ n. Contains (effects_of p env n) m) same_root
            (source_effect p env s.known root2 f y m runs here_y own),
        on,
      )

  -- and what it does is that of such a form
  pub done_enable : (m : Effect) → Contains done m → (f : ℕ) × (y : Form) × (a : ℕ) × IsAt p.forms f y
      × HasEnable enables f (At k seat.place) a × (X a ≡ 1)
      × Contains (own_effects (from.value_of p env) y.kind) m
  done_enable m c =
      let (f, y, here_y, runs, own) = effect_source p env s.known root
      (root_in p s.known (At k seat.place) root is_root) m c in
      let (a, has, one) = w_forth s (At k seat.place) f (refl, (root, is_root, runs)) in
      (f, y, a, here_y, has, one, own)

  -- ---- unions

  any_one : (as1 : List ℕ) → list_any (λ z. z == 1) (map X as1) ≡ true → (a : ℕ) × Contains as1 a × (X a ≡ 1)
  any_one [] h = absurd (cc)
  any_one (a ∷ more) h = by_test (X a == 1)
      (λ e. (a, contains_head a more, eqb-true (X a) 1 e))
      (λ e. let (b, c, one) = any_one more (subst (λ t. (t || list_any (λ z. z == 1) (map X more)) ≡ true) e h) in
      (b, contains_behind b a more c, one))

  one_any : (as1 : List ℕ) (a : ℕ) → Contains as1 a → X a ≡ 1 → list_any (λ z. z == 1) (map X as1) ≡ true
  one_any [] a c one = absurd (nothing_in a c)
  one_any (b ∷ more) a (zero, lt, is) one = ap (λ t. t || list_any (λ z. z == 1) (map X more))
      (eq-eqb (X b) 1 (ap X is ∙ one))
  one_any (b ∷ more) a (suc j, lt, is) one = pick (X b == 1) (one_any more a (j, omega (arith, lt), is) one)
    where
      pick : (t : Bool) → list_any (λ z. z == 1) (map X more) ≡ true → (t || list_any (λ z. z == 1) (map X more)) ≡ true
      pick true h = refl
      pick false h = h

  abbrev pub MovesBy : (FormKind → Bool) → Type 0
  MovesBy test = (a : ℕ) × IsMoveEnable p enables test k a × (X a ≡ 1)

  union_tells : (test : FormKind → Bool) (u : ℕ) → IsUnionOf p r.exprs enables test k u → Tells (X u) (MovesBy test)
  union_tells test u (guards, are, inl is) =
      let in_it : Contains guards u = subst (λ g. Contains g u) (sym is) (contains_head u []) in
      let (f, i, y, here_y, t, has) = (are u).0 in_it in
      elim (zero_or_one (X u) (enable_low s f (At k i) u has)) [
        | inl none ↦ inr (
          none,
          λ (a, move, one). let same : u ≡ a = only_one u a (subst (λ g. Contains g a) is ((are a).1 move)) in
              let clash : 0 ≡ 1 = sym none ∙ ap X same ∙ one in omega (arith, clash),
        )
        | inr one ↦ inl (one, (u, (f, i, y, here_y, t, has), one))
      ]
  union_tells test u (guards, are, inr at) =
      let value : X u ≡ truth (list_any (λ z. z == 1) (map X guards)) = w_is s u (Apply Or 0 guards) at in
      by_test (list_any (λ z. z == 1) (map X guards))
      (λ e. let (a, c, one) = any_one guards e in inl (value ∙ ap truth e, (a, (are a).0 c, one)))
      (λ e. inr (
        value ∙ ap truth e,
        λ (a, move, one). let h : true ≡ false =
            sym (one_any guards a ((are a).1 move) one) ∙ e in absurd (cc),
      ))

  change : (n : ℕ) (P Q : Type 0) → (P → Q) → (Q → P) → Tells n P → Tells n Q
  change n P Q f g (inl (e, h)) = inl (e, f h)
  change n P Q f g (inr (e, off)) = inr (e, λ h. off (g h))

  -- the union of the calls tells whether the process calls
  pub call_tells : (u : ℕ) → IsUnionOf p r.exprs enables is_call k u
      → Tells (X u) ((m : Effect) × Contains done m × (is_calling m ≡ true))
  call_tells u is = change (X u) (MovesBy is_call) ((m : Effect) × Contains done m × (is_calling m ≡ true))
      (λ (a, (f, i, y, here_y, t, has), one). let (m, own, h) = call_own (from.value_of p env) y.kind t in
      (m, (enable_done f i a y m has one here_y own).0, h))
      (λ (m, c, h). let (f, y, a, here_y, has, one, own) = done_enable m c in
      (a, (f, seat.place, y, here_y, calls_own (from.value_of p env) y.kind m own ∙ h, has), one))
      (union_tells is_call u is)

  pub return_tells : (u : ℕ) → IsUnionOf p r.exprs enables is_return k u
      → Tells (X u) ((m : Effect) × Contains done m × (is_returning m ≡ true))
  return_tells u is = change (X u) (MovesBy is_return) ((m : Effect) × Contains done m × (is_returning m ≡ true))
      (λ (a, (f, i, y, here_y, t, has), one). let (m, own, h) = return_own (from.value_of p env) y.kind t in
      (m, (enable_done f i a y m has one here_y own).0, h))
      (λ (m, c, h). let (f, y, a, here_y, has, one, own) = done_enable m c in
      (a, (f, seat.place, y, here_y, returns_own (from.value_of p env) y.kind m own ∙ h, has), one))
      (union_tells is_return u is)

  -- ---- going on

  -- no enable of these is 1 exactly where the process has no move
  none_moves : (ms : List ℕ) → ((m : ℕ) → Contains ms m
      ↔ ((f : ℕ) × (y : Form) × IsAt p.forms f y × (is_transfer y.kind ≡ true)
      × HasEnable enables f (At k seat.place) m))
      → ((m : ℕ) → Contains ms m → X m ≡ 0) → moves done ≡ 0
  none_moves ms are zeros = elim (zero_or_more (moves done)) [
    | inl e ↦ e
    | inr more ↦
        let (m, c, is) = some_move done more in
        let (f, y, a, here_y, has, one, own) = done_enable m c in
        let z = zeros a ((are a).1 (f, y, here_y, own_move (from.value_of p env) y.kind m own is, has)) in
        absurd (omega (arith, z, one))
  ]

  moves_none : (i : ℕ) (ms : List ℕ) → ((m : ℕ) → Contains ms m
      ↔ ((f : ℕ) × (y : Form) × IsAt p.forms f y × (is_transfer y.kind ≡ true) × HasEnable enables f (At k i) m))
      → moves done ≡ 0 → (m : ℕ) → Contains ms m → X m ≡ 0
  moves_none i ms are none m c =
      let (f, y, here_y, t, has) = (are m).0 c in
      elim (zero_or_one (X m) (enable_low s f (At k i) m has)) [
        | inl e ↦ e
        | inr one ↦
            let (x, own, is) = transfer_moves (from.value_of p env) y.kind t in
            let more = has_move done x (enable_done f i m y x has one here_y own).0 is in
            absurd (omega (arith, more, none))
      ]

  negated : (ms ns : List ℕ) → AreNegations r.exprs ms ns → list_all (λ z. z == 1) (map X ns) ≡ true → (m : ℕ)
      → Contains ms m → X m ≤ 1 → X m ≡ 0
  negated [] ns are all m c low = absurd (nothing_in m c)
  negated (x ∷ ms) [] are all m c low = absurd are
  negated (x ∷ ms) (n ∷ ns) are all m (zero, lt, is) low =
      let a = and_parts (X n == 1) (list_all (λ z. z == 1) (map X ns)) all in
      let one : 1 - X m ≡ 1 = sym (w_is s n (Apply Not 0 (x ∷ [])) are.0 ∙ ap (λ t. 1 - X t) is)
      ∙ eqb-true (X n) 1 a.0 in
      omega (arith, one, low)
  negated (x ∷ ms) (n ∷ ns) are all m (suc j, lt, is) low =
      negated ms ns are.1 (and_parts (X n == 1) (list_all (λ z. z == 1) (map X ns)) all).1 m
      (j, omega (arith, lt), is) low

  negations : (ms ns : List ℕ) → AreNegations r.exprs ms ns → ((m : ℕ) → Contains ms m → X m ≡ 0)
      → list_all (λ z. z == 1) (map X ns) ≡ true
  negations [] [] are zeros = refl
  negations [] (n ∷ ns) are zeros = absurd are
  negations (m ∷ ms) [] are zeros = absurd are
  negations (m ∷ ms) (n ∷ ns) are zeros =
      ap (λ b. b && list_all (λ z. z == 1) (map X ns))
      (eq-eqb (X n) 1 (w_is s n (Apply Not 0 (m ∷ [])) are.0 ∙ ap (λ t. 1 - t) (zeros m (contains_head m ms))))
      ∙ negations ms ns are.1 (λ x c. zeros x (contains_behind x m ms c))

  -- the fall of a place tells whether the process goes on from there
  pub fall_tells : (i a e : ℕ) → IsPlaceExpr p r.exprs roles k i a → IsFall p r.exprs enables k i a e
      → Tells (X e) ((seat.place ≡ i) × (moves done ≡ 0))
  fall_tells i a e is_a (ms, are, inl (none, same)) =
      let told = w_place s k i a is_a in
      change (X e) (seat.place ≡ i) ((seat.place ≡ i) × (moves done ≡ 0))
      (λ on. (
        on,
        none_moves ms (subst (λ n. (m : ℕ) → Contains ms m
            ↔ ((f : ℕ) × (y : Form) × IsAt p.forms f y × (is_transfer y.kind ≡ true)
            × HasEnable enables f (At k n) m)) (sym on) are)
            (λ m c. absurd (nothing_in m (subst (λ t. Contains t m) none c))),
      ))
      (λ (on, h). on)
      (subst (λ n. Tells (X n) (seat.place ≡ i)) (sym same) told)
  fall_tells i a e is_a (ms, are, inr (inl (c, is))) =
      let told = w_place s k i a is_a in
      inr (
        ap X is ∙ w_false s,
        λ (on, none). let one = one_of (X a) (seat.place ≡ i) told on in let z = moves_none i ms are none a c in
            omega (arith, one, z),
      )
  fall_tells i a e is_a (ms, are, inr (inr (ns, negs, at))) =
      let told = w_place s k i a is_a in
      let value : X e ≡ truth ((X a == 1) && list_all (λ z. z == 1) (map X ns)) = w_is s e (Apply And 0 (a ∷ ns)) at in
      by_test ((X a == 1) && list_all (λ z. z == 1) (map X ns))
      (λ h.
      let (ha, hn) = and_parts (X a == 1) (list_all (λ z. z == 1) (map X ns)) h in
      let on : seat.place ≡ i = on_of (X a) (seat.place ≡ i) told (eqb-true (X a) 1 ha) in
      inl (
        value ∙ ap truth h,
        (
          on,
          none_moves ms (subst (λ n. (m : ℕ) → Contains ms m
              ↔ ((f : ℕ) × (y : Form) × IsAt p.forms f y × (is_transfer y.kind ≡ true)
              × HasEnable enables f (At k n) m)) (sym on) are)
              (λ m c. let (f, y, here_y, t, has) = (are m).0 c in
              negated ms ns negs hn m c (enable_low s f (At k i) m has)),
        ),
      ))
      (λ h. inr (
        value ∙ ap truth h,
        λ (on, none).
            let one = one_of (X a) (seat.place ≡ i) told on in
            let yes : ((X a == 1) && list_all (λ z. z == 1) (map X ns)) ≡ true =
            ap (λ b. b && list_all (λ z. z == 1) (map X ns)) (eq-eqb (X a) 1 one)
            ∙ negations ms ns negs (moves_none i ms are none) in
            let clash : true ≡ false = sym yes ∙ h in absurd (cc),
      ))
