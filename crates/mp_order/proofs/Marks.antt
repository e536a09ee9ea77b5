-- The marks of forms.
use Rattle.std.proofs.Common.{◌≡◌, ◌⊎◌, inl, inr, ℕ, zero, suc, ◌+◌, ◌<◌, ◌≤◌, List, [], ◌∷◌, refl, sym, ◌∙◌, ap, subst}
use Rattle.std.proofs.Common.{length, arith, get_or}
use Rattle.std.specs.Prelude.{Contains}
use Rattle.std.proofs.lemmas.Bool.{cases_lt}
use Rattle.std.proofs.lemmas.List.Elements.{Contains-append_left, Contains-append_right, Contains-append_cases}
use Rattle.mp_program.specs.declared.program.Process.{Process}
use Rattle.mp_program.specs.declared.program.Program.{Program}
use Rattle.mp_program.specs.Reads.{process_roots, roots}
use Rattle.mp_base.specs.Entries.{IsAt}
use Rattle.std.specs.List.{AllByRecursion}
use Rattle.std.proofs.Common.{replicate}
use Rattle.std.proofs.lemmas.List.{length-replicate}
use Rattle.std.proofs.lemmas.Option.{same_Some, none-some}
use Rattle.mp_program.specs.declared.program.Branch.{Branch}
use Rattle.mp_program.specs.declared.program.Form.{Form}
use Rattle.mp_program.specs.declared.program.FormKind.{FormKind}
use Rattle.mp_program.specs.declared.program.FormKind.TheVariants.{Set, Cond, Par, Go, Call, Return}
use Rattle.mp_program.specs.Sound.{IsSound, InnerFit, AllBetween}
use Rattle.mp_base.proofs.Contents.{holds_of_contained}
use Rattle.mp_base.proofs.Entries.{each_at, within, same_at, zeros_at}
use Rattle.mp_order.specs.Tables.{Lifted}
use Rattle.mp_order.specs.Demands.{Gives, Marked, root, inner, AreMarks}
use Rattle.mp_order.proofs.Tables.{lifted_as, lifted_join}

-- f is a top-level form of the `always` or of a process before the one at n
abbrev pub RootBelow : Program → ℕ → ℕ → Type 0
RootBelow p n f = Contains p.always f ⊎ ((j : ℕ) × (q : Process) × (j < n) × IsAt p.processes j q × Contains q.forms f)

pub process_root : (qs : List Process) (j : ℕ) (q : Process) (f : ℕ) → IsAt qs j q → Contains q.forms f
    → Contains (process_roots qs) f
process_root [] j q f at inside = absurd (none-some q at)
process_root (x ∷ qs) zero q f at inside = let P : Process → Type 0 = λ y. Contains y.forms f in
    Contains-append_left x.forms (process_roots qs) f (subst P (sym (same_Some x q at)) inside)
process_root (x ∷ qs) (suc j) q f at inside =
    Contains-append_right x.forms (process_roots qs) f (process_root qs j q f at inside)

pub rooted_in : (qs : List Process) (f : ℕ) → Contains (process_roots qs) f
    → (j : ℕ) × (q : Process) × IsAt qs j q × Contains q.forms f
rooted_in [] f (k, lt, e) = absurd (omega (arith, lt))
rooted_in (x ∷ qs) f inside = elim (Contains-append_cases x.forms (process_roots qs) f inside) [
  | inl here ↦ (0, x, refl, here)
  | inr there ↦ let (j, q, at, h) = rooted_in qs f there in (suc j, q, at, h)
]

pub roots_more : (p : Program) (n : ℕ) (q : Process) (old mid new : List ℕ) → IsAt p.processes n q
    → Lifted (λ f k. RootBelow p n f × (k ≡ 1)) old mid
    → Lifted (λ f k. Contains q.forms f × (k ≡ 1)) mid new → Lifted (λ f k. RootBelow p (n + 1) f × (k ≡ 1)) old new
roots_more p n q old mid new at first second =
    lifted_join (λ f k. RootBelow p n f × (k ≡ 1)) (λ f k. Contains q.forms f × (k ≡ 1))
    (λ f k. RootBelow p (n + 1) f × (k ≡ 1)) old mid new first second
    (λ f k (r, e). (further f r, e))
    (λ f k (h, e). (inr (n, q, omega arith, at, h), e))
    (λ f k (r, e). apart f k r e)
  where
    further : (f : ℕ) → RootBelow p n f → RootBelow p (n + 1) f
    further f (inl h) = inl h
    further f (inr (j, x, lt, xj, h)) = inr (j, x, omega (arith, lt), xj, h)

    apart : (f k : ℕ) → RootBelow p (n + 1) f → k ≡ 1
        → (RootBelow p n f × (k ≡ 1)) ⊎ ((l : ℕ) × (k ≤ l) × (Contains q.forms f × (l ≡ 1)))
    apart f k (inl h) e = inl (inl h, e)
    apart f k (inr (j, x, lt, xj, h)) e = elim (cases_lt j n) [
      | inl below ↦ inl (inr (j, x, below, xj, h), e)
      | inr above ↦
          inr (
            1,
            omega
                (arith, e),
            (
              let P : Process → Type 0 = λ y. Contains y.forms f in
                  subst P (same_at p.processes j n x q (omega (arith, lt, above)) xj at) h,
              refl,
            ),
          )
    ]

pub roots_done : (p : Program) (n : ℕ) (old new : List ℕ) → length p.processes ≤ n
    → Lifted (λ f k. RootBelow p n f × (k ≡ 1)) old new
    → Lifted (λ f k. Contains (roots p) f × (k ≡ 1)) old new
roots_done p n old new le l =
    lifted_as (λ f k. RootBelow p n f × (k ≡ 1)) (λ f k. Contains (roots p) f × (k ≡ 1)) old new l
    (λ f k (r, e). (to f r, e)) (λ f k (h, e). (from f h, e))
  where
    to : (f : ℕ) → RootBelow p n f → Contains (roots p) f
    to f (inl h) = Contains-append_left p.always (process_roots p.processes) f h
    to f (inr (j, q, lt, at, h)) =
        Contains-append_right p.always (process_roots p.processes) f (process_root p.processes j q f at h)

    from : (f : ℕ) → Contains (roots p) f → RootBelow p n f
    from f h = elim (Contains-append_cases p.always (process_roots p.processes) f h) [
      | inl here ↦ inl here
      | inr there ↦ let (j, q, at, inside) = rooted_in p.processes f there in
          inr (j, q, omega (arith, within p.processes j at, le), at, inside)
    ]

-- ---- what stands where

pub gives_fit : (tops : List ℕ) (e i n mark g k : ℕ) (kind : FormKind) → InnerFit e i n kind → Gives tops kind mark g k
    → (i < g) × (g < n)
gives_fit tops e i n mark g k (Cond bs) fit (j, b, at, inside, worth) =
    let h = each_at (λ (x : Branch). (x.guard < e) × AllBetween i n x.body) bs j b fit at in
    holds_of_contained (λ x. (i < x) × (x < n)) b.body g h.1 inside
gives_fit tops e i n mark g k (Par fs) fit (inside, worth) =
    holds_of_contained (λ x. (i < x) × (x < n)) fs g fit inside
gives_fit tops e i n mark g k (Set x at v) fit none = absurd none
gives_fit tops e i n mark g k (Go l) fit none = absurd none
gives_fit tops e i n mark g k (Call l) fit none = absurd none
gives_fit tops e i n mark g k Return fit none = absurd none

pub given_inside : (p : Program) → IsSound p → (tops : List ℕ) (f : ℕ) (y : Form) (mark g k : ℕ) → IsAt p.forms f y
    → Gives tops y.kind mark g k → (f < g) × (g < length p.forms)
given_inside p s tops f y mark g k at gives =
    gives_fit tops (length p.exprs) f (length p.forms) mark g k y.kind (s.forms f y at) gives

pub root_inside : (p : Program) → IsSound p → (f : ℕ) → Contains (roots p) f → f < length p.forms
root_inside p s f h = elim (Contains-append_cases p.always (process_roots p.processes) f h) [
  | inl here ↦ holds_of_contained (λ x. x < length p.forms) p.always f s.always here
  | inr there ↦ let (j, q, at, inside) = rooted_in p.processes f there in
      holds_of_contained (λ x. x < length p.forms) q.forms f
      (each_at (λ (x : Process). AllByRecursion (λ y. y < length p.forms) x.forms) p.processes j q s.processes at)
      inside
]

pub marked_inside : (p : Program) → IsSound p → (tops : List ℕ) (f k : ℕ) → Marked p tops f k → f < length p.forms
marked_inside p s tops f k (root h) = root_inside p s f h
marked_inside p s tops f k (inner {f = c} {mark = mark} y up at gives) = (given_inside p s tops c y mark f k at gives).1

-- ---- marks

-- a greater mark gives greater ones
gives_more : (tops : List ℕ) (kind : FormKind) (mark more g k : ℕ) → mark ≤ more → Gives tops kind mark g k
    → (l : ℕ) × (k ≤ l) × Gives tops kind more g l
gives_more tops (Cond bs) mark more g k le (j, b, at, inside, inl e) =
    (more, omega (arith, e, le), (j, b, at, inside, inl refl))
gives_more tops (Cond bs) mark more g k le (j, b, at, inside, inr guard) =
    (k, omega arith, (j, b, at, inside, inr guard))
gives_more tops (Par fs) mark more g k le (inside, e) = (more, omega (arith, e, le), (inside, refl))
gives_more tops (Set x at v) mark more g k le none = absurd none
gives_more tops (Go l) mark more g k le none = absurd none
gives_more tops (Call l) mark more g k le none = absurd none
gives_more tops Return mark more g k le none = absurd none

gives_some : (tops : List ℕ) (kind : FormKind) (mark g k : ℕ) → 0 < mark → Gives tops kind mark g k → 0 < k
gives_some tops (Cond bs) mark g k some (j, b, at, inside, inl e) = omega (arith, e, some)
gives_some tops (Cond bs) mark g k some (j, b, at, inside, inr (i, c, ci, le, e)) = omega (arith, e)
gives_some tops (Par fs) mark g k some (inside, e) = omega (arith, e, some)
gives_some tops (Set x at v) mark g k some none = absurd none
gives_some tops (Go l) mark g k some none = absurd none
gives_some tops (Call l) mark g k some none = absurd none
gives_some tops Return mark g k some none = absurd none

pub marked_some : (p : Program) (tops : List ℕ) (f k : ℕ) → Marked p tops f k → 0 < k
marked_some p tops f k (root h) = omega arith
marked_some p tops f k (inner {f = c} {mark = mark} y up at gives) =
    gives_some tops y.kind mark f k (marked_some p tops c mark up) gives

-- what is known once the forms before n have marked what stands in them
pub record Marking (p : Program) (tops : List ℕ) (n : ℕ) (marks : List ℕ) : Type 0 where
  pub size : length marks ≡ length p.forms
  pub met : (f : ℕ) → (get_or marks f 0 ≡ 0) ⊎ Marked p tops f (get_or marks f 0)
  pub rooted : (f : ℕ) → Contains (roots p) f → 0 < get_or marks f 0
  pub done : (f g k : ℕ) (y : Form) → f < n → IsAt p.forms f y → 0 < get_or marks f 0
      → Gives tops y.kind (get_or marks f 0) g k → k ≤ get_or marks g 0

pub marking_roots : (p : Program) → IsSound p → (tops zeros marks : List ℕ) → zeros ≡ replicate (length p.forms) 0
    → Lifted (λ f k. Contains (roots p) f × (k ≡ 1)) zeros marks → Marking p tops 0 marks
marking_roots p s tops zeros marks e l = record {
  size = l.size ∙ size;
  met = λ f. elim (l.met f) [
    | inl same ↦ inl (same ∙ none f)
    | inr (h, one) ↦ inr (let P : ℕ → Type 0 = λ k. Marked p tops f k in subst P (sym one) (root h))
  ];
  rooted = λ f h. l.bound f 1 (omega (arith, size, root_inside p s f h)) (h, refl);
  done = λ f g k y lt. absurd (omega (arith, lt));
}
  where
    size : length zeros ≡ length p.forms
    size = ap (length {A = ℕ}) e ∙ length-replicate {A = ℕ} (length p.forms) 0

    none : (f : ℕ) → get_or zeros f 0 ≡ 0
    none f = ap (λ xs. get_or xs f 0) e ∙ zeros_at (length p.forms) f

-- a form that no clock can reach
pub marking_skip : (p : Program) (tops marks : List ℕ) (n : ℕ) → Marking p tops n marks → get_or marks n 0 ≡ 0
    → Marking p tops (n + 1) marks
marking_skip p tops marks n m none = record {
  size = m.size;
  met = m.met;
  rooted = m.rooted;
  done = λ f g k y lt at some gives. elim (cases_lt f n) [
    | inl below ↦ m.done f g k y below at some gives
    | inr above ↦ let same : f ≡ n = omega (arith, lt, above) in
        let e : get_or marks f 0 ≡ 0 = ap (λ i. get_or marks i 0) same ∙ none in absurd (omega (arith, e, some))
  ];
}

pub marking_more : (p : Program) → IsSound p → (tops old new : List ℕ) (n : ℕ) (x : Form) → Marking p tops n old
    → IsAt p.forms n x → 0 < get_or old n 0
    → Lifted (Gives tops x.kind (get_or old n 0)) old new → Marking p tops (n + 1) new
marking_more p s tops old new n x m at some l = record {
  size = l.size ∙ m.size;
  met = λ f. elim (l.met f) [ inl same ↦ kept f same (m.met f) | inr gives ↦ inr (inner x (here (m.met n)) at gives) ];
  rooted = λ f h. omega (arith, m.rooted f h, l.grown f);
  done = λ f g k y lt yf live gives. elim (cases_lt f n) [
    | inl below ↦ early f g k y below yf live gives
    | inr above ↦ late f g k y (omega (arith, lt, above)) yf gives
  ];
}
  where
    here : (get_or old n 0 ≡ 0) ⊎ Marked p tops n (get_or old n 0) → Marked p tops n (get_or old n 0)
    here (inl none) = absurd (omega (arith, none, some))
    here (inr h) = h

    kept : (f : ℕ) → get_or new f 0 ≡ get_or old f 0 → (get_or old f 0 ≡ 0) ⊎ Marked p tops f (get_or old f 0)
        → (get_or new f 0 ≡ 0) ⊎ Marked p tops f (get_or new f 0)
    kept f same (inl none) = inl (same ∙ none)
    kept f same (inr h) = let P : ℕ → Type 0 = λ k. Marked p tops f k in inr (subst P (sym same) h)

    before : (f : ℕ) → f ≤ n → get_or new f 0 ≡ get_or old f 0
    before f le = elim (l.met f) [
      | inl same ↦ same
      | inr gives ↦
          absurd (omega (arith, le, (given_inside p s tops n x (get_or old n 0) f (get_or new f 0) at gives).0))
    ]

    early : (f g k : ℕ) (y : Form) → f < n → IsAt p.forms f y → 0 < get_or new f 0
        → Gives tops y.kind (get_or new f 0) g k → k ≤ get_or new g 0
    early f g k y lt yf live gives =
        let same : get_or new f 0 ≡ get_or old f 0 = before f (omega (arith, lt)) in
        let P : ℕ → Type 0 = λ v. Gives tops y.kind v g k in
        omega (arith, m.done f g k y lt yf (omega (arith, live, same)) (subst P same gives), l.grown g)

    late : (f g k : ℕ) (y : Form) → f ≡ n → IsAt p.forms f y → Gives tops y.kind (get_or new f 0) g k
        → k ≤ get_or new g 0
    late f g k y same yf gives =
        let e : get_or new f 0 ≡ get_or old n 0 = before f (omega (arith, same)) ∙ ap (λ i. get_or old i 0) same in
        let P : Form → Type 0 = λ z. Gives tops z.kind (get_or new f 0) g k in
        let Q : ℕ → Type 0 = λ v. Gives tops x.kind v g k in
        let h : Gives tops x.kind (get_or old n 0) g k =
        subst Q e (subst P (same_at p.forms f n y x same yf at) gives) in
        l.bound g k (omega (arith, m.size, (given_inside p s tops n x (get_or old n 0) g k at h).1)) h

pub marking_done : (p : Program) (tops marks : List ℕ) (n : ℕ) → length p.forms ≤ n → Marking p tops n marks
    → AreMarks p tops marks
marking_done p tops marks n le m = record { met = m.met; bound = λ f k h. reached f k h }
  where
    reached : (f k : ℕ) → Marked p tops f k → k ≤ get_or marks f 0
    reached f k (root h) = omega (arith, m.rooted f h)
    reached f k (inner {f = c} {mark = mark} y up at gives) =
        let above : mark ≤ get_or marks c 0 = reached c mark up in
        let (l, more, given) = gives_more tops y.kind mark (get_or marks c 0) f k above gives in
        omega (
          arith,
          more,
          m.done c f l y (omega (arith, within p.forms c at, le)) at
              (omega (arith, above, marked_some p tops c mark up)) given,
        )
