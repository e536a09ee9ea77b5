-- What is counted of processes.
use Rattle.std.proofs.Common.{
  ◌≡◌,
  inl,
  inr,
  ℕ,
  suc,
  ◌+◌,
  ◌-◌,
  ◌*◌,
  ◌<◌,
  ◌≤◌,
  List,
  [],
  ◌∷◌,
  Bool,
  true,
  false,
  Option,
  Some,
  None,
  refl,
  sym,
  ap,
  subst,
  arith,
  length,
}
use Rattle.std.specs.Prelude.{◌&&◌, if◌then◌else◌, Contains}
use Rattle.std.specs.List.{sum_by}
use Rattle.std.proofs.lemmas.List.Sums.{sum_by-cons}
use Rattle.mp_base.specs.declared.refusal.Place.{Place}
use Rattle.mp_base.proofs.Induction.{upward}
use Rattle.mp_program.specs.declared.program.FormKind.{FormKind}
use Rattle.mp_program.specs.declared.program.FormKind.TheVariants.{Set, Cond, Par, Go, Call, Return}
use Rattle.mp_program.specs.declared.program.Form.{Form}
use Rattle.mp_program.specs.declared.program.Process.{Process}
use Rattle.mp_program.specs.declared.program.Program.{Program}
use Rattle.mp_program.specs.Weight.{calls_in}
use Rattle.mp_rules.specs.Breaking.{IsUnbroken}
use Rattle.mp_base.specs.Entries.{IsAt}
use Rattle.mp_rules.specs.Rules.{E31}
use Rattle.mp_rules.specs.Standing as standing
use Rattle.mp_rules.specs.Standing.{Under, uses_stack}
use Rattle.mp_base.proofs.Entries.{contains_from_get, one_entry}
use Rattle.mp_base.proofs.Lists.{empty_of}
use Rattle.mp_rules.proofs.Sequences.{under_more}
use Rattle.rtl_form.specs.declared.rtl.RtlExpr.{RtlExpr}
use Rattle.process_plan.specs.declared.role.Role.{Role}
use Rattle.process_plan.specs.declared.enable.Enable.{Enable}
use Rattle.process_plan.specs.declared.enable.Origin.{Origin}
use Rattle.process_plan.specs.declared.enable.Origin.TheVariants.{At}
use Rattle.process_plan.specs.Active.{IsRoot}
use Rattle.process_plan.specs.Bill.{IsTally, AreTallies, cells_bill}
use Rattle.process_plan.specs.Enables.{HasEnable, AreEnables}
use Rattle.process_plan.specs.Plan.{is_call}
use Rattle.process_plan.proofs.Census as census
use Rattle.process_plan.proofs.Keeping.{keeps_36}
use Rattle.process_plan.proofs.Members.{zero_or_more}
use Rattle.process_plan.proofs.Enables.{inside_inner}
use Rattle.process_layout.specs.Counts.{is_of, count_of, returns_of, tally_of, tallies_of}
use Rattle.process_layout.proofs.Returning.{returns_same}
use Rattle.process_layout.proofs.Origins.{own_origin}

-- ---- where forms with enables stand

-- a form with an enable stands under a form with its origin
abbrev IsUnderRoot : Program → List (Option Enable) → ℕ → Type 0
IsUnderRoot p enables f = (o : Origin) (a : ℕ) → HasEnable enables f o a → (r : ℕ) × IsRoot p o r × Under p r f

enabled_under : (p : Program) (exprs : List RtlExpr) (roles : List Role) (enables : List (Option Enable))
    → AreEnables p exprs roles enables → (f : ℕ) → IsUnderRoot p enables f
enabled_under p exprs roles enables are = upward (IsUnderRoot p enables) (λ f below o a has.
    elim (are.reasons f o a has) as (λ _. (r : ℕ) × IsRoot p o r × Under p r f) [
      | inl (root, is) ↦ (f, root, standing.itself)
      | inr (g, y, b, at_y, lt, has_g, stands) ↦
          let (r, root, under) = below g lt o b has_g in
          (r, root, under_more p r g f y under at_y (inside_inner y.kind f stands))
    ])

-- ---- calls, and the depth of the stack

-- a form that is counted
abbrev IsCounted : (FormKind → Bool) → ℕ → List Form → List (Option Enable) → Type 0
IsCounted test k ys es = (f i a : ℕ) × (y : Form) × IsAt ys f y × (test y.kind ≡ true) × HasEnable es f (At k i) a

counted_first : (test : FormKind → Bool) (k : ℕ) (y : Form) (ys : List Form) (e : Enable) (es : List (Option Enable))
    → is_of k e.origin ≡ true → test y.kind ≡ true → IsCounted test k (y ∷ ys) (Some e ∷ es)
counted_first test k y ys e es of_k passes =
    let (i, is) = own_origin k e.origin of_k in
    let same : Some e ≡ Some (record { origin = At k i; expr = e.expr }) =
    ap (λ (o : Origin). Some (record { origin = o; expr = e.expr })) is in
    (0, i, e.expr, y, refl, passes, ap Some same)

counted_later : (test : FormKind → Bool) (k : ℕ) (y : Form) (ys : List Form) (e : Option Enable)
    (es : List (Option Enable)) → IsCounted test k ys es → IsCounted test k (y ∷ ys) (e ∷ es)
counted_later test k y ys e es (f, i, a, z, at_z, passes, has) = (suc f, i, a, z, at_z, passes, has)

one_counted : (test : FormKind → Bool) (k : ℕ) (ys : List Form) (es : List (Option Enable))
    → 0 < count_of test k ys es → IsCounted test k ys es
one_counted test k [] es lt = absurd (omega (arith, lt))
one_counted test k (y ∷ ys) [] lt = absurd (omega (arith, lt))
one_counted test k (y ∷ ys) (None ∷ es) lt = counted_later test k y ys None es (one_counted test k ys es lt)
one_counted test k (y ∷ ys) (Some e ∷ es) lt =
    pick (is_of k e.origin) (test y.kind) refl refl lt (λ some. counted_later test k y ys (Some e) es
    (one_counted test k ys es some))
  where
    pick : (a b : Bool) → is_of k e.origin ≡ a → test y.kind ≡ b
        → 0 < (if a && b then 1 else 0) + count_of test k ys es
        → (0 < count_of test k ys es → IsCounted test k (y ∷ ys) (Some e ∷ es))
        → IsCounted test k (y ∷ ys) (Some e ∷ es)
    pick true true of_k passes lt rest = counted_first test k y ys e es of_k passes
    pick true false of_k fails lt rest = rest (omega (arith, lt))
    pick false b of_none h lt rest = rest (omega (arith, lt))

call_uses : (k : FormKind) → is_call k ≡ true → uses_stack k ≡ true
call_uses (Call l) h = refl
call_uses (Set x at value) h = absurd (cc)
call_uses (Cond bs) h = absurd (cc)
call_uses (Par fs) h = absurd (cc)
call_uses (Go l) h = absurd (cc)
call_uses Return h = absurd (cc)

module _ (p : Program) (unbroken : IsUnbroken p) where
  keeps_31 : (at : Place) → E31 p at → ⊥
  keeps_31 at broken = unbroken 31 at (inr (inr (inr (inr (inr (inr (inr (inr (inr (inr (inr (inl
      (refl, broken)))))))))))))

  module _ (exprs : List RtlExpr) (roles : List Role) (enables : List (Option Enable))
      (are : AreEnables p exprs roles enables) where
    -- a process with a call has a stack
    stack_there : (k : ℕ) (q : Process) → IsAt p.processes k q → 0 < count_of is_call k p.forms enables → 0 < q.depth
    stack_there k q at_q lt =
        let (f, i, a, y, at_y, calls, has) = one_counted is_call k p.forms enables lt in
        let (r, (z, at_z, at_r), under) = enabled_under p exprs roles enables are f (At k i) a has in
        let same : z ≡ q = one_entry p.processes k z q at_z at_q in
        let root : Contains q.forms r =
        subst (λ (x : Process). Contains x.forms r) same (contains_from_get z.forms i r at_r) in
        elim (zero_or_more q.depth) [
          | inl none ↦ absurd (keeps_31 y.place (
            k,
            q,
            f,
            y,
            at_q,
            none,
            (r, root, under, at_y),
            call_uses y.kind calls,
            refl,
          ))
          | inr some ↦ some
        ]

    is_tally : (k : ℕ) (q : Process) → IsAt p.processes k q
        → count_of is_call k p.forms enables ≤ sum_by (calls_in p) q.forms → IsTally (tally_of p enables k q)
    is_tally k q at_q called = record {
      some = elim (zero_or_more (length q.forms)) [
        | inl none ↦ absurd (keeps_36 p unbroken q.place (k, q, at_q, empty_of q.forms none, refl))
        | inr some ↦ some
      ];
      few = elim (zero_or_more (length q.forms)) [
        | inl none ↦ absurd (keeps_36 p unbroken q.place (k, q, at_q, empty_of q.forms none, refl))
        | inr some ↦
            let same = returns_same p q in
            let few = census.returns_few p q (length q.forms - 1) in
            omega (arith, some, same, few)
      ];
      each = let same = returns_same p q in let each = census.returns_weighed p q in omega (arith, same, each);
      all = called;
      deep = λ some. stack_there k q at_q some;
    }

    tallies : (at : ℕ) (qs : List Process)
        → ((k : ℕ) (q : Process) → IsAt qs k q → IsTally (tally_of p enables (at + k) q))
        → AreTallies p qs (tallies_of p enables at qs)
    tallies at [] each = tt
    tallies at (q ∷ qs) each =
        let here : at + 0 ≡ at = omega arith in (
          refl,
          refl,
          refl,
          subst (λ k. IsTally (tally_of p enables k q)) here (each 0 q refl),
          tallies (suc at) qs (λ k x at_x.
              let next : at + suc k ≡ suc at + k = omega arith in
              subst (λ n. IsTally (tally_of p enables n x)) next (each (suc k) x at_x)),
        )

    -- the tallies of all processes
    pub all_tallies : ((k : ℕ) (q : Process) → IsAt p.processes k q
        → count_of is_call k p.forms enables ≤ sum_by (calls_in p) q.forms)
        → AreTallies p p.processes (tallies_of p enables 0 p.processes)
    all_tallies called = tallies 0 p.processes (λ k q at_q.
        let same : 0 + k ≡ k = omega arith in
        subst (λ n. IsTally (tally_of p enables n q)) (sym same) (is_tally k q at_q (called k q at_q)))

-- ---- the cells of processes

pub cells_billed : (p : Program) (enables : List (Option Enable)) (at : ℕ) (qs : List Process)
    → sum_by (λ (q : Process). 7 * (length q.forms - 1) + 7 * (q.depth * census.returns_to p q)) qs
    ≡ sum_by cells_bill (tallies_of p enables at qs)
cells_billed p enables at [] = refl
cells_billed p enables at (q ∷ qs) =
    let here : q.depth * census.returns_to p q ≡ q.depth * returns_of p q.forms =
    ap (λ n. q.depth * n) (returns_same p q) in
    let one = sum_by-cons (λ (x : Process). 7 * (length x.forms - 1) + 7 * (x.depth * census.returns_to p x)) q qs in
    let two = sum_by-cons cells_bill (tally_of p enables at q) (tallies_of p enables (suc at) qs) in
    let rest = cells_billed p enables (suc at) qs in
    omega (arith, here, one, two, rest)
