-- The whole program pays for its transfers.
use Rattle.std.proofs.Common.{
  ◌≡◌,
  inl,
  inr,
  ◌∙◌,
  ℕ,
  zero,
  suc,
  ◌+◌,
  ◌*◌,
  ◌≤◌,
  List,
  [],
  ◌∷◌,
  refl,
  sym,
  ap,
  subst,
  arith,
  length,
}
use Rattle.std.specs.Prelude.{Contains}
use Rattle.std.specs.List.{sum_by}
use Rattle.std.proofs.lemmas.List.Sums.{sum_by-cons}
use Rattle.mp_program.specs.declared.program.Def.{Def}
use Rattle.mp_program.specs.declared.program.Expr.{Expr}
use Rattle.mp_program.specs.declared.program.Process.{Process}
use Rattle.mp_program.specs.declared.program.Program.{Program}
use Rattle.mp_program.specs.Weight.{calls_in, def_weight, expr_weight, process_weight, sets_of, weight}
use Rattle.rtl_form.specs.declared.rtl.Rtl.{Rtl}
use Rattle.rtl_form.specs.Cost.{cost}
use Rattle.process_plan.specs.Bill.{
  cells_cost,
  exprs_cost,
  transfers_cost,
  def_bill,
  set_bill,
  copy_bill,
  defs_bill,
  Tally,
  cells_bill,
  exprs_bill,
  transfers_bill,
  process_bill,
  moves_bill,
  AreTallies,
  IsUsed,
  IsBilled,
}
use Rattle.process_plan.proofs.Paying.{copy_pays, def_pays, def_pays_more, process_pays, sets_counted}

processes_pay : (p : Program) (qs : List Process) (ts : List Tally) → AreTallies p qs ts
    → sum_by process_bill ts + 2 * length qs ≤ sum_by (process_weight p) qs + sum_by moves_bill ts
processes_pay p [] [] are = omega arith
processes_pay p [] (t ∷ ts) are = absurd are
processes_pay p (q ∷ qs) [] are = absurd are
processes_pay p (q ∷ qs) (t ∷ ts) (forms, depth, weighed, is, rest) =
    let now = process_pays t is in
    let later = processes_pay p qs ts rest in
    let a = sum_by-cons process_bill t ts in
    let b = sum_by-cons (process_weight p) q qs in
    let c = sum_by-cons moves_bill t ts in
    let same : 10 * t.depth * t.weighed ≡ 10 * q.depth * sum_by (calls_in p) q.forms =
    ap (λ n. 10 * n * t.weighed) depth ∙ ap (λ n. 10 * q.depth * n) weighed in
    omega (arith, now, later, a, b, c, same, forms)

copies_pay : (p : Program) (es : List Expr) → sum_by (λ (e : Expr). copy_bill p e.kind) es ≤ sum_by
    (λ (e : Expr). expr_weight p e.kind) es
copies_pay p [] = omega arith
copies_pay p (e ∷ es) =
    let a = copy_pays p e.kind in
    let b = copies_pay p es in
    omega (
      arith,
      a,
      b,
      sum_by-cons (λ (e : Expr). copy_bill p e.kind) e es,
      sum_by-cons (λ (e : Expr). expr_weight p e.kind) e es,
    )

abbrev sets_in : Program → List Def → ℕ
sets_in p ds = sum_by (λ (d : Def). set_bill d.what * sets_of p d.name) ds

abbrev weigh : Program → List Def → ℕ
weigh p ds = sum_by (λ (d : Def). def_weight d.what (sets_of p d.name)) ds

defs_pay : (p : Program) (ds : List Def) → defs_bill ds + sets_in p ds ≤ weigh p ds
defs_pay p [] = omega arith
defs_pay p (d ∷ ds) =
    let a = def_pays d.what (sets_of p d.name) in
    let b = defs_pay p ds in
    omega (
      arith,
      a,
      b,
      sum_by-cons (λ (d : Def). def_bill d.what) d ds,
      sum_by-cons (λ (d : Def). set_bill d.what * sets_of p d.name) d ds,
      sum_by-cons (λ (d : Def). def_weight d.what (sets_of p d.name)) d ds,
    )

defs_pay_more : (p : Program) (ds : List Def) (d : Def) → Contains ds d → IsUsed p d
    → defs_bill ds + sets_in p ds + 2 ≤ weigh p ds
defs_pay_more p [] d (k, lt, is) used = absurd (omega (arith, lt))
defs_pay_more p (x ∷ xs) d (zero, lt, is) used =
    let (priced, set) = subst (IsUsed p) (sym is) used in
    let a = def_pays_more x.what (sets_of p x.name) priced set in
    let b = defs_pay p xs in
    omega (
      arith,
      a,
      b,
      sum_by-cons (λ (d : Def). def_bill d.what) x xs,
      sum_by-cons (λ (d : Def). set_bill d.what * sets_of p d.name) x xs,
      sum_by-cons (λ (d : Def). def_weight d.what (sets_of p d.name)) x xs,
    )
defs_pay_more p (x ∷ xs) d (suc k, lt, is) used =
    let a = def_pays x.what (sets_of p x.name) in
    let b = defs_pay_more p xs d (k, omega (arith, lt), is) used in
    omega (
      arith,
      a,
      b,
      sum_by-cons (λ (d : Def). def_bill d.what) x xs,
      sum_by-cons (λ (d : Def). set_bill d.what * sets_of p d.name) x xs,
      sum_by-cons (λ (d : Def). def_weight d.what (sets_of p d.name)) x xs,
    )

bills : (ts : List Tally)
    → sum_by process_bill ts ≡ sum_by cells_bill ts + sum_by exprs_bill ts + sum_by transfers_bill ts
bills [] = refl
bills (t ∷ ts) =
    let rest = bills ts in
    omega (
      arith,
      rest,
      sum_by-cons process_bill t ts,
      sum_by-cons cells_bill t ts,
      sum_by-cons exprs_bill t ts,
      sum_by-cons transfers_bill t ts,
    )

pub total_pays : (p : Program) (r : Rtl) (ts : List Tally) (guards : ℕ) → IsBilled p r ts guards → cost r ≤ weight p
total_pays p r ts guards b =
    let all = processes_pay p p.processes ts b.tallies in
    let copies = copies_pay p p.exprs in
    let sets = sets_counted p.defs p.forms in
    let parts = bills ts in
    let cells = b.cells in
    let exprs = b.exprs in
    let transfers = b.transfers in
    let forms = b.forms in
    elim b.some [
      | inl some ↦ let defs = defs_pay p p.defs in omega
          (arith, all, copies, sets, parts, cells, exprs, transfers, forms, some, defs)
      | inr (d, c, used) ↦ let defs = defs_pay_more p p.defs d c used in
          omega (arith, all, copies, sets, parts, cells, exprs, transfers, forms, defs)
    ]

-- cells alone cost no more than the weight of definitions
pub cells_pay : (p : Program) (r : Rtl) → r.exprs ≡ [] → r.transfers ≡ [] → cells_cost r.cells ≤ defs_bill p.defs
    → cost r ≤ weight p
cells_pay p r no_exprs no_transfers low =
    let defs = defs_pay p p.defs in
    let exprs : exprs_cost r.exprs ≡ 0 = ap exprs_cost no_exprs in
    let transfers : transfers_cost r.cells r.transfers ≡ 0 = ap (transfers_cost r.cells) no_transfers in
    omega (arith, defs, exprs, transfers, low)
