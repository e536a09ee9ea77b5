-- What a program's type says, from the test to each index.
use Rattle.std.proofs.Common.{◌≡◌, ℕ, zero, suc, ◌+◌, ◌<◌, List, [], ◌∷◌, Bool, true, sym, subst, length, arith, get_or}
use Rattle.std.specs.Prelude.{◌&&◌, nat_lt, nat_le}
use Rattle.std.specs.List.{list_all, AllByRecursion}
use Rattle.std.proofs.lemmas.Bool.{ltb-true, leb-true, and_parts}
use Rattle.mp_program.specs.declared.program.ExprKind.{ExprKind}
use Rattle.mp_program.specs.declared.program.ExprKind.TheVariants.{Number, Named, True, False, Apply}
use Rattle.mp_program.specs.declared.program.FormKind.{FormKind}
use Rattle.mp_program.specs.declared.program.FormKind.TheVariants.{Set, Cond, Par, Go, Call, Return}
use Rattle.mp_program.specs.declared.program.Branch.{Branch}
use Rattle.mp_program.specs.declared.program.Expr.{Expr}
use Rattle.mp_program.specs.declared.program.Form.{Form}
use Rattle.mp_program.specs.declared.program.Label.{Label}
use Rattle.mp_program.specs.declared.program.Process.{Process}
use Rattle.mp_program.specs.declared.program.Program.{Program}
use Rattle.mp_program.specs.Fits.{is_symbol, all_behind, expr_fits, form_fits, exprs_fit, forms_fit, def_fits}
use Rattle.mp_base.specs.Apply.{takes}
use Rattle.mp_program.specs.Fits.{process_fits}
use Rattle.mp_program.specs.Sound.{AllBetween, ArgsFit, InnerFit, IsSound}
use Rattle.mp_base.proofs.Entries.{read_of}

all_by : {X : Type 0} (P : X → Type 0) (test : X → Bool) → ((x : X) → test x ≡ true → P x) → (xs : List X)
    → list_all test xs ≡ true → AllByRecursion P xs
all_by P test step [] h = tt
all_by P test step (x ∷ xs) h = let here = and_parts (test x) (list_all test xs) h in
    (step x here.0, all_by P test step xs here.1)

between : (i n : ℕ) (ks : List ℕ) → all_behind i n ks ≡ true → AllBetween i n ks
between i n ks h =
    all_by (λ k. (i < k) × (k < n)) (λ k. nat_lt i k && nat_lt k n)
    (λ k t. let here = and_parts (nat_lt i k) (nat_lt k n) t in (ltb-true i k here.0, ltb-true k n here.1)) ks h

below : (n : ℕ) (ks : List ℕ) → list_all (λ k. nat_lt k n) ks ≡ true → AllByRecursion (λ k. k < n) ks
below n ks h = all_by (λ k. k < n) (λ k. nat_lt k n) (λ k t. ltb-true k n t) ks h

args_fit : (n i : ℕ) (k : ExprKind) → expr_fits n i k ≡ true → ArgsFit i n k
args_fit n i (Number v) h = tt
args_fit n i (Named x) h = tt
args_fit n i True h = tt
args_fit n i False h = tt
args_fit n i (Apply op index args) h =
    let here = and_parts (takes op (length args)) (all_behind i n args) h in (here.0, between i n args here.1)

inner_fit : (e n i : ℕ) (k : FormKind) → form_fits e n i k ≡ true → InnerFit e i n k
inner_fit e n i (Set x at value) h = ltb-true value e ((and_parts (is_symbol x) (nat_lt value e) h).1)
inner_fit e n i (Cond branches) h =
    all_by (λ (b : Branch). (b.guard < e) × AllBetween i n b.body)
    (λ (b : Branch). nat_lt b.guard e && all_behind i n b.body)
    (λ b t. let here = and_parts (nat_lt b.guard e) (all_behind i n b.body) t in
    (ltb-true b.guard e here.0, between i n b.body here.1)) branches h
inner_fit e n i (Par forms) h = between i n forms h
inner_fit e n i (Go label) h = tt
inner_fit e n i (Call label) h = tt
inner_fit e n i Return h = tt

expr_at : (n from : ℕ) (xs : List Expr) → exprs_fit n from xs ≡ true → (i : ℕ) (x : Expr) → i < length xs
    → x ≡ get_or xs i x → ArgsFit (from + i) n x.kind
expr_at n from [] h i x lt is = absurd (omega arith)
expr_at n from (y ∷ ys) h zero x lt is =
    let e : from + zero ≡ from = omega arith in
    let fits : ArgsFit from n y.kind =
    args_fit n from y.kind ((and_parts (expr_fits n from y.kind) (exprs_fit n (suc from) ys) h).0) in
    subst (λ j. ArgsFit j n x.kind) (sym e) (subst (λ (z : Expr). ArgsFit from n z.kind) (sym is) fits)
expr_at n from (y ∷ ys) h (suc i) x lt is =
    let e : suc from + i ≡ from + suc i = omega arith in
    subst (λ j. ArgsFit j n x.kind) e
    (expr_at n (suc from) ys ((and_parts (expr_fits n from y.kind) (exprs_fit n (suc from) ys) h).1) i x
    (omega (arith, lt)) is)

form_at : (e n from : ℕ) (xs : List Form) → forms_fit e n from xs ≡ true → (i : ℕ) (x : Form) → i < length xs
    → x ≡ get_or xs i x → InnerFit e (from + i) n x.kind
form_at e n from [] h i x lt is = absurd (omega arith)
form_at e n from (y ∷ ys) h zero x lt is =
    let same : from + zero ≡ from = omega arith in
    let fits : InnerFit e from n y.kind =
    inner_fit e n from y.kind ((and_parts (form_fits e n from y.kind) (forms_fit e n (suc from) ys) h).0) in
    subst (λ j. InnerFit e j n x.kind) (sym same) (subst (λ (z : Form). InnerFit e from n z.kind) (sym is) fits)
form_at e n from (y ∷ ys) h (suc i) x lt is =
    let same : suc from + i ≡ from + suc i = omega arith in
    subst (λ j. InnerFit e j n x.kind) same
    (form_at e n (suc from) ys ((and_parts (form_fits e n from y.kind) (forms_fit e n (suc from) ys) h).1) i x
    (omega (arith, lt)) is)

processes_inside : (n : ℕ) (qs : List Process) → list_all (process_fits n) qs ≡ true
    → AllByRecursion (λ (q : Process). AllByRecursion (λ f. f < n) q.forms) qs
processes_inside n qs h =
    all_by (λ (q : Process). AllByRecursion (λ f. f < n) q.forms) (process_fits n)
    (λ q t. below n q.forms
    ((and_parts
    (is_symbol q.name && list_all (λ (l : Label). is_symbol l.name && nat_le l.before (length q.forms)) q.labels)
    (list_all (λ f. nat_lt f n) q.forms) t).1)) qs h

-- each program is sound
pub sound : (p : Program) → IsSound p
sound p =
    let e = length p.exprs in
    let n = length p.forms in
    let t0 =
    and_parts
    (nat_le 1 p.width && nat_le p.width 64 && is_symbol p.name && list_all def_fits p.defs && exprs_fit e 0 p.exprs
    && forms_fit e n 0 p.forms && list_all (λ f. nat_lt f n) p.always) (list_all (process_fits n) p.processes) p.fits in
    let t1 =
    and_parts
    (nat_le 1 p.width && nat_le p.width 64 && is_symbol p.name && list_all def_fits p.defs && exprs_fit e 0 p.exprs
    && forms_fit e n 0 p.forms) (list_all (λ f. nat_lt f n) p.always) t0.0 in
    let t2 =
    and_parts
    (nat_le 1 p.width && nat_le p.width 64 && is_symbol p.name && list_all def_fits p.defs && exprs_fit e 0 p.exprs)
    (forms_fit e n 0 p.forms) t1.0 in
    let t3 =
    and_parts (nat_le 1 p.width && nat_le p.width 64 && is_symbol p.name && list_all def_fits p.defs)
    (exprs_fit e 0 p.exprs) t2.0 in
    let t4 = and_parts (nat_le 1 p.width && nat_le p.width 64 && is_symbol p.name) (list_all def_fits p.defs) t3.0 in
    let t5 = and_parts (nat_le 1 p.width && nat_le p.width 64) (is_symbol p.name) t4.0 in
    let t6 = and_parts (nat_le 1 p.width) (nat_le p.width 64) t5.0 in
    record {
      width = (leb-true 1 p.width t6.0, leb-true p.width 64 t6.1);
      exprs = λ i x at. let same : 0 + i ≡ i = omega arith in let (lt, is) = read_of p.exprs i x at in
          subst (λ j. ArgsFit j e x.kind) same (expr_at e 0 p.exprs t3.1 i x lt is);
      forms = λ i x at. let same : 0 + i ≡ i = omega arith in let (lt, is) = read_of p.forms i x at in
          subst (λ j. InnerFit e j n x.kind) same (form_at e n 0 p.forms t2.1 i x lt is);
      always = below n p.always t1.1;
      processes = processes_inside n p.processes t0.1;
    }
