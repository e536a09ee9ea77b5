-- The weight of a program pays for its transfers.
use Rattle.std.proofs.Common.{
  ◌≡◌,
  ℕ,
  zero,
  suc,
  ◌+◌,
  ◌-◌,
  ◌*◌,
  ◌<◌,
  ◌≤◌,
  List,
  [],
  ◌∷◌,
  true,
  cond,
  refl,
  sym,
  ap,
  subst,
  arith,
  length,
  max,
  count_by,
  suc-mul,
  mul_assoc,
}
use Rattle.std.specs.Prelude.{nat_lt}
use Rattle.std.specs.List.{sum_by}
use Rattle.std.proofs.Math.Nat.{mul-add, mul-le-mul_left}
use Rattle.std.proofs.lemmas.Bool.{ltb-true}
use Rattle.std.proofs.lemmas.List.Sums.{sum_by-cons}
use Rattle.std.proofs.lemmas.Slice.Eq.{bytes_eq-Decides}
use Rattle.mp_base.specs.declared.op.Op.{Op}
use Rattle.mp_base.specs.declared.op.Op.TheVariants.{
  Add,
  Sub,
  Inc,
  Dec,
  WordAnd,
  WordOr,
  WordXor,
  WordNot,
  Left,
  Right,
  And,
  Or,
  Nor,
  Nand,
  Xor,
  Not,
  Bit,
  Zero,
  Equal,
  Less,
}
use Rattle.mp_base.proofs.Induction.{by_test}
use Rattle.mp_program.specs.declared.program.ExprKind.{ExprKind}
use Rattle.mp_program.specs.declared.program.ExprKind.TheVariants as source
use Rattle.mp_program.specs.declared.program.FormKind.{FormKind}
use Rattle.mp_program.specs.declared.program.FormKind.TheVariants.{Set, Cond, Par, Go, Call, Return}
use Rattle.mp_program.specs.declared.program.What.{What}
use Rattle.mp_program.specs.declared.program.What.TheVariants.{
  Power,
  Ground,
  Phia,
  Phib,
  Phic,
  Constant,
  Register,
  Flag,
  Port,
  Signal,
}
use Rattle.mp_program.specs.declared.program.Way.TheVariants.{Input, Output, Internal}
use Rattle.mp_program.specs.declared.program.Def.{Def}
use Rattle.mp_program.specs.declared.program.Form.{Form}
use Rattle.mp_program.specs.declared.program.Program.{Program}
use Rattle.mp_program.specs.Names.{is_same}
use Rattle.mp_program.specs.Weight.{op_weight, expr_weight, def_weight, is_set_of}
use Rattle.rtl_form.specs.Cost.{op_cost}
use Rattle.process_plan.specs.Bill.{
  form_bill,
  def_bill,
  set_bill,
  named_bill,
  copy_bill,
  Tally,
  IsTally,
  first_bill,
  process_bill,
}

-- ---- an item each

op_pays : (op : Op) (n : ℕ) → op_cost op n ≤ op_weight op n
op_pays Add n = omega arith
op_pays Sub n = omega arith
op_pays Inc n = omega arith
op_pays Dec n = omega arith
op_pays WordAnd n = omega arith
op_pays WordOr n = omega arith
op_pays WordXor n = omega arith
op_pays WordNot n = omega arith
op_pays Left n = omega arith
op_pays Right n = omega arith
op_pays And n = omega arith
op_pays Or n = omega arith
op_pays Nor n = omega arith
op_pays Nand n = omega arith
op_pays Xor n = omega arith
op_pays Not n = omega arith
op_pays Bit n = omega arith
op_pays Zero n = omega arith
op_pays Equal n = omega arith
op_pays Less n = omega arith

-- an expression pays for its copy
pub copy_pays : (p : Program) (k : ExprKind) → copy_bill p k ≤ expr_weight p k
copy_pays p (source.Number n) = omega arith
copy_pays p (source.Named x) = omega arith
copy_pays p source.True = omega arith
copy_pays p source.False = omega arith
copy_pays p (source.Apply op k args) = op_pays op (length args)

-- a definition with s `setq` of it pays for its cell and s transfers to it
pub def_pays : (w : What) (s : ℕ) → def_bill w + set_bill w * s ≤ def_weight w s
def_pays Power s = omega arith
def_pays Ground s = omega arith
def_pays Phia s = omega arith
def_pays Phib s = omega arith
def_pays Phic s = omega arith
def_pays (Constant c) s = omega arith
def_pays Register s = omega arith
def_pays Flag s = omega arith
def_pays (Port Input) s = omega arith
def_pays (Port Output) s = omega arith
def_pays (Port Internal) s = omega arith
def_pays (Signal Input) s = omega arith
def_pays (Signal Output) s = omega arith
def_pays (Signal Internal) s = omega arith

-- one that has a `setq` pays 2 more, for the expression that is always true
pub def_pays_more : (w : What) (s : ℕ) → 0 < set_bill w → 0 < s → def_bill w + set_bill w * s + 2 ≤ def_weight w s
def_pays_more Power s used some = absurd (omega (arith, used))
def_pays_more Ground s used some = absurd (omega (arith, used))
def_pays_more Phia s used some = absurd (omega (arith, used))
def_pays_more Phib s used some = absurd (omega (arith, used))
def_pays_more Phic s used some = absurd (omega (arith, used))
def_pays_more (Constant c) s used some = absurd (omega (arith, used))
def_pays_more Register s used some = omega (arith, some)
def_pays_more Flag s used some = omega (arith, some)
def_pays_more (Port Input) s used some = absurd (omega (arith, used))
def_pays_more (Port Output) s used some = omega (arith, some)
def_pays_more (Port Internal) s used some = omega (arith, some)
def_pays_more (Signal Input) s used some = absurd (omega (arith, used))
def_pays_more (Signal Output) s used some = omega (arith, some)
def_pays_more (Signal Internal) s used some = omega (arith, some)

-- a `cond` pays for its guards, and 1 more
pub cond_pays : (n : ℕ) → (4 * n - 2) + 1 ≤ 1 + 4 * n
cond_pays n = omega arith

-- a process with its moves and a `cond` for each top-level form that is parted pays for all that it becomes, and 2 more
pub process_pays : (t : Tally) → IsTally t
    → process_bill t + 2 ≤ (10 + 10 * t.forms + 10 * t.depth * t.weighed) + 2 * (t.goes + t.calls + t.backs) + t.parted
process_pays t is =
    let n = t.forms in
    let pushed : 9 * (t.depth * t.places) + t.calls ≤ 10 * (t.depth * t.weighed) =
    let a : t.depth * t.places ≤ t.depth * t.weighed = mul-le-mul_left t.depth is.each in
    let b : t.calls ≤ t.depth * t.weighed = deep_calls t.calls t.depth t.weighed is.all is.deep in
    omega (arith, a, b) in
    let first : first_bill n ≤ n = first_low n in
    let few = is.few in
    let some = is.some in
    let shape : 10 * t.depth * t.weighed ≡ 10 * (t.depth * t.weighed) = mul_assoc 10 t.depth t.weighed in
    omega (arith, pushed, first, few, some, shape)
  where
    first_low : (n : ℕ) → first_bill n ≤ n
    first_low n = by_test (nat_lt 1 n)
        (λ h. let lt : 1 < n = ltb-true 1 n h in subst (λ b. cond b (max 2 (n - 1)) 0 ≤ n) (sym h) (omega (arith, lt)))
        (λ h. subst (λ b. cond b (max 2 (n - 1)) 0 ≤ n) (sym h) (omega arith))

    deep_calls : (k d c : ℕ) → k ≤ c → (0 < k → 0 < d) → k ≤ d * c
    deep_calls zero d c le deep = omega arith
    deep_calls (suc k) zero c le deep = let h = deep (omega arith) in absurd (omega (arith, h))
    deep_calls (suc k) (suc d) c le deep = let e : c ≤ suc d * c = omega (arith, suc-mul d c) in omega (arith, e, le)

-- ---- the transfers of all `setq`

one_set : (ds : List Def) (x : List ℕ) → named_bill ds x ≤ sum_by
    (λ (d : Def). set_bill d.what * cond (is_same x d.name) 1 0) ds
one_set [] x = omega arith
one_set (d ∷ ds) x =
    let total = sum_by-cons (λ (y : Def). set_bill y.what * cond (is_same x y.name) 1 0) d ds in
    let rest = one_set ds x in
    by_test (is_same d.name x)
    (λ h.
    let same : is_same x d.name ≡ true = (bytes_eq-Decides x d.name).1 (sym ((bytes_eq-Decides d.name x).0 h)) in
    let e : named_bill (d ∷ ds) x ≡ set_bill d.what = ap (λ b. cond b (set_bill d.what) (named_bill ds x)) h in
    let f : set_bill d.what * cond (is_same x d.name) 1 0 ≡ set_bill d.what * 1 =
    ap (λ b. set_bill d.what * cond b 1 0) same in
    omega (arith, total, e, f))
    (λ h.
    let e : named_bill (d ∷ ds) x ≡ named_bill ds x = ap (λ b. cond b (set_bill d.what) (named_bill ds x)) h in
    omega (arith, total, e, rest))

form_set : (ds : List Def) (k : FormKind) → form_bill ds k ≤ sum_by
    (λ (d : Def). set_bill d.what * cond (is_set_of d.name k) 1 0) ds
form_set ds (Set x at v) = one_set ds x
form_set ds (Cond bs) = omega arith
form_set ds (Par fs) = omega arith
form_set ds (Go l) = omega arith
form_set ds (Call l) = omega arith
form_set ds Return = omega arith

spread : (ds : List Def) (b : Def → ℕ) (n : Def → ℕ)
    → sum_by (λ (d : Def). set_bill d.what * b d) ds + sum_by (λ (d : Def). set_bill d.what * n d) ds
    ≡ sum_by (λ (d : Def). set_bill d.what * (b d + n d)) ds
spread [] b n = refl
spread (d ∷ ds) b n =
    let x = sum_by-cons (λ (y : Def). set_bill y.what * b y) d ds in
    let y = sum_by-cons (λ (y : Def). set_bill y.what * n y) d ds in
    let z = sum_by-cons (λ (y : Def). set_bill y.what * (b y + n y)) d ds in
    let rest = spread ds b n in
    let m = mul-add (set_bill d.what) (b d) (n d) in
    omega (arith, x, y, z, rest, m)

same_sum : (ds : List Def) (f g : Def → ℕ) → ((d : Def) → f d ≡ g d) → sum_by f ds ≡ sum_by g ds
same_sum [] f g h = refl
same_sum (d ∷ ds) f g h = let a = h d in let b = same_sum ds f g h in
    omega (arith, a, b, sum_by-cons f d ds, sum_by-cons g d ds)

-- the definitions count each `setq` that has a transfer
pub sets_counted : (ds : List Def) (fs : List Form)
    → sum_by (λ (f : Form). form_bill ds f.kind) fs ≤ sum_by
    (λ (d : Def). set_bill d.what * count_by (λ (f : Form). is_set_of d.name f.kind) fs) ds
sets_counted ds [] = omega arith
sets_counted ds (f ∷ fs) =
    let total = sum_by-cons (λ (y : Form). form_bill ds y.kind) f fs in
    let rest = sets_counted ds fs in
    let now = form_set ds f.kind in
    let more = spread ds (λ (d : Def). cond (is_set_of d.name f.kind) 1 0)
    (λ (d : Def). count_by (λ (y : Form). is_set_of d.name y.kind) fs) in
    let each = same_sum ds (λ (d : Def). set_bill d.what *
    (cond (is_set_of d.name f.kind) 1 0 + count_by (λ (y : Form). is_set_of d.name y.kind) fs))
    (λ (d : Def). set_bill d.what * count_by (λ (y : Form). is_set_of d.name y.kind) (f ∷ fs))
    (λ d. ap (λ n. set_bill d.what * n) (sym (sum_by-cons (λ (y : Form). cond (is_set_of d.name y.kind) 1 0) f fs))) in
    omega (arith, total, rest, now, more, each)
