-- What is known of an expression where it is counted.
use Rattle.std.proofs.Common.{◌≡◌, ◌∙◌, ℕ, zero, suc, ◌+◌, ◌*◌, ◌<◌, ◌≤◌, List, [], ◌∷◌, true, false, Bool, refl, sym}
use Rattle.std.proofs.Common.{ap, subst, arith}
use Rattle.std.proofs.Common.{length, take, map, get_or, length-append, inl, inr}
use Rattle.std.specs.Prelude.{Option, Some, None, MatchOption, ⊤, Contains, min, slice_index, slice_index_or}
use Rattle.std.specs.Prelude.{slice_get, nat_lt, if◌then◌else◌}
use Rattle.std.specs.List.{AllByRecursion}
use Rattle.std.specs.Option.{option_map}
use Rattle.std.proofs.lemmas.Option.{none-some, same_Some}
use Rattle.std.proofs.lemmas.Bool.{cases_lt}
use Rattle.mp_base.specs.declared.refusal.Place.{Place}
use Rattle.mp_base.specs.declared.op.Op.{Op}
use Rattle.mp_base.specs.Entries.{IsAt}
use Rattle.mp_base.proofs.Contents.{contains_behind, contains_head, holds_of_contained}
use Rattle.mp_program.specs.Names.{is_same}
use Rattle.mp_written.specs.declared.program.ExprKind.{ExprKind}
use Rattle.mp_written.specs.declared.program.ExprKind.TheVariants.{Number, Named, True, False, Apply, Use}
use Rattle.mp_written.specs.declared.program.Arg.{Arg}
use Rattle.mp_written.specs.declared.program.Expr.{Expr}
use Rattle.mp_written.specs.declared.program.Program.{Program}
use Rattle.mp_written.specs.Functions.{Function, functions, function_index, arg_index}
use Rattle.mp_written.specs.Tree.{operands}
use Rattle.mp_written.specs.Sound.{itself, deeper}
use Rattle.mp_written.proofs.Soundness.{sound}
use Rattle.written_meanings.specs.declared.meanings.Meaning.{Meaning}
use Rattle.written_meanings.specs.declared.meanings.Meanings.{Meanings}
use Rattle.written_meanings.specs.Meanings.{args_around, argument, usable, used, function_named}
use Rattle.written_counts.specs.declared.tally.Tally.{Tally}
use Rattle.written_counts.specs.declared.tally.Measure.{Measure}
use Rattle.written_counts.specs.Counts.{Count, body_count, count_through, function_counts, kind_count, no_count}
use Rattle.written_counts.specs.Counts.{one_of, sum_of}
use Rattle.written_counts.proofs.Sums.{weighed_none}
use Rattle.written_counts.proofs.Adding.{adds_nothing}
use Rattle.written_counts.proofs.Cuts.{cut_sum, cut_factor}
use Rattle.mp_base.proofs.Entries.{entry}
use Rattle.written_counts.specs.Tallies.{Adds, IsCapped, IsKind, IsOpen, IsReady, IsTally, cost, count_at, usable_count}
use Rattle.written_counts.proofs.Equations.{count_is}

pub number_in : (xs : List ℕ) (i : ℕ) → i < length xs → Contains xs (get_or xs i 0)
number_in [] i lt = absurd (omega (arith, lt))
number_in (x ∷ xs) zero lt = contains_head x xs
number_in (x ∷ xs) (suc i) lt = contains_behind (get_or xs i 0) x xs (number_in xs i (omega (arith, lt)))

-- neither an operator nor a use
abbrev pub IsLeaf : ExprKind → Type 0
IsLeaf (Apply op j os) = ⊥
IsLeaf (Use at x os) = ⊥
IsLeaf _ = Unit {0}

pub leaf_kind : (k : ExprKind) → ((op : Op) (j : ℕ) (os : List ℕ) → k ≡ Apply op j os → ⊥)
    → ((at : Place) (x os : List ℕ) → k ≡ Use at x os → ⊥) → IsLeaf k
leaf_kind (Number n) apply used = tt
leaf_kind (Named x) apply used = tt
leaf_kind True apply used = tt
leaf_kind False apply used = tt
leaf_kind (Apply op j os) apply used = apply op j os refl
leaf_kind (Use at x os) apply used = used at x os refl

below_more : (o : Option ℕ) (n : ℕ) → MatchOption o ⊤ (λ i. i < n) → MatchOption o ⊤ (λ i. suc i < suc n)
below_more None n h = tt
below_more (Some i) n h = omega (arith, h)

first_below : (same : Bool) (o : Option ℕ) (n : ℕ) → 0 < n → MatchOption o ⊤ (λ i. suc i < n)
    → MatchOption (if same then Some 0 else option_map suc o) ⊤ (λ i. i < n)
first_below true o n lt h = lt
first_below false None n lt h = tt
first_below false (Some i) n lt h = h

arg_within : (args : List Arg) (x : List ℕ) (n : ℕ) → length args ≤ n → MatchOption (arg_index args x) ⊤ (λ i. i < n)
arg_within [] x n le = tt
arg_within (a ∷ args) x zero le = absurd (omega (arith, le))
arg_within (a ∷ args) x (suc n) le =
    first_below (is_same a.name x) (arg_index args x) (suc n) (omega arith)
    (below_more (arg_index args x) n (arg_within args x n (omega (arith, le))))

leaf_within : (args : List Arg) (k : ExprKind) (n : ℕ) → length args ≤ n → MatchOption (argument args k) ⊤ (λ i. i < n)
leaf_within args (Named x) n le = arg_within args x n le
leaf_within args (Number v) n le = tt
leaf_within args True n le = tt
leaf_within args False n le = tt
leaf_within args (Apply op k os) n le = tt
leaf_within args (Use at x os) n le = tt

leaf_count : (mm : ExprKind → ℕ) (fs : List Function) (counts : List Count) (args : List Arg) (k : ExprKind)
    (c : ℕ → Count) → IsLeaf k → one_of (argument args k) (mm k) ≡ kind_count mm fs counts args k c
leaf_count mm fs counts args (Number n) c leaf = refl
leaf_count mm fs counts args (Named x) c leaf = refl
leaf_count mm fs counts args True c leaf = refl
leaf_count mm fs counts args False c leaf = refl
leaf_count mm fs counts args (Apply op k os) c leaf = absurd leaf
leaf_count mm fs counts args (Use at x os) c leaf = absurd leaf

-- a function that isn't there
past_index : (cs : List Count) (i : ℕ) → length cs ≤ i → slice_index_or cs i no_count ≡ no_count
past_index [] zero le = refl
past_index [] (suc i) le = refl
past_index (c ∷ cs) zero le = absurd (omega (arith, le))
past_index (c ∷ cs) (suc i) le = past_index cs i (omega (arith, le))

pub count_length : (mm : ExprKind → ℕ) (exprs : List Expr) (fs : List Function) (k : ℕ)
    → length (function_counts mm exprs fs k) ≡ k
count_length mm exprs fs zero = refl
count_length mm exprs fs (suc k) = let rest = count_length mm exprs fs k in
    omega (
      arith,
      rest,
      length-append (function_counts mm exprs fs k) (body_count mm exprs (take k fs)
          (function_counts mm exprs fs k) (slice_get fs k) ∷ []),
    )

taken : (fs : List Function) (k : ℕ) → k ≤ length fs → length (take k fs) ≡ k
taken fs zero le = refl
taken [] (suc k) le = absurd (omega (arith, le))
taken (f ∷ fs) (suc k) le = let rest = taken fs k (omega (arith, le)) in omega (arith, rest)

usable_size : (w : Program) (owner : Option ℕ) → usable_count w owner ≤ length (functions w)
    → length (usable (functions w) owner) ≡ usable_count w owner
usable_size w None le = refl
usable_size w (Some k) le = taken (functions w) k le

named_at : (fs : List Function) (x : List ℕ) (j : ℕ) → function_named fs x ≡ Some j
    → (function_index fs x ≡ j) × (j < length fs)
named_at fs x j e = by (nat_lt (function_index fs x) (length fs)) refl e
  where
    by : (b : Bool) → nat_lt (function_index fs x) (length fs) ≡ b
        → (if b then Some (function_index fs x) else None) ≡ Some j → (function_index fs x ≡ j) × (j < length fs)
    by true is h = let same = same_Some (function_index fs x) j h in
        (same, (let lt : function_index fs x < length fs = grind arith in omega (arith, lt, same)))
    by false is h = absurd (none-some j h)

named_past : (fs : List Function) (x : List ℕ) → function_named fs x ≡ None → length fs ≤ function_index fs x
named_past fs x e = elim (cases_lt (function_index fs x) (length fs)) [
  | inr le ↦ le
  | inl lt ↦ by (nat_lt (function_index fs x) (length fs)) (let t : nat_lt (function_index fs x)
      (length fs) ≡ true = grind arith in t) e
]
  where
    by : (b : Bool) → b ≡ true → (if b then Some (function_index fs x) else None) ≡ None
        → length fs ≤ function_index fs x
    by true is h = absurd (cc)
    by false is h = absurd (cc)

module _ (m : Measure) (w : Program) (ms : Meanings) (cap : ℕ) (costs : List ℕ) (ts : List Tally) (owner : Option ℕ)
    (e : ℕ) (ready : IsReady m w ms cap costs ts owner e) where
  abbrev pub fs : List Function
  fs = usable (functions w) owner

  abbrev pub counts : List Count
  counts = function_counts (cost m w) w.exprs (functions w) (usable_count w owner)

  abbrev pub args : List Arg
  args = args_around (functions w) owner

  abbrev pub c : ℕ → Count
  c = count_at m w owner

  pub count_of : (x : Expr) → IsAt w.exprs e x → c e ≡ kind_count (cost m w) fs counts args x.kind c
  count_of x at = count_is (cost m w) fs counts args w.exprs (sound w).behind e x at

  pub operand_behind : (k : ExprKind) (a : ℕ) → IsKind w e k → Contains (operands k) a → (e < a) × (a < length w.exprs)
  operand_behind k a (x, at, is) inside =
      holds_of_contained (λ b. (e < b) × (b < length w.exprs)) (operands k) a
      (subst (λ q. AllByRecursion (λ b. (e < b) × (b < length w.exprs)) (operands q)) is
      ((sound w).behind e x at)) inside

  pub operand_ready : (k : ExprKind) (a : ℕ) → IsKind w e k → Contains (operands k) a
      → IsReady m w ms cap costs ts owner a
  operand_ready k a (x, at, is) inside = record {
    inside = (operand_behind k a (x, at, is) inside).1;
    as_many = ready.as_many;
    scoped = λ d y n under here there. ready.scoped d y n
        (deeper x at (subst (λ q. Contains (operands q) a) (sym is) inside) under) here there;
    costs_are = ready.costs_are;
    within = ready.within;
    tallies = ready.tallies;
  }

  pub leaf_room : (x : Expr) (n : Meaning) (t : Tally) → IsAt w.exprs e x → IsAt ms.exprs e n → IsOpen cap w owner t
      → MatchOption n.argument ⊤ (λ i. i < length t.times)
  leaf_room x n t at there open_ =
      subst (λ o. MatchOption o ⊤ (λ i. i < length t.times)) (sym (ready.scoped e x n itself at there).argument)
      (leaf_within args x.kind (length t.times) open_.room)

  pub leaf_adds : (x : Expr) (n : Meaning) (k : ℕ) (old new : Tally) → IsAt w.exprs e x → IsAt ms.exprs e n
      → IsLeaf x.kind → Adds cap k (one_of n.argument (slice_index costs e)) old new → Adds cap k (c e) old new
  leaf_adds x n k old new at there leaf adds =
      let same : one_of n.argument (slice_index costs e) ≡ c e =
      ap (λ o. one_of o (slice_index costs e)) (ready.scoped e x n itself at there).argument
      ∙ ap (λ v. one_of (argument args x.kind) v) (ready.costs_are.each e x at)
      ∙ leaf_count (cost m w) fs counts args x.kind c leaf ∙ sym (count_of x at) in
      subst (λ d. Adds cap k d old new) same adds

  -- ---- operators

  pub operator_is : (op : Op) (j : ℕ) (os : List ℕ) → IsKind w e (Apply op j os)
      → sum_of (slice_index costs e) (map c os) ≡ c e
  operator_is op j os (x, at, is) =
      let here : c e ≡ kind_count (cost m w) fs counts args (Apply op j os) c =
      count_of x at ∙ ap (λ k. kind_count (cost m w) fs counts args k c) is in
      ap (λ v. sum_of v (map c os)) (ready.costs_are.each e x at ∙ ap (cost m w) is) ∙ sym here

  -- ---- uses

  pub use_is : (at : Place) (name os : List ℕ) → IsKind w e (Use at name os)
      → count_through (slice_index_or counts (function_index fs name) no_count) (map c os) ≡ c e
  use_is at name os (x, here, is) =
      sym (count_of x here ∙ ap (λ k. kind_count (cost m w) fs counts args k c) is)

  pub found : (at : Place) (name os : List ℕ) → IsKind w e (Use at name os) → (n : Meaning) → IsAt ms.exprs e n
      → n.function ≡ function_named fs name
  found at name os (x, here, is) n there =
      (ready.scoped e x n itself here there).function ∙ ap (λ k. used fs k) is

  pub function_there : (at : Place) (name os : List ℕ) → IsKind w e (Use at name os) → (n : Meaning)
      → IsAt ms.exprs e n → (j : ℕ) → n.function ≡ Some j → (function_index fs name ≡ j) × (j < length ts)
  function_there at name os kind n there j is =
      let (same, lt) = named_at fs name j (sym (found at name os kind n there) ∙ is) in
      let size = usable_size w owner ready.within in
      let many = ready.tallies.size in
      (same, omega (arith, lt, size, many))

  pub function_gone : (at : Place) (name os : List ℕ) → IsKind w e (Use at name os) → (n : Meaning)
      → IsAt ms.exprs e n → n.function ≡ None → slice_index_or counts (function_index fs name) no_count ≡ no_count
  function_gone at name os kind n there is =
      let le = named_past fs name (sym (found at name os kind n there) ∙ is) in
      let size = usable_size w owner ready.within in
      let many = count_length (cost m w) w.exprs (functions w) (usable_count w owner) in
      past_index counts (function_index fs name) (omega (arith, le, size, many))

-- a use of no function counts nothing

pub nothing_through : (cap k : ℕ) (cs : List Count) (t : Tally) → IsCapped cap t
    → Adds cap k (count_through no_count cs) t t
nothing_through cap k cs t capped =
    adds_nothing cap k (count_through no_count cs) t capped
    (let z = weighed_none 0 (map (λ (d : Count). d.own) cs) in omega (arith, z))
    (λ i. weighed_none 0 (map (λ (d : Count). d.times i) cs))

-- what the function of a use counts, before its operands
pub use_first : (cap k : ℕ) (f : Count) (t old : Tally) (product sum : ℕ) → IsCapped cap old → IsTally cap f t
    → product ≡ min cap (k * t.own) → sum ≡ min cap (old.own + product)
    → Adds cap k (count_through f []) old (record { own = sum; times = old.times })
use_first cap k f t old product sum capped is made summed = record {
  own =
      (let a = cut_sum cap old.own (k * t.own) in
      let b = ap (λ n. min cap (old.own + k * n)) is.own in
      let turn : k * min cap f.own ≡ min cap f.own * k = grind arith in
      let d = cut_factor cap old.own f.own k in
      let back : f.own * k ≡ k * (f.own + 0) = grind arith in
      summed ∙ ap (λ n. min cap (old.own + n)) made ∙ a ∙ b ∙ ap (λ n. min cap (old.own + n)) turn ∙ d
      ∙ ap (λ n. min cap (old.own + n)) back);
  times = λ i. (let le = capped.times i in let z : k * 0 ≡ 0 = grind arith in grind arith);
  size = refl;
}

module _ (m : Measure) (w : Program) (ms : Meanings) (cap : ℕ) (costs : List ℕ) (ts : List Tally) (owner : Option ℕ)
    (e : ℕ) (ready : IsReady m w ms cap costs ts owner e) where
  -- the tally of the function that is used
  pub function_tally : (at : Place) (name os : List ℕ) → IsKind w e (Use at name os) → (n : Meaning) → IsAt ms.exprs e n
      → (j : ℕ) → n.function ≡ Some j → (t : Tally) → t ≡ slice_index_or ts j t
      → IsTally cap (slice_index_or (function_counts (cost m w) w.exprs (functions w) (usable_count w owner))
      (function_index (usable (functions w) owner) name) no_count) t
  function_tally at name os kind n there j is t here =
      let (same, lt) = function_there m w ms cap costs ts owner e ready at name os kind n there j is in
      subst (λ i. IsTally cap (slice_index_or (function_counts (cost m w) w.exprs (functions w)
      (usable_count w owner)) i
      no_count) t) (sym same) (ready.tallies.each j t (entry ts j lt here))
