-- The greatest weights of what expressions mention.
use Rattle.std.proofs.Common.{◌≡◌, ◌≢◌, inl, inr, ℕ, suc, ◌+◌, ◌<◌, ◌≤◌, List, [], ◌∷◌, Bool, true, false, refl, sym}
use Rattle.std.proofs.Common.{◌∙◌, ap, length, arith, get_or}
use Rattle.std.specs.Prelude.{◌||◌, slice_index, slice_set, Contains}
use Rattle.std.specs.List.{list_any}
use Rattle.std.proofs.lemmas.Bool.{cases_eq}
use Rattle.std.proofs.lemmas.List.{get_or-set_same, get_or-set_other, length-set}
use Rattle.mp_base.specs.declared.op.Op.{Op}
use Rattle.mp_program.specs.declared.program.ExprKind.TheVariants.{Number, Named, True, False, Apply}
use Rattle.mp_program.specs.declared.program.ExprKind.{ExprKind}
use Rattle.mp_program.specs.declared.program.Def.{Def}
use Rattle.mp_program.specs.declared.program.Expr.{Expr}
use Rattle.mp_program.specs.declared.program.Program.{Program}
use Rattle.mp_program.specs.Names.{is_same, index_of}
use Rattle.mp_program.specs.Reads.{mentions, kind_mentions}
use Rattle.mp_program.specs.Sound.{AllBetween}
use Rattle.mp_program.proofs.Definitions.{is_same_of, same_is}
use Rattle.name_meanings.specs.declared.meaning.Meanings.{Meanings}
use Rattle.name_meanings.specs.Meaning.{AreMeanings}
use Rattle.mp_base.specs.Entries.{IsAt}
use Rattle.mp_base.proofs.Contents.{holds_of_contained, any_contained}
use Rattle.mp_order.specs.Demands.{IsDriven, OwnNames, WeighsDriven, AreTops}
use Rattle.mp_order.proofs.Names.{meant}

-- what mentions and sums of tests say
pub any_of : {X : Type 0} (test : X → Bool) (xs : List X) → list_any test xs ≡ true
    → (x : X) × Contains xs x × (test x ≡ true)
any_of test [] h = absurd (cc)
any_of {X} test (x ∷ xs) h = by_first (test x) refl h (λ r. any_of test xs r)
  where
    by_first : (b : Bool) → test x ≡ b → (b || list_any test xs) ≡ true
        → (list_any test xs ≡ true → (y : X) × Contains xs y × (test y ≡ true))
        → (y : X) × Contains (x ∷ xs) y × (test y ≡ true)
    by_first true e h rest = (x, (0, omega arith, refl), e)
    by_first false e h rest = let (y, (k, lt, is), t) = rest h in (y, (suc k, omega (arith, lt), is), t)

-- top is the greatest weight of a driven definition that passes
pub record IsTop (p : Program) (weights : List ℕ) (passes : List ℕ → Bool) (top : ℕ) : Type 0 where
  pub bound : (d : ℕ) (x : Def) → IsDriven p d x → passes x.name ≡ true → slice_index weights d ≤ top
  pub met : 0 < top → (d : ℕ) × (x : Def) × IsDriven p d x × (passes x.name ≡ true) × (slice_index weights d ≡ top)

pub tops_none : (p : Program) (weights tops : List ℕ) → length tops ≡ length p.exprs
    → AreTops p weights (length p.exprs) tops
tops_none p weights tops size = record {
  size = size;
  bound = λ e d x le lt. absurd (omega (arith, le, lt));
  met = λ e le lt. absurd (omega (arith, le, lt));
}

pub tops_more : (p : Program) (weights tops : List ℕ) (n e top : ℕ) → AreTops p weights n tops → n ≡ e + 1
    → e < length p.exprs
    → IsTop p weights (λ name. mentions p name e) top → AreTops p weights e (slice_set tops e top)
tops_more p weights tops n e top t next lt here = record {
  size = length-set tops e top ∙ t.size;
  bound = λ f d x le fl driven m. elim (cases_eq f e) [
    | inl same ↦ omega (arith, now f same, here.bound d x driven (ap (λ i. mentions p x.name i) (sym same) ∙ m))
    | inr ne ↦ omega (arith, other f ne, t.bound f d x (omega (arith, le, next, ne)) fl driven m)
  ];
  met = λ f le fl some. elim (cases_eq f e) [
    | inl same ↦ let (d, x, driven, m, w) = here.met (omega (arith, some, now f same)) in
        (d, x, driven, ap (λ i. mentions p x.name i) same ∙ m, w ∙ sym (now f same))
    | inr ne ↦ let (d, x, driven, m, w) = t.met f (omega (arith, le, next, ne)) fl (omega (arith, some, other f ne)) in
        (d, x, driven, m, w ∙ sym (other f ne))
  ];
}
  where
    now : (f : ℕ) → f ≡ e → get_or (slice_set tops e top) f 0 ≡ top
    now f same =
        ap (λ i. get_or (slice_set tops e top) i 0) same ∙ get_or-set_same tops e top 0 (omega (arith, lt, t.size))

    other : (f : ℕ) → f ≢ e → get_or (slice_set tops e top) f 0 ≡ get_or tops f 0
    other f ne = get_or-set_other tops e f top 0 ne

-- a name
pub top_named : (p : Program) (m : Meanings) (weights : List ℕ) (e : ℕ) (x : Expr) (name : List ℕ) (top : ℕ)
    → AreMeanings p m → OwnNames p → WeighsDriven p weights
    → IsAt p.exprs e x → x.kind ≡ Named name → top ≡ slice_index weights (slice_index m.exprs e)
    → IsTop p weights (λ n. is_same name n) top
top_named p m weights e x name top means own only at kind is = record {
  bound = λ d y driven same.
      let h : slice_index m.exprs e ≡ d = here ∙ ap (index_of p.defs) (same_is name y.name same) ∙ own d y driven in
      omega (arith, is ∙ ap (slice_index weights) h);
  met = λ some. let (y, driven) = only (slice_index m.exprs e) (omega (arith, some, is)) in (
    slice_index m.exprs e,
    y,
    driven,
    is_same_of name y.name
        (sym (meant p.defs name (slice_index m.exprs e) y driven.0 (sym here))),
    sym is,
  );
}
  where
    here : slice_index m.exprs e ≡ index_of p.defs name
    here = means.exprs e x name at kind

-- r is the greatest of the numbers at some indices
abbrev pub Greatest : List ℕ → List ℕ → ℕ → Type 0
Greatest numbers indices r = ((i : ℕ) → Contains indices i → slice_index numbers i ≤ r)
    × (0 < r → (i : ℕ) × Contains indices i × (slice_index numbers i ≡ r))

-- an operation
pub top_apply : (p : Program) (weights tops : List ℕ) (n e : ℕ) (args : List ℕ) (top : ℕ) → AreTops p weights n tops
    → n ≡ e + 1 → AllBetween e (length p.exprs) args
    → Greatest tops args top
    → IsTop p weights (λ name. list_any (mentions p name) args) top
top_apply p weights tops n e args top t next fit (bound, met) = record {
  bound = λ d x driven any.
      let (i, inside, m) = any_of (mentions p x.name) args any in let b = between i inside in
      omega (arith, t.bound i d x (omega (arith, b.0, next)) b.1 driven m, bound i inside);
  met = λ some.
      let (i, inside, is) = met some in let b = between i inside in
      let (d, x, driven, m, w) = t.met i (omega (arith, b.0, next)) b.1 (omega (arith, is, some)) in
      (d, x, driven, any_contained (mentions p x.name) args i inside m, w ∙ is);
}
  where
    between : (i : ℕ) → Contains args i → (e < i) × (i < length p.exprs)
    between i inside = holds_of_contained (λ k. (e < k) × (k < length p.exprs)) args i fit inside

-- anything else
pub top_zero : (p : Program) (weights : List ℕ) (top : ℕ) → top ≡ 0 → IsTop p weights (λ name. false) top
top_zero p weights top none =
    record { bound = λ d x driven m. absurd (cc); met = λ some. absurd (omega (arith, some, none)) }

pub top_as : (p : Program) (weights : List ℕ) (f g : List ℕ → Bool) (top : ℕ) → ((name : List ℕ) → f name ≡ g name)
    → IsTop p weights g top → IsTop p weights f top
top_as p weights f g top same t = record {
  bound = λ d x driven m. t.bound d x driven (sym (same x.name) ∙ m);
  met = λ some. let (d, x, driven, m, w) = t.met some in (d, x, driven, same x.name ∙ m, w);
}

-- a number or a truth value mentions nothing
pub mentions_none : (kind : ExprKind) (name : List ℕ) (m : ℕ → Bool) → ((x : List ℕ) → kind ≡ Named x → ⊥)
    → ((op : Op) (k : ℕ) (args : List ℕ) → kind ≡ Apply op k args → ⊥)
    → kind_mentions name kind m ≡ false
mentions_none (Number n) name m named apply = refl
mentions_none (Named x) name m named apply = absurd (named x refl)
mentions_none True name m named apply = refl
mentions_none False name m named apply = refl
mentions_none (Apply op k args) name m named apply = absurd (apply op k args refl)
