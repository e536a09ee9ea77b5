-- Copies of a program's expressions are of the sorts of these, and fit.
use Rattle.std.proofs.Common.{
  ◌≡◌,
  ◌≢◌,
  inl,
  inr,
  ◌∙◌,
  ℕ,
  suc,
  ◌^◌,
  ◌<◌,
  List,
  [],
  ◌∷◌,
  Bool,
  true,
  false,
  cond,
  Option,
  Some,
  None,
  refl,
  sym,
  ap,
  subst,
  arith,
  length,
  map,
}
use Rattle.std.specs.Prelude.{Contains}
use Rattle.std.proofs.lemmas.Bool.{cases_lt}
use Rattle.std.proofs.lemmas.List.{length-map}
use Rattle.std.proofs.lemmas.Option.{same_Some, none-some}
use Rattle.mp_base.specs.declared.op.Op.{Op}
use Rattle.mp_base.specs.declared.op.Op.TheVariants.{
  Add,
  Sub,
  Inc,
  Dec,
  WordAnd,
  WordOr,
  WordXor,
  WordNot,
  Left,
  Right,
  And,
  Or,
  Nor,
  Nand,
  Xor,
  Not,
  Bit,
  Zero,
  Equal,
  Less,
}
use Rattle.mp_base.specs.declared.refusal.Place.{Place}
use Rattle.mp_base.proofs.Contents.{only_one, contains_from_map}
use Rattle.mp_program.specs.declared.program.ExprKind.{ExprKind}
use Rattle.mp_program.specs.declared.program.ExprKind.TheVariants as source
use Rattle.mp_program.specs.declared.program.What.{What}
use Rattle.mp_program.specs.declared.program.What.TheVariants.{
  Power,
  Ground,
  Phia,
  Phib,
  Phic,
  Constant,
  Register,
  Flag,
  Port,
  Signal,
}
use Rattle.mp_program.specs.declared.program.Way.TheVariants.{Input, Output, Internal}
use Rattle.mp_program.specs.declared.program.Def.{Def}
use Rattle.mp_program.specs.declared.program.Expr.{Expr}
use Rattle.mp_program.specs.declared.program.Program.{Program}
use Rattle.mp_program.specs.Names.{index_of, is_same}
use Rattle.mp_program.specs.Sound.{IsSound, ArgsFit}
use Rattle.mp_base.specs.Entries.{IsAt}
use Rattle.mp_rules.specs.Rules.{E22, E23, E24}
use Rattle.mp_rules.specs.Sorts.{
  Sort,
  IsWord,
  IsBit,
  what_sort,
  name_sort,
  operand_sort,
  result_sort,
  expr_sort,
  IsWanted,
}
use Rattle.mp_base.proofs.Entries.{some_entry, within}
use Rattle.rtl_form.specs.declared.rtl.Cell as cells
use Rattle.rtl_form.specs.declared.rtl.RtlExpr.{RtlExpr}
use Rattle.rtl_form.specs.declared.rtl.RtlExpr.TheVariants.{Number, Truth, Cell, Apply}
use Rattle.rtl_form.specs.Operands.{takes_words, gives_word}
use Rattle.mp_base.specs.Apply.{takes}
use Rattle.rtl_form.specs.Sound.{IsSort, IndexFits}
use Rattle.process_plan.specs.Roles.{Role, Value, AreCells, def_cell}
use Rattle.process_plan.specs.Enables.{copy_of, IsCopy}
use Rattle.process_plan.specs.Fits.{HasSortIn, ExprFitsIn}
use Rattle.process_plan.proofs.Members.{between_in}

-- ---- sorts

abbrev pub sort_of : Bool → Sort
sort_of true = IsWord
sort_of false = IsBit

abbrev is_word : Option Sort → Bool
is_word None = false
is_word (Some IsWord) = true
is_word (Some IsBit) = false

word_back : (b : Bool) → is_word (Some (sort_of b)) ≡ b
word_back true = refl
word_back false = refl

same_word : (a b : Bool) → Some (sort_of a) ≡ Some (sort_of b) → a ≡ b
same_word a b h = sym (word_back a) ∙ ap is_word h ∙ word_back b

same_sort : (s t : Sort) → (s ≢ t → ⊥) → s ≡ t
same_sort IsWord IsWord h = refl
same_sort IsBit IsBit h = refl
same_sort IsWord IsBit h = absurd (h (λ e. absurd (cc)))
same_sort IsBit IsWord h = absurd (h (λ e. absurd (cc)))

-- the cell of a definition is of the sort of the definition
pub cell_sort : (ds : List Def) (d : ℕ) (w : What) (x : cells.Cell) → def_cell ds d w ≡ Some x
    → what_sort w ≡ Some (sort_of x.word)
cell_sort ds d Power x h = absurd (cc)
cell_sort ds d Ground x h = absurd (cc)
cell_sort ds d Phia x h = absurd (cc)
cell_sort ds d Phib x h = absurd (cc)
cell_sort ds d Phic x h = absurd (cc)
cell_sort ds d (Constant c) x h = absurd (cc)
cell_sort ds d Register x h = ap (λ (z : cells.Cell). Some (sort_of z.word)) (same_Some _ x h)
cell_sort ds d Flag x h = ap (λ (z : cells.Cell). Some (sort_of z.word)) (same_Some _ x h)
cell_sort ds d (Port Input) x h = ap (λ (z : cells.Cell). Some (sort_of z.word)) (same_Some _ x h)
cell_sort ds d (Port Output) x h = ap (λ (z : cells.Cell). Some (sort_of z.word)) (same_Some _ x h)
cell_sort ds d (Port Internal) x h = ap (λ (z : cells.Cell). Some (sort_of z.word)) (same_Some _ x h)
cell_sort ds d (Signal Input) x h = ap (λ (z : cells.Cell). Some (sort_of z.word)) (same_Some _ x h)
cell_sort ds d (Signal Output) x h = ap (λ (z : cells.Cell). Some (sort_of z.word)) (same_Some _ x h)
cell_sort ds d (Signal Internal) x h = ap (λ (z : cells.Cell). Some (sort_of z.word)) (same_Some _ x h)

-- the sort of a name is that of its first definition
pub name_sorted : (ds : List Def) (n : List ℕ) (x : Def) → IsAt ds (index_of ds n) x → name_sort ds n ≡ what_sort x.what
name_sorted [] n x at = absurd (none-some x at)
name_sorted (y ∷ ys) n x at = pick (is_same y.name n) at (name_sorted ys n x)
  where
    pick : (t : Bool) → IsAt (y ∷ ys) (cond t 0 (suc (index_of ys n))) x
        → (IsAt ys (index_of ys n) x → name_sort ys n ≡ what_sort x.what)
        → cond t (what_sort y.what) (name_sort ys n) ≡ what_sort x.what
    pick true at rest = ap (λ (z : Def). what_sort z.what) (same_Some y x at)
    pick false at rest = rest at

result_is : (op : Op) → result_sort op ≡ sort_of (gives_word op)
result_is Add = refl
result_is Sub = refl
result_is Inc = refl
result_is Dec = refl
result_is WordAnd = refl
result_is WordOr = refl
result_is WordXor = refl
result_is WordNot = refl
result_is Left = refl
result_is Right = refl
result_is And = refl
result_is Or = refl
result_is Nor = refl
result_is Nand = refl
result_is Xor = refl
result_is Not = refl
result_is Bit = refl
result_is Zero = refl
result_is Equal = refl
result_is Less = refl

operand_is : (op : Op) → operand_sort op ≡ sort_of (takes_words op)
operand_is Add = refl
operand_is Sub = refl
operand_is Inc = refl
operand_is Dec = refl
operand_is WordAnd = refl
operand_is WordOr = refl
operand_is WordXor = refl
operand_is WordNot = refl
operand_is Left = refl
operand_is Right = refl
operand_is And = refl
operand_is Or = refl
operand_is Nor = refl
operand_is Nand = refl
operand_is Xor = refl
operand_is Not = refl
operand_is Bit = refl
operand_is Zero = refl
operand_is Equal = refl
operand_is Less = refl

-- ---- copies

-- the rules that say what sorts and sizes a program's expressions have
pub record IsSorted (p : Program) : Type 0 where
  pub sound : IsSound p
  pub sorts : (at : Place) → E22 p at → ⊥
  pub sizes : (at : Place) → E23 p at → ⊥
  pub bits : (at : Place) → E24 p at → ⊥

-- the copy of the expression at an index stands at its place
abbrev pub HasCopy : Program → List Role → List RtlExpr → ℕ → Type 0
HasCopy p roles exprs e = (x : Expr) → IsAt p.exprs e x
    → (y : RtlExpr) × IsAt exprs (copy_of p e) y × IsCopy p roles x.kind y

-- expression 0 is true, and expression 1 isn't
abbrev pub HasTruth : List RtlExpr → Type 0
HasTruth exprs = IsAt exprs 0 (Truth true) × IsAt exprs 1 (Apply Not 0 (0 ∷ []))

module _ (p : Program) (roles : List Role) (xs : List cells.Cell) (are : AreCells p roles xs) where
  -- a copy is of the sort of its expression
  pub copy_sort : (k : ExprKind) (y : RtlExpr) → IsCopy p roles k y
      → (word : Bool) × (expr_sort p.defs k ≡ Some (sort_of word)) × IsSort xs y word
  copy_sort (source.Number n) y is = (true, refl, subst (λ z. IsSort xs z true) (sym is) refl)
  copy_sort (source.Named x) y (d, at, inl (n, what, is)) = (
    true,
    name_sorted p.defs x d at ∙ ap what_sort what,
    subst (λ z. IsSort xs z true) (sym is) refl,
  )
  copy_sort (source.Named x) y (d, at, inr (c, role, is)) =
      let (z, at_z, (d2, at_d2, made)) = are.each c (Value (index_of p.defs x)) role in (
        z.word,
        name_sorted p.defs x d2 at_d2 ∙ cell_sort p.defs (index_of p.defs x) d2.what z made,
        subst (λ t. IsSort xs t z.word) (sym is) (z, at_z, refl),
      )
  copy_sort source.True y is = (false, refl, subst (λ z. IsSort xs z false) (sym is) refl)
  copy_sort source.False y is = (false, refl, subst (λ z. IsSort xs z false) (sym is) refl)
  copy_sort (source.Apply op index args) y is =
      (gives_word op, ap Some (result_is op), subst (λ z. IsSort xs z (gives_word op)) (sym is) refl)

  -- the copy of an expression that stands where a sort is wanted is of that sort
  pub copy_wanted : (exprs : List RtlExpr) → IsSorted p → (e : ℕ) (x : Expr) (word : Bool) → IsAt p.exprs e x
      → HasCopy p roles exprs e → IsWanted p e (Some (sort_of word)) → HasSortIn xs exprs (copy_of p e) word
  copy_wanted exprs sorted e x word at has wanted =
      let (y, at_y, is) = has x at in
      let (w, of_kind, of_copy) = copy_sort x.kind y is in
      let same : sort_of word ≡ sort_of w = same_sort (sort_of word) (sort_of w) (λ other.
      sorted.sorts x.place (inl (e, x, sort_of word, sort_of w, at, wanted, of_kind, other, refl))) in
      (y, at_y, subst (IsSort xs y) (sym (same_word word w (ap Some same))) of_copy)

  number_fits : IsSorted p → (e : ℕ) (x : Expr) (n : ℕ) → IsAt p.exprs e x → x.kind ≡ source.Number n → n < 2 ^ p.width
  number_fits sorted e x n at is = elim (cases_lt n (2 ^ p.width)) [
    | inl lt ↦ lt
    | inr le ↦ absurd (sorted.sizes x.place (inr (e, x, n, at, is, le, refl)))
  ]

  constant_fits : IsSorted p → (d : ℕ) (x : Def) (n : ℕ) → IsAt p.defs d x → x.what ≡ Constant n → n < 2 ^ p.width
  constant_fits sorted d x n at is = elim (cases_lt n (2 ^ p.width)) [
    | inl lt ↦ lt
    | inr le ↦ absurd (sorted.sizes x.place (inl (d, x, n, at, is, le, refl)))
  ]

  index_fits : IsSorted p → (e : ℕ) (x : Expr) (op : Op) (k : ℕ) (args : List ℕ) → IsAt p.exprs e x
      → x.kind ≡ source.Apply op k args → IndexFits p.width op k
  index_fits sorted e x Bit k args at is = elim (cases_lt k p.width) [
    | inl lt ↦ lt
    | inr le ↦ absurd (sorted.bits x.place (e, x, k, args, at, is, le, refl))
  ]
  index_fits sorted e x Add k args at is = tt
  index_fits sorted e x Sub k args at is = tt
  index_fits sorted e x Inc k args at is = tt
  index_fits sorted e x Dec k args at is = tt
  index_fits sorted e x WordAnd k args at is = tt
  index_fits sorted e x WordOr k args at is = tt
  index_fits sorted e x WordXor k args at is = tt
  index_fits sorted e x WordNot k args at is = tt
  index_fits sorted e x Left k args at is = tt
  index_fits sorted e x Right k args at is = tt
  index_fits sorted e x And k args at is = tt
  index_fits sorted e x Or k args at is = tt
  index_fits sorted e x Nor k args at is = tt
  index_fits sorted e x Nand k args at is = tt
  index_fits sorted e x Xor k args at is = tt
  index_fits sorted e x Not k args at is = tt
  index_fits sorted e x Zero k args at is = tt
  index_fits sorted e x Equal k args at is = tt
  index_fits sorted e x Less k args at is = tt

  -- a copy fits, where the copies of the expressions behind the copied one stand before it
  module _ (exprs : List RtlExpr) (sorted : IsSorted p) (truth : HasTruth exprs) (e : ℕ) (x : Expr)
      (at : IsAt p.exprs e x) (behind : (j : ℕ) → e < j → j < length p.exprs → HasCopy p roles exprs j) where
    bits_first : (b : ℕ) → b < 2 → HasSortIn xs exprs b false → (a : ℕ) → Contains (b ∷ []) a
        → (a < copy_of p e) × HasSortIn xs exprs a false
    bits_first b low has a c =
        let inside : e < length p.exprs = within p.exprs e at in
        subst (λ n. (n < copy_of p e) × HasSortIn xs exprs n false) (only_one b a c) (omega (arith, low, inside), has)

    arg_fits : (op : Op) (k : ℕ) (args : List ℕ) → x.kind ≡ source.Apply op k args
        → ArgsFit e (length p.exprs) (source.Apply op k args)
        → (a : ℕ) → Contains (map (copy_of p) args) a → (a < copy_of p e) × HasSortIn xs exprs a (takes_words op)
    arg_fits op k args kind fit a c =
        let (j, cj, same) = contains_from_map (copy_of p) args a c in
        let (over, under) = between_in e (length p.exprs) args j fit.1 cj in
        let (z, at_z) = some_entry p.exprs j under in
        let wanted : IsWanted p j (Some (sort_of (takes_words op))) =
        inl (e, x, op, k, args, at, kind, cj, ap Some (sym (operand_is op))) in
        subst (λ n. (n < copy_of p e) × HasSortIn xs exprs n (takes_words op)) same (
          omega (arith, over, under),
          copy_wanted exprs sorted j z (takes_words op) at_z (behind j over under) wanted,
        )

    kind_fits : (k : ExprKind) (y : RtlExpr) → x.kind ≡ k → ArgsFit e (length p.exprs) k → IsCopy p roles k y
        → ExprFitsIn p.width xs exprs (copy_of p e) y
    kind_fits (source.Number n) y kind fit is =
        subst (ExprFitsIn p.width xs exprs (copy_of p e)) (sym is) (number_fits sorted e x n at kind)
    kind_fits (source.Named name) y kind fit (d, at_d, inl (n, what, is)) =
        subst (ExprFitsIn p.width xs exprs (copy_of p e)) (sym is)
        (constant_fits sorted (index_of p.defs name) d n at_d what)
    kind_fits (source.Named name) y kind fit (d, at_d, inr (c, role, is)) =
        let (z, at_z, cell) = are.each c (Value (index_of p.defs name)) role in
        subst (ExprFitsIn p.width xs exprs (copy_of p e)) (sym is) (within xs c at_z)
    kind_fits source.True y kind fit is =
        subst (ExprFitsIn p.width xs exprs (copy_of p e)) (sym is)
        (refl, tt, bits_first 1 (omega arith) (Apply Not 0 (0 ∷ []), truth.1, refl))
    kind_fits source.False y kind fit is =
        subst (ExprFitsIn p.width xs exprs (copy_of p e)) (sym is)
        (refl, tt, bits_first 0 (omega arith) (Truth true, truth.0, refl))
    kind_fits (source.Apply op k args) y kind fit is =
        subst (ExprFitsIn p.width xs exprs (copy_of p e)) (sym is) (
          ap (takes op) (length-map args (copy_of p)) ∙ fit.0,
          index_fits sorted e x op k args at kind,
          arg_fits op k args kind fit,
        )

    pub copy_fits : (y : RtlExpr) → IsCopy p roles x.kind y → ExprFitsIn p.width xs exprs (copy_of p e) y
    copy_fits y is = kind_fits x.kind y refl ((sorted.sound).exprs e x at) is

-- ---- what fits still fits where lists grow

-- each entry of a list stays where it is
abbrev pub Keeps : {X : Type 0} → List X → List X → Type 0
Keeps {X} xs ys = (k : ℕ) (x : X) → IsAt xs k x → IsAt ys k x

pub sort_kept : (xs ys : List cells.Cell) (y : RtlExpr) (word : Bool) → Keeps xs ys → IsSort xs y word
    → IsSort ys y word
sort_kept xs ys (Number n) word keeps h = h
sort_kept xs ys (Truth b) word keeps h = h
sort_kept xs ys (Cell c) word keeps (x, at, is) = (x, keeps c x at, is)
sort_kept xs ys (Apply op k args) word keeps h = h

pub has_sort_kept : (xs ys : List cells.Cell) (exprs more : List RtlExpr) (e : ℕ) (word : Bool) → Keeps xs ys
    → Keeps exprs more → HasSortIn xs exprs e word → HasSortIn ys more e word
has_sort_kept xs ys exprs more e word keeps grown (x, at, is) = (x, grown e x at, sort_kept xs ys x word keeps is)

pub fits_kept : (w : ℕ) (xs ys : List cells.Cell) (exprs more : List RtlExpr) (e : ℕ) (x : RtlExpr) → Keeps xs ys
    → Keeps exprs more → ExprFitsIn w xs exprs e x → ExprFitsIn w ys more e x
fits_kept w xs ys exprs more e (Number n) keeps grown h = h
fits_kept w xs ys exprs more e (Truth b) keeps grown h = h
fits_kept w xs ys exprs more e (Cell c) keeps grown h = let (x, at) = some_entry xs c h in within ys c (keeps c x at)
fits_kept w xs ys exprs more e (Apply op k args) keeps grown (takes_n, index, each) = (
  takes_n,
  index,
  λ a c. let (lt, has) = each a c in (lt, has_sort_kept xs ys exprs more a (takes_words op) keeps grown has),
)
