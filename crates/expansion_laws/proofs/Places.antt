-- The expansion of a program in which all uses are lawful: it fits a program's type, and each index stands in one place.
use Rattle.std.proofs.Common.{◌≡◌, ◌∙◌, ℕ, ◌+◌, ◌≤◌, List, [], ◌∷◌, ◌++◌, refl, sym, ap, subst, arith, length}
use Rattle.std.proofs.Common.{append-nil, true}
use Rattle.std.specs.Prelude.{map, ⊤, Contains}
use Rattle.std.specs.List.{flat_map, AllByRecursion}
use Rattle.mp_program.specs.Fits.{exprs_fit}
use Rattle.mp_program.specs.Tree.{is_distinct, expr_places, exprs_in}
use Rattle.mp_program.specs.declared.program.Form.{Form}
use Rattle.mp_written.specs.declared.program.Expr.{Expr}
use Rattle.mp_written.specs.declared.program.Program.{Program}
use Rattle.mp_written.specs.Functions.{functions}
use Rattle.expansion_laws.specs.Lawful.{IsLawfulProgram}
use Rattle.expansion_laws.proofs.Types.{behind, inside, distinct}
use Rattle.mp_written.specs.Pieces.{pieces}
use Rattle.mp_written.specs.Laying.{laid}
use Rattle.mp_written.specs.Expansion.{form_exprs, tops, all_pieces, start, moved_form}
use Rattle.mp_base.proofs.Contents.{contains_head, contains_behind}
use Rattle.expansion_laws.proofs.Laid.{occurs, occurs-append, range_once, laid_once, length-laid, args_of, tops_joined}
use Rattle.expansion_laws.proofs.Laid.{enough_joined, begins, joined, Enough}
use Rattle.expansion_laws.proofs.ClosedClaims.{FitsKind, outside_so, free_fits}
use Rattle.std.specs.Prelude.{take}
use Rattle.expansion_laws.proofs.LaidFits.{IsWord, words_closed, wholes, fits_joined, laid_fits, distinct_from}
use Rattle.expansion_laws.proofs.FormExprs.{stand_moved, same_hits, begins_at, rising_range, below, is_in}

flat_of : (v : ℕ → List Expr) (os : List ℕ) → flat_map v os ≡ joined (map v os)
flat_of v [] = refl
flat_of v (o ∷ os) = ap (λ ys. v o ++ ys) (flat_of v os)

pub all_of : (Q : List Expr → Type 0) (v : ℕ → List Expr) (os : List ℕ) → ((a : ℕ) → Contains os a → Q (v a))
    → AllByRecursion Q (map v os)
all_of Q v [] h = tt
all_of Q v (o ∷ os) h = (h o (contains_head o os), all_of Q v os (λ a c. h a (contains_behind a o os c)))

module _ (w : Program) (law : IsLawfulProgram w) where
  words : AllByRecursion IsWord (map (pieces w) (tops w))
  words = all_of IsWord (pieces w) (tops w)
      (λ e c. outside_so FitsKind IsWord words_closed w.exprs (functions w) (behind w) law.bodies
      (λ k f at d x under there fit free. free_fits (take k (functions w)) f.args x.kind fit free)
      (λ d. ⊤) (λ d x reached there fit free. free_fits (functions w) [] x.kind fit free)
      (λ d a x reached there c. tt) e tt (law.tops e c))

  pub all_joined : all_pieces w ≡ joined (map (pieces w) (tops w))
  all_joined = flat_of (pieces w) (tops w)

  pub enough : Enough (all_pieces w)
  enough =
      subst Enough (append-nil (joined (map (pieces w) (tops w))) ∙ sym all_joined)
      (enough_joined (map (pieces w) (tops w)) (wholes (map (pieces w) (tops w)) words) [] tt)

  pub fitting : AllByRecursion (λ (x : Expr). FitsKind x.kind) (all_pieces w)
  fitting = subst (AllByRecursion (λ (x : Expr). FitsKind x.kind)) (sym all_joined)
      (fits_joined (map (pieces w) (tops w)) words)

  -- operands are in range, behind, and as many as operators take
  pub expansion_fits : exprs_fit (length (laid 0 (all_pieces w)).exprs) 0 (laid 0 (all_pieces w)).exprs ≡ true
  expansion_fits =
      subst (λ n. exprs_fit n 0 (laid 0 (all_pieces w)).exprs ≡ true) (sym (length-laid 0 (all_pieces w)))
      (laid_fits (length (all_pieces w)) 0 (all_pieces w) (omega arith) enough fitting)

  -- the guards and values begin where they are said to begin
  pub tops_are : (laid 0 (all_pieces w)).tops ≡ map (start w) (tops w)
  tops_are =
      ap (λ ys. (laid 0 ys).tops) (all_joined ∙ sym (append-nil (joined (map (pieces w) (tops w)))))
      ∙ tops_joined (map (pieces w) (tops w)) (wholes (map (pieces w) (tops w)) words) 0 []
      ∙ append-nil (begins 0 (map (pieces w) (tops w)))
      ∙ begins_at (pieces w) 0 0 (tops w) (rising_range (is_in (form_exprs w.forms)) 0 (length w.exprs))
      ∙ from_zero (tops w)
    where
      from_zero : (ts : List ℕ) → map (λ v. 0 + length (flat_map (pieces w) (below (tops w) v))) ts ≡ map (start w) ts
      from_zero [] = refl
      from_zero (t ∷ ts) =
          let e : 0 + length (flat_map (pieces w) (below (tops w) t)) ≡ start w t = omega arith in
          ap (λ y. y ∷ map (λ v. 0 + length (flat_map (pieces w) (below (tops w) v))) ts) e
          ∙ ap (λ ys. start w t ∷ ys) (from_zero ts)

  -- each expression stands in one place
  pub expansion_distinct :
      is_distinct (expr_places (laid 0 (all_pieces w)).exprs (map (moved_form (start w)) w.forms)) ≡ true
  expansion_distinct =
      distinct_from (expr_places (laid 0 (all_pieces w)).exprs (map (moved_form (start w)) w.forms)) once
    where
      once : (n : ℕ) → occurs n (expr_places (laid 0 (all_pieces w)).exprs (map (moved_form (start w)) w.forms)) ≤ 1
      once n =
          let es = (laid 0 (all_pieces w)).exprs in
          let forms = map (moved_form (start w)) w.forms in
          let both = occurs-append n (args_of es) (flat_map (λ (y : Form). exprs_in y.kind) forms) in
          let there = ap (occurs n) (stand_moved (start w) w.forms) in
          let same = same_hits n (start w) (length w.exprs) (form_exprs w.forms) (inside w) (distinct w) in
          let ends = ap (occurs n) tops_are in
          let sum = laid_once n 0 (all_pieces w) in
          let most = range_once n 0 (length (all_pieces w)) in
          omega (arith, both, there, same, ends, sum, most)
