-- What the type of programs says of parts that are those of an expansion.
use Rattle.std.proofs.Common.{◌≡◌, ◌∙◌, ℕ, ◌≤◌, List, inl, inr, refl, sym, ap, subst, length, map}
use Rattle.std.specs.Prelude.{slice_index}
use Rattle.std.specs.List.{range_with_len}
use Rattle.std.proofs.lemmas.Bool.{cases_lt}
use Rattle.std.proofs.lemmas.List.{length-map}
use Rattle.mp_base.specs.declared.limits.TheConstants.{WEIGHT_LIMIT}
use Rattle.mp_rules.specs.declared.limits.TheConstants.{EXPR_LIMIT}
use Rattle.mp_program.specs.declared.program.Expr as plain
use Rattle.mp_written.specs.declared.program.Expr.{Expr}
use Rattle.mp_written.specs.declared.program.Program.{Program}
use Rattle.mp_written.specs.Functions.{plain_defs}
use Rattle.mp_written.specs.Laying.{laid}
use Rattle.mp_written.specs.Expansion.{all_pieces, moved_form, start}
use Rattle.mp_written.specs.Weight.{weight}
use Rattle.mp_written.proofs.SamePrograms.{Parts, Fit, same_parts, parts}
use Rattle.written_rules.specs.Breaking.{IsUnbroken}
use Rattle.expansion_laws.specs.Lawful.{IsLawfulProgram}
use Rattle.expansion_laws.proofs.Existing.{expansion_exists}
use Rattle.expansion_laws.proofs.Types.{inside}
use Rattle.expansion_rules.proofs.LawfulUses.{uses_are_lawful}
use Rattle.expansion.specs.declared.item.Piece.{Piece}
use Rattle.expansion.specs.Walking.{HavePieces, begin, piece_of}
use Rattle.expansion.proofs.Moving.{forms_same}
use Rattle.expansion.proofs.Walking.{starts_are}

module _ (w : Program) (unbroken : IsUnbroken w) where
  pub lawful : IsLawfulProgram w
  lawful = uses_are_lawful w (λ at e. unbroken 21 at (inr (inl (refl, e))))
      (λ at e. unbroken 37 at
      (inr (inr (inr (inr (inr (inr (inr (inr (inr (inr (inr (inr (inr (inr (inr (inr (inr (inl
      (refl, e))))))))))))))))))))

  pub light : weight w ≤ WEIGHT_LIMIT
  light = elim (cases_lt WEIGHT_LIMIT (weight w)) [
    | inl over ↦ absurd (unbroken 44 w.place
        (inr (inr (inr (inr (inr (inr (inr (inr (inr (inr (inr (inr (inr (inr (inr (inr (inr (inr (inr (inr (inr
        (inr (inr (inr
        (inl (refl, (over, refl))))))))))))))))))))))))))))
    | inr within ↦ within
  ]

  pub few : length (all_pieces w) ≤ EXPR_LIMIT
  few = elim (cases_lt EXPR_LIMIT (length (all_pieces w))) [
    | inl over ↦ absurd (unbroken 45 w.place
        (inr (inr (inr (inr (inr (inr (inr (inr (inr (inr (inr (inr (inr (inr (inr (inr (inr (inr (inr (inr (inr
        (inr (inr (inr
        (inr (refl, (over, refl))))))))))))))))))))))))))))
    | inr within ↦ within
  ]

  pub parts_fit : (t : Parts) → t.0 ≡ w.place → t.1 ≡ w.name → t.2 ≡ w.width → t.3 ≡ plain_defs w
      → t.4 ≡ (laid 0 (all_pieces w)).exprs → t.5 ≡ map (moved_form (start w)) w.forms → t.6 ≡ w.always
      → t.7 ≡ w.processes → Fit t
  parts_fit t e0 e1 e2 e3 e4 e5 e6 e7 =
      let (p, is) = expansion_exists w lawful light in
      subst Fit (sym (same_parts t (parts p) (e0 ∙ sym is.place) (e1 ∙ sym is.name) (e2 ∙ sym is.width) (e3
      ∙ sym is.defs)
      (e4 ∙ sym is.exprs) (e5 ∙ sym is.forms) (e6 ∙ sym is.always) (e7 ∙ sym is.processes))) (p.fits, p.tree)

-- the pieces are no more than all
pub pieces_few : (w : Program) (ps : List Piece) → HavePieces w.exprs (all_pieces w) ps
    → length ps ≡ length (all_pieces w)
pieces_few w ps have = sym (length-map ps (piece_of w.exprs)) ∙ ap length have.are

-- forms with the starts that were found
pub forms_moved : (w : Program) (starts : List ℕ) → starts ≡ map (begin w) (range_with_len 0 (length w.exprs))
    → map (moved_form (slice_index starts)) w.forms ≡ map (moved_form (start w)) w.forms
forms_moved w starts are =
    forms_same (slice_index starts) (start w) (length w.exprs) (λ v lt. starts_are w starts are v lt) w.forms (inside w)

-- what is laid out from the pieces that were found
pub exprs_laid : (w : Program) (exprs : List Expr) (ps found : List Piece) (list : List plain.Expr)
    → list ≡ (laid 0 (map (piece_of exprs) ps)).exprs → exprs ≡ w.exprs → ps ≡ found → HavePieces w.exprs
    (all_pieces w) found
    → list ≡ (laid 0 (all_pieces w)).exprs
exprs_laid w exprs ps found list is same all have =
    is ∙ ap (λ xs. (laid 0 (map (piece_of xs) ps)).exprs) same
    ∙ ap (λ qs. (laid 0 (map (piece_of w.exprs) qs)).exprs) all
    ∙ ap (λ xs. (laid 0 xs).exprs) have.are
