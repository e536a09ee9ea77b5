-- The program that the forms of a made source are.
use Rattle.std.proofs.Common.{◌≡◌, ℕ, List, [], ◌∷◌, refl, ◌∙◌, ap, length, map, filter}
use Rattle.std.specs.Prelude.{slice_index_or, slice_index, None, drop}
use Rattle.std.specs.List.{range_with_len, filter_map}
use Rattle.mp_base.specs.declared.refusal.Place.{Place}
use Rattle.form_reader.specs.declared.forms.Forms.{Forms}
use Rattle.form_reader.specs.Sound.{kind_at, items_of}
use Rattle.mp_written.specs.declared.program.Program.{Program}
use Rattle.mp_entries.specs.Entries.{nodes_below, ranks, stands_for_expr, is_expr, is_form, number_at, expr_at, form_at}
use Rattle.mp_entries.specs.Entries.{expr_index, form_index}
use Rattle.mp_syntax.specs.Shape.{def_at, process_at, IsShape}
use Rattle.made_program.specs.Made.{Row, AreRows, defs_of, exprs_from, forms_from}
use Rattle.made_source.proofs.AsWritten.{written_def, written_expr}
use Rattle.made_source.proofs.Table.{classes, thirteen, made_forms}
use Rattle.made_source.proofs.Standing.{classes_are}
use Rattle.made_source.proofs.Ranked.{ranks_are, nodes_same, is_action, expr_ranks, form_ranks, is_no_element}
use Rattle.made_source.proofs.Ranked.{form_test, passes_or, exprs_found, exprs_meant, Follow}

-- what the made source of 13 rows spells, at these places
pub record IsWrittenAs (at : ℕ → Place) (r : ℕ → Row) (w : Program) : Type 0 where
  pub width : w.width ≡ 16
  pub defs : w.defs ≡ map written_def (defs_of at)
  pub exprs : w.exprs ≡ map written_expr (exprs_from at 0 144 (thirteen r))
  pub forms : w.forms ≡ forms_from at 0 144 (thirteen r)
  pub processes : w.processes ≡ []

module _ (at : ℕ → Place) (end : Place) (r : ℕ → Row) (are : AreRows (thirteen r)) where
  abbrev f : Forms
  f = made_forms at end r

  abbrev items : List ℕ
  items = drop 3 (items_of (kind_at f 0))

  expr_index_is : ranks (is_expr classes) (length f.nodes) ≡ expr_ranks
  expr_index_is = ranks_are (is_expr classes) stands_for_expr 261 (λ k. refl) refl

  is_form_is : (k : ℕ) → is_form f classes k ≡ is_action (slice_index_or classes k None)
  is_form_is k = form_test (kind_at f k) (slice_index_or classes k None) (passes_or is_no_element classes k refl refl)

  form_index_is : ranks (is_form f classes) (length f.nodes) ≡ form_ranks
  form_index_is = ranks_are (is_form f classes) is_action 261 is_form_is refl

  found_exprs : map (expr_at f (slice_index expr_ranks)) (nodes_below (is_expr classes) 261)
      ≡ exprs_found f (slice_index expr_ranks) at 144 (thirteen r)
  found_exprs = refl

  follow : Follow (slice_index expr_ranks) 0 144 13
  follow = (
    refl,
    refl,
    (
      refl,
      refl,
      (
        refl,
        refl,
        (
          refl,
          refl,
          (
            refl,
            refl,
            (
              refl,
              refl,
              (
                refl,
                refl,
                (refl, refl, (refl, refl, (refl, refl, (refl, refl, (refl, refl, (refl, refl, tt)))))),
              ),
            ),
          ),
        ),
      ),
    ),
  )

  exprs_are : map (expr_at f (expr_index f classes)) (nodes_below (is_expr classes) (length f.nodes))
      ≡ map written_expr (exprs_from at 0 144 (thirteen r))
  exprs_are = ap (λ ks. map (expr_at f (slice_index ks)) (nodes_below (is_expr classes) 261)) expr_index_is
      ∙ found_exprs ∙ exprs_meant f (slice_index expr_ranks) at 0 144 (thirteen r) are follow

  found_forms : map (form_at f (slice_index expr_ranks) (slice_index form_ranks))
      (filter (λ k. is_action (slice_index_or classes k None)) (range_with_len 0 261))
      ≡ forms_from at 0 144 (thirteen r)
  found_forms = refl

  forms_are : map (form_at f (expr_index f classes) (form_index f classes))
      (nodes_below (is_form f classes) (length f.nodes)) ≡ forms_from at 0 144 (thirteen r)
  forms_are = ap (λ ks. map (form_at f (slice_index ks) (form_index f classes)) (nodes_below (is_form f classes) 261))
      expr_index_is
      ∙ ap (λ ks. map (form_at f (slice_index expr_ranks) (slice_index ks)) (nodes_below (is_form f classes) 261))
      form_index_is
      ∙ ap (map (form_at f (slice_index expr_ranks) (slice_index form_ranks)))
      (nodes_same (is_form f classes) (λ k. is_action (slice_index_or classes k None))
      (range_with_len 0 261) is_form_is)
      ∙ found_forms

  defs_are : (expr : ℕ → ℕ) → filter_map (def_at f expr) items ≡ map written_def (defs_of at)
  defs_are expr = refl

  processes_are : (form : ℕ → ℕ) → filter_map (process_at f form) items ≡ []
  processes_are form = refl

  pub shape_is_made : (w : Program) → IsShape f w → IsWrittenAs at r w
  shape_is_made w shape =
      let one : shape.root ≡ 0 = root_is shape.root shape.one in
      let cs : shape.classes ≡ classes = classes_are at end r are shape.classes shape.known in
      record {
        width = shape.width ∙ ap (λ n. number_at f (slice_index (items_of (kind_at f n)) 2)) one;
        defs = shape.defs
            ∙ ap (λ n. filter_map (def_at f (expr_index f shape.classes)) (drop 3 (items_of (kind_at f n)))) one
            ∙ defs_are (expr_index f shape.classes);
        exprs = shape.exprs ∙ ap (λ ks. map (expr_at f (expr_index f ks)) (nodes_below (is_expr ks) (length f.nodes)))
            cs ∙ exprs_are;
        forms = shape.forms ∙ ap
            (λ ks. map (form_at f (expr_index f ks) (form_index f ks)) (nodes_below (is_form f ks) (length f.nodes))) cs
            ∙ forms_are;
        processes = shape.processes
            ∙ ap (λ n. filter_map (process_at f (form_index f shape.classes)) (drop 3 (items_of (kind_at f n)))) one
            ∙ processes_are (form_index f shape.classes);
      }
    where
      root_is : (n : ℕ) → f.roots ≡ n ∷ [] → n ≡ 0
      root_is n h = cc
