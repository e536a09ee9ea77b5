-- A made program has no functions: it is its own expansion, and breaks no rule as it is written.
use Rattle.std.proofs.Common.{◌≡◌, ℕ, List, [], ◌∷◌, ◌++◌, Bool, true, false, not, refl, sym, ◌∙◌, ap, subst}
use Rattle.std.proofs.Common.{length, map, filter}
use Rattle.std.specs.Prelude.{nat_lt, ◌==◌}
use Rattle.std.specs.List.{flat_map, filter_map, list_all, list_any, range_with_len}
use Rattle.mp_base.specs.declared.refusal.Place.{Place}
use Rattle.mp_base.specs.Entries.{IsAt}
use Rattle.mp_program.specs.declared.program.Def as plain_def
use Rattle.mp_program.specs.declared.program.Form.{Form}
use Rattle.mp_program.specs.declared.program.Program as plain
use Rattle.mp_program.specs.Names as plain_names
use Rattle.mp_rules.specs.Naming as plain_naming
use Rattle.mp_written.specs.declared.program.ExprKind.{ExprKind}
use Rattle.mp_written.specs.declared.program.ExprKind.TheVariants.{Use}
use Rattle.mp_written.specs.declared.program.Def.{Def}
use Rattle.mp_written.specs.declared.program.Expr.{Expr}
use Rattle.mp_written.specs.declared.program.Program.{Program}
use Rattle.mp_written.specs.Functions.{Function, function_of, plain_def, plain_what_of}
use Rattle.mp_written.specs.Kinds as kinds
use Rattle.mp_written.specs.Pieces.{outside, pieces_in}
use Rattle.mp_written.specs.Laying.{laid}
use Rattle.mp_written.specs.Expansion.{IsExpansion, form_exprs, moved_form, all_pieces, start}
use Rattle.written_frame.specs.Frame.{IsFrame, frame_def, frame_expr}
use Rattle.written_frame.specs.SameRules.{HaveSameRules}
use Rattle.written_rules.specs.Naming as naming
use Rattle.made_program.specs.Made.{Row, AreRows, IsMade, defs_of, exprs_from, forms_from, targets}
use Rattle.made_program.proofs.Lists.{passes, clash}
use Rattle.made_source.proofs.AsWritten.{written_def, written_expr}
use Rattle.made_source.proofs.OwnExpansion.{IsFree, IsOwn}
use Rattle.made_source.proofs.Shaped.{IsWrittenAs}
use Rattle.made_source.proofs.Table.{thirteen}

-- ---- expansions by their lists

abbrev functions_in : List Def → List Function
functions_in defs = filter_map (λ (d : Def). function_of d d.what) defs

abbrev tops_in : List Expr → List Form → List ℕ
tops_in exprs forms =
    filter (λ e. list_any (λ v. v == e) (form_exprs forms)) (range_with_len 0 (length exprs))

abbrev pieces_of : List Def → List Expr → ℕ → List Expr
pieces_of defs exprs e = pieces_in (outside exprs (functions_in defs)) exprs e

abbrev all_in : List Def → List Expr → List Form → List Expr
all_in defs exprs forms = flat_map (pieces_of defs exprs) (tops_in exprs forms)

abbrev start_in : List Def → List Expr → List Form → ℕ → ℕ
start_in defs exprs forms v =
    length (flat_map (pieces_of defs exprs) (filter (λ e. nat_lt e v) (tops_in exprs forms)))

-- ---- a made program

module _ (at : ℕ → Place) (r : ℕ → Row) where
  abbrev defs : List Def
  defs = map written_def (defs_of at)

  abbrev exprs : List Expr
  exprs = map written_expr (exprs_from at 0 144 (thirteen r))

  abbrev forms : List Form
  forms = forms_from at 0 144 (thirteen r)

  same_defs : map frame_def defs ≡ defs_of at
  same_defs = refl

  same_exprs : map frame_expr exprs ≡ exprs_from at 0 144 (thirteen r)
  same_exprs = refl

  own_defs : filter_map (λ (d : Def). plain_def d (plain_what_of d.what)) defs ≡ defs_of at
  own_defs = refl

  own_exprs : (laid 0 (all_in defs exprs forms)).exprs ≡ exprs_from at 0 144 (thirteen r)
  own_exprs = refl

  own_forms : map (moved_form (start_in defs exprs forms)) forms ≡ forms
  own_forms = refl

  no_functions : functions_in defs ≡ []
  no_functions = refl

  names_same : map plain_naming.def_naming
      (filter (λ (d : plain_def.Def). not (plain_names.is_supply d.what)) (defs_of at))
      ≡ map naming.def_naming (filter (λ (d : Def). not (kinds.is_supply d.what)) defs)
  names_same = refl

  abbrev is_use : ExprKind → Bool
  is_use (Use there x os) = true
  is_use _ = false

  no_uses : list_all (λ (x : Expr). not (is_use x.kind)) exprs ≡ true
  no_uses = refl

  module _ (w : Program) (is : IsWrittenAs at r w) (s : plain.Program) (frame : IsFrame w s) where
    s_defs : s.defs ≡ defs_of at
    s_defs = frame.defs ∙ ap (map frame_def) is.defs ∙ same_defs

    s_exprs : s.exprs ≡ exprs_from at 0 144 (thirteen r)
    s_exprs = frame.exprs ∙ ap (map frame_expr) is.exprs ∙ same_exprs

    all_are : all_pieces w ≡ all_in defs exprs forms
    all_are =
        ap (λ ds. all_in ds w.exprs w.forms) is.defs ∙ ap (λ es. all_in defs es w.forms) is.exprs
        ∙ ap (all_in defs exprs) is.forms

    abbrev moved_all : List Def → List Expr → List Form → List Form
    moved_all ds es fs = map (moved_form (start_in ds es fs)) fs

    forms_are : map (moved_form (start w)) w.forms ≡ forms
    forms_are =
        ap (λ ds. moved_all ds w.exprs w.forms) is.defs ∙ ap (λ es. moved_all defs es w.forms) is.exprs
        ∙ ap (moved_all defs exprs) is.forms ∙ own_forms

    is_expansion : IsExpansion w s
    is_expansion = record {
      place = frame.place;
      name = frame.name;
      width = frame.width;
      defs = s_defs ∙ sym (ap (filter_map (λ (d : Def). plain_def d (plain_what_of d.what))) is.defs ∙ own_defs);
      exprs = s_exprs ∙ sym (ap (λ xs. (laid 0 xs).exprs) all_are ∙ own_exprs);
      forms = frame.forms ∙ is.forms ∙ sym forms_are;
      always = frame.always;
      processes = frame.processes;
    }

    is_free : IsFree w
    is_free = record {
      functions = ap functions_in is.defs ∙ no_functions;
      defs = ap (list_all (λ (d : Def). not (kinds.is_function d.what))) is.defs ∙ refl;
      uses = λ e x here there name os kind.
          clash (not (is_use x.kind))
          (passes (λ (y : Expr). not (is_use y.kind)) exprs e x no_uses (subst (λ es. IsAt es e x) is.exprs here))
          (ap (λ k. not (is_use k)) kind);
    }

    names_are : plain_naming.namings s ≡ naming.namings w
    names_are =
        ap (λ ds. map plain_naming.def_naming (filter (λ (d : plain_def.Def). not (plain_names.is_supply d.what)) ds)
        ++ map plain_naming.process_naming s.processes) s_defs
        ∙ ap (λ ns. ns ++ map plain_naming.process_naming s.processes) names_same
        ∙ ap (λ ds. map naming.def_naming (filter (λ (d : Def). not (kinds.is_supply d.what)) ds)
        ++ map plain_naming.process_naming s.processes) (sym is.defs)
        ∙ ap (λ qs. map naming.def_naming (filter (λ (d : Def). not (kinds.is_supply d.what)) w.defs)
        ++ map plain_naming.process_naming qs) frame.processes

    pub own : HaveSameRules w s → IsOwn w s
    own same = record { free = is_free; frame = frame; expansion = is_expansion; names = names_are; same = same }

    pub is_made : AreRows (thirteen r) → map (λ (row : Row). row.target) (thirteen r) ≡ targets → IsMade s
    is_made are goals = record {
      at = at;
      rows = thirteen r;
      are_rows = are;
      targets_are = goals;
      width = frame.width ∙ is.width;
      defs = s_defs;
      exprs = s_exprs;
      forms = frame.forms ∙ is.forms;
      processes = frame.processes ∙ is.processes;
    }
