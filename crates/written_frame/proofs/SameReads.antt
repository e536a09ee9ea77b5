-- A program as it is written and its frame read the same, so they have the same chains.
use Rattle.std.proofs.Common.{◌≡◌, ◌∙◌, ℕ, List, ◌++◌, Bool, true, false, refl, sym, ap, subst}
use Rattle.std.specs.Prelude.{slice_get, slice_index_or, Some, ◌||◌}
use Rattle.std.specs.List.{list_any}
use Rattle.std.proofs.Math.Path.{fun_ext}
use Rattle.mp_base.specs.Table.{table}
use Rattle.mp_base.specs.declared.refusal.Place.{Place}
use Rattle.mp_base.proofs.Entries.{get_map, map_get}
use Rattle.mp_program.specs.Names as plain_names
use Rattle.mp_program.specs.Reads as plain_reads
use Rattle.mp_program.specs.Reads.{kind_mentions, kind_sets, kind_reads, process_roots}
use Rattle.mp_program.specs.declared.program.Form.{Form}
use Rattle.mp_program.specs.declared.program.Way.TheVariants as ways
use Rattle.mp_program.specs.declared.program.Def as plain_def
use Rattle.mp_program.specs.declared.program.Expr as plain_expr
use Rattle.mp_program.specs.declared.program.Program as plain
use Rattle.mp_rules.specs.Rules as plain_rules
use Rattle.mp_written.specs.declared.program.ExprKind.{ExprKind}
use Rattle.mp_written.specs.declared.program.ExprKind.TheVariants.{Number, Named, True, False, Apply, Use}
use Rattle.mp_written.specs.declared.program.What.{What}
use Rattle.mp_written.specs.declared.program.What.TheVariants as whats
use Rattle.mp_written.specs.declared.program.Def.{Def}
use Rattle.mp_written.specs.declared.program.Expr.{Expr}
use Rattle.mp_written.specs.declared.program.Program.{Program}
use Rattle.mp_written.specs.Kinds.{is_driven}
use Rattle.mp_written.specs.Reads.{is_name, mentions, sets, form_reads, roots, Reads, Chain, link, more}
use Rattle.mp_written.specs.Tree.{operands}
use Rattle.mp_written.proofs.Tables.{table_same, table_mapped}
use Rattle.written_rules.specs.Rules as rules
use Rattle.written_frame.specs.Frame.{frame_kind, frame_expr, frame_what, frame_def, IsFrame}

-- ---- names in expressions

kind_same : (n : List ℕ) (k : ExprKind) (m : ℕ → Bool)
    → kind_mentions n (frame_kind k) m ≡ (is_name n k || list_any m (operands k))
kind_same n (Number v) m = refl
kind_same n (Named x) m = or_false (plain_names.is_same x n)
  where
    or_false : (b : Bool) → b ≡ (b || false)
    or_false true = refl
    or_false false = refl
kind_same n True m = refl
kind_same n False m = refl
kind_same n (Apply op k os) m = refl
kind_same n (Use at x os) m = refl

driven_same : (k : What) → plain_names.is_driven (frame_what k) ≡ is_driven k
driven_same whats.Power = refl
driven_same whats.Ground = refl
driven_same whats.Phia = refl
driven_same whats.Phib = refl
driven_same whats.Phic = refl
driven_same (whats.Constant c) = refl
driven_same whats.Register = refl
driven_same whats.Flag = refl
driven_same (whats.Port ways.Input) = refl
driven_same (whats.Port ways.Output) = refl
driven_same (whats.Port ways.Internal) = refl
driven_same (whats.Signal ways.Input) = refl
driven_same (whats.Signal ways.Output) = refl
driven_same (whats.Signal ways.Internal) = refl
driven_same (whats.Function args body) = refl

module _ (w : Program) (s : plain.Program) (frame : IsFrame w s) where
  mentions_same : (n : List ℕ) (e : ℕ) → plain_reads.mentions s n e ≡ mentions w n e
  mentions_same n e = ap (λ t. slice_index_or t e false)
      (ap (λ es. table false (λ (x : plain_expr.Expr) m. kind_mentions n x.kind m) 0 es) frame.exprs
      ∙ table_mapped false (λ (x : plain_expr.Expr) m. kind_mentions n x.kind m) frame_expr 0 w.exprs
      ∙ table_same false _ (λ (x : Expr) m. is_name n x.kind || list_any m (operands x.kind)) 0 w.exprs
      (λ x m. kind_same n x.kind m))

  sets_same : (x : List ℕ) (f : ℕ) → plain_reads.sets s x f ≡ sets w x f
  sets_same x f = ap (λ fs. slice_index_or (table false (λ (y : Form) t. kind_sets x y.kind t) 0 fs) f false) frame.forms

  form_reads_same : (x n : List ℕ) (f : ℕ) → plain_reads.form_reads s x n f ≡ form_reads w x n f
  form_reads_same x n f =
      ap (λ m. slice_index_or (table false (λ (y : Form) r. kind_reads m (plain_reads.sets s x) x y.kind r) 0 s.forms) f
      false) (fun_ext (mentions_same n))
      ∙ ap (λ t. slice_index_or (table false (λ (y : Form) r. kind_reads (mentions w n) t x y.kind r) 0 s.forms) f false)
      (fun_ext (sets_same x))
      ∙ ap (λ fs. slice_index_or (table false (λ (y : Form) r. kind_reads (mentions w n) (sets w x) x y.kind r) 0 fs) f
      false) frame.forms

  roots_same : plain_reads.roots s ≡ roots w
  roots_same = ap (λ a. a ++ process_roots s.processes) frame.always ∙ ap (λ qs. w.always ++ process_roots qs) frame.processes

  tests_same : (x n : List ℕ) → list_any (plain_reads.form_reads s x n) (plain_reads.roots s)
      ≡ list_any (form_reads w x n) (roots w)
  tests_same x n = ap (λ t. list_any t (plain_reads.roots s)) (fun_ext (form_reads_same x n))
      ∙ ap (list_any (form_reads w x n)) roots_same

  def_at : (d : ℕ) (x : plain_def.Def) → slice_get s.defs d ≡ Some x
      → (y : Def) × (slice_get w.defs d ≡ Some y) × (frame_def y ≡ x)
  def_at d x at = get_map frame_def w.defs d x (subst (λ ds. slice_get ds d ≡ Some x) frame.defs at)

  at_def : (d : ℕ) (y : Def) → slice_get w.defs d ≡ Some y → slice_get s.defs d ≡ Some (frame_def y)
  at_def d y at = subst (λ ds. slice_get ds d ≡ Some (frame_def y)) (sym frame.defs) (map_get frame_def w.defs d y at)

  pub reads_written : (a b : ℕ) → plain_reads.Reads s a b → Reads w a b
  reads_written a b (x, y, ax, bg, dx, dy, reads) =
      let (c, ac, cx) = def_at a x ax in
      let (d, ad, dy') = def_at b y bg in (
        c,
        d,
        ac,
        ad,
        sym (driven_same c.what) ∙ ap (λ (z : plain_def.Def). plain_names.is_driven z.what) cx ∙ dx,
        sym (driven_same d.what) ∙ ap (λ (z : plain_def.Def). plain_names.is_driven z.what) dy' ∙ dy,
        sym (tests_same c.name d.name)
            ∙ ap (λ (z : plain_def.Def). list_any (plain_reads.form_reads s z.name d.name) (plain_reads.roots s)) cx
            ∙ ap (λ (z : plain_def.Def). list_any (plain_reads.form_reads s x.name z.name) (plain_reads.roots s)) dy'
            ∙ reads,
      )

  pub reads_frame : (a b : ℕ) → Reads w a b → plain_reads.Reads s a b
  reads_frame a b (c, d, ac, ad, dc, dd, reads) = (
    frame_def c,
    frame_def d,
    at_def a c ac,
    at_def b d ad,
    driven_same c.what ∙ dc,
    driven_same d.what ∙ dd,
    tests_same c.name d.name ∙ reads,
  )

  pub chain_written : (a b : ℕ) → plain_reads.Chain s a b → Chain w a b
  chain_written a b (plain_reads.link h) = link (reads_written a b h)
  chain_written a b (plain_reads.more {b = c} h rest) = more (reads_written a c h) (chain_written c b rest)

  pub chain_frame : (a b : ℕ) → Chain w a b → plain_reads.Chain s a b
  chain_frame a b (link h) = plain_reads.link (reads_frame a b h)
  chain_frame a b (more {b = c} h rest) = plain_reads.more (reads_frame a c h) (chain_frame c b rest)

  pub e33_back : (at : Place) → plain_rules.E33 s at → rules.E33 w at
  e33_back at (f, y, x, there, v, d, z, form, kind, def, name, chain, is) =
      let (c, ac, cz) = def_at d z def in (
        f,
        y,
        x,
        there,
        v,
        d,
        c,
        subst (λ fs. slice_get fs f ≡ Some y) frame.forms form,
        kind,
        ac,
        ap (λ (u : plain_def.Def). u.name) cz ∙ name,
        chain_written d d chain,
        is,
      )

  pub e33_there : (at : Place) → rules.E33 w at → plain_rules.E33 s at
  e33_there at (f, y, x, there, v, d, c, form, kind, def, name, chain, is) = (
    f,
    y,
    x,
    there,
    v,
    d,
    frame_def c,
    subst (λ fs. slice_get fs f ≡ Some y) (sym frame.forms) form,
    kind,
    at_def d c def,
    name,
    chain_frame d d chain,
    is,
  )
