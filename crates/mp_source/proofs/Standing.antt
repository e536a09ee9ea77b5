-- The places in a program are those of nodes.
use Rattle.std.proofs.Common.{◌≡◌, ℕ, zero, suc, ◌+◌, ◌<◌, List, [], ◌∷◌, Bool, true, false, cond, refl, sym, ◌∙◌, ap}
use Rattle.std.proofs.Common.{subst, length, arith, drop, Option, Some, None, map}
use Rattle.std.specs.Prelude.{slice_index}
use Rattle.std.specs.List.{range_with_len}
use Rattle.std.proofs.lemmas.Option.{none-some, same_Some, get_or_from_slice_get}
use Rattle.mp_base.specs.declared.refusal.Place.{Place}
use Rattle.form_reader.specs.declared.forms.Forms.{Forms}
use Rattle.form_reader.specs.declared.forms.Kind.{Kind}
use Rattle.form_reader.specs.declared.forms.Kind.TheVariants as kinds
use Rattle.form_reader.specs.Sound.{node, kind_at, items_of, IsSound}
use Rattle.mp_shapes.specs.declared.table.Class.TheVariants as classes
use Rattle.mp_shapes.specs.declared.table.Definition.{Definition}
use Rattle.mp_shapes.specs.declared.table.Definition.TheVariants as definitions
use Rattle.mp_shapes.specs.declared.table.Layout.{Layout}
use Rattle.mp_shapes.specs.declared.table.Layout.TheVariants as layouts
use Rattle.mp_shapes.specs.Layout.{is_symbol, layout}
use Rattle.mp_program.specs.declared.program.FormKind.TheVariants as forms
use Rattle.mp_program.specs.declared.program.Pin.{Pin}
use Rattle.mp_written.specs.declared.program.ExprKind.TheVariants as exprs
use Rattle.mp_written.specs.declared.program.What.TheVariants as whats
use Rattle.mp_written.specs.declared.program.Arg.{Arg}
use Rattle.mp_written.specs.declared.program.Def.{Def}
use Rattle.mp_written.specs.declared.program.Expr.{Expr}
use Rattle.mp_program.specs.declared.program.Form.{Form}
use Rattle.mp_program.specs.declared.program.Label.{Label}
use Rattle.mp_program.specs.declared.program.Process.{Process}
use Rattle.mp_written.specs.declared.program.Program.{Program}
use Rattle.mp_entries.specs.Entries.{name_at, form_kind, form_at, expr_at, nodes_below, expr_index, form_index, is_expr}
use Rattle.mp_entries.specs.Entries.{is_form, expr_kind, list_expr}
use Rattle.mp_syntax.specs.Shape.{IsShape, pin_at, pin_nodes, def_of, def_in, def_at, labels_from, process_of}
use Rattle.mp_syntax.specs.Shape.{process_in, process_at, what_of, arg_at}
use Rattle.mp_base.specs.Entries.{IsAt}
use Rattle.written_verdict.specs.Places.{HasPlace}
use Rattle.mp_base.proofs.Entries.{get_map, get_filter, within}
use Rattle.mp_source.proofs.Members.{at_filter_map, at_drop, at_range}
use Rattle.mp_source.proofs.Placed.{item_within}

-- this is the place of a node
abbrev pub IsNodePlace : Forms → Place → Type 0
IsNodePlace f at = (n : ℕ) × (n < length f.nodes) × (at ≡ (node f n).place)

-- an item behind the head of a node
pub dropped_within : (f : Forms) (n i k m : ℕ) → IsSound f → n < length f.nodes
    → IsAt (drop i (items_of (kind_at f n))) k m → m < length f.nodes
dropped_within f n i k m sound lt at =
    let items = items_of (kind_at f n) in
    let there = at_drop i items k m at in
    let inside = within items (i + k) there in
    (sound.behind n (i + k) m (lt, inside, sym (get_or_from_slice_get items (i + k) m 0 there))).1

below_within : (test : ℕ → Bool) (n k m : ℕ) → IsAt (nodes_below test n) k m → m < n
below_within test n k m at = let found = get_filter test (range_with_len 0 n) k m at in at_range n found.0 m found.1

only : (a k n : ℕ) → IsAt (a ∷ []) k n → n ≡ a
only a zero n at = sym (same_Some a n at)
only a (suc k) n at = absurd (none-some n at)

def_found : (f : Forms) (expr : ℕ → ℕ) (m : ℕ) (l : Option Layout) (x : Def) → def_in f expr m l ≡ Some x
    → (d : Definition) × (x ≡ def_of f expr m (items_of (kind_at f m)) d)
def_found f expr m (Some (layouts.Def d)) x e = (d, cc)
def_found f expr m (Some layouts.Leaf) x e = cc
def_found f expr m (Some layouts.Program) x e = cc
def_found f expr m (Some layouts.Always) x e = cc
def_found f expr m (Some layouts.Process) x e = cc
def_found f expr m (Some layouts.Setq) x e = cc
def_found f expr m (Some layouts.Cond) x e = cc
def_found f expr m (Some layouts.Par) x e = cc
def_found f expr m (Some layouts.Go) x e = cc
def_found f expr m (Some layouts.Call) x e = cc
def_found f expr m (Some layouts.Return) x e = cc
def_found f expr m (Some layouts.Guarded) x e = cc
def_found f expr m (Some layouts.Bit) x e = cc
def_found f expr m (Some layouts.Use) x e = cc
def_found f expr m (Some (layouts.Apply op)) x e = cc
def_found f expr m None x e = cc

process_found : (f : Forms) (form : ℕ → ℕ) (m : ℕ) (l : Option Layout) (q : Process) → process_in f form m l ≡ Some q
    → q ≡ process_of f form m (items_of (kind_at f m))
process_found f form m (Some layouts.Process) q e = cc
process_found f form m (Some layouts.Leaf) q e = cc
process_found f form m (Some layouts.Program) q e = cc
process_found f form m (Some layouts.Always) q e = cc
process_found f form m (Some layouts.Setq) q e = cc
process_found f form m (Some layouts.Cond) q e = cc
process_found f form m (Some layouts.Par) q e = cc
process_found f form m (Some layouts.Go) q e = cc
process_found f form m (Some layouts.Call) q e = cc
process_found f form m (Some layouts.Return) q e = cc
process_found f form m (Some layouts.Guarded) q e = cc
process_found f form m (Some layouts.Bit) q e = cc
process_found f form m (Some layouts.Use) q e = cc
process_found f form m (Some (layouts.Def d)) q e = cc
process_found f form m (Some (layouts.Apply op)) q e = cc
process_found f form m None q e = cc

target_found : (f : Forms) (expr form : ℕ → ℕ) (items : List ℕ) (l : Option Layout) (name : List ℕ) (at : Place)
    (v : ℕ) → form_kind f expr form items l ≡ forms.Set name at v
    → at ≡ (node f (slice_index items 1)).place
target_found f expr form items (Some layouts.Setq) name at v e = cc
target_found f expr form items (Some layouts.Leaf) name at v e = cc
target_found f expr form items (Some layouts.Program) name at v e = cc
target_found f expr form items (Some layouts.Always) name at v e = cc
target_found f expr form items (Some layouts.Process) name at v e = cc
target_found f expr form items (Some layouts.Cond) name at v e = cc
target_found f expr form items (Some layouts.Par) name at v e = cc
target_found f expr form items (Some layouts.Go) name at v e = cc
target_found f expr form items (Some layouts.Call) name at v e = cc
target_found f expr form items (Some layouts.Return) name at v e = cc
target_found f expr form items (Some layouts.Guarded) name at v e = cc
target_found f expr form items (Some layouts.Bit) name at v e = cc
target_found f expr form items (Some layouts.Use) name at v e = cc
target_found f expr form items (Some (layouts.Def d)) name at v e = cc
target_found f expr form items (Some (layouts.Apply op)) name at v e = cc
target_found f expr form items None name at v e = cc

args_found : (f : Forms) (expr : ℕ → ℕ) (items : List ℕ) (d : Definition) (args : List Arg) (body : ℕ)
    → what_of f expr items d ≡ whats.Function args body
    → args ≡ map (arg_at f) (items_of (kind_at f (slice_index items 3)))
args_found f expr items definitions.Function args body e = cc
args_found f expr items definitions.Power args body e = cc
args_found f expr items definitions.Ground args body e = cc
args_found f expr items definitions.Phia args body e = cc
args_found f expr items definitions.Phib args body e = cc
args_found f expr items definitions.Phic args body e = cc
args_found f expr items definitions.Constant args body e = cc
args_found f expr items definitions.Register args body e = cc
args_found f expr items definitions.Flag args body e = cc
args_found f expr items definitions.PortInput args body e = cc
args_found f expr items definitions.PortOutput args body e = cc
args_found f expr items definitions.PortInternal args body e = cc
args_found f expr items definitions.SignalInput args body e = cc
args_found f expr items definitions.SignalOutput args body e = cc
args_found f expr items definitions.SignalInternal args body e = cc

head_in_list : (f : Forms) (expr : ℕ → ℕ) (items : List ℕ) (l : Option Layout) (at : Place) (name os : List ℕ)
    → list_expr f expr items l ≡ exprs.Use at name os → at ≡ (node f (slice_index items 0)).place
head_in_list f expr items (Some layouts.Use) at name os e = cc
head_in_list f expr items (Some layouts.Leaf) at name os e = cc
head_in_list f expr items (Some layouts.Program) at name os e = cc
head_in_list f expr items (Some layouts.Always) at name os e = cc
head_in_list f expr items (Some layouts.Process) at name os e = cc
head_in_list f expr items (Some layouts.Setq) at name os e = cc
head_in_list f expr items (Some layouts.Cond) at name os e = cc
head_in_list f expr items (Some layouts.Par) at name os e = cc
head_in_list f expr items (Some layouts.Go) at name os e = cc
head_in_list f expr items (Some layouts.Call) at name os e = cc
head_in_list f expr items (Some layouts.Return) at name os e = cc
head_in_list f expr items (Some layouts.Guarded) at name os e = cc
head_in_list f expr items (Some layouts.Bit) at name os e = cc
head_in_list f expr items (Some (layouts.Def d)) at name os e = cc
head_in_list f expr items (Some (layouts.Apply op)) at name os e = cc
head_in_list f expr items None at name os e = cc

no_use : (a b : Bool) (x : List ℕ) (at : Place) (name os : List ℕ)
    → cond a exprs.True (cond b exprs.False (exprs.Named x)) ≡ exprs.Use at name os → ⊥
no_use true b x at name os e = absurd (cc)
no_use false true x at name os e = absurd (cc)
no_use false false x at name os e = absurd (cc)

head_found : (f : Forms) (expr : ℕ → ℕ) (k : Kind) (at : Place) (name os : List ℕ)
    → expr_kind f expr k ≡ exprs.Use at name os → at ≡ (node f (slice_index (items_of k) 0)).place
head_found f expr (kinds.Number v) at name os e = cc
head_found f expr (kinds.Symbol x) at name os e = absurd (no_use _ _ x at name os e)
head_found f expr (kinds.Group items) at name os e =
    head_in_list f expr items (layout f classes.Value (kinds.Group items)) at name os e

pin_within : (f : Forms) (m k n : ℕ) (d : Definition) → IsSound f → m < length f.nodes
    → IsAt (pin_nodes f (items_of (kind_at f m)) d) k n → n < length f.nodes
pin_within f m k n definitions.Power sound lt at =
    subst (λ z. z < length f.nodes) (sym (only (slice_index (items_of (kind_at f m)) 1) k n at))
    (item_within f m 1 sound lt)
pin_within f m k n definitions.Ground sound lt at =
    subst (λ z. z < length f.nodes) (sym (only (slice_index (items_of (kind_at f m)) 1) k n at))
    (item_within f m 1 sound lt)
pin_within f m k n definitions.Phia sound lt at =
    subst (λ z. z < length f.nodes) (sym (only (slice_index (items_of (kind_at f m)) 1) k n at))
    (item_within f m 1 sound lt)
pin_within f m k n definitions.Phib sound lt at =
    subst (λ z. z < length f.nodes) (sym (only (slice_index (items_of (kind_at f m)) 1) k n at))
    (item_within f m 1 sound lt)
pin_within f m k n definitions.Phic sound lt at =
    subst (λ z. z < length f.nodes) (sym (only (slice_index (items_of (kind_at f m)) 1) k n at))
    (item_within f m 1 sound lt)
pin_within f m k n definitions.SignalInput sound lt at =
    subst (λ z. z < length f.nodes) (sym (only (slice_index (items_of (kind_at f m)) 4) k n at))
    (item_within f m 4 sound lt)
pin_within f m k n definitions.SignalOutput sound lt at =
    subst (λ z. z < length f.nodes) (sym (only (slice_index (items_of (kind_at f m)) 4) k n at))
    (item_within f m 4 sound lt)
pin_within f m k n definitions.PortInput sound lt at =
    dropped_within f (slice_index (items_of (kind_at f m)) 4) 0 k n sound (item_within f m 4 sound lt) at
pin_within f m k n definitions.PortOutput sound lt at =
    dropped_within f (slice_index (items_of (kind_at f m)) 4) 0 k n sound (item_within f m 4 sound lt) at
pin_within f m k n definitions.Constant sound lt at = absurd (none-some n at)
pin_within f m k n definitions.Register sound lt at = absurd (none-some n at)
pin_within f m k n definitions.Flag sound lt at = absurd (none-some n at)
pin_within f m k n definitions.PortInternal sound lt at = absurd (none-some n at)
pin_within f m k n definitions.SignalInternal sound lt at = absurd (none-some n at)
pin_within f m k n definitions.Function sound lt at = absurd (none-some n at)

label_found : (f : Forms) (before : ℕ) (items : List ℕ) (k : ℕ) (x : Label) → IsAt (labels_from f before items) k x
    → (j i : ℕ) × IsAt items j i × (x.place ≡ (node f i).place)
label_found f before [] k x at = absurd (none-some x at)
label_found f before (i ∷ is) k x at = kept (λ b n. label_found f b is n x) (is_symbol (kind_at f i)) k at
  where
    later : (j m : ℕ) × IsAt is j m × (x.place ≡ (node f m).place)
        → (j m : ℕ) × IsAt (i ∷ is) j m × (x.place ≡ (node f m).place)
    later (j, m, found, e) = (suc j, m, found, e)

    kept : ((b n : ℕ) → IsAt (labels_from f b is) n x → (j m : ℕ) × IsAt is j m × (x.place ≡ (node f m).place))
        → (t : Bool) (n : ℕ)
        → IsAt (cond t
        (record { place = (node f i).place; name = name_at f i; before = before } ∷ labels_from f before is)
        (labels_from f (before + 1) is)) n x
        → (j m : ℕ) × IsAt (i ∷ is) j m × (x.place ≡ (node f m).place)
    kept rest true zero found =
        let own : Label = record { place = (node f i).place; name = name_at f i; before = before } in
        (0, i, refl, sym (ap Label.place (same_Some own x found)))
    kept rest true (suc n) found = later (rest before n found)
    kept rest false n found = later (rest (before + 1) n found)

-- the root is a node
root_within : (f : Forms) (p : Program) → IsSound f → (shape : IsShape f p) → shape.root < length f.nodes
root_within f p sound shape =
    let size : length f.roots ≡ 1 = ap length shape.one in
    subst (λ rs. slice_index rs 0 < length f.nodes) shape.one (sound.roots 0 (omega (arith, size)))

def_node : (f : Forms) (p : Program) → IsSound f → (shape : IsShape f p) → (d : ℕ) (x : Def) → IsAt p.defs d x
    → (m : ℕ) × (m < length f.nodes) × (s : Definition)
    × (x ≡ def_of f (expr_index f shape.classes) m (items_of (kind_at f m)) s)
def_node f p sound shape d x there =
    let expr = expr_index f shape.classes in
    let found =
    at_filter_map (def_at f expr) (drop 3 (items_of (kind_at f shape.root))) d x
    (subst (λ ds. IsAt ds d x) shape.defs there) in
    let is = def_found f expr found.1 (layout f classes.Item (kind_at f found.1)) x found.3 in
    (found.1, dropped_within f shape.root 3 found.0 found.1 sound (root_within f p sound shape) found.2, is.0, is.1)

expr_node : (f : Forms) (p : Program) (shape : IsShape f p) → (e : ℕ) (x : Expr) → IsAt p.exprs e x
    → (n : ℕ) × (n < length f.nodes) × (x ≡ expr_at f (expr_index f shape.classes) n)
expr_node f p shape e x there =
    let found =
    get_map (expr_at f (expr_index f shape.classes)) (nodes_below (is_expr shape.classes) (length f.nodes)) e x
    (subst (λ xs. IsAt xs e x) shape.exprs there) in
    (found.0, below_within (is_expr shape.classes) (length f.nodes) e found.0 found.1, sym found.2)

form_node : (f : Forms) (p : Program) (shape : IsShape f p) → (k : ℕ) (x : Form) → IsAt p.forms k x
    → (n : ℕ) × (n < length f.nodes) × (x ≡ form_at f (expr_index f shape.classes) (form_index f shape.classes) n)
form_node f p shape k x there =
    let found =
    get_map (form_at f (expr_index f shape.classes) (form_index f shape.classes))
    (nodes_below (is_form f shape.classes) (length f.nodes)) k x (subst (λ xs. IsAt xs k x) shape.forms there) in
    (found.0, below_within (is_form f shape.classes) (length f.nodes) k found.0 found.1, sym found.2)

process_node : (f : Forms) (p : Program) → IsSound f → (shape : IsShape f p) → (k : ℕ) (q : Process)
    → IsAt p.processes k q
    → (n : ℕ) × (n < length f.nodes) × (q ≡ process_of f (form_index f shape.classes) n (items_of (kind_at f n)))
process_node f p sound shape k q there =
    let form = form_index f shape.classes in
    let found =
    at_filter_map (process_at f form) (drop 3 (items_of (kind_at f shape.root))) k q
    (subst (λ qs. IsAt qs k q) shape.processes there) in (
      found.1,
      dropped_within f shape.root 3 found.0 found.1 sound
          (root_within f p sound shape) found.2,
      process_found f form found.1 (layout f classes.Item (kind_at f found.1)) q found.3,
    )

pub place_of_node : (f : Forms) (p : Program) → IsSound f → IsShape f p → (at : Place) → HasPlace p at
    → IsNodePlace f at
place_of_node f p sound shape at HasPlace.program = (shape.root, root_within f p sound shape, shape.place)
place_of_node f p sound shape at (HasPlace.definition d x there) = let found = def_node f p sound shape d x there in
    (found.0, found.1, ap Def.place found.3)
place_of_node f p sound shape at (HasPlace.pin d k x y there found) =
    let def = def_node f p sound shape d x there in
    let pin =
    get_map (pin_at f) (pin_nodes f (items_of (kind_at f def.0)) def.2) k y
    (subst (λ (z : Def). IsAt z.pins k y) def.3 found) in
    (pin.0, pin_within f def.0 k pin.0 def.2 sound def.1 pin.1, ap Pin.place (sym pin.2))
place_of_node f p sound shape at (HasPlace.argument d k x args body a there what found) =
    let def = def_node f p sound shape d x there in
    let expr = expr_index f shape.classes in
    let items = items_of (kind_at f def.0) in
    let same = args_found f expr items def.2 args body (sym (ap Def.what def.3) ∙ what) in
    let arg =
    get_map (arg_at f) (items_of (kind_at f (slice_index items 3))) k a
    (subst (λ (xs : List Arg). IsAt xs k a) same found) in (
      arg.0,
      dropped_within f (slice_index items 3) 0 k arg.0 sound (item_within f def.0 3 sound def.1) arg.1,
      ap Arg.place (sym arg.2),
    )
place_of_node f p sound shape at (HasPlace.expression e x there) = let found = expr_node f p shape e x there in
    (found.0, found.1, ap Expr.place found.2)
place_of_node f p sound shape _ (HasPlace.head e x at name os there kind) =
    let found = expr_node f p shape e x there in (
      slice_index (items_of (kind_at f found.0)) 0,
      item_within f found.0 0 sound found.1,
      head_found f (expr_index f shape.classes) (kind_at f found.0) at name os (sym (ap Expr.kind found.2) ∙ kind),
    )
place_of_node f p sound shape at (HasPlace.form k x there) = let found = form_node f p shape k x there in
    (found.0, found.1, ap Form.place found.2)
place_of_node f p sound shape _ (HasPlace.target k x name at v there kind) =
    let found = form_node f p shape k x there in
    let items = items_of (kind_at f found.0) in (
      slice_index items 1,
      item_within f found.0 1 sound found.1,
      target_found f (expr_index f shape.classes) (form_index f shape.classes) items
          (layout f classes.Action (kind_at f found.0)) name at v (sym (ap Form.kind found.2) ∙ kind),
    )
place_of_node f p sound shape at (HasPlace.process k q there) = let found = process_node f p sound shape k q there in
    (found.0, found.1, ap Process.place found.2)
place_of_node f p sound shape at (HasPlace.label k j q x there found) =
    let node = process_node f p sound shape k q there in
    let label =
    label_found f 0 (drop 3 (items_of (kind_at f node.0))) j x
    (subst (λ (z : Process). IsAt z.labels j x) node.2 found) in
    (label.1, dropped_within f node.0 3 label.0 label.1 sound node.1 label.2, label.3)
place_of_node f p sound shape at (HasPlace.depth k q there) =
    let found = process_node f p sound shape k q there in
    (slice_index (items_of (kind_at f found.0)) 2, item_within f found.0 2 sound found.1, ap Process.depth_at found.2)
