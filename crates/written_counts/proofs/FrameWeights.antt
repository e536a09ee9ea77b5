-- What the frame weighs beside its expressions, and what these weigh.
use Rattle.std.proofs.Common.{◌≡◌, ◌∙◌, ℕ, suc, ◌+◌, List, [], ◌∷◌, ◌++◌, Bool, true, false, cond, refl, sym, ap}
use Rattle.std.proofs.Common.{arith, map, take, slice_index}
use Rattle.std.specs.Prelude.{slice_get}
use Rattle.std.specs.List.{sum_by, filter_map, cons_option}
use Rattle.std.specs.Option.{option_map_or}
use Rattle.std.proofs.lemmas.List.{take_more}
use Rattle.std.proofs.lemmas.List.Sums.{sum_by-cons, sum_by-append}
use Rattle.std.proofs.lemmas.Option.{get_or_from_slice_get}
use Rattle.mp_base.specs.Entries.{IsAt}
use Rattle.mp_base.proofs.Entries.{within}
use Rattle.mp_program.specs.Names.{is_same, index_of}
use Rattle.mp_program.specs.Weight as plain_weight
use Rattle.mp_program.specs.Weight.{names_constant, expr_weight, def_weight}
use Rattle.mp_program.specs.declared.program.ExprKind.{ExprKind}
use Rattle.mp_program.specs.declared.program.ExprKind.TheVariants.{Number, Named, True, False, Apply}
use Rattle.mp_program.specs.declared.program.Def as plain_def
use Rattle.mp_program.specs.declared.program.Expr.{Expr}
use Rattle.mp_program.specs.declared.program.Program as plain
use Rattle.mp_program.specs.declared.program.Form.{Form}
use Rattle.mp_program.specs.declared.program.What.TheVariants as plains
use Rattle.mp_written.specs.declared.program.What.{What}
use Rattle.mp_written.specs.declared.program.What.TheVariants as whats
use Rattle.mp_written.specs.declared.program.Def.{Def}
use Rattle.mp_written.specs.declared.program.Program.{Program}
use Rattle.mp_written.specs.Functions.{plain_what_of, plain_def}
use Rattle.mp_written.specs.Weight.{frame_weight}
use Rattle.written_frame.specs.Frame.{IsFrame, frame_def, frame_what}
use Rattle.written_frame.proofs.Frames.{frame, one_frame}
use Rattle.name_meanings.specs.declared.meaning.Meanings.{Meanings}
use Rattle.name_meanings.specs.Meaning.{AreMeanings}
use Rattle.written_counts.specs.Costs.{plain_cost, plain_name_cost}
use Rattle.written_counts.specs.Frames.{weight_beside}

-- ---- expressions of a program without functions

abbrev constant_at : List plain_def.Def → ℕ → Bool
constant_at ds k = option_map_or (λ (d : plain_def.Def). plain_weight.is_constant d.what) (slice_get ds k) false

constant_named : (ds : List plain_def.Def) (x : List ℕ) → constant_at ds (index_of ds x) ≡ names_constant ds x
constant_named [] x = refl
constant_named (d ∷ ds) x = turn (is_same d.name x) (constant_named ds x)
  where
    turn : (b : Bool) → constant_at ds (index_of ds x) ≡ names_constant ds x
        → constant_at (d ∷ ds) (cond b 0 (suc (index_of ds x)))
        ≡ cond b (plain_weight.is_constant d.what) (names_constant ds x)
    turn true rest = refl
    turn false rest = rest

pub plain_term : (p : plain.Program) (m : Meanings) (e : ℕ) (x : Expr) → AreMeanings p m → IsAt p.exprs e x
    → plain_cost p.defs (slice_index m.exprs e) x.kind ≡ expr_weight p x.kind
plain_term p m e x meant at = by_kind x.kind refl
  where
    by_kind : (k : ExprKind) → x.kind ≡ k → plain_cost p.defs (slice_index m.exprs e) k ≡ expr_weight p k
    by_kind (Number n) is = refl
    by_kind (Named name) is = ap (plain_name_cost p.defs) (meant.exprs e x name at is)
        ∙ ap (λ b. cond b 1 0) (constant_named p.defs name)
    by_kind True is = refl
    by_kind False is = refl
    by_kind (Apply op k os) is = refl

pub sum_more : {X : Type 0} (f : X → ℕ) (xs : List X) (n : ℕ) (x : X) → IsAt xs n x
    → sum_by f (take (n + 1) xs) ≡ sum_by f (take n xs) + f x
sum_more f xs n x at =
    ap (sum_by f) (take_more xs n x (within xs n at) ∙ ap (λ y. take n xs ++ y ∷ [])
    (get_or_from_slice_get xs n x x at))
    ∙ sum_by-append f (take n xs) (x ∷ [])
    ∙ (let e = sum_by-cons f x [] in omega (arith, e))

-- ---- the frame

-- what definitions weigh, where g tells how many `setq` of a name there are
abbrev weigh : (List ℕ → ℕ) → plain_def.Def → ℕ
weigh g p = def_weight p.what (g p.name)

-- a definition of the frame before others: a function weighs nothing
def_term : (g : List ℕ → ℕ) (d : Def) (k : What) (rest : List plain_def.Def)
    → sum_by (weigh g) (cons_option (plain_def d (plain_what_of k)) rest)
    ≡ def_weight (frame_what k) (g d.name) + sum_by (weigh g) rest
def_term g d (whats.Function args body) rest = omega arith
def_term g d whats.Power rest =
    sum_by-cons (weigh g) (record { place = d.place; name = d.name; what = plains.Power; pins = d.pins }) rest
def_term g d whats.Ground rest =
    sum_by-cons (weigh g) (record { place = d.place; name = d.name; what = plains.Ground; pins = d.pins }) rest
def_term g d whats.Phia rest =
    sum_by-cons (weigh g) (record { place = d.place; name = d.name; what = plains.Phia; pins = d.pins }) rest
def_term g d whats.Phib rest =
    sum_by-cons (weigh g) (record { place = d.place; name = d.name; what = plains.Phib; pins = d.pins }) rest
def_term g d whats.Phic rest =
    sum_by-cons (weigh g) (record { place = d.place; name = d.name; what = plains.Phic; pins = d.pins }) rest
def_term g d (whats.Constant c) rest =
    sum_by-cons (weigh g) (record { place = d.place; name = d.name; what = plains.Constant c; pins = d.pins }) rest
def_term g d whats.Register rest =
    sum_by-cons (weigh g) (record { place = d.place; name = d.name; what = plains.Register; pins = d.pins }) rest
def_term g d whats.Flag rest =
    sum_by-cons (weigh g) (record { place = d.place; name = d.name; what = plains.Flag; pins = d.pins }) rest
def_term g d (whats.Port way) rest =
    sum_by-cons (weigh g) (record { place = d.place; name = d.name; what = plains.Port way; pins = d.pins }) rest
def_term g d (whats.Signal way) rest =
    sum_by-cons (weigh g) (record { place = d.place; name = d.name; what = plains.Signal way; pins = d.pins }) rest

defs_term : (g : List ℕ → ℕ) (ds : List Def)
    → sum_by (weigh g) (filter_map (λ (d : Def). plain_def d (plain_what_of d.what)) ds)
    ≡ sum_by (weigh g) (map frame_def ds)
defs_term g [] = refl
defs_term g (d ∷ ds) =
    def_term g d d.what (filter_map (λ (y : Def). plain_def y (plain_what_of y.what)) ds)
    ∙ (let rest = defs_term g ds in let here = sum_by-cons (weigh g) (frame_def d) (map frame_def ds) in
    omega (arith, rest, here))

pub beside_same : (w : Program) (s : plain.Program) → IsFrame w s → weight_beside s ≡ frame_weight w
beside_same w s is =
    ap weight_beside (one_frame w s is)
    ∙ ap (λ n. n + sum_by (λ (f : Form). plain_weight.form_weight f.kind) w.forms + sum_by
    (plain_weight.process_weight (frame w)) w.processes)
    (sym (defs_term (plain_weight.sets_of (frame w)) w.defs))
