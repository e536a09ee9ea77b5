-- What expressions weigh, by what the names of the frame mean.
use Rattle.std.proofs.Common.{◌≡◌, ◌∙◌, ◌⊎◌, inl, inr, ℕ, suc, ◌<◌, ◌+◌, List, [], ◌∷◌, ◌++◌, Bool, true, false, cond}
use Rattle.std.proofs.Common.{refl, sym, ap, subst, arith, length, map, slice_index, length-append}
use Rattle.std.specs.Prelude.{slice_get}
use Rattle.std.specs.List.{filter_map, cons_option}
use Rattle.std.specs.Option.{option_map_or}
use Rattle.std.proofs.lemmas.List.{get_or_append_left}
use Rattle.std.proofs.Math.Seq.{get_or-append_seam}
use Rattle.mp_base.specs.Entries.{IsAt}
use Rattle.mp_base.proofs.Entries.{map_get, one_entry}
use Rattle.mp_base.proofs.Induction.{by_test}
use Rattle.mp_program.specs.Names.{is_same, index_of}
use Rattle.mp_program.proofs.Definitions.{is_same_of, same_is}
use Rattle.mp_program.specs.Weight.{names_constant}
use Rattle.mp_program.specs.declared.program.Def as plain_def
use Rattle.mp_written.specs.declared.program.ExprKind.{ExprKind}
use Rattle.mp_written.specs.declared.program.ExprKind.TheVariants.{Number, Named, True, False, Apply, Use}
use Rattle.mp_written.specs.declared.program.What.{What}
use Rattle.mp_written.specs.declared.program.What.TheVariants as whats
use Rattle.mp_written.specs.declared.program.Def.{Def}
use Rattle.mp_written.specs.declared.program.Expr.{Expr}
use Rattle.mp_written.specs.declared.program.Program.{Program}
use Rattle.mp_written.specs.Kinds.{is_constant, is_function, is_supply}
use Rattle.mp_written.specs.Functions.{plain_what_of, plain_def}
use Rattle.mp_written.specs.Weight.{piece_weight}
use Rattle.written_frame.specs.Frame.{frame_def, frame_expr, frame_kind}
use Rattle.written_frame.proofs.Frames.{supply_same}
use Rattle.name_meanings.specs.declared.meaning.Meanings.{Meanings}
use Rattle.written_counts.specs.Costs.{NamesOf, cost_of, name_cost}

-- a definition before others: of the name, or of another
named_here : (d : Def) (k : What) (rest : List plain_def.Def) (x : List ℕ) → is_same d.name x ≡ true
    → is_function k ≡ false
    → names_constant (cons_option (plain_def d (plain_what_of k)) rest) x ≡ is_constant k
named_here d whats.Power rest x e f = ap (λ b. cond b false (names_constant rest x)) e
named_here d whats.Ground rest x e f = ap (λ b. cond b false (names_constant rest x)) e
named_here d whats.Phia rest x e f = ap (λ b. cond b false (names_constant rest x)) e
named_here d whats.Phib rest x e f = ap (λ b. cond b false (names_constant rest x)) e
named_here d whats.Phic rest x e f = ap (λ b. cond b false (names_constant rest x)) e
named_here d (whats.Constant c) rest x e f = ap (λ b. cond b true (names_constant rest x)) e
named_here d whats.Register rest x e f = ap (λ b. cond b false (names_constant rest x)) e
named_here d whats.Flag rest x e f = ap (λ b. cond b false (names_constant rest x)) e
named_here d (whats.Port way) rest x e f = ap (λ b. cond b false (names_constant rest x)) e
named_here d (whats.Signal way) rest x e f = ap (λ b. cond b false (names_constant rest x)) e
named_here d (whats.Function args body) rest x e f = absurd (let g : true ≡ false = f in cc)

named_else : (d : Def) (k : What) (rest : List plain_def.Def) (x : List ℕ) → is_same d.name x ≡ false
    → names_constant (cons_option (plain_def d (plain_what_of k)) rest) x ≡ names_constant rest x
named_else d whats.Power rest x e = ap (λ b. cond b false (names_constant rest x)) e
named_else d whats.Ground rest x e = ap (λ b. cond b false (names_constant rest x)) e
named_else d whats.Phia rest x e = ap (λ b. cond b false (names_constant rest x)) e
named_else d whats.Phib rest x e = ap (λ b. cond b false (names_constant rest x)) e
named_else d whats.Phic rest x e = ap (λ b. cond b false (names_constant rest x)) e
named_else d (whats.Constant c) rest x e = ap (λ b. cond b true (names_constant rest x)) e
named_else d whats.Register rest x e = ap (λ b. cond b false (names_constant rest x)) e
named_else d whats.Flag rest x e = ap (λ b. cond b false (names_constant rest x)) e
named_else d (whats.Port way) rest x e = ap (λ b. cond b false (names_constant rest x)) e
named_else d (whats.Signal way) rest x e = ap (λ b. cond b false (names_constant rest x)) e
named_else d (whats.Function args body) rest x e = refl

supply_no_constant : (k : What) → is_supply k ≡ true → (is_constant k ≡ false) × (is_function k ≡ false)
supply_no_constant whats.Power e = (refl, refl)
supply_no_constant whats.Ground e = (refl, refl)
supply_no_constant whats.Phia e = (refl, refl)
supply_no_constant whats.Phib e = (refl, refl)
supply_no_constant whats.Phic e = (refl, refl)
supply_no_constant _ e = absurd (cc)

abbrev plain_of : List Def → List plain_def.Def
plain_of ds = filter_map (λ (d : Def). plain_def d (plain_what_of d.what)) ds

-- where only supplies have a name, it is none of a constant
none_named : (ds : List Def) (x : List ℕ)
    → ((k : ℕ) (d : Def) → IsAt ds k d → is_supply d.what ≡ false → is_same d.name x ≡ false)
    → names_constant (plain_of ds) x ≡ false
none_named [] x other = refl
none_named (d ∷ ds) x other =
    let rest = none_named ds x (λ k y at. other (suc k) y at) in
    by_test (is_supply d.what)
    (λ supply. by_test (is_same d.name x)
    (λ same. named_here d d.what (plain_of ds) x same (supply_no_constant d.what supply).1
    ∙ (supply_no_constant d.what supply).0)
    (λ differs. named_else d d.what (plain_of ds) x differs ∙ rest))
    (λ value. named_else d d.what (plain_of ds) x (other 0 d refl value) ∙ rest)

-- each definition but supplies is the first of its name
abbrev AreOwn : List Def → Type 0
AreOwn ds = (k : ℕ) (d : Def) → IsAt ds k d → is_supply d.what ≡ false → index_of (map frame_def ds) d.name ≡ k

rest_own : (d : Def) (ds : List Def) → AreOwn (d ∷ ds) → AreOwn ds
rest_own d ds own k y at value = turn (is_same d.name y.name) (own (suc k) y at value)
  where
    turn : (b : Bool) → cond b 0 (suc (index_of (map frame_def ds) y.name)) ≡ suc k
        → index_of (map frame_def ds) y.name ≡ k
    turn true e = absurd (omega (arith, e))
    turn false e = omega (arith, e)

abbrev constant_at : List Def → ℕ → Bool
constant_at ds k = option_map_or (λ (d : Def). is_constant d.what) (slice_get ds k) false

constant_named : (ds : List Def) (x : List ℕ) → AreOwn ds
    → constant_at ds (index_of (map frame_def ds) x) ≡ names_constant (plain_of ds) x
constant_named [] x own = refl
constant_named (d ∷ ds) x own = by_test (is_same d.name x)
    (λ same. ap (λ b. constant_at (d ∷ ds) (cond b 0 (suc (index_of (map frame_def ds) x)))) same
    ∙ by_test (is_function d.what)
    (λ function. function_no_constant d.what function ∙ sym (hidden same function))
    (λ value. sym (named_here d d.what (plain_of ds) x same value)))
    (λ differs. ap (λ b. constant_at (d ∷ ds) (cond b 0 (suc (index_of (map frame_def ds) x)))) differs
    ∙ constant_named ds x (rest_own d ds own) ∙ sym (named_else d d.what (plain_of ds) x differs))
  where
    function_no_constant : (k : What) → is_function k ≡ true → is_constant k ≡ false
    function_no_constant (whats.Function args body) e = refl
    function_no_constant whats.Power e = refl
    function_no_constant whats.Ground e = refl
    function_no_constant whats.Phia e = refl
    function_no_constant whats.Phib e = refl
    function_no_constant whats.Phic e = refl
    function_no_constant (whats.Constant c) e = absurd (cc)
    function_no_constant whats.Register e = refl
    function_no_constant whats.Flag e = refl
    function_no_constant (whats.Port way) e = refl
    function_no_constant (whats.Signal way) e = refl

    dropped : (k : What) (c : Def) (rest : List plain_def.Def) → is_function k ≡ true
        → cons_option (plain_def c (plain_what_of k)) rest ≡ rest
    dropped (whats.Function args body) c rest e = refl
    dropped whats.Power c rest e = absurd (cc)
    dropped whats.Ground c rest e = absurd (cc)
    dropped whats.Phia c rest e = absurd (cc)
    dropped whats.Phib c rest e = absurd (cc)
    dropped whats.Phic c rest e = absurd (cc)
    dropped (whats.Constant v) c rest e = absurd (cc)
    dropped whats.Register c rest e = absurd (cc)
    dropped whats.Flag c rest e = absurd (cc)
    dropped (whats.Port way) c rest e = absurd (cc)
    dropped (whats.Signal way) c rest e = absurd (cc)

    hidden : is_same d.name x ≡ true → is_function d.what ≡ true → names_constant (plain_of (d ∷ ds)) x ≡ false
    hidden same function =
        ap (λ ps. names_constant ps x) (dropped d.what d (plain_of ds) function)
        ∙ none_named ds x (λ k y at value. by_test (is_same y.name x)
        (λ too.
        let here : is_same d.name y.name ≡ true = is_same_of d.name y.name (same_is d.name x same
        ∙ sym (same_is y.name x too)) in
        let e = sym (own (suc k) y at value)
        ∙ ap (λ b. cond b 0 (suc (index_of (map frame_def ds) y.name))) here in
        absurd (omega (arith, e)))
        (λ differs. differs))

-- the term of an expression
pub cost_term : (w : Program) (m : Meanings) (of : NamesOf w m) (e : ℕ) (x : Expr) → IsAt w.exprs e x
    → cost_of w.defs (slice_index m.exprs e) x.kind ≡ piece_weight w x.kind
cost_term w m of e x at = by_kind x.kind refl
  where
    own_defs : AreOwn w.defs
    own_defs k d here value =
        ap (λ ds. index_of ds d.name) (sym (of.is).defs)
        ∙ of.own k (frame_def d) (subst (λ ds. IsAt ds k (frame_def d)) (sym (of.is).defs)
        (map_get frame_def w.defs k d here))
        (supply_same d.what ∙ value)

    by_kind : (k : ExprKind) → x.kind ≡ k → cost_of w.defs (slice_index m.exprs e) k ≡ piece_weight w k
    by_kind (Number n) is = refl
    by_kind (Named name) is =
        let there = subst (λ xs. IsAt xs e (frame_expr x)) (sym (of.is).exprs) (map_get frame_expr w.exprs e x at) in
        ap (name_cost w.defs)
        ((of.meant).exprs e (frame_expr x) name there (ap frame_kind is) ∙ ap (λ ds. index_of ds name) (of.is).defs)
        ∙ ap (λ b. cond b 1 0) (constant_named w.defs name own_defs)
    by_kind True is = refl
    by_kind False is = refl
    by_kind (Apply op k os) is = refl
    by_kind (Use h n os) is = refl

-- what the first n expressions weigh
pub record AreFirstCosts (w : Program) (n : ℕ) (costs : List ℕ) : Type 0 where
  pub size : length costs ≡ n
  pub each : (e : ℕ) (x : Expr) → e < n → IsAt w.exprs e x → slice_index costs e ≡ piece_weight w x.kind

pub cost_more : (w : Program) (n : ℕ) (x : Expr) (v : ℕ) (costs : List ℕ) → IsAt w.exprs n x → v ≡ piece_weight w x.kind
    → AreFirstCosts w n costs → AreFirstCosts w (n + 1) (costs ++ v ∷ [])
cost_more w n x v costs at is are = record {
  size = length-append costs (v ∷ []) ∙ (let e = are.size in omega (arith, e));
  each = λ e y lt here. elim (up_to e n lt) [
    | inl less ↦ get_or_append_left costs (v ∷ []) 0 e (let l = are.size in omega (arith, l, less))
        ∙ are.each e y less here
    | inr same ↦
        (let one = one_entry w.exprs n x y at (subst (λ i. IsAt w.exprs i y) same here) in
        ap (slice_index (costs ++ v ∷ [])) (same ∙ sym are.size) ∙ get_or-append_seam costs v [] 0 ∙ is
        ∙ ap (λ (z : Expr). piece_weight w z.kind) one)
  ];
}
  where
    up_to : (e n : ℕ) → e < n + 1 → (e < n) ⊎ (e ≡ n)
    up_to e n lt = grind (arith, lt)
