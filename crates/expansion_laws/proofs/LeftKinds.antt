-- What holds of each kind that is left where it stands, holds of all expressions of the expansion.
use Rattle.std.proofs.Common.{◌≡◌, ℕ, zero, suc, ◌+◌, List, [], ◌∷◌, ◌++◌, refl, sym, ap, subst}
use Rattle.std.specs.Prelude.{Contains, take, slice_get, Some}
use Rattle.std.specs.List.{flat_map, AllByRecursion}
use Rattle.std.proofs.lemmas.Option.{none-some, same_Some}
use Rattle.mp_base.specs.Entries.{IsAt}
use Rattle.mp_base.proofs.Contents.{contains_head, contains_behind}
use Rattle.mp_program.specs.declared.program.Expr as plain
use Rattle.mp_program.specs.declared.program.Program as plain_program
use Rattle.mp_written.specs.declared.program.ExprKind.{ExprKind}
use Rattle.mp_written.specs.declared.program.Expr.{Expr}
use Rattle.mp_written.specs.declared.program.Program.{Program}
use Rattle.mp_written.specs.Functions.{Function, functions}
use Rattle.mp_written.specs.Sound.{Under, itself}
use Rattle.mp_written.specs.Pieces.{pieces}
use Rattle.mp_written.specs.Laying.{laid, laid_kind}
use Rattle.mp_written.specs.Expansion.{tops, all_pieces, IsExpansion}
use Rattle.expansion_laws.proofs.Laid.{joined}
use Rattle.expansion_laws.proofs.ClosedClaims.{IsClosed, Gives, under_more, outside_so}
use Rattle.expansion_laws.specs.Lawful.{IsLawfulProgram}
use Rattle.expansion_laws.proofs.Types.{behind}

abbrev pub Kinds : (ExprKind → Type 0) → List Expr → Type 0
Kinds K xs = AllByRecursion (λ (x : Expr). K x.kind) xs

kinds_append : (K : ExprKind → Type 0) (xs ys : List Expr) → Kinds K xs → Kinds K ys → Kinds K (xs ++ ys)
kinds_append K [] ys h k = k
kinds_append K (x ∷ xs) ys h k = (h.0, kinds_append K xs ys h.1 k)

kinds_joined : (K : ExprKind → Type 0) (vs : List (List Expr)) → AllByRecursion (Kinds K) vs → Kinds K (joined vs)
kinds_joined K [] h = tt
kinds_joined K (v ∷ vs) h = kinds_append K v (joined vs) h.0 (kinds_joined K vs h.1)

pub kinds_closed : (K : ExprKind → Type 0) → IsClosed K (Kinds K)
kinds_closed K = record {
  leaf = λ x none k. (k, tt);
  node = λ x vs many k all. (k, kinds_joined K vs all);
}

kinds_flat : (K : ExprKind → Type 0) (v : ℕ → List Expr) (os : List ℕ) → ((a : ℕ) → Contains os a → Kinds K (v a))
    → Kinds K (flat_map v os)
kinds_flat K v [] h = tt
kinds_flat K v (o ∷ os) h =
    kinds_append K (v o) (flat_map v os) (h o (contains_head o os)) (kinds_flat K v os (λ a c. h a (contains_behind a o os c)))

pub all_kinds : (K : ExprKind → Type 0) (w : Program) → IsLawfulProgram w
    → ((k : ℕ) (f : Function) → IsAt (functions w) k f
    → Gives K (Under w.exprs f.body) w.exprs (take k (functions w)) f.args)
    → ((t : ℕ) → Contains (tops w) t → Gives K (Under w.exprs t) w.exprs (functions w) [])
    → Kinds K (all_pieces w)
all_kinds K w law in_body in_form = kinds_flat K (pieces w) (tops w) (λ t c.
    outside_so K (Kinds K) (kinds_closed K) w.exprs (functions w) (behind w) law.bodies in_body (Under w.exprs t)
    (in_form t c) (λ e a x. under_more w.exprs t e a x) t itself (law.tops t c))

-- an entry of what is laid out is one of what was to be
pub laid_at : (at : ℕ) (xs : List Expr) (e : ℕ) (y : plain.Expr) → slice_get (laid at xs).exprs e ≡ Some y
    → (x : Expr) × (ts : List ℕ) × (slice_get xs e ≡ Some x) × (y.place ≡ x.place) × (y.kind ≡ laid_kind x.kind ts)
laid_at at [] e y is = absurd (none-some y is)
laid_at at (x ∷ xs) zero y is =
    let below = laid (at + 1) xs in
    let z : plain.Expr = record { place = x.place; kind = laid_kind x.kind below.tops } in
    let same = same_Some z y is in
    (x, below.tops, refl, ap (λ (u : plain.Expr). u.place) (sym same), ap (λ (u : plain.Expr). u.kind) (sym same))
laid_at at (x ∷ xs) (suc e) y is = laid_at (at + 1) xs e y is

kind_at : (K : ExprKind → Type 0) (xs : List Expr) (e : ℕ) (x : Expr) → Kinds K xs → slice_get xs e ≡ Some x → K x.kind
kind_at K [] e x h is = absurd (none-some x is)
kind_at K (y ∷ ys) zero x h is = subst (λ (u : Expr). K u.kind) (same_Some y x is) h.0
kind_at K (y ∷ ys) (suc e) x h is = kind_at K ys e x h.1 is

-- an expression of the expansion is one that is left, of a kind of which K holds
pub kind_of : (K : ExprKind → Type 0) (w : Program) (p : plain_program.Program) → IsExpansion w p
    → Kinds K (all_pieces w) → (e : ℕ) (y : plain.Expr) → IsAt p.exprs e y
    → (x : Expr) × (ts : List ℕ) × K x.kind × (y.kind ≡ laid_kind x.kind ts)
kind_of K w p expands all e y at =
    let (x, ts, is, place, kind) = laid_at 0 (all_pieces w) e y
    (subst (λ es. slice_get es e ≡ Some y) expands.exprs at) in
    (x, ts, kind_at K (all_pieces w) e x all is, kind)
