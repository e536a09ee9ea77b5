-- The weights of expressions and processes.
use Rattle.std.proofs.Common.{◌≡◌, ℕ, ◌+◌, ◌*◌, List, [], ◌∷◌, refl, sym, ◌∙◌, ap, arith, length, Bool, true, false}
use Rattle.std.proofs.Common.{cond, slice_index, min}
use Rattle.std.specs.List.{sum_by}
use Rattle.mp_program.specs.declared.program.ExprKind.{ExprKind}
use Rattle.mp_program.specs.declared.program.ExprKind.TheVariants.{Number, Named, True, False, Apply}
use Rattle.mp_program.specs.declared.program.Def.{Def}
use Rattle.mp_program.specs.declared.program.Expr.{Expr}
use Rattle.mp_program.specs.declared.program.Process.{Process}
use Rattle.mp_program.specs.declared.program.Program.{Program}
use Rattle.mp_program.specs.Names.{is_same, index_of}
use Rattle.mp_program.specs.Weight.{names_constant, expr_weight, calls_in, process_weight}
use Rattle.mp_base.specs.Entries.{IsAt}
use Rattle.name_meanings.specs.declared.meaning.Meanings.{Meanings}
use Rattle.name_meanings.specs.Meaning.{AreMeanings}
use Rattle.mp_weight.specs.Weighing.{is_constant_at, expr_weight_of, process_weight_of}
use Rattle.mp_weight.proofs.Capping.{min_add, min_mul, sum_capped, all_by}

-- the definition at the index of a name is a constant where the name is that of a constant
constant_named : (defs : List Def) (x : List ℕ) → is_constant_at defs (index_of defs x) ≡ names_constant defs x
constant_named [] x = refl
constant_named (d ∷ ds) x = by_test (constant_named ds x) (is_same d.name x) refl
  where
    by_test : is_constant_at ds (index_of ds x) ≡ names_constant ds x → (b : Bool) → is_same d.name x ≡ b
        → is_constant_at (d ∷ ds) (index_of (d ∷ ds) x) ≡ names_constant (d ∷ ds) x
    by_test rest true e = rw e refl
    by_test rest false e = rw e rest

pub expr_term : (p : Program) (m : Meanings) (e : ℕ) (x : Expr) → AreMeanings p m → IsAt p.exprs e x
    → expr_weight_of p.defs (slice_index m.exprs e) x.kind ≡ expr_weight p x.kind
expr_term p m e x meant at = by_kind x.kind refl
  where
    by_kind : (k : ExprKind) → x.kind ≡ k → expr_weight_of p.defs (slice_index m.exprs e) k ≡ expr_weight p k
    by_kind (Number n) is = refl
    by_kind (Named name) is = ap (λ i. cond (is_constant_at p.defs i) 1 0) (meant.exprs e x name at is)
        ∙ ap (λ b. cond b 1 0) (constant_named p.defs name)
    by_kind True is = refl
    by_kind False is = refl
    by_kind (Apply op k args) is = refl

pub process_term : (p : Program) (cap : ℕ) (calls : List ℕ) (q : Process)
    → ((f : ℕ) → slice_index calls f ≡ min cap (calls_in p f))
    → min cap (process_weight_of calls q) ≡ min cap (process_weight p q)
process_term p cap calls q h =
    let each = all_by (λ f. min cap (slice_index calls f) ≡ min cap (calls_in p f)) (λ f. omega (arith, h f)) q.forms in
    let sums : min cap (sum_by (slice_index calls) q.forms) ≡ min cap (sum_by (calls_in p) q.forms) =
    sum_capped (slice_index calls) (calls_in p) cap q.forms each in
    let products : min cap (10 * q.depth * sum_by (slice_index calls) q.forms)
    ≡ min cap (10 * q.depth * sum_by (calls_in p) q.forms) =
    sym (min_mul cap (10 * q.depth) (sum_by (slice_index calls) q.forms))
    ∙ ap (λ s. min cap (min cap (10 * q.depth) * s)) sums ∙ min_mul cap (10 * q.depth) (sum_by (calls_in p) q.forms) in
    sym (min_add cap (10 + 10 * length q.forms) (10 * q.depth * sum_by (slice_index calls) q.forms))
    ∙ ap (λ s. min cap (min cap (10 + 10 * length q.forms) + s)) products
    ∙ min_add cap (10 + 10 * length q.forms) (10 * q.depth * sum_by (calls_in p) q.forms)
