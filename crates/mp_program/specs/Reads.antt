-- What ports and signals read of each other, and the orders in which they can be evaluated.
use Rattle.std.specs.Prelude.{◌≡◌, ℕ, ◌<◌, List, [], ◌∷◌, ◌++◌, Bool, true, false, ◌||◌, ◌&&◌, length, slice_index, ◌≢◌}
use Rattle.std.specs.Prelude.{slice_index_or, slice_get, Some}
use Rattle.std.specs.List.{list_any}
use Rattle.mp_program.specs.declared.program.ExprKind.{ExprKind}
use Rattle.mp_program.specs.declared.program.ExprKind.TheVariants.{Named, Apply}
use Rattle.mp_program.specs.declared.program.FormKind.{FormKind}
use Rattle.mp_program.specs.declared.program.FormKind.TheVariants.{Set, Cond, Par}
use Rattle.mp_program.specs.declared.program.Branch.{Branch}
use Rattle.mp_program.specs.declared.program.Def.{Def}
use Rattle.mp_program.specs.declared.program.Expr.{Expr}
use Rattle.mp_program.specs.declared.program.Form.{Form}
use Rattle.mp_program.specs.declared.program.Process.{Process}
use Rattle.mp_program.specs.declared.program.Program.{Program}
use Rattle.mp_base.specs.Table.{table}
use Rattle.mp_program.specs.Names.{is_same, is_driven}

-- the name n stands in an expression of this kind, where m says so of its arguments
abbrev pub kind_mentions : List ℕ → ExprKind → (ℕ → Bool) → Bool
kind_mentions n (Named x) m = is_same x n
kind_mentions n (Apply op k args) m = list_any m args
kind_mentions n _ m = false

-- the name n stands in the expression at an index
abbrev pub mentions : Program → List ℕ → ℕ → Bool
mentions p n e = slice_index_or (table false (λ (x : Expr) m. kind_mentions n x.kind m) 0 p.exprs) e false

-- a `setq` of x stands in a branch, where s says so of forms
abbrev pub branches_set : List Branch → (ℕ → Bool) → Bool
branches_set bs s = list_any (λ (b : Branch). list_any s b.body) bs

-- a `setq` of x is a form of this kind or stands in it
abbrev pub kind_sets : List ℕ → FormKind → (ℕ → Bool) → Bool
kind_sets x (Set y at v) s = is_same y x
kind_sets x (Cond bs) s = branches_set bs s
kind_sets x (Par fs) s = list_any s fs
kind_sets x _ s = false

-- the same of the form at an index
abbrev pub sets : Program → List ℕ → ℕ → Bool
sets p x f = slice_index_or (table false (λ (y : Form) s. kind_sets x y.kind s) 0 p.forms) f false

-- A `setq` of x reads n if n stands in its value, in the guard of a branch around it, or in the guard of a branch
-- before one of these
-- in the same `cond`. Here m says where n stands, s where a `setq` of x stands, and r which forms have one that reads
-- n; before says
-- whether n stands in the guard of an earlier branch.
abbrev pub branches_read : (ℕ → Bool) → (ℕ → Bool) → Bool → List Branch → (ℕ → Bool) → Bool
branches_read m s before [] r = false
branches_read m s before (b ∷ bs) r =
    ((before || m b.guard) && list_any s b.body) || (list_any r b.body || branches_read m s (before || m b.guard) bs r)

-- the same for a form of this kind
abbrev pub kind_reads : (ℕ → Bool) → (ℕ → Bool) → List ℕ → FormKind → (ℕ → Bool) → Bool
kind_reads m s x (Set y at v) r = is_same y x && m v
kind_reads m s x (Cond bs) r = branches_read m s false bs r
kind_reads m s x (Par fs) r = list_any r fs
kind_reads m s x _ r = false

-- a `setq` of x in the form at an index reads n
abbrev pub form_reads : Program → List ℕ → List ℕ → ℕ → Bool
form_reads p x n f =
    slice_index_or (table false (λ (y : Form) r. kind_reads (mentions p n) (sets p x) x y.kind r) 0 p.forms) f false

-- the top-level forms of processes
abbrev pub process_roots : List Process → List ℕ
process_roots [] = []
process_roots (q ∷ qs) = q.forms ++ process_roots qs

-- the top-level forms of the program
abbrev pub roots : Program → List ℕ
roots p = p.always ++ process_roots p.processes

-- definition a reads definition b: both are driven, and a top-level form has a `setq` of a that reads b
abbrev pub Reads : Program → ℕ → ℕ → Type 0
Reads p a b = (x y : Def) × (slice_get p.defs a ≡ Some x) × (slice_get p.defs b ≡ Some y)
    × (is_driven x.what ≡ true) × (is_driven y.what ≡ true) × (list_any (form_reads p x.name y.name) (roots p) ≡ true)

-- a chain of definitions, each read by the one before it, from a to b
pub data Chain (p : Program) : ℕ → ℕ → Type 0 where
  link : {a b : ℕ} → Reads p a b → Chain p a b
  more : {a b c : ℕ} → Reads p a b → Chain p b c → Chain p a c

-- an order of evaluation: the driven definitions, each once, each after all that it reads
pub record IsOrder (p : Program) (order : List ℕ) : Type 0 where
  pub driven : (k : ℕ) → k < length order
      → (x : Def) × (slice_get p.defs (slice_index order k) ≡ Some x) × (is_driven x.what ≡ true)
  pub once : (j k : ℕ) → j < k → k < length order → slice_index order j ≢ slice_index order k
  pub all : (d : ℕ) (x : Def) → slice_get p.defs d ≡ Some x → is_driven x.what ≡ true
      → (k : ℕ) × (k < length order) × (slice_index order k ≡ d)
  pub after : (k b : ℕ) → k < length order → Reads p (slice_index order k) b
      → (j : ℕ) × (j < k) × (slice_index order j ≡ b)
