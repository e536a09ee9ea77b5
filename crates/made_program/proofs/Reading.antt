-- No driven definition of a made program reads another.
use Rattle.std.proofs.Common.{◌≡◌, ℕ, zero, suc, ◌-◌, List, [], ◌∷◌, Bool, true, false, refl, sym, ◌∙◌, ap, codes}
use Rattle.std.proofs.Common.{rules}
use Rattle.std.specs.Prelude.{not, ◌&&◌, ◌||◌, slice_index_or}
use Rattle.std.specs.List.{list_all, list_any}
use Rattle.std.proofs.lemmas.Bool.{and_parts, not-true}
use Rattle.std.proofs.Math.ListN.{get_or-eq_default}
use Rattle.mp_base.specs.Table.{table}
use Rattle.mp_program.specs.declared.program.ExprKind.{ExprKind}
use Rattle.mp_program.specs.declared.program.ExprKind.TheVariants.{Number, Named, True, False, Apply}
use Rattle.mp_program.specs.declared.program.FormKind.{FormKind}
use Rattle.mp_program.specs.declared.program.FormKind.TheVariants.{Set, Cond, Par, Go, Call, Return}
use Rattle.mp_program.specs.declared.program.Def.{Def}
use Rattle.mp_program.specs.declared.program.Expr.{Expr}
use Rattle.mp_program.specs.declared.program.Form.{Form}
use Rattle.mp_program.specs.declared.program.Program.{Program}
use Rattle.mp_program.specs.Names.{is_same, is_driven}
use Rattle.mp_program.specs.Reads.{kind_mentions, mentions, sets, kind_reads, form_reads, roots, Reads, Chain, link}
use Rattle.mp_program.specs.Reads.{more}
use Rattle.mp_program.proofs.Definitions.{same_is}
use Rattle.made_program.specs.Made.{IsMade, defs_of}
use Rattle.made_program.proofs.Lists.{passes_in, clash}
use Rattle.made_program.proofs.Tests.{is_no_name, is_set, exprs_no_q, forms_set}

none_pass : (test : ℕ → Bool) (ks : List ℕ) → ((k : ℕ) → test k ≡ false) → list_any test ks ≡ false
none_pass test [] none = refl
none_pass test (k ∷ ks) none = ap (λ b. b || list_any test ks) (none k) ∙ none_pass test ks none

kind_silent : (n : List ℕ) (kind : ExprKind) (m : ℕ → Bool) → is_no_name n kind ≡ true → ((k : ℕ) → m k ≡ false)
    → kind_mentions n kind m ≡ false
kind_silent n (Named x) m h none = not-true (is_same x n) h
kind_silent n (Apply op k args) m h none = none_pass m args none
kind_silent n (Number v) m h none = refl
kind_silent n True m h none = refl
kind_silent n False m h none = refl

-- a name that stands in no expression is mentioned nowhere
silent : (n : List ℕ) (xs : List Expr) (at k : ℕ) → list_all (λ (x : Expr). is_no_name n x.kind) xs ≡ true
    → slice_index_or (table false (λ (x : Expr) m. kind_mentions n x.kind m) at xs) k false ≡ false
silent n [] at k all = get_or-eq_default [] false {n = k} (search rules)
silent n (x ∷ xs) at zero all =
    let p = and_parts (is_no_name n x.kind) (list_all (λ (x : Expr). is_no_name n x.kind) xs) all in
    kind_silent n x.kind (λ k. slice_index_or (table false (λ (x : Expr) m. kind_mentions n x.kind m) (suc at) xs)
    (k - suc at) false) p.0
    (λ k. silent n xs (suc at) (k - suc at) p.1)
silent n (x ∷ xs) at (suc k) all =
    let p = and_parts (is_no_name n x.kind) (list_all (λ (x : Expr). is_no_name n x.kind) xs) all in
    silent n xs (suc at) k p.1

kind_blind : (m s : ℕ → Bool) (x : List ℕ) (kind : FormKind) (r : ℕ → Bool) → is_set kind ≡ true
    → ((k : ℕ) → m k ≡ false) → kind_reads m s x kind r ≡ false
kind_blind m s x (Set y at v) r h none = ap (λ b. is_same y x && b) (none v) ∙ and_false (is_same y x)
  where
    and_false : (b : Bool) → (b && false) ≡ false
    and_false true = refl
    and_false false = refl
kind_blind m s x (Cond bs) r h none = absurd (cc)
kind_blind m s x (Par fs) r h none = absurd (cc)
kind_blind m s x (Go l) r h none = absurd (cc)
kind_blind m s x (Call l) r h none = absurd (cc)
kind_blind m s x Return r h none = absurd (cc)

-- where nothing is mentioned, nothing is read
blind : (m s : ℕ → Bool) (x : List ℕ) (ys : List Form) (at k : ℕ) → list_all (λ (y : Form). is_set y.kind) ys ≡ true
    → ((k : ℕ) → m k ≡ false)
    → slice_index_or (table false (λ (y : Form) r. kind_reads m s x y.kind r) at ys) k false ≡ false
blind m s x [] at k all none = get_or-eq_default [] false {n = k} (search rules)
blind m s x (y ∷ ys) at zero all none =
    let p = and_parts (is_set y.kind) (list_all (λ (y : Form). is_set y.kind) ys) all in
    kind_blind m s x y.kind (λ k. slice_index_or (table false (λ (y : Form) r. kind_reads m s x y.kind r) (suc at) ys)
    (k - suc at) false) p.0 none
blind m s x (y ∷ ys) at (suc k) all none =
    blind m s x ys (suc at) k (and_parts (is_set y.kind) (list_all (λ (y : Form). is_set y.kind) ys) all).1 none

q_blind : (p : Program) (m : IsMade p) (x : List ℕ) (f : ℕ) → form_reads p x (codes "q") f ≡ false
q_blind p m x f = blind (mentions p (codes "q")) (sets p x) x p.forms 0 f (forms_set p m)
    (λ e. silent (codes "q") p.exprs 0 e (exprs_no_q p m))

-- only the output is driven
abbrev is_q : Def → Bool
is_q d = not (is_driven d.what) || is_same d.name (codes "q")

no_reads : (p : Program) (m : IsMade p) (a b : ℕ) → Reads p a b → ⊥
no_reads p m a b reads =
    let y : Def = reads.1 in
    let is : is_q y ≡ true = passes_in is_q p.defs (defs_of m.at) b y m.defs refl reads.3 in
    let name : y.name ≡ codes "q" =
    same_is y.name (codes "q") (sym (ap (λ d. not d || is_same y.name (codes "q")) reads.5) ∙ is) in
    clash (list_any (form_reads p (reads.0).name y.name) (roots p)) reads.6
    (ap (λ n. list_any (form_reads p (reads.0).name n) (roots p)) name
    ∙ none_pass (form_reads p (reads.0).name (codes "q")) (roots p) (λ f. q_blind p m (reads.0).name f))

pub no_chain : (p : Program) (m : IsMade p) (a b : ℕ) → Chain p a b → ⊥
no_chain p m a b (link reads) = no_reads p m a b reads
no_chain p m a c (more {b = b} reads chain) = no_reads p m a b reads
