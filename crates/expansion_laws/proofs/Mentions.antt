-- A guard or value of the expansion mentions a name exactly where one of its pieces is that name.
use Rattle.std.proofs.Common.{◌≡◌, ◌∙◌, ℕ, zero, suc, ◌-◌, List, [], ◌∷◌, ◌++◌, refl, sym, ap, subst, arith, length}
use Rattle.std.proofs.Common.{take, Bool, true, false, append-nil}
use Rattle.std.specs.Prelude.{map, slice_index_or, ◌||◌, ⊤, Contains}
use Rattle.std.specs.List.{list_any, AllByRecursion}
use Rattle.mp_base.specs.Table.{table}
use Rattle.mp_base.specs.declared.refusal.Place.{Place}
use Rattle.mp_base.proofs.Contents.{nothing_in}
use Rattle.mp_base.proofs.Lists.{head_of, tail_of}
use Rattle.mp_program.specs.Names.{is_same}
use Rattle.mp_program.specs.Reads as plain_reads
use Rattle.mp_program.specs.Reads.{kind_mentions}
use Rattle.mp_program.specs.declared.program.Expr as plain
use Rattle.mp_program.specs.declared.program.Program as plain_program
use Rattle.mp_written.specs.declared.program.ExprKind.{ExprKind}
use Rattle.mp_written.specs.declared.program.ExprKind.TheVariants.{Number, Named, True, False, Apply, Use}
use Rattle.mp_written.specs.declared.program.Expr.{Expr}
use Rattle.mp_written.specs.declared.program.Program.{Program}
use Rattle.mp_written.specs.Functions.{functions}
use Rattle.mp_written.specs.Reads.{is_name}
use Rattle.mp_written.specs.Pieces.{pieces}
use Rattle.mp_written.specs.Laying.{laid, laid_kind, arity}
use Rattle.mp_written.specs.Expansion.{tops, all_pieces, start, IsExpansion}
use Rattle.expansion_laws.proofs.Laid.{joined}
use Rattle.expansion_laws.proofs.ClosedClaims.{outside_so}
use Rattle.expansion_laws.proofs.Words.{Has, values, told_joined, has_closed, Passes, vals_of}
use Rattle.expansion_laws.proofs.LaidTables.{values_laid}
use Rattle.expansion_laws.proofs.Places.{tops_are, all_joined, all_of}
use Rattle.expansion_laws.proofs.Types.{behind}
use Rattle.expansion_laws.specs.Lawful.{IsLawfulProgram}

or_false : (b : Bool) → b ≡ (b || false)
or_false true = refl
or_false false = refl

or_assoc : (a b c : Bool) → ((a || b) || c) ≡ (a || (b || c))
or_assoc true b c = refl
or_assoc false b c = refl

itself : Bool → Bool
itself b = b

-- some piece is the name n
abbrev pub named : List ℕ → List Expr → Bool
named n xs = list_any (λ (x : Expr). is_name n x.kind) xs

named_append : (n : List ℕ) (xs ys : List Expr) → named n (xs ++ ys) ≡ (named n xs || named n ys)
named_append n [] ys = refl
named_append n (x ∷ xs) ys =
    ap (λ b. is_name n x.kind || b) (named_append n xs ys) ∙ sym (or_assoc (is_name n x.kind) (named n xs) (named n ys))

abbrev mention : List ℕ → ExprKind → List Bool → Bool
mention n k vs = is_name n k || list_any (λ b. b) vs

any_map : (h : ℕ → Bool) (ts : List ℕ) → list_any h ts ≡ list_any (λ b. b) (map h ts)
any_map h [] = refl
any_map h (t ∷ ts) = ap (λ b. h t || b) (any_map h ts)

agree : (n : List ℕ) (at : Place) (k : ExprKind) (ts : List ℕ) (h : ℕ → Bool)
    → kind_mentions n (laid_kind k ts) h ≡ mention n k (map h (take (arity k) ts))
agree n at (Number v) ts h = refl
agree n at (Named x) ts h = or_false (is_same x n)
agree n at True ts h = refl
agree n at False ts h = refl
agree n at (Apply op k os) ts h = any_map h (take (length os) ts)
agree n at (Use there x os) ts h = refl

abbrev Tells : List ℕ → Bool → List Expr → Type 0
Tells n v xs = v ≡ named n xs

any_values : (n : List ℕ) (vs : List (List Expr)) (h : AllByRecursion (Has (mention n) (Tells n)) vs)
    → list_any (λ b. b) (values (mention n) (Tells n) vs h) ≡ named n (joined vs)
any_values n [] h = refl
any_values n (v ∷ vs) h =
    ap (λ b. b || list_any (λ c. c) (values (mention n) (Tells n) vs h.1)) (h.0).so
    ∙ ap (λ b. named n v || b) (any_values n vs h.1) ∙ sym (named_append n v (joined vs))

passes : (n : List ℕ) → Passes (mention n) (λ k. ⊤) (Tells n)
passes n x vs h k = ap (λ b. is_name n x.kind || b) (any_values n vs h)

same_maps : {X : Type 0} (f g : ℕ → X) (ts : List ℕ) → map f ts ≡ map g ts → (v : ℕ) → Contains ts v → f v ≡ g v
same_maps f g [] e v c = absurd (nothing_in v c)
same_maps {X} f g (t ∷ ts) e v (zero, lt, is) =
    let here : f t ≡ g t = head_of e in ap f (sym is) ∙ here ∙ ap g is
same_maps f g (t ∷ ts) e v (suc k, lt, is) = same_maps f g ts (tail_of e) v (k, omega (arith, lt), is)

map_twice : {X : Type 0} (f : ℕ → X) (g : ℕ → ℕ) (ts : List ℕ) → map f (map g ts) ≡ map (λ t. f (g t)) ts
map_twice f g [] = refl
map_twice f g (t ∷ ts) = ap (λ ys. f (g t) ∷ ys) (map_twice f g ts)

all_values : (n : List ℕ) (p : ℕ → List Expr) (ts : List ℕ) (h : AllByRecursion (Has (mention n) (Tells n)) (map p ts))
    → values (mention n) (Tells n) (map p ts) h ≡ map (λ v. named n (p v)) ts
all_values n p [] h = refl
all_values n p (t ∷ ts) h =
    ap (λ b. b ∷ values (mention n) (Tells n) (map p ts) h.1) (h.0).so
    ∙ ap (λ ys. named n (p t) ∷ ys) (all_values n p ts h.1)

module _ (w : Program) (law : IsLawfulProgram w) (n : List ℕ) where
  words : AllByRecursion (Has (mention n) (Tells n)) (map (pieces w) (tops w))
  words = all_of (Has (mention n) (Tells n)) (pieces w) (tops w)
      (λ e c. outside_so (λ k. ⊤) (Has (mention n) (Tells n)) (has_closed (mention n) (λ k. ⊤) (Tells n) (passes n))
      w.exprs (functions w) (behind w) law.bodies (λ k f at d x under there fit free. tt) (λ d. ⊤)
      (λ d x reached there fit free. tt) (λ d a x reached there c2. tt) e tt (law.tops e c))

  pub top_mentions : (v : ℕ) → Contains (tops w) v
      → slice_index_or (table false (λ (x : plain.Expr) m. kind_mentions n x.kind m) 0 (laid 0 (all_pieces w)).exprs)
      (start w v) false ≡ named n (pieces w v)
  top_mentions v c =
      let t = table false (λ (x : plain.Expr) m. kind_mentions n x.kind m) 0 (laid 0 (all_pieces w)).exprs in
      let look : ℕ → Bool = λ k. slice_index_or t (k - 0) false in
      let by_tops : map look (map (start w) (tops w)) ≡ vals_of (mention n) (all_pieces w) =
      subst (λ ts. map look ts ≡ vals_of (mention n) (all_pieces w)) (tops_are w law)
      (values_laid false (mention n) (λ (x : plain.Expr) m. kind_mentions n x.kind m) (agree n) 0 (all_pieces w)) in
      let by_words : vals_of (mention n) (all_pieces w) ≡ map (λ u. named n (pieces w u)) (tops w) =
      ap (vals_of (mention n)) (all_joined w law ∙ sym (append-nil (joined (map (pieces w) (tops w)))))
      ∙ told_joined (mention n) (Tells n) (map (pieces w) (tops w)) words []
      ∙ append-nil (values (mention n) (Tells n) (map (pieces w) (tops w)) words)
      ∙ all_values n (pieces w) (tops w) words in
      let e : start w v ≡ start w v - 0 = omega arith in
      ap (λ k. slice_index_or t k false) e
      ∙ same_maps (λ u. look (start w u)) (λ u. named n (pieces w u)) (tops w)
      (sym (map_twice look (start w) (tops w)) ∙ by_tops ∙ by_words) v c

  -- the same of an expansion
  pub expansion_mentions : (p : plain_program.Program) → IsExpansion w p → (v : ℕ) → Contains (tops w) v
      → plain_reads.mentions p n (start w v) ≡ named n (pieces w v)
  expansion_mentions p expands v c =
      ap (λ es. slice_index_or (table false (λ (x : plain.Expr) m. kind_mentions n x.kind m) 0 es) (start w v) false)
      expands.exprs
      ∙ top_mentions v c
