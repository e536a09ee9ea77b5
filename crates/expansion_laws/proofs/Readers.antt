-- What the expansion reads is read as written, but for names that bodies leave.
use Rattle.std.proofs.Common.{◌≡◌, ◌∙◌, ℕ, List, [], ◌∷◌, refl, sym, ap, length}
use Rattle.std.proofs.Common.{Bool, true, false}
use Rattle.std.specs.Prelude.{map, ◌||◌, ◌&&◌, Contains}
use Rattle.std.specs.List.{list_any}
use Rattle.std.proofs.lemmas.Bool.{or_left, or_right, and_parts, and_from}
use Rattle.std.proofs.lemmas.Slice.Eq.{bytes_eq-Decides}
use Rattle.mp_base.specs.Entries.{IsAt}
use Rattle.mp_base.proofs.Entries.{read_of}
use Rattle.mp_base.proofs.Induction.{by_test}
use Rattle.mp_base.proofs.Contents.{any_contained, contains_head, contains_behind}
use Rattle.mp_program.proofs.Tables.{table_at}
use Rattle.mp_program.proofs.Walks.{list_any-behind}
use Rattle.mp_program.specs.Names.{is_same}
use Rattle.mp_program.specs.Reads as plain_reads
use Rattle.mp_program.specs.Reads.{branches_read, kind_reads}
use Rattle.mp_program.specs.Tree.{exprs_in}
use Rattle.mp_program.specs.declared.program.Branch.{Branch}
use Rattle.mp_program.specs.declared.program.FormKind.{FormKind}
use Rattle.mp_program.specs.declared.program.FormKind.TheVariants.{Set, Cond, Par, Go, Call, Return}
use Rattle.mp_program.specs.declared.program.Program as plain_program
use Rattle.mp_written.specs.declared.program.ExprKind.{ExprKind}
use Rattle.mp_written.specs.declared.program.ExprKind.TheVariants.{Number, Named, True, False, Apply, Use}
use Rattle.mp_written.specs.declared.program.Expr.{Expr}
use Rattle.mp_written.specs.declared.program.Program.{Program}
use Rattle.mp_written.specs.Functions.{Function, functions}
use Rattle.mp_written.specs.Tree.{operands}
use Rattle.mp_written.specs.Sound.{AreBehind, Under, itself, deeper}
use Rattle.mp_written.specs.Reads.{is_name, mentions}
use Rattle.mp_written.specs.Pieces.{pieces}
use Rattle.mp_written.specs.Expansion.{tops, start, IsExpansion, moved, moved_branch}
use Rattle.expansion_laws.proofs.ClosedClaims.{IsFree, under_more, outside_so}
use Rattle.expansion_laws.proofs.LeftKinds.{Kinds, kinds_closed}
use Rattle.expansion_laws.specs.Lawful.{IsLawfulProgram}
use Rattle.expansion_laws.proofs.Mentions.{named, expansion_mentions}
use Rattle.expansion_laws.proofs.Types.{behind}

-- ---- mentions as written

mentions_is : (w : Program) (n : List ℕ) → AreBehind w.exprs → (e : ℕ) (x : Expr) → IsAt w.exprs e x
    → mentions w n e ≡ (is_name n x.kind || list_any (mentions w n) (operands x.kind))
mentions_is w n sound e x at = let (lt, is) = read_of w.exprs e x at in
    table_at false (λ (y : Expr) m. is_name n y.kind || list_any m (operands y.kind)) w.exprs e x lt is
    (λ g h same. ap (λ b. is_name n x.kind || b)
    (list_any-behind e (length w.exprs) (operands x.kind) g h same (sound e x at)))

name_itself : (n : List ℕ) (k : ExprKind) → k ≡ Named n → is_name n k ≡ true
name_itself n k is = ap (is_name n) is ∙ (bytes_eq-Decides n n).1 refl

mention_under : (w : Program) (n : List ℕ) → AreBehind w.exprs → (t e : ℕ) (x : Expr) → Under w.exprs t e
    → IsAt w.exprs e x → x.kind ≡ Named n → mentions w n t ≡ true
mention_under w n sound t e x itself at is =
    mentions_is w n sound t x at ∙ or_left (is_name n x.kind) _ (name_itself n x.kind is)
mention_under w n sound t e x (deeper {e = b} y yat c under) at is =
    mentions_is w n sound t y yat
    ∙ or_right (is_name n y.kind) (list_any (mentions w n) (operands y.kind))
    (any_contained (mentions w n) (operands y.kind) b c (mention_under w n sound b e x under at is))

name_back : (n : List ℕ) (k : ExprKind) → is_name n k ≡ true → k ≡ Named n
name_back n (Number v) h = absurd (cc)
name_back n (Named x) h = ap Named ((bytes_eq-Decides x n).0 h)
name_back n True h = absurd (cc)
name_back n False h = absurd (cc)
name_back n (Apply op k os) h = absurd (cc)
name_back n (Use at x os) h = absurd (cc)

-- a name that no body leaves
abbrev pub InNoBody : Program → List ℕ → Type 0
InNoBody w n = (k : ℕ) (f : Function) (e : ℕ) (x : Expr) → IsAt (functions w) k f → Under w.exprs f.body e
    → IsAt w.exprs e x → IsFree f.args x.kind → x.kind ≡ Named n → ⊥

some_named : (n : List ℕ) (T : Type 0) (xs : List Expr) → Kinds (λ k. k ≡ Named n → T) xs → named n xs ≡ true → T
some_named n T [] all h = absurd (cc)
some_named n T (x ∷ xs) all h = by_test (is_name n x.kind)
    (λ yes. all.0 (name_back n x.kind yes))
    (λ no. some_named n T xs all.1 (sym (ap (λ b. b || named n xs) no) ∙ h))

module _ (w : Program) (p : plain_program.Program) (law : IsLawfulProgram w) (expands : IsExpansion w p) (n : List ℕ)
    (free : InNoBody w n) where
  pub mention_written : (v : ℕ) → Contains (tops w) v → plain_reads.mentions p n (start w v) ≡ true
      → mentions w n v ≡ true
  mention_written v c h =
      some_named n (mentions w n v ≡ true) (pieces w v)
      (outside_so (λ k. k ≡ Named n → mentions w n v ≡ true) (Kinds (λ k. k ≡ Named n → mentions w n v ≡ true))
      (kinds_closed (λ k. k ≡ Named n → mentions w n v ≡ true)) w.exprs (functions w) (behind w) law.bodies
      (λ k f at e x under there fit left is. absurd (free k f e x at under there left is))
      (Under w.exprs v) (λ e x under there fit left is. mention_under w n (behind w) v e x under there is)
      (λ e a x. under_more w.exprs v e a x) v itself (law.tops v c))
      (sym (expansion_mentions w law n p expands v c) ∙ h)

-- ---- reads of moved forms

any_more : (f g : ℕ → Bool) (xs : List ℕ) → ((x : ℕ) → f x ≡ true → g x ≡ true) → list_any f xs ≡ true
    → list_any g xs ≡ true
any_more f g [] more h = h
any_more f g (x ∷ xs) more h = by_test (f x)
    (λ yes. or_left (g x) _ (more x yes))
    (λ no. or_right (g x) (list_any g xs) (any_more f g xs more (sym (ap (λ b. b || list_any f xs) no) ∙ h)))

or_more : (a b c d : Bool) → (a ≡ true → c ≡ true) → (b ≡ true → d ≡ true) → (a || b) ≡ true → (c || d) ≡ true
or_more true b c d f g h = or_left c d (f refl)
or_more false b c d f g h = or_right c d (g h)

branches_more : (m m2 s : ℕ → Bool) (go : ℕ → ℕ) (r r2 : ℕ → Bool) (before before2 : Bool) (bs : List Branch)
    → ((v : ℕ) → Contains (map (λ (b : Branch). b.guard) bs) v → m2 (go v) ≡ true → m v ≡ true)
    → ((g : ℕ) → r2 g ≡ true → r g ≡ true) → (before2 ≡ true → before ≡ true)
    → branches_read m2 s before2 (map (moved_branch go) bs) r2 ≡ true → branches_read m s before bs r ≡ true
branches_more m m2 s go r r2 before before2 [] guards forms first h = absurd (cc)
branches_more m m2 s go r r2 before before2 (b ∷ bs) guards forms first h =
    let own : m2 (go b.guard) ≡ true → m b.guard ≡ true =
    guards b.guard (contains_head b.guard (map (λ (c : Branch). c.guard) bs)) in
    let either : (before2 || m2 (go b.guard)) ≡ true → (before || m b.guard) ≡ true =
    or_more before2 (m2 (go b.guard)) before (m b.guard) first own in
    or_more ((before2 || m2 (go b.guard)) && list_any s b.body)
    (list_any r2 b.body || branches_read m2 s (before2 || m2 (go b.guard)) (map (moved_branch go) bs) r2)
    ((before || m b.guard) && list_any s b.body)
    (list_any r b.body || branches_read m s (before || m b.guard) bs r)
    (λ t. (let two = and_parts (before2 || m2 (go b.guard)) (list_any s b.body) t in
    and_from (before || m b.guard) (list_any s b.body) (either two.0) two.1))
    (or_more (list_any r2 b.body) (branches_read m2 s (before2 || m2 (go b.guard)) (map (moved_branch go) bs) r2)
    (list_any r b.body) (branches_read m s (before || m b.guard) bs r)
    (any_more r2 r b.body forms)
    (branches_more m m2 s go r r2 (before || m b.guard) (before2 || m2 (go b.guard)) bs
    (λ v c. guards v (contains_behind v b.guard (map (λ (c : Branch). c.guard) bs) c)) forms either)) h

pub kind_more : (m m2 s : ℕ → Bool) (go : ℕ → ℕ) (x : List ℕ) (r r2 : ℕ → Bool) (k : FormKind)
    → ((v : ℕ) → Contains (exprs_in k) v → m2 (go v) ≡ true → m v ≡ true)
    → ((g : ℕ) → r2 g ≡ true → r g ≡ true)
    → kind_reads m2 s x (moved go k) r2 ≡ true → kind_reads m s x k r ≡ true
kind_more m m2 s go x r r2 (Set y at v) guards forms h =
    let two = and_parts (is_same y x) (m2 (go v)) h in
    and_from (is_same y x) (m v) two.0 (guards v (contains_head v []) two.1)
kind_more m m2 s go x r r2 (Cond bs) guards forms h =
    branches_more m m2 s go r r2 false false bs guards forms (λ e. e) h
kind_more m m2 s go x r r2 (Par fs) guards forms h = any_more r2 r fs forms h
kind_more m m2 s go x r r2 (Go l) guards forms h = h
kind_more m m2 s go x r r2 (Call l) guards forms h = h
kind_more m m2 s go x r r2 Return guards forms h = h
