-- A chain of reads in the expansion is one as written.
use Rattle.std.proofs.Common.{◌≡◌, ◌∙◌, ◌⊎◌, inl, inr, ℕ, zero, suc, ◌-◌, ◌<◌, List, [], ◌∷◌, ◌++◌, refl, sym, ap, subst, arith, length}
use Rattle.std.proofs.Common.{Bool, true, false, get_or}
use Rattle.std.specs.Prelude.{map, slice_index_or, ◌||◌, Contains, Some, None, Option, ◌==◌}
use Rattle.std.specs.List.{list_any, filter_map, range_with_len}
use Rattle.std.proofs.Math.Path.{fun_ext}
use Rattle.std.proofs.lemmas.Bool.{eq-eqb}
use Rattle.std.proofs.lemmas.Option.{none-some, same_Some}
use Rattle.mp_base.specs.Table.{table}
use Rattle.mp_base.specs.Entries.{IsAt}
use Rattle.mp_base.proofs.Entries.{contains_from_get}
use Rattle.mp_base.proofs.Ranges.{get_range}
use Rattle.mp_base.proofs.Contents.{any_contained, contains_head, contains_behind, contains_flat, contains_filter, holds_of_contained}
use Rattle.mp_program.specs.Names as plain_names
use Rattle.mp_program.specs.Reads as plain_reads
use Rattle.mp_program.specs.Reads.{branches_set, kind_sets, kind_reads, process_roots}
use Rattle.mp_program.specs.Tree.{exprs_in}
use Rattle.mp_program.specs.declared.program.Branch.{Branch}
use Rattle.mp_program.specs.declared.program.FormKind.{FormKind}
use Rattle.mp_program.specs.declared.program.FormKind.TheVariants.{Set, Cond, Par, Go, Call, Return}
use Rattle.mp_program.specs.declared.program.Form.{Form}
use Rattle.mp_program.specs.declared.program.Way.TheVariants as ways
use Rattle.mp_program.specs.declared.program.Def as plain_def
use Rattle.mp_program.specs.declared.program.Program as plain_program
use Rattle.mp_written.specs.declared.program.What.{What}
use Rattle.mp_written.specs.declared.program.What.TheVariants as whats
use Rattle.mp_written.specs.declared.program.Def.{Def}
use Rattle.mp_written.specs.declared.program.Program.{Program}
use Rattle.mp_written.specs.Functions.{plain_what_of, plain_def as plain_def_of}
use Rattle.mp_written.specs.Reads.{mentions, sets, form_reads, roots, Reads, Chain, link, more}
use Rattle.mp_written.specs.Expansion.{tops, start, form_exprs, IsExpansion, moved, moved_branch, moved_form}
use Rattle.mp_written.proofs.Tables.{table_same, table_mapped}
use Rattle.mp_written.specs.Kinds.{is_driven}
use Rattle.expansion_laws.specs.Lawful.{IsLawfulProgram}
use Rattle.expansion_laws.proofs.FormExprs.{is_in}
use Rattle.expansion_laws.proofs.Readers.{InNoBody, mention_written, kind_more}
use Rattle.expansion_laws.proofs.Types.{inside}

-- ---- tables

no_entry : (i : ℕ) → get_or {A = Bool} [] i false ≡ true → ⊥
no_entry zero h = cc
no_entry (suc i) h = cc

-- what one table says, another does
table_more : {X Y : Type 0} (f : X → (ℕ → Bool) → Bool) (f2 : Y → (ℕ → Bool) → Bool) (g : X → Y) (at : ℕ) (xs : List X)
    → ((x : X) → Contains xs x → (r r2 : ℕ → Bool) → ((k : ℕ) → r2 k ≡ true → r k ≡ true) → f2 (g x) r2 ≡ true
    → f x r ≡ true)
    → (i : ℕ) → slice_index_or (table false f2 at (map g xs)) i false ≡ true
    → slice_index_or (table false f at xs) i false ≡ true
table_more f f2 g at [] step i h = absurd (no_entry i h)
table_more f f2 g at (x ∷ xs) step zero h =
    step x (contains_head x xs) (λ k. slice_index_or (table false f (suc at) xs) (k - suc at) false)
    (λ k. slice_index_or (table false f2 (suc at) (map g xs)) (k - suc at) false)
    (λ k. table_more f f2 g (suc at) xs (λ y c. step y (contains_behind y x xs c)) (k - suc at)) h
table_more f f2 g at (x ∷ xs) step (suc i) h =
    table_more f f2 g (suc at) xs (λ y c. step y (contains_behind y x xs c)) i h

-- ---- forms

branches_set_same : (go : ℕ → ℕ) (bs : List Branch) (s : ℕ → Bool)
    → branches_set (map (moved_branch go) bs) s ≡ branches_set bs s
branches_set_same go [] s = refl
branches_set_same go (b ∷ bs) s = ap (λ c. list_any s b.body || c) (branches_set_same go bs s)

sets_same_kind : (go : ℕ → ℕ) (x : List ℕ) (k : FormKind) (s : ℕ → Bool) → kind_sets x (moved go k) s ≡ kind_sets x k s
sets_same_kind go x (Set y at v) s = refl
sets_same_kind go x (Cond bs) s = branches_set_same go bs s
sets_same_kind go x (Par fs) s = refl
sets_same_kind go x (Go l) s = refl
sets_same_kind go x (Call l) s = refl
sets_same_kind go x Return s = refl

-- ---- definitions

abbrev pub plain_of : Def → Option plain_def.Def
plain_of y = plain_def_of y (plain_what_of y.what)

-- where a definition of the expansion stands as written
abbrev pub next_origin : Option plain_def.Def → (ℕ → ℕ) → ℕ → ℕ
next_origin None rest d = suc (rest d)
next_origin (Some x) rest zero = 0
next_origin (Some x) rest (suc d) = suc (rest d)

abbrev pub origin : List Def → ℕ → ℕ
origin [] d = 0
origin (y ∷ ys) d = next_origin (plain_of y) (origin ys) d

by_option : {X A : Type 0} (o : Option X) → (o ≡ None → A) → ((z : X) → o ≡ Some z → A) → A
by_option None f g = f refl
by_option (Some z) f g = g z refl

dropped : {X Y : Type 0} (f : X → Option Y) (x : X) (xs : List X) → f x ≡ None → filter_map f (x ∷ xs) ≡ filter_map f xs
dropped f x xs e = rw e refl

kept : {X Y : Type 0} (f : X → Option Y) (x : X) (xs : List X) (y : Y) → f x ≡ Some y
    → filter_map f (x ∷ xs) ≡ y ∷ filter_map f xs
kept f x xs y e = rw e refl

pub def_at : (ds : List Def) (d : ℕ) (x : plain_def.Def) → IsAt (filter_map (λ (y : Def). plain_of y) ds) d x
    → (y : Def) × IsAt ds (origin ds d) y × (plain_of y ≡ Some x)
def_at [] d x at = absurd (none-some x at)
def_at (y ∷ ys) d x at = by_option (plain_of y)
    (λ e. (let (z, there, is) = def_at ys d x (subst (λ zs. IsAt zs d x) (dropped (λ (z : Def). plain_of z) y ys e) at) in
    let to : origin (y ∷ ys) d ≡ suc (origin ys d) = ap (λ o. next_origin o (origin ys) d) e in
    (z, subst (λ k. IsAt (y ∷ ys) k z) (sym to) there, is)))
    (λ z e. by_place d z e (subst (λ zs. IsAt zs d x) (kept (λ (u : Def). plain_of u) y ys z e) at)
    (λ j there. def_at ys j x there))
  where
    by_place : (j : ℕ) (z : plain_def.Def) → plain_of y ≡ Some z
        → IsAt (z ∷ filter_map (λ (u : Def). plain_of u) ys) j x
        → ((i : ℕ) → IsAt (filter_map (λ (u : Def). plain_of u) ys) i x
        → (u : Def) × IsAt ys (origin ys i) u × (plain_of u ≡ Some x))
        → (u : Def) × IsAt (y ∷ ys) (origin (y ∷ ys) j) u × (plain_of u ≡ Some x)
    by_place zero z e there rest =
        let to : origin (y ∷ ys) 0 ≡ 0 = ap (λ o. next_origin o (origin ys) 0) e in
        (y, subst (λ k. IsAt (y ∷ ys) k y) (sym to) refl, e ∙ ap Some (same_Some z x there))
    by_place (suc i) z e there rest =
        let (u, at2, is) = rest i there in
        let to : origin (y ∷ ys) (suc i) ≡ suc (origin ys i) = ap (λ o. next_origin o (origin ys) (suc i)) e in
        (u, subst (λ k. IsAt (y ∷ ys) k u) (sym to) at2, is)

pub name_kept : (y : Def) (x : plain_def.Def) (o : Option _) → plain_def_of y o ≡ Some x → y.name ≡ x.name
name_kept y x None e = absurd (none-some x e)
name_kept y x (Some what) e = ap (λ (u : plain_def.Def). u.name) (same_Some _ x e)

driven_kept : (y : Def) (x : plain_def.Def) (k : What) → plain_def_of y (plain_what_of k) ≡ Some x
    → is_driven k ≡ plain_names.is_driven x.what
driven_kept y x whats.Power e = ap (λ (u : plain_def.Def). plain_names.is_driven u.what) (same_Some _ x e)
driven_kept y x whats.Ground e = ap (λ (u : plain_def.Def). plain_names.is_driven u.what) (same_Some _ x e)
driven_kept y x whats.Phia e = ap (λ (u : plain_def.Def). plain_names.is_driven u.what) (same_Some _ x e)
driven_kept y x whats.Phib e = ap (λ (u : plain_def.Def). plain_names.is_driven u.what) (same_Some _ x e)
driven_kept y x whats.Phic e = ap (λ (u : plain_def.Def). plain_names.is_driven u.what) (same_Some _ x e)
driven_kept y x (whats.Constant c) e = ap (λ (u : plain_def.Def). plain_names.is_driven u.what) (same_Some _ x e)
driven_kept y x whats.Register e = ap (λ (u : plain_def.Def). plain_names.is_driven u.what) (same_Some _ x e)
driven_kept y x whats.Flag e = ap (λ (u : plain_def.Def). plain_names.is_driven u.what) (same_Some _ x e)
driven_kept y x (whats.Port ways.Input) e = ap (λ (u : plain_def.Def). plain_names.is_driven u.what) (same_Some _ x e)
driven_kept y x (whats.Port ways.Output) e = ap (λ (u : plain_def.Def). plain_names.is_driven u.what) (same_Some _ x e)
driven_kept y x (whats.Port ways.Internal) e = ap (λ (u : plain_def.Def). plain_names.is_driven u.what) (same_Some _ x e)
driven_kept y x (whats.Signal ways.Input) e = ap (λ (u : plain_def.Def). plain_names.is_driven u.what) (same_Some _ x e)
driven_kept y x (whats.Signal ways.Output) e = ap (λ (u : plain_def.Def). plain_names.is_driven u.what) (same_Some _ x e)
driven_kept y x (whats.Signal ways.Internal) e = ap (λ (u : plain_def.Def). plain_names.is_driven u.what) (same_Some _ x e)
driven_kept y x (whats.Function args body) e = absurd (none-some x e)

module _ (w : Program) (p : plain_program.Program) (law : IsLawfulProgram w) (expands : IsExpansion w p)
    (free : (d : ℕ) (x : plain_def.Def) → IsAt p.defs d x → plain_names.is_driven x.what ≡ true → InNoBody w x.name) where
  sets_same : (x : List ℕ) (f : ℕ) → plain_reads.sets p x f ≡ sets w x f
  sets_same x f = ap (λ t. slice_index_or t f false)
      (ap (λ fs. table false (λ (y : Form) s. kind_sets x y.kind s) 0 fs) expands.forms
      ∙ table_mapped false (λ (y : Form) s. kind_sets x y.kind s) (moved_form (start w)) 0 w.forms
      ∙ table_same false _ (λ (y : Form) s. kind_sets x y.kind s) 0 w.forms (λ y s. sets_same_kind (start w) x y.kind s))

  in_tops : (y : Form) (v : ℕ) → Contains w.forms y → Contains (exprs_in y.kind) v → Contains (tops w) v
  in_tops y v cy cv =
      let stands : Contains (form_exprs w.forms) v = contains_flat (λ (z : Form). exprs_in z.kind) w.forms y v cy cv in
      let lt = holds_of_contained (λ u. u < length w.exprs) (form_exprs w.forms) v (inside w) stands in
      contains_filter (is_in (form_exprs w.forms)) (range_with_len 0 (length w.exprs)) v
      (contains_from_get (range_with_len 0 (length w.exprs)) v v (get_range 0 (length w.exprs) v lt ∙ ap Some (omega arith)))
      (any_contained (λ u. u == v) (form_exprs w.forms) v stands (eq-eqb v v refl))

  form_reads_written : (x n : List ℕ) → InNoBody w n → (f : ℕ) → plain_reads.form_reads p x n f ≡ true
      → form_reads w x n f ≡ true
  form_reads_written x n none f h =
      table_more (λ (y : Form) r. kind_reads (mentions w n) (sets w x) x y.kind r)
      (λ (y : Form) r. kind_reads (plain_reads.mentions p n) (sets w x) x y.kind r) (moved_form (start w)) 0 w.forms
      (λ y c r r2 deeper. kind_more (mentions w n) (plain_reads.mentions p n) (sets w x) (start w) x r r2 y.kind
      (λ v cv. mention_written w p law expands n none v (in_tops y v c cv)) deeper) f
      (subst (λ fs. slice_index_or (table false (λ (y : Form) r. kind_reads (plain_reads.mentions p n) (sets w x) x y.kind r)
      0 fs) f false ≡ true) expands.forms
      (subst (λ s. slice_index_or (table false (λ (y : Form) r. kind_reads (plain_reads.mentions p n) s x y.kind r) 0 p.forms)
      f false ≡ true) (fun_ext (sets_same x)) h))

  any_more : (f g : ℕ → Bool) (xs : List ℕ) → ((x : ℕ) → f x ≡ true → g x ≡ true) → list_any f xs ≡ true
      → list_any g xs ≡ true
  any_more f g [] step h = h
  any_more f g (x ∷ xs) step h = elim (either (f x) (list_any f xs) h) [
    | inl here ↦ ap (λ b. b || list_any g xs) (step x here)
    | inr later ↦ ap (λ b. g x || b) (any_more f g xs step later) ∙ or_true (g x)
  ]
    where
      either : (a b : Bool) → (a || b) ≡ true → (a ≡ true) ⊎ (b ≡ true)
      either true b e = inl refl
      either false b e = inr e

      or_true : (a : Bool) → (a || true) ≡ true
      or_true true = refl
      or_true false = refl

  roots_same : plain_reads.roots p ≡ roots w
  roots_same = ap (λ a. a ++ process_roots p.processes) expands.always
      ∙ ap (λ qs. w.always ++ process_roots qs) expands.processes

  pub reads_written : (a b : ℕ) → plain_reads.Reads p a b → Reads w (origin w.defs a) (origin w.defs b)
  reads_written a b (x, y, ax, ay, dx, dy, reads) =
      let (c, ac, isc) = def_at w.defs a x (subst (λ ds. IsAt ds a x) expands.defs ax) in
      let (d, ad, isd) = def_at w.defs b y (subst (λ ds. IsAt ds b y) expands.defs ay) in
      let cname = name_kept c x (plain_what_of c.what) isc in
      let dname = name_kept d y (plain_what_of d.what) isd in (
        c,
        d,
        ac,
        ad,
        driven_kept c x c.what isc ∙ dx,
        driven_kept d y d.what isd ∙ dy,
        subst (λ n. list_any (form_reads w n d.name) (roots w) ≡ true) (sym cname)
            (subst (λ n. list_any (form_reads w x.name n) (roots w) ≡ true) (sym dname)
            (subst (λ rs. list_any (form_reads w x.name y.name) rs ≡ true) roots_same
            (any_more (plain_reads.form_reads p x.name y.name) (form_reads w x.name y.name) (plain_reads.roots p)
            (form_reads_written x.name y.name (free b y ay dy)) reads))),
      )

  pub chain_written : (a b : ℕ) → plain_reads.Chain p a b → Chain w (origin w.defs a) (origin w.defs b)
  chain_written a b (plain_reads.link h) = link (reads_written a b h)
  chain_written a b (plain_reads.more {b = c} h rest) = more (reads_written a c h) (chain_written c b rest)
