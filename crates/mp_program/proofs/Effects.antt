-- The equation of a form's effects, and what its writes to a name depend on.
use Rattle.std.proofs.Common.{◌≡◌, ℕ, ◌<◌, List, [], ◌∷◌, ◌++◌, Bool, true, false, cond, refl, sym, ◌∙◌, ap, length}
use Rattle.std.specs.Prelude.{◌||◌, ◌&&◌, ◌==◌, slice_get, Some}
use Rattle.std.specs.List.{list_any, flat_map, AllByRecursion}
use Rattle.mp_base.proofs.Induction.{downward, by_test}
use Rattle.mp_base.proofs.Entries.{some_entry, read_of}
use Rattle.std.proofs.lemmas.Bool.{or_left, or_right, or_parts}
use Rattle.mp_program.specs.declared.program.FormKind.{FormKind}
use Rattle.mp_program.specs.declared.program.FormKind.TheVariants.{Set, Cond, Par, Go, Call, Return}
use Rattle.mp_program.specs.declared.program.Branch.{Branch}
use Rattle.mp_program.specs.declared.program.Form.{Form}
use Rattle.mp_program.specs.declared.program.Program.{Program}
use Rattle.mp_program.specs.Sound.{IsSound, InnerFit, AllBetween}
use Rattle.mp_program.specs.Names.{is_same}
use Rattle.mp_program.specs.Values.{value_of}
use Rattle.mp_program.specs.Effects.{Effect, Writes, Goes, Calls, Returns, branch_effects, kind_effects, effects_of}
use Rattle.mp_program.specs.Effects.{written}
use Rattle.mp_program.specs.Reads.{mentions, kind_sets, sets, branches_set, kind_reads, form_reads, branches_read}
use Rattle.mp_program.proofs.Tables.{table_at}
use Rattle.mp_program.proofs.Walks.{flat_map-behind, list_any-behind}
use Rattle.mp_program.proofs.Values.{Agrees, value_agrees}

-- ---- equations

branch_effects-behind : (v : ℕ → ℕ) (ne i n : ℕ) (bs : List Branch) (g h : ℕ → List Effect)
    → ((j : ℕ) → i < j → g j ≡ h j)
    → AllByRecursion (λ (b : Branch). (b.guard < ne) × AllBetween i n b.body) bs
    → branch_effects v bs g ≡ branch_effects v bs h
branch_effects-behind v ne i n [] g h same fit = refl
branch_effects-behind v ne i n (b ∷ bs) g h same ((_, body), rest) =
    ap (λ y. cond (v b.guard == 1) y (branch_effects v bs g)) (flat_map-behind i n b.body g h same body)
    ∙ ap (λ y. cond (v b.guard == 1) (flat_map h b.body) y) (branch_effects-behind v ne i n bs g h same rest)

kind_effects-behind : (v : ℕ → ℕ) (ne i n : ℕ) (k : FormKind) (g h : ℕ → List Effect) → ((j : ℕ) → i < j → g j ≡ h j)
    → InnerFit ne i n k → kind_effects v k g ≡ kind_effects v k h
kind_effects-behind v ne i n (Set x at w) g h same fit = refl
kind_effects-behind v ne i n (Cond bs) g h same fit = branch_effects-behind v ne i n bs g h same fit
kind_effects-behind v ne i n (Par fs) g h same fit = flat_map-behind i n fs g h same fit
kind_effects-behind v ne i n (Go l) g h same fit = refl
kind_effects-behind v ne i n (Call l) g h same fit = refl
kind_effects-behind v ne i n Return g h same fit = refl

pub effects_is : (p : Program) (env : List ℕ) (f : ℕ) (x : Form) → IsSound p → slice_get p.forms f ≡ Some x
    → effects_of p env f ≡ kind_effects (value_of p env) x.kind (effects_of p env)
effects_is p env f x sound at = let (lt, is) = read_of p.forms f x at in
    table_at [] (λ (y : Form) e. kind_effects (value_of p env) y.kind e) p.forms f x lt is
    (λ g h same. kind_effects-behind (value_of p env) (length p.exprs) f (length p.forms) x.kind g h same
    (sound.forms f x at))

branches_set-behind : (ne i n : ℕ) (bs : List Branch) (g h : ℕ → Bool) → ((j : ℕ) → i < j → g j ≡ h j)
    → AllByRecursion (λ (b : Branch). (b.guard < ne) × AllBetween i n b.body) bs → branches_set bs g ≡ branches_set bs h
branches_set-behind ne i n [] g h same fit = refl
branches_set-behind ne i n (b ∷ bs) g h same ((_, body), rest) =
    ap (λ y. y || branches_set bs g) (list_any-behind i n b.body g h same body)
    ∙ ap (λ y. list_any h b.body || y) (branches_set-behind ne i n bs g h same rest)

kind_sets-behind : (x : List ℕ) (ne i n : ℕ) (k : FormKind) (g h : ℕ → Bool) → ((j : ℕ) → i < j → g j ≡ h j)
    → InnerFit ne i n k → kind_sets x k g ≡ kind_sets x k h
kind_sets-behind x ne i n (Set y at w) g h same fit = refl
kind_sets-behind x ne i n (Cond bs) g h same fit = branches_set-behind ne i n bs g h same fit
kind_sets-behind x ne i n (Par fs) g h same fit = list_any-behind i n fs g h same fit
kind_sets-behind x ne i n (Go l) g h same fit = refl
kind_sets-behind x ne i n (Call l) g h same fit = refl
kind_sets-behind x ne i n Return g h same fit = refl

pub sets_is : (p : Program) (x : List ℕ) (f : ℕ) (y : Form) → IsSound p → slice_get p.forms f ≡ Some y
    → sets p x f ≡ kind_sets x y.kind (sets p x)
sets_is p x f y sound at = let (lt, is) = read_of p.forms f y at in
    table_at false (λ (z : Form) s. kind_sets x z.kind s) p.forms f y lt is
    (λ g h same. kind_sets-behind x (length p.exprs) f (length p.forms) y.kind g h same (sound.forms f y at))

branches_read-behind : (m s : ℕ → Bool) (before : Bool) (ne i n : ℕ) (bs : List Branch) (g h : ℕ → Bool)
    → ((j : ℕ) → i < j → g j ≡ h j)
    → AllByRecursion (λ (b : Branch). (b.guard < ne) × AllBetween i n b.body) bs
    → branches_read m s before bs g ≡ branches_read m s before bs h
branches_read-behind m s before ne i n [] g h same fit = refl
branches_read-behind m s before ne i n (b ∷ bs) g h same ((_, body), rest) =
    ap (λ y. ((before || m b.guard) && list_any s b.body) || (y || branches_read m s (before || m b.guard) bs g))
    (list_any-behind i n b.body g h same body)
    ∙ ap (λ y. ((before || m b.guard) && list_any s b.body) || (list_any h b.body || y))
    (branches_read-behind m s (before || m b.guard) ne i n bs g h same rest)

kind_reads-behind : (m s : ℕ → Bool) (x : List ℕ) (ne i n : ℕ) (k : FormKind) (g h : ℕ → Bool)
    → ((j : ℕ) → i < j → g j ≡ h j) → InnerFit ne i n k → kind_reads m s x k g ≡ kind_reads m s x k h
kind_reads-behind m s x ne i n (Set y at w) g h same fit = refl
kind_reads-behind m s x ne i n (Cond bs) g h same fit = branches_read-behind m s false ne i n bs g h same fit
kind_reads-behind m s x ne i n (Par fs) g h same fit = list_any-behind i n fs g h same fit
kind_reads-behind m s x ne i n (Go l) g h same fit = refl
kind_reads-behind m s x ne i n (Call l) g h same fit = refl
kind_reads-behind m s x ne i n Return g h same fit = refl

pub form_reads_is : (p : Program) (x name : List ℕ) (f : ℕ) (y : Form) → IsSound p → slice_get p.forms f ≡ Some y
    → form_reads p x name f ≡ kind_reads (mentions p name) (sets p x) x y.kind (form_reads p x name)
form_reads_is p x name f y sound at = let (lt, is) = read_of p.forms f y at in
    table_at false (λ (z : Form) r. kind_reads (mentions p name) (sets p x) x z.kind r) p.forms f y lt is
    (λ g h same. kind_reads-behind (mentions p name) (sets p x) x (length p.exprs) f (length p.forms) y.kind g h same
    (sound.forms f y at))

-- ---- what is written

pub written-append : (x : List ℕ) (es fs : List Effect) → written x (es ++ fs) ≡ written x es ++ written x fs
written-append x [] fs = refl
written-append x (Writes y v ∷ es) fs = first_write (is_same y x) v _ _ _ (written-append x es fs)
  where
    first_write : (b : Bool) (v : ℕ) (ps qs rs : List ℕ) → ps ≡ qs ++ rs → cond b (v ∷ ps) ps ≡ cond b (v ∷ qs) qs ++ rs
    first_write true v ps qs rs h = ap (λ z. v ∷ z) h
    first_write false v ps qs rs h = h
written-append x (Goes l ∷ es) fs = written-append x es fs
written-append x (Calls l ∷ es) fs = written-append x es fs
written-append x (Returns ∷ es) fs = written-append x es fs

-- nothing is written to x by a form without a `setq` of x
abbrev SilentAt : Program → List ℕ → List ℕ → ℕ → Type 0
SilentAt p env x f = sets p x f ≡ false → written x (effects_of p env f) ≡ []

list_silent : (p : Program) (env x : List ℕ) (i : ℕ) (fs : List ℕ)
    → ((j : ℕ) → i < j → j < length p.forms → SilentAt p env x j)
    → list_any (sets p x) fs ≡ false → AllBetween i (length p.forms) fs
    → written x (flat_map (effects_of p env) fs) ≡ []
list_silent p env x i [] below none fit = refl
list_silent p env x i (f ∷ fs) below none ((behind, within), rest) =
    let here = or_parts (sets p x f) (list_any (sets p x) fs) none in
    written-append x (effects_of p env f) (flat_map (effects_of p env) fs)
    ∙ ap (λ y. y ++ written x (flat_map (effects_of p env) fs)) (below f behind within here.0)
    ∙ list_silent p env x i fs below here.1 rest

branches_silent : (p : Program) (env x : List ℕ) (v : ℕ → ℕ) (i : ℕ) (bs : List Branch)
    → ((j : ℕ) → i < j → j < length p.forms → SilentAt p env x j)
    → branches_set bs (sets p x) ≡ false
    → AllByRecursion (λ (b : Branch). (b.guard < length p.exprs) × AllBetween i (length p.forms) b.body) bs
    → written x (branch_effects v bs (effects_of p env)) ≡ []
branches_silent p env x v i [] below none fit = refl
branches_silent p env x v i (b ∷ bs) below none ((_, body), rest) =
    let here = or_parts (list_any (sets p x) b.body) (branches_set bs (sets p x)) none in
    either (v b.guard == 1) _ _ (list_silent p env x i b.body below here.0 body)
    (branches_silent p env x v i bs below here.1 rest)
  where
    either : (c : Bool) (es fs : List Effect) → written x es ≡ [] → written x fs ≡ [] → written x (cond c es fs) ≡ []
    either true es fs h k = h
    either false es fs h k = k

kind_silent : (p : Program) (env x : List ℕ) (i : ℕ) (k : FormKind)
    → ((j : ℕ) → i < j → j < length p.forms → SilentAt p env x j)
    → kind_sets x k (sets p x) ≡ false → InnerFit (length p.exprs) i (length p.forms) k
    → written x (kind_effects (value_of p env) k (effects_of p env)) ≡ []
kind_silent p env x i (Set y at w) below none fit = ap (λ b. cond b (value_of p env w ∷ []) []) none
kind_silent p env x i (Cond bs) below none fit = branches_silent p env x (value_of p env) i bs below none fit
kind_silent p env x i (Par fs) below none fit = list_silent p env x i fs below none fit
kind_silent p env x i (Go l) below none fit = refl
kind_silent p env x i (Call l) below none fit = refl
kind_silent p env x i Return below none fit = refl

pub silent : (p : Program) (env x : List ℕ) → IsSound p → (f : ℕ) → f < length p.forms → sets p x f ≡ false
    → written x (effects_of p env f) ≡ []
silent p env x sound =
    downward (SilentAt p env x) (length p.forms) (λ i lt below none.
    let y = some_entry p.forms i lt in
    ap (written x) (effects_is p env i y.0 sound y.1)
    ∙ kind_silent p env x i (y.0).kind below (sym (sets_is p x i y.0 sound y.1) ∙ none) (sound.forms i y.0 y.1))

-- what is written to x depends on the names that x reads alone
abbrev WritesAgreeAt : Program → List ℕ → List ℕ → List ℕ → ℕ → Type 0
WritesAgreeAt p env env' x f =
    ((n : List ℕ) → form_reads p x n f ≡ true → Agrees p env env' n)
    → written x (effects_of p env f) ≡ written x (effects_of p env' f)

list_agree : (p : Program) (env env' x : List ℕ) (i : ℕ) (fs : List ℕ)
    → ((j : ℕ) → i < j → j < length p.forms → WritesAgreeAt p env env' x j)
    → ((n : List ℕ) → list_any (form_reads p x n) fs ≡ true → Agrees p env env' n) → AllBetween i (length p.forms) fs
    → written x (flat_map (effects_of p env) fs) ≡ written x (flat_map (effects_of p env') fs)
list_agree p env env' x i [] below same fit = refl
list_agree p env env' x i (f ∷ fs) below same ((behind, within), rest) =
    written-append x (effects_of p env f) (flat_map (effects_of p env) fs)
    ∙ ap (λ y. y ++ written x (flat_map (effects_of p env) fs))
    (below f behind within (λ n h. same n (or_left _ _ h)))
    ∙ ap (λ y. written x (effects_of p env' f) ++ y)
    (list_agree p env env' x i fs below (λ n h. same n (or_right (form_reads p x n f) _ h)) rest)
    ∙ sym (written-append x (effects_of p env' f) (flat_map (effects_of p env') fs))

-- a guard is read where its branch or a later one sets x
read_before : (m s r : ℕ → Bool) (bs : List Branch) → branches_set bs s ≡ true → branches_read m s true bs r ≡ true
read_before m s r [] h = h
read_before m s r (b ∷ bs) h = later (list_any s b.body) (list_any r b.body) h (read_before m s r bs)
  where
    later : (x y : Bool) {u z : Bool} → (x || u) ≡ true → (u ≡ true → z ≡ true) → (x || (y || z)) ≡ true
    later true y h k = refl
    later false y h k = or_right y _ (k h)

branches_agree : (p : Program) (env env' x : List ℕ) (i : ℕ) (before : List ℕ → Bool) (bs : List Branch)
    → IsSound p → ((j : ℕ) → i < j → j < length p.forms → WritesAgreeAt p env env' x j)
    → ((n : List ℕ) → branches_read (mentions p n) (sets p x) (before n) bs (form_reads p x n) ≡ true
    → Agrees p env env' n)
    → AllByRecursion (λ (b : Branch). (b.guard < length p.exprs) × AllBetween i (length p.forms) b.body) bs
    → written x (branch_effects (value_of p env) bs (effects_of p env))
    ≡ written x (branch_effects (value_of p env') bs (effects_of p env'))
branches_agree p env env' x i before [] sound below same fit = refl
branches_agree p env env' x i before (b ∷ bs) sound below same fit =
    by_test (branches_set (b ∷ bs) (sets p x))
    (λ set.
    let ((within, body), rest) = fit in
    let guard : value_of p env b.guard ≡ value_of p env' b.guard =
    value_agrees p env env' sound b.guard within (λ n h. same n (guard_read n set h)) in
    ap (λ c. written x
    (cond (c == 1) (flat_map (effects_of p env) b.body) (branch_effects (value_of p env) bs (effects_of p env)))) guard
    ∙ chosen (value_of p env' b.guard == 1) _ _ _ _
    (list_agree p env env' x i b.body below (λ n h. same n (or_right _ _ (or_left _ _ h))) body)
    (branches_agree p env env' x i (λ n. before n || mentions p n b.guard) bs sound below
    (λ n h. same n (or_right _ _ (or_right _ _ h))) rest))
    (λ none.
    branches_silent p env x (value_of p env) i (b ∷ bs) (λ j ij jn. silent p env x sound j jn) none fit
    ∙ sym (branches_silent p env' x (value_of p env') i (b ∷ bs) (λ j ij jn. silent p env' x sound j jn) none fit))
  where
    chosen : (c : Bool) (es fs es' fs' : List Effect) → written x es ≡ written x es' → written x fs ≡ written x fs'
        → written x (cond c es fs) ≡ written x (cond c es' fs')
    chosen true es fs es' fs' h k = h
    chosen false es fs es' fs' h k = k

    later : (be m la lr u : Bool) (z : Bool → Bool) → m ≡ true → (la || u) ≡ true → (u ≡ true → z true ≡ true)
        → (((be || m) && la) || (lr || z (be || m))) ≡ true
    later true m true lr u z hm h k = refl
    later true m false lr u z hm h k = or_right lr _ (k h)
    later false true true lr u z hm h k = refl
    later false true false lr u z hm h k = or_right lr _ (k h)
    later false false la lr u z hm h k = absurd (cc)

    guard_read : (n : List ℕ) → branches_set (b ∷ bs) (sets p x) ≡ true → mentions p n b.guard ≡ true
        → branches_read (mentions p n) (sets p x) (before n) (b ∷ bs) (form_reads p x n) ≡ true
    guard_read n set h =
        later (before n) (mentions p n b.guard) (list_any (sets p x) b.body) (list_any (form_reads p x n) b.body)
        (branches_set bs (sets p x))
        (λ c. branches_read (mentions p n) (sets p x) c bs (form_reads p x n)) h set
        (read_before (mentions p n) (sets p x) (form_reads p x n) bs)

kind_agrees : (p : Program) (env env' x : List ℕ) (i : ℕ) (k : FormKind) → IsSound p
    → ((j : ℕ) → i < j → j < length p.forms → WritesAgreeAt p env env' x j)
    → ((n : List ℕ) → kind_reads (mentions p n) (sets p x) x k (form_reads p x n) ≡ true → Agrees p env env' n)
    → InnerFit (length p.exprs) i (length p.forms) k
    → written x (kind_effects (value_of p env) k (effects_of p env))
    ≡ written x (kind_effects (value_of p env') k (effects_of p env'))
kind_agrees p env env' x i (Set y at w) sound below same fit =
    by_test (is_same y x)
    (λ h. ap (λ z. cond (is_same y x) (z ∷ []) [])
    (value_agrees p env env' sound w fit (λ n m. same n (ap (λ b. b && mentions p n w) h ∙ m))))
    (λ h. ap (λ b. cond b (value_of p env w ∷ []) []) h ∙ sym (ap (λ b. cond b (value_of p env' w ∷ []) []) h))
kind_agrees p env env' x i (Cond bs) sound below same fit =
    branches_agree p env env' x i (λ n. false) bs sound below same fit
kind_agrees p env env' x i (Par fs) sound below same fit = list_agree p env env' x i fs below same fit
kind_agrees p env env' x i (Go l) sound below same fit = refl
kind_agrees p env env' x i (Call l) sound below same fit = refl
kind_agrees p env env' x i Return sound below same fit = refl

pub writes_agree : (p : Program) (env env' x : List ℕ) → IsSound p → (f : ℕ) → f < length p.forms
    → ((n : List ℕ) → form_reads p x n f ≡ true → Agrees p env env' n)
    → written x (effects_of p env f) ≡ written x (effects_of p env' f)
writes_agree p env env' x sound =
    downward (WritesAgreeAt p env env' x) (length p.forms) (λ i lt below same.
    let y = some_entry p.forms i lt in
    ap (written x) (effects_is p env i y.0 sound y.1)
    ∙ kind_agrees p env env' x i (y.0).kind sound below (λ n h. same n (form_reads_is p x n i y.0 sound y.1 ∙ h))
    (sound.forms i y.0 y.1)
    ∙ sym (ap (written x) (effects_is p env' i y.0 sound y.1)))
