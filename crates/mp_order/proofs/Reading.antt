-- What marks say of reads.
use Rattle.std.proofs.Common.{◌≡◌, ◌⊎◌, inl, inr, ℕ, zero, suc, ◌+◌, ◌<◌, ◌≤◌, List, [], ◌∷◌, Bool, true, false, refl}
use Rattle.std.proofs.Common.{sym, ◌∙◌, ap, subst, length, arith}
use Rattle.std.specs.Prelude.{◌||◌, ◌&&◌, slice_index, Contains, slice_get, Some}
use Rattle.std.specs.List.{list_any}
use Rattle.std.proofs.lemmas.Bool.{and_parts, or_cases, or_left, or_right, and_from}
use Rattle.std.proofs.lemmas.Option.{same_Some, none-some}
use Rattle.mp_base.specs.declared.refusal.Place.{Place}
use Rattle.mp_base.proofs.Entries.{some_entry, within, contains_from_get, get_from_contains, each_at}
use Rattle.mp_program.specs.declared.program.FormKind.{FormKind}
use Rattle.mp_program.specs.declared.program.FormKind.TheVariants.{Set, Cond, Par, Go, Call, Return}
use Rattle.mp_program.specs.declared.program.Branch.{Branch}
use Rattle.mp_program.specs.declared.program.Def.{Def}
use Rattle.mp_program.specs.declared.program.Form.{Form}
use Rattle.mp_program.specs.declared.program.Program.{Program}
use Rattle.mp_program.specs.Names.{is_same}
use Rattle.mp_program.specs.Reads.{mentions, sets, kind_sets, branches_set, form_reads, kind_reads, branches_read}
use Rattle.mp_program.specs.Reads.{roots}
use Rattle.mp_program.specs.Sound.{IsSound, InnerFit, AllBetween}
use Rattle.mp_base.specs.Entries.{IsAt}
use Rattle.mp_order.specs.Demands.{IsDriven, AreTops, Gives, Marked, root, inner}
use Rattle.mp_order.proofs.Mentions.{any_of}
use Rattle.mp_base.proofs.Contents.{any_contained}
use Rattle.mp_order.proofs.Marks.{given_inside}

-- ---- tests

-- ---- branches

-- in branch j the form c reads, or sets what a guard mentions
abbrev ReadIn : (ℕ → Bool) → (ℕ → Bool) → Bool → List Branch → (ℕ → Bool) → Type 0
ReadIn m s before bs r = (j : ℕ) × (b : Branch) × (c : ℕ) × IsAt bs j b × Contains b.body c
    × ((r c ≡ true)
    ⊎ ((s c ≡ true) × ((before ≡ true) ⊎ ((i : ℕ) × (g : Branch) × IsAt bs i g × (i ≤ j) × (m g.guard ≡ true)))))

read_in : (m s : ℕ → Bool) (before : Bool) (bs : List Branch) (r : ℕ → Bool) → branches_read m s before bs r ≡ true
    → ReadIn m s before bs r
read_in m s before [] r h = absurd (cc)
read_in m s before (b ∷ bs) r h =
    by_part (or_cases ((before || m b.guard) && list_any s b.body)
    (list_any r b.body || branches_read m s (before || m b.guard) bs r) h)
    (λ t. read_in m s (before || m b.guard) bs r t)
  where
    by_guard : (j : ℕ) → (before ≡ true) ⊎ (m b.guard ≡ true)
        → (before ≡ true) ⊎ ((i : ℕ) × (g : Branch) × IsAt (b ∷ bs) i g × (i ≤ j) × (m g.guard ≡ true))
    by_guard j (inl e) = inl e
    by_guard j (inr e) = inr (0, b, refl, omega arith, e)

    later : ReadIn m s (before || m b.guard) bs r → ReadIn m s before (b ∷ bs) r
    later (j, d, c, at, inside, inl reads) = (suc j, d, c, at, inside, inl reads)
    later (j, d, c, at, inside, inr (set, inl e)) =
        (suc j, d, c, at, inside, inr (set, by_guard (suc j) (or_cases before (m b.guard) e)))
    later (j, d, c, at, inside, inr (set, inr (i, g, gi, le, e))) =
        (suc j, d, c, at, inside, inr (set, inr (suc i, g, gi, omega (arith, le), e)))

    rest : (list_any r b.body ≡ true) ⊎ (branches_read m s (before || m b.guard) bs r ≡ true)
        → (branches_read m s (before || m b.guard) bs r ≡ true → ReadIn m s (before || m b.guard) bs r)
        → ReadIn m s before (b ∷ bs) r
    rest (inl reads) step = let (c, inside, t) = any_of r b.body reads in (0, b, c, refl, inside, inl t)
    rest (inr t) step = later (step t)

    by_part : (((before || m b.guard) && list_any s b.body) ≡ true)
        ⊎ ((list_any r b.body || branches_read m s (before || m b.guard) bs r) ≡ true)
        → (branches_read m s (before || m b.guard) bs r ≡ true → ReadIn m s (before || m b.guard) bs r)
        → ReadIn m s before (b ∷ bs) r
    by_part (inl h) step =
        let (e, set) = and_parts (before || m b.guard) (list_any s b.body) h in
        let (c, inside, t) = any_of s b.body set in
        (0, b, c, refl, inside, inr (t, by_guard 0 (or_cases before (m b.guard) e)))
    by_part (inr h) step = rest (or_cases (list_any r b.body) (branches_read m s (before || m b.guard) bs r) h) step

in_reads : (m s : ℕ → Bool) (before : Bool) (bs : List Branch) (r : ℕ → Bool) → ReadIn m s before bs r
    → branches_read m s before bs r ≡ true
in_reads m s before [] r (j, b, c, at, inside, why) = absurd (none-some b at)
in_reads m s before (x ∷ bs) r (zero, b, c, at, inside, inl reads) =
    let P : Branch → Type 0 = λ y. Contains y.body c in
    or_right ((before || m x.guard) && list_any s x.body)
    (list_any r x.body || branches_read m s (before || m x.guard) bs r)
    (or_left (list_any r x.body) (branches_read m s (before || m x.guard) bs r)
    (any_contained r x.body c (subst P (sym (same_Some x b at)) inside) reads))
in_reads m s before (x ∷ bs) r (zero, b, c, at, inside, inr (set, why)) =
    let P : Branch → Type 0 = λ y. Contains y.body c in
    or_left ((before || m x.guard) && list_any s x.body)
    (list_any r x.body || branches_read m s (before || m x.guard) bs r)
    (and_from (before || m x.guard) (list_any s x.body) (guarded why)
    (any_contained s x.body c (subst P (sym (same_Some x b at)) inside) set))
  where
    guarded : (before ≡ true) ⊎ ((i : ℕ) × (g : Branch) × IsAt (x ∷ bs) i g × (i ≤ 0) × (m g.guard ≡ true))
        → (before || m x.guard) ≡ true
    guarded (inl e) = or_left before (m x.guard) e
    guarded (inr (zero, g, gi, le, e)) =
        or_right before (m x.guard) (ap (λ (y : Branch). m y.guard) (same_Some x g gi) ∙ e)
    guarded (inr (suc i, g, gi, le, e)) = absurd (omega (arith, le))
in_reads m s before (x ∷ bs) r (suc j, b, c, at, inside, why) =
    or_right ((before || m x.guard) && list_any s x.body)
    (list_any r x.body || branches_read m s (before || m x.guard) bs r)
    (or_right (list_any r x.body) (branches_read m s (before || m x.guard) bs r)
    (in_reads m s (before || m x.guard) bs r (j, b, c, at, inside, earlier why)))
  where
    earlier : (r c ≡ true)
        ⊎ ((s c ≡ true)
        × ((before ≡ true) ⊎ ((i : ℕ) × (g : Branch) × IsAt (x ∷ bs) i g × (i ≤ suc j) × (m g.guard ≡ true))))
        → (r c ≡ true)
        ⊎ ((s c ≡ true)
        × (((before || m x.guard) ≡ true) ⊎ ((i : ℕ) × (g : Branch) × IsAt bs i g × (i ≤ j) × (m g.guard ≡ true))))
    earlier (inl reads) = inl reads
    earlier (inr (set, inl e)) = inr (set, inl (or_left before (m x.guard) e))
    earlier (inr (set, inr (zero, g, gi, le, e))) =
        inr (set, inl (or_right before (m x.guard) (ap (λ (y : Branch). m y.guard) (same_Some x g gi) ∙ e)))
    earlier (inr (set, inr (suc i, g, gi, le, e))) =
        inr (set, inr (i, g, gi, omega (arith, le), e))

set_in : (bs : List Branch) (s : ℕ → Bool) → branches_set bs s ≡ true
    → (j : ℕ) × (b : Branch) × (c : ℕ) × IsAt bs j b × Contains b.body c × (s c ≡ true)
set_in bs s h =
    let (b, inside, t) = any_of (λ (x : Branch). list_any s x.body) bs h in
    let (c, held, u) = any_of s b.body t in
    let (j, at) = get_from_contains bs b inside in
    (j, b, c, at, held, u)

in_sets : (bs : List Branch) (s : ℕ → Bool) (j : ℕ) (b : Branch) (c : ℕ) → IsAt bs j b → Contains b.body c → s c ≡ true
    → branches_set bs s ≡ true
in_sets bs s j b c at inside t =
    any_contained (λ (x : Branch). list_any s x.body) bs b (contains_from_get bs j b at)
    (any_contained s b.body c inside t)

-- ---- the laws of programs

abbrev pub SetsLaw : Program → Type 0
SetsLaw p = (name : List ℕ) (f : ℕ) (x : Form) → slice_get p.forms f ≡ Some x
    → sets p name f ≡ kind_sets name x.kind (sets p name)

abbrev pub ReadsLaw : Program → Type 0
ReadsLaw p = (name other : List ℕ) (f : ℕ) (x : Form) → slice_get p.forms f ≡ Some x
    → form_reads p name other f ≡ kind_reads (mentions p other) (sets p name) name x.kind (form_reads p name other)

-- ---- from a form that sets or reads down to a `setq`

-- a `setq` of x with a mark
abbrev SetMarked : Program → List ℕ → List ℕ → ℕ → Type 0
SetMarked p tops x k = (g : ℕ) × (y : Form) × (t : List ℕ) × (at : Place) × (v : ℕ) × IsAt p.forms g y
    × (y.kind ≡ Set t at v) × (is_same t x ≡ true) × Marked p tops g k

set_down : (p : Program) → IsSound p → SetsLaw p → (tops x : List ℕ) (m f k : ℕ) (y : Form) → length p.forms ≤ f + m
    → IsAt p.forms f y → Marked p tops f k → sets p x f ≡ true
    → SetMarked p tops x k
set_down p s law tops x zero f k y le at marked set = absurd (omega (arith, le, within p.forms f at))
set_down p s law tops x (suc m) f k y le at marked set =
    by_kind y.kind refl (sym (law x f y at) ∙ set)
    (λ c l gives t. let b = given_inside p s tops f y k c l at gives in let z = some_entry p.forms c b.1 in
    set_down p s law tops x m c l z.0 (omega (arith, le, b.0)) z.1 (inner y marked at gives) t)
  where
    by_kind : (kind : FormKind) → y.kind ≡ kind → kind_sets x kind (sets p x) ≡ true
        → ((c l : ℕ) → Gives tops y.kind k c l → sets p x c ≡ true → SetMarked p tops x l) → SetMarked p tops x k
    by_kind (Set t there v) is h step = (f, y, t, there, v, at, is, h, marked)
    by_kind (Cond bs) is h step =
        let (j, b, c, bj, inside, t) = set_in bs (sets p x) h in
        let P : FormKind → Type 0 = λ kind. Gives tops kind k c k in
        step c k (subst P (sym is) (j, b, bj, inside, inl refl)) t
    by_kind (Par fs) is h step =
        let (c, inside, t) = any_of (sets p x) fs h in
        let P : FormKind → Type 0 = λ kind. Gives tops kind k c k in step c k (subst P (sym is) (inside, refl)) t
    by_kind (Go l) is h step = absurd (cc)
    by_kind (Call l) is h step = absurd (cc)
    by_kind Return is h step = absurd (cc)

-- a `setq` of x that reads n, of weight w, in its value or by its mark
abbrev pub ReadMarked : Program → List ℕ → List ℕ → List ℕ → ℕ → Type 0
ReadMarked p tops x n w = (g : ℕ) × (y : Form) × (t : List ℕ) × (at : Place) × (v k : ℕ) × IsAt p.forms g y
    × (y.kind ≡ Set t at v) × (is_same t x ≡ true) × Marked p tops g k
    × ((mentions p n v ≡ true) ⊎ (w < k))

pub read_down : (p : Program) → IsSound p → SetsLaw p → ReadsLaw p → (tops x n : List ℕ) (w : ℕ)
    → ((e : ℕ) → e < length p.exprs → mentions p n e ≡ true → w ≤ slice_index tops e)
    → (m f k : ℕ) (y : Form) → length p.forms ≤ f + m → IsAt p.forms f y → Marked p tops f k
    → form_reads p x n f ≡ true → ReadMarked p tops x n w
read_down p s sl rl tops x n w top zero f k y le at marked reads = absurd (omega (arith, le, within p.forms f at))
read_down p s sl rl tops x n w top (suc m) f k y le at marked reads =
    by_kind y.kind refl (sym (rl x n f y at) ∙ reads)
    (λ c l gives t. let b = given_inside p s tops f y k c l at gives in let z = some_entry p.forms c b.1 in
    read_down p s sl rl tops x n w top m c l z.0 (omega (arith, le, b.0)) z.1 (inner y marked at gives) t)
    (λ c l gives t. let b = given_inside p s tops f y k c l at gives in let z = some_entry p.forms c b.1 in
    set_down p s sl tops x m c l z.0 (omega (arith, le, b.0)) z.1 (inner y marked at gives) t)
  where
    by_guard : (k : ℕ) → w < k → SetMarked p tops x k → ReadMarked p tops x n w
    by_guard k lt (g, z, t, there, v, zg, kind, same, marked) = (g, z, t, there, v, k, zg, kind, same, marked, inr lt)

    by_branch : (bs : List Branch) → y.kind ≡ Cond bs → ReadIn (mentions p n) (sets p x) false bs (form_reads p x n)
        → ((c l : ℕ) → Gives tops y.kind k c l → form_reads p x n c ≡ true → ReadMarked p tops x n w)
        → ((c l : ℕ) → Gives tops y.kind k c l → sets p x c ≡ true → SetMarked p tops x l) → ReadMarked p tops x n w
    by_branch bs is (j, b, c, bj, inside, inl t) step sets_step =
        let P : FormKind → Type 0 = λ kind. Gives tops kind k c k in
        step c k (subst P (sym is) (j, b, bj, inside, inl refl)) t
    by_branch bs is (j, b, c, bj, inside, inr (t, inl before)) step sets_step = absurd (cc)
    by_branch bs is (j, b, c, bj, inside, inr (t, inr (i, g, gi, under, e))) step sets_step =
        let P : FormKind → Type 0 = λ kind. Gives tops kind k c (slice_index tops g.guard + 1) in
        let Q : FormKind → Type 0 = λ kind. InnerFit (length p.exprs) f (length p.forms) kind in
        let fit : Q (Cond bs) = subst Q is (s.forms f y at) in
        let inside_exprs =
        (each_at (λ (x : Branch). (x.guard < length p.exprs) × AllBetween f (length p.forms) x.body) bs i g fit gi).0 in
        by_guard (slice_index tops g.guard + 1) (omega (arith, top g.guard inside_exprs e))
        (sets_step c (slice_index tops g.guard + 1)
        (subst P (sym is) (j, b, bj, inside, inr (i, g, gi, under, refl))) t)

    by_kind : (kind : FormKind) → y.kind ≡ kind → kind_reads (mentions p n) (sets p x) x kind (form_reads p x n) ≡ true
        → ((c l : ℕ) → Gives tops y.kind k c l → form_reads p x n c ≡ true → ReadMarked p tops x n w)
        → ((c l : ℕ) → Gives tops y.kind k c l → sets p x c ≡ true → SetMarked p tops x l) → ReadMarked p tops x n w
    by_kind (Set t there v) is h step sets_step = let (same, m) = and_parts (is_same t x) (mentions p n v) h in
        (f, y, t, there, v, k, at, is, same, marked, inl m)
    by_kind (Cond bs) is h step sets_step =
        by_branch bs is (read_in (mentions p n) (sets p x) false bs (form_reads p x n) h) step sets_step
    by_kind (Par fs) is h step sets_step =
        let (c, inside, t) = any_of (form_reads p x n) fs h in
        let P : FormKind → Type 0 = λ kind. Gives tops kind k c k in step c k (subst P (sym is) (inside, refl)) t
    by_kind (Go l) is h step sets_step = absurd (cc)
    by_kind (Call l) is h step sets_step = absurd (cc)
    by_kind Return is h step sets_step = absurd (cc)

-- ---- from a form up to a top-level one

kind_up : (tops x : List ℕ) (m s r : ℕ → Bool) (kind : FormKind) (mark g k : ℕ) → Gives tops kind mark g k → r g ≡ true
    → kind_reads m s x kind r ≡ true
kind_up tops x m s r (Cond bs) mark g k (j, b, at, inside, worth) t =
    in_reads m s false bs r (j, b, g, at, inside, inl t)
kind_up tops x m s r (Par fs) mark g k (inside, e) t = any_contained r fs g inside t
kind_up tops x m s r (Set y at v) mark g k none t = absurd none
kind_up tops x m s r (Go l) mark g k none t = absurd none
kind_up tops x m s r (Call l) mark g k none t = absurd none
kind_up tops x m s r Return mark g k none t = absurd none

pub read_up : (p : Program) → ReadsLaw p → (tops x n : List ℕ) (f k : ℕ) → Marked p tops f k
    → form_reads p x n f ≡ true → list_any (form_reads p x n) (roots p) ≡ true
read_up p law tops x n f k (root h) t = any_contained (form_reads p x n) (roots p) f h t
read_up p law tops x n f k (inner {f = c} {mark = mark} y up at gives) t =
    read_up p law tops x n c mark up
    (law x n c y at
    ∙ kind_up tops x (mentions p n) (sets p x) (form_reads p x n) y.kind mark f k gives t)

-- a driven definition of weight k - 1 that top-level forms read for x
abbrev pub ReadWeight : Program → List ℕ → List ℕ → ℕ → Type 0
ReadWeight p weights x k = (b : ℕ) × (z : Def) × IsDriven p b z × (slice_index weights b + 1 ≡ k)
    × (list_any (form_reads p x z.name) (roots p) ≡ true)

-- where the mark of a form comes from
pub mark_up : (p : Program) → IsSound p → SetsLaw p → ReadsLaw p → (weights tops x : List ℕ) → AreTops p weights 0 tops
    → (f k : ℕ) → Marked p tops f k → 1 < k → sets p x f ≡ true → ReadWeight p weights x k
mark_up p s sl rl weights tops x t f k (root h) more set = absurd (omega (arith, more))
mark_up p s sl rl weights tops x t f k (inner {f = c} {mark = mark} y up at gives) more set =
    by_kind y.kind refl gives (λ some h. mark_up p s sl rl weights tops x t c mark up some
    (sl x c y at ∙ h))
  where
    same : k ≡ mark → ReadWeight p weights x mark → ReadWeight p weights x k
    same e (b, z, driven, w, reads) = (b, z, driven, w ∙ sym e, reads)

    by_kind : (kind : FormKind) → y.kind ≡ kind → Gives tops kind mark f k
        → (1 < mark → kind_sets x y.kind (sets p x) ≡ true → ReadWeight p weights x mark) → ReadWeight p weights x k
    by_kind (Cond bs) is (j, b, bj, inside, inl e) step =
        same e (step (omega (arith, e, more))
        (ap (λ kind. kind_sets x kind (sets p x)) is ∙ in_sets bs (sets p x) j b f bj inside set))
    by_kind (Cond bs) is (j, b, bj, inside, inr (i, g, gi, under, e)) step =
        let Q : FormKind → Type 0 = λ kind. InnerFit (length p.exprs) c (length p.forms) kind in
        let fit : Q (Cond bs) = subst Q is (s.forms c y at) in
        let lt =
        (each_at (λ (x : Branch). (x.guard < length p.exprs) × AllBetween c (length p.forms) x.body) bs i g fit gi).0 in
        let (d, z, driven, m, w) = t.met g.guard (omega arith) lt (omega (arith, e, more)) in (
          d,
          z,
          driven,
          omega (arith, w, e),
          read_up p rl tops x z.name c mark up
              (rl x z.name c y at
              ∙ ap (λ kind. kind_reads (mentions p z.name) (sets p x) x kind (form_reads p x z.name)) is
              ∙ in_reads (mentions p z.name) (sets p x) false bs (form_reads p x z.name)
              (j, b, f, bj, inside, inr (set, inr (i, g, gi, under, m)))),
        )
    by_kind (Par fs) is (inside, e) step =
        same e (step (omega (arith, e, more))
        (ap (λ kind. kind_sets x kind (sets p x)) is ∙ any_contained (sets p x) fs f inside set))
    by_kind (Set y at v) is none step = absurd none
    by_kind (Go l) is none step = absurd none
    by_kind (Call l) is none step = absurd none
    by_kind Return is none step = absurd none
