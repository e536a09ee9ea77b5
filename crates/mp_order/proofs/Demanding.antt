-- What definitions read, by weights.
use Rattle.std.proofs.Common.{◌≡◌, ◌⊎◌, inl, inr, ℕ, ◌+◌, ◌-◌, ◌<◌, ◌≤◌, List, replicate, true, refl, sym, ◌∙◌, ap}
use Rattle.std.proofs.Common.{subst, length, arith, get_or}
use Rattle.std.specs.Prelude.{slice_index}
use Rattle.std.specs.List.{list_any}
use Rattle.std.proofs.lemmas.List.{length-replicate}
use Rattle.std.proofs.lemmas.Bool.{and_from}
use Rattle.mp_base.specs.declared.refusal.Place.{Place}
use Rattle.mp_base.proofs.Entries.{within, some_entry, zeros_at}
use Rattle.mp_program.specs.declared.program.FormKind.{FormKind}
use Rattle.mp_program.specs.declared.program.FormKind.TheVariants.{Set}
use Rattle.mp_program.specs.declared.program.Def.{Def}
use Rattle.mp_program.specs.declared.program.Form.{Form}
use Rattle.mp_program.specs.declared.program.Program.{Program}
use Rattle.mp_program.specs.Names.{is_same, index_of}
use Rattle.mp_program.specs.Reads.{mentions, sets, kind_sets, form_reads, kind_reads, roots, Reads}
use Rattle.mp_program.specs.Sound.{IsSound, InnerFit}
use Rattle.mp_program.proofs.Definitions.{is_same_of, same_is}
use Rattle.name_meanings.specs.declared.meaning.Meanings.{Meanings}
use Rattle.name_meanings.specs.Meaning.{AreMeanings}
use Rattle.mp_base.specs.Entries.{IsAt}
use Rattle.mp_order.specs.Tables.{Lifted}
use Rattle.mp_order.specs.Demands.{IsDriven, OwnNames, AreTops, Marked, root, AreMarks, Asks, AreDemands}
use Rattle.mp_order.proofs.Mentions.{any_of}
use Rattle.mp_order.proofs.Names.{meant}
use Rattle.mp_order.proofs.Marks.{marked_inside, marked_some}
use Rattle.mp_order.proofs.Reading.{SetsLaw, ReadsLaw, ReadMarked, ReadWeight, read_down, read_up, mark_up}

value_inside : (p : Program) → IsSound p → (f : ℕ) (y : Form) (name : List ℕ) (at : Place) (v : ℕ) → IsAt p.forms f y
    → y.kind ≡ Set name at v → v < length p.exprs
value_inside p s f y name at v yf is =
    let Q : FormKind → Type 0 = λ kind. InnerFit (length p.exprs) f (length p.forms) kind in
    let fit : Q (Set name at v) = subst Q is (s.forms f y yf) in fit

pub are_demands : (p : Program) (m : Meanings) (weights tops marks zeros demands : List ℕ) → IsSound p → SetsLaw p
    → ReadsLaw p → AreMeanings p m → OwnNames p
    → AreTops p weights 0 tops → AreMarks p tops marks → zeros ≡ replicate (length p.defs) 0
    → Lifted (Asks p m tops marks (length p.forms)) zeros demands
    → AreDemands p weights demands
are_demands p m weights tops marks zeros demands s sl rl means own t mk none l = record { bound = bounds; met = meets }
  where
    size : length zeros ≡ length p.defs
    size = ap (length {A = ℕ}) none ∙ length-replicate {A = ℕ} (length p.defs) 0

    -- what a `setq` that reads is worth
    worth : (a b : ℕ) (x y : Def) → IsDriven p a x → IsDriven p b y
        → ReadMarked p tops x.name y.name (slice_index weights b) → slice_index weights b ≤ slice_index demands a
    worth a b x y dx dy (g, z, name, at, v, k, zg, kind, same, marked, why) = by_why why
      where
        target : slice_index m.targets g ≡ a
        target = means.targets g z name at v zg kind ∙ ap (index_of p.defs) (same_is name x.name same) ∙ own a x dx

        some : 0 < slice_index marks g
        some = omega (arith, marked_some p tops g k marked, mk.bound g k marked)

        inside : a < length zeros
        inside = omega (arith, size, within p.defs a dx.0)

        by_why : (mentions p y.name v ≡ true) ⊎ (slice_index weights b < k)
            → slice_index weights b ≤ slice_index demands a
        by_why (inl mention) =
            omega (
              arith,
              t.bound v b y (omega arith) (value_inside p s g z name at v zg kind) dy mention,
              l.bound a (slice_index tops v) inside
                  (g, z, name, at, v, within p.forms g zg, zg, kind, target, some, inl refl),
            )
        by_why (inr lt) =
            let e : (slice_index marks g - 1) + 1 ≡ slice_index marks g = omega (arith, some) in
            omega (
              arith,
              lt,
              mk.bound g k marked,
              l.bound a (slice_index marks g - 1) inside
                  (g, z, name, at, v, within p.forms g zg, zg, kind, target, some, inr e),
            )

    bounds : (a b : ℕ) → Reads p a b → slice_index weights b ≤ slice_index demands a
    bounds a b (x, y, xa, yb, dx, dy, reads) =
        let driven : IsDriven p b y = (yb, dy) in
        let (r, rooted, reads_r) = any_of (form_reads p x.name y.name) (roots p) reads in
        let lt : r < length p.forms = marked_inside p s tops r 1 (root rooted) in
        let z = some_entry p.forms r lt in
        worth a b x y (xa, dx) driven
        (read_down p s sl rl tops x.name y.name (slice_index weights b)
        (λ e el mention. t.bound e b y (omega arith) el driven mention)
        (length p.forms) r 1 z.0 (omega arith) z.1 (root rooted) reads_r)

    reads_of : (a b : ℕ) (x y : Def) → IsDriven p a x → IsDriven p b y
        → list_any (form_reads p x.name y.name) (roots p) ≡ true → Reads p a b
    reads_of a b x y (xa, dx) (yb, dy) reads = (x, y, xa, yb, dx, dy, reads)

    from_weight : (a k : ℕ) (x : Def) → IsDriven p a x → ReadWeight p weights x.name (k + 1)
        → (b : ℕ) × Reads p a b × (slice_index weights b ≡ k)
    from_weight a k x dx (b, y, dy, w, reads) = (b, reads_of a b x y dx dy reads, omega (arith, w))

    from_ask : (a : ℕ) (x : Def) → IsDriven p a x → 0 < slice_index demands a
        → Asks p m tops marks (length p.forms) a (slice_index demands a)
        → (b : ℕ) × Reads p a b × (slice_index weights b ≡ slice_index demands a)
    from_ask a x dx some (f, y, name, at, v, lt, yf, kind, target, live, why) = by_why why
      where
        same : is_same name x.name ≡ true
        same = is_same_of name x.name
            (sym (meant p.defs name a x dx.0 (sym (means.targets f y name at v yf kind) ∙ target)))

        marked : Marked p tops f (slice_index marks f)
        marked = elim (mk.met f) [ inl zero ↦ absurd (omega (arith, zero, live)) | inr h ↦ h ]

        by_why : (slice_index demands a ≡ slice_index tops v) ⊎ (slice_index demands a + 1 ≡ slice_index marks f)
            → (b : ℕ) × Reads p a b × (slice_index weights b ≡ slice_index demands a)
        by_why (inl e) =
            let (b, z, dz, mention, w) =
            t.met v (omega arith) (value_inside p s f y name at v yf kind) (omega (arith, some, e)) in
            let here : form_reads p x.name z.name f ≡ true = rl x.name z.name f y yf
            ∙ ap (λ k. kind_reads (mentions p z.name) (sets p x.name) x.name k (form_reads p x.name z.name)) kind
            ∙ and_from (is_same name x.name) (mentions p z.name v) same mention in
            (b, reads_of a b x z dx dz (read_up p rl tops x.name z.name f (slice_index marks f) marked here), w ∙ sym e)
        by_why (inr e) =
            let here : sets p x.name f ≡ true =
            sl x.name f y yf ∙ ap (λ k. kind_sets x.name k (sets p x.name)) kind ∙ same in
            let P : ℕ → Type 0 = λ k. ReadWeight p weights x.name k in
            from_weight a (slice_index demands a) x dx
            (subst P (sym e)
            (mark_up p s sl rl weights tops x.name t f (slice_index marks f) marked (omega (arith, some, e)) here))

    meets : (a : ℕ) (x : Def) → IsDriven p a x → 0 < slice_index demands a
        → (b : ℕ) × Reads p a b × (slice_index weights b ≡ slice_index demands a)
    meets a x dx some = elim (l.met a) [
      | inl same ↦ absurd (omega (arith, some, same, zero a))
      | inr ask ↦ from_ask a x dx some ask
    ]
      where
        zero : (i : ℕ) → slice_index zeros i ≡ 0
        zero i = ap (λ xs. get_or xs i 0) none ∙ zeros_at (length p.defs) i
