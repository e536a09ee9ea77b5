-- The classes of nodes, found in one pass in text order.
use Rattle.std.proofs.Common.{◌≡◌, ◌≢◌, ◌⊎◌, inl, inr, ℕ, ◌+◌, ◌<◌, ◌≤◌, List, ◌∷◌, refl, sym, ◌∙◌, ap, subst}
use Rattle.std.proofs.Common.{length, arith, get_or, Option, Some, None, replicate, slice_set, slice_index}
use Rattle.std.proofs.Common.{slice_index_or}
use Rattle.std.proofs.lemmas.List.{get_or_read, get_or-set_same, get_or-set_other, get_or-replicate, get_or_past}
use Rattle.std.proofs.lemmas.List.{length-set, length-replicate}
use Rattle.std.proofs.lemmas.Bool.{cases_eq, cases_lt}
use Rattle.mp_base.specs.declared.refusal.Family.TheVariants.{E}
use Rattle.mp_base.specs.declared.refusal.Spot.TheVariants.{At}
use Rattle.mp_base.specs.declared.refusal.Refusal.{Refusal}
use Rattle.mp_base.specs.declared.refusal.Refusal.TheVariants.{Broken}
use Rattle.mp_base.specs.Refuses.{RefusesAt}
use Rattle.form_reader.specs.declared.forms.Node.{Node}
use Rattle.form_reader.specs.declared.forms.Forms.{Forms}
use Rattle.form_reader.specs.Sound.{no_node, node, kind_at, items_of, IsItem, IsSound}
use Rattle.mp_shapes.specs.declared.table.Class.{Class}
use Rattle.mp_shapes.specs.declared.table.Class.TheVariants.{Whole}
use Rattle.mp_shapes.specs.declared.table.Layout.{Layout}
use Rattle.mp_shapes.specs.Layout.{layout, item_class}
use Rattle.mp_shapes.specs.Standing.{StandsFor, root, item, IsDefect, IsFirstDefect, AreClasses}
use Rattle.mp_shapes.specs.Marking.{Marked}

abbrev pub at : List (Option Class) → ℕ → Option Class
at xs m = slice_index_or xs m None

pub items_inside : (f : Forms) → IsSound f → (n : ℕ) (is : List ℕ) → n < length f.nodes → is ≡ items_of (kind_at f n)
    → (k : ℕ) → k < length is → slice_index is k < length f.nodes
items_inside f s n is lt same k kl =
    let P : List ℕ → Type 0 = λ ys. k < length ys → slice_index ys k < length f.nodes in
    subst P (sym same) (λ h. (s.behind n k _ (lt, h, refl)).1) kl

pub items_apart : (f : Forms) → IsSound f → (n : ℕ) (is : List ℕ) → n < length f.nodes → is ≡ items_of (kind_at f n)
    → (j k : ℕ) → j < length is → k < length is → slice_index is j ≡ slice_index is k → j ≡ k
items_apart f s n is lt same j k jl kl e =
    let P : List ℕ → Type 0 = λ ys. j < length ys → k < length ys → slice_index ys j ≡ slice_index ys k → j ≡ k in
    subst P (sym same) (λ h g d. s.one_place n n j k _ (lt, h, refl) (lt, g, d)) jl kl e

-- what is known once the lists of the nodes before n are done
pub record Found (f : Forms) (n : ℕ) (classes : List (Option Class)) : Type 0 where
  pub size : length classes ≡ length f.nodes
  pub sound : (m : ℕ) (c : Class) → at classes m ≡ Some c → StandsFor f m c
  pub whole : (r : ℕ) (rs : List ℕ) → f.roots ≡ r ∷ rs → at classes r ≡ Some Whole
  pub complete : (a j m : ℕ) (c d : Class) (l : Layout) → a < n → IsItem f a j m → at classes a ≡ Some c
      → layout f c (kind_at f a) ≡ Some l → item_class l j ≡ Some d
      → at classes m ≡ Some d
  pub clean : (a : ℕ) (c : Class) → a < n → at classes a ≡ Some c → layout f c (kind_at f a) ≡ None → ⊥

-- one pass over the items of a list
pub mark_none : (l : Layout) (items : List ℕ) (old : List (Option Class)) → Marked l items 0 old old
mark_none l items old = record { size = refl; set = λ j d jl. absurd (omega (arith, jl)); kept = λ m. inl refl }

-- an item that stands for nothing
pub mark_skip : (l : Layout) (items : List ℕ) (k : ℕ) (old new : List (Option Class)) → Marked l items k old new
    → item_class l k ≡ None → Marked l items (k + 1) old new
mark_skip l items k old new m none = record {
  size = m.size;
  set = λ j d jl ic. elim (cases_lt j k) [ inl lt ↦ m.set j d lt ic | inr ge ↦ absurd (clash j d jl ge ic) ];
  kept = λ x. elim (m.kept x) [
    | inl same ↦ inl same
    | inr (j, d, jl, rest, is, now) ↦ inr (j, d, omega (arith, jl), rest, is, now)
  ];
}
  where
    clash : (j : ℕ) (d : Class) → j < k + 1 → k ≤ j → item_class l j ≡ Some d → ⊥
    clash j d jl ge ic = let e : j ≡ k = omega (arith, jl, ge) in
        let h : item_class l j ≡ None = ap (λ i. item_class l i) e ∙ none in cc

-- an item that stands for a class
pub mark_set : (l : Layout) (items : List ℕ) (k : ℕ) (c : Class) (old new : List (Option Class))
    → Marked l items k old new → item_class l k ≡ Some c
    → k < length items → slice_index items k < length new
    → ((i j : ℕ) → i < length items → j < length items → slice_index items i ≡ slice_index items j → i ≡ j)
    → Marked l items (k + 1) old (slice_set new (slice_index items k) (Some c))
mark_set l items k c old new m some kl inside apart =
    record { size = length-set new (slice_index items k) (Some c) ∙ m.size; set = sets; kept = keeps }
  where
    here : at (slice_set new (slice_index items k) (Some c)) (slice_index items k) ≡ Some c
    here = get_or-set_same new (slice_index items k) (Some c) None inside

    other : (x : ℕ) → x ≢ slice_index items k → at (slice_set new (slice_index items k) (Some c)) x ≡ at new x
    other x ne = get_or-set_other new (slice_index items k) x (Some c) None ne

    sets : (j : ℕ) (d : Class) → j < k + 1 → item_class l j ≡ Some d
        → at (slice_set new (slice_index items k) (Some c)) (slice_index items j) ≡ Some d
    sets j d jl ic = elim (cases_lt j k) [
      | inl lt ↦
          other (slice_index items j)
          (λ e. let s : j ≡ k = apart j k (omega (arith, lt, kl)) kl e in absurd (omega (arith, s, lt)))
          ∙ m.set j d lt ic
      | inr ge ↦ last j d (omega (arith, jl, ge)) ic
    ]
      where
        last : (j : ℕ) (d : Class) → j ≡ k → item_class l j ≡ Some d
            → at (slice_set new (slice_index items k) (Some c)) (slice_index items j) ≡ Some d
        last j d e ic = let h : item_class l j ≡ Some c = ap (λ i. item_class l i) e ∙ some in
            ap (λ i. at (slice_set new (slice_index items k) (Some c)) (slice_index items i)) e ∙ here ∙ sym h ∙ ic

    keeps : (x : ℕ) → (at (slice_set new (slice_index items k) (Some c)) x ≡ at old x)
        ⊎ ((j : ℕ) × (d : Class) × (j < k + 1) × (item_class l j ≡ Some d) × (x ≡ slice_index items j)
        × (at (slice_set new (slice_index items k) (Some c)) x ≡ Some d))
    keeps x = elim (cases_eq x (slice_index items k)) [
      | inl e ↦ inr (k, c, omega arith, some, e, ap (λ i. at (slice_set new (slice_index items k) (Some c)) i) e ∙ here)
      | inr ne ↦ elim (m.kept x) [
        | inl same ↦ inl (other x ne ∙ same)
        | inr (j, d, jl, rest, is, now) ↦ inr (j, d, omega (arith, jl), rest, is, other x ne ∙ now)
      ]
    ]

-- the start: the root alone
pub found_start : (f : Forms) (s : IsSound f) (r : ℕ) (rs : List ℕ) → f.roots ≡ r ∷ rs → r < length f.nodes
    → (classes : List (Option Class)) → classes ≡ replicate (length f.nodes) None
    → Found f 0 (slice_set classes r (Some Whole))
found_start f s r rs is lt classes e = record {
  size = length-set classes r (Some Whole) ∙ size;
  sound = sounds;
  whole = λ q qs h. let same : q ≡ r = s.first q qs h ∙ sym (s.first r rs is) in
      ap (λ i. at (slice_set classes r (Some Whole)) i) same ∙ here;
  complete = λ a j m c d l al. absurd (omega (arith, al));
  clean = λ a c al. absurd (omega (arith, al));
}
  where
    size : length classes ≡ length f.nodes
    size = ap length e ∙ length-replicate {A = Option Class} (length f.nodes) None

    long : r < length classes
    long = omega (arith, size, lt)

    here : at (slice_set classes r (Some Whole)) r ≡ Some Whole
    here = get_or-set_same classes r (Some Whole) None long

    none : (m : ℕ) → at classes m ≡ None
    none m = ap (λ xs. at xs m) e
        ∙ elim (cases_lt m (length f.nodes)) [
          | inl ml ↦ get_or-replicate (length f.nodes) m None None ml
          | inr ge ↦ get_or_past (replicate (length f.nodes) None) m None (past m ge)
        ]
      where
        past : (m : ℕ) → length f.nodes ≤ m → length {A = Option Class} (replicate (length f.nodes) None) ≤ m
        past m ge = omega (arith, ge, length-replicate {A = Option Class} (length f.nodes) None)

    sounds : (m : ℕ) (c : Class) → at (slice_set classes r (Some Whole)) m ≡ Some c → StandsFor f m c
    sounds m c h = elim (cases_eq m r) [
      | inl same ↦ first m c h same
      | inr ne ↦ absurd (clash m c h (get_or-set_other classes r m (Some Whole) None ne ∙ none m))
    ]
      where
        clash : (m : ℕ) (c : Class) → at (slice_set classes r (Some Whole)) m ≡ Some c
            → at (slice_set classes r (Some Whole)) m ≡ None → ⊥
        clash m c h g = cc

        first : (m : ℕ) (c : Class) → at (slice_set classes r (Some Whole)) m ≡ Some c → m ≡ r → StandsFor f m c
        first m c h same =
            let g : at (slice_set classes r (Some Whole)) m ≡ Some Whole =
            ap (λ i. at (slice_set classes r (Some Whole)) i) same ∙ here in
            let w : c ≡ Whole = cc in
            let P : Class → Type 0 = λ d. StandsFor f m d in
            let Q : ℕ → Type 0 = λ i. StandsFor f i Whole in
            subst P (sym w) (subst Q (sym same) (root r rs is))

-- a node that stands for nothing
pub found_skip : (f : Forms) (n : ℕ) (classes : List (Option Class)) → Found f n classes → at classes n ≡ None
    → Found f (n + 1) classes
found_skip f n classes h none = record {
  size = h.size;
  sound = h.sound;
  whole = h.whole;
  complete = λ a j m c d l al it ac lay ic. elim (cases_lt a n) [
    | inl lt ↦ h.complete a j m c d l lt it ac lay ic
    | inr ge ↦ absurd (clash a c al ge ac)
  ];
  clean = λ a c al ac lay. elim (cases_lt a n) [ inl lt ↦ h.clean a c lt ac lay | inr ge ↦ clash a c al ge ac ];
}
  where
    clash : (a : ℕ) (c : Class) → a < n + 1 → n ≤ a → at classes a ≡ Some c → ⊥
    clash a c al ge ac = let e : a ≡ n = omega (arith, al, ge) in
        let g : at classes a ≡ None = ap (λ i. at classes i) e ∙ none in cc

-- a node with a shape, whose items have got their classes
pub found_more : (f : Forms) (s : IsSound f) (n : ℕ) (old new : List (Option Class)) (c : Class) (l : Layout)
    → Found f n old → n < length f.nodes → at old n ≡ Some c
    → layout f c (kind_at f n) ≡ Some l → Marked l (items_of (kind_at f n)) (length (items_of (kind_at f n))) old new
    → Found f (n + 1) new
found_more f s n old new c l h nl is lay mk = record {
  size = mk.size ∙ h.size;
  sound = sounds;
  whole = wholes;
  complete = completes;
  clean = cleans;
}
  where
    Item : ℕ → Type 0
    Item m = (j : ℕ) × (d : Class) × (j < length (items_of (kind_at f n))) × (item_class l j ≡ Some d)
        × (m ≡ slice_index (items_of (kind_at f n)) j) × (at new m ≡ Some d)

    -- what isn't behind n is as it was
    before : (a : ℕ) → a ≤ n → at new a ≡ at old a
    before a al = elim (mk.kept a) [ inl same ↦ same | inr (j, d, jl, ic, e, now) ↦ absurd (late j jl e) ]
      where
        late : (j : ℕ) → j < length (items_of (kind_at f n)) → a ≡ slice_index (items_of (kind_at f n)) j → ⊥
        late j jl e = omega (arith, al, (s.behind n j a (nl, jl, e)).0)

    sounds : (m : ℕ) (d : Class) → at new m ≡ Some d → StandsFor f m d
    sounds m d now = elim (mk.kept m) [
      | inl same ↦ h.sound m d (sym same ∙ now)
      | inr (j, e, jl, ic, at_j, set) ↦ added j e jl ic at_j set
    ]
      where
        added : (j : ℕ) (e : Class) → j < length (items_of (kind_at f n)) → item_class l j ≡ Some e
            → m ≡ slice_index (items_of (kind_at f n)) j → at new m ≡ Some e → StandsFor f m d
        added j e jl ic at_j set = item n j m c d l (h.sound n c is) (nl, jl, at_j) lay (ic ∙ sym set ∙ now)

    wholes : (r : ℕ) (rs : List ℕ) → f.roots ≡ r ∷ rs → at new r ≡ Some Whole
    wholes r rs e = before r (omega (arith, s.first r rs e)) ∙ h.whole r rs e

    same_class : (a : ℕ) (d : Class) → a ≡ n → at old a ≡ Some d → c ≡ d
    same_class a d e old_a = let g : at old a ≡ Some c = ap (λ i. at old i) e ∙ is in cc

    completes : (a j m : ℕ) (b d : Class) (k : Layout) → a < n + 1 → IsItem f a j m → at new a ≡ Some b
        → layout f b (kind_at f a) ≡ Some k → item_class k j ≡ Some d → at new m ≡ Some d
    completes a j m b d k al it now la ic =
        elim (cases_lt a n) [ inl lt ↦ early lt | inr ge ↦ late (omega (arith, al, ge)) ]
      where
        was : at old a ≡ Some b
        was = sym (before a (omega (arith, al))) ∙ now

        early : a < n → at new m ≡ Some d
        early lt = elim (mk.kept m) [
          | inl same ↦ same ∙ h.complete a j m b d k lt it was la ic
          | inr (i, e, il, ie, at_i, set) ↦ absurd (two i il at_i)
        ]
          where
            two : (i : ℕ) → i < length (items_of (kind_at f n)) → m ≡ slice_index (items_of (kind_at f n)) i → ⊥
            two i il at_i = omega (arith, lt, s.one_list a n j i m it (nl, il, at_i))

        late : a ≡ n → at new m ≡ Some d
        late e =
            let bc : c ≡ b = same_class a b e was in
            let P : ℕ → Type 0 = λ i. (layout f b (kind_at f i) ≡ Some k) × IsItem f i j m in
            let q : P n = subst P e (la, it) in
            let Q : Class → Type 0 = λ x. layout f x (kind_at f n) ≡ Some k in
            let lk : layout f c (kind_at f n) ≡ Some k = subst Q (sym bc) q.0 in
            let same : l ≡ k = cc in
            let R : Layout → Type 0 = λ x. item_class x j ≡ Some d in
            ap (λ i. at new i) q.1.2 ∙ mk.set j d q.1.1 (subst R (sym same) ic)

    cleans : (a : ℕ) (b : Class) → a < n + 1 → at new a ≡ Some b → layout f b (kind_at f a) ≡ None → ⊥
    cleans a b al now none =
        elim (cases_lt a n) [ inl lt ↦ h.clean a b lt was none | inr ge ↦ late (omega (arith, al, ge)) ]
      where
        was : at old a ≡ Some b
        was = sym (before a (omega (arith, al))) ∙ now

        late : a ≡ n → ⊥
        late e =
            let bc : c ≡ b = same_class a b e was in
            let P : ℕ → Type 0 = λ i. layout f b (kind_at f i) ≡ None in
            let q : P n = subst P e none in
            let Q : Class → Type 0 = λ x. layout f x (kind_at f n) ≡ None in
            let lk : layout f c (kind_at f n) ≡ None = subst Q (sym bc) q in
            cc

-- all that stands for a class up to n has been found
pub stands : (f : Forms) (s : IsSound f) (n : ℕ) (classes : List (Option Class)) → Found f n classes
    → (m : ℕ) (c : Class) → StandsFor f m c → m ≤ n → at classes m ≡ Some c
stands f s n classes h m c (root r rs is) le = h.whole r rs is
stands f s n classes h m c (item a j m' b d l up it lay ic) le =
    let lt : a < n = omega (arith, le, (s.behind a j m it).0) in
    h.complete a j m b c l lt it (stands f s n classes h a b up (omega (arith, lt))) lay ic

pub root_inside : (f : Forms) (s : IsSound f) (r : ℕ) (rs : List ℕ) → f.roots ≡ r ∷ rs → r < length f.nodes
root_inside f s r rs is =
    let P : List ℕ → Type 0 = λ xs. (k : ℕ) → k < length xs → slice_index xs k < length f.nodes in
    subst P is s.roots 0 (omega arith)

pub inside : (f : Forms) (s : IsSound f) (m : ℕ) (c : Class) → StandsFor f m c → m < length f.nodes
inside f s m c (root r rs is) = root_inside f s r rs is
inside f s m c (item a j m' b d l up it lay ic) = (s.behind a j m it).1

pub first_defect : (f : Forms) (s : IsSound f) (n : ℕ) (classes : List (Option Class)) (c : Class) → Found f n classes
    → n < length f.nodes → at classes n ≡ Some c
    → layout f c (kind_at f n) ≡ None → IsFirstDefect f n
first_defect f s n classes c h lt is none =
    (lt, (c, h.sound n c is, none), λ m d. elim (cases_lt m n) [ inl ml ↦ absurd (early m ml d) | inr ge ↦ ge ])
  where
    early : (m : ℕ) → m < n → IsDefect f m → ⊥
    early m ml (b, st, bad) = h.clean m b ml (stands f s n classes h m b st (omega (arith, ml))) bad

pub all_found : (f : Forms) (s : IsSound f) (n : ℕ) (classes : List (Option Class)) → Found f n classes
    → length f.nodes ≤ n → AreClasses f classes
all_found f s n classes h le = record {
  size = h.size;
  sound = h.sound;
  complete = λ m c st. stands f s n classes h m c st (omega (arith, le, inside f s m c st));
  clean = λ m (b, st, bad). h.clean m b (omega (arith, le, inside f s m b st))
      (stands f s n classes h m b st (omega (arith, le, inside f s m b st))) bad;
}

-- the refusal at a node that was read
pub refuses10 : (f : Forms) (n : ℕ) (e : Refusal) (x : Node) → n < length f.nodes → x ≡ get_or f.nodes n x
    → e ≡ Broken (record { rule = record { family = E; number = 10 }; spot = At x.place }) → IsFirstDefect f n
    → RefusesAt E e (λ k at. (k ≡ 10) × (m : ℕ) × IsFirstDefect f m × (at ≡ (node f m).place))
refuses10 f n e x lt is told first =
    let P : Refusal
    → Type 0 = λ r. RefusesAt E r (λ k at. (k ≡ 10) × (m : ℕ) × IsFirstDefect f m × (at ≡ (node f m).place)) in
    subst P (sym told) (refl, (refl, n, first, ap (λ (y : Node). y.place) (get_or_read f.nodes n x lt is no_node)))

pub place_read : (f : Forms) (n : ℕ) (x : Node) → n < length f.nodes → x ≡ get_or f.nodes n x
    → x.place ≡ (node f n).place
place_read f n x lt is = ap (λ (y : Node). y.place) (get_or_read f.nodes n x lt is no_node)
