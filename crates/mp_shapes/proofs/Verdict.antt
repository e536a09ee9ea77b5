-- Forms break rule E10 somewhere first, or each node has a class or none.
use Rattle.std.proofs.Common.{◌≡◌, ◌⊎◌, inl, inr, ℕ, zero, suc, ◌+◌, ◌<◌, ◌≤◌, List, [], ◌∷◌, Option, Some, None}
use Rattle.std.proofs.Common.{replicate, refl, ◌∙◌, ap, subst, length, arith, slice_index, slice_set}
use Rattle.mp_base.specs.declared.refusal.Place.{Place}
use Rattle.form_reader.specs.declared.forms.Forms.{Forms}
use Rattle.form_reader.specs.Sound.{node, kind_at, items_of, IsSound}
use Rattle.mp_shapes.specs.declared.table.Class.{Class}
use Rattle.mp_shapes.specs.declared.table.Class.TheVariants.{Whole}
use Rattle.mp_shapes.specs.declared.table.Layout.{Layout}
use Rattle.mp_shapes.specs.Layout.{layout, item_class}
use Rattle.mp_shapes.specs.Standing.{IsFirstDefect, E10, IsFirstE10, AreClasses}
use Rattle.mp_shapes.specs.Marking.{Marked}
use Rattle.mp_shapes.proofs.Finding.{at, Found, items_inside, items_apart, mark_none, mark_skip, mark_set, found_start}
use Rattle.mp_shapes.proofs.Finding.{found_skip, found_more, root_inside, first_defect, all_found}
use Rattle.mp_shapes.proofs.Firsts.{first_of_defects, second_form, no_form, none_broken}

module _ (f : Forms) (s : IsSound f) where
  -- the first items of a list get their classes
  module _ (n : ℕ) (lt : n < length f.nodes) (l : Layout) (old : List (Option Class))
      (size : length old ≡ length f.nodes) where
    mark_next : (k : ℕ) (new : List (Option Class)) → k < length (items_of (kind_at f n))
        → Marked l (items_of (kind_at f n)) k old new → (o : Option Class) → item_class l k ≡ o
        → (newer : List (Option Class)) × Marked l (items_of (kind_at f n)) (k + 1) old newer
    mark_next k new kl m None none = (new, mark_skip l (items_of (kind_at f n)) k old new m none)
    mark_next k new kl m (Some c) some = (
      slice_set new (slice_index (items_of (kind_at f n)) k) (Some c),
      mark_set l (items_of (kind_at f n)) k c old new m some kl
          (let inside = items_inside f s n (items_of (kind_at f n)) lt refl k kl in let same = m.size in omega
          (arith, inside, same, size))
          (items_apart f s n (items_of (kind_at f n)) lt refl),
    )

    mark_upto : (k : ℕ) → k ≤ length (items_of (kind_at f n)) → (new : List (Option Class))
        × Marked l (items_of (kind_at f n)) k old new
    mark_upto zero le = (old, mark_none l (items_of (kind_at f n)) old)
    mark_upto (suc k) le =
        let (new, m) = mark_upto k (omega (arith, le)) in
        let (newer, h) = mark_next k new (omega (arith, le)) m (item_class l k) refl in
        let same : k + 1 ≡ suc k = omega arith in
        (newer, subst (λ i. Marked l (items_of (kind_at f n)) i old newer) same h)

  abbrev Classified : ℕ → Type 0
  Classified n = ((classes : List (Option Class)) × Found f n classes) ⊎ ((m : ℕ) × IsFirstDefect f m)

  by_shape : (n : ℕ) (classes : List (Option Class)) (c : Class) → n < length f.nodes → Found f n classes
      → at classes n ≡ Some c
      → (o : Option Layout) → layout f c (kind_at f n) ≡ o → Classified (n + 1)
  by_shape n classes c lt found here None none = inr (n, first_defect f s n classes c found lt here none)
  by_shape n classes c lt found here (Some l) shape =
      let (new, m) = mark_upto n lt l classes found.size (length (items_of (kind_at f n))) (omega arith) in
      inl (new, found_more f s n classes new c l found lt here shape m)

  by_class : (n : ℕ) (classes : List (Option Class)) → n < length f.nodes → Found f n classes → (o : Option Class)
      → at classes n ≡ o → Classified (n + 1)
  by_class n classes lt found None none = inl (classes, found_skip f n classes found none)
  by_class n classes lt found (Some c) here = by_shape n classes c lt found here (layout f c (kind_at f n)) refl

  next_node : (n : ℕ) → n < length f.nodes → Classified n → Classified (n + 1)
  next_node n lt (inl (classes, found)) = by_class n classes lt found (at classes n) refl
  next_node n lt (inr defect) = inr defect

  module _ (r : ℕ) (rs : List ℕ) (is : f.roots ≡ r ∷ rs) where
    classify : (n : ℕ) → n ≤ length f.nodes → Classified n
    classify zero le = inl (
      slice_set (replicate (length f.nodes) None) r (Some Whole),
      found_start f s r rs is
          (root_inside f s r rs is) (replicate (length f.nodes) None) refl,
    )
    classify (suc n) le =
        let same : n + 1 ≡ suc n = omega arith in
        subst Classified same (next_node n (omega (arith, le)) (classify n (omega (arith, le))))

    abbrev Judged : Type 0
    Judged = ((classes : List (Option Class)) × AreClasses f classes × ((place : Place) → E10 f place → ⊥))
        ⊎ ((place : Place) × IsFirstE10 f place)

    one_or_more : (classes : List (Option Class)) → AreClasses f classes → (qs : List ℕ) → rs ≡ qs → Judged
    one_or_more classes known [] none =
        inl (
          classes,
          known,
          none_broken f r rs is (let size = ap (length {A = ℕ}) is in let rest = ap (length {A = ℕ})
              none in omega (arith, size, rest)) known.clean,
        )
    one_or_more classes known (b ∷ qs) some = inr (
      (node f b).place,
      second_form f r b qs known.clean
          (is ∙ ap (λ xs. r ∷ xs) some),
    )

    by_nodes : Classified (length f.nodes) → Judged
    by_nodes (inl (classes, found)) = one_or_more classes (all_found f s (length f.nodes) classes found (omega arith))
        rs refl
    by_nodes (inr (n, defect)) = inr ((node f n).place, first_of_defects f s n defect)

  pub verdict : ((classes : List (Option Class)) × AreClasses f classes × ((place : Place) → E10 f place → ⊥))
      ⊎ ((place : Place) × IsFirstE10 f place)
  verdict = by_roots f.roots refl
    where
      by_roots : (xs : List ℕ) → f.roots ≡ xs → ((classes : List (Option Class)) × AreClasses f classes
          × ((place : Place) → E10 f place → ⊥)) ⊎ ((place : Place) × IsFirstE10 f place)
      by_roots [] none = inr (f.end, no_form f none)
      by_roots (r ∷ rs) is = by_nodes r rs is (classify r rs is (length f.nodes) (omega arith))
