-- One net after another is renewed.
use Rattle.std.proofs.Common.{◌≡◌, ℕ, ◌<◌, ◌+◌, ◌⊎◌, inl, inr, List, Option, Some, None, Bool, true, false, length}
use Rattle.std.proofs.Common.{get_or, refl, sym, ◌∙◌, ap, subst, arith}
use Rattle.std.specs.Prelude.{IfSome, slice_get, slice_set}
use Rattle.std.proofs.lemmas.Bool.{cases_eq, false≢true, true≢false}
use Rattle.std.proofs.lemmas.Option.{get_or_from_slice_get, slice_get_within}
use Rattle.std.proofs.lemmas.List.{length-set}
use Rattle.mp_base.specs.declared.value.Trit.{Trit}
use Rattle.mp_base.specs.declared.value.Trit.TheVariants.{X}
use Rattle.mp_base.proofs.Entries.{some_entry}
use Rattle.nor_net.specs.declared.net.Phase.{Phase}
use Rattle.nor_net.specs.declared.net.Part.{Part}
use Rattle.nor_net.specs.declared.net.Part.TheVariants.{Input, Gate, Latch}
use Rattle.nor_net.specs.Elements.{Element, element_of}
use Rattle.nor_net.specs.Shape.{Fed, IsFed, values_at}
use Rattle.nor_net.specs.Passing.{renewed, unknowns, Climbs, setting_in, Renewed, Passed}
use Rattle.nor_net.proofs.Climbing.{climbed, lessened}

fed_at : (parts : List Part) (k : ℕ) (p : Part) → IsFed parts → slice_get parts k ≡ Some p → Fed p
fed_at parts k p fed e =
    subst Fed (get_or_from_slice_get parts k p p e)
    (fed k p (slice_get_within parts k p e))

element : (p : Part) → Fed p → (e : Element) × (element_of 0 p ≡ Some e)
element Input f = (_, refl)
element (Gate inputs) f = (_, refl)
element (Latch phase (Some m)) f = (_, refl)
element (Latch phase None) f = absurd (false≢true f)

module _ (parts : List Part) (phase : Option Phase) (fed : IsFed parts) (n : ℕ) (vs : List Trit)
    (size : length vs ≡ length parts) (inside : n < length parts)
    (value : Trit) (is_value : IfSome (slice_get parts n) (λ p. value ≡ renewed phase vs n p)) where
  part : (p : Part) × (slice_get parts n ≡ Some p)
  part = some_entry parts n inside

  renewed_is : (p : Part) → slice_get parts n ≡ Some p → value ≡ renewed phase vs n p
  renewed_is p e = subst (λ o. IfSome o (λ p. value ≡ renewed phase vs n p)) e is_value

  -- the value that was there is the new one
  pub kept : value ≡ get_or vs n X → Renewed parts phase n vs vs false
  kept e = record {
    size = refl;
    climbs = λ g b c. c;
    fewer = λ g b c t. absurd (false≢true t);
    same = λ t. refl;
    stands = λ t p is. sym e ∙ renewed_is p is;
  }

  -- it is another
  pub changed : (value ≡ get_or vs n X → ⊥) → Renewed parts phase n vs (slice_set vs n value) true
  changed ne =
      let p = part.0 in
      let r : value ≡ renewed phase vs n part.0 = renewed_is part.0 part.1 in
      let e = element part.0 (fed_at parts n part.0 fed part.1) in
      let l : n < length vs = omega arith in
      record {
        size = length-set vs n value;
        climbs = λ g b c. subst (λ t. Climbs (setting_in parts phase g b) (values_at (slice_set vs n t))) (sym r)
            (climbed parts phase g b vs c n part.0 e.0 l part.1 e.1);
        fewer = λ g b c t. subst (λ t. unknowns (slice_set vs n t) < unknowns vs) (sym r)
            (lessened parts phase g b vs c n part.0 e.0 l part.1 e.1 (λ q. ne (r ∙ q)));
        same = λ t. absurd (true≢false t);
        stands = λ t p is. absurd (true≢false t);
      }

-- before the first net
pub none_passed : (parts : List Part) (phase : Option Phase) (vs : List Trit) → Passed parts phase 0 vs vs false
none_passed parts phase vs = record {
  size = refl;
  climbs = λ g b c. c;
  fewer = λ g b c t. absurd (false≢true t);
  same = λ t. refl;
  stands = λ t k p l is. absurd (omega arith);
}

-- one more that changed
pub passed_changed : (parts : List Part) (phase : Option Phase) (n m : ℕ) (old mid new : List Trit) (before : Bool)
    → Passed parts phase n old mid before → Renewed parts phase n mid new true → m ≡ n + 1
    → Passed parts phase m old new true
passed_changed parts phase n m old mid new before h r e = record {
  size = r.size ∙ h.size;
  climbs = λ g b c. r.climbs g b (h.climbs g b c);
  fewer = λ g b c t. by_before before refl (r.fewer g b (h.climbs g b c) refl) (h.fewer g b c) h.same;
  same = λ t. absurd (true≢false t);
  stands = λ t k p l is. absurd (true≢false t);
}
  where
    by_before : (x : Bool) → before ≡ x → unknowns new < unknowns mid → (before ≡ true → unknowns mid < unknowns old)
        → (before ≡ false → mid ≡ old) → unknowns new < unknowns old
    by_before true e l f g = let m = f e in omega (arith, l, m)
    by_before false e l f g = subst (λ x. unknowns new < unknowns x) (g e) l

-- one more that kept its value
pub passed_kept : (parts : List Part) (phase : Option Phase) (n m : ℕ) (old mid new : List Trit) (before : Bool)
    → Passed parts phase n old mid before → Renewed parts phase n mid new false → m ≡ n + 1
    → Passed parts phase m old new before
passed_kept parts phase n m old mid new before h r e =
    subst (λ x. Passed parts phase m old x before) (sym (r.same refl)) (record {
      size = h.size;
      climbs = h.climbs;
      fewer = h.fewer;
      same = h.same;
      stands = λ t k p l is. by_place t k p is (cases_eq k n) l;
    })
  where
    by_place : before ≡ false → (k : ℕ) (p : Part) → slice_get parts k ≡ Some p → (k ≡ n) ⊎ (k ≡ n → ⊥) → k < m
        → get_or mid k X ≡ renewed phase mid k p
    by_place t k p is (inr ne) l = h.stands t k p (omega arith) is
    by_place t k p is (inl q) l =
        subst (λ x. get_or mid x X ≡ renewed phase mid x p) (sym q)
        (subst (λ x. get_or x n X ≡ renewed phase x n p) (r.same refl)
        (r.stands refl p (ap (slice_get parts) (sym q) ∙ is)))
