-- What meanings say of the expressions in a body, and of those outside of bodies.
use Rattle.std.proofs.Common.{◌≡◌, ◌∙◌, ℕ, zero, suc, ◌<◌, List, [], ◌∷◌, ◌≤◌, ◌++◌, refl, sym, ap, subst, arith}
use Rattle.std.proofs.Common.{length}
use Rattle.std.proofs.Common.{inl, inr, ◌⊎◌}
use Rattle.std.proofs.lemmas.Bool.{cases_lt}
use Rattle.std.specs.Prelude.{Option, Some, None, Contains, slice_get, slice_index_or, slice_set}
use Rattle.std.proofs.lemmas.List.{length-map}
use Rattle.std.proofs.lemmas.Option.{same_Some}
use Rattle.mp_base.specs.Entries.{IsAt}
use Rattle.mp_base.proofs.Entries.{get_set_other, get_set_same, push_cases, within, get_map}
use Rattle.mp_written.specs.declared.program.Expr.{Expr}
use Rattle.mp_written.specs.declared.program.Program.{Program}
use Rattle.mp_written.specs.Functions.{Function, functions}
use Rattle.mp_written.specs.Sound.{Under, InBody}
use Rattle.mp_written.specs.Expansion.{tops}
use Rattle.mp_written.proofs.Soundness.{sound}
use Rattle.mp_written.proofs.Roots.{one_body, in_no_body, is_guard}
use Rattle.written_meanings.specs.declared.functions.Body.{Body}
use Rattle.written_meanings.specs.declared.meanings.Meaning.{Meaning}
use Rattle.written_meanings.specs.declared.meanings.Meanings.{Meanings}
use Rattle.written_meanings.specs.Meanings.{AreMeanings, IsMeaning, IsOwner, args_around, argument, body_of, usable}
use Rattle.written_meanings.specs.Meanings.{used}
use Rattle.expansion_laws.specs.Lawful.{IsLawfulProgram}
use Rattle.expansion.specs.declared.item.Slot.{Slot}
use Rattle.expansion.specs.declared.item.Slot.TheVariants.{Unmade}
use Rattle.expansion.specs.Templates.{AreMade, Forgets, IsMade, IsReady, IsScoped}

-- what is meant there, by the owner
scoped_by : (w : Program) (d : ℕ) (x : Expr) (n : Meaning) (owner : Option ℕ) → IsMeaning w d x n → n.owner ≡ owner
    → IsScoped w owner x n
scoped_by w d x n owner is e = record {
  argument = is.argument ∙ ap (λ o. argument (args_around (functions w) o) x.kind) e;
  function = is.function ∙ ap (λ o. used (usable (functions w) o) x.kind) e;
}

owned_by : (w : Program) (k : ℕ) (f : Function) (d : ℕ) → InBody w k f d → (o : Option ℕ) → IsOwner w d o → o ≡ Some k
owned_by w k f d here (Some l) (g, there) = ap (λ j. Some j) (one_body w l k g f d there here)
owned_by w k f d here None none = absurd (none k f here)

owned_by_none : (w : Program) (t d : ℕ) → Contains (tops w) t → Under w.exprs t d → (o : Option ℕ) → IsOwner w d o
    → o ≡ None
owned_by_none w t d c under (Some l) (g, there) = absurd (in_no_body w t (is_guard w t c) l g d under there)
owned_by_none w t d c under None none = refl

module _ (w : Program) (m : Meanings) (meant : AreMeanings w m) (law : IsLawfulProgram w)
    (ts : List Slot) (made : AreMade w ts) where
  -- a body, where the functions before have their templates
  pub ready_body : (k : ℕ) (f : Function) → IsAt (functions w) k f → k ≤ length ts → IsReady w m ts (Some k) f.body
  ready_body k f here size = record {
    meant = meant;
    law = law;
    scoped = λ d x n under at there.
        (let is = meant.exprs d x n at there in
        scoped_by w d x n (Some k) is (owned_by w k f d (here, under) n.owner is.owner));
    lawful = law.bodies k f here;
    within = (let lt = within (functions w) k here in omega (arith, lt));
    made = made;
    enough = size;
  }

  -- a guard or value, where all functions have their templates
  pub ready_top : (t : ℕ) → Contains (tops w) t → length (functions w) ≤ length ts → IsReady w m ts None t
  ready_top t c size = record {
    meant = meant;
    law = law;
    scoped = λ d x n under at there.
        (let is = meant.exprs d x n at there in
        scoped_by w d x n None is (owned_by_none w t d c under n.owner is.owner));
    lawful = law.tops t c;
    within = omega arith;
    made = made;
    enough = size;
  }

-- ---- one template after another

pub made_more : (w : Program) (ts : List Slot) (k : ℕ) (f : Function) (t : Slot)
    → length ts ≡ k → IsAt (functions w) k f → AreMade w ts → IsMade w k f t → AreMade w (ts ++ t ∷ [])
made_more w ts k f t size here made is j g u at there = elim (push_cases ts t j u there) [
  | inl (below, old) ↦ made j g u at old
  | inr (last, same) ↦
      (let e : j ≡ k = last ∙ size in
      let one : f ≡ g = same_Some f g (sym here ∙ ap (slice_get (functions w)) (sym e) ∙ at) in
      subst (IsMade w j g) same
      (subst (λ h. IsMade w j h t) one (subst (λ i. IsMade w i f t) (sym e) is)))
]

-- the entry of a list
pub body_at : (bs : List Body) (k : ℕ) (none : Body) → k < length bs → IsAt bs k (slice_index_or bs k none)
body_at [] k none lt = absurd (omega (arith, lt))
body_at (b ∷ bs) zero none lt = refl
body_at (b ∷ bs) (suc k) none lt = body_at bs k none (omega (arith, lt))

pub body_entry : (w : Program) (m : Meanings) → AreMeanings w m → (k : ℕ) (b : Body) → IsAt m.bodies k b
    → (f : Function) × IsAt (functions w) k f × (f.body ≡ b.expr)
body_entry w m meant k b at =
    let (f, here, same) = get_map body_of (functions w) k b (subst (λ bs. IsAt bs k b) meant.bodies at) in
    (f, here, ap (λ (c : Body). c.expr) same)

pub bodies_size : (w : Program) (m : Meanings) → AreMeanings w m → length m.bodies ≡ length (functions w)
bodies_size w m meant = ap length meant.bodies ∙ length-map (functions w) body_of

pub body_inside : (w : Program) (m : Meanings) → AreMeanings w m → (k : ℕ) (b : Body) → IsAt m.bodies k b
    → b.expr < length w.exprs
body_inside w m meant k b at =
    let (f, here, same) = body_entry w m meant k b at in
    subst (λ e. e < length w.exprs) same ((sound w).defs k f here).body

-- ---- slots that are forgotten

pub forgets_none : (slots : List Slot) → Forgets slots slots
forgets_none slots = record { size = refl; each = λ k slot at. inr at }

pub forgets_more : (old mid new : List Slot) (j : ℕ) → j < length mid → Forgets old mid
    → new ≡ slice_set mid j Unmade → Forgets old new
forgets_more old mid new j lt forgets is = record {
  size = ap length is ∙ length_set mid j ∙ forgets.size;
  each = λ k slot at.
      (let there = subst (λ ss. IsAt ss k slot) is at in
      elim (cases_lt k j) [
        | inl below ↦ kept k slot there (λ same. omega (arith, same, below))
        | inr above ↦ elim (cases_lt j k) [
          | inl beyond ↦ kept k slot there (λ same. omega (arith, same, beyond))
          | inr last ↦
              (let e : k ≡ j = omega (arith, above, last) in
              inl (same_Some slot Unmade (sym there ∙ ap (λ i. slice_get (slice_set mid j Unmade) i) e
              ∙ get_set_same mid j Unmade lt)))
        ]
      ]);
}
  where
    length_set : (slots : List Slot) (i : ℕ) → length (slice_set slots i Unmade) ≡ length slots
    length_set [] i = refl
    length_set (s ∷ slots) zero = refl
    length_set (s ∷ slots) (suc i) = let rest = length_set slots i in omega (arith, rest)

    kept : (k : ℕ) (slot : Slot) → IsAt (slice_set mid j Unmade) k slot → (k ≡ j → ⊥)
        → (slot ≡ Unmade) ⊎ IsAt old k slot
    kept k slot there other = forgets.each k slot (sym (get_set_other mid j Unmade k other) ∙ there)

pub made_forgets : (w : Program) (old new : List Slot) → Forgets old new → AreMade w old → AreMade w new
made_forgets w old new forgets made k f slot here at = elim (forgets.each k slot at) [
  | inl nothing ↦ subst (IsMade w k f) (sym nothing) tt
  | inr there ↦ made k f slot here there
]
