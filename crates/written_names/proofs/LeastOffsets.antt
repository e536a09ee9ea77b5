-- The least offset of what has a name.
use Rattle.std.proofs.Common.{◌≡◌, ◌⊎◌, ℕ, suc, List, [], ◌∷◌, Bool, true, false, cond, refl, inl, inr, is_some}
use Rattle.mp_program.specs.Names.{is_same}
use Rattle.mp_program.proofs.Definitions.{is_same_of, same_is}
use Rattle.mp_base.specs.Entries.{IsAt}
use Rattle.mp_rules.specs.Naming.{Naming}
use Rattle.name_meanings.specs.Named.{least_offset}
use Rattle.name_meanings.specs.Seconds.{lesser}
use Rattle.written_names.proofs.FoundEntries.{Found, nothing_in, here, behind, first_or_behind}

-- a name has no least offset where nothing has it
pub no_offset : (ns : List Naming) (x : List ℕ) → ((k : ℕ) (n : Naming) → IsAt ns k n → n.name ≡ x → ⊥)
    → is_some (least_offset ns x) ≡ false
no_offset [] x none = refl
no_offset (n ∷ ns) x none =
    cases (is_same n.name x) refl (no_offset ns x (λ k m at. none (suc k) m at))
  where
    cases : (b : Bool) → is_same n.name x ≡ b → is_some (least_offset ns x) ≡ false
        → is_some (cond b (lesser (least_offset ns x) (n.place).offset) (least_offset ns x)) ≡ false
    cases true e rest = absurd (none 0 n refl (same_is n.name x e))
    cases false e rest = rest

-- and has one where something has it
pub an_offset : (ns : List Naming) (x : List ℕ) → Found ns (λ (n : Naming). n.name ≡ x)
    → is_some (least_offset ns x) ≡ true
an_offset [] x found = absurd (nothing_in (λ (n : Naming). n.name ≡ x) found)
an_offset (n ∷ ns) x found =
    cases (an_offset ns x) (is_same n.name x) refl (first_or_behind (λ (m : Naming). m.name ≡ x) n ns found)
  where
    cases : (Found ns (λ (m : Naming). m.name ≡ x) → is_some (least_offset ns x) ≡ true) → (b : Bool)
        → is_same n.name x ≡ b
        → (n.name ≡ x) ⊎ Found ns (λ (m : Naming). m.name ≡ x)
        → is_some (cond b (lesser (least_offset ns x) (n.place).offset) (least_offset ns x)) ≡ true
    cases rest true e h = refl
    cases rest false e (inl now) = let same = is_same_of n.name x now in cc
    cases rest false e (inr later) = rest later

-- so something has it
pub offset_found : (ns : List Naming) (x : List ℕ) → is_some (least_offset ns x) ≡ true
    → Found ns (λ (n : Naming). n.name ≡ x)
offset_found [] x h = cc
offset_found (n ∷ ns) x h = cases (offset_found ns x) (is_same n.name x) refl h
  where
    cases : (is_some (least_offset ns x) ≡ true → Found ns (λ (m : Naming). m.name ≡ x)) → (b : Bool)
        → is_same n.name x ≡ b
        → is_some (cond b (lesser (least_offset ns x) (n.place).offset) (least_offset ns x)) ≡ true
        → Found (n ∷ ns) (λ (m : Naming). m.name ≡ x)
    cases rest true e g = here (λ (m : Naming). m.name ≡ x) n ns (same_is n.name x e)
    cases rest false e g = behind (λ (m : Naming). m.name ≡ x) n ns (rest g)
