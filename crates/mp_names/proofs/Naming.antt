-- What a table says of names.
use Rattle.std.proofs.Common.{◌≡◌, ◌⊎◌, ℕ, zero, suc, ◌<◌, ◌≤◌, List, [], ◌∷◌, Bool, true, false, not, cond, leb, min}
use Rattle.std.proofs.Common.{max, refl, subst, sym, inl, inr, arith, Option, Some, None, is_some, map, filter}
use Rattle.std.proofs.lemmas.Bool.{leb-true, le-leb, leb-false}
use Rattle.std.proofs.lemmas.Option.{none-some, same_Some}
use Rattle.mp_program.specs.declared.program.Def.{Def}
use Rattle.mp_program.specs.declared.program.Process.{Process}
use Rattle.mp_program.specs.declared.program.Program.{Program}
use Rattle.mp_program.specs.Names.{is_same, is_supply}
use Rattle.mp_program.proofs.Definitions.{is_same_of, same_is}
use Rattle.mp_base.specs.Entries.{IsAt}
use Rattle.mp_rules.specs.Naming.{Naming, namings, def_naming, process_naming}
use Rattle.name_meanings.specs.Named.{least_offset, second_offset}
use Rattle.name_meanings.specs.Seconds.{lesser, second_with}
use Rattle.mp_names.specs.Repeats.{is_up_to}
use Rattle.mp_names.proofs.Entries.{Found, nothing_in, here, behind, first_or_behind, in_left, in_right, in_either}
use Rattle.mp_names.proofs.Entries.{in_map, of_map, in_filter, of_filter, Passing}

-- a name has no least offset where nothing has it
pub no_offset : (ns : List Naming) (x : List ℕ) → ((k : ℕ) (n : Naming) → IsAt ns k n → n.name ≡ x → ⊥)
    → is_some (least_offset ns x) ≡ false
no_offset [] x none = refl
no_offset (n ∷ ns) x none =
    cases (is_same n.name x) refl (no_offset ns x (λ k m at. none (suc k) m at))
  where
    cases : (b : Bool) → is_same n.name x ≡ b → is_some (least_offset ns x) ≡ false
        → is_some (cond b (lesser (least_offset ns x) (n.place).offset) (least_offset ns x)) ≡ false
    cases true e rest = absurd (none 0 n refl (same_is n.name x e))
    cases false e rest = rest

-- and has one where something has it
pub an_offset : (ns : List Naming) (x : List ℕ) → Found ns (λ (n : Naming). n.name ≡ x)
    → is_some (least_offset ns x) ≡ true
an_offset [] x found = absurd (nothing_in (λ (n : Naming). n.name ≡ x) found)
an_offset (n ∷ ns) x found =
    cases (an_offset ns x) (is_same n.name x) refl (first_or_behind (λ (m : Naming). m.name ≡ x) n ns found)
  where
    cases : (Found ns (λ (m : Naming). m.name ≡ x) → is_some (least_offset ns x) ≡ true) → (b : Bool)
        → is_same n.name x ≡ b
        → (n.name ≡ x) ⊎ Found ns (λ (m : Naming). m.name ≡ x)
        → is_some (cond b (lesser (least_offset ns x) (n.place).offset) (least_offset ns x)) ≡ true
    cases rest true e h = refl
    cases rest false e (inl now) = let same = is_same_of n.name x now in cc
    cases rest false e (inr later) = rest later

-- so something has it
pub offset_found : (ns : List Naming) (x : List ℕ) → is_some (least_offset ns x) ≡ true
    → Found ns (λ (n : Naming). n.name ≡ x)
offset_found [] x h = cc
offset_found (n ∷ ns) x h = cases (offset_found ns x) (is_same n.name x) refl h
  where
    cases : (is_some (least_offset ns x) ≡ true → Found ns (λ (m : Naming). m.name ≡ x)) → (b : Bool)
        → is_same n.name x ≡ b
        → is_some (cond b (lesser (least_offset ns x) (n.place).offset) (least_offset ns x)) ≡ true
        → Found (n ∷ ns) (λ (m : Naming). m.name ≡ x)
    cases rest true e g = here (λ (m : Naming). m.name ≡ x) n ns (same_is n.name x e)
    cases rest false e g = behind (λ (m : Naming). m.name ≡ x) n ns (rest g)

-- something of a name doesn't stand after an offset
abbrev pub UpTo : List ℕ → ℕ → Naming → Type 0
UpTo x at m = (m.name ≡ x) × ((m.place).offset ≤ at)

-- nor do two
abbrev pub TwoUpTo : List Naming → List ℕ → ℕ → Type 0
TwoUpTo ns x at = (j k : ℕ) × (m n : Naming) × IsAt ns j m × IsAt ns k n × (j < k) × UpTo x at m × UpTo x at n

up_to_lesser : (found : Option ℕ) (a at : ℕ) → is_up_to (lesser found a) at ≡ true
    → (a ≤ at) ⊎ (is_up_to found at ≡ true)
up_to_lesser None a at h = inl (let le = leb-true (min a a) at h in omega (arith, le))
up_to_lesser (Some l) a at h = first (leb a at) refl
  where
    first : (b : Bool) → leb a at ≡ b → (a ≤ at) ⊎ (leb l at ≡ true)
    first true e = inl (leb-true a at e)
    first false e =
        inr (le-leb l at (let le = leb-true (min l a) at h in let gt = leb-false a at e in omega (arith, le, gt)))

lesser_up_to : (found : Option ℕ) (a at : ℕ) → (a ≤ at) ⊎ (is_up_to found at ≡ true)
    → is_up_to (lesser found a) at ≡ true
lesser_up_to None a at (inl le) = le-leb (min a a) at (omega (arith, le))
lesser_up_to None a at (inr h) = cc
lesser_up_to (Some l) a at (inl le) = le-leb (min l a) at (omega (arith, le))
lesser_up_to (Some l) a at (inr h) = le-leb (min l a) at (let le = leb-true l at h in omega (arith, le))

up_to_second : (least next : Option ℕ) (a at : ℕ) → is_up_to (second_with least next a) at ≡ true
    → ((a ≤ at) × (is_up_to least at ≡ true)) ⊎ (is_up_to next at ≡ true)
up_to_second None next a at h = inr h
up_to_second (Some l) next a at h = elim (up_to_lesser next (max l a) at h) [
  | inl le ↦ inl (omega (arith, le), le-leb l at (omega (arith, le)))
  | inr later ↦ inr later
]

second_up_to : (least next : Option ℕ) (a at : ℕ) → ((a ≤ at) × (is_up_to least at ≡ true)) ⊎ (is_up_to next at ≡ true)
    → is_up_to (second_with least next a) at ≡ true
second_up_to None next a at (inl (le, none)) = cc
second_up_to None next a at (inr h) = h
second_up_to (Some l) next a at (inl (le, h)) =
    lesser_up_to next (max l a) at (inl (let low = leb-true l at h in omega (arith, le, low)))
second_up_to (Some l) next a at (inr h) = lesser_up_to next (max l a) at (inr h)

-- the least offset says whether there is one
one_found : (ns : List Naming) (x : List ℕ) (at : ℕ) → is_up_to (least_offset ns x) at ≡ true → Found ns (UpTo x at)
one_found [] x at h = cc
one_found (n ∷ ns) x at h = cases (one_found ns x at) (is_same n.name x) refl h
  where
    cases : (is_up_to (least_offset ns x) at ≡ true → Found ns (UpTo x at)) → (b : Bool) → is_same n.name x ≡ b
        → is_up_to (cond b (lesser (least_offset ns x) (n.place).offset) (least_offset ns x)) at ≡ true
        → Found (n ∷ ns) (UpTo x at)
    cases rest true e g = elim (up_to_lesser (least_offset ns x) (n.place).offset at g) [
      | inl le ↦ here (UpTo x at) n ns (same_is n.name x e, le)
      | inr later ↦ behind (UpTo x at) n ns (rest later)
    ]
    cases rest false e g = behind (UpTo x at) n ns (rest g)

found_one : (ns : List Naming) (x : List ℕ) (at : ℕ) → Found ns (UpTo x at) → is_up_to (least_offset ns x) at ≡ true
found_one [] x at h = absurd (nothing_in (UpTo x at) h)
found_one (n ∷ ns) x at h = cases (found_one ns x at) (is_same n.name x) refl (first_or_behind (UpTo x at) n ns h)
  where
    cases : (Found ns (UpTo x at) → is_up_to (least_offset ns x) at ≡ true) → (b : Bool) → is_same n.name x ≡ b
        → UpTo x at n ⊎ Found ns (UpTo x at)
        → is_up_to (cond b (lesser (least_offset ns x) (n.place).offset) (least_offset ns x)) at ≡ true
    cases rest true e (inl now) = lesser_up_to (least_offset ns x) (n.place).offset at (inl now.1)
    cases rest true e (inr later) = lesser_up_to (least_offset ns x) (n.place).offset at (inr (rest later))
    cases rest false e (inl now) = let same = is_same_of n.name x now.0 in cc
    cases rest false e (inr later) = rest later

two_here : (n : Naming) (ns : List Naming) (x : List ℕ) (at : ℕ) → UpTo x at n → Found ns (UpTo x at)
    → TwoUpTo (n ∷ ns) x at
two_here n ns x at now (k, m, second, later) = (0, suc k, n, m, refl, second, omega arith, now, later)

two_behind : (n : Naming) (ns : List Naming) (x : List ℕ) (at : ℕ) → TwoUpTo ns x at → TwoUpTo (n ∷ ns) x at
two_behind n ns x at (j, k, a, b, first, second, lt, here, there) =
    (suc j, suc k, a, b, first, second, omega (arith, lt), here, there)

two_either : (n : Naming) (ns : List Naming) (x : List ℕ) (at : ℕ) → TwoUpTo (n ∷ ns) x at
    → (UpTo x at n × Found ns (UpTo x at)) ⊎ TwoUpTo ns x at
two_either n ns x at (zero, zero, a, b, first, second, lt, now, later) = absurd (omega (arith, lt))
two_either n ns x at (suc j, zero, a, b, first, second, lt, now, later) = absurd (omega (arith, lt))
two_either n ns x at (zero, suc k, a, b, first, second, lt, now, later) =
    inl (subst (UpTo x at) (sym (same_Some n a first)) now, (k, b, second, later))
two_either n ns x at (suc j, suc k, a, b, first, second, lt, now, later) =
    inr (j, k, a, b, first, second, omega (arith, lt), now, later)

-- and the second least whether there are two
pub two_found : (ns : List Naming) (x : List ℕ) (at : ℕ) → is_up_to (second_offset ns x) at ≡ true → TwoUpTo ns x at
two_found [] x at h = cc
two_found (n ∷ ns) x at h = cases (two_found ns x at) (is_same n.name x) refl h
  where
    cases : (is_up_to (second_offset ns x) at ≡ true → TwoUpTo ns x at) → (b : Bool) → is_same n.name x ≡ b
        → is_up_to
        (cond b (second_with (least_offset ns x) (second_offset ns x) (n.place).offset) (second_offset ns x)) at ≡ true
        → TwoUpTo (n ∷ ns) x at
    cases rest true e g = elim (up_to_second (least_offset ns x) (second_offset ns x) (n.place).offset at g) [
      | inl (le, one) ↦ two_here n ns x at (same_is n.name x e, le) (one_found ns x at one)
      | inr later ↦ two_behind n ns x at (rest later)
    ]
    cases rest false e g = two_behind n ns x at (rest g)

pub found_two : (ns : List Naming) (x : List ℕ) (at : ℕ) → TwoUpTo ns x at → is_up_to (second_offset ns x) at ≡ true
found_two [] x at (j, k, a, b, first, second, lt, now, later) = absurd (none-some a first)
found_two (n ∷ ns) x at h = cases (found_two ns x at) (is_same n.name x) refl (two_either n ns x at h)
  where
    cases : (TwoUpTo ns x at → is_up_to (second_offset ns x) at ≡ true) → (b : Bool) → is_same n.name x ≡ b
        → (UpTo x at n × Found ns (UpTo x at)) ⊎ TwoUpTo ns x at
        → is_up_to
        (cond b (second_with (least_offset ns x) (second_offset ns x) (n.place).offset) (second_offset ns x)) at ≡ true
    cases rest true e (inl (now, later)) =
        second_up_to (least_offset ns x) (second_offset ns x) (n.place).offset at (inl (now.1, found_one ns x at later))
    cases rest true e (inr later) =
        second_up_to (least_offset ns x) (second_offset ns x) (n.place).offset at (inr (rest later))
    cases rest false e (inl (now, later)) = let same = is_same_of n.name x now.0 in cc
    cases rest false e (inr later) = rest later

-- a definition that has a name
abbrev pub has_name : Def → Bool
has_name d = not (is_supply d.what)

-- what has a name is a definition that isn't a supply, or a process
pub of_namings : (p : Program) (P : Naming → Type 0) → Found (namings p) P
    → Found p.defs (Passing has_name (λ (d : Def). P (def_naming d)))
    ⊎ Found p.processes (λ (q : Process). P (process_naming q))
of_namings p P h = elim (in_either P (map def_naming (filter has_name p.defs)) (map process_naming p.processes) h) [
  | inl left ↦
      inl (of_filter has_name (λ (d : Def). P (def_naming d)) p.defs
      (of_map def_naming P (filter has_name p.defs) left))
  | inr right ↦ inr (of_map process_naming P p.processes right)
]

pub in_namings : (p : Program) (P : Naming → Type 0)
    → Found p.defs (Passing has_name (λ (d : Def). P (def_naming d)))
    ⊎ Found p.processes (λ (q : Process). P (process_naming q)) → Found (namings p) P
in_namings p P (inl left) = in_left P (map def_naming (filter has_name p.defs)) (map process_naming p.processes)
    (in_map def_naming P (filter has_name p.defs) (in_filter has_name (λ (d : Def). P (def_naming d)) p.defs left))
in_namings p P (inr right) =
    in_right P (map def_naming (filter has_name p.defs)) (map process_naming p.processes)
    (in_map process_naming P p.processes right)
