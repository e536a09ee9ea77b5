-- Names that are each the name of one definition, where none is repeated.
use Rattle.std.proofs.Common.{◌≡◌, ℕ, zero, suc, ◌<◌, ◌≤◌, List, [], ◌∷◌, ◌++◌, Bool, true, false, cond, refl, sym, ◌∙◌}
use Rattle.std.proofs.Common.{ap, subst, inl, inr, length, arith}
use Rattle.std.specs.Prelude.{map, filter, not, ◌&&◌, ◌||◌, ◌==◌}
use Rattle.std.specs.List.{list_all}
use Rattle.std.proofs.lemmas.Bool.{cases_lt, cases_Bool}
use Rattle.std.proofs.lemmas.Bool.{eqb-true, and_parts, not_from_false}
use Rattle.std.proofs.lemmas.Option.{none-some, same_Some}
use Rattle.std.proofs.lemmas.Slice.Eq.{bytes_eq-Decides}
use Rattle.mp_base.specs.declared.refusal.Place.{Place}
use Rattle.mp_program.specs.declared.program.Def.{Def}
use Rattle.mp_program.specs.declared.program.Program.{Program}
use Rattle.mp_program.specs.Names.{is_same, is_supply, index_of}
use Rattle.mp_program.specs.Fits.{is_symbol, def_fits}
use Rattle.mp_program.proofs.FormKinds.{defs_fit}
use Rattle.mp_base.specs.Entries.{IsAt}
use Rattle.mp_base.proofs.Entries.{within, map_get, get_kept}
use Rattle.mp_rules.specs.Naming.{Naming, def_naming, process_naming, OwnNames}
use Rattle.mp_rules.specs.Rules.{E20}

def_fits_at : (ds : List Def) (d : ℕ) (x : Def) → list_all def_fits ds ≡ true → IsAt ds d x → def_fits x ≡ true
def_fits_at [] d x h at = absurd (none-some x at)
def_fits_at (y ∷ ys) zero x h at =
    subst (λ z. def_fits z ≡ true) (same_Some y x at) (and_parts (def_fits y) (list_all def_fits ys) h).0
def_fits_at (y ∷ ys) (suc d) x h at =
    def_fits_at ys d x (and_parts (def_fits y) (list_all def_fits ys) h).1 at

-- the name of a supply is no name of another definition
supply_apart : (x y : Def) → def_fits x ≡ true → def_fits y ≡ true → is_supply x.what ≡ false → is_supply y.what ≡ true
    → y.name ≡ x.name → ⊥
supply_apart x y fits other named supply same =
    let symbol : is_symbol x.name ≡ true =
    when_named (is_supply x.what) (length x.name == 0) (is_symbol x.name) fits named in
    let none : (length y.name == 0) ≡ true =
    when_supply (is_supply y.what) (length y.name == 0) (is_symbol y.name) other supply in
    let bare : is_symbol [] ≡ true = subst (λ n. is_symbol n ≡ true) (sym same ∙ empty y.name none) symbol in
    cc
  where
    when_named : (s l n : Bool) → ((s && l) || (not s && n)) ≡ true → s ≡ false → n ≡ true
    when_named true l n h e = absurd (cc)
    when_named false l n h e = h

    when_supply : (s l n : Bool) → ((s && l) || (not s && n)) ≡ true → s ≡ true → l ≡ true
    when_supply true true n h e = refl
    when_supply true false n h e = h
    when_supply false l n h e = absurd (cc)

    empty : (n : List ℕ) → (length n == 0) ≡ true → n ≡ []
    empty [] h = refl
    empty (b ∷ bs) h = absurd (let e = eqb-true (length (b ∷ bs)) 0 h in omega (arith, e))

-- the first definition of a name doesn't stand behind another of this name
first_at : (ds : List Def) (d : ℕ) (x : Def) → IsAt ds d x → index_of ds x.name ≤ d
first_at [] d x at = absurd (none-some x at)
first_at (y ∷ ys) d x at = elim (cases_Bool (is_same y.name x.name)) [
  | inl same ↦ (let e = ap (λ b. cond b 0 (suc (index_of ys x.name))) same in omega (arith, e))
  | inr other ↦
      (let e = ap (λ b. cond b 0 (suc (index_of ys x.name))) other in
      (let below = behind (λ k found. first_at ys k x found) d at other in omega (arith, e, below)))
]
  where
    behind : ((k : ℕ) → IsAt ys k x → index_of ys x.name ≤ k) → (k : ℕ) → IsAt (y ∷ ys) k x
        → is_same y.name x.name ≡ false → suc (index_of ys x.name) ≤ k
    behind rest zero at other =
        absurd (let same = (bytes_eq-Decides y.name x.name).1 (ap Def.name (same_Some y x at)) in cc)
    behind rest (suc k) at other = (let below = rest k at in omega (arith, below))

found_at : (ds : List Def) (n : List ℕ) → index_of ds n < length ds
    → (y : Def) × IsAt ds (index_of ds n) y × (y.name ≡ n)
found_at [] n lt = absurd (omega (arith, lt))
found_at (x ∷ xs) n lt = by (found_at xs n) (is_same x.name n) refl lt
  where
    by : (index_of xs n < length xs → (y : Def) × IsAt xs (index_of xs n) y × (y.name ≡ n)) → (b : Bool)
        → is_same x.name n ≡ b
        → cond b 0 (suc (index_of xs n)) < length (x ∷ xs)
        → (y : Def) × IsAt (x ∷ xs) (cond b 0 (suc (index_of xs n))) y × (y.name ≡ n)
    by rest true same less = (x, refl, (bytes_eq-Decides x.name n).0 same)
    by rest false other less = rest (omega (arith, less))

kept_in : (t : Def → Bool) (ds : List Def) (d : ℕ) (x : Def) → IsAt ds d x → t x ≡ true
    → (k : ℕ) × IsAt (filter t ds) k x
kept_in t [] d x at kept = absurd (none-some x at)
kept_in t (z ∷ zs) zero x at kept =
    let e : t z ≡ true = ap t (same_Some z x at) ∙ kept in
    subst (λ b. (k : ℕ) × IsAt (cond b (z ∷ filter t zs) (filter t zs)) k x) (sym e) (0, at)
kept_in t (z ∷ zs) (suc d) x at kept = shift (t z) (kept_in t zs d x at kept)
  where
    shift : (b : Bool) → (k : ℕ) × IsAt (filter t zs) k x → (k : ℕ) × IsAt (cond b (z ∷ filter t zs) (filter t zs)) k x
    shift true (k, found) = (suc k, found)
    shift false found = found

-- two entries, in this order
abbrev InOrder : List Def → Def → Def → Type 0
InOrder ds y x = (j k : ℕ) × (j < k) × IsAt ds j y × IsAt ds k x

-- two definitions that are kept in a list are kept in their order
kept_order : (t : Def → Bool) (ds : List Def) (i d : ℕ) (y x : Def) → IsAt ds i y → IsAt ds d x → i < d → t y ≡ true
    → t x ≡ true → InOrder (filter t ds) y x
kept_order t [] i d y x first second less kept also = absurd (none-some y first)
kept_order t (z ∷ zs) i zero y x first second less kept also = absurd (omega (arith, less))
kept_order t (z ∷ zs) zero (suc d) y x first second less kept also =
    let e : t z ≡ true = ap t (same_Some z y first) ∙ kept in
    let found = kept_in t zs d x second also in
    subst (λ b. InOrder (cond b (z ∷ filter t zs) (filter t zs)) y x) (sym e)
    (0, suc found.0, omega arith, first, found.1)
kept_order t (z ∷ zs) (suc i) (suc d) y x first second less kept also =
    shift (t z) (kept_order t zs i d y x first second (omega (arith, less)) kept also)
  where
    shift : (b : Bool) → InOrder (filter t zs) y x → InOrder (cond b (z ∷ filter t zs) (filter t zs)) y x
    shift true (j, k, jk, first, second) = (suc j, suc k, omega (arith, jk), first, second)
    shift false found = found

naming_at : (ds : List Def) (ns : List Naming) (k : ℕ) (x : Def) → IsAt ds k x
    → IsAt (map def_naming ds ++ ns) k (def_naming x)
naming_at ds ns k x at = get_kept (map def_naming ds) ns k (def_naming x) (map_get def_naming ds k x at)

pub own : (p : Program) → ((at : Place) → E20 p at → ⊥) → OwnNames p
own p unbroken d x at named = elim (cases_lt (index_of p.defs x.name) d) [
  | inl less ↦ absurd (earlier less)
  | inr more ↦ (let below = first_at p.defs d x at in omega (arith, below, more))
]
  where
    is_named : Def → Bool
    is_named z = not (is_supply z.what)

    clash : (y : Def) → InOrder (filter (λ (z : Def). not (is_supply z.what)) p.defs) y x → y.name ≡ x.name → ⊥
    clash y (j, k, jk, first, second) same =
        let here =
        naming_at (filter (λ (z : Def). not (is_supply z.what)) p.defs) (map process_naming p.processes) j y first in
        let there =
        naming_at (filter (λ (z : Def). not (is_supply z.what)) p.defs) (map process_naming p.processes) k x second in
        elim (cases_lt (x.place).offset (y.place).offset) [
          | inl before ↦
              unbroken y.place
              (inl (
                j,
                def_naming y,
                here,
                refl,
                inr
                    (k, def_naming x, there, (λ e. omega (arith, e, jk)), sym same, omega (arith, before)),
              ))
          | inr behind ↦
              unbroken x.place
              (inl (
                k,
                def_naming x,
                there,
                refl,
                inr
                    (j, def_naming y, here, (λ e. omega (arith, e, jk)), same, behind),
              ))
        ]

    earlier : index_of p.defs x.name < d → ⊥
    earlier less =
        let found = found_at p.defs x.name (let lt = within p.defs d at in omega (arith, less, lt)) in
        let all = defs_fit p in
        elim (cases_Bool (is_supply (found.0).what)) [
          | inl supply ↦
              supply_apart x found.0 (def_fits_at p.defs d x all at)
              (def_fits_at p.defs (index_of p.defs x.name) found.0 all found.1) named supply found.2
          | inr other ↦
              clash found.0
              (kept_order (λ (z : Def). not (is_supply z.what)) p.defs
              (index_of p.defs x.name) d found.0 x found.1 at less
              (not_from_false (is_supply (found.0).what) other) (not_from_false (is_supply x.what) named)) found.2
        ]
