-- The earliest `setq` of a definition with a flag.
use Rattle.std.proofs.Common.{◌≡◌, ◌⊎◌, inl, inr, ℕ, ◌+◌, ◌<◌, ◌≤◌, List, Option, Some, None, Bool, true, false}
use Rattle.std.proofs.Common.{sym, ◌∙◌, ap, subst, length, arith}
use Rattle.std.specs.Prelude.{◌↔◌, slice_index, MatchOption}
use Rattle.std.proofs.lemmas.Bool.{cases_lt}
use Rattle.mp_base.specs.declared.refusal.Place.{Place}
use Rattle.mp_program.specs.declared.program.FormKind.TheVariants.{Set}
use Rattle.mp_program.specs.declared.program.Form.{Form}
use Rattle.mp_program.specs.declared.program.Program.{Program}
use Rattle.name_meanings.specs.declared.meaning.Meanings.{Meanings}
use Rattle.mp_base.specs.Entries.{IsAt}
use Rattle.mp_base.proofs.Entries.{one_entry, within}
use Rattle.mp_order.specs.declared.earliest.Setting.{Setting}
use Rattle.mp_order.specs.Chains.{IsSet, SetsFlagged, FlaggedSet}

-- a `setq` of a definition with a flag, at a form before n
abbrev pub FlaggedBelow : Program → Meanings → List ℕ → ℕ → Place → Type 0
FlaggedBelow p m flags n at = (f : ℕ) × (y : Form) × (name : List ℕ) × (there : Place) × (v : ℕ) × (f < n)
    × IsAt p.forms f y × (y.kind ≡ Set name there v)
    × (0 < slice_index flags (slice_index m.targets f)) × (at ≡ y.place)

-- what was found among the forms before n
abbrev pub EarliestBelow : Program → Meanings → List ℕ → ℕ → Option Setting → Type 0
EarliestBelow p m flags n found = MatchOption found ((at : Place) → FlaggedBelow p m flags n at → ⊥)
    (λ s. SetsFlagged p m flags s.target s.place
    × ((at : Place) → FlaggedBelow p m flags n at → (s.place).offset ≤ at.offset))

pub below_none : (p : Program) (m : Meanings) (flags : List ℕ) → EarliestBelow p m flags 0 None
below_none p m flags = λ at (f, y, name, there, v, lt, yf, is, flag, e). omega (arith, lt)

-- one more form has no flag, or its place is late
pub below_more : (p : Program) (m : Meanings) (flags : List ℕ) (n : ℕ) (at : Place) → FlaggedBelow p m flags (n + 1) at
    → FlaggedBelow p m flags n at
    ⊎ ((y : Form) × IsAt p.forms n y × IsSet y.kind × (0 < slice_index flags (slice_index m.targets n))
    × (at ≡ y.place))
below_more p m flags n at (f, y, name, there, v, lt, yf, is, flag, e) = elim (cases_lt f n) [
  | inl below ↦ inl (f, y, name, there, v, below, yf, is, flag, e)
  | inr above ↦ inr (
      let P : ℕ → Type 0 = λ i. IsAt p.forms i y × (0 < slice_index flags (slice_index m.targets i)) in
      let h : P n = subst P (omega (arith, lt, above)) (yf, flag) in
      (y, h.0, (name, there, v, is), h.1, e))
]

pub below_all : (p : Program) (m : Meanings) (flags : List ℕ) (n : ℕ) (found : Option Setting) → length p.forms ≤ n
    → EarliestBelow p m flags n found
    → MatchOption found ((at : Place) → FlaggedSet p m flags at → ⊥)
    (λ s. SetsFlagged p m flags s.target s.place
    × ((at : Place) → FlaggedSet p m flags at → (s.place).offset ≤ at.offset))
below_all p m flags n None le none = λ at h. none at (narrow at h)
  where
    narrow : (at : Place) → FlaggedSet p m flags at → FlaggedBelow p m flags n at
    narrow at (d, (f, y, name, there, v, yf, is, target, flag, e)) = (
      f,
      y,
      name,
      there,
      v,
      omega (arith, within p.forms f yf, le),
      yf,
      is,
      (let P : ℕ → Type 0 = λ i. 0 < slice_index flags i in subst P (sym target) flag),
      e,
    )
below_all p m flags n (Some s) le (sets, first) = (sets, λ at h. first at (narrow at h))
  where
    narrow : (at : Place) → FlaggedSet p m flags at → FlaggedBelow p m flags n at
    narrow at (d, (f, y, name, there, v, yf, is, target, flag, e)) = (
      f,
      y,
      name,
      there,
      v,
      omega (arith, within p.forms f yf, le),
      yf,
      is,
      (let P : ℕ → Type 0 = λ i. 0 < slice_index flags i in subst P (sym target) flag),
      e,
    )

-- a form that changes nothing: it has no flag, or is no earlier than what was found
pub found_skip : (p : Program) (m : Meanings) (flags : List ℕ) (n : ℕ) (x : Form) (found : Option Setting)
    → IsAt p.forms n x → EarliestBelow p m flags n found
    → (IsSet x.kind → 0 < slice_index flags (slice_index m.targets n)
    → MatchOption found ⊥ (λ s. (s.place).offset ≤ (x.place).offset)) → EarliestBelow p m flags (n + 1) found
found_skip p m flags n x None xn none late = λ at h. elim (below_more p m flags n at h) [
  | inl before ↦ none at before
  | inr (y, yn, set, flag, e) ↦
      (let P : Form → Type 0 = λ z. IsSet z.kind in late (subst P (one_entry p.forms n y x yn xn) set) flag)
]
found_skip p m flags n x (Some s) xn (sets, first) late = (
  sets,
  λ at h. elim (below_more p m flags n at h) [
    | inl before ↦ first at before
    | inr (y, yn, set, flag, e) ↦
        let same : y ≡ x = one_entry p.forms n y x yn xn in
        let P : Form → Type 0 = λ z. IsSet z.kind in
        let le : (s.place).offset ≤ (x.place).offset = late (subst P same set) flag in
        let at_x : at.offset ≡ (x.place).offset =
        ap (λ (q : Place). q.offset) e ∙ ap (λ (z : Form). (z.place).offset) same in
        omega (arith, le, at_x)
  ],
)

pub found_set : (p : Program) (m : Meanings) (flags : List ℕ) (n : ℕ) (x : Form) (s : Setting) (found : Option Setting)
    → IsAt p.forms n x → EarliestBelow p m flags n found
    → IsSet x.kind → 0 < slice_index flags s.target → s.target ≡ slice_index m.targets n → s.place ≡ x.place
    → MatchOption found (Unit {0}) (λ old. (x.place).offset < (old.place).offset)
    → EarliestBelow p m flags (n + 1) (Some s)
found_set p m flags n x s found xn h (name, there, v, is) flag target placed before = (
  (n, x, name, there, v, xn, is, sym target, flag, placed),
  λ at late. elim (below_more p m flags n at late) [
    | inl early ↦ older found h before at early
    | inr (y, yn, set, f, e) ↦
        let same : y ≡ x = one_entry p.forms n y x yn xn in
        omega (
          arith,
          ap (λ (q : Place). q.offset) placed,
          ap (λ (q : Place). q.offset) e,
          ap
              (λ (z : Form). (z.place).offset) same,
        )
  ],
)
  where
    older : (found : Option Setting) → EarliestBelow p m flags n found
        → MatchOption found (Unit {0}) (λ old. (x.place).offset < (old.place).offset) → (at : Place)
        → FlaggedBelow p m flags n at → (s.place).offset ≤ at.offset
    older None none u at early = absurd (none at early)
    older (Some old) (sets, first) lt at early = omega (arith, first at early, lt, ap (λ (q : Place). q.offset) placed)

-- what a test of order says
pub is_before : (place : Place) (found : Option Setting) (b : Bool)
    → MatchOption found (b ≡ true) (λ s. (b ≡ true) ↔ (place.offset < (s.place).offset)) → b ≡ true
    → MatchOption found (Unit {0}) (λ s. place.offset < (s.place).offset)
is_before place None b told e = tt
is_before place (Some s) b told e = told.0 e

pub not_before : (place : Place) (found : Option Setting) (b : Bool)
    → MatchOption found (b ≡ true) (λ s. (b ≡ true) ↔ (place.offset < (s.place).offset)) → b ≡ false
    → MatchOption found ⊥ (λ s. (s.place).offset ≤ place.offset)
not_before place None b told e = let h : true ≡ false = sym told ∙ e in cc
not_before place (Some s) b told e = elim (cases_lt place.offset (s.place).offset) [
  | inl lt ↦ absurd (let h : false ≡ true = sym e ∙ told.1 lt in cc)
  | inr le ↦ le
]
