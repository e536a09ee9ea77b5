-- How far a path is made, when a cell has its latch, or its next value.
use Rattle.std.proofs.Common.{◌≡◌, ℕ, suc, ◌<◌, ◌≤◌, ◌⊎◌, inl, inr, Some, None, Bool, true, false, sym, ◌∙◌, ap, subst}
use Rattle.std.proofs.Common.{arith}
use Rattle.std.specs.Prelude.{MatchBool, slice_get}
use Rattle.std.proofs.lemmas.Bool.{cases_lt, cases_eq}
use Rattle.nor_net.specs.declared.net.NetId.{NetId}
use Rattle.nor_net.specs.declared.net.Part.TheVariants.{Latch}
use Rattle.rtl_form.specs.declared.rtl.Cell as cells
use Rattle.rtl_form.specs.declared.rtl.CellKind.{CellKind}
use Rattle.rtl_form.specs.declared.rtl.CellKind.TheVariants as kinds
use Rattle.rtl_form.specs.declared.rtl.Rtl.{Rtl}
use Rattle.mp_base.specs.Entries.{IsAt}
use Rattle.mp_base.proofs.Entries.{one_entry}
use Rattle.rtl_form.specs.Environment.{is_driven}
use Rattle.control_nor.specs.declared.names.Names.{Names}
use Rattle.task_schedule.specs.declared.task.Task.TheVariants as tasks
use Rattle.control_nor.specs.Lowering.{Stands}
use Rattle.path_values.specs.Allocated.{InputWord, StoredWord}
use Rattle.datapath_making.specs.declared.making.Making.{Making}
use Rattle.datapath_making.specs.Growing.{IsUnfed}
use Rattle.datapath_making.specs.Steps.{IsFree, IsPortMade, IsSlaveMade, IsWaiting}
use Rattle.datapath_making.proofs.Lists.{get_cases, set_cases, set_stands}
use Rattle.datapath_alloc.specs.Progress.{AreCellsMade, IsDone, IsWordOf}
use Rattle.datapath_alloc.proofs.Keeping.{Keeps, driven_kept, port_kept, stored_kept}
use Rattle.datapath_alloc.proofs.Steps.{unfed_back, waiting_kept}

-- a cell has one kind
pub one_kind : (r : Rtl) (c : ℕ) (x : cells.Cell) (kind : CellKind) → IsAt r.cells c x → IsWordOf r c kind
    → x.kind ≡ kind
one_kind r c x kind at w = ap (λ (y : cells.Cell). y.kind) (one_entry r.cells c x w.0 at w.1) ∙ w.2

pub port_no_store : (r : Rtl) (c k : ℕ) → IsWordOf r c (kinds.Input k) → IsWordOf r c kinds.Stored → ⊥
port_no_store r c k p w =
    let e : kinds.Input k ≡ kinds.Stored = sym p.2 ∙ one_kind r c p.0 kinds.Stored p.1 w in cc

pub same_port : (r : Rtl) (c k n : ℕ) → IsWordOf r c (kinds.Input k) → IsWordOf r c (kinds.Input n) → k ≡ n
same_port r c k n p w =
    let e : kinds.Input k ≡ kinds.Input n = sym p.2 ∙ one_kind r c p.0 (kinds.Input n) p.1 w in cc

module _ (r : Rtl) (names : Names) (old new : Making) (keeps : Keeps old new) where
  -- cell i has what it wants before the tasks
  module _ (i : ℕ)
      (port : (n : ℕ) → IsWordOf r i (kinds.Input n)
      → (id : NetId) × (pad : NetId) × Stands new.cell_words i id × Stands new.pads n pad
      × InputWord new.slices.net id pad)
      (wait : IsWordOf r i kinds.Stored
      → (id : NetId) × Stands new.cell_words i id × IsWaiting new.slices.net id)
      (only : (d : ℕ) (id : NetId) → Stands new.cell_words d id
      → Stands old.cell_words d id ⊎ ((d ≡ i) × ((x : cells.Cell) × IsAt r.cells i x × (x.word ≡ true)
      × (is_driven x.kind ≡ false))))
      (pads : (n : ℕ) (pad : NetId) → Stands new.pads n pad → Stands old.pads n pad ⊎ IsWordOf r i (kinds.Input n))
      (waits : (id : NetId) → IsWaiting old.slices.net id → IsWaiting new.slices.net id)
      (unfed : (n : ℕ) → IsUnfed new.slices.net n → IsUnfed old.slices.net n
      ⊎ (IsWordOf r i kinds.Stored × ((id : NetId) × Stands new.cell_words i id × (id.0 ≡ suc n)))) where
    pub latch_more : (t : ℕ) → AreCellsMade r names i t 0 old → AreCellsMade r names (suc i) t 0 new
    latch_more t h = record {
      ports = λ c n l w.
          elim (cases_eq c i) [
            | inl e ↦ subst (λ m. (id : NetId) × (pad : NetId) × Stands new.cell_words m id × Stands new.pads n pad
                × InputWord new.slices.net id pad) (sym e)
                (port n (subst (λ m. IsWordOf r m (kinds.Input n)) e w))
            | inr ne ↦ let p = h.ports c n (omega (arith, l, ne)) w in
                (p.0, p.1, keeps.cells c p.0 p.2, keeps.pads n p.1 p.3, port_kept old new keeps p.0 p.1 p.4)
          ];
      waiting = λ c l m w.
          elim (cases_eq c i) [
            | inl e ↦ subst (λ m. (id : NetId) × Stands new.cell_words m id × IsWaiting new.slices.net id) (sym e)
                (wait (subst (λ m. IsWordOf r m kinds.Stored) e w))
            | inr ne ↦ let p = h.waiting c (omega (arith, l, ne)) m w in (p.0, keeps.cells c p.0 p.1, waits p.0 p.2)
          ];
      stored = λ c reset l w e. absurd (omega (arith, l));
      driven = λ c w d. let p = h.driven c w d in
          (p.0, keeps.cells c p.0 p.1, driven_kept old new keeps r names c p.0 p.2);
      only = λ c id s.
          elim (only c id s) [
            | inl before ↦ let p = h.only c id before in (p.0, p.1, p.2, later c (is_driven p.0.kind) p.3)
            | inr (same, (x, at, word, undriven)) ↦ subst (λ n. (y : cells.Cell) × IsAt r.cells n y × (y.word ≡ true)
                × MatchBool (is_driven y.kind) (IsDone names t (tasks.Cell n)) (n < suc i)) (sym same) (
                  x,
                  at,
                  word,
                  subst (λ b. MatchBool b (IsDone names t (tasks.Cell i)) (i < suc i))
                      (sym undriven) (let q : i < suc i = omega arith in q),
                )
          ];
      pads = λ n pad s.
          elim (pads n pad s) [
            | inl before ↦ let p = h.pads n pad before in (p.0, (let l = p.1 in omega (arith, l)), p.2)
            | inr now ↦ (i, omega arith, now)
          ];
      unfed = λ n u.
          elim (unfed n u) [
            | inl before ↦ let p = h.unfed n before in (p.0, p.1, p.2, p.3, keeps.cells p.0 p.1 p.4, p.5)
            | inr (word, (id, on, next)) ↦ (i, id, omega arith, word, on, next)
          ];
    }
      where
        later : (d : ℕ) (b : Bool) → MatchBool b (IsDone names t (tasks.Cell d)) (d < i)
            → MatchBool b (IsDone names t (tasks.Cell d)) (d < suc i)
        later d true e = e
        later d false e = omega (arith, e)

  pub port_more : (i k t : ℕ) → IsWordOf r i (kinds.Input k) → IsFree old.cell_words i → IsFree old.pads k
      → IsPortMade i k old new → AreCellsMade r names i t 0 old → AreCellsMade r names (suc i) t 0 new
  port_more i k t w free clear made =
      latch_more i
      (λ n other. subst (λ m. (id : NetId) × (pad : NetId) × Stands new.cell_words i id × Stands new.pads m pad
      × InputWord new.slices.net id pad) (same_port r i k n w other) (
        made.id,
        made.pad,
        subst (λ es. Stands es i made.id) (sym made.cells) (set_stands old.cell_words i made.id free),
        subst (λ es. Stands es k made.pad) (sym made.pads) (set_stands old.pads k made.pad clear),
        made.is_port,
      ))
      (λ other. absurd (port_no_store r i k w other))
      (λ d id s. elim (set_cases old.cell_words i made.id d id (subst (λ es. Stands es d id) made.cells s)) [
        | inl now ↦ inr (now.0, (w.0, w.1, w.3, ap is_driven w.2))
        | inr before ↦ inl before.1
      ])
      (λ n pad s. elim (set_cases old.pads k made.pad n pad (subst (λ es. Stands es n pad) made.pads s)) [
        | inl now ↦ inr (subst (λ m. IsWordOf r i (kinds.Input m)) (sym now.0) w)
        | inr before ↦ inl before.1
      ])
      (λ id q. waiting_kept old.slices.net made.appends.0 new.slices.net id made.appends.1 q)
      (λ n u. inl (unfed_back old.slices.net new.slices.net made.appends n u)) t

  pub slave_more : (i t : ℕ) → IsWordOf r i kinds.Stored → IsFree old.cell_words i
      → IsSlaveMade i old new → AreCellsMade r names i t 0 old → AreCellsMade r names (suc i) t 0 new
  slave_more i t w free made =
      latch_more i
      (λ n other. absurd (port_no_store r i n other w))
      (λ other. (
        made.id,
        subst (λ es. Stands es i made.id) (sym made.cells)
            (set_stands old.cell_words i made.id free),
        made.waiting,
      ))
      (λ d id s. elim (set_cases old.cell_words i made.id d id (subst (λ es. Stands es d id) made.cells s)) [
        | inl now ↦ inr (now.0, (w.0, w.1, w.3, ap is_driven w.2))
        | inr before ↦ inl before.1
      ])
      (λ n pad s. inl (subst (λ es. Stands es n pad) made.pads s))
      (λ id q. waiting_kept old.slices.net made.parts.0 new.slices.net id made.parts.1 q)
      (λ n u. elim (get_cases old.slices.net made.parts.0 n (Latch u.0 None)
      (ap (λ ps. slice_get ps n) (sym made.parts.1) ∙ u.1)) [
        | inl before ↦ inl (u.0, before.1)
        | inr now ↦ inr (
          w,
          (
            made.id,
            subst (λ es. Stands es i made.id) (sym made.cells)
                (set_stands old.cell_words i made.id free),
            made.unfed n (let e = now.1 in omega (arith, e)) u,
          ),
        )
      ]) t

  -- cell j has its next value
  pub next_more : (i t j : ℕ)
      → ((reset : ℕ) → IsWordOf r j kinds.Stored → r.reset ≡ Some reset
      → (id : NetId) × Stands new.cell_words j id × StoredWord r new.slices new.casts names new.words j reset id)
      → new.cell_words ≡ old.cell_words → new.pads ≡ old.pads
      → ((c : ℕ) (id : NetId) → suc j ≤ c → Stands old.cell_words c id → IsWaiting old.slices.net id
      → IsWaiting new.slices.net id)
      → ((n : ℕ) → IsUnfed new.slices.net n → IsUnfed old.slices.net n
      × ((id : NetId) → IsWordOf r j kinds.Stored → Stands old.cell_words j id → id.0 ≡ suc n → ⊥))
      → AreCellsMade r names i t j old → AreCellsMade r names i t (suc j) new
  next_more i t j store same pads waits unfed h = record {
    ports = λ c n l w. let p = h.ports c n l w in
        (p.0, p.1, keeps.cells c p.0 p.2, keeps.pads n p.1 p.3, port_kept old new keeps p.0 p.1 p.4);
    waiting = λ c l m w. let p = h.waiting c l (omega (arith, m)) w in
        (p.0, keeps.cells c p.0 p.1, waits c p.0 m p.1 p.2);
    stored = λ c reset l w e.
        elim (cases_eq c j) [
          | inl q ↦ subst (λ m. (id : NetId) × Stands new.cell_words m id
              × StoredWord r new.slices new.casts names new.words m reset id) (sym q)
              (store reset (subst (λ m. IsWordOf r m kinds.Stored) q w) e)
          | inr ne ↦ let p = h.stored c reset (omega (arith, l, ne)) w e in
              (p.0, keeps.cells c p.0 p.1, stored_kept old new keeps r names c reset p.0 p.2)
        ];
    driven = λ c w d. let p = h.driven c w d in
        (p.0, keeps.cells c p.0 p.1, driven_kept old new keeps r names c p.0 p.2);
    only = λ c id e. h.only c id (subst (λ es. Stands es c id) same e);
    pads = λ n pad e. h.pads n pad (subst (λ es. Stands es n pad) pads e);
    unfed = λ n u.
        let p = h.unfed n (unfed n u).0 in
        elim (cases_eq p.0 j) [
          | inl q ↦ absurd ((unfed n u).1 p.1 (subst (λ m. IsWordOf r m kinds.Stored) q p.3)
              (subst (λ m. Stands old.cell_words m p.1) q p.4) p.5)
          | inr ne ↦ (p.0, p.1, (let l = p.2 in omega (arith, l, ne)), p.3, keeps.cells p.0 p.1 p.4, p.5)
        ];
  }

-- ---- cells for which nothing is made

module _ (r : Rtl) (names : Names) (m : Making) where
  pub no_latch : (i t : ℕ) → ((n : ℕ) → IsWordOf r i (kinds.Input n) → ⊥) → (IsWordOf r i kinds.Stored → ⊥)
      → AreCellsMade r names i t 0 m → AreCellsMade r names (suc i) t 0 m
  no_latch i t never none h = record {
    ports = λ c n l w.
        elim (cases_eq c i) [
          | inl e ↦ absurd (never n (subst (λ m. IsWordOf r m (kinds.Input n)) e w))
          | inr ne ↦ h.ports c n (omega (arith, l, ne)) w
        ];
    waiting = λ c l k w.
        elim (cases_eq c i) [
          | inl e ↦ absurd (none (subst (λ m. IsWordOf r m kinds.Stored) e w))
          | inr ne ↦ h.waiting c (omega (arith, l, ne)) k w
        ];
    stored = h.stored;
    driven = h.driven;
    only = λ c id s. let p = h.only c id s in (p.0, p.1, p.2, later c (is_driven p.0.kind) p.3);
    pads = λ n pad s. let p = h.pads n pad s in (p.0, (let l = p.1 in omega (arith, l)), p.2);
    unfed = h.unfed;
  }
    where
      later : (d : ℕ) (b : Bool) → MatchBool b (IsDone names t (tasks.Cell d)) (d < i)
          → MatchBool b (IsDone names t (tasks.Cell d)) (d < suc i)
      later d true e = e
      later d false e = omega (arith, e)

  -- where none of these cells is a stored word
  pub no_next : (i t j k : ℕ) → j ≤ k → ((c : ℕ) → j ≤ c → c < k → IsWordOf r c kinds.Stored → ⊥)
      → AreCellsMade r names i t j m → AreCellsMade r names i t k m
  no_next i t j k l none h = record {
    ports = h.ports;
    waiting = λ c a b w. h.waiting c a (omega (arith, l, b)) w;
    stored = λ c reset b w e. by_side c reset w e (cases_lt c j) b;
    driven = h.driven;
    only = h.only;
    pads = h.pads;
    unfed = λ n u. let p = h.unfed n u in
        (p.0, p.1, least p.0 p.2 p.3 (cases_lt p.0 k), p.3, p.4, p.5);
  }
    where
      by_side : (c reset : ℕ) → IsWordOf r c kinds.Stored → r.reset ≡ Some reset → (c < j) ⊎ (j ≤ c) → c < k
          → (id : NetId) × Stands m.cell_words c id × StoredWord r m.slices m.casts names m.words c reset id
      by_side c reset w e (inl a) b = h.stored c reset a w e
      by_side c reset w e (inr a) b = absurd (none c a b w)

      least : (c : ℕ) → j ≤ c → IsWordOf r c kinds.Stored → (c < k) ⊎ (k ≤ c) → k ≤ c
      least c a w (inl b) = absurd (none c a b w)
      least c a w (inr b) = b
