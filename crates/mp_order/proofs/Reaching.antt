-- What reaches a definition through chains of reads.
use Rattle.std.proofs.Common.{◌≡◌, ◌⊎◌, inl, inr, ℕ, ◌+◌, ◌-◌, ◌<◌, List, replicate, refl, sym, ◌∙◌, ap, subst, length}
use Rattle.std.proofs.Common.{arith, get_or}
use Rattle.std.specs.Prelude.{slice_index, slice_set}
use Rattle.std.proofs.lemmas.Bool.{cases_eq, cases_lt}
use Rattle.std.proofs.lemmas.List.{get_or-set_same, get_or-set_other, length-set, length-replicate}
use Rattle.std.proofs.lemmas.List.Sums.{sum_by-set}
use Rattle.mp_base.proofs.Entries.{within, zeros_at}
use Rattle.mp_program.specs.declared.program.Def.{Def}
use Rattle.mp_program.specs.declared.program.Program.{Program}
use Rattle.mp_program.specs.Reads.{Reads, Chain, link, more}
use Rattle.mp_order.specs.Demands.{IsDriven, WeighsDriven, AreDemands}
use Rattle.mp_order.specs.Chains.{Widened, blanks, AreReachers}

pub widened_none : (p : Program) (demands xs : List ℕ) → Widened p demands 0 xs xs
widened_none p demands xs =
    record { size = refl; kept = λ d h. h; made = λ d h. inl h; full = λ d x lt. absurd (omega (arith, lt)) }

-- a definition that gets no weight: it has one, is not driven or demands nothing
pub widened_skip : (p : Program) (demands old new : List ℕ) (n : ℕ) → Widened p demands n old new
    → ((x : Def) → IsDriven p n x → 0 < slice_index demands n → 0 < slice_index new n)
    → Widened p demands (n + 1) old new
widened_skip p demands old new n w here = record {
  size = w.size;
  kept = w.kept;
  made = w.made;
  full = λ d x lt driven some. elim (cases_lt d n) [
    | inl below ↦ w.full d x below driven some
    | inr above ↦ last d x (omega (arith, lt, above)) driven some
  ];
}
  where
    last : (d : ℕ) (x : Def) → d ≡ n → IsDriven p d x → 0 < slice_index demands d → 0 < slice_index new d
    last d x same driven some =
        let P : ℕ → Type 0 = λ i. IsDriven p i x × (0 < slice_index demands i) in
        let h : P n = subst P same (driven, some) in
        let Q : ℕ → Type 0 = λ i. 0 < slice_index new i in
        subst Q (sym same) (here x h.0 h.1)

pub widened_more : (p : Program) (demands old new : List ℕ) (n : ℕ) (x : Def) → Widened p demands n old new
    → IsDriven p n x → 0 < slice_index demands n → n < length new
    → Widened p demands (n + 1) old (slice_set new n 1)
widened_more p demands old new n x w driven some inside = record {
  size = length-set new n 1 ∙ w.size;
  kept = λ d h. grows d (w.kept d h);
  made = λ d h. elim (cases_eq d n) [
    | inl same ↦
        inr (let P : ℕ → Type 0 = λ i. (y : Def) × IsDriven p i y × (0 < slice_index demands i) in
        subst P (sym same) (x, driven, some))
    | inr ne ↦
        w.made d
        (let e : get_or (slice_set new n 1) d 0 ≡ get_or new d 0 = get_or-set_other new n d 1 0 ne in
        omega (arith, e, h))
  ];
  full = λ d y lt dy demand. elim (cases_lt d n) [
    | inl below ↦ grows d (w.full d y below dy demand)
    | inr above ↦ here d (omega (arith, lt, above))
  ];
}
  where
    here : (d : ℕ) → d ≡ n → 0 < get_or (slice_set new n 1) d 0
    here d same =
        let e : get_or (slice_set new n 1) d 0 ≡ 1 =
        ap (λ i. get_or (slice_set new n 1) i 0) same ∙ get_or-set_same new n 1 0 inside in omega (arith, e)

    grows : (d : ℕ) → 0 < get_or new d 0 → 0 < get_or (slice_set new n 1) d 0
    grows d h = elim (cases_eq d n) [
      | inl same ↦ here d same
      | inr ne ↦ let e : get_or (slice_set new n 1) d 0 ≡ get_or new d 0 = get_or-set_other new n d 1 0 ne in
          omega (arith, e, h)
    ]

-- one blank fewer
pub blank_filled : (xs : List ℕ) (n : ℕ) → n < length xs → slice_index xs n ≡ 0
    → blanks (slice_set xs n 1) + 1 ≡ blanks xs
blank_filled xs n lt zero = omega (arith, sum_by-set (λ (k : ℕ). 1 - k) xs n 1 0 lt, zero)

-- what has a weight is the target or has a chain to it
pub record Reaching (p : Program) (target : ℕ) (weights : List ℕ) : Type 0 where
  pub size : length weights ≡ length p.defs
  pub driven : WeighsDriven p weights
  pub start : 0 < slice_index weights target
  pub sound : (a : ℕ) → 0 < slice_index weights a → (a ≡ target) ⊎ Chain p a target

pub reaching_start : (p : Program) (target : ℕ) (x : Def) (zeros : List ℕ) → IsDriven p target x
    → zeros ≡ replicate (length p.defs) 0 → Reaching p target (slice_set zeros target 1)
reaching_start p target x zeros driven none = record {
  size = length-set zeros target 1 ∙ size;
  driven = λ d some. (x, (let P : ℕ → Type 0 = λ i. IsDriven p i x in subst P (sym (only d some)) driven));
  start = (let e : get_or (slice_set zeros target 1) target 0 ≡ 1 =
      get_or-set_same zeros target 1 0 (omega (arith, size, within p.defs target driven.0)) in omega (arith, e));
  sound = λ a some. inl (only a some);
}
  where
    size : length zeros ≡ length p.defs
    size = ap (length {A = ℕ}) none ∙ length-replicate {A = ℕ} (length p.defs) 0

    only : (d : ℕ) → 0 < get_or (slice_set zeros target 1) d 0 → d ≡ target
    only d some = elim (cases_eq d target) [
      | inl same ↦ same
      | inr ne ↦
          let e : get_or (slice_set zeros target 1) d 0 ≡ 0 =
          get_or-set_other zeros target d 1 0 ne ∙ ap (λ xs. get_or xs d 0) none ∙ zeros_at (length p.defs) d in
          absurd (omega (arith, e, some))
    ]

reader : (p : Program) (target : ℕ) (weights demands : List ℕ) → Reaching p target weights
    → AreDemands p weights demands → (a : ℕ) (x : Def) → IsDriven p a x → 0 < slice_index demands a
    → Chain p a target
reader p target weights demands r h a x driven some =
    let (b, reads, w) = h.met a x driven some in
    elim (r.sound b (omega (arith, w, some))) [
      | inl same ↦ (let P : ℕ → Type 0 = λ i. Reads p a i in link (subst P same reads))
      | inr chain ↦ more reads chain
    ]

pub reaching_more : (p : Program) (target : ℕ) (old new demands : List ℕ) → Reaching p target old
    → AreDemands p old demands → Widened p demands (length p.defs) old new → Reaching p target new
reaching_more p target old new demands r h w = record {
  size = w.size ∙ r.size;
  driven = λ d some. elim (w.made d some) [ inl was ↦ r.driven d was | inr (x, driven, demand) ↦ (x, driven) ];
  start = w.kept target r.start;
  sound = λ a some. elim (w.made a some) [
    | inl was ↦ r.sound a was
    | inr (x, driven, demand) ↦ inr (reader p target old demands r h a x driven demand)
  ];
}

pub reaching_done : (p : Program) (target : ℕ) (old new demands : List ℕ) → Reaching p target old
    → AreDemands p old demands → Widened p demands (length p.defs) old new → new ≡ old
    → AreReachers p target demands
reaching_done p target old new demands r h w still = record {
  sound = λ a x driven some. reader p target old demands r h a x driven some;
  complete = λ a chain. found a chain;
}
  where
    found : (a : ℕ) → Chain p a target → 0 < slice_index demands a
    found a (link reads) = omega (arith, h.bound a target reads, r.start)
    found a (more {b = b} reads chain) =
        let (x, y, xa, yb, dx, dy, any) = reads in
        let some : 0 < slice_index new b = w.full b y (within p.defs b yb) (yb, dy) (found b chain) in
        let P : List ℕ → Type 0 = λ xs. 0 < slice_index xs b in
        let was : 0 < slice_index old b = subst P still some in
        omega (arith, h.bound a b reads, was)
