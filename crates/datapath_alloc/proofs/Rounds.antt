-- How far a path is made, when one cell more has its latch or its next value; and the room that there is.
use Rattle.std.proofs.Common.{◌≡◌, ℕ, zero, suc, ◌+◌, ◌*◌, ◌<◌, ◌≤◌, List, [], ◌∷◌, Option, Some, None, Bool, true}
use Rattle.std.proofs.Common.{false, length, take, refl, sym, ◌∙◌, ap, subst, arith}
use Rattle.datapath_making.specs.Growing.{IsUnfed}
use Rattle.std.specs.Prelude.{IsSome, ◌&&◌, ◌||◌, if◌then◌else◌, slice_get}
use Rattle.std.specs.List.{list_any}
use Rattle.std.specs.Option.{option_map_or}
use Rattle.std.proofs.lemmas.Bool.{false≢true}
use Rattle.std.proofs.lemmas.Option.{none-some, same_Some}
use Rattle.std.proofs.lemmas.Map.Keys.{any_passes_from_place}
use Rattle.nor_net.specs.declared.net.NetId.{NetId}
use Rattle.nor_net.specs.declared.net.Part.{Part}
use Rattle.nor_net.proofs.Parts.{same_net}
use Rattle.rtl_form.specs.declared.rtl.Cell as cells
use Rattle.rtl_form.specs.declared.rtl.CellKind.{CellKind}
use Rattle.rtl_form.specs.declared.rtl.CellKind.TheVariants as kinds
use Rattle.rtl_form.specs.declared.rtl.Rtl.{Rtl}
use Rattle.mp_base.specs.Entries.{IsAt}
use Rattle.mp_base.proofs.Entries.{one_entry}
use Rattle.mp_base.proofs.Tests.{or_false, or_group, or_true, if_at_most_one}
use Rattle.rtl_form.specs.Environment.{is_driven, is_stored}
use Rattle.control_nor.specs.declared.names.Names.{Names}
use Rattle.task_schedule.specs.declared.task.Task.{Task}
use Rattle.control_nor.specs.Lowering.{Stands}
use Rattle.path_values.specs.Allocated.{transfers_to, StoredWord}
use Rattle.datapath_making.specs.declared.making.Making.{Making}
use Rattle.datapath_making.specs.Sizes.{HasRoom, cast_cost}
use Rattle.datapath_making.specs.Steps.{IsNextMade, IsPortMade, IsSlaveMade, IsStep, IsWaiting}
use Rattle.datapath_making.proofs.Lists.{set_keeps}
use Rattle.datapath_alloc.specs.Progress.{AreCellsMade, IsProgress, IsWordOf}
use Rattle.datapath_alloc.specs.Spending.{clear_cost, first_cost, is_stored_word, next_cost, next_crossings}
use Rattle.bit_gates.specs.Cells.{latch_cost}
use Rattle.datapath_alloc.specs.Spending.{task_cost, writes}
use Rattle.datapath_alloc.proofs.Costs.{all_spent, spent_below, stored_word, sum_next}
use Rattle.datapath_alloc.proofs.Keeping.{Keeps}
use Rattle.datapath_alloc.proofs.CellSteps.{next_more, no_latch, no_next, port_more, slave_more}
use Rattle.datapath_alloc.proofs.Reaching.{free_first, free_pad}
use Rattle.datapath_alloc.proofs.Steps.{begun_kept, exprs_kept, spent_more, spent_within}
use Rattle.datapath_alloc.proofs.TaskSteps.{keeps_all}

-- ---- latches

module _ (r : Rtl) (bits : List Part) (names : Names) (old new : Making) (i : ℕ)
    (p : IsProgress r bits names i 0 0 old) where
  latch_step : (x : cells.Cell) (c : ℕ) → IsAt r.cells i x → x.word ≡ true → c ≤ latch_cost x.kind → IsStep c 0 old new
      → AreCellsMade r names (suc i) 0 0 new → Keeps old new → new.words ≡ old.words → new.lifts ≡ old.lifts
      → IsProgress r bits names (suc i) 0 0 new
  latch_step x c at word lc step made k ws ls = record {
    given = p.given;
    begun = begun_kept r bits names old new p.begun step.grows step.made;
    cells = made;
    exprs = exprs_kept r names old new k 0 ws ls p.exprs;
    spends =
        let pays : first_cost r i ≡ latch_cost x.kind
        = ap (λ o. option_map_or (λ (y : cells.Cell). if y.word then latch_cost y.kind else 0) o 0)
        at ∙ ap (λ b. if b then latch_cost x.kind else 0) word in
        spent_within _ _ _ _ new (omega (arith, pays, lc)) (omega arith)
        (spent_more _ _ c 0 old new p.spends step.spends);
    cleared = λ e. absurd (false≢true e);
  }

  pub port_done : (k : ℕ) → IsWordOf r i (kinds.Input k) → IsStep 2 0 old new → IsPortMade i k old new
      → IsProgress r bits names (suc i) 0 0 new
  port_done k w step made =
      let free = free_first r bits names p.given.sound p.given.lowered old i 0 0 w.0 w.1 (ap is_driven w.2) p.begun
      p.cells in
      let clear = free_pad r bits names p.given.sound p.given.lowered old i 0 0 k w p.begun p.cells in
      let keeps : Keeps old new = record {
        grows = step.grows;
        cells = λ c o h. subst (λ es. Stands es c o) (sym made.cells) (set_keeps old.cell_words i made.id c o free h);
        words = λ e o h. subst (λ es. Stands es e o) (sym made.words) h;
        pads = λ n o h. subst (λ es. Stands es n o) (sym made.pads) (set_keeps old.pads k made.pad n o clear h);
      } in
      latch_step w.0 2 w.1 w.3 (let e = ap latch_cost w.2 in omega (arith, e)) step
      (port_more r names old new keeps i k 0 w free clear made p.cells) keeps made.words made.lifts

  pub slave_done : IsWordOf r i kinds.Stored → IsStep 2 0 old new → IsSlaveMade i old new
      → IsProgress r bits names (suc i) 0 0 new
  slave_done w step made =
      let free = free_first r bits names p.given.sound p.given.lowered old i 0 0 w.0 w.1 (ap is_driven w.2) p.begun
      p.cells in
      let keeps : Keeps old new = record {
        grows = step.grows;
        cells = λ c o h. subst (λ es. Stands es c o) (sym made.cells) (set_keeps old.cell_words i made.id c o free h);
        words = λ e o h. subst (λ es. Stands es e o) (sym made.words) h;
        pads = λ n o h. subst (λ es. Stands es n o) (sym made.pads) h;
      } in
      latch_step w.0 2 w.1 w.3 (let e = ap latch_cost w.2 in omega (arith, e)) step
      (slave_more r names old new keeps i 0 w free made p.cells) keeps made.words made.lifts

-- a cell that is a bit, or driven
pub no_latch_done : (r : Rtl) (bits : List Part) (names : Names) (m : Making) (i : ℕ)
    → IsProgress r bits names i 0 0 m → ((k : ℕ) → IsWordOf r i (kinds.Input k) → ⊥) → (IsWordOf r i kinds.Stored → ⊥)
    → IsProgress r bits names (suc i) 0 0 m
no_latch_done r bits names m i p ports none = record {
  given = p.given;
  begun = p.begun;
  cells = no_latch r names m i 0 ports none p.cells;
  exprs = p.exprs;
  spends = spent_within _ _ _ _ m (omega arith) (omega arith) p.spends;
  cleared = p.cleared;
}

-- ---- next values

-- a word that is stored
pub stored_parts : (r : Rtl) (c : ℕ) (x : cells.Cell) → IsAt r.cells c x → is_stored_word x ≡ true
    → IsWordOf r c kinds.Stored
stored_parts r c x at e = let p = parts x.word x.kind e in (x, at, p.1, p.0)
  where
    parts : (w : Bool) (kind : CellKind) → (w && is_stored kind) ≡ true → (w ≡ true) × (kind ≡ kinds.Stored)
    parts true (kinds.Input k) e = absurd (false≢true e)
    parts true (kinds.Output k) e = absurd (false≢true e)
    parts true kinds.Inner e = absurd (false≢true e)
    parts true kinds.Stored e = (refl, refl)
    parts false kind e = absurd (false≢true e)

module _ (r : Rtl) (j : ℕ) (w : IsWordOf r j kinds.Stored) where
  pub next_pays : next_cost r j ≡ 5 + 4 * writes r j
  next_pays = ap (λ o. option_map_or (λ (y : cells.Cell). if y.word then (if is_stored y.kind then 5 + 4 * writes r j
      else 0) else 0) o 0) w.1
      ∙ (ap (λ b. if b then (if is_stored w.0.kind then 5 + 4 * writes r j else 0) else 0) w.3
      ∙ ap (λ k. if is_stored k then 5 + 4 * writes r j else 0) w.2)

  next_crosses : next_crossings r j ≡ writes r j
  next_crosses = ap (λ o. option_map_or (λ (y : cells.Cell). if y.word then (if is_stored y.kind then writes r j
      else 0) else 0) o 0) w.1
      ∙ (ap (λ b. if b then (if is_stored w.0.kind then writes r j else 0) else 0) w.3
      ∙ ap (λ k. if is_stored k then writes r j else 0) w.2)

take_any : {X : Type 0} (f : X → Bool) (xs : List X) (j : ℕ) (x : X) → slice_get xs j ≡ Some x
    → list_any f (take (suc j) xs) ≡ (list_any f (take j xs) || f x)
take_any f [] j x e = absurd (none-some x e)
take_any f (y ∷ ys) zero x e = or_false (f y) ∙ ap f (same_Some y x e)
take_any f (y ∷ ys) (suc j) x e = ap (λ b. f y || b) (take_any f ys j x e) ∙ or_group (f y) _ (f x)

module _ (r : Rtl) (bits : List Part) (names : Names) (old new : Making) (i t j : ℕ)
    (p : IsProgress r bits names i t j old) where
  pub next_done : (reset : ℕ) → IsWordOf r j kinds.Stored → r.reset ≡ Some reset
      → IsStep (5 + 4 * length (transfers_to r j) + cast_cost old.clear)
      (length (transfers_to r j) + cast_cost old.clear) old new
      → IsNextMade r j reset old new → IsProgress r bits names i t (suc j) new
  next_done reset w is step made = record {
    given = p.given;
    begun = begun_kept r bits names old new p.begun step.grows step.made;
    cells = next_more r names old new keeps i t j store made.cells made.pads waits unfed p.cells;
    exprs = exprs_kept r names old new keeps t made.words made.lifts p.exprs;
    spends = spent_within _ _ _ _ new (let a = next_pays r j w in let b = clears in omega (arith, a, b))
        (let a = next_crosses r j w in let b = clears in omega (arith, a, b))
        (spent_more _ _ _ _ old new p.spends step.spends);
    cleared = λ e. made.clear;
  }
    where
      keeps : Keeps old new
      keeps = keeps_all old new step.grows made.cells made.words made.pads

      store : (n : ℕ) → IsWordOf r j kinds.Stored → r.reset ≡ Some n
          → (id : NetId) × Stands new.cell_words j id
          × StoredWord r new.slices new.casts names new.words j n id
      store n other e = (
        made.id,
        subst (λ es. Stands es j made.id) (sym made.cells) made.is_id,
        subst (λ k. StoredWord r new.slices new.casts names new.words j k made.id)
            (same_Some reset n (sym is ∙ e))
            (subst (λ ws. StoredWord r new.slices new.casts names ws j reset made.id)
            (sym made.words)
            (subst (λ k. StoredWord r new.slices new.casts k old.words j reset
            made.id) p.begun.names made.is_word)),
      )

      waits : (c : ℕ) (id : NetId) → suc j ≤ c → Stands old.cell_words c id → IsWaiting old.slices.net id
          → IsWaiting new.slices.net id
      waits c id l s h = record {
        slave = h.slave;
        behind = h.behind;
        is_slave = made.others h.slave.0 _ (λ q.
            let a = h.behind in let b = made.behind in
            let same : id ≡ made.id = same_net id made.id (omega (arith, a, b, q)) in
            let d = p.begun.made.named.cells_apart c j made.id (subst (Stands old.cell_words c) same s) made.is_id in
            omega (arith, d, l)) h.is_slave;
        is_word = step.grows.parts id.0 _ h.is_word refl;
      }

      unfed : (n : ℕ) → IsUnfed new.slices.net n
          → IsUnfed old.slices.net n
          × ((id : NetId) → IsWordOf r j kinds.Stored → Stands old.cell_words j id → id.0 ≡ suc n → ⊥)
      unfed n u = (
        (made.unfed n u).0,
        λ id other s q.
            let same : id ≡ made.id = same_Some id made.id (same_Some (Some id) (Some made.id) (sym s ∙ made.is_id)) in
            let a = ap (λ (i : NetId). i.0) same in
            let b = made.behind in
            (made.unfed n u).1 (omega (arith, a, b, q)),
      )

      -- the cast of reset is paid for once
      clears : clear_cost r j + cast_cost old.clear ≤ clear_cost r (suc j)
      clears = by_test (list_any is_stored_word (take j r.cells)) refl
        where
          now : (b : Bool) → list_any is_stored_word (take j r.cells) ≡ b → clear_cost r (suc j) ≡ 1
          now b e = ap (λ b. if b then 1 else 0) (take_any is_stored_word r.cells j w.0 w.1
              ∙ (ap (λ c. list_any is_stored_word (take j r.cells) || c)
              (ap (λ b. b && is_stored w.0.kind) w.3 ∙ ap is_stored w.2)
              ∙ or_true (list_any is_stored_word (take j r.cells))))

          cast_one : (o : Option NetId) → cast_cost o ≤ 1
          cast_one None = omega arith
          cast_one (Some id) = omega arith

          cast_none : (o : Option NetId) → IsSome o → cast_cost o ≡ 0
          cast_none None h = absurd (false≢true h)
          cast_none (Some id) h = refl

          by_test : (b : Bool) → list_any is_stored_word (take j r.cells) ≡ b
              → (if b then 1 else 0) + cast_cost old.clear ≤ clear_cost r (suc j)
          by_test true e =
              let n = now true e in let z = cast_none old.clear (p.cleared e) in omega (arith, n, z)
          by_test false e = let n = now false e in let z = cast_one old.clear in omega (arith, n, z)

-- ---- cells that are no stored words

pub no_next_done : (r : Rtl) (bits : List Part) (names : Names) (m : Making) (i t j : ℕ) (x : cells.Cell)
    → IsProgress r bits names i t j m → IsAt r.cells j x → is_stored_word x ≡ false
    → IsProgress r bits names i t (suc j) m
no_next_done r bits names m i t j x p at none = record {
  given = p.given;
  begun = p.begun;
  cells = no_next r names m i t j (suc j) (omega arith) (λ c a b w. false≢true (sym (stored_not c a b w) ∙ stored c w))
      p.cells;
  exprs = p.exprs;
  spends = spent_within _ _ _ _ m (let c = clear_same in omega (arith, c)) (let c = clear_same in omega (arith, c))
      p.spends;
  cleared = λ e. p.cleared (sym any_same ∙ e);
}
  where
    any_same : list_any is_stored_word (take (suc j) r.cells) ≡ list_any is_stored_word (take j r.cells)
    any_same = take_any is_stored_word r.cells j x at
        ∙ (ap (λ b. list_any is_stored_word (take j r.cells) || b) none ∙ or_false _)

    clear_same : clear_cost r (suc j) ≡ clear_cost r j
    clear_same = ap (λ b. if b then 1 else 0) any_same

    stored : (c : ℕ) (w : IsWordOf r c kinds.Stored) → is_stored_word w.0 ≡ true
    stored c w = ap (λ b. b && is_stored w.0.kind) w.3 ∙ ap is_stored w.2

    stored_not : (c : ℕ) → j ≤ c → c < suc j → (w : IsWordOf r c kinds.Stored) → is_stored_word w.0 ≡ false
    stored_not c a b w =
        let e : c ≡ j = omega (arith, a, b) in
        ap is_stored_word (one_entry r.cells j w.0 x (subst (λ n. IsAt r.cells n w.0) e w.1) at) ∙ none

-- where nothing resets, nothing is stored
pub no_reset_done : (r : Rtl) (bits : List Part) (names : Names) (m : Making) (i t : ℕ) → r.reset ≡ None
    → IsProgress r bits names i t 0 m → IsProgress r bits names i t (length r.cells) m
no_reset_done r bits names m i t none p = record {
  given = p.given;
  begun = p.begun;
  cells = no_next r names m i t 0 (length r.cells) (omega arith) (λ c a b w. not_stored c w) p.cells;
  exprs = p.exprs;
  spends = spent_within _ _ _ _ m (omega arith) (omega arith) p.spends;
  cleared = λ e. let s = stored_word r e in
      absurd (not_stored s.0 (s.1, s.2, s.4, s.3));
}
  where
    not_stored : (c : ℕ) → IsWordOf r c kinds.Stored → ⊥
    not_stored c w = false≢true (subst IsSome none (p.given.sound.resets
        (any_passes_from_place (λ (x : cells.Cell). is_stored x.kind) r.cells c w.0 w.1
        (ap is_stored w.2))))

-- ---- room

module _ (r : Rtl) (bits : List Part) (names : Names) (m : Making) where
  -- there is room for what costs little
  pub room : (i t j c : ℕ) → i ≤ length r.cells → j ≤ length r.cells → c ≤ 13
      → IsProgress r bits names i t j m → HasRoom c m
  room i t j c li lj lc p =
      let a = spent_below r p.given.sound names.tasks p.given.lowered.placed.schedule i t j li lj in
      let b = all_spent r p.given.sound names.tasks p.given.lowered.placed.schedule in
      let l = p.given.light in
      record {
        nets = let n = p.spends.nets in omega (arith, n, a, b, l, lc);
        inputs = let n = p.spends.inputs in omega (arith, n, a, b, l, lc);
      }

  -- and for the next task
  pub room_task : (t c : ℕ) (task : Task) → slice_get names.tasks t ≡ Some task → c ≤ task_cost r task
      → IsProgress r bits names (length r.cells) t 0 m → HasRoom c m
  room_task t c task is lc p =
      let a = spent_below r p.given.sound names.tasks p.given.lowered.placed.schedule (length r.cells) (suc t) 0
      (omega arith) (omega arith) in
      let b = all_spent r p.given.sound names.tasks p.given.lowered.placed.schedule in
      let s = sum_next (task_cost r) names.tasks t task is in
      let l = p.given.light in
      record {
        nets = let n = p.spends.nets in omega (arith, n, a, b, s, l, lc);
        inputs = let n = p.spends.inputs in omega (arith, n, a, b, s, l, lc);
      }

  -- and for the next value of a cell
  pub room_next : (i t j c : ℕ) → i ≤ length r.cells → j < length r.cells → c ≤ suc (next_cost r j)
      → IsProgress r bits names i t j m → HasRoom c m
  room_next i t j c li lj lc p =
      let a = spent_below r p.given.sound names.tasks p.given.lowered.placed.schedule i t (suc j) li (omega arith) in
      let b = all_spent r p.given.sound names.tasks p.given.lowered.placed.schedule in
      let one = if_at_most_one (list_any is_stored_word (take j r.cells)) in
      let l = p.given.light in
      record {
        nets = let n = p.spends.nets in omega (arith, n, a, b, one, l, lc);
        inputs = let n = p.spends.inputs in omega (arith, n, a, b, one, l, lc);
      }
