-- Where no definition reads itself through a chain, there is an order of evaluation.
use Rattle.std.proofs.Common.{◌≡◌, ◌⊎◌, inl, inr, ℕ, zero, suc, ◌+◌, ◌<◌, ◌≤◌, List, [], ◌∷◌, true, false, replicate}
use Rattle.std.proofs.Common.{refl, sym, ◌∙◌, ap, subst, length, arith}
use Rattle.std.specs.Prelude.{slice_index, slice_set, slice_get, Some}
use Rattle.std.specs.List.{insert, list_any}
use Rattle.std.proofs.lemmas.Bool.{cases_lt, cases_Bool}
use Rattle.std.proofs.lemmas.Option.{same_Some, slice_get_within}
use Rattle.mp_base.specs.declared.refusal.Place.{Place}
use Rattle.mp_base.proofs.Decisions.{Decided}
use Rattle.mp_base.proofs.Entries.{within, some_entry, one_entry}
use Rattle.mp_program.specs.declared.program.Def.{Def}
use Rattle.mp_program.specs.declared.program.Program.{Program}
use Rattle.mp_program.specs.Names.{is_driven}
use Rattle.mp_program.specs.Sound.{IsSound}
use Rattle.mp_program.specs.Reads.{Reads, Chain, link, more, IsOrder, form_reads, roots}
use Rattle.mp_rules.specs.Rules.{E33}
use Rattle.mp_order.specs.Demands.{IsDriven, root}
use Rattle.mp_order.specs.Chains.{AreReachers, Placed}
use Rattle.mp_order.proofs.Mentions.{any_of}
use Rattle.mp_program.proofs.Definitions.{same_is}
use Rattle.mp_order.proofs.Marks.{marked_inside}
use Rattle.mp_order.proofs.Reading.{SetsLaw, ReadsLaw, read_down}
use Rattle.mp_order.proofs.Closing.{start_driven, join}
use Rattle.mp_order.proofs.Ordering.{Ordering, ordering_start, ordering_skip, ordering_closed, ordering_placed}
use Rattle.mp_order.proofs.Ordering.{ordering_done}
use Rattle.mp_order.proofs.Paths.{Path, path_decided, path_more, path_joined}

-- ---- numbers that tell of which indices something holds

abbrev Flags : (ℕ → Type 0) → ℕ → List ℕ → Type 0
Flags P n flags = ((k : ℕ) → k < n → P k → 0 < slice_index flags k) × ((k : ℕ) → 0 < slice_index flags k → P k)

flags_of : (n : ℕ) (P : ℕ → Type 0) → ((k : ℕ) → Decided (P k)) → (flags : List ℕ) × Flags P n flags
flags_of zero P known = ([], ((λ k lt. absurd (omega (arith, lt))), (λ k some. absurd (omega (arith, some)))))
flags_of (suc n) P known = by (known 0) (flags_of n (λ k. P (suc k)) (λ k. known (suc k)))
  where
    by : Decided (P 0) → (flags : List ℕ) × Flags (λ k. P (suc k)) n flags → (flags : List ℕ) × Flags P (suc n) flags
    by (inl present) (flags, (all, only)) = (1 ∷ flags, (above, below))
      where
        above : (k : ℕ) → k < suc n → P k → 0 < slice_index (1 ∷ flags) k
        above zero lt h = omega arith
        above (suc k) lt h = all k (omega (arith, lt)) h

        below : (k : ℕ) → 0 < slice_index (1 ∷ flags) k → P k
        below zero some = present
        below (suc k) some = only k some
    by (inr absent) (flags, (all, only)) = (0 ∷ flags, (above, below))
      where
        above : (k : ℕ) → k < suc n → P k → 0 < slice_index (0 ∷ flags) k
        above zero lt h = absurd (absent h)
        above (suc k) lt h = all k (omega (arith, lt)) h

        below : (k : ℕ) → 0 < slice_index (0 ∷ flags) k → P k
        below zero some = absurd (omega (arith, some))
        below (suc k) some = only k some

-- ---- chains

module _ (p : Program) where
  reads_decided : (a b : ℕ) → Decided (Reads p a b)
  reads_decided a b = by (cases_lt a (length p.defs)) (cases_lt b (length p.defs))
    where
      by : (a < length p.defs) ⊎ (length p.defs ≤ a) → (b < length p.defs) ⊎ (length p.defs ≤ b) → Decided (Reads p a b)
      by (inr past) right = inr (λ (x, y, xa, yb, dx, dy, any).
          let al = slice_get_within p.defs a x xa in omega (arith, al, past))
      by (inl al) (inr past) = inr (λ (x, y, xa, yb, dx, dy, any).
          let bl = slice_get_within p.defs b y yb in omega (arith, bl, past))
      by (inl al) (inl bl) =
          let (x, xa) = some_entry p.defs a al in
          let (y, yb) = some_entry p.defs b bl in
          test x y xa yb (cases_Bool (is_driven x.what)) (cases_Bool (is_driven y.what))
          (cases_Bool (list_any (form_reads p x.name y.name) (roots p)))
        where
          test : (x y : Def) → slice_get p.defs a ≡ Some x → slice_get p.defs b ≡ Some y → (is_driven x.what ≡ true)
              ⊎ (is_driven x.what ≡ false)
              → (is_driven y.what ≡ true) ⊎ (is_driven y.what ≡ false)
              → (list_any (form_reads p x.name y.name) (roots p) ≡ true)
              ⊎ (list_any (form_reads p x.name y.name) (roots p) ≡ false) → Decided (Reads p a b)
          test x y xa yb (inl dx) (inl dy) (inl any) = inl (x, y, xa, yb, dx, dy, any)
          test x y xa yb (inr still) dy any = inr (λ (z, w, za, wb, dz, dw, other).
              let e = ap (λ (u : Def). is_driven u.what) (same_Some x z (sym xa ∙ za)) in cc)
          test x y xa yb dx (inr still) any = inr (λ (z, w, za, wb, dz, dw, other).
              let e = ap (λ (u : Def). is_driven u.what) (same_Some y w (sym yb ∙ wb)) in cc)
          test x y xa yb dx dy (inr none) = inr (λ (z, w, za, wb, dz, dw, other).
              let e = ap (λ (u : Def). list_any (form_reads p u.name y.name) (roots p))
              (same_Some x z (sym xa ∙ za)) in
              let g = ap (λ (u : Def). list_any (form_reads p z.name u.name) (roots p))
              (same_Some y w (sym yb ∙ wb)) in cc)

  path_chain : (k a b : ℕ) → Path (Reads p) k a b → Chain p a b
  path_chain zero a b reads = link reads
  path_chain (suc k) a b (inl path) = path_chain k a b path
  path_chain (suc k) a b (inr (to, from)) = join p a k b (path_chain k a k to) (path_chain k k b from)

  chain_path : (a b : ℕ) → Chain p a b → Path (Reads p) (length p.defs) a b
  chain_path a b (link reads) = path_more (Reads p) (length p.defs) a b reads
  chain_path a b (more {b = c} reads chain) =
      path_joined (Reads p) (length p.defs) c a b (end a c reads) (path_more (Reads p) (length p.defs) a c reads)
      (chain_path c b chain)
    where
      end : (a c : ℕ) → Reads p a c → c < length p.defs
      end a c (x, y, xa, yc, dx, dy, any) = slice_get_within p.defs c y yc

  pub chain_decided : (a b : ℕ) → Decided (Chain p a b)
  chain_decided a b = elim (path_decided (Reads p) reads_decided (length p.defs) a b) [
    | inl path ↦ inl (path_chain (length p.defs) a b path)
    | inr none ↦ inr (λ chain. none (chain_path a b chain))
  ]

  reachers_exist : (target : ℕ) → (reach : List ℕ) × AreReachers p target reach
  reachers_exist target =
      let (reach, (all, only)) = flags_of (length p.defs) (λ a. Chain p a target) (λ a. chain_decided a target) in (
        reach,
        record {
          sound = λ a x driven some. only a some;
          complete = λ a chain. (let (x, driven) = start_driven p a target chain in
              all a (within p.defs a driven.0) chain);
        },
      )

  -- ---- orders

  -- where the first of a list is that has a flag, or the list's end
  first_flag : (flags xs : List ℕ) → (at : ℕ) × (at ≤ length xs)
      × ((k : ℕ) → k < at → slice_index flags (slice_index xs k) ≡ 0)
      × (at < length xs → 0 < slice_index flags (slice_index xs at))
  first_flag flags [] = (0, omega arith, (λ k lt. absurd (omega (arith, lt))), (λ lt. absurd (omega (arith, lt))))
  first_flag flags (x ∷ xs) = by (cases_lt 0 (slice_index flags x)) (first_flag flags xs)
    where
      by : (0 < slice_index flags x) ⊎ (slice_index flags x ≤ 0)
          → (at : ℕ) × (at ≤ length xs) × ((k : ℕ) → k < at → slice_index flags (slice_index xs k) ≡ 0)
          × (at < length xs → 0 < slice_index flags (slice_index xs at))
          → (at : ℕ) × (at ≤ length (x ∷ xs)) × ((k : ℕ) → k < at → slice_index flags (slice_index (x ∷ xs) k) ≡ 0)
          × (at < length (x ∷ xs) → 0 < slice_index flags (slice_index (x ∷ xs) at))
      by (inl some) rest = (0, omega arith, (λ k lt. absurd (omega (arith, lt))), (λ lt. some))
      by (inr none) (at, le, before, here) = (suc at, omega (arith, le), earlier, (λ lt. here (omega (arith, lt))))
        where
          earlier : (k : ℕ) → k < suc at → slice_index flags (slice_index (x ∷ xs) k) ≡ 0
          earlier zero lt = omega (arith, none)
          earlier (suc k) lt = before k (omega (arith, lt))

  ordering_step : (n : ℕ) (closed order : List ℕ) → n < length p.defs → Ordering p n closed order
      → (more_closed longer : List ℕ) × Ordering p (n + 1) more_closed longer
  ordering_step n closed order lt o =
      let (x, at) = some_entry p.defs n lt in
      elim (cases_Bool (is_driven x.what)) [
        | inr still ↦ (
          closed,
          order,
          ordering_skip p n closed order o (λ y driven.
              let e = ap (λ (u : Def). is_driven u.what) (one_entry p.defs n x y at driven.0) in let t =
              driven.1 in cc),
        )
        | inl driven ↦ elim (chain_decided n n) [
          | inl chain ↦ (slice_set closed n 1, order, ordering_closed p n closed order o lt chain)
          | inr none ↦ place x at driven none
        ]
      ]
    where
      unflagged : (reach : List ℕ) (x : Def) → AreReachers p n reach → IsDriven p n x → (Chain p n n → ⊥)
          → slice_index reach n ≡ 0
      unflagged reach x r driven none = elim (cases_lt 0 (slice_index reach n))
          [ inl some ↦ absurd (none (r.sound n x driven some)) | inr le ↦ omega (arith, le) ]

      place : (x : Def) → slice_get p.defs n ≡ Some x → is_driven x.what ≡ true → (Chain p n n → ⊥)
          → (more_closed longer : List ℕ) × Ordering p (n + 1) more_closed longer
      place x is driven none =
          let (reach, r) = reachers_exist n in
          let (at, le, before, here) = first_flag reach order in
          let placed : Placed reach n order (insert order at n) = (at, le, refl, before, here) in (
            closed,
            insert order at n,
            ordering_placed p n x closed reach order (insert order at n) o (is, driven)
                r (unflagged reach x r (is, driven) none) placed,
          )

  ordering_to : (n : ℕ) → n ≤ length p.defs → (closed order : List ℕ) × Ordering p n closed order
  ordering_to zero le = (replicate (length p.defs) 0, [], ordering_start p (replicate (length p.defs) 0) refl)
  ordering_to (suc n) le =
      let (closed, order, o) = ordering_to n (omega (arith, le)) in
      let (more_closed, longer, next) = ordering_step n closed order (omega (arith, le)) o in
      let same : n + 1 ≡ suc n = omega arith in
      (more_closed, longer, subst (λ k. Ordering p k more_closed longer) same next)

  -- a definition that reads itself through a chain is set
  pub chain_broken : IsSound p → SetsLaw p → ReadsLaw p → (d : ℕ) → Chain p d d → (at : Place) × E33 p at
  chain_broken sound sets reads d chain = by chain (first chain)
    where
      first : {a b : ℕ} → Chain p a b → (c : ℕ) × Reads p a c
      first (link {b = b} r) = (b, r)
      first (more {b = b} r rest) = (b, r)

      by : Chain p d d → (c : ℕ) × Reads p d c → (at : Place) × E33 p at
      by chain (c, (x, y, xd, yc, dx, dy, any)) =
          let (r, rooted, read) = any_of (form_reads p x.name y.name) (roots p) any in
          let lt : r < length p.forms = marked_inside p sound [] r 1 (root rooted) in
          let z = some_entry p.forms r lt in
          let (g, w, name, there, v, k, wg, kind, same, marked, why) =
          read_down p sound sets reads [] x.name y.name 0 (λ e el mention. omega arith) (length p.forms) r 1 z.0
          (omega arith) z.1 (root rooted) read in
          (w.place, (g, w, name, there, v, d, x, wg, kind, xd, sym (same_is name x.name same), chain, refl))

  pub order_exists : IsSound p → SetsLaw p → ReadsLaw p → ((at : Place) → E33 p at → ⊥) → (order : List ℕ)
      × IsOrder p order
  order_exists sound sets reads unbroken =
      let (closed, order, o) = ordering_to (length p.defs) (omega arith) in (
        order,
        ordering_done p (length p.defs) closed order (omega arith) o
            (λ d some. let (at, broken) = chain_broken sound sets reads d (o.flagged d some) in unbroken at broken),
      )
