-- From any values: a reset makes the state 0, and from then on each clock steps as the transfers do.
use Rattle.std.proofs.Common.{◌≡◌, ℕ, ◌<◌, zero, suc, inl, inr, List, [], ◌∷◌, true, false, cond, length, replicate}
use Rattle.std.proofs.Common.{sym, ◌∙◌, ap, subst, arith}
use Rattle.std.proofs.lemmas.Nat.{pow_pos}
use Rattle.std.specs.Prelude.{All, ◌^◌, if◌then◌else◌, ◌==◌, slice_index_or}
use Rattle.std.specs.List.{AllZip}
use Rattle.std.specs.Int.{bit_at}
use Rattle.std.proofs.lemmas.Option.{none-some}
use Rattle.std.proofs.lemmas.Nat.Bits.{bit_at-zero}
use Rattle.mp_base.specs.declared.value.Trit.{Trit}
use Rattle.mp_base.specs.declared.value.Trit.TheVariants.{X}
use Rattle.mp_base.proofs.Entries.{zeros_at}
use Rattle.nor_net.specs.Elements.{Spot}
use Rattle.nor_net.specs.Settled.{IsSolution}
use Rattle.nor_net.specs.Clock.{IsClockBy, IsLooseTrace}
use Rattle.nor_net.specs.Laws.{bit}
use Rattle.nor_net.specs.Machine.{HoldsState}
use Rattle.nor_net.proofs.Machines.{clock_steps, reset_clears}
use Rattle.rtl_form.specs.declared.rtl.Rtl.{Rtl}
use Rattle.rtl_form.specs.Step.{zero_state, next_state, next_cells, resets}
use Rattle.rtl_form.specs.Trace.{IsTraceFrom}
use Rattle.rtl_form.specs.Trace as rtl
use Rattle.path_form.specs.declared.path.DataPath.{DataPath}
use Rattle.path_form.specs.Showing.{path_nets, HasPadValues, FitPads, ShowsTransfers}
use Rattle.path_values.specs.Realizing.{bits_of, StateFits, Realizes, RealizedShows}

no_bits : (n c k : ℕ) → bits_of (replicate n 0) c k ≡ false
no_bits n c k = ap (λ x. x == 1) (ap (λ x. bit_at x k) (zeros_at n c) ∙ bit_at-zero k)

module _ (r : Rtl) (p : DataPath) (real : Realizes r p) where
  abbrev Holds : List ℕ → (Spot → Trit) → Type 0
  Holds state v = HoldsState real.stored (bits_of state) v

  abbrev Shown : List ℕ → (Spot → Trit) → Type 0
  Shown outputs v = HasPadValues (r.pads).outputs p.outputs outputs v

  zero_fits : StateFits r (zero_state r)
  zero_fits c x is = subst (λ n. n < 2 ^ (if x.word then r.width else 1)) (sym (zeros_at (length r.cells) c))
      (pow_pos (if x.word then r.width else 1))

  -- one clock from a state that is that of the transfers
  clock : (state i o next : List ℕ) (before g s between : Spot → Trit) → FitPads (r.pads).inputs i
      → rtl.IsClock r state i o next → HasPadValues (r.pads).inputs p.inputs i g
      → IsClockBy IsSolution (path_nets p) g before s between → StateFits r state → Holds state before
      → Shown o s × Holds next between
  clock state i o next before g s between fit c given l low holds =
      let ((setting, same, solved), held, inputs_held, stepped) =
      clock_steps (path_nets p) real.stored real.ports real.are_stores real.are_ports g before s between l
      (bits_of state) (bits_of i)
      (bits_of (next_state r state i c.env)) holds (real.given_ports i g given)
      (λ st v e sol q. (real.computes state i c.env o low fit c.environment c.shown st v e sol q).1) in (
        (real.computes state i c.env o low fit c.environment c.shown setting s same solved (held, inputs_held)).0,
        subst (λ x. Holds x between) (sym c.next) stepped,
      )

  -- from a state that is that of the transfers
  synced : (state : List ℕ) (inputs outputs : List (List ℕ)) (before : Spot → Trit)
      (givens showns : List (Spot → Trit)) (after : Spot → Trit)
      → All (FitPads (r.pads).inputs) inputs → IsTraceFrom r state inputs outputs
      → AllZip (HasPadValues (r.pads).inputs p.inputs) inputs givens
      → IsLooseTrace (path_nets p) before givens showns after → StateFits r state → Holds state before
      → (k : ℕ) → k < length inputs → Shown (slice_index_or outputs k []) (slice_index_or showns k (λ n. X))
  synced state [] outputs before givens showns after fit t z l low holds k lt = absurd (omega arith)
  synced state (i ∷ is) [] before givens showns after fit t z l low holds k lt = absurd t
  synced state (i ∷ is) (o ∷ os) before [] showns after fit t z l low holds k lt = absurd z
  synced state (i ∷ is) (o ∷ os) before (g ∷ gs) [] after fit t z l low holds k lt = absurd l
  synced state (i ∷ is) (o ∷ os) before (g ∷ gs) (s ∷ ss) after fit t z l low holds zero lt =
      (clock state i o t.0 before g s l.0 (fit 0 i (omega arith)) t.1 z.0 l.1 low holds).0
  synced state (i ∷ is) (o ∷ os) before (g ∷ gs) (s ∷ ss) after fit t z l low holds (suc k) lt =
      synced t.0 is os l.0 gs ss after (λ n d e. fit (suc n) d (omega arith)) t.2 z.1 l.2
      (real.fits state i o t.0 low (fit 0 i (omega arith)) t.1)
      (clock state i o t.0 before g s l.0 (fit 0 i (omega arith)) t.1 z.0 l.1 low holds).1 k (omega arith)

  -- from any values
  from_any : (state : List ℕ) (inputs outputs : List (List ℕ)) (before : Spot → Trit)
      (givens showns : List (Spot → Trit)) (after : Spot → Trit)
      → All (FitPads (r.pads).inputs) inputs → IsTraceFrom r state inputs outputs
      → AllZip (HasPadValues (r.pads).inputs p.inputs) inputs givens
      → IsLooseTrace (path_nets p) before givens showns after
      → (j k : ℕ) → j < k → k < length inputs → resets r (slice_index_or inputs j []) ≡ true
      → Shown (slice_index_or outputs k []) (slice_index_or showns k (λ n. X))
  from_any state [] outputs before givens showns after fit t z l j k jk lt e = absurd (omega arith)
  from_any state (i ∷ is) [] before givens showns after fit t z l j k jk lt e = absurd t
  from_any state (i ∷ is) (o ∷ os) before [] showns after fit t z l j k jk lt e = absurd z
  from_any state (i ∷ is) (o ∷ os) before (g ∷ gs) [] after fit t z l j k jk lt e = absurd l
  from_any state (i ∷ is) (o ∷ os) before (g ∷ gs) (s ∷ ss) after fit t z l j zero jk lt e = absurd (omega arith)
  from_any state (i ∷ is) (o ∷ os) before (g ∷ gs) (s ∷ ss) after fit t z l zero (suc k) jk lt e =
      let c = real.clears i g z.0 e in
      let cleared : HoldsState real.stored (λ c k. false) l.0 = reset_clears
      (path_nets p) real.stored c.0 real.are_stores c.1 g before s l.0 l.1 c.2 c.3 in
      let is_zero : t.0 ≡ zero_state r = t.1.next ∙ ap (λ b.
      cond b (zero_state r) (next_cells r state t.1.env 0 r.cells)) e in
      let holds : Holds t.0 l.0 = λ c k b q. cleared c k b q
      ∙ ap (λ x. bit (cond x false true)) (sym (ap (λ x. bits_of x c k) is_zero ∙ no_bits (length r.cells) c k))
      in
      synced t.0 is os l.0 gs ss after (λ n d q. fit (suc n) d (omega arith)) t.2 z.1 l.2
      (subst (StateFits r) (sym is_zero) zero_fits) holds k (omega arith)
  from_any state (i ∷ is) (o ∷ os) before (g ∷ gs) (s ∷ ss) after fit t z l (suc j) (suc k) jk lt e =
      from_any t.0 is os l.0 gs ss after (λ n d q. fit (suc n) d (omega arith)) t.2 z.1 l.2 j k (omega arith)
      (omega arith) e

  shows : ShowsTransfers r p
  shows inputs outputs fit t before givens showns after z l k lt (inr w) =
      from_any (zero_state r) inputs outputs before givens showns after fit t z l w.0 k w.1 lt w.2
  shows inputs outputs fit t before givens showns after z l k lt (inl none) =
      synced (zero_state r) inputs outputs before givens showns after fit t z l zero_fits
      (λ c k b e. absurd (none-some b (sym (real.none none c k) ∙ e))) k lt

pub realized_shows : RealizedShows
realized_shows r p real = shows r p real
