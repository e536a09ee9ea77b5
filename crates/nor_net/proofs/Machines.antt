-- What a clock does to stored bits.
use Rattle.std.proofs.Common.{◌≡◌, [], ◌∷◌, Option, Some, None, Bool, true, false, cond, refl, sym, ◌∙◌, ap, subst}
use Rattle.mp_base.specs.declared.value.Trit.{Trit}
use Rattle.mp_base.specs.declared.value.Trit.TheVariants.{One}
use Rattle.nor_net.specs.declared.net.Phase.{Phase}
use Rattle.nor_net.specs.declared.net.Phase.TheVariants.{A, B, C}
use Rattle.nor_net.specs.Elements.{Spot, Given, Nor, Latched, Nets}
use Rattle.nor_net.specs.Settled.{Setting, nor_value, IsSolution}
use Rattle.nor_net.specs.Clock.{IsClockBy}
use Rattle.nor_net.specs.Laws.{bit}
use Rattle.nor_net.specs.Machine.{Store, IsStore, HoldsState, HoldsInputs, HasNext, ClockSteps, ResetClears}

off_bit : (b : Bool) → nor_value (bit b ∷ []) ≡ bit (cond b false true)
off_bit true = refl
off_bit false = refl

-- a solution as another function with the same values
solved_too : (s : Setting) (v w : Spot → Trit) → IsSolution s v → ((n : Spot) → w n ≡ v n) → IsSolution s w
solved_too s v w solved same = let path : v ≡ w = λ i n. sym (same n) i in subst (IsSolution s) path solved

module _ (nets : Nets) (given before shown after : Spot → Trit) where
  abbrev setting : Option Phase → (Spot → Trit) → Setting
  setting phase values = record { nets = nets; phase = phase; given = given; before = values }

  -- the values in the settings of a clock: `shown` is in the second, and `after` in the last
  record Settings : Type 0 where
    at_c : Spot → Trit
    at_a : Spot → Trit
    past_a : Spot → Trit
    at_b : Spot → Trit
    solved_c : IsSolution (setting (Some C) before) at_c
    solved_shown : IsSolution (setting None at_c) shown
    solved_a : IsSolution (setting (Some A) shown) at_a
    solved_past_a : IsSolution (setting None at_a) past_a
    solved_b : IsSolution (setting (Some B) past_a) at_b
    solved_after : IsSolution (setting None at_b) after

  settings_of : IsClockBy IsSolution nets given before shown after → Settings
  settings_of clock =
      let (at_c, solved_c, (second, solved_second, is_shown)) = clock.until in
      let (at_a, solved_a, (past_a, solved_past_a, (at_b, solved_b, (last, solved_last, is_after)))) = clock.rest in
      record {
        at_c = at_c;
        at_a = at_a;
        past_a = past_a;
        at_b = at_b;
        solved_c = solved_c;
        solved_shown = solved_too (setting None at_c) second shown solved_second is_shown;
        solved_a = solved_a;
        solved_past_a = solved_past_a;
        solved_b = solved_b;
        solved_after = solved_too (setting None at_b) last after solved_last is_after;
      }

module _ (nets : Nets) (given before shown after : Spot → Trit) (run : Settings nets given before shown after) where
  -- a latch of phase B keeps its value up to phase B
  slave_shown : (n m : Spot) → nets n ≡ Some (Latched B m) → shown n ≡ before n
  slave_shown n m e = run.solved_shown n (Latched B m) e ∙ run.solved_c n (Latched B m) e

  slave_at_a : (n m : Spot) → nets n ≡ Some (Latched B m) → run.at_a n ≡ before n
  slave_at_a n m e = run.solved_a n (Latched B m) e ∙ slave_shown n m e

  -- a latch of phase C has what its pad is given
  latch_shown : (n m : Spot) → nets n ≡ Some (Latched C m) → nets m ≡ Some Given → shown n ≡ given m
  latch_shown n m e f =
      run.solved_shown n (Latched C m) e ∙ run.solved_c n (Latched C m) e ∙ run.solved_c m Given f

  latch_at_a : (n m : Spot) → nets n ≡ Some (Latched C m) → nets m ≡ Some Given → run.at_a n ≡ given m
  latch_at_a n m e f = run.solved_a n (Latched C m) e ∙ latch_shown n m e f

  -- the slave after the clock is the negation of the data at phase A
  slave_after : (b : Store) → IsStore nets b → (x : Bool) → run.at_a b.source ≡ bit x
      → after b.slave ≡ bit (cond x false true)
  slave_after b is x e =
      let taken : run.at_a b.master ≡ bit x = run.solved_a b.master (Latched A b.source) is.master ∙ e in
      let kept : run.past_a b.master ≡ bit x = run.solved_past_a b.master (Latched A b.source) is.master ∙ taken in
      let still : run.at_b b.master ≡ bit x = run.solved_b b.master (Latched A b.source) is.master ∙ kept in
      let turned : run.at_b b.negation ≡ bit (cond x false true) =
      run.solved_b b.negation (Nor (b.master ∷ [])) is.negation ∙ ap (λ t. nor_value (t ∷ [])) still ∙ off_bit x in
      let passed : run.at_b b.slave ≡ bit (cond x false true) =
      run.solved_b b.slave (Latched B b.negation) is.slave ∙ turned in
      run.solved_after b.slave (Latched B b.negation) is.slave ∙ passed

pub clock_steps : ClockSteps
clock_steps nets stores ports are_stores are_ports values before shown after clock state inputs next holds
    given_inputs told =
    let run = settings_of nets values before shown after clock in
    let state_shown : HoldsState stores state shown = λ c k b e.
    slave_shown nets values before shown after run b.slave b.negation (are_stores c k b e).slave ∙ holds c k b e in
    let inputs_shown : HoldsInputs ports inputs shown = λ c k p e.
    latch_shown nets values before shown after run p.latch p.pad (are_ports c k p e).latch (are_ports c k p e).pad
    ∙ given_inputs c k p e in
    let state_a : HoldsState stores state run.at_a = λ c k b e.
    slave_at_a nets values before shown after run b.slave b.negation (are_stores c k b e).slave ∙ holds c k b e in
    let inputs_a : HoldsInputs ports inputs run.at_a = λ c k p e.
    latch_at_a nets values before shown after run p.latch p.pad (are_ports c k p e).latch (are_ports c k p e).pad
    ∙ given_inputs c k p e in
    let fed : HasNext stores next run.at_a =
    told (setting nets values before shown after (Some A) shown) run.at_a refl run.solved_a (state_a, inputs_a) in (
      (setting nets values before shown after None run.at_c, refl, run.solved_shown),
      state_shown,
      inputs_shown,
      λ c k b e. slave_after nets values before shown after run b (are_stores c k b e) (next c k) (fed c k b e),
    )

pub reset_clears : ResetClears
reset_clears nets stores reset are_stores is_port values before shown after clock high told =
    let run = settings_of nets values before shown after clock in
    let one : run.at_a reset.latch ≡ One =
    latch_at_a nets values before shown after run reset.latch reset.pad is_port.latch is_port.pad ∙ high in
    let fed : HasNext stores (λ c k. false) run.at_a =
    told (setting nets values before shown after (Some A) shown) run.at_a refl run.solved_a one in
    λ c k b e. slave_after nets values before shown after run b (are_stores c k b e) false (fed c k b e)
