use Rattle.std.proofs.Common.{rules, ◌-◌, ◌*◌, ◌≡◌, ◌∙◌, ◌+◌, ◌∷◌, [], ℕ, arith, sym, ap, subst, get_or, take}
use Rattle.std.proofs.Common.{take_all, length, ◌++◌, true, false}
use Rattle.std.specs.Prelude.{Some, slice_index_or}
use Rattle.std.proofs.lemmas.List.{take_more}
use Rattle.mp_base.specs.Entries.{IsAt}
use Rattle.mp_base.proofs.Entries.{entry}
use Rattle.mp_written.specs.declared.program.ExprKind.TheVariants.{Apply, Use}
use Rattle.expansion.specs.Filling.{filled, mentions, Stops}
use Rattle.expansion.specs.Templates.{AreOperandWords, IsLong, IsMade, IsOperandWord, IsReady, IsWord, usable_count}
use Rattle.expansion.proofs.Finding.{dropped_word, found_of, leaf_found, body_ready, body_same, body_there, leaf_kind}
use Rattle.expansion.proofs.Finding.{mentioned_word, number_at, number_in}
use Rattle.expansion.proofs.Finding.{falls_below, operand_behind, operand_ready, slot_made, some_function, words_more}
use Rattle.expansion.proofs.Operators.{HasGrown, grown_all, grown_more, long_operand, long_operands, ready_within}
use Rattle.expansion.proofs.Stops.{stops_weaker}
use Rattle.expansion.proofs.Uses.{long_filled, long_function, long_mentioned, use_is}
use Rattle.expansion.proofs.words.+words.Goals.{operand_words-then-as_slice-i+in_ok-word, operand_words-else-as_slice-i}
use Rattle.expansion.proofs.words.+words.Goals as goal

pub word-operator_word-requires : goal.word-operator_word-requires
word-operator_word-requires t c =
    let w = c.args.program.now in
    let lt = ready_within w c.args.meanings.now c.args.slots.now c.args.owner c.args.expr c.requires in (
      omega (arith, lt),
      (
        c.requires,
        (
          c.in-Apply.op,
          c.in-Apply.index,
          (
            c.at.result.now,
            entry w.exprs c.args.expr lt c.at.ensures,
            c.in-Apply.is ∙ ap (Apply c.in-Apply.op c.in-Apply.index) (sym c.as_slice-args.ensures),
          ),
        ),
      ),
    )

pub word-use_word-requires : goal.word-use_word-requires
word-use_word-requires t c =
    let w = c.args.program.now in
    let lt = ready_within w c.args.meanings.now c.args.slots.now c.args.owner c.args.expr c.requires in (
      omega (arith, lt),
      (
        c.requires,
        (
          c.in-Use.at,
          c.in-Use.name,
          (
            c.at.result.now,
            entry w.exprs c.args.expr lt c.at.ensures,
            c.in-Use.is ∙ ap (Use c.in-Use.at c.in-Use.name) (sym c.as_slice-args-in-Use.ensures),
          ),
        ),
      ),
    )

pub word-at-requires-in_default : goal.word-at-requires-in_default
word-at-requires-in_default t c =
    let lt = ready_within c.args.program.now c.args.meanings.now c.args.slots.now c.args.owner c.args.expr c.requires in
    let many = c.requires.meant.as_many in
    omega (arith, lt, many)

pub word-returns-in_default : goal.word-returns-in_default
word-returns-in_default t c =
    leaf_found c.args.program.now c.args.meanings.now c.args.slots.now c.args.owner c.args.expr c.requires
    c.at.result.now c.at-in_default.result.now c.at.ensures c.at-in_default.ensures
    (leaf_kind c.at.result.now.kind c.in_default.not-Apply c.in_default.not-Use) c.leaf_word.result c.leaf_word.ensures

pub operator_word-word-requires : goal.operator_word-word-requires
operator_word-word-requires t c =
    let w = c.args.program.now in
    let (op, k, kind) = c.requires.kind in
    let args = c.args.args.now in
    let a : ℕ = get_or args c.loop-arg.arg-index 0 in
    let here = number_in args c.loop-arg.arg-index c.loop-arg-test.true in
    let (above, below) = operand_behind w c.args.expr (Apply op k args) a kind here in (
      omega (arith, above, below),
      operand_ready w c.args.meanings.now c.args.slots.now c.args.owner c.args.expr c.requires.ready (Apply op k args) a
          kind here,
    )

pub operator_word-returns-in_err-operand : goal.operator_word-returns-in_err-operand
operator_word-returns-in_err-operand t c =
    let w = c.args.program.now in
    let (op, k, kind) = c.requires.kind in
    let h : Stops (IsLong w c.args.owner c.args.expr) c.in_err-operand.field-0.0 =
    stops_weaker
    (long_operand w c.args.owner c.args.expr op k c.args.args.now c.loop-arg.arg-index kind c.loop-arg-test.true)
    c.in_err-operand.field-0.0 c.in_err-operand.ensures in
    search (rules, h)

pub operator_word-returns-in_err-append : goal.operator_word-returns-in_err-append
operator_word-returns-in_err-append t c =
    let w = c.args.program.now in
    let (op, k, kind) = c.requires.kind in
    let args = c.args.args.now in
    let a : ℕ = get_or args c.loop-arg.arg-index 0 in
    let word = subst (IsWord w c.args.owner a) (sym c.as_slice.ensures) c.in_ok-operand.ensures in
    let h : Stops (IsLong w c.args.owner c.args.expr) c.in_err-append.field-0.0 =
    stops_weaker
    (long_operands w c.args.owner c.args.expr op k args c.loop-arg.arg-index c.loop-arg.items c.as_slice.result.now kind
    c.loop-arg-test.true c.loop-arg.invariant word)
    c.in_err-append.field-0.0 c.in_err-append.ensures in
    search (rules, h)

pub operator_word-loop-arg-preserved : goal.operator_word-loop-arg-preserved
operator_word-loop-arg-preserved t c =
    let w = c.args.program.now in
    let args = c.args.args.now in
    let i : ℕ = c.loop-arg.arg-index in
    let a : ℕ = get_or args i 0 in
    let word = subst (IsWord w c.args.owner a) (sym c.as_slice.ensures) c.in_ok-operand.ensures in
    let more : take (i + 1) args ≡ take i args ++ a ∷ [] = take_more args i 0 c.loop-arg-test.true in
    subst (λ os. HasGrown w c.args.owner c.args.expr os c.append.new.items) (sym more)
    (subst (HasGrown w c.args.owner c.args.expr (take i args ++ a ∷ [])) (sym c.in_ok-append.ensures)
    (grown_more w c.args.owner c.args.expr (take i args) a c.loop-arg.items c.as_slice.result.now c.loop-arg.invariant
    word))

pub operator_word-returns : goal.operator_word-returns
operator_word-returns t c =
    let w = c.args.program.now in
    let (op, k, kind) = c.requires.kind in
    let args = c.args.args.now in
    let all = take_all c.loop-arg.arg-index args (omega (arith, c.loop-arg-test.false)) in
    grown_all w c.args.owner c.args.expr op k args c.loop-arg.items kind
    (subst (λ os. HasGrown w c.args.owner c.args.expr os c.loop-arg.items) all c.loop-arg.invariant)

pub use_word-returns-in_default : goal.use_word-returns-in_default
use_word-returns-in_default t c = absurd (some_function c.args.program.now c.args.meanings.now c.args.slots.now
    c.args.owner c.args.expr c.requires.ready c.args.args.now c.requires.kind c.at.result.now c.at.ensures
    c.in_default.is)

pub use_word-at-requires-2 : goal.use_word-at-requires-2
use_word-at-requires-2 t c =
    let found = found_of c.args.program.now c.args.meanings.now c.args.slots.now c.args.owner c.args.expr
    c.requires.ready c.args.args.now c.requires.kind c.at.result.now c.at.ensures c.in-Some.function c.in-Some.is in
    let below = found.below in
    let enough = c.requires.ready.enough in
    omega (arith, below, enough)

pub use_word-filled_word-requires : goal.use_word-filled_word-requires
use_word-filled_word-requires t c =
    let w = c.args.program.now in
    let args = c.args.args.now in
    let f : ℕ = c.in-Some.function in
    let found = found_of w c.args.meanings.now c.args.slots.now c.args.owner c.args.expr c.requires.ready args
    c.requires.kind c.at.result.now c.at.ensures f c.in-Some.is in
    let made = slot_made w c.args.meanings.now c.args.slots.now c.args.owner c.args.expr c.requires.ready args f found
    c.at-2.result.now c.at-2.ensures in
    let word = subst (IsMade w f found.function) c.in-Made.is made in
    let template = subst (IsWord w (Some f) (found.function).body) (sym c.as_slice-template.ensures) word in
    (omega arith, (c.requires.ready, (c.requires.kind, (f, found, template))))

pub use_word-returns-in-TooMany : goal.use_word-returns-in-TooMany
use_word-returns-in-TooMany t c =
    let w = c.args.program.now in
    let m = c.args.meanings.now in
    let args = c.args.args.now in
    let (place, name, kind) = c.requires.kind in
    let f : ℕ = c.in-Some.function in
    let found = found_of w m c.args.slots.now c.args.owner c.args.expr c.requires.ready args
    c.requires.kind c.at.result.now c.at.ensures f c.in-Some.is in
    let made = slot_made w m c.args.slots.now c.args.owner c.args.expr c.requires.ready args f found
    c.at-2.result.now c.at-2.ensures in
    long_function w m c.args.slots.now c.args.owner c.args.expr place name args f c.requires.ready kind found
    (subst (IsMade w f found.function) c.in-TooMany.is made)

pub use_word-at-requires-in-Unmade : goal.use_word-at-requires-in-Unmade
use_word-at-requires-in-Unmade t c =
    let w = c.args.program.now in
    let args = c.args.args.now in
    let f : ℕ = c.in-Some.function in
    let found = found_of w c.args.meanings.now c.args.slots.now c.args.owner c.args.expr c.requires.ready args
    c.requires.kind c.at.result.now c.at.ensures f c.in-Some.is in
    body_there w c.args.meanings.now c.args.slots.now c.args.owner c.args.expr c.requires.ready args f found

pub use_word-word-requires : goal.use_word-word-requires
use_word-word-requires t c =
    let w = c.args.program.now in
    let m = c.args.meanings.now in
    let ts = c.args.slots.now in
    let args = c.args.args.now in
    let f : ℕ = c.in-Some.function in
    let found = found_of w m ts c.args.owner c.args.expr c.requires.ready args
    c.requires.kind c.at.result.now c.at.ensures f c.in-Some.is in
    let same = body_same w m ts c.args.owner c.args.expr c.requires.ready args f found c.at-in-Unmade.result.now
    c.at-in-Unmade.ensures in
    let ready = subst (IsReady w m ts (Some f)) same
    (body_ready w m ts c.args.owner c.args.expr c.requires.ready args f found) in
    let below = found.below in
    let size : ℕ = length w.exprs in
    let less = falls_below f (usable_count w c.args.owner) (4 * size + 4)
    (4 * (size - (c.at-in-Unmade.result.now).expr) + 3) (4 * (size - c.args.expr) + 2) below (omega arith) in
    (omega (arith, less), ready)

pub use_word-returns-in_err-template-in-Unmade : goal.use_word-returns-in_err-template-in-Unmade
use_word-returns-in_err-template-in-Unmade t c =
    let w = c.args.program.now in
    let m = c.args.meanings.now in
    let ts = c.args.slots.now in
    let args = c.args.args.now in
    let (place, name, kind) = c.requires.kind in
    let f : ℕ = c.in-Some.function in
    let found = found_of w m ts c.args.owner c.args.expr c.requires.ready args
    c.requires.kind c.at.result.now c.at.ensures f c.in-Some.is in
    let same = body_same w m ts c.args.owner c.args.expr c.requires.ready args f found c.at-in-Unmade.result.now
    c.at-in-Unmade.ensures in
    let h : Stops (IsLong w c.args.owner c.args.expr) c.in_err-template-in-Unmade.field-0.0 =
    stops_weaker
    (λ long. long_function w m ts c.args.owner c.args.expr place name args f c.requires.ready kind found
    (subst (IsLong w (Some f)) (sym same) long))
    c.in_err-template-in-Unmade.field-0.0 c.in_err-template-in-Unmade.ensures in
    search (rules, h)

pub use_word-filled_word-requires-in-Unmade : goal.use_word-filled_word-requires-in-Unmade
use_word-filled_word-requires-in-Unmade t c =
    let w = c.args.program.now in
    let m = c.args.meanings.now in
    let ts = c.args.slots.now in
    let args = c.args.args.now in
    let f : ℕ = c.in-Some.function in
    let found = found_of w m ts c.args.owner c.args.expr c.requires.ready args
    c.requires.kind c.at.result.now c.at.ensures f c.in-Some.is in
    let same = body_same w m ts c.args.owner c.args.expr c.requires.ready args f found c.at-in-Unmade.result.now
    c.at-in-Unmade.ensures in
    let word = subst (λ e. IsWord w (Some f) e c.in_ok-template-in-Unmade.template) (sym same)
    c.in_ok-template-in-Unmade.ensures in
    let template = subst (IsWord w (Some f) (found.function).body) (sym c.as_slice-template-in-Unmade.ensures) word in
    (omega arith, (c.requires.ready, (c.requires.kind, (f, found, template))))

pub filled_word-returns-in_err-words : goal.filled_word-returns-in_err-words
filled_word-returns-in_err-words t c =
    let w = c.args.program.now in
    let args = c.args.args.now in
    let template = c.args.template.now in
    let (f, found, made) = c.requires.template in
    let h : Stops (IsLong w c.args.owner c.args.expr) c.in_err-words.field-0.0 =
    stops_weaker
    (λ (i, a, is, mention, long). long_mentioned w c.args.owner c.args.expr args f template found made i a is mention
    long)
    c.in_err-words.field-0.0 c.in_err-words.ensures in
    search (rules, h)

pub filled_word-returns-in_err-fill : goal.filled_word-returns-in_err-fill
filled_word-returns-in_err-fill t c =
    let w = c.args.program.now in
    let args = c.args.args.now in
    let template = c.args.template.now in
    let (f, found, made) = c.requires.template in
    let words = c.as_slice.result.now in
    let are = subst (AreOperandWords w c.args.owner template args) (sym c.as_slice.ensures) c.in_ok-words.ensures in
    let lt = ready_within w c.args.meanings.now c.args.slots.now c.args.owner c.args.expr c.requires.ready in
    let is : IsWord w c.args.owner c.args.expr (filled c.own_place.result words template) =
    subst (λ o. IsWord w c.args.owner c.args.expr (filled o words template)) (sym c.own_place.ensures)
    (use_is w c.args.owner c.args.expr args f template words lt found made are) in
    let empty = ap length c.new-items.ensures in
    let h : Stops (IsLong w c.args.owner c.args.expr) c.in_err-fill.field-0.0 =
    stops_weaker
    (λ over. long_filled w c.args.owner c.args.expr (filled c.own_place.result words template) is
    (omega (arith, over, empty)))
    c.in_err-fill.field-0.0 c.in_err-fill.ensures in
    search (rules, h)

pub filled_word-returns : goal.filled_word-returns
filled_word-returns t c =
    let w = c.args.program.now in
    let args = c.args.args.now in
    let template = c.args.template.now in
    let (f, found, made) = c.requires.template in
    let words = c.as_slice.result.now in
    let are = subst (AreOperandWords w c.args.owner template args) (sym c.as_slice.ensures) c.in_ok-words.ensures in
    let lt = ready_within w c.args.meanings.now c.args.slots.now c.args.owner c.args.expr c.requires.ready in
    let is : IsWord w c.args.owner c.args.expr (filled c.own_place.result words template) =
    subst (λ o. IsWord w c.args.owner c.args.expr (filled o words template)) (sym c.own_place.ensures)
    (use_is w c.args.owner c.args.expr args f template words lt found made are) in
    subst (IsWord w c.args.owner c.args.expr)
    (sym (c.in_ok-fill.ensures ∙ ap (λ xs. xs ++ filled c.own_place.result words template) c.new-items.ensures)) is

pub operand_words-word-requires : goal.operand_words-word-requires
operand_words-word-requires t c =
    let w = c.args.program.now in
    let (place, name, kind) = c.requires.kind in
    let args = c.args.args.now in
    let a : ℕ = get_or args c.loop-i.i 0 in
    let here = number_in args c.loop-i.i c.loop-i-test.true in
    let (above, below) = operand_behind w c.args.expr (Use place name args) a kind here in (
      omega (arith, above, below),
      operand_ready w c.args.meanings.now c.args.slots.now c.args.owner c.args.expr c.requires.ready
          (Use place name args) a kind here,
    )

pub operand_words-returns-in_err-word : goal.operand_words-returns-in_err-word
operand_words-returns-in_err-word t c =
    let w = c.args.program.now in
    let args = c.args.args.now in
    let i : ℕ = c.loop-i.i in
    let flags = c.in_ok-mentioned.ensures in
    let told = sym (flags.each i c.loop-i-test.true) ∙ ap (λ fs. slice_index_or fs i false) (sym c.as_slice.ensures)
    ∙ c.if-as_slice-i.true in
    let Found : Type 0 = (j a : ℕ) × IsAt args j a × (mentions c.args.template.now j ≡ true) × IsLong w c.args.owner a
    in
    let h : Stops Found c.in_err-word.field-0.0 =
    stops_weaker (λ long. (i, get_or args i 0, number_at args i c.loop-i-test.true, told, long)) c.in_err-word.field-0.0
    c.in_err-word.ensures in
    search (rules, h)

pub operand_words-loop-i-preserved : goal.operand_words-loop-i-preserved
operand_words-loop-i-preserved t c =
    let w = c.args.program.now in
    let owner = c.args.owner in
    let template = c.args.template.now in
    let args = c.args.args.now in
    let i : ℕ = c.loop-i.i in
    let flags = c.in_ok-mentioned.ensures in
    let told = ap (λ fs. slice_index_or fs i false) c.as_slice.ensures ∙ flags.each i c.loop-i-test.true in
    let word = c.if-as_slice-i.word in
    let is : IsOperandWord w owner template i (get_or args i 0) word = elim c.if-as_slice-i.branch [
      | operand_words-then-as_slice-i+in_ok-word b ↦
          mentioned_word w owner template i (get_or args i 0) word
          (subst (IsWord w owner (get_or args i 0)) (sym b.word-is) b.in_ok-word.ensures)
      | operand_words-else-as_slice-i b ↦
          subst (IsOperandWord w owner template i (get_or args i 0)) (sym (b.word-is ∙ b.new-word.ensures))
          (dropped_word w owner template i (get_or args i 0) (sym told ∙ b.if-as_slice-i.false))
    ] in
    subst (AreOperandWords w owner template (take (i + 1) args)) (sym c.in_ok-push.ensures.ok)
    (words_more w owner template args i c.loop-i.words word c.loop-i-test.true c.loop-i.invariant is)
