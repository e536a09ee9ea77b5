use Rattle.std.proofs.Common.{◌≡◌, ◌-◌, ◌∙◌, ℕ, List, Option, Some, None, false, get_or, length, sym, subst, arith}
use Rattle.std.proofs.lemmas.Option.{slice_get_within}
use Rattle.mp_base.specs.declared.op.Op.{Op}
use Rattle.nor_net.specs.declared.net.NetId.{NetId}
use Rattle.rtl_form.specs.Cost.{op_cost}
use Rattle.rtl_form.specs.declared.rtl.RtlExpr.TheVariants.{Apply}
use Rattle.control_nor.specs.Lowering.{Stands}
use Rattle.datapath_making.specs.Steps.{IsOperatorMade}
use Rattle.datapath_making.proofs.Tables.{some_taken}
use Rattle.datapath_sharing.specs.Sharing.{IsShared, key_of, number_in, operator_in, same_key}
use Rattle.datapath_sharing.proofs.Shares.{done_three, operator_stands, step_within, word_again, word_noted}
use Rattle.datapath_sharing.proofs.Shares.{word_shared}
use Rattle.datapath_sharing.proofs.operators.add_word.Goals as goal

pub net_of-first-requires : goal.net_of-first-requires
net_of-first-requires c =
    let args = c.args.args.now in
    let a = c.requires.asked in
    let r = a.reached c.requires.words 0 0 (some_taken c.args.op (length args) a.count) in
    (r.0, subst (λ (ws : List (Option NetId)). Stands ws (get_or args 0 0) r.0) (sym c.as_slice.ensures) r.1)

pub net_of-last-requires : goal.net_of-last-requires
net_of-last-requires c =
    let args = c.args.args.now in
    let a = c.requires.asked in
    let some = some_taken c.args.op (length args) a.count in
    let r = a.reached c.requires.words (length args - 1) 0 (omega (arith, some)) in (
      r.0,
      subst (λ (ws : List (Option NetId)). Stands ws (get_or args (length args - 1) 0) r.0)
          (sym c.as_slice-2.ensures) r.1,
    )

pub share_word-requires-clause-expr : goal.share_word-requires-clause-expr
share_word-requires-clause-expr c = slice_get_within c.args.making.now.words c.args.expr None c.requires.asked.free

pub share_word-requires-clause-word : goal.share_word-requires-clause-word
share_word-requires-clause-word c =
    (c.requires.built.operators c.args.op c.net_of-first.result c.net_of-last.result c.in-Some.word
    (sym c.operator.ensures ∙ c.in-Some.is)).within

pub returns-in-Some-clause-step : goal.returns-in-Some-clause-step
returns-in-Some-clause-step c =
    step_within 0 0 (op_cost c.args.op (length c.args.args.now)) 0 c.args.making.now c.share_word.new.making
    (omega arith) (omega arith) c.share_word.ensures.step

pub returns-in-Some-clause-operator : goal.returns-in-Some-clause-operator
returns-in-Some-clause-operator c =
    let m = c.args.making.now in
    let b = c.args.built.now in
    let e = c.args.expr in
    let op = c.args.op in
    let args = c.args.args.now in
    let first = c.net_of-first.result in
    let last = c.net_of-last.result in
    let is_first = subst (λ (ws : List (Option NetId)). Stands ws (get_or args 0 0) first) c.as_slice.ensures
    c.net_of-first.ensures in
    let is_last = subst (λ (ws : List (Option NetId)). Stands ws (get_or args (length args - 1) 0) last)
    c.as_slice-2.ensures c.net_of-last.ensures in
    subst (IsOperatorMade e op args m) (sym c.share_word.ensures.shared)
    (word_again e op c.args.index args b m first last c.requires.built is_first is_last c.requires.word
    c.requires.asked.free c.in-Some.word (sym c.operator.ensures ∙ c.in-Some.is))

pub returns-in-Some-clause-shared : goal.returns-in-Some-clause-shared
returns-in-Some-clause-shared c =
    let m = c.args.making.now in
    let b = c.args.built.now in
    let e = c.args.expr in
    let op = c.args.op in
    let args = c.args.args.now in
    let first = c.net_of-first.result in
    let last = c.net_of-last.result in
    let is_first = subst (λ (ws : List (Option NetId)). Stands ws (get_or args 0 0) first) c.as_slice.ensures
    c.net_of-first.ensures in
    let is_last = subst (λ (ws : List (Option NetId)). Stands ws (get_or args (length args - 1) 0) last)
    c.as_slice-2.ensures c.net_of-last.ensures in
    subst (IsShared e (Apply op c.args.index args) b b m) (sym c.share_word.ensures.shared)
    (word_shared e op c.args.index args b m first last c.requires.built is_first is_last c.requires.word
    c.requires.asked.free c.in-Some.word (sym c.operator.ensures ∙ c.in-Some.is))

pub net_of-word-requires : goal.net_of-word-requires
net_of-word-requires c =
    let made = c.in_ok-add_operator-in-None.ensures.operator in (
      made.id,
      subst (λ (ws : List (Option NetId)). Stands ws c.args.expr made.id) (sym c.as_slice-in-None.ensures)
          (operator_stands c.args.expr c.args.op c.args.args.now c.args.making.now c.add_operator.new.making made
          c.requires.asked.free),
    )

pub returns-in_ok-add_operator-in-None-clause-shared : goal.returns-in_ok-add_operator-in-None-clause-shared
returns-in_ok-add_operator-in-None-clause-shared c =
    let m = c.args.making.now in
    let b = c.args.built.now in
    let e = c.args.expr in
    let op = c.args.op in
    let args = c.args.args.now in
    let first = c.net_of-first.result in
    let last = c.net_of-last.result in
    let is_first = subst (λ (ws : List (Option NetId)). Stands ws (get_or args 0 0) first) c.as_slice.ensures
    c.net_of-first.ensures in
    let is_last = subst (λ (ws : List (Option NetId)). Stands ws (get_or args (length args - 1) 0) last)
    c.as_slice-2.ensures c.net_of-last.ensures in
    let new = c.add_operator.new.making in
    let now = c.note_operator.new.self in
    let word = c.net_of-word.result in
    let stands =
    subst (λ (ws : List (Option NetId)). Stands ws e word) c.as_slice-in-None.ensures c.net_of-word.ensures in
    done_three (operator_in now op first last ≡ Some word)
    ((q : Op) (x y : NetId) → same_key (key_of op first last) (key_of q x y) ≡ false
    → operator_in now q x y ≡ operator_in b q x y)
    ((n : ℕ) → number_in now n ≡ number_in b n) (IsShared e (Apply op c.args.index args) b now m new)
    c.note_operator.result
    (λ here others numbers. word_noted e op c.args.index args b m first last c.requires.built is_first is_last
    c.requires.word c.requires.asked.free now new word
    (op_cost op (length args)) c.in_ok-add_operator-in-None.ensures.step
    c.in_ok-add_operator-in-None.ensures.operator stands (sym c.operator.ensures ∙ c.in-None.is) here others numbers)
    c.note_operator.ensures.here c.note_operator.ensures.others c.note_operator.ensures.numbers
