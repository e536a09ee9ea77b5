use Rattle.std.proofs.Common.{◌≡◌, ◌≢◌, ◌∙◌, ℕ, List, Option, Some, None, sym, subst, arith}
use Rattle.std.proofs.lemmas.Option.{slice_get_within}
use Rattle.mp_base.specs.declared.op.Op.{Op}
use Rattle.nor_net.specs.declared.net.NetId.{NetId}
use Rattle.rtl_form.specs.declared.rtl.RtlExpr.TheVariants.{Number}
use Rattle.control_nor.specs.Lowering.{Stands}
use Rattle.datapath_making.specs.Steps.{IsNumberMade}
use Rattle.datapath_sharing.specs.Sharing.{IsShared, number_in, operator_in}
use Rattle.datapath_sharing.proofs.Shares.{done_three, number_again, number_noted, number_shared, number_stands}
use Rattle.datapath_sharing.proofs.Shares.{step_within}
use Rattle.datapath_sharing.proofs.operators.add_number.Goals as goal

pub share_word-requires-clause-expr : goal.share_word-requires-clause-expr
share_word-requires-clause-expr c = slice_get_within c.args.making.now.words c.args.expr None c.requires.free

pub share_word-requires-clause-word : goal.share_word-requires-clause-word
share_word-requires-clause-word c =
    (c.requires.built.numbers c.args.bits c.in-Some.word (sym c.number.ensures ∙ c.in-Some.is)).4

pub returns-in-Some-clause-step : goal.returns-in-Some-clause-step
returns-in-Some-clause-step c =
    step_within 0 0 1 0 c.args.making.now c.share_word.new.making (omega arith) (omega arith) c.share_word.ensures.step

pub returns-in-Some-clause-number : goal.returns-in-Some-clause-number
returns-in-Some-clause-number c =
    let m = c.args.making.now in
    subst (IsNumberMade c.args.expr c.args.bits m) (sym c.share_word.ensures.shared)
    (number_again c.args.expr c.args.bits c.args.built.now m c.in-Some.word c.requires.built
    (sym c.number.ensures ∙ c.in-Some.is) c.requires.free)

pub returns-in-Some-clause-shared : goal.returns-in-Some-clause-shared
returns-in-Some-clause-shared c =
    let m = c.args.making.now in
    let b = c.args.built.now in
    subst (IsShared c.args.expr (Number c.args.bits) b b m) (sym c.share_word.ensures.shared)
    (number_shared c.args.expr c.args.bits b m c.in-Some.word c.requires.built (sym c.number.ensures ∙ c.in-Some.is)
    c.requires.free)

pub net_of-word-requires : goal.net_of-word-requires
net_of-word-requires c =
    let made = c.in_ok-add_number-in-None.ensures.number in
    let net = made.program.net in (
      net,
      subst (λ (ws : List (Option NetId)). Stands ws c.args.expr net) (sym c.as_slice.ensures)
          (number_stands c.args.expr c.args.bits c.args.making.now c.add_number.new.making made c.requires.free),
    )

pub returns-in_ok-add_number-in-None-clause-shared : goal.returns-in_ok-add_number-in-None-clause-shared
returns-in_ok-add_number-in-None-clause-shared c =
    let m = c.args.making.now in
    let new = c.add_number.new.making in
    let b = c.args.built.now in
    let now = c.note_number.new.self in
    let e = c.args.expr in
    let bits = c.args.bits in
    let word = c.net_of-word.result in
    let stands = subst (λ (ws : List (Option NetId)). Stands ws e word) c.as_slice.ensures c.net_of-word.ensures in
    done_three (number_in now bits ≡ Some word) ((n : ℕ) → n ≢ bits → number_in now n ≡ number_in b n)
    ((op : Op) (x y : NetId) → operator_in now op x y ≡ operator_in b op x y) (IsShared e (Number bits) b now m new)
    c.note_number.result
    (λ here others operators. number_noted e bits b now m new word c.requires.built
    c.in_ok-add_number-in-None.ensures.step
    c.in_ok-add_number-in-None.ensures.number stands (sym c.number.ensures ∙ c.in-None.is) c.requires.free here
    others operators)
    c.note_number.ensures.here c.note_number.ensures.others c.note_number.ensures.operators
