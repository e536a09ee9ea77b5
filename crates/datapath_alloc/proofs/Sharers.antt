-- Equal expressions share their nets, when all tasks are done.
use Rattle.std.proofs.Common.{◌≡◌, ℕ, ◌<◌, ◌-◌, List, Option, true, length, sym, ◌∙◌, ap, subst, arith}
use Rattle.std.specs.Prelude.{slice_index_or}
use Rattle.std.proofs.lemmas.Option.{same_Some}
use Rattle.mp_base.specs.declared.op.Op.{Op}
use Rattle.nor_net.specs.declared.net.NetId.{NetId}
use Rattle.nor_net.specs.declared.net.Part.{Part}
use Rattle.rtl_form.specs.declared.rtl.RtlExpr.{RtlExpr}
use Rattle.rtl_form.specs.declared.rtl.RtlExpr.TheVariants.{Number, Apply}
use Rattle.rtl_form.specs.declared.rtl.Rtl.{Rtl}
use Rattle.mp_base.specs.Entries.{IsAt}
use Rattle.mp_base.proofs.Entries.{within}
use Rattle.rtl_form.specs.Operands.{gives_word}
use Rattle.control_nor.specs.declared.names.Names.{Names}
use Rattle.task_schedule.specs.declared.task.Task.TheVariants as tasks
use Rattle.control_nor.specs.Lowering.{Stands}
use Rattle.path_form.specs.declared.path.Lift.{Lift}
use Rattle.datapath_making.proofs.Tables.{some_taken}
use Rattle.datapath_sharing.specs.declared.built.Built.{Built}
use Rattle.datapath_alloc.specs.Progress.{IsGiven}
use Rattle.datapath_alloc.specs.Shared.{OnSameNets, SharesNets}
use Rattle.datapath_alloc.specs.Noting.{AreNoted}
use Rattle.datapath_sharing.specs.Sharing.{IsExprNoted, IsNoted, operator_in}
use Rattle.datapath_alloc.proofs.Reaching.{all_done}
use Rattle.datapath_making.proofs.Lists.{one_stands}

-- the same operator on the same nets has one result
one_result : (b : Built) (words : List (Option NetId)) (op : Op) (args others : List ℕ) (i j : NetId)
    → 0 < length args → OnSameNets words args others → IsNoted b words op args i → IsNoted b words op others j → i ≡ j
one_result b words op args others i j some same h k =
    same_Some i j (sym h.4 ∙ (ap (λ x. operator_in b op x h.1) first ∙ (ap (λ x. operator_in b op k.0 x) last ∙ k.4)))
  where
    first : h.0 ≡ k.0
    first =
        let s = same.each 0 some in
        one_stands words (slice_index_or args 0 0) h.0 s.0 h.2 s.1
        ∙ one_stands words (slice_index_or others 0 0) s.0 k.0 s.2 k.2

    last : h.1 ≡ k.1
    last =
        let s = same.each (length args - 1) (omega (arith, some)) in
        one_stands words (slice_index_or args (length args - 1) 0) h.1 s.0 h.3 s.1
        ∙ one_stands words (slice_index_or others (length args - 1) 0) s.0 k.1 s.2
        (subst (λ n. Stands words (slice_index_or others (n - 1) 0) k.1) (sym same.count) k.3)

module _ (r : Rtl) (bits : List Part) (names : Names) (given : IsGiven r bits names) (b : Built)
    (words : List (Option NetId)) (lifts : List Lift) (noted : AreNoted r names (length names.tasks) b words lifts)
  where
    noted_at : (e : ℕ) (x : RtlExpr) → IsAt r.exprs e x → IsExprNoted names b words lifts e x
    noted_at e x at =
        noted e x at (all_done r bits names given.sound given.lowered (tasks.Expr e) (within r.exprs e at))

    has_args : (e : ℕ) (op : Op) (index : ℕ) (args : List ℕ) → IsAt r.exprs e (Apply op index args) → 0 < length args
    has_args e op index args at = some_taken op (length args) (given.sound.exprs e (Apply op index args) at).0

    one_number : (e f n : ℕ) (i j : NetId) → IsAt r.exprs e (Number n) → IsAt r.exprs f (Number n)
        → Stands words e i → Stands words f j → i ≡ j
    one_number e f n i j at bt s t =
        let h = noted_at e (Number n) at in
        let k = noted_at f (Number n) bt in
        one_stands words e i h.0 s h.1 ∙ (same_Some h.0 k.0 (sym h.2 ∙ k.2) ∙ one_stands words f k.0 j k.1 t)

    one_word : (e f : ℕ) (op : Op) (index other : ℕ) (args others : List ℕ) (i j : NetId)
        → IsAt r.exprs e (Apply op index args) → IsAt r.exprs f (Apply op other others)
        → gives_word op ≡ true → OnSameNets words args others → Stands words e i → Stands words f j → i ≡ j
    one_word e f op index other args others i j at bt gives same s t =
        let h = (noted_at e (Apply op index args) at).word gives in
        let k = (noted_at f (Apply op other others) bt).word gives in
        one_stands words e i h.0 s h.1
        ∙ (one_result b words op args others h.0 k.0 (has_args e op index args at) same h.2 k.2
        ∙ one_stands words f k.0 j k.1 t)

    pub nets_are_shared : SharesNets r names words lifts
    nets_are_shared = record {
      numbers = one_number;
      operators = one_word;
      tests = λ e f op index other args others at bt takes gives ne same.
          let h = (noted_at e (Apply op index args) at).test takes gives ne in
          let k = (noted_at f (Apply op other others) bt).test takes gives ne in (
            h.0,
            k.0,
            h.1,
            k.1,
            h.2,
            k.2,
            one_result b words op args others h.0.from k.0.from (has_args e op index args at) same h.3 k.3,
          );
    }
