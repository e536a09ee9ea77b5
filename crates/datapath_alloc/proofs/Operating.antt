-- What an operator asks is there, and what follows from its answer.
use Rattle.std.proofs.Common.{◌≡◌, ℕ, suc, List, Some, Bool, true, false, length, refl, sym, ap, subst, arith}
use Rattle.std.specs.Prelude.{MatchBool, slice_get}
use Rattle.mp_base.specs.declared.op.Op.{Op}
use Rattle.mp_base.specs.declared.op.Op.TheVariants as ops
use Rattle.nor_net.specs.declared.net.Part.{Part}
use Rattle.rtl_form.specs.declared.rtl.RtlExpr.TheVariants.{Apply}
use Rattle.rtl_form.specs.declared.rtl.Rtl.{Rtl}
use Rattle.rtl_form.specs.Cost.{op_cost}
use Rattle.mp_base.specs.Entries.{IsAt}
use Rattle.rtl_form.specs.Operands.{gives_word, takes_words}
use Rattle.rtl_form.specs.Sound.{IndexFits}
use Rattle.control_nor.specs.declared.names.Names.{Names}
use Rattle.task_schedule.specs.declared.task.Task.TheVariants as tasks
use Rattle.control_nor.specs.Lowering.{nets_before}
use Rattle.datapath_making.specs.declared.making.Making.{Making}
use Rattle.datapath_making.specs.Marking.{last_mark}
use Rattle.datapath_making.specs.Steps.{IsOperatorMade, IsStep}
use Rattle.datapath_alloc.specs.Progress.{IsProgress, KeepsMarks}
use Rattle.datapath_sharing.specs.Asking.{IsAnswered, IsAsked, IsLifted}
use Rattle.datapath_alloc.proofs.Idle.{bits_done}
use Rattle.datapath_alloc.proofs.Reaching.{args_reached, free_word, waited}
use Rattle.datapath_alloc.proofs.Rounds.{room}
use Rattle.datapath_alloc.proofs.TaskSteps.{lifted_done, operator_done}

pub step_keeps : (c x : ℕ) (old new : Making) → IsStep c x old new → KeepsMarks old new
step_keeps c x old new s = record { names = s.grows.names; marks = s.marks }

pub same_keeps : (old new : Making) → new ≡ old → KeepsMarks old new
same_keeps old new e = record {
  names = ap (λ (m : Making). m.names) e;
  marks = ap (λ (m : Making). m.marks) e;
}

module _ (e : ℕ) (op : Op) (index : ℕ) (args : List ℕ) (old new : Making) where
  lifted_keeps : (o : Op) → IsLifted e o index args old new → KeepsMarks old new
  lifted_keeps ops.Bit h = step_keeps 1 1 old new h.0
  lifted_keeps o h = step_keeps (op_cost o (length args)) 1 old new h.0

  pub answer_keeps : IsAnswered e op index args old new → KeepsMarks old new
  answer_keeps h = by_word (gives_word op) (takes_words op) h
    where
      by_word : (w t : Bool)
          → MatchBool w (IsStep (op_cost op (length args)) 0 old new × IsOperatorMade e op args old new)
          (MatchBool t (IsLifted e op index args old new) (new ≡ old)) → KeepsMarks old new
      by_word true t h = step_keeps (op_cost op (length args)) 0 old new h.0
      by_word false true h = lifted_keeps op h
      by_word false false h = same_keeps old new h

module _ (r : Rtl) (bits : List Part) (names : Names) (old : Making) (t : ℕ)
    (p : IsProgress r bits names (length r.cells) t 0 old) (e : ℕ) (op : Op) (index : ℕ) (args : List ℕ)
    (is : slice_get names.tasks t ≡ Some (tasks.Expr e)) (at : IsAt r.exprs e (Apply op index args)) where
  pub asked : (last_mark old).slices ≡ length old.slices.net → (last_mark old).control ≡ nets_before names t
      → IsAsked old e op index args
  asked slices control = record {
    made = p.begun.made;
    room = room r bits names old (length r.cells) t 0 13 (omega arith) (omega arith) (omega arith) p;
    wide = let w = p.begun.width in let l = p.given.sound.width.0 in omega (arith, w, l);
    free = free_word r bits names p.given.sound p.given.lowered old t e is p.begun p.exprs;
    count = (p.given.sound.exprs e (Apply op index args) at).0;
    reached = args_reached r bits names p.given.sound p.given.lowered old t p.begun.made slices control p.begun p.exprs
        e op index args is at;
    entry = λ takes gives. waited r bits names p.given.sound p.given.lowered old t p.begun.made slices control p.begun
        p.exprs e (Apply op index args) is at (takes, gives);
    inside = λ q.
        let l : IndexFits r.width ops.Bit index
        = subst (λ o. IndexFits r.width o index) q (p.given.sound.exprs e (Apply op index args) at).1 in
        let w = p.begun.width in omega (arith, l, w);
  }

  pub answered : (new : Making) → IsAnswered e op index args old new
      → IsProgress r bits names (length r.cells) (suc t) 0 new
  answered new h = by_word (gives_word op) (takes_words op) refl refl h
    where
      by_word : (w l : Bool) → gives_word op ≡ w → takes_words op ≡ l
          → MatchBool w (IsStep (op_cost op (length args)) 0 old new × IsOperatorMade e op args old new)
          (MatchBool l (IsLifted e op index args old new) (new ≡ old))
          → IsProgress r bits names (length r.cells) (suc t) 0 new
      by_word true l gives takes h = operator_done r bits names old new t p e op index args is at gives h.0 h.1
      by_word false true gives takes h =
          lifted_done r bits names old new t p e op index args is at op refl takes gives h
      by_word false false gives takes h =
          subst (IsProgress r bits names (length r.cells) (suc t) 0) (sym h)
          (bits_done r bits names old t p e op index args is at gives takes)
