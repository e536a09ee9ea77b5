use Rattle.std.proofs.Common.{◌++◌, ◌∷◌, ◌+◌, [], subst, sym, ap, ◌∙◌}
use Rattle.std.proofs.lemmas.Option.{slice_get-get_or}
use Rattle.task_schedule.specs.declared.task.Task.TheVariants.{Expr}
use Rattle.control_nor.specs.Done.{AreDone}
use Rattle.control_nor.proofs.Laying.{laid_more, meant_more, nothing_laid, nothing_meant}
use Rattle.control_nor.proofs.Running.{is_ready, no_progress, progress_more}
use Rattle.control_nor.proofs.tasks.lower_tasks.Goals as goal

pub loop-task-init : goal.loop-task-init
loop-task-init c =
    subst (AreDone c.args.rtl.now c.args.tasks.now 0 c.args.net.now c.args.net.now c.args.bits.now c.args.bits.now)
    (sym c.new-ends.ensures) (record {
      progress = no_progress c.args.rtl.now c.requires.sound c.args.tasks.now c.requires.schedule c.args.net.now
          c.args.bits.now
          c.requires.begun;
      laid = nothing_laid c.args.rtl.now c.args.tasks.now c.args.net.now c.args.bits.now;
      meant = nothing_meant c.args.rtl.now c.args.tasks.now c.args.net.now c.args.bits.now;
    })

pub lower_task-requires-clause-ready : goal.lower_task-requires-clause-ready
lower_task-requires-clause-ready c =
    is_ready c.args.rtl.now c.requires.sound c.args.tasks.now c.requires.schedule c.args.net.now c.args.bits.now
    c.requires.begun
    c.loop-task.task-index c.loop-task.net c.loop-task.bits c.loop-task.invariant.progress _
    (slice_get-get_or c.args.tasks.now c.loop-task.task-index (Expr 0) c.loop-task-test.true) c.requires.room

pub lower_task-requires-clause-below : goal.lower_task-requires-clause-below
lower_task-requires-clause-below c k rails h = c.loop-task.invariant.progress.below (Expr k) rails h

pub loop-task-preserved : goal.loop-task-preserved
loop-task-preserved c =
    let at = slice_get-get_or c.args.tasks.now c.loop-task.task-index (Expr 0) c.loop-task-test.true in
    subst (AreDone c.args.rtl.now c.args.tasks.now (c.loop-task.task-index + 1) c.args.net.now c.lower_task.new.net
    c.args.bits.now
    c.lower_task.new.bits)
    (sym (c.in_ok-push.ensures.ok ∙ ap (λ n. c.loop-task.ends ++ n ∷ []) c.len.ensures.len)) (record {
      progress = progress_more c.args.rtl.now c.requires.sound c.args.tasks.now c.requires.schedule c.args.net.now
          c.args.bits.now
          c.requires.begun c.loop-task.task-index c.loop-task.net c.loop-task.bits c.loop-task.invariant.progress _ at
          c.lower_task.new.net c.lower_task.new.bits c.in_ok-lower_task.ensures;
      laid = laid_more c.args.rtl.now c.requires.sound c.args.tasks.now c.requires.schedule c.args.net.now
          c.args.bits.now
          c.requires.begun c.loop-task.task-index c.loop-task.net c.loop-task.bits c.loop-task.invariant.progress _ at
          c.lower_task.new.net c.lower_task.new.bits c.in_ok-lower_task.ensures c.loop-task.ends
          c.loop-task.invariant.laid;
      meant = meant_more c.args.rtl.now c.requires.sound c.args.tasks.now c.requires.schedule c.args.net.now
          c.args.bits.now
          c.requires.begun c.loop-task.task-index c.loop-task.net c.loop-task.bits c.loop-task.invariant.progress _ at
          c.lower_task.new.net c.lower_task.new.bits c.in_ok-lower_task.ensures c.loop-task.invariant.meant;
    })
