use Rattle.std.proofs.Common.{◌≡◌, ◌+◌, ◌∙◌, ◌++◌, ◌∷◌, ◌||◌, [], sym, ap, subst, arith}
use Rattle.cif_flat.specs.Refusing.{RefusesWalk}
use Rattle.cif_flat.specs.Walking.{IsFound}
use Rattle.cif_flat.proofs.Arms.{held_here, ratio_here, user_counted, user_passed, user_labelled}
use Rattle.cif_flat.specs.Meeting.{was_met, is_name}
use Rattle.cif_flat.specs.declared.walker.Walker.{Walker}
use Rattle.cif_flat.proofs.Walks.{onward}
use Rattle.cif_flat.proofs.walker.Walker.user.Goals as goal
use Rattle.cif_flat.proofs.walker.Walker.user.Goals.{in-Some+in_ok-meet+in_ok-push, in_default}

pub label_at-requires-clause-fit : goal.label_at-requires-clause-fit
label_at-requires-clause-fit c = ratio_here c.args.items.now c.args.self.now c.args.level _ c.requires

pub label_at-requires-clause-held : goal.label_at-requires-clause-held
label_at-requires-clause-held c = held_here c.args.items.now c.args.self.now c.args.level _ c.requires

pub returns-then-self-ge-WALK_LIMIT-clause-err : goal.returns-then-self-ge-WALK_LIMIT-clause-err
returns-then-self-ge-WALK_LIMIT-clause-err c =
    subst (RefusesWalk c.args.items.now) (sym c.broken.ensures)
    (user_counted c.args.items.now c.args.self.now c.args.level c.args.offset c.args.digit.now c.args.text.now
    c.requires (omega arith))

pub returns-clause-ok : goal.returns-clause-ok
returns-clause-ok c =
    let w = c.args.self.now in
    let found = c.in_ok-label.ensures in
    let mid = c.label_at.new.self in
    let new = c.go_on.new.self in
    let kept = c.in_ok-go_on.ensures.kept in
    let pushed : new.levels.items ≡ c.match-branch-2.self.levels.items ++ onward c.args.level c.args.level.layer ∷ [] =
    c.in_ok-go_on.ensures.pushed ∙ ap (λ u. c.match-branch-2.self.levels.items ++ u ∷ []) c.onward.ensures in
    elim c.match-branch-2.branch [
      | in-Some+in_ok-meet+in_ok-push b ↦
          (let label = b.in-Some.label in
          let self = b.self-is
          ∙ ap (λ (s : Walker). record s { met = b.meet.new.met; labels = b.push.new.self }) found.kept in
          user_labelled c.args.items.now w c.args.level c.args.offset c.args.digit.now c.args.text.now c.requires
          (omega arith) label
          (subst (IsFound c.args.items.now w c.args.level c.args.offset c.args.digit.now c.args.text.now) b.in-Some.is
          found.found)
          (record w { names = mid.names; met = b.meet.new.met })
          (λ q. b.in_ok-meet.ensures q
          ∙ ap (λ n. is_name n q || was_met mid.met q) b.bytes.ensures
          ∙ ap (λ (s : Walker). is_name label.name q || was_met s.met q) found.kept)
          found.named b.push.new.self
          (b.in_ok-push.ensures.ok ∙ ap (λ (s : Walker). s.labels ++ label ∷ []) found.kept) new
          (kept ∙ ap (λ (s : Walker). record s { count = s.count + 1; levels = new.levels }) self)
          (pushed ∙ ap (λ (s : Walker). s.levels.items ++ onward c.args.level c.args.level.layer ∷ []) self))
      | in_default b ↦
          (let self = b.self-is ∙ found.kept in
          user_passed c.args.items.now w c.args.level c.args.offset c.args.digit.now c.args.text.now c.requires
          (omega arith)
          (subst (IsFound c.args.items.now w c.args.level c.args.offset c.args.digit.now c.args.text.now)
          b.in_default.is
          found.found)
          mid found.named
          new (kept ∙ ap (λ (s : Walker). record s { count = s.count + 1; levels = new.levels }) self)
          (pushed ∙ ap (λ (s : Walker). s.levels.items ++ onward c.args.level c.args.level.layer ∷ []) self))
    ]
