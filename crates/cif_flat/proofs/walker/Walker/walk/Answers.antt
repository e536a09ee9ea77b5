use Rattle.std.proofs.Common.{◌≡◌, refl, subst, arith, []}
use Rattle.std.proofs.lemmas.Grind.{common_steps}
use Rattle.cif_flat.specs.Walking.{IsWalking}
use Rattle.cif_flat.proofs.Loop.{same_walking, walking_back, walked}
use Rattle.cif_flat.proofs.walker.Walker.walk.Goals as goal

pub visit-requires : goal.visit-requires
visit-requires c = record {
  fit = c.requires.fit;
  walking =
      same_walking c.args.items.now c.loop-level.walker _ _ refl
      (subst (IsWalking c.args.items.now c.loop-level.walker) c.in-Some.ensures.items c.loop-level.invariant);
  more = c.if-level.true;
}

pub loop-level-preserved : goal.loop-level-preserved
loop-level-preserved c =
    let h = subst (IsWalking c.args.items.now c.loop-level.walker) c.in-Some.ensures.items c.loop-level.invariant in
    same_walking c.args.items.now c.loop-level.walker _ _ refl
    (walking_back c.args.items.now c.loop-level.walker _ c.in-Some.level h c.if-level.false)

pub returns-clause-ok : goal.returns-clause-ok
returns-clause-ok c =
    let k = c.in_default.ensures.items in
    let e : c.loop-level.walker.levels.items ≡ [] = grind (arith, common_steps, k) in
    walked c.args.items.now c.loop-level.walker c.loop-level.walker.levels.items e c.loop-level.invariant
