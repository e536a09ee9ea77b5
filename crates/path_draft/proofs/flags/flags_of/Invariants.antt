use Rattle.std.proofs.Common.{◌≡◌, ◌<◌, length, take}
use Rattle.std.specs.Prelude.{All}
use Rattle.nor_net.specs.declared.net.NetId.{NetId}
use Rattle.path_draft.proofs.Telling.{AreTold}
use Rattle.path_draft.proofs.flags.flags_of.Given as goal

abbrev pub invariant-loop-id : goal.invariant-loop-id
invariant-loop-id l = record {
  size : length l.flags ≡ l.count;
  below : All (λ (id : NetId). id.0 < l.count) (take l.id-index l.ids);
  told : AreTold (take l.id-index l.ids) l.flags;
}
