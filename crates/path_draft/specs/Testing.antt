-- Tests of the nets that pads and joints end in, and of marks.
use Rattle.std.specs.Prelude.{◌≡◌, ◌<◌, ◌&&◌, ◌||◌, ◌==◌, ℕ, List, ◌++◌, Some, Bool, true, false, not}
use Rattle.std.specs.Prelude.{All, if◌then◌else◌, length, nat_le, nat_lt, slice_get, slice_index_or}
use Rattle.std.specs.List.{list_all, list_any}
use Rattle.nor_net.specs.declared.net.NetId.{NetId}
use Rattle.nor_net.specs.declared.net.Part.{Part}
use Rattle.nor_net.specs.declared.net.Part.TheVariants.{Latch}
use Rattle.organelles.specs.declared.slices.Chain.{Chain}
use Rattle.organelles.specs.declared.slices.Chain.TheVariants.{Up, Down}
use Rattle.path_form.specs.declared.path.Cast.{Cast}
use Rattle.path_form.specs.declared.path.Lift.{Lift}
use Rattle.path_form.specs.Shape.{AreApart, chain_from, chain_to, is_input, takes_pad, times}
use Rattle.path_order.specs.declared.order.Mark.{Mark}

-- the flag of net n
abbrev pub flag_at : List Bool → ℕ → Bool
flag_at flags n = slice_index_or flags n false

-- each of these nets, of so many, is there once and has its flag, and no other net has one
pub record AreFlags (ids : List NetId) (count : ℕ) (flags : List Bool) : Type 0 where
  pub below : All (λ (id : NetId). id.0 < count) ids
  pub each : (n : ℕ) → times n ids ≡ (if flag_at flags n then 1 else 0)

-- net n is an input
abbrev pub is_input_at : List Part → ℕ → Bool
is_input_at net n = is_input (slice_get net n)

-- all these are
abbrev pub told_inputs : List Part → List NetId → Bool
told_inputs net ids = list_all (λ (id : NetId). is_input_at net id.0) ids

-- a latch has as its data no input but one that is flagged
abbrev pub takes_flagged : List Part → List Bool → Part → Bool
takes_flagged net flags (Latch p (Some m)) = if is_input_at net m.0 then flag_at flags m.0 else true
takes_flagged net flags _ = true

-- latches have as their data no input but these
abbrev pub LatchesFit : List Part → List NetId → Type 0
LatchesFit net inputs = All (λ part. takes_pad net inputs part ≡ true) net

-- the nets of input and output pads, in one band
pub record ArePads (net : List Part) (inputs outputs : List NetId) : Type 0 where
  pub inputs_in : All (λ (id : NetId). id.0 < length net) inputs
  pub outputs_in : All (λ (id : NetId). id.0 < length net) outputs
  pub apart : AreApart (inputs ++ outputs)
  pub latches : LatchesFit net inputs

-- a chain joins two nets of a slice of so many
abbrev pub chain_fits : ℕ → Chain → Bool
chain_fits count c = nat_lt (chain_from c).0 count && (nat_lt (chain_to c).0 count
    && not ((chain_from c).0 == (chain_to c).0))

-- what marks say of a chain, a cast and a lift
abbrev pub chain_marked : List Mark → Chain → Bool
chain_marked marks (Up from to) = list_all (λ (m : Mark). nat_le m.slices to.0 || nat_lt from.0 m.slices) marks
chain_marked marks (Down from to) = list_any (λ (m : Mark). nat_lt from.0 m.slices && nat_le m.slices to.0) marks

abbrev pub cast_marked : List Mark → Cast → Bool
cast_marked marks c = list_any (λ (m : Mark). nat_lt c.control.0 m.control && nat_le m.slices c.slice.0) marks

abbrev pub lift_marked : List Mark → Lift → Bool
lift_marked marks l = list_all (λ (m : Mark). nat_le m.control l.control.0 || nat_lt l.from.0 m.slices) marks

-- what joins a control and w slices of so many nets fits them and the marks
abbrev pub chains_join : ℕ → List Mark → List Chain → Bool
chains_join slices marks chains = list_all (λ c. chain_fits slices c && chain_marked marks c) chains

abbrev pub casts_join : ℕ → List Mark → List Cast → Bool
casts_join control marks casts = list_all (λ (c : Cast). nat_lt c.control.0 control && cast_marked marks c) casts

abbrev pub lift_fits : ℕ → ℕ → Lift → Bool
lift_fits w slices l = nat_lt l.slice w && nat_lt l.from.0 slices

abbrev pub lifts_join : ℕ → ℕ → List Mark → List Lift → Bool
lifts_join w slices marks lifts = list_all (λ (l : Lift). lift_fits w slices l && lift_marked marks l) lifts

-- a mark lies at or behind another
abbrev pub rises : Mark → Mark → Bool
rises from to = nat_le from.slices to.slices && nat_le from.control to.control
