-- Paths that are reduced.
use Rattle.std.specs.Prelude.{◌≡◌, ◌==◌, ◌||◌, ℕ, Bool, true, false, All}
use Rattle.std.specs.List.{list_any}
use Rattle.nor_net.specs.declared.net.NetId.{NetId}
use Rattle.organelles.specs.declared.slices.Chain.{Chain}
use Rattle.rtl_form.specs.declared.rtl.Rtl.{Rtl}
use Rattle.path_form.specs.declared.path.Cast.{Cast}
use Rattle.path_form.specs.declared.path.DataPath.{DataPath}
use Rattle.path_form.specs.declared.path.Lift.{Lift}
use Rattle.path_form.specs.Shape.{chain_from, entries_of}
use Rattle.path_form.specs.Showing.{ShowsTransfers}
use Rattle.path_form.specs.Sizes.{IsNarrow, IsWithin, is_read}

-- something takes the value of this net of the control
abbrev pub control_reads : DataPath → NetId → Bool
control_reads p id = is_read p.control id.0 || (list_any (λ (l : Lift). l.control.0 == id.0) p.lifts
    || list_any (λ (c : Cast). c.control.0 == id.0) p.casts)

-- of this net of a slice
abbrev pub slice_reads : DataPath → NetId → Bool
slice_reads p id = is_read p.slices.net id.0 || (list_any (λ (l : Lift). l.from.0 == id.0) p.lifts
    || list_any (λ (c : Chain). (chain_from c).0 == id.0) p.slices.chains)

-- of the net of each input pad
pub record IsUsed (p : DataPath) : Type 0 where
  pub control : All (λ id. control_reads p id ≡ true) (entries_of false (p.pads).inputs p.inputs)
  pub slices : All (λ id. slice_reads p id ≡ true) (entries_of true (p.pads).inputs p.inputs)

-- The same pads and word length; what the one shows the other shows, and it is no larger.
pub record IsReducedFrom (p q : DataPath) : Type 0 where
  pub width : q.width ≡ p.width
  pub pads : q.pads ≡ p.pads
  pub shows : (r : Rtl) → p.pads ≡ r.pads → ShowsTransfers r p → ShowsTransfers r q
  pub within : (cost : ℕ) → IsWithin cost p → IsWithin cost q
  pub narrow : (cost : ℕ) → IsNarrow cost p → IsNarrow cost q
