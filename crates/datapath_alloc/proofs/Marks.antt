-- Marks, and a path of which nothing is made.
use Rattle.std.proofs.Common.{◌≡◌, ℕ, zero, suc, List, Option, Some, None, length, replicate, refl, sym}
use Rattle.std.proofs.Common.{◌∙◌, ap, subst, arith}
use Rattle.path_order.specs.Order.{start}
use Rattle.std.proofs.lemmas.Bool.{false≢true}
use Rattle.std.proofs.lemmas.Option.{none-some, same_Some}
use Rattle.std.proofs.lemmas.List.{length-replicate}
use Rattle.nor_net.specs.declared.net.NetId.{NetId}
use Rattle.nor_net.specs.declared.net.Part.{Part}
use Rattle.nor_net.specs.declared.net.Part.TheVariants.{Latch}
use Rattle.rtl_form.specs.declared.rtl.Rtl.{Rtl}
use Rattle.control_nor.specs.declared.names.Names.{Names}
use Rattle.control_nor.specs.Lowering.{Stands}
use Rattle.path_order.specs.declared.order.Mark.{Mark}
use Rattle.datapath_making.specs.declared.making.Making.{Making}
use Rattle.datapath_making.proofs.Keeping.{grows_refl}
use Rattle.datapath_making.specs.Growing.{Grows}
use Rattle.datapath_making.specs.Marking.{last_mark}
use Rattle.datapath_making.specs.Steps.{begun, marked}
use Rattle.datapath_making.specs.WellMade.{IsWellMade}
use Rattle.datapath_making.proofs.Beginning.{last_push}
use Rattle.datapath_alloc.specs.Progress.{IsGiven, IsMadeTo, IsProgress, KeepsMarks}
use Rattle.datapath_alloc.proofs.Keeping.{Keeps}
use Rattle.datapath_alloc.proofs.Steps.{begun_kept, cells_kept, exprs_kept}
use Rattle.datapath_alloc.proofs.TaskSteps.{appends_not}

-- ---- marks

pub mark_done : (r : Rtl) (bits : List Part) (names : Names) (i t j c : ℕ) (m : Making)
    → IsProgress r bits names i t j m → IsWellMade (marked c m) → IsProgress r bits names i t j (marked c m)
mark_done r bits names i t j c m p made = record {
  given = p.given;
  begun = begun_kept r bits names m (marked c m) p.begun grows made;
  cells = cells_kept r names m (marked c m) keeps i t j refl refl (appends_not m.slices.net) p.cells;
  exprs = exprs_kept r names m (marked c m) keeps t refl refl p.exprs;
  spends = record {
    nets = p.spends.nets;
    inputs = p.spends.inputs;
    columns = p.spends.columns;
    crossings = p.spends.crossings;
  };
  cleared = p.cleared;
}
  where
    grows : Grows m (marked c m)
    grows = record {
      width = refl;
      control = refl;
      names = refl;
      reset = refl;
      longer = omega arith;
      parts = (grows_refl m).parts;
      chains = (grows_refl m).chains;
      programs = (grows_refl m).programs;
      casts = (grows_refl m).casts;
      lifts = (grows_refl m).lifts;
      cell_count = refl;
      word_count = refl;
      pad_count = refl;
      guard_count = refl;
    }

    keeps : Keeps m (marked c m)
    keeps = record { grows = grows; cells = λ c id h. h; words = λ e id h. h; pads = λ k id h. h }

-- what was made stands with its own control and names
pub rebased : (r : Rtl) (bits : List Part) (names : Names) (i t j : ℕ) (m : Making)
    → IsProgress r bits names i t j m → IsMadeTo r i t j m
rebased r bits names i t j m p =
    subst (λ n. IsProgress r m.control n i t j m) (sym p.begun.names)
    (subst (λ b. IsProgress r b names i t j m) (sym p.begun.control) p)

-- a mark was set
pub marked_done : (r : Rtl) (bits : List Part) (names : Names) (i t j c : ℕ) (m new : Making)
    → IsProgress r bits names i t j m → new ≡ marked c m → IsWellMade new
    → IsProgress r bits names i t j new × ((last_mark new).slices ≡ length new.slices.net)
    × ((last_mark new).control ≡ c)
marked_done r bits names i t j c m new p e made =
    subst (λ n. IsProgress r bits names i t j n × ((last_mark n).slices ≡ length n.slices.net)
    × ((last_mark n).control ≡ c)) (sym e) (
      mark_done r bits names i t j c m p (subst IsWellMade e made),
      ap (λ (k : Mark). k.slices) last,
      ap (λ (k : Mark). k.control) last,
    )
  where
    last : last_mark (marked c m) ≡ (let k : Mark = record { slices = length m.slices.net; control = c } in k)
    last = last_push start (record { slices = length m.slices.net; control = c }) m.marks

-- the marks after two steps
pub keeps_twice : (a b c : Making) → KeepsMarks a b → KeepsMarks b c → KeepsMarks a c
keeps_twice a b c h k = record { names = k.names ∙ h.names; marks = k.marks ∙ h.marks }

-- ---- nothing is made

none_stands : (n k : ℕ) (id : NetId) → Stands (replicate n None) k id → ⊥
none_stands zero k id h = none-some (Some id) h
none_stands (suc n) zero id h = none-some id (same_Some None (Some id) h)
none_stands (suc n) (suc k) id h = none_stands n k id h

pub nothing_made : (r : Rtl) (bits : List Part) (names : Names) (reset : Option NetId) → IsGiven r bits names
    → ((c : ℕ) → r.reset ≡ Some c → (id : NetId) × (reset ≡ Some id) × Stands names.cells c id)
    → IsWellMade (begun r bits names reset) → IsProgress r bits names 0 0 0 (begun r bits names reset)
nothing_made r bits names reset given resets made = record {
  given = given;
  begun = record {
    made = made;
    width = refl;
    control = refl;
    names = refl;
    reset = resets;
    cell_count = length-replicate (length r.cells) None;
    word_count = length-replicate (length r.exprs) None;
    pad_count = length-replicate (length (r.pads).inputs) None;
  };
  cells = record {
    ports = λ c k l w. absurd (omega (arith, l));
    waiting = λ c l a w. absurd (omega (arith, l));
    stored = λ c n l w e. absurd (omega (arith, l));
    driven = λ c w d. absurd (let l = d.1 in omega (arith, l));
    only = λ c id s. absurd (none_stands (length r.cells) c id s);
    pads = λ k pad s. absurd (none_stands (length (r.pads).inputs) k pad s);
    unfed = λ n u. absurd (none-some (Latch u.0 None) u.1);
  };
  exprs = record {
    exprs = λ e x at d. absurd (let l = d.1 in omega (arith, l));
    only = λ e id s. absurd (none_stands (length r.exprs) e id s);
    lifts = λ l c. absurd (let k = c.1 in omega (arith, k));
  };
  spends = record {
    nets = omega arith;
    inputs = omega arith;
    columns = omega arith;
    crossings = omega arith;
  };
  cleared = λ e. absurd (false≢true e);
}
