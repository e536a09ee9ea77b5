-- All that has been swept is right one row further up.
use Rattle.std.proofs.Common.{◌≡◌, ℕ, ◌<◌, ◌≤◌, ◌+◌, List, length, get_or, arith, subst, ◌∙◌}
use Rattle.std.specs.Prelude.{All}
use Rattle.std.proofs.lemmas.List.Elements.{All-contains, All-from_get_or, Contains-get_or}
use Rattle.mask_runs.specs.declared.run.Run.{Run}
use Rattle.union_find.specs.declared.pair.Pair.{Pair}
use Rattle.strip_rows.specs.declared.strip.Strip.{Strip}
use Rattle.strip_rows.specs.declared.rows.StripRows.{StripRows}
use Rattle.strip_rows.specs.Changes.{LieInRow, IsChange}
use Rattle.strip_rows.specs.Swept.{IsSwept, strips_of}
use Rattle.strip_rows.specs.Missing.{run, no_run, AreMissing}
use Rattle.strip_rows.specs.Steps.{AreEnded, HaveBegun, AreUpon, AreBeside}
use Rattle.strip_rows.proofs.Turning.{IsStepped, turned}
use Rattle.strip_rows.proofs.Stepping.{all_begun, all_ended, open_now, ascending_now}
use Rattle.strip_rows.proofs.Meeting.{IsPaired, each_touches, all_paired, paired_once}

-- runs that another list lacks lie in the row
pub lost_within : (cells : ℕ) (runs among lost : List Run) → LieInRow cells runs → AreMissing runs among lost
    → All (λ r. r.left < cells) lost
lost_within cells runs among lost h m = All-from_get_or (λ r. r.left < cells) lost no_run (λ i l.
    let c = (m.each (run lost i) (Contains-get_or lost i no_run l)).0 in
    let a = All-contains (λ r. r.right ≤ cells) runs (run lost i) h.within c in
    let b = All-contains (λ r. r.left < r.right) runs (run lost i) h.wide c in omega arith)

pub upon_same : (numbers numbers' : List ℕ) (lost lost' fresh fresh' : List Run) (first : ℕ) (old now : List Pair)
    → numbers' ≡ numbers → lost' ≡ lost
    → fresh' ≡ fresh → AreUpon numbers' first lost' fresh' (length lost') (length fresh') old now
    → AreUpon numbers first lost fresh (length lost) (length fresh) old now
upon_same numbers numbers' lost lost' fresh fresh' first old now e f g h =
    subst (λ n. AreUpon n first lost fresh (length lost) (length fresh) old now) e
    (subst (λ l. AreUpon numbers' first l fresh (length l) (length fresh) old now) f
    (subst (λ l. AreUpon numbers' first lost' l (length lost') (length l) old now) g h))

pub ended_same : (numbers numbers' : List ℕ) (lost lost' : List Run) (row : ℕ) (old now : List Strip)
    → numbers' ≡ numbers → lost' ≡ lost
    → AreEnded numbers' lost' (length lost') row old now → AreEnded numbers lost (length lost) row old now
ended_same numbers numbers' lost lost' row old now e f h =
    subst (λ n. AreEnded n lost (length lost) row old now) e
    (subst (λ l. AreEnded numbers' l (length l) row old now) f h)

pub begun_same : (fresh fresh' : List Run) (row : ℕ) (old now : List Strip) (numbers next : List ℕ) → fresh' ≡ fresh
    → HaveBegun fresh' (length fresh') row old now numbers next
    → HaveBegun fresh (length fresh) row old now numbers next
begun_same fresh fresh' row old now numbers next e h = subst (λ l. HaveBegun l (length l) row old now numbers next) e h

pub beside_same : (numbers numbers' : List ℕ) (first : ℕ) (runs : List Run) (old now : List Pair) → numbers' ≡ numbers
    → AreBeside numbers' first runs (length runs) old now → AreBeside numbers first runs (length runs) old now
beside_same numbers numbers' first runs old now e h = subst (λ n. AreBeside n first runs (length runs) old now) e h

-- what one step has done makes what is swept
pub advanced : (colour : ℕ → ℕ → ℕ) (y row : ℕ) (w v : StripRows) (olds news lost fresh : List Run) (mid : List Strip)
    (first : ℕ) (half : List Pair)
    → IsSwept colour y w → IsChange colour y olds news → (cells : ℕ) → LieInRow cells news → row ≡ y + 1 → v.row ≡ row
    → first ≡ length (strips_of w)
    → AreMissing olds news lost → AreMissing news olds fresh
    → AreUpon w.numbers.items first lost fresh (length lost) (length fresh) w.pairs.items half
    → AreEnded w.numbers.items lost (length lost) row (strips_of w) mid
    → HaveBegun fresh (length fresh) row mid (strips_of v) w.numbers.items v.numbers.items
    → AreBeside v.numbers.items first news (length news) half v.pairs.items
    → IsSwept colour (y + 1) v
advanced colour y row w v olds news lost fresh mid first half sw ch cells lie e re fe l f up en be bs =
    let t : IsStepped colour y w lost fresh mid (strips_of v) v.numbers.items = record {
      swept = sw;
      turn = turned colour y olds news lost fresh ch l f;
      ended = subst (λ n. AreEnded w.numbers.items lost (length lost) n (strips_of w) mid) e en;
      begun = subst (λ n. HaveBegun fresh (length fresh) n mid (strips_of v) w.numbers.items v.numbers.items) e be;
    } in
    let x : IsPaired colour y w olds news lost fresh mid (strips_of v) v.numbers.items first half v.pairs.items =
    record {
      stepped = t;
      first_is = fe;
      change = ch;
      apart = record { wide = lie.wide; ascending = lie.ascending };
      among = λ r c. (f.each r c).0;
      upon = up;
      beside = bs;
    } in record {
      row = re ∙ e;
      each = all_begun colour y w lost fresh mid (strips_of v) v.numbers.items t;
      all = all_ended colour y w lost fresh mid (strips_of v) v.numbers.items t;
      open_ = open_now colour y w lost fresh mid (strips_of v) v.numbers.items t;
      ascending = ascending_now colour y w lost fresh mid (strips_of v) v.numbers.items t;
      touching =
          λ k d i. each_touches colour y w olds news lost fresh mid
          (strips_of v) v.numbers.items first half v.pairs.items x (get_or v.pairs.items k d)
          (Contains-get_or v.pairs.items k d i);
      touch = all_paired colour y w olds news lost fresh mid
          (strips_of v) v.numbers.items first half v.pairs.items x;
      once = paired_once colour y w olds news lost fresh mid
          (strips_of v) v.numbers.items first half v.pairs.items x l.apart;
    }
