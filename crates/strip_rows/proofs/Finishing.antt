-- What has been swept when all rows above are blank is all.
use Rattle.std.proofs.Common.{◌≡◌, ℕ, ◌+◌, ◌<◌, ◌≤◌, length, get_or, arith, sym, subst, inl, inr, cond, eqb}
use Rattle.std.proofs.lemmas.Bool.{cases_lt}
use Rattle.std.proofs.lemmas.Bool.Decides.{nat_tests}
use Rattle.mask_runs.specs.declared.run.Run.{Run}
use Rattle.mask_runs.specs.Runs.{IsRun}
use Rattle.strip_rows.specs.declared.strip.Strip.{Strip}
use Rattle.union_find.specs.declared.pair.Pair.{Pair}
use Rattle.strip_rows.specs.declared.rows.StripRows.{StripRows}
use Rattle.strip_rows.specs.Strips.{run_of, IsStrip, AreStrips, strip, no_strip}
use Rattle.strip_rows.specs.Touching.{Touch, AreTouching}
use Rattle.strip_rows.specs.Swept.{HasBegun, ended, open_, IsSwept, upto, strips_of}

-- a blank row has no run
pub no_run : (colour : ℕ → ℕ) → ((c : ℕ) → colour c ≡ 0) → (r : Run) → IsRun colour r → ⊥
no_run colour blank r h =
    let w = h.wide in let s = h.some in let e = h.each r.left (omega arith) (omega arith) in let b = blank r.left in
    omega arith

-- a strip that has begun has ended
all_ended : (colour : ℕ → ℕ → ℕ) (y : ℕ) (s : Strip) → ((z c : ℕ) → y ≤ z → colour z c ≡ 0) → HasBegun colour y s
    → IsStrip colour s × (s.high ≤ y)
all_ended colour y s blank (ended h b) = (h, b)
all_ended colour y s blank (open_ h e) =
    absurd (no_run (colour y) (λ c. blank y c (omega arith)) (run_of s) (h.each y h.start (omega arith)))

-- no strip ends above the last row
all_by : (colour : ℕ → ℕ → ℕ) (y : ℕ) (s : Strip) → ((z c : ℕ) → y ≤ z → colour z c ≡ 0) → IsStrip colour s → s.high ≤ y
all_by colour y s blank h = elim (cases_lt y s.high) [
  | inr k ↦ k
  | inl k ↦ let t = h.tall in elim (cases_lt y s.low) [
    | inl l ↦
        absurd (no_run (colour s.low) (λ c. blank s.low c (omega arith)) (run_of s) (h.each s.low (omega arith) t))
    | inr l ↦ absurd (no_run (colour y) (λ c. blank y c (omega arith)) (run_of s) (h.each y l k))
  ]
]

pub are_strips : (colour : ℕ → ℕ → ℕ) (y : ℕ) (s : StripRows) → IsSwept colour y s
    → ((z c : ℕ) → y ≤ z → colour z c ≡ 0) → AreStrips colour (strips_of s)
are_strips colour y s w blank = record {
  each = λ k d l. (all_ended colour y _ blank (w.each k d l)).0;
  all = λ t h. w.all t h (all_by colour y t blank h);
  ascending = w.ascending;
}

-- a strip that has ended is what it was upto any row
pub upto-ended : (y : ℕ) (s : Strip) → 0 < s.high → upto y s ≡ s
upto-ended y s h = let e : cond (eqb s.high 0) (y + 1) s.high ≡ s.high = grind (arith, nat_tests) in
    λ i. record s { high = e i }

upto_is : (colour : ℕ → ℕ → ℕ) (y : ℕ) (s : StripRows) → IsSwept colour y s → ((z c : ℕ) → y ≤ z → colour z c ≡ 0)
    → (n : ℕ) → n < length (strips_of s) → upto y (strip (strips_of s) n) ≡ strip (strips_of s) n
upto_is colour y s w blank n l =
    let t = (all_ended colour y _ blank (w.each n no_strip l)).0.tall in
    upto-ended y (strip (strips_of s) n) (omega arith)

pub are_touching : (colour : ℕ → ℕ → ℕ) (y : ℕ) (s : StripRows) → IsSwept colour y s
    → ((z c : ℕ) → y ≤ z → colour z c ≡ 0)
    → AreTouching (strips_of s) s.pairs.items
are_touching colour y s w blank = record {
  each = λ k d l. let t = w.touching k d l in let p : Pair = get_or s.pairs.items k d in
      let o = t.ordered in let i = t.within in record {
        ordered = o;
        within = i;
        touch = subst (λ b. Touch (strip (strips_of s) p.a) b) (upto_is colour y s w blank p.b i)
            (subst (λ a. Touch a (upto y (strip (strips_of s) p.b)))
            (upto_is colour y s w blank p.a (omega arith)) t.touch);
      };
  all = λ p t. let o = t.ordered in let i = t.within in w.touch p (record {
    ordered = o;
    within = i;
    touch = subst (λ b. Touch (upto y (strip (strips_of s) p.a)) b) (sym (upto_is colour y s w blank p.b i))
        (subst (λ a. Touch a (strip (strips_of s) p.b)) (sym (upto_is colour y s w blank p.a (omega arith))) t.touch);
  });
  once = w.once;
}
