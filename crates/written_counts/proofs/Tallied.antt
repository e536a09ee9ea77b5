-- The tallies of functions, one after another, and what is known where their bodies are counted.
use Rattle.std.proofs.Common.{◌≡◌, ◌∙◌, ℕ, zero, suc, ◌+◌, ◌*◌, ◌<◌, List, [], ◌∷◌, ◌++◌, refl, sym, ap, subst, arith}
use Rattle.std.proofs.Common.{inl, inr}
use Rattle.std.proofs.Common.{length, length-append, take}
use Rattle.std.specs.Prelude.{Option, Some, None, Contains, min, slice_index, slice_index_or, slice_get}
use Rattle.std.proofs.lemmas.Option.{slice_get_within}
use Rattle.mp_base.specs.Entries.{IsAt}
use Rattle.mp_base.proofs.Entries.{get_map, push_cases}
use Rattle.mp_written.specs.declared.program.Expr.{Expr}
use Rattle.mp_written.specs.declared.program.Program.{Program}
use Rattle.mp_written.specs.Functions.{Function, functions}
use Rattle.mp_written.specs.Sound.{Under, InBody}
use Rattle.mp_written.specs.Expansion.{tops}
use Rattle.mp_written.proofs.Soundness.{sound}
use Rattle.mp_written.proofs.Roots.{one_body, in_no_body, is_guard}
use Rattle.written_meanings.specs.declared.functions.Body.{Body}
use Rattle.written_meanings.specs.declared.meanings.Meaning.{Meaning}
use Rattle.written_meanings.specs.declared.meanings.Meanings.{Meanings}
use Rattle.written_meanings.specs.Meanings.{AreMeanings, IsMeaning, IsOwner, args_around, args_of, argument, body_of}
use Rattle.written_meanings.specs.Meanings.{usable, used}
use Rattle.written_counts.specs.declared.tally.Tally.{Tally}
use Rattle.written_counts.specs.declared.tally.Measure.{Measure}
use Rattle.written_counts.specs.Counts.{Count, body_count, count_in, function_counts, no_count}
use Rattle.written_counts.specs.Tallies.{Adds, AreCosts, AreTallies, IsCapped, IsNothing, IsOpen, IsReady, IsScoped}
use Rattle.written_counts.specs.Tallies.{IsTally}
use Rattle.written_counts.specs.Tallies.{cost, count_at}
use Rattle.written_counts.proofs.Readiness.{count_length}

owned_by : (w : Program) (k : ℕ) (f : Function) (d : ℕ) → InBody w k f d → (o : Option ℕ) → IsOwner w d o → o ≡ Some k
owned_by w k f d here (Some l) (g, there) = ap (λ j. Some j) (one_body w l k g f d there here)
owned_by w k f d here None none = absurd (none k f here)

owned_by_none : (w : Program) (t d : ℕ) → Contains (tops w) t → Under w.exprs t d → (o : Option ℕ) → IsOwner w d o
    → o ≡ None
owned_by_none w t d c under (Some l) (g, there) = absurd (in_no_body w t (is_guard w t c) l g d under there)
owned_by_none w t d c under None none = refl

scoped_by : (w : Program) (d : ℕ) (x : Expr) (n : Meaning) (owner : Option ℕ) → IsMeaning w d x n → n.owner ≡ owner
    → IsScoped w owner x n
scoped_by w d x n owner is e = record {
  argument = is.argument ∙ ap (λ o. argument (args_around (functions w) o) x.kind) e;
  function = is.function ∙ ap (λ o. used (usable (functions w) o) x.kind) e;
}

-- the entry of a list
pub body_at : (bs : List Body) (k : ℕ) (none : Body) → k < length bs → IsAt bs k (slice_index_or bs k none)
body_at [] k none lt = absurd (omega (arith, lt))
body_at (b ∷ bs) zero none lt = refl
body_at (b ∷ bs) (suc k) none lt = body_at bs k none (omega (arith, lt))

pub body_entry : (w : Program) (ms : Meanings) → AreMeanings w ms → (k : ℕ) (b : Body) → IsAt ms.bodies k b
    → (f : Function) × IsAt (functions w) k f × (f.body ≡ b.expr) × (length f.args ≡ b.args)
body_entry w ms meant k b at =
    let (f, here, same) = get_map body_of (functions w) k b (subst (λ bs. IsAt bs k b) meant.bodies at) in
    (f, here, ap (λ (c : Body). c.expr) same, ap (λ (c : Body). c.args) same)

zeros_open : (cap : ℕ) (t : Tally) (args : ℕ) → IsNothing args t → IsCapped cap t
zeros_open cap t args is = record {
  own = (let e = is.own in omega (arith, e));
  times = λ i. (let e = is.times i in omega (arith, e));
}

module _ (m : Measure) (w : Program) (ms : Meanings) (cap : ℕ) (costs : List ℕ) (meant : AreMeanings w ms)
    (costly : AreCosts m w costs) (ts : List Tally) where
  -- a body, where the functions before are counted
  pub ready_body : (k : ℕ) (f : Function) → IsAt (functions w) k f → AreTallies m w cap k ts
      → IsReady m w ms cap costs ts (Some k) f.body
  ready_body k f here tallies = record {
    inside = ((sound w).defs k f here).body;
    as_many = meant.as_many;
    scoped = λ d x n under at there.
        (let is = meant.exprs d x n at there in
        scoped_by w d x n (Some k) is (owned_by w k f d (here, under) n.owner is.owner));
    costs_are = costly;
    within = (let lt = slice_get_within (functions w) k f here in omega (arith, lt));
    tallies = tallies;
  }

  -- a guard or value, where all functions are counted
  pub ready_top : (t : ℕ) → Contains (tops w) t → t < length w.exprs → AreTallies m w cap (length (functions w)) ts
      → IsReady m w ms cap costs ts None t
  ready_top t c inside tallies = record {
    inside = inside;
    as_many = meant.as_many;
    scoped = λ d x n under at there.
        (let is = meant.exprs d x n at there in
        scoped_by w d x n None is (owned_by_none w t d c under n.owner is.owner));
    costs_are = costly;
    within = omega arith;
    tallies = tallies;
  }

pub open_body : (w : Program) (cap k : ℕ) (f : Function) (args : ℕ) (t : Tally) → IsAt (functions w) k f
    → length f.args ≡ args → IsNothing args t → IsOpen cap w (Some k) t
open_body w cap k f args t here same is = record {
  capped = zeros_open cap t args is;
  room = (let around : length (args_around (functions w) (Some k)) ≡ length f.args = ap (λ o. length
      (args_of o)) here in
      let size = is.size in omega (arith, around, same, size));
}

-- what was added once to nothing
pub tally_of : (cap args : ℕ) (c : Count) (zero_ sum : Tally) → IsNothing args zero_ → Adds cap 1 c zero_ sum
    → IsTally cap c sum
tally_of cap args c zero_ sum is adds = record {
  own = adds.own ∙ (let e = is.own in let one : 1 * c.own ≡ c.own = grind arith in
      let s : zero_.own + 1 * c.own ≡ c.own = omega (arith, e, one) in ap (min cap) s);
  times = λ i. adds.times i ∙ (let e = is.times i in let one : 1 * c.times i ≡ c.times i = grind arith in
      let s : slice_index zero_.times i + 1 * c.times i ≡ c.times i = omega (arith, e, one) in ap (min cap) s);
}

front_index : (xs ys : List Count) (j : ℕ) → j < length xs
    → slice_index_or (xs ++ ys) j no_count ≡ slice_index_or xs j no_count
front_index [] ys j lt = absurd (omega (arith, lt))
front_index (x ∷ xs) ys zero lt = refl
front_index (x ∷ xs) ys (suc j) lt = front_index xs ys j (omega (arith, lt))

last_index : (xs : List Count) (y : Count) (j : ℕ) → j ≡ length xs → slice_index_or (xs ++ y ∷ []) j no_count ≡ y
last_index [] y zero e = refl
last_index [] y (suc j) e = absurd (cc)
last_index (x ∷ xs) y zero e = absurd (cc)
last_index (x ∷ xs) y (suc j) e = last_index xs y j (omega (arith, e))

-- one function more
pub tallies_more : (m : Measure) (w : Program) (cap k : ℕ) (ts : List Tally) (f : Function) (t : Tally)
    → IsAt (functions w) k f → AreTallies m w cap k ts → IsTally cap (count_at m w (Some k) f.body) t
    → AreTallies m w cap (suc k) (ts ++ t ∷ [])
tallies_more m w cap k ts f t here tallies is = record {
  size = (let size = tallies.size in let longer = length-append ts (t ∷ []) in omega (arith, size, longer));
  each = λ j u at. elim (push_cases ts t j u at) [
    | inl (below, old) ↦
        (let size = tallies.size in
        let front = front_index before (new ∷ []) j (omega (arith, below, size, many)) in
        subst (λ c. IsTally cap c u) (sym front) (tallies.each j u old))
    | inr (last, same) ↦
        (let size = tallies.size in
        let e : j ≡ length before = omega (arith, last, size, many) in
        subst (λ c. IsTally cap c u) (sym (last_index before new j e))
        (subst (IsTally cap new) same (subst (λ c. IsTally cap c t) (sym new_is) is)))
  ];
}
  where
    before : List Count
    before = function_counts (cost m w) w.exprs (functions w) k

    new : Count
    new = body_count (cost m w) w.exprs (take k (functions w)) before (slice_get (functions w) k)

    many : length before ≡ k
    many = count_length (cost m w) w.exprs (functions w) k

    new_is : new ≡ count_at m w (Some k) f.body
    new_is =
        ap (body_count (cost m w) w.exprs (take k (functions w)) before) here
        ∙ ap (λ o. count_in (cost m w) (take k (functions w)) before (args_of o) w.exprs f.body)
        (sym here)
