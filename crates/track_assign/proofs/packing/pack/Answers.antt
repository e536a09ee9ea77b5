use Rattle.std.proofs.Common.{ℕ, List, ◌≡◌, ◌<◌, length, ◌∙◌, sym, subst, IsPermutation, All, Vec, vec_len}
use Rattle.track_assign.specs.declared.rows.Entry.{Entry}
use Rattle.track_assign.specs.Rows.{entries_from, AreAscending, AreDistinct}
use Rattle.track_assign.specs.Density.{AreApart, IsDensity}
use Rattle.std.specs.declared.alloc.Global.{Global}
use Rattle.track_assign.proofs.Whole.{distinct, inside, ascending, within, apart, density, longs}
use Rattle.track_assign.proofs.packing.pack.Goals as goal

vec_len_is : (v : Vec ℕ Global) → vec_len v ≡ length v.items
vec_len_is v = v.ok.0

pub assign-requires-clause-ascending : goal.assign-requires-clause-ascending
assign-requires-clause-ascending c =
    let sorted = c.in_ok-entries.ensures in
    subst AreAscending (sym c.deref.ensures.value)
    (ascending c.args.intervals.now c.in_ok-entries.entries.items sorted.permuted sorted.ascending
    c.requires.within)

pub assign-requires-clause-inside : goal.assign-requires-clause-inside
assign-requires-clause-inside c =
    subst (λ (es : List Entry). All (λ (e : Entry). e.index < length es) es) (sym c.deref.ensures.value)
    (inside c.args.intervals.now c.in_ok-entries.entries.items c.in_ok-entries.ensures.permuted)

pub assign-requires-clause-distinct : goal.assign-requires-clause-distinct
assign-requires-clause-distinct c =
    subst AreDistinct (sym c.deref.ensures.value)
    (distinct c.args.intervals.now c.in_ok-entries.entries.items c.in_ok-entries.ensures.permuted)

pub returns-clause-within : goal.returns-clause-within
returns-clause-within c =
    let xs = c.args.intervals.now in
    let es : List Entry = c.deref.result.now in
    let rows = c.in_ok-row.field-0 in
    let v = c.in_ok-row.ensures in
    let moved : IsPermutation (entries_from 0 xs) es =
    subst (IsPermutation (entries_from 0 xs)) (sym c.deref.ensures.value) c.in_ok-entries.ensures.permuted in
    let long : length rows.row.items ≡ length xs = v.sized ∙ longs xs es moved in
    let w = within xs es moved rows.row.items v.packed.rows rows.ends.items rows.column v.packed.packing v.packed.at
    long in
    subst (λ row. All (λ r. r < c.len.result) row) (sym c.from_vec.ensures)
    (subst (λ n. All (λ r. r < n) rows.row.items) (sym (c.len.ensures ∙ vec_len_is rows.ends)) w)

pub returns-clause-apart : goal.returns-clause-apart
returns-clause-apart c =
    let xs = c.args.intervals.now in
    let es : List Entry = c.deref.result.now in
    let rows = c.in_ok-row.field-0 in
    let v = c.in_ok-row.ensures in
    let moved : IsPermutation (entries_from 0 xs) es =
    subst (IsPermutation (entries_from 0 xs)) (sym c.deref.ensures.value) c.in_ok-entries.ensures.permuted in
    subst (AreApart xs) (sym c.from_vec.ensures)
    (apart xs es moved rows.row.items v.packed.rows rows.ends.items rows.column v.packed.packing v.packed.at)

pub returns-clause-density : goal.returns-clause-density
returns-clause-density c =
    let xs = c.args.intervals.now in
    let es : List Entry = c.deref.result.now in
    let rows = c.in_ok-row.field-0 in
    let v = c.in_ok-row.ensures in
    let moved : IsPermutation (entries_from 0 xs) es =
    subst (IsPermutation (entries_from 0 xs)) (sym c.deref.ensures.value) c.in_ok-entries.ensures.permuted in
    subst (λ n. IsDensity xs n rows.column) (sym (c.len.ensures ∙ vec_len_is rows.ends))
    (density xs es moved rows.row.items v.packed.rows rows.ends.items rows.column v.packed.packing v.packed.at)
