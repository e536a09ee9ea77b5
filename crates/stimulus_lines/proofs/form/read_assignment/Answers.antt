use Rattle.std.proofs.Common.{◌≡◌, ◌≢◌, ℕ, ◌+◌, ◌-◌, List, ◌<◌, false, take, drop, length, get_or, sym, subst}
use Rattle.std.proofs.lemmas.Bool.{both_ways}
use Rattle.std.proofs.lemmas.List.{take_rest}
use Rattle.stimulus_lines.specs.Forms.{is_name, IsNumber}
use Rattle.stimulus_lines.proofs.Numbers.{has_equals, assigned_in}
use Rattle.stimulus_lines.proofs.form.read_assignment.Goals as goal

pub returns-in_default : goal.returns-in_default
returns-in_default c =
    λ a h. has_equals c.args.word.now a c.bytes-bytes.result.now c.bytes-bytes.ensures h c.in_default.ensures

pub returns-in_default-number : goal.returns-in_default-number
returns-in_default-number c = λ a h.
    let found : (c.in-Some.equals < length c.bytes-bytes.result.now)
    × (get_or c.bytes-bytes.result.now c.in-Some.equals 0 ≡ 61)
    × ((k : ℕ) → c.in-Some.equals < k → k < length c.bytes-bytes.result.now
    → get_or c.bytes-bytes.result.now k 0 ≢ 61) = c.in-Some.ensures in
    let bytes : List ℕ = c.bytes-bytes.result.now in
    let rest : ℕ = c.in-Some.equals + 1 in
    let none : (n : ℕ) → IsNumber (take (length bytes - rest) (drop rest bytes)) n → ⊥ = c.in_default-number.ensures in
    let P : List ℕ → Type 0 = λ ds. IsNumber ds a.value in
    none a.value
    (subst P (sym (take_rest bytes rest))
    (assigned_in c.args.word.now a bytes c.in-Some.equals c.bytes-bytes.ensures h found.0 found.1 found.2).1)

pub returns-then-not-is_name : goal.returns-then-not-is_name
returns-then-not-is_name c = λ a h.
    let found : (c.in-Some.equals < length c.bytes-bytes.result.now)
    × (get_or c.bytes-bytes.result.now c.in-Some.equals 0 ≡ 61)
    × ((k : ℕ) → c.in-Some.equals < k → k < length c.bytes-bytes.result.now
    → get_or c.bytes-bytes.result.now k 0 ≢ 61) = c.in-Some.ensures in
    let bad : false ≡ is_name (take c.in-Some.equals c.bytes-bytes.result.now) = c.if-not-is_name.ensures in
    both_ways _ (sym bad)
    (assigned_in c.args.word.now a c.bytes-bytes.result.now c.in-Some.equals c.bytes-bytes.ensures h found.0 found.1
    found.2).0
