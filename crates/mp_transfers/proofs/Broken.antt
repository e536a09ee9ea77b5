-- The rules, from the entries of the tables.
use Rattle.std.proofs.Common.{◌≡◌, ◌⊎◌, inl, inr, ℕ, ◌<◌, List, length, Option}
use Rattle.std.specs.Prelude.{Contains}
use Rattle.mp_base.specs.Entries.{IsAt}
use Rattle.std.proofs.lemmas.List.Elements.{All-contains}
use Rattle.mp_base.specs.declared.refusal.Place.{Place}
use Rattle.mp_program.specs.declared.program.Process.{Process}
use Rattle.mp_program.specs.declared.program.Program.{Program}
use Rattle.mp_program.specs.Sound.{IsSound}
use Rattle.mp_rules.specs.Breaking.{IsEarliest}
use Rattle.mp_rules.specs.Rules.{E30, E31, E32}
use Rattle.mp_transfers.specs.declared.tables.Sought.TheVariants.{Transfer, StackUse}
use Rattle.mp_transfers.specs.Tables.{entry, IsAmong, IsFound, IsSecond, AreFirsts, AreSeconds}
use Rattle.mp_transfers.proofs.Earliest.{found_is, found_covers, InAny}
use Rattle.mp_rules.proofs.EarliestPlaces.{earliest_through}
use Rattle.mp_transfers.proofs.Inside.{always_inside, process_inside}

pub always_broken : (p : Program) (table : List (Option Place)) (found : Option Place) → IsSound p
    → AreFirsts p Transfer table → IsEarliest (IsAmong table p.always) found → IsEarliest (E30 p) found
always_broken p table found s a h = earliest_through (IsAmong table p.always) (E30 p) found h
    (λ at (r, c, e). let (g, y, u, is, t, same) = found_is (IsFound p Transfer r) (entry table r) at (at_root r c) e in
    (g, y, (r, c, u, is), t, same))
    (λ at (g, y, (r, c, u, is), t, same). let (v, e, le) =
    found_covers (IsFound p Transfer r) (entry table r) at (at_root r c) (g, y, u, is, t, same) in (v, (r, c, e), le))
  where
    at_root : (r : ℕ) → Contains p.always r → IsEarliest (IsFound p Transfer r) (entry table r)
    at_root r c = a.entries r (All-contains (λ f. f < length p.forms) p.always r (always_inside p s) c)

pub stack_broken : (p : Program) (table : List (Option Place)) (found : Option Place) → IsSound p
    → AreFirsts p StackUse table
    → IsEarliest
    (λ at. ⊥ ⊎ InAny p.processes (λ k (q : Process) at. (q.depth ≡ 0) × IsAmong table q.forms at) at) found
    → IsEarliest (E31 p) found
stack_broken p table found s a h =
    earliest_through (λ at. ⊥ ⊎ InAny p.processes (λ k (q : Process) at. (q.depth ≡ 0) × IsAmong table q.forms at) at)
    (E31 p) found h
    (λ at there. elim there [
      | inl n ↦ absurd n
      | inr (k, q, is, (none, (r, c, e))) ↦
          (let (g, y, u, is_y, t, same) = found_is (IsFound p StackUse r) (entry table r) at (at_root k q r is c) e in
          (k, q, g, y, is, none, (r, c, u, is_y), t, same))
    ])
    (λ at (k, q, g, y, is, none, (r, c, u, is_y), t, same).
    let (v, e, le) =
    found_covers (IsFound p StackUse r) (entry table r) at (at_root k q r is c) (g, y, u, is_y, t, same) in
    (v, inr (k, q, is, (none, (r, c, e))), le))
  where
    at_root : (k : ℕ) (q : Process) (r : ℕ) → IsAt p.processes k q → Contains q.forms r
        → IsEarliest (IsFound p StackUse r) (entry table r)
    at_root k q r is c = a.entries r (All-contains (λ f. f < length p.forms) q.forms r (process_inside p s k q is) c)

pub second_broken : (p : Program) (table : List (Option Place)) (found : Option Place) → IsSound p → AreSeconds p table
    → IsEarliest (λ at. ⊥ ⊎ InAny p.processes (λ k (q : Process) at. IsAmong table q.forms at) at) found
    → IsEarliest (E32 p) found
second_broken p table found s a h =
    earliest_through (λ at. ⊥ ⊎ InAny p.processes (λ k (q : Process) at. IsAmong table q.forms at) at) (E32 p) found h
    (λ at there. elim there [
      | inl n ↦ absurd n
      | inr (k, q, is, (r, c, e)) ↦
          (let (b, z, later, same) = found_is (IsSecond p r) (entry table r) at (at_root k q r is c) e in
          (k, q, r, b, z, is, c, later, same))
    ])
    (λ at (k, q, r, b, z, is, c, later, same).
    let (v, e, le) = found_covers (IsSecond p r) (entry table r) at (at_root k q r is c) (b, z, later, same) in
    (v, inr (k, q, is, (r, c, e)), le))
  where
    at_root : (k : ℕ) (q : Process) (r : ℕ) → IsAt p.processes k q → Contains q.forms r
        → IsEarliest (IsSecond p r) (entry table r)
    at_root k q r is c = a.entries r (All-contains (λ f. f < length p.forms) q.forms r (process_inside p s k q is) c)
