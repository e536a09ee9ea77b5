-- What is known of a name.
use Rattle.std.specs.Prelude.{ℕ, List, [], ◌∷◌, ◌++◌, true, false, not, ◌||◌, ◌&&◌, Option, Some, None, unwrap_or, map}
use Rattle.std.specs.Prelude.{filter, suc, if◌then◌else◌}
use Rattle.std.specs.Option.{option_map}
use Rattle.std.specs.List.{list_any}
use Rattle.mp_program.specs.declared.program.Def.{Def}
use Rattle.mp_program.specs.declared.program.Process.{Process}
use Rattle.mp_program.specs.declared.program.Program.{Program}
use Rattle.mp_program.specs.Names.{is_same, is_supply}
use Rattle.mp_rules.specs.Naming.{Naming, def_naming, process_naming}
use Rattle.mp_rules.specs.Rules.{is_unset}
use Rattle.name_meanings.specs.declared.named.Named.{Named}
use Rattle.name_meanings.specs.Seconds.{lesser, second_with}

-- the index of the first definition of a name
abbrev pub first_of : List Def → List ℕ → Option ℕ
first_of [] x = None
first_of (d ∷ ds) x = if is_same d.name x then Some 0 else option_map suc (first_of ds x)

-- the least offset of what has a name
abbrev pub least_offset : List Naming → List ℕ → Option ℕ
least_offset [] x = None
least_offset (n ∷ ns) x = if is_same n.name x then lesser (least_offset ns x) (n.place).offset else least_offset ns x

-- the second least offset of what has a name
abbrev pub second_offset : List Naming → List ℕ → Option ℕ
second_offset [] x = None
second_offset (n ∷ ns) x =
    if is_same n.name x then second_with (least_offset ns x) (second_offset ns x) (n.place).offset
    else second_offset ns x

-- what has a name, among these
abbrev pub namings_in : List Def → List Process → List Naming
namings_in defs processes =
    map def_naming (filter (λ (d : Def). not (is_supply d.what)) defs) ++ map process_naming processes

-- what is known of a name, by these
abbrev pub named_in : List Def → List Process → List ℕ → Named
named_in defs processes x = record {
  first = first_of defs x;
  least = least_offset (namings_in defs processes) x;
  second = second_offset (namings_in defs processes) x;
  process = list_any (λ (q : Process). is_same q.name x) processes;
  unset = list_any (λ (d : Def). is_same d.name x && is_unset d.what) defs;
}

-- what is known of a name in a program
abbrev pub named_of : Program → List ℕ → Named
named_of p x = named_in p.defs p.processes x

-- what is known of a name that nothing has
abbrev pub unnamed : Named
unnamed = record { first = None; least = None; second = None; process = false; unset = false }

-- what is known of a name of a further definition, of this index
abbrev pub with_def : Named → ℕ → Def → Named
with_def n k d = record {
  first = Some (unwrap_or n.first k);
  least = if is_supply d.what then n.least else lesser n.least (d.place).offset;
  second = if is_supply d.what then n.second else second_with n.least n.second (d.place).offset;
  process = n.process;
  unset = n.unset || is_unset d.what;
}

-- what is known of a name of a further process
abbrev pub with_process : Named → Process → Named
with_process n q =
    record {
      first = n.first;
      least = lesser n.least (q.place).offset;
      second = second_with n.least n.second (q.place).offset;
      process = true;
      unset = n.unset;
    }
