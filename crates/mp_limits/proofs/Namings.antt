-- The definitions and processes that have a name.
use Rattle.std.proofs.Common.{◌≡◌, ◌⊎◌, inl, inr, Bool, true}
use Rattle.std.specs.Prelude.{map, filter, not, Contains}
use Rattle.std.proofs.lemmas.List.Elements.{Contains-append_left, Contains-append_right, Contains-append_cases}
use Rattle.mp_base.proofs.Contents.{contains_map, contains_from_map, contains_from_filter, contains_filter}
use Rattle.mp_program.specs.declared.program.Def.{Def}
use Rattle.mp_program.specs.declared.program.Process.{Process}
use Rattle.mp_program.specs.declared.program.Program.{Program}
use Rattle.mp_program.specs.Names.{is_supply}
use Rattle.mp_rules.specs.Naming.{Naming, namings, def_naming, process_naming}

abbrev pub has_name : Def → Bool
has_name d = not (is_supply d.what)

pub def_named : (p : Program) (x : Def) → Contains p.defs x → has_name x ≡ true
    → Contains (namings p) (def_naming x)
def_named p x c h =
    Contains-append_left (map def_naming (filter has_name p.defs)) (map process_naming p.processes) (def_naming x)
    (contains_map def_naming (filter has_name p.defs) x (contains_filter has_name p.defs x c h))

pub process_named : (p : Program) (q : Process) → Contains p.processes q → Contains (namings p) (process_naming q)
process_named p q c =
    Contains-append_right (map def_naming (filter has_name p.defs)) (map process_naming p.processes) (process_naming q)
    (contains_map process_naming p.processes q c)

pub named : (p : Program) (n : Naming) → Contains (namings p) n
    → ((x : Def) × Contains p.defs x × (has_name x ≡ true) × (def_naming x ≡ n))
    ⊎ ((q : Process) × Contains p.processes q × (process_naming q ≡ n))
named p n c =
    elim (Contains-append_cases (map def_naming (filter has_name p.defs)) (map process_naming p.processes) n c) [
      | inl d ↦ let (x, kept, same) = contains_from_map def_naming (filter has_name p.defs) n d in
          let (there, passes) = contains_from_filter has_name p.defs x kept in inl (x, there, passes, same)
      | inr q ↦ inr (contains_from_map process_naming p.processes n q)
    ]
