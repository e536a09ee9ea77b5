-- What a log of files says. Its names and texts are parts of one run of bytes.
use Rattle.std.specs.Prelude.{ℕ, List, [], ◌++◌, Bool, ◌&&◌, nat_le, fold, if◌then◌else◌}
use Rattle.std.specs.List.{list_all, slice_range}
use Rattle.std.specs.FinMap.{insert, empty}
use Rattle.outside.specs.Outside.{Files, bytes_of}
use Rattle.outside_doubles.specs.declared.quiet_log.Part.{Part}
use Rattle.outside_doubles.specs.declared.quiet_log.Entry.{Entry}

-- the bytes of a part
abbrev pub part_of : List ℕ → Part → List ℕ
part_of bytes p = slice_range bytes p.start p.end

-- a part of so many bytes
abbrev pub is_part : ℕ → Part → Bool
is_part count p = nat_le p.start p.end && nat_le p.end count

-- all names and texts are parts of so many bytes
abbrev pub are_parts : ℕ → List Entry → Bool
are_parts count entries = list_all (λ e. is_part count e.name && is_part count e.text) entries

-- the files behind an entry: a file is set to a text, or gains it
abbrev pub files_behind : List ℕ → Files → Entry → Files
files_behind bytes files e =
    let name = part_of bytes e.name in
    insert files name ((if e.sets then [] else bytes_of files name) ++ part_of bytes e.text)

-- the files behind all entries
abbrev pub files_in : List ℕ → List Entry → Files
files_in bytes entries = fold (files_behind bytes) empty entries
