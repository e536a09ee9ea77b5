-- Commands that are held.
use Rattle.std.specs.Prelude.{◌≡◌, [], map, slice_get}
use Rattle.std.specs.Option.{IsSomeAnd, option_map_or}
use Rattle.cif_form.specs.declared.command.Command.{Command}
use Rattle.cif_form.specs.declared.command.Command.TheVariants as commands
use Rattle.cif_list.specs.declared.store.Head.{Head}
use Rattle.cif_list.specs.declared.store.Head.TheVariants.{Polygon, Box, Round, Wire, Layer, Start, Finish, Delete}
use Rattle.cif_list.specs.declared.store.Head.TheVariants.{Plain, Call, User, Comment}
use Rattle.cif_list.specs.declared.store.Store.{Store}
use Rattle.cif_list.specs.Growing.{IsGrown, IsPart, part}
use Rattle.cif_list.specs.Turning.{wide_turn}

-- the command of a head
abbrev pub command_of : Store → Head → Command
command_of s (Polygon path) = commands.Polygon (part s.points.items path)
command_of s (Box k) =
    option_map_or (λ p. commands.Box p.length p.width p.center p.direction) (slice_get s.boxes.items k) commands.Finish
command_of s (Round k) =
    option_map_or (λ p. commands.Round p.diameter p.center) (slice_get s.rounds.items k) commands.Finish
command_of s (Wire k) =
    option_map_or (λ p. commands.Wire p.width (part s.points.items p.path)) (slice_get s.wires.items k) commands.Finish
command_of s (Layer name) = commands.Layer (part s.texts.items name)
command_of s (Start k) =
    option_map_or (λ p. commands.Start p.number p.a p.b) (slice_get s.starts.items k) commands.Finish
command_of s Finish = commands.Finish
command_of s (Delete number) = commands.Delete number
command_of s (Plain number) = commands.Call number []
command_of s (Call k) =
    option_map_or (λ p. commands.Call p.number (map wide_turn (part s.turns.items p.turns)))
    (slice_get s.calls.items k) commands.Finish
command_of s (User digit text) = commands.User digit (part s.texts.items text)
command_of s (Comment text) = commands.Comment (part s.texts.items text)

-- what the head names is there
abbrev pub IsHeld : Store → Head → Type 0
IsHeld s (Polygon path) = IsPart s.points.items path
IsHeld s (Box k) = IsSomeAnd (slice_get s.boxes.items k) (λ _. Unit {0})
IsHeld s (Round k) = IsSomeAnd (slice_get s.rounds.items k) (λ _. Unit {0})
IsHeld s (Wire k) = IsSomeAnd (slice_get s.wires.items k) (λ p. IsPart s.points.items p.path)
IsHeld s (Layer name) = IsPart s.texts.items name
IsHeld s (Start k) = IsSomeAnd (slice_get s.starts.items k) (λ _. Unit {0})
IsHeld s (Call k) = IsSomeAnd (slice_get s.calls.items k) (λ p. IsPart s.turns.items p.turns)
IsHeld s (User digit text) = IsPart s.texts.items text
IsHeld s (Comment text) = IsPart s.texts.items text
IsHeld s _ = Unit {0}

-- it is, and is that of this command
pub record Holds (s : Store) (head : Head) (command : Command) : Type 0 where
  pub held : IsHeld s head
  pub same : command_of s head ≡ command

-- things were only added
pub record Grows (s t : Store) : Type 0 where
  pub points : IsGrown s.points.items t.points.items
  pub texts : IsGrown s.texts.items t.texts.items
  pub turns : IsGrown s.turns.items t.turns.items
  pub boxes : IsGrown s.boxes.items t.boxes.items
  pub rounds : IsGrown s.rounds.items t.rounds.items
  pub wires : IsGrown s.wires.items t.wires.items
  pub starts : IsGrown s.starts.items t.starts.items
  pub calls : IsGrown s.calls.items t.calls.items
