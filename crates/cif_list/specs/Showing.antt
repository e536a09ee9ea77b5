-- Commands that are lent.
use Rattle.std.specs.Prelude.{map}
use Rattle.cif_form.specs.declared.command.Command.{Command}
use Rattle.cif_form.specs.declared.command.Command.TheVariants as commands
use Rattle.cif_form.specs.declared.command.Item.{Item}
use Rattle.cif_list.specs.declared.view.CommandView.{CommandView}
use Rattle.cif_list.specs.declared.view.CommandView.TheVariants.{Polygon, Box, Round, Wire, Layer, Start, Finish}
use Rattle.cif_list.specs.declared.view.CommandView.TheVariants.{Delete, Call, User, Comment}
use Rattle.cif_list.specs.declared.view.ItemView.{ItemView}
use Rattle.cif_list.specs.Turning.{wide_turn}

-- the command
abbrev pub command_shown : CommandView → Command
command_shown (Polygon path) = commands.Polygon path.now
command_shown (Box long wide center direction) = commands.Box long wide center direction
command_shown (Round diameter center) = commands.Round diameter center
command_shown (Wire wide path) = commands.Wire wide path.now
command_shown (Layer name) = commands.Layer name.now
command_shown (Start number a b) = commands.Start number a b
command_shown Finish = commands.Finish
command_shown (Delete number) = commands.Delete number
command_shown (Call number turns) = commands.Call number (map wide_turn turns.now)
command_shown (User digit text) = commands.User digit text.now
command_shown (Comment text) = commands.Comment text.now

-- the command and its offset
abbrev pub item_shown : ItemView → Item
item_shown i = record { offset = i.offset; command = command_shown i.command }
