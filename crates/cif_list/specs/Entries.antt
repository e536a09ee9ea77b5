-- Commands with their offsets.
use Rattle.cif_form.specs.declared.command.Item.{Item}
use Rattle.cif_list.specs.declared.cif.Entry.{Entry}
use Rattle.cif_list.specs.declared.store.Store.{Store}
use Rattle.cif_list.specs.Storing.{command_of}

-- the item of an entry
abbrev pub item_of : Store → Entry → Item
item_of s e = record { offset = e.offset; command = command_of s e.head }
