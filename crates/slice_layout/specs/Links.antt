-- Chains by the numbers of their nets.
use Rattle.slice_form.specs.Path.{Carry}
use Rattle.slice_layout.specs.declared.looking.Link.{Link}

abbrev pub carry_by : Link → Carry
carry_by l = record { up = l.up; start = l.start; to = l.to }
