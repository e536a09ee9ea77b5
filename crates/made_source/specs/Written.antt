-- Made sources as forms: the items that are written, with the gaps between them.
use Rattle.std.specs.Prelude.{ℕ, List, [], ◌∷◌, codes}
use Rattle.mp_base.specs.declared.op.Op.{Op}
use Rattle.mp_base.specs.declared.op.Op.TheVariants.{Add, Sub, WordAnd, WordOr, WordXor}
use Rattle.form_text.specs.Items.{Items, nothing, symbol, number, group}
use Rattle.program_maker.specs.Texts.{registers}
use Rattle.made_program.specs.Made.{Row}

-- the name of an operator that is drawn
abbrev pub op_word : Op → List ℕ
op_word Add = codes "+"
op_word Sub = codes "-"
op_word WordAnd = codes "word-and"
op_word WordOr = codes "word-or"
op_word WordXor = codes "word-xor"
op_word _ = []

abbrev pub space : List ℕ
space = codes " "

abbrev pub feed : List ℕ
feed = codes "\n"

abbrev pub supply : (gap pin name : List ℕ) → Items → Items
supply gap pin name more = group gap (symbol [] (codes "def") (number space pin (symbol space name nothing))) [] more

abbrev pub numbers : List (List ℕ) → Items
numbers [] = nothing
numbers (n ∷ ns) = number space n (numbers ns)

-- pins, of which the first has no gap before it
abbrev pub pins : List ℕ → List (List ℕ) → Items
pins n ns = number [] n (numbers ns)

abbrev pub port : (name way : List ℕ) → Items → Items → Items
port name way pads more =
    group feed (symbol [] (codes "def")
    (symbol space name (symbol space (codes "port") (symbol space way (group space pads [] nothing))))) [] more

abbrev pub definition : List ℕ → Items → Items
definition register more =
    group feed (symbol [] (codes "def") (symbol space register (symbol space (codes "register") nothing))) [] more

abbrev pub definitions : List (List ℕ) → Items → Items
definitions [] more = more
definitions (r ∷ rs) more = definition r (definitions rs more)

abbrev pub setting : Row → Items → Items
setting row more =
    group feed (symbol [] (codes "always") (group space (symbol [] (codes "setq") (symbol space row.target
    (group space (symbol [] (op_word row.op) (symbol space row.x (symbol space row.y nothing))) [] nothing))) []
    nothing)) [] more

abbrev pub settings : List Row → Items
settings [] = nothing
settings (row ∷ rows) = setting row (settings rows)

-- all that stands before the settings
abbrev pub heading : Items → Items
heading more = symbol [] (codes "program") (symbol space (codes "made") (number space (codes "16")
    (supply feed (codes "1") (codes "power")
    (supply [] (codes "2") (codes "ground") (supply [] (codes "3") (codes "phia")
    (supply [] (codes "4") (codes "phib") (supply [] (codes "5") (codes "phic")
    (group feed (symbol [] (codes "def")
    (symbol space (codes "reset")
    (symbol space (codes "signal") (symbol space (codes "input") (number space (codes "6") nothing))))) []
    (port (codes "a") (codes "input")
    (pins (codes "10") (codes "11" ∷ codes "12" ∷ codes "13" ∷ codes "14" ∷ codes "15" ∷ codes "16" ∷ codes "17"
    ∷ codes "18" ∷ codes "19" ∷ codes "20" ∷ codes "21" ∷ codes "22" ∷ codes "23" ∷ codes "24" ∷ codes "25" ∷ []))
    (port (codes "b") (codes "input")
    (pins (codes "26") (codes "27" ∷ codes "28" ∷ codes "29" ∷ codes "30" ∷ codes "31" ∷ codes "32" ∷ codes "33"
    ∷ codes "34" ∷ codes "35" ∷ codes "36" ∷ codes "37" ∷ codes "38" ∷ codes "39" ∷ codes "40" ∷ codes "41" ∷ []))
    (port (codes "q") (codes "output")
    (pins (codes "42") (codes "43" ∷ codes "44" ∷ codes "45" ∷ codes "46" ∷ codes "47" ∷ codes "48" ∷ codes "49"
    ∷ codes "50" ∷ codes "51" ∷ codes "52" ∷ codes "53" ∷ codes "54" ∷ codes "55" ∷ codes "56" ∷ codes "57" ∷ []))
    (definitions registers more))))))))))))

-- a made source, whose registers and output take on these
abbrev pub made_items : List Row → Items
made_items rows = group [] (heading (settings rows)) [] nothing
