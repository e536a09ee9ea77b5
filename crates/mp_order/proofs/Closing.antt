-- Closed chains and rule E33.
use Rattle.std.proofs.Common.{◌≡◌, ℕ, ◌<◌, ◌≤◌, List, [], Some, true, refl, sym, ◌∙◌, ap, length, arith}
use Rattle.std.specs.Prelude.{slice_index}
use Rattle.mp_base.specs.declared.refusal.Place.{Place}
use Rattle.mp_base.proofs.Entries.{some_entry, one_entry}
use Rattle.mp_program.specs.declared.program.FormKind.TheVariants.{Set}
use Rattle.mp_program.specs.declared.program.Def.{Def}
use Rattle.mp_program.specs.declared.program.Form.{Form}
use Rattle.mp_program.specs.declared.program.Program.{Program}
use Rattle.mp_program.specs.Names.{is_driven, index_of}
use Rattle.mp_program.specs.Sound.{IsSound}
use Rattle.mp_program.specs.Reads.{Reads, Chain, link, more, form_reads, roots}
use Rattle.mp_program.proofs.Definitions.{same_is}
use Rattle.name_meanings.specs.declared.meaning.Meanings.{Meanings}
use Rattle.name_meanings.specs.Meaning.{AreMeanings}
use Rattle.mp_base.specs.Entries.{IsAt}
use Rattle.mp_rules.specs.Breaking.{IsEarliest}
use Rattle.mp_rules.specs.Rules.{E33}
use Rattle.mp_order.specs.declared.earliest.Setting.{Setting}
use Rattle.mp_order.specs.Demands.{IsDriven, OwnNames, root}
use Rattle.mp_order.specs.Chains.{SetsFlagged, FlaggedSet}
use Rattle.mp_order.proofs.Mentions.{any_of}
use Rattle.mp_order.proofs.Names.{meant}
use Rattle.mp_order.proofs.Marks.{marked_inside}
use Rattle.mp_order.proofs.Reading.{SetsLaw, ReadsLaw, read_down}

pub reader_driven : (p : Program) (a b : ℕ) → Reads p a b → (x : Def) × IsDriven p a x
reader_driven p a b (x, y, xa, yb, dx, dy, any) = (x, (xa, dx))

pub read_driven : (p : Program) (a b : ℕ) → Reads p a b → (y : Def) × IsDriven p b y
read_driven p a b (x, y, xa, yb, dx, dy, any) = (y, (yb, dy))

pub start_driven : (p : Program) (a b : ℕ) → Chain p a b → (x : Def) × IsDriven p a x
start_driven p a b (link reads) = reader_driven p a b reads
start_driven p a b (more {b = c} reads chain) = reader_driven p a c reads

pub join : (p : Program) (a b c : ℕ) → Chain p a b → Chain p b c → Chain p a c
join p a b c (link reads) rest = more reads rest
join p a b c (more {b = d} reads chain) rest = more reads (join p d b c chain rest)

-- a form sets a definition
abbrev pub IsSetBy : Program → Meanings → ℕ → Type 0
IsSetBy p m d = (f : ℕ) × (y : Form) × (name : List ℕ) × (there : Place) × (v : ℕ) × IsAt p.forms f y
    × (y.kind ≡ Set name there v) × (slice_index m.targets f ≡ d)

-- what reads is set
pub reader_set : (p : Program) (m : Meanings) → IsSound p → SetsLaw p → ReadsLaw p → AreMeanings p m → OwnNames p
    → (a b : ℕ) → Reads p a b → IsSetBy p m a
reader_set p m s sl rl means own a b (x, y, xa, yb, dx, dy, any) =
    let (r, rooted, reads) = any_of (form_reads p x.name y.name) (roots p) any in
    let lt : r < length p.forms = marked_inside p s [] r 1 (root rooted) in
    let z = some_entry p.forms r lt in
    let (g, w, t, at, v, k, wg, kind, same, marked, why) =
    read_down p s sl rl [] x.name y.name 0 (λ e el mention. omega arith) (length p.forms) r 1 z.0 (omega arith)
    z.1 (root rooted) reads in (
      g,
      w,
      t,
      at,
      v,
      wg,
      kind,
      means.targets g w t at v wg kind ∙ ap (index_of p.defs) (same_is t x.name same)
          ∙ own a x (xa, dx),
    )

pub start_set : (p : Program) (m : Meanings) → IsSound p → SetsLaw p → ReadsLaw p → AreMeanings p m → OwnNames p
    → (a b : ℕ) → Chain p a b → IsSetBy p m a
start_set p m s sl rl means own a b (link reads) = reader_set p m s sl rl means own a b reads
start_set p m s sl rl means own a b (more {b = c} reads chain) = reader_set p m s sl rl means own a c reads

-- each definition on a closed chain has a flag
abbrev pub FlagsClosed : Program → List ℕ → Type 0
FlagsClosed p flags = (d : ℕ) → Chain p d d → 0 < slice_index flags d

broken_flagged : (p : Program) (m : Meanings) (flags : List ℕ) → AreMeanings p m → OwnNames p → FlagsClosed p flags
    → (at : Place) → E33 p at → FlaggedSet p m flags at
broken_flagged p m flags means own closed at (f, y, x, there, v, d, z, yf, kind, zd, name, chain, e) =
    let (w, driven) = start_driven p d d chain in (
      d,
      (
        f,
        y,
        x,
        there,
        v,
        yf,
        kind,
        means.targets f y x there v yf kind ∙ ap (index_of p.defs) (sym name)
            ∙ own d z (zd, driven_as d w z zd driven),
        closed d chain,
        e,
      ),
    )
  where
    driven_as : (d : ℕ) (w z : Def) → IsAt p.defs d z → IsDriven p d w → is_driven z.what ≡ true
    driven_as d w z zd (wd, h) = ap (λ (u : Def). is_driven u.what) (one_entry p.defs d z w zd wd) ∙ h

set_broken : (p : Program) (m : Meanings) (flags : List ℕ) → AreMeanings p m → (d : ℕ) (at : Place)
    → SetsFlagged p m flags d at → Chain p d d → E33 p at
set_broken p m flags means d at (f, y, name, there, v, yf, kind, target, flag, e) chain =
    let (z, driven) = start_driven p d d chain in (
      f,
      y,
      name,
      there,
      v,
      d,
      z,
      yf,
      kind,
      driven.0,
      meant p.defs name d z driven.0
          (sym (means.targets f y name there v yf kind) ∙ target),
      chain,
      e,
    )

-- the earliest flagged `setq` is that of a definition on a closed chain
pub closed_earliest : (p : Program) (m : Meanings) (flags : List ℕ) (s : Setting) → AreMeanings p m → OwnNames p
    → FlagsClosed p flags
    → SetsFlagged p m flags s.target s.place → ((at : Place) → FlaggedSet p m flags at → (s.place).offset ≤ at.offset)
    → Chain p s.target s.target → IsEarliest (E33 p) (Some s.place)
closed_earliest p m flags s means own closed sets first chain = (
  set_broken p m flags means s.target s.place sets chain,
  λ there broken. first there
      (broken_flagged p m flags means own closed there broken),
)

-- no `setq` has a flag
pub none_broken : (p : Program) (m : Meanings) (flags : List ℕ) → AreMeanings p m → OwnNames p → FlagsClosed p flags
    → ((at : Place) → FlaggedSet p m flags at → ⊥) → (at : Place) → E33 p at → ⊥
none_broken p m flags means own closed none at broken = none at (broken_flagged p m flags means own closed at broken)

pub none_flagged : (p : Program) (m : Meanings) (flags : List ℕ) → ((at : Place) → FlaggedSet p m flags at → ⊥)
    → (d : ℕ) → IsSetBy p m d → 0 < slice_index flags d → ⊥
none_flagged p m flags none d (f, y, name, there, v, yf, kind, target) flag =
    none y.place (d, (f, y, name, there, v, yf, kind, target, flag, refl))
