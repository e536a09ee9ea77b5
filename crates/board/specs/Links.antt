-- The links that words stand for, and the first rule that words break.
use Rattle.std.specs.Prelude.{◌≡◌, ◌⊎◌, ℕ, List, [], ◌∷◌, ◌==◌, if◌then◌else◌, Option, Some, None, ⊤, All, Any}
use Rattle.std.specs.Prelude.{AllPairs, map, take, slice_get, codes}
use Rattle.std.specs.List.{position, slice_split}
use Rattle.std.specs.Str.{bytes_eq}
use Rattle.mp_base.specs.declared.pad.Pad.{Pad}
use Rattle.mp_base.specs.declared.pad.Pads.{Pads}
use Rattle.mp_base.specs.declared.refusal.Broken.{Broken}
use Rattle.mp_base.specs.declared.refusal.Family.TheVariants.{B}
use Rattle.mp_base.specs.declared.refusal.Rule.{Rule}
use Rattle.mp_base.specs.declared.refusal.Spot.TheVariants.{Named}
use Rattle.board.specs.declared.link.Link.{Link}
use Rattle.board.specs.declared.link.Naming.{Naming}
use Rattle.board.specs.Boarding.{AreApart}

-- the place of the first that has this name
abbrev pub place_of : List (List ℕ) → List ℕ → Option ℕ
place_of names name = position (λ n. bytes_eq n name) names

abbrev pub pad_of : List Pad → List ℕ → Option ℕ
pad_of pads name = place_of (map (λ (pad : Pad). pad.name) pads) name

abbrev pub nothing : Naming
nothing = record { part = None; seen = None; driven = None }

-- the place of the first input of this name, which isn't `reset`
abbrev pub driven_of : List Pad → List ℕ → Option ℕ
driven_of pads name = if bytes_eq name (codes "reset") then None else pad_of pads name

-- what a word of three fields names: a part, an output, and an input other than `reset`
abbrev pub named_by : List (List ℕ) → Pads → List (List ℕ) → Naming
named_by parts pads (part ∷ seen ∷ driven ∷ []) = record {
  part = place_of parts part;
  seen = pad_of pads.outputs seen;
  driven = driven_of pads.inputs driven;
}
named_by parts pads fields = nothing

-- what a word names, of which the fields are PART:SEEN:DRIVEN
abbrev pub naming : List (List ℕ) → Pads → List ℕ → Naming
naming parts pads word = named_by parts pads (slice_split (λ c. c == 58) word)

abbrev pub IsThree : List (List ℕ) → Type 0
IsThree (part ∷ seen ∷ driven ∷ []) = ⊤
IsThree fields = ⊥

-- the same of a link
abbrev pub naming_of : Link → Naming
naming_of l = record { part = Some l.part; seen = Some l.seen; driven = Some l.driven }

-- B1, behind some links: the word isn't of this form, names no part, or the part of an earlier link
abbrev pub BreaksB1 : List Link → Naming → Type 0
BreaksB1 earlier n = (n.part ≡ None) ⊎ Any (λ (l : Link). n.part ≡ Some l.part) earlier

-- B2: SEEN is no output, or DRIVEN is no input, is `reset`, or is driven by an earlier link
abbrev pub BreaksB2 : List Link → Naming → Type 0
BreaksB2 earlier n =
    (n.seen ≡ None) ⊎ (n.driven ≡ None) ⊎ Any (λ (l : Link). n.driven ≡ Some l.driven) earlier

-- no earlier link has its part or its input
abbrev pub MayFollow : List Link → Link → Type 0
MayFollow earlier link = All (λ (l : Link). AreApart l link) earlier

-- the words are links, no two of which have a part or an input in common
pub record AreLinks (parts : List (List ℕ)) (pads : Pads) (words : List (List ℕ)) (links : List Link) : Type 0 where
  pub named : map (naming parts pads) words ≡ map naming_of links
  pub apart : AllPairs AreApart links

-- rule B of this number
abbrev pub rule_b : ℕ → Rule
rule_b number = record { family = B; number = number }

-- the rule that a word breaks behind some links, B1 before B2
abbrev pub Breaks : List Link → Naming → Rule → Type 0
Breaks earlier n rule =
    (BreaksB1 earlier n × (rule ≡ rule_b 1)) ⊎ ((¬ BreaksB1 earlier n) × BreaksB2 earlier n × (rule ≡ rule_b 2))

-- a link behind some links that a word of these names stands for
pub record IsLinkOf (n : Naming) (earlier : List Link) (link : Link) : Type 0 where
  pub named : n ≡ naming_of link
  pub follows : MayFollow earlier link

-- the rule that a word of these names breaks behind some links, at the word
pub record IsBrokenAt (n : Naming) (earlier : List Link) (word : List ℕ) (broken : Broken) : Type 0 where
  pub breaks : Breaks earlier n broken.rule
  pub spot : broken.spot ≡ Named word

-- the first rule that words break, at the word behind those that are links
pub record IsFirstBroken (parts : List (List ℕ)) (pads : Pads) (words : List (List ℕ)) (broken : Broken) : Type 0 where
  pub k : ℕ
  pub word : List ℕ
  pub links : List Link
  pub at : slice_get words k ≡ Some word
  pub before : AreLinks parts pads (take k words) links
  pub breaks : Breaks links (naming parts pads word) broken.rule
  pub spot : broken.spot ≡ Named word

-- the words are links of parts with these names to these pads, or this is the first rule that they break
abbrev pub OfWords : List (List ℕ) → Pads → List (List ℕ) → Option Broken → Type 0
OfWords parts pads words None = (links : List Link) × AreLinks parts pads words links
OfWords parts pads words (Some broken) = IsFirstBroken parts pads words broken
