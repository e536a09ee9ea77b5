-- A command up to its semicolon.
use Rattle.std.proofs.Common.{◌≡◌, ◌≢◌, ℕ, suc, ◌+◌, ◌<◌, ◌≤◌, List, [], ◌∷◌, ◌++◌, refl, sym, ◌∙◌, ap, subst, arith}
use Rattle.std.proofs.Common.{length, drop, get_or, length-append, length-drop, Some, None}
use Rattle.std.proofs.lemmas.List.{drop_all}
use Rattle.std.proofs.lemmas.List.Elements.{All-head}
use Rattle.std.proofs.lemmas.Option.{none-some}
use Rattle.cif_form.specs.declared.command.Command.{Command}
use Rattle.cif_form.specs.Text.{IsBlank, Blanks}
use Rattle.cif_form.specs.Readers.{past_blanks, command_from}
use Rattle.cif_form.specs.Scans.{IsReadAs, IsReadable}
use Rattle.cif_form.proofs.Parts.{blanks_past}
use Rattle.cif_reader.specs.Capped.{cut_command}
use Rattle.cif_reader.specs.Finding.{IsFound}
use Rattle.cif_reader.specs.Refusing.{IsRead}
use Rattle.cif_reader.proofs.Stepping.{next}
use Rattle.cif_reader.proofs.Sound.{same_some, blanks_split}
use Rattle.cif_reader.proofs.SoundParts.{Stops}
use Rattle.cif_reader.proofs.SoundCommands.{command_sound}

-- ---- blanks, and what is none

-- ---- what can't be read

-- the law of the reader that is a function
abbrev pub IsLaw : Type 0
IsLaw = (text : List ℕ) (c : Command) (size : ℕ) (rest : List ℕ) (r : IsReadAs text c size rest)
    → command_from text ≡ Some (c, r.blanks ++ (59 ∷ rest))

pub unread_lacks : IsLaw → (text : List ℕ) → command_from text ≡ None → IsReadable text → ⊥
unread_lacks law text h (c, size, rest, r) = none-some (c, r.blanks ++ (59 ∷ rest)) (sym h ∙ law text c size rest r)

pub unread_open : IsLaw → (text : List ℕ) (c : Command) (rest : List ℕ) → command_from text ≡ Some (c, rest)
    → ((more : List ℕ) → past_blanks rest ≡ 59 ∷ more → ⊥) → IsReadable text → ⊥
unread_open law text c rest h no_end (d, size, more, r) =
    let e = (same_some c d rest (r.blanks ++ (59 ∷ more)) (sym h ∙ law text d size more r)).1 in
    no_end more (ap past_blanks e ∙ blanks_past r.blanks (59 ∷ more) r.are_blanks)

-- ---- the semicolon

pub semicolon_stands : (bytes : List ℕ) (at semi : ℕ) → drop semi bytes ≡ past_blanks (drop at bytes) → at ≤ semi
    → semi < length bytes → get_or bytes semi 0 ≡ 59
    → (past_blanks (drop at bytes) ≡ 59 ∷ drop (semi + 1) bytes) × (at < semi + 1) × (semi + 1 ≤ length bytes)
semicolon_stands bytes at semi rest le less b = (
  sym rest ∙ next bytes semi less ∙ ap (λ b. b ∷ drop (semi + 1) bytes) b,
  omega (arith, le),
  omega (arith, less),
)

pub other_stands : (bytes : List ℕ) (at semi : ℕ) → drop semi bytes ≡ past_blanks (drop at bytes) → semi < length bytes
    → get_or bytes semi 0 ≢ 59
    → (more : List ℕ) → past_blanks (drop at bytes) ≢ 59 ∷ more
other_stands bytes at semi rest less n more k =
    n (let g : get_or bytes semi 0 ∷ drop (semi + 1) bytes ≡ 59 ∷ more = sym (next bytes semi less) ∙ rest ∙ k in cc)

pub nothing_stands : (bytes : List ℕ) (at semi : ℕ) → drop semi bytes ≡ past_blanks (drop at bytes)
    → length bytes ≤ semi
    → (more : List ℕ) → past_blanks (drop at bytes) ≢ 59 ∷ more
nothing_stands bytes at semi rest h more k =
    absurd (let g : [] ≡ 59 ∷ more = sym (drop_all semi bytes h) ∙ rest ∙ k in cc)

-- ---- what is read

pub no_blanks : (blanks rest : List ℕ) → Blanks blanks → Stops (blanks ++ (59 ∷ rest)) → blanks ≡ []
no_blanks [] rest h s = refl
no_blanks (b ∷ bs) rest h s = absurd ((All-head IsBlank b bs h).5 s)

pub command_read : (bytes : List ℕ) (at end behind : ℕ) (value : Command) → at ≤ length bytes
    → IsFound cut_command (command_from (drop at bytes)) bytes at value end
    → past_blanks (drop end bytes) ≡ 59 ∷ drop behind bytes → end < behind → behind ≤ length bytes
    → IsRead bytes at value behind
command_read bytes at end behind value inside f e less within =
    let s = command_sound (drop at bytes) f.exact (drop end bytes) f.found in
    let (blanks, g, are) = blanks_split (drop end bytes) in
    let rest = drop behind bytes in
    let k : drop end bytes ≡ blanks ++ (59 ∷ rest) = g ∙ ap (λ t. blanks ++ t) e in
    let split : drop at bytes ≡ s.front ++ (blanks ++ (59 ∷ rest)) = s.split ∙ ap (λ t. s.front ++ t) k in
    let l = ap length split ∙ length-append s.front (blanks ++ (59 ∷ rest)) in
    let m = length-append blanks (59 ∷ rest) in
    let x = length-drop at bytes in
    let y = length-drop behind bytes in
    let z : length (59 ∷ rest) ≡ suc (length rest) = refl in
    let le = f.behind in
    record {
      exact = f.exact;
      cut_is = f.value_is;
      further = omega arith;
      within = omega arith;
      read = record {
        spelled = s.front;
        blanks = blanks;
        split = split;
        spells = s.spells;
        are_blanks = are;
        user = (λ digit words u. no_blanks blanks rest are (subst Stops k (s.stops digit words u)));
        counted = omega arith;
      };
    }
