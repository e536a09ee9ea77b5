-- A file, command by command.
use Rattle.std.proofs.Common.{◌≡◌, ◌≢◌, ℕ, suc, ◌+◌, ◌-◌, ◌<◌, ◌≤◌, inr, List, [], ◌∷◌, ◌++◌, refl, sym, ◌∙◌, ap, subst}
use Rattle.std.proofs.Common.{arith, length, drop, get_or, length-append, length-drop, append_assoc, Bool, true, false}
use Rattle.std.proofs.Common.{Some, None}
use Rattle.std.proofs.lemmas.List.{drop_all, append-nil}
use Rattle.mp_base.specs.declared.refusal.Family.TheVariants.{C}
use Rattle.mp_base.specs.declared.refusal.Spot.TheVariants.{Offset}
use Rattle.mp_base.specs.declared.refusal.Refusal.{Refusal}
use Rattle.mp_base.specs.Refuses.{IsRefusal}
use Rattle.mp_base.specs.declared.refusal.Refusal.TheVariants as refusals
use Rattle.cif_form.specs.declared.command.Command.{Command}
use Rattle.cif_form.specs.declared.command.Item.{Item}
use Rattle.cif_form.specs.Text.{IsBlank, Blanks}
use Rattle.cif_form.specs.Fits.{Fits}
use Rattle.cif_form.specs.Readers.{is_blank, past_blanks}
use Rattle.cif_form.specs.Scans.{TextRule, TextEnd, text_rule_number, IsReadAs, IsReadable, HasBig, opens, Scans}
use Rattle.cif_form.specs.Scans.{IsLateEnd, FileScans}
use Rattle.cif_form.specs.Scans.TextRule.{C1, C2, C3, C4, C5}
use Rattle.cif_form.specs.Scans.TextEnd.{Whole, Broken}
use Rattle.cif_form.proofs.Numbers.{blank_reads}
use Rattle.cif_form.proofs.Parts.{blanks_past}
use Rattle.cif_form.proofs.Scanning.{blank_means}
use Rattle.cif_reader.specs.Refusing.{IsRuleAt, Refuses, RefusesAt, IsRead, IsStep}
use Rattle.cif_reader.proofs.Stepping.{next}
use Rattle.cif_reader.proofs.Sound.{blanks_split}
use Rattle.cif_reader.proofs.Cutting.{fits_small, unfit_big}

-- ---- one place

pub skips_blank : (bytes : List ℕ) (i : ℕ) → i < length bytes → is_blank (get_or bytes i 0) ≡ true
    → (inside : Bool) (items : List Item) (e : TextEnd)
    → Scans inside (i + 1) (drop (i + 1) bytes) items e → Scans inside i (drop i bytes) items e
skips_blank bytes i h t inside items e s =
    subst (λ t. Scans inside i t items e) (sym (next bytes i h))
    (Scans.blank (get_or bytes i 0) (blank_means (get_or bytes i 0) t) s)

pub skips_empty : (bytes : List ℕ) (i : ℕ) → i < length bytes → get_or bytes i 0 ≡ 59
    → (inside : Bool) (items : List Item) (e : TextEnd)
    → Scans inside (i + 1) (drop (i + 1) bytes) items e → Scans inside i (drop i bytes) items e
skips_empty bytes i h t inside items e s =
    subst (λ t. Scans inside i t items e) (sym (next bytes i h ∙ ap (λ b. b ∷ drop (i + 1) bytes) t)) (Scans.nothing s)

pub not_blank : (b : ℕ) → is_blank b ≡ false → ¬ IsBlank b
not_blank b h k = let e : true ≡ false = sym (blank_reads b k) ∙ h in absurd (cc)

pub unread : (bytes : List ℕ) (at : ℕ) (inside : Bool) → at < length bytes → is_blank (get_or bytes at 0) ≡ false
    → get_or bytes at 0 ≢ 59 → get_or bytes at 0 ≢ 69
    → (IsReadable (drop at bytes) → ⊥) → Scans inside at (drop at bytes) [] (Broken C1 at)
unread bytes at inside h b s e n =
    let P : List ℕ → Type 0 = λ t. IsReadable t → ⊥ in
    subst (λ t. Scans inside at t [] (Broken C1 at)) (sym (next bytes at h))
    (Scans.unread (get_or bytes at 0) (not_blank (get_or bytes at 0) b) s e (subst P (next bytes at h) n))

-- the law of commands that are read
abbrev IsFitLaw : Type 0
IsFitLaw = (text : List ℕ) (c : Command) (size : ℕ) (rest : List ℕ) → IsReadAs text c size rest → ¬ HasBig c → Fits c

pub too_big : IsFitLaw → (bytes : List ℕ) (at end : ℕ) (inside : Bool) (value : Command) → IsRead bytes at value end
    → ¬ Fits value → Scans inside at (drop at bytes) [] (Broken C3 at)
too_big law bytes at end inside value r n =
    Scans.big r.exact (end - at) (drop end bytes) r.read
    (unfit_big r.exact (law (drop at bytes) r.exact (end - at) (drop end bytes) r.read)
    (λ f. n (subst Fits (sym r.cut_is) f)))

-- the command that fits, and what is known of it
pub record IsFit (bytes : List ℕ) (at end : ℕ) (value : Command) : Type 0 where
  pub read : IsReadAs (drop at bytes) value (end - at) (drop end bytes)
  pub small : ¬ HasBig value

fit : (bytes : List ℕ) (at end : ℕ) (value : Command) → IsRead bytes at value end → Fits value
    → IsFit bytes at end value
fit bytes at end value r f =
    let (small, same) = fits_small r.exact (subst Fits r.cut_is f) in
    let e : r.exact ≡ value = sym same ∙ sym r.cut_is in
    record {
      read = subst (λ c. IsReadAs (drop at bytes) c (end - at) (drop end bytes)) e r.read;
      small = subst (λ c. ¬ HasBig c) e small;
    }

pub misplaced : (bytes : List ℕ) (at end : ℕ) (inside : Bool) (value : Command) → IsRead bytes at value end
    → Fits value → opens inside value ≡ None
    → Scans inside at (drop at bytes) [] (Broken C4 at)
misplaced bytes at end inside value r f h = let k = fit bytes at end value r f in
    Scans.nested value (end - at) (drop end bytes) k.read k.small h

pub steps : (bytes : List ℕ) (at end : ℕ) (inside within : Bool) (value : Command) → IsRead bytes at value end
    → Fits value → opens inside value ≡ Some within
    → IsStep bytes at inside value end within
steps bytes at end inside within value r f h =
    let k = fit bytes at end value r f in
    record { further = r.further; bound = r.within; read = k.read; small = k.small; stands = h }

-- ---- the end

-- the byte behind blanks is none
pub stopped : (text : List ℕ) (c : ℕ) (rest : List ℕ) → past_blanks text ≡ c ∷ rest → is_blank c ≡ false
stopped [] c rest h = absurd (cc)
stopped (b ∷ bs) c rest h = at (is_blank b) refl (stopped bs c rest)
  where
    at : (t : Bool) → is_blank b ≡ t → (past_blanks bs ≡ c ∷ rest → is_blank c ≡ false) → is_blank c ≡ false
    at true k more = let f : past_blanks (b ∷ bs) ≡ past_blanks bs = rw (k, past_blanks) refl in more (sym f ∙ h)
    at false k more =
        let f : past_blanks (b ∷ bs) ≡ b ∷ bs = rw (k, past_blanks) refl in
        let g : b ∷ bs ≡ c ∷ rest = sym f ∙ h in
        let same : c ≡ b = cc in
        ap is_blank same ∙ k

pub ends_inside : (bytes : List ℕ) (at : ℕ) → at < length bytes → get_or bytes at 0 ≡ 69
    → Scans true at (drop at bytes) [] (Broken C4 at)
ends_inside bytes at h b =
    subst (λ t. Scans true at t [] (Broken C4 at))
    (sym (next bytes at h ∙ ap (λ b. b ∷ drop (at + 1) bytes) b)) Scans.open_end

pub ends_whole : (bytes : List ℕ) (at after : ℕ) → at < length bytes → get_or bytes at 0 ≡ 69
    → drop after bytes ≡ past_blanks (drop (at + 1) bytes) → length bytes ≤ after
    → Scans false at (drop at bytes) [] Whole
ends_whole bytes at after h b e l =
    let (blanks, s, k) = blanks_split (drop (at + 1) bytes) in
    let all : Blanks (drop (at + 1) bytes) =
    subst Blanks (sym (s ∙ ap (λ t. blanks ++ t) (sym e ∙ drop_all after bytes l) ∙ append-nil blanks)) k in
    subst (λ t. Scans false at t [] Whole) (sym (next bytes at h ∙ ap (λ b. b ∷ drop (at + 1) bytes) b)) (Scans.end all)

pub ends_early : (bytes : List ℕ) (at after : ℕ) → at < length bytes → get_or bytes at 0 ≡ 69
    → drop after bytes ≡ past_blanks (drop (at + 1) bytes) → at + 1 ≤ after
    → after < length bytes → Scans false at (drop at bytes) [] (Broken C5 after)
ends_early bytes at after h b e le l =
    let (blanks, s, k) = blanks_split (drop (at + 1) bytes) in
    let c = get_or bytes after 0 in
    let rest = drop (after + 1) bytes in
    let f : drop (at + 1) bytes ≡ blanks ++ (c ∷ rest) = s ∙ ap (λ t. blanks ++ t) (sym e ∙ next bytes after l) in
    let x = ap length f ∙ length-append blanks (c ∷ rest) in
    let y = length-drop (at + 1) bytes in
    let z = length-drop (after + 1) bytes in
    let w : length (c ∷ rest) ≡ suc (length rest) = refl in
    let o : at + (1 + length blanks) ≡ after = omega arith in
    let stop : ¬ IsBlank c = not_blank c (stopped (drop (at + 1) bytes) c rest (sym e ∙ next bytes after l)) in
    subst (λ t. Scans false at t [] (Broken C5 after))
    (sym (next bytes at h ∙ ap (λ b. b ∷ drop (at + 1) bytes) b ∙ ap (λ t. 69 ∷ t) f))
    (subst (λ o. Scans false at (69 ∷ blanks ++ c ∷ rest) [] (Broken C5 o)) o (Scans.more blanks rest c k stop))

-- ---- the file

pub late : (bytes : List ℕ) (start : ℕ) → drop start bytes ≡ past_blanks (drop 0 bytes) → 0 < start
    → start < length bytes → get_or bytes start 0 ≡ 69 → IsLateEnd bytes start
late bytes start e some less b =
    let (blanks, s, k) = blanks_split bytes in
    let rest = drop (start + 1) bytes in
    let f : bytes ≡ blanks ++ (69 ∷ rest) =
    s ∙ ap (λ t. blanks ++ t) (sym e ∙ next bytes start less ∙ ap (λ b. b ∷ rest) b) in
    let x = ap length f ∙ length-append blanks (69 ∷ rest) in
    let z = length-drop (start + 1) bytes in
    let w : length (69 ∷ rest) ≡ suc (length rest) = refl in
    record { before = blanks; after = rest; split = f; blanks = k; late = some; counted = omega arith }

late_past : (bytes : List ℕ) (offset start : ℕ) → (l : IsLateEnd bytes offset)
    → drop start bytes ≡ past_blanks (drop 0 bytes) → drop start bytes ≡ 69 ∷ l.after
late_past bytes offset start l e = e ∙ ap past_blanks l.split ∙ blanks_past l.before (69 ∷ l.after) l.blanks

pub never_late : (bytes : List ℕ) (start : ℕ) → drop start bytes ≡ past_blanks (drop 0 bytes) → start ≤ length bytes
    → (0 < start → start < length bytes → get_or bytes start 0 ≢ 69) → (offset : ℕ) → IsLateEnd bytes offset → ⊥
never_late bytes start e le n offset l =
    let f = late_past bytes offset start l e in
    let x = ap length l.split ∙ length-append l.before (69 ∷ l.after) in
    let y = length-drop start bytes in
    let z = ap length f in
    let w : length (69 ∷ l.after) ≡ suc (length l.after) = refl in
    let c = l.counted in
    let o = l.late in
    let less : start < length bytes = omega arith in
    let some : 0 < start = omega arith in
    n some less
    (let g : get_or bytes start 0 ∷ drop (start + 1) bytes ≡ 69 ∷ l.after = sym (next bytes start less) ∙ f in cc)

-- what is read so far, of a file without a late end: the rest is owed
pub record Reached (bytes : List ℕ) (items : List Item) (inside : Bool) (at : ℕ) : Type 0 where
  pub bound : at ≤ length bytes
  pub owed : (more : List Item) (e : TextEnd) → Scans inside at (drop at bytes) more e
      → FileScans bytes (items ++ more) e

pub reached_start : (bytes : List ℕ) (items : List Item) → items ≡ [] → ((offset : ℕ) → IsLateEnd bytes offset → ⊥)
    → Reached bytes items false 0
reached_start bytes items none never = record {
  bound = omega arith;
  owed = (λ more e s. subst (λ t. FileScans bytes (t ++ more) e) (sym none) (inr (never, s)));
}

pub reached_next : (bytes : List ℕ) (items : List Item) (inside within : Bool) (at start end : ℕ) (command : Command)
    → Reached bytes items inside at
    → ((inside : Bool) (items : List Item) (e : TextEnd) → Scans inside start (drop start bytes) items e
    → Scans inside at (drop at bytes) items e)
    → IsStep bytes start inside command end within
    → Reached bytes (items ++ record { offset = start; command = command } ∷ []) within end
reached_next bytes items inside within at start end command r skipped s = record {
  bound = s.bound;
  owed = (λ more e k.
      let item : Item = record { offset = start; command = command } in
      let less = s.further in
      let o : start + (end - start) ≡ end = omega arith in
      let k' = subst (λ o. Scans within o (drop end bytes) more e) (sym o) k in
      subst (λ t. FileScans bytes t e) (sym (append_assoc items (item ∷ []) more))
      (r.owed (item ∷ more) e
      (skipped inside (item ∷ more) e (Scans.command command (end - start) s.read s.small s.stands k'))));
}

pub reached_break : (bytes : List ℕ) (items : List Item) (inside : Bool) (at start : ℕ) (e : Refusal)
    → Reached bytes items inside at
    → ((inside : Bool) (items : List Item) (e : TextEnd) → Scans inside start (drop start bytes) items e
    → Scans inside at (drop at bytes) items e)
    → RefusesAt inside bytes start e → Refuses bytes e
reached_break bytes items inside at start refusals.NoMemory r skipped h = tt
reached_break bytes items inside at start (refusals.Broken b) r skipped (rule, offset, k, o, s) =
    (rule, offset, k, o, (items ++ [], r.owed [] (Broken rule offset) (skipped inside [] (Broken rule offset) s)))

-- ---- refusals

pub refused : (P : TextRule → ℕ → Type 0) (rule : TextRule) (offset : ℕ) (e : Refusal)
    → e ≡ refusals.Broken
    (record { rule = record { family = C; number = text_rule_number rule }; spot = Offset offset }) → P rule offset
    → IsRefusal (IsRuleAt P) e
refused P rule offset e h p = subst (IsRefusal (IsRuleAt P)) (sym h) (rule, offset, refl, refl, p)

-- the same at a place
pub refused_at : (bytes : List ℕ) (at : ℕ) (inside : Bool) (rule : TextRule) (offset : ℕ) (e : Refusal)
    → e ≡ refusals.Broken
    (record { rule = record { family = C; number = text_rule_number rule }; spot = Offset offset })
    → Scans inside at (drop at bytes) [] (Broken rule offset) → RefusesAt inside bytes at e
refused_at bytes at inside rule offset e h s =
    refused (λ rule offset. Scans inside at (drop at bytes) [] (Broken rule offset)) rule offset e h s

pub short : (bytes : List ℕ) (start : ℕ) (inside : Bool) → length bytes ≤ start
    → Scans inside start (drop start bytes) [] (Broken C2 start)
short bytes start inside h =
    subst (λ t. Scans inside start t [] (Broken C2 start)) (sym (drop_all start bytes h)) Scans.short
