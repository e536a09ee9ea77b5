-- A file that breaks no rule of texts reads as its commands.
use Rattle.std.proofs.Common.{ℕ, ◌≡◌, ◌+◌, ◌<◌, ◌⊎◌, inl, inr, refl, sym, ◌∙◌, ap, subst, arith, List, [], ◌∷◌, ◌++◌}
use Rattle.std.proofs.Common.{length, Bool, false, append_assoc, length-append}
use Rattle.std.proofs.lemmas.List.Elements.{All-nil, All-cons, All-append}
use Rattle.cif_form.specs.declared.command.Command.{Command}
use Rattle.cif_form.specs.declared.command.Command.TheVariants.{Polygon, Box, Round, Wire, Layer as SetLayer, Start}
use Rattle.cif_form.specs.declared.command.Command.TheVariants.{Finish, Delete, Call, User, Comment}
use Rattle.cif_form.specs.declared.command.Item.{Item}
use Rattle.cif_form.specs.Text.{IsBlank, Blanks, Semicolon, After, Reads}
use Rattle.cif_form.specs.Scans.{TextEnd, IsReadAs, Scans, FileScans}
use Rattle.cif_form.specs.Scans.TextEnd.{Whole}
use Rattle.cif_form.specs.Scans.TextRule.{C1}
use Rattle.cif_form.proofs.Scanning.{item}

-- blanks and the end
record IsEnd (text : List ℕ) (items : List Item) : Type 0 where
  blanks : List ℕ
  after : List ℕ
  split : text ≡ blanks ++ (69 ∷ after)
  are_blanks : Blanks blanks
  are_last : Blanks after
  none : items ≡ []

-- whatever blanks stand in front, it reads as these commands
abbrev ReadsBehind : ℕ → List ℕ → List Item → Type 0
ReadsBehind offset text items = (bs : List ℕ) (p : ℕ) → Blanks bs → offset ≡ p + length bs → Reads p (bs ++ text) items

after_of : (c : Command) (blanks bs : List ℕ) → Blanks blanks → Blanks bs
    → ((digit : ℕ) (words : List ℕ) → c ≡ User digit words → blanks ≡ []) → After c (blanks ++ (59 ∷ bs))
after_of c blanks bs h k u = by_command c u
  where
    semicolon : Semicolon (blanks ++ (59 ∷ bs))
    semicolon = (blanks, 59 ∷ bs, refl, h, (59 ∷ [], bs, refl, refl, k))

    by_command : (c : Command) → ((digit : ℕ) (words : List ℕ) → c ≡ User digit words → blanks ≡ [])
        → After c (blanks ++ (59 ∷ bs))
    by_command (Polygon ps) u = semicolon
    by_command (Box a b c d) u = semicolon
    by_command (Round d c) u = semicolon
    by_command (Wire w ps) u = semicolon
    by_command (SetLayer name) u = semicolon
    by_command (Start n a b) u = semicolon
    by_command Finish u = semicolon
    by_command (Delete n) u = semicolon
    by_command (Call n ts) u = semicolon
    by_command (User digit words) u = (59 ∷ [], bs, ap (λ t. t ++ (59 ∷ bs)) (u digit words refl), refl, k)
    by_command (Comment words) u = semicolon

-- behind a semicolon the reading goes on, after blanks where the end is next
record GoesOn (offset : ℕ) (text : List ℕ) (items : List Item) : Type 0 where
  blanks : List ℕ
  rest : List ℕ
  split : text ≡ blanks ++ rest
  are_blanks : Blanks blanks
  reads : (p : ℕ) → p ≡ offset + length blanks → Reads p rest items

goes_on : (offset : ℕ) (text : List ℕ) (items : List Item) → IsEnd text items ⊎ ReadsBehind offset text items
    → GoesOn offset text items
goes_on offset text items (inl e) = record {
  blanks = e.blanks;
  rest = 69 ∷ e.after;
  split = e.split;
  are_blanks = e.are_blanks;
  reads = λ p h. subst (λ is. Reads p (69 ∷ e.after) is) (sym e.none) (Reads.finish refl e.are_last);
}
goes_on offset text items (inr r) = record {
  blanks = [];
  rest = text;
  split = refl;
  are_blanks = All-nil IsBlank;
  reads = λ p h. r [] p (All-nil IsBlank) (omega arith);
}

nothing_reads : (offset : ℕ) (text : List ℕ) (items : List Item) → GoesOn (offset + 1) text items
    → ReadsBehind offset (59 ∷ text) items
nothing_reads offset text items g bs p h e =
    let semi : Semicolon (59 ∷ g.blanks) =
    ([], 59 ∷ g.blanks, refl, All-nil IsBlank, (59 ∷ [], g.blanks, refl, refl, g.are_blanks)) in
    Reads.nothing bs (59 ∷ g.blanks) (ap (λ t. bs ++ (59 ∷ t)) g.split) h semi
    (g.reads (p + (length bs + length (59 ∷ g.blanks))) (omega arith))

command_reads_on : (offset size : ℕ) (text rest : List ℕ) (c : Command) (items : List Item) → IsReadAs text c size rest
    → GoesOn (offset + size) rest items
    → ReadsBehind offset text (item offset c ∷ items)
command_reads_on offset size text rest c items r g bs p h e =
    let semi : List ℕ = r.blanks ++ (59 ∷ g.blanks) in
    let a : r.blanks ++ (59 ∷ rest) ≡ semi ++ g.rest =
    ap (λ t. r.blanks ++ (59 ∷ t)) g.split ∙ sym (append_assoc r.blanks (59 ∷ g.blanks) g.rest) in
    let b : bs ++ text ≡ bs ++ (r.spelled ++ (semi ++ g.rest)) =
    ap (λ t. bs ++ t) (r.split ∙ ap (λ t. r.spelled ++ t) a) in
    let k = r.counted in
    let l : length semi ≡ length r.blanks + length (59 ∷ g.blanks) = length-append r.blanks (59 ∷ g.blanks) in
    let next = g.reads (p + (length bs + (length r.spelled + length semi))) (omega arith) in
    subst (λ o. Reads p (bs ++ text) (item o c ∷ items)) (sym e)
    (Reads.command bs r.spelled semi c b h r.spells
    (after_of c r.blanks g.blanks r.are_blanks g.are_blanks r.user) next)

scan_reads : (inside : Bool) (offset : ℕ) (text : List ℕ) (items : List Item) → Scans inside offset text items Whole
    → IsEnd text items ⊎ ReadsBehind offset text items
scan_reads _ _ _ _ (Scans.blank {inside = i} {offset = o} {rest = rest} {items = is} b h s) =
    elim (scan_reads i (o + 1) rest is s) [
      | inl e ↦ inl (record {
        blanks = b ∷ e.blanks;
        after = e.after;
        split = ap (λ t. b ∷ t) e.split;
        are_blanks = All-cons IsBlank b e.blanks h e.are_blanks;
        are_last = e.are_last;
        none = e.none;
      })
      | inr r ↦ inr (λ bs p k e.
          let l : length (bs ++ b ∷ []) ≡ length bs + 1 = length-append bs (b ∷ []) in
          let q = r (bs ++ b ∷ []) p (All-append IsBlank bs (b ∷ []) k (All-cons IsBlank b [] h (All-nil IsBlank)))
          (omega arith) in
          subst (λ t. Reads p t is) (append_assoc bs (b ∷ []) rest) q)
    ]
scan_reads _ _ _ _ (Scans.nothing {inside = i} {offset = o} {rest = rest} {items = is} s) =
    inr (nothing_reads o rest is (goes_on (o + 1) rest is (scan_reads i (o + 1) rest is s)))
scan_reads _ _ _ _ (Scans.command {within = w} {offset = o} {text = text} {rest = rest} {items = is} c size r n f s) =
    inr (command_reads_on o size text rest c is r (goes_on (o + size) rest is (scan_reads w (o + size) rest is s)))
scan_reads _ _ _ _ (Scans.end {after = after} h) =
    inl (record { blanks = []; after = after; split = refl; are_blanks = All-nil IsBlank; are_last = h; none = refl })

-- A file that is scanned to its end reads as its commands.
pub file_reads : (text : List ℕ) (items : List Item) → FileScans text items Whole → Reads 0 text items
file_reads text items (inl (offset, h, a, b)) = absurd (let e : Whole ≡ TextEnd.Broken C1 offset = b in cc)
file_reads text items (inr (early, s)) = elim (scan_reads false 0 text items s) [
  | inl e ↦ at_end e e.blanks refl
  | inr r ↦ r [] 0 (All-nil IsBlank) refl
]
  where
    at_end : (e : IsEnd text items) (bs : List ℕ) → e.blanks ≡ bs → Reads 0 text items
    at_end e [] h =
        subst (λ is. Reads 0 text is) (sym e.none) (Reads.finish (e.split ∙ ap (λ t. t ++ (69 ∷ e.after)) h) e.are_last)
    at_end e (b ∷ bs) h =
        let k : 0 < length e.blanks = (let l = ap length h in omega arith) in
        absurd (early (length e.blanks)
        (record {
          before = e.blanks;
          after = e.after;
          split = e.split;
          blanks = e.are_blanks;
          late = k;
          counted = refl;
        }))
