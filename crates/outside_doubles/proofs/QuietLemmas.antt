-- What a log of files says, after more bytes and after one more entry.
use Rattle.std.proofs.Common.{◌≡◌, ℕ, ◌+◌, ◌-◌, ◌≤◌, ◌<◌, get_or, List, [], ◌∷◌, ◌++◌, length, take, drop, refl, sym}
use Rattle.std.proofs.Common.{ap, ◌∙◌, arith, Option, Some, None, Bool, true, false, ◌&&◌, cond, if◌then◌else◌, fold}
use Rattle.std.proofs.Common.{nat_le}
use Rattle.std.proofs.lemmas.Bool.{and_parts}
use Rattle.std.proofs.lemmas.Bool.Decides.{nat_tests}
use Rattle.std.proofs.lemmas.List.{drop-append-le, take-append-le, length-drop, length-append}
use Rattle.std.proofs.lemmas.List.Sums.{fold-append, fold_more}
use Rattle.std.proofs.lemmas.List.Folds.{list_all-append}
use Rattle.std.proofs.lemmas.Slice.Eq.{bytes_eq-Decides}
use Rattle.std.proofs.lemmas.Map.Text.{is_eq-slice_cmp}
use Rattle.std.proofs.Math.Seq.{drop-append_seam, take-length}
use Rattle.std.specs.Str.{bytes_eq}
use Rattle.std.specs.Option.{option_map}
use Rattle.std.specs.FinMap.{get, insert, empty}
use Rattle.outside.specs.Outside.{Files, WhereTold, bytes_of}
use Rattle.outside_doubles.specs.Quiet.{told_after}
use Rattle.outside_doubles.specs.QuietLog.{part_of, is_part, are_parts, files_behind, files_in}
use Rattle.outside_doubles.specs.declared.quiet_log.Part.{Part}
use Rattle.outside_doubles.specs.declared.quiet_log.Entry.{Entry}
use Rattle.outside.proofs.FilesLemmas.{get_set, get_set_same}

-- what is told is a step further
pub told_step : {X : Type 0} (telling : Bool) (step : X → X) (old new : X) → new ≡ step old
    → (if telling then Some new else None) ≡ option_map step (if telling then Some old else None)
told_step true step old new is = ap Some is
told_step false step old new is = refl

pub where_told : {X : Type 0} (R : X → X → Type 0) (telling : Bool) (old new : X) → R old new
    → WhereTold R (if telling then Some old else None) (if telling then Some new else None)
where_told R true old new is = is
where_told R false old new is = tt

pub part_bounds : (count : ℕ) (p : Part) → is_part count p ≡ true → (p.start ≤ p.end) × (p.end ≤ count)
part_bounds count p h = (grind (arith, nat_tests), grind (arith, nat_tests))

pub part_stands : (count : ℕ) (p : Part) → p.start ≤ p.end → p.end ≤ count → is_part count p ≡ true
part_stands count p ordered within = grind (arith, nat_tests)

-- a part of the first bytes stays where more come
pub part_kept : (bytes more : List ℕ) (p : Part) → is_part (length bytes) p ≡ true
    → part_of (bytes ++ more) p ≡ part_of bytes p
part_kept bytes more p h =
    let bounds = part_bounds (length bytes) p h in
    let inside : p.start ≤ length bytes = omega (arith, bounds) in
    ap (take (p.end - p.start)) (drop-append-le p.start bytes more inside)
    ∙ take-append-le (p.end - p.start) (drop p.start bytes) more (omega (arith, bounds, length-drop p.start bytes))

-- the part that was put at the end
pub part_put : (bytes text : List ℕ) (p : Part) → p.start ≡ length bytes → p.end ≡ length (bytes ++ text)
    → part_of (bytes ++ text) p ≡ text
part_put bytes text p start end =
    let size : p.end - p.start ≡ length text = omega (arith, start, end, length-append bytes text) in
    ap (λ k. take (p.end - p.start) (drop k (bytes ++ text))) start
    ∙ ap (take (p.end - p.start)) (drop-append_seam bytes text)
    ∙ ap (λ k. take k text) size ∙ take-length text

pub part_empty : (bytes : List ℕ) (p : Part) → p.start ≡ p.end → part_of bytes p ≡ []
part_empty bytes p same = ap (λ k. take k (drop p.start bytes)) (let none : p.end - p.start ≡ 0 = omega arith in none)

parts_of : (count : ℕ) (e : Entry) → (is_part count e.name && is_part count e.text) ≡ true
    → (is_part count e.name ≡ true) × (is_part count e.text ≡ true)
parts_of count e h = and_parts (is_part count e.name) (is_part count e.text) h

-- parts of some bytes are parts of more
part_more : (n m : ℕ) (p : Part) → n ≤ m → is_part n p ≡ true → is_part m p ≡ true
part_more n m p le h = let bounds = part_bounds n p h in part_stands m p bounds.0 (omega (arith, bounds))

pub parts_more : (n m : ℕ) (es : List Entry) → n ≤ m → are_parts n es ≡ true → are_parts m es ≡ true
parts_more n m [] le h = refl
parts_more n m (e ∷ es) le h =
    let here = and_parts (is_part n e.name && is_part n e.text) (are_parts n es) h in
    let both = parts_of n e here.0 in
    ap (λ b. b && (is_part m e.text) && are_parts m es) (part_more n m e.name le both.0)
    ∙ ap (λ b. b && are_parts m es) (part_more n m e.text le both.1) ∙ parts_more n m es le here.1

-- one more entry of parts
pub parts_put : (n m : ℕ) (es : List Entry) (e : Entry) → n ≤ m → are_parts n es ≡ true → is_part m e.name ≡ true
    → is_part m e.text ≡ true → are_parts m (es ++ e ∷ []) ≡ true
parts_put n m es e le h name text =
    list_all-append (λ e. is_part m e.name && is_part m e.text) es (e ∷ [])
    ∙ ap (λ b. b && ((is_part m e.name && is_part m e.text) && true)) (parts_more n m es le h)
    ∙ ap (λ b. (b && is_part m e.text) && true) name ∙ ap (λ b. b && true) text

behind_kept : (bytes more : List ℕ) (files : Files) (e : Entry) → is_part (length bytes) e.name ≡ true
    → is_part (length bytes) e.text ≡ true
    → files_behind (bytes ++ more) files e ≡ files_behind bytes files e
behind_kept bytes more files e name text =
    let step : List ℕ → List ℕ → Files = λ n t. insert files n ((if e.sets then [] else bytes_of files n) ++ t) in
    ap (λ n. step n (part_of (bytes ++ more) e.text)) (part_kept bytes more e.name name)
    ∙ ap (step (part_of bytes e.name)) (part_kept bytes more e.text text)

files_kept : (bytes more : List ℕ) (files : Files) (es : List Entry) → are_parts (length bytes) es ≡ true
    → fold (files_behind (bytes ++ more)) files es ≡ fold (files_behind bytes) files es
files_kept bytes more files [] h = refl
files_kept bytes more files (e ∷ es) h =
    let count = length bytes in
    let here = and_parts (is_part count e.name && is_part count e.text) (are_parts count es) h in
    let both = parts_of count e here.0 in
    ap (λ m. fold (files_behind (bytes ++ more)) m es) (behind_kept bytes more files e both.0 both.1)
    ∙ files_kept bytes more (files_behind bytes files e) es here.1

-- the files behind one more entry, and more bytes
pub files_put : (bytes more : List ℕ) (es : List Entry) (e : Entry) → are_parts (length bytes) es ≡ true
    → files_in (bytes ++ more) (es ++ e ∷ []) ≡ files_behind (bytes ++ more) (files_in bytes es) e
files_put bytes more es e h =
    fold-append (files_behind (bytes ++ more)) empty es (e ∷ [])
    ∙ ap (λ m. files_behind (bytes ++ more) m e) (files_kept bytes more empty es h)

-- the entry's file, and another one
pub behind_named : (bytes : List ℕ) (files : Files) (e : Entry) (name : List ℕ) → name ≡ part_of bytes e.name
    → get (files_behind bytes files e) name ≡ Some
    ((if e.sets then [] else bytes_of files name) ++ part_of bytes e.text)
behind_named bytes files e name is =
    ap (λ n. get (insert files n ((if e.sets then [] else bytes_of files n) ++ part_of bytes e.text)) name) (sym is)
    ∙ get_set_same files name _

pub behind_other : (bytes : List ℕ) (files : Files) (e : Entry) (name : List ℕ)
    → bytes_eq name (part_of bytes e.name) ≡ false
    → get (files_behind bytes files e) name ≡ get files name
behind_other bytes files e name other =
    get_set files (part_of bytes e.name) _ name
    ∙ ap (λ b. cond b (Some ((if e.sets then [] else bytes_of files (part_of bytes e.name)) ++ part_of bytes e.text))
    (get files name))
    (is_eq-slice_cmp name (part_of bytes e.name) ∙ other)

pub same_name : (xs ys : List ℕ) → bytes_eq xs ys ≡ true → xs ≡ ys
same_name xs ys h = (bytes_eq-Decides xs ys).0 h

-- one more entry, where its name and its text are told
pub entry_put : (bytes more bytes' : List ℕ) (log log' : List Entry) (e : Entry) (name text : List ℕ)
    → are_parts (length bytes) log ≡ true
    → bytes' ≡ bytes ++ more → log' ≡ log ++ e ∷ [] → part_of bytes' e.name ≡ name → part_of bytes' e.text ≡ text
    → files_in bytes' log' ≡ insert (files_in bytes log) name
    ((if e.sets then [] else bytes_of (files_in bytes log) name) ++ text)
entry_put bytes more bytes' log log' e name text parts grown logged named texted =
    let files = files_in bytes log in
    let step : List ℕ → List ℕ → Files = λ n t. insert files n ((if e.sets then [] else bytes_of files n) ++ t) in
    ap (files_in bytes') logged
    ∙ ap (λ b. files_in b (log ++ e ∷ [])) grown
    ∙ files_put bytes more log e parts
    ∙ ap (λ b. files_behind b files e) (sym grown)
    ∙ ap (λ n. step n (part_of bytes' e.text)) named
    ∙ ap (step name) texted

pub entry_parts : (bytes more bytes' : List ℕ) (log log' : List Entry) (e : Entry) → are_parts (length bytes) log ≡ true
    → bytes' ≡ bytes ++ more → log' ≡ log ++ e ∷ [] → is_part (length bytes') e.name ≡ true
    → is_part (length bytes') e.text ≡ true
    → are_parts (length bytes') log' ≡ true
entry_parts bytes more bytes' log log' e parts grown logged name text =
    let longer : length bytes ≤ length bytes' = omega (arith, ap length grown, length-append bytes more) in
    ap (are_parts (length bytes')) logged ∙ parts_put (length bytes) (length bytes') log e longer parts name text

-- the part that was put is one, and stays one
pub put_is_part : (bytes text bytes' : List ℕ) (p : Part) → bytes' ≡ bytes ++ text → p.start ≡ length bytes
    → p.end ≡ length bytes'
    → is_part (length bytes') p ≡ true
put_is_part bytes text bytes' p grown start end =
    part_stands (length bytes') p (omega (arith, ap length grown, length-append bytes text)) (omega arith)

pub stays_part : (bytes more bytes' : List ℕ) (p : Part) → bytes' ≡ bytes ++ more → is_part (length bytes) p ≡ true
    → is_part (length bytes') p ≡ true
stays_part bytes more bytes' p grown h =
    part_more (length bytes) (length bytes') p (omega (arith, ap length grown, length-append bytes more)) h

pub put_part : (bytes text bytes' : List ℕ) (p : Part) → bytes' ≡ bytes ++ text → p.start ≡ length bytes
    → p.end ≡ length bytes' → part_of bytes' p ≡ text
put_part bytes text bytes' p grown start end =
    ap (λ b. part_of b p) grown ∙ part_put bytes text p start (end ∙ ap length grown)

pub kept_part : (bytes more bytes' : List ℕ) (p : Part) → bytes' ≡ bytes ++ more → is_part (length bytes) p ≡ true
    → part_of bytes' p ≡ part_of bytes p
kept_part bytes more bytes' p grown h = ap (λ b. part_of b p) grown ∙ part_kept bytes more p h

-- what is told behind a call that fits
pub told_fits : {X : Type 0} (cost room : ℕ) (step : X → X) (told : Option X) → nat_le cost room ≡ true
    → told_after cost room step told ≡ option_map step told
told_fits cost room step told fits = ap (λ b. if b then option_map step told else None) fits

-- one more entry in a walk over a log, and a name that isn't its name
pub get_other : (bytes name : List ℕ) (log : List Entry) (i : ℕ) (d : Entry) → i < length log
    → bytes_eq name (part_of bytes (get_or log i d).name) ≡ false
    → get (files_in bytes (take (i + 1) log)) name ≡ get (files_in bytes (take i log)) name
get_other bytes name log i d lt other =
    ap (λ m. get m name) (fold_more (files_behind bytes) empty log i d lt)
    ∙ behind_other bytes (files_in bytes (take i log)) (get_or log i d) name other

-- and a name that is
pub get_named : (bytes name : List ℕ) (log : List Entry) (i : ℕ) (d : Entry) → i < length log
    → name ≡ part_of bytes (get_or log i d).name
    → get (files_in bytes (take (i + 1) log)) name
    ≡ Some ((if (get_or log i d).sets then [] else bytes_of (files_in bytes (take i log)) name) ++ part_of bytes
    (get_or log i d).text)
get_named bytes name log i d lt named =
    ap (λ m. get m name) (fold_more (files_behind bytes) empty log i d lt)
    ∙ behind_named bytes (files_in bytes (take i log)) (get_or log i d) name named

-- a file that is made by an entry whose name was put at the end
pub file_made : (bytes name bytes' : List ℕ) (log log' : List Entry) (p t : Part)
    → are_parts (length bytes) log ≡ true → bytes' ≡ bytes ++ name
    → log' ≡ log ++ record { name = p; text = t; sets = true } ∷ [] → p.start ≡ length bytes → p.end ≡ length bytes'
    → t.start ≡ t.end
    → files_in bytes' log' ≡ insert (files_in bytes log) name []
file_made bytes name bytes' log log' p t parts grown logged start end empty =
    entry_put bytes name bytes' log log' (record { name = p; text = t; sets = true }) name [] parts grown logged
    (put_part bytes name bytes' p grown start end) (part_empty bytes' t empty)

pub told_same : (t t' : Bool) (bytes bytes' : List ℕ) (log log' : List Entry) → t ≡ t' → bytes ≡ bytes' → log ≡ log'
    → (if t then Some (files_in bytes log) else None) ≡ (if t' then Some (files_in bytes' log') else None)
told_same t t' bytes bytes' log log' telling same logged =
    ap (λ u. if u then Some (files_in bytes log) else None) telling
    ∙ ap (λ b. if t' then Some (files_in b log) else None) same
    ∙ ap (λ l. if t' then Some (files_in bytes' l) else None) logged
