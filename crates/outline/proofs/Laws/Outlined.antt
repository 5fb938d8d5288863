-- The outline of a plan file, as the code comes to it. Assumes nothing.
use Rattle.std.specs.Prelude.{◌≡◌, length, get_or, take, drop, Ok, Err, IsErrAnd}
use Rattle.std.proofs.Math.Path.{refl, ap}
use Rattle.std.proofs.Common.{sym, ◌∙◌, length-append}
use mathlib.Core.List.{List, [], ◌∷◌, ◌++◌, map, append_assoc}
use Prim.Native.Nat.{ℕ, zero, suc, ◌+◌, ◌*◌, ◌≤◌, ◌<◌}
use native.Mathlib.Omega.{arith}
use Rattle.std.proofs.Math.Decide.{ℕ_discrete}
use borrow.Author.Tests.{le-leb, lt-leb}
use Rattle.std.proofs.lemmas.List.Edits.{sets-eq}
use Rattle.plan.specs.Limits.{most_cells, most_file, trailer_size}
use Rattle.plan.specs.Lists.{from}
use Rattle.plan.specs.Records.{bare}
use Rattle.plan.specs.declared.Refusal.{Refusal}
use Rattle.planfile_spec.specs.Read.{Reading, plan_of, answer_of}
use Rattle.planfile_spec.proofs.Laws.Answer.{read_answer, err_passes}
use Rattle.plan.proofs.Laws.Answered.{answered_none, answered_some, refused_by, answers_err}
use Rattle.planfile_spec.specs.Format.{trailer_of, records_of}
use Rattle.planfile_spec.specs.Reading.{reading_of}
use Rattle.records.specs.Apart.{row_at, records_in}
use Rattle.listing.specs.Printed.{Bytes, line_feed}
use Rattle.listing.specs.Put.{Put}
use Rattle.listing.proofs.Laws.Put.{then}
use Rattle.content.specs.Content.{Item, item_of, content, letters_of, file_content}
use Rattle.content.specs.Clean.{copy_refusal}
use Rattle.content.proofs.Promised.{read_copied}
use Rattle.content.proofs.Laws.Promised.{copy_passed}
use Rattle.copying.proofs.Laws.Cleaned.{lettered, why, plan, passed_reading, plan_allowance, plan-records, passes, headed}
use Rattle.copying.proofs.Laws.Written.{map_last, map-map, steps_are, steps_ready}
use Rattle.outline_spec.specs.Outline.{level_under, indent, cell_line, cell_lines, first_line, ended, outline_lines, outline}
use Rattle.outline_spec.specs.Understood.{most_byte}
use Rattle.outline_spec.proofs.Laws.Back.{Writable, AllWritable}
use Rattle.outline_spec.proofs.Laws.Accepted.{table_writable, file_ranks}
use Rattle.outline.specs.Outlined.{Outlined, outline_size, outlined_by, outlined_of, outlined_after, size, Outlines}
use Rattle.outline.specs.Steps.{item_at, levels_of, lines_of, Ready, Outlining}
use Rattle.outline.proofs.Laws.Cells.{lines_short}

-- ---- lists that grow at the end
seen-after : List ℕ → List Item → List ℕ
seen-after seen [] = seen
seen-after seen (i ∷ is) = seen-after (seen ++ (level_under seen i.cell.parent ∷ [])) is

seen_last : (seen : List ℕ) (a : List Item) (i : Item) → seen-after seen (a ++ (i ∷ [])) ≡ seen-after seen a ++ (level_under (seen-after seen a) i.cell.parent ∷ [])
unfolding seen-after
seen_last seen [] i = refl
seen_last seen (j ∷ a) i = seen_last (seen ++ (level_under seen j.cell.parent ∷ [])) a i

lines_last : (seen : List ℕ) (a : List Item) (i : Item) → cell_lines seen (a ++ (i ∷ [])) ≡ cell_lines seen a ++ (cell_line (seen-after seen a) i ∷ [])
unfolding seen-after cell_lines
lines_last seen [] i = refl
lines_last seen (j ∷ a) i = ap (λ (r : List Bytes). cell_line seen j ∷ r) (lines_last (seen ++ (level_under seen j.cell.parent ∷ [])) a i)

ended_last : (a : List Bytes) (l : Bytes) → ended (a ++ (l ∷ [])) ≡ ended a ++ (l ++ (line_feed ∷ []))
unfolding ended
ended_last [] l = refl
ended_last (k ∷ a) l = ap (λ r. k ++ (line_feed ∷ r)) (ended_last a l) ∙ sym (append_assoc k (line_feed ∷ ended a) (l ++ (line_feed ∷ [])))

module _ (e : ℕ → Item) where
  seen_are : (c : ℕ) → seen-after [] (map e (from 0 c)) ≡ levels_of e c
  unfolding seen-after levels_of from
  seen_are zero = refl
  seen_are (suc c) = ap (seen-after []) (map_last e c) ∙ seen_last [] (map e (from 0 c)) (e c) ∙ rw (seen_are c) refl

  pub lines_are : (c : ℕ) → ended (cell_lines [] (map e (from 0 c))) ≡ lines_of e c
  unfolding ended cell_lines lines_of from
  lines_are zero = refl
  lines_are (suc c) =
      ap (λ x. ended (cell_lines [] x)) (map_last e c)
      ∙ ap ended (lines_last [] (map e (from 0 c)) (e c))
      ∙ ended_last (cell_lines [] (map e (from 0 c))) (cell_line (seen-after [] (map e (from 0 c))) (e c))
      ∙ rw (lines_are c, seen_are c) refl

  -- each cell can be written
  each_from : (k d : ℕ) → AllWritable k (levels_of e k) (map e (from k d)) → (c : ℕ) → k ≤ c → c < k + d → Writable c (levels_of e c) (e c)
  unfolding from levels_of
  each_from k zero w c h l = absurd (omega arith)
  each_from k (suc d) w c h l =
      let more = each_from (suc k) d w.1 c in
      elim (ℕ_discrete c k) [ yes q ↦ rw q w.0 | no q ↦ more (omega arith) (omega arith) ]

  pub writable_each : (n : ℕ) → AllWritable 0 [] (map e (from 0 n)) → (c : ℕ) → c < n → Writable c (levels_of e c) (e c)
  unfolding levels_of
  writable_each n w c h = each_from 0 n w c (omega arith) (omega arith)

indent-long : (l : ℕ) → length (indent l) ≡ 2 * l
unfolding indent
indent-long zero = refl
indent-long (suc l) = omega (arith, indent-long l)

front_low : (l : ℕ) (b : Bytes) → length (indent l ++ b) ≤ 255 → l ≤ 127
front_low l b h = omega (arith, h, length-append (indent l) b, indent-long l)

level_low : (seen : List ℕ) (i : Item) → length (cell_line seen i) ≤ 255 → level_under seen i.cell.parent ≤ 127
unfolding cell_line
level_low seen i h = front_low (level_under seen i.cell.parent) _ h

-- a text put at the beginning
put_front : (a s b : List ℕ) (k : ℕ) → Put a 0 s b k → length s ≤ length a → (k ≡ length s) × (b ≡ s ++ drop (length s) a)
put_front a s b k p l =
    let z : 0 + length s ≡ length s = omega arith in
    let e : 0 + length s ≤ length a = omega arith in
    (omega (arith, p.place), p.bytes ∙ sets-eq s a 0 e ∙ ap (λ x. s ++ drop x a) z)

-- ---- a file that Read refuses
pub outline-refused : (f out : List ℕ) (e : Refusal) (y : Outlined) → Err e ≡ answer_of (reading_of f most_cells) → IsErrAnd y (λ d. d ≡ e) → Outlining f out out y
unfolding outlined_by outlined_after size
outline-refused f out e y h p =
    let g = h ∙ read_answer f most_cells in
    let a = answers_err (length (outline (file_content f))) (why f) e y (err_passes (why f) (plan_of (plan f)) e g) p in
    let q : y ≡ Err (why f) = a ∙ answered_some (why f) (length (outline (file_content f))) (refused_by (why f) (plan_of (plan f)) e g).1 in
    record { answers = a; output = rw q refl; suffices = rw q (omega arith) }

-- ---- a file that Read accepts
module _ (f : List ℕ) (p : Reading) (e : p ≡ reading_of f most_cells) (z : p.refusal.number ≡ 0) where
  -- its numbers are bytes
  module _ (bytes : (i : ℕ) → get_or f i 0 ≤ most_byte) where
    abbrev letters : List ℕ
    letters = letters_of f

    abbrev al : ℕ
    al = (trailer_of f).allowance

    abbrev item : ℕ → Item
    item = item_at (lettered p) letters

    records_are : records_in (lettered p) ≡ records_of f
    records_are = ap (λ (x : Reading). records_in (lettered x)) (e ∙ passed_reading f (passes f p e z)) ∙ plan-records f (passes f p e z)

    items_are : map (item_of letters) (records_of f) ≡ map item (from 0 p.columns.count)
    unfolding records_in
    items_are = ap (map (item_of letters)) (sym records_are) ∙ map-map (item_of letters) (row_at (lettered p)) (from 0 p.columns.count)

    copied : (copy_refusal (records_of f) letters al most_file).number ≡ 0
    copied = read_copied f most_cells most_file (passes f p e z) (omega arith)

    writable : AllWritable 0 [] (map item (from 0 p.columns.count))
    writable = rw items_are at (table_writable (records_of f) letters al (copy_passed (records_of f) letters al most_file copied).1 (λ a h. file_ranks f bytes a))

    brief_each : (c : ℕ) → c < p.columns.count → length (cell_line (levels_of item c) (item c)) ≤ 255
    brief_each c h = (writable_each item p.columns.count writable c h).short

    low_each : (c : ℕ) → c < p.columns.count → level_under (levels_of item c) (row_at (lettered p) c).parent ≤ 127
    unfolding item_of bare
    low_each c h = level_low (levels_of item c) (item c) (brief_each c h)

    ready : Ready (lettered p) letters
    ready =
        let s : (copy_refusal (records_in (lettered p)) letters al most_file).number ≡ 0 = rw records_are copied in
        let t = (steps_ready (lettered p) letters al most_file (ap (λ (x : Refusal). x.number) (steps_are (lettered p) letters al most_file) ∙ s)).0 in
        record { few = t.few; low = low_each; brief = brief_each; short = t.short; within = t.within }

    text-is : (first_line al ++ (line_feed ∷ [])) ++ lines_of item p.columns.count ≡ outline (file_content f)
    unfolding outline outline_lines file_content content ended
    text-is =
        append_assoc (first_line al) (line_feed ∷ []) (lines_of item p.columns.count)
        ∙ rw (items_are, ended, lines_are item p.columns.count) refl

    allowance_is : p.allowance ≡ al
    allowance_is = ap (λ (x : Reading). x.allowance) (e ∙ passed_reading f (passes f p e z)) ∙ plan_allowance f

    written_is : (out out' : List ℕ) (k : ℕ) → Put out 0 (outline (file_content f)) out' k → length (outline (file_content f)) ≤ outline_size → outline_size ≤ length out → Outlining f out out' (Ok k)
    unfolding outlined_by outlined_after size
    written_is out out' k q m h =
        let (a, b) = put_front out (outline (file_content f)) out' k q (omega arith) in
        record { answers = rw a (sym (answered_none (why f) (length (outline (file_content f))) (passes f p e z))); output = rw (a, b) refl; suffices = omega (arith, a) }

    -- as the code has the label bytes
    pub outline_ready : (letters' : List ℕ) → letters' ≡ take (trailer_of f).begin f → Ready (lettered p) letters'
    unfolding letters_of
    outline_ready letters' q = rw q ready

    pub outline-written : (letters' out mid out' : List ℕ) (a i k : ℕ) → letters' ≡ take (trailer_of f).begin f → a ≡ p.allowance → outline_size ≤ length out → Put out 0 (first_line a ++ (line_feed ∷ [])) mid i → i ≤ 31
        → Put mid i (lines_of (item_at (lettered p) letters') p.columns.count) out' k → Outlining f out out' (Ok k)
    unfolding letters_of
    outline-written letters' out mid out' a i k q r h one low two =
        let first : Put out 0 (first_line al ++ (line_feed ∷ [])) mid i = rw (r ∙ allowance_is) at one in
        let rest : Put mid i (lines_of item p.columns.count) out' k = rw q at two in
        let whole : Put out 0 (outline (file_content f)) out' k = rw text-is at (then first rest) in
        let n = lines_short (lettered p) letters ready p.columns.count (omega arith) in
        let few : p.columns.count ≤ most_cells = ready.few in
        written_is out out' k whole (omega (arith, whole.place, rest.place, n, few, low)) h

  -- the parts of a file that is read
  pub outline-long : trailer_size ≤ length f
  outline-long = omega (arith, (headed f (passes f p e z)).long)

  pub outline-begin : (trailer_of f).begin ≤ length f
  outline-begin = omega (arith, (headed f (passes f p e z)).full.exact)

-- ---- question 1
pub outline_short : (f out : List ℕ) → length out < outline_size → Outlines f out out (Err (record { number = 1; cell = 0 }))
unfolding outlined_of outlined_after size
outline_short f out h = record { answers = rw (lt-leb outline_size (length out) h) refl; output = refl; suffices = omega arith }

pub outline-roomy : (f out out' : List ℕ) (d : Outlined) → outline_size ≤ length out → Outlining f out out' d → Outlines f out out' d
unfolding outlined_of
outline-roomy f out out' d h r = record { answers = r.answers ∙ rw (le-leb outline_size (length out) h) refl; output = r.output; suffices = r.suffices }
