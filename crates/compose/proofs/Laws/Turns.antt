-- One line more: what is still to be read stays the same. Assumes nothing.
use Rattle.std.specs.Prelude.{◌≡◌, ℕ, zero, suc, ◌+◌, ◌-◌, ◌≤◌, ◌<◌, length, get_or, take, drop, set, Result, Ok, Err, IsErrAnd}
use Rattle.std.proofs.Math.Path.{refl, ap}
use Rattle.std.proofs.Common.{sym, ◌∙◌, length-drop, length-take-le, take-suc-set}
use mathlib.Core.List.{List, [], ◌∷◌, ◌++◌, map, append-nil}
use native.Mathlib.Omega.{arith}
use Rattle.std.proofs.Math.Decide.{ℕ_discrete}
use Rattle.std.proofs.Math.Numerals.{add-one}
use Rattle.std.proofs.Math.ListN.{length-set}
use Rattle.std.proofs.Math.Seq.{get_or-set_same, get_or-set_other}
use Rattle.plan.specs.Limits.{most_cells}
use Rattle.plan.specs.Lists.{from}
use Rattle.plan.specs.Records.{bare}
use Rattle.plan.specs.declared.Record.{Record}
use Rattle.plan.specs.declared.Lettered.{Lettered}
use Rattle.listing.specs.Printed.{Bytes}
use Rattle.listing.specs.Put.{Put}
use Rattle.records.specs.Apart.{row_at, records_in}
use Rattle.content.specs.Content.{Item, item_of}
use Rattle.content.specs.Clean.{labels, record_of, entries}
use Rattle.copying.proofs.Laws.Cleaned.{rows_same}
use Rattle.copying.proofs.Laws.Written.{map_last, labels_append, entries_last}
use Rattle.outline_spec.specs.declared.Fault.{Fault}
use Rattle.outline_spec.specs.declared.Fault.TheVariants.{ManyCells}
use Rattle.outline_spec.specs.Understood.{cell, faulty, line, lines, with_cell, cells}
use Rattle.compose_line.specs.Steps.{item_in, told_in, Tells}
use Rattle.compose.specs.Steps.{line_long, past_line, record_from, note}
use Rattle.compose.specs.Prefixed.{prefixed}
use Rattle.compose.specs.Meaning.{count, items_in, so_far}
use Rattle.compose.specs.State.{rest_of, rest_in, Long, Well, Tight, Turned}
use Rattle.compose.proofs.Laws.Lines.{past_drop, past_on}
use Rattle.compose.proofs.Laws.Loop.{prefixed_last, prefixed-fault, cells_many, cells-wrong, cells-more, lines_from, base_more, text-kept, text_new}
use Rattle.compose_line.specs.declared.Told.{Told}
use Rattle.compose.specs.declared.State.{State}

-- ---- a table with one more
module _ (l : Lettered) (c : ℕ) (r : Record) (g : Long l) (h : c < 256) where
  row_new : row_at (note l c r) c ≡ r
  unfolding note
  row_new =
      rw (
        get_or-set_same l.columns.parent c r.parent 0 (omega (arith, g.parents)),
        get_or-set_same l.columns.kind c r.kind 0 (omega (arith, g.kinds)),
        get_or-set_same l.columns.width c r.width 0 (omega (arith, g.widths)),
        get_or-set_same l.columns.depth c r.depth 0 (omega (arith, g.depths)),
        get_or-set_same l.columns.rank c r.rank 0 (omega (arith, g.ranks)),
        get_or-set_same l.label_length c r.label_length 0 (omega (arith, g.lengths)),
        get_or-set_same l.label_start c r.label_start 0 (omega (arith, g.starts)),
      ) refl

  row_old : (j : ℕ) → j < c → row_at (note l c r) j ≡ row_at l j
  unfolding note
  row_old j k =
      let n : ¬ (j ≡ c) = λ z. omega arith in
      rw (
        get_or-set_other l.columns.parent c j r.parent 0 n,
        get_or-set_other l.columns.kind c j r.kind 0 n,
        get_or-set_other l.columns.width c j r.width 0 n,
        get_or-set_other l.columns.depth c j r.depth 0 n,
        get_or-set_other l.columns.rank c j r.rank 0 n,
        get_or-set_other l.label_length c j r.label_length 0 n,
        get_or-set_other l.label_start c j r.label_start 0 n,
      ) refl

  note-count : (note l c r).columns.count ≡ suc c
  unfolding note
  note-count = add-one c

  pub note-records : l.columns.count ≡ c → records_in (note l c r) ≡ records_in l ++ (r ∷ [])
  unfolding records_in
  note-records e =
      ap (λ n. map (row_at (note l c r)) (from 0 n)) note-count
      ∙ map_last (row_at (note l c r)) c
      ∙ ap (λ x. x ++ (row_at (note l c r) c ∷ [])) (rows_same (row_at (note l c r)) (row_at l) 0 c (λ j p q. row_old j (omega arith)))
      ∙ ap (λ x. map (row_at l) (from 0 c) ++ (x ∷ [])) row_new
      ∙ ap (λ n. map (row_at l) (from 0 n) ++ (r ∷ [])) (sym e)

-- ---- the cells so far, with one label more
items_kept : (base label : List ℕ) (l : Lettered) (k d : ℕ) → ((j : ℕ) → k ≤ j → j < k + d → get_or l.label_start j 0 + get_or l.label_length j 0 ≤ length base)
    → map (item_of (base ++ label)) (map (row_at l) (from k d)) ≡ map (item_of base) (map (row_at l) (from k d))
unfolding from item_of
items_kept base label l k zero h = refl
items_kept base label l k (suc d) h =
    cc (text-kept base label (row_at l k) (h k (omega arith) (omega arith)), items_kept base label l (suc k) d (λ j p q. h j (omega arith) (omega arith)))

map-append : {A B : Type 0} (f : A → B) (a b : List A) → map f (a ++ b) ≡ map f a ++ map f b
map-append f [] b = refl
map-append {A} {B} f (x ∷ a) b = ap (λ (r : List B). f x ∷ r) (map-append f a b)

-- ---- what is left
module _ (text letters : List ℕ) (s : State) (w : Well s) (h : s.at < length text) where
  abbrev b : Bytes
  b = take (line_long (drop s.at text)) (drop s.at text)

  abbrev others : List Bytes
  others = lines (drop (s.at + line_long (drop s.at text) + 1) text)

  left_is : rest_of text letters s ≡ prefixed (so_far letters s) (cells (count s) (take (count s) s.levels) (b ∷ others))
  unfolding rest_of
  left_is = ap (λ x. prefixed (so_far letters s) (cells (count s) (take (count s) s.levels) x)) (lines_from text s.at h)

  stops : (f : Fault) → cells (count s) (take (count s) s.levels) (b ∷ others) ≡ faulty (count s + 2) f → (r : Result State Fault) → IsErrAnd r (λ d. d ≡ f) → Turned text letters s letters r
  unfolding rest_in
  stops f e (Ok t) p = absurd p
  stops f e (Err g) p =
      record {
        same = ap (faulty (count s + 2)) p ∙ sym (left_is ∙ ap (prefixed (so_far letters s)) e ∙ prefixed-fault (so_far letters s) (count s + 2) f);
        well = tt;
        tight = λ x. tt;
        on = tt;
      }

  -- more than 256 cells
  pub turn_many : most_cells ≤ count s → Turned text letters s letters (Err ManyCells)
  turn_many k = stops ManyCells (cells_many (count s) (take (count s) s.levels) b others k) (Err ManyCells) refl

  module _ (k : count s < most_cells) (y : Bytes) (e : y ≡ b) (seen : List ℕ) (se : seen ≡ take (count s) s.levels) (v : length s.levels ≡ 256) where
    seen-long : length seen ≡ count s
    seen-long = ap length se ∙ length-take-le (count s) s.levels (omega (arith, v, k))

    line-is : (x : Result Told Fault) → Tells y (line (length seen) seen y) x → line (count s) (take (count s) s.levels) b ≡ told_in y x
    line-is x d =
        ap (line (count s) (take (count s) s.levels)) (sym e) ∙ ap (λ z. line (count s) z y) (sym se) ∙ ap (λ n. line n seen y) (sym seen-long) ∙ sym d.says

    -- a line that is not understood
    pub turn_wrong : (f : Fault) → Tells y (line (length seen) seen y) (Err f) → (r : Result State Fault) → IsErrAnd r (λ d. d ≡ f) → Turned text letters s letters r
    unfolding told_in
    turn_wrong f d = stops f (cells-wrong (count s) (take (count s) s.levels) b others k f (line-is (Err f) d))

    -- a cell more
    module _ (t : Told) (d : Tells y (line (length seen) seen y) (Ok t)) (g : Long s.table) (room : 65536 ≤ length letters) (letters' : List ℕ) (used : ℕ) (put : Put letters s.used (take (t.end - t.start) (drop t.start y)) letters' used) where
      abbrev label : Bytes
      label = take (t.end - t.start) (drop t.start y)

      abbrev base : List ℕ
      base = take s.used letters

      abbrev rec : Record
      rec = record_from t s.used

      label-long : length label ≡ t.end - t.start
      label-long = length-take-le (t.end - t.start) (drop t.start y) (rw (length-drop t.start y) (omega (arith, d.upward, d.inside)))

      used_low : s.used ≤ 65280
      used_low = omega (arith, w.brief, k)

      base-long : length base ≡ s.used
      base-long = length-take-le s.used letters (omega (arith, used_low, room))

      base-is : take used letters' ≡ base ++ label
      base-is =
          ap (λ n. take n letters') put.place ∙ ap (take (s.used + length label)) put.bytes
          ∙ base_more letters label s.used (omega (arith, used_low, room, label-long, d.brief))

      item-is : item_of (base ++ label) rec ≡ item_in y t
      unfolding item_of bare record_from item_in
      item-is = rw (text_new base label rec (sym base-long) (sym label-long)) refl

      records_are : records_in (note s.table (count s) rec) ≡ records_in s.table ++ (rec ∷ [])
      records_are = note-records s.table (count s) rec g k refl

      kept : map (item_of (base ++ label)) (records_in s.table) ≡ map (item_of base) (records_in s.table)
      unfolding records_in
      kept = items_kept base label s.table 0 (count s) (λ j p q. omega (arith, w.within j (omega arith), base-long))

      abbrev next : ℕ → State
      next i = record { at = i; used = used; levels = set s.levels (count s) t.level; table = note s.table (count s) rec }

      so_far-is : items_in letters' used (note s.table (count s) rec) ≡ so_far letters s ++ (item_in y t ∷ [])
      unfolding items_in
      so_far-is =
          ap (λ x. map (item_of x) (records_in (note s.table (count s) rec))) base-is
          ∙ ap (map (item_of (base ++ label))) records_are
          ∙ map-append (item_of (base ++ label)) (records_in s.table) (rec ∷ [])
          ∙ ap (λ x. x ++ (item_of (base ++ label) rec ∷ [])) kept
          ∙ ap (λ x. map (item_of base) (records_in s.table) ++ (x ∷ [])) item-is

      seen-is : take (suc (count s)) (set s.levels (count s) t.level) ≡ take (count s) s.levels ++ (t.level ∷ [])
      seen-is = take-suc-set s.levels (count s) t.level (omega (arith, v, k))

      next-count : (note s.table (count s) rec).columns.count ≡ suc (count s)
      next-count = note-count s.table (count s) rec g k

      told-cell : told_in y (Ok t) ≡ cell t.level (item_in y t)
      unfolding told_in
      told-cell = refl

      rest-next : (end : ℕ) → end ≡ s.at + line_long (drop s.at text) → rest_of text letters' (next (past_line (length text) end)) ≡ rest_of text letters s
      unfolding rest_of
      rest-next end q =
          ap (λ x. prefixed x (cells (count (next 0)) (take (count (next 0)) (next 0).levels) (lines (drop (past_line (length text) end) text)))) so_far-is
          ∙ ap (λ x. prefixed (so_far letters s ++ (item_in y t ∷ [])) (cells (count (next 0)) (take (count (next 0)) (next 0).levels) (lines x))) (past_drop text end)
          ∙ ap (λ n. prefixed (so_far letters s ++ (item_in y t ∷ [])) (cells n (take n (next 0).levels) (lines (drop (end + 1) text)))) next-count
          ∙ ap (λ x. prefixed (so_far letters s ++ (item_in y t ∷ [])) (cells (suc (count s)) x (lines (drop (end + 1) text)))) seen-is
          ∙ prefixed_last (so_far letters s) (item_in y t) _
          ∙ ap (λ i. prefixed (so_far letters s) (with_cell (item_in y t) (cells (suc (count s)) (take (count s) s.levels ++ (t.level ∷ [])) (lines (drop (i + 1) text))))) q
          ∙ ap (prefixed (so_far letters s)) (sym (cells-more (count s) (take (count s) s.levels) b others k t.level (item_in y t) (line-is (Ok t) d ∙ told-cell)))
          ∙ sym left_is

      within-next : (j : ℕ) → j < count (next 0) → get_or (next 0).table.label_start j 0 + get_or (next 0).table.label_length j 0 ≤ used
      unfolding note record_from
      within-next j l = elim (ℕ_discrete j (count s)) [
        | yes q ↦ rw (q, get_or-set_same s.table.label_start (count s) s.used 0 (omega (arith, g.starts, k)), get_or-set_same s.table.label_length (count s) (t.end - t.start) 0 (omega (arith, g.lengths, k))) (omega (arith, put.place, label-long))
        | no n ↦ rw (get_or-set_other s.table.label_start (count s) j s.used 0 n, get_or-set_other s.table.label_length (count s) j (t.end - t.start) 0 n) (omega (arith, put.place, w.within j (omega (arith, next-count))))
      ]

      long-next : Long (note s.table (count s) rec)
      unfolding note
      long-next =
          record {
            parents = length-set s.table.columns.parent (count s) _ ∙ g.parents;
            kinds = length-set s.table.columns.kind (count s) _ ∙ g.kinds;
            widths = length-set s.table.columns.width (count s) _ ∙ g.widths;
            depths = length-set s.table.columns.depth (count s) _ ∙ g.depths;
            ranks = length-set s.table.columns.rank (count s) _ ∙ g.ranks;
            lengths = length-set s.table.label_length (count s) _ ∙ g.lengths;
            starts = length-set s.table.label_start (count s) _ ∙ g.starts;
          }

      -- its record is that of the clean copy, its label behind those so far
      module _ (x : Tight letters s.used s.table) where
        abbrev before : List Item
        before = so_far letters s

        begins-at : 0 + length (labels before) ≡ s.used
        begins-at = let n : length (labels before) ≡ length base = ap length (sym x.bytes) in omega (arith, n, base-long)

        record_is : record_of (item_in y t) (0 + length (labels before)) ≡ rec
        unfolding record_of item_in record_from
        record_is = rw (begins-at, label-long) refl

        rows_next : records_in (note s.table (count s) rec) ≡ entries 0 (before ++ (item_in y t ∷ []))
        rows_next =
            records_are
            ∙ ap (λ r. r ++ (rec ∷ [])) x.rows
            ∙ ap (λ r. entries 0 before ++ (r ∷ [])) (sym record_is)
            ∙ sym (entries_last 0 before (item_in y t))

        one_label : labels (item_in y t ∷ []) ≡ label
        unfolding labels item_in
        one_label = append-nil label

        bytes_next : take used letters' ≡ labels (before ++ (item_in y t ∷ []))
        bytes_next =
            base-is
            ∙ ap (λ b. b ++ label) x.bytes
            ∙ ap (λ b. labels before ++ b) (sym one_label)
            ∙ sym (labels_append before (item_in y t ∷ []))

        tight-next : Tight letters' used (note s.table (count s) rec)
        tight-next = record { rows = rows_next ∙ ap (entries 0) (sym so_far-is); bytes = bytes_next ∙ ap labels (sym so_far-is) }

      pub turn_more : (end : ℕ) → end ≡ s.at + line_long (drop s.at text) → (r : State) → r ≡ next (past_line (length text) end) → Turned text letters s letters' (Ok r)
      unfolding rest_in
      turn_more end q r e =
          rw e
          (record {
            same = rest-next end q;
            well = record { few = omega (arith, next-count, k); brief = omega (arith, next-count, put.place, label-long, d.brief, w.brief); within = within-next; long = long-next; seen = length-set s.levels (count s) t.level ∙ v };
            tight = tight-next;
            on = past_on (length text) end s.at (omega (arith, q)) h;
          })
