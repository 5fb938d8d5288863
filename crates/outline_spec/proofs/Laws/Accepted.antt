-- What Read accepts, or the writer of clean copies, can be written as an outline. Assumes nothing.
use Rattle.std.specs.Prelude.{◌≡◌, refl, List, [], ◌∷◌, ◌++◌, map, leb, length, get_or}
use Rattle.std.proofs.Common.{sym, ◌∙◌, zero-add, eqb→eq, length-append, lt-ltb, le-ltb}
use Rattle.std.proofs.Math.Path.{ap}
use Prim.Native.Nat.{ℕ, zero, suc, ◌+◌, ◌≤◌, ◌<◌}
use native.Mathlib.Omega.{arith}
use Rattle.std.proofs.Math.Decide.{ℕ_discrete}
use Rattle.std.proofs.Math.Dec.{T, leb→le}
use Rattle.std.proofs.Math.ListN.{length-map, get_or-append}
use Rattle.std.proofs.lemmas.List.{get_or_at}
use Rattle.plan.specs.Limits.{most_cells, most_allowance, most_level, most_width, no_parent}
use Rattle.plan.specs.Lists.{from}
use Rattle.plan.specs.Plan.{Cell, Table, blank, parent, rank, path, level, Sound}
use Rattle.plan.specs.Questions.{lower, asked, refusal, to_fill, nothing}
use Rattle.plan.specs.Questions as calls
use Rattle.plan.specs.Steps.{tree_refusal, children_refusal, levels_refusal}
use Rattle.plan.specs.Records.{bare, cells_of}
use Rattle.plan.proofs.Laws.Paths.{path_zero, path_suc}
use Rattle.plan.proofs.Laws.Questions.{both-none, asked_yes, each_none}
use Rattle.plan.proofs.Laws.Steps.{lower-read, sized-wide, sized-deep}
use Rattle.plan.specs.declared.Record.{Record}
use Rattle.plan.specs.declared.Refusal.{Refusal}
use Rattle.plan.specs.declared.forms.Form.{Form}
use Rattle.plan.specs.declared.forms.Form.TheVariants.{Old, Wide}
use Rattle.content.specs.Content.{Item, item_of, content, letters_of, file_content}
use Rattle.content.proofs.Laws.Fine.{Fine, AllFine}
use Rattle.content.proofs.Laws.Asked.{copy_steps}
use Rattle.content.proofs.Laws.Promised.{cells_same, answers, file-written}
use Rattle.planfile_spec.specs.Fields.{number_at, rank_place}
use Rattle.planfile_spec.specs.Format.{trailer_of, form, place, record_at, entry, records_of, file_given}
use Rattle.planfile_spec.specs.FileSteps.{file_refusal}
use Rattle.planfile_spec.proofs.Laws.File.{read_refusal}
use Rattle.outline_spec.specs.Outline.{nearest, last_less, level_under, unless, outline}
use Rattle.outline_spec.specs.Understood.{plan, most_byte, understood}
use Rattle.outline_spec.proofs.Laws.Parts.{Most}
use Rattle.outline_spec.proofs.Laws.Back.{unless-most, unless-same, Writable, AllWritable, understood-back}
use Rattle.outline_spec.proofs.Laws.Short.{line_short}

-- ---- levels, from the table and line by line
path-length : (t : Table) → Sound t → (a : ℕ) → length (path t a) ≡ suc (level t a)
unfolding level
path-length t s zero = ap length (path_zero t s)
path-length t s (suc m) = ap length (path_suc t s m)

-- the levels of the cells before c
pub record Levels (t : Table) (c : ℕ) (seen : List ℕ) : Type 0 where
  pub count : length seen ≡ c
  pub each : (p : ℕ) → p < c → get_or seen p 0 ≡ level t p

lower_root : (p : ℕ) → T (lower 0 p) → p ≡ no_parent
unfolding lower
lower_root p h = eqb→eq p no_parent h

-- the level under a cell's parent is the cell's
under-level : (t : Table) (c : ℕ) (seen : List ℕ) → Sound t → Levels t c seen → T (lower c (parent t c)) → level_under seen (parent t c) ≡ level t c
unfolding level_under level
under-level t zero seen s v low = let z : length seen ≡ 0 = v.count in rw (z, le-ltb (parent t 0) 0 (omega arith)) refl
under-level t (suc m) seen s v low =
    let p = lower-read (suc m) (parent t (suc m)) (omega arith) low in
    let n : length seen ≡ suc m = v.count in
    rw (n, lt-ltb (parent t (suc m)) (suc m) p, v.each (parent t (suc m)) p) (sym (path-length t s (parent t (suc m))))

levels_none : (t : Table) → Levels t 0 []
levels_none t = record { count = refl; each = λ p h. absurd (omega arith) }

levels_more : (t : Table) (c l : ℕ) (seen : List ℕ) → Levels t c seen → l ≡ level t c → Levels t (suc c) (seen ++ (l ∷ []))
levels_more t c l seen v e =
    record {
      count = rw (length-append seen (l ∷ [])) (omega (arith, v.count));
      each = λ p h. elim (ℕ_discrete p c) [
        | yes q ↦ rw q (get_or_at seen l [] 0 c v.count ∙ e)
        | no q ↦ let k : p < c = omega arith in get_or-append seen (l ∷ []) 0 p (omega (arith, v.count)) ∙ v.each p k
      ];
    }

-- the root's parent is none, which is the nearest of no lines; any other is at most 255
under_small : (c : ℕ) (seen : List ℕ) (p l : ℕ) → length seen ≡ c → c < most_cells → T (lower c p) → Most most_byte (unless (nearest l seen) p)
unfolding nearest last_less
under_small zero [] p l n h low = unless-same most_byte no_parent p (lower_root p low)
under_small zero (m ∷ ms) p l n h low = absurd (omega arith)
under_small (suc c) seen p l n h low = unless-most most_byte (nearest l seen) p (let q = lower-read (suc c) p (omega arith) low in omega arith)

abbrev cell_of : Item → Cell
cell_of i = i.cell

-- a cell
writable_at : (t : Table) (c : ℕ) (seen : List ℕ) (i : Item) → Sound t → c < most_cells → Levels t c seen → get_or t c blank ≡ i.cell → Fine c i → level t c ≤ most_level → i.cell.rank ≤ most_byte
    → Writable c seen i × (level_under seen i.cell.parent ≡ level t c)
writable_at t c seen i s n v e f l q =
    let p : parent t c ≡ i.cell.parent = unfold parent in ap (λ (x : Cell). x.parent) e in
    let low : T (lower c i.cell.parent) = f.cell_fine.is_lower in
    let here : level_under seen i.cell.parent ≡ level t c = rw p at (under-level t c seen s v (rw p low)) in
    let w = sized-wide most_width i.cell.width i.cell.depth f.cell_fine.is_sized in
    let d = sized-deep most_width i.cell.width i.cell.depth f.cell_fine.is_sized in
    let u = under_small c seen i.cell.parent (level_under seen i.cell.parent) v.count n low in (
      record {
        is_lower = low;
        is_known = f.cell_fine.is_known;
        width_small = omega (arith, w.1);
        depth_small = omega (arith, d.1);
        rank_small = q;
        under_small = u;
        printable = f.printable;
        short = line_short seen i (omega (arith, here, l)) w.1 d.1 q u f.short;
      },
      here,
    )

rank_is : (t : Table) (c : ℕ) (x : Cell) → get_or t c blank ≡ x → rank t c ≡ x.rank
unfolding rank
rank_is t c x e = ap (λ (y : Cell). y.rank) e

-- the cells from c on
pub writable_all : (t : Table) (c : ℕ) (seen : List ℕ) (is : List Item) → Sound t → Levels t c seen → c + length is ≤ most_cells → ((j : ℕ) → j < length is → get_or t (c + j) blank ≡ get_or (map cell_of is) j blank)
    → ((a : ℕ) → a < c + length is → (level t a ≤ most_level) × (rank t a ≤ most_byte)) → AllFine c is → AllWritable c seen is
writable_all t c seen [] s v n same low f = tt
writable_all t c seen (i ∷ is) s v n same low f =
    let z : c + 0 ≡ c = omega arith in
    let e : get_or t c blank ≡ i.cell = rw z at (same 0 (omega arith)) in
    let (l, q) = low c (omega arith) in
    let r : rank t c ≡ i.cell.rank = rank_is t c i.cell e in
    let q' : i.cell.rank ≤ most_byte = omega (arith, r, q) in
    let (w, here) = writable_at t c seen i s (omega arith) v e f.0 l q' in (
      w,
      writable_all t (suc c) (seen ++ (level_under seen i.cell.parent ∷ [])) is s (levels_more t c _ seen v here) (omega arith)
          (λ j h. let y : c + suc j ≡ suc c + j = omega arith in rw y at (same (suc j) (omega arith)))
          (λ a h. low a (omega arith)) f.1,
    )

-- ---- of a table with its label bytes
fine-lower : (c : ℕ) (is : List Item) → AllFine c is → (j : ℕ) → j < length is → T (lower (c + j) (parent (map cell_of is) j))
unfolding parent
fine-lower c [] f j h = absurd (omega arith)
fine-lower c (i ∷ is) f zero h = let z : c + 0 ≡ c = omega arith in rw z f.0.cell_fine.is_lower
fine-lower c (i ∷ is) f (suc j) h = let z : c + suc j ≡ suc c + j = omega arith in rw z (fine-lower (suc c) is f.1 j (omega arith))

module _ (rs : List Record) (letters : List ℕ) (al : ℕ) (e : (copy_steps rs letters al).number ≡ 0) where
  abbrev is : List Item
  is = map (item_of letters) rs

  abbrev t : Table
  t = cells_of rs

  items-count : length is ≡ length rs
  items-count = length-map rs (item_of letters)

  table-count : length t ≡ length rs
  unfolding cells_of
  table-count = length-map rs bare

  sound : Sound t
  sound c one h =
      let a : T (lower (0 + c) (parent (map cell_of is) c)) = fine-lower 0 is (answers rs letters al e).fine c (omega (arith, items-count, table-count)) in
      lower-read c (parent t c) one (rw (cells_same letters rs, zero-add) at a)

  levels_low : (a : ℕ) → a < length t → level t a ≤ most_level
  unfolding tree_refusal levels_refusal
  levels_low a h =
      let (x, y) = both-none (children_refusal t) _ (answers rs letters al e).tree in
      let (l, r) = both-none (levels_refusal t) _ y in
      leb→le (level t a) most_level (asked_yes 11 _ a (each_none (λ c. asked 12 (leb (level t c) most_level) c) (length t) l a h))

  module _ (q : (a : ℕ) → a < length rs → rank (cells_of rs) a ≤ most_byte) where
    pub table_writable : AllWritable 0 [] (map (item_of letters) rs)
    table_writable =
        let k = answers rs letters al e in
        writable_all t 0 [] is sound (levels_none t) (omega (arith, items-count, k.count.1)) (λ j h. rw (cells_same letters rs, zero-add) refl)
        (λ a h. (levels_low a (omega (arith, items-count, table-count)), q a (omega (arith, items-count)))) k.fine

    pub table-back : understood (outline (content rs letters al)) ≡ plan (content rs letters al)
    unfolding content
    table-back =
        let k = answers rs letters al e in
        understood-back (record { items = is; allowance = al }) (leb→le al most_allowance k.last) (omega (arith, items-count, k.count.1)) table_writable

-- ---- of a file, whose numbers are bytes
module _ (f : List ℕ) (bytes : (i : ℕ) → get_or f i 0 ≤ most_byte) where
  rank-byte : (form : Form) (at : ℕ) → (record_at form f at).rank ≤ most_byte
  unfolding record_at number_at rank_place
  rank-byte Old at = omega arith
  rank-byte Wide at = bytes (at + 7)

  ranks_byte : (k d a : ℕ) → rank (cells_of (map (entry f) (from k d))) a ≤ most_byte
  unfolding rank cells_of bare from blank entry
  ranks_byte k zero a = omega arith
  ranks_byte k (suc d) zero = rank-byte (form f) (place f k)
  ranks_byte k (suc d) (suc a) = ranks_byte (suc k) d a

  pub file_ranks : (a : ℕ) → rank (cells_of (records_of f)) a ≤ most_byte
  unfolding records_of
  file_ranks a = ranks_byte 0 (trailer_of f).count a

  pub file-back : (table : ℕ) → (refusal calls.read (file_given f (to_fill table ∷ []) nothing)).number ≡ 0 → understood (outline (file_content f)) ≡ plan (file_content f)
  unfolding file_content
  file-back table z =
      let (a, b) = both-none (asked 1 (leb most_cells table) 0) (file_refusal f) (ap (λ (x : Refusal). x.number) (sym (read_refusal f table)) ∙ z) in
      table-back (records_of f) (letters_of f) (trailer_of f).allowance (file-written f b) (λ a h. file_ranks a)
